-- Where a part is missing there is no entry; else the text is of these parts.
use Rattle.std.specs.Prelude.{[], ◌∷◌}
use Rattle.std.proofs.Common.{sym, rules, FitsSigned, w64}
use Rattle.std.proofs.lemmas.Int.{to_z-of_z}
use Rattle.sheet_ledger.specs.Slots.{OfNumber, OfUuid}
use Rattle.sheet_ledger.proofs.Slots.{no_front_cut, no_front_uncut, no_merge, none_first, none_last, none_rest}
use Rattle.sheet_ledger.proofs.Read.{in_front, read_merge}
use Rattle.sheet_ledger.proofs.entries.read_merge.Goals as goal

pub returns-in_default : goal.returns-in_default
returns-in_default c = sym (no_merge c.args.text.now (none_first OfUuid OfUuid (OfNumber ∷ []) c.args.text.now
    (no_front_uncut OfUuid c.args.text.now c.in_default.ensures.none)))

pub returns-in_default-last_uuid : goal.returns-in_default-last_uuid
returns-in_default-last_uuid c = sym (no_merge c.args.text.now
    (none_first OfUuid OfUuid (OfNumber ∷ []) c.args.text.now
    (no_front_cut OfUuid c.args.text.now c.in-Some.front.now c.in-Some.rest.now c.in-Some.ensures.some
    c.in-Some.ensures.lacks c.in_default-last_uuid.ensures.none)))

pub returns-in_default-cut : goal.returns-in_default-cut
returns-in_default-cut c = sym (no_merge c.args.text.now (none_rest OfUuid OfUuid (OfNumber ∷ []) c.args.text.now
    c.in-Some.front.now c.in-Some.rest.now c.in-Some.ensures.some c.in-Some.ensures.lacks
    (none_first OfUuid OfNumber ([]) c.in-Some.rest.now (no_front_uncut OfUuid c.in-Some.rest.now
    c.in_default-cut.ensures.none))))

pub returns-in_default-last_uuid-2 : goal.returns-in_default-last_uuid-2
returns-in_default-last_uuid-2 c = sym (no_merge c.args.text.now
    (none_rest OfUuid OfUuid (OfNumber ∷ []) c.args.text.now c.in-Some.front.now c.in-Some.rest.now
    c.in-Some.ensures.some c.in-Some.ensures.lacks (none_first OfUuid OfNumber ([]) c.in-Some.rest.now
    (no_front_cut OfUuid c.in-Some.rest.now c.in-Some-cut.front.now c.in-Some-cut.rest.now c.in-Some-cut.ensures.some
    c.in-Some-cut.ensures.lacks c.in_default-last_uuid-2.ensures.none))))

pub returns-in-None : goal.returns-in-None
returns-in-None c = sym (no_merge c.args.text.now (none_rest OfUuid OfUuid (OfNumber ∷ []) c.args.text.now
    c.in-Some.front.now c.in-Some.rest.now c.in-Some.ensures.some c.in-Some.ensures.lacks
    (none_rest OfUuid OfNumber ([]) c.in-Some.rest.now c.in-Some-cut.front.now c.in-Some-cut.rest.now
    c.in-Some-cut.ensures.some c.in-Some-cut.ensures.lacks (none_last OfNumber c.in-Some-cut.rest.now
    c.in-None.ensures.none))))

pub returns-in-Some-last_number : goal.returns-in-Some-last_number
returns-in-Some-last_number c = let f : FitsSigned w64 c.in-Some-last_number.ticket =
    search rules in simp (to_z-of_z, f) (read_merge c.in-Some-last_uuid.child c.in-Some-last_uuid-2.into
    c.in-Some-last_number.ticket c.args.text.now c.in-Some.rest.now c.in-Some-cut.rest.now
    (in_front c.args.text.now c.in-Some.front.now c.in-Some.rest.now _ c.in-Some.ensures.some
    c.in-Some-last_uuid.ensures.some) (in_front c.in-Some.rest.now c.in-Some-cut.front.now c.in-Some-cut.rest.now _
    c.in-Some-cut.ensures.some c.in-Some-last_uuid-2.ensures.some) c.in-Some-last_number.ensures.some
    c.in-Some-last_uuid.ensures.fit c.in-Some-last_uuid-2.ensures.fit c.in-Some-last_number.ensures.fit)
