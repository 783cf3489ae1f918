-- Where a part is missing there is no entry; else the text is of these parts.
use Rattle.std.specs.Prelude.{[], ◌∷◌, refl}
use Rattle.std.proofs.Common.{sym}
use Rattle.sheet_types.specs.Texts.{mode_word}
use Rattle.sheet_ledger.specs.Slots.{OfMode, OfNumber, OfUuid}
use Rattle.sheet_ledger.proofs.Slots.{fills_lacks, no_front_cut, no_front_uncut, no_split, none_first, none_rest}
use Rattle.sheet_ledger.proofs.Read.{in_front, read_split}
use Rattle.sheet_ledger.proofs.entries.read_split.Goals as goal

pub returns-in_default : goal.returns-in_default
returns-in_default c = sym (no_split c.args.text.now (none_first OfUuid OfUuid
    (OfMode ∷ OfNumber ∷ OfNumber ∷ OfNumber ∷ OfNumber ∷ OfNumber ∷ []) c.args.text.now
    (no_front_uncut OfUuid c.args.text.now c.in_default.ensures.none)))

pub returns-in_default-last_uuid : goal.returns-in_default-last_uuid
returns-in_default-last_uuid c = sym (no_split c.args.text.now
    (none_first OfUuid OfUuid (OfMode ∷ OfNumber ∷ OfNumber ∷ OfNumber ∷ OfNumber ∷ OfNumber ∷ [])
    c.args.text.now (no_front_cut OfUuid c.args.text.now c.in-Some.front.now c.in-Some.rest.now c.in-Some.ensures.some
    c.in-Some.ensures.lacks c.in_default-last_uuid.ensures.none)))

pub returns-in_default-cut : goal.returns-in_default-cut
returns-in_default-cut c = sym (no_split c.args.text.now (none_rest OfUuid OfUuid
    (OfMode ∷ OfNumber ∷ OfNumber ∷ OfNumber ∷ OfNumber ∷ OfNumber ∷ []) c.args.text.now
    c.in-Some.front.now c.in-Some.rest.now c.in-Some.ensures.some c.in-Some.ensures.lacks
    (none_first OfUuid OfMode (OfNumber ∷ OfNumber ∷ OfNumber ∷ OfNumber ∷ OfNumber ∷ []) c.in-Some.rest.now
    (no_front_uncut OfUuid c.in-Some.rest.now c.in_default-cut.ensures.none))))

pub returns-in_default-last_uuid-2 : goal.returns-in_default-last_uuid-2
returns-in_default-last_uuid-2 c = sym (no_split c.args.text.now
    (none_rest OfUuid OfUuid (OfMode ∷ OfNumber ∷ OfNumber ∷ OfNumber ∷ OfNumber ∷ OfNumber ∷ [])
    c.args.text.now c.in-Some.front.now c.in-Some.rest.now c.in-Some.ensures.some c.in-Some.ensures.lacks
    (none_first OfUuid OfMode (OfNumber ∷ OfNumber ∷ OfNumber ∷ OfNumber ∷ OfNumber ∷ []) c.in-Some.rest.now
    (no_front_cut OfUuid c.in-Some.rest.now c.in-Some-cut.front.now c.in-Some-cut.rest.now c.in-Some-cut.ensures.some
    c.in-Some-cut.ensures.lacks c.in_default-last_uuid-2.ensures.none))))

pub returns-in_default-next_mode : goal.returns-in_default-next_mode
returns-in_default-next_mode c = sym (no_split c.args.text.now
    (none_rest OfUuid OfUuid (OfMode ∷ OfNumber ∷ OfNumber ∷ OfNumber ∷ OfNumber ∷ OfNumber ∷ [])
    c.args.text.now c.in-Some.front.now c.in-Some.rest.now c.in-Some.ensures.some c.in-Some.ensures.lacks
    (none_rest OfUuid OfMode (OfNumber ∷ OfNumber ∷ OfNumber ∷ OfNumber ∷ OfNumber ∷ []) c.in-Some.rest.now
    c.in-Some-cut.front.now c.in-Some-cut.rest.now c.in-Some-cut.ensures.some c.in-Some-cut.ensures.lacks
    (none_first OfMode OfNumber (OfNumber ∷ OfNumber ∷ OfNumber ∷ OfNumber ∷ []) c.in-Some-cut.rest.now
    c.in_default-next_mode.ensures.none))))

pub returns-in-None : goal.returns-in-None
returns-in-None c = sym (no_split c.args.text.now (none_rest OfUuid OfUuid
    (OfMode ∷ OfNumber ∷ OfNumber ∷ OfNumber ∷ OfNumber ∷ OfNumber ∷ []) c.args.text.now
    c.in-Some.front.now c.in-Some.rest.now c.in-Some.ensures.some c.in-Some.ensures.lacks
    (none_rest OfUuid OfMode (OfNumber ∷ OfNumber ∷ OfNumber ∷ OfNumber ∷ OfNumber ∷ []) c.in-Some.rest.now
    c.in-Some-cut.front.now c.in-Some-cut.rest.now c.in-Some-cut.ensures.some c.in-Some-cut.ensures.lacks
    (none_rest OfMode OfNumber (OfNumber ∷ OfNumber ∷ OfNumber ∷ OfNumber ∷ []) c.in-Some-cut.rest.now
    (mode_word c.in-Some-next_mode.mode) c.in-Some-next_mode.rest.now c.in-Some-next_mode.ensures.some
    (fills_lacks OfMode (mode_word c.in-Some-next_mode.mode) (c.in-Some-next_mode.mode, refl))
    (c.in-None.ensures.none)))))

pub returns-in-Some-read_rect : goal.returns-in-Some-read_rect
returns-in-Some-read_rect c = read_split c.in-Some-last_uuid.package c.in-Some-last_uuid-2.child
    c.in-Some-next_mode.mode c.in-Some-read_rect.rect c.args.text.now c.in-Some.rest.now c.in-Some-cut.rest.now
    c.in-Some-next_mode.rest.now (in_front c.args.text.now c.in-Some.front.now c.in-Some.rest.now _
    c.in-Some.ensures.some c.in-Some-last_uuid.ensures.some)
    (in_front c.in-Some.rest.now c.in-Some-cut.front.now c.in-Some-cut.rest.now _ c.in-Some-cut.ensures.some
    c.in-Some-last_uuid-2.ensures.some) c.in-Some-next_mode.ensures.some c.in-Some-read_rect.ensures.some
    c.in-Some-last_uuid.ensures.fit c.in-Some-last_uuid-2.ensures.fit c.in-Some-read_rect.ensures.fit
