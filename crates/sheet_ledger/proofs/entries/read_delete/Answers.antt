-- Where a part is missing there is no entry; else the text is of these parts.
use Rattle.std.specs.Prelude.{[], ◌∷◌}
use Rattle.std.proofs.Common.{sym}
use Rattle.sheet_ledger.specs.Slots.{OfUuid}
use Rattle.sheet_ledger.proofs.Slots.{no_delete, no_front_cut, no_front_uncut, none_first, none_last, none_rest}
use Rattle.sheet_ledger.proofs.Read.{in_front, read_delete}
use Rattle.sheet_ledger.proofs.entries.read_delete.Goals as goal

pub returns-in_default : goal.returns-in_default
returns-in_default c = sym (no_delete c.args.text.now (none_first OfUuid OfUuid ([]) c.args.text.now
    (no_front_uncut OfUuid c.args.text.now c.in_default.ensures.none)))

pub returns-in_default-last_uuid : goal.returns-in_default-last_uuid
returns-in_default-last_uuid c = sym (no_delete c.args.text.now
    (none_first OfUuid OfUuid ([]) c.args.text.now (no_front_cut OfUuid c.args.text.now c.in-Some.front.now
    c.in-Some.rest.now c.in-Some.ensures.some c.in-Some.ensures.lacks c.in_default-last_uuid.ensures.none)))

pub returns-in-None : goal.returns-in-None
returns-in-None c = sym (no_delete c.args.text.now (none_rest OfUuid OfUuid ([]) c.args.text.now c.in-Some.front.now
    c.in-Some.rest.now c.in-Some.ensures.some c.in-Some.ensures.lacks
    (none_last OfUuid c.in-Some.rest.now c.in-None.ensures.none)))

pub returns-in-Some-last_uuid-2 : goal.returns-in-Some-last_uuid-2
returns-in-Some-last_uuid-2 c = read_delete c.in-Some-last_uuid.package c.in-Some-last_uuid-2.identity c.args.text.now
    c.in-Some.rest.now (in_front c.args.text.now c.in-Some.front.now c.in-Some.rest.now _ c.in-Some.ensures.some
    c.in-Some-last_uuid.ensures.some) c.in-Some-last_uuid-2.ensures.some c.in-Some-last_uuid.ensures.fit
    c.in-Some-last_uuid-2.ensures.fit
