-- Where a part is missing there is no entry; else the text is of these parts.
use Rattle.std.specs.Prelude.{[], ◌∷◌, refl}
use Rattle.std.proofs.Common.{sym, ap, ◌∙◌, Some}
use Rattle.sheet_types.specs.Texts.{mapping_word}
use Rattle.sheet_ledger.specs.Slots.{OfMapping, OfUuid}
use Rattle.sheet_ledger.proofs.Slots.{fills_lacks, no_front_cut, no_front_uncut, no_link, none_first, none_last}
use Rattle.sheet_ledger.proofs.Slots.{none_rest}
use Rattle.sheet_ledger.proofs.Read.{in_front, read_link}
use Rattle.sheet_ledger.proofs.entries.read_link.Goals as goal

pub returns-in_default : goal.returns-in_default
returns-in_default c = sym (no_link c.args.comes c.args.text.now
    (none_first OfMapping OfUuid (OfUuid ∷ OfUuid ∷ []) c.args.text.now c.in_default.ensures.none))

pub returns-in_default-cut : goal.returns-in_default-cut
returns-in_default-cut c = sym (no_link c.args.comes c.args.text.now
    (none_rest OfMapping OfUuid (OfUuid ∷ OfUuid ∷ []) c.args.text.now (mapping_word c.in-Some.mapping)
    c.in-Some.rest.now c.in-Some.ensures.some (fills_lacks OfMapping (mapping_word c.in-Some.mapping)
    (c.in-Some.mapping, refl)) (none_first OfUuid OfUuid (OfUuid ∷ []) c.in-Some.rest.now
    (no_front_uncut OfUuid c.in-Some.rest.now c.in_default-cut.ensures.none))))

pub returns-in_default-last_uuid : goal.returns-in_default-last_uuid
returns-in_default-last_uuid c = sym (no_link c.args.comes c.args.text.now
    (none_rest OfMapping OfUuid (OfUuid ∷ OfUuid ∷ []) c.args.text.now (mapping_word c.in-Some.mapping)
    c.in-Some.rest.now c.in-Some.ensures.some (fills_lacks OfMapping (mapping_word c.in-Some.mapping)
    (c.in-Some.mapping, refl)) (none_first OfUuid OfUuid (OfUuid ∷ []) c.in-Some.rest.now
    (no_front_cut OfUuid c.in-Some.rest.now c.in-Some-cut.front.now c.in-Some-cut.rest.now c.in-Some-cut.ensures.some
    c.in-Some-cut.ensures.lacks c.in_default-last_uuid.ensures.none))))

pub returns-in_default-cut-2 : goal.returns-in_default-cut-2
returns-in_default-cut-2 c = sym (no_link c.args.comes c.args.text.now
    (none_rest OfMapping OfUuid (OfUuid ∷ OfUuid ∷ []) c.args.text.now (mapping_word c.in-Some.mapping)
    c.in-Some.rest.now c.in-Some.ensures.some (fills_lacks OfMapping (mapping_word c.in-Some.mapping)
    (c.in-Some.mapping, refl)) (none_rest OfUuid OfUuid (OfUuid ∷ []) c.in-Some.rest.now c.in-Some-cut.front.now
    c.in-Some-cut.rest.now c.in-Some-cut.ensures.some c.in-Some-cut.ensures.lacks
    (none_first OfUuid OfUuid ([]) c.in-Some-cut.rest.now (no_front_uncut OfUuid c.in-Some-cut.rest.now
    c.in_default-cut-2.ensures.none)))))

pub returns-in_default-last_uuid-2 : goal.returns-in_default-last_uuid-2
returns-in_default-last_uuid-2 c = sym (no_link c.args.comes c.args.text.now
    (none_rest OfMapping OfUuid (OfUuid ∷ OfUuid ∷ []) c.args.text.now (mapping_word c.in-Some.mapping)
    c.in-Some.rest.now c.in-Some.ensures.some (fills_lacks OfMapping (mapping_word c.in-Some.mapping)
    (c.in-Some.mapping, refl)) (none_rest OfUuid OfUuid (OfUuid ∷ []) c.in-Some.rest.now c.in-Some-cut.front.now
    c.in-Some-cut.rest.now c.in-Some-cut.ensures.some c.in-Some-cut.ensures.lacks
    (none_first OfUuid OfUuid ([]) c.in-Some-cut.rest.now (no_front_cut OfUuid c.in-Some-cut.rest.now
    c.in-Some-cut-2.front.now c.in-Some-cut-2.rest.now c.in-Some-cut-2.ensures.some c.in-Some-cut-2.ensures.lacks
    c.in_default-last_uuid-2.ensures.none)))))

pub returns-in-None : goal.returns-in-None
returns-in-None c = sym (no_link c.args.comes c.args.text.now
    (none_rest OfMapping OfUuid (OfUuid ∷ OfUuid ∷ []) c.args.text.now (mapping_word c.in-Some.mapping)
    c.in-Some.rest.now c.in-Some.ensures.some (fills_lacks OfMapping (mapping_word c.in-Some.mapping)
    (c.in-Some.mapping, refl)) (none_rest OfUuid OfUuid (OfUuid ∷ []) c.in-Some.rest.now c.in-Some-cut.front.now
    c.in-Some-cut.rest.now c.in-Some-cut.ensures.some c.in-Some-cut.ensures.lacks
    (none_rest OfUuid OfUuid ([]) c.in-Some-cut.rest.now c.in-Some-cut-2.front.now c.in-Some-cut-2.rest.now
    c.in-Some-cut-2.ensures.some c.in-Some-cut-2.ensures.lacks
    (none_last OfUuid c.in-Some-cut-2.rest.now c.in-None.ensures.none)))))

pub returns-in-Some-last_uuid-3 : goal.returns-in-Some-last_uuid-3
returns-in-Some-last_uuid-3 c = ap Some c.link_entry.ensures
    ∙ read_link c.args.comes c.in-Some-last_uuid.package c.in-Some.mapping c.in-Some-last_uuid-2.base
    c.in-Some-last_uuid-3.other c.args.text.now c.in-Some.rest.now c.in-Some-cut.rest.now c.in-Some-cut-2.rest.now
    c.in-Some.ensures.some (in_front c.in-Some.rest.now c.in-Some-cut.front.now c.in-Some-cut.rest.now _
    c.in-Some-cut.ensures.some c.in-Some-last_uuid.ensures.some)
    (in_front c.in-Some-cut.rest.now c.in-Some-cut-2.front.now c.in-Some-cut-2.rest.now _ c.in-Some-cut-2.ensures.some
    c.in-Some-last_uuid-2.ensures.some) c.in-Some-last_uuid-3.ensures.some c.in-Some-last_uuid.ensures.fit
    c.in-Some-last_uuid-2.ensures.fit c.in-Some-last_uuid-3.ensures.fit
