-- Where a part is missing there is no entry; else the text is of these parts.
use Rattle.std.specs.Prelude.{[], ◌∷◌, refl, decimal}
use Rattle.std.proofs.Common.{sym}
use Rattle.sheet_types.specs.Texts.{kind_word}
use Rattle.sheet_ledger.specs.Slots.{OfDigest, OfKind, OfSize, OfUuid}
use Rattle.sheet_ledger.proofs.Slots.{fills_lacks, no_add, no_front_cut, no_front_uncut, none_first, none_last}
use Rattle.sheet_ledger.proofs.Slots.{none_rest}
use Rattle.sheet_ledger.proofs.Read.{in_front, read_add}
use Rattle.sheet_ledger.proofs.entries.read_add.Goals as goal

pub returns-in_default : goal.returns-in_default
returns-in_default c = sym (no_add c.args.text.now (none_first OfUuid OfUuid (OfKind ∷ OfSize ∷ OfDigest ∷ [])
    c.args.text.now (no_front_uncut OfUuid c.args.text.now c.in_default.ensures.none)))

pub returns-in_default-last_uuid : goal.returns-in_default-last_uuid
returns-in_default-last_uuid c = sym (no_add c.args.text.now
    (none_first OfUuid OfUuid (OfKind ∷ OfSize ∷ OfDigest ∷ []) c.args.text.now
    (no_front_cut OfUuid c.args.text.now c.in-Some.front.now c.in-Some.rest.now c.in-Some.ensures.some
    c.in-Some.ensures.lacks c.in_default-last_uuid.ensures.none)))

pub returns-in_default-cut : goal.returns-in_default-cut
returns-in_default-cut c = sym (no_add c.args.text.now (none_rest OfUuid OfUuid
    (OfKind ∷ OfSize ∷ OfDigest ∷ []) c.args.text.now c.in-Some.front.now c.in-Some.rest.now
    c.in-Some.ensures.some c.in-Some.ensures.lacks (none_first OfUuid OfKind (OfSize ∷ OfDigest ∷ [])
    c.in-Some.rest.now (no_front_uncut OfUuid c.in-Some.rest.now c.in_default-cut.ensures.none))))

pub returns-in_default-last_uuid-2 : goal.returns-in_default-last_uuid-2
returns-in_default-last_uuid-2 c = sym (no_add c.args.text.now
    (none_rest OfUuid OfUuid (OfKind ∷ OfSize ∷ OfDigest ∷ []) c.args.text.now c.in-Some.front.now
    c.in-Some.rest.now c.in-Some.ensures.some c.in-Some.ensures.lacks
    (none_first OfUuid OfKind (OfSize ∷ OfDigest ∷ []) c.in-Some.rest.now
    (no_front_cut OfUuid c.in-Some.rest.now c.in-Some-cut.front.now c.in-Some-cut.rest.now c.in-Some-cut.ensures.some
    c.in-Some-cut.ensures.lacks c.in_default-last_uuid-2.ensures.none))))

pub returns-in_default-next_kind : goal.returns-in_default-next_kind
returns-in_default-next_kind c = sym (no_add c.args.text.now
    (none_rest OfUuid OfUuid (OfKind ∷ OfSize ∷ OfDigest ∷ []) c.args.text.now c.in-Some.front.now
    c.in-Some.rest.now c.in-Some.ensures.some c.in-Some.ensures.lacks
    (none_rest OfUuid OfKind (OfSize ∷ OfDigest ∷ []) c.in-Some.rest.now c.in-Some-cut.front.now
    c.in-Some-cut.rest.now c.in-Some-cut.ensures.some c.in-Some-cut.ensures.lacks
    (none_first OfKind OfSize (OfDigest ∷ []) c.in-Some-cut.rest.now c.in_default-next_kind.ensures.none))))

pub returns-in_default-next_size : goal.returns-in_default-next_size
returns-in_default-next_size c = sym (no_add c.args.text.now
    (none_rest OfUuid OfUuid (OfKind ∷ OfSize ∷ OfDigest ∷ []) c.args.text.now c.in-Some.front.now
    c.in-Some.rest.now c.in-Some.ensures.some c.in-Some.ensures.lacks
    (none_rest OfUuid OfKind (OfSize ∷ OfDigest ∷ []) c.in-Some.rest.now c.in-Some-cut.front.now
    c.in-Some-cut.rest.now c.in-Some-cut.ensures.some c.in-Some-cut.ensures.lacks
    (none_rest OfKind OfSize (OfDigest ∷ []) c.in-Some-cut.rest.now (kind_word c.in-Some-next_kind.kind)
    c.in-Some-next_kind.rest.now c.in-Some-next_kind.ensures.some
    (fills_lacks OfKind (kind_word c.in-Some-next_kind.kind)
    (c.in-Some-next_kind.kind, c.in-Some-next_kind.ensures.fit, refl))
    (none_first OfSize OfDigest ([]) c.in-Some-next_kind.rest.now c.in_default-next_size.ensures.none)))))

pub returns-in-None : goal.returns-in-None
returns-in-None c = sym (no_add c.args.text.now (none_rest OfUuid OfUuid (OfKind ∷ OfSize ∷ OfDigest ∷ [])
    c.args.text.now c.in-Some.front.now c.in-Some.rest.now c.in-Some.ensures.some c.in-Some.ensures.lacks
    (none_rest OfUuid OfKind (OfSize ∷ OfDigest ∷ []) c.in-Some.rest.now c.in-Some-cut.front.now
    c.in-Some-cut.rest.now c.in-Some-cut.ensures.some c.in-Some-cut.ensures.lacks
    (none_rest OfKind OfSize (OfDigest ∷ []) c.in-Some-cut.rest.now (kind_word c.in-Some-next_kind.kind)
    c.in-Some-next_kind.rest.now c.in-Some-next_kind.ensures.some
    (fills_lacks OfKind (kind_word c.in-Some-next_kind.kind)
    (c.in-Some-next_kind.kind, c.in-Some-next_kind.ensures.fit, refl))
    (none_rest OfSize OfDigest ([]) c.in-Some-next_kind.rest.now (decimal c.in-Some-next_size.size)
    c.in-Some-next_size.rest.now c.in-Some-next_size.ensures.some
    (fills_lacks OfSize (decimal c.in-Some-next_size.size) (
      c.in-Some-next_size.size,
      c.in-Some-next_size.ensures.fit,
      refl,
    )) (none_last OfDigest c.in-Some-next_size.rest.now c.in-None.ensures.none))))))

pub returns-in-Some-last_digest : goal.returns-in-Some-last_digest
returns-in-Some-last_digest c = read_add c.in-Some-last_uuid.package c.in-Some-last_uuid-2.identity
    c.in-Some-next_kind.kind c.in-Some-next_size.size c.in-Some-last_digest.digest c.args.text.now c.in-Some.rest.now
    c.in-Some-cut.rest.now c.in-Some-next_kind.rest.now c.in-Some-next_size.rest.now
    (in_front c.args.text.now c.in-Some.front.now c.in-Some.rest.now _ c.in-Some.ensures.some
    c.in-Some-last_uuid.ensures.some) (in_front c.in-Some.rest.now c.in-Some-cut.front.now c.in-Some-cut.rest.now _
    c.in-Some-cut.ensures.some c.in-Some-last_uuid-2.ensures.some) c.in-Some-next_kind.ensures.some
    c.in-Some-next_size.ensures.some c.in-Some-last_digest.ensures.some c.in-Some-last_uuid.ensures.fit
    c.in-Some-last_uuid-2.ensures.fit c.in-Some-next_kind.ensures.fit c.in-Some-next_size.ensures.fit
    c.in-Some-last_digest.ensures.fit
