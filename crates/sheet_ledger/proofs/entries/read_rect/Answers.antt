-- Where a part is missing there is no entry; else the text is of these parts.
use Rattle.std.specs.Prelude.{[], ◌∷◌, refl}
use Rattle.std.specs.Fmt.{signed_decimal}
use Rattle.sheet_ledger.specs.Slots.{OfNumber}
use Rattle.sheet_ledger.proofs.Slots.{fills_lacks, none_first, none_last, none_rest}
use Rattle.sheet_ledger.proofs.entries.read_rect.Goals as goal

pub returns-in_default-clause-none : goal.returns-in_default-clause-none
returns-in_default-clause-none c = none_first OfNumber OfNumber (OfNumber ∷ OfNumber ∷ OfNumber ∷ [])
    c.args.text.now c.in_default.ensures.none

pub returns-in_default-next_number-clause-none : goal.returns-in_default-next_number-clause-none
returns-in_default-next_number-clause-none c = none_rest OfNumber OfNumber (OfNumber ∷ OfNumber ∷ OfNumber ∷ [])
    c.args.text.now (signed_decimal c.in-Some.zoom) c.in-Some.rest.now c.in-Some.ensures.some
    (fills_lacks OfNumber (signed_decimal c.in-Some.zoom) (c.in-Some.zoom, c.in-Some.ensures.fit, refl))
    (none_first OfNumber OfNumber (OfNumber ∷ OfNumber ∷ []) c.in-Some.rest.now
    c.in_default-next_number.ensures.none)

pub returns-in_default-next_number-2-clause-none : goal.returns-in_default-next_number-2-clause-none
returns-in_default-next_number-2-clause-none c = none_rest OfNumber OfNumber
    (OfNumber ∷ OfNumber ∷ OfNumber ∷ []) c.args.text.now (signed_decimal c.in-Some.zoom) c.in-Some.rest.now
    c.in-Some.ensures.some (fills_lacks OfNumber (signed_decimal c.in-Some.zoom)
    (c.in-Some.zoom, c.in-Some.ensures.fit, refl)) (none_rest OfNumber OfNumber (OfNumber ∷ OfNumber ∷ [])
    c.in-Some.rest.now (signed_decimal c.in-Some-next_number.column) c.in-Some-next_number.rest.now
    c.in-Some-next_number.ensures.some (fills_lacks OfNumber (signed_decimal c.in-Some-next_number.column)
    (c.in-Some-next_number.column, c.in-Some-next_number.ensures.fit, refl))
    (none_first OfNumber OfNumber (OfNumber ∷ []) c.in-Some-next_number.rest.now
    c.in_default-next_number-2.ensures.none))

pub returns-in_default-next_number-3-clause-none : goal.returns-in_default-next_number-3-clause-none
returns-in_default-next_number-3-clause-none c = none_rest OfNumber OfNumber
    (OfNumber ∷ OfNumber ∷ OfNumber ∷ []) c.args.text.now (signed_decimal c.in-Some.zoom) c.in-Some.rest.now
    c.in-Some.ensures.some (fills_lacks OfNumber (signed_decimal c.in-Some.zoom)
    (c.in-Some.zoom, c.in-Some.ensures.fit, refl)) (none_rest OfNumber OfNumber (OfNumber ∷ OfNumber ∷ [])
    c.in-Some.rest.now (signed_decimal c.in-Some-next_number.column) c.in-Some-next_number.rest.now
    c.in-Some-next_number.ensures.some (fills_lacks OfNumber (signed_decimal c.in-Some-next_number.column)
    (c.in-Some-next_number.column, c.in-Some-next_number.ensures.fit, refl))
    (none_rest OfNumber OfNumber (OfNumber ∷ []) c.in-Some-next_number.rest.now
    (signed_decimal c.in-Some-next_number-2.last_column) c.in-Some-next_number-2.rest.now
    c.in-Some-next_number-2.ensures.some (fills_lacks OfNumber (signed_decimal c.in-Some-next_number-2.last_column)
    (c.in-Some-next_number-2.last_column, c.in-Some-next_number-2.ensures.fit, refl))
    (none_first OfNumber OfNumber ([]) c.in-Some-next_number-2.rest.now c.in_default-next_number-3.ensures.none)))

pub returns-in-None-clause-none : goal.returns-in-None-clause-none
returns-in-None-clause-none c = none_rest OfNumber OfNumber (OfNumber ∷ OfNumber ∷ OfNumber ∷ [])
    c.args.text.now (signed_decimal c.in-Some.zoom) c.in-Some.rest.now c.in-Some.ensures.some
    (fills_lacks OfNumber (signed_decimal c.in-Some.zoom) (c.in-Some.zoom, c.in-Some.ensures.fit, refl))
    (none_rest OfNumber OfNumber (OfNumber ∷ OfNumber ∷ []) c.in-Some.rest.now
    (signed_decimal c.in-Some-next_number.column) c.in-Some-next_number.rest.now c.in-Some-next_number.ensures.some
    (fills_lacks OfNumber (signed_decimal c.in-Some-next_number.column)
    (c.in-Some-next_number.column, c.in-Some-next_number.ensures.fit, refl))
    (none_rest OfNumber OfNumber (OfNumber ∷ []) c.in-Some-next_number.rest.now
    (signed_decimal c.in-Some-next_number-2.last_column) c.in-Some-next_number-2.rest.now
    c.in-Some-next_number-2.ensures.some (fills_lacks OfNumber (signed_decimal c.in-Some-next_number-2.last_column)
    (c.in-Some-next_number-2.last_column, c.in-Some-next_number-2.ensures.fit, refl))
    (none_rest OfNumber OfNumber ([]) c.in-Some-next_number-2.rest.now (signed_decimal c.in-Some-next_number-3.row)
    c.in-Some-next_number-3.rest.now c.in-Some-next_number-3.ensures.some
    (fills_lacks OfNumber (signed_decimal c.in-Some-next_number-3.row)
    (c.in-Some-next_number-3.row, c.in-Some-next_number-3.ensures.fit, refl))
    (none_last OfNumber c.in-Some-next_number-3.rest.now c.in-None.ensures.none))))
