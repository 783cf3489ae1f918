-- The numbers of the three tables, one table behind the other.
use Rattle.std.proofs.Common.{◌≡◌, ℤ, pos, List, ◌++◌, sym, subst, ap, ◌∙◌}
use Rattle.std.specs.Prelude.{IsPermutation, map}
use Rattle.std.proofs.lemmas.List.Sorted.{IsPermutation-refl}
use Rattle.store_sql.proofs.Staying.{looks_stays, stays_then}
use Rattle.identity_register.proofs.Looking.{looked, looked_then, fails}
use Rattle.package_items.specs.Ties.{row_keys}
use Rattle.package_items.proofs.Keyed.{map_again}
use Rattle.package_items.proofs.Seen.{told_last}
use Rattle.package_items.proofs.tied.read_rows.Goals as goal

-- the numbers of a table, each with the number of its kind
with_kind : {X : Type 0} (n : ℤ) (id : X → ℤ) (xs : List X) (ids : List ℤ) → ids ≡ map id xs
    → map {B = ℤ × ℤ} (λ i. (n, i)) ids ≡ map {B = ℤ × ℤ} (λ x. (n, id x)) xs
with_kind {X} n id xs ids same =
    let pair : ℤ → ℤ × ℤ = λ i. (n, i) in
    ap (map pair) same ∙ map_again pair id xs

pub returns-in_err-rows : goal.returns-in_err-rows
returns-in_err-rows g c = fails c.from_residual-in_err-rows.result c.from_residual-in_err-rows.ensures.0
    (stays_then (stays_then (looks_stays c.tile_ids.ensures) (looks_stays c.medium_ids.ensures))
    (looks_stays c.attribute_ids.ensures))

pub returns : goal.returns
returns g c =
    let tiles = c.in_ok-tiles.tiles.items in
    let media = c.in_ok-media.media.items in
    let rows = c.in_ok-rows.rows.items in
    told_last (λ t keys. IsPermutation (row_keys t) keys.items)
    (looked_then (λ t ids. ids.items ≡ map (λ r. r.id) t.rows)
    (looked_then (λ t ids. ids.items ≡ map (λ r. r.id) t.media)
    (looked (λ t ids. ids.items ≡ map (λ r. r.id) t.tiles) c.in_ok-tiles.was c.tile_ids.ensures) c.in_ok-media.was
    c.medium_ids.ensures) c.in_ok-rows.was c.attribute_ids.ensures)
    c.keys_of.result c.keys_of.ensures
    (λ t keys h is.
    let all : (map {B = ℤ × ℤ} (λ i. (pos 1, i)) tiles ++ map {B = ℤ × ℤ} (λ i. (pos 2, i)) media)
    ++ map {B = ℤ × ℤ} (λ i. (pos 3, i)) rows ≡ row_keys t =
    λ n. (with_kind (pos 1) (λ r. r.id) t.tiles tiles h.0.0 n
    ++ with_kind (pos 2) (λ r. r.id) t.media media h.0.1 n)
    ++ with_kind (pos 3) (λ r. r.id) t.rows rows h.1 n in
    subst (IsPermutation (row_keys t)) (sym (is ∙ all)) (IsPermutation-refl (row_keys t)))

-- a look that failed leaves the store as it was too
pub returns-in_err-tiles : goal.returns-in_err-tiles
returns-in_err-tiles g c = fails c.from_residual.result c.from_residual.ensures.0 (looks_stays c.tile_ids.ensures)

pub returns-in_err-media : goal.returns-in_err-media
returns-in_err-media g c = fails c.from_residual-in_err-media.result c.from_residual-in_err-media.ensures.0
    (stays_then (looks_stays c.tile_ids.ensures) (looks_stays c.medium_ids.ensures))
