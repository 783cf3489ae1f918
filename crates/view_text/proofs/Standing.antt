-- In a register, the last receipt that names an item is the last that names the thing of which custody is kept.
use Rattle.std.proofs.Common.{◌≡◌, ◌∙◌, ℕ, List, [], ◌∷◌, ◌++◌, refl, sym, ap, subst}
use Rattle.std.specs.Prelude.{◌↔◌, ◌&&◌, ◌||◌, Bool, true, bytes_eq, cond, filter, is_some, IsTrue}
use Rattle.std.specs.Prelude.{MatchBool, None}
use Rattle.std.specs.Prelude.{Option, Some, unwrap_or}
use Rattle.std.specs.List.{AllByRecursion, list_any}
use Rattle.std.specs.Option.{option_and_then}
use Rattle.std.proofs.lemmas.List.{append-nil}
use Rattle.sheet_types.proofs.Every.{All-weaker}
use Rattle.sheet_types.specs.Balance.{IsThing, archive_of, holds, names_identity}
use Rattle.sheet_types.specs.Custody.{custody, names}
use Rattle.sheet_types.specs.Ordered.{last_of}
use Rattle.sheet_types.specs.Register.{IsRegister}
use Rattle.sheet_types.specs.World.{World, holdings, is_item_kind, moved_thing, receipts_of, thing_number}
use Rattle.sheet_types.specs.declared.receipt.MovedKind.{MovedKind}
use Rattle.sheet_types.specs.declared.receipt.MovedKind.TheVariants.{TileItem, MediaItem, RowItem, TilesMediaLink}
use Rattle.sheet_types.specs.declared.receipt.MovedKind.TheVariants.{RowsMediaLink, RowsTilesLink}
use Rattle.sheet_types.specs.declared.receipt.Receipt.{Receipt}
use Rattle.sheet_laws.proofs.Facts.{ledger_things}
use Rattle.view_text.specs.Laws.{StandsWhereTold}
use Rattle.view_text.specs.Ways.{place_by}

-- ---- one thing

as_item : (id base : List ℕ) (other : Option (List ℕ)) → other ≡ None
    → bytes_eq base id ≡ bytes_eq (base ++ unwrap_or other []) id
as_item id base other none = ap (λ l. bytes_eq l id) (sym (append-nil base))
    ∙ ap (λ o. bytes_eq (base ++ unwrap_or o []) id) (sym none)

by_kind : (id : List ℕ) (kind : MovedKind) (base : List ℕ) (other print : Option (List ℕ)) (size : ℕ)
    → MatchBool (is_item_kind kind) ((other ≡ None) × (is_some print ≡ true))
    ((is_some other ≡ true) × (size ≡ 0) × (print ≡ None))
    → (is_item_kind kind && bytes_eq base id) ≡ bytes_eq (thing_number kind ∷ base ++ unwrap_or other [])
    (0 ∷ id)
by_kind id TileItem base other print size is = as_item id base other is.0
by_kind id MediaItem base other print size is = as_item id base other is.0
by_kind id RowItem base other print size is = as_item id base other is.0
by_kind id TilesMediaLink base other print size is = refl
by_kind id RowsMediaLink base other print size is = refl
by_kind id RowsTilesLink base other print size is = refl

any_same : {X : Type 0} (p q : X → Bool) (xs : List X) → AllByRecursion (λ x. p x ≡ q x) xs
    → list_any p xs ≡ list_any q xs
any_same p q [] each = refl
any_same p q (x ∷ xs) each = ap (λ b. b || list_any p xs) each.0 ∙ ap (λ b. q x || b) (any_same p q xs each.1)

-- ---- all receipts

filter_same : {X : Type 0} (p q : X → Bool) (xs : List X) → AllByRecursion (λ x. p x ≡ q x) xs
    → filter p xs ≡ filter q xs
filter_same p q [] each = refl
filter_same p q (x ∷ xs) each = ap (λ b. cond b (x ∷ filter p xs) (filter p xs)) each.0
    ∙ ap (λ l. cond (q x) (x ∷ l) l) (filter_same p q xs each.1)

named_same : (id : List ℕ) (rs : List Receipt) → AllByRecursion (λ r. AllByRecursion IsThing r.items) rs
    → AllByRecursion (λ r. names_identity id r ≡ names (0 ∷ id) r) rs
named_same id rs things =
    All-weaker (λ r. AllByRecursion IsThing r.items) (λ r. names_identity id r ≡ names (0 ∷ id) r)
    (λ r is. any_same (λ m. is_item_kind m.kind && bytes_eq m.base id) (λ m. bytes_eq (moved_thing m) (0 ∷ id))
    r.items
    (All-weaker IsThing (λ m. (is_item_kind m.kind && bytes_eq m.base id) ≡ bytes_eq (moved_thing m) (0 ∷ id))
    (λ m thing. by_kind id m.kind m.base m.other m.fingerprint m.size thing) r.items is)) rs things

pub place_is_custody : (w : World) (id : List ℕ) → IsRegister w
    → place_by (receipts_of w) id ≡ custody (receipts_of w) (0 ∷ id)
place_is_custody w id register =
    ap (λ l. option_and_then (λ r. r.target) (last_of l))
    (filter_same (names_identity id) (names (0 ∷ id)) (receipts_of w)
    (named_same id (receipts_of w) (ledger_things (archive_of w) [] (receipts_of w) register.balanced.ledger)))

pub stands_where_told : StandsWhereTold
stands_where_told w id p register = subst (λ place. IsTrue (holds (holdings w p) (0 ∷ id)) ↔ (place ≡ Some p))
    (sym (place_is_custody w id register)) (register.balanced.custody_is p (0 ∷ id))
