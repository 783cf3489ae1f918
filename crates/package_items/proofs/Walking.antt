-- The rows of a user table one after the other: each has been met once there is none after the last.
use Rattle.std.proofs.Common.{◌≡◌, ℤ, ◌≤ℤ◌, List, [], ◌∷◌, map, Bool, true, false, cond, Result}
use Rattle.std.proofs.Common.{Ok, refl, sym, ap}
use Rattle.std.proofs.Common.{subst, ◌∙◌, inl, inr, arith}
use Rattle.std.specs.Prelude.{filter, Option, Some, None, option_map}
use Rattle.std.specs.List.{AllByRecursion, IsDistinct}
use Rattle.std.specs.Ordering.{int_eq, int_cmp, is_gt}
use Rattle.std.proofs.lemmas.Bool.{true≢false}
use Rattle.std.proofs.lemmas.Int.{ints}
use Rattle.sqlite.specs.Effect.{Database}
use Rattle.sqlite.specs.State.{State}
use Rattle.store_sql.specs.Transactions.{Looks}
use Rattle.sheet_types.proofs.Every.{All-weaker, All-map, All-each}
use Rattle.sheet_types.proofs.Same.{In, All-In, In-all, In-map, In-filter, Contains-In}
use Rattle.package_tables.specs.Calls.{IsLeast, Answers}
use Rattle.package_tables.specs.Package.{Tables, tables_of, AreFormed}
use Rattle.package_tables.proofs.Newest.{not_above}
use Rattle.package_tables.proofs.Written.{tiles_listed, media_listed, attributes_listed}
use Rattle.identity_register.specs.Gathered.{tile_placed, medium_placed, attributes_placed}
use Rattle.identity_register.specs.declared.whole.Placed.{Placed}
use Rattle.identity_register.proofs.Looking.{looked, tells}
use Rattle.identity_register.proofs.Finding.{contained}
use Rattle.package_items.specs.Walks.{placed_in, is_past, IsNextRow}
use Rattle.package_items.specs.declared.user_tables.UserTable.{UserTable}
use Rattle.package_items.specs.declared.user_tables.UserTable.TheVariants.{TileTable, MediaTable, RowTable}
use Rattle.package_items.proofs.Apart.{one_by, int_flips, ids_apart}

filter_map : {X Y : Type 0} (q : Y → Bool) (f : X → Y) (xs : List X)
    → filter q (map f xs) ≡ map f (filter (λ x. q (f x)) xs)
filter_map q f [] = refl
filter_map {X} {Y} q f (x ∷ xs) = one (q (f x)) (filter_map q f xs)
  where
    one : (b : Bool) → filter q (map f xs) ≡ map f (filter (λ y. q (f y)) xs)
        → cond b (f x ∷ filter q (map f xs)) (filter q (map f xs))
        ≡ map f (cond b (x ∷ filter (λ y. q (f y)) xs) (filter (λ y. q (f y)) xs))
    one true e = ap (λ l. f x ∷ l) e
    one false e = e

-- the least of rows, each with its kind and its number
pub least_mapped : {R : Type 0} (f : R → Placed) (keeps : ℤ → Bool) (rows : List R) (found : Option R)
    → IsLeast (λ r. (f r).number) (filter (λ r. keeps (f r).number) rows) found
    → IsLeast (λ x. x.number) (filter (λ x. keeps x.number) (map f rows)) (option_map f found)
least_mapped f keeps rows None h = filter_map (λ x. keeps x.number) f rows ∙ ap (map f) h
least_mapped f keeps rows (Some x) h =
    subst (λ l. IsLeast (λ y. y.number) l (Some (f x))) (sym (filter_map (λ y. keeps y.number) f rows)) (
      Contains-In (f x) (map f (filter (λ r. keeps (f r).number) rows))
          (In-map f x (filter (λ r. keeps (f r).number) rows) (contained (filter (λ r. keeps (f r).number) rows) x
          h.0)),
      All-map (λ y. (f x).number ≤ℤ y.number) f (filter (λ r. keeps (f r).number) rows) h.1,
    )

pub in_filtered : {X : Type 0} (t : X → Bool) (x : X) (xs : List X) → In x (filter t xs) → In x xs
    × (t x ≡ true)
in_filtered t x [] i = absurd i
in_filtered t x (y ∷ ys) i = one (t y) refl i (in_filtered t x ys)
  where
    one : (b : Bool) → t y ≡ b → In x (cond b (y ∷ filter t ys) (filter t ys))
        → (In x (filter t ys) → In x ys × (t x ≡ true)) → In x (y ∷ ys) × (t x ≡ true)
    one true e i more = elim i [
      | inl same ↦ (inl same, ap t (sym same) ∙ e)
      | inr later ↦ let it =
          more later in (inr it.0, it.1)
    ]
    one false e i more = let it = more i in (inr it.0, it.1)

-- ---- numbers

abbrev pub same_number : Placed → Placed → Bool
same_number a b = int_eq a.number b.number

-- no two rows of a user table have one number
abbrev pub AreNumbered : Tables → Type 0
AreNumbered t = (table : UserTable) → IsDistinct same_number (placed_in table t)

distinct_map : {X Y : Type 0} (e : Y → Y → Bool) (f : X → Y) (xs : List X)
    → IsDistinct (λ x y. e (f x) (f y)) xs
    → IsDistinct e (map f xs)
unfolding IsDistinct
distinct_map e f [] d = tt
distinct_map e f (x ∷ xs) d = (All-map (λ k. e (f x) k ≡ false) f xs d.0, distinct_map e f xs d.1)

pub numbered : (db : Database) → AreFormed db → AreNumbered (tables_of db)
numbered db formed TileTable = distinct_map same_number tile_placed (tables_of db).tiles
    (ids_apart tiles_listed (λ x. x.id) (λ v x. refl) db formed)
numbered db formed MediaTable = distinct_map same_number medium_placed (tables_of db).media
    (ids_apart media_listed (λ x. x.id) (λ v x. refl) db formed)
numbered db formed RowTable = distinct_map same_number attributes_placed (tables_of db).rows
    (ids_apart attributes_listed (λ x. x.id) (λ v x. refl) db formed)

-- ---- steps

module _ (P : Placed → Type 0) where
  -- each row up to the last one has it
  abbrev pub SoFar : Option ℤ → List Placed → Type 0
  SoFar last rows = AllByRecursion (λ x. is_past last x.number ≡ false → P x) rows

  pub none_met : (rows : List Placed) → SoFar None rows
  none_met rows = All-each (λ x. true ≡ false → P x) (λ x h. absurd (true≢false h)) rows

  pub one_met : (last : Option ℤ) (rows : List Placed) (x : Placed) → IsDistinct same_number rows
      → IsLeast (λ y. y.number) (filter (λ y. is_past last y.number) rows) (Some x) → P x → SoFar last rows
      → SoFar (Some x.number) rows
  one_met last rows x apart least p sofar = All-weaker (λ y. In y rows) _ at rows (In-all rows)
    where
      here : In x rows
      here = (in_filtered (λ y. is_past last y.number) x rows
          (contained (filter (λ y. is_past last y.number) rows) x least.0)).0

      equal : (a b : ℤ) → a ≤ℤ b → b ≤ℤ a → int_eq a b ≡ true
      equal a b h g = grind (arith, ints)

      at : (y : Placed) → In y rows → is_gt (int_cmp y.number x.number) ≡ false → P y
      at y i low = one (is_past last y.number) refl
        where
          one : (b : Bool) → is_past last y.number ≡ b → P y
          one true e =
              let more : x.number ≤ℤ y.number = All-In (λ z. x.number ≤ℤ z.number) y
              (filter (λ z. is_past last z.number) rows) least.1
              (In-filter (λ z. is_past last z.number) y rows i e) in
              subst P (one_by same_number (λ a b. int_flips a.number b.number) rows apart x y here i
              (equal x.number y.number more (not_above y.number x.number low))) p
          one false e = All-In (λ z. is_past last z.number ≡ false → P z) y rows sofar i e

  pub all_met : (last : Option ℤ) (rows : List Placed) → IsLeast (λ y. y.number)
      (filter (λ y. is_past last y.number) rows) None → SoFar last rows → AllByRecursion P rows
  all_met last rows none sofar = All-weaker (λ y. In y rows) P at rows (In-all rows)
    where
      at : (y : Placed) → In y rows → P y
      at y i = one (is_past last y.number) refl
        where
          one : (b : Bool) → is_past last y.number ≡ b → P y
          one true e = absurd (subst (In y) none (In-filter (λ z. is_past last z.number) y rows i e))
          one false e = All-In (λ z. is_past last z.number ≡ false → P z) y rows sofar i e

  pub not_all : (last : Option ℤ) (rows : List Placed) (x : Placed)
      → IsLeast (λ y. y.number) (filter (λ y. is_past last y.number) rows) (Some x) → (P x → ⊥)
      → AllByRecursion P rows → ⊥
  not_all last rows x least fails all = fails (All-In P x rows all
      (in_filtered (λ y. is_past last y.number) x rows (contained (filter (λ y. is_past last y.number) rows) x
      least.0)).0)

-- the next row from the next of its table
pub found_next : {R E F : Type 0} (table k : UserTable) (last : Option ℤ) (f : R → Placed)
    (rows : Tables → List R)
    → ((t : Tables) → placed_in k t ≡ map f (rows t)) → table ≡ k → (o : Option R) (p : Option Placed)
    → p ≡ option_map f o → {a b : State} {r : Result (Option R) E} → r ≡ Ok o
    → Looks {X = Option R} {E = E} (Answers (λ t x. IsLeast (λ y. (f y).number)
    (filter (λ y. is_past last (f y).number) (rows t)) x)) a b r
    → Looks {X = Option Placed} {E = F} (Answers (IsNextRow table last)) a b (Ok p)
found_next table k last f rows same which o p made is looks =
    tells (IsNextRow table last) (looked (λ t x. IsLeast (λ y. (f y).number)
    (filter (λ y. is_past last (f y).number) (rows t)) x) is looks)
    (λ t h. subst (λ v. IsNextRow v last t p) (sym which) (subst (λ v. IsNextRow k last t v) (sym made)
    (subst (λ l. IsLeast (λ y. y.number) (filter (λ y. is_past last y.number) l) (option_map f o)) (sym (same t))
    (least_mapped f (is_past last) (rows t) o h))))
