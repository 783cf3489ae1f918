-- What is seen of rows that were read, and whether a fault is told of them.
use Rattle.std.proofs.Common.{◌≡◌, ℤ, List, [], ◌∷◌, ◌++◌, Bool, true, false, Result, arith, Ok}
use Rattle.std.proofs.Common.{Err, refl, sym, ap}
use Rattle.std.proofs.Common.{◌∙◌, inl, inr}
use Rattle.std.specs.Prelude.{◌&&◌, IsTrue, IfOk, IsPermutation}
use Rattle.std.specs.List.{AllByRecursion, IsDistinct}
use Rattle.std.specs.Ordering.{int_eq}
use Rattle.std.proofs.lemmas.Bool.{true≢false}
use Rattle.std.proofs.lemmas.List.Sorted.{IsPermutation-sym}
use Rattle.std.proofs.lemmas.Map.Keys.{IsDistinct-IsPermutation}
use Rattle.sqlite.specs.State.{State, HasCleanDisk}
use Rattle.store_sql.specs.Transactions.{Looks}
use Rattle.store_sql.proofs.Staying.{looks_stays, stays_then}
use Rattle.sheet_types.proofs.Basics.{bytes_eq_swap}
use Rattle.sheet_types.proofs.Every.{All-weaker}
use Rattle.sheet_types.proofs.Same.{In, In-all, In-append, All-In}
use Rattle.package_tables.specs.Calls.{Answers}
use Rattle.package_tables.specs.Package.{Tables}
use Rattle.package_tables.specs.declared.rows.IdentityRow.{IdentityRow}
use Rattle.package_tables.specs.declared.rows.MappingRow.{MappingRow}
use Rattle.package_tables.specs.declared.rows.TileRow.{TileRow}
use Rattle.identity_register.specs.Gathered.{tile_placed}
use Rattle.identity_register.specs.Numbering.{is_pair}
use Rattle.identity_register.specs.declared.whole.Placed.{Placed}
use Rattle.identity_register.proofs.Looking.{Looked, looked, looked_then, tells, fails}
use Rattle.identity_register.proofs.Reaching.{GoesOn}
use Rattle.package_items.specs.Spots.{spot_at, is_same_spot}
use Rattle.package_items.specs.Tied.{is_same_row, is_same_uuid, is_same_place}
use Rattle.package_items.specs.declared.unique.Spot.{Spot}
use Rattle.package_items.proofs.Apart.{int_flips, one_by}
use Rattle.package_items.proofs.Deciding.{goes_tell}

-- one look, and what a call on values saw in what it answered
pub seen_last : {X E F : Type 0} (Answer : Tables → X → Type 0) (Fact : Tables → Type 0) {P : Type 0}
    {a b : State}
    {r : Result X E} {x : X} → r ≡ Ok x → Looks {X = X} {E = E} (Answers Answer) a b r
    → (q : Result (Unit {0}) F)
    → IfOk q (λ _. P) → ((t : Tables) → Answer t x → P → Fact t)
    → Looks {X = Unit {0}} {E = F} (Answers (λ t _. Fact t)) a b q
seen_last Answer Fact is looks (Ok u) p so = tells (λ t _. Fact t) (looked Answer is looks) (λ t h. so t h p)
seen_last Answer Fact is looks (Err e) p so = fails (Err e) refl (looks_stays looks)

-- some looks, and what a call on values made of what they answered
pub told_last : {X E : Type 0} {Fact : Tables → Type 0} (Told : Tables → X → Type 0) {P : X → Type 0}
    {a b : State}
    → Looked Fact a b → (q : Result X E) → IfOk q P → ((t : Tables) (x : X) → Fact t → P x → Told t x)
    → Looks {X = X} {E = E} (Answers Told) a b q
told_last Told it (Ok x) p so = tells Told it (λ t h. so t x h p)
told_last Told it (Err e) p so = fails (Err e) refl it.stays

-- several looks, and what a call on values saw in the end
pub goes_last : {F : Type 0} {Fact : Tables → Type 0} (Told : Tables → Type 0) {P : Type 0} {a c : State}
    → GoesOn Fact a c → (HasCleanDisk c → IsTrue c.is_open) → (q : Result (Unit {0}) F) → IfOk q (λ _. P)
    → ((t : Tables) → Fact t → P → Told t) → Looks {X = Unit {0}} {E = F} (Answers (λ t _. Told t)) a c q
goes_last Told it open' (Ok u) p so = goes_tell (λ t _. Told t)
    (record {
      stays = it.stays;
      told = λ clean is_open. let d =
          it.told clean is_open in (d.0, d.1, λ formed. so _ (d.2 formed) p);
    }) open'
goes_last Told it open' (Err e) p so = fails (Err e) refl it.stays

-- looks before, and the last one
pub looks_then : {X E : Type 0} {Fact : Tables → Type 0} (Last Answer : Tables → X → Type 0) {a b c : State}
    (r : Result X E) → Looked Fact a b → Looks {X = X} {E = E} (Answers Last) b c r
    → ((t : Tables) (x : X) → Fact t → Last t x → Answer t x) → Looks {X = X} {E = E} (Answers Answer) a c r
looks_then Last Answer (Ok x) first next so = tells Answer (looked_then Last first refl next) (λ t h. so t x h.0 h.1)
looks_then Last Answer (Err e) first next so = fails (Err e) refl (stays_then first.stays (looks_stays next))

pub both_so : {X E : Type 0} (P Q : Type 0) (r : Result X E) → IfOk r (λ _. P) → IfOk r (λ _. Q)
    → IfOk r (λ _. P × Q)
both_so P Q (Ok x) p q = (p, q)
both_so P Q (Err e) p q = tt

-- ---- in another order they are apart still

pair_flips : (a b : MappingRow) → is_pair a b ≡ is_pair b a
pair_flips a b = ap (λ v. v && int_eq a.related_id b.related_id) (int_flips a.base_id b.base_id)
    ∙ ap (λ v. int_eq b.base_id a.base_id && v) (int_flips a.related_id b.related_id)

row_flips : (a b : IdentityRow) → is_same_row a b ≡ is_same_row b a
row_flips a b = ap (λ v. v && int_eq a.local_id b.local_id) (int_flips a.kind b.kind)
    ∙ ap (λ v. int_eq b.kind a.kind && v) (int_flips a.local_id b.local_id)

pub pairs_moved : (rows found : List MappingRow) → IsPermutation rows found → IsDistinct is_pair found
    → IsDistinct is_pair rows
pairs_moved rows found moves = IsDistinct-IsPermutation is_pair pair_flips found rows
    (IsPermutation-sym rows found moves)

pub rows_moved : (rows found : List IdentityRow) → IsPermutation rows found → IsDistinct is_same_row found
    → IsDistinct is_same_row rows
rows_moved rows found moves = IsDistinct-IsPermutation is_same_row row_flips found rows
    (IsPermutation-sym rows found moves)

pub uuids_moved : (rows found : List IdentityRow) → IsPermutation rows found → IsDistinct is_same_uuid found
    → IsDistinct is_same_uuid rows
uuids_moved rows found moves = IsDistinct-IsPermutation is_same_uuid (λ a b. bytes_eq_swap a.uuid b.uuid) found rows
    (IsPermutation-sym rows found moves)

-- ---- places

-- the spot of a row is among these
abbrev pub IsNoted : List Spot → Placed → Type 0
IsNoted spots x = In (spot_at x) spots

pub still_noted : (spots : List Spot) (s : Spot) (x : Placed) → IsNoted spots x → IsNoted (spots ++ s ∷ []) x
still_noted spots s x i = In-append (spot_at x) spots (s ∷ []) (inl i)

pub noted_now : (spots : List Spot) (x : Placed) → IsNoted (spots ++ spot_at x ∷ []) x
noted_now spots x = In-append (spot_at x) spots (spot_at x ∷ []) (inr (inl refl))

spot_flips : (a b : Spot) → is_same_spot a b ≡ is_same_spot b a
spot_flips a b = ap (λ v. v && int_eq a.column b.column && int_eq a.row b.row) (int_flips a.zoom b.zoom)
    ∙ ap (λ v. int_eq b.zoom a.zoom && v && int_eq a.row b.row) (int_flips a.column b.column)
    ∙ ap (λ v. int_eq b.zoom a.zoom && int_eq b.column a.column && v) (int_flips a.row b.row)

itself : (a : ℤ) → int_eq a a ≡ true
itself a = grind (arith)

-- where all spots are noted and no two are one place, no two tiles are in one place
pub places_apart : (spots : List Spot) → IsDistinct is_same_spot spots → (xs : List TileRow)
    → AllByRecursion (λ r. IsNoted spots (tile_placed r)) xs → IsDistinct (λ (a b : TileRow). int_eq a.id b.id) xs
    → IsDistinct is_same_place xs
unfolding IsDistinct
places_apart spots apart [] noted numbers = tt
places_apart spots apart (x ∷ xs) noted numbers = (
  All-weaker (λ y. In y xs) (λ y. is_same_place x y ≡ false)
      (λ y i. other y (All-In (λ r. IsNoted spots (tile_placed r)) y xs noted.1 i)
      (All-In (λ r. int_eq x.id r.id ≡ false) y xs numbers.0 i)) xs (In-all xs),
  places_apart spots apart xs noted.1
      numbers.1,
)
  where
    other : (y : TileRow) → IsNoted spots (tile_placed y) → int_eq x.id y.id ≡ false
        → is_same_place x y ≡ false
    other y there differ = one (is_same_place x y) refl
      where
        one : (b : Bool) → is_same_place x y ≡ b → is_same_place x y ≡ false
        one false e = e
        one true e =
            let same = one_by is_same_spot spot_flips spots apart (spot_at (tile_placed x)) (spot_at (tile_placed y))
            noted.0 there e in
            absurd (true≢false (sym (itself x.id) ∙ ap (λ s. int_eq x.id s.number) same ∙ differ))
