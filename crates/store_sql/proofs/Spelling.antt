-- Each table spells its own keys, and where a list has what it was asked for.
use Rattle.std.proofs.Common.{◌≡◌, ◌⊎◌, inl, inr, ℕ, zero, suc, ◌+◌, ◌≤◌, ◌<◌, List, []}
use Rattle.std.proofs.Common.{◌∷◌, map, length, Bool, true, false, cond, Some, refl, sym, ap, subst, ◌∙◌}
use Rattle.std.proofs.Common.{arith, slice_get, slice_index_or}
use Rattle.std.specs.Prelude.{find, Any}
use Rattle.std.specs.List.{AllByRecursion, position_from}
use Rattle.sqlite.specs.Table.{Table}
use Rattle.sqlite_value.specs.Keys.{plain, undirected}
use Rattle.store_sql.specs.Spelling.{Spelling, spelling_of, HasPlace, IsSameKey, HasKey, AreSameKeys, Names, IsMeant}
use Rattle.store_sql.specs.Spelling.{IsWritten, IsSpelling}

pub same_some : {A : Type 0} {a b : A} → Some a ≡ Some b → a ≡ b
same_some e = cc

-- ---- one of a list

pub any_first : {X : Type 0} (P : X → Type 0) (x : X) (xs : List X) → P x → Any P (x ∷ xs)
any_first P x xs h = (0, x, omega arith, refl, h)

pub any_later : {X : Type 0} (P : X → Type 0) (y : X) (xs : List X) → Any P xs → Any P (y ∷ xs)
any_later P y xs (k, x, low, is, h) = (suc k, x, omega (arith, low), is, h)

all_more : {X : Type 0} (P Q : X → Type 0) → ((x : X) → P x → Q x) → (xs : List X) → AllByRecursion P xs
    → AllByRecursion Q xs
all_more P Q more [] h = tt
all_more P Q more (x ∷ xs) h = (more x h.0, all_more P Q more xs h.1)

pub all_there : {X : Type 0} (P : X → Type 0) (xs : List X) (i : ℕ) (d : X) → i < length xs
    → AllByRecursion P xs → P (slice_index_or xs i d)
all_there P [] i d low h = absurd (omega (arith, low))
all_there P (x ∷ xs) zero d low h = h.0
all_there P (x ∷ xs) (suc i) d low h = all_there P xs i d (omega (arith, low)) h.1

-- each element is one of its own list
all_own : {X : Type 0} (Like : X → X → Type 0) → ((x : X) → Like x x) → (xs : List X)
    → AllByRecursion (λ x. Any (λ y. Like x y) xs) xs
all_own Like itself [] = tt
all_own Like itself (x ∷ xs) = (
  any_first (λ y. Like x y) x xs (itself x),
  all_more (λ z. Any (λ y. Like z y) xs)
      (λ z. Any (λ y. Like z y) (x ∷ xs)) (λ z. any_later (λ y. Like z y) x xs) xs (all_own Like itself xs),
)

-- of what stands for others
module _ {Y Z : Type 0} (P : Y → Type 0) (f : Z → Y) where
  pub any_mapped : (zs : List Z) → Any (λ z. P (f z)) zs → Any P (map f zs)
  any_mapped [] (k, z, low, is, h) = absurd (omega (arith, low))
  any_mapped (w ∷ zs) (zero, z, low, is, h) = any_first P (f w) (map f zs) (subst (λ v. P (f v)) (sym is) h)
  any_mapped (w ∷ zs) (suc k, z, low, is, h) = any_later P (f w) (map f zs)
      (any_mapped zs (k, z, omega (arith, low), is, h))

  pub any_unmapped : (zs : List Z) → Any P (map f zs) → Any (λ z. P (f z)) zs
  any_unmapped [] (k, y, low, is, h) = absurd (omega (arith, low))
  any_unmapped (w ∷ zs) (zero, y, low, is, h) = any_first (λ z. P (f z)) w zs (subst P (sym is) h)
  any_unmapped (w ∷ zs) (suc k, y, low, is, h) = any_later (λ z. P (f z)) w zs
      (any_unmapped zs (k, y, omega (arith, low), is, h))

  pub all_mapped : (zs : List Z) → AllByRecursion (λ z. P (f z)) zs → AllByRecursion P (map f zs)
  all_mapped [] h = tt
  all_mapped (z ∷ zs) h = (h.0, all_mapped zs h.1)

  pub all_unmapped : (zs : List Z) → AllByRecursion P (map f zs) → AllByRecursion (λ z. P (f z)) zs
  all_unmapped [] h = tt
  all_unmapped (z ∷ zs) h = (h.0, all_unmapped zs h.1)

-- ---- each table spells its own keys

own_places : (key : List ℕ) → IsSameKey key key
own_places key = let all = all_more (λ p. Any (λ q. q ≡ p) key) (HasPlace key) (λ p h. record { one = h }) key
    (all_own (λ p q. q ≡ p) (λ p. refl) key) in (all, all)

own_keys : (keys : List (List ℕ)) → AreSameKeys keys keys
own_keys keys = let all = all_more (λ k. Any (λ m. IsSameKey k m) keys) (HasKey keys) (λ k h. record { one = h })
    keys (all_own IsSameKey own_places keys) in (all, all)

-- where its indexes compare by bytes
pub own_spelling : (t : Table) → AllByRecursion (λ o. undirected o ≡ plain) t.orders
    → IsSpelling t (spelling_of t)
own_spelling t orders = record {
  primary = own_places t.primary;
  uniques = own_keys t.uniques;
  orders = orders;
  meant = all_more (λ r. Any (λ m. Names r m) t.references) (IsMeant t.references) (λ r h. record { one = h })
      t.references (all_own Names (λ r. inl refl) t.references);
  written = all_more (λ m. Any (λ r. Names r m) t.references) (IsWritten t.references) (λ m h. record { one = h })
      t.references (all_own (λ m r. Names r m) (λ r. inl refl) t.references);
}

-- ---- places

module _ {X : Type 0} (q : X → Bool) where
  -- a place is counted from the first number
  position_low : (n i : ℕ) (xs : List X) → position_from q n xs ≡ Some i → n ≤ i
  position_low n i [] h = absurd (let e = h in cc)
  position_low n i (x ∷ xs) h = one (q x) h (position_low (n + 1) i xs)
    where
      one : (b : Bool) → cond b (Some n) (position_from q (n + 1) xs) ≡ Some i
          → (position_from q (n + 1) xs ≡ Some i → n + 1 ≤ i) → n ≤ i
      one true h more = let e : n ≡ i = same_some h in omega (arith, e)
      one false h more = omega (arith, more h)

  -- what stands at the first place passes, and is what is found
  passes_there : (n at : ℕ) (x : X) (xs : List X) → position_from q n xs ≡ Some (n + at)
      → slice_get xs at ≡ Some x → q x ≡ true
  passes_there n at x [] h there = absurd (let e = h in cc)
  passes_there n zero x (y ∷ ys) h there = one (q y) refl h
    where
      one : (b : Bool) → q y ≡ b → cond b (Some n) (position_from q (n + 1) ys) ≡ Some (n + 0) → q x ≡ true
      one true is h = ap q (sym (same_some there)) ∙ is
      one false is h = absurd (let low = position_low (n + 1) (n + 0) ys h in omega (arith, low))
  passes_there n (suc at) x (y ∷ ys) h there = one (q y) h (λ k. passes_there (n + 1) at x ys k there)
    where
      one : (b : Bool) → cond b (Some n) (position_from q (n + 1) ys) ≡ Some (n + suc at)
          → (position_from q (n + 1) ys ≡ Some (n + 1 + at) → q x ≡ true) → q x ≡ true
      one true h more = absurd (let e : n ≡ n + suc at = same_some h in omega (arith, e))
      one false h more = more (h ∙ ap Some (omega arith))

  pub found_there : (n at : ℕ) (x : X) (xs : List X) → position_from q n xs ≡ Some (n + at)
      → slice_get xs at ≡ Some x → find q xs ≡ Some x
  found_there n at x [] h there = absurd (let e = h in cc)
  found_there n zero x (y ∷ ys) h there = one (q y) h
    where
      one : (b : Bool) → cond b (Some n) (position_from q (n + 1) ys) ≡ Some (n + 0)
          → cond b (Some y) (find q ys) ≡ Some x
      one true h = there
      one false h = absurd (let low = position_low (n + 1) (n + 0) ys h in omega (arith, low))
  found_there n (suc at) x (y ∷ ys) h there = one (q y) h (λ k. found_there (n + 1) at x ys k there)
    where
      one : (b : Bool) → cond b (Some n) (position_from q (n + 1) ys) ≡ Some (n + suc at)
          → (position_from q (n + 1) ys ≡ Some (n + 1 + at) → find q ys ≡ Some x)
          → cond b (Some y) (find q ys) ≡ Some x
      one true h more = absurd (let e : n ≡ n + suc at = same_some h in omega (arith, e))
      one false h more = more (h ∙ ap Some (omega arith))

found_passes : {X : Type 0} (p : X → Bool) (x : X) (xs : List X) → find p xs ≡ Some x → p x ≡ true
found_passes p x [] h = absurd (let e = h in cc)
found_passes p x (y ∷ ys) h = one (p y) refl h (found_passes p x ys)
  where
    one : (b : Bool) → p y ≡ b → cond b (Some y) (find p ys) ≡ Some x
        → (find p ys ≡ Some x → p x ≡ true) → p x ≡ true
    one true is h more = ap p (sym (same_some h)) ∙ is
    one false is h more = more h

-- the first of its name, where it is the first of its tree too, stands at one place
pub first_there : {X : Type 0} (p q : X → Bool) (n at : ℕ) (x : X) (xs : List X)
    → position_from q n xs ≡ Some (n + at) → slice_get xs at ≡ Some x → find p xs ≡ Some x
    → position_from p n xs ≡ Some (n + at)
first_there p q n at x [] h there found = absurd (let e = h in cc)
first_there p q n zero x (y ∷ ys) h there found = one (p y) refl found
  where
    one : (b : Bool) → p y ≡ b → cond b (Some y) (find p ys) ≡ Some x
        → cond b (Some n) (position_from p (n + 1) ys) ≡ Some (n + 0)
    one true is found = ap Some (omega arith)
    one false is found = absurd (let e = sym is ∙ ap p (same_some there) ∙ found_passes p x ys found in cc)
first_there p q n (suc at) x (y ∷ ys) h there found = one (p y) (q y) refl refl found h
    (λ more. first_there p q (n + 1) at x ys more there)
  where
    one : (b c : Bool) → p y ≡ b → q y ≡ c → cond b (Some y) (find p ys) ≡ Some x
        → cond c (Some n) (position_from q (n + 1) ys) ≡ Some (n + suc at)
        → (position_from q (n + 1) ys ≡ Some (n + 1 + at) → find p ys ≡ Some x
        → position_from p (n + 1) ys ≡ Some (n + 1 + at))
        → cond b (Some n) (position_from p (n + 1) ys) ≡ Some (n + suc at)
    one b true is is_q found h later = absurd (let e : n ≡ n + suc at = same_some h in omega (arith, e))
    one true false is is_q found h later = absurd (let e = sym is_q ∙ ap q (same_some found)
        ∙ passes_there q (n + 1) at x ys (h ∙ ap Some (omega arith)) there in cc)
    one false false is is_q found h later = later (h ∙ ap Some (omega arith)) found ∙ ap Some (omega arith)
