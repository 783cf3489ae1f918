-- The first tile of some items whose place is taken, when one item more is looked at.
use Rattle.std.proofs.Common.{◌≡◌, refl, sym, ap, subst, ◌∙◌, ℕ, ℤ, zero, suc, ◌+◌, List, []}
use Rattle.std.proofs.Common.{◌∷◌, ◌++◌, Bool, true}
use Rattle.std.proofs.Common.{false, cond, take, Option, Some, None, arith}
use Rattle.std.specs.Prelude.{find, option_map, unsigned_abs, slice_get}
use Rattle.std.specs.Bool.{then_some}
use Rattle.std.specs.List.{list_any}
use Rattle.sheet_types.specs.Ordered.{arranged, is_before}
use Rattle.sheet_types.specs.Refuse.{is_at, takes_place, place_key, place_of}
use Rattle.sheet_types.specs.World.{Package}
use Rattle.sheet_types.specs.declared.command.Content.{Content}
use Rattle.sheet_types.specs.declared.command.Content.TheVariants.{Tile}
use Rattle.sheet_types.specs.declared.command.Item.{Item}
use Rattle.world_decisions.specs.DecidingMerges.{clash_of, first_clash, nearer_clash}
use Rattle.world_decisions.specs.declared.deciding_merges.Clash.{Clash}
use Rattle.world_decisions.proofs.FirstInOrder.{nearer, first_of_more}

-- what was looked up of a tile
pub clash_told : (item : Item) (p : Package) (zoom column row : ℤ) (bytes : List ℕ) (taken : Bool)
    → item.content ≡ Tile zoom column row bytes → taken ≡ list_any (λ i. is_at zoom column row i.content)
    p.items
    → then_some {T = Clash} taken (record {
      place = unsigned_abs zoom ∷ unsigned_abs column ∷ unsigned_abs row
          ∷ [];
      identity = item.identity;
    }) ≡ then_some (takes_place p item.content) (clash_of item)
clash_told item p zoom column row bytes taken is told =
    let Clashes : Content → Type 0 = λ c. then_some {T = Clash} taken
    (record {
      place = unsigned_abs zoom ∷ unsigned_abs column ∷ unsigned_abs row ∷ [];
      identity = item.identity;
    }) ≡ then_some {T = Clash} (takes_place p c)
    (record { place = place_of c; identity = item.identity }) in
    subst Clashes (sym is) (ap (λ b. then_some b (clash_of (record
    { identity = item.identity; content = Tile zoom column row bytes }))) told)

-- the first of two is so in other words
nearer_of : (found : Option Item) (x : Item) → clash_of (nearer place_key found x)
    ≡ nearer_clash (option_map clash_of found) (clash_of x)
nearer_of None x = refl
nearer_of (Some y) x = elim (is_before (place_key x) (place_key y)) as
    (λ v. clash_of (cond v x y) ≡ cond v (clash_of x) (clash_of y)) [ true ↦ refl | false ↦ refl ]

-- the first of one item more
clash_more : (p : Package) (xs : List Item) (x : Item) → first_clash p (xs ++ x ∷ [])
    ≡ cond (takes_place p x.content) (Some (nearer_clash (first_clash p xs) (clash_of x))) (first_clash p xs)
clash_more p xs x =
    let found : Option Item = find (λ i. takes_place p i.content) (arranged place_key xs) in
    ap (option_map clash_of) (first_of_more place_key (λ i. takes_place p i.content) xs x)
    ∙ each (takes_place p x.content) (find (λ i. takes_place p i.content) (arranged place_key xs))
  where
    each : (b : Bool) (found : Option Item) → option_map clash_of (cond b (Some (nearer place_key found x)) found)
        ≡ cond b (Some (nearer_clash (option_map clash_of found) (clash_of x))) (option_map clash_of found)
    each true found = ap Some (nearer_of found x)
    each false found = refl

-- the items so far and one more
one_more : {X : Type 0} (xs : List X) (n : ℕ) (x : X) → slice_get xs n ≡ Some x
    → take (n + 1) xs ≡ take n xs ++ x ∷ []
one_more [] n x there = absurd (let e = there in cc)
one_more (y ∷ ys) zero x there = let same : y ≡ x = cc in ap (λ z. z ∷ []) same
one_more (y ∷ ys) (suc n) x there = let on : suc n + 1 ≡ suc (n + 1) =
    omega arith in ap (λ k. take k (y ∷ ys)) on ∙ ap (λ zs. y ∷ zs) (one_more ys n x there)

-- one that does not clash
pub clash_passed : (p : Package) (items : List Item) (n : ℕ) (x : Item) (first : Option Clash)
    → slice_get items n ≡ Some x → None ≡ then_some (takes_place p x.content) (clash_of x)
    → first ≡ first_clash p (take n items) → first ≡ first_clash p (take (n + 1) items)
clash_passed p items n x first place none is =
    is
    ∙ sym (ap (first_clash p) (one_more items n x place) ∙ clash_more p (take n items) x
    ∙ ap (λ b. cond b (Some (nearer_clash (first_clash p (take n items)) (clash_of x)))
    (first_clash p (take n items))) (free (takes_place p x.content) none))
  where
    free : (b : Bool) → None ≡ then_some b (clash_of x) → b ≡ false
    free true none = absurd (let e = none in cc)
    free false none = refl

-- and one that does
pub clash_found : (p : Package) (items : List Item) (n : ℕ) (x : Item) (first : Option Clash) (clash : Clash)
    → slice_get items n ≡ Some x → Some clash ≡ then_some (takes_place p x.content) (clash_of x)
    → first ≡ first_clash p (take n items)
    → Some (nearer_clash first clash) ≡ first_clash p (take (n + 1) items)
clash_found p items n x first clash place some is =
    let both = taken (takes_place p x.content) some in
    ap (λ c. Some (nearer_clash first c)) both.1 ∙ ap (λ f. Some (nearer_clash f (clash_of x))) is
    ∙ sym (ap (first_clash p) (one_more items n x place) ∙ clash_more p (take n items) x
    ∙ ap (λ b. cond b (Some (nearer_clash (first_clash p (take n items)) (clash_of x)))
    (first_clash p (take n items))) both.0)
  where
    taken : (b : Bool) → Some clash ≡ then_some b (clash_of x) → (b ≡ true) × (clash ≡ clash_of x)
    taken true some = (refl, cc)
    taken false some = absurd (let e = some in cc)
