-- A kind of which each number is taken has as many items as may be.
use Rattle.std.proofs.Common.{◌≡◌, ◌⊎◌, inl, inr, ⊎_elim, ℕ, zero, suc, ℤ, pos, ◌≤◌}
use Rattle.std.proofs.Common.{◌≤ℤ◌, ◌<ℤ◌, ◌+ℤ◌, List, [], ◌∷◌}
use Rattle.std.proofs.Common.{map, length, Bool, true, false, Option, Some, None, Ok, refl, sym, ap, subst, ◌∙◌}
use Rattle.std.proofs.Common.{arith, eq-eqb, ◌==◌}
use Rattle.std.specs.Prelude.{int_le, int_lt, ◌&&◌, filter, count_by, cond}
use Rattle.std.proofs.lemmas.Bool.{and_parts, and_from, false_from_ne_true}
use Rattle.std.proofs.lemmas.Cmp.{int_eq_equiv}
use Rattle.std.proofs.lemmas.Int.{ints}
use Rattle.std.proofs.lemmas.List.{length-map}
use Rattle.std.proofs.lemmas.List.Sums.{length-filter}
use Rattle.std.proofs.lemmas.Map.Made.{length-le_from_is_member}
use Rattle.std.specs.Cmp.{signed_Decides}
use Rattle.std.specs.List.{AllByRecursion, IsDistinct, list_any}
use Rattle.std.specs.Ordering.{int_eq}
use Rattle.sqlite.specs.Effect.{Database}
use Rattle.sqlite.specs.State.{State}
use Rattle.store_sql.specs.Transactions.{Steps}
use Rattle.store_sql.proofs.Transactions.{steps_answer, steps_then}
use Rattle.package_tables.specs.Calls.{Answers}
use Rattle.package_tables.specs.Package.{Tables, tables_of, AreFormed}
use Rattle.package_tables.specs.Shapes.{identity_shape}
use Rattle.package_tables.specs.declared.rows.IdentityRow.{IdentityRow}
use Rattle.sheet_types.specs.Matrix.{is_within}
use Rattle.sheet_types.specs.Refuse.{greatest_items}
use Rattle.sheet_types.specs.Texts.{kind_of}
use Rattle.sheet_types.specs.World.{Package, kind_number, kind_is, item_key}
use Rattle.sheet_types.specs.declared.command.Item.{Item}
use Rattle.sheet_types.specs.declared.frame.Frame.{Frame}
use Rattle.sheet_types.specs.declared.receipt.MovedKind.{MovedKind}
use Rattle.sheet_types.proofs.Every.{All-weaker}
use Rattle.sheet_types.proofs.Order.{list_any-arranged, sum_by-arranged}
use Rattle.sheet_types.proofs.Same.{In, All-In, In-map, In-of_map, In-filter, any_in, any_at}
use Rattle.sheet_types.proofs.Sums.{sum_by-map}
use Rattle.identity_register.specs.Numbering.{Numbered, greatest_number, identity_row, is_taken, IsTaken, IsGap}
use Rattle.identity_register.specs.Numbering.{AreTaken, FindsGap}
use Rattle.identity_register.specs.Reads.{Says}
use Rattle.identity_register.specs.Changes.{IsNewItem, item_added}
use Rattle.identity_register.specs.Room.{IsFull, ComesIn}
use Rattle.identity_register.specs.LocalNumbers.{Grows}

-- ---- as many numbers as there are up to one

upto : ℕ → List ℤ
upto zero = []
upto (suc n) = pos (suc n) ∷ upto n

upto_length : (n : ℕ) → length (upto n) ≡ n
unfolding upto
upto_length zero = refl
upto_length (suc n) = ap suc (upto_length n)

upto_low : (n : ℕ) → AllByRecursion (λ z. (int_le (pos 1) z ≡ true) × (z ≤ℤ pos n)) (upto n)
unfolding upto
upto_low zero = tt
upto_low (suc n) = (
  (grind (arith, ints), omega (arith, ints)),
  All-weaker
      (λ z. (int_le (pos 1) z ≡ true) × (z ≤ℤ pos n)) (λ z. (int_le (pos 1) z ≡ true)
      × (z ≤ℤ pos (suc n)))
      (λ z h. (h.0, let low = h.1 in omega (arith, ints))) (upto n) (upto_low n),
)

other : (n : ℕ) (z : ℤ) → z ≤ℤ pos n → int_eq (pos (suc n)) z ≡ false
other n z low = false_from_ne_true (int_eq (pos (suc n)) z) (λ same. let none : pos (suc n) ≤ℤ pos n =
    subst (λ y. y ≤ℤ pos n) (sym ((signed_Decides (pos (suc n)) z).0 same)) low in omega (arith, ints))

upto_distinct : (n : ℕ) → IsDistinct int_eq (upto n)
unfolding upto IsDistinct
upto_distinct zero = tt
upto_distinct (suc n) = (
  All-weaker (λ z. (int_le (pos 1) z ≡ true) × (z ≤ℤ pos n))
      (λ z. int_eq (pos (suc n)) z ≡ false) (λ z h. other n z h.1) (upto n) (upto_low n),
  upto_distinct n,
)

upto_within : (n : ℕ) (q : ℤ) → list_any (int_eq q) (upto n) ≡ true → is_within (pos 1) (pos n) q ≡ true
upto_within n q there =
    let at = any_at (int_eq q) (upto n) there in
    let h = All-In (λ z. (int_le (pos 1) z ≡ true) × (z ≤ℤ pos n)) at.0 (upto n) (upto_low n) at.1 in
    let high = h.1 in
    subst (λ z. is_within (pos 1) (pos n) z ≡ true) (sym ((signed_Decides q at.0).0 at.2))
    (and_from (int_le (pos 1) at.0) (int_le at.0 (pos n)) h.0 (grind (arith, ints)))

-- where each number up to one is among some, there are as many of them
as_many : (n : ℕ) (ks : List ℤ) → ((q : ℤ) → is_within (pos 1) (pos n) q ≡ true
    → list_any (int_eq q) ks ≡ true)
    → n ≤ length ks
as_many n ks all = subst (λ m. m ≤ length ks) (upto_length n)
    (length-le_from_is_member int_eq_equiv (upto n) ks (upto_distinct n) (λ q there. all q (upto_within n q there)))

-- ---- the items of a kind

module _ (f : Frame) (p : Package) (t : Tables) (says : Says f p t) (kind : MovedKind) where
  abbrev of_kind : Numbered → Bool
  of_kind m = kind_is kind (kind_of m.item.content)

  kind_same : (a b : ℕ) → int_eq (pos a) (pos b) ≡ true → (b == a) ≡ true
  kind_same a b same = eq-eqb b a (let e : pos a ≡ pos b = (signed_Decides (pos a) (pos b)).0 same in cc)

  number_there : (q : ℤ) → is_taken (pos (kind_number kind)) q t ≡ true
      → list_any (int_eq q) (map (λ m. m.number) (filter of_kind says.numbered)) ≡ true
  number_there q taken =
      let test : IdentityRow → Bool = λ x. int_eq x.kind (pos (kind_number kind)) && int_eq x.local_id q in
      let rows : list_any test (map identity_row says.numbered) ≡ true =
      sym (list_any-arranged identity_shape.key test (map identity_row says.numbered))
      ∙ ap (list_any test) (sym says.identities) ∙ taken in
      let at = any_at test (map identity_row says.numbered) rows in
      let m = In-of_map identity_row at.0 says.numbered at.1 in
      let both = and_parts (int_eq (identity_row m.0).kind (pos (kind_number kind))) (int_eq m.0.number q)
      (ap test m.2 ∙ at.2) in
      let here : In m.0 (filter of_kind says.numbered) = In-filter of_kind m.0 says.numbered m.1
      (kind_same (kind_number (kind_of m.0.item.content)) (kind_number kind) both.0) in
      any_in (int_eq q) m.0.number (map (λ n. n.number) (filter of_kind says.numbered))
      (In-map (λ n. n.number) m.0 (filter of_kind says.numbered) here)
      ((signed_Decides q m.0.number).1 (sym ((signed_Decides m.0.number q).0 both.1)))

  counted : length (map (λ m. m.number) (filter of_kind says.numbered))
      ≡ count_by (λ i. kind_is kind (kind_of i.content)) p.items
  counted =
      length-map (filter of_kind says.numbered) (λ m. m.number) ∙ length-filter of_kind says.numbered
      ∙ sym (sum_by-map (λ i. cond (kind_is kind (kind_of i.content)) 1 0) (λ n. n.item) says.numbered)
      ∙ sym (sum_by-arranged item_key (λ i. cond (kind_is kind (kind_of i.content)) 1 0)
      (map (λ n. n.item) says.numbered))
      ∙ ap (count_by (λ i. kind_is kind (kind_of i.content))) (sym says.items)

  pub full : AreTaken (pos (kind_number kind)) t → greatest_items ≤ count_by
      (λ i. kind_is kind (kind_of i.content))
      p.items
  full taken = subst (λ n. greatest_items ≤ n) counted (as_many 1000000
      (map (λ m. m.number) (filter of_kind says.numbered)) (λ q range. number_there q (taken q range)))

-- a store of which each number of a kind is taken has no room for it
pub full_of : (kind : MovedKind) (db : Database) → (AreFormed db → AreTaken (pos (kind_number kind)) (tables_of db))
    → IsFull kind db
full_of kind db taken f p reads = full f p (tables_of db) reads.says kind (taken reads.formed)

-- ---- the first gap

-- the numbers below one are taken
abbrev pub AreTakenBelow : ℤ → ℤ → Tables → Type 0
AreTakenBelow kind bound t = (q : ℤ) → is_within (pos 1) greatest_number q ≡ true → q <ℤ bound
    → is_taken kind q t ≡ true

abbrev pub SoFar : ℤ → ℤ → Database → Database → Type 0
SoFar kind bound a b = (b ≡ a) × (AreFormed a → AreTakenBelow kind bound (tables_of a))

pub none_below : (kind : ℤ) (a : Database) → SoFar kind (pos 1) a a
none_below kind a = (
  refl,
  λ formed q range less. let from =
      (and_parts (int_le (pos 1) q) (int_le q greatest_number) range).0 in let none : ⊥ =
      omega (arith, ints) in absurd none,
)

below_or_same : (q k : ℤ) → q <ℤ (k +ℤ pos 1) → (q <ℤ k) ⊎ (q ≡ k)
below_or_same q k less = elim (int_lt q k) as (λ v. int_lt q k ≡ v → (q <ℤ k) ⊎ (q ≡ k))
    [ true ↦ λ low. inl (omega (arith, ints)) | false ↦ λ high. inr (omega (arith, ints)) ] refl

pub one_more_taken : {E F G : Type 0} (kind number next : ℤ) (taken : Bool) {old mid new : State}
    → number +ℤ pos 1 ≡ next → taken ≡ true → Steps {X = Unit {0}} {E = E} (λ _. SoFar kind number) old
    mid (Ok tt)
    → Steps {E = F} (Answers (IsTaken kind number)) mid new (Ok taken)
    → Steps {X = Unit {0}} {E = G} (λ _. SoFar kind next) old new (Ok tt)
one_more_taken {E} {F} {G} kind number next taken {old} {mid} {new} is_next is before now =
    steps_answer {E = F} {F = G} (λ _. SoFar kind next) tt
    (λ it. (
      it.2.0 ∙ it.1.0,
      λ formed q range less. ⊎_elim
          (λ low. it.1.1 formed q range low)
          (λ here. subst (λ k. is_taken kind k (tables_of old.now) ≡ true) (sym here)
          (let told : AreFormed old.now → taken ≡ is_taken kind number (tables_of old.now) =
          subst (λ (d : Database). AreFormed d → taken ≡ is_taken kind number (tables_of d)) it.1.0 it.2.1 in sym
          (told formed) ∙ is))
          (below_or_same q number (subst (λ k. q <ℤ k) (sym is_next) less)),
    ))
    (steps_then before now)

pub all_taken : {E F : Type 0} (kind number : ℤ) {old new : State} → int_le number greatest_number ≡ false
    → Steps {X = Unit {0}} {E = E} (λ _. SoFar kind number) old new (Ok tt)
    → Steps {E = F} (Answers (FindsGap kind)) old new (Ok None)
all_taken {E} {F} kind number past before =
    steps_answer {E = E} {F = F} (Answers (FindsGap kind)) None
    (λ it. (
      it.0,
      λ formed q range. it.1 formed q range (let high =
          (and_parts (int_le (pos 1) q) (int_le q greatest_number) range).1 in omega (arith, ints)),
    )) before

-- ---- what was found

pub gap_found : {E F : Type 0} (kind : ℤ) (found : Option ℤ) (number : ℤ) {old new : State}
    → found ≡ Some number
    → Steps {E = E} (Answers (FindsGap kind)) old new (Ok found)
    → Steps {E = F} (Answers (IsGap kind)) old new (Ok number)
gap_found {E} {F} kind found number {old} {new} is steps = steps_answer {E = E} {F = F} (Answers (IsGap kind)) number
    (λ it. (it.0, λ formed. subst (FindsGap kind (tables_of old.now)) is (it.1 formed))) steps

pub no_room : {E F : Type 0} (i : Item) (found : Option ℤ) {old new : State} → found ≡ None
    → Steps {E = E} (Answers (FindsGap (pos (kind_number (kind_of i.content))))) old new (Ok found)
    → Steps {E = F} (ComesIn i) old new (Ok false)
no_room {E} {F} i found {old} {new} is steps =
    steps_answer {E = E} {F = F} (ComesIn i) false (λ it. (
      it.0,
      full_of (kind_of i.content) old.now
          (λ formed. subst (FindsGap (pos (kind_number (kind_of i.content))) (tables_of old.now)) is (it.1 formed)),
    ))
    steps

pub came : {E F : Type 0} (i : Item) (there : Bool) {old new : State} → there ≡ true
    → Steps {E = E} (ComesIn i) old new (Ok there) → Steps {X = Unit {0}} {E = F}
    (λ _. Grows (IsNewItem i.identity) (item_added i)) old new (Ok tt)
came {E} {F} i there {old} {new} is steps = steps_answer {E = E} {F = F}
    (λ _. Grows (IsNewItem i.identity) (item_added i)) tt (λ it. subst (λ b. ComesIn i b old.now new.now) is it)
    steps
