-- Identities that came in one after the other, and the sorted ones beside them.
use Rattle.std.specs.Prelude.{◌≡◌, ℕ, Bool, true, false, cond, ◌||◌, List, [], ◌∷◌, ◌++◌, refl}
use Rattle.std.specs.Prelude.{bytes_eq}
use Rattle.std.proofs.Common.{sym, ap, ◌∙◌, append_assoc}
use Rattle.std.proofs.lemmas.List.{append-nil}
use Rattle.std.proofs.lemmas.List.Folds.{list_any-append}
use Rattle.std.proofs.lemmas.Map.Text.{is_eq-slice_cmp}
use Rattle.std.proofs.lemmas.Slice.Eq.{bytes_eq-Decides}
use Rattle.std.specs.List.{list_any}
use Rattle.std.specs.List.Sorted.{IsStrictlySortedBy}
use Rattle.std.specs.Ordering.{is_eq, is_lt, nat_cmp}
use Rattle.std.specs.Cmp.Lexicographic.{slice_cmp}
use Rattle.std.specs.declared.cmp.Ordering.TheVariants.{Less}
use Rattle.sheet_types.specs.Ordered.{is_among, is_before, IsArranged}
use Rattle.sheet_types.proofs.Basics.{bytes_eq_swap, or-false}
use Rattle.sheet_types.proofs.Every.{All-weaker}
use Rattle.cut.specs.Gathering.{IsGroup, Enters}
use Rattle.cut.specs.declared.group.Group.{Group}

-- a search by the order
pub contains_among : (id : List ℕ) (ks : List (List ℕ)) → list_any (λ k. is_eq (slice_cmp nat_cmp id k)) ks
    ≡ is_among ks id
contains_among id [] = refl
contains_among id (k ∷ ks) = ap (λ b. b || list_any (λ x. is_eq (slice_cmp nat_cmp id x)) ks)
    (is_eq-slice_cmp id k ∙ bytes_eq_swap id k) ∙ ap (λ b. bytes_eq k id || b) (contains_among id ks)

-- the order of the tree is that of the identities
pub sorted_arranged : (ks : List (List ℕ)) → IsStrictlySortedBy (slice_cmp nat_cmp) ks → IsArranged (λ id. id) ks
unfolding IsStrictlySortedBy
sorted_arranged [] h = tt
sorted_arranged (k ∷ ks) h = (
  All-weaker (λ y. slice_cmp nat_cmp k y ≡ Less) (λ y. is_before k y ≡ true)
      (λ y e. ap is_lt e) ks h.0,
  sorted_arranged ks h.1,
)

-- one more is among them
pub among-append : (xs ys : List (List ℕ)) (id : List ℕ) → is_among (xs ++ ys) id
    ≡ (is_among xs id || is_among ys id)
among-append xs ys id = list_any-append (λ x. bytes_eq x id) xs ys

or_swap : (a b : Bool) → (a || b) ≡ (b || a)
or_swap true true = refl
or_swap true false = refl
or_swap false true = refl
or_swap false false = refl

cond_or : (a b : Bool) → cond a true b ≡ (a || b)
cond_or true b = refl
cond_or false b = refl

-- one more came in, in both
pub enters_one : (id : List ℕ) (old new : Group) → IsGroup old → new.order.items ≡ old.order.items ++ id ∷ []
    → ((q : List ℕ) → list_any (λ k. is_eq (slice_cmp nat_cmp q k)) new.known.keys
    ≡ cond (is_eq (slice_cmp nat_cmp id q)) true (list_any (λ k. is_eq (slice_cmp nat_cmp q k)) old.known.keys))
    → Enters (id ∷ []) old new
enters_one id old new same is updates = record {
  same = λ q. sym (contains_among q new.known.keys) ∙ updates q ∙ cond_or (is_eq (slice_cmp nat_cmp id q)) _
      ∙ ap (λ b. b || list_any (λ k. is_eq (slice_cmp nat_cmp q k)) old.known.keys) (is_eq-slice_cmp id q)
      ∙ ap (λ b. bytes_eq id q || b) (contains_among q old.known.keys ∙ same q)
      ∙ or_swap (bytes_eq id q) (is_among old.order.items q)
      ∙ ap (λ b. is_among old.order.items q || b) (sym (or-false (bytes_eq id q)))
      ∙ sym (among-append old.order.items (id ∷ []) q) ∙ ap (λ l. is_among l q) (sym is);
  more = id ∷ [];
  behind = is;
  members = λ q. ap (λ l. is_among l q) is ∙ among-append old.order.items (id ∷ []) q;
}

-- one that is there is there already
absorbs : (a b : Bool) → (b ≡ true → a ≡ true) → a ≡ (a || b)
absorbs true b h = refl
absorbs false true h = h refl
absorbs false false h = refl

-- one that was there changes nothing
pub enters_none : (id : List ℕ) (old new : Group) → IsGroup old → new.order.items ≡ old.order.items
    → new.known.keys ≡ old.known.keys → list_any (λ k. is_eq (slice_cmp nat_cmp id k)) old.known.keys ≡ true
    → Enters (id ∷ []) old new
enters_none id old new same is keys there = record {
  same = λ q. ap (λ l. is_among l q) keys ∙ same q ∙ ap (λ l. is_among l q) (sym is);
  more = [];
  behind = is ∙ sym (append-nil old.order.items);
  members = λ q. ap (λ l. is_among l q) is ∙ absorbs (is_among old.order.items q) (is_among (id ∷ []) q) (λ h.
      ap (is_among old.order.items) (sym ((bytes_eq-Decides id q).0 (sym (or-false (bytes_eq id q)) ∙ h)))
      ∙ sym (same id) ∙ sym (contains_among id old.known.keys) ∙ there);
}

or_assoc : (a b c : Bool) → ((a || b) || c) ≡ (a || (b || c))
or_assoc true b c = refl
or_assoc false b c = refl

-- some, and then others
pub enters_then : (xs ys : List (List ℕ)) (a b c : Group) → Enters xs a b → Enters ys b c
    → Enters (xs ++ ys) a c
enters_then xs ys a b c first second = record {
  same = second.same;
  more = first.more ++ second.more;
  behind = second.behind ∙ ap (λ l. l ++ second.more) first.behind
      ∙ append_assoc a.order.items first.more second.more;
  members = λ q. second.members q ∙ ap (λ v. v || is_among ys q) (first.members q)
      ∙ or_assoc (is_among a.order.items q) (is_among xs q) (is_among ys q)
      ∙ ap (λ v. is_among a.order.items q || v) (sym (among-append xs ys q));
}

-- none
pub enters_nobody : (a : Group) → IsGroup a → Enters [] a a
enters_nobody a same = record {
  same = same;
  more = [];
  behind = sym (append-nil a.order.items);
  members = λ q. sym (or-false (is_among a.order.items q));
}
