-- What is found among some UUIDs, and with one more.
use Rattle.std.proofs.Common.{eqb-true, eq-eqb, ltb-true, ltb-false, append_assoc, ◌≡◌, ◌==◌, ◌&&◌}
use Rattle.std.proofs.Common.{◌<◌, ◌≤◌, ◌+◌}
use Rattle.std.proofs.Common.{◌∙◌, ℕ, suc, Bool, true, false, cond, List, [], ◌∷◌, ◌++◌, length}
use Rattle.std.proofs.Common.{refl, sym, ap, subst}
use Rattle.std.proofs.Common.{arith, Option, Some, None, filter, map, take, get_or, nat_lt}
use Rattle.std.specs.Char.{to_ascii_lowercase}
use Rattle.std.specs.List.{AllByRecursion}
use Rattle.std.proofs.lemmas.List.{take_more}
use Rattle.sheet_types.specs.Texts.{uuid_text}
use Rattle.command_verbs.specs.Names.{begins}
use Rattle.command_names.specs.Searching.{IsFound, IsNearest, found_with, is_nearer, may_name, named_too, shared}
use Rattle.command_names.specs.Searching.{shared_by}
use Rattle.command_names.specs.declared.searching.Found.{Found}
use Rattle.command_names.specs.declared.searching.Found.TheVariants.{One, Two, Nearest}

-- ---- a word begins a text where all its characters are shared

bool_same : (a b : Bool) → (a ≡ true → b ≡ true) → (b ≡ true → a ≡ true) → a ≡ b
bool_same true b so back = sym (so refl)
bool_same false true so back = back refl
bool_same false false so back = refl

suc_same : (n m : ℕ) → (n == m) ≡ ((n + 1) == suc m)
suc_same n m =
    bool_same (n == m) ((n + 1) == suc m) (λ e. eq-eqb (n + 1) (suc m) (omega (arith, eqb-true n m e)))
    (λ e. eq-eqb n m (omega (arith, eqb-true (n + 1) (suc m) e)))

none_same : (m : ℕ) → false ≡ (0 == suc m)
none_same m = bool_same false (0 == suc m) (λ e. absurd (cc)) (λ e. absurd (omega (arith, eqb-true 0 (suc m) e)))

shares_by : (v : Bool) (n m : ℕ) (b : Bool) → b ≡ (n == m) → (v && b) ≡ (cond v (n + 1) 0 == suc m)
shares_by true n m b e = e ∙ suc_same n m
shares_by false n m b e = none_same m

pub shares_all : (word text : List ℕ) → begins word text ≡ (shared word text == length word)
shares_all [] text = refl
shares_all (d ∷ ds) [] = none_same (length ds)
shares_all (d ∷ ds) (b ∷ bs) = shares_by (to_ascii_lowercase d == b) (shared ds bs) (length ds) (begins ds bs)
    (shares_all ds bs)

-- ---- one more behind others

pub all_behind : (P : List ℕ → Type 0) (xs : List (List ℕ)) (x : List ℕ) → AllByRecursion P xs → P x
    → AllByRecursion P (xs ++ (x ∷ []))
all_behind P [] x all it = (it, tt)
all_behind P (y ∷ ys) x all it = (all.0, all_behind P ys x all.1 it)

filter_by : (p : List ℕ → Bool) (y : List ℕ) (ys : List (List ℕ)) (x : List ℕ) (more : List (List ℕ))
    (v : Bool)
    → filter p (ys ++ (x ∷ [])) ≡ filter p ys ++ more
    → cond v (y ∷ filter p (ys ++ (x ∷ []))) (filter p (ys ++ (x ∷ [])))
    ≡ cond v (y ∷ filter p ys) (filter p ys)
    ++ more
filter_by p y ys x more true e = ap (λ l. y ∷ l) e
filter_by p y ys x more false e = e

pub kept_behind : (p : List ℕ → Bool) (xs : List (List ℕ)) (x : List ℕ) → p x ≡ true
    → filter p (xs ++ (x ∷ [])) ≡ filter p xs ++ (x ∷ [])
kept_behind p [] x is = rw is refl
kept_behind p (y ∷ ys) x is = filter_by p y ys x (x ∷ []) (p y) (kept_behind p ys x is)

append_none : (xs : List (List ℕ)) → xs ++ [] ≡ xs
append_none [] = refl
append_none (x ∷ xs) = ap (λ l. x ∷ l) (append_none xs)

left_out : (p : List ℕ → Bool) (xs : List (List ℕ)) (x : List ℕ) → p x ≡ false
    → filter p (xs ++ (x ∷ [])) ≡ filter p xs ++ []
left_out p [] x is = rw is refl
left_out p (y ∷ ys) x is = filter_by p y ys x [] (p y) (left_out p ys x is)

pub left_behind : (p : List ℕ → Bool) (xs : List (List ℕ)) (x : List ℕ) → p x ≡ false
    → filter p (xs ++ (x ∷ [])) ≡ filter p xs
left_behind p xs x is = left_out p xs x is ∙ append_none (filter p xs)

-- ---- which comes nearest

all_weaker : (P Q : List ℕ → Type 0) (xs : List (List ℕ)) → ((x : List ℕ) → P x → Q x)
    → AllByRecursion P xs
    → AllByRecursion Q xs
all_weaker P Q [] so all = tt
all_weaker P Q (x ∷ xs) so all = (so x all.0, all_weaker P Q xs so all.1)

all_round : (P : List ℕ → Type 0) (front : List (List ℕ)) (x : List ℕ) (back : List (List ℕ))
    → AllByRecursion P front → P x → AllByRecursion P back → AllByRecursion P (front ++ (x ∷ back))
all_round P [] x back before it behind = (it, behind)
all_round P (y ∷ ys) x back before it behind = (before.0, all_round P ys x back before.1 it behind)

nearer_than_none : (word : List ℕ) (before : List (List ℕ)) (id : List ℕ) → 0 < shared_by word id
    → IsNearest word before None → IsNearest word (before ++ (id ∷ [])) (Some id)
nearer_than_none word before id some it = (
  before,
  [],
  refl,
  some,
  all_weaker (λ i. shared_by word i ≡ 0) (λ i. shared_by word i < shared_by word id) before
      (λ i none. subst (λ n. n < shared_by word id) (sym none) some) it,
  tt,
)

none_still : (word : List ℕ) (before : List (List ℕ)) (id : List ℕ) → shared_by word id ≤ 0
    → IsNearest word before None → IsNearest word (before ++ (id ∷ [])) None
none_still word before id few it = all_behind (λ i. shared_by word i ≡ 0) before id it (omega (arith, few))

nearer_than_one : (word : List ℕ) (before : List (List ℕ)) (best id : List ℕ)
    → shared_by word best < shared_by word id
    → IsNearest word before (Some best) → IsNearest word (before ++ (id ∷ [])) (Some id)
nearer_than_one word before best id more (front, back, e, some, fewer, no_more) =
    let below : List ℕ → Type 0 = λ i. shared_by word i < shared_by word id in
    let ahead : AllByRecursion below front = all_weaker (λ i. shared_by word i < shared_by word best) below front
    (λ i less. omega (arith, less, more)) fewer in
    let behind : AllByRecursion below back = all_weaker (λ i. shared_by word i ≤ shared_by word best) below back
    (λ i less. omega (arith, less, more)) no_more in (
      before,
      [],
      refl,
      omega (arith, some, more),
      subst (AllByRecursion below) (sym e)
          (all_round below front best back ahead more behind),
      tt,
    )

one_still : (word : List ℕ) (before : List (List ℕ)) (best id : List ℕ)
    → shared_by word id ≤ shared_by word best
    → IsNearest word before (Some best) → IsNearest word (before ++ (id ∷ [])) (Some best)
one_still word before best id few (front, back, e, some, fewer, no_more) = (
  front,
  back ++ (id ∷ []),
  ap (λ l. l ++ (id ∷ [])) e ∙ append_assoc front (best ∷ back) (id ∷ []),
  some,
  fewer,
  all_behind (λ i. shared_by word i ≤ shared_by word best) back id no_more few,
)

-- ---- what is found with one more

named : (word : List ℕ) (before : List (List ℕ)) (f : Found) (id : List ℕ) → may_name word id ≡ true
    → IsFound word before f → IsFound word (before ++ (id ∷ [])) (named_too f id)
named word before (Nearest near) id is it = kept_behind (may_name word) before id is
    ∙ ap (λ l. l ++ (id ∷ [])) it.0
named word before (One first) id is it = (
  [],
  kept_behind (may_name word) before id is
      ∙ ap (λ l. l ++ (id ∷ [])) it,
)
named word before (Two first second) id is (more, it) = (
  more ++ (id ∷ []),
  kept_behind (may_name word) before id is
      ∙ ap (λ l. l ++ (id ∷ [])) it,
)

unnamed : (word : List ℕ) (before : List (List ℕ)) (f : Found) (id : List ℕ) (v : Bool)
    → may_name word id ≡ false
    → is_nearer word f id ≡ v
    → IsFound word before f → IsFound word (before ++ (id ∷ [])) (cond v (Nearest (Some id)) f)
unnamed word before (One first) id true left is it = absurd (cc)
unnamed word before (One first) id false left is it = left_behind (may_name word) before id left ∙ it
unnamed word before (Two first second) id true left is it = absurd (cc)
unnamed word before (Two first second) id false left is (more, it) =
    (more, left_behind (may_name word) before id left ∙ it)
unnamed word before (Nearest None) id true left is it = (
  left_behind (may_name word) before id left ∙ it.0,
  nearer_than_none word before id
      (ltb-true 0 (shared_by word id) is) it.1,
)
unnamed word before (Nearest None) id false left is it = (
  left_behind (may_name word) before id left ∙ it.0,
  none_still word before id (ltb-false 0 (shared_by word id) is)
      it.1,
)
unnamed word before (Nearest (Some best)) id true left is it = (
  left_behind (may_name word) before id left ∙ it.0,
  nearer_than_one word before best id
      (ltb-true (shared_by word best) (shared_by word id) is) it.1,
)
unnamed word before (Nearest (Some best)) id false left is it = (
  left_behind (may_name word) before id left ∙ it.0,
  one_still word before best id
      (ltb-false (shared_by word best) (shared_by word id) is) it.1,
)

found_by : (word : List ℕ) (before : List (List ℕ)) (f : Found) (id : List ℕ) (v : Bool)
    → may_name word id ≡ v
    → IsFound word before f → IsFound word (before ++ (id ∷ []))
    (cond v (named_too f id) (cond (is_nearer word f id) (Nearest (Some id)) f))
found_by word before f id true is it = named word before f id is it
found_by word before f id false is it = unnamed word before f id (is_nearer word f id) is refl it

pub found_more : (word : List ℕ) (before : List (List ℕ)) (f : Found) (id : List ℕ)
    → IsFound word before f → IsFound word (before ++ (id ∷ [])) (found_with word f id)
found_more word before f id it =
    found_by word before f id (shared_by word id == length word) (shares_all word (uuid_text id)) it
