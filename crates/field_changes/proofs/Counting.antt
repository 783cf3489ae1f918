-- Counts and places of contents, with one more.
use Rattle.std.specs.Prelude.{◌≡◌, ◌+◌, ℕ, zero, suc, Bool, true, false, cond, ◌&&◌, List, []}
use Rattle.std.specs.Prelude.{◌∷◌, ◌++◌, Option}
use Rattle.std.specs.Prelude.{Some, None, unwrap_or, length, map, filter, bytes_eq, nat_eq, count_by, slice_get, refl}
use Rattle.std.proofs.Common.{sym, ap, subst, ◌∙◌, ◌≤◌, take, arith}
use Rattle.std.proofs.lemmas.List.Sums.{count_by-le-length}
use Rattle.std.specs.Ordering.{nat_cmp}
use Rattle.std.specs.Cmp.Lexicographic.{slice_cmp}
use Rattle.std.specs.BTreeMap.{BTreeMap, get}
use Rattle.std.proofs.lemmas.Bool.Decides.{nat_tests}
use Rattle.std.proofs.lemmas.List.{map-append, length-map, append-nil}
use Rattle.std.proofs.lemmas.List.Elements.{filter-append}
use Rattle.std.proofs.lemmas.List.Sums.{length-filter}
use Rattle.sheet_types.proofs.Sums.{count-cons}
use Rattle.sheet_types.specs.Cut.{identities}
use Rattle.sheet_types.specs.declared.command.Content.{Content}
use Rattle.sheet_types.specs.declared.command.Item.{Item}
use Rattle.field_changes.specs.Keys.{same_content, rank_key}
use Rattle.field_changes.specs.Naming.{alike, copies}
use Rattle.field_changes.proofs.Contents.{same_swap, alike_same, copies_same}

pub count_snoc : {X : Type 0} (p : X → Bool) (xs : List X) (x : X) (b : Bool) → p x ≡ b
    → count_by p (xs ++ x ∷ []) ≡ count_by p xs + cond b 1 0
count_snoc p [] x b e = let h : count_by p (x ∷ []) ≡ cond b 1 0 + count_by p [] =
    count-cons p x [] b e in omega (arith, h)
count_snoc p (y ∷ ys) x b e =
    let more : count_by p (ys ++ x ∷ []) ≡ count_by p ys + cond b 1 0 = count_snoc p ys x b e in
    let new : count_by p (y ∷ (ys ++ x ∷ [])) ≡ cond (p y) 1 0 + count_by p (ys ++ x ∷ []) =
    count-cons p y (ys ++ x ∷ []) (p y) refl in
    let old : count_by p (y ∷ ys) ≡ cond (p y) 1 0 + count_by p ys = count-cons p y ys (p y) refl in
    omega (arith, more, new, old)

-- one more of a content
pub counted : {X : Type 0} (of : X → Content) (m new : BTreeMap (List ℕ) ℕ) (xs : List X) (x : X) (n : ℕ)
    → ((c : Content) → unwrap_or (get (slice_cmp nat_cmp) m (rank_key 0 c)) 0 ≡ copies of c xs)
    → n ≡ unwrap_or (get (slice_cmp nat_cmp) m (rank_key 0 (of x))) 0
    → ((q : List ℕ) → get (slice_cmp nat_cmp) new q ≡ cond (bytes_eq (rank_key 0 (of x)) q) (Some (n + 1))
    (get (slice_cmp nat_cmp) m q))
    → (c : Content) → unwrap_or (get (slice_cmp nat_cmp) new (rank_key 0 c)) 0 ≡ copies of c (xs ++ x ∷ [])
counted of m new xs x n was is step c =
    ap (λ o. unwrap_or o 0) (step (rank_key 0 c))
    ∙ elim (same_content (of x) c) as (λ b. same_content (of x) c ≡ b
    → unwrap_or (cond b (Some (n + 1)) (get (slice_cmp nat_cmp) m (rank_key 0 c))) 0
    ≡ copies of c (xs ++ x ∷ [])) [
      | true ↦ λ e.
          let same : n ≡ copies of c xs = is ∙ was (of x) ∙ copies_same of (of x) c xs e in
          let more : copies of c (xs ++ x ∷ []) ≡ copies of c xs + 1 =
          count_snoc (λ y. same_content c (of y)) xs x true (same_swap c (of x) ∙ e) in
          omega (arith, same, more)
      | false ↦ λ e.
          let old : unwrap_or (get (slice_cmp nat_cmp) m (rank_key 0 c)) 0 ≡ copies of c xs = was c in
          let more : copies of c (xs ++ x ∷ []) ≡ copies of c xs + 0 =
          count_snoc (λ y. same_content c (of y)) xs x false (same_swap c (of x) ∙ e) in
          omega (arith, old, more)
    ] refl

suc_same : (m n : ℕ) → nat_eq (suc m) (suc n) ≡ nat_eq m n
suc_same m n = grind (arith, nat_tests)

suc_zero : (m : ℕ) → nat_eq (suc m) 0 ≡ false
suc_zero m = grind (arith, nat_tests)

zero_suc : (m : ℕ) → nat_eq 0 (suc m) ≡ false
zero_suc m = grind (arith, nat_tests)

-- what stands at each place of a list with one more
pub get_snoc : {X : Type 0} (xs : List X) (x : X) (k : ℕ) → slice_get (xs ++ x ∷ []) k
    ≡ cond (nat_eq (length xs) k) (Some x) (slice_get xs k)
get_snoc [] x zero = refl
get_snoc [] x (suc k) = ap (λ b. cond b (Some x) None) (sym (zero_suc k))
get_snoc (y ∷ ys) x zero = ap (λ b. cond b (Some x) (Some y)) (sym (suc_zero (length ys)))
get_snoc (y ∷ ys) x (suc k) = get_snoc ys x k ∙ ap (λ b. cond b (Some x) (slice_get ys k))
    (sym (suc_same (length ys) k))

alike_long : (c : Content) (left : List Item) → length (alike c left) ≡ copies (λ i. i.content) c left
alike_long c left = length-map (filter (λ i. same_content c i.content) left) (λ (i : Item). i.identity)
    ∙ length-filter (λ i. same_content c i.content) left

alike_snoc : (c : Content) (left : List Item) (i : Item) → alike c (left ++ i ∷ []) ≡ alike c left
    ++ identities (filter (λ j. same_content c j.content) (i ∷ []))
alike_snoc c left i = ap identities (filter-append (λ j. same_content c j.content) left (i ∷ []))
    ∙ map-append (λ j. j.identity) (filter (λ j. same_content c j.content) left)
    (filter (λ j. same_content c j.content) (i ∷ []))

and_false : (b : Bool) → (b && false) ≡ false
and_false true = refl
and_false false = refl

and_true : (b : Bool) → (b && true) ≡ b
and_true true = refl
and_true false = refl

-- one more item, behind those like it
pub placed : (m new : BTreeMap (List ℕ) (List ℕ)) (left : List Item) (i : Item) (n : ℕ)
    → ((c : Content) (place : ℕ) → get (slice_cmp nat_cmp) m (rank_key place c)
    ≡ slice_get (alike c left) place)
    → n ≡ copies (λ j. j.content) i.content left
    → ((q : List ℕ) → get (slice_cmp nat_cmp) new q ≡ cond (bytes_eq (rank_key n i.content) q) (Some i.identity)
    (get (slice_cmp nat_cmp) m q))
    → (c : Content) (place : ℕ) → get (slice_cmp nat_cmp) new (rank_key place c)
    ≡ slice_get (alike c (left ++ i ∷ [])) place
placed m new left i n was is step c place =
    step (rank_key place c)
    ∙ elim (same_content i.content c) as (λ b. same_content i.content c ≡ b
    → cond (nat_eq n place && b) (Some i.identity) (get (slice_cmp nat_cmp) m (rank_key place c))
    ≡ slice_get (alike c (left ++ i ∷ [])) place) [
      | true ↦ λ e.
          let long : length (alike c left) ≡ n = alike_long c left
          ∙ sym (copies_same (λ j. j.content) i.content c left e) ∙ sym is in
          let here : alike c (left ++ i ∷ []) ≡ alike c left ++ i.identity ∷ [] =
          alike_snoc c left i ∙ ap (λ b. alike c left ++ identities (cond b (i ∷ []) []))
          (same_swap c i.content ∙ e) in
          ap (λ b. cond b (Some i.identity) (get (slice_cmp nat_cmp) m (rank_key place c))) (and_true (nat_eq n place))
          ∙ ap (λ o. cond (nat_eq n place) (Some i.identity) o) (was c place)
          ∙ ap (λ k. cond (nat_eq k place) (Some i.identity) (slice_get (alike c left) place)) (sym long)
          ∙ sym (get_snoc (alike c left) i.identity place)
          ∙ ap (λ l. slice_get l place) (sym here)
      | false ↦ λ e.
          let here : alike c (left ++ i ∷ []) ≡ alike c left =
          alike_snoc c left i ∙ ap (λ b. alike c left ++ identities (cond b (i ∷ []) []))
          (same_swap c i.content ∙ e) ∙ append-nil (alike c left) in
          ap (λ b. cond b (Some i.identity) (get (slice_cmp nat_cmp) m (rank_key place c)))
          (and_false (nat_eq n place)) ∙ was c place ∙ ap (λ l. slice_get l place) (sym here)
    ] refl

-- no more than were passed
pub taken_few : {X : Type 0} (xs : List X) (i : ℕ) → length (take i xs) ≤ i
taken_few [] zero = omega arith
taken_few [] (suc i) = omega arith
taken_few (x ∷ xs) zero = omega arith
taken_few (x ∷ xs) (suc i) = let rest : length (take i xs) ≤ i = taken_few xs i in omega (arith, rest)

pub filtered_few : {X : Type 0} (p : X → Bool) (xs : List X) (i : ℕ) → length (filter p (take i xs)) ≤ i
filtered_few p xs i =
    let same : length (filter p (take i xs)) ≡ count_by p (take i xs) = length-filter p (take i xs) in
    let less : count_by p (take i xs) ≤ length (take i xs) = count_by-le-length p (take i xs) in
    let few : length (take i xs) ≤ i = taken_few xs i in
    omega (arith, same, less, few)
