-- The least of some identities.
use Rattle.std.specs.Prelude.{◌≡◌, ℕ, ◌+◌, ◌<◌, Bool, true, false, cond, ◌||◌, List, []}
use Rattle.std.specs.Prelude.{◌∷◌, ◌++◌, find, take}
use Rattle.std.specs.Prelude.{length, refl, Option, None, Some, bytes_eq}
use Rattle.std.proofs.Common.{sym, ap, subst, ◌∙◌, get_or}
use Rattle.std.proofs.lemmas.Bool.{true≢false}
use Rattle.std.proofs.lemmas.List.{append-nil}
use Rattle.std.proofs.lemmas.Slice.Eq.{bytes_eq-Decides}
use Rattle.std.specs.List.{AllByRecursion}
use Rattle.std.specs.Option.{option_to_list}
use Rattle.sheet_types.specs.Ordered.{is_among, is_before, put, arranged, least}
use Rattle.sheet_types.specs.declared.command.Relation.{Relation}
use Rattle.sheet_types.proofs.Arranging.{not_before_trans}
use Rattle.sheet_types.proofs.Basics.{bytes_eq_itself, before-differs, before_not_after, before_other_way, or-true}
use Rattle.sheet_types.proofs.Every.{All-weaker, All-append}
use Rattle.sheet_types.proofs.Same.{In, any_at, All-In}
use Rattle.cut.specs.Gathering.{IsLeast, lesser, torn_end, torn_ends, AreSame}
use Rattle.cut.proofs.Lists.{flat_more}
use Rattle.cut.proofs.Members.{among-append}

not_before_itself : (k : List ℕ) → is_before k k ≡ false
not_before_itself k = elim (is_before k k) as (λ v. is_before k k ≡ v → v ≡ false) [
  | true ↦ λ e. absurd (true≢false (sym (bytes_eq_itself k) ∙ before-differs k k e))
  | false ↦ λ e. refl
] refl

or_left : (a b : Bool) → a ≡ true → (a || b) ≡ true
or_left a b h = ap (λ v. v || b) h

or_right : (a b : Bool) → b ≡ true → (a || b) ≡ true
or_right a b h = ap (λ v. a || v) h ∙ or-true a

last_among : (ids : List (List ℕ)) (id : List ℕ) → is_among (ids ++ id ∷ []) id ≡ true
last_among ids id = among-append ids (id ∷ []) id ∙ or_right (is_among ids id) (is_among (id ∷ []) id)
    (or_left (bytes_eq id id) false (bytes_eq_itself id))

-- one more, or none
pub least_more : (ids : List (List ℕ)) (so_far end : Option (List ℕ)) → IsLeast ids so_far
    → IsLeast (ids ++ option_to_list end) (lesser so_far end)
least_more ids so_far None h = subst (λ l. IsLeast l (lesser so_far None)) (sym (append-nil ids)) (same so_far h)
  where
    same : (o : Option (List ℕ)) → IsLeast ids o → IsLeast ids (lesser o None)
    same None g = g
    same (Some k) g = g
least_more ids None (Some id) none = subst (λ l. IsLeast (l ++ id ∷ []) (Some id)) (sym none)
    (or_left (bytes_eq id id) false (bytes_eq_itself id), (not_before_itself id, tt))
least_more ids (Some known) (Some id) h = elim (is_before id known) as
    (λ v. is_before id known ≡ v → IsLeast (ids ++ id ∷ []) (cond v (Some id) (Some known))) [
      | true ↦ λ e. (
        last_among ids id,
        All-append (λ other. is_before other id ≡ false) ids (id ∷ [])
            (All-weaker (λ other. is_before other known ≡ false) (λ other. is_before other id ≡ false)
            (λ other g. not_before_trans id known other (before_not_after id known e) g) ids h.1)
            (not_before_itself id, tt),
      )
      | false ↦ λ e. (
        among-append ids (id ∷ []) known ∙ or_left (is_among ids known) (is_among (id ∷ []) known) h.0,
        All-append (λ other. is_before other known ≡ false) ids (id ∷ []) h.1 (e, tt),
      )
    ] refl

-- one link more, of which an end is torn or none is
pub torn_more : (set : List ℕ → Bool) (links : List Relation) (i : ℕ) (l : Relation) → i < length links
    → l ≡ get_or links i l → torn_ends set (take i links) ++ option_to_list (torn_end set l)
    ≡ torn_ends set (take (i + 1) links)
torn_more set links i l less is = flat_more (λ x. option_to_list (torn_end set x)) links i l
    (torn_ends set (take i links)) (torn_ends set (take i links) ++ option_to_list (torn_end set l)) less is refl refl

-- ---- there is one least

put_least : (x : List ℕ) (zs ids : List (List ℕ)) → IsLeast ids (find (λ _. true) zs)
    → IsLeast (x ∷ ids) (find (λ _. true) (put (λ k. k) x zs))
put_least x [] ids none = (
  or_left (bytes_eq x x) (is_among ids x) (bytes_eq_itself x),
  (not_before_itself x, subst (AllByRecursion (λ other. is_before other x ≡ false)) (sym none) tt),
)
put_least x (y ∷ ys) ids h = elim (is_before y x) as (λ v. is_before y x ≡ v
    → IsLeast (x ∷ ids) (find (λ _. true) (cond v (y ∷ put (λ k. k) x ys) (x ∷ y ∷ ys)))) [
      | true ↦ λ e. (or_right (bytes_eq x y) (is_among ids y) h.0, (before_not_after y x e, h.1))
      | false ↦ λ e. (
        or_left (bytes_eq x x) (is_among ids x) (bytes_eq_itself x),
        (
          not_before_itself x,
          All-weaker (λ other. is_before other y ≡ false) (λ other. is_before other x ≡ false)
              (λ other g. not_before_trans x y other e g) ids h.1,
        ),
      )
    ] refl

pub least_is : (ids : List (List ℕ)) → IsLeast ids (least ids)
least_is [] = refl
least_is (x ∷ xs) = put_least x (arranged (λ k. k) xs) xs (least_is xs)

-- what is among them is not before the least
not_before_least : (ids : List (List ℕ)) (k other : List ℕ) → AllByRecursion (λ z. is_before z k ≡ false) ids
    → is_among ids other ≡ true → is_before other k ≡ false
not_before_least ids k other all among =
    let z : (z : List ℕ) × In z ids × (bytes_eq z other ≡ true) = any_at (λ z. bytes_eq z other) ids among in
    subst (λ y. is_before y k ≡ false) ((bytes_eq-Decides z.0 other).0 z.2)
    (All-In (λ y. is_before y k ≡ false) z.0 ids all z.1)

none_among : (ids : List (List ℕ)) (k : List ℕ) → ids ≡ [] → is_among ids k ≡ true → ⊥
none_among ids k none among = true≢false (sym among ∙ ap (λ l. is_among l k) none)

-- the same identities have one least
pub one_least : (xs ys : List (List ℕ)) (a b : Option (List ℕ)) → AreSame xs ys → IsLeast xs a
    → IsLeast ys b → a ≡ b
one_least xs ys None None same h g = refl
one_least xs ys None (Some k) same h g = absurd (none_among xs k h (same k ∙ g.0))
one_least xs ys (Some k) None same h g = absurd (none_among ys k g (sym (same k) ∙ h.0))
one_least xs ys (Some k) (Some m) same h g = ap Some (elim (bytes_eq k m) as (λ v. bytes_eq k m ≡ v → k ≡ m) [
  | true ↦ λ e. (bytes_eq-Decides k m).0 e
  | false ↦ λ e. absurd (true≢false (sym (before_other_way k m
      (not_before_least ys m k g.1 (sym (same k) ∙ h.0)) e)
      ∙ not_before_least xs k m h.1 (same m ∙ g.0)))
] refl)
