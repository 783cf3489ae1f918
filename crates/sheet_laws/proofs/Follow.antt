-- A follow cut is the least closed set that holds the start.
use Rattle.std.specs.Prelude.{◌≡◌, ℕ, Bool, true, false, cond, not, ◌&&◌, ◌||◌, List, [], ◌∷◌}
use Rattle.std.specs.Prelude.{map, filter, refl, bytes_eq}
use Rattle.std.proofs.Common.{sym, ap, ◌∙◌}
use Rattle.std.proofs.lemmas.Bool.{true≢false, false≢true, and_parts, and_from}
use Rattle.std.proofs.lemmas.Slice.Eq.{bytes_eq-Decides}
use Rattle.std.proofs.lemmas.List.Folds.{list_all-append, list_all-map}
use Rattle.std.specs.List.{list_all}
use Rattle.std.specs.Bool.{beq}
use Rattle.sheet_types.specs.Ordered.{is_among, sublists}
use Rattle.sheet_types.specs.Cut.{identities, holds_all, is_closed}
use Rattle.sheet_laws.specs.Laws.{FollowIsLeast}
use Rattle.sheet_types.specs.declared.command.Relation.{Relation}

-- a test that all choices pass is passed by the choice of those that another test passes
of_choices : {X : Type 0} (test : X → Bool) (good : List X → Bool) (xs : List X)
    → list_all good (sublists xs) ≡ true → good (filter test xs) ≡ true
of_choices test good [] h = (and_parts (good []) true h).0
of_choices test good (x ∷ xs) h =
    let both : (list_all good (map (λ ys. x ∷ ys) (sublists xs)) ≡ true)
    × (list_all good (sublists xs) ≡ true) =
    and_parts _ _ (sym (list_all-append good (map (λ ys. x ∷ ys) (sublists xs)) (sublists xs)) ∙ h) in
    elim (test x) as (λ v. good (cond v (x ∷ filter test xs) (filter test xs)) ≡ true) [
      | true ↦ of_choices test (λ ys. good (x ∷ ys)) xs (sym (list_all-map good (λ ys. x ∷ ys) (sublists xs))
          ∙ both.0)
      | false ↦ of_choices test good xs both.1
    ]

-- what holds of those that pass holds of all that do
all-filter : {X : Type 0} (good test : X → Bool) (xs : List X) → list_all good (filter test xs) ≡ true
    → list_all (λ x. not (test x) || good x) xs ≡ true
all-filter good test [] h = refl
all-filter good test (x ∷ xs) h =
    elim (test x) as (λ v. list_all good (cond v (x ∷ filter test xs) (filter test xs)) ≡ true
    → ((not v || good x) && list_all (λ y. not (test y) || good y) xs) ≡ true) [
      | true ↦ λ g. let both : (good x ≡ true) × (list_all good (filter test xs) ≡ true) =
          and_parts (good x) (list_all good (filter test xs)) g in and_from (good x) _ both.0
          (all-filter good test xs both.1)
      | false ↦ λ g. all-filter good test xs g
    ] h

-- what is among those that pass, passes; and what passes and is among all, is among them
passes_among : (test : List ℕ → Bool) (ids : List (List ℕ)) (id : List ℕ)
    → is_among (filter test ids) id ≡ true → test id ≡ true
passes_among test [] id h = absurd (false≢true h)
passes_among test (x ∷ ids) id h =
    elim (test x) as (λ v. test x ≡ v → is_among (cond v (x ∷ filter test ids) (filter test ids)) id ≡ true
    → test id ≡ true) [
      | true ↦ λ passes. elim (bytes_eq x id) as (λ v. bytes_eq x id ≡ v
          → (v || is_among (filter test ids) id) ≡ true → test id ≡ true) [
            | true ↦ λ same _. ap test (sym ((bytes_eq-Decides x id).0 same)) ∙ passes
            | false ↦ λ _ rest. passes_among test ids id rest
          ] refl
      | false ↦ λ _ rest. passes_among test ids id rest
    ] refl h

-- what is among all is among those that pass exactly where it passes
among_passes : (test : List ℕ → Bool) (ids : List (List ℕ)) (id : List ℕ) → is_among ids id ≡ true
    → is_among (filter test ids) id ≡ test id
among_passes test [] id h = absurd (false≢true h)
among_passes test (x ∷ ids) id h =
    elim (bytes_eq x id) as (λ v. bytes_eq x id ≡ v → (v || is_among ids id) ≡ true
    → is_among (filter test (x ∷ ids)) id ≡ test id) [
      | true ↦ λ same _.
          let e : x ≡ id = (bytes_eq-Decides x id).0 same in
          elim (test x) as (λ v. test x ≡ v → is_among (cond v (x ∷ filter test ids) (filter test ids)) id
          ≡ test id) [
            | true ↦ λ passes. ap (λ b. b || is_among (filter test ids) id) same
                ∙ sym (ap test (sym e) ∙ passes)
            | false ↦ λ fails. none_among (filter test ids) (ap test (sym e) ∙ fails)
                ∙ sym (ap test (sym e) ∙ fails)
          ] refl
      | false ↦ λ differs rest.
          elim (test x) as (λ v. is_among (cond v (x ∷ filter test ids) (filter test ids)) id ≡ test id) [
            | true ↦ ap (λ b. b || is_among (filter test ids) id) differs ∙ among_passes test ids id rest
            | false ↦ among_passes test ids id rest
          ]
    ] refl h
  where
    none_among : (ys : List (List ℕ)) → test id ≡ false → is_among (filter test ids) id ≡ false
    none_among ys fails = elim (is_among (filter test ids) id) as
        (λ v. is_among (filter test ids) id ≡ v → v ≡ false) [
          | true ↦ λ among. absurd (true≢false (sym (passes_among test ids id among) ∙ fails))
          | false ↦ λ _. refl
        ] refl

-- ids that pass are among those that pass
all_among : (test : List ℕ → Bool) (ids all : List (List ℕ)) → list_all (is_among all) ids ≡ true
    → list_all test ids ≡ true → holds_all ids (filter test all) ≡ true
all_among test [] all within passes = refl
all_among test (x ∷ ids) all within passes =
    let w : (is_among all x ≡ true) × (list_all (is_among all) ids ≡ true) = and_parts (is_among all x) _ within in
    let t : (test x ≡ true) × (list_all test ids ≡ true) = and_parts (test x) _ passes in
    and_from (is_among (filter test all) x) _ (among_passes test all x w.0 ∙ t.0) (all_among test ids all w.1 t.1)

-- links keep both ends among those that pass
closed_among : (test : List ℕ → Bool) (all : List (List ℕ)) (links : List Relation)
    → list_all (λ l. is_among all l.base && is_among all l.other) links ≡ true
    → list_all (λ l. beq (test l.base) (test l.other)) links ≡ true
    → list_all (λ l. beq (is_among (filter test all) l.base) (is_among (filter test all) l.other)) links ≡ true
closed_among test all [] within closed = refl
closed_among test all (l ∷ links) within closed =
    let w : ((is_among all l.base && is_among all l.other) ≡ true)
    × (list_all (λ x. is_among all x.base && is_among all x.other) links ≡ true) = and_parts _ _ within in
    let ends : (is_among all l.base ≡ true) × (is_among all l.other ≡ true) =
    and_parts (is_among all l.base) (is_among all l.other) w.0 in
    let c : (beq (test l.base) (test l.other) ≡ true) × (list_all (λ x. beq (test x.base) (test x.other)) links
    ≡ true) = and_parts _ _ closed in
    and_from (beq (is_among (filter test all) l.base) (is_among (filter test all) l.other)) _
    (ap (λ b. beq b (is_among (filter test all) l.other)) (among_passes test all l.base ends.0)
    ∙ ap (beq (test l.base)) (among_passes test all l.other ends.1) ∙ c.0)
    (closed_among test all links w.1 c.1)

-- the law of the least closed set
pub follow_is_least : FollowIsLeast
follow_is_least p ids set id starts ends holds closed taken =
    let all : List (List ℕ) = identities p.items in
    let fits : List (List ℕ) → Bool = λ s. holds_all ids s && is_closed p s in
    let chosen : (not (fits (filter set all)) || is_among (filter set all) id) ≡ true =
    of_choices set (λ s. not (fits s) || is_among s id) all (all-filter (λ s. is_among s id) fits (sublists all)
    taken) in
    let good : fits (filter set all) ≡ true = and_from (holds_all ids (filter set all))
    (is_closed p (filter set all)) (all_among set ids all starts holds)
    (closed_among set all p.links ends closed) in
    passes_among set all id (sym (ap (λ b. not b || is_among (filter set all) id) good) ∙ chosen)
