-- What a shelf was given, and that connections were clean whose stores are.
use Rattle.std.specs.Prelude.{◌≡◌, ◌≤◌, ℕ, ⊤, List, [], ◌∷◌, ◌++◌, Option, Some, None, refl}
use Rattle.std.proofs.Common.{sym, subst, ap, ◌∙◌, inl, inr}
use Rattle.std.specs.List.{AllByRecursion}
use Rattle.std.proofs.Math.Arith.{le-zero}
use Rattle.std.proofs.lemmas.List.{append-nil, append_assoc}
use Rattle.std.proofs.lemmas.List.Elements.{All-from_recursion}
use Rattle.sqlite.specs.Held.{Held, state}
use Rattle.sqlite.specs.State.{HasCleanDisk}
use Rattle.sqlite.specs.Store.{Ghosts}
use Rattle.sqlite_trees.specs.View.{IsClean, IsQuiet, doubt}
use Rattle.sheet_types.proofs.Every.{All-left, All-right}
use Rattle.sheet_types.specs.declared.command.Request.{Request}
use Rattle.sheet_kept_laws.specs.Laws.{Reply}
use Rattle.world_changes.specs.Leaving.{AreClean}
use Rattle.world_decisions.specs.Deciding.{child_asked}
use Rattle.world_members.specs.declared.members.Member.{Member}
use Rattle.world.specs.Asked.{AsksFor, AreStepsWith, IsHomeBy, IsNewTo, IsRunWith, IsStepWith, MayReturn, UsesFor}
use Rattle.world.specs.Asked.{child_returned}
use Rattle.world.specs.Worlds.{Seen}
use Rattle.promises.specs.Clean.{
  IsGivenBy,
  IsGivenByEach,
  IsGivenFromNew,
  IsGivenNone,
  IsRecorded,
  IsReturned,
  HaveCleanDisks,
  StandAmong,
}
use Rattle.promises.proofs.Disks.{both_clean}

-- whatever was to hold of the package that it was asked for
asked_at_all : {S H : Type 0} (Asked : List ℕ → H → H → Type 0) (Taken : List ℕ → S → H → H → Type 0)
    (child : Option (List ℕ)) (Fact : List ℕ → Type 0) (s t : H) → AsksFor Asked Taken child Fact s t
    → AsksFor Asked Taken child (λ uuid. ⊤) s t
asked_at_all Asked Taken None Fact s t asked = asked
asked_at_all Asked Taken (Some child) Fact s t (inl same) = inl same
asked_at_all Asked Taken (Some child) Fact s t (inr once) = inr (once.0, once.1, tt, once.3)

-- ---- stores among others

module _ {S : Type 0} (Other : S → Type 0) where
  all_among : (xs : List S) → StandAmong Other xs xs
  all_among [] = tt
  all_among (x ∷ xs) = inl (refl, all_among xs)

  both_among : (xs all ys more : List S) → StandAmong Other xs all → StandAmong Other ys more
      → StandAmong Other (xs ++ ys) (all ++ more)
  both_among [] [] ys more one two = two
  both_among [] (a ∷ all) [] more one two = (one.0, both_among [] all [] more one.1 two)
  both_among [] (a ∷ all) (y ∷ ys) more one two = inr (one.0, both_among [] all (y ∷ ys) more one.1 two)
  both_among (x ∷ xs) [] ys more one two = absurd one
  both_among (x ∷ xs) (a ∷ all) ys more (inl here) two = inl (here.0, both_among xs all ys more here.1 two)
  both_among (x ∷ xs) (a ∷ all) ys more (inr there) two =
      inr (there.0, both_among (x ∷ xs) all ys more there.1 two)

  among_weaker : (More : S → Type 0) → ((x : S) → Other x → More x) → (xs all : List S)
      → StandAmong Other xs all
      → StandAmong More xs all
  among_weaker More so [] [] it = tt
  among_weaker More so [] (a ∷ all) it = (so a it.0, among_weaker More so [] all it.1)
  among_weaker More so (x ∷ xs) [] it = absurd it
  among_weaker More so (x ∷ xs) (a ∷ all) (inl here) = inl (here.0, among_weaker More so xs all here.1)
  among_weaker More so (x ∷ xs) (a ∷ all) (inr there) = inr (
    so a there.0,
    among_weaker More so (x ∷ xs) all
        there.1,
  )

module _ {S : Type 0} {H : Type 0} (Asked : List ℕ → H → H → Type 0)
    (Taken : List ℕ → S → H → H → Type 0) where
  -- by a list of one request
  pub given_one : (q : Request) (s t : H) (stores : List S) → IsGivenBy Asked Taken q s t stores
      → IsGivenByEach Asked Taken (q ∷ []) s t stores
  given_one q s t stores is = (t, stores, [], sym (append-nil stores), is, (refl, refl))

  -- by one list of requests after another
  pub given_then : (xs ys : List Request) (s t u : H) (first later : List S)
      → IsGivenByEach Asked Taken xs s t first → IsGivenByEach Asked Taken ys t u later
      → IsGivenByEach Asked Taken (xs ++ ys) s u (first ++ later)
  given_then [] ys s t u first later one two =
      subst (λ b. IsGivenByEach Asked Taken ys b u (first ++ later)) one.1
      (subst (λ x. IsGivenByEach Asked Taken ys t u (x ++ later)) (sym one.0) two)
  given_then (x ∷ xs) ys s t u first later one two = (
    one.0,
    one.1,
    one.2 ++ later,
    ap (λ z. z ++ later) one.3 ∙ append_assoc one.1 one.2 later,
    one.4,
    given_then xs ys one.0 t u one.2 later one.5 two,
  )

  -- and behind a new world
  pub given_behind : (archive : List ℕ) (xs ys : List Request) (s t u : H) (first later : List S)
      → IsGivenFromNew Asked Taken archive xs s t first → IsGivenByEach Asked Taken ys t u later
      → IsGivenFromNew Asked Taken archive (xs ++ ys) s u (first ++ later)
  given_behind archive xs ys s t u first later one two =
      (one.0, one.1, given_then xs ys one.0 t u first later one.2 two)

  module _ (record_of : H → List S) (asked : (uuid : List ℕ) (s t : H) → Asked uuid s t
      → record_of t ≡ record_of s)
      (taken : (uuid : List ℕ) (store : S) (s t : H) → Taken uuid store s t
      → record_of t ≡ record_of s ++ store ∷ []) where
    abbrev Recorded : List Request → H → H → List S → Type 0 → Type 0
    Recorded qs s t stores NoSplit = (all : List S) × (record_of t ≡ record_of s ++ all)
        × StandAmong (IsReturned Asked Taken qs) stores all × (NoSplit → all ≡ stores)

    none_recorded : (qs : List Request) (s t : H) (NoSplit : Type 0) → t ≡ s → Recorded qs s t [] NoSplit
    none_recorded qs s t NoSplit same = ([], ap record_of same ∙ sym (append-nil (record_of s)), tt, λ none. refl)

    recorded_by : (q : Request) (s t : H) (stores : List S) → IsGivenBy Asked Taken q s t stores
        → Recorded (q ∷ []) s t stores (child_asked q.command ≡ None)
    recorded_by q s t [] used = asked_for (child_asked q.command) refl used
      where
        returned : (child : List ℕ) (mid : H) → child_asked q.command ≡ Some child
            → record_of mid ≡ record_of s
            → MayReturn Taken child mid t → Recorded (q ∷ []) s t [] (Some child ≡ None)
        returned child mid is same (inl none) =
            ([], ap record_of none ∙ same ∙ sym (append-nil (record_of s)), tt, λ n. refl)
        returned child mid is same (inr back) = (
          back.0 ∷ [],
          taken child back.0 mid t back.1 ∙ ap (λ x. x ++ back.0 ∷ []) same,
          (inl (child, is, mid, t, back.1), tt),
          λ none. absurd (let e = none in cc),
        )

        asked_for : (child : Option (List ℕ)) → child_asked q.command ≡ child
            → AsksFor Asked Taken child (λ uuid. ⊤) s t → Recorded (q ∷ []) s t [] (child ≡ None)
        asked_for None is same = none_recorded (q ∷ []) s t (None ≡ None) same
        asked_for (Some child) is (inl same) = none_recorded (q ∷ []) s t (Some child ≡ None) same
        asked_for (Some child) is (inr once) = returned child once.0 is (asked child s once.0 once.1) once.3
    recorded_by q s t (store ∷ others) used = (
      store ∷ others,
      taken used.1 store s t used.3 ∙ ap (λ x. record_of s ++ store ∷ x) (sym used.0),
      all_among (IsReturned Asked Taken (q ∷ [])) (store ∷ others),
      λ none. refl,
    )

    recorded_by_each : (qs : List Request) (s t : H) (stores : List S) → IsGivenByEach Asked Taken qs s t stores
        → Recorded qs s t stores (AllByRecursion (λ q. child_asked q.command ≡ None) qs)
    recorded_by_each [] s t stores used =
        subst (λ x. Recorded [] s t x (AllByRecursion (λ (q : Request). child_asked q.command ≡ None) []))
        (sym used.0)
        (none_recorded [] s t (AllByRecursion (λ (q : Request). child_asked q.command ≡ None) []) used.1)
    recorded_by_each (q ∷ qs) s t stores used =
        let one = recorded_by q s used.0 used.1 used.4 in
        let rest = recorded_by_each qs used.0 t used.2 used.5 in
        let first : StandAmong (IsReturned Asked Taken (q ∷ qs)) used.1 one.0 =
        among_weaker (IsReturned Asked Taken (q ∷ [])) (IsReturned Asked Taken (q ∷ qs))
        (λ x back. elim back [ inl here ↦ inl here | inr none ↦ absurd none ]) used.1 one.0 one.2 in
        let later : StandAmong (IsReturned Asked Taken (q ∷ qs)) used.2 rest.0 =
        among_weaker (IsReturned Asked Taken qs) (IsReturned Asked Taken (q ∷ qs)) (λ x back. inr back) used.2 rest.0
        rest.2 in (
          one.0 ++ rest.0,
          rest.1 ∙ ap (λ x. x ++ rest.0) one.1 ∙ append_assoc (record_of s) one.0 rest.0,
          subst (λ x. StandAmong (IsReturned Asked Taken (q ∷ qs)) x (one.0 ++ rest.0)) (sym used.3)
              (both_among (IsReturned Asked Taken (q ∷ qs)) used.1 one.0 used.2 rest.0 first later),
          λ none. ap (λ x. x ++ rest.0) (one.3 none.0) ∙ ap (λ x. used.1 ++ x) (rest.3 none.1) ∙ sym used.3,
        )

  -- only merges give it one
  none_by : (q : Request) (s t : H) (stores : List S) → child_returned q.command ≡ None
      → IsGivenBy Asked Taken q s t stores → stores ≡ []
  none_by q s t [] none used = refl
  none_by q s t (store ∷ others) none used = absurd (let both : None ≡ Some used.1 = sym none ∙ used.2 in cc)

  pub given_none : IsGivenNone Asked Taken
  given_none [] s t stores none used = used.0
  given_none (q ∷ qs) s t stores none used =
      used.3 ∙ ap (λ x. x ++ used.2) (none_by q s used.0 used.1 none.0 used.4)
      ∙ given_none qs used.0 t used.2 none.1 used.5

  -- whatever record a shelf keeps
  pub recorded : IsRecorded Asked Taken
  recorded record_of asked taken = recorded_by_each record_of asked taken

module _ {S : Type 0} (g : Ghosts S) where
  abbrev Cleanly : S → Type 0
  Cleanly store = IsClean (g.view store)

  -- no clean store was in doubt before
  clean_before : (conn : Held S) (store : S) → IsQuiet g.view g.faults g.recovers g.is_shielded conn.store store
      → Cleanly store → HasCleanDisk (state g conn)
  clean_before conn store quiet clean = le-zero (subst (λ n. doubt (g.view conn.store).is_clean ≤ n) clean
      quiet.clean)

  pub left_stores : (xs ys : List S) → HaveCleanDisks g (xs ++ ys) → HaveCleanDisks g xs
  left_stores xs ys clean = All-left Cleanly xs ys clean

  pub right_stores : (xs ys : List S) → HaveCleanDisks g (xs ++ ys) → HaveCleanDisks g ys
  right_stores xs ys clean = All-right Cleanly xs ys clean

  none_clean : AreClean g []
  none_clean = All-from_recursion (λ h. HasCleanDisk (state g h)) [] tt

  module _ {H : Type 0} (Asked : List ℕ → H → H → Type 0) (Taken : List ℕ → S → H → H → Type 0) where
    -- the stores that a shelf was given, and that the connections were clean which left the world where these are
    abbrev pub GivenFor : (H → H → List S → Type 0) → H → H → List (Held S) → Type 0
    GivenFor Given s t gone = (stores : List S) × Given s t stores × (HaveCleanDisks g stores → AreClean g gone)

    given_by_uses : (members : List (Member S)) (q : Request) (New NoMore : List ℕ → Type 0) (gone : List (Held S))
        (s t : H) → ((uuid : List ℕ) → NoMore uuid → child_returned q.command ≡ Some uuid)
        → UsesFor g Asked Taken members (child_asked q.command) New NoMore gone s t
        → GivenFor (IsGivenBy Asked Taken q) s t gone
    given_by_uses members q New NoMore [] s t named used =
        ([], asked_at_all Asked Taken (child_asked q.command) New s t used, λ clean. none_clean)
    given_by_uses members q New NoMore (conn ∷ others) s t named used =
        let it = used.1 in (
          it.4.0 ∷ [],
          (refl, it.1.uuid, named it.1.uuid it.5, it.4.2),
          λ clean.
              subst (λ x. AreClean g (conn ∷ x)) (sym used.0) (All-from_recursion (λ h. HasCleanDisk (state g h))
              (conn ∷ []) (clean_before conn it.4.0 it.4.1 clean.0, tt)),
        )

    -- of one step
    pub given_by_step : {Fails : H → ℕ} (q : Request) (old : Seen S) (reply : Reply) (new : Seen S) (s t : H)
        (it : IsStepWith g Asked Taken Fails q old reply new s t)
        → GivenFor (IsGivenBy Asked Taken q) s t it.step.gone
    given_by_step q old reply new s t it =
        given_by_uses old.members q (IsNewTo g old new) (IsHomeBy g q old new it.step.gone) it.step.gone s t
        (λ uuid home. home.0) it.uses

    -- of several
    given_by_steps : (Fails : H → ℕ) (qs : List Request) (old : Seen S) (replies : List Reply) (new : Seen S)
        (gone : List (Held S)) (s t : H) → AreStepsWith g Asked Taken Fails qs old replies new gone s t
        → GivenFor (IsGivenByEach Asked Taken qs) s t gone
    given_by_steps Fails [] old [] new gone s t steps =
        ([], (refl, steps.2), λ clean. subst (λ x. AreClean g x) (sym steps.1) none_clean)
    given_by_steps Fails [] old (reply ∷ replies) new gone s t steps = absurd steps
    given_by_steps Fails (q ∷ qs) old [] new gone s t steps = absurd steps
    given_by_steps Fails (q ∷ qs) old (reply ∷ replies) new gone s t steps =
        let first = given_by_step q old reply steps.0 s steps.1 steps.2 in
        let later = given_by_steps Fails qs steps.0 replies new steps.3 steps.1 t steps.5 in (
          first.0 ++ later.0,
          (steps.1, first.0, later.0, refl, first.1, later.1),
          λ clean.
              subst (λ x. AreClean g x) (sym steps.4)
              (both_clean g steps.2.step.gone steps.3 (first.2 (left_stores first.0 later.0 clean))
              (later.2 (right_stores first.0 later.0 clean))),
        )

    -- of a run
    pub given_by_run : {Fails : H → ℕ} (qs : List Request) (old : Seen S) (replies : List Reply) (new : Seen S)
        (failed fails : ℕ) (s t : H) (it : IsRunWith g Asked Taken Fails qs old replies new failed fails s t)
        → GivenFor (IsGivenByEach Asked Taken qs) s t it.run.gone
    given_by_run {Fails} qs old replies new failed fails s t it =
        given_by_steps Fails qs old replies new it.run.gone s t it.uses
