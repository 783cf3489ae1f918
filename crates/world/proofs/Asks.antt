-- What a world asks a shelf for and gives back to it, request by request.
use Rattle.std.specs.Prelude.{◌≡◌, ◌⊎◌, refl, ℕ, ⊤, List, [], ◌∷◌, ◌++◌, Option, Some, None}
use Rattle.std.specs.Prelude.{Result}
use Rattle.std.proofs.Common.{sym, subst, ap, ◌∙◌, inl, inr}
use Rattle.std.proofs.lemmas.List.{append-nil, append_assoc}
use Rattle.sqlite.specs.Held.{Held}
use Rattle.sqlite.specs.Store.{Ghosts}
use Rattle.sheet_types.specs.declared.command.Request.{Request}
use Rattle.sheet_types.specs.declared.receipt.Receipt.{Receipt}
use Rattle.sheet_types.specs.declared.refusal.Refusal.{Refusal}
use Rattle.store_sql.proofs.Staying.{stays_then}
use Rattle.world_changes.proofs.Surviving.{zip_from}
use Rattle.world_members.specs.Members.{AllStay, StaysMember}
use Rattle.world_members.specs.declared.members.Member.{Member}
use Rattle.world.specs.Asked.{AsksFor, AreStepsWith, ComeHome, GivenBack, IsStepWith, IsUsedFor, MayReturn, UsesFor}
use Rattle.world.specs.Asked.{child_returned}
use Rattle.world_decisions.specs.Deciding.{child_asked}
use Rattle.world.specs.Worlds.{Seen}

module _ {S H : Type 0} (Asks : List ℕ → H → H → Type 0) (Takes : List ℕ → S → H → H → Type 0) where
  -- it was asked for nothing
  pub asks_nothing : (child : Option (List ℕ)) (Fact : List ℕ → Type 0) (before after : H) → after ≡ before
      → AsksFor Asks Takes child Fact before after
  asks_nothing None Fact before after same = same
  asks_nothing (Some child) Fact before after same = inl same

  -- or for what was due
  pub asks_due : (child : Option (List ℕ)) (due : List ℕ) (Fact : List ℕ → Type 0) (before after : H)
      → child ≡ Some due → Fact due → (after ≡ before) ⊎ ((mid : H) × Asks due before mid
      × MayReturn Takes due mid after) → AsksFor Asks Takes child Fact before after
  asks_due child due Fact before after is fact asked =
      subst (λ x. AsksFor Asks Takes x Fact before after) (sym is)
      (elim asked [ inl same ↦ inl same | inr once ↦ inr (once.0, once.1, fact, once.2) ])

  -- what holds of it follows
  pub asks_weaker : (child : Option (List ℕ)) (Fact Less : List ℕ → Type 0) (before after : H)
      → ((x : List ℕ) → Fact x → Less x) → AsksFor Asks Takes child Fact before after
      → AsksFor Asks Takes child Less before after
  asks_weaker None Fact Less before after so asked = asked
  asks_weaker (Some child) Fact Less before after so (inl same) = inl same
  asks_weaker (Some child) Fact Less before after so (inr once) = inr (once.0, once.1, so child once.2, once.3)

module _ {S : Type 0} (g : Ghosts S) {H : Type 0} (Takes : List ℕ → S → H → H → Type 0) where
  -- nothing was given back
  pub none_home : (members : List (Member S)) (Fact : List ℕ → Type 0) (gone : List (Held S)) (s : H)
      → gone ≡ []
      → ComeHome g Takes members Fact gone s s
  none_home members Fact gone s none = subst (λ x. ComeHome g Takes members Fact x s s) (sym none) refl

module _ {S : Type 0} (g : Ghosts S) {H : Type 0} (Asks : List ℕ → H → H → Type 0)
    (Takes : List ℕ → S → H → H → Type 0) where
  -- it was given back nothing
  pub uses_asked : (members : List (Member S)) (child : Option (List ℕ)) (New NoMore : List ℕ → Type 0)
      (gone : List (Held S)) (before after : H) → gone ≡ [] → AsksFor Asks Takes child New before after
      → UsesFor g Asks Takes members child New NoMore gone before after
  uses_asked members child New NoMore gone before after none asked =
      subst (λ x. UsesFor g Asks Takes members child New NoMore x before after) (sym none) asked

  -- or the store of a member that was read since an earlier moment
  pub uses_home : (old mid : List (Member S)) (child : Option (List ℕ)) (New Less More : List ℕ → Type 0)
      (gone : List (Held S)) (before after : H) → AllStay g old mid → ((x : List ℕ) → Less x → More x)
      → ComeHome g Takes mid Less gone before after → UsesFor g Asks Takes old child New More gone before after
  uses_home old mid child New Less More [] before after stay so home =
      asks_nothing Asks Takes child New before after home
  uses_home old mid child New Less More (store ∷ others) before after stay so home =
      let it = home.1 in
      let here = zip_from (StaysMember g) old mid it.0 it.1 stay it.2 in
      let same : it.1.uuid ≡ here.0.uuid = ap (λ (m : Member S). m.uuid) here.2.same in (
        home.0,
        (
          it.0,
          here.0,
          here.1,
          stays_then here.2.stays it.3,
          subst
              (λ u. GivenBack g Takes u store before after) same it.4,
          subst More same (so it.1.uuid it.5),
        ),
      )

  -- what holds of the packages follows
  pub uses_weaker : (members : List (Member S)) (child : Option (List ℕ))
      (New New' NoMore NoMore' : List ℕ → Type 0)
      (gone : List (Held S)) (before after : H) → ((x : List ℕ) → New x → New' x)
      → ((x : List ℕ) → NoMore x → NoMore' x) → UsesFor g Asks Takes members child New NoMore gone before
      after
      → UsesFor g Asks Takes members child New' NoMore' gone before after
  uses_weaker members child New New' NoMore NoMore' [] before after new no_more used =
      asks_weaker Asks Takes child New New' before after new used
  uses_weaker members child New New' NoMore NoMore' (store ∷ others) before after new no_more used =
      let it = used.1 in
      (used.0, (it.0, it.1, it.2, it.3, it.4, no_more it.1.uuid it.5))

  -- so it was used at most once
  pub used_for : (members : List (Member S)) (q : Request) (New NoMore : List ℕ → Type 0) (gone : List (Held S))
      (before after : H) → ((x : List ℕ) → NoMore x → child_returned q.command ≡ Some x)
      → UsesFor g Asks Takes members (child_asked q.command) New NoMore gone before after
      → IsUsedFor Asks Takes q before after
  used_for members q New NoMore [] before after named used =
      inl (asks_weaker Asks Takes (child_asked q.command) New (λ child. ⊤) before after (λ x new. tt) used)
  used_for members q New NoMore (store ∷ others) before after named used =
      let it = used.1 in
      inr (it.1.uuid, named it.1.uuid it.5, it.4.0, it.4.2)

  -- one request more
  pub steps_more : {Fails : H → ℕ} (qs : List Request) (old mid new : Seen S)
      (replies : List (Result Receipt Refusal)) (q : Request) (reply : Result Receipt Refusal) (gone : List (Held S))
      (before between after : H) → AreStepsWith g Asks Takes Fails qs old replies mid gone before between
      → (one : IsStepWith g Asks Takes Fails q mid reply new between after)
      → AreStepsWith g Asks Takes Fails (qs ++ q ∷ []) old (replies ++ reply ∷ []) new (gone ++ one.step.gone)
      before
      after
  steps_more {Fails} [] old mid new [] q reply gone before between after steps one =
      let all : List (Held S) = gone ++ one.step.gone in
      let here : (it : IsStepWith g Asks Takes Fails q mid reply new between after) × (all ≡ it.step.gone ++ []) =
      (one, ap (λ x. x ++ one.step.gone) steps.1 ∙ sym (append-nil one.step.gone)) in
      let there : (it : IsStepWith g Asks Takes Fails q old reply new before after) × (all ≡ it.step.gone ++ []) =
      subst (λ m. (it : IsStepWith g Asks Takes Fails q m reply new before after) × (all ≡ it.step.gone ++ []))
      steps.0
      (subst (λ b. (it : IsStepWith g Asks Takes Fails q mid reply new b after) × (all ≡ it.step.gone ++ []))
      steps.2
      here) in
      (new, after, there.0, [], there.1, (refl, refl, refl))
  steps_more {Fails} [] old mid new (r ∷ replies) q reply gone before between after steps one = absurd steps
  steps_more {Fails} (p ∷ qs) old mid new [] q reply gone before between after steps one = absurd steps
  steps_more {Fails} (p ∷ qs) old mid new (r ∷ replies) q reply gone before between after steps one = (
    steps.0,
    steps.1,
    steps.2,
    steps.3 ++ one.step.gone,
    ap (λ x. x ++ one.step.gone) steps.4 ∙ append_assoc steps.2.step.gone steps.3 one.step.gone,
    steps_more qs steps.0 mid new replies q reply steps.3 steps.1 between after steps.5 one,
  )
