-- What was taken out of a folder, as far as it can be said of files that no clause speaks of.
use Rattle.std.proofs.Common.{◌≡◌, ℕ, List, [], ◌∷◌, Option, Result, Ok, Err, inl, inr, map, refl}
use Rattle.std.specs.Prelude.{string_bytes, ⊤}
use Rattle.sqlite.specs.Held.{Held}
use Rattle.sqlite.specs.Store.{Ghosts}
use Rattle.package_tables.specs.declared.fault.Fault.{Fault}
use Rattle.opening_verdict.specs.declared.seen.StoreSeen.{StoreSeen}
use Rattle.command_tidying.specs.Tidying.{IsTidied, MayGo, TakesOut, TakesSome, ended}
use Rattle.command_tidying.specs.declared.register.Register.{Register}
use Rattle.command_tidying.specs.declared.tidying.Tidied.{Tidied}
use Rattle.command_folder.specs.declared.endings.Ending.{Ending}
use Rattle.world.specs.Worlds.{Seen}
use Rattle.commands.specs.Tidies.{EndsBeside, EndsTidy, MakesFolderTidy, MakesTidy, MayBeTidied, Tidies, TidiesFolder}

module _ {Y : Type 0} (Listed : List ℕ → Type 0) (Shown : List ℕ → StoreSeen → Type 0)
    (Removes : List ℕ → Y → Y → Type 0) where
  may_go : (register : Register) (name : List ℕ) → MayGo Listed Shown Removes register name
      → MayGo {Y = Unit {0}} (λ bytes. ⊤) (λ uuid seen. ⊤) (λ name old new. ⊤) register name
  may_go register name (inl spent) = inl (spent.0, spent.1, spent.2, tt, spent.4, spent.5)
  may_go register name (inr left) = inr (left.0, tt, left.2)

  takes_out : (register : Register) (names : List (List ℕ)) (old new : Y)
      → TakesOut Listed Shown Removes register names old new
      → TakesOut {Y = Unit {0}} (λ bytes. ⊤) (λ uuid seen. ⊤) (λ name old new. ⊤) register names tt tt
  takes_out register [] old new it = refl
  takes_out register (name ∷ names) old new it =
      (tt, (may_go register name it.1.0, tt), takes_out register names it.0 new it.2)

  takes_some : {E : Type 0} (register : Register) (names : List (List ℕ)) (old new : Y) (r : Result (Unit {0}) E)
      → TakesSome Listed Shown Removes register names old new r
      → TakesSome {Y = Unit {0}} (λ bytes. ⊤) (λ uuid seen. ⊤) (λ name old new. ⊤) register names tt tt r
  takes_some register names old new (Ok x) it = takes_out register names old new it
  takes_some register names old new (Err fault) (inl it) = inl (takes_out register names old new it)
  takes_some register names old new (Err fault) (inr it) = inr (it.0, takes_out register _ old new it.1)

  pub folder_tidied : {S : Type 0} (g : Ghosts S) (register : Result Register Fault) (old new : Y)
      (made : Result Tidied Fault)
      → MakesTidy g Listed Shown Removes register old new made → MakesFolderTidy register made
  folder_tidied g (Ok register) old new (Ok made) it =
      takes_some register (map (λ t. string_bytes t) made.names.items) old new (ended made.fault) it
  folder_tidied g (Err fault) old new (Err told) it = it.0
  folder_tidied g (Ok register) old new (Err told) it = absurd it
  folder_tidied g (Err fault) old new (Ok made) it = absurd it

  ends_beside : {S W : Type 0} (g : Ghosts S) (seen : Seen S) (stores : List (Held S)) (old new : Y)
      (writer writer' : W) (before after : Option (List ℕ)) (ending : Ending)
      → EndsTidy g Listed Shown Removes seen stores old new writer writer' before after ending
      → EndsBeside g seen stores writer writer' before after ending
  ends_beside g seen stores old new writer writer' before after ending it = record {
    register = it.tidied.register;
    looked = it.tidied.looked;
    made = it.made;
    tidied = folder_tidied g it.tidied.register old new it.made it.tidied.tidied;
    told = it.told;
  }

  pub tidies_folder : {S W : Type 0} (g : Ghosts S) (old new : Y) (writer writer' : W)
      (before after : Option (List ℕ)) (ending : Ending)
      → Tidies g Listed Shown Removes old new writer writer' before after ending
      → TidiesFolder g writer writer' before after ending
  tidies_folder g old new writer writer' before after ending (inl unopened) =
      inl (unopened.0, unopened.1, unopened.2)
  tidies_folder g old new writer writer' before after ending (inr it) = inr (
    it.0,
    it.1,
    it.2,
    ends_beside g it.0 it.1 old new writer writer' before after ending it.3,
  )
