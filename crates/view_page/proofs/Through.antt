-- A look at a world, and the same where it ends with it.
use Rattle.std.proofs.Common.{◌≡◌, ◌++◌, ◌∷◌, [], ℕ, List, map, subst, inl}
use Rattle.std.specs.Prelude.{IfOk, IsOkAnd, Option, option_map, Result, Ok, Err}
use Rattle.std.specs.List.{AllByRecursion}
use Rattle.std.proofs.lemmas.List.Elements.{All-from_recursion, recursion_from_All}
use Rattle.sqlite.specs.Held.{Held, state}
use Rattle.sqlite.specs.State.{HasCleanDisk}
use Rattle.sqlite.specs.Store.{Ghosts}
use Rattle.sheet_types.specs.World.{World}
use Rattle.package_tables.specs.declared.fault.Fault.{Fault}
use Rattle.view_history.specs.Stores.{AreClean}
use Rattle.view_page.specs.Pages.{IsPaper, IsPaperOf, as_bytes}
use Rattle.view_page.specs.declared.pages.Paper.{Paper}
use Rattle.view_page.specs.Registers.{IsRegisterOf, LooksThrough}
use Rattle.view_report.specs.declared.registers.Name.{Name}
use Rattle.view_report.specs.declared.registers.Register.{Register}
use Rattle.view_world.specs.Looks.{IsLookedAt}
use Rattle.world_members.specs.Members.{AllClean}
use Rattle.world_members.specs.declared.members.Member.{Member}
use Rattle.world.specs.Worlds.{Seen, TellsOf, held}

module _ {S : Type 0} (g : Ghosts S) where
  clean_of : (xs : List (Member S)) → AllByRecursion (λ (h : Held S). HasCleanDisk (state g h))
      (map (λ m. m.conn) xs)
      → AllByRecursion (λ (m : Member S). HasCleanDisk (state g m.conn)) xs
  clean_of [] each = tt
  clean_of (m ∷ ms) each = (each.0, clean_of ms each.1)

  behind : (xs ys : List (Held S)) → AllByRecursion (λ h. HasCleanDisk (state g h)) (xs ++ ys)
      → AllByRecursion (λ h. HasCleanDisk (state g h)) ys
  behind [] ys each = each
  behind (x ∷ xs) ys each = behind xs ys each.1

  -- where the stores that a world held are clean, those of its members are
  members_clean : (seen : Seen S) → AreClean g (held g seen) → AllClean g seen.members
  members_clean seen clean =
      All-from_recursion (λ (m : Member S). HasCleanDisk (state g m.conn)) seen.members
      (clean_of seen.members (behind seen.strays (map (λ m. m.conn) seen.members)
      (recursion_from_All (λ (h : Held S). HasCleanDisk (state g h)) (held g seen) clean)))

  -- what was told of a world is told of it where it ends afterwards, and hands its stores on
  pub looks_through : {X : Type 0} {Answer : World → X → Type 0} (seen read : Seen S) (stores : List (Held S))
      (r : Result X Fault)
      → IsLookedAt g seen read → stores ≡ held g read → TellsOf g {X = X} {E = Fault} Answer seen read r
      → LooksThrough g {X = X} Answer seen stores r
  looks_through seen read stores r world same told = record {
    read = read;
    world = world;
    stores_read = inl same;
    told = λ clean. told (members_clean read (subst (AreClean g) same clean));
  }

  -- what is told of a text is told of its bytes
  pub tells_bytes : {T : Type 0} (bytes : T → List ℕ) (names : List Name) (paper : Paper) (old new : Seen S)
      (r : Result (Option T) Fault)
      → TellsOf g {X = Option T} {E = Fault} (λ w t. IsPaperOf w names paper (option_map bytes t)) old new r
      → TellsOf g {X = Option (List ℕ)} {E = Fault} (λ w text. IsPaperOf w names paper text) old new
      (as_bytes bytes r)
  tells_bytes bytes names paper old new (Ok t) it = it
  tells_bytes bytes names paper old new (Err e) it = λ clean. tt

  -- what is asked of a register is told of the world that it is of
  pub tells_page : {T : Type 0} (bytes : T → List ℕ) (names : List Name) (paper : Paper) (old new : Seen S)
      (r : Result Register Fault) (t : Result (Option T) Fault)
      → IfOk t (λ text. IsOkAnd r (λ x. IsPaper x paper (option_map bytes text)))
      → TellsOf g {X = Register} {E = Fault} (λ w x. IsRegisterOf w names x) old new r
      → TellsOf g {X = Option T} {E = Fault} (λ w text. IsPaperOf w names paper (option_map bytes text)) old new t
  tells_page bytes names paper old new (Ok x) (Ok text) is it = λ clean w stands. (x, it clean w stands, is)
  tells_page bytes names paper old new (Err e) (Ok text) is it = absurd is
  tells_page bytes names paper old new r (Err e) is it = λ clean. tt
