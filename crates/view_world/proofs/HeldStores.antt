-- The stores of a world that can be used are those of its packages.
use Rattle.std.proofs.Common.{◌≡◌, ◌∙◌, suc, List, [], ◌∷◌, ◌++◌, map, length, length-append}
use Rattle.std.proofs.Common.{refl, sym, ap, subst}
use Rattle.std.proofs.Common.{inr, Result, Ok, Err, IsErr, arith}
use Rattle.std.specs.Prelude.{IfOk}
use Rattle.std.specs.List.{AllZip}
use Rattle.sqlite.specs.Held.{Held}
use Rattle.sqlite.specs.Store.{Ghosts}
use Rattle.sheet_types.specs.World.{World, Package}
use Rattle.sheet_types.specs.declared.frame.Frame.{Frame}
use Rattle.view_history.specs.Stores.{AreClean, AreRead, AsksStores}
use Rattle.world_members.specs.Members.{IsMember}
use Rattle.world.specs.Worlds.{Seen, StandsFor, held}
use Rattle.world_members.specs.declared.members.Member.{Member}
use Rattle.view_world.specs.Looks.{Asks, IsUntouched, LooksInto}

module _ {S : Type 0} (g : Ghosts S) where
  read_members : (w : World) (members : List (Member S)) (packages : List Package)
      → AllZip (IsMember g w) members packages → AreRead g w.frame (map (λ m. m.conn) members) packages
  read_members w [] [] each = tt
  read_members w [] (p ∷ ps) each = absurd each
  read_members w (m ∷ ms) [] each = absurd each
  read_members w (m ∷ ms) (p ∷ ps) each = (each.0.reads, read_members w ms ps each.1)

  long_members : (w : World) (members : List (Member S)) (packages : List Package)
      → AllZip (IsMember g w) members packages → length (map (λ m. m.conn) members) ≡ length packages
  long_members w [] [] each = refl
  long_members w [] (p ∷ ps) each = absurd each
  long_members w (m ∷ ms) [] each = absurd each
  long_members w (m ∷ ms) (p ∷ ps) each = ap suc (long_members w ms ps each.1)

  none_of : {X : Type 0} (xs ys : List X) → length (xs ++ ys) ≡ length ys → xs ≡ []
  none_of [] ys e = refl
  none_of (x ∷ xs) ys e = absurd (omega (arith, e, length-append xs ys))

  -- where there are as many as packages, each reads as its package, in turn
  pub read_held : (seen : Seen S) (w : World) → StandsFor g seen w → length (held g seen) ≡ length w.packages
      → AreRead g w.frame (held g seen) w.packages
  read_held seen w stands long =
      let conns : List (Held S) = map (λ m. m.conn) seen.members in
      let none : seen.strays ≡ [] =
      none_of seen.strays conns (long ∙ sym (long_members w seen.members w.packages stands.members.each)) in
      subst (λ strays. AreRead g w.frame (strays ++ map (λ m. m.conn) seen.members) w.packages) (sym none)
      (read_members w seen.members w.packages stands.members.each)

  -- what was asked of them is true of the world
  pub looks_into : {X E : Type 0} (Given : List Package → X → Type 0) {Answer : World → X → Type 0}
      (seen : Seen S)
      (stores : List (Held S)) (r : Result X E)
      → IfOk r (λ x. (w : World) → StandsFor g seen w → length (held g seen) ≡ length w.packages)
      → ((w : World) (x : X) → StandsFor g seen w → Given w.packages x → Answer w x)
      → Asks g {X = X} {E = E} Given (held g seen) stores r → LooksInto g {X = X} {E = E} Answer seen stores r
  looks_into Given seen stores (Ok x) counted so it =
      record {
        read = it.read;
        told = λ clean w stands. so w x stands
            (it.told clean w.frame w.packages (read_held seen w stands (counted w stands)));
      }
  looks_into Given seen stores (Err e) counted so it = record { read = it.read; told = λ clean. tt }

  -- stores that were asked
  pub asks : {X E E' : Type 0} (Given : List Package → X → Type 0) {Answer : List Package → X → Type 0}
      {old new : List (Held S)} {r : Result X E} {x : X} → r ≡ Ok x
      → ((packages : List Package) → Given packages x → Answer packages x)
      → AsksStores g {X = X} {E = E} Given old new r → Asks g {X = X} {E = E'} Answer old new (Ok x)
  asks {X} {E} {E'} Given {Answer} {old} {new} {r} {x} is so it =
      let here : AsksStores g {X = X} {E = E} Given old new (Ok x) =
      subst (AsksStores g {X = X} {E = E} Given old new) is it in
      record { read = inr here.read; told = λ clean f packages are. so packages (here.told clean f packages are) }

  -- and where nothing came of it
  pub asks_nothing : {X E : Type 0} {Answer : List Package → X → Type 0} {old new : List (Held S)} (r : Result X E)
      → IsErr r → IsUntouched g old new → Asks g {X = X} {E = E} Answer old new r
  asks_nothing (Ok x) failed read = cc
  asks_nothing (Err e) failed read = record { read = read; told = λ clean. tt }
