-- What a world tells of itself.
use Rattle.std.proofs.Common.{◌≡◌, ◌∙◌, ◌∷◌, [], ℕ, List, Result, Ok, Err, refl, sym, ap, subst}
use Rattle.std.proofs.Common.{map, length, suc}
use Rattle.std.specs.Prelude.{IfOk}
use Rattle.sqlite.specs.Held.{Held}
use Rattle.sqlite.specs.Store.{Ghosts}
use Rattle.package_tables.specs.declared.fault.Fault.{Fault}
use Rattle.sheet_types.specs.Answers.{package_sights}
use Rattle.sheet_types.specs.World.{World}
use Rattle.view_world.specs.Looks.{LooksInto}
use Rattle.world.specs.Reading.{sight_of}
use Rattle.world.specs.Worlds.{Seen, StandsFor, TellsOf}
use Rattle.world.specs.declared.reading.PackageSight.{PackageSight}

map_map : {X Y Z : Type 0} (f : X → Y) (h : Y → Z) (xs : List X) → map h (map f xs) ≡ map (λ x. h (f x)) xs
map_map f h [] = refl
map_map f h (x ∷ xs) = ap (λ ys. h (f x) ∷ ys) (map_map f h xs)

-- the UUIDs of the packages that a world has
pub uuids_seen : (w : World) (sights : List PackageSight) → map sight_of sights ≡ package_sights w
    → map (λ s. s.uuid) sights ≡ map (λ p. p.uuid) w.packages
uuids_seen w sights e =
    sym (map_map sight_of (λ s. s.uuid) sights) ∙ ap (map (λ s. s.uuid)) e ∙ map_map _ (λ s. s.uuid) w.packages

long_map : {X Y : Type 0} (f : X → Y) (xs : List X) → length (map f xs) ≡ length xs
long_map f [] = refl
long_map f (x ∷ xs) = ap suc (long_map f xs)

pub long_live : (w : World) (live : List (List ℕ)) → live ≡ map (λ p. p.uuid) w.packages
    → length live ≡ length w.packages
long_live w live is = ap length is ∙ long_map (λ p. p.uuid) w.packages

-- of two answers what they say together
pub joined : {S L R M : Type 0} (g : Ghosts S) (P : World → L → Type 0) (Q : World → R → Type 0)
    (A : World → M → Type 0) (left : M → L) (right : M → R)
    (seen : Seen S) (stores : List (Held S)) (first : Result L Fault) (second : Result R Fault) (made : Result M Fault)
    → ((w : World) (m : M) → P w (left m) → Q w (right m) → A w m)
    → IfOk first (λ x. (w : World) → StandsFor g seen w → P w x)
    → LooksInto g {X = R} {E = Fault} Q seen stores second
    → IfOk made (λ m. (first ≡ Ok (left m)) × (second ≡ Ok (right m)))
    → LooksInto g {X = M} {E = Fault} A seen stores made
joined g P Q A left right seen stores first second (Ok m) so known it is = record {
  read = it.read;
  told = λ clean w stands. so w m (subst (λ r. IfOk r (λ x. (w : World) → StandsFor g seen w → P w x)) is.0
      known w
      stands)
      (subst (λ r. IfOk r (λ x. (w : World) → StandsFor g seen w → Q w x)) is.1 (it.told clean) w stands);
}
joined g P Q A left right seen stores first second (Err fault) so known it is =
    record { read = it.read; told = λ clean. tt }

-- the same of a world that stays
pub tells_joined : {S L R M : Type 0} (g : Ghosts S) (P : World → L → Type 0) (Q : World → R → Type 0)
    (A : World → M → Type 0) (left : M → L) (right : M → R)
    (old new : Seen S) (first : Result L Fault) (second : Result R Fault) (made : Result M Fault)
    → ((w : World) (m : M) → P w (left m) → Q w (right m) → A w m)
    → IfOk first (λ x. (w : World) → StandsFor g old w → P w x)
    → TellsOf g {X = R} {E = Fault} Q old new second
    → IfOk made (λ m. (first ≡ Ok (left m)) × (second ≡ Ok (right m)))
    → TellsOf g {X = M} {E = Fault} A old new made
tells_joined g P Q A left right old new first second (Ok m) so known tells is = λ clean w stands.
    so w m (subst (λ r. IfOk r (λ x. (w : World) → StandsFor g old w → P w x)) is.0 known w stands)
    (subst (λ r. IfOk r (λ x. (w : World) → StandsFor g old w → Q w x)) is.1 (tells clean) w stands)
tells_joined g P Q A left right old new first second (Err fault) so known tells is = λ clean. tt
