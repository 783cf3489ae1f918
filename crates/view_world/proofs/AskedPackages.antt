-- What packages answered, one after the other.
use Rattle.std.proofs.Common.{◌≡◌, ◌∙◌, ◌<◌, ◌+◌, ◌++◌, ◌∷◌, [], ℕ, List, Result, Ok}
use Rattle.std.proofs.Common.{Err, IfOk, ap, subst, sym}
use Rattle.std.proofs.Common.{length, take, get_or, map, arith}
use Rattle.std.specs.List.{AllByRecursion, AllZip}
use Rattle.std.proofs.lemmas.List.{take_more}
use Rattle.sheet_types.proofs.Every.{All-each}
use Rattle.sheet_types.specs.Answers.{PackageSight as ModelSight, package_sights}
use Rattle.sheet_types.specs.Custody.{ticket}
use Rattle.sheet_types.specs.Ordered.{IsArranged}
use Rattle.sheet_types.specs.World.{World, Package, holdings, package_key}
use Rattle.sheet_laws.proofs.Keeping.{all_live_at}
use Rattle.sheet_laws.proofs.Packages.{at_all}
use Rattle.sqlite.specs.Store.{Ghosts}
use Rattle.world.specs.Reading.{sight_of}
use Rattle.world.specs.Worlds.{Seen, StandsFor}
use Rattle.world.specs.declared.reading.PackageSight.{PackageSight}
use Rattle.view_world.proofs.Rows.{front, behind}

module _ {A : Type 0} (Tells : Package → A → Type 0) where
  -- it is the answer of the package that was listed so
  abbrev pub IsToldOf : World → PackageSight → A → Type 0
  IsToldOf w s x = Tells (holdings w s.uuid) x

  one_behind : (w : World) (sights : List PackageSight) (xs : List A) (s : PackageSight) (x : A)
      → AllZip (IsToldOf w) sights xs → IsToldOf w s x
      → AllZip (IsToldOf w) (sights ++ s ∷ []) (xs ++ x ∷ [])
  one_behind w [] [] s x each here = (here, tt)
  one_behind w [] (first ∷ xs) s x each here = absurd each
  one_behind w (first ∷ sights) [] s x each here = absurd each
  one_behind w (first ∷ sights) (other ∷ xs) s x each here = (each.0, one_behind w sights xs s x each.1 here)

  pub one_more : (w : World) (sights : List PackageSight) (xs : List A) (i : ℕ) (s : PackageSight) (x : A)
      → i < length sights → s ≡ get_or sights i s
      → AllZip (IsToldOf w) (take i sights) xs → IsToldOf w s x
      → AllZip (IsToldOf w) (take (i + 1) sights) (xs ++ x ∷ [])
  one_more w sights xs i s x within is so_far here =
      subst (λ l. AllZip (IsToldOf w) l (xs ++ x ∷ [])) (ap (λ z. take i sights ++ z ∷ []) is
      ∙ sym (take_more sights i s within))
      (one_behind w (take i sights) xs s x so_far here)

  -- a package of a world is what the world has under its UUID
  each_held : (w : World) → IsArranged package_key w.packages
      → AllByRecursion (λ x. holdings w x.uuid ≡ x) w.packages
  each_held w order = all_live_at w (λ x. holdings w x.uuid ≡ x) order (λ p live.
      let own : (holdings w p).uuid ≡ p =
      (at_all w (λ _. Unit {0}) p (All-each (λ _. Unit {0}) (λ _. tt) w.packages) live).1 in
      ap (holdings w) own)

  abbrev sight : World → Package → ModelSight
  sight w p = record { uuid = p.uuid; parent = p.parent; depth = p.depth; ticket = ticket w p.uuid }

  zip_held : (w : World) (sights : List PackageSight) (ps : List Package) (xs : List A)
      → map sight_of sights ≡ map (sight w) ps
      → AllByRecursion (λ x. holdings w x.uuid ≡ x) ps → AllZip (IsToldOf w) sights xs → AllZip Tells ps xs
  unfolding front behind
  zip_held w [] [] [] e held each = tt
  zip_held w [] [] (x ∷ xs) e held each = absurd each
  zip_held w [] (p ∷ ps) xs e held each =
      absurd (let long : 0 ≡ length (sight w p ∷ map (sight w) ps) = ap length e in omega arith)
  zip_held w (s ∷ sights) [] xs e held each =
      absurd (let long : length (sight_of s ∷ map sight_of sights) ≡ 0 = ap length e in omega arith)
  zip_held w (s ∷ sights) (p ∷ ps) [] e held each = absurd each
  zip_held w (s ∷ sights) (p ∷ ps) (x ∷ xs) e held each =
      let here : sight_of s ≡ sight w p = ap (front (sight_of s)) e in
      let named : s.uuid ≡ p.uuid = ap (λ (v : ModelSight). v.uuid) here in (
        subst (λ q. Tells q x) (ap (holdings w) named ∙ held.0) each.0,
        zip_held w sights ps xs (ap behind e) held.1 each.1,
      )

  -- so of all packages of a world, where they are those that were listed
  pub of_world : {S X E : Type 0} (g : Ghosts S) (items : X → List A) (seen : Seen S) (sights : List PackageSight)
      (r : Result X E)
      → ((w : World) → StandsFor g seen w → map sight_of sights ≡ package_sights w)
      → IfOk r (λ x. (w : World) → StandsFor g seen w → AllZip (IsToldOf w) sights (items x))
      → IfOk r (λ x. (w : World) → StandsFor g seen w → AllZip Tells w.packages (items x))
  of_world g items seen sights (Ok x) are told = λ w stands.
      zip_held w sights w.packages (items x) (are w stands) (each_held w stands.members.register.arranged)
      (told w stands)
  of_world g items seen sights (Err e) are told = tt
