-- Right views of the stores of a register are views of its packages, with views of strays beside them.
use Rattle.std.specs.Prelude.{◌≡◌, true, List, ◌++◌, IsTrue, IsPermutation}
use Rattle.std.proofs.Common.{subst}
use Rattle.std.specs.List.{AllByRecursion, AllZip}
use Rattle.sqlite.specs.Held.{Held, state}
use Rattle.sqlite.specs.Store.{Ghosts}
use Rattle.sheet_types.specs.Register.{IsKeptPackage}
use Rattle.sheet_types.specs.World.{World, Package}
use Rattle.sheet_types.proofs.Every.{All-both}
use Rattle.sheet_laws.specs.Laws.{StoreSight}
use Rattle.sheet_laws.proofs.OneWorld.{one_world}
use Rattle.opening_v1.specs.Either.{IsViewAtEither}
use Rattle.opening_laws_model.specs.Beside.{IsViewOfPackage, IsStrayView}
use Rattle.opening_laws_model.specs.Timely.{IsInBounds}
use Rattle.opening_laws_model.proofs.Bounds.{packages_are_in_bounds}
use Rattle.opening_laws_model.proofs.Stands as standing
use Rattle.opening_laws.specs.Laws.{ViewsOfStores, OneRegisterOfStores}
use Rattle.opening_laws.specs.Stores.{IsStoreOf, IsStrayStore}
use Rattle.opening_laws.proofs.OneView.{view_of_kept, view_of_stray}
use Rattle.opening_laws.proofs.Zipped.{zip_permuted, zip_parts, zip_through, zip_all}

module _ {S : Type 0} (g : Ghosts S) where
  abbrev pub IsRight : Held S → StoreSight → Type 0
  IsRight h v = IsTrue (state g h).is_open × IsViewAtEither (state g h).now v

  -- the package keeps its rules, and is in bounds
  abbrev IsKeptIn : World → Package → Type 0
  IsKeptIn w p = IsKeptPackage w p × IsInBounds p

  pub views_of_stores : ViewsOfStores g
  views_of_stores w stores views kept_world of right =
      let moved : (vs : List StoreSight) × IsPermutation views vs × AllZip IsRight (of.members ++ of.others) vs =
      zip_permuted IsRight stores (of.members ++ of.others) views of.all right in
      let parts : (ms : List StoreSight) × (os : List StoreSight) × (moved.0 ≡ ms ++ os)
      × AllZip IsRight of.members ms × AllZip IsRight of.others os =
      zip_parts IsRight of.members of.others moved.0 moved.2 in
      let kept : AllByRecursion (IsKeptIn w) w.packages = All-both (IsKeptPackage w) IsInBounds (IsKeptIn w)
      (λ p a b. (a, b)) w.packages kept_world.0.packages
      (packages_are_in_bounds w kept_world.0 kept_world.1) in
      record {
        members = parts.0;
        others = parts.1;
        all = subst (IsPermutation views) parts.2 moved.1;
        each = zip_through IsRight (IsStoreOf g w) (IsKeptIn w) (IsViewOfPackage w)
            (λ h v p is k store. view_of_kept w p (state g h).now v k.0 k.1 (store is.0) is.1) of.members parts.0
            w.packages kept parts.3 of.each;
        beside = zip_all IsRight (IsStrayStore g w) (IsStrayView w)
            (λ h v is stray. view_of_stray w (state g h).now v kept_world.0 (stray is.0) is.1) of.others parts.1
            of.beside parts.4;
      }

  pub one_register : OneRegisterOfStores g
  one_register v w stores views kept_v kept_w of_v of_w right =
      one_world StoreSight (λ s. s.head) (λ s. s.claims) (λ s. s.is_formed ≡ true) (λ s. s.is_tied ≡ true)
      (λ s. s.frame) (λ s. s.reads_as) views v w
      (standing.stands v kept_v.0 views (views_of_stores v stores views kept_v of_v right))
      (standing.stands w kept_w.0 views (views_of_stores w stores views kept_w of_w right))
