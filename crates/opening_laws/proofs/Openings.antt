-- What `recover` answers of the stores of a register: a world that stands for it, or no fault of the nine.
use Rattle.std.specs.Prelude.{◌≡◌, true, List, refl}
use Rattle.std.proofs.Common.{subst, inl, inr}
use Rattle.sqlite.specs.Store.{Ghosts}
use Rattle.sheet_laws.specs.Laws.{StoreSight, StoresStandFor, HasNoFault}
use Rattle.sheet_laws.proofs.OneWorld.{one_world}
use Rattle.opening_faults.specs.declared.faults.RecoverFault.{RecoverFault}
use Rattle.opening_faults.specs.declared.faults.RecoverFault.TheVariants.{NoArchive, TwoArchives, NotAPackage}
use Rattle.opening_faults.specs.declared.faults.RecoverFault.TheVariants.{TwoCopies, MissingPackage, ForeignFrame}
use Rattle.opening_faults.specs.declared.faults.RecoverFault.TheVariants.{Dangling, OutOfAccount, Altered}
use Rattle.opening_faults.specs.declared.faults.RecoverFault.TheVariants.{OutOfMemory, StoreFault}
use Rattle.opening_verdict.specs.Views.{IsFaultOf}
use Rattle.world.specs.Worlds.{StandsFor}
use Rattle.opening_stores.specs.Judged.{IsWant}
use Rattle.opening.specs.Recovered.{IsOpened}
use Rattle.opening_laws_model.proofs.Stands as standing
use Rattle.opening_laws.specs.Laws.{OpensAgain, MeetsNoFault}
use Rattle.opening_laws.proofs.AllViews.{views_of_stores}

-- where none of the nine holds, memory or a store gave out
wanted : (views : List StoreSight) → HasNoFault views → (fault : RecoverFault) → IsFaultOf views fault
    → IsWant fault
wanted views none NoArchive is = absurd (none.some_archive is)
wanted views none TwoArchives is = absurd (none.no_other_archive is)
wanted views none (NotAPackage id) is = absurd (none.formed id is.1.0)
wanted views none (TwoCopies id) is = absurd (none.no_copies id is.2.0)
wanted views none (MissingPackage id) is = absurd (none.none_missing id is.3.0)
wanted views none (ForeignFrame id) is = absurd (none.none_foreign id is.4.0)
wanted views none (Dangling id) is = absurd (none.tied id is.5.0)
wanted views none OutOfAccount is = absurd (none.in_account is.1)
wanted views none (Altered id) is = absurd (none.unaltered id is.2)
wanted views none OutOfMemory is = inl refl
wanted views none StoreFault is = inr refl

module _ {S : Type 0} (g : Ghosts S) where
  pub opens_again : OpensAgain g
  opens_again w stores found kept of is clean =
      let opened : IsOpened g stores found = is.opened clean in
      let stand : StoresStandFor opened.views w = standing.stands w kept.0 opened.views
      (views_of_stores g w stores opened.views kept of opened.right) in
      let same : opened.world ≡ w = one_world StoreSight (λ s. s.head) (λ s. s.claims) (λ s. s.is_formed ≡ true)
      (λ s. s.is_tied ≡ true) (λ s. s.frame) (λ s. s.reads_as) opened.views opened.world w opened.stand
      stand in
      subst (StandsFor g found.world) same opened.is

  pub meets_no_fault : MeetsNoFault g
  meets_no_fault w stores refused kept of is clean =
      elim (is.fault clean) [
        | inl want ↦ want
        | inr f ↦ wanted f.0 (standing.no_faults w kept.0 f.0 (views_of_stores g w stores f.0 kept of f.1))
            refused.fault f.2
      ]
