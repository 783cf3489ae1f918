-- The first fault that holds of views, and of those of them alone that live.
use Rattle.std.specs.Prelude.{◌≡◌, ◌==◌, ◌≤◌, ◌^◌, ℕ, true, nat_le, List}
use Rattle.sheet_types.specs.Answers.{sums_held}
use Rattle.sheet_types.specs.Opening as model
use Rattle.sheet_laws.specs.Laws.{StoreSight}
use Rattle.opening_faults.specs.declared.faults.RecoverFault.{RecoverFault}
use Rattle.opening_faults.specs.declared.faults.RecoverFault.TheVariants.{NoArchive, TwoArchives, NotAPackage}
use Rattle.opening_faults.specs.declared.faults.RecoverFault.TheVariants.{TwoCopies, MissingPackage, ForeignFrame}
use Rattle.opening_faults.specs.declared.faults.RecoverFault.TheVariants.{Dangling, OutOfAccount, Altered}
use Rattle.opening_faults.specs.declared.faults.RecoverFault.TheVariants.{OutOfMemory, StoreFault}
use Rattle.opening_faults.proofs.Carried.{least_same, never_same}
use Rattle.opening_verdict.specs.Views.{IsFaultOf, live_views}
use Rattle.opening_live.proofs.Alone as alone

abbrev NotA : List StoreSight → List ℕ → Type 0
NotA = model.NotAPackage StoreSight (λ v. v.head) (λ v. v.claims) (λ v. v.is_formed ≡ true)
    (λ v. v.is_tied ≡ true)
    (λ v. v.frame) (λ v. v.reads_as)

abbrev Copies : List StoreSight → List ℕ → Type 0
Copies = model.TwoCopies StoreSight (λ v. v.head) (λ v. v.claims) (λ v. v.is_formed ≡ true)
    (λ v. v.is_tied ≡ true)
    (λ v. v.frame) (λ v. v.reads_as)

abbrev Missing : List StoreSight → List ℕ → Type 0
Missing = model.MissingPackage StoreSight (λ v. v.head) (λ v. v.claims) (λ v. v.is_formed ≡ true)
    (λ v. v.is_tied ≡ true) (λ v. v.frame) (λ v. v.reads_as)

abbrev Foreign : List StoreSight → List ℕ → Type 0
Foreign = model.ForeignFrame StoreSight (λ v. v.head) (λ v. v.claims) (λ v. v.is_formed ≡ true)
    (λ v. v.is_tied ≡ true) (λ v. v.frame) (λ v. v.reads_as)

abbrev Hangs : List StoreSight → List ℕ → Type 0
Hangs = model.Dangling StoreSight (λ v. v.head) (λ v. v.claims) (λ v. v.is_formed ≡ true)
    (λ v. v.is_tied ≡ true)
    (λ v. v.frame) (λ v. v.reads_as)

module _ (vs : List StoreSight) where
  a_to : (id : List ℕ) → NotA (live_views vs) id → NotA vs id
  a_to = alone.unformed_to StoreSight (λ v. v.head) (λ v. v.claims) (λ v. v.is_formed ≡ true)
      (λ v. v.is_tied ≡ true)
      (λ v. v.frame) (λ v. v.reads_as) vs

  a_fro : (id : List ℕ) → NotA vs id → NotA (live_views vs) id
  a_fro = alone.unformed_fro StoreSight (λ v. v.head) (λ v. v.claims) (λ v. v.is_formed ≡ true)
      (λ v. v.is_tied ≡ true) (λ v. v.frame) (λ v. v.reads_as) vs

  c_to : (id : List ℕ) → Copies (live_views vs) id → Copies vs id
  c_to = alone.counted_to StoreSight (λ v. v.head) (λ v. v.claims) (λ v. v.is_formed ≡ true)
      (λ v. v.is_tied ≡ true)
      (λ v. v.frame) (λ v. v.reads_as) vs (nat_le 2)

  c_fro : (id : List ℕ) → Copies vs id → Copies (live_views vs) id
  c_fro = alone.counted_fro StoreSight (λ v. v.head) (λ v. v.claims) (λ v. v.is_formed ≡ true)
      (λ v. v.is_tied ≡ true)
      (λ v. v.frame) (λ v. v.reads_as) vs (nat_le 2)

  m_to : (id : List ℕ) → Missing (live_views vs) id → Missing vs id
  m_to = alone.counted_to StoreSight (λ v. v.head) (λ v. v.claims) (λ v. v.is_formed ≡ true)
      (λ v. v.is_tied ≡ true)
      (λ v. v.frame) (λ v. v.reads_as) vs (λ n. n == 0)

  m_fro : (id : List ℕ) → Missing vs id → Missing (live_views vs) id
  m_fro = alone.counted_fro StoreSight (λ v. v.head) (λ v. v.claims) (λ v. v.is_formed ≡ true)
      (λ v. v.is_tied ≡ true)
      (λ v. v.frame) (λ v. v.reads_as) vs (λ n. n == 0)

  f_to : (id : List ℕ) → Foreign (live_views vs) id → Foreign vs id
  f_to = alone.foreign_to StoreSight (λ v. v.head) (λ v. v.claims) (λ v. v.is_formed ≡ true)
      (λ v. v.is_tied ≡ true)
      (λ v. v.frame) (λ v. v.reads_as) vs

  f_fro : (id : List ℕ) → Foreign vs id → Foreign (live_views vs) id
  f_fro = alone.foreign_fro StoreSight (λ v. v.head) (λ v. v.claims) (λ v. v.is_formed ≡ true)
      (λ v. v.is_tied ≡ true)
      (λ v. v.frame) (λ v. v.reads_as) vs

  d_to : (id : List ℕ) → Hangs (live_views vs) id → Hangs vs id
  d_to = alone.dangling_to StoreSight (λ v. v.head) (λ v. v.claims) (λ v. v.is_formed ≡ true)
      (λ v. v.is_tied ≡ true)
      (λ v. v.frame) (λ v. v.reads_as) vs

  d_fro : (id : List ℕ) → Hangs vs id → Hangs (live_views vs) id
  d_fro = alone.dangling_fro StoreSight (λ v. v.head) (λ v. v.claims) (λ v. v.is_formed ≡ true)
      (λ v. v.is_tied ≡ true) (λ v. v.frame) (λ v. v.reads_as) vs

  one_to : model.IsOne StoreSight (λ v. v.head) (λ v. v.claims) (λ v. v.is_formed ≡ true)
      (λ v. v.is_tied ≡ true)
      (λ v. v.frame) (λ v. v.reads_as) (live_views vs) → model.IsOne StoreSight (λ v. v.head) (λ v. v.claims)
      (λ v. v.is_formed ≡ true) (λ v. v.is_tied ≡ true) (λ v. v.frame) (λ v. v.reads_as) vs
  one_to = alone.one_to StoreSight (λ v. v.head) (λ v. v.claims) (λ v. v.is_formed ≡ true)
      (λ v. v.is_tied ≡ true)
      (λ v. v.frame) (λ v. v.reads_as) vs

  one_fro : model.IsOne StoreSight (λ v. v.head) (λ v. v.claims) (λ v. v.is_formed ≡ true)
      (λ v. v.is_tied ≡ true)
      (λ v. v.frame) (λ v. v.reads_as) vs → model.IsOne StoreSight (λ v. v.head) (λ v. v.claims)
      (λ v. v.is_formed ≡ true) (λ v. v.is_tied ≡ true) (λ v. v.frame) (λ v. v.reads_as) (live_views vs)
  one_fro = alone.one_fro StoreSight (λ v. v.head) (λ v. v.claims) (λ v. v.is_formed ≡ true)
      (λ v. v.is_tied ≡ true)
      (λ v. v.frame) (λ v. v.reads_as) vs

  pub fault_to : (fault : RecoverFault) → IsFaultOf (live_views vs) fault → IsFaultOf vs fault
  fault_to NoArchive h = alone.no_archive_to StoreSight (λ v. v.head) (λ v. v.claims) (λ v. v.is_formed ≡ true)
      (λ v. v.is_tied ≡ true) (λ v. v.frame) (λ v. v.reads_as) vs h
  fault_to TwoArchives h = alone.two_archives_to StoreSight (λ v. v.head) (λ v. v.claims) (λ v. v.is_formed ≡ true)
      (λ v. v.is_tied ≡ true) (λ v. v.frame) (λ v. v.reads_as) vs h
  fault_to (NotAPackage id) h = (one_to h.0, least_same (NotA (live_views vs)) (NotA vs) a_to a_fro id h.1)
  fault_to (TwoCopies id) h = (
    one_to h.0,
    never_same (NotA (live_views vs)) (NotA vs) a_fro h.1,
    least_same
        (Copies (live_views vs)) (Copies vs) c_to c_fro id h.2,
  )
  fault_to (MissingPackage id) h = (
    one_to h.0,
    never_same (NotA (live_views vs)) (NotA vs) a_fro h.1,
    never_same
        (Copies (live_views vs)) (Copies vs) c_fro h.2,
    least_same (Missing (live_views vs)) (Missing vs) m_to m_fro id
        h.3,
  )
  fault_to (ForeignFrame id) h = (
    one_to h.0,
    never_same (NotA (live_views vs)) (NotA vs) a_fro h.1,
    never_same
        (Copies (live_views vs)) (Copies vs) c_fro h.2,
    never_same (Missing (live_views vs)) (Missing vs) m_fro h.3,
    least_same (Foreign (live_views vs)) (Foreign vs) f_to f_fro id h.4,
  )
  fault_to (Dangling id) h = (
    one_to h.0,
    never_same (NotA (live_views vs)) (NotA vs) a_fro h.1,
    never_same
        (Copies (live_views vs)) (Copies vs) c_fro h.2,
    never_same (Missing (live_views vs)) (Missing vs) m_fro h.3,
    never_same (Foreign (live_views vs)) (Foreign vs) f_fro h.4,
    least_same (Hangs (live_views vs)) (Hangs vs) d_to
        d_fro id h.5,
  )
  fault_to OutOfAccount h = (
    alone.order_to StoreSight (λ v. v.head) (λ v. v.claims) (λ v. v.is_formed ≡ true)
        (λ v. v.is_tied ≡ true) (λ v. v.frame) (λ v. v.reads_as) vs h.0,
    alone.account_to StoreSight (λ v. v.head)
        (λ v. v.claims) (λ v. v.is_formed ≡ true) (λ v. v.is_tied ≡ true) (λ v. v.frame) (λ v. v.reads_as) vs
        h.1,
  )
  fault_to (Altered id) h = (
    alone.order_to StoreSight (λ v. v.head) (λ v. v.claims) (λ v. v.is_formed ≡ true)
        (λ v. v.is_tied ≡ true) (λ v. v.frame) (λ v. v.reads_as) vs h.0,
    (λ q. h.1 (alone.account_fro StoreSight (λ v. v.head) (λ v. v.claims) (λ v. v.is_formed ≡ true)
        (λ v. v.is_tied ≡ true) (λ v. v.frame) (λ v. v.reads_as) vs q)),
    alone.altered_to StoreSight (λ v. v.head)
        (λ v. v.claims) (λ v. v.is_formed ≡ true) (λ v. v.is_tied ≡ true) (λ v. v.frame) (λ v. v.reads_as) vs
        id h.2,
  )
  fault_to OutOfMemory h = tt
  fault_to StoreFault h = alone.large_to StoreSight (λ v. v.head) (λ v. v.claims) (λ v. v.is_formed ≡ true)
      (λ v. v.is_tied ≡ true) (λ v. v.frame) (λ v. v.reads_as) vs (λ v. 2 ^ 64 ≤ (sums_held v.reads_as).bytes) h

  pub fault_fro : (fault : RecoverFault) → IsFaultOf vs fault → IsFaultOf (live_views vs) fault
  fault_fro NoArchive h = alone.no_archive_fro StoreSight (λ v. v.head) (λ v. v.claims) (λ v. v.is_formed ≡ true)
      (λ v. v.is_tied ≡ true) (λ v. v.frame) (λ v. v.reads_as) vs h
  fault_fro TwoArchives h = alone.two_archives_fro StoreSight (λ v. v.head) (λ v. v.claims)
      (λ v. v.is_formed ≡ true)
      (λ v. v.is_tied ≡ true) (λ v. v.frame) (λ v. v.reads_as) vs h
  fault_fro (NotAPackage id) h = (one_fro h.0, least_same (NotA vs) (NotA (live_views vs)) a_fro a_to id h.1)
  fault_fro (TwoCopies id) h = (
    one_fro h.0,
    never_same (NotA vs) (NotA (live_views vs)) a_to h.1,
    least_same
        (Copies vs) (Copies (live_views vs)) c_fro c_to id h.2,
  )
  fault_fro (MissingPackage id) h = (
    one_fro h.0,
    never_same (NotA vs) (NotA (live_views vs)) a_to h.1,
    never_same
        (Copies vs) (Copies (live_views vs)) c_to h.2,
    least_same (Missing vs) (Missing (live_views vs)) m_fro m_to id
        h.3,
  )
  fault_fro (ForeignFrame id) h = (
    one_fro h.0,
    never_same (NotA vs) (NotA (live_views vs)) a_to h.1,
    never_same
        (Copies vs) (Copies (live_views vs)) c_to h.2,
    never_same (Missing vs) (Missing (live_views vs)) m_to h.3,
    least_same (Foreign vs) (Foreign (live_views vs)) f_fro f_to id h.4,
  )
  fault_fro (Dangling id) h = (
    one_fro h.0,
    never_same (NotA vs) (NotA (live_views vs)) a_to h.1,
    never_same
        (Copies vs) (Copies (live_views vs)) c_to h.2,
    never_same (Missing vs) (Missing (live_views vs)) m_to h.3,
    never_same (Foreign vs) (Foreign (live_views vs)) f_to h.4,
    least_same (Hangs vs) (Hangs (live_views vs)) d_fro
        d_to id h.5,
  )
  fault_fro OutOfAccount h = (
    alone.order_fro StoreSight (λ v. v.head) (λ v. v.claims) (λ v. v.is_formed ≡ true)
        (λ v. v.is_tied ≡ true) (λ v. v.frame) (λ v. v.reads_as) vs h.0,
    alone.account_fro StoreSight (λ v. v.head)
        (λ v. v.claims) (λ v. v.is_formed ≡ true) (λ v. v.is_tied ≡ true) (λ v. v.frame) (λ v. v.reads_as) vs
        h.1,
  )
  fault_fro (Altered id) h = (
    alone.order_fro StoreSight (λ v. v.head) (λ v. v.claims) (λ v. v.is_formed ≡ true)
        (λ v. v.is_tied ≡ true) (λ v. v.frame) (λ v. v.reads_as) vs h.0,
    (λ q. h.1 (alone.account_to StoreSight (λ v. v.head) (λ v. v.claims) (λ v. v.is_formed ≡ true)
        (λ v. v.is_tied ≡ true) (λ v. v.frame) (λ v. v.reads_as) vs q)),
    alone.altered_fro StoreSight (λ v. v.head)
        (λ v. v.claims) (λ v. v.is_formed ≡ true) (λ v. v.is_tied ≡ true) (λ v. v.frame) (λ v. v.reads_as) vs
        id h.2,
  )
  fault_fro OutOfMemory h = tt
  fault_fro StoreFault h = alone.large_fro StoreSight (λ v. v.head) (λ v. v.claims) (λ v. v.is_formed ≡ true)
      (λ v. v.is_tied ≡ true) (λ v. v.frame) (λ v. v.reads_as) vs (λ v. 2 ^ 64 ≤ (sums_held v.reads_as).bytes) h
