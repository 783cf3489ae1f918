-- What stores come to, by the model's words of opening at what is right of each store. Profile.
use Rattle.std.specs.Prelude.{◌≡◌, ◌≤◌, ◌^◌, ⊤, ℕ, Bool, true, false, List, length, Option}
use Rattle.std.specs.Prelude.{MatchOption, Contains}
use Rattle.std.specs.List.{AllZip}
use Rattle.sheet_types.specs.Answers.{sums_held}
use Rattle.sheet_types.specs.Custody.{ticket}
use Rattle.sheet_types.specs.Opening as model
use Rattle.sheet_types.specs.Opening.{head_of}
use Rattle.sheet_types.specs.Register.{IsRegister}
use Rattle.sheet_types.specs.World.{World, receipts_of}
use Rattle.sheet_laws.specs.Laws.{StoreSight, StoresStandFor, SeesItsPackage}
use Rattle.sheet_balance.specs.Sights.{IsSightOf}
use Rattle.opening_faults.specs.Passages.{passages}
use Rattle.opening_faults.specs.Sights.{head_said, head_seen, claims_seen, frame_seen}
use Rattle.opening_faults.specs.declared.faults.RecoverFault.{RecoverFault}
use Rattle.opening_faults.specs.declared.faults.RecoverFault.TheVariants.{NoArchive, TwoArchives, NotAPackage}
use Rattle.opening_faults.specs.declared.faults.RecoverFault.TheVariants.{TwoCopies, MissingPackage, ForeignFrame}
use Rattle.opening_faults.specs.declared.faults.RecoverFault.TheVariants.{Dangling, OutOfAccount, Altered}
use Rattle.opening_faults.specs.declared.faults.RecoverFault.TheVariants.{OutOfMemory, StoreFault}
use Rattle.opening_verdict.specs.declared.seen.StoreSeen.{StoreSeen}
use Rattle.opening_verdict.specs.declared.verdict.Kept.{Kept}
use Rattle.opening_verdict.specs.declared.verdict.Verdict.{Verdict}

-- what was seen of a store is right: this is its head, its frame, whether it is formed and tied, and where it is both
-- its package, which keeps its own rules; of its claims these are the splits and merges
pub record IsSeenAs (x : StoreSeen) (v : StoreSight) : Type 0 where
  pub head : head_seen x.sight ≡ v.head
  pub claims : claims_seen x.sight ≡ passages v.claims
  pub formed : x.is_formed ≡ v.is_formed
  pub tied : x.is_tied ≡ v.is_tied
  pub frame : frame_seen x.sight ≡ v.frame
  pub held : v.is_formed ≡ true → v.is_tied ≡ true → IsSightOf x.held v.reads_as
  pub reading : SeesItsPackage v

-- of all stores, in turn
abbrev pub AreSeenAs : List StoreSeen → List StoreSight → Type 0
AreSeenAs seen views = AllZip IsSeenAs seen views

-- ---- the model's words

abbrev pub is_live_view : List StoreSight → StoreSight → Bool
is_live_view = model.is_live_store StoreSight (λ v. v.head) (λ v. v.claims) (λ v. v.is_formed ≡ true)
    (λ v. v.is_tied ≡ true) (λ v. v.frame) (λ v. v.reads_as)

abbrev pub live_views : List StoreSight → List StoreSight
live_views = model.live StoreSight (λ v. v.head) (λ v. v.claims) (λ v. v.is_formed ≡ true)
    (λ v. v.is_tied ≡ true)
    (λ v. v.frame) (λ v. v.reads_as)

abbrev pub AreInOrder : List StoreSight → Type 0
AreInOrder = model.InOrder StoreSight (λ v. v.head) (λ v. v.claims) (λ v. v.is_formed ≡ true)
    (λ v. v.is_tied ≡ true)
    (λ v. v.frame) (λ v. v.reads_as)

-- the package of a live store holds 2^64 bytes or more
abbrev pub IsTooLarge : List StoreSight → Type 0
IsTooLarge views = (v : StoreSight) × Contains (live_views views) v × (2 ^ 64 ≤ (sums_held v.reads_as).bytes)

-- the fault is the first of the nine whose condition holds, with the least package or identity; or want of memory, or
-- no fault holds and a package is too large
abbrev pub IsFaultOf : List StoreSight → RecoverFault → Type 0
IsFaultOf views NoArchive = model.NoArchive StoreSight (λ v. v.head) (λ v. v.claims) (λ v. v.is_formed ≡ true)
    (λ v. v.is_tied ≡ true) (λ v. v.frame) (λ v. v.reads_as) views
IsFaultOf views TwoArchives = model.TwoArchives StoreSight (λ v. v.head) (λ v. v.claims) (λ v. v.is_formed ≡ true)
    (λ v. v.is_tied ≡ true) (λ v. v.frame) (λ v. v.reads_as) views
IsFaultOf views (NotAPackage id) = model.IsNotAPackage StoreSight (λ v. v.head) (λ v. v.claims)
    (λ v. v.is_formed ≡ true) (λ v. v.is_tied ≡ true) (λ v. v.frame) (λ v. v.reads_as) views id
IsFaultOf views (TwoCopies id) = model.IsTwoCopies StoreSight (λ v. v.head) (λ v. v.claims)
    (λ v. v.is_formed ≡ true)
    (λ v. v.is_tied ≡ true) (λ v. v.frame) (λ v. v.reads_as) views id
IsFaultOf views (MissingPackage id) = model.IsMissingPackage StoreSight (λ v. v.head) (λ v. v.claims)
    (λ v. v.is_formed ≡ true) (λ v. v.is_tied ≡ true) (λ v. v.frame) (λ v. v.reads_as) views id
IsFaultOf views (ForeignFrame id) = model.IsForeignFrame StoreSight (λ v. v.head) (λ v. v.claims)
    (λ v. v.is_formed ≡ true) (λ v. v.is_tied ≡ true) (λ v. v.frame) (λ v. v.reads_as) views id
IsFaultOf views (Dangling id) = model.IsDangling StoreSight (λ v. v.head) (λ v. v.claims) (λ v. v.is_formed ≡ true)
    (λ v. v.is_tied ≡ true) (λ v. v.frame) (λ v. v.reads_as) views id
IsFaultOf views OutOfAccount = model.IsOutOfAccount StoreSight (λ v. v.head) (λ v. v.claims)
    (λ v. v.is_formed ≡ true)
    (λ v. v.is_tied ≡ true) (λ v. v.frame) (λ v. v.reads_as) views
IsFaultOf views (Altered id) = model.IsAltered StoreSight (λ v. v.head) (λ v. v.claims) (λ v. v.is_formed ≡ true)
    (λ v. v.is_tied ≡ true) (λ v. v.frame) (λ v. v.reads_as) views id
IsFaultOf views OutOfMemory = ⊤
IsFaultOf views StoreFault = IsTooLarge views

-- ---- what a world keeps

-- what is kept of a live store's package
pub record IsKept (views : List StoreSight) (w : World) (k : Kept) (v : StoreSight) : Type 0 where
  pub live : is_live_view views v ≡ true
  pub head : head_said k.head ≡ head_of v.reads_as
  pub sums : k.sums ≡ sums_held v.reads_as
  pub ticket_is : k.ticket ≡ ticket w v.reads_as.uuid

-- of a stray nothing
abbrev pub IsKeptOf : List StoreSight → World → Option Kept → StoreSight → Type 0
IsKeptOf views w kept v = MatchOption kept (is_live_view views v ≡ false) (λ k. IsKept views w k v)

-- the stores stand for a world, a register, of which this is kept
pub record IsVerdictOf (verdict : Verdict) (views : List StoreSight) : Type 0 where
  pub world : World
  pub stands : StoresStandFor views world
  pub register : IsRegister world
  pub kept : AllZip (IsKeptOf views world) verdict.kept.items views
  pub counted : verdict.count ≡ length (receipts_of world)
