-- When views of stores are those of a world's packages, with strays beside them. Profile.
use Rattle.std.specs.Prelude.{◌≡◌, ◌==◌, true, false, Bool, List, ◌++◌, map, Some, IsPermutation}
use Rattle.std.specs.List.{AllByRecursion, AllZip}
use Rattle.sheet_types.specs.Custody.{is_open_among}
use Rattle.sheet_types.specs.Lines.{IsUuid}
use Rattle.sheet_types.specs.Opening as model
use Rattle.sheet_types.specs.Opening.{Head, Claim, head_of, claim_of}
use Rattle.sheet_types.specs.World.{World, Package, receipts_of, is_live as is_live_package}
use Rattle.sheet_laws.specs.Laws.{StoreSight}

-- ---- the model's words, of views

abbrev pub is_root : StoreSight → Bool
is_root = model.is_root StoreSight (λ v. v.head) (λ v. v.claims) (λ v. v.is_formed ≡ true)
    (λ v. v.is_tied ≡ true)
    (λ v. v.frame) (λ v. v.reads_as)

abbrev pub is_loan_of : Claim → StoreSight → Bool
is_loan_of = model.is_loan_of StoreSight (λ v. v.head) (λ v. v.claims) (λ v. v.is_formed ≡ true)
    (λ v. v.is_tied ≡ true) (λ v. v.frame) (λ v. v.reads_as)

abbrev pub is_live : List StoreSight → StoreSight → Bool
is_live = model.is_live_store StoreSight (λ v. v.head) (λ v. v.claims) (λ v. v.is_formed ≡ true)
    (λ v. v.is_tied ≡ true) (λ v. v.frame) (λ v. v.reads_as)

-- ---- views of a world's stores

-- The view is that of a package of this world: head, claims and frame are the package's own, and it is formed, tied
-- and reads as it.
pub record IsViewOfPackage (w : World) (v : StoreSight) (p : Package) : Type 0 where
  pub head : v.head ≡ Some (head_of p)
  pub claims : v.claims ≡ map claim_of p.receipts
  pub formed : v.is_formed ≡ true
  pub tied : v.is_tied ≡ true
  pub frame : v.frame ≡ w.frame
  pub reads : v.reads_as ≡ p

-- The view is that of a stray: no archive's store says so of itself, and no open split of the world names it. All
-- else of it may be anything.
pub record IsStrayView (w : World) (v : StoreSight) : Type 0 where
  pub no_root : is_root v ≡ false
  pub unnamed : AllByRecursion (λ r. is_open_among (receipts_of w) r ≡ true → is_loan_of (claim_of r) v ≡ false)
      (receipts_of w)

-- A head that is a loan's, and of no package of the world.
pub record IsUnknown (w : World) (h : Head) : Type 0 where
  pub lent : (h.depth == 0) ≡ false
  pub uuid : IsUuid h.uuid
  pub apart : is_live_package w h.uuid ≡ false

-- Of views in any order, one is that of each package of the world, and the rest are strays.
pub record AreViewsOfWorld (views : List StoreSight) (w : World) : Type 0 where
  pub members : List StoreSight
  pub others : List StoreSight
  pub all : IsPermutation views (members ++ others)
  pub each : AllZip (IsViewOfPackage w) members w.packages
  pub beside : AllByRecursion (IsStrayView w) others
