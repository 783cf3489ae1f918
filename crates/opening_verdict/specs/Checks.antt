-- The first seven faults, by what stores say of themselves and by whether each is formed and tied, place by place.
-- Profile.
use Rattle.std.specs.Prelude.{◌≡◌, ⊤, ℕ, Bool, List, map}
use Rattle.sheet_types.specs.Opening.{IsNever, IsLeast}
use Rattle.opening_faults.specs.Sights as sights
use Rattle.opening_faults.specs.Sights.{is_live_store, IsOne}
use Rattle.opening_faults.specs.Unfit.{IsUnfit}
use Rattle.opening_faults.specs.declared.faults.RecoverFault.{RecoverFault}
use Rattle.opening_faults.specs.declared.faults.RecoverFault.TheVariants.{NoArchive, TwoArchives, NotAPackage}
use Rattle.opening_faults.specs.declared.faults.RecoverFault.TheVariants.{TwoCopies, MissingPackage, ForeignFrame}
use Rattle.opening_faults.specs.declared.faults.RecoverFault.TheVariants.{Dangling, OutOfAccount, Altered}
use Rattle.opening_faults.specs.declared.faults.RecoverFault.TheVariants.{OutOfMemory, StoreFault}
use Rattle.opening_faults.specs.declared.sights.Sight.{Sight}

-- which are live, place by place
abbrev pub flags_of : List Sight → List Bool
flags_of stores = map (is_live_store stores) stores

-- a live store of this package is not fit, by these flags
abbrev pub HasUnfit : List Sight → List Bool → List ℕ → Type 0
HasUnfit stores fit id = IsUnfit (flags_of stores) fit stores id

-- none of the first seven faults holds
pub record AreChecked (stores : List Sight) (formed tied : List Bool) : Type 0 where
  pub one : IsOne stores
  pub formed_all : IsNever (HasUnfit stores formed)
  pub no_copies : IsNever (sights.TwoCopies stores)
  pub none_missing : IsNever (sights.MissingPackage stores)
  pub at_home : IsNever (sights.ForeignFrame stores)
  pub tied_all : IsNever (HasUnfit stores tied)

-- the fault is the first of the first seven that holds, with its least package; or want of memory
abbrev pub IsFirstOf : List Sight → List Bool → List Bool → RecoverFault → Type 0
IsFirstOf stores formed tied NoArchive = sights.NoArchive stores
IsFirstOf stores formed tied TwoArchives = sights.TwoArchives stores
IsFirstOf stores formed tied (NotAPackage id) = IsOne stores × IsLeast (HasUnfit stores formed) id
IsFirstOf stores formed tied (TwoCopies id) = IsOne stores × IsNever (HasUnfit stores formed)
    × IsLeast (sights.TwoCopies stores) id
IsFirstOf stores formed tied (MissingPackage id) = IsOne stores × IsNever (HasUnfit stores formed)
    × IsNever (sights.TwoCopies stores) × IsLeast (sights.MissingPackage stores) id
IsFirstOf stores formed tied (ForeignFrame id) =
    IsOne stores × IsNever (HasUnfit stores formed) × IsNever (sights.TwoCopies stores)
    × IsNever (sights.MissingPackage stores) × IsLeast (sights.ForeignFrame stores) id
IsFirstOf stores formed tied (Dangling id) =
    IsOne stores × IsNever (HasUnfit stores formed) × IsNever (sights.TwoCopies stores)
    × IsNever (sights.MissingPackage stores) × IsNever (sights.ForeignFrame stores)
    × IsLeast (HasUnfit stores tied) id
IsFirstOf stores formed tied OutOfAccount = ⊥
IsFirstOf stores formed tied (Altered id) = ⊥
IsFirstOf stores formed tied OutOfMemory = ⊤
IsFirstOf stores formed tied StoreFault = ⊥
