-- What is kept of stores, told by their heads, by which are live and by how much each holds, place by place. Profile.
use Rattle.std.specs.Prelude.{◌≡◌, ◌⊎◌, ◌<◌, ◌^◌, ℕ, Bool, true, List, length, Option, Some}
use Rattle.std.specs.Prelude.{None, MatchOption}
use Rattle.std.specs.Prelude.{slice_get}
use Rattle.std.specs.List.{AllZip}
use Rattle.std.specs.Option.{SomeIff}
use Rattle.sheet_types.specs.Answers.{sums_held}
use Rattle.sheet_types.specs.World.{Package}
use Rattle.sheet_types.specs.declared.receipt.Receipt.{Receipt}
use Rattle.sheet_types.specs.declared.receipt.Sums.{Sums}
use Rattle.sheet_balance.specs.Sights.{IsSightOf}
use Rattle.sheet_balance.specs.declared.sights.Sight.{Sight as PackageSight}
use Rattle.opening_faults.specs.declared.sights.StoreHead.{StoreHead}
use Rattle.opening_faults.specs.declared.faults.RecoverFault.{RecoverFault}
use Rattle.opening_faults.specs.declared.faults.RecoverFault.TheVariants.{OutOfMemory, StoreFault}
use Rattle.opening_verdict.specs.Tickets.{last_naming}
use Rattle.opening_verdict.specs.declared.verdict.Kept.{Kept}

-- how much a package holds that is seen so, if it has less than 2^64 bytes
abbrev pub TellsSums : PackageSight → Option Sums → Type 0
TellsSums s sums = (p : Package) → IsSightOf s p → SomeIff sums ((sums_held p).bytes < 2 ^ 64) (sums_held p)

-- what is kept under this head
pub record IsKeptBy (ledger : List Receipt) (h : StoreHead) (sums : Option Sums) (k : Kept) : Type 0 where
  pub head_is : k.head ≡ h
  pub sums_are : sums ≡ Some k.sums
  pub ticket_is : k.ticket ≡ last_naming h.uuid ledger

-- what is kept of a store: nothing where it is not live
abbrev pub IsKeptAt : List Receipt → Option StoreHead → Bool → Option Sums → Option Kept → Type 0
IsKeptAt ledger head live sums kept = MatchOption kept (live ≡ true → head ≡ None)
    (λ k. (live ≡ true) × (head ≡ Some k.head) × IsKeptBy ledger k.head sums k)

-- of each
pub record AreKept (ledger : List Receipt) (heads : List (Option StoreHead)) (live : List Bool)
    (sums : List (Option Sums)) (kept : List (Option Kept)) : Type 0 where
  pub long : length kept ≡ length heads
  pub each : (i : ℕ) (h : Option StoreHead) (b : Bool) (o : Option Sums) (k : Option Kept)
      → slice_get heads i ≡ Some h → slice_get live i ≡ Some b → slice_get sums i ≡ Some o
      → slice_get kept i ≡ Some k → IsKeptAt ledger h b o k

-- some store is live, and its package has no sums
abbrev pub IsSomeUnkept : List Bool → List (Option Sums) → Type 0
IsSomeUnkept live sums = (i : ℕ) × (slice_get live i ≡ Some true) × (slice_get sums i ≡ Some None)

-- want of memory, or a fault of the store that is so
abbrev pub IsWantOr : Type 0 → RecoverFault → Type 0
IsWantOr P fault = (fault ≡ OutOfMemory) ⊎ ((fault ≡ StoreFault) × P)
