-- The numbers and the names of the reasons for a refusal. Profile.
use Rattle.std.specs.Prelude.{ℕ, List, codes}
use Rattle.sheet_types.specs.declared.refusal.Refusal.{Refusal}
use Rattle.sheet_types.specs.declared.refusal.Refusal.TheVariants.{IdReused, UnknownPackage, PackageUsed, BadText}
use Rattle.sheet_types.specs.declared.refusal.Refusal.TheVariants.{TooLarge, IdentityUsed, UnknownItem, WrongKind}
use Rattle.sheet_types.specs.declared.refusal.Refusal.TheVariants.{BadPlace, OutOfFrame, PlaceTaken, LinkThere}
use Rattle.sheet_types.specs.declared.refusal.Refusal.TheVariants.{UnknownLink, Linked, BadRectangle, TooDeep}
use Rattle.sheet_types.specs.declared.refusal.Refusal.TheVariants.{NothingToLend, CutLink, Foreign, Stale, LoanOpen}
use Rattle.sheet_types.specs.declared.refusal.Refusal.TheVariants.{Collides, TooMany, OutOfMemory, StoreFault}

-- 1 to 25, in the order in which the reasons are looked for
abbrev pub refusal_number : Refusal → ℕ
refusal_number IdReused = 1
refusal_number UnknownPackage = 2
refusal_number PackageUsed = 3
refusal_number BadText = 4
refusal_number TooLarge = 5
refusal_number IdentityUsed = 6
refusal_number UnknownItem = 7
refusal_number WrongKind = 8
refusal_number BadPlace = 9
refusal_number OutOfFrame = 10
refusal_number PlaceTaken = 11
refusal_number LinkThere = 12
refusal_number UnknownLink = 13
refusal_number Linked = 14
refusal_number BadRectangle = 15
refusal_number TooDeep = 16
refusal_number NothingToLend = 17
refusal_number (CutLink item) = 18
refusal_number Foreign = 19
refusal_number (Stale ticket) = 20
refusal_number (LoanOpen loan) = 21
refusal_number (Collides tile) = 22
refusal_number TooMany = 23
refusal_number OutOfMemory = 24
refusal_number StoreFault = 25

-- the reason as it is printed, without what it carries
abbrev pub refusal_name : Refusal → List ℕ
refusal_name IdReused = codes "IdReused"
refusal_name UnknownPackage = codes "UnknownPackage"
refusal_name PackageUsed = codes "PackageUsed"
refusal_name BadText = codes "BadText"
refusal_name TooLarge = codes "TooLarge"
refusal_name IdentityUsed = codes "IdentityUsed"
refusal_name UnknownItem = codes "UnknownItem"
refusal_name WrongKind = codes "WrongKind"
refusal_name BadPlace = codes "BadPlace"
refusal_name OutOfFrame = codes "OutOfFrame"
refusal_name PlaceTaken = codes "PlaceTaken"
refusal_name LinkThere = codes "LinkThere"
refusal_name UnknownLink = codes "UnknownLink"
refusal_name Linked = codes "Linked"
refusal_name BadRectangle = codes "BadRectangle"
refusal_name TooDeep = codes "TooDeep"
refusal_name NothingToLend = codes "NothingToLend"
refusal_name (CutLink item) = codes "CutLink"
refusal_name Foreign = codes "Foreign"
refusal_name (Stale ticket) = codes "Stale"
refusal_name (LoanOpen loan) = codes "LoanOpen"
refusal_name (Collides tile) = codes "Collides"
refusal_name TooMany = codes "TooMany"
refusal_name OutOfMemory = codes "OutOfMemory"
refusal_name StoreFault = codes "StoreFault"
