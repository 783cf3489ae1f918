-- What the looks at one store answer. Profile.
use Rattle.std.specs.Prelude.{◌≡◌, true, List, MatchOption, Option, Some, None}
use Rattle.sqlite.specs.Effect.{Database}
use Rattle.sheet_types.specs.Opening.{Head, head_of}
use Rattle.sheet_types.specs.World.{Package}
use Rattle.sheet_types.specs.declared.frame.Frame.{Frame}
use Rattle.sheet_types.specs.declared.receipt.Receipt.{Receipt}
use Rattle.package_tables.specs.Package.{Tables}
use Rattle.sheet_balance.specs.Sights.{IsSightOf}
use Rattle.sheet_balance.specs.declared.sights.Sight.{Sight as PackageSight}
use Rattle.sheet_laws.specs.Laws.{StoreSight}
use Rattle.package_schema.specs.Frames.{HasFrame, AreDated}
use Rattle.package_items.specs.Ranges.{AreItemsInRange}
use Rattle.opening_verdict.specs.Views.{IsSeenAs}
use Rattle.opening_verdict.specs.declared.seen.StoreSeen.{StoreSeen}
use Rattle.opening_survey.specs.Views.{IsViewOf}

-- the fixed rows are those of this good frame, with a moment each, and the rows of items and links are in their ranges
pub record IsFramed (f : Frame) (t : Tables) : Type 0 where
  pub frame : HasFrame f t
  pub dated : AreDated t
  pub items : AreItemsInRange f t

-- the frame of which it is so, or none where it is so of no frame
abbrev pub ReadsFramed : Tables → Option Frame → Type 0
ReadsFramed t found = MatchOption found ((f : Frame) → IsFramed f t → ⊥) (λ f. IsFramed f t)

-- what is told of a package of this head and these receipts
abbrev pub TellsHeld : Head → List Receipt → Frame → Package → PackageSight → Type 0
TellsHeld head receipts f p held = head ≡ head_of p → p.receipts ≡ receipts → IsSightOf held p

-- some right view of the store is seen so
abbrev pub IsSeenRight : Database → StoreSeen → Type 0
IsSeenRight db seen = (v : StoreSight) × IsViewOf db v × IsSeenAs seen v
