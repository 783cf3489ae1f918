-- What a balanced world needs besides to be a register. Profile.
use Rattle.std.specs.Prelude.{◌≡◌, ◌↔◌, ◌+◌, ◌≤◌, true, [], map, filter, MatchOption, count_by}
use Rattle.std.specs.Prelude.{bytes_eq, unwrap_or}
use Rattle.std.specs.List.{AllByRecursion, IsDistinct}
use Rattle.sheet_types.specs.Ordered.{IsArranged}
use Rattle.sheet_types.specs.Matrix.{is_good_frame}
use Rattle.sheet_types.specs.World.{World, Package, package_key, item_key, link_key, receipt_key, receipts_of}
use Rattle.sheet_types.specs.World.{holdings, is_live, is_tile}
use Rattle.sheet_types.specs.Lines.{IsUuid}
use Rattle.sheet_types.specs.Custody.{is_open_among}
use Rattle.sheet_types.specs.Cut.{identities}
use Rattle.sheet_types.specs.Refuse.{is_archive, place_of, greatest_depth}
use Rattle.sheet_types.specs.Balance.{Balanced, altered}
use Rattle.sheet_types.specs.Register.{IsFit, HasEnds, IsRegister}

-- the archive stands at depth 0 with no loan's number, and a loan one level below its parent. That the parent is live
-- is left out: of a balanced world it follows
abbrev pub HasDepth : World → Package → Type 0
HasDepth w p = MatchOption p.parent ((p.depth ≡ 0) × (p.loan ≡ 0))
    (λ parent. (p.depth ≡ (holdings w parent).depth + 1) × (p.depth ≤ greatest_depth))

-- a package as requests leave it, but for what receipts say. That its identities are UUIDs is left out: of what is
-- unaltered under a sound ledger it follows
pub record IsFitPackage (w : World) (p : Package) : Type 0 where
  pub uuid : IsUuid p.uuid
  pub items : IsArranged item_key p.items
  pub links : IsArranged link_key p.links
  pub receipts : IsArranged receipt_key p.receipts
  pub identities : IsDistinct bytes_eq (identities p.items)
  pub fit : AllByRecursion (IsFit w p) p.items
  pub places : IsDistinct bytes_eq (map (λ i. place_of i.content) (filter is_tile p.items))
  pub ends : AllByRecursion (HasEnds p) p.links
  pub depth : HasDepth w p

-- what no receipt can say: a good frame, one archive, fit packages, a live package for each open loan, and no altered
-- item
pub record IsFitWorld (w : World) : Type 0 where
  pub frame : is_good_frame w.frame ≡ true
  pub arranged : IsArranged package_key w.packages
  pub archive : count_by is_archive w.packages ≡ 1
  pub packages : AllByRecursion (IsFitPackage w) w.packages
  pub open_loans : AllByRecursion (λ r. is_open_among (receipts_of w) r ≡ true
      → is_live w (unwrap_or r.target []) ≡ true) (receipts_of w)
  pub unaltered : altered w ≡ []

-- a world is a register exactly where it is balanced and fit
abbrev pub RegisterIsBalancedAndFit : Type 0
RegisterIsBalancedAndFit = (w : World) → IsRegister w ↔ (Balanced w × IsFitWorld w)
