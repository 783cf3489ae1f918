-- What the judge sees of a world whose receipts stand in one ledger. Profile.
use Rattle.std.specs.Prelude.{◌≡◌, ◌+◌, ◌||◌, length, sum_by, ℕ, Bool, true, List, map, find, Option, Some}
use Rattle.std.specs.Prelude.{is_none}
use Rattle.std.specs.List.{list_any, AllByRecursion, AllZip}
use Rattle.std.specs.Option.{option_map}
use Rattle.sheet_types.specs.Ordered.{has, IsArranged}
use Rattle.sheet_types.specs.Refuse.{is_archive}
use Rattle.sheet_types.specs.Step.{count_of}
use Rattle.sheet_types.specs.World.{World, Package, item_moved, link_moved, moved_thing, package_key, receipts_of}
use Rattle.sheet_types.specs.declared.receipt.Receipt.{Receipt}
use Rattle.sheet_types.specs.declared.receipt.Moved.{Moved}
use Rattle.sheet_types.specs.declared.receipt.MovedKind.TheVariants.{TileItem, MediaItem, RowItem}
use Rattle.sheet_ledger.specs.Flows.{flow_by}
use Rattle.sheet_ledger.specs.declared.flows.Flow.{Flow}
use Rattle.sheet_balance.specs.declared.holders.Holder.{Holder}
use Rattle.sheet_balance.specs.declared.sights.Sight.{Sight}

-- the holder is that of the package: of its receipts it has the numbers
pub record IsHolderOf (h : Holder) (p : Package) : Type 0 where
  pub uuid : h.uuid ≡ p.uuid
  pub parent : h.parent ≡ p.parent
  pub loan : h.loan ≡ p.loan
  pub items : h.items ≡ map item_moved p.items
  pub links : h.links ≡ map link_moved p.links
  pub numbers : h.numbers.items ≡ map (λ r. r.seq) p.receipts

-- the holders are those of the packages, in turn
abbrev pub AreHoldersOf : List Holder → List Package → Type 0
AreHoldersOf hs ps = AllZip IsHolderOf hs ps

-- a world that is seen so. Its packages are in the order of their UUIDs, so no two have one, and one of them is the
-- archive
pub record IsHeld (holders : List Holder) (w : World) : Type 0 where
  pub packages : AreHoldersOf holders w.packages
  pub in_order : IsArranged package_key w.packages
  pub archive : list_any is_archive w.packages ≡ true

-- and whose receipts, in the order of their numbers, are these
pub record IsHeldWith (ledger : List Receipt) (holders : List Holder) (w : World) : Type 0 where
  pub held : IsHeld holders w
  pub whole : ledger ≡ receipts_of w

-- what is left of the sight without its receipts: of these it has the numbers
pub record IsRestOf (h : Holder) (s : Sight) : Type 0 where
  pub uuid : h.uuid ≡ s.uuid
  pub parent : h.parent ≡ s.parent
  pub loan : h.loan ≡ s.loan
  pub items : h.items ≡ s.items
  pub links : h.links ≡ s.links
  pub numbers : h.numbers.items ≡ map (λ r. r.seq) s.receipts.items

-- ---- what holders say by themselves

-- the UUID of the first without parent
abbrev pub archive_seen : List Holder → Option (List ℕ)
archive_seen holders = option_map (λ h. h.uuid) (find (λ h. is_none h.parent) holders)

-- ---- custody

-- the thing is among those that the package holds
abbrev pub has_seen : List ℕ → Holder → Bool
has_seen thing h = has moved_thing thing h.items || has moved_thing thing h.links

-- all that the package holds stands there, by these places
abbrev pub Stands : (List ℕ → Option (List ℕ)) → Holder → Type 0
Stands place h = AllByRecursion (λ m. place (moved_thing m) ≡ Some h.uuid) h.items
    × AllByRecursion (λ m. place (moved_thing m) ≡ Some h.uuid) h.links

-- ---- sums

-- what came is what left and what these are, by each of the five measures
pub record ComesUp (flow : Flow) (items relations : List Moved) : Type 0 where
  pub tiles : flow.came.tiles ≡ flow.left.tiles + count_of TileItem items
  pub media : flow.came.media ≡ flow.left.media + count_of MediaItem items
  pub rows : flow.came.rows ≡ flow.left.rows + count_of RowItem items
  pub links : flow.came.links ≡ flow.left.links + length relations
  pub bytes : flow.came.bytes ≡ flow.left.bytes + sum_by (λ m. m.size) items

-- of the package that is seen so
abbrev pub ComesUpIn : List Receipt → Holder → Type 0
ComesUpIn ledger h = ComesUp (flow_by ledger h.uuid) h.items h.links
