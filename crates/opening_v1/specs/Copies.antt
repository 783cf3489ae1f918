-- The rows of a store that are copied into a package of the second version in memory, and what is seen of it. Profile.
use Rattle.std.specs.Prelude.{IsPermutation, codes}
use Rattle.sqlite.specs.Effect.{Database}
use Rattle.sheet_types.specs.declared.frame.Frame.{Frame}
use Rattle.opening_faults.specs.declared.sights.StoreHead.{StoreHead}
use Rattle.package_tables.specs.Creation.{head_of, new_tables, HoldsTables}
use Rattle.package_tables.specs.Package.{Tables}
use Rattle.package_tables.specs.declared.rows.HeadRow.{HeadRow}
use Rattle.package_copy.specs.Copies.{with_rows}
use Rattle.package_copy.specs.declared.package_rows.PackageRows.{PackageRows}
use Rattle.opening_survey.specs.Looks.{IsSeenRight}
use Rattle.opening_verdict.specs.declared.seen.StoreSeen.{StoreSeen}

-- each row of these tables, in any order
pub record AreRowsOf (t : Tables) (x : PackageRows) : Type 0 where
  pub tiles : IsPermutation t.tiles x.tiles.items
  pub media : IsPermutation t.media x.media.items
  pub rows : IsPermutation t.rows x.rows.items
  pub tiles_media : IsPermutation t.tiles_media x.tiles_media.items
  pub rows_media : IsPermutation t.rows_media x.rows_media.items
  pub identities : IsPermutation t.identities x.identities.items
  pub receipts : IsPermutation t.receipts x.receipts.items
  pub moved : IsPermutation t.moved x.moved.items

-- the row of the head of a copy; nothing that is seen depends on its moment
abbrev pub copy_row : StoreHead → HeadRow
copy_row h = head_of h.uuid h.parent h.depth h.loan (codes "1970-01-01T00:00:00.000Z")

-- seen of a package of this frame, this head and these rows
abbrev pub IsSeenOfCopy : Frame → StoreHead → PackageRows → StoreSeen → Type 0
IsSeenOfCopy f h x seen = (db : Database) × HoldsTables db (with_rows x (new_tables f (copy_row h)))
    × IsSeenRight db seen
