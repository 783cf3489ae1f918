-- A new package that was filled and opened again is a copy.
use Rattle.std.proofs.Common.{◌≡◌, ◌∙◌, refl, sym, ap, subst}
use Rattle.sqlite.specs.Effect.{Database}
use Rattle.sheet_types.specs.declared.frame.Frame.{Frame}
use Rattle.store_sql.specs.Writing.{AreKeyed}
use Rattle.package_tables.specs.Calls.{OnTables}
use Rattle.package_tables.specs.Creation.{new_tables, HoldsTables}
use Rattle.package_tables.specs.Package.{tables_of}
use Rattle.package_tables.specs.declared.rows.HeadRow.{HeadRow}
use Rattle.package_copy.specs.Copies.{AreEmpty, with_rows, Fills, IsCopy}
use Rattle.package_copy.specs.declared.package_rows.PackageRows.{PackageRows}

pub is_copy : (f : Frame) (head : HeadRow) (x : PackageRows) (made filled last : Database)
    → HoldsTables made (new_tables f head) → OnTables (Fills x) made filled → last ≡ filled → AreKeyed last
    → IsCopy f head x last
is_copy f head x made filled last holds fills same keyed =
    let it = fills holds.formed in
    let empty : AreEmpty (tables_of made) = subst AreEmpty (sym holds.says)
    (record {
      tiles = refl;
      media = refl;
      rows = refl;
      tiles_media = refl;
      rows_media = refl;
      identities = refl;
      receipts = refl;
      moved = refl;
    }) in
    record {
      holds = subst (λ db. HoldsTables db (with_rows x (new_tables f head))) (sym same)
          (record { formed = it.0; says = it.1 empty ∙ ap (with_rows x) holds.says });
      keyed = keyed;
    }
