-- One list of the tables: what its rows say, how it is read, and the tables with another in its place.
use Rattle.std.specs.Prelude.{List}
use Rattle.sheet_types.specs.declared.command.Mapping.{Mapping}
use Rattle.package_tables.specs.Shape.{Shape}
use Rattle.package_tables.specs.Shapes.{spatial_ref_sys_shape, contents_shape, tile_matrix_set_shape}
use Rattle.package_tables.specs.Shapes.{tile_matrix_shape, relation_shape, tile_shape, medium_shape, attribute_shape}
use Rattle.package_tables.specs.Shapes.{head_shape, identity_shape, receipt_shape, moved_shape}
use Rattle.package_tables.specs.Package.{Tables}
use Rattle.package_tables.specs.Mappings.{pair_shape, mapping_rows, with_mapping_rows}
use Rattle.package_tables.specs.declared.rows.AttributeRow.{AttributeRow}
use Rattle.package_tables.specs.declared.rows.ContentsRow.{ContentsRow}
use Rattle.package_tables.specs.declared.rows.HeadRow.{HeadRow}
use Rattle.package_tables.specs.declared.rows.IdentityRow.{IdentityRow}
use Rattle.package_tables.specs.declared.rows.MappingRow.{MappingRow}
use Rattle.package_tables.specs.declared.rows.MediaRow.{MediaRow}
use Rattle.package_tables.specs.declared.rows.MovedRow.{MovedRow}
use Rattle.package_tables.specs.declared.rows.ReceiptRow.{ReceiptRow}
use Rattle.package_tables.specs.declared.rows.RelationRow.{RelationRow}
use Rattle.package_tables.specs.declared.rows.SpatialRefSysRow.{SpatialRefSysRow}
use Rattle.package_tables.specs.declared.rows.TileMatrixRow.{TileMatrixRow}
use Rattle.package_tables.specs.declared.rows.TileMatrixSetRow.{TileMatrixSetRow}
use Rattle.package_tables.specs.declared.rows.TileRow.{TileRow}

pub record Listed (R : Type 0) : Type 0 where
  pub shape : Shape R
  pub rows : Tables → List R
  pub with_rows : List R → Tables → Tables

abbrev pub systems : Listed SpatialRefSysRow
systems = record {
  shape = spatial_ref_sys_shape;
  rows = λ t. t.spatial_ref_sys;
  with_rows = λ l t. record t { spatial_ref_sys = l };
}

abbrev pub contents : Listed ContentsRow
contents = record { shape = contents_shape; rows = λ t. t.contents; with_rows = λ l t. record t { contents = l } }

abbrev pub matrix_sets : Listed TileMatrixSetRow
matrix_sets = record {
  shape = tile_matrix_set_shape;
  rows = λ t. t.tile_matrix_set;
  with_rows = λ l t. record t { tile_matrix_set = l };
}

abbrev pub matrices : Listed TileMatrixRow
matrices = record {
  shape = tile_matrix_shape;
  rows = λ t. t.tile_matrix;
  with_rows = λ l t. record t { tile_matrix = l };
}

abbrev pub relations : Listed RelationRow
relations = record { shape = relation_shape; rows = λ t. t.relations; with_rows = λ l t. record t { relations = l } }

abbrev pub tiles : Listed TileRow
tiles = record { shape = tile_shape; rows = λ t. t.tiles; with_rows = λ l t. record t { tiles = l } }

abbrev pub media : Listed MediaRow
media = record { shape = medium_shape; rows = λ t. t.media; with_rows = λ l t. record t { media = l } }

abbrev pub attributes : Listed AttributeRow
attributes = record { shape = attribute_shape; rows = λ t. t.rows; with_rows = λ l t. record t { rows = l } }

abbrev pub pairs : Mapping → Listed MappingRow
pairs m = record { shape = pair_shape m; rows = mapping_rows m; with_rows = with_mapping_rows m }

abbrev pub heads : Listed HeadRow
heads = record { shape = head_shape; rows = λ t. t.heads; with_rows = λ l t. record t { heads = l } }

abbrev pub identities : Listed IdentityRow
identities = record {
  shape = identity_shape;
  rows = λ t. t.identities;
  with_rows = λ l t. record t { identities = l };
}

abbrev pub receipts : Listed ReceiptRow
receipts = record { shape = receipt_shape; rows = λ t. t.receipts; with_rows = λ l t. record t { receipts = l } }

abbrev pub moved : Listed MovedRow
moved = record { shape = moved_shape; rows = λ t. t.moved; with_rows = λ l t. record t { moved = l } }
