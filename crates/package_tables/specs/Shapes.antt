-- The fifteen tables, each with what its rows say and the key that arranges them. Columns of OGC GeoPackage 1.3 and
-- OGC 18-000, types and keys profile.
use Rattle.std.specs.Prelude.{ℕ, ℤ, pos, negsuc, List, [], ◌∷◌, unsigned_abs}
use Rattle.sqlite.specs.Table.{Table}
use Rattle.sqlite.specs.Order.{Row, column}
use Rattle.sqlite.specs.declared.types.Value.{Value}
use Rattle.sqlite.specs.declared.types.Value.TheVariants.{Null, Int, Text, Blob}
use Rattle.package_tables.specs.Tables.{gpkg_spatial_ref_sys, gpkg_contents, gpkg_tile_matrix_set, gpkg_tile_matrix}
use Rattle.package_tables.specs.Tables.{gpkgext_relations, sheet_tiles, sheet_media, sheet_rows, tiles_media}
use Rattle.package_tables.specs.Tables.{rows_media, rows_tiles, sheet_package, sheet_identity, sheet_receipts}
use Rattle.package_tables.specs.Tables.{sheet_items}
use Rattle.package_tables.specs.Shape.{Shape}
use Rattle.package_tables.specs.declared.rows.TileRow.{TileRow}
use Rattle.package_tables.specs.declared.rows.MediaRow.{MediaRow}
use Rattle.package_tables.specs.declared.rows.AttributeRow.{AttributeRow}
use Rattle.package_tables.specs.declared.rows.MappingRow.{MappingRow}
use Rattle.package_tables.specs.declared.rows.IdentityRow.{IdentityRow}
use Rattle.package_tables.specs.declared.rows.ReceiptRow.{ReceiptRow}
use Rattle.package_tables.specs.declared.rows.MovedRow.{MovedRow}
use Rattle.package_tables.specs.declared.rows.HeadRow.{HeadRow}
use Rattle.package_tables.specs.declared.rows.SpatialRefSysRow.{SpatialRefSysRow}
use Rattle.package_tables.specs.declared.rows.ContentsRow.{ContentsRow}
use Rattle.package_tables.specs.declared.rows.TileMatrixSetRow.{TileMatrixSetRow}
use Rattle.package_tables.specs.declared.rows.TileMatrixRow.{TileMatrixRow}
use Rattle.package_tables.specs.declared.rows.RelationRow.{RelationRow}

-- a value as a number, a text, bytes; of another kind it says nothing
abbrev pub int_of : Value → ℤ
int_of (Int i) = i
int_of _ = pos 0

abbrev pub text_of : Value → List ℕ
text_of (Text t) = t
text_of _ = []

abbrev pub blob_of : Value → List ℕ
blob_of (Blob b) = b
blob_of _ = []

abbrev pub int_at : Row → ℕ → ℤ
int_at r k = int_of (column r k)

abbrev pub text_at : Row → ℕ → List ℕ
text_at r k = text_of (column r k)

abbrev pub blob_at : Row → ℕ → List ℕ
blob_at r k = blob_of (column r k)

-- numbers as keys
abbrev pub number_key : ℤ → List ℕ
number_key n = unsigned_abs n ∷ []

-- a number that may be below zero, as a key; -1 comes before 0
abbrev pub signed_key : ℤ → List ℕ
signed_key (pos n) = 1 ∷ n ∷ []
signed_key (negsuc n) = 0 ∷ n ∷ []

abbrev pub pair_key : ℤ → ℤ → List ℕ
pair_key a b = unsigned_abs a ∷ unsigned_abs b ∷ []

abbrev pub tile_shape : Shape TileRow
tile_shape = record {
  table = sheet_tiles;
  typed = λ r. record {
    id = int_at r 0;
    zoom_level = int_at r 2;
    tile_column = int_at r 3;
    tile_row = int_at r 4;
    tile_data = blob_at r 5;
  };
  stored = λ v t. Int t.id ∷ Null ∷ Int t.zoom_level ∷ Int t.tile_column ∷ Int t.tile_row
      ∷ Blob t.tile_data ∷ [];
  key = λ t. number_key t.id;
}

abbrev pub medium_shape : Shape MediaRow
medium_shape = record {
  table = sheet_media;
  typed = λ r. record { id = int_at r 0; «data» = blob_at r 2; content_type = text_at r 3 };
  stored = λ v m. Int m.id ∷ Null ∷ Blob m.data ∷ Text m.content_type ∷ [];
  key = λ m. number_key m.id;
}

abbrev pub attribute_shape : Shape AttributeRow
attribute_shape = record {
  table = sheet_rows;
  typed = λ r. record { id = int_at r 0; x = int_at r 2; y = int_at r 3; code = int_at r 4; label = text_at r 5 };
  stored = λ v a. Int a.id ∷ Null ∷ Int a.x ∷ Int a.y ∷ Int a.code ∷ Text a.label ∷ [];
  key = λ a. number_key a.id;
}

abbrev pub mapping_shape : (ℕ → Table) → Shape MappingRow
mapping_shape table = record {
  table = table;
  typed = λ r. record { base_id = int_at r 1; related_id = int_at r 2 };
  stored = λ v m. v ∷ Int m.base_id ∷ Int m.related_id ∷ [];
  key = λ m. pair_key m.base_id m.related_id;
}

abbrev pub tiles_media_shape : Shape MappingRow
tiles_media_shape = mapping_shape tiles_media

abbrev pub rows_media_shape : Shape MappingRow
rows_media_shape = mapping_shape rows_media

abbrev pub rows_tiles_shape : Shape MappingRow
rows_tiles_shape = mapping_shape rows_tiles

abbrev pub head_shape : Shape HeadRow
head_shape = record {
  table = sheet_package;
  typed = λ r. record {
    id = int_at r 0;
    version = int_at r 2;
    «package» = text_at r 3;
    parent = text_at r 4;
    depth = int_at r 5;
    loan = int_at r 6;
    created = text_at r 7;
  };
  stored = λ v h. Int h.id ∷ Null ∷ Int h.version ∷ Text h.package ∷ Text h.parent ∷ Int h.depth
      ∷ Int h.loan ∷ Text h.created ∷ [];
  key = λ h. number_key h.id;
}

abbrev pub identity_shape : Shape IdentityRow
identity_shape = record {
  table = sheet_identity;
  typed = λ r. record { kind = int_at r 1; local_id = int_at r 2; uuid = text_at r 3 };
  stored = λ v i. v ∷ Int i.kind ∷ Int i.local_id ∷ Text i.uuid ∷ [];
  key = λ i. pair_key i.kind i.local_id;
}

abbrev pub receipt_shape : Shape ReceiptRow
receipt_shape = record {
  table = sheet_receipts;
  typed = λ r. record {
    seq = int_at r 0;
    request = text_at r 2;
    at = text_at r 3;
    line = text_at r 4;
    source = text_at r 5;
    target = text_at r 6;
    n_tiles = int_at r 7;
    n_media = int_at r 8;
    n_rows = int_at r 9;
    n_links = int_at r 10;
    n_bytes = int_at r 11;
  };
  stored = λ v r. Int r.seq ∷ Null ∷ Text r.request ∷ Text r.at ∷ Text r.line ∷ Text r.source
      ∷ Text r.target ∷ Int r.n_tiles ∷ Int r.n_media ∷ Int r.n_rows ∷ Int r.n_links ∷ Int r.n_bytes
      ∷ [];
  key = λ r. number_key r.seq;
}

abbrev pub moved_shape : Shape MovedRow
moved_shape = record {
  table = sheet_items;
  typed = λ r. record {
    seq = int_at r 1;
    position = int_at r 2;
    kind = int_at r 3;
    base = text_at r 4;
    other = text_at r 5;
    size = int_at r 6;
    fingerprint = text_at r 7;
  };
  stored = λ v m. v ∷ Int m.seq ∷ Int m.position ∷ Int m.kind ∷ Text m.base ∷ Text m.other ∷ Int m.size
      ∷ Text m.fingerprint ∷ [];
  key = λ m. pair_key m.seq m.position;
}

abbrev pub spatial_ref_sys_shape : Shape SpatialRefSysRow
spatial_ref_sys_shape = record {
  table = gpkg_spatial_ref_sys;
  typed = λ r. record {
    srs_name = text_at r 1;
    srs_id = int_at r 0;
    organization = text_at r 3;
    organization_coordsys_id = int_at r 4;
    definition = text_at r 5;
    description = text_at r 6;
  };
  stored = λ v s. Int s.srs_id ∷ Text s.srs_name ∷ Null ∷ Text s.organization
      ∷ Int s.organization_coordsys_id ∷ Text s.definition ∷ Text s.description ∷ [];
  key = λ s. signed_key s.srs_id;
}

abbrev pub contents_shape : Shape ContentsRow
contents_shape = record {
  table = gpkg_contents;
  typed = λ r. record {
    table_name = text_at r 1;
    data_type = text_at r 2;
    identifier = text_at r 3;
    description = text_at r 4;
    last_change = text_at r 5;
    min_x = int_at r 6;
    min_y = int_at r 7;
    max_x = int_at r 8;
    max_y = int_at r 9;
    srs_id = int_at r 10;
  };
  stored = λ v c. v ∷ Text c.table_name ∷ Text c.data_type ∷ Text c.identifier ∷ Text c.description
      ∷ Text c.last_change ∷ Int c.min_x ∷ Int c.min_y ∷ Int c.max_x ∷ Int c.max_y ∷ Int c.srs_id ∷ [];
  key = λ c. c.table_name;
}

abbrev pub tile_matrix_set_shape : Shape TileMatrixSetRow
tile_matrix_set_shape = record {
  table = gpkg_tile_matrix_set;
  typed = λ r. record {
    table_name = text_at r 1;
    srs_id = int_at r 2;
    min_x = int_at r 3;
    min_y = int_at r 4;
    max_x = int_at r 5;
    max_y = int_at r 6;
  };
  stored = λ v s. v ∷ Text s.table_name ∷ Int s.srs_id ∷ Int s.min_x ∷ Int s.min_y ∷ Int s.max_x
      ∷ Int s.max_y ∷ [];
  key = λ s. s.table_name;
}

abbrev pub tile_matrix_shape : Shape TileMatrixRow
tile_matrix_shape = record {
  table = gpkg_tile_matrix;
  typed = λ r. record {
    table_name = text_at r 1;
    zoom_level = int_at r 2;
    matrix_width = int_at r 3;
    matrix_height = int_at r 4;
    tile_width = int_at r 5;
    tile_height = int_at r 6;
    pixel_x_size = int_at r 7;
    pixel_y_size = int_at r 8;
  };
  stored = λ v m. v ∷ Text m.table_name ∷ Int m.zoom_level ∷ Int m.matrix_width ∷ Int m.matrix_height
      ∷ Int m.tile_width ∷ Int m.tile_height ∷ Int m.pixel_x_size ∷ Int m.pixel_y_size ∷ [];
  key = λ m. unsigned_abs m.zoom_level ∷ m.table_name;
}

abbrev pub relation_shape : Shape RelationRow
relation_shape = record {
  table = gpkgext_relations;
  typed = λ r. record {
    id = int_at r 0;
    base_table_name = text_at r 2;
    base_primary_column = text_at r 3;
    related_table_name = text_at r 4;
    related_primary_column = text_at r 5;
    relation_name = text_at r 6;
    mapping_table_name = text_at r 7;
  };
  stored = λ v x. Int x.id ∷ Null ∷ Text x.base_table_name ∷ Text x.base_primary_column
      ∷ Text x.related_table_name ∷ Text x.related_primary_column ∷ Text x.relation_name
      ∷ Text x.mapping_table_name ∷ [];
  key = λ x. number_key x.id;
}
