-- Each of the fifteen shapes is plain.
use Rattle.std.proofs.Common.{refl}
use Rattle.package_tables.specs.Shapes.{spatial_ref_sys_shape, contents_shape, tile_matrix_set_shape}
use Rattle.package_tables.specs.Shapes.{tile_matrix_shape, relation_shape, tile_shape, medium_shape, attribute_shape}
use Rattle.package_tables.specs.Shapes.{tiles_media_shape, rows_media_shape, rows_tiles_shape, head_shape}
use Rattle.package_tables.specs.Shapes.{identity_shape, receipt_shape, moved_shape}
use Rattle.sheet_types.specs.declared.command.Mapping.TheVariants.{TilesMedia, RowsMedia, RowsTiles}
use Rattle.package_tables.proofs.Written.{systems_listed, contents_listed, matrix_sets_listed, matrices_listed}
use Rattle.package_tables.proofs.Written.{relations_listed, tiles_listed, media_listed, attributes_listed}
use Rattle.package_tables.proofs.Written.{pairs_listed, heads_listed, identities_listed, receipts_listed}
use Rattle.package_tables.proofs.Written.{moved_listed}
use Rattle.package_schema.proofs.Forming.{IsPlain}

pub systems_plain : IsPlain spatial_ref_sys_shape
systems_plain = record {
  laws = systems_listed.laws;
  columns = λ tree. refl;
  key = λ tree. refl;
  kept = refl;
  ends = refl;
  says = λ r. refl;
  fills = λ v x. refl;
}

pub contents_plain : IsPlain contents_shape
contents_plain = record {
  laws = contents_listed.laws;
  columns = λ tree. refl;
  key = λ tree. refl;
  kept = refl;
  ends = refl;
  says = λ r. refl;
  fills = λ v x. refl;
}

pub matrix_sets_plain : IsPlain tile_matrix_set_shape
matrix_sets_plain = record {
  laws = matrix_sets_listed.laws;
  columns = λ tree. refl;
  key = λ tree. refl;
  kept = refl;
  ends = refl;
  says = λ r. refl;
  fills = λ v x. refl;
}

pub matrices_plain : IsPlain tile_matrix_shape
matrices_plain = record {
  laws = matrices_listed.laws;
  columns = λ tree. refl;
  key = λ tree. refl;
  kept = refl;
  ends = refl;
  says = λ r. refl;
  fills = λ v x. refl;
}

pub relations_plain : IsPlain relation_shape
relations_plain = record {
  laws = relations_listed.laws;
  columns = λ tree. refl;
  key = λ tree. refl;
  kept = refl;
  ends = refl;
  says = λ r. refl;
  fills = λ v x. refl;
}

pub tiles_plain : IsPlain tile_shape
tiles_plain = record {
  laws = tiles_listed.laws;
  columns = λ tree. refl;
  key = λ tree. refl;
  kept = refl;
  ends = refl;
  says = λ r. refl;
  fills = λ v x. refl;
}

pub media_plain : IsPlain medium_shape
media_plain = record {
  laws = media_listed.laws;
  columns = λ tree. refl;
  key = λ tree. refl;
  kept = refl;
  ends = refl;
  says = λ r. refl;
  fills = λ v x. refl;
}

pub attributes_plain : IsPlain attribute_shape
attributes_plain = record {
  laws = attributes_listed.laws;
  columns = λ tree. refl;
  key = λ tree. refl;
  kept = refl;
  ends = refl;
  says = λ r. refl;
  fills = λ v x. refl;
}

pub tiles_media_plain : IsPlain tiles_media_shape
tiles_media_plain = record {
  laws = (pairs_listed TilesMedia).laws;
  columns = λ tree. refl;
  key = λ tree. refl;
  kept = refl;
  ends = refl;
  says = λ r. refl;
  fills = λ v x. refl;
}

pub rows_media_plain : IsPlain rows_media_shape
rows_media_plain = record {
  laws = (pairs_listed RowsMedia).laws;
  columns = λ tree. refl;
  key = λ tree. refl;
  kept = refl;
  ends = refl;
  says = λ r. refl;
  fills = λ v x. refl;
}

pub rows_tiles_plain : IsPlain rows_tiles_shape
rows_tiles_plain = record {
  laws = (pairs_listed RowsTiles).laws;
  columns = λ tree. refl;
  key = λ tree. refl;
  kept = refl;
  ends = refl;
  says = λ r. refl;
  fills = λ v x. refl;
}

pub heads_plain : IsPlain head_shape
heads_plain = record {
  laws = heads_listed.laws;
  columns = λ tree. refl;
  key = λ tree. refl;
  kept = refl;
  ends = refl;
  says = λ r. refl;
  fills = λ v x. refl;
}

pub identities_plain : IsPlain identity_shape
identities_plain = record {
  laws = identities_listed.laws;
  columns = λ tree. refl;
  key = λ tree. refl;
  kept = refl;
  ends = refl;
  says = λ r. refl;
  fills = λ v x. refl;
}

pub receipts_plain : IsPlain receipt_shape
receipts_plain = record {
  laws = receipts_listed.laws;
  columns = λ tree. refl;
  key = λ tree. refl;
  kept = refl;
  ends = refl;
  says = λ r. refl;
  fills = λ v x. refl;
}

pub moved_plain : IsPlain moved_shape
moved_plain = record {
  laws = moved_listed.laws;
  columns = λ tree. refl;
  key = λ tree. refl;
  kept = refl;
  ends = refl;
  says = λ r. refl;
  fills = λ v x. refl;
}
