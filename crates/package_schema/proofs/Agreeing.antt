-- Rows that agree in each column are equal.
use Rattle.std.proofs.Common.{◌≡◌, ◌∙◌, ℤ, [], nat_eq, refl, sym, ap, IsTrue, FitsSigned, w64, of_z}
use Rattle.std.proofs.Common.{to_z, to_z-of_z}
use Rattle.std.specs.Prelude.{◌↔◌}
use Rattle.std.specs.Bool.{one_answer}
use Rattle.std.specs.Ordering.{int_eq}
use Rattle.std.specs.Cmp.{signed_Decides, unsigned_Decides}
use Rattle.std.proofs.lemmas.Slice.Eq.{bytes_eq-Decides}
use Rattle.package_tables.specs.declared.rows.ContentsRow.{ContentsRow}
use Rattle.package_tables.specs.declared.rows.RelationRow.{RelationRow}
use Rattle.package_tables.specs.declared.rows.SpatialRefSysRow.{SpatialRefSysRow}
use Rattle.package_tables.specs.declared.rows.TileMatrixRow.{TileMatrixRow}
use Rattle.package_tables.specs.declared.rows.TileMatrixSetRow.{TileMatrixSetRow}
use Rattle.package_schema.specs.Frames.{same_system, same_content, same_set, same_level, same_relation}
use Rattle.store_sql.proofs.Both.{two}

-- ---- numbers as the machine has them

pub same_z : (z : ℤ) → FitsSigned w64 z → to_z w64 (of_z w64 z) ≡ z
same_z z fits = simp (to_z-of_z, fits) refl

pub same_number : (a b : ℤ) → FitsSigned w64 a → FitsSigned w64 b
    → nat_eq (of_z w64 a) (of_z w64 b) ≡ int_eq a b
same_number a b f g =
    let test = unsigned_Decides (of_z w64 a) (of_z w64 b) in
    one_answer (nat_eq (of_z w64 a) (of_z w64 b)) (int_eq a b)
    (λ e. sym (same_z a f) ∙ ap (to_z w64) (test.0 e) ∙ same_z b g, λ e. test.1 (ap (of_z w64) e))
    (signed_Decides a b)

-- ---- columns

pub agree_system : (a b : SpatialRefSysRow) → IsTrue (same_system a b) ↔ (a ≡ b)
agree_system a b =
    let each = two _ _ (two _ _ (two _ _ (two _ _ (two _ _ (bytes_eq-Decides a.srs_name b.srs_name)
    (signed_Decides a.srs_id b.srs_id)) (bytes_eq-Decides a.organization b.organization))
    (signed_Decides a.organization_coordsys_id b.organization_coordsys_id))
    (bytes_eq-Decides a.definition b.definition)) (bytes_eq-Decides a.description b.description) in (
      λ yes. let h = each.0 yes in λ n. record {
        srs_name = h.0.0.0.0.0 n;
        srs_id = h.0.0.0.0.1 n;
        organization = h.0.0.0.1 n;
        organization_coordsys_id = h.0.0.1 n;
        definition = h.0.1 n;
        description = h.1 n;
      },
      λ e. each.1 (
        (
          (
            (
              (ap (λ (r : SpatialRefSysRow). r.srs_name) e, ap (λ (r : SpatialRefSysRow). r.srs_id) e),
              ap
                  (λ (r : SpatialRefSysRow). r.organization) e,
            ),
            ap (λ (r : SpatialRefSysRow). r.organization_coordsys_id) e,
          ),
          ap (λ (r : SpatialRefSysRow). r.definition) e,
        ),
        ap (λ (r : SpatialRefSysRow). r.description) e,
      ),
    )

-- but for the moment of the last change
pub agree_content : (a b : ContentsRow) → b.last_change ≡ []
    → IsTrue (same_content a b) ↔ ((record a { last_change = [] }) ≡ b)
agree_content a b none =
    let each = two _ _ (two _ _ (two _ _ (two _ _ (two _ _ (two _ _
    (two _ _ (two _ _ (bytes_eq-Decides a.table_name b.table_name) (bytes_eq-Decides a.data_type b.data_type))
    (bytes_eq-Decides a.identifier b.identifier)) (bytes_eq-Decides a.description b.description))
    (signed_Decides a.min_x b.min_x)) (signed_Decides a.min_y b.min_y)) (signed_Decides a.max_x b.max_x))
    (signed_Decides a.max_y b.max_y)) (signed_Decides a.srs_id b.srs_id) in (
      λ yes. let h = each.0 yes in λ n. record {
        table_name = h.0.0.0.0.0.0.0.0 n;
        data_type = h.0.0.0.0.0.0.0.1 n;
        identifier = h.0.0.0.0.0.0.1 n;
        description = h.0.0.0.0.0.1 n;
        min_x = h.0.0.0.0.1 n;
        min_y = h.0.0.0.1 n;
        max_x = h.0.0.1 n;
        max_y = h.0.1 n;
        srs_id = h.1 n;
        last_change = sym none n;
      },
      λ e. each.1 (
        (
          (
            (
              (
                (
                  (
                    (
                      ap (λ (r : ContentsRow). r.table_name) e,
                      ap
                          (λ (r : ContentsRow). r.data_type) e,
                    ),
                    ap (λ (r : ContentsRow). r.identifier) e,
                  ),
                  ap
                      (λ (r : ContentsRow). r.description) e,
                ),
                ap (λ (r : ContentsRow). r.min_x) e,
              ),
              ap
                  (λ (r : ContentsRow). r.min_y) e,
            ),
            ap (λ (r : ContentsRow). r.max_x) e,
          ),
          ap (λ (r : ContentsRow). r.max_y) e,
        ),
        ap (λ (r : ContentsRow). r.srs_id) e,
      ),
    )

pub agree_set : (a b : TileMatrixSetRow) → IsTrue (same_set a b) ↔ (a ≡ b)
agree_set a b =
    let each = two _ _ (two _ _ (two _ _ (two _ _ (two _ _ (bytes_eq-Decides a.table_name b.table_name)
    (signed_Decides a.srs_id b.srs_id)) (signed_Decides a.min_x b.min_x)) (signed_Decides a.min_y b.min_y))
    (signed_Decides a.max_x b.max_x)) (signed_Decides a.max_y b.max_y) in (
      λ yes. let h = each.0 yes in λ n. record {
        table_name = h.0.0.0.0.0 n;
        srs_id = h.0.0.0.0.1 n;
        min_x = h.0.0.0.1 n;
        min_y = h.0.0.1 n;
        max_x = h.0.1 n;
        max_y = h.1 n;
      },
      λ e. each.1 (
        (
          (
            (
              (ap (λ (r : TileMatrixSetRow). r.table_name) e, ap (λ (r : TileMatrixSetRow). r.srs_id) e),
              ap
                  (λ (r : TileMatrixSetRow). r.min_x) e,
            ),
            ap (λ (r : TileMatrixSetRow). r.min_y) e,
          ),
          ap
              (λ (r : TileMatrixSetRow). r.max_x) e,
        ),
        ap (λ (r : TileMatrixSetRow). r.max_y) e,
      ),
    )

pub agree_level : (a b : TileMatrixRow) → IsTrue (same_level a b) ↔ (a ≡ b)
agree_level a b =
    let each = two _ _ (two _ _ (two _ _ (two _ _ (two _ _ (two _ _
    (two _ _ (bytes_eq-Decides a.table_name b.table_name) (signed_Decides a.zoom_level b.zoom_level))
    (signed_Decides a.matrix_width b.matrix_width)) (signed_Decides a.matrix_height b.matrix_height))
    (signed_Decides a.tile_width b.tile_width)) (signed_Decides a.tile_height b.tile_height))
    (signed_Decides a.pixel_x_size b.pixel_x_size)) (signed_Decides a.pixel_y_size b.pixel_y_size) in (
      λ yes. let h = each.0 yes in λ n. record {
        table_name = h.0.0.0.0.0.0.0 n;
        zoom_level = h.0.0.0.0.0.0.1 n;
        matrix_width = h.0.0.0.0.0.1 n;
        matrix_height = h.0.0.0.0.1 n;
        tile_width = h.0.0.0.1 n;
        tile_height = h.0.0.1 n;
        pixel_x_size = h.0.1 n;
        pixel_y_size = h.1 n;
      },
      λ e. each.1 (
        (
          (
            (
              (
                (
                  (ap (λ (r : TileMatrixRow). r.table_name) e, ap (λ (r : TileMatrixRow). r.zoom_level) e),
                  ap
                      (λ (r : TileMatrixRow). r.matrix_width) e,
                ),
                ap (λ (r : TileMatrixRow). r.matrix_height) e,
              ),
              ap
                  (λ (r : TileMatrixRow). r.tile_width) e,
            ),
            ap (λ (r : TileMatrixRow). r.tile_height) e,
          ),
          ap
              (λ (r : TileMatrixRow). r.pixel_x_size) e,
        ),
        ap (λ (r : TileMatrixRow). r.pixel_y_size) e,
      ),
    )

pub agree_relation : (a b : RelationRow) → IsTrue (same_relation a b) ↔ (a ≡ b)
agree_relation a b =
    let each = two _ _ (two _ _ (two _ _ (two _ _ (two _ _ (two _ _ (signed_Decides a.id b.id)
    (bytes_eq-Decides a.base_table_name b.base_table_name))
    (bytes_eq-Decides a.base_primary_column b.base_primary_column))
    (bytes_eq-Decides a.related_table_name b.related_table_name))
    (bytes_eq-Decides a.related_primary_column b.related_primary_column))
    (bytes_eq-Decides a.relation_name b.relation_name))
    (bytes_eq-Decides a.mapping_table_name b.mapping_table_name) in (
      λ yes. let h = each.0 yes in λ n. record {
        id = h.0.0.0.0.0.0 n;
        base_table_name = h.0.0.0.0.0.1 n;
        base_primary_column = h.0.0.0.0.1 n;
        related_table_name = h.0.0.0.1 n;
        related_primary_column = h.0.0.1 n;
        relation_name = h.0.1 n;
        mapping_table_name = h.1 n;
      },
      λ e.
          each.1 (
            (
              (
                (
                  (
                    (ap (λ (r : RelationRow). r.id) e, ap (λ (r : RelationRow). r.base_table_name) e),
                    ap
                        (λ (r : RelationRow). r.base_primary_column) e,
                  ),
                  ap (λ (r : RelationRow). r.related_table_name) e,
                ),
                ap
                    (λ (r : RelationRow). r.related_primary_column) e,
              ),
              ap (λ (r : RelationRow). r.relation_name) e,
            ),
            ap
                (λ (r : RelationRow). r.mapping_table_name) e,
          ),
    )
