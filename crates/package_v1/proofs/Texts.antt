-- The texts of a migration.
use Rattle.std.proofs.Common.{ℕ, List, [], ◌∷◌, codes, refl}
use Rattle.sqlite.specs.Term.{Term, col, lit}
use Rattle.sqlite.specs.declared.types.Value.TheVariants.{Null}
use Rattle.sqlite_tied.specs.Compute.{everything}
use Rattle.store_sql.specs.Blank.{MakesText}
use Rattle.store_sql.specs.Index.{MakesIndexText}
use Rattle.store_sql.specs.Reading.{always}
use Rattle.store_sql.specs.Resolving.{resolving}
use Rattle.store_sql.specs.Spelling.{Spelling, spelled}
use Rattle.store_sql.proofs.Update.{IsUpdate, IsPlannedUpdate}
use Rattle.package_tables.specs.Tables.{rows_tiles, sheet_package}
use Rattle.package_tables.specs.SchemaMade.{by_rows_tiles}

abbrev pub table_text : List ℕ
table_text = codes "CREATE TABLE rows_tiles (base_id INTEGER NOT NULL, related_id INTEGER NOT NULL, UNIQUE (base_id, related_id)) STRICT"

pub table_made : MakesText table_text (rows_tiles 0)
unfolding everything
table_made = (
  _,
  _,
  record {
    parsed = refl;
    statement = refl;
    name = refl;
    free = refl;
    defined = refl;
    fits = refl;
    whole = refl;
  },
)

abbrev pub index_text : List ℕ
index_text = codes "CREATE INDEX by_rows_tiles ON rows_tiles (related_id)"

pub index_made : (spelling : Spelling) → MakesIndexText index_text (spelled rows_tiles spelling)
    (by_rows_tiles spelling.tree 0)
unfolding everything
index_made spelling = (
  _,
  _,
  record {
    parsed = refl;
    statement = refl;
    formats = refl;
    table = refl;
    table_free = refl;
    name = refl;
    free = refl;
    defined = refl;
    whole = refl;
  },
)

abbrev pub version_terms : List Term
version_terms = col 1 0 ∷ col 1 0 ∷ lit Null ∷ col 0 0 ∷ col 1 3 ∷ col 1 4 ∷ col 1 5 ∷ col 1 6
    ∷ col 1 7 ∷ []

pub version_text : (spelling : Spelling) → IsUpdate (codes "UPDATE sheet_package SET version = ?1")
    (spelled sheet_package spelling) always 0 version_terms
unfolding everything
version_text spelling = record {
  parse = _;
  name = _;
  value = _;
  where' = _;
  place = _;
  parsed = refl;
  statement = refl;
  formats = refl;
  named = refl;
  given = refl;
  placed = refl;
  projected = refl;
  condition = refl;
  enough = refl;
}

pub version_plan : (spelling : Spelling) → IsPlannedUpdate (spelled sheet_package spelling) always version_terms
unfolding resolving
version_plan spelling schema at h = rw (h.stored, h.by_tree) refl
