-- What the text of `gpkg_contents` makes.
use Rattle.std.proofs.Common.{◌≡◌, ℕ, List, codes, inl, refl}
use Rattle.sqlite_schema.specs.Names.{same_name}
use Rattle.sqlite_tied.specs.Compute.{everything}
use Rattle.store_sql.specs.Blank.{MakesText, IsFree, grown}
use Rattle.std.specs.Str.{is_utf8, chars}
use Rattle.std.specs.Fmt.{digits}
use Rattle.sqlite_value.specs.Order.{value_cmp}
use Rattle.sqlite_trees.specs.Sound.{fits_kind, is_free_name, begins, same_name as same_word}
use Rattle.store_sql.specs.Certain.{IsAlone, FitsGrown}
use Rattle.package_tables.specs.Tables.{gpkg_contents}
use Rattle.package_tables.specs.SchemaMaking.{Extends}
use Rattle.package_tables.specs.SchemaMade.{first_made}

abbrev pub text : List ℕ
text = codes "CREATE TABLE gpkg_contents (table_name TEXT PRIMARY KEY, data_type TEXT NOT NULL, identifier TEXT UNIQUE, description TEXT, last_change TEXT NOT NULL, min_x INTEGER, min_y INTEGER, max_x INTEGER, max_y INTEGER, srs_id INTEGER REFERENCES gpkg_spatial_ref_sys (srs_id)) STRICT"

makes : MakesText text (gpkg_contents 0)
unfolding everything
makes = (
  _,
  _,
  record {
    parsed = refl;
    statement = refl;
    name = refl;
    free = refl;
    defined = refl;
    fits = refl;
    whole = refl;
  },
)

free : IsFree (first_made 1 0) (codes "gpkg_contents")
unfolding same_name
free = record { table = refl; view = refl; index = refl }

alone : IsAlone text
unfolding everything
alone = record { statement = _; parsed = refl; names = refl; whole = refl }

fits : FitsGrown (first_made 1 0) text (gpkg_contents 0)
unfolding same_name is_utf8 chars lib.Utf8.encode digits fits_kind is_free_name begins same_word value_cmp
    lib.Ieee.is_nan lib.Ieee.lt
fits = record {
  alone = alone;
  table = record {
    free = refl;
    automatic = (refl, (refl, tt));
    utf8 = refl;
    open_name = refl;
    low = refl;
    reals = refl;
    key_reals = (refl, (refl, tt));
    formed = refl;
    fit = refl;
    short = refl;
  };
  sequence = tt;
}

grows : first_made 2 0 ≡ grown (first_made 1 0) (gpkg_contents 0)
unfolding same_name
grows = refl

pub step : Extends text (first_made 1 0) (first_made 2 0)
step = inl (gpkg_contents 0, makes, free, fits, grows)
