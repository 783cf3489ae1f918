-- What the text of `sheet_tiles` makes.
use Rattle.std.proofs.Common.{◌≡◌, ℕ, List, codes, inl, refl}
use Rattle.sqlite_schema.specs.Names.{same_name}
use Rattle.sqlite_tied.specs.Compute.{everything}
use Rattle.store_sql.specs.Blank.{MakesText, IsFree, grown}
use Rattle.std.specs.Str.{is_utf8, chars}
use Rattle.std.specs.Fmt.{digits}
use Rattle.sqlite_value.specs.Order.{value_cmp}
use Rattle.sqlite_trees.specs.Sound.{fits_kind, is_free_name, begins, same_name as same_word}
use Rattle.store_sql.specs.Certain.{IsAlone, FitsGrown}
use Rattle.package_tables.specs.Tables.{sheet_tiles}
use Rattle.package_tables.specs.SchemaMaking.{Extends}
use Rattle.package_tables.specs.SchemaMade.{first_made}

abbrev pub text : List ℕ
text = codes "CREATE TABLE sheet_tiles (id INTEGER PRIMARY KEY AUTOINCREMENT, zoom_level INTEGER NOT NULL, tile_column INTEGER NOT NULL, tile_row INTEGER NOT NULL, tile_data BLOB NOT NULL, UNIQUE (zoom_level, tile_column, tile_row)) STRICT"

makes : MakesText text (sheet_tiles 0)
unfolding everything
makes = (
  _,
  _,
  record {
    parsed = refl;
    statement = refl;
    name = refl;
    free = refl;
    defined = refl;
    fits = refl;
    whole = refl;
  },
)

free : IsFree (first_made 5 0) (codes "sheet_tiles")
unfolding same_name
free = record { table = refl; view = refl; index = refl }

alone : IsAlone text
unfolding everything
alone = record { statement = _; parsed = refl; names = refl; whole = refl }

fits : FitsGrown (first_made 5 0) text (sheet_tiles 0)
unfolding same_name is_utf8 chars lib.Utf8.encode digits fits_kind is_free_name begins same_word value_cmp
    lib.Ieee.is_nan lib.Ieee.lt
fits = record {
  alone = alone;
  table = record {
    free = refl;
    automatic = (refl, tt);
    utf8 = refl;
    open_name = refl;
    low = refl;
    reals = refl;
    key_reals = (refl, tt);
    formed = refl;
    fit = refl;
    short = refl;
  };
  sequence = record {
    free = refl;
    automatic = tt;
    utf8 = refl;
    open_name = refl;
    low = refl;
    reals = refl;
    key_reals = tt;
    formed = refl;
    fit = refl;
    short = refl;
  };
}

grows : first_made 7 0 ≡ grown (first_made 5 0) (sheet_tiles 0)
unfolding same_name
grows = refl

pub step : Extends text (first_made 5 0) (first_made 7 0)
step = inl (sheet_tiles 0, makes, free, fits, grows)
