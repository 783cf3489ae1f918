-- What the text of the index `by_rows_media` makes.
use Rattle.std.proofs.Common.{ℕ, List, codes, inr, refl}
use Rattle.sqlite_schema.specs.Names.{same_name}
use Rattle.sqlite_tied.specs.Compute.{everything}
use Rattle.store_sql.specs.Known.{HasTable}
use Rattle.store_sql.specs.Blank.{IsFree}
use Rattle.store_sql.specs.Index.{MakesIndexText}
use Rattle.std.specs.Str.{is_utf8, chars}
use Rattle.std.specs.Fmt.{digits}
use Rattle.sqlite_value.specs.Order.{value_cmp}
use Rattle.sqlite_trees.specs.Sound.{fits_kind, is_free_name, begins, same_name as same_word}
use Rattle.store_sql.specs.Certain.{IsAlone, FitsIndex}
use Rattle.package_tables.specs.Tables.{rows_media}
use Rattle.package_tables.specs.SchemaMaking.{Extends}
use Rattle.package_tables.specs.SchemaMade.{by_rows_media, first_made}

abbrev pub text : List ℕ
text = codes "CREATE INDEX by_rows_media ON rows_media (related_id)"

makes : (tree : ℕ) → MakesIndexText text (rows_media tree) (by_rows_media tree 0)
unfolding everything
makes tree = (
  _,
  _,
  record {
    parsed = refl;
    statement = refl;
    formats = refl;
    table = refl;
    table_free = refl;
    name = refl;
    free = refl;
    defined = refl;
    whole = refl;
  },
)

has : HasTable (first_made 16 3) 10 (rows_media 17)
unfolding same_name
has = record { named = refl; there = refl; stored = refl; by_tree = refl }

free : IsFree (first_made 16 3) (codes "by_rows_media")
unfolding same_name
free = record { table = refl; view = refl; index = refl }

alone : IsAlone text
unfolding everything
alone = record { statement = _; parsed = refl; names = refl; whole = refl }

fits : FitsIndex (first_made 16 3) text (rows_media 17) (by_rows_media 17 0)
unfolding same_name is_utf8 chars lib.Utf8.encode digits fits_kind is_free_name begins same_word value_cmp
    lib.Ieee.is_nan lib.Ieee.lt
fits = record {
  alone = alone;
  free = refl;
  utf8 = refl;
  open_name = refl;
  low = refl;
  reals = refl;
  key_reals = refl;
  fit = refl;
  short = refl;
}

pub step : Extends text (first_made 16 3) (first_made 16 4)
step = inr (10, rows_media 17, by_rows_media 17 0, makes 17, has, free, fits, refl)
