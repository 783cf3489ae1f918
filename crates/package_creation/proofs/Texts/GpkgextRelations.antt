-- What the text of `gpkgext_relations` makes.
use Rattle.std.proofs.Common.{◌≡◌, ℕ, List, codes, inl, refl}
use Rattle.sqlite_schema.specs.Names.{same_name}
use Rattle.sqlite_tied.specs.Compute.{everything}
use Rattle.store_sql.specs.Blank.{MakesText, IsFree, grown}
use Rattle.std.specs.Str.{is_utf8, chars}
use Rattle.std.specs.Fmt.{digits}
use Rattle.sqlite_value.specs.Order.{value_cmp}
use Rattle.sqlite_trees.specs.Sound.{fits_kind, is_free_name, begins, same_name as same_word}
use Rattle.store_sql.specs.Certain.{IsAlone, FitsGrown}
use Rattle.package_tables.specs.Tables.{gpkgext_relations}
use Rattle.package_tables.specs.SchemaMaking.{Extends}
use Rattle.package_tables.specs.SchemaMade.{first_made}

abbrev pub text : List ℕ
text = codes "CREATE TABLE gpkgext_relations (id INTEGER PRIMARY KEY, base_table_name TEXT NOT NULL, base_primary_column TEXT NOT NULL, related_table_name TEXT NOT NULL, related_primary_column TEXT NOT NULL, relation_name TEXT NOT NULL, mapping_table_name TEXT NOT NULL UNIQUE) STRICT"

makes : MakesText text (gpkgext_relations 0)
unfolding everything
makes = (
  _,
  _,
  record {
    parsed = refl;
    statement = refl;
    name = refl;
    free = refl;
    defined = refl;
    fits = refl;
    whole = refl;
  },
)

free : IsFree (first_made 4 0) (codes "gpkgext_relations")
unfolding same_name
free = record { table = refl; view = refl; index = refl }

alone : IsAlone text
unfolding everything
alone = record { statement = _; parsed = refl; names = refl; whole = refl }

fits : FitsGrown (first_made 4 0) text (gpkgext_relations 0)
unfolding same_name is_utf8 chars lib.Utf8.encode digits fits_kind is_free_name begins same_word value_cmp
    lib.Ieee.is_nan lib.Ieee.lt
fits = record {
  alone = alone;
  table = record {
    free = refl;
    automatic = (refl, tt);
    utf8 = refl;
    open_name = refl;
    low = refl;
    reals = refl;
    key_reals = (refl, tt);
    formed = refl;
    fit = refl;
    short = refl;
  };
  sequence = tt;
}

grows : first_made 5 0 ≡ grown (first_made 4 0) (gpkgext_relations 0)
unfolding same_name
grows = refl

pub step : Extends text (first_made 4 0) (first_made 5 0)
step = inl (gpkgext_relations 0, makes, free, fits, grows)
