-- The table of the third mapping comes, and then its index.
use Rattle.std.proofs.Common.{◌≡◌, ℕ, pos, [], ◌∷◌, ◌++◌, map, length, true, Ok, codes, refl, sym}
use Rattle.std.proofs.Common.{ap, subst, ◌∙◌}
use Rattle.std.specs.List.{AllByRecursion}
use Rattle.sqlite.specs.Table.{Table}
use Rattle.sqlite.specs.Schema.{Schema}
use Rattle.sqlite.specs.Command.TheVariants.{CreateTable}
use Rattle.sqlite.specs.Effect.{Database, IsDatabase}
use Rattle.sqlite.specs.Change.{next_tree}
use Rattle.sqlite.specs.Does.{lacks_sequence}
use Rattle.sqlite.specs.State.{State, Executes}
use Rattle.sqlite.proofs.Callers.{IsPlain, command_of, runs_as}
use Rattle.sqlite_rules.proofs.ListLemmas.{all_has, has_got}
use Rattle.sqlite_rules.specs.Lists.{Has}
use Rattle.sheet_types.specs.Ordered.{arranged}
use Rattle.sheet_types.specs.declared.command.Mapping.TheVariants.{RowsTiles}
use Rattle.store_sql.specs.Known.{HasTable, IsQuiet}
use Rattle.store_sql.specs.Blank.{IsFree, Created}
use Rattle.store_sql.specs.Index.{Indexed}
use Rattle.store_sql.specs.Writing.{IsKeyed}
use Rattle.store_sql.specs.Spelling.{spelled}
use Rattle.store_sql.proofs.Resolve.{understood_is}
use Rattle.store_sql.proofs.Create.{makes, creates_in, plain_of}
use Rattle.store_sql.proofs.Indexes.{makes_index, index_sound}
use Rattle.store_sql.proofs.Writes.{is_in}
use Rattle.package_tables.specs.Damaged.{AreFormedAt}
use Rattle.package_tables.specs.Package.{tables_of}
use Rattle.package_tables.specs.Shape.{IsFormed, IsStored, stored_rows, rows_of}
use Rattle.package_tables.specs.Shapes.{rows_tiles_shape}
use Rattle.package_tables.specs.SchemaMade.{by_rows_tiles}
use Rattle.package_tables.specs.Tables.{rows_tiles}
use Rattle.package_tables.proofs.Placed.{own, own_placed, plain_keys}
use Rattle.package_tables.proofs.Shapes.{rows_placed}
use Rattle.package_tables.proofs.Written.{pairs_listed}
use Rattle.package_v1.specs.FirstVersion.{AreFree}
use Rattle.package_v1.specs.Migrating.{HasThird, MakesThird, IndexesThird}
use Rattle.package_v1.proofs.Positions.{slice_last}
use Rattle.package_v1.proofs.Growing.{still_there, still_quiet, has_sequence, third_there, index_still_free}
use Rattle.package_v1.proofs.Growing.{still_indexed, quiet_indexed}
use Rattle.package_v1.proofs.Carrying.{Carries, still_formed, still_said, with_last, fifteen_carried}
use Rattle.package_v1.proofs.Texts.{table_text, table_made, index_text, index_made}

-- ---- the table

third_carries : (old new : Database) → Created (rows_tiles 0) old new → Carries (λ name. true) old new
third_carries old new made = record {
  has = λ at u passes h. (
    at,
    subst (λ (s : Schema). HasTable s at u) (sym made.schema)
        (still_there old.schema at u h),
  );
  rows = λ at u passes h. all_has (λ (t : Table). new.trees t.tree ≡ old.trees t.tree) old.schema.tables u made.rows
      (is_in old.schema at u h);
  quiet = λ q. subst IsQuiet (sym made.schema) (still_quiet old.schema q);
}

third_formed : (old new : Database) → Created (rows_tiles 0) old new → IsDatabase new
    → IsFree old.schema (codes "rows_tiles") → IsFormed rows_tiles_shape new
    × (rows_of rows_tiles_shape new ≡ [])
third_formed old new made sound free =
    let listed = subst (λ (s : Schema). HasTable s (length old.schema.tables) (rows_tiles (next_tree old.schema)))
    (sym made.schema)
    (third_there old.schema new.trees (subst (λ (s : Schema). IsDatabase (record { schema = s; trees = new.trees }))
    made.schema sound) free.table) in
    let none : stored_rows rows_tiles_shape new ≡ [] = rows_placed rows_tiles_shape (pairs_listed RowsTiles).laws new
    (length old.schema.tables) (own rows_tiles (next_tree old.schema)) listed ∙ made.empty in (
      record {
        placed = own_placed new.schema rows_tiles (plain_keys (rows_tiles 0).uniques) (length old.schema.tables)
            (next_tree old.schema) listed;
        keyed = subst IsKeyed (sym none) (record { ints = refl; rises = tt });
        stored = subst (AllByRecursion (IsStored rows_tiles_shape)) (sym none) tt;
      },
      ap (λ l. arranged rows_tiles_shape.key (map rows_tiles_shape.typed l)) none,
    )

has_it : (old new : Database) → Created (rows_tiles 0) old new → IsDatabase new → AreFormedAt (pos 1) old
    → AreFree old.schema → HasThird old new
has_it old new made sound formed free =
    let last = third_formed old new made sound free.table in
    let carries = third_carries old new made in
    record {
      formed = with_last new sound (still_formed (λ name. true) old new carries (λ name other. refl) formed) last.0;
      says = ap (λ l. record (tables_of new) { rows_tiles = l }) last.1
          ∙ still_said (λ name. true) old new carries (λ name other. refl) formed [];
      free = subst (λ (s : Schema). IsFree s (codes "by_rows_tiles")) (sym made.schema)
          (index_still_free old.schema free.index);
    }

pub third_made : (old new : State) (count : ℕ) → Executes table_text [] old new (Ok count)
    → MakesThird old.now new.now
third_made old new count h formed free =
    let made = makes old new table_text table_made.0 table_made.1 (rows_tiles 0) count table_made.2 free.table h in
    let known = (understood_is old.now.schema table_text _ (creates_in old.now.schema table_text table_made.0
    table_made.1 (rows_tiles 0) table_made.2 (subst (IsFree old.now.schema) (sym table_made.2.name)
    free.table))).0 in
    let sound : IsDatabase new.now = (runs_as table_text [] old new old.now.schema refl CreateTable
    (ap command_of known) (subst IsPlain (sym known) (refl, refl)) count h).sound in
    let same : new.now ≡ made.0 = plain_of made.0 new.now (ap lacks_sequence made.1.schema
    ∙ has_sequence old.now.schema formed.quiet) made.2 in
    has_it old.now new.now (subst (Created (rows_tiles 0) old.now) (sym same) made.1) sound formed free

-- ---- the index

index_carries : (t : Table) (old new : Database) → Indexed t (by_rows_tiles t.tree 0) old new
    → Carries (λ name. true) old new
index_carries t old new made = record {
  has = λ at u passes h. (
    at,
    subst (λ (s : Schema). HasTable s at u) (sym made.schema)
        (still_indexed old.schema t (by_rows_tiles t.tree 0) at u h),
  );
  rows = λ at u passes h. all_has (λ (t : Table). new.trees t.tree ≡ old.trees t.tree) old.schema.tables u made.rows
      (is_in old.schema at u h);
  quiet = λ q. subst IsQuiet (sym made.schema) (quiet_indexed old.schema t (by_rows_tiles t.tree 0) q);
}

pub third_indexed : (old new : State) (count : ℕ) → Executes index_text [] old new (Ok count)
    → IndexesThird old.now new.now
third_indexed old new count h formed free =
    let p = formed.rows_tiles.placed in
    let it = index_made p.spelling in
    let made = makes_index old new index_text it.0 it.1 p.at (spelled rows_tiles p.spelling)
    (by_rows_tiles p.spelling.tree 0) count it.2 p.has free h in
    let carries = index_carries (spelled rows_tiles p.spelling) old.now new.now made in
    let sound = index_sound old new index_text it.0 it.1 p.at (spelled rows_tiles p.spelling)
    (by_rows_tiles p.spelling.tree 0) count it.2 p.has free h in
    let both = fifteen_carried old.now new.now carries sound formed in
    let has = carries.has p.at (spelled rows_tiles p.spelling) refl p.has in
    let last = by_rows_tiles p.spelling.tree (next_tree old.now.schema) in (
      both.0,
      both.1,
      record {
        at = has.0;
        spelling = p.spelling;
        has = has.1;
        index = next_tree old.now.schema;
        indexed = subst (λ (s : Schema). Has s.indexes last) (sym made.schema)
            (has_got (old.now.schema.indexes ++ last ∷ []) (length old.now.schema.indexes) last
            (slice_last old.now.schema.indexes last));
      },
    )
