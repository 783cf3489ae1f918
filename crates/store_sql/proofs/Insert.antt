-- What INSERT of one row by parameters makes of a database.
use Rattle.std.proofs.Common.{◌≡◌, inl, inr, ℕ, ◌+◌, ◌/◌, ℤ, List, [], ◌∷◌, length, Bool}
use Rattle.std.proofs.Common.{true, false, Option, Some, None, Ok, Result, refl, sym, ap, subst, ◌∙◌}
use Rattle.std.specs.Prelude.{not, ◌&&◌, if◌then◌else◌}
use Rattle.std.proofs.lemmas.Bool.{cases_Bool}
use Rattle.sqlite_ast.specs.declared.Rows.{Rows}
use Rattle.sqlite_ast.specs.declared.Conflict.TheVariants as conflict
use Rattle.sqlite_ast.specs.declared.Statement.TheVariants as written
use Rattle.sqlite_syntax.specs.declared.statement.Parsed.{Parsed}
use Rattle.sqlite.specs.declared.types.Value.TheVariants.{Null}
use Rattle.sqlite.specs.Order.{Row}
use Rattle.sqlite.specs.Table.{Table}
use Rattle.sqlite.specs.Schema.{Schema}
use Rattle.sqlite_schema.specs.declared.schema.Column.{Column}
use Rattle.sqlite_schema.specs.Names.{is_key}
use Rattle.sqlite.specs.Source.TheVariants.{Values}
use Rattle.sqlite.specs.Command.TheVariants.{Insert}
use Rattle.sqlite.specs.Term.{Term, lit, col}
use Rattle.sqlite.specs.Edit.{edit_of, put_all, numbered, with_rowid}
use Rattle.sqlite.specs.Does.{AtPlace, OnRows}
use Rattle.sqlite.specs.Rows.{Task, stamped, rowids_for, count_of, Counts}
use Rattle.sqlite.specs.Effect.{Database, value_rows, IsDatabase}
use Rattle.sqlite.specs.Tree.{Trees}
use Rattle.sqlite.specs.declared.error.Error.{Error}
use Rattle.sqlite.specs.State.{State, mode_of, Executes, ExecutesInside}
use Rattle.sqlite_resolve.specs.Compile.{first, small, new_rows, compiled, with_command}
use Rattle.sqlite_rules.proofs.ActionLemmas.{no_works}
use Rattle.sqlite_schema.specs.declared.schema.Keys.TheVariants.{Enforced}
use Rattle.sqlite.proofs.Callers.{IsPlain, command_of, runs_as, one_step}
use Rattle.store_sql.specs.Spelling.{Spelling, spelled}
use Rattle.store_sql.specs.Known.{counters, HasTable, IsQuiet, sequence_name, is_other}
use Rattle.store_sql.specs.Writing.{Inserted, Inserts, WritesInside}
use Rattle.store_sql.proofs.Resolve.{inserts_in, understood_is}
use Rattle.store_sql.specs.Kinds.{has_kinds}
use Rattle.store_sql.proofs.Casts.{cast_row_kept}
use Rattle.store_sql.proofs.Writes.{Ran, ran_of, parts_of, same_value, kept_by, sequence_is, sequence_kept, task_on}
use Rattle.store_sql.proofs.Writes.{apart_in, is_in, writes_inside}

-- ---- the text

abbrev cells : Option ℕ → ℕ → List Column → List Term
cells key k [] = []
cells key k (c ∷ cs) = (if is_key key k then lit Null else col 0 k) ∷ cells key (k + 1) cs

abbrev rowid_term : Option ℕ → Term
rowid_term None = lit Null
rowid_term (Some k) = col 0 k

-- a parameter for each column, with the rowid first
abbrev pub terms_of : Table → List Term
terms_of t = rowid_term t.key ∷ cells t.key 0 t.columns

abbrev pub width : Table → ℕ
width t = length t.columns + 1

-- the text is `INSERT INTO t VALUES (?1, .., ?n)`
pub record IsInsert (text : List ℕ) (t : Table) : Type 0 where
  pub parse : Parsed
  pub rows : Rows
  pub parsed : first text ≡ Ok parse
  pub statement : parse.statement ≡ written.Insert conflict.Abort t.name [] rows [] []
  pub formats : parse.formats ≡ []
  pub named : is_other t.name sequence_name ≡ true
  pub unstamped : t.stamps.formats ≡ []
  pub source : (schema : Schema) → new_rows schema t (small parse.names + small t.stamps.formats) [] rows
      ≡ Ok (Values (terms_of t) (width t))

-- these parameters make this source row, which is stored as `row` over the rows that are there
pub record IsRow (t : Table) (params : Row) (there : List Row) (row : Row) : Type 0 where
  pub source : Row
  pub laid : value_rows (stamped t params) (width t) (length (terms_of t) / width t) (terms_of t) ≡ source ∷ []
  pub kinds : has_kinds t source ≡ true
  pub placed : (top : ℤ) → with_rowid (rowids_for t top) there source ≡ row

pub insert_is : (schema : Schema) (text : List ℕ) (at : ℕ) (t : Table) (it : IsInsert text t)
    → HasTable schema at t
    → compiled schema text ≡ Ok (with_command it.parse ([], (Insert at (Values (terms_of t) (width t)), None)))
insert_is schema text at t it h = inserts_in schema text it.parse [] it.rows at t (Values (terms_of t) (width t))
    it.parsed it.statement it.formats h it.unstamped (it.source schema)

-- ---- the rows

not_taken : (b c : Bool) → not b && c ≡ true → b ≡ false
not_taken false c h = refl
not_taken true c h = absurd (cc)

uncounted : (task : Task) (none : task.table.is_counted ≡ false) (mid next : Trees) (counter : Option Row)
    (top : ℤ) → Counts task mid counter top (Ok next) → next ≡ mid
uncounted task none mid next counter top h = same_value (rw none at h)

-- After the row the count may change, and nothing else.
counted_rest : (task : Task) (keys : task.keys ≡ Enforced) (quiet : IsQuiet task.schema) (mid next : Trees)
    (counter : Option Row) (top : ℤ) → Counts task mid counter top (Ok next)
    → (at : ℕ) (u : Table) → HasTable task.schema at u → is_other u.name sequence_name ≡ true
    → next u.tree ≡ mid u.tree
counted_rest task keys quiet mid next counter top h at u has other = elim (cases_Bool task.table.is_counted) [
  | inl counts ↦ sequence_kept task quiet.inert keys counts mid next quiet.seq counter top
      (sequence_is task.schema quiet.seq_at quiet.seq quiet.counts) h u (is_in task.schema at u has)
      (apart_in task.schema at quiet.seq_at u (counters quiet.seq) has quiet.counts other)
  | inr none ↦ ap (λ (d : Trees). d u.tree) (uncounted task none mid next counter top h)
]

module _ (limit : Option ℕ) (schema : Schema) (db : Trees) (at : ℕ) (t : Table) (has : HasTable schema at t)
    (quiet : IsQuiet schema) (named : is_other t.name sequence_name ≡ true) (params row : Row)
    (given : IsRow t params (db t.tree) row) where
  abbrev insert_task : Task
  insert_task = record { limit = limit; keys = Enforced; schema = schema; table = t; params = params }

  inserts : (new : Database) → IsDatabase new → Ran insert_task (Insert at (Values (terms_of t) (width t))) db new
      → Inserted t row (record { schema = schema; trees = db }) new
  inserts new sound ran =
      let p = parts_of insert_task (Values (terms_of t) (width t)) db ran.written ran.wrote in
      let how = rowids_for t (count_of p.counter) in
      let edit = edit_of db t [] how 0 p.rows in
      let applied = one_step schema Enforced db p.mid edit (no_works schema Enforced 0 t.tree edit.news) p.wrote in
      let news : edit.news ≡ row ∷ [] =
      ap (λ rows. (edit_of db t [] how 0 rows).news) (p.source.1 ∙ given.laid)
      ∙ ap (λ (r : Row). numbered how (db t.tree) (r ∷ [])) (cast_row_kept t given.source given.kinds)
      ∙ ap (λ (r : Row). r ∷ []) (given.placed (count_of p.counter)) in
      let now = ap (λ (d : Database). d.trees) ran.now ∙ p.trees in
      let later = counted_rest insert_task refl quiet p.mid p.next p.counter p.top p.counted in
      record {
        free = not_taken _ _ (rw news at applied.fresh);
        rows = ap (λ (d : Trees). d t.tree) now ∙ later at t has named ∙ applied.rows
            ∙ ap (put_all (db t.tree)) news;
        spares = record {
          schema = ap (λ (d : Database). d.schema) ran.now;
          others = λ be u there other counts. ap (λ (d : Trees). d u.tree) now ∙ later be u there counts
              ∙ kept_by schema db p.mid edit applied u (is_in schema be u there)
              (apart_in schema be at u t there has other);
          sound = sound;
        };
      }

module _ (text : List ℕ) (table : ℕ → Table) (it : (spelling : Spelling)
    → IsInsert text (spelled table spelling)) (params : Row) (row : List Row → Row)
    (given : (spelling : Spelling) (there : List Row) → IsRow (spelled table spelling) params there (row there))
    (old new : State) where
  pub inserted : (count : ℕ) → Executes text params old new (Ok count) → Inserts table row old.now new.now
  inserted count h at spelling has quiet =
      let t = spelled table spelling in
      let what = Insert at (Values (terms_of t) (width t)) in
      let known = (understood_is old.now.schema text _ (insert_is old.now.schema text at t (it spelling) has)).0 in
      let w = runs_as text params old new old.now.schema refl what (ap command_of known)
      (subst IsPlain (sym known) (refl, refl)) count h in
      let ran = ran_of (task_on old params t) (mode_of old) what old.now.trees w.tally new.now
      (subst (λ (o : Option Table). AtPlace (λ (u : Table). OnRows (task_on old params u) (mode_of old) None what
      old.now.trees) o (Ok (w.tally, new.now))) has.there w.changed) in
      inserts old.step_limit old.now.schema old.now.trees at t has quiet (it spelling).named params
      (row (old.now.trees t.tree)) (given spelling (old.now.trees t.tree)) new.now w.sound ran

  -- in a transaction
  pub inserted_inside : (r : Result ℕ Error) → ExecutesInside 0 text params old new r
      → WritesInside (Inserts table row) old new r
  inserted_inside = writes_inside (Inserts table row) text params old new inserted
