-- What `DELETE FROM t WHERE ..` makes of a database.
use Rattle.std.proofs.Common.{◌≡◌, ℕ, List, [], ◌∷◌, Bool, true, false, Option, None, Ok, Result, refl}
use Rattle.std.proofs.Common.{sym, ap, subst, ◌∙◌}
use Rattle.sqlite_ast.specs.declared.Expr.{Expr}
use Rattle.sqlite_ast.specs.declared.Statement.TheVariants as written
use Rattle.sqlite_syntax.specs.declared.statement.Parsed.{Parsed}
use Rattle.sqlite.specs.declared.types.Value.TheVariants.{Null}
use Rattle.sqlite.specs.Order.{Row}
use Rattle.sqlite.specs.Term.{col, eval_all}
use Rattle.sqlite.specs.Table.{Table}
use Rattle.sqlite.specs.Schema.{Schema}
use Rattle.sqlite.specs.Command.TheVariants.{Delete}
use Rattle.sqlite.specs.Edit.{edit_of}
use Rattle.sqlite.specs.Rowids.TheVariants.{Given}
use Rattle.sqlite.specs.Does.{AtPlace, OnRows}
use Rattle.sqlite.specs.Rows.{Written}
use Rattle.sqlite.specs.Tree.{Trees}
use Rattle.sqlite.specs.Effect.{Database, IsDatabase}
use Rattle.sqlite.specs.declared.error.Error.{Error}
use Rattle.sqlite.specs.State.{State, mode_of, Executes, ExecutesInside}
use Rattle.sqlite_rules.specs.Calls.{ids_of}
use Rattle.sqlite_schema.specs.declared.program.Program.{Program}
use Rattle.sqlite_schema.specs.declared.schema.Keys.TheVariants.{Enforced}
use Rattle.sqlite_draft.specs.declared.join.Step.TheVariants.{Inner}
use Rattle.sqlite_resolve.specs.Write.{deleted, picked, simple}
use Rattle.sqlite_resolve.specs.Program.{program}
use Rattle.sqlite_resolve.specs.Compile.{first, compiled, with_command}
use Rattle.sqlite.proofs.Callers.{IsPlain, command_of, runs_as}
use Rattle.store_sql.specs.Spelling.{Spelling, spelled}
use Rattle.store_sql.specs.Known.{HasTable, IsQuiet, sequence_name, is_other}
use Rattle.store_sql.specs.Reading.{Test, passes}
use Rattle.store_sql.specs.Writing.{Deleted, Deletes, WritesInside}
use Rattle.store_sql.proofs.Resolve.{deletes_in, understood_is}
use Rattle.store_sql.proofs.Where.{IsWhere, fits_in, terms_of_test, where_in, are_given}
use Rattle.store_sql.proofs.Select.{query_of, answer_of}
use Rattle.store_sql.proofs.Rowids.{left_by_found}
use Rattle.store_sql.proofs.Writes.{Ran, ran_of, went, same_value, inert_step, kept_by, task_on, apart_in, is_in}
use Rattle.store_sql.proofs.Writes.{writes_inside}

-- the text is `DELETE FROM t`, with such a WHERE
pub record IsDelete (text : List ℕ) (t : Table) (test : Test) : Type 0 where
  pub parse : Parsed
  pub where' : Option Expr
  pub parsed : first text ≡ Ok parse
  pub statement : parse.statement ≡ written.Delete t.name where' []
  pub formats : parse.formats ≡ []
  pub named : is_other t.name sequence_name ≡ true
  pub condition : IsWhere t test where'
  pub enough : fits_in test ≡ true

abbrev pub ids_program : Table → Test → Program
ids_program t test = record { lets = []; body = query_of t.tree (terms_of_test t test) (col 1 0 ∷ []) [] }

abbrev pub IsPlannedDelete : Table → Test → Type 0
IsPlannedDelete t test = (schema : Schema) (at : ℕ) → HasTable schema at t
    → program schema [] (simple (Inner t.tree ∷ []) (terms_of_test t test) (col 1 0 ∷ []))
    ≡ Ok (ids_program t test)

module _ (schema : Schema) (text : List ℕ) (at : ℕ) (t : Table) (test : Test) (it : IsDelete text t test)
    (h : HasTable schema at t) where
  drafted : deleted schema at t it.where' ≡ Ok (simple (Inner t.tree ∷ []) (terms_of_test t test) (col 1 0 ∷ []))
  unfolding deleted picked
  drafted = rw (where_in schema at t h [] false true test it.where' it.condition it.enough) refl

  pub delete_is : (plan : IsPlannedDelete t test) → compiled schema text
      ≡ Ok (with_command it.parse ([], (Delete at (ids_program t test), None)))
  delete_is plan = deletes_in schema text it.parse it.where' at t _ (ids_program t test) it.parsed it.statement
      it.formats h drafted (plan schema at h)

deletes : (limit : Option ℕ) (schema : Schema) (db : Trees) (at : ℕ) (t : Table) (has : HasTable schema at t)
    (quiet : IsQuiet schema) (test : Test) (params : Row) (given : are_given test params ≡ true) (new : Database)
    → IsDatabase new → Ran (record {
      limit = limit;
      keys = Enforced;
      schema = schema;
      table = t;
      params = params;
    }) (Delete at (ids_program t test)) db new → Deleted t (λ r. passes t test params r)
    (record { schema = schema; trees = db }) new
deletes limit schema db at t has quiet test params given new sound ran =
    let asked = went ran.wrote in
    let gone = went asked.2 in
    let edit = edit_of db t (ids_of asked.0) Given 0 [] in
    let applied = inert_step schema db gone.0 edit quiet.inert gone.1 in
    let now = ap (λ (d : Database). d.trees) ran.now ∙ ap (λ (w : Written). w.trees) (same_value gone.2) in
    let found = answer_of schema at t has test (col 1 0 ∷ []) [] db params asked.0 given (asked.1.answer Null) in
    record {
      rows = λ keyed. ap (λ (d : Trees). d t.tree) now ∙ applied.rows
          ∙ left_by_found (db t.tree) keyed (λ r. passes t test params r) (λ r. [])
          (λ r. eval_all (col 1 0 ∷ []) (params ∷ r ∷ [])) found.ordered asked.0 (λ r. refl) found.shows
          found.same;
      spares = record {
        schema = ap (λ (d : Database). d.schema) ran.now;
        others = λ be u there other counts. ap (λ (d : Trees). d u.tree) now
            ∙ kept_by schema db gone.0 edit applied u (is_in schema be u there)
            (apart_in schema be at u t there has other);
        sound = sound;
      };
    }

module _ (text : List ℕ) (table : ℕ → Table) (test : Test) (it : (spelling : Spelling)
    → IsDelete text (spelled table spelling) test) (plan : (spelling : Spelling)
    → IsPlannedDelete (spelled table spelling) test) (params : Row) (given : are_given test params ≡ true)
    (goes : Row → Bool) (is : (spelling : Spelling) → ◌≡◌ {A = Row → Bool}
    (λ r. passes (spelled table spelling) test params r) goes) (old new : State) where
  pub removed : (count : ℕ) → Executes text params old new (Ok count) → Deletes table goes old.now new.now
  removed count h at spelling has quiet =
      let t = spelled table spelling in
      let what = Delete at (ids_program t test) in
      let known = (understood_is old.now.schema text _ (delete_is old.now.schema text at t test (it spelling) has
      (plan spelling))).0 in
      let w = runs_as text params old new old.now.schema refl what (ap command_of known)
      (subst IsPlain (sym known) (refl, refl)) count h in
      let ran = ran_of (task_on old params t) (mode_of old) what old.now.trees w.tally new.now
      (subst (λ (o : Option Table). AtPlace (λ (u : Table). OnRows (task_on old params u) (mode_of old) None what
      old.now.trees) o (Ok (w.tally, new.now))) has.there w.changed) in
      subst (λ (g : Row → Bool). Deleted t g old.now new.now) (is spelling)
      (deletes old.step_limit old.now.schema old.now.trees at t has quiet test params given new.now w.sound ran)

  -- in a transaction
  pub removed_inside : (r : Result ℕ Error) → ExecutesInside 0 text params old new r
      → WritesInside (Deletes table goes) old new r
  removed_inside = writes_inside (Deletes table goes) text params old new removed
