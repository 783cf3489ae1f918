-- What `UPDATE t SET c = ?j WHERE ..` makes of a database.
use Rattle.std.proofs.Common.{◌≡◌, ◌+◌, ℕ, List, [], ◌∷◌, map, drop, Bool, true, false, cond}
use Rattle.std.proofs.Common.{Option, None, Ok, Result, refl, sym, ap, ap₂, subst, ◌∙◌}
use Rattle.std.specs.Prelude.{filter, ◌-◌}
use Rattle.std.specs.List.{AllByRecursion}
use Rattle.std.specs.List.Sorted.{IsPermutation}
use Rattle.sqlite_ast.specs.declared.Expr.{Expr, out-Expr}
use Rattle.sqlite_ast.specs.declared.Expr.TheOpen.{Expr-F}
use Rattle.sqlite_ast.specs.declared.Statement.TheVariants as written
use Rattle.sqlite_syntax.specs.declared.statement.Parsed.{Parsed}
use Rattle.sqlite.specs.declared.types.Value.TheVariants.{Null}
use Rattle.sqlite.specs.Order.{Row}
use Rattle.sqlite.specs.Term.{Term, col, eval_all}
use Rattle.sqlite.specs.Table.{Table}
use Rattle.sqlite.specs.Schema.{Schema}
use Rattle.sqlite.specs.Command.TheVariants.{Update}
use Rattle.sqlite.specs.Edit.{edit_of, without_all, numbered, put_all}
use Rattle.sqlite.specs.Cast.{cast_row}
use Rattle.sqlite.specs.Rowids.TheVariants.{Given}
use Rattle.sqlite.specs.Does.{AtPlace, OnRows}
use Rattle.sqlite.specs.Rows.{Written}
use Rattle.sqlite.specs.Tree.{Trees, rowid}
use Rattle.sqlite.specs.Effect.{Database, IsDatabase}
use Rattle.sqlite.specs.declared.error.Error.{Error}
use Rattle.sqlite.specs.State.{State, mode_of, Executes, ExecutesInside}
use Rattle.sqlite_rules.specs.Calls.{ids_of}
use Rattle.sqlite_schema.specs.declared.program.Program.{Program}
use Rattle.sqlite_schema.specs.declared.schema.Keys.TheVariants.{Enforced}
use Rattle.sqlite_draft.specs.declared.join.Step.TheVariants.{Inner}
use Rattle.sqlite_resolve.specs.Scope.{Name}
use Rattle.sqlite_resolve.specs.Lowering.{max_budget}
use Rattle.sqlite_resolve.specs.Reach.{any_scans}
use Rattle.sqlite_resolve.specs.Write.{updated, updated_in, assigned, sets, picked, simple, with_place, row}
use Rattle.sqlite_resolve.specs.Program.{program}
use Rattle.sqlite_resolve.specs.Compile.{first, compiled, with_command}
use Rattle.sqlite.proofs.Callers.{IsPlain, command_of, runs_as}
use Rattle.store_sql.specs.Spelling.{Spelling, spelled}
use Rattle.store_sql.specs.Known.{HasTable, IsQuiet, sequence_name, is_other}
use Rattle.store_sql.specs.Kinds.{has_kinds}
use Rattle.store_sql.specs.Reading.{Test, passes}
use Rattle.store_sql.specs.Writing.{IsKeyed, Updated, Updates, WritesInside}
use Rattle.store_sql.proofs.Resolve.{updates_in, understood_is}
use Rattle.store_sql.proofs.Casts.{cast_row_kept}
use Rattle.store_sql.proofs.Where.{IsWhere, fits_from, terms_of_test, where_from, given_in, are_given}
use Rattle.store_sql.proofs.Select.{query_of, answer_of}
use Rattle.store_sql.proofs.Rowids.{left_by_found}
use Rattle.store_sql.proofs.Changed.{changed_in_place}
use Rattle.sqlite_rules.proofs.PlaceLemmas.{given}
use Rattle.sqlite_trees.proofs.ListLemmas.{all-filter, map-map}
use Rattle.std.proofs.lemmas.List.Sorted.{IsPermutation-map}
use Rattle.store_sql.proofs.Writes.{Ran, ran_of, went, same_value, inert_step, kept_by, task_on, apart_in, is_in}
use Rattle.store_sql.proofs.Writes.{writes_inside}

-- the text is `UPDATE t SET c = ?`, by the parameter of this number from 0, with such a WHERE, and asks for these
-- terms: the old rowid, and the new row
pub record IsUpdate (text : List ℕ) (t : Table) (test : Test) (j : ℕ) (project : List Term) : Type 0 where
  pub parse : Parsed
  pub name : Name
  pub value : Expr
  pub where' : Option Expr
  pub place : ℕ
  pub parsed : first text ≡ Ok parse
  pub statement : parse.statement ≡ written.Update t.name ((name, value) ∷ []) where' []
  pub formats : parse.formats ≡ []
  pub named : is_other t.name sequence_name ≡ true
  pub given : out-Expr value ≡ Expr-F.Parameter (j + 1)
  pub placed : with_place t [] name ≡ Ok (place ∷ [])
  pub projected : row t None (place ∷ []) (col 1 0 ∷ []) (col 0 j ∷ []) ≡ Ok project
  pub condition : IsWhere t test where'
  pub enough : fits_from test (max_budget - 1) ≡ true

abbrev pub change_program : Table → Test → List Term → Program
change_program t test project = record { lets = []; body = query_of t.tree (terms_of_test t test) project [] }

abbrev pub IsPlannedUpdate : Table → Test → List Term → Type 0
IsPlannedUpdate t test project = (schema : Schema) (at : ℕ) → HasTable schema at t
    → program schema [] (simple (Inner t.tree ∷ []) (terms_of_test t test) project)
    ≡ Ok (change_program t test project)

module _ (schema : Schema) (text : List ℕ) (at : ℕ) (t : Table) (test : Test) (j : ℕ) (project : List Term)
    (it : IsUpdate text t test j project) (h : HasTable schema at t) where
  drafted : updated schema at t ((it.name, it.value) ∷ []) it.where'
      ≡ Ok (simple (Inner t.tree ∷ []) (terms_of_test t test) project)
  unfolding updated updated_in assigned sets picked any_scans
  drafted = rw (
    it.placed,
    given_in schema at t h [] false true it.value j max_budget it.given refl,
    it.projected,
    where_from schema at t h [] false true test it.where' (max_budget - 1) it.condition it.enough,
  ) refl

  pub update_is : (plan : IsPlannedUpdate t test project) → compiled schema text
      ≡ Ok (with_command it.parse ([], (Update at (change_program t test project), None)))
  update_is plan = updates_in schema text it.parse _ it.where' at t _ (change_program t test project) it.parsed
      it.statement it.formats h drafted (plan schema at h)

-- what the edit makes of the rows: those that pass are changed in their places
module _ (t : Table) (xs : List Row) (keyed : IsKeyed xs) (p : Row → Bool) (change shown : Row → Row)
    (found : List Row) (ordered : List (Row × Row)) (of : (r : Row) → drop 1 (shown r) ≡ change r)
    (first_is : (r : Row) → rowid (shown r) ≡ rowid r) (keeps : (r : Row) → rowid (change r) ≡ rowid r)
    (is : found ≡ map (λ o. o.1) ordered) (kinds : AllByRecursion (λ r. has_kinds t (change r) ≡ true)
    xs) where
  abbrev cast_shown : Row → Row
  cast_shown s = cast_row t (drop 1 s)

  abbrev news : List Row
  news = numbered Given (without_all xs (ids_of found)) (map cast_shown found)

  -- a row that has the columns' kinds is not altered by the cast
  uncast : (rows : List Row) → AllByRecursion (λ r. has_kinds t (change r) ≡ true) rows
      → map (λ r. cast_shown (shown r)) rows ≡ map change rows
  uncast [] fits = refl
  uncast (r ∷ rows) fits = ap₂ ◌∷◌ (ap (cast_row t) (of r) ∙ cast_row_kept t (change r) fits.0)
      (uncast rows fits.1)

  changes : IsPermutation (map (λ r. ([], shown r)) (filter p xs)) ordered
      → put_all (without_all xs (ids_of found)) news ≡ map (λ r. cond (p r) (change r) r) xs
  changes same =
      let made : news ≡ map (λ (o : Row × Row). cast_shown o.1) ordered =
      given _ (map cast_shown found) ∙ ap (map cast_shown) is
      ∙ map-map cast_shown (λ (o : Row × Row). o.1) ordered in
      let front : map (λ (o : Row × Row). cast_shown o.1) (map (λ r. ([], shown r)) (filter p xs))
      ≡ map change (filter p xs) =
      map-map (λ (o : Row × Row). cast_shown o.1) (λ r. ([], shown r)) (filter p xs)
      ∙ uncast (filter p xs) (all-filter (λ r. has_kinds t (change r) ≡ true) p xs kinds) in
      let moved = subst (λ l. IsPermutation l (map (λ (o : Row × Row). cast_shown o.1) ordered)) front
      (IsPermutation-map (λ (o : Row × Row). cast_shown o.1) _ ordered same) in
      rw (made, left_by_found xs keyed p (λ r'. []) shown ordered found first_is is same)
      (changed_in_place xs keyed p change keeps _ moved)

-- what the new row is, of the old one
abbrev pub change_by : List Term → Row → Row → Row
change_by project params r = drop 1 (eval_all project (params ∷ r ∷ []))

-- the terms leave the rowid as it is
pub record KeepsRowid (project : List Term) (params : Row) : Type 0 where
  pub found : (r : Row) → rowid (eval_all project (params ∷ r ∷ [])) ≡ rowid r
  pub new : (r : Row) → rowid (change_by project params r) ≡ rowid r

updates : (limit : Option ℕ) (schema : Schema) (db : Trees) (at : ℕ) (t : Table) (has : HasTable schema at t)
    (quiet : IsQuiet schema) (test : Test) (project : List Term) (params : Row) (keeps : KeepsRowid project params)
    (given : are_given test params ≡ true) (new : Database) → IsDatabase new
    → Ran (record { limit = limit; keys = Enforced; schema = schema; table = t; params = params })
    (Update at (change_program t test project)) db new
    → Updated t (λ r. passes t test params r) (change_by project params) (record { schema = schema; trees = db }) new
updates limit schema db at t has quiet test project params keeps given new sound ran =
    let asked = went ran.wrote in
    let done = went asked.2 in
    let edit = edit_of db t (ids_of asked.0) Given 1 asked.0 in
    let applied = inert_step schema db done.0 edit quiet.inert done.1 in
    let now = ap (λ (d : Database). d.trees) ran.now ∙ ap (λ (w : Written). w.trees) (same_value done.2) in
    let found = answer_of schema at t has test project [] db params asked.0 given (asked.1.answer Null) in
    record {
      rows = λ keyed kinds. ap (λ (d : Trees). d t.tree) now ∙ applied.rows
          ∙ changes t (db t.tree) keyed (λ r. passes t test params r) (change_by project params)
          (λ r. eval_all project (params ∷ r ∷ [])) asked.0 found.ordered (λ r. refl) keeps.found keeps.new
          found.shows kinds found.same;
      spares = record {
        schema = ap (λ (d : Database). d.schema) ran.now;
        others = λ be u there other counts. ap (λ (d : Trees). d u.tree) now
            ∙ kept_by schema db done.0 edit applied u (is_in schema be u there)
            (apart_in schema be at u t there has other);
        sound = sound;
      };
    }

module _ (text : List ℕ) (table : ℕ → Table) (test : Test) (j : ℕ) (project : List Term)
    (it : (spelling : Spelling) → IsUpdate text (spelled table spelling) test j project)
    (plan : (spelling : Spelling) → IsPlannedUpdate (spelled table spelling) test project) (params : Row)
    (keeps : KeepsRowid project params) (given : are_given test params ≡ true) (hits : Row → Bool)
    (is : (spelling : Spelling) → ◌≡◌ {A = Row → Bool} (λ r. passes (spelled table spelling) test
    params r) hits) (old new : State) where
  pub changed : (count : ℕ) → Executes text params old new (Ok count)
      → Updates table hits (change_by project params) old.now new.now
  changed count h at spelling has quiet =
      let t = spelled table spelling in
      let what = Update at (change_program t test project) in
      let known = (understood_is old.now.schema text _ (update_is old.now.schema text at t test j project
      (it spelling) has (plan spelling))).0 in
      let w = runs_as text params old new old.now.schema refl what (ap command_of known)
      (subst IsPlain (sym known) (refl, refl)) count h in
      let ran = ran_of (task_on old params t) (mode_of old) what old.now.trees w.tally new.now
      (subst (λ (o : Option Table). AtPlace (λ (u : Table). OnRows (task_on old params u) (mode_of old) None what
      old.now.trees) o (Ok (w.tally, new.now))) has.there w.changed) in
      subst (λ (g : Row → Bool). Updated t g (change_by project params) old.now new.now) (is spelling)
      (updates old.step_limit old.now.schema old.now.trees at t has quiet test project params keeps given new.now
      w.sound ran)

  -- in a transaction
  pub changed_inside : (r : Result ℕ Error) → ExecutesInside 0 text params old new r
      → WritesInside (Updates table hits (change_by project params)) old new r
  changed_inside = writes_inside (Updates table hits (change_by project params)) text params old new changed
