-- What CREATE INDEX makes of a schema of which one table is known.
use Rattle.std.proofs.Common.{◌≡◌, ℕ, List, [], Option, Some, None, slice_get, Ok, refl, sym, ap, subst}
use Rattle.std.proofs.Common.{◌∙◌}
use Rattle.sqlite_ast.specs.declared.CreateIndex.{CreateIndex as Written}
use Rattle.sqlite_syntax.specs.declared.statement.Parsed.{Parsed}
use Rattle.sqlite.specs.Table.{Table}
use Rattle.sqlite.specs.Schema.{Schema}
use Rattle.sqlite_schema.specs.declared.schema.Index.{Index}
use Rattle.sqlite.specs.Command.TheVariants.{CreateIndex}
use Rattle.sqlite_resolve.specs.Compile.{compiled, planned, meaning, timed, returning, command, create_index, creates}
use Rattle.sqlite_resolve.specs.Compile.{with_command, index_in, index_defined_by}
use Rattle.sqlite_schema.specs.Names.{table_named}
use Rattle.sqlite.specs.Effect.{Database, IsDatabase}
use Rattle.sqlite.specs.Change.{indexed, KeepsRows}
use Rattle.sqlite.specs.Does.{Tally, Does}
use Rattle.sqlite.specs.declared.run.Mode.{Mode}
use Rattle.sqlite_catalog.specs.Calls.{CreatesIndex}
use Rattle.sqlite.specs.State.{State, Writes, Executes, mode_of}
use Rattle.sqlite.proofs.Callers.{IsPlain, command_of, statement_of, runs_as}
use Rattle.sqlite_trees.proofs.ListLemmas.{all_both}
use Rattle.store_sql.specs.Known.{HasTable}
use Rattle.store_sql.specs.Blank.{IsFree, IsBlank}
use Rattle.store_sql.specs.Index.{MakesIndex, Indexed}
use Rattle.store_sql.proofs.Resolve.{understood_is}
use Rattle.store_sql.proofs.Writes.{went, same_value}

pub indexes_in : (schema : Schema) (text : List ℕ) (p : Parsed) (def : Written) (at : ℕ) (t : Table) (i : Index)
    → MakesIndex text p def t i → HasTable schema at t → IsFree schema def.name
    → compiled schema text ≡ Ok (with_command p ([], (CreateIndex at, None)))
unfolding compiled planned meaning timed returning command create_index creates
indexes_in schema text p def at t i it has free =
    let named : table_named schema def.table ≡ Some at = subst (λ name. table_named schema name ≡ Some at)
    (sym it.table) has.named in
    rw (
      it.parsed,
      it.statement,
      it.formats,
      it.table_free,
      named,
      has.there,
      free.view,
      it.free,
      free.table,
      free.index,
      it.defined,
    ) refl

pub index_defined : (text : List ℕ) (p : Parsed) (def : Written) (t : Table) (i : Index)
    → MakesIndex text p def t i → index_defined_by t text ≡ Ok i
unfolding index_defined_by index_in
index_defined text p def t i it = rw (it.parsed, it.statement, it.defined) refl

index_of : (old new : Database) (text : List ℕ) (at : ℕ) (t : Table) (i : Index) (tally : Tally) (mode : Mode)
    (limit : Option ℕ) → slice_get old.schema.tables at ≡ Some t → index_defined_by t text ≡ Ok i
    → Does limit mode [] old text None (CreateIndex at) (Ok (tally, new)) → Indexed t i old new
index_of old new text at t i tally mode limit there known h =
    let all = went (rw there at h) in
    let made : CreatesIndex old.schema t text old.trees all.0.schema all.0.trees = all.1 in
    let same : made.index ≡ i = same_value (sym made.defined ∙ known) in
    let now : new ≡ all.0 = ap (λ (p : Tally × Database). p.1) (same_value all.2) in
    subst (Indexed t i old) (sym now) (record { schema = made.is ∙ ap (indexed old.schema t) same; rows = made.rows })

pub makes_index : (old new : State) (text : List ℕ) (p : Parsed) (def : Written) (at : ℕ) (t : Table) (i : Index)
    (count : ℕ) → MakesIndex text p def t i → HasTable old.now.schema at t → IsFree old.now.schema i.name
    → Executes text [] old new (Ok count) → Indexed t i old.now new.now
makes_index old new text p def at t i count it has free h =
    let known = (understood_is old.now.schema text _ (indexes_in old.now.schema text p def at t i it has
    (subst (IsFree old.now.schema) (sym it.name) free))).0 in
    let w = runs_as text [] old new old.now.schema refl (CreateIndex at) (ap command_of known)
    (subst IsPlain (sym known) (refl, refl)) count h in
    let here = subst (λ s. Writes old new None (CreateIndex at) s [] count)
    (ap (statement_of text) known ∙ it.whole) w in
    index_of old.now new.now text at t i here.tally (mode_of old) old.step_limit has.there
    (index_defined text p def t i it) here.changed

pub index_sound : (old new : State) (text : List ℕ) (p : Parsed) (def : Written) (at : ℕ) (t : Table) (i : Index)
    (count : ℕ) → MakesIndex text p def t i → HasTable old.now.schema at t → IsFree old.now.schema i.name
    → Executes text [] old new (Ok count) → IsDatabase new.now
index_sound old new text p def at t i count it has free h =
    let known = (understood_is old.now.schema text _ (indexes_in old.now.schema text p def at t i it has
    (subst (IsFree old.now.schema) (sym it.name) free))).0 in
    (runs_as text [] old new old.now.schema refl (CreateIndex at) (ap command_of known)
    (subst IsPlain (sym known) (refl, refl)) count h).sound

-- an index leaves a database without rows as it was
pub blank_after : (S : Schema) (t : Table) (i : Index) (old new : Database) → IsBlank S old → Indexed t i old new
    → IsBlank (indexed S t i) new
blank_after S t i old new blank made = record {
  is = made.schema ∙ ap (λ (s : Schema). indexed s t i) blank.is;
  empty = all_both (λ (u : Table). old.trees u.tree ≡ []) (λ (u : Table). new.trees u.tree ≡ old.trees u.tree)
      (λ (u : Table). new.trees u.tree ≡ []) (λ u none same. same ∙ none) S.tables blank.empty
      (subst (λ (s : Schema). KeepsRows s.tables old.trees new.trees) blank.is made.rows);
}
