-- What `DROP TABLE rows_tiles` makes of a database.
use Rattle.std.proofs.Common.{◌≡◌, ◌≢◌, ℕ, ◌==◌, List, [], ◌∷◌, Bool, true, false, Option}
use Rattle.std.proofs.Common.{Some, None, Ok, Err, codes}
use Rattle.std.proofs.Common.{refl, sym, ap, subst, ◌∙◌, arith, MatchBool}
use Rattle.std.specs.Prelude.{not, is_some, ◌&&◌}
use Rattle.std.specs.List.{AllByRecursion, list_any}
use Rattle.std.proofs.Math.Bool.{and-false}
use Rattle.sqlite_ast.specs.declared.Statement.TheVariants as written
use Rattle.sqlite_syntax.specs.declared.statement.Parsed.{Parsed}
use Rattle.sqlite.specs.Table.{Table}
use Rattle.sqlite.specs.Schema.{Schema}
use Rattle.sqlite.specs.Tree.{Trees}
use Rattle.sqlite.specs.Command.TheVariants.{DropTable}
use Rattle.sqlite_schema.specs.declared.schema.Keys.TheVariants.{Enforced}
use Rattle.sqlite_schema.specs.declared.schema.Reference.{Reference}
use Rattle.sqlite_schema.specs.declared.schema.Action.TheVariants.{NoAction}
use Rattle.sqlite_schema.specs.Names.{same_name, table_named, view_named}
use Rattle.sqlite_rules.specs.Action.{deed_for}
use Rattle.sqlite_catalog.specs.Change.{without_table, KeepsRows}
use Rattle.sqlite_resolve.specs.Compile.{first, compiled, planned, meaning, timed, returning, command, drop_table}
use Rattle.sqlite_resolve.specs.Compile.{with_command, is_reserved}
use Rattle.sqlite_resolve.specs.declared.error.CompileError.TheVariants.{Misuse}
use Rattle.sqlite_tied.specs.Compute.{everything}
use Rattle.sqlite.specs.Listing.{understood}
use Rattle.sqlite.specs.Effect.{Database}
use Rattle.sqlite.specs.Does.{Tally, Does, is_acted_on, Uncounts}
use Rattle.sqlite.specs.Rows.{Task}
use Rattle.sqlite.specs.State.{State, Executes, ExecutesIn, mode_of}
use Rattle.sqlite.proofs.Callers.{IsPlain, command_of, runs_as}
use Rattle.sheet_types.proofs.Every.{none_any}
use Rattle.store_sql.specs.Known.{HasTable, IsInert}
use Rattle.store_sql.proofs.Resolve.{understood_is}
use Rattle.store_sql.proofs.Writes.{went, same_value}
use Rattle.package_v1.proofs.Filtered.{first_kept, find_kept}

abbrev pub drop_text : List ℕ
drop_text = codes "DROP TABLE rows_tiles"

record IsDrop (p : Parsed) (name : List ℕ) : Type 0 where
  pub parsed : first drop_text ≡ Ok p
  pub statement : p.statement ≡ written.DropTable false name
  pub formats : p.formats ≡ []
  pub free : is_reserved name ≡ false

drop_is : (p : Parsed) × IsDrop p (codes "rows_tiles")
unfolding everything
drop_is = (_, record { parsed = refl; statement = refl; formats = refl; free = refl })

drops_in : (schema : Schema) (p : Parsed) (name : List ℕ) (at : ℕ) → IsDrop p name
    → view_named schema name ≡ None
    → table_named schema name ≡ Some at → compiled schema drop_text
    ≡ Ok (with_command p ([], (DropTable at, None)))
unfolding compiled planned meaning timed returning command drop_table
drops_in schema p name at it free named = rw (it.parsed, it.statement, it.formats, it.free, free, named) refl

-- a view of the name is no table
refuses_in : (schema : Schema) (p : Parsed) (name : List ℕ) (at : ℕ) → IsDrop p name
    → view_named schema name ≡ Some at → compiled schema drop_text ≡ Err Misuse
unfolding compiled planned meaning timed returning command drop_table
refuses_in schema p name at it named = rw (it.parsed, it.statement, it.free, named) refl

not_understood : (schema : Schema) → compiled schema drop_text ≡ Err Misuse
    → understood schema drop_text ≡ Err Misuse
unfolding understood
not_understood schema h = rw h refl

-- ---- no action

quiet_references : (name : List ℕ) (refs : List Reference) → AllByRecursion
    (λ (r : Reference). (r.on_delete ≡ NoAction) × (r.on_update ≡ NoAction)) refs
    → AllByRecursion (λ (r : Reference). (same_name name r.parent && is_some (deed_for Enforced true r)) ≡ false)
    refs
quiet_references name [] h = tt
quiet_references name (r ∷ refs) h = (rw h.0.0 (and-false (same_name name r.parent)), quiet_references name refs h.1)

quiet_tables : (name : List ℕ) (tables : List Table) → AllByRecursion
    (λ (t : Table). AllByRecursion (λ (r : Reference). (r.on_delete ≡ NoAction) × (r.on_update ≡ NoAction))
    t.references) tables
    → AllByRecursion (λ (t : Table). list_any (λ (r : Reference). same_name name r.parent && is_some
    (deed_for Enforced true r)) t.references ≡ false) tables
quiet_tables name [] h = tt
quiet_tables name (t ∷ tables) h = (
  none_any _ t.references (quiet_references name t.references h.0),
  quiet_tables
      name tables h.1,
)

none_acts : (schema : Schema) (t : Table) → IsInert schema → is_acted_on schema Enforced t ≡ false
none_acts schema t inert = none_any _ schema.tables (quiet_tables t.name schema.tables inert)

-- ---- the table goes, and nothing else

pub record Dropped (t : Table) (old new : Database) : Type 0 where
  pub schema : new.schema ≡ without_table old.schema t.tree
  pub rows : KeepsRows (without_table old.schema t.tree).tables old.trees new.trees

not_so : (A B : Type 0) (b : Bool) → b ≡ false → MatchBool b A B → B
not_so A B true e h = absurd (let k = e in cc)
not_so A B false e h = h

-- a table that does not count has no count
uncounted_of : (task : Task) (db next : Trees) → task.table.is_counted ≡ false → Uncounts task db (Ok next)
    → next ≡ db
uncounted_of task db next plain h = same_value (rw plain at h)

dropped_of : (old new : Database) (at : ℕ) (t : Table) (tally : Tally) (limit : Option ℕ) (s : State)
    → HasTable old.schema at t → IsInert old.schema → t.is_counted ≡ false
    → Does limit (mode_of s) [] old drop_text None (DropTable at) (Ok (tally, new)) → Dropped t old new
dropped_of old new at t tally limit s has inert plain h =
    let a = went (rw has.there at h) in
    let b = went a.2 in
    let c = went b.2 in
    let d = went c.2 in
    let emptied : a.0 ≡ old.trees = same_value (not_so _ _ _ (none_acts old.schema t inert) a.1) in
    let uncounted : b.0 ≡ a.0 = uncounted_of (record {
      limit = limit;
      keys = Enforced;
      schema = old.schema;
      table = t;
      params = [];
    }) a.0 b.0 plain b.1 in
    let now : new ≡ d.0 = ap (λ (p : Tally × Database). p.1) (same_value d.2) in
    let kept = d.1 in
    subst (Dropped t old) (sym now) (record {
      schema = kept.0;
      rows =
          subst (λ (db : Trees). KeepsRows (without_table old.schema t.tree).tables db d.0.trees)
          (uncounted ∙ emptied)
          kept.1;
    })

refused : (old new : State) (count : ℕ) → Executes drop_text [] old new (Ok count)
    → understood old.now.schema drop_text ≡ Err Misuse → ⊥
unfolding ExecutesIn
refused old new count h wrong = let e = sym h.1.is ∙ wrong in cc

module _ (old new : State) (at : ℕ) (t : Table) (has : HasTable old.now.schema at t)
    (named : t.name ≡ codes "rows_tiles") (inert : IsInert old.now.schema) (plain : t.is_counted ≡ false)
    (count : ℕ)
    (h : Executes drop_text [] old new (Ok count)) where
  by_view : (o : Option ℕ) → view_named old.now.schema (codes "rows_tiles") ≡ o → Dropped t old.now new.now
  by_view None none =
      let known = (understood_is old.now.schema drop_text _ (drops_in old.now.schema drop_is.0 (codes "rows_tiles") at
      drop_is.1 none (subst (λ n. table_named old.now.schema n ≡ Some at) named has.named))).0 in
      let w = runs_as drop_text [] old new old.now.schema refl (DropTable at) (ap command_of known)
      (subst IsPlain (sym known) (refl, refl)) count h in
      dropped_of old.now new.now at t w.tally old.step_limit old has inert plain w.changed
  by_view (Some be) some =
      let wrong = not_understood old.now.schema (refuses_in old.now.schema drop_is.0 (codes "rows_tiles") be drop_is.1
      some) in
      absurd (refused old new count h wrong)

  pub dropped : Dropped t old.now new.now
  dropped = by_view (view_named old.now.schema (codes "rows_tiles")) refl

-- ---- the tables that stay

module _ (schema : Schema) (tree : ℕ) where
  abbrev keep : Table → Bool
  keep t = not (t.tree == tree)

  kept_tree : (u : Table) → u.tree ≢ tree → keep u ≡ true
  kept_tree u apart = grind arith

  pub still_known : (at : ℕ) (u : Table) → u.tree ≢ tree → HasTable schema at u → (be : ℕ)
      × HasTable (without_table schema tree) be u
  still_known at u apart h =
      let kept = first_kept (λ (t : Table). same_name t.name u.name) keep 0 0 at u schema.tables
      (h.named ∙ ap Some (omega arith)) h.there (kept_tree u apart) in (
        kept.0,
        record {
          named = kept.1 ∙ ap Some (omega arith);
          there = kept.2;
          stored = h.stored;
          by_tree =
              find_kept (λ (t : Table). t.tree == u.tree) keep u schema.tables h.by_tree (kept_tree u apart);
        },
      )
