-- What is taken back of a store, step by step and whole.
use Rattle.std.proofs.Common.{◌≡◌, ℕ, pos, ◌==◌, List, [], ◌∷◌, map, Bool, true, Ok, codes, refl}
use Rattle.std.proofs.Common.{sym, ap, subst, ◌∙◌}
use Rattle.std.specs.Prelude.{not, filter}
use Rattle.std.specs.Ordering.{int_eq}
use Rattle.sqlite.specs.Table.{Table}
use Rattle.sqlite.specs.Schema.{Schema}
use Rattle.sqlite.specs.Effect.{Database}
use Rattle.sqlite.specs.State.{State, Executes}
use Rattle.sqlite_tied.specs.Compute.{everything}
use Rattle.sqlite_catalog.specs.Change.{without_table}
use Rattle.sqlite_rules.proofs.ListLemmas.{all_has}
use Rattle.sqlite_trees.proofs.ListLemmas.{all-filter}
use Rattle.store_sql.specs.Known.{HasTable, IsQuiet, counters, is_other}
use Rattle.store_sql.specs.Reading.{equals}
use Rattle.store_sql.specs.Resolving.{resolving}
use Rattle.store_sql.specs.Transactions.{Steps}
use Rattle.store_sql.specs.Writing.{Chained}
use Rattle.store_sql.specs.Spelling.{Spelling, spelled}
use Rattle.store_sql.proofs.Transactions.{steps_then, steps_weaker}
use Rattle.store_sql.proofs.Delete.{IsDelete, IsPlannedDelete}
use Rattle.store_sql.proofs.Writes.{apart_in, is_in}
use Rattle.package_tables.specs.Package.{Tables, tables_of}
use Rattle.package_tables.specs.Calls.{OnTables}
use Rattle.package_tables.specs.declared.fault.Fault.{Fault}
use Rattle.package_tables.proofs.InTurn.{Done, done}
use Rattle.package_tables.specs.Fixed.{mapping_relations}
use Rattle.package_tables.specs.Tables.{rows_tiles, gpkgext_relations}
use Rattle.package_tables.specs.declared.rows.HeadRow.{HeadRow}
use Rattle.package_tables.specs.declared.rows.RelationRow.{RelationRow}
use Rattle.identity_register.specs.Reads.{Says, head_row}
use Rattle.package_v1.specs.FirstVersion.{first_relations, first_tables_of, with_version, brought}
use Rattle.package_v1.specs.Migrating.{SetsVersion}
use Rattle.package_v1.specs.TakingBack.{DropsThirdRelation, DropsThird, TakesBack}
use Rattle.package_v1.proofs.Carrying.{Carries, first_of, still_formed, still_said}
use Rattle.package_v1.proofs.Dropping.{drop_text, Dropped, dropped, still_known}

-- ---- the text of the deletion

pub delete_text : (spelling : Spelling) → IsDelete (codes "DELETE FROM gpkgext_relations WHERE id = ?1")
    (spelled gpkgext_relations spelling) (equals 0 0)
unfolding everything
delete_text spelling = record {
  parse = _;
  where' = _;
  parsed = refl;
  statement = refl;
  formats = refl;
  named = refl;
  condition = (_, refl, (_, _, _, _, refl, refl, refl, refl, refl, refl, refl));
  enough = refl;
}

pub delete_plan : (spelling : Spelling) → IsPlannedDelete (spelled gpkgext_relations spelling) (equals 0 0)
unfolding resolving
delete_plan spelling schema at h = rw (h.stored, h.by_tree) refl

-- ---- the table goes

not_third : List ℕ → Bool
not_third name = is_other name (codes "rows_tiles")

module _ (old new : Database) (at : ℕ) (spelling : Spelling)
    (has : HasTable old.schema at (spelled rows_tiles spelling))
    (it : Dropped (spelled rows_tiles spelling) old new) where
  stays_at : (be : ℕ) (u : Table) → is_other u.name (codes "rows_tiles") ≡ true → HasTable old.schema be u
      → (k : ℕ)
      × HasTable (without_table old.schema spelling.tree) k u
  stays_at be u other h = still_known old.schema spelling.tree be u
      (apart_in old.schema be at u (spelled rows_tiles spelling) h has other) h

  drop_carries : Carries (λ name. is_other name (codes "rows_tiles")) old new
  drop_carries = record {
    has = λ be u other h. let k = stays_at be u other h in (
      k.0,
      subst (λ (s : Schema). HasTable s k.0 u)
          (sym it.schema) k.1,
    );
    rows = λ be u other h. all_has (λ (t : Table). new.trees t.tree ≡ old.trees t.tree)
        (without_table old.schema spelling.tree).tables u it.rows
        (let k = stays_at be u other h in is_in (without_table old.schema spelling.tree) k.0 u k.1);
    quiet = λ q. subst IsQuiet (sym it.schema) (quiet_without q);
  }
    where
      quiet_without : IsQuiet old.schema → IsQuiet (without_table old.schema spelling.tree)
      quiet_without q =
          let k = stays_at q.seq_at (counters q.seq) refl q.counts in
          record {
            seq_at = k.0;
            seq = q.seq;
            counts = k.1;
            inert = all-filter _ (λ t. not (t.tree == spelling.tree)) old.schema.tables q.inert;
          }

  drops_third : DropsThird old new
  drops_third formed = (
    still_formed (λ name. is_other name (codes "rows_tiles")) old new drop_carries (λ name other. other)
        (first_of old formed),
    still_said (λ name. is_other name (codes "rows_tiles")) old new drop_carries (λ name other. other)
        (first_of old formed) [],
  )

pub third_dropped : (old new : State) (count : ℕ) → Executes drop_text [] old new (Ok count)
    → DropsThird old.now new.now
third_dropped old new count h formed =
    let p = formed.rows_tiles.placed in
    drops_third old.now new.now p.at p.spelling p.has (dropped old new p.at (spelled rows_tiles p.spelling) p.has refl
    formed.quiet.inert refl count h) formed

-- ---- the whole

abbrev pub Reversed : Database → Database → Type 0
Reversed = Chained (SetsVersion (pos 1)) (Chained (OnTables DropsThirdRelation) DropsThird)

-- of the three relations the first two are left
two_left : filter (λ (x : RelationRow). not (int_eq x.id (pos 3))) mapping_relations ≡ first_relations
two_left = refl

pub takes : (old new : Database) → Reversed old new → TakesBack old new
takes old new (one, set, (two, deleted, gone)) f p reads none free =
    let says = reads.says in
    let head = says.head in
    let mine = head_row p says.created in
    let first = set reads.formed mine head in
    let second = deleted first.0 in
    let third = gone second.0 in
    let keeps = λ (x : RelationRow). not (int_eq x.id (pos 3)) in
    let said : tables_of two ≡ record (tables_of old) {
      heads = with_version (pos 1) mine ∷ [];
      relations = first_relations;
    } =
    second.1 ∙ ap (λ (t : Tables). record t { relations = filter keeps t.relations }) first.1
    ∙ ap (λ (l : List RelationRow). record (tables_of old) {
      heads = with_version (pos 1) mine ∷ [];
      relations = filter keeps l;
    }) says.fixed.relations in
    let now : first_tables_of new ≡ record (first_tables_of old)
    { heads = with_version (pos 1) mine ∷ []; relations = first_relations } =
    third.1 ∙ ap (λ (t : Tables). record t { rows_tiles = [] }) said in
    let back : brought (first_tables_of new) ≡ tables_of old =
    ap brought now
    ∙ sym (λ i. record (tables_of old) {
      rows_tiles = none i;
      relations = says.fixed.relations i;
      heads = head i;
    }) in
    record {
      formed = third.0;
      free = free;
      says = record {
        relations = ap (λ (t : Tables). t.relations) now;
        version = ap (λ (t : Tables). map (λ (h : HeadRow). h.version) t.heads) now;
        says = subst (Says f p) (sym back) says;
      };
    }

pub takes_steps : {old a b new : State} {r : Done} → Steps {X = Unit {0}} {E = Fault} (λ _. SetsVersion (pos 1))
    old a
    done → Steps {X = Unit {0}} {E = Fault} (λ _. OnTables DropsThirdRelation) a b done
    → Steps {X = Unit {0}} {E = Fault} (λ _. DropsThird) b new r
    → Steps {X = Unit {0}} {E = Fault} (λ _. TakesBack) old new r
takes_steps {old} {a} {b} {new} one two three = steps_weaker (λ _. TakesBack) (λ _ it. takes old.now new.now it)
    (steps_then one (steps_then two three))
