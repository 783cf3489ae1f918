-- The parts of a write, and what it leaves alone.
use Rattle.std.proofs.Common.{◌≡◌, ◌≢◌, ◌⊎◌, inl, inr, ℕ, ℤ, ◌==◌, List, [], ◌∷◌}
use Rattle.std.proofs.Common.{length, Bool, true, false, Option, Some, None, Ok, Err, Result, refl, sym, ap, subst}
use Rattle.std.proofs.Common.{◌∙◌, MatchBool}
use Rattle.std.specs.List.{AllByRecursion, flat_map, filter_map}
use Rattle.std.proofs.lemmas.Bool.{cases_Bool}
use Rattle.std.specs.Ordering.{is_lt, int_cmp}
use Rattle.std.specs.Prelude.{if◌then◌else◌}
use Rattle.sqlite.specs.Order.{Row}
use Rattle.sqlite.specs.Table.{Table}
use Rattle.sqlite.specs.Schema.{Schema}
use Rattle.sqlite.specs.Source.{Source}
use Rattle.sqlite.specs.Command.{Command}
use Rattle.sqlite.specs.Edit.{Edit, Applies, edit_of, taken_by}
use Rattle.sqlite.specs.Does.{Tally, OnRows, WritesRows}
use Rattle.sqlite.specs.Rows.{Written, Task, sequence, counting, CountsIn, Counts, Inserts, stamped, rowids_for}
use Rattle.sqlite.specs.Rows.{count_of}
use Rattle.sqlite.specs.Effect.{IsSource, Database}
use Rattle.sqlite.specs.declared.run.Mode.{Mode}
use Rattle.sqlite.specs.declared.error.Error.{Error}
use Rattle.sqlite.specs.Tree.{Trees}
use Rattle.sqlite.specs.State.{State, Executes, ExecutesInside}
use Rattle.sqlite_rules.specs.Lists.{Has}
use Rattle.sqlite_rules.specs.Action.{works, work_for, deed_for, Writes}
use Rattle.sqlite_rules.proofs.ListLemmas.{all_has, has_got}
use Rattle.sqlite_schema.specs.declared.schema.Keys.TheVariants.{Enforced}
use Rattle.sqlite_schema.specs.declared.schema.Reference.{Reference}
use Rattle.sqlite_schema.specs.declared.schema.Action.TheVariants.{NoAction}
use Rattle.sqlite.proofs.Callers.{one_step}
use Rattle.std.proofs.lemmas.Slice.Eq.{bytes_eq-Decides}
use Rattle.store_sql.specs.Known.{counters, HasTable, IsInert, is_other}
use Rattle.store_sql.specs.Writing.{WritesInside}

-- ---- no action

no_deed : (deletes : Bool) (ref : Reference) → (ref.on_delete ≡ NoAction) × (ref.on_update ≡ NoAction)
    → deed_for Enforced deletes ref ≡ None
no_deed true ref h = rw h.0 refl
no_deed false ref h = rw h.1 refl

no_refs : (schema : Schema) (depth tree : ℕ) (olds news : List Row) (child : Table) (refs : List Reference)
    → AllByRecursion (λ (r : Reference). (r.on_delete ≡ NoAction) × (r.on_update ≡ NoAction)) refs
    → filter_map (work_for schema Enforced depth tree olds news child) refs ≡ []
no_refs schema depth tree olds news child [] h = refl
no_refs schema depth tree olds news child (ref ∷ refs) h = rw (no_deed (length news == 0) ref h.0)
    (no_refs schema depth tree olds news child refs h.1)

none_in : (schema : Schema) (depth tree : ℕ) (olds news : List Row) (tables : List Table)
    → AllByRecursion (λ (t : Table). AllByRecursion (λ (r : Reference). (r.on_delete ≡ NoAction)
    × (r.on_update ≡ NoAction)) t.references) tables
    → flat_map (λ (child : Table). filter_map (work_for schema Enforced depth tree olds news child)
    child.references) tables ≡ []
none_in schema depth tree olds news [] h = refl
none_in schema depth tree olds news (t ∷ tables) h = rw (no_refs schema depth tree olds news t t.references h.0)
    (none_in schema depth tree olds news tables h.1)

pub inert_works : (schema : Schema) (depth tree : ℕ) (olds news : List Row) → IsInert schema
    → works schema Enforced depth tree olds news ≡ []
inert_works schema depth tree olds news h = none_in schema depth tree olds news schema.tables h

-- ---- the parts

-- a part that gave a value did not stop on the way
pub went : {B E R : Type 0} {b : B} {Stops : E → Type 0} → ((stop : E) × Stops stop × (Ok b ≡ Err stop)) ⊎ R
    → R
went (inl stopped) = absurd (let e = stopped.2 in cc)
went (inr on) = on

pub same_value : {B E : Type 0} {a b : B} → ◌≡◌ {A = Result B E} (Ok a) (Ok b) → a ≡ b
same_value e = cc

-- no other table changes but that of the edit
pub kept_by : (schema : Schema) (db next : Trees) (edit : Edit) → Applies schema Enforced db edit next
    → (t : Table) → Has schema.tables t → t.tree ≢ edit.table.tree → next t.tree ≡ db t.tree
kept_by schema db next edit h t has apart = all_has _ schema.tables t h.tables has apart

pub inert_step : (schema : Schema) (db next : Trees) (edit : Edit) → IsInert schema
    → Writes schema Enforced db edit (Ok next) → Applies schema Enforced db edit next
inert_step schema db next edit inert h = one_step schema Enforced db next edit
    (inert_works schema 0 edit.table.tree (taken_by db edit) edit.news inert) h

module _ (task : Task) (keys : task.keys ≡ Enforced) (inert : IsInert task.schema) where
  pub counts_kept : (mid next : Trees) (seq : ℕ) (counter : Option Row) (top : ℤ)
      → CountsIn task mid counter top (Some (counters seq)) (Ok next)
      → (t : Table) → Has task.schema.tables t → t.tree ≢ seq → next t.tree ≡ mid t.tree
  counts_kept mid next seq None top h t has apart = kept_by task.schema mid next _
      (inert_step task.schema mid next (counting mid task.table (counters seq) top None) inert (rw keys at h)) t has
      apart
  counts_kept mid next seq (Some counter) top h t has apart =
      kept_by task.schema mid next _ (inert_step task.schema mid next
      (counting mid task.table (counters seq) top (Some counter)) inert (rw keys at h)) t has apart

pub sequence_is : (schema : Schema) (at seq : ℕ) → HasTable schema at (counters seq)
    → sequence schema ≡ Some (counters seq)
sequence_is schema at seq h = rw (h.named, h.there) refl

same_some : {A : Type 0} {a b : A} → Some a ≡ Some b → a ≡ b
same_some e = cc

-- ---- the parts of an INSERT

pub record Parts (task : Task) (from : Source) (db : Trees) (w : Written) : Type 0 where
  pub rows : List Row
  pub source : IsSource (record { schema = task.schema; trees = db }) (stamped task.table task.params) from rows
  pub counter : Option Row
  pub mid : Trees
  pub wrote : Writes task.schema task.keys db (edit_of db task.table [] (rowids_for task.table (count_of counter)) 0
      rows) (Ok mid)
  pub next : Trees
  pub top : ℤ
  pub counted : Counts task mid counter top (Ok next)
  pub trees : w.trees ≡ next

pub parts_of : (task : Task) (from : Source) (db : Trees) (w : Written) → Inserts task from db (Ok w)
    → Parts task from db w
parts_of task from db w h =
    let given = went h in
    let after = went given.2 in
    let written = went after.2 in
    let counted = went written.2 in
    record {
      rows = given.0;
      source = given.1;
      counter = after.0;
      mid = written.0;
      wrote = written.1;
      next = counted.0;
      top = _;
      counted = counted.1;
      trees = ap (λ (it : Written). it.trees) (same_value counted.2);
    }

pub record Ran (task : Task) (command : Command) (db : Trees) (new : Database) : Type 0 where
  pub written : Written
  pub wrote : WritesRows task db command (Ok written)
  pub now : new ≡ record { schema = task.schema; trees = written.trees }

pub ran_of : (task : Task) (mode : Mode) (command : Command) (db : Trees) (tally : Tally) (new : Database)
    → OnRows task mode None command db (Ok (tally, new)) → Ran task command db new
ran_of task mode command db tally new h =
    let done = went h in
    record {
      written = done.0;
      wrote = done.1;
      now = ap (λ (p : Tally × Database). p.1)
          (same_value (went (went done.2).2).2);
    }

pub sequence_kept : (task : Task) (inert : IsInert task.schema) (keys : task.keys ≡ Enforced)
    (counted : task.table.is_counted ≡ true) (mid next : Trees) (seq : ℕ) (counter : Option Row) (top : ℤ)
    → sequence task.schema ≡ Some (counters seq)
    → Counts task mid counter top (Ok next) → (t : Table) → Has task.schema.tables t → t.tree ≢ seq
    → next t.tree ≡ mid t.tree
sequence_kept task inert keys counted mid next seq counter top known h t has apart =
    let it = subst (λ b. MatchBool (if b then is_lt (int_cmp (count_of counter) top) else false)
    (CountsIn task mid counter top (sequence task.schema) (Ok next))
    (◌≡◌ {A = Result Trees (Option Error)} (Ok next) (Ok mid))) counted h in
    elim (cases_Bool (is_lt (int_cmp (count_of counter) top))) [
      | inl less ↦ counts_kept task keys inert mid next seq counter top
          (subst (λ o. CountsIn task mid counter top o (Ok next)) known (rw less at it)) t has apart
      | inr not_less ↦ ap (λ (d : Trees). d t.tree) (same_value (rw not_less at it))
    ]

-- ---- what is left alone

abbrev pub task_on : State → Row → Table → Task
task_on old params t = record {
  limit = old.step_limit;
  keys = Enforced;
  schema = old.now.schema;
  table = t;
  params = params;
}

pub unlike : (a b : List ℕ) → is_other a b ≡ true → a ≢ b
unlike a b h same = absurd (let e = rw ((bytes_eq-Decides a b).1 same) at h in cc)

-- two tables that the schema finds, and that have different names, have different trees
pub apart_in : (schema : Schema) (at be : ℕ) (t u : Table) → HasTable schema at t → HasTable schema be u
    → is_other t.name u.name ≡ true → t.tree ≢ u.tree
apart_in schema at be t u h k other same =
    let both : Some t ≡ Some u = sym h.by_tree ∙ rw same k.by_tree in
    unlike t.name u.name other (ap (λ (x : Table). x.name) (same_some both))

pub is_in : (schema : Schema) (at : ℕ) (t : Table) → HasTable schema at t → Has schema.tables t
is_in schema at t h = has_got schema.tables at t h.there

-- ---- a statement inside a transaction

-- it makes its change, or after an error none
pub writes_inside : (Changes : Database → Database → Type 0) (text : List ℕ) (params : Row) (old new : State)
    → ((count : ℕ) → Executes text params old new (Ok count) → Changes old.now new.now)
    → (r : Result ℕ Error) → ExecutesInside 0 text params old new r → WritesInside Changes old new r
writes_inside Changes text params old new made (Ok count) h = (h.1, made count h.0)
writes_inside Changes text params old new made (Err e) (inl ran) = ran.1
writes_inside Changes text params old new made (Err e) (inr ended) = inl ended.2
