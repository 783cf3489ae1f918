-- What CREATE TABLE makes of a schema that is not written out.
use Rattle.std.proofs.Common.{◌≡◌, inl, inr, ℕ, List, [], true, false, None, Ok, Err, Result, refl, sym, ap}
use Rattle.std.proofs.Common.{subst, ◌∙◌}
use Rattle.sqlite_ast.specs.declared.CreateTable.{CreateTable as Written}
use Rattle.sqlite_syntax.specs.declared.statement.Parsed.{Parsed}
use Rattle.sqlite.specs.Table.{Table}
use Rattle.sqlite.specs.Schema.{Schema}
use Rattle.sqlite.specs.Command.TheVariants.{CreateTable}
use Rattle.sqlite.specs.Compile.{table_defined_by}
use Rattle.sqlite_resolve.specs.Compile.{compiled, planned, meaning, timed, returning, command, create_table, creates}
use Rattle.sqlite_resolve.specs.Compile.{is_attached, with_command, table_in}
use Rattle.sqlite.specs.Listing.{understood}
use Rattle.sqlite.specs.Effect.{Database, IsDatabase}
use Rattle.sqlite.specs.Change.{created, next_tree, KeepsRows}
use Rattle.sqlite.specs.Does.{Tally, lacks_sequence, MakesSequence, MakesTable, Defines, sequence_text}
use Rattle.sqlite.specs.Rows.{Then}
use Rattle.sqlite.specs.declared.run.Mode.{Mode}
use Rattle.sqlite_catalog.specs.Calls.{CreatesTable}
use Rattle.sqlite_tied.specs.Compute.{everything}
use Rattle.store_sql.specs.Known.{counters}
use Rattle.store_sql.specs.Blank.{Makes, MakesText, IsFree, Created, IsBlank, Grows, GrowsSoundly}
use Rattle.store_sql.specs.Writing.{WritesInside}
use Rattle.store_sql.proofs.Resolve.{understood_is}
use Rattle.store_sql.proofs.Writes.{went, same_value}
use Rattle.sqlite.specs.declared.error.Error.{Error}
use Rattle.std.proofs.lemmas.Bool.{cases_Bool}
use Rattle.sqlite_trees.proofs.ListLemmas.{all-append, all_both}
use Rattle.sqlite.specs.State.{ExecutesInside}
use Rattle.sqlite.specs.State.{State, Writes, Executes, mode_of}
use Rattle.sqlite.proofs.Callers.{IsPlain, command_of, statement_of, runs_as}

pub creates_in : (schema : Schema) (text : List ℕ) (p : Parsed) (def : Written) (t : Table) → Makes text p def t
    → IsFree schema def.name → compiled schema text ≡ Ok (with_command p ([], (CreateTable, None)))
unfolding compiled planned meaning timed returning command create_table creates is_attached
creates_in schema text p def t it free = rw (
  it.parsed,
  it.statement,
  free.view,
  it.free,
  free.index,
  free.table,
  it.defined,
  it.fits,
) refl

pub defined_by : (text : List ℕ) (p : Parsed) (def : Written) (t : Table) → Makes text p def t
    → table_defined_by text ≡ Ok t
unfolding table_defined_by table_in
defined_by text p def t it = rw (it.parsed, it.statement, it.defined) refl

made_of : (old new : Database) (text : List ℕ) (t : Table) (tally : Tally) (mode : Mode)
    → table_defined_by text ≡ Ok t → Defines mode (Then (MakesTable text old) MakesSequence) (Ok (tally, new))
    → (mid : Database) × Created t old mid × MakesSequence mid (Ok new)
made_of old new text t tally mode known h =
    let all = went h in
    let first = went all.1 in
    let made = first.1 in
    let same : made.table ≡ t = same_value (sym made.defined ∙ known) in
    let now : new ≡ all.0 = ap (λ (p : Tally × Database). p.1) (same_value all.2) in (
      first.0,
      record { schema = made.is ∙ ap (created old.schema) same; empty = made.empty; rows = made.others },
      subst (λ d. MakesSequence first.0 (Ok d)) (sym now) first.2,
    )

-- with no count to make
pub plain_of : (mid new : Database) → lacks_sequence mid.schema ≡ false → MakesSequence mid (Ok new)
    → new ≡ mid
plain_of mid new none h = same_value (rw none at h)

pub sequence_defined : table_defined_by sequence_text ≡ Ok (counters 0)
unfolding understood everything
sequence_defined = refl

-- the first table that counts brings the table of the counts
pub counted_of : (mid new : Database) → lacks_sequence mid.schema ≡ true → MakesSequence mid (Ok new)
    → Created (counters 0) mid new
counted_of mid new some h =
    let made : CreatesTable mid.schema sequence_text mid.trees new.schema new.trees = rw some at h in
    let same : made.table ≡ counters 0 = same_value (sym made.defined ∙ sequence_defined) in
    record { schema = made.is ∙ ap (created mid.schema) same; empty = made.empty; rows = made.others }

pub makes : (old new : State) (text : List ℕ) (p : Parsed) (def : Written) (t : Table) (count : ℕ)
    → Makes text p def t → IsFree old.now.schema t.name → Executes text [] old new (Ok count)
    → (mid : Database) × Created t old.now mid × MakesSequence mid (Ok new.now)
makes old new text p def t count it free h =
    let known = (understood_is old.now.schema text _ (creates_in old.now.schema text p def t it
    (subst (IsFree old.now.schema) (sym it.name) free))).0 in
    let w = runs_as text [] old new old.now.schema refl CreateTable (ap command_of known)
    (subst IsPlain (sym known) (refl, refl)) count h in
    let here = subst (λ s. Writes old new None CreateTable s [] count) (ap (statement_of text) known ∙ it.whole) w in
    made_of old.now new.now text t here.tally (mode_of old) (defined_by text p def t it) here.changed

grows : (S : Schema) (t : Table) (old mid : Database) → IsBlank S old → Created t old mid
    → IsBlank (created S t) mid
grows S t old mid blank made = record {
  is = made.schema ∙ ap (λ (s : Schema). created s t) blank.is;
  empty = all-append (λ (u : Table). mid.trees u.tree ≡ []) S.tables _
      (all_both (λ (u : Table). old.trees u.tree ≡ []) (λ (u : Table). mid.trees u.tree ≡ old.trees u.tree)
      (λ (u : Table). mid.trees u.tree ≡ []) (λ u none same. same ∙ none) S.tables blank.empty
      (subst (λ (s : Schema). KeepsRows s.tables old.trees mid.trees) blank.is made.rows))
      (subst (λ (s : Schema). mid.trees (next_tree s) ≡ []) blank.is made.empty, tt);
}

pub whole : (old new : State) (text : List ℕ) (count : ℕ) → Executes text [] old new (Ok count)
    → Grows text old.now new.now
whole old new text count h S t it free blank =
    let made = makes old new text it.0 it.1 t count it.2 (subst (λ (s : Schema). IsFree s t.name) (sym blank.is)
    free) h in
    let first = grows S t old.now made.0 blank made.1 in
    elim (cases_Bool (lacks_sequence (created S t))) [
      | inl some ↦ rw some (grows (created S t) (counters 0) made.0 new.now first
          (counted_of made.0 new.now (ap lacks_sequence first.is ∙ some) made.2))
      | inr none ↦ rw none (subst (IsBlank (created S t)) (sym
          (plain_of made.0 new.now (ap lacks_sequence first.is ∙ none) made.2)) first)
    ]

sound_after : (old new : State) (text : List ℕ) (count : ℕ) → Executes text [] old new (Ok count)
    → (schema : Schema) (t : Table) → MakesText text t → IsFree schema t.name → IsBlank schema old.now
    → IsDatabase new.now
sound_after old new text count h schema t it free blank =
    let free_here = subst (λ (s : Schema). IsFree s t.name) (sym blank.is) free in
    let known = (understood_is old.now.schema text _ (creates_in old.now.schema text it.0 it.1 t it.2
    (subst (IsFree old.now.schema) (sym it.2.name) free_here))).0 in
    (runs_as text [] old new old.now.schema refl CreateTable (ap command_of known)
    (subst IsPlain (sym known) (refl, refl)) count h).sound

-- in a transaction, with what an error leaves
pub grown_inside : (old new : State) (text : List ℕ) (r : Result ℕ Error) → ExecutesInside 0 text [] old new r
    → WritesInside (GrowsSoundly text) old new r
grown_inside old new text (Ok count) h = (h.1, (whole old new text count h.0, sound_after old new text count h.0))
grown_inside old new text (Err e) (inl ran) = ran.1
grown_inside old new text (Err e) (inr ended) = inl ended.2
