-- CREATE on a database without rows, where nothing refuses it.
use Rattle.std.proofs.Common.{◌≡◌, inl, inr, ℕ, ◌≤◌, List, [], length, true, Option, None, Ok, Err}
use Rattle.std.proofs.Common.{IsUtf8, MatchBool, refl, sym, ap, subst, ◌∙◌}
use Rattle.std.proofs.lemmas.Bool.{cases_Bool, leb-true}
use Rattle.std.proofs.lemmas.Str.{IsUtf8-from_is_utf8}
use Rattle.std.specs.Prelude.{⊤}
use Rattle.std.specs.List.{AllByRecursion}
use Rattle.std.specs.Str.{is_utf8, chars}
use Rattle.sqlite_syntax.specs.declared.statement.Parsed.{Parsed}
use Rattle.sqlite_resolve.specs.Compile.{first, table_defined_by, index_defined_by}
use Rattle.sqlite_rules.proofs.ListLemmas.{all_has}
use Rattle.sqlite.specs.Order.{Row}
use Rattle.sqlite.specs.Table.{Table}
use Rattle.sqlite.specs.Schema.{Schema}
use Rattle.sqlite_schema.specs.declared.schema.Index.{Index}
use Rattle.sqlite.specs.Command.TheVariants.{CreateTable, CreateIndex}
use Rattle.sqlite.specs.Change.{created}
use Rattle.sqlite.specs.Does.{Does, MakesSequence, lacks_sequence, sequence_text}
use Rattle.sqlite.specs.declared.run.Mode.{Mode}
use Rattle.sqlite.specs.Effect.{Database}
use Rattle.sqlite.specs.declared.error.Error.{Error}
use Rattle.sqlite.specs.State.{State, Fails, ExecutesInside, mode_of}
use Rattle.store_sql.specs.Known.{HasTable, counters}
use Rattle.store_sql.specs.Blank.{MakesText, IsFree, IsBlank}
use Rattle.store_sql.specs.Index.{MakesIndexText}
use Rattle.store_sql.specs.Certain.{IsAlone, FitsTable, FitsGrown, FitsIndex}
use Rattle.store_sql.proofs.Resolve.{understood_is}
use Rattle.store_sql.proofs.Writes.{same_value, is_in}
use Rattle.store_sql.proofs.Create.{creates_in, defined_by, sequence_defined}
use Rattle.store_sql.proofs.Indexes.{indexes_in, index_defined}
use Rattle.store_sql.proofs.Certainty.{table_made, index_made}
use Rattle.store_sql.proofs.Failing.{IsOrdinary, fails_alone}

table_ordinary : IsOrdinary CreateTable
table_ordinary = record {
  begins = λ e. cc;
  commits = λ e. cc;
  rolls_back = λ e. cc;
  releases = λ name e. cc;
  returns = λ name e. cc;
}

index_ordinary : (at : ℕ) → IsOrdinary (CreateIndex at)
index_ordinary at = record {
  begins = λ e. cc;
  commits = λ e. cc;
  rolls_back = λ e. cc;
  releases = λ name e. cc;
  returns = λ name e. cc;
}

-- the statement is the one that the text was parsed as
is_alone : (text : List ℕ) (p : Parsed) → first text ≡ Ok p → IsAlone text → (p.names ≡ [])
    × (length text ≤ p.tail)
is_alone text p parsed alone = let same : alone.statement ≡ p =
    same_value (sym alone.parsed ∙ parsed) in (rw same at alone.names, rw same at (leb-true _ _ alone.whole))

sequence_is_text : is_utf8 sequence_text ≡ true
unfolding is_utf8 chars lib.Utf8.encode
sequence_is_text = refl

sequence_made : (schema : Schema) (t : Table) → MatchBool (lacks_sequence (created schema t))
    (FitsTable (created schema t) sequence_text (counters 0)) ⊤ → (mid : Database)
    → mid.schema ≡ created schema t → (stop : Option Error)
    → MakesSequence mid (Err stop) → ⊥
sequence_made schema t fits mid is stop h = elim (cases_Bool (lacks_sequence (created schema t))) [
  | inl some ↦ table_made (created schema t) sequence_text (counters 0) (rw some at fits) sequence_defined
      (IsUtf8-from_is_utf8 sequence_text sequence_is_text) mid is stop (rw (is, some) at h)
  | inr none ↦ absurd (let e = rw (is, none) at h in cc)
]

table_does : (schema : Schema) (text : List ℕ) (t : Table) → FitsGrown schema text t
    → table_defined_by text ≡ Ok t → IsUtf8 text → (db : Database) → db.schema ≡ schema
    → (limit : Option ℕ) (mode : Mode) (params : Row) (stop : Option Error)
    → Does limit mode params db text None CreateTable (Err stop) → ⊥
table_does schema text t fits known is_text db is limit mode params stop
    (inl (why, inl (first_why, made, same), told)) = table_made schema text t fits.table known is_text db is first_why
    made
table_does schema text t fits known is_text db is limit mode params stop (inl (why, inr (mid, made, counts), told)) =
    let here : made.table ≡ t = same_value (sym made.defined ∙ known) in
    sequence_made schema t fits.sequence mid (made.is ∙ ap (created db.schema) here
    ∙ ap (λ (s : Schema). created s t) is) why counts
table_does schema text t fits known is_text db is limit mode params stop (inr given) = absurd (let e = given.2 in cc)

pub table_fails : (old new : State) (text : List ℕ) (S : Schema) (t : Table) → MakesText text t
    → IsFree S t.name → FitsGrown S text t → IsBlank S old.now → IsUtf8 text → (e : Error)
    → ExecutesInside 0 text [] old new (Err e)
    → Fails old new ⊥ e
table_fails old new text S t (p, def, it) free fits blank is_text e h =
    let alone = is_alone text p it.parsed fits.alone in
    let here = subst (λ (s : Schema). IsFree s def.name) (sym blank.is) (subst (IsFree S) (sym it.name) free) in
    let known = (understood_is old.now.schema text _ (creates_in old.now.schema text p def t it here)).0 in
    fails_alone old new text p CreateTable known alone.0 alone.1 it.whole table_ordinary refl
    (λ params stop. table_does S text t fits (defined_by text p def t it) is_text old.now blank.is old.step_limit
    (mode_of old) params stop) e h

index_does : (text : List ℕ) (at : ℕ) (t : Table) (i : Index) (db : Database) → HasTable db.schema at t
    → FitsIndex db.schema text t i → index_defined_by t text ≡ Ok i → IsUtf8 text
    → AllByRecursion (λ (u : Table). db.trees u.tree ≡ []) db.schema.tables
    → (limit : Option ℕ) (mode : Mode) (params : Row) (stop : Option Error)
    → Does limit mode params db text None (CreateIndex at) (Err stop) → ⊥
index_does text at t i db has fits known is_text blank limit mode params stop h =
    let empty : db.trees t.tree ≡ [] = all_has (λ (u : Table). db.trees u.tree ≡ []) db.schema.tables t blank
    (is_in db.schema at t has) in
    elim (rw has.there at h) [
      | inl stopped ↦ index_made db.schema text t i fits known db.trees blank empty is_text stopped.0 stopped.1
      | inr given ↦ absurd (let e = given.2 in cc)
    ]

pub index_fails : (old new : State) (text : List ℕ) (S : Schema) (at : ℕ) (t : Table) (i : Index)
    → MakesIndexText text t i → HasTable S at t → IsFree S i.name → FitsIndex S text t i → IsBlank S old.now
    → IsUtf8 text → (e : Error)
    → ExecutesInside 0 text [] old new (Err e) → Fails old new ⊥ e
index_fails old new text S at t i (p, def, it) has free fits blank is_text e h =
    let alone = is_alone text p it.parsed fits.alone in
    let back = sym blank.is in
    let here = subst (λ (s : Schema). IsFree s def.name) back (subst (IsFree S) (sym it.name) free) in
    let found = subst (λ (s : Schema). HasTable s at t) back has in
    let known = (understood_is old.now.schema text _ (indexes_in old.now.schema text p def at t i it found here)).0 in
    fails_alone old new text p (CreateIndex at) known alone.0 alone.1 it.whole (index_ordinary at) refl
    (λ params stop. index_does text at t i old.now found (subst (λ (s : Schema). FitsIndex s text t i) back fits)
    (index_defined text p def t i it) is_text (subst (λ (s : Schema). AllByRecursion
    (λ (u : Table). old.now.trees u.tree ≡ []) s.tables) back blank.empty)
    old.step_limit (mode_of old) params stop) e h
