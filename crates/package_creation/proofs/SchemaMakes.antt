-- Statements that make a schema, one after the other.
use Rattle.std.proofs.Common.{◌≡◌, inl, inr, ℕ, ◌+◌, ◌<◌, List, [], ◌∷◌, drop, length, get_or}
use Rattle.std.proofs.Common.{map, true, Ok, Err}
use Rattle.std.proofs.Common.{Result, IfErr, IsErrAnd, IsTrue, IsUtf8, ◌≤◌, refl, sym, ap, subst, ◌∙◌}
use Rattle.std.proofs.Common.{arith}
use Rattle.std.proofs.lemmas.List.{drop_more, drop-map}
use Rattle.std.proofs.lemmas.Bool.{false_from_ne_true, both_ways}
use Rattle.sqlite_trees.specs.declared.error.StoreError.{StoreError}
use Rattle.sqlite_trees.specs.declared.error.StoreError.TheVariants.{OutOfMemory, Io, Corrupt, Full, Broken, Unstorable}
use Rattle.store_sql.proofs.Making.{table_fails, index_fails}
use Rattle.sqlite.specs.Schema.{Schema}
use Rattle.sqlite.specs.declared.error.Error.{Error}
use Rattle.sqlite.specs.Effect.{Database, IsDatabase}
use Rattle.sqlite.specs.State.{State, HasCleanDisk, Shows, Fails, HasCause, KeepsCommit, Survives, ExecutesInside}
use Rattle.sqlite.proofs.InsideLemmas.{keeps_then}
use Rattle.sqlite.proofs.StateLemmas.{survives_then}
use Rattle.store_sql.specs.Known.{HasTable}
use Rattle.store_sql.specs.Blank.{IsFree, IsBlank}
use Rattle.store_sql.specs.Writing.{WritesInside}
use Rattle.store_sql.proofs.Create.{grown_inside}
use Rattle.store_sql.proofs.Indexes.{makes_index, index_sound, blank_after}
use Rattle.package_tables.specs.SchemaMaking.{ExtendsBy, Made, FailsInside, FailsToMake, FailsToMakeBy}

one_made : (old new : State) (text : List ℕ) (count : ℕ) → ExecutesInside 0 text [] old new (Ok count)
    → Made text old.now new.now
one_made old new text count h first last (inl it) blank =
    let grown = (grown_inside old new text (Ok count) h).1 in (
      subst (λ (s : Schema). IsBlank s new.now) (sym it.4) (grown.0 first it.0 it.1 it.2 blank),
      grown.1 first
          it.0 it.1 it.2 blank,
    )
one_made old new text count h first last (inr it) blank =
    let has = subst (λ (s : Schema). HasTable s it.0 it.1) (sym blank.is) it.4 in
    let free = subst (λ (s : Schema). IsFree s it.2.name) (sym blank.is) it.5 in
    let made = makes_index old new text it.3.0 it.3.1 it.0 it.1 it.2 count it.3.2 has free h.0 in (
      subst (λ (s : Schema). IsBlank s new.now) (sym it.7) (blank_after first it.1 it.2 old.now new.now blank made),
      index_sound old new text it.3.0 it.3.1 it.0 it.1 it.2 count it.3.2 has free h.0,
    )

pub made_inside : (old new : State) (text : List ℕ) (r : Result ℕ Error) → ExecutesInside 0 text [] old new r
    → WritesInside (Made text) old new r
made_inside old new text (Ok count) h = (h.1, one_made old new text count h)
made_inside old new text (Err e) (inl h) = h.1
made_inside old new text (Err e) (inr h) = inl h.2

failed_inside : (old new : State) (e : Error) → Fails old new ⊥ e → FailsInside old new e
failed_inside old new e h = record {
  cause = h.0;
  named = h.1;
  because = h.2;
  told = h.4;
  ended = h.3.autocommit;
  undone = λ is_open. (h.3.was_open is_open, (h.3.undone is_open).0, (h.3.undone is_open).1);
}

pub make_failed : (old new : State) (text : List ℕ) (is_text : IsUtf8 text) (r : Result ℕ Error)
    → ExecutesInside 0 text [] old new r → IfErr r (FailsToMake text old new)
make_failed old new text is_text (Ok count) h = tt
make_failed old new text is_text (Err e) h = λ first last extends blank. elim extends [
  | inl it ↦ failed_inside old new e (table_fails old new text first it.0 it.1 it.2 it.3 blank is_text e h)
  | inr it ↦ failed_inside old new e (index_fails old new text first it.0 it.1 it.2 it.3 it.4 it.5 it.6 blank is_text
      e h)
]

-- where the first texts have been run
pub record Along (texts : List (List ℕ)) (done : ℕ) (old now : State) : Type 0 where
  pub kept : HasCleanDisk now → KeepsCommit old now
  pub survives : Survives old now (λ _. ⊥)
  pub inside : HasCleanDisk now → old.in_transaction ≡ true → now.in_transaction ≡ true
  pub stays_open : HasCleanDisk now → old.in_transaction ≡ true → IsTrue old.is_open → IsTrue now.is_open
  pub shown : 0 < done → HasCleanDisk now → old.in_transaction ≡ true → Shows old now now.now old.committed true
  pub left : HasCleanDisk now → old.in_transaction ≡ true → (first last : Schema) → ExtendsBy texts first last
      → IsBlank first old.now
      → (mid : Schema) × IsBlank mid now.now × ExtendsBy (drop done texts) mid last
      × (0 < done → IsDatabase now.now)

shows_on : (old mid new : State) → KeepsCommit old mid → Shows mid new new.now mid.committed true
    → Shows old new new.now old.committed true
shows_on old mid new kept shown = record {
  was_open = kept.was_open shown.was_open;
  is_open = shown.is_open;
  now_is = refl;
  committed_is = shown.committed_is ∙ kept.committed shown.was_open;
  mode = shown.mode;
}

left_on : (texts : List (List ℕ)) (done : ℕ) (mid new : Database) (text : List ℕ) (last : Schema)
    → drop done texts ≡ text ∷ drop (done + 1) texts
    → (s : Schema) × IsBlank s mid × ExtendsBy (drop done texts) s last × (0 < done → IsDatabase mid)
    → Made text mid new
    → (s : Schema) × IsBlank s new × ExtendsBy (drop (done + 1) texts) s last × (0 < done + 1 → IsDatabase new)
left_on texts done mid new text last next left made =
    let more : ExtendsBy (text ∷ drop (done + 1) texts) left.0 last =
    subst (λ some. ExtendsBy some left.0 last) next left.2 in
    let both = made left.0 more.0 more.1 left.1 in (more.0, both.0, more.2, λ _. both.1)

pub along_step : (texts : List (List ℕ)) (done : ℕ) (old mid new : State) (text : List ℕ)
    → drop done texts ≡ text ∷ drop (done + 1) texts → Along texts done old mid
    → (HasCleanDisk new → mid.in_transaction ≡ true → WritesInside {X = Unit {0}} (Made text) mid new (Ok tt))
    → (HasCleanDisk new → KeepsCommit mid new) → Survives mid new (λ _. ⊥) → Along texts (done + 1) old new
along_step texts done old mid new text next so made kept survives =
    let was = λ (clean : HasCleanDisk new). let before : HasCleanDisk mid =
    omega (arith, survives.clean, clean) in before in
    let ran = λ (clean : HasCleanDisk new) (inside : old.in_transaction ≡ true). made clean
    (so.inside (was clean) inside) in record {
      kept = λ clean. keeps_then old mid new (so.kept (was clean)) (kept clean);
      survives = survives_then old mid new _ _ (λ _. ⊥) (λ _ _ none. none) (λ _ _ none. none) so.survives survives;
      inside = λ clean inside. (ran clean inside).0.mode;
      stays_open = λ clean inside _. (ran clean inside).0.is_open;
      shown = λ _ clean inside. shows_on old mid new (so.kept (was clean)) (ran clean inside).0;
      left = λ clean inside first last plan blank. left_on texts done mid.now new.now text last next
          (so.left (was clean) inside first last plan blank) (ran clean inside).1;
    }

-- the rest of a list, one item on
pub mapped_more : {X Y : Type 0} (f : X → Y) (xs : List X) (i : ℕ) (d : X) → i < length xs
    → drop i (map f xs) ≡ f (get_or xs i d) ∷ drop (i + 1) (map f xs)
mapped_more f xs i d within = drop-map f i xs ∙ ap (map f) (drop_more xs i d within)
    ∙ ap (λ more. f (get_or xs i d) ∷ more) (sym (drop-map f (i + 1) xs))

-- a cause is one since an earlier state too
cause_since : (old mid new : State) (cause : StoreError) → old.faults ≤ mid.faults
    → (IsTrue old.is_open → IsTrue mid.is_open) → HasCause mid new ⊥ cause → HasCause old new ⊥ cause
cause_since old mid new OutOfMemory counts stays h = h
cause_since old mid new Io counts stays h = omega (arith, counts, h)
cause_since old mid new Corrupt counts stays h = omega (arith, counts, h)
cause_since old mid new Full counts stays h = omega (arith, counts, h)
cause_since old mid new Broken counts stays h = false_from_ne_true old.is_open
    (λ was. both_ways mid.is_open h (stays was))
cause_since old mid new Unstorable counts stays h = h

pub along_failed : (texts : List (List ℕ)) (done : ℕ) (old mid new : State) (text : List ℕ) (e : Error)
    → drop done texts ≡ text ∷ drop (done + 1) texts → Along texts done old mid → HasCleanDisk mid
    → old.in_transaction ≡ true
    → FailsToMake text mid new e → FailsToMakeBy texts old new e
along_failed texts done old mid new text e next so clean inside fails first last plan blank =
    let left = so.left clean inside first last plan blank in
    let more : ExtendsBy (text ∷ drop (done + 1) texts) left.0 last =
    subst (λ some. ExtendsBy some left.0 last) next left.2 in
    let it = fails left.0 more.0 more.1 left.1 in
    let kept = so.kept clean in record {
      cause = it.cause;
      named = it.named;
      because = cause_since old mid new it.cause so.survives.counts (so.stays_open clean inside) it.because;
      told = it.told;
      ended = it.ended;
      undone = λ is_open. let was = it.undone is_open in (
        kept.was_open was.0,
        was.1 ∙ kept.committed was.0,
        was.2
            ∙ kept.committed was.0,
      );
    }

-- an error that `?` passes on
pub passed_on : (r : Result (Unit {0}) Error) (e : Error) → IsErrAnd r (λ x. x ≡ e) → r ≡ Err e
passed_on (Ok done) e h = absurd h
passed_on (Err x) e h = ap Err h
