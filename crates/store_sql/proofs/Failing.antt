-- A statement that nothing refuses fails only where the store does.
use Rattle.std.proofs.Common.{◌≡◌, ◌≢◌, inl, inr, ℕ, ◌≤◌, List, [], length, slice_range, false}
use Rattle.std.proofs.Common.{Option, None, Some, Ok, Err, refl, sym, ap, subst, ◌∙◌}
use Rattle.sqlite_syntax.specs.declared.statement.Parsed.{Parsed}
use Rattle.sqlite_trees.specs.declared.error.StoreError.{StoreError}
use Rattle.sqlite_trees.specs.declared.error.StoreError.TheVariants.{OutOfMemory, Io, Corrupt, Full, Broken, Unstorable}
use Rattle.sqlite.specs.Order.{Row}
use Rattle.sqlite.specs.Command.{Command}
use Rattle.sqlite.specs.Command.TheVariants.{Begin, Commit, Rollback, Release, RollbackTo}
use Rattle.sqlite_resolve.specs.declared.compiled.Compiled.{Compiled}
use Rattle.sqlite_resolve.specs.Compile.{with_command}
use Rattle.sqlite.specs.Listing.{understood}
use Rattle.sqlite.specs.Clock.{timed}
use Rattle.sqlite.specs.Does.{Does}
use Rattle.sqlite.specs.declared.error.Error.{Error}
use Rattle.sqlite.specs.State.{State, mode_of, Fails, HasCause, IsMisplaced, Escapes, IsNotRun, IsNoStatement}
use Rattle.sqlite.specs.State.{RunsCommand, RunsAlone, ExecutesIn, ExecutesInside, EndsScope, shows_rows}
use Rattle.store_sql.proofs.Writes.{same_value}

-- the command neither begins nor ends a transaction or a savepoint
pub record IsOrdinary (command : Command) : Type 0 where
  pub begins : command ≢ Begin
  pub commits : command ≢ Commit
  pub rolls_back : command ≢ Rollback
  pub releases : (name : List ℕ) → command ≢ Release name
  pub returns : (name : List ℕ) → command ≢ RollbackTo name

misplaced : (s : State) (command : Command) → IsOrdinary command → (e : Error) → IsMisplaced s command e → ⊥
misplaced s command it e (inl (is, inl begun)) = it.begins begun.0
misplaced s command it e (inl (is, inr (inl commits, mode))) = it.commits commits
misplaced s command it e (inl (is, inr (inr rolls, mode))) = it.rolls_back rolls
misplaced s command it e (inr (is, name, inl releases, unnamed)) = it.releases name releases
misplaced s command it e (inr (is, name, inr returns, unnamed)) = it.returns name returns

escapes : (s : State) (command : Command) → IsOrdinary command → Escapes 0 s command → ⊥
escapes s command it (inl (inl commits)) = it.commits commits
escapes s command it (inl (inr rolls)) = it.rolls_back rolls
escapes s command it (inr (name, inl releases, held)) = it.releases name releases
escapes s command it (inr (name, inr returns, held)) = it.returns name returns

-- no row is too big to be stored
causes : (old new : State) (too_big : Type 0) → (too_big → ⊥) → (cause : StoreError)
    → HasCause old new too_big cause → HasCause old new ⊥ cause
causes old new too_big none OutOfMemory h = h
causes old new too_big none Io h = h
causes old new too_big none Corrupt h = h
causes old new too_big none Full h = h
causes old new too_big none Broken h = h
causes old new too_big none Unstorable h = none h

fails_for : (old new : State) (too_big : Type 0) (e : Error) → (too_big → ⊥) → Fails old new too_big e
    → Fails old new ⊥ e
fails_for old new too_big e none h = (h.0, h.1, causes old new too_big none h.0 h.2, h.3, h.4)

module _ (old new : State) (text : List ℕ) (p : Parsed) (command : Command)
    (known : understood old.now.schema text ≡ Ok (with_command p ([], (command, None)))) (names : p.names ≡ [])
    (tail : length text ≤ p.tail)
    (whole : slice_range text p.start p.end ≡ text) (ordinary : IsOrdinary command)
    (quiet : shows_rows false (with_command p ([], (command, None))) ≡ false)
    (made : (params : Row) (stop : Option Error) → Does old.step_limit (mode_of old) params old.now text None
    command (Err stop) → ⊥) where
  is_known : (c : Compiled) → understood old.now.schema text ≡ Ok c → c ≡ with_command p ([], (command, None))
  is_known c is = same_value (sym is ∙ known)

  no_statement : (e : Error) → IsNoStatement old text [] e → ⊥
  no_statement e (inl bad) = absurd (let e = sym known ∙ bad.1 in cc)
  no_statement e (inr (c, is, inl (more, told))) = more (rw (is_known c is) tail)
  no_statement e (inr (c, is, inr (inl (count, told)))) = count (rw (is_known c is, names) refl)
  no_statement e (inr (c, is, inr (inr (formats, told)))) = formats (ap (λ (c : Compiled). c.formats) (is_known c is))

  ran : (e : Error) (c : Compiled) (params : Row) → understood old.now.schema text ≡ Ok c
      → RunsAlone false old new text c params (Err e) → Fails old new ⊥ e
  ran e c params is h =
      let here = subst (λ (c : Compiled). RunsAlone false old new text c params (Err e)) (is_known c is) h in
      let told : RunsCommand old new text (with_command p ([], (command, None))) params (Err e) = rw quiet at here in
      elim (rw whole at told) [
        | inl (inl placed, same) ↦ absurd (misplaced old command ordinary e placed)
        | inl (inr does, same) ↦ absurd (made params (Some e) does.1)
        | inr fails ↦ fails_for old new _ e (made params None) fails
      ]

  executed : (e : Error) → ExecutesIn false text [] old new (Err e) → Fails old new ⊥ e
  unfolding ExecutesIn IsNotRun
  executed e (inl (inl refused)) = absurd (no_statement e refused.0)
  executed e (inl (inr fails)) = fails
  executed e (inr (c, it, alone)) = ran e c (timed [] c.formats it.now) it.is alone

  pub fails_alone : (e : Error) → ExecutesInside 0 text [] old new (Err e) → Fails old new ⊥ e
  unfolding EndsScope
  fails_alone e (inl h) = executed e h.0
  fails_alone e (inr h) = absurd (let c = h.0.0 in escapes old command ordinary
      (subst (λ k. Escapes 0 old k) (ap (λ (c : Compiled). c.command) (is_known c h.0.1.is)) h.0.2))
