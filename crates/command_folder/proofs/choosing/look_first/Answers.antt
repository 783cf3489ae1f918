-- The first of the stores was just opened.
use Rattle.std.specs.Prelude.{◌≡◌, ◌==◌, ◌<◌, ℕ, zero, suc, false, length, Result, Ok, Err, Option}
use Rattle.std.specs.Prelude.{Some, None, IfOk}
use Rattle.std.specs.Prelude.{IfSome}
use Rattle.std.proofs.Common.{◌∙◌, sym, subst, arith, vec_len}
use Rattle.std.proofs.lemmas.Bool.{true≢false}
use Rattle.sqlite.specs.Held.{state}
use Rattle.store_folder.specs.Opened.{IsJustOpened}
use Rattle.command_folder.proofs.choosing.look_first.Goals as goal

seen_so : {X E : Type 0} (P Q : X → Type 0) (r : Result (Option X) E) → ((x : X) → P x → Q x)
    → IfOk r (λ o. IfSome o P) → IfOk r (λ o. IfSome o Q)
seen_so P Q (Ok (Some x)) f h = f x h
seen_so P Q (Ok None) f h = tt
seen_so P Q (Err e) f h = tt

some : (n : ℕ) → (n == 0) ≡ false → 0 < n
some zero h = absurd (true≢false h)
some (suc n) h = omega arith

pub returns : goal.returns
returns g c =
    let first = c.index_mut.result.now in
    let not_none : 0 < vec_len c.args.stores = some (vec_len c.args.stores)
    (sym c.is_empty.ensures ∙ c.if-is_empty.false) in
    let there : 0 < length c.args.stores.items = omega (arith, not_none, c.args.stores.ok.0) in
    let opened : IsJustOpened (state g.S.Store first) = subst (λ h. IsJustOpened (state g.S.Store h))
    (sym c.index_mut.ensures.value) (c.requires 0 first there) in
    seen_so _ _ c.look_into-seen.result (λ sight is. (first, c.look_into-seen.new.conn, opened, is))
    c.look_into-seen.ensures
