-- Something comes nearest to the first word; or the second is asked.
use Rattle.std.proofs.Common.{◌∙◌, sym, Option}
use Rattle.sheet_types.specs.World.{World}
use Rattle.world.specs.Worlds.{StandsFor}
use Rattle.command_names.specs.declared.hints.Hint.{Hint}
use Rattle.command_names.specs.declared.hints.Whose.TheVariants.{Item}
use Rattle.command_searches.specs.Hints.{IsEitherHint, IsHintOf}
use Rattle.command_requests.proofs.Untouched.{stands_after}
use Rattle.command_searches.proofs.Either.{clean_before, if_ok_so, untouched_both}
use Rattle.command_searches.proofs.hints.either_hint.Goals as goal

pub returns-then-has_hint-clause-told : goal.returns-then-has_hint-clause-told
returns-then-has_hint-clause-told g c = λ clean w stands. (
  c.in_ok-found.found,
  c.in_ok-found.ensures.told clean w stands,
  rw (sym c.has_hint.ensures ∙ c.if-has_hint.true)
      c.hint_of.ensures,
)

pub returns-clause-read : goal.returns-clause-read
returns-clause-read g c =
    untouched_both g.S.Store c.args.world.now c.found_item.new.world c.item_hint.new.world c.in_ok-found.ensures.read
    c.item_hint.ensures.read

pub returns-clause-told : goal.returns-clause-told
returns-clause-told g c = λ clean.
    let mid = clean_before g.S.Store c.found_item.new.world c.item_hint.new.world c.item_hint.ensures.read clean in
    if_ok_so (λ (hint : Option Hint). (w : World) → StandsFor g.S.Store c.found_item.new.world w
    → IsHintOf Item w c.args.second hint)
    (λ (hint : Option Hint). (w : World) → StandsFor g.S.Store c.args.world.now w
    → IsEitherHint w c.args.first c.args.second hint)
    c.item_hint.result
    (λ hint it w stands.
    let now = stands_after g.S.Store c.args.world.now c.found_item.new.world c.in_ok-found.ensures.read w stands in (
      c.in_ok-found.found,
      c.in_ok-found.ensures.told mid w stands,
      rw (sym c.has_hint.ensures ∙ c.if-has_hint.false)
          (it w now),
    ))
    (c.item_hint.ensures.told clean)
