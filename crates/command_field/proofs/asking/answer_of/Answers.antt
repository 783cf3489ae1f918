-- The package is not live; or its file was answered.
use Rattle.std.proofs.Common.{◌≡◌, Some, inl, inr, refl, rules}
use Rattle.sheet_types.specs.Answers.{holdings_answer}
use Rattle.world.specs.Worlds.{StandsFor}
use Rattle.command_requests.proofs.Untouched.{clean_before, untouched_both}
use Rattle.command_field.proofs.Told.{told_text}
use Rattle.command_field.proofs.asking.answer_of.Goals as goal

pub returns-in_default-clause-told : goal.returns-in_default-clause-told
returns-in_default-clause-told g c = λ clean w stands.
    let none = rw c.in_default.is at c.in_ok-ticket.ensures.none in
    inl (refl, none w stands)

pub returns-clause-told : goal.returns-clause-told
returns-clause-told g c = λ clean.
    let some = rw c.in-Some.is at c.in_ok-ticket.ensures.some in
    let before = clean_before g.S.Store c.holdings.new.self c.answer_listed.new.world c.answer_listed.ensures.read
    clean in
    told_text (StandsFor g.S.Store c.args.world.now) (StandsFor g.S.Store c.holdings.new.self)
    c.args.ask.now c.in-Some.ticket (c.as_slice.result.now, c.as_slice-2.result.now)
    (g.R.Read.remaining c.args.reader) c.answer_listed.result
    (λ w stands.
    let seen = some w stands in
    let told = c.in_ok-items.ensures.told before w stands in
    let found : Some (c.as_slice.result.now, c.as_slice-2.result.now) ≡ holdings_answer w c.args.ask.now.«package» =
    search rules in
    record { live = seen.0; last = seen.1; holdings = found })
    (λ w stands. c.in_ok-items.ensures.read.stands w stands)
    (c.answer_listed.ensures.told clean)

pub returns-clause-read : goal.returns-clause-read
returns-clause-read g c =
    untouched_both g.S.Store c.args.world.now c.holdings.new.self c.answer_listed.new.world
    (inr c.in_ok-items.ensures.read) c.answer_listed.ensures.read
