-- The body is what was gathered behind the head.
use Rattle.std.proofs.Common.{◌+◌, ◌<◌, inr, length, rules}
use Rattle.std.specs.Io.KnownBytes.{IsAtEnd}
use Rattle.desk_http.proofs.Barring.{body_lacks}
use Rattle.desk_http.proofs.CommandFacts.{body_gathered}
use Rattle.desk_http.proofs.commands.read_rest.Goals as goal

pub returns-clause-asks : goal.returns-clause-asks
returns-clause-asks g c = λ h at.
    let passes = (rw c.as_slice.ensures.value at c.in_ok-size.ensures.passes) h at in
    body_gathered _ _ _ _ _ _ c.args.head.len c.in_ok-size.size h c.in_ok-gather_body.ensures.taken
    c.requires.within.section.len_fits (search rules) passes

pub returns-then-not-branch-clause-none : goal.returns-then-not-branch-clause-none
returns-then-not-branch-clause-none g c = inr (λ h at.
    let passes = (rw c.as_slice.ensures.value at c.in_ok-size.ensures.passes) h at in
    let short : length c.gather_body.new.input.items < c.args.head.len + c.in_ok-size.size = search rules in
    let end : IsAtEnd (g.R.Source.remaining c.gather_body.new.source) = search rules in
    body_lacks _ _ _ _ _ _ c.args.head.len c.in_ok-size.size h c.in_ok-gather_body.ensures.taken
    c.requires.within.section.len_fits short end passes)
