-- The head is no longer than what was gathered, and it and what follows are those of the connection.
use Rattle.std.proofs.Common.{arith, inr, rules}
use Rattle.desk_http.proofs.Barring.{bad_asked, barred_behind, nothing_asked}
use Rattle.desk_http.proofs.CommandFacts.{whole_asked}
use Rattle.desk_http.proofs.commands.read_whole.Goals as goal

pub read_rest-requires-clause-short : goal.read_rest-requires-clause-short
read_rest-requires-clause-short g c =
    let within = rw c.in-Head.is at c.in_ok-head.ensures.within in
    let fits = within.section.len_fits in
    let short = c.in_ok-head.ensures.short in
    omega arith

pub returns-in_ok-whole-in-Head-clause-passes : goal.returns-in_ok-whole-in-Head-clause-passes
returns-in_ok-whole-in-Head-clause-passes g c = record {
  some_key = c.in_ok-whole-in-Head.ensures.some_key;
  asks = whole_asked _ _ _ _ _ _ c.in-Head.head _ c.in_ok-head.ensures.taken
      (rw c.in-Head.is at c.in_ok-head.ensures.head) c.in_ok-whole-in-Head.ensures.asks;
}

pub returns-in_err-whole-in-Head-clause-none : goal.returns-in_err-whole-in-Head-clause-none
returns-in_err-whole-in-Head-clause-none g c =
    let barred = barred_behind _ _ _ _ _ _ c.in-Head.head _ c.in_ok-head.ensures.taken
    (rw c.in-Head.is at c.in_ok-head.ensures.head) c.in_err-whole-in-Head.ensures.none in
    search (rules, barred)

pub returns-in-Nothing-clause-none : goal.returns-in-Nothing-clause-none
returns-in-Nothing-clause-none g c =
    inr (nothing_asked _ _ _ (rw c.in-Nothing.is at c.in_ok-head.ensures.head))

pub returns-in-Bad-clause-none : goal.returns-in-Bad-clause-none
returns-in-Bad-clause-none g c = inr (bad_asked _ _ _ (rw c.in-Bad.is at c.in_ok-head.ensures.head))
