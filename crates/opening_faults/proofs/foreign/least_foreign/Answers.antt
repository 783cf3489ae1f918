-- What is not at home under the archive is foreign.
use Rattle.std.proofs.Common.{sym}
use Rattle.sheet_types.specs.Opening.{IsLeast, IsNever}
use Rattle.opening_faults.specs.Foreign.{IsForeign}
use Rattle.opening_faults.specs.Sights.{ForeignFrame}
use Rattle.opening_faults.proofs.Apart.{least_foreign_is, never_foreign_is, some_weaker, none_weaker}
use Rattle.opening_faults.proofs.foreign.least_foreign.Goals as goal

pub returns-in_ok-least-in-Some-clause-some : goal.returns-in_ok-least-in-Some-clause-some
returns-in_ok-least-in-Some-clause-some c =
    some_weaker (IsLeast (IsForeign c.in-Some.root.now c.args.sights.now c.args.splits.now))
    (IsLeast (ForeignFrame c.args.sights.now)) c.in_ok-least-in-Some.least
    (least_foreign_is c.args.sights.now c.args.splits.now c.requires c.in-Some.root.now (sym c.in-Some.ensures))
    c.in_ok-least-in-Some.ensures.some

pub returns-in_ok-least-in-Some-clause-none : goal.returns-in_ok-least-in-Some-clause-none
returns-in_ok-least-in-Some-clause-none c =
    none_weaker (IsNever (IsForeign c.in-Some.root.now c.args.sights.now c.args.splits.now))
    (IsNever (ForeignFrame c.args.sights.now)) c.in_ok-least-in-Some.least
    (never_foreign_is c.args.sights.now c.args.splits.now c.requires c.in-Some.root.now (sym c.in-Some.ensures))
    c.in_ok-least-in-Some.ensures.none
