use Rattle.std.proofs.Common.{◌∙◌, sym, arith}
use Rattle.view_map.proofs.Finest.{large_below, none_small, small_below}
use Rattle.view_map.proofs.zooms.finest_small.Goals as goal

pub returns-then-is_small-clause-finest : goal.returns-then-is_small-clause-finest
returns-then-is_small-clause-finest c =
    small_below c.args.frame.now c.levels.level (omega arith) (sym c.is_small.ensures ∙ c.if-is_small.true)
    ∙ sym c.levels.invariant.finest

pub levels-preserved : goal.levels-preserved
levels-preserved c = record {
  within = omega arith;
  finest = c.levels.invariant.finest ∙ large_below c.args.frame.now c.levels.level (omega arith)
      (sym c.is_small.ensures ∙ c.if-is_small.false);
}

pub returns-clause-finest : goal.returns-clause-finest
returns-clause-finest c = sym (c.levels.invariant.finest ∙ none_small c.args.frame.now c.levels.level (omega arith))
