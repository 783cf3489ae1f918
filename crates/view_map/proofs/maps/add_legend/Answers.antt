use Rattle.std.proofs.Common.{◌∙◌, arith}
use Rattle.view_map.proofs.Texts.{legend_done, legend_more}
use Rattle.view_map.proofs.maps.add_legend.Goals as goal

pub loop-index-preserved : goal.loop-index-preserved
loop-index-preserved c =
    legend_more c.args.layout.now c.args.holders.now c.loop-index.index c.index-holders-index.result _ _ _ _
    c.loop-index-test.true c.index-holders-index.is
    (c.as_str.ensures.value ∙ c.in_ok-line.ensures) c.in_ok-push_str.ensures.bytes c.loop-index.invariant

pub returns : goal.returns
returns c = legend_done c.args.layout.now c.args.holders.now c.loop-index.index _ _ (omega arith) c.loop-index.invariant
