use Rattle.std.proofs.Common.{◌∙◌, arith}
use Rattle.view_map.proofs.Texts.{sheets_done, sheets_more}
use Rattle.view_map.proofs.sheets.add_sheets.Goals as goal

pub loop-index-preserved : goal.loop-index-preserved
loop-index-preserved c =
    sheets_more c.args.layout.now c.args.loans c.args.holders.now c.loop-index.index c.index-holders-index.result _ _
    _ _ c.loop-index-test.true c.index-holders-index.is
    (c.as_slice.ensures.value ∙ c.in_ok-more.ensures) c.in_ok-extend_from_slice.ensures.items c.loop-index.invariant

pub returns : goal.returns
returns c = sheets_done c.args.layout.now c.args.loans c.args.holders.now c.loop-index.index _ _ (omega arith)
    c.loop-index.invariant
