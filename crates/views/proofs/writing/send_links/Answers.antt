-- The rows so far went out, then that of the link.
use Rattle.std.proofs.Common.{◌∙◌, ◌+◌, List, drop, flat_map}
use Rattle.sheet_types.specs.declared.command.Item.{Item}
use Rattle.view_export.specs.Exports.{link_row}
use Rattle.view_export.specs.Numbers.{AreNumbersOf}
use Rattle.views.specs.Written.{Began}
use Rattle.views.proofs.Beginnings.{began_before, began_within, on_err, sent_too}
use Rattle.views.proofs.Rows.{links_more, links_split}
use Rattle.views.proofs.writing.send_links.Goals as goal

pub returns-in_err-row-clause-err : goal.returns-in_err-row-clause-err
returns-in_err-row-clause-err g c =
    let i = c.loop-link.link-index in
    let links = c.args.links.now in
    let begun : (items : List Item) → AreNumbersOf c.args.numbers.now items
    → Began (g.W.Write.contents c.args.writer.now) (g.W.Write.contents c.loop-link.writer)
    (flat_map (link_row items) links) =
    λ items are. began_before _ _ _ _ (flat_map (link_row items) (drop i links)) (links_split items links i)
    (c.loop-link.invariant items are) in
    on_err _ begun

pub returns-in_err-send-clause-err : goal.returns-in_err-send-clause-err
returns-in_err-send-clause-err g c =
    let i = c.loop-link.link-index in
    let links = c.args.links.now in
    let begun : (items : List Item) → AreNumbersOf c.args.numbers.now items
    → Began (g.W.Write.contents c.args.writer.now) (g.W.Write.contents c.send.new.writer)
    (flat_map (link_row items) links) =
    λ items are. began_within _ _ _ _ _ _ _ _ (flat_map (link_row items) (drop (i + 1) links))
    (c.as_bytes.ensures.value ∙ c.in_ok-row.ensures items are)
    (links_more items links i c.link-item.result c.loop-link-test.true c.link-item.is)
    (links_split items links (i + 1)) (c.loop-link.invariant items are) c.in_err-send.ensures.err in
    on_err _ begun

pub loop-link-preserved : goal.loop-link-preserved
loop-link-preserved g c = λ items are.
    let links = c.args.links.now in
    sent_too _ _ _ _ _ _ _ (c.as_bytes.ensures.value ∙ c.in_ok-row.ensures items are)
    (links_more items links c.loop-link.link-index c.link-item.result c.loop-link-test.true c.link-item.is)
    (c.loop-link.invariant items are) c.in_ok-send.ensures.ok
