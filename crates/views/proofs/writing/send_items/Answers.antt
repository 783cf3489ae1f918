-- The rows so far went out, then those of the item.
use Rattle.std.proofs.Common.{◌≡◌, ◌∙◌, ◌+◌, ◌≤◌, ap, subst, sym}
use Rattle.view_export.specs.Exports.{item_rows}
use Rattle.view_export.specs.Numbers.{count_of, next_number}
use Rattle.views.proofs.Beginnings.{began_before, began_within, on_err, sent_too}
use Rattle.views.proofs.Rows.{counted_more, counted_within, items_left, items_more, items_split}
use Rattle.views.proofs.writing.send_items.Goals as goal

pub returns-in_err-rows-clause-err : goal.returns-in_err-rows-clause-err
returns-in_err-rows-clause-err g c =
    let f = c.args.frame.now in
    let items = c.args.items.now in
    let i = c.loop-item.item-index in
    on_err _ (began_before _ _ _ _ (items_left f items i) (items_split f items i) c.loop-item.invariant.out)

pub returns-in_err-send-clause-err : goal.returns-in_err-send-clause-err
returns-in_err-send-clause-err g c =
    let f = c.args.frame.now in
    let items = c.args.items.now in
    let i = c.loop-item.item-index in
    let item = c.item-item.result in
    let counts = c.loop-item.counts in
    let number : c.of_kind.result ≡ next_number counts item.content =
    c.of_kind.ensures ∙ ap (λ k. count_of k item.content) c.count_content-counts.ensures in
    let made : c.as_bytes.result.now ≡ item_rows f c.of_kind.result item =
    c.as_bytes.ensures.value ∙ c.in_ok-rows.ensures in
    on_err _ (began_within _ _ _ _ _ _ _ _ (items_left f items (i + 1)) (made ∙ ap (λ n. item_rows f n item) number)
    (items_more f items i item counts c.loop-item-test.true c.item-item.is c.loop-item.invariant.counted)
    (items_split f items (i + 1))
    c.loop-item.invariant.out c.in_err-send.ensures.err)

pub loop-item-preserved : goal.loop-item-preserved
loop-item-preserved g c =
    let f = c.args.frame.now in
    let items = c.args.items.now in
    let i = c.loop-item.item-index in
    let item = c.item-item.result in
    let counts = c.loop-item.counts in
    let so_far = c.loop-item.invariant in
    let here = c.count_content-counts.ensures in
    let within = counted_within counts item.content i so_far.tiles so_far.media so_far.rows in
    let number : c.of_kind.result ≡ next_number counts item.content =
    c.of_kind.ensures ∙ ap (λ k. count_of k item.content) here in
    let made : c.as_bytes.result.now ≡ item_rows f c.of_kind.result item =
    c.as_bytes.ensures.value ∙ c.in_ok-rows.ensures in
    record {
      tiles = subst (λ k. k.tiles ≤ i + 1) (sym here) within.0;
      media = subst (λ k. k.media ≤ i + 1) (sym here) within.1;
      rows = subst (λ k. k.rows ≤ i + 1) (sym here) within.2;
      counted = here ∙ counted_more items i item counts c.loop-item-test.true c.item-item.is so_far.counted;
      out = sent_too _ _ _ _ _ _ _ (made ∙ ap (λ n. item_rows f n item) number)
          (items_more f items i item counts c.loop-item-test.true c.item-item.is so_far.counted) so_far.out
          c.in_ok-send.ensures.ok;
    }
