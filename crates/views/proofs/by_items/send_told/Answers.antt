-- The rows so far went out, then those of the item that was found.
use Rattle.std.proofs.Common.{◌≡◌, ◌∙◌, ◌+◌, ◌≤◌, ap, arith, length, subst, sym}
use Rattle.std.specs.Io.KnownBytes.{Appends}
use Rattle.sheet_types.specs.World.{holdings}
use Rattle.view_export.specs.Exports.{item_rows, items_behind}
use Rattle.view_export.specs.Numbers.{count_of, next_number, no_counts}
use Rattle.view_items.specs.Parts.{OfTold}
use Rattle.views.specs.Written.{Began}
use Rattle.view_items.proofs.Found.{all_past, item_here}
use Rattle.views.proofs.Beginnings.{began_before, began_within, on_err, sent_too}
use Rattle.views.proofs.Rows.{counted_more, counted_within, items_left, items_more, items_split}
use Rattle.views.proofs.Untouched.{stands_after, untouched_then}
use Rattle.views.proofs.by_items.send_told.Goals as goal

pub returns-in_err-item-clause-read : goal.returns-in_err-item-clause-read
returns-in_err-item-clause-read g c = untouched_then g.S.Store c.args.world.now c.loop-moved.world c.item_in.new.world
    c.loop-moved.invariant.read c.in_err-item.ensures.read

pub returns-in_err-rows-clause-read : goal.returns-in_err-rows-clause-read
returns-in_err-rows-clause-read g c = untouched_then g.S.Store c.args.world.now c.loop-moved.world c.item_in.new.world
    c.loop-moved.invariant.read c.in_ok-item.ensures.read

pub returns-in_err-send-clause-read : goal.returns-in_err-send-clause-read
returns-in_err-send-clause-read g c = untouched_then g.S.Store c.args.world.now c.loop-moved.world c.item_in.new.world
    c.loop-moved.invariant.read c.in_ok-item.ensures.read

pub returns-in_err-item-clause-err : goal.returns-in_err-item-clause-err
returns-in_err-item-clause-err g c =
    let f = c.args.frame.now in
    let i = c.loop-moved.moved-index in
    on_err {P = OfTold g.S.Store c.args.package c.args.told.now c.args.world.now c.item_in.new.world
    (λ items. Began (g.W.Write.contents c.args.writer.now) (g.W.Write.contents c.loop-moved.writer)
    (items_behind c.args.frame.now no_counts items))} _ (λ clean w stands all.
    let items = (holdings w c.args.package).items in
    began_before _ _ _ _ (items_left f items i) (items_split f items i)
    (c.loop-moved.invariant.sent (c.in_err-item.ensures.read.clean clean) w stands all).1)

pub returns-in_err-rows-clause-err : goal.returns-in_err-rows-clause-err
returns-in_err-rows-clause-err g c =
    let f = c.args.frame.now in
    let i = c.loop-moved.moved-index in
    on_err {P = OfTold g.S.Store c.args.package c.args.told.now c.args.world.now c.item_in.new.world
    (λ items. Began (g.W.Write.contents c.args.writer.now) (g.W.Write.contents c.loop-moved.writer)
    (items_behind c.args.frame.now no_counts items))} _ (λ clean w stands all.
    let items = (holdings w c.args.package).items in
    began_before _ _ _ _ (items_left f items i) (items_split f items i)
    (c.loop-moved.invariant.sent (c.in_ok-item.ensures.read.clean clean) w stands all).1)

pub returns-in_err-send-clause-err : goal.returns-in_err-send-clause-err
returns-in_err-send-clause-err g c =
    let f = c.args.frame.now in
    let i = c.loop-moved.moved-index in
    let item = c.in_ok-item.item in
    let counts = c.loop-moved.counts in
    let number : c.of_kind.result ≡ next_number counts item.content =
    c.of_kind.ensures ∙ ap (λ k. count_of k item.content) c.count_content-counts.ensures in
    let made : c.as_bytes.result.now ≡ item_rows f c.of_kind.result item =
    c.as_bytes.ensures.value ∙ c.in_ok-rows.ensures in
    on_err {P = OfTold g.S.Store c.args.package c.args.told.now c.args.world.now c.item_in.new.world
    (λ items. Began (g.W.Write.contents c.args.writer.now) (g.W.Write.contents c.send.new.writer)
    (items_behind c.args.frame.now no_counts items))} _ (λ clean w stands all.
    let items = (holdings w c.args.package).items in
    let now = stands_after g.S.Store c.args.world.now c.loop-moved.world c.loop-moved.invariant.read w stands in
    let so_far = c.loop-moved.invariant.sent (c.in_ok-item.ensures.read.clean clean) w stands all in
    let here = item_here (holdings w c.args.package) c.args.told.now i c.moved-item.result item all
    c.loop-moved-test.true c.moved-item.is (c.in_ok-item.ensures.told clean w now) in
    began_within _ _ _ _ _ _ _ _ (items_left f items (i + 1)) (made ∙ ap (λ n. item_rows f n item) number)
    (items_more f items i item counts here.0 here.1 so_far.0) (items_split f items (i + 1)) so_far.1
    c.in_err-send.ensures.err)

pub loop-moved-preserved : goal.loop-moved-preserved
loop-moved-preserved g c =
    let f = c.args.frame.now in
    let i = c.loop-moved.moved-index in
    let item = c.in_ok-item.item in
    let counts = c.loop-moved.counts in
    let inv = c.loop-moved.invariant in
    let made_of = c.count_content-counts.ensures in
    let within = counted_within counts item.content i inv.tiles inv.media inv.rows in
    let number : c.of_kind.result ≡ next_number counts item.content =
    c.of_kind.ensures ∙ ap (λ k. count_of k item.content) made_of in
    let made : c.as_bytes.result.now ≡ item_rows f c.of_kind.result item =
    c.as_bytes.ensures.value ∙ c.in_ok-rows.ensures in
    record {
      read = untouched_then g.S.Store c.args.world.now c.loop-moved.world c.item_in.new.world inv.read
          c.in_ok-item.ensures.read;
      opens = λ clean was_open. c.in_ok-item.ensures.opens clean
          (inv.opens (c.in_ok-item.ensures.read.clean clean) was_open);
      tiles = subst (λ k. k.tiles ≤ i + 1) (sym made_of) within.0;
      media = subst (λ k. k.media ≤ i + 1) (sym made_of) within.1;
      rows = subst (λ k. k.rows ≤ i + 1) (sym made_of) within.2;
      sent = λ clean w stands all.
          let items = (holdings w c.args.package).items in
          let now = stands_after g.S.Store c.args.world.now c.loop-moved.world inv.read w stands in
          let so_far = inv.sent (c.in_ok-item.ensures.read.clean clean) w stands all in
          let here = item_here (holdings w c.args.package) c.args.told.now i c.moved-item.result item all
          c.loop-moved-test.true c.moved-item.is (c.in_ok-item.ensures.told clean w now) in (
            made_of ∙ counted_more items i item counts here.0 here.1 so_far.0,
            sent_too _ _ _ _ _ _ _ (made ∙ ap (λ n. item_rows f n item) number)
                (items_more f items i item counts here.0 here.1 so_far.0) so_far.1 c.in_ok-send.ensures.ok,
          );
    }

pub returns-clause-ok : goal.returns-clause-ok
returns-clause-ok g c = λ clean w stands all.
    let items = (holdings w c.args.package).items in
    let past : length c.args.told.now ≤ c.loop-moved.moved-index = omega (arith, c.loop-moved-test.false) in
    subst (λ is. Appends (g.W.Write.contents c.args.writer.now) (g.W.Write.contents c.loop-moved.writer)
    (items_behind c.args.frame.now no_counts is))
    (all_past items c.args.told.now c.loop-moved.moved-index all past)
    (c.loop-moved.invariant.sent clean w stands all).1

pub returns-clause-opens : goal.returns-clause-opens
returns-clause-opens g c = c.loop-moved.invariant.opens
