-- The text goes out in four pieces: its head, the rows of items as they are found, those of links, and its end.
use Rattle.std.proofs.Common.{◌∙◌, flat_map, subst}
use Rattle.std.specs.Io.KnownBytes.{Appends}
use Rattle.sheet_types.specs.World.{holdings}
use Rattle.view_export.specs.Exports.{export_text, items_behind, link_row, opening}
use Rattle.view_export.specs.Numbers.{no_counts}
use Rattle.manifest_csv.specs.Sent.{WentOut}
use Rattle.view_items.specs.Parts.{OfTold}
use Rattle.views.proofs.Beginnings.{all_sent, end_begun, head_begun, links_begun, none_sent, on_err, rows_begun}
use Rattle.views.proofs.by_items.send_by_items.Goals as goal

pub returns-in_err-numbers-clause-err : goal.returns-in_err-numbers-clause-err
returns-in_err-numbers-clause-err g c =
    let f = c.args.frame.now in
    on_err {P = OfTold g.S.Store c.args.package c.args.told.now c.args.world.now c.args.world.now
    (λ items. WentOut (g.W.Write.contents c.args.writer.now) (g.W.Write.contents c.args.writer.now)
    (export_text c.args.frame.now c.args.package c.args.ticket items c.args.links.now))} _ (λ clean w stands all.
    let items = (holdings w c.args.package).items in
    none_sent (opening f c.args.package c.args.ticket) (items_behind f no_counts items)
    (flat_map (link_row items) c.args.links.now) _)

pub returns-in_err-head-clause-err : goal.returns-in_err-head-clause-err
returns-in_err-head-clause-err g c =
    let f = c.args.frame.now in
    on_err {P = OfTold g.S.Store c.args.package c.args.told.now c.args.world.now c.args.world.now
    (λ items. WentOut (g.W.Write.contents c.args.writer.now) (g.W.Write.contents c.args.writer.now)
    (export_text c.args.frame.now c.args.package c.args.ticket items c.args.links.now))} _ (λ clean w stands all.
    let items = (holdings w c.args.package).items in
    none_sent (opening f c.args.package c.args.ticket) (items_behind f no_counts items)
    (flat_map (link_row items) c.args.links.now) _)

pub returns-in_err-send-clause-err : goal.returns-in_err-send-clause-err
returns-in_err-send-clause-err g c =
    let f = c.args.frame.now in
    on_err {P = OfTold g.S.Store c.args.package c.args.told.now c.args.world.now c.args.world.now
    (λ items. WentOut (g.W.Write.contents c.args.writer.now) (g.W.Write.contents c.send.new.writer)
    (export_text c.args.frame.now c.args.package c.args.ticket items c.args.links.now))} _ (λ clean w stands all.
    let items = (holdings w c.args.package).items in
    head_begun (opening f c.args.package c.args.ticket) (items_behind f no_counts items)
    (flat_map (link_row items) c.args.links.now) _ _
    (subst (WentOut _ _) (c.as_bytes.ensures.value ∙ c.in_ok-head.ensures) c.in_err-send.ensures.err))

pub returns-in_err-send_told-clause-err : goal.returns-in_err-send_told-clause-err
returns-in_err-send_told-clause-err g c =
    let f = c.args.frame.now in
    on_err {P = OfTold g.S.Store c.args.package c.args.told.now c.args.world.now c.send_told.new.world
    (λ items. WentOut (g.W.Write.contents c.args.writer.now) (g.W.Write.contents c.send_told.new.writer)
    (export_text c.args.frame.now c.args.package c.args.ticket items c.args.links.now))} _ (λ clean w stands all.
    let items = (holdings w c.args.package).items in
    rows_begun (opening f c.args.package c.args.ticket) (items_behind f no_counts items)
    (flat_map (link_row items) c.args.links.now) _ _ _
    (subst (Appends _ _) (c.as_bytes.ensures.value ∙ c.in_ok-head.ensures) c.in_ok-send.ensures.ok)
    (c.in_err-send_told.ensures.err clean w stands all))

pub returns-in_err-send_links-clause-err : goal.returns-in_err-send_links-clause-err
returns-in_err-send_links-clause-err g c =
    let f = c.args.frame.now in
    on_err {P = OfTold g.S.Store c.args.package c.args.told.now c.args.world.now c.send_told.new.world
    (λ items. WentOut (g.W.Write.contents c.args.writer.now) (g.W.Write.contents c.send_links.new.writer)
    (export_text c.args.frame.now c.args.package c.args.ticket items c.args.links.now))} _ (λ clean w stands all.
    let items = (holdings w c.args.package).items in
    links_begun (opening f c.args.package c.args.ticket) (items_behind f no_counts items)
    (flat_map (link_row items) c.args.links.now) _ _ _ _
    (subst (Appends _ _) (c.as_bytes.ensures.value ∙ c.in_ok-head.ensures) c.in_ok-send.ensures.ok)
    (c.in_ok-send_told.ensures.ok clean w stands all)
    (c.in_err-send_links.ensures.err items (c.in_ok-numbers.ensures items all)))

pub returns-in_err-send-2-clause-err : goal.returns-in_err-send-2-clause-err
returns-in_err-send-2-clause-err g c =
    let f = c.args.frame.now in
    on_err {P = OfTold g.S.Store c.args.package c.args.told.now c.args.world.now c.send_told.new.world
    (λ items. WentOut (g.W.Write.contents c.args.writer.now) (g.W.Write.contents c.send-2.new.writer)
    (export_text c.args.frame.now c.args.package c.args.ticket items c.args.links.now))} _ (λ clean w stands all.
    let items = (holdings w c.args.package).items in
    end_begun (opening f c.args.package c.args.ticket) (items_behind f no_counts items)
    (flat_map (link_row items) c.args.links.now) _ _ _ _ _
    (subst (Appends _ _) (c.as_bytes.ensures.value ∙ c.in_ok-head.ensures) c.in_ok-send.ensures.ok)
    (c.in_ok-send_told.ensures.ok clean w stands all)
    (c.in_ok-send_links.ensures.ok items (c.in_ok-numbers.ensures items all))
    (subst (WentOut _ _) (c.as_bytes-2.ensures.value ∙ c.closing.ensures) c.in_err-send-2.ensures.err))

pub returns-clause-ok : goal.returns-clause-ok
returns-clause-ok g c = λ clean w stands all.
    let f = c.args.frame.now in
    let items = (holdings w c.args.package).items in
    all_sent (opening f c.args.package c.args.ticket) (items_behind f no_counts items)
    (flat_map (link_row items) c.args.links.now) _ _ _ _ _
    (subst (Appends _ _) (c.as_bytes.ensures.value ∙ c.in_ok-head.ensures) c.in_ok-send.ensures.ok)
    (c.in_ok-send_told.ensures.ok clean w stands all)
    (c.in_ok-send_links.ensures.ok items (c.in_ok-numbers.ensures items all))
    (subst (Appends _ _) (c.as_bytes-2.ensures.value ∙ c.closing.ensures) c.in_ok-send-2.ensures.ok)

pub returns-clause-opens : goal.returns-clause-opens
returns-clause-opens g c = c.in_ok-send_told.ensures.opens
