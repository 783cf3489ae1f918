-- The text goes out in four pieces: its head, the rows of items, those of links, and its end.
use Rattle.std.proofs.Common.{◌∙◌, flat_map, subst}
use Rattle.std.specs.Io.KnownBytes.{Appends}
use Rattle.view_export.specs.Exports.{items_behind, link_row, opening}
use Rattle.view_export.specs.Numbers.{no_counts}
use Rattle.manifest_csv.specs.Sent.{WentOut}
use Rattle.views.proofs.Beginnings.{all_sent, end_begun, head_begun, links_begun, none_sent, on_err, rows_begun}
use Rattle.views.proofs.writing.send_export.Goals as goal

pub returns-in_err-numbers-clause-err : goal.returns-in_err-numbers-clause-err
returns-in_err-numbers-clause-err g c =
    let f = c.args.frame.now in
    let items = c.args.items.now in
    on_err _ (none_sent (opening f c.args.package c.args.ticket) (items_behind f no_counts items)
    (flat_map (link_row items) c.args.links.now) _)

pub returns-in_err-head-clause-err : goal.returns-in_err-head-clause-err
returns-in_err-head-clause-err g c =
    let f = c.args.frame.now in
    let items = c.args.items.now in
    on_err _ (none_sent (opening f c.args.package c.args.ticket) (items_behind f no_counts items)
    (flat_map (link_row items) c.args.links.now) _)

pub returns-in_err-send-clause-err : goal.returns-in_err-send-clause-err
returns-in_err-send-clause-err g c =
    let f = c.args.frame.now in
    let items = c.args.items.now in
    on_err _ (head_begun (opening f c.args.package c.args.ticket) (items_behind f no_counts items)
    (flat_map (link_row items) c.args.links.now) _ _
    (subst (WentOut _ _) (c.as_bytes.ensures.value ∙ c.in_ok-head.ensures) c.in_err-send.ensures.err))

pub returns-in_err-send_items-clause-err : goal.returns-in_err-send_items-clause-err
returns-in_err-send_items-clause-err g c =
    let f = c.args.frame.now in
    let items = c.args.items.now in
    on_err _ (rows_begun (opening f c.args.package c.args.ticket) (items_behind f no_counts items)
    (flat_map (link_row items) c.args.links.now) _ _ _
    (subst (Appends _ _) (c.as_bytes.ensures.value ∙ c.in_ok-head.ensures) c.in_ok-send.ensures.ok)
    c.in_err-send_items.ensures.err)

pub returns-in_err-send_links-clause-err : goal.returns-in_err-send_links-clause-err
returns-in_err-send_links-clause-err g c =
    let f = c.args.frame.now in
    let items = c.args.items.now in
    on_err _ (links_begun (opening f c.args.package c.args.ticket) (items_behind f no_counts items)
    (flat_map (link_row items) c.args.links.now) _ _ _ _
    (subst (Appends _ _) (c.as_bytes.ensures.value ∙ c.in_ok-head.ensures) c.in_ok-send.ensures.ok)
    c.in_ok-send_items.ensures.ok
    (c.in_err-send_links.ensures.err items c.in_ok-numbers.ensures))

pub returns-in_err-send-2-clause-err : goal.returns-in_err-send-2-clause-err
returns-in_err-send-2-clause-err g c =
    let f = c.args.frame.now in
    let items = c.args.items.now in
    on_err _ (end_begun (opening f c.args.package c.args.ticket) (items_behind f no_counts items)
    (flat_map (link_row items) c.args.links.now) _ _ _ _ _
    (subst (Appends _ _) (c.as_bytes.ensures.value ∙ c.in_ok-head.ensures) c.in_ok-send.ensures.ok)
    c.in_ok-send_items.ensures.ok
    (c.in_ok-send_links.ensures.ok items c.in_ok-numbers.ensures)
    (subst (WentOut _ _) (c.as_bytes-2.ensures.value ∙ c.closing.ensures) c.in_err-send-2.ensures.err))

pub returns-clause-ok : goal.returns-clause-ok
returns-clause-ok g c =
    let f = c.args.frame.now in
    let items = c.args.items.now in
    all_sent (opening f c.args.package c.args.ticket) (items_behind f no_counts items)
    (flat_map (link_row items) c.args.links.now) _ _ _ _ _
    (subst (Appends _ _) (c.as_bytes.ensures.value ∙ c.in_ok-head.ensures) c.in_ok-send.ensures.ok)
    c.in_ok-send_items.ensures.ok
    (c.in_ok-send_links.ensures.ok items c.in_ok-numbers.ensures)
    (subst (Appends _ _) (c.as_bytes-2.ensures.value ∙ c.closing.ensures) c.in_ok-send-2.ensures.ok)
