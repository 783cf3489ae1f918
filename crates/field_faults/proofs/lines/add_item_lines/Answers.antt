-- One item more.
use Rattle.std.proofs.Common.{rules, ◌≡◌, ◌∙◌, ◌++◌, ap, take}
use Rattle.std.specs.Prelude.{string_bytes}
use Rattle.field_faults.specs.Lines.{line_for}
use Rattle.field_faults.proofs.Places.{lines_more, places_more}
use Rattle.field_faults.proofs.lines.add_item_lines.Goals as goal

pub loop-item-preserved : goal.loop-item-preserved
loop-item-preserved c =
    let f = c.args.judge.now.frame.now in
    let items = c.args.items.now in
    let i = c.loop-item.item-index in
    let h = c.item-item.result in
    let sent : string_bytes c.push_str.new.self ≡ string_bytes c.loop-item.text ++ string_bytes c.in_ok-line.line =
    search rules in
    record {
      lines = c.loop-item.invariant.lines ∙ lines_more f items i h c.loop-item-test.true c.item-item.is
          c.args.judge.now.items.now c.args.judge.now.more c.args.exported
          (string_bytes c.loop-item.text) (string_bytes c.push_str.new.self) (string_bytes c.in_ok-line.line) sent
          (c.in_ok-line.ensures
          ∙ ap (line_for h) (c.reason_in-reason.ensures (take i items) c.loop-item.invariant.places));
      places = places_more f items i h c.loop-item-test.true c.item-item.is c.loop-item.places
          c.note_place.new.places c.loop-item.invariant.places c.in_ok-note_place.ensures;
    }
