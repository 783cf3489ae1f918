-- A sheet is drawn over those of its place that came before.
use Rattle.std.proofs.Common.{◌∙◌, arith, take}
use Rattle.view_map.specs.Layout.{is_on}
use Rattle.view_map.proofs.Drawing.{column_on, counted_next, item_passes, layer_bound, layer_next, numbers_of, row_on}
use Rattle.view_map.proofs.Drawing.{shape_more, shapes_done}
use Rattle.view_map.proofs.maps.add_shapes.Goals as goal

pub shape_text-requires-clause-column : goal.shape_text-requires-clause-column
shape_text-requires-clause-column c =
    column_on c.args.layout.now _ (item_passes (λ s. is_on c.args.layout.now s.place) c.args.sheets.now
    c.loop-sheet.sheet-index c.sheet-item.result c.loop-sheet-test.true c.sheet-item.is c.requires.places)

pub shape_text-requires-clause-row : goal.shape_text-requires-clause-row
shape_text-requires-clause-row c =
    row_on c.args.layout.now _ (item_passes (λ s. is_on c.args.layout.now s.place) c.args.sheets.now
    c.loop-sheet.sheet-index c.sheet-item.result c.loop-sheet-test.true c.sheet-item.is c.requires.places)

pub shape_text-requires-clause-layer : goal.shape_text-requires-clause-layer
shape_text-requires-clause-layer c =
    let below = numbers_of c.args.layout.now (take c.loop-sheet.sheet-index c.args.sheets.now) in
    let is = layer_next c.loop-sheet.layers below c.args.layout.now c.sheet-item.result c.number.result
    c.in_ok-layer.layer c.number.ensures c.loop-sheet.invariant.counted c.in_ok-layer.ensures.layer in
    rw is (layer_bound below _)

pub loop-sheet-preserved : goal.loop-sheet-preserved
loop-sheet-preserved c =
    let below = numbers_of c.args.layout.now (take c.loop-sheet.sheet-index c.args.sheets.now) in
    let is = layer_next c.loop-sheet.layers below c.args.layout.now c.sheet-item.result c.number.result
    c.in_ok-layer.layer c.number.ensures c.loop-sheet.invariant.counted c.in_ok-layer.ensures.layer in
    record {
      counted = counted_next c.loop-sheet.layers c.add_layer.new.layers c.args.layout.now c.args.sheets.now
          c.loop-sheet.sheet-index c.sheet-item.result c.number.result c.in_ok-layer.layer
          c.loop-sheet-test.true c.sheet-item.is c.number.ensures c.loop-sheet.invariant.counted
          c.in_ok-layer.ensures.layer c.in_ok-layer.ensures.counted;
      text = shape_more c.args.layout.now c.args.zoom c.args.sheets.now c.loop-sheet.sheet-index c.sheet-item.result
          c.in_ok-layer.layer _ _ _ _
          c.loop-sheet-test.true c.sheet-item.is is (c.as_str.ensures.value ∙ c.in_ok-shape.ensures)
          c.in_ok-push_str.ensures.bytes c.loop-sheet.invariant.text;
    }

pub returns : goal.returns
returns c = shapes_done c.args.layout.now c.args.zoom c.args.sheets.now c.loop-sheet.sheet-index _ _ _ (omega arith)
    c.loop-sheet.invariant.text
