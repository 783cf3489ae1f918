use Rattle.view_map.proofs.pieces.shape_box.Goals as goal

pub returns : goal.returns
returns c = rw (c.column_left.ensures.left, c.row_top.ensures.top) at c.box_text.ensures
