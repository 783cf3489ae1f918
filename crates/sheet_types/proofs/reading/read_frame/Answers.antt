-- Where a number is missing, so is the frame.
use Rattle.sheet_types.proofs.Commas.{no_frame, none_first, none_last, none_rest}
use Rattle.sheet_types.proofs.reading.read_frame.Goals as goal

pub returns-in_err-min_x-clause-none : goal.returns-in_err-min_x-clause-none
returns-in_err-min_x-clause-none c =
    no_frame c.from_residual-in_err-min_x.result c.args.text.now
    (none_rest 9 c.in_ok-srs_id.srs_id c.args.text.now c.in_ok-srs_id.text.now c.in_ok-srs_id.ensures.some
    (none_first 8 c.in_ok-srs_id.text.now c.in_err-min_x.ensures.none))

pub returns-in_err-min_y-clause-none : goal.returns-in_err-min_y-clause-none
returns-in_err-min_y-clause-none c =
    no_frame c.from_residual-in_err-min_y.result c.args.text.now
    (none_rest 9 c.in_ok-srs_id.srs_id c.args.text.now c.in_ok-srs_id.text.now c.in_ok-srs_id.ensures.some
    (none_rest 8 c.in_ok-min_x.min_x c.in_ok-srs_id.text.now c.in_ok-min_x.text.now c.in_ok-min_x.ensures.some
    (none_first 7 c.in_ok-min_x.text.now c.in_err-min_y.ensures.none)))

pub returns-in_err-max_x-clause-none : goal.returns-in_err-max_x-clause-none
returns-in_err-max_x-clause-none c =
    no_frame c.from_residual-in_err-max_x.result c.args.text.now
    (none_rest 9 c.in_ok-srs_id.srs_id c.args.text.now c.in_ok-srs_id.text.now c.in_ok-srs_id.ensures.some
    (none_rest 8 c.in_ok-min_x.min_x c.in_ok-srs_id.text.now c.in_ok-min_x.text.now c.in_ok-min_x.ensures.some
    (none_rest 7 c.in_ok-min_y.min_y c.in_ok-min_x.text.now c.in_ok-min_y.text.now c.in_ok-min_y.ensures.some
    (none_first 6 c.in_ok-min_y.text.now c.in_err-max_x.ensures.none))))

pub returns-in_err-max_y-clause-none : goal.returns-in_err-max_y-clause-none
returns-in_err-max_y-clause-none c =
    no_frame c.from_residual-in_err-max_y.result c.args.text.now
    (none_rest 9 c.in_ok-srs_id.srs_id c.args.text.now c.in_ok-srs_id.text.now c.in_ok-srs_id.ensures.some
    (none_rest 8 c.in_ok-min_x.min_x c.in_ok-srs_id.text.now c.in_ok-min_x.text.now c.in_ok-min_x.ensures.some
    (none_rest 7 c.in_ok-min_y.min_y c.in_ok-min_x.text.now c.in_ok-min_y.text.now c.in_ok-min_y.ensures.some
    (none_rest 6 c.in_ok-max_x.max_x c.in_ok-min_y.text.now c.in_ok-max_x.text.now c.in_ok-max_x.ensures.some
    (none_first 5 c.in_ok-max_x.text.now c.in_err-max_y.ensures.none)))))

pub returns-in_err-tile_width-clause-none : goal.returns-in_err-tile_width-clause-none
returns-in_err-tile_width-clause-none c =
    no_frame c.from_residual-in_err-tile_width.result c.args.text.now
    (none_rest 9 c.in_ok-srs_id.srs_id c.args.text.now c.in_ok-srs_id.text.now c.in_ok-srs_id.ensures.some
    (none_rest 8 c.in_ok-min_x.min_x c.in_ok-srs_id.text.now c.in_ok-min_x.text.now c.in_ok-min_x.ensures.some
    (none_rest 7 c.in_ok-min_y.min_y c.in_ok-min_x.text.now c.in_ok-min_y.text.now c.in_ok-min_y.ensures.some
    (none_rest 6 c.in_ok-max_x.max_x c.in_ok-min_y.text.now c.in_ok-max_x.text.now c.in_ok-max_x.ensures.some
    (none_rest 5 c.in_ok-max_y.max_y c.in_ok-max_x.text.now c.in_ok-max_y.text.now c.in_ok-max_y.ensures.some
    (none_first 4 c.in_ok-max_y.text.now c.in_err-tile_width.ensures.none))))))

pub returns-in_err-tile_height-clause-none : goal.returns-in_err-tile_height-clause-none
returns-in_err-tile_height-clause-none c =
    no_frame c.from_residual-in_err-tile_height.result c.args.text.now
    (none_rest 9 c.in_ok-srs_id.srs_id c.args.text.now c.in_ok-srs_id.text.now c.in_ok-srs_id.ensures.some
    (none_rest 8 c.in_ok-min_x.min_x c.in_ok-srs_id.text.now c.in_ok-min_x.text.now c.in_ok-min_x.ensures.some
    (none_rest 7 c.in_ok-min_y.min_y c.in_ok-min_x.text.now c.in_ok-min_y.text.now c.in_ok-min_y.ensures.some
    (none_rest 6 c.in_ok-max_x.max_x c.in_ok-min_y.text.now c.in_ok-max_x.text.now c.in_ok-max_x.ensures.some
    (none_rest 5 c.in_ok-max_y.max_y c.in_ok-max_x.text.now c.in_ok-max_y.text.now c.in_ok-max_y.ensures.some
    (none_rest 4 c.in_ok-tile_width.tile_width c.in_ok-max_y.text.now c.in_ok-tile_width.text.now
    c.in_ok-tile_width.ensures.some (none_first 3 c.in_ok-tile_width.text.now
    c.in_err-tile_height.ensures.none)))))))

pub returns-in_err-first_zoom-clause-none : goal.returns-in_err-first_zoom-clause-none
returns-in_err-first_zoom-clause-none c =
    no_frame c.from_residual-in_err-first_zoom.result c.args.text.now
    (none_rest 9 c.in_ok-srs_id.srs_id c.args.text.now c.in_ok-srs_id.text.now c.in_ok-srs_id.ensures.some
    (none_rest 8 c.in_ok-min_x.min_x c.in_ok-srs_id.text.now c.in_ok-min_x.text.now c.in_ok-min_x.ensures.some
    (none_rest 7 c.in_ok-min_y.min_y c.in_ok-min_x.text.now c.in_ok-min_y.text.now c.in_ok-min_y.ensures.some
    (none_rest 6 c.in_ok-max_x.max_x c.in_ok-min_y.text.now c.in_ok-max_x.text.now c.in_ok-max_x.ensures.some
    (none_rest 5 c.in_ok-max_y.max_y c.in_ok-max_x.text.now c.in_ok-max_y.text.now c.in_ok-max_y.ensures.some
    (none_rest 4 c.in_ok-tile_width.tile_width c.in_ok-max_y.text.now c.in_ok-tile_width.text.now
    c.in_ok-tile_width.ensures.some (none_rest 3 c.in_ok-tile_height.tile_height c.in_ok-tile_width.text.now
    c.in_ok-tile_height.text.now c.in_ok-tile_height.ensures.some
    (none_first 2 c.in_ok-tile_height.text.now c.in_err-first_zoom.ensures.none))))))))

pub returns-in_err-levels-clause-none : goal.returns-in_err-levels-clause-none
returns-in_err-levels-clause-none c =
    no_frame c.from_residual-in_err-levels.result c.args.text.now
    (none_rest 9 c.in_ok-srs_id.srs_id c.args.text.now c.in_ok-srs_id.text.now c.in_ok-srs_id.ensures.some
    (none_rest 8 c.in_ok-min_x.min_x c.in_ok-srs_id.text.now c.in_ok-min_x.text.now c.in_ok-min_x.ensures.some
    (none_rest 7 c.in_ok-min_y.min_y c.in_ok-min_x.text.now c.in_ok-min_y.text.now c.in_ok-min_y.ensures.some
    (none_rest 6 c.in_ok-max_x.max_x c.in_ok-min_y.text.now c.in_ok-max_x.text.now c.in_ok-max_x.ensures.some
    (none_rest 5 c.in_ok-max_y.max_y c.in_ok-max_x.text.now c.in_ok-max_y.text.now c.in_ok-max_y.ensures.some
    (none_rest 4 c.in_ok-tile_width.tile_width c.in_ok-max_y.text.now c.in_ok-tile_width.text.now
    c.in_ok-tile_width.ensures.some (none_rest 3 c.in_ok-tile_height.tile_height c.in_ok-tile_width.text.now
    c.in_ok-tile_height.text.now c.in_ok-tile_height.ensures.some
    (none_rest 2 c.in_ok-first_zoom.first_zoom c.in_ok-tile_height.text.now c.in_ok-first_zoom.text.now
    c.in_ok-first_zoom.ensures.some (none_first 1 c.in_ok-first_zoom.text.now
    c.in_err-levels.ensures.none)))))))))

pub returns-in_err-matrix_width-clause-none : goal.returns-in_err-matrix_width-clause-none
returns-in_err-matrix_width-clause-none c =
    no_frame c.from_residual-in_err-matrix_width.result c.args.text.now
    (none_rest 9 c.in_ok-srs_id.srs_id c.args.text.now c.in_ok-srs_id.text.now c.in_ok-srs_id.ensures.some
    (none_rest 8 c.in_ok-min_x.min_x c.in_ok-srs_id.text.now c.in_ok-min_x.text.now c.in_ok-min_x.ensures.some
    (none_rest 7 c.in_ok-min_y.min_y c.in_ok-min_x.text.now c.in_ok-min_y.text.now c.in_ok-min_y.ensures.some
    (none_rest 6 c.in_ok-max_x.max_x c.in_ok-min_y.text.now c.in_ok-max_x.text.now c.in_ok-max_x.ensures.some
    (none_rest 5 c.in_ok-max_y.max_y c.in_ok-max_x.text.now c.in_ok-max_y.text.now c.in_ok-max_y.ensures.some
    (none_rest 4 c.in_ok-tile_width.tile_width c.in_ok-max_y.text.now c.in_ok-tile_width.text.now
    c.in_ok-tile_width.ensures.some (none_rest 3 c.in_ok-tile_height.tile_height c.in_ok-tile_width.text.now
    c.in_ok-tile_height.text.now c.in_ok-tile_height.ensures.some
    (none_rest 2 c.in_ok-first_zoom.first_zoom c.in_ok-tile_height.text.now c.in_ok-first_zoom.text.now
    c.in_ok-first_zoom.ensures.some (none_rest 1 c.in_ok-levels.levels c.in_ok-first_zoom.text.now
    c.in_ok-levels.text.now c.in_ok-levels.ensures.some (none_first 0 c.in_ok-levels.text.now
    c.in_err-matrix_width.ensures.none))))))))))

pub returns-in_err-matrix_height-clause-none : goal.returns-in_err-matrix_height-clause-none
returns-in_err-matrix_height-clause-none c =
    no_frame c.from_residual-in_err-matrix_height.result c.args.text.now
    (none_rest 9 c.in_ok-srs_id.srs_id c.args.text.now c.in_ok-srs_id.text.now c.in_ok-srs_id.ensures.some
    (none_rest 8 c.in_ok-min_x.min_x c.in_ok-srs_id.text.now c.in_ok-min_x.text.now c.in_ok-min_x.ensures.some
    (none_rest 7 c.in_ok-min_y.min_y c.in_ok-min_x.text.now c.in_ok-min_y.text.now c.in_ok-min_y.ensures.some
    (none_rest 6 c.in_ok-max_x.max_x c.in_ok-min_y.text.now c.in_ok-max_x.text.now c.in_ok-max_x.ensures.some
    (none_rest 5 c.in_ok-max_y.max_y c.in_ok-max_x.text.now c.in_ok-max_y.text.now c.in_ok-max_y.ensures.some
    (none_rest 4 c.in_ok-tile_width.tile_width c.in_ok-max_y.text.now c.in_ok-tile_width.text.now
    c.in_ok-tile_width.ensures.some (none_rest 3 c.in_ok-tile_height.tile_height c.in_ok-tile_width.text.now
    c.in_ok-tile_height.text.now c.in_ok-tile_height.ensures.some
    (none_rest 2 c.in_ok-first_zoom.first_zoom c.in_ok-tile_height.text.now c.in_ok-first_zoom.text.now
    c.in_ok-first_zoom.ensures.some (none_rest 1 c.in_ok-levels.levels c.in_ok-first_zoom.text.now
    c.in_ok-levels.text.now c.in_ok-levels.ensures.some (none_rest 0 c.in_ok-matrix_width.matrix_width
    c.in_ok-levels.text.now c.in_ok-matrix_width.text.now c.in_ok-matrix_width.ensures.some
    (none_last c.in_ok-matrix_width.text.now c.in_err-matrix_height.ensures.none)))))))))))
