-- Eleven numbers that agree are one frame.
use Rattle.std.proofs.Common.{sym, ◌∙◌}
use Rattle.std.proofs.lemmas.Bool.{true≢false}
use Rattle.opening_faults.proofs.SameFrames.{one_frame, ground_of, tiles_of}
use Rattle.opening_faults.proofs.homes.has_frame_of.Goals as goal

pub returns-then-has_ground_of : goal.returns-then-has_ground_of
returns-then-has_ground_of c =
    let f = c.args.sight.now.frame in
    let g = c.args.root.now.frame in (
      λ so. one_frame f g (c.has_ground_of.ensures.0 c.if-has_ground_of.true) (c.has_tiles_of.ensures.0 so),
      λ e.
          c.has_tiles_of.ensures.1 (tiles_of f g e),
    )

pub returns-else-has_ground_of : goal.returns-else-has_ground_of
returns-else-has_ground_of c =
    let f = c.args.sight.now.frame in
    let g = c.args.root.now.frame in (
      λ so. absurd (true≢false (sym so ∙ c.if-has_ground_of.false)),
      λ e. c.has_ground_of.ensures.1
          (ground_of f g e),
    )
