-- The two numbers as they were given.
use Rattle.std.proofs.Common.{◌≡◌, ◌∙◌, ◌++◌, ap, to_z-of_z}
use Rattle.view_export.specs.Points.{double_bytes}
use Rattle.view_export.proofs.Texts.{joined, put_behind}
use Rattle.view_export.proofs.points.push_corner.Goals as goal

pub returns : goal.returns
returns c =
    let x : c.double_bytes.result ≡ double_bytes c.args.x = simp (to_z-of_z, c.ranges.x) at c.double_bytes.ensures in
    let y : c.double_bytes-2.result ≡ double_bytes c.args.y =
    simp (to_z-of_z, c.ranges.y) at c.double_bytes-2.ensures in
    put_behind c.args.bytes.now.items c.double_bytes.result c.double_bytes-2.result
    c.in_ok-extend_from_slice.ensures.items c.in_ok-extend_from_slice-2.ensures.items
    ∙ ap (λ t. c.args.bytes.now.items ++ t) (joined x y)
