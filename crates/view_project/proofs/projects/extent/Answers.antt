use Rattle.std.proofs.Common.{◌≡◌, FitsSigned, rules, to_z-of_z, w64}
use Rattle.std.specs.Prelude.{codes, string_bytes}
use Rattle.view_project.specs.Projects.{side}
use Rattle.view_project.proofs.Texts.{joined, ok_is}
use Rattle.view_project.proofs.projects.extent.Goals as goal

pub returns : goal.returns
returns c =
    let f = c.args.frame.now in
    let min_x : FitsSigned w64 f.min_x = search rules in
    let min_y : FitsSigned w64 f.min_y = search rules in
    let max_x : FitsSigned w64 f.max_x = search rules in
    let max_y : FitsSigned w64 f.max_y = search rules in
    let west : string_bytes c.in_ok-west.west ≡ side (codes "xmin") f.min_x =
    simp (to_z-of_z, min_x) at c.in_ok-west.ensures in
    let south : string_bytes c.in_ok-south.south ≡ side (codes "ymin") f.min_y =
    simp (to_z-of_z, min_y) at c.in_ok-south.ensures in
    let east : string_bytes c.in_ok-east.east ≡ side (codes "xmax") f.max_x =
    simp (to_z-of_z, max_x) at c.in_ok-east.ensures in
    let north : string_bytes c.in_ok-north.north ≡ side (codes "ymax") f.max_y =
    simp (to_z-of_z, max_y) at c.in_ok-north.ensures in
    ok_is c.format.result _ _ (joined west (joined south (joined east north))) c.format.ensures.ok
