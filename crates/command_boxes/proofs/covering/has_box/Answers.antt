use Rattle.std.proofs.Common.{rules, refl, FitsSigned, w64}
use Rattle.std.proofs.lemmas.Int.{to_z-of_z}
use Rattle.command_boxes.proofs.covering.has_box.Goals as goal

pub returns : goal.returns
returns c =
    let min_x : FitsSigned w64 c.args.frame.now.min_x = search rules in
    let min_y : FitsSigned w64 c.args.frame.now.min_y = search rules in
    let max_x : FitsSigned w64 c.args.frame.now.max_x = search rules in
    let max_y : FitsSigned w64 c.args.frame.now.max_y = search rules in
    let west : FitsSigned w64 c.args.ground.now.west = search rules in
    let east : FitsSigned w64 c.args.ground.now.east = search rules in
    let south : FitsSigned w64 c.args.ground.now.south = search rules in
    let north : FitsSigned w64 c.args.ground.now.north = search rules in
    simp to_z-of_z refl
