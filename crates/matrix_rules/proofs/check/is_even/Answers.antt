use Rattle.sheet_types.specs.Matrix.{divides}
use Rattle.std.proofs.Common.{◌≡◌, refl, rules, FitsSigned, ◌-ℤ◌, pos, w64}
use mir.Syntax.{w128}
use Rattle.std.proofs.lemmas.Int.{to_z-of_z}
use Rattle.matrix_rules.proofs.check.is_even.Goals as goal

pub returns : goal.returns
returns c =
    let tiles : FitsSigned w64 c.tiles_at.result = search rules in
    let parts : FitsSigned w128 c.pixels-last.result = search rules in
    let whole : FitsSigned w128 c.extent.result = search rules in
    let level : FitsSigned w64 (c.args.levels -ℤ pos 1) = search rules in
    let tile = c.ranges.tile in
    let low = c.ranges.low in
    let high = c.ranges.high in
    let matrix = c.ranges.matrix in
    let levels = c.ranges.levels in
    let d : c.is_divided.result ≡ divides c.pixels-last.result c.extent.result =
    simp to_z-of_z at c.is_divided.ensures in
    let p = simp to_z-of_z at c.pixels-last.ensures.product in
    let t = simp to_z-of_z at c.tiles_at.ensures.product in
    let e = simp to_z-of_z at c.extent.ensures in
    rw (d, p, t, e) refl
