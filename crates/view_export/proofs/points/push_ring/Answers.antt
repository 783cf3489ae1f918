-- Five places, one behind the other.
use Rattle.std.proofs.Common.{◌≡◌, ◌++◌, FitsSigned, rules, to_z-of_z, w64}
use Rattle.view_export.specs.Points.{corner}
use Rattle.view_export.proofs.Rings.{ring_behind}
use Rattle.view_export.proofs.points.push_ring.Goals as goal

pub returns : goal.returns
returns c =
    let g = c.args.ground.now in
    let west : FitsSigned w64 g.west = search rules in
    let south : FitsSigned w64 g.south = search rules in
    let east : FitsSigned w64 g.east = search rules in
    let north : FitsSigned w64 g.north = search rules in
    let first : c.push_corner.new.bytes.items ≡ c.args.bytes.now.items ++ corner g.west g.south =
    simp (to_z-of_z, west, south) at c.in_ok-push_corner.ensures in
    let second : c.push_corner-2.new.bytes.items ≡ c.push_corner.new.bytes.items ++ corner g.east g.south =
    simp (to_z-of_z, east, south) at c.in_ok-push_corner-2.ensures in
    let third : c.push_corner-3.new.bytes.items ≡ c.push_corner-2.new.bytes.items ++ corner g.east g.north =
    simp (to_z-of_z, east, north) at c.in_ok-push_corner-3.ensures in
    let fourth : c.push_corner-4.new.bytes.items ≡ c.push_corner-3.new.bytes.items ++ corner g.west g.north =
    simp (to_z-of_z, west, north) at c.in_ok-push_corner-4.ensures in
    let fifth : c.push_corner-5.new.bytes.items ≡ c.push_corner-4.new.bytes.items ++ corner g.west g.south =
    simp (to_z-of_z, west, south) at c.in_ok-push_corner-5.ensures in
    ring_behind g c.args.bytes.now.items _ _ _ _ _ first second third fourth fifth
