-- The frame's own system is one of the three, or comes beside them.
use Rattle.std.proofs.Common.{◌∙◌, refl, sym, to_z-of_z}
use Rattle.package_schema.proofs.Fixing.{own_just, standard_just}
use Rattle.package_schema.proofs.fixed_rows.are_systems.Goals as goal

pub returns-then-is_standard : goal.returns-then-is_standard
returns-then-is_standard c =
    let standard = simp (to_z-of_z, c.ranges.srs_id) at (sym c.is_standard.ensures ∙ c.if-is_standard.true) in
    standard_just c.args.srs_id c.args.rows.now _ _ _ _ _ _ standard refl c.has_system-plane.ensures
    c.has_system-globe.ensures c.has_system-world.ensures

pub returns : goal.returns
returns c =
    let other = simp (to_z-of_z, c.ranges.srs_id) at (sym c.is_standard.ensures ∙ c.if-is_standard.false) in
    let own = simp (to_z-of_z, c.ranges.srs_id) at (rw (c.as_str.ensures.value, c.in_ok-name.ensures.ok) at
    c.has_system-own.ensures) in
    own_just c.args.srs_id c.args.rows.now _ _ _ _ _ _ _ other refl c.has_system-plane.ensures
    c.has_system-globe.ensures c.has_system-world.ensures own
