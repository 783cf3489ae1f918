use Rattle.std.proofs.Common.{refl}
use Rattle.package_schema.proofs.Fixing.{contents_just}
use Rattle.package_schema.proofs.fixed_rows.are_contents.Goals as goal

pub returns : goal.returns
returns c = contents_just c.args.frame.now c.args.rows.now _ _ _ _ _ _ refl c.has_content-media.ensures
    c.has_content-attributes.ensures c.has_content-tiles.ensures refl refl refl
