use Rattle.std.proofs.Common.{refl}
use Rattle.package_schema.proofs.Fixing.{first_relations_just}
use Rattle.package_schema.proofs.fixed_rows.are_first_relations.Goals as goal

pub returns : goal.returns
returns c = first_relations_just c.args.rows.now _ _ _ _ refl c.has_relation-tile_media.ensures
    c.has_relation-row_media.ensures
