-- The key is put in beside the others.
use Rattle.std.proofs.Common.{subst}
use Rattle.std.specs.BTreeMap.{keys}
use Rattle.world_known.specs.Known.{Grows}
use Rattle.world_known.proofs.Keys.{put_is_there, put_keeps}
use Rattle.world_known.proofs.known.Known.put.Goals as goal

pub returns-clause-known : goal.returns-clause-known
returns-clause-known c = put_is_there c.self.inside.places c.insert.new.self c.args.id c.args.package
    c.in_ok-insert.ensures.updates

pub returns-clause-grows : goal.returns-clause-grows
returns-clause-grows c = subst (λ ks. Grows ks (keys c.insert.new.self)) c.self.view_is
    (put_keeps c.self.inside.places c.insert.new.self c.args.id c.args.package c.in_ok-insert.ensures.updates)
