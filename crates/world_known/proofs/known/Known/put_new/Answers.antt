-- It is there already, or is put in.
use Rattle.std.proofs.Common.{sym, subst, ◌∙◌}
use Rattle.std.specs.Prelude.{Contains}
use Rattle.world_known.proofs.Keys.{has_key}
use Rattle.world_known.proofs.known.Known.put_new.Goals as goal

pub returns-then-contains_key-clause-known : goal.returns-then-contains_key-clause-known
returns-then-contains_key-clause-known c =
    subst (λ ks. Contains ks c.args.id) c.self.view_is (has_key c.self.inside.places c.args.id
    (sym c.contains_key.ensures ∙ c.if-contains_key.true))
