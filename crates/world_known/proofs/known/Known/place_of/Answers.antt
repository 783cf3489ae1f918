-- A look-up that finds nothing says that the key is not there.
use Rattle.std.proofs.Common.{◌∙◌, sym, subst}
use Rattle.std.specs.Prelude.{Contains}
use Rattle.world_known.proofs.Keys.{not_there}
use Rattle.world_known.proofs.known.Known.place_of.Goals as goal

pub returns : goal.returns
returns c = record {
  new = λ none there. not_there c.self.inside.places c.args.id
      (sym c.get.ensures.value ∙ sym c.copied.ensures ∙ none) (subst (λ ks. Contains ks c.args.id)
      (sym c.self.view_is) there);
}
