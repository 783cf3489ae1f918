-- Where one is inside a transaction, nothing is done.
use Rattle.std.proofs.Common.{refl, inl, inr}
use Rattle.opening_stores.proofs.Strangers.{all_same}
use Rattle.opening.proofs.recovering.recover.Goals as goal

pub returns-clause-fault : goal.returns-clause-fault
returns-clause-fault g c = record {
  brought = inl refl;
  only_read = inl (inr refl);
  others_read = λ clean. all_same g.S.Store c.args.stores.items;
  strays_read = λ clean. inl refl;
  fault = λ clean. inl (inr refl);
}
