use Rattle.opening_live.proofs.laws.live_ones_fault.Goals as goal
use Rattle.opening_live.proofs.Faults.{fault_to, fault_fro}

pub returns : goal.returns
returns c = λ views fault. (fault_to views fault, fault_fro views fault)
