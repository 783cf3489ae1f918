use Rattle.std.proofs.Common.{◌≡◌, Ok, take, map}
use Rattle.package_tables.specs.declared.fault.Fault.{Fault}
use Rattle.view_history.specs.Stores.{AsksStores}
use Rattle.view_history.specs.Told.{ledger_of, moment_of}
use Rattle.view_history.proofs.moments.moments_of.Given as goal

-- the moments of the numbers so far
abbrev pub invariant-loop-at : goal.invariant-loop-at
invariant-loop-at g l = record {
  asked : AsksStores g.S.Store {E = Fault} (λ packages moments. moments.items
      ≡ map (moment_of (ledger_of packages)) (take l.at l.numbers)) l.fn.stores.items l.stores.items (Ok l.moments);
}
