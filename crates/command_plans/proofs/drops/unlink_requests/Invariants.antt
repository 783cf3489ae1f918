-- The links so far are asked to end, each under the identity of a call of its own.
use Rattle.std.proofs.Common.{map, take}
use Rattle.command_plans.specs.Drops.{unlink}
use Rattle.command_plans.specs.Requests.{AreRequestsFor, GivesEach, id_of}
use Rattle.command_plans.proofs.drops.unlink_requests.Given as goal

abbrev pub invariant-loop-link : goal.invariant-loop-link
invariant-loop-link g l = record {
  asked : AreRequestsFor l.at (map (unlink l.holder) (take l.link-index l.links)) l.requests.items;
  given : GivesEach g.N.Identities.gives (map id_of l.requests.items) l.fn.identities l.identities;
}
