-- The world over the live stores, in the order of their UUIDs.
use Rattle.std.proofs.Common.{◌≡◌, ◌∙◌, sym, ap, subst, arith}
use Rattle.sheet_types.specs.Ordered.{arranged}
use Rattle.world.specs.Worlds.{StandsFor, seen_of}
use Rattle.opening_stores.specs.Sharing.{member_key, members_of, strays_of}
use Rattle.opening_stores.proofs.Members.{members_rest, few}
use Rattle.opening.proofs.recovering.open_world.Goals as goal

pub from_members-world-requires-clause-rests : goal.from_members-world-requires-clause-rests
from_members-world-requires-clause-rests g c = members_rest g.S.Store c.args.stores.items c.deref.result.now
    c.share_out-members.result.members.items c.share_out-members.ensures.members c.requires.rests

pub from_members-world-requires-clause-room : goal.from_members-world-requires-clause-room
from_members-world-requires-clause-room g c = (
  c.requires.empty,
  omega (
    arith,
    few g.S.Store c.args.stores.items c.deref.result.now c.share_out-members.result.members.items
        c.share_out-members.ensures.members,
    c.requires.handed_out,
  ),
)

pub from_members-world-requires-clause-stands : goal.from_members-world-requires-clause-stands
from_members-world-requires-clause-stands g c =
    let members = c.share_out-members.result.members.items in
    let are : members ≡ arranged member_key (members_of c.args.stores.items c.args.judged.verdict.kept.items) =
    c.share_out-members.ensures.members ∙ ap (λ k. arranged member_key (members_of c.args.stores.items k))
    c.deref.ensures.value in
    record {
      others = c.args.stores.items;
      stands = λ clean others. let it = c.requires.stands others in (
        it.0,
        subst (λ ms. StandsFor g.S.Store (seen_of c.args.judged.frame ms c.args.judged.verdict.count
            c.args.judged.known) it.0) (sym are) it.1,
      );
    }

pub returns-clause-world : goal.returns-clause-world
returns-clause-world g c =
    let members = c.share_out-members.result.members.items in
    let are : members ≡ arranged member_key (members_of c.args.stores.items c.args.judged.verdict.kept.items) =
    c.share_out-members.ensures.members ∙ ap (λ k. arranged member_key (members_of c.args.stores.items k))
    c.deref.ensures.value in
    c.from_members-world.ensures ∙ ap (λ ms. seen_of c.args.judged.frame ms c.args.judged.verdict.count
    c.args.judged.known) are

pub returns-clause-strays : goal.returns-clause-strays
returns-clause-strays g c = c.share_out-members.ensures.strays
    ∙ ap (strays_of c.args.stores.items) c.deref.ensures.value
