-- A member of the package is found, where there is one.
use Rattle.std.proofs.Common.{◌≡◌, ◌∙◌, refl, sym, subst, slice_get, Some, bytes_eq, false}
use Rattle.std.specs.List.{list_any}
use Rattle.std.proofs.lemmas.List.{take_all}
use Rattle.std.proofs.lemmas.Option.{slice_get_read}
use Rattle.std.proofs.lemmas.Slice.Eq.{bytes_eq-Decides}
use Rattle.world_members.specs.declared.members.Member.{Member}
use Rattle.world_queries.proofs.Placed.{none_more, stands_named, stands_nowhere}
use Rattle.world_queries.proofs.asking.place_of.Goals as goal

pub returns-then-eq : goal.returns-then-eq
returns-then-eq g c =
    let place : slice_get c.args.members.now c.loop-at.at ≡ Some c.index-members-at.result =
    slice_get_read _ _ _ _ refl c.loop-at-test.true c.index-members-at.is in
    let same : bytes_eq c.index-members-at.result.uuid c.args.uuid ≡ c.eq.result =
    rw c.index-members-at.is (sym c.eq.ensures) in
    stands_named g.S.Store c.args.members.now c.args.uuid c.loop-at.at c.index-members-at.result place
    ((bytes_eq-Decides c.index-members-at.result.uuid c.args.uuid).0 (same ∙ c.if-eq.true))

pub loop-at-preserved : goal.loop-at-preserved
loop-at-preserved g c =
    let place : slice_get c.args.members.now c.loop-at.at ≡ Some c.index-members-at.result =
    slice_get_read _ _ _ _ refl c.loop-at-test.true c.index-members-at.is in
    let same : bytes_eq c.index-members-at.result.uuid c.args.uuid ≡ c.eq.result =
    rw c.index-members-at.is (sym c.eq.ensures) in
    record {
      none = none_more (λ (m : Member g.row.S.Denot). bytes_eq m.uuid c.args.uuid) c.args.members.now
          c.loop-at.at c.index-members-at.result c.loop-at.invariant.none place (same ∙ c.if-eq.false);
    }

pub returns : goal.returns
returns g c =
    stands_nowhere g.S.Store c.args.members.now c.args.uuid (subst
    (λ ms. list_any (λ (m : Member g.row.S.Denot). bytes_eq m.uuid c.args.uuid) ms ≡ false)
    (take_all c.loop-at.at c.args.members.now c.loop-at-test.false) c.loop-at.invariant.none)
