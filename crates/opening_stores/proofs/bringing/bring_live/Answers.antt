-- One more was turned, or none waits.
use Rattle.std.proofs.Common.{◌≡◌, subst, arith, length, slice_get, Some, None, vec_len}
use Rattle.std.specs.Prelude.{is_some}
use Rattle.std.specs.List.{AllByRecursion}
use Rattle.std.proofs.lemmas.List.Sums.{count_by-le-length}
use Rattle.std.proofs.lemmas.Option.{slice_get_within}
use Rattle.opening_stores.proofs.Turning.{all_turned, any_err, as_many, begins, goes_on, none_wait, one_less}
use Rattle.opening_stores.proofs.Turning.{rests_new, some_turned}
use Rattle.opening_stores.proofs.bringing.bring_live.Goals as goal

pub loop-init : goal.loop-init
loop-init g c =
    let under_way = begins g.S.Store c.args.kept.now c.args.stores.now.items c.args.waiting.items c.requires.long
    c.requires.waiting c.requires.rests in
    let many : length c.args.waiting.items ≡ length c.args.stores.now.items =
    as_many g.S.Store c.args.kept.now c.args.stores.now.items c.args.stores.now.items c.args.waiting.items
    under_way in
    record {
      under_way = under_way;
      count = omega (
        arith,
        count_by-le-length is_some c.args.waiting.items,
        many,
        c.requires.long,
      );
    }

pub returns-in_default-clause-brought : goal.returns-in_default-clause-brought
returns-in_default-clause-brought g c =
    all_turned g.S.Store c.args.kept.now c.args.stores.now.items c.loop.stores.items c.loop.waiting.items
    c.loop.invariant.under_way
    (subst (AllByRecursion (λ w. w ≡ None)) c.deref.ensures.value (c.least.ensures.none c.in_default.is))

pub bring_at-requires-clause-within : goal.bring_at-requires-clause-within
bring_at-requires-clause-within g c =
    let there : slice_get c.loop.waiting.items c.in-Some.first.place ≡ Some (Some c.in-Some.first.uuid) =
    subst (λ w. slice_get w c.in-Some.first.place ≡ Some (Some c.in-Some.first.uuid)) c.deref.ensures.value
    c.in-Some.ensures.least.there in
    omega (
      arith,
      slice_get_within c.loop.waiting.items c.in-Some.first.place (Some c.in-Some.first.uuid) there,
      as_many g.S.Store c.args.kept.now c.args.stores.now.items c.loop.stores.items c.loop.waiting.items
          c.loop.invariant.under_way,
    )

pub returns-in_err-bring_at-clause-rests : goal.returns-in_err-bring_at-clause-rests
returns-in_err-bring_at-clause-rests g c =
    let there : slice_get c.loop.waiting.items c.in-Some.first.place ≡ Some (Some c.in-Some.first.uuid) =
    subst (λ w. slice_get w c.in-Some.first.place ≡ Some (Some c.in-Some.first.uuid)) c.deref.ensures.value
    c.in-Some.ensures.least.there in
    rests_new g.S.Store c.args.kept.now c.args.stores.now.items c.loop.stores.items c.loop.waiting.items
    c.loop.invariant.under_way c.in-Some.first.place c.in-Some.first.uuid there c.bring_at.new.stores.items
    c.bring_at.result c.bring_at.ensures.turned

pub returns-in_err-bring_at-clause-failed : goal.returns-in_err-bring_at-clause-failed
returns-in_err-bring_at-clause-failed g c =
    let there : slice_get c.loop.waiting.items c.in-Some.first.place ≡ Some (Some c.in-Some.first.uuid) =
    subst (λ w. slice_get w c.in-Some.first.place ≡ Some (Some c.in-Some.first.uuid)) c.deref.ensures.value
    c.in-Some.ensures.least.there in
    let some = some_turned g.S.Store c.args.kept.now c.args.stores.now.items c.loop.stores.items c.loop.waiting.items
    c.loop.invariant.under_way c.in-Some.first.place c.in-Some.first.uuid there c.bring_at.new.stores.items
    c.bring_at.result c.bring_at.ensures.turned in
    any_err c.from_residual.result some

pub index_mut-requires : goal.index_mut-requires
index_mut-requires g c =
    let there : slice_get c.loop.waiting.items c.in-Some.first.place ≡ Some (Some c.in-Some.first.uuid) =
    subst (λ w. slice_get w c.in-Some.first.place ≡ Some (Some c.in-Some.first.uuid)) c.deref.ensures.value
    c.in-Some.ensures.least.there in
    let whole : vec_len c.loop.waiting ≡ length c.loop.waiting.items = omega (arith, c.loop.waiting.ok.0) in
    omega (arith, slice_get_within c.loop.waiting.items c.in-Some.first.place (Some c.in-Some.first.uuid) there, whole)

pub loop-preserved : goal.loop-preserved
loop-preserved g c =
    let there : slice_get c.loop.waiting.items c.in-Some.first.place ≡ Some (Some c.in-Some.first.uuid) =
    subst (λ w. slice_get w c.in-Some.first.place ≡ Some (Some c.in-Some.first.uuid)) c.deref.ensures.value
    c.in-Some.ensures.least.there in
    record {
      under_way = goes_on g.S.Store c.args.kept.now c.args.stores.now.items c.loop.stores.items c.loop.waiting.items
          c.loop.invariant.under_way c.in-Some.first.place c.in-Some.first.uuid there c.bring_at.new.stores.items
          c.bring_at.result c.bring_at.ensures.turned c.in_ok-bring_at.was;
      count = omega (
        arith,
        one_less g.S.Store c.args.kept.now c.args.stores.now.items c.loop.stores.items
            c.loop.waiting.items c.loop.invariant.under_way c.in-Some.first.place c.in-Some.first.uuid there
            c.bring_at.new.stores.items c.bring_at.result c.bring_at.ensures.turned,
        c.loop.invariant.count,
      );
    }

pub returns-clause-brought : goal.returns-clause-brought
returns-clause-brought g c =
    let whole : vec_len c.args.waiting ≡ length c.args.waiting.items = omega (arith, c.args.waiting.ok.0) in
    let under_way = begins g.S.Store c.args.kept.now c.args.stores.now.items c.args.waiting.items c.requires.long
    c.requires.waiting c.requires.rests in
    let many : length c.args.waiting.items ≡ length c.args.stores.now.items =
    as_many g.S.Store c.args.kept.now c.args.stores.now.items c.args.stores.now.items c.args.waiting.items
    under_way in
    all_turned g.S.Store c.args.kept.now c.args.stores.now.items c.loop.stores.items c.loop.waiting.items
    c.loop.invariant.under_way
    (none_wait c.loop.waiting.items (omega (
      arith,
      c.loop.invariant.count,
      c.loop-test.false,
      c.len-end.ensures,
      whole,
      many,
      c.requires.long,
    )))
