-- What was judged after the looks is so of the stores that were handed in.
use Rattle.std.proofs.Common.{◌≡◌, refl, ap, subst, inl, inr, length, vec_len, arith}
use Rattle.std.proofs.lemmas.List.Elements.{recursion_from_All}
use Rattle.sqlite.specs.Held.{state}
use Rattle.store_sql.specs.Transactions.{Rests}
use Rattle.opening_stores.specs.Brought.{AreAllTurned, SomeAreTurned}
use Rattle.opening_stores.proofs.HandedIn.{all_stay_may, fault_before, some_may, some_clean_before}
use Rattle.opening_stores.proofs.Strangers.{all_read, some_apart, some_still}
use Rattle.opening_stores.proofs.Turning.{as_long}
use Rattle.opening.proofs.Opened.{recovered, stands}
use Rattle.opening.proofs.recovering.recover_at_rest.Goals as goal

pub returns-in-Err-clause-fault : goal.returns-in-Err-clause-fault
returns-in-Err-clause-fault g c = record {
  brought = inr (all_stay_may g.S.Store g.met.S.Store.shut_if_dirty g.met.S.Store.settled c.args.stores.items
      c.judge_stores.new.stores.items (recursion_from_All (λ h. Rests (state g.S.Store h)) c.args.stores.items
      c.requires.rests) c.judge_stores.ensures.read);
  only_read = inr c.judge_stores.ensures.read;
  others_read = λ clean. all_read g.S.Store c.args.stores.items c.judge_stores.new.stores.items
      c.judge_stores.ensures.read;
  strays_read = λ clean. inr (inl c.judge_stores.ensures.read);
  fault = λ clean. fault_before g.S.Store c.args.stores.items c.judge_stores.new.stores.items _
      c.judge_stores.ensures.read (c.in-Err.ensures.fault clean);
}

pub returns-then-not-is_of_all-clause-fault : goal.returns-then-not-is_of_all-clause-fault
returns-then-not-is_of_all-clause-fault g c = record {
  brought = inr (all_stay_may g.S.Store g.met.S.Store.shut_if_dirty g.met.S.Store.settled c.args.stores.items
      c.judge_stores.new.stores.items (recursion_from_All (λ h. Rests (state g.S.Store h)) c.args.stores.items
      c.requires.rests) c.judge_stores.ensures.read);
  only_read = inr c.judge_stores.ensures.read;
  others_read = λ clean. all_read g.S.Store c.args.stores.items c.judge_stores.new.stores.items
      c.judge_stores.ensures.read;
  strays_read = λ clean. inr (inl c.judge_stores.ensures.read);
  fault = λ clean. inl (inr refl);
}

pub returns-in-Err-bring_stores-clause-fault : goal.returns-in-Err-bring_stores-clause-fault
returns-in-Err-bring_stores-clause-fault g c = record {
  brought = inr (some_may g.S.Store g.met.S.Store.shut_if_dirty g.met.S.Store.settled c.deref.result.now
      c.args.stores.items c.judge_stores.new.stores.items c.bring_stores.new.stores.items c.requires.rests
      c.judge_stores.ensures.read c.in-Ok.ensures.opens c.in-Err-bring_stores.ensures.failed);
  only_read = inl c.in-Err-bring_stores.ensures.fault;
  others_read = λ clean.
      let turned : SomeAreTurned g.S.Store c.in-Ok.judged.verdict.kept.items c.judge_stores.new.stores.items
      c.bring_stores.new.stores.items =
      subst (λ k. SomeAreTurned g.S.Store k c.judge_stores.new.stores.items c.bring_stores.new.stores.items)
      c.deref.ensures.value c.in-Err-bring_stores.ensures.failed in
      some_still g.S.Store c.args.stores.items c.judge_stores.new.stores.items c.bring_stores.new.stores.items
      c.in-Ok.judged.frame c.in-Ok.judged.verdict c.in-Ok.judged.known c.judge_stores.ensures.read
      (c.in-Ok.ensures.judged (some_clean_before g.S.Store c.in-Ok.judged.verdict.kept.items
      c.judge_stores.new.stores.items c.bring_stores.new.stores.items turned clean)) turned;
  strays_read = λ clean.
      let turned : SomeAreTurned g.S.Store c.in-Ok.judged.verdict.kept.items c.judge_stores.new.stores.items
      c.bring_stores.new.stores.items =
      subst (λ k. SomeAreTurned g.S.Store k c.judge_stores.new.stores.items c.bring_stores.new.stores.items)
      c.deref.ensures.value c.in-Err-bring_stores.ensures.failed in
      inr (inr (some_apart g.S.Store c.args.stores.items c.judge_stores.new.stores.items
      c.bring_stores.new.stores.items c.in-Ok.judged.frame c.in-Ok.judged.verdict c.in-Ok.judged.known
      c.judge_stores.ensures.read (c.in-Ok.ensures.judged (some_clean_before g.S.Store
      c.in-Ok.judged.verdict.kept.items c.judge_stores.new.stores.items c.bring_stores.new.stores.items turned
      clean)) turned));
  fault = λ clean. inl c.in-Err-bring_stores.ensures.fault;
}

pub open_world-requires-clause-long : goal.open_world-requires-clause-long
open_world-requires-clause-long g c =
    let turned : AreAllTurned g.S.Store c.in-Ok.judged.verdict.kept.items c.judge_stores.new.stores.items
    c.bring_stores.new.stores.items =
    subst (λ k. AreAllTurned g.S.Store k c.judge_stores.new.stores.items c.bring_stores.new.stores.items)
    c.deref.ensures.value c.in-Ok-bring_stores.ensures.brought in
    as_long _ c.in-Ok.judged.verdict.kept.items c.judge_stores.new.stores.items c.bring_stores.new.stores.items turned

pub open_world-requires-clause-stands : goal.open_world-requires-clause-stands
open_world-requires-clause-stands g c =
    let turned : AreAllTurned g.S.Store c.in-Ok.judged.verdict.kept.items c.judge_stores.new.stores.items
    c.bring_stores.new.stores.items =
    subst (λ k. AreAllTurned g.S.Store k c.judge_stores.new.stores.items c.bring_stores.new.stores.items)
    c.deref.ensures.value c.in-Ok-bring_stores.ensures.brought in
    stands g.S.Store c.judge_stores.new.stores.items c.bring_stores.new.stores.items c.in-Ok.judged.frame
    c.in-Ok.judged.verdict c.in-Ok.judged.known c.in-Ok.ensures.judged turned

pub returns-clause-stands : goal.returns-clause-stands
returns-clause-stands g c =
    let turned : AreAllTurned g.S.Store c.in-Ok.judged.verdict.kept.items c.judge_stores.new.stores.items
    c.bring_stores.new.stores.items =
    subst (λ k. AreAllTurned g.S.Store k c.judge_stores.new.stores.items c.bring_stores.new.stores.items)
    c.deref.ensures.value c.in-Ok-bring_stores.ensures.brought in
    recovered g.S.Store c.judge_stores.new.stores.items c.bring_stores.new.stores.items c.in-Ok.judged.frame
    c.in-Ok.judged.verdict c.in-Ok.judged.known c.in-Ok.ensures.judged turned c.args.stores.items c.open_world.result
    c.judge_stores.ensures.read c.open_world.ensures.world c.open_world.ensures.strays
    g.met.S.Store.shut_if_dirty g.met.S.Store.settled c.requires.rests c.in-Ok.ensures.opens
    (as_long _ c.in-Ok.judged.verdict.kept.items c.judge_stores.new.stores.items c.bring_stores.new.stores.items
    turned) c.bring_stores.ensures.rests

pub bring_stores-requires-clause-long : goal.bring_stores-requires-clause-long
bring_stores-requires-clause-long g c =
    let of_all : length c.in-Ok.judged.verdict.kept.items ≡ c.len.result = c.if-not-is_of_all.ensures refl in
    let whole : vec_len c.judge_stores.new.stores ≡ length c.judge_stores.new.stores.items =
    omega (arith, c.judge_stores.new.stores.ok.0) in
    let same : length c.deref.result.now ≡ length c.in-Ok.judged.verdict.kept.items =
    ap length c.deref.ensures.value in
    omega (arith, same, of_all, c.len.ensures, whole)
