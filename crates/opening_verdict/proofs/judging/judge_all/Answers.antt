-- Each part hands on its fault; without one the stores stand for a world.
use Rattle.std.proofs.Common.{◌≡◌, map, length, vec_len, refl, sym, ap, subst, ◌∙◌, arith}
use Rattle.std.proofs.lemmas.List.{length-map}
use Rattle.std.proofs.lemmas.Slice.Zip.{AllZip-long}
use Rattle.opening_verdict.specs.Tallies.{TellsSums}
use Rattle.opening_verdict.specs.Views.{AreSeenAs, IsFaultOf}
use Rattle.opening_verdict.proofs.Lists.{err_same}
use Rattle.opening_verdict.proofs.Whole.{first_of, last_of, want_of, verdict_so}
use Rattle.opening_verdict.proofs.judging.judge_all.Goals as goal

pub returns-in_err-live-clause-fault : goal.returns-in_err-live-clause-fault
returns-in_err-live-clause-fault c =
    let f = c.in_err-live.field-0.0 in
    let parts = c.in_ok-sights.ensures in
    let first = rw (c.deref.ensures.value, c.deref-2.ensures.value, c.deref-3.ensures.value) at
    c.in_err-live.ensures.fault in
    err_same (λ fault. (views : _) → AreSeenAs c.args.seen.items views → IsFaultOf views fault)
    c.from_residual-in_err-live.result f c.from_residual-in_err-live.ensures.1
    (λ views are. first_of c.args.seen.items views are _ _ _ _ parts.sights parts.formed parts.tied parts.held f first)

pub returns-in_err-ledger-clause-fault : goal.returns-in_err-ledger-clause-fault
returns-in_err-ledger-clause-fault c =
    let f = c.in_err-ledger.field-0.0 in
    let parts = c.in_ok-sights.ensures in
    let checked = rw (c.deref.ensures.value, c.deref-2.ensures.value, c.deref-3.ensures.value) at
    c.in_ok-live.ensures.checked in
    let live = rw (c.deref.ensures.value) at c.in_ok-live.ensures.live in
    let last = rw (c.deref-5.ensures.value) at c.in_err-ledger.ensures.fault in
    err_same (λ fault. (views : _) → AreSeenAs c.args.seen.items views → IsFaultOf views fault)
    c.from_residual-in_err-ledger.result f c.from_residual-in_err-ledger.ensures.1
    (λ views are. last_of c.args.seen.items views are _ _ _ _ parts.sights parts.formed parts.tied parts.held checked
    _ live f last)

pub all_kept-requires-clause-sums : goal.all_kept-requires-clause-sums
all_kept-requires-clause-sums c =
    let parts = c.in_ok-sights.ensures in
    let told = rw (c.deref-4.ensures.value) at c.in_ok-sums.ensures in
    ap length c.deref-8.ensures.value ∙ AllZip-long TellsSums _ c.in_ok-sums.sums.items told
    ∙ ap length parts.held ∙ length-map c.args.seen.items (λ x. x.held)
    ∙ sym (length-map c.args.seen.items (λ x. x.sight)) ∙ sym (ap length parts.sights)
    ∙ sym (length-map _ (λ s. s.head)) ∙ sym (ap length c.in_ok-heads.ensures)
    ∙ sym (ap length c.deref-6.ensures.value)

pub returns-in_err-kept-clause-fault : goal.returns-in_err-kept-clause-fault
returns-in_err-kept-clause-fault c =
    let f = c.in_err-kept.field-0.0 in
    let parts = c.in_ok-sights.ensures in
    let checked = rw (c.deref.ensures.value, c.deref-2.ensures.value, c.deref-3.ensures.value) at
    c.in_ok-live.ensures.checked in
    let live = rw (c.deref.ensures.value) at c.in_ok-live.ensures.live in
    let told = rw (c.deref-4.ensures.value) at c.in_ok-sums.ensures in
    let want = rw (c.deref-7.ensures.value, c.deref-8.ensures.value) at c.in_err-kept.ensures.fault in
    err_same (λ fault. (views : _) → AreSeenAs c.args.seen.items views → IsFaultOf views fault)
    c.from_residual-in_err-kept.result f c.from_residual-in_err-kept.ensures.1
    (λ views are. want_of c.args.seen.items views are _ _ _ _ parts.sights parts.formed parts.tied parts.held checked
    _ live _ told f want)

pub returns-clause-stands : goal.returns-clause-stands
returns-clause-stands c = λ views are.
    let parts = c.in_ok-sights.ensures in
    let checked = rw (c.deref.ensures.value, c.deref-2.ensures.value, c.deref-3.ensures.value) at
    c.in_ok-live.ensures.checked in
    let live = rw (c.deref.ensures.value) at c.in_ok-live.ensures.live in
    let told = rw (c.deref-4.ensures.value) at c.in_ok-sums.ensures in
    let account = rw (c.deref-5.ensures.value) at c.in_ok-ledger.ensures.ledger in
    let kept = rw (c.in_ok-heads.ensures) at (rw (
      c.deref-6.ensures.value,
      c.deref-7.ensures.value,
      c.deref-8.ensures.value,
    ) at c.in_ok-kept.ensures.kept) in
    let long : vec_len c.in_ok-ledger.ledger ≡ length c.in_ok-ledger.ledger.items =
    omega (arith, c.in_ok-ledger.ledger.ok.0) in
    verdict_so c.args.seen.items views are _ _ _ _ parts.sights parts.formed parts.tied parts.held checked _ live _
    told _ _ _ account (rw (c.deref-9.ensures.value) at kept) refl (c.len-count.ensures ∙ long)
