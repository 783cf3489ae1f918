-- One store more.
use Rattle.std.proofs.Common.{◌≡◌, ◌∙◌, sym, subst, rules, ◌+◌, ◌<◌, length, take, arith}
use Rattle.std.specs.Prelude.{max, false}
use Rattle.std.proofs.lemmas.List.{take_all}
use Rattle.sheet_ledger.proofs.Walking.{one_more}
use Rattle.opening_faults.specs.Sights.{is_live_store}
use Rattle.opening_faults.proofs.Listing.{at_place}
use Rattle.opening_numbers.specs.Numbers.{Among, IsLast, IsOfStore}
use Rattle.opening_numbers.proofs.Lasting.{among_more}
use Rattle.opening_numbers.proofs.Naming.{additions_last}
use Rattle.opening_numbers.proofs.numbers.number_of_addition.Goals as goal

pub loop-place-preserved : goal.loop-place-preserved
loop-place-preserved c =
    let i = c.loop-place.place in
    let sights = c.args.sights.now in
    let s = c.index-sights-place.result in
    let lt : i < length sights = omega arith in
    let lives : c.is_live_at.result ≡ is_live_store sights s =
    c.is_live_at.ensures ∙ at_place (is_live_store sights) sights c.args.live.now i s false c.requires lt
    c.index-sights-place.is in
    let here : IsLast (IsOfStore c.args.id (is_live_store sights s) s) c.store_number.result =
    subst (λ v. IsLast (IsOfStore c.args.id v s) c.store_number.result) lives c.store_number.ensures in
    let top : c.max-last.result ≡ max c.loop-place.last c.store_number.result = search rules in
    subst (IsLast (Among (λ x. IsOfStore c.args.id (is_live_store sights x) x) (take (i + 1) sights))) (sym top)
    (among_more (λ x. IsOfStore c.args.id (is_live_store sights x) x) (take i sights) (take (i + 1) sights) s
    (one_more sights i s lt c.index-sights-place.is) c.loop-place.last c.store_number.result c.loop-place.invariant
    here)

pub returns : goal.returns
returns c =
    let sights = c.args.sights.now in
    additions_last sights c.args.id c.loop-place.last
    (subst (λ xs. IsLast (Among (λ s. IsOfStore c.args.id (is_live_store sights s) s) xs) c.loop-place.last)
    (take_all c.loop-place.place sights (omega arith)) c.loop-place.invariant)
