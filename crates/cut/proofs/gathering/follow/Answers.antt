-- Each item of the list is asked for its links, and their ends come into the list.
use Rattle.std.proofs.Common.{◌≡◌, ◌∙◌, ◌++◌, ◌<◌, ℕ, List, length, sym, subst, ap, arith}
use Rattle.std.proofs.Common.{length-append, take}
use Rattle.std.proofs.lemmas.List.{take_all}
use Rattle.sheet_types.specs.Ordered.{is_among}
use Rattle.identity_register.specs.Reach.{links_of}
use Rattle.cut.specs.Gathering.{Enters, ends_of}
use Rattle.std.specs.Prelude.{flat_map, ◌||◌}
use Rattle.cut.proofs.Asking.{at_first, asked, asked_then, asked_so, answers, fails, stayed}
use Rattle.cut.proofs.Walking.{Walked, walked_none, walked_more}
use Rattle.cut.proofs.Following.{followed}
use Rattle.cut.proofs.gathering.follow.Goals as goal

pub loop-next-init : goal.loop-next-init
loop-next-init g c =
    let entered = c.in_ok-enter_all.ensures in
    let start = c.args.start.now in
    let order = c.enter_all.new.self.order.items in
    let same : (id : List ℕ) → is_among order id ≡ is_among start id =
    λ id. entered.members id ∙ ap (λ l. is_among l id || is_among start id) c.new-items.ensures.empty in (
      entered.same,
      omega arith,
      at_first (λ p. Walked p start order c.new-links.result.items 0) c.args.reach.now c.requires
          (λ p. subst (λ l. Walked p start order l 0) (sym c.new-links.ensures.items)
          (walked_none p start order same)),
    )

pub links_of-requires : goal.links_of-requires
links_of-requires g c = c.loop-next.invariant.2.again

pub returns-in_err-found-clause-asks : goal.returns-in_err-found-clause-asks
returns-in_err-found-clause-asks g c = fails c.from_residual-in_err-found.result
    c.from_residual-in_err-found.ensures.0 (asked_then c.loop-next.invariant.2 (stayed c.links_of.ensures))

pub returns-in_err-ends-clause-asks : goal.returns-in_err-ends-clause-asks
returns-in_err-ends-clause-asks g c = fails c.from_residual-in_err-ends.result c.from_residual-in_err-ends.ensures.0
    (asked_then c.loop-next.invariant.2 (stayed c.links_of.ensures))

pub enter_all-requires-in-loop-next : goal.enter_all-requires-in-loop-next
enter_all-requires-in-loop-next g c = c.loop-next.invariant.0

pub returns-in_err-enter_all-2-clause-asks : goal.returns-in_err-enter_all-2-clause-asks
returns-in_err-enter_all-2-clause-asks g c = fails c.from_residual-in_err-enter_all-2.result
    c.from_residual-in_err-enter_all-2.ensures.0 (asked_then c.loop-next.invariant.2 (stayed c.links_of.ensures))

pub returns-in_err-extend_from_slice-clause-asks : goal.returns-in_err-extend_from_slice-clause-asks
returns-in_err-extend_from_slice-clause-asks g c = fails c.from_residual-in_err-extend_from_slice.result
    c.from_residual-in_err-extend_from_slice.ensures.0 (asked_then c.loop-next.invariant.2
    (stayed c.links_of.ensures))

pub loop-next-smaller : goal.loop-next-smaller
loop-next-smaller g c = omega (arith, c.loop-next-test.true, c.len.type_inv)

pub loop-next-preserved : goal.loop-next-preserved
loop-next-preserved g c =
    let start = c.args.start.now in
    let old = c.loop-next.items in
    let new = c.enter_all-in-loop-next.new.self in
    let k = c.loop-next.next in
    let id = c.index.result.now in
    let found = c.in_ok-found.found.items in
    let less : k < length old.order.items = omega (arith, c.loop-next-test.true, c.len.ensures) in
    let entered : Enters (flat_map ends_of found) old new = subst (λ ids. Enters ids old new)
    (c.deref-in-loop-next.ensures.value ∙ c.in_ok-ends.ensures ∙ ap (flat_map ends_of) c.deref.ensures.value)
    c.in_ok-enter_all-2.ensures in
    let pushed : c.extend_from_slice.new.self.items ≡ c.loop-next.links.items ++ found =
    c.in_ok-extend_from_slice.ensures.items ∙ ap (λ l. c.loop-next.links.items ++ l)
    c.deref-in-loop-next-2.ensures.value in (
      entered.same,
      omega (arith, less, ap length entered.behind, length-append old.order.items entered.more),
      asked_so (asked_then c.loop-next.invariant.2 (asked (λ p answer. answer.items ≡ links_of p id)
          c.in_ok-found.was
          c.links_of.ensures))
          (λ p both. walked_more p start old new c.loop-next.links.items found c.extend_from_slice.new.self.items k id
          both.0 less c.index.ensures both.1 entered pushed),
    )

pub returns-clause-group : goal.returns-clause-group
returns-clause-group g c = c.loop-next.invariant.0

pub returns-clause-asks : goal.returns-clause-asks
returns-clause-asks g c =
    let start = c.args.start.now in
    let order = c.loop-next.items.order.items in
    let k = c.loop-next.next in
    let all : take k order ≡ order = take_all k order (omega (arith, c.loop-next-test.false, c.len.ensures)) in
    answers c.loop-next.invariant.2 (λ p walked. λ has. record {
      members = λ id. followed p start order c.loop-next.links.items k walked all has id;
      links = walked.links_are ∙ ap (flat_map (links_of p)) all;
    })
