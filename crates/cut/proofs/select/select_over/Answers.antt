-- The start, what comes along with it, what of that is torn, and the rest sorted.
use Rattle.std.proofs.Common.{◌≡◌, ◌∙◌, [], Some, None, IfOk, sym, subst, ap, arith, length}
use Rattle.std.proofs.lemmas.Bool.{true≢false, eqb-true, eq-eqb}
use Rattle.std.proofs.lemmas.List.{nil_from_length}
use Rattle.sheet_types.specs.Cut.{identities, start}
use Rattle.cut.specs.Gathering.{AreSame, HasStart, Gathers, Sorts, brought_along}
use Rattle.cut.specs.Taken.{IsInOrder}
use Rattle.cut.proofs.Asking.{asked, asked_then, answers, fails, stayed}
use Rattle.cut.proofs.Selecting.{nothing_to_lend, link_cut, nothing_refused, torn_found, start_items, selects}
use Rattle.cut.proofs.select.select_over.Goals as goal

pub returns-then-is_empty : goal.returns-then-is_empty
returns-then-is_empty g c =
    let f = c.args.frame.now in
    let r = c.args.rect.now in
    let ids = c.in_ok-start.start.items in
    let empty = eqb-true _ _ (sym c.is_empty.ensures ∙ c.if-is_empty.true) in
    let none : ids ≡ [] = nil_from_length ids (omega (arith, empty)) in
    answers (asked (λ p found. IsInOrder f p → AreSame found.items (identities (start f r p))) c.in_ok-start.was
    c.start.ensures)
    (λ p told order. nothing_to_lend f p c.args.mode r ids (told order) none)

pub returns-in_err-gathered : goal.returns-in_err-gathered
returns-in_err-gathered g c = fails c.from_residual-in_err-gathered.result c.from_residual-in_err-gathered.ensures.0
    (asked_then (stayed c.start.ensures) (stayed c.gather.ensures.asks))

pub returns-in_err-selection : goal.returns-in_err-selection
returns-in_err-selection g c = fails c.from_residual-in_err-selection.result
    c.from_residual-in_err-selection.ensures.0 (asked_then (stayed c.start.ensures) (stayed c.gather.ensures.asks))

pub returns-in-Some : goal.returns-in-Some
returns-in-Some g c =
    let f = c.args.frame.now in
    let r = c.args.rect.now in
    let mode = c.args.mode in
    let ids = c.in_ok-start.start.items in
    let found = c.in_ok-gathered.gathered in
    let some : ids ≡ [] → ⊥ = λ none. absurd (true≢false (sym (eq-eqb _ 0 (omega (arith, ap length none)))
    ∙ sym c.is_empty.ensures ∙ c.if-is_empty.false)) in
    answers (asked_then (asked (λ p found. IsInOrder f p → AreSame found.items (identities (start f r p)))
    c.in_ok-start.was c.start.ensures)
    (asked (λ p g'. HasStart p c.deref.result.now → Gathers p (brought_along p mode c.deref.result.now) g')
    c.in_ok-gathered.was c.gather.ensures.asks))
    (λ p both order.
    let same : AreSame ids (identities (start f r p)) = both.0 order in
    let gathers : Gathers p (brought_along p mode ids) found =
    subst (λ l. HasStart p l → Gathers p (brought_along p mode l) found) c.deref.ensures.value both.1
    (start_items f r p ids same order) in
    link_cut f p mode r ids c.in-Some.id same some (torn_found f p mode r ids found (Some c.in-Some.id) order same
    gathers c.in-Some.ensures))

pub returns : goal.returns
returns g c =
    let f = c.args.frame.now in
    let r = c.args.rect.now in
    let mode = c.args.mode in
    let ids = c.in_ok-start.start.items in
    let found = c.in_ok-gathered.gathered in
    let some : ids ≡ [] → ⊥ = λ none. absurd (true≢false (sym (eq-eqb _ 0 (omega (arith, ap length none)))
    ∙ sym c.is_empty.ensures ∙ c.if-is_empty.false)) in
    answers (asked_then (asked (λ p found. IsInOrder f p → AreSame found.items (identities (start f r p)))
    c.in_ok-start.was c.start.ensures)
    (asked (λ p g'. HasStart p c.deref.result.now → Gathers p (brought_along p mode c.deref.result.now) g')
    c.in_ok-gathered.was c.gather.ensures.asks))
    (λ p both order.
    let same : AreSame ids (identities (start f r p)) = both.0 order in
    let gathers : Gathers p (brought_along p mode ids) found =
    subst (λ l. HasStart p l → Gathers p (brought_along p mode l) found) c.deref.ensures.value both.1
    (start_items f r p ids same order) in (
      nothing_refused f p mode r ids same some (torn_found f p mode r ids found None order same gathers
          c.in_default.ensures),
      selects f p mode r ids found c.in_ok-selection.selection order same gathers
          c.in_ok-selection.ensures,
    ))
