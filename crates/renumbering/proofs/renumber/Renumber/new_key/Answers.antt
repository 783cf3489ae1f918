use Rattle.std.proofs.Common.{◌≡◌, ◌<◌, ℤ, ap, ◌∙◌, subst, sym, get_or, length, to_z, of_z}
use Rattle.std.proofs.Common.{to_z-of_z, FitsSigned}
use Rattle.std.proofs.Common.{w64, rules, Some, None, List, IsSome, false, Ok, Err, zip}
use Rattle.std.proofs.lemmas.Bool.{false≢true}
use Rattle.std.specs.List.{list_any}
use Rattle.std.specs.List.Sorted.{IsStrictlySortedBy}
use Rattle.std.specs.Ordering.{int_cmp, int_eq}
use Rattle.renumbering.specs.Renumbering.{new_key}
use Rattle.renumbering.proofs.Pairs.{key_at, no_key}
use Rattle.renumbering.proofs.Rising.{searched}
use Rattle.renumbering.proofs.renumber.Renumber.new_key.Goals as goal

pub returns-in-Ok : goal.returns-in-Ok
returns-in-Ok c =
    let olds = c.self.inside.olds.items in
    let news = c.self.inside.news.items in
    let there : FitsSigned w64 c.index.result.now = search rules in
    let rises : IsStrictlySortedBy int_cmp c.deref.result.now =
    subst (IsStrictlySortedBy int_cmp) (sym c.deref.ensures.value) c.self.invariant.0 in
    let found = searched c.deref.result.now (to_z w64 (of_z w64 c.args.key)) (Ok c.in-Ok.place) rises
    c.in-Ok.ensures.bound c.in-Ok.ensures.position in
    let is : get_or olds c.in-Ok.place c.index.result.now ≡ c.args.key =
    ap (λ l. get_or l c.in-Ok.place c.index.result.now) (sym c.deref.ensures.value)
    ∙ found.1 c.index.result.now ∙ to_z-of_z c.ranges.key in
    let within : c.in-Ok.place < length olds = subst (λ l. c.in-Ok.place < length l) c.deref.ensures.value found.0 in
    subst (λ pairs. new_key pairs c.args.key ≡ Some (to_z w64 (of_z w64 c.index.result.now))) c.self.view_is
    (key_at olds news c.in-Ok.place c.args.key c.index.result.now c.self.invariant.0 c.self.invariant.1 within is
    ∙ ap Some (sym c.index.ensures ∙ sym (to_z-of_z there)))

pub returns-in-Err : goal.returns-in-Err
returns-in-Err c =
    let rises : IsStrictlySortedBy int_cmp c.deref.result.now =
    subst (IsStrictlySortedBy int_cmp) (sym c.deref.ensures.value) c.self.invariant.0 in
    let none : list_any (int_eq (to_z w64 (of_z w64 c.args.key))) c.deref.result.now ≡ false =
    searched c.deref.result.now (to_z w64 (of_z w64 c.args.key)) (Err c.in-Err.field-0) rises
    c.in-Err.ensures.bound c.in-Err.ensures.position in
    let no : list_any (int_eq c.args.key) c.self.inside.olds.items ≡ false =
    ap (λ l. list_any (int_eq c.args.key) l) (sym c.deref.ensures.value)
    ∙ ap (λ k. list_any (int_eq k) c.deref.result.now) (sym (to_z-of_z c.ranges.key)) ∙ none in
    absurd (false≢true (subst IsSome (ap (λ pairs. new_key pairs c.args.key) (sym c.self.view_is)
    ∙ no_key c.self.inside.olds.items c.self.inside.news.items c.args.key no) c.requires))
