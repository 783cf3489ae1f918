use Rattle.std.proofs.Common.{◌≡◌, ◌↔◌, ◌∙◌, ap, subst, sym, IsSome, IsTrue, to_z, of_z, to_z-of_z}
use Rattle.std.proofs.Common.{w64}
use Rattle.std.specs.List.{list_any}
use Rattle.std.specs.List.Sorted.{IsStrictlySortedBy}
use Rattle.std.specs.Ordering.{int_cmp, int_eq}
use Rattle.renumbering.specs.Renumbering.{new_key}
use Rattle.renumbering.proofs.Pairs.{holds_is}
use Rattle.renumbering.proofs.renumber.Renumber.holds.Goals as goal

pub is_among-requires : goal.is_among-requires
is_among-requires c = subst (IsStrictlySortedBy int_cmp) (sym c.deref.ensures.value) c.self.invariant.0

pub returns : goal.returns
returns c =
    subst (λ pairs. IsTrue c.is_among.result ↔ IsSome (new_key pairs c.args.key)) c.self.view_is
    (holds_is c.self.inside.olds.items c.self.inside.news.items c.args.key c.is_among.result c.self.invariant.1
    (c.is_among.ensures ∙ ap (list_any (int_eq (to_z w64 (of_z w64 c.args.key)))) c.deref.ensures.value
    ∙ ap (λ k. list_any (int_eq k) c.self.inside.olds.items) (to_z-of_z c.ranges.key)))
