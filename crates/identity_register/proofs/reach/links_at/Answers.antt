-- The item is at the end of its kind.
use Rattle.std.proofs.Common.{◌≡◌, ◌∙◌, ap, sym, pos, true, false, arith}
use Rattle.std.specs.Prelude.{◌||◌}
use Rattle.std.specs.Ordering.{int_eq}
use Rattle.std.proofs.lemmas.Int.{to_z-of_z, ints}
use Rattle.sheet_types.specs.World.{kind_number, base_kind, other_kind}
use Rattle.identity_register.specs.Reach.{AreLinksAt}
use Rattle.identity_register.proofs.Contents.{int_same}
use Rattle.identity_register.proofs.Looking.{asked}
use Rattle.identity_register.proofs.reach.links_at.Goals as goal

pub returns-then-kind-number_of_kind : goal.returns-then-kind-number_of_kind
returns-then-kind-number_of_kind g c =
    let number = c.ranges.number in
    let base : c.number_of_kind.result ≡ pos (kind_number (base_kind c.args.mapping)) =
    c.number_of_kind.ensures ∙ ap (λ k. pos (kind_number k)) c.base_kind.ensures in
    let kind : pos (kind_number (base_kind c.args.mapping)) ≡ c.args.kind =
    grind (arith, ints, c.if-kind-number_of_kind.true, base) in
    asked (λ k t links. AreLinksAt c.args.mapping k c.args.number c.args.identity t links.items) kind
    (simp to_z-of_z at c.links_at_base.ensures)

pub returns : goal.returns
returns g c =
    let number = c.ranges.number in
    let base : c.number_of_kind.result ≡ pos (kind_number (base_kind c.args.mapping)) =
    c.number_of_kind.ensures ∙ ap (λ k. pos (kind_number k)) c.base_kind.ensures in
    let none : int_eq (pos (kind_number (base_kind c.args.mapping))) c.args.kind ≡ false =
    grind (arith, ints, c.if-kind-number_of_kind.false, base) in
    let end : int_eq (pos (kind_number (other_kind c.args.mapping))) c.args.kind ≡ true =
    sym (ap (λ b. b || int_eq (pos (kind_number (other_kind c.args.mapping))) c.args.kind) none)
    ∙ c.requires.end in
    asked (λ k t links. AreLinksAt c.args.mapping k c.args.number c.args.identity t links.items)
    (int_same _ c.args.kind end) (simp to_z-of_z at c.links_at_other.ensures)
