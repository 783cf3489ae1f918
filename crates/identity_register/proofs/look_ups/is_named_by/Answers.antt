-- The table of a mapping names the row where one was found at the end of its kind.
use Rattle.std.proofs.Common.{◌≡◌, ◌∙◌, ap, pos, false, arith}
use Rattle.std.specs.Ordering.{int_eq}
use Rattle.std.proofs.lemmas.Int.{to_z-of_z, ints}
use Rattle.sheet_types.specs.World.{kind_number, base_kind}
use Rattle.package_tables.specs.Calls.{IsOneOf}
use Rattle.package_tables.specs.Mappings.{mapping_rows}
use Rattle.identity_register.specs.Answers.{is_named_by}
use Rattle.identity_register.proofs.Looking.{looked, tells}
use Rattle.identity_register.proofs.Answering.{one_tells}
use Rattle.identity_register.proofs.Ends.{named_at_base, named_at_other}
use Rattle.identity_register.proofs.look_ups.is_named_by.Goals as goal

pub returns-then-kind-number_of_kind : goal.returns-then-kind-number_of_kind
returns-then-kind-number_of_kind g c =
    let number = c.ranges.number in
    let base : c.number_of_kind.result ≡ pos (kind_number (base_kind c.args.mapping)) =
    c.number_of_kind.ensures ∙ ap (λ k. pos (kind_number k)) c.base_kind.ensures in
    let kind : c.args.kind ≡ pos (kind_number (base_kind c.args.mapping)) =
    grind (arith, ints, c.if-kind-number_of_kind.true, base) in
    tells (λ t found. found ≡ is_named_by c.args.mapping c.args.kind c.args.number t)
    (looked (λ t. IsOneOf (λ x. int_eq x.base_id c.args.number) (mapping_rows c.args.mapping t)) c.in_ok-found.was
    (simp to_z-of_z at c.pair_of_base.ensures))
    (λ t h. c.is_some.ensures ∙ one_tells (λ x. int_eq x.base_id c.args.number) (mapping_rows c.args.mapping t)
    c.in_ok-found.found h ∙ named_at_base c.args.mapping c.args.kind c.args.number t kind)

pub returns : goal.returns
returns g c =
    let number = c.ranges.number in
    let base : c.number_of_kind.result ≡ pos (kind_number (base_kind c.args.mapping)) =
    c.number_of_kind.ensures ∙ ap (λ k. pos (kind_number k)) c.base_kind.ensures in
    let other : int_eq (pos (kind_number (base_kind c.args.mapping))) c.args.kind ≡ false =
    grind (arith, ints, c.if-kind-number_of_kind.false, base) in
    tells (λ t found. found ≡ is_named_by c.args.mapping c.args.kind c.args.number t)
    (looked (λ t. IsOneOf (λ x. int_eq x.related_id c.args.number) (mapping_rows c.args.mapping t))
    c.in_ok-found-2.was (simp to_z-of_z at c.pair_of_related.ensures))
    (λ t h. c.is_some-2.ensures ∙ one_tells (λ x. int_eq x.related_id c.args.number) (mapping_rows c.args.mapping t)
    c.in_ok-found-2.found h ∙ named_at_other c.args.mapping c.args.kind c.args.number t c.requires.end other)
