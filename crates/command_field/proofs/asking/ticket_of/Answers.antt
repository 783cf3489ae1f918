-- What the list says of a package.
use Rattle.std.proofs.Common.{◌≡◌, ◌∙◌, ap, sym, Some, None}
use Rattle.sheet_types.specs.Ordered.{entry}
use Rattle.world.specs.declared.reading.PackageSight.{PackageSight}
use Rattle.command_field.proofs.Tickets.{not_seen, seen_live, ticket_seen}
use Rattle.command_field.proofs.asking.ticket_of.Goals as goal

pub returns-in-Some-clause-some : goal.returns-in-Some-clause-some
returns-in-Some-clause-some g c = λ w stands.
    let sights = c.in_ok-sights.sights.items in
    let found : entry (λ (s : PackageSight). s.uuid) c.args.package sights ≡ Some c.in-Some.sight.now =
    ap (entry (λ (s : PackageSight). s.uuid) c.args.package) (sym c.as_slice.ensures.value)
    ∙ sym c.in-Some.ensures in
    let same = c.in_ok-sights.ensures w stands in (
      seen_live w c.args.package sights c.in-Some.sight.now same found,
      ticket_seen w c.args.package sights
          c.in-Some.sight.now same found,
    )

pub returns-clause-none : goal.returns-clause-none
returns-clause-none g c = λ w stands.
    let sights = c.in_ok-sights.sights.items in
    let none : entry (λ (s : PackageSight). s.uuid) c.args.package sights ≡ None =
    ap (entry (λ (s : PackageSight). s.uuid) c.args.package) (sym c.as_slice.ensures.value)
    ∙ sym c.in-None.ensures in
    not_seen w c.args.package sights (c.in_ok-sights.ensures w stands) none
