-- What the list says of a package that is live.
use Rattle.std.proofs.Common.{◌≡◌, ◌∙◌, ap, sym, Some, None}
use Rattle.sheet_types.specs.Ordered.{entry}
use Rattle.world.specs.declared.reading.PackageSight.{PackageSight}
use Rattle.views.proofs.Tickets.{is_seen, ticket_seen}
use Rattle.views.proofs.writing.ticket_of.Goals as goal

pub returns-in-Some : goal.returns-in-Some
returns-in-Some g c = λ w stands live.
    let sights = c.in_ok-sights.sights.items in
    let found : entry (λ (s : PackageSight). s.uuid) c.args.package sights ≡ Some c.in-Some.sight.now =
    ap (entry (λ (s : PackageSight). s.uuid) c.args.package) (sym c.as_slice.ensures.value)
    ∙ sym c.in-Some.ensures in
    ticket_seen w c.args.package sights c.in-Some.sight.now (c.in_ok-sights.ensures w stands) found

pub returns : goal.returns
returns g c = λ w stands live.
    let sights = c.in_ok-sights.sights.items in
    let none : entry (λ (s : PackageSight). s.uuid) c.args.package sights ≡ None =
    ap (entry (λ (s : PackageSight). s.uuid) c.args.package) (sym c.as_slice.ensures.value)
    ∙ sym c.in-None.ensures in
    absurd (is_seen w c.args.package sights (c.in_ok-sights.ensures w stands) none live)
