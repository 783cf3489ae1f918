-- Those that live are found among those that may live.
use Rattle.std.specs.Prelude.{◌≡◌, ◌||◌, map, filter}
use Rattle.std.proofs.Common.{◌∙◌, ap}
use Rattle.std.specs.List.{list_any}
use Rattle.opening_faults.specs.declared.sights.Sight.{Sight}
use Rattle.opening_faults.specs.Sights.{is_root}
use Rattle.opening_faults.specs.Splits.{is_lent_in}
use Rattle.opening_live.specs.Chosen.{flagged, live_flags}
use Rattle.opening_live.specs.Named.{names_by}
use Rattle.opening_live.proofs.Named.{live_twice, named_test}
use Rattle.opening_live.proofs.choosing.live_packages.Goals as goal

pub returns : goal.returns
returns c =
    let sights = c.args.sights.items in
    let packages = c.args.packages.now in
    let loans = c.in_ok-loans.loans in
    let t = λ (s : Sight). is_root s || is_lent_in loans s in
    let test = named_test sights loans (λ key. c.in_ok-loans.ensures key
    ∙ ap (list_any (λ s. names_by s key)) c.deref.ensures.value) in
    let flags : c.deref-3.result.now ≡ map t sights = c.deref-3.ensures.value ∙ c.in_ok-flags.ensures
    ∙ ap (map t) c.deref-2.ensures.value in
    let few : c.deref-4.result.now ≡ filter t sights = c.deref-4.ensures.value ∙ c.in_ok-sights.ensures in
    let live : c.deref-6.result.now ≡ live_flags (filter t sights) =
    c.deref-6.ensures.value ∙ c.in_ok-reached.ensures.live ∙ ap live_flags few in
    let among : c.deref-5.result.now ≡ flagged (map t sights) packages =
    c.deref-5.ensures.value ∙ c.in_ok-packages.ensures ∙ ap (λ fs. flagged fs packages) flags in
    c.in_ok-chosen.ensures ∙ ap (λ fs. flagged fs c.deref-5.result.now) live
    ∙ ap (flagged (live_flags (filter t sights))) among ∙ live_twice sights packages t test
