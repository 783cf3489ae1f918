-- Both ends are looked for.
use Rattle.std.proofs.Common.{◌≡◌, ◌∙◌, pos, ap, rules, FitsSigned, w64}
use Rattle.std.specs.Prelude.{◌&&◌}
use Rattle.std.proofs.lemmas.Int.{to_z-of_z}
use Rattle.sheet_types.specs.World.{kind_number, base_kind, other_kind}
use Rattle.package_items.specs.Ties.{has_key}
use Rattle.package_items.proofs.tied.has_names.Goals as goal

pub returns : goal.returns
returns c =
    let names = c.args.names.now in
    let m = c.args.mapping in
    let pair = c.args.pair in
    let one : FitsSigned w64 c.number_of_kind.result = search rules in
    let two : FitsSigned w64 c.number_of_kind-2.result = search rules in
    let first : FitsSigned w64 c.args.pair.base_id = search rules in
    let second : FitsSigned w64 c.args.pair.related_id = search rules in
    let base : c.number_of_kind.result ≡ pos (kind_number (base_kind m)) =
    c.number_of_kind.ensures ∙ ap (λ k. pos (kind_number k)) c.base_kind.ensures in
    let other : c.number_of_kind-2.result ≡ pos (kind_number (other_kind m)) =
    c.number_of_kind-2.ensures ∙ ap (λ k. pos (kind_number k)) c.other_kind.ensures in
    λ n. (simp (to_z-of_z, one, first) at c.has-base.ensures ∙ ap (λ k. has_key names (k, pair.base_id)) base) n &&
    (simp (to_z-of_z, two, second) at c.has-other.ensures ∙ ap (λ k. has_key names (k, pair.related_id)) other) n
