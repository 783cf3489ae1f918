-- The keys are those of the others.
use Rattle.std.proofs.Common.{◌≡◌, ◌∙◌, ap, not, subst, sym, IfOk}
use Rattle.std.specs.Prelude.{filter}
use Rattle.std.specs.Ordering.{nat_cmp}
use Rattle.std.specs.Cmp.Lexicographic.{slice_cmp}
use Rattle.std.specs.BTreeSet.{contains}
use Rattle.std.proofs.lemmas.List.Elements.{filter_agree}
use Rattle.sheet_types.specs.Ordered.{has}
use Rattle.sheet_types.specs.World.{link_key}
use Rattle.field_changes.proofs.parts.beyond.Goals as goal

pub returns : goal.returns
returns c =
    subst (λ l. IfOk c.without_keys.result (λ left. left.items ≡ l))
    (filter_agree (λ k. not (contains (slice_cmp nat_cmp) c.in_ok-keys.keys (link_key k)))
    (λ k. not (has link_key (link_key k) c.args.others.now)) (λ k. ap not (c.in_ok-keys.ensures (link_key k)))
    c.args.links.now) c.without_keys.ensures
