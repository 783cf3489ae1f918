-- The names are those of the file.
use Rattle.std.proofs.Common.{◌≡◌, ◌∙◌, ap, not, subst, IfOk}
use Rattle.std.specs.Ordering.{nat_cmp}
use Rattle.std.specs.Cmp.Lexicographic.{slice_cmp}
use Rattle.std.specs.BTreeSet.{contains}
use Rattle.std.proofs.lemmas.List.Elements.{filter_agree}
use Rattle.sheet_types.specs.Cut.{identities}
use Rattle.sheet_types.specs.Ordered.{has}
use Rattle.field_changes.proofs.parts.gone_items.Goals as goal

pub returns : goal.returns
returns c =
    subst (λ l. IfOk c.unknown.result (λ ids. ids.items ≡ identities l))
    (filter_agree (λ i. not (contains (slice_cmp nat_cmp) c.in_ok-known.known i.identity))
    (λ i. not (has (λ n. n.identity) i.identity c.args.names.now))
    (λ i. ap not (c.in_ok-known.ensures i.identity)) c.args.items.now) c.unknown.ensures
