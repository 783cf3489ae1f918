-- Nothing was passed yet.
use Rattle.std.proofs.Common.{◌≡◌, ap, subst, sym, not, rules}
use Rattle.std.specs.Prelude.{filter}
use Rattle.std.specs.List.{list_any}
use Rattle.std.specs.Ordering.{nat_cmp}
use Rattle.std.specs.Cmp.Lexicographic.{slice_cmp}
use Rattle.std.specs.BTreeSet.{contains}
use Rattle.std.proofs.lemmas.List.Elements.{filter_agree}
use Rattle.field_changes.specs.Keys.{item_mark}
use Rattle.field_changes.specs.Naming.{is_marked}
use Rattle.field_changes.specs.Spare.{HoldsSpare}
use Rattle.field_changes.proofs.naming.walk_of.Goals as goal

pub returns : goal.returns
returns c = record {
  marks = c.in_ok-marks.ensures;
  seen = λ q. search rules;
  spare = subst (λ l. HoldsSpare l c.in_ok-spare.spare) (filter_agree
      (λ i. not (contains (slice_cmp nat_cmp) c.in_ok-marked.marked (item_mark i)))
      (λ i. not (list_any (is_marked (item_mark i)) c.args.file.now))
      (λ i. ap not (c.in_ok-marked.ensures (item_mark i))) c.args.items.now) c.in_ok-spare.ensures;
  counts = λ k. search rules;
}
