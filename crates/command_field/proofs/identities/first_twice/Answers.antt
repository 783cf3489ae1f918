-- One that is in the set; or none.
use Rattle.std.proofs.Common.{◌≡◌, ◌∙◌, sym, true, false, bytes_eq}
use Rattle.std.specs.Ordering.{nat_cmp}
use Rattle.std.specs.Cmp.Lexicographic.{slice_cmp}
use Rattle.std.specs.BTreeSet.{contains}
use Rattle.sheet_types.proofs.Basics.{not_true, not_false}
use Rattle.field_changes.proofs.Sets.{any_more, put_in}
use Rattle.command_field.proofs.Ids.{apart_more, counted_at, twice_at}
use Rattle.command_field.proofs.identities.first_twice.Goals as goal

pub returns-then-not-branch-clause-twice : goal.returns-then-not-branch-clause-twice
returns-then-not-branch-clause-twice c =
    let id = c.id-item.result in
    let there : contains (slice_cmp nat_cmp) c.loop-id.seen id ≡ true =
    not_false _ (sym c.in_ok-insert.ensures.added ∙ c.if-not-branch.true) in
    sym (twice_at c.args.ids.now c.loop-id.id-index id c.loop-id-test.true c.id-item.is
    (sym (c.loop-id.invariant.seen id) ∙ there))

pub returns-then-not-branch-clause-there : goal.returns-then-not-branch-clause-there
returns-then-not-branch-clause-there c =
    let id = c.id-item.result in
    let there : contains (slice_cmp nat_cmp) c.loop-id.seen id ≡ true =
    not_false _ (sym c.in_ok-insert.ensures.added ∙ c.if-not-branch.true) in
    counted_at c.args.ids.now c.loop-id.id-index id c.loop-id-test.true c.id-item.is
    (sym (c.loop-id.invariant.seen id) ∙ there)

pub loop-id-preserved : goal.loop-id-preserved
loop-id-preserved c =
    let id = c.id-item.result in
    let absent : contains (slice_cmp nat_cmp) c.loop-id.seen id ≡ false =
    not_true _ (sym c.in_ok-insert.ensures.added ∙ c.if-not-branch.false) in
    record {
      seen = any_more (λ q x. bytes_eq x q) (contains (slice_cmp nat_cmp) c.loop-id.seen)
          (contains (slice_cmp nat_cmp) c.insert.new.self) c.args.ids.now c.loop-id.id-index id c.loop-id-test.true
          c.id-item.is c.loop-id.invariant.seen
          (λ q. put_in c.loop-id.seen c.insert.new.self id c.in_ok-insert.ensures.updates q);
      apart = apart_more c.args.ids.now c.loop-id.id-index id c.loop-id-test.true c.id-item.is c.loop-id.invariant.apart
          (sym (c.loop-id.invariant.seen id) ∙ absent);
    }
