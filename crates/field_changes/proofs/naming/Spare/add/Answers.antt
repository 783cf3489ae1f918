-- It stands behind those like it.
use Rattle.std.proofs.Common.{◌≡◌, ◌≤◌, ◌∙◌, ap, length, arith, bytes_eq, Some, cond}
use Rattle.std.specs.Prelude.{unwrap_or}
use Rattle.std.specs.Ordering.{nat_cmp}
use Rattle.std.specs.Cmp.Lexicographic.{slice_cmp}
use Rattle.std.specs.BTreeMap.{get}
use Rattle.std.proofs.lemmas.List.Sums.{count_by-le-length}
use Rattle.field_changes.specs.Keys.{same_content, rank_key}
use Rattle.field_changes.specs.Naming.{copies}
use Rattle.field_changes.proofs.Sets.{at_key}
use Rattle.field_changes.proofs.Counting.{counted, placed}
use Rattle.field_changes.proofs.naming.Spare.add.Goals as goal

pub count_up-requires : goal.count_up-requires
count_up-requires c =
    let x = c.args.item.now.content in
    let many : unwrap_or (get (slice_cmp nat_cmp) c.args.self.now.counts (rank_key 0 x)) 0
    ≡ copies (λ i. i.content) x c.requires.0 = c.requires.1.counts x in
    let few : copies (λ i. i.content) x c.requires.0 ≤ length c.requires.0 =
    count_by-le-length (λ i. same_content x i.content) c.requires.0 in
    omega (arith, many, few, c.requires.2)

pub returns : goal.returns
returns c = λ left holds.
    let x = c.args.item.now in
    record {
      counts = counted (λ i. i.content) c.args.self.now.counts c.count_up.new.counts left x c.in_ok-place.place
          holds.counts c.in_ok-place.ensures.before c.in_ok-place.ensures.after;
      places = placed c.args.self.now.places c.insert.new.self left x c.in_ok-place.place holds.places
          (c.in_ok-place.ensures.before ∙ holds.counts x.content)
          (λ q. at_key c.args.self.now.places c.insert.new.self c.of_rank.result (Some x.identity)
          c.in_ok-insert.ensures.updates q ∙ ap (λ k. cond (bytes_eq k q) (Some x.identity)
          (get (slice_cmp nat_cmp) c.args.self.now.places q)) c.of_rank.ensures);
    }
