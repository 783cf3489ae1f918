-- An item that is its own counts for none.
use Rattle.std.proofs.Common.{◌≡◌, ◌≤◌, ◌+◌, ◌∙◌, ap, length, arith, [], Some, bytes_eq, cond}
use Rattle.std.specs.Prelude.{unwrap_or}
use Rattle.std.specs.Ordering.{nat_cmp}
use Rattle.std.specs.Cmp.Lexicographic.{slice_cmp}
use Rattle.std.specs.BTreeMap.{get}
use Rattle.field_changes.specs.Keys.{rank_key}
use Rattle.field_changes.specs.Naming.{copies, others, unmarked, shared_name}
use Rattle.field_changes.proofs.Walking.{few, own_name, other_name, walk_own, walk_other}
use Rattle.field_changes.proofs.naming.Walk.next.Goals as goal

pub returns-in-Some-clause-name : goal.returns-in-Some-clause-name
returns-in-Some-clause-name c = λ items file before w.
    let own = rw c.in-Some.is at (c.own-own.ensures items file before w) in
    own_name items file before c.args.item.now c.in-Some.identity own.0 own.1

pub returns-in-Some-clause-walk : goal.returns-in-Some-clause-walk
returns-in-Some-clause-walk c = λ items file before w.
    let own = rw c.in-Some.is at (c.own-own.ensures items file before w) in
    walk_own items file before c.args.item.now c.args.self.now c.note_mark.new.marks own.0 c.in_ok-note_mark.ensures w

pub count_up-requires : goal.count_up-requires
count_up-requires c =
    let x = c.get-content.result.now in
    let many : unwrap_or (get (slice_cmp nat_cmp) c.args.self.now.counts (rank_key 0 x)) 0
    ≡ copies (λ k. k) x (others c.requires.0 [] c.requires.2) = c.requires.3.counts x in
    let less : copies (λ k. k) x (others c.requires.0 [] c.requires.2) ≤ length c.requires.2 =
    few c.requires.0 c.requires.2 x in
    omega (arith, many, less, c.requires.4)

pub returns-clause-name : goal.returns-clause-name
returns-clause-name c = λ items file before w.
    let x = c.get-content.result.now in
    let none = rw c.in_default.is at (c.own-own.ensures items file before w) in
    other_name items file before c.args.item.now c.name.result none
    (c.name.ensures (unmarked items file) w.spare ∙ ap (λ n. shared_name (unmarked items file) x n)
    (c.in_ok-place.ensures.before ∙ w.counts x)
    ∙ ap (λ k. shared_name (unmarked items file) k (copies (λ y. y) k (others items [] before))) c.get-content.ensures)

pub returns-clause-walk : goal.returns-clause-walk
returns-clause-walk c = λ items file before w.
    let none = rw c.in_default.is at (c.own-own.ensures items file before w) in
    walk_other items file before c.args.item.now c.args.self.now c.note_mark.new.marks c.count_up.new.counts
    c.in_ok-place.place none c.in_ok-note_mark.ensures
    (c.in_ok-place.ensures.before ∙ ap (λ k. unwrap_or (get (slice_cmp nat_cmp) c.args.self.now.counts
    (rank_key 0 k)) 0) c.get-content.ensures)
    (λ q. c.in_ok-place.ensures.after q ∙ ap (λ k. cond (bytes_eq (rank_key 0 k) q)
    (Some (c.in_ok-place.place + 1)) (get (slice_cmp nat_cmp) c.args.self.now.counts q)) c.get-content.ensures) w
