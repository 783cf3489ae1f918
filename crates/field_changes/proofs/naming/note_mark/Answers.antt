-- The mark is put in, where there is one.
use Rattle.std.proofs.Common.{◌∙◌, ap, sym, ◌||◌, bytes_eq, false}
use Rattle.std.specs.Prelude.{option_map}
use Rattle.std.specs.Option.{option_map_or}
use Rattle.std.specs.Ordering.{nat_cmp}
use Rattle.std.specs.Cmp.Lexicographic.{slice_cmp}
use Rattle.std.specs.BTreeSet.{contains}
use Rattle.field_changes.specs.Keys.{key_of}
use Rattle.field_changes.proofs.Sets.{put_in}
use Rattle.field_changes.proofs.naming.note_mark.Goals as goal

pub returns-in_ok-insert : goal.returns-in_ok-insert
returns-in_ok-insert c = λ q.
    put_in c.args.marks.now c.insert.new.self c.of_mark.result c.in_ok-insert.ensures.updates q
    ∙ ap (λ k. contains (slice_cmp nat_cmp) c.args.marks.now q || bytes_eq k q)
    (c.of_mark.ensures ∙ ap (key_of 0 c.in-Some.identity) c.get.ensures)
    ∙ ap (λ o. contains (slice_cmp nat_cmp) c.args.marks.now q || option_map_or (λ m. bytes_eq m q)
    (option_map (λ id. key_of 0 id c.args.item.now.content) o) false) (sym c.in-Some.is)
