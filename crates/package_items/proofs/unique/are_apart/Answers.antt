-- A set of as many keys as the list has holds each once.
use Rattle.std.proofs.Common.{◌≡◌, length, sym, ◌∙◌, rules}
use Rattle.std.specs.Ordering.{eq_by_cmp}
use Rattle.std.specs.Set.{distinct_count}
use Rattle.std.proofs.lemmas.Cmp.{eq_by_cmp_equiv}
use Rattle.std.proofs.lemmas.Map.Made.{IsDistinct-from_count}
use Rattle.std.proofs.lemmas.Map.Views.{btree_set_len-from_list, exact_unsigned_eq}
use Rattle.package_items.proofs.unique.are_apart.Goals as goal

pub returns : goal.returns
returns g c = λ same.
    let order = g.met.K.Ord.total in
    let keys = c.args.keys.items in
    let long : c.len-count.result ≡ length keys = search rules in
    let count : distinct_count (eq_by_cmp g.K.Ord.cmp) keys ≡ length keys =
    sym (btree_set_len-from_list order keys c.in_ok-set.set c.in_ok-set.ensures) ∙ sym c.len.ensures.len
    ∙ exact_unsigned_eq c.len.result c.len-count.result same ∙ long in
    IsDistinct-from_count (eq_by_cmp_equiv order) keys count
