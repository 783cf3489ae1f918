-- Rows become values one after the other. The first that shows none ends it.
use Rattle.std.proofs.Common.{◌≡◌, ◌∷◌, ◌++◌, [], Some, ap, length, map, refl, rules, sym, subst, true, ◌∙◌}
use Rattle.std.specs.Prelude.{is_ok, slice_get}
use Rattle.std.specs.Vec.Iter.{into_iter_items}
use Rattle.std.proofs.lemmas.List.{append_assoc, map-append}
use Rattle.package_tables.proofs.Decoding.{none_shown}
use Rattle.package_tables.proofs.Seams.{at_seam}
use Rattle.package_tables.proofs.from_row.values_of.Goals as goal

pub returns-in_err-from_row-clause-none : goal.returns-in_err-from_row-clause-none
returns-in_err-from_row-clause-none g c =
    let next : into_iter_items c.loop-row.row-iterator ≡ c.in-Some.row ∷ into_iter_items c.next.new.self =
    search rules in
    let there = subst (λ rows. slice_get rows (length c.loop-row.yielded) ≡ Some c.in-Some.row)
    (sym (c.loop-row.invariant.whole ∙ ap (λ rows. c.loop-row.yielded ++ rows) next))
    (at_seam c.loop-row.yielded c.in-Some.row (into_iter_items c.next.new.self)) in
    none_shown g.T.FromRow.shown c.args.rows.items c.from_residual.result
    c.in_err-from_row.field-0.0 c.from_residual.ensures.1 (length c.loop-row.yielded) c.in-Some.row
    there c.in_err-from_row.ensures.none

pub loop-row-preserved : goal.loop-row-preserved
loop-row-preserved g c =
    let inv = c.loop-row.invariant in
    let good : is_ok c.push.result ≡ true = search rules in
    let items = rw good at c.push.ensures.items in
    let next : into_iter_items c.loop-row.row-iterator ≡ c.in-Some.row ∷ into_iter_items c.next.new.self =
    search rules in
    record {
      whole = rw (
        inv.whole,
        next,
        append_assoc c.loop-row.yielded (c.in-Some.row ∷ [])
            (into_iter_items c.next.new.self),
      ) refl;
      made = rw (items, map-append g.T.FromRow.shown c.loop-row.values.items (c.in_ok-from_row.field-0 ∷ []), inv.made)
          (ap (λ row. map g.T.FromRow.shown c.loop-row.values.items ++ row ∷ []) c.in_ok-from_row.ensures.value);
    }
