-- Each part is decided by what was read of it.
use Rattle.std.proofs.Common.{◌≡◌, true, sym, subst}
use Rattle.std.specs.Prelude.{IsSorted}
use Rattle.std.specs.List.{AllByRecursion}
use Rattle.sheet_types.specs.declared.command.Mapping.TheVariants.{TilesMedia, RowsMedia, RowsTiles}
use Rattle.package_items.specs.Answers.{Decides}
use Rattle.package_items.specs.Ties.{key_cmp, has_names}
use Rattle.package_items.proofs.Judging.{at_two, AreAmong, tied_decided}
use Rattle.package_items.proofs.tied.are_tied_by.Goals as goal

pub returns : goal.returns
returns c = λ t known.
    let keys = c.args.keys in
    let a = c.has_all-rows_have_names.result in
    let b = c.has_all-names_have_rows.result in
    let x = c.have_names-tiles_media.result in
    let y = c.have_names-rows_media.result in
    let z = c.have_names-rows_tiles.result in
    tied_decided t keys known c.in_order-names.result.items c.in_order-rows.result.items c.in_order-names.ensures.same
    c.in_order-rows.ensures.same a b x y z
    (at_two (λ s k. Decides (AreAmong s k) a) c.deref.ensures.value c.deref-2.ensures.value
    c.has_all-rows_have_names.ensures)
    (at_two (λ s k. Decides (AreAmong s k) b) c.deref-3.ensures.value c.deref-4.ensures.value
    c.has_all-names_have_rows.ensures)
    (at_two (λ s l. Decides (AllByRecursion (λ r. has_names s TilesMedia r ≡ true) l) x) c.deref-5.ensures.value
    c.deref-6.ensures.value c.have_names-tiles_media.ensures)
    (at_two (λ s l. Decides (AllByRecursion (λ r. has_names s RowsMedia r ≡ true) l) y) c.deref-7.ensures.value
    c.deref-8.ensures.value c.have_names-rows_media.ensures)
    (at_two (λ s l. Decides (AllByRecursion (λ r. has_names s RowsTiles r ≡ true) l) z) c.deref-9.ensures.value
    c.deref-10.ensures.value c.have_names-rows_tiles.ensures)

-- what is searched stands in its order
pub has_all-rows_have_names-requires : goal.has_all-rows_have_names-requires
has_all-rows_have_names-requires c = subst (IsSorted key_cmp) (sym c.deref.ensures.value) c.in_order-names.ensures.order

pub has_all-names_have_rows-requires : goal.has_all-names_have_rows-requires
has_all-names_have_rows-requires c = subst (IsSorted key_cmp) (sym c.deref-3.ensures.value)
    c.in_order-rows.ensures.order

pub have_names-tiles_media-requires : goal.have_names-tiles_media-requires
have_names-tiles_media-requires c = subst (IsSorted key_cmp) (sym c.deref-5.ensures.value)
    c.in_order-names.ensures.order

pub have_names-rows_media-requires : goal.have_names-rows_media-requires
have_names-rows_media-requires c = subst (IsSorted key_cmp) (sym c.deref-7.ensures.value) c.in_order-names.ensures.order

pub have_names-rows_tiles-requires : goal.have_names-rows_tiles-requires
have_names-rows_tiles-requires c = subst (IsSorted key_cmp) (sym c.deref-9.ensures.value) c.in_order-names.ensures.order
