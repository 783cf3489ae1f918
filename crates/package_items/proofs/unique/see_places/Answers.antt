-- One tile more is noted, and in the end all are.
use Rattle.std.proofs.Common.{◌≡◌, ◌∙◌, [], ◌∷◌, ◌++◌, false, Ok, sym, ap, subst, to_z-of_z}
use Rattle.std.proofs.Common.{rules, FitsSigned, w64}
use Rattle.std.specs.List.{AllByRecursion, IsDistinct}
use Rattle.package_tables.specs.Package.{Tables}
use Rattle.sheet_types.proofs.Every.{All-weaker, All-of_map}
use Rattle.sheet_types.proofs.Same.{In}
use Rattle.identity_register.specs.Gathered.{tile_placed}
use Rattle.store_sql.proofs.Staying.{looks_stays, stays_then}
use Rattle.identity_register.proofs.Looking.{fails}
use Rattle.identity_register.proofs.Reaching.{stays_itself, goes_from, goes_on}
use Rattle.package_items.specs.Spots.{spot_at, is_same_spot}
use Rattle.package_items.specs.Tied.{is_same_place}
use Rattle.package_items.specs.Walks.{IsNextRow, placed_in, is_past}
use Rattle.package_items.specs.declared.user_tables.UserTable.TheVariants.{TileTable}
use Rattle.package_items.proofs.Apart.{distinct_of_map}
use Rattle.package_items.proofs.Deciding.{with_numbers, opened}
use Rattle.package_items.proofs.Seen.{IsNoted, goes_last, still_noted, noted_now, places_apart}
use Rattle.package_items.proofs.Walking.{same_number, none_met, one_met, all_met}
use Rattle.package_items.proofs.unique.see_places.Goals as goal

pub loop-init : goal.loop-init
loop-init g c = goes_from (stays_itself g.S.Store g.met.S.Store.shut_if_dirty g.met.S.Store.settled c.args.conn.now
    c.requires) (λ t numbers. none_met (IsNoted _) (placed_in TileTable t))

pub returns-in-None : goal.returns-in-None
returns-in-None g c =
    let spots = c.loop.spots.items in
    let answered = c.in_ok-next_row.was ∙ ap Ok c.in-None.is in
    goes_last {Fact = λ (t : Tables). AllByRecursion (IsNoted spots) (placed_in TileTable t)
    × IsDistinct same_number (placed_in TileTable t)} (λ t. IsDistinct is_same_place t.tiles)
    (with_numbers (goes_on (λ t x. IsNextRow TileTable c.loop.last t x) c.loop.invariant answered c.next_row.ensures
    (λ t sofar next numbers. (
      all_met (IsNoted spots) c.loop.last (placed_in TileTable t) next (sofar numbers),
      numbers TileTable,
    ))))
    (opened answered c.next_row.ensures) c.see_spots.result c.see_spots.ensures
    (λ t h apart. places_apart spots (subst (IsDistinct is_same_spot) c.deref.ensures.value apart) t.tiles
    (All-of_map (IsNoted spots) tile_placed t.tiles h.0) (distinct_of_map same_number tile_placed t.tiles h.1))

pub returns-in_err-push-in-Some : goal.returns-in_err-push-in-Some
returns-in_err-push-in-Some g c = fails c.from_residual-in_err-push-in-Some.result
    c.from_residual-in_err-push-in-Some.ensures.0 (stays_then c.loop.invariant.stays (looks_stays c.next_row.ensures))

pub loop-preserved : goal.loop-preserved
loop-preserved g c =
    let tile = c.in-Some.tile in
    let old = c.loop.spots.items in
    let new = c.push.new.self.items in
    let number : FitsSigned w64 c.in-Some.tile.number = search rules in
    let more : new ≡ old ++ spot_at tile ∷ [] = c.in_ok-push-in-Some.ensures.items
    ∙ ap (λ s. old ++ s ∷ []) c.spot_of.ensures in
    simp (to_z-of_z, number) (goes_on (λ t x. IsNextRow TileTable c.loop.last t x) c.loop.invariant
    (c.in_ok-next_row.was ∙ ap Ok c.in-Some.is) c.next_row.ensures
    (λ t sofar next numbers. one_met (IsNoted new) c.loop.last (placed_in TileTable t) tile (numbers TileTable) next
    (subst (In (spot_at tile)) (sym more) (noted_now old tile))
    (All-weaker (λ x. is_past c.loop.last x.number ≡ false → IsNoted old x)
    (λ x. is_past c.loop.last x.number ≡ false → IsNoted new x)
    (λ x h low. subst (In (spot_at x)) (sym more) (still_noted old (spot_at tile) x (h low)))
    (placed_in TileTable t) (sofar numbers))))

-- a look that failed leaves the store as it was too
pub returns-in_err-next_row : goal.returns-in_err-next_row
returns-in_err-next_row g c = fails c.from_residual.result c.from_residual.ensures.0
    (stays_then c.loop.invariant.stays (looks_stays c.next_row.ensures))
