-- What a package can take comes home.
use Rattle.std.specs.Prelude.{◌≡◌, ℕ, Bool, true, false, cond, not, List, [], ◌∷◌, ◌++◌, map}
use Rattle.std.specs.Prelude.{length, Ok, Err}
use Rattle.std.proofs.Common.{arith}
use Rattle.std.proofs.lemmas.List.{length-append}
use Rattle.std.proofs.lemmas.List.Sums.{sum_by-append}
use Rattle.std.specs.List.{AllByRecursion}
use Rattle.sheet_types.specs.Ordered.{is_among}
use Rattle.sheet_types.specs.Register.{IsRegister}
use Rattle.sheet_types.specs.Step.{Run, IsFault}
use Rattle.sheet_types.specs.World.{World, is_live, holdings, link_key, is_tile, is_medium, is_row}
use Rattle.sheet_types.specs.declared.command.Item.{Item}
use Rattle.sheet_types.specs.declared.command.Request.{Request}
use Rattle.sheet_types.proofs.Sums.{filter_less}
use Rattle.field_changes.specs.declared.held.HeldItem.{HeldItem}
use Rattle.field_changes.specs.declared.held.HeldLink.{HeldLink}
use Rattle.field_run_laws.specs.Lists.{Reply, AreNew, AreGiven, IsUnrefused, HoldsNow}
use Rattle.field_laws.specs.Changing.{Changes, names_in, ChangesComeHome, RoomForBoth}
use Rattle.field_laws.specs.Making.{items_home, links_home, items_left, links_left}
use Rattle.field_laws.proofs.Makes.{changes_make, more_adds}
use Rattle.field_laws.proofs.Turns.{room_within, filter_shorter}
use Rattle.field_laws.proofs.Unrefused.{nothing_is_refused}

-- where nothing is refused, and nothing fails, each reply is a receipt
all_given : (replies : List Reply) → IsUnrefused replies → AllByRecursion (λ reply. IsFault reply → ⊥) replies
    → AreGiven replies
all_given [] unrefused sound = tt
all_given (Ok r ∷ replies) unrefused sound = (tt, all_given replies unrefused sound.1)
all_given (Err why ∷ replies) unrefused sound = absurd (sound.0 unrefused)

-- with `more` and without
either : (more : Bool) (w : World) (p : List ℕ) (ticket : ℕ) (moment : List ℕ) (file : List HeldItem)
    (held : List HeldLink) (requests : List Request) (replies : List Reply) (next : World)
    → IsRegister w → is_live w p ≡ true → (changes : Changes w p ticket moment more file held requests)
    → AreNew w requests → Run w requests replies next → AreGiven replies
    → HoldsNow w next p (items_home more (names_in w p ticket file) file (holdings w p).items)
    (links_home more (holdings w p).links changes.for_file.file_links) (length requests)
either true = more_adds
either false = changes_make

pub changes_come_home : ChangesComeHome
changes_come_home w p ticket moment more file held requests replies next register live changes can run sound =
    let given : AreGiven replies = all_given replies (nothing_is_refused w p ticket moment more file held requests
    replies next register live changes can run) sound in (
      given,
      either more w p ticket moment file held requests replies next register live changes can.requests_new run
          given,
    )

pub room_for_both : RoomForBoth
room_for_both parts x tiles media rows joins =
    let left : List Item = items_left parts x.items in
    room_within (parts.adds.items ++ left) (parts.links.items ++ links_left parts x.links) (record {
      tiles = omega (
        arith,
        tiles,
        sum_by-append (λ i. cond (is_tile i) 1 0) parts.adds.items left,
        filter_less
            (λ i. cond (is_tile i) 1 0) (λ i. not (is_among parts.deletes.items i.identity)) x.items,
      );
      media = omega (
        arith,
        media,
        sum_by-append (λ i. cond (is_medium i) 1 0) parts.adds.items left,
        filter_less
            (λ i. cond (is_medium i) 1 0) (λ i. not (is_among parts.deletes.items i.identity)) x.items,
      );
      rows = omega (
        arith,
        rows,
        sum_by-append (λ i. cond (is_row i) 1 0) parts.adds.items left,
        filter_less
            (λ i. cond (is_row i) 1 0) (λ i. not (is_among parts.deletes.items i.identity)) x.items,
      );
      joins = omega (
        arith,
        joins,
        length-append parts.links.items (links_left parts x.links),
        filter_shorter
            (λ l. not (is_among (map link_key parts.unlinks.items) (link_key l))) x.links,
      );
    })
