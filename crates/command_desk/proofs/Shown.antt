-- What a command of several requests would change is only shown: the world is read, if at all.
use Rattle.std.proofs.Common.{◌≡◌, ℕ, List, Option, Result, Ok, Err, inl, inr, subst, sym}
use Rattle.std.specs.Prelude.{MatchResult, true, false}
use Rattle.sqlite.specs.Store.{Ghosts}
use Rattle.package_tables.specs.declared.fault.Fault.{Fault}
use Rattle.world.specs.Worlds.{Seen}
use Rattle.command_bringing.specs.Brings.{Brings, EndsAnswer}
use Rattle.command_drops.specs.declared.holding.Holding.{Holding}
use Rattle.command_field.specs.declared.asking.Answer.{Answer}
use Rattle.command_field.specs.declared.asking.Answer.TheVariants.{
  Asked,
  NoSuchPackage,
  NoList,
  OtherPackage,
  Stale,
  OtherSystem,
  OtherFrame,
  Items,
  TwoAlike,
  NotFree,
}
use Rattle.command_field.specs.declared.asking.Ask.{Ask}
use Rattle.command_folder.specs.declared.endings.Ending.{Ending}
use Rattle.command_names.specs.declared.searching.Found.{Found}
use Rattle.command_naming.specs.Drops.{DropsFound, DropsHeld, DropsItem, DropsNamed}
use Rattle.command_naming.specs.declared.drops.DropOutcome.{DropOutcome}
use Rattle.command_naming.specs.declared.drops.DropOutcome.TheVariants.{Unnamed, Linked, Planned, Dropped}
use Rattle.command_naming.specs.declared.drops.Dropping.{Dropping}
use Rattle.command_requests.specs.Listing.{IsUntouched}
use Rattle.desk_http.specs.Connections.{IsServedBy}
use Rattle.desk_http.proofs.ServedBy.{read_first, told_by}
use Rattle.command_desk.specs.Changing.{as_shown, purpose_of}
use Rattle.command_desk.specs.declared.changing.Showing.{Showing}
use Rattle.command_desk.specs.declared.changing.Showing.TheVariants as showing

module _ {S : Type 0} (g : Ghosts S) {W : Type 0} (writer writer' : W) (before after : Option (List ℕ)) where
  -- requests that are shown, or why there are none
  shown : (how : Showing) (answer : Answer) (old new : Seen S) (failed fails : ℕ) (ending : Ending)
      → EndsAnswer g writer writer' before after (purpose_of how) answer old new failed fails ending → new ≡ old
  shown showing.List (Asked requests) old new failed fails ending is = is.0
  shown showing.Summary (Asked requests) old new failed fails ending is = is.0
  shown how NoSuchPackage old new failed fails ending is = is.0
  shown how NoList old new failed fails ending is = is.0
  shown how OtherPackage old new failed fails ending is = is.0
  shown how (Stale ticket) old new failed fails ending is = is.0
  shown how OtherSystem old new failed fails ending is = is.0
  shown how OtherFrame old new failed fails ending is = is.0
  shown how (Items lines) old new failed fails ending is = is.0
  shown how TwoAlike old new failed fails ending is = is.0
  shown how (NotFree taken) old new failed fails ending is = is.0

  -- what an edited file would change
  pub changes_served : (a : Ask) (text : Option (List ℕ)) (how : Showing) (old new : Seen S) (failed fails : ℕ)
      (ending : Ending) → Brings g writer writer' before after a text (purpose_of how) old new failed fails ending
      → IsServedBy g 1 old new
  changes_served a text how old new failed fails ending (inl (fault, read, ends, rest)) = told_by g old new read
  changes_served a text how old new failed fails ending (inr (answer, mid, read, told, is)) =
      let same = shown how answer mid new failed fails ending is in
      told_by g old new (subst (λ seen. IsUntouched g old seen) (sym same) read)

module _ {S N : Type 0} (g : Ghosts S) (Gives : Option (List ℕ) → N → N → Type 0) (d : Dropping) (ids ids' : N) where
  -- an item that is held so stays
  held_stays : (id : List ℕ) (h : Holding) (old new : Seen S) (outcome : DropOutcome) (failed fails : ℕ)
      → DropsHeld g Gives (as_shown d) id h old new ids ids' outcome failed fails → new ≡ old
  held_stays id h old new (Unnamed fault found) failed fails is = absurd is
  held_stays id h old new (Linked links) failed fails (may, are, same) = same
  held_stays id h old new (Planned requests) failed fails (may, due, are, each, same) = same
  held_stays id h old new (Dropped dropped) failed fails (may, due, is) =
      let wrong : true ≡ false = due in absurd (cc)

  item_stays : (id : List ℕ) (old new : Seen S) (outcome : DropOutcome) (failed fails : ℕ)
      → DropsItem g Gives (as_shown d) id old new ids ids' outcome failed fails → IsUntouched g old new
  item_stays id old new outcome failed fails is =
      subst (λ seen. IsUntouched g old seen)
      (sym (held_stays id is.holding is.read new outcome failed fails is.made)) is.untouched

  -- one that a word names, if any
  found_stays : (found : Found) (old new : Seen S) (outcome : DropOutcome) (failed fails : ℕ)
      → DropsFound g Gives (as_shown d) found old new ids ids' outcome failed fails → IsUntouched g old new
  found_stays found old new (Unnamed fault told) failed fails (unnamed, are, same) = inl same
  found_stays found old new (Linked links) failed fails (id, named, is) =
      item_stays id old new (Linked links) failed fails is
  found_stays found old new (Planned requests) failed fails (id, named, is) =
      item_stays id old new (Planned requests) failed fails is
  found_stays found old new (Dropped dropped) failed fails (id, named, is) =
      item_stays id old new (Dropped dropped) failed fails is

  pub drop_served : (old new : Seen S) (outcome : Result DropOutcome Fault) (failed fails : ℕ)
      → MatchResult outcome (λ o. DropsNamed g Gives (as_shown d) old new ids ids' o failed fails)
      (λ fault. IsUntouched g old new)
      → IsServedBy g 1 old new
  drop_served old new (Err fault) failed fails read = told_by g old new read
  drop_served old new (Ok outcome) failed fails is =
      read_first g old is.read new is.untouched
      (told_by g is.read new (found_stays is.found is.read new outcome failed fails is.made))
