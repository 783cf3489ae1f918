-- The register that a page tells of, as a world has it. Profile.
use Rattle.std.specs.Prelude.{◌≡◌, ℕ, List, [], ◌∷◌, flat_map, map, Option, Some, option_map, Result}
use Rattle.std.specs.Prelude.{IfOk, slice_get}
use Rattle.sqlite.specs.Held.{Held}
use Rattle.sqlite.specs.Store.{Ghosts}
use Rattle.sheet_types.specs.Answers.{PackageSight as ModelSight, package_sights, sums_held}
use Rattle.sheet_types.specs.Custody.{ticket}
use Rattle.sheet_types.specs.Ordered.{arranged}
use Rattle.sheet_types.specs.World.{World, Package, holdings, link_kind, receipts_of}
use Rattle.sheet_types.specs.declared.command.Relation.{Relation}
use Rattle.package_tables.specs.declared.fault.Fault.{Fault}
use Rattle.view_history.specs.Stores.{AreClean}
use Rattle.view_report.specs.Registers.{number_of, thing_of}
use Rattle.view_report.specs.declared.registers.Live.{Live}
use Rattle.view_report.specs.declared.registers.Name.{Name}
use Rattle.view_report.specs.declared.registers.Register.{Register}
use Rattle.view_report.specs.declared.registers.Thing.{Thing}
use Rattle.view_report.specs.declared.registers.Tie.{Tie}
use Rattle.command_requests.specs.Listing.{IsUntouched as IsUntouchedWorld}
use Rattle.view_world.specs.Kept.{AreKept}
use Rattle.view_world.specs.Looks.{IsUntouched}
use Rattle.view_world.specs.declared.packages.Kept.{Kept}
use Rattle.world.specs.Worlds.{Seen, StandsFor, held}
use Rattle.view_page.specs.declared.contents.Contents.{Contents}

-- ---- of a world

-- a link that a package holds
abbrev pub tie_of : List ℕ → Relation → Tie
tie_of holder l = record { holder = holder; kind = link_kind l.mapping; base = l.base; other = l.other }

-- the items and the links that stand in the package of a UUID
abbrev pub things_under : World → List ℕ → List Thing
things_under w p = map (thing_of p) (holdings w p).items

abbrev pub ties_under : World → List ℕ → List Tie
ties_under w p = map (tie_of p) (holdings w p).links

-- lenders before their loans, as a map draws them
abbrev pub depth_key : ModelSight → List ℕ
depth_key s = s.depth ∷ []

abbrev pub by_depth : List ModelSight → List ModelSight
by_depth sights = arranged depth_key sights

-- a live package, with the number of the receipt that made it, and how many splits there were up to that one
abbrev pub live_of : World → Package → Live
live_of w p = record {
  uuid = p.uuid;
  parent = p.parent;
  depth = p.depth;
  loan = p.loan;
  number = number_of (receipts_of w) p.loan;
  ticket = ticket w p.uuid;
  sums = sums_held p;
}

abbrev pub loan_key : Live → List ℕ
loan_key l = l.loan ∷ []

-- What packages hold is what stands under their UUIDs, in turn.
pub record AreContents {X : Type 0} (w : World) (uuid : X → List ℕ) (packages : List X) (c : Contents) :
    Type 0 where
  pub things : c.things.items ≡ flat_map (λ x. things_under w (uuid x)) packages
  pub ties : c.ties.items ≡ flat_map (λ x. ties_under w (uuid x)) packages

-- What was seen of a world: what it keeps of its packages, and what they hold, lenders before
-- their loans.
pub record IsSeenOf (w : World) (kept : Kept) (c : Contents) : Type 0 where
  pub kept_so : AreKept w kept.sights.items kept.sums.items
  pub held : AreContents w (λ s. s.uuid) (by_depth (package_sights w)) c

-- All that a register tells is the world's: each package with its sums, each item and link with
-- its holder, each receipt. Packages stand in the order of the receipts that made them.
pub record IsRegisterOf (w : World) (names : List Name) (r : Register) : Type 0 where
  pub frame : r.frame ≡ w.frame
  pub packages : r.packages.items ≡ arranged loan_key (map (live_of w) w.packages)
  pub archive : option_map (λ p. p.uuid) (slice_get r.packages.items 0) ≡ Some r.archive
  pub things : r.things ≡ flat_map (λ s. things_under w s.uuid) (by_depth (package_sights w))
  pub ties : r.ties.items ≡ flat_map (λ s. ties_under w s.uuid) (by_depth (package_sights w))
  pub receipts : r.receipts.items ≡ receipts_of w
  pub named : r.names ≡ names

module _ {S : Type 0} (g : Ghosts S) where
  -- A world ended with a look at all that it holds. It was only read, and so were its stores.
  -- Where each disk has given back what was written, the answer is true of each world that it
  -- stood for.
  pub record LooksThrough {X : Type 0} (Answer : World → X → Type 0) (seen : Seen S)
      (stores : List (Held S)) (r : Result X Fault) : Type 0 where
    pub read : Seen S
    pub world : IsUntouchedWorld g seen read
    pub stores_read : IsUntouched g (held g read) stores
    pub told : AreClean g stores → IfOk r (λ x. (w : World) → StandsFor g seen w → Answer w x)
