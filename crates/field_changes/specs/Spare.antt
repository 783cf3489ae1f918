-- What the maps of the naming hold.
use Rattle.std.specs.Prelude.{◌≡◌, ℕ, List, [], unwrap_or, filter}
use Rattle.std.specs.List.{list_any}
use Rattle.std.specs.Ordering.{nat_cmp}
use Rattle.std.specs.Cmp.Lexicographic.{slice_cmp}
use Rattle.std.specs.Prelude.{slice_get}
use Rattle.std.specs.BTreeMap.{BTreeMap, get}
use Rattle.std.specs.BTreeSet.{contains}
use Rattle.sheet_types.specs.Ordered.{has}
use Rattle.sheet_types.specs.declared.command.Content.{Content}
use Rattle.sheet_types.specs.declared.command.Item.{Item}
use Rattle.field_changes.specs.Keys.{item_mark, rank_key}
use Rattle.field_changes.specs.Naming.{alike, copies, is_marked, others, unmarked}
use Rattle.field_changes.specs.declared.held.HeldItem.{HeldItem}
use Rattle.field_changes.specs.declared.naming.Spare.{Spare}
use Rattle.field_changes.specs.declared.naming.Walk.{Walk}

-- of each content how many there are
abbrev pub HoldsCounts : {X : Type 0} → (X → Content) → List X → BTreeMap (List ℕ) ℕ → Type 0
HoldsCounts of xs m = (c : Content) → unwrap_or (get (slice_cmp nat_cmp) m (rank_key 0 c)) 0 ≡ copies of c xs

-- how many items there are of each content, and which stands at each place among them
pub record HoldsSpare (left : List Item) (s : Spare) : Type 0 where
  pub counts : HoldsCounts (λ i. i.content) left s.counts
  pub places : (c : Content) (place : ℕ) → get (slice_cmp nat_cmp) s.places (rank_key place c)
      ≡ slice_get (alike c left) place

-- the items of a file have names, of which these stand before
pub record IsWalk (items : List Item) (file before : List HeldItem) (w : Walk) : Type 0 where
  pub marks : (q : List ℕ) → contains (slice_cmp nat_cmp) w.marks q ≡ has item_mark q items
  pub seen : (q : List ℕ) → contains (slice_cmp nat_cmp) w.seen q ≡ list_any (is_marked q) before
  pub spare : HoldsSpare (unmarked items file) w.spare
  pub counts : HoldsCounts (λ c. c) (others items [] before) w.counts
