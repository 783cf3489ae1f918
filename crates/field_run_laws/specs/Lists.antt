-- Lists of requests that add, delete, link and unlink in one package. Profile.
use Rattle.std.specs.Prelude.{◌≡◌, ℕ, Bool, false, ◌||◌, List, [], ◌∷◌, ◌++◌, map, length}
use Rattle.std.specs.Prelude.{is_some, bytes_eq, Result}
use Rattle.std.specs.Prelude.{Ok, Err}
use Rattle.std.specs.List.{list_any, AllByRecursion}
use Rattle.sheet_types.specs.Ordered.{put, without, is_among}
use Rattle.sheet_types.specs.Custody.{kept}
use Rattle.sheet_types.specs.Lines.{HasTypes}
use Rattle.sheet_types.specs.Step.{IsFault, added_item, relation}
use Rattle.sheet_types.specs.World.{World, is_live, holdings, receipts_of, item_key, link_key}
use Rattle.sheet_types.specs.declared.command.Command.{Command}
use Rattle.sheet_types.specs.declared.command.Command.TheVariants.{Add, Delete, Link, Unlink, Split, Merge}
use Rattle.sheet_types.specs.declared.command.Item.{Item}
use Rattle.sheet_types.specs.declared.command.Relation.{Relation}
use Rattle.sheet_types.specs.declared.command.Request.{Request}
use Rattle.sheet_types.specs.declared.receipt.Receipt.{Receipt}
use Rattle.sheet_types.specs.declared.refusal.Refusal.{Refusal}

abbrev pub Reply : Type 0
Reply = Result Receipt Refusal

-- ---- the requests

-- some key stands there twice
abbrev pub has_twice : List (List ℕ) → Bool
has_twice [] = false
has_twice (k ∷ ks) = is_among ks k || has_twice ks

-- the command adds, deletes, links or unlinks in this package
abbrev pub IsWithin : List ℕ → Command → Type 0
IsWithin p (Add q identity content) = q ≡ p
IsWithin p (Delete q identity) = q ≡ p
IsWithin p (Link q mapping base other) = q ≡ p
IsWithin p (Unlink q mapping base other) = q ≡ p
IsWithin p (Split q child mode rect) = ⊥
IsWithin p (Merge child into ticket) = ⊥

-- each does, and its values are of their types
abbrev pub AreWithin : List ℕ → List Request → Type 0
AreWithin p qs = AllByRecursion (λ q. HasTypes q.command × IsWithin p q.command) qs

-- a receipt of the request's identity is kept
abbrev pub is_kept : World → Request → Bool
is_kept w q = is_some (kept w q.id)

-- no request is kept, and no two have one identity
pub record AreNew (w : World) (qs : List Request) : Type 0 where
  pub unkept : list_any (is_kept w) qs ≡ false
  pub apart : has_twice (map (λ q. q.id) qs) ≡ false

-- ---- what they make

-- the items of the package after a command
abbrev pub items_after : Command → List Item → List Item
items_after (Add p identity content) items = put item_key (added_item identity content) items
items_after (Delete p identity) items = without (λ i. i.identity) (identity ∷ []) items
items_after command items = items

-- and the links
abbrev pub links_after : Command → List Relation → List Relation
links_after (Link p mapping base other) links = put link_key (relation mapping base other) links
links_after (Unlink p mapping base other) links = without link_key (link_key (relation mapping base other) ∷ []) links
links_after command links = links

-- after one command and then the next
abbrev pub items_through : List Request → List Item → List Item
items_through [] items = items
items_through (q ∷ qs) items = items_through qs (items_after q.command items)

abbrev pub links_through : List Request → List Relation → List Relation
links_through [] links = links
links_through (q ∷ qs) links = links_through qs (links_after q.command links)

-- One package holds this now, and so many receipts more are kept, behind all others. But for that the package is as it
-- was, and so are all other packages, and the frame.
pub record HoldsNow (w next : World) (p : List ℕ) (items : List Item) (links : List Relation)
    (more : ℕ) : Type 0 where
  pub holds : holdings next p
      ≡ record (holdings w p) { items = items; links = links; receipts = (holdings next p).receipts }
  pub others : (q : List ℕ) → bytes_eq q p ≡ false → holdings next q ≡ holdings w q
  pub lives : (q : List ℕ) → is_live next q ≡ is_live w q
  pub same_frame : next.frame ≡ w.frame
  pub gained : List Receipt
  pub ledger : receipts_of next ≡ receipts_of w ++ gained
  pub as_many : length gained ≡ more

-- ---- their replies

-- the reply is a receipt
abbrev pub IsGiven : Reply → Type 0
IsGiven (Ok r) = Unit {0}
IsGiven (Err why) = ⊥

abbrev pub AreGiven : List Reply → Type 0
AreGiven replies = AllByRecursion IsGiven replies

-- the first that is no receipt, if there is one, is want of memory or a fault of the store: none was refused before it
abbrev pub IsUnrefused : List Reply → Type 0
IsUnrefused [] = Unit {0}
IsUnrefused (Ok r ∷ replies) = IsUnrefused replies
IsUnrefused (Err why ∷ replies) = IsFault (Err why)
