-- Whether what a list of requests adds is new, and the limits are kept: told by the requests alone, of a package that
-- holds these items and links. Profile.
use Rattle.std.specs.Prelude.{◌≡◌, ◌⊎◌, ◌+◌, ◌-◌, ◌&&◌, ℕ, Bool, true, false, not, nat_le}
use Rattle.std.specs.Prelude.{List, [], ◌∷◌, map, length}
use Rattle.std.specs.Prelude.{count_by, flat_map}
use Rattle.std.specs.List.{list_any, AllByRecursion}
use Rattle.sheet_types.specs.Ordered.{is_among}
use Rattle.sheet_types.specs.Refuse.{greatest_items, greatest_links, greatest_receipts, identity_used, too_many}
use Rattle.sheet_types.specs.Register.{IsRegister}
use Rattle.sheet_types.specs.Step.{Run}
use Rattle.sheet_types.specs.Texts.{is_moment, kind_of}
use Rattle.sheet_types.specs.World.{World, is_live, holdings, kind_is, receipts_of}
use Rattle.sheet_types.specs.declared.command.Command.{Command}
use Rattle.sheet_types.specs.declared.command.Command.TheVariants.{Add, Delete, Link, Unlink}
use Rattle.sheet_types.specs.declared.command.Item.{Item}
use Rattle.sheet_types.specs.declared.command.Relation.{Relation}
use Rattle.sheet_types.specs.declared.command.Request.{Request}
use Rattle.sheet_types.specs.declared.receipt.MovedKind.{MovedKind}
use Rattle.sheet_types.specs.declared.receipt.MovedKind.TheVariants.{TileItem, MediaItem, RowItem}
use Rattle.field_changes.specs.declared.held.Held.{Held}
use Rattle.field_faults.specs.Lines.{fault_lines}
use Rattle.field_run_laws.specs.Lists.{Reply, has_twice, is_kept, AreGiven}
use Rattle.field_run_laws.specs.Ready.{added}
use Rattle.field_laws.specs.Changing.{IsSound}
use Rattle.field_home_laws.specs.Laws.{ChangesOf, HoldsFile, IsFree}

-- ---- what is new

-- the identities that a command deletes
abbrev pub deleted : Command → List (List ℕ)
deleted (Delete p identity) = identity ∷ []
deleted command = []

-- those that a list adds, and that it deletes
abbrev pub ids_added : List Request → List (List ℕ)
ids_added qs = flat_map (λ q. added q.command) qs

abbrev pub ids_deleted : List Request → List (List ℕ)
ids_deleted qs = flat_map (λ q. deleted q.command) qs

-- ---- the limits

abbrev pub adds_kind : MovedKind → Command → Bool
adds_kind kind (Add p identity content) = kind_is kind (kind_of content)
adds_kind kind command = false

abbrev pub is_linking : Command → Bool
is_linking (Link p mapping base other) = true
is_linking command = false

abbrev pub is_unlinking : Command → Bool
is_unlinking (Unlink p mapping base other) = true
is_unlinking command = false

-- of this kind, and not among these
abbrev pub stays : MovedKind → List (List ℕ) → Item → Bool
stays kind gone i = kind_is kind (kind_of i.content) && not (is_among gone i.identity)

-- how many items of a kind, and how many links, there are behind the list
abbrev pub items_behind : MovedKind → List Request → List Item → ℕ
items_behind kind qs items =
    count_by (λ q. adds_kind kind q.command) qs + count_by (stays kind (ids_deleted qs)) items

abbrev pub links_behind : List Request → List Relation → ℕ
links_behind qs linked =
    count_by (λ q. is_linking q.command) qs + (length linked - count_by (λ q. is_unlinking q.command) qs)

-- they are within the limits of a package
abbrev pub keeps_package : List Request → List Item → List Relation → Bool
keeps_package qs items linked = nat_le (items_behind TileItem qs items) greatest_items
    && nat_le (items_behind MediaItem qs items) greatest_items
    && nat_le (items_behind RowItem qs items) greatest_items
    && nat_le (links_behind qs linked) greatest_links

-- and so is the world before, and the ledger with a receipt for each request
abbrev pub keeps_limits : World → List Item → List Relation → List Request → Bool
keeps_limits w items linked qs = not (too_many w)
    && nat_le (length (receipts_of w) + length qs) greatest_receipts && keeps_package qs items linked

-- ---- free

-- No identity that is added was ever used, and no request is kept; no two are one; and the limits are kept.
pub record IsFreeList (w : World) (items : List Item) (linked : List Relation) (qs : List Request) : Type 0 where
  pub unused : list_any (λ q. identity_used w q.command) qs ≡ false
  pub identities_apart : has_twice (ids_added qs) ≡ false
  pub unkept : list_any (is_kept w) qs ≡ false
  pub requests_apart : has_twice (map (λ q. q.id) qs) ≡ false
  pub limits : keeps_limits w items linked qs ≡ true

-- Of an empty list nothing is asked.
abbrev pub IsEmptyOrFree : World → List Item → List Relation → List Request → Type 0
IsEmptyOrFree w items linked qs = (qs ≡ []) ⊎ IsFreeList w items linked qs

-- ---- laws

-- The requests for a file that are free so are free in their four parts.
abbrev pub FreeListIsFree : Type 0
FreeListIsFree = (w : World) (p : List ℕ) (ticket : ℕ) (moment : List ℕ) (more : Bool) (h : Held)
    (requests : List Request) → (changes : ChangesOf w p ticket moment more h requests) →
    IsFreeList w (holdings w p).items (holdings w p).links requests → IsFree w p changes.parts requests

-- So a file of which no record is told comes home where its requests are free, or are none.
abbrev pub FreeFileComesHome : Type 0
FreeFileComesHome = (w : World) (p : List ℕ) (ticket : ℕ) (moment : List ℕ) (more : Bool) (h : Held)
    (requests : List Request) (replies : List Reply) (next : World) →
    IsRegister w → is_live w p ≡ true → is_moment moment ≡ true →
    fault_lines w.frame (holdings w p).items more h ≡ [] →
    (changes : ChangesOf w p ticket moment more h requests) →
    IsEmptyOrFree w (holdings w p).items (holdings w p).links requests →
    Run w requests replies next → AllByRecursion IsSound replies →
    AreGiven replies × HoldsFile w next p ticket moment more h requests changes
