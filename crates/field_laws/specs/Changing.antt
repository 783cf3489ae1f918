-- Laws of the changes for a file: what they ask for, and what they make when a register carries them out. Profile.
use Rattle.std.specs.Prelude.{◌≡◌, ◌⊎◌, ◌≤◌, ◌+◌, ◌-◌, ◌&&◌, ℕ, Bool, true, false}
use Rattle.std.specs.Prelude.{List, [], ◌++◌, length, map}
use Rattle.std.specs.Prelude.{filter, not, unwrap_or, is_some, bytes_eq, count_by, IsPermutation}
use Rattle.std.specs.List.{list_any, AllByRecursion, AllZip, IsDistinct}
use Rattle.sheet_types.specs.Cut.{identities}
use Rattle.sheet_types.specs.Ordered.{has, arranged}
use Rattle.sheet_types.specs.Refuse.{is_overfull, greatest_items, greatest_links}
use Rattle.sheet_types.specs.Register.{IsRegister}
use Rattle.sheet_types.specs.Step.{Run, IsFault}
use Rattle.sheet_types.specs.Texts.{kind_of}
use Rattle.sheet_types.specs.World.{World, Package, is_live, holdings, item_key, link_key, is_tile, is_medium, is_row}
use Rattle.sheet_types.specs.declared.command.Content.{Content}
use Rattle.sheet_types.specs.declared.command.Item.{Item}
use Rattle.sheet_types.specs.declared.command.Relation.{Relation}
use Rattle.sheet_types.specs.declared.command.Request.{Request}
use Rattle.field_changes.specs.Asked.{AreChanges}
use Rattle.field_changes.specs.Naming.{copies, names_of}
use Rattle.field_changes.specs.Parts.{IsLinkOf, gone, new_items, beyond}
use Rattle.field_changes.specs.declared.asking.Parts.{Parts}
use Rattle.field_changes.specs.declared.held.HeldItem.{HeldItem}
use Rattle.field_changes.specs.declared.held.HeldLink.{HeldLink}
use Rattle.field_changes.specs.declared.naming.Named.{Named}
use Rattle.sheet_kept_laws.specs.Laws.{HaveTypes}
use Rattle.field_run_laws.specs.Lists.{Reply, AreNew, AreGiven, IsUnrefused, HoldsNow}
use Rattle.field_laws.specs.Checks.{CanTake}
use Rattle.field_laws.specs.Making.{named_items, each_once, after_parts, items_home, links_home}

-- ---- a file that was not edited

-- the item of a file as it stands there, and under which identity
abbrev pub as_listed : HeldItem → Item
as_listed h = record { identity = unwrap_or h.identity []; content = h.content }

abbrev pub listed_name : HeldItem → Named
listed_name h = record {
  kind = kind_of h.content;
  number = h.number;
  identity = unwrap_or h.identity [];
  is_new = false;
}

-- the file has the items of the package, each under its identity, in any order
pub record ListsItems (items : List Item) (file : List HeldItem) : Type 0 where
  pub marked : AllByRecursion (λ h. is_some h.identity ≡ true) file
  pub same : IsPermutation items (map as_listed file)

-- and its links, in any order
pub record ListsLinks (linked : List Relation) (file : List HeldItem) (held : List HeldLink) : Type 0 where
  pub links : List Relation
  pub between : AllZip (IsLinkOf (map listed_name file)) held links
  pub same : IsPermutation linked links

-- then nothing is asked for
abbrev pub NothingToDo : Type 0
NothingToDo = (p : List ℕ) (ticket : ℕ) (moment : List ℕ) (items : List Item) (linked : List Relation)
    (more : Bool)
    (file : List HeldItem) (held : List HeldLink) (requests : List Request) →
    IsDistinct bytes_eq (identities items) → ListsItems items file → ListsLinks linked file held →
    AreChanges p ticket moment items linked more file held requests → requests ≡ []

-- ---- names

-- no two items of a file are called by one identity of the package
abbrev pub OldNamesDiffer : Type 0
OldNamesDiffer = (p : List ℕ) (ticket : ℕ) (items : List Item) (file : List HeldItem) →
    IsDistinct bytes_eq (identities items) →
    IsDistinct bytes_eq (map (λ n. n.identity) (filter (λ n. not n.is_new) (names_of p ticket items file)))

-- no new name is an identity of the package
abbrev pub AreFresh : List Item → List Named → Type 0
AreFresh items names = list_any (λ n. n.is_new && has (λ i. i.identity) n.identity items) names ≡ false

-- how many items of a package, and of a file, have this content
abbrev pub in_items : Content → List Item → ℕ
in_items content items = copies (λ i. i.content) content items

abbrev pub in_file : Content → List HeldItem → ℕ
in_file content file = copies (λ h. h.content) content file

-- Of each content as many items are new as the file has more of it, and as many go as it has fewer. So what is there as
-- often as before is neither added nor deleted.
abbrev pub OnlyWhatDiffers : Type 0
OnlyWhatDiffers = (p : List ℕ) (ticket : ℕ) (items : List Item) (file : List HeldItem) (content : Content) →
    IsDistinct bytes_eq (identities items) → AreFresh items (names_of p ticket items file) →
    (in_items content (new_items (names_of p ticket items file) file) ≡ in_file content file - in_items content items)
    × (in_items content (gone (names_of p ticket items file) items) ≡ in_items content items - in_file content file)

-- ---- changes that were carried out

-- the requests for a file, over what the package holds
abbrev pub Changes : World → List ℕ → ℕ → List ℕ → Bool → List HeldItem → List HeldLink
    → List Request → Type 0
Changes w p ticket moment more file held requests =
    AreChanges p ticket moment (holdings w p).items (holdings w p).links more file held requests

-- the names of the file over what the package holds
abbrev pub names_in : World → List ℕ → ℕ → List HeldItem → List Named
names_in w p ticket file = names_of p ticket (holdings w p).items file

-- where each got a receipt, the package holds what the file has, and nothing else changed
abbrev pub ChangesMake : Type 0
ChangesMake = (w : World) (p : List ℕ) (ticket : ℕ) (moment : List ℕ) (file : List HeldItem)
    (held : List HeldLink)
    (requests : List Request) (replies : List Reply) (next : World) →
    IsRegister w → is_live w p ≡ true → (changes : Changes w p ticket moment false file held requests) →
    AreNew w requests → Run w requests replies next → AreGiven replies →
    HoldsNow w next p (arranged item_key (named_items (names_in w p ticket file) file))
    (arranged link_key (each_once changes.for_file.file_links)) (length requests)

-- where nothing is taken away, the package holds what it had, and what is new in the file
abbrev pub MoreAdds : Type 0
MoreAdds = (w : World) (p : List ℕ) (ticket : ℕ) (moment : List ℕ) (file : List HeldItem) (held : List HeldLink)
    (requests : List Request) (replies : List Reply) (next : World) →
    IsRegister w → is_live w p ≡ true → (changes : Changes w p ticket moment true file held requests) →
    AreNew w requests → Run w requests replies next → AreGiven replies →
    HoldsNow w next p (arranged item_key (new_items (names_in w p ticket file) file ++ (holdings w p).items))
    (arranged link_key (beyond (holdings w p).links changes.for_file.file_links ++ (holdings w p).links))
    (length requests)

-- where the package can take the file, no request is refused
abbrev pub NothingIsRefused : Type 0
NothingIsRefused = (w : World) (p : List ℕ) (ticket : ℕ) (moment : List ℕ) (more : Bool) (file : List HeldItem)
    (held : List HeldLink) (requests : List Request) (replies : List Reply) (next : World) →
    IsRegister w → is_live w p ≡ true → (changes : Changes w p ticket moment more file held requests) →
    CanTake w p moment more file changes.parts requests →
    Run w requests replies next → IsUnrefused replies

-- the reply is no want of memory, and no fault of the store
abbrev pub IsSound : Reply → Type 0
IsSound reply = IsFault reply → ⊥

-- So where the package can take the file, and neither memory nor the store fails, each request gets a receipt, and the
-- package holds what it is to hold.
abbrev pub ChangesComeHome : Type 0
ChangesComeHome = (w : World) (p : List ℕ) (ticket : ℕ) (moment : List ℕ) (more : Bool) (file : List HeldItem)
    (held : List HeldLink) (requests : List Request) (replies : List Reply) (next : World) →
    IsRegister w → is_live w p ≡ true → (changes : Changes w p ticket moment more file held requests) →
    CanTake w p moment more file changes.parts requests →
    Run w requests replies next → AllByRecursion IsSound replies →
    AreGiven replies × HoldsNow w next p (items_home more (names_in w p ticket file) file (holdings w p).items)
    (links_home more (holdings w p).links changes.for_file.file_links) (length requests)

-- where there is room for what is held and for what comes, the limits of the package are kept
abbrev pub RoomForBoth : Type 0
RoomForBoth = (parts : Parts) (x : Package) →
    count_by is_tile x.items + count_by is_tile parts.adds.items ≤ greatest_items →
    count_by is_medium x.items + count_by is_medium parts.adds.items ≤ greatest_items →
    count_by is_row x.items + count_by is_row parts.adds.items ≤ greatest_items →
    length x.links + length parts.links.items ≤ greatest_links →
    is_overfull (after_parts parts x) ≡ false

-- ---- a list that comes again

-- the same reply again, or want of memory or a fault of the store
abbrev pub IsAgain : Reply → Reply → Type 0
IsAgain old now = (now ≡ old) ⊎ IsFault now

-- A list that was stopped behind its first part, and then comes again whole, ends where a run of the whole list ends.
-- What had got its receipt gets it again, and acted once.
abbrev pub StoppedListComesAgain : Type 0
StoppedListComesAgain = (w : World) (xs ys : List Request)
    (first : List Reply) (mid : World) (again : List Reply) (next : World) →
    HaveTypes xs → IsRegister w → Run w xs first mid → AreGiven first → Run mid (xs ++ ys) again next →
    (kept : List Reply) × (rest : List Reply) × (again ≡ kept ++ rest) × AllZip IsAgain first kept
    × Run w (xs ++ ys) (first ++ rest) next

-- So changes that were stopped behind a part of them, and come again whole, make what they would have made at once.
abbrev pub StoppedChangesComeHome : Type 0
StoppedChangesComeHome = (w : World) (p : List ℕ) (ticket : ℕ) (moment : List ℕ) (more : Bool)
    (file : List HeldItem)
    (held : List HeldLink) (xs ys : List Request)
    (first : List Reply) (mid : World) (again : List Reply) (next : World) →
    IsRegister w → is_live w p ≡ true → (changes : Changes w p ticket moment more file held (xs ++ ys)) →
    CanTake w p moment more file changes.parts (xs ++ ys) →
    Run w xs first mid → AreGiven first → Run mid (xs ++ ys) again next → AllByRecursion IsSound again →
    HoldsNow w next p (items_home more (names_in w p ticket file) file (holdings w p).items)
    (links_home more (holdings w p).links changes.for_file.file_links) (length (xs ++ ys))
