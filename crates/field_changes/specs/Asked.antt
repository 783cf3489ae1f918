-- The requests that make a package hold what a file holds, in four parts, each in the register's order. Profile.
-- unlink links of the package that are not in the file delete items of the package by which nothing in the file is
-- called
--     add      items of the file whose names are new               link     links of the file that the package has not
use Rattle.std.specs.Prelude.{◌≡◌, ℕ, Bool, List, [], ◌++◌, map, if◌then◌else◌, IsPermutation, bytes_eq}
use Rattle.std.specs.List.{AllByRecursion, AllZip, IsDistinct}
use Rattle.sheet_types.specs.Ordered.{IsArranged}
use Rattle.sheet_types.specs.Cut.{identities}
use Rattle.sheet_types.specs.Lines.{IsUuid}
use Rattle.sheet_types.specs.World.{item_key, link_key}
use Rattle.sheet_types.specs.declared.command.Command.{Command}
use Rattle.sheet_types.specs.declared.command.Command.TheVariants.{Add, Delete, Link, Unlink}
use Rattle.sheet_types.specs.declared.command.Item.{Item}
use Rattle.sheet_types.specs.declared.command.Relation.{Relation}
use Rattle.sheet_types.specs.declared.command.Request.{Request}
use Rattle.field_changes.specs.Ids.{request_of}
use Rattle.field_changes.specs.Naming.{names_of}
use Rattle.field_changes.specs.Parts.{gone, new_items, IsLinkOf, beyond}
use Rattle.field_changes.specs.declared.asking.Parts.{Parts}
use Rattle.field_changes.specs.declared.changes.Unasked.{Unasked}
use Rattle.field_changes.specs.declared.changes.Unasked.TheVariants as unasked
use Rattle.field_changes.specs.declared.held.HeldItem.{HeldItem}
use Rattle.field_changes.specs.declared.held.HeldLink.{HeldLink}
use Rattle.field_changes.specs.declared.naming.Named.{Named}

abbrev pub unlinking : List ℕ → Relation → Command
unlinking p l = Unlink p l.mapping l.base l.other

abbrev pub deleting : List ℕ → List ℕ → Command
deleting p identity = Delete p identity

abbrev pub adding : List ℕ → Item → Command
adding p i = Add p i.identity i.content

abbrev pub linking : List ℕ → Relation → Command
linking p l = Link p l.mapping l.base l.other

-- their commands in order
abbrev pub commands : List ℕ → Parts → List Command
commands p parts = map (unlinking p) parts.unlinks.items ++ map (deleting p) parts.deletes.items
    ++ map (adding p) parts.adds.items ++ map (linking p) parts.links.items

-- the parts for a package that holds these items and links at this ticket, and a file that has these
pub record ArePartsFor (p : List ℕ) (ticket : ℕ) (items : List Item) (linked : List Relation) (more : Bool)
    (file : List HeldItem) (held : List HeldLink) (parts : Parts) : Type 0 where
  pub file_links : List Relation
  pub named : AllZip (IsLinkOf (names_of p ticket items file)) held file_links
  pub unlinks : parts.unlinks.items ≡ (if more then [] else beyond file_links linked)
  pub deletes : parts.deletes.items ≡ (if more then [] else identities (gone (names_of p ticket items file) items))
  pub adds : IsPermutation (new_items (names_of p ticket items file) file) parts.adds.items
  pub adds_order : IsArranged item_key parts.adds.items
  pub links : IsPermutation (beyond linked file_links) parts.links.items
  pub links_order : IsArranged link_key parts.links.items

-- the requests, at this moment
pub record AreChanges (p : List ℕ) (ticket : ℕ) (moment : List ℕ) (items : List Item) (linked : List Relation)
    (more : Bool) (file : List HeldItem) (held : List HeldLink) (requests : List Request) : Type 0 where
  pub parts : Parts
  pub for_file : ArePartsFor p ticket items linked more file held parts
  pub asked : requests ≡ map (request_of p ticket moment) (commands p parts)

-- Under these names the links of a file are no list: an end of one is no item of the file, so that none have their
-- ends; or of those that the package has not, one is there twice.
abbrev pub IsWhyList : List Named → List HeldLink → List Relation → Type 0
IsWhyList names held linked = (links : List Relation) → AllZip (IsLinkOf names) held links
    → AllByRecursion (λ l. IsUuid l.base) links
    → ¬ IsDistinct bytes_eq (map link_key (beyond linked links))

-- two items of a file whose names are new have one of them
abbrev pub IsWhyIdentity : List Named → List HeldItem → Type 0
IsWhyIdentity names file = ¬ IsDistinct bytes_eq (map item_key (new_items names file))

-- why no requests were made, of a package that holds these at this ticket and a file that has these; memory may
-- always be wanting
abbrev pub IsWhyUnasked : List ℕ → ℕ → List Item → List Relation → List HeldItem
    → List HeldLink → Unasked → Type 0
IsWhyUnasked p ticket items linked file held unasked.List =
    IsWhyList (names_of p ticket items file) held linked
IsWhyUnasked p ticket items linked file held unasked.Identity =
    IsWhyIdentity (names_of p ticket items file) file
IsWhyUnasked p ticket items linked file held unasked.Memory = Unit {0}
