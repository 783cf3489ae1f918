-- Which item a word names, and how two are joined (OGC 18-000 for the mapping tables). Profile.
use Rattle.std.specs.Prelude.{ℕ, Bool, List, [], ◌∷◌, length, filter, nat_lt, Option, Some, None, Result, Ok}
use Rattle.std.specs.Prelude.{Err}
use Rattle.std.specs.Prelude.{if◌then◌else◌}
use Rattle.sheet_types.specs.Step.{relation}
use Rattle.sheet_types.specs.Texts.{uuid_text}
use Rattle.sheet_types.specs.declared.command.Mapping.{Mapping}
use Rattle.sheet_types.specs.declared.command.Mapping.TheVariants.{TilesMedia, RowsMedia, RowsTiles}
use Rattle.sheet_types.specs.declared.command.Relation.{Relation}
use Rattle.sheet_types.specs.declared.receipt.MovedKind.{MovedKind}
use Rattle.sheet_types.specs.declared.receipt.MovedKind.TheVariants.{TileItem, MediaItem, RowItem}
use Rattle.command_verbs.specs.Names.{begins}
use Rattle.command_verbs.specs.declared.items.ItemEntry.{ItemEntry}
use Rattle.command_verbs.specs.declared.names.NameFault.{NameFault}
use Rattle.command_verbs.specs.declared.names.NameFault.TheVariants.{Short, Unknown, Two}

-- a word may name an item by the text of its identity
abbrev pub has_identity : List ℕ → ItemEntry → Bool
has_identity word e = begins word (uuid_text e.identity)

-- the only one of some
abbrev pub of_items : List ItemEntry → Result ItemEntry NameFault
of_items [] = Err Unknown
of_items (e ∷ []) = Ok e
of_items (e ∷ other ∷ more) = Err (Two e.identity other.identity)

-- the one item that a word names
abbrev pub the_item : List ItemEntry → List ℕ → Result ItemEntry NameFault
the_item entries word = if nat_lt (length word) 4 then Err Short else of_items (filter (has_identity word) entries)

-- the mapping that has these kinds at its base and at its other end
abbrev pub mapping_of : MovedKind → MovedKind → Option Mapping
mapping_of TileItem MediaItem = Some TilesMedia
mapping_of RowItem MediaItem = Some RowsMedia
mapping_of RowItem TileItem = Some RowsTiles
mapping_of base other = None

-- the relation of two items by the mapping that is known, if one is
abbrev pub related : Option Mapping → List ℕ → List ℕ → Option Relation → Option Relation
related (Some mapping) base other else_it = Some (relation mapping base other)
related None base other else_it = else_it

-- whichever of them is named first
abbrev pub tie : ItemEntry → ItemEntry → Option Relation
tie first second =
    related (mapping_of first.kind second.kind) first.identity second.identity
    (related (mapping_of second.kind first.kind) second.identity first.identity None)
