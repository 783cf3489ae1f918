-- Kinds and mappings are known by their numbers.
use Rattle.std.proofs.Common.{◌≡◌, ℕ, true, Some, refl, sym, ap, ◌∙◌}
use Rattle.std.specs.Prelude.{◌==◌, Option, find}
use borrow.Author.Tests.{eqb-true}
use Rattle.sheet_types.specs.World.{all_kinds, all_mappings, kind_number, link_kind, kind_is}
use Rattle.sheet_types.specs.declared.command.Mapping.{Mapping}
use Rattle.sheet_types.specs.declared.command.Mapping.TheVariants.{TilesMedia, RowsMedia, RowsTiles}
use Rattle.sheet_types.specs.declared.receipt.MovedKind.{MovedKind}
use Rattle.sheet_types.specs.declared.receipt.MovedKind.TheVariants.{TileItem, MediaItem, RowItem, TilesMediaLink}
use Rattle.sheet_types.specs.declared.receipt.MovedKind.TheVariants.{RowsMediaLink, RowsTilesLink}
use Rattle.sheet_types.proofs.Basics.{some_same}

-- the kind of a number, and the mapping whose links have it
abbrev kind_numbered : ℕ → Option MovedKind
kind_numbered n = find (λ k. kind_number k == n) all_kinds

abbrev mapping_numbered : ℕ → Option Mapping
mapping_numbered n = find (λ m. kind_number (link_kind m) == n) all_mappings

kind_back : (k : MovedKind) → kind_numbered (kind_number k) ≡ Some k
kind_back TileItem = refl
kind_back MediaItem = refl
kind_back RowItem = refl
kind_back TilesMediaLink = refl
kind_back RowsMediaLink = refl
kind_back RowsTilesLink = refl

mapping_back : (m : Mapping) → mapping_numbered (kind_number (link_kind m)) ≡ Some m
mapping_back TilesMedia = refl
mapping_back RowsMedia = refl
mapping_back RowsTiles = refl

pub kind_number_tells : (a b : MovedKind) → kind_number a ≡ kind_number b → a ≡ b
kind_number_tells a b e = some_same (sym (kind_back a) ∙ ap kind_numbered e ∙ kind_back b)

pub same_mapping : (a b : Mapping) → kind_is (link_kind a) (link_kind b) ≡ true → a ≡ b
same_mapping a b e = some_same (sym (mapping_back a) ∙ ap mapping_numbered
    (eqb-true (kind_number (link_kind a)) (kind_number (link_kind b)) e) ∙ mapping_back b)
