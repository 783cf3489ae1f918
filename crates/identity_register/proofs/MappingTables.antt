-- The mapping tables as one: the rows that the table of a mapping has of a link, whichever mapping the link is of.
use Rattle.std.proofs.Common.{◌≡◌, ℕ, List, [], ◌∷◌, Bool, true, false, refl, sym, ap, ◌∙◌, inl}
use Rattle.std.proofs.Common.{inr}
use Rattle.std.specs.Prelude.{◌⊎◌, ◌&&◌, if◌then◌else◌, flat_map}
use Rattle.std.specs.List.{list_any}
use borrow.Author.Tests.{eq-eqb}
use Rattle.sheet_types.specs.Ordered.{arranged}
use Rattle.sheet_types.specs.World.{Package, link_kind, kind_number}
use Rattle.sheet_types.specs.declared.command.Mapping.{Mapping}
use Rattle.sheet_types.specs.declared.command.Mapping.TheVariants.{TilesMedia, RowsMedia, RowsTiles}
use Rattle.sheet_types.specs.declared.command.Relation.{Relation}
use Rattle.sheet_types.specs.declared.frame.Frame.{Frame}
use Rattle.sheet_types.proofs.Basics.{or-false}
use Rattle.sheet_types.proofs.KindNumbers.{same_mapping}
use Rattle.package_tables.specs.Package.{Tables}
use Rattle.package_tables.specs.Mappings.{mapping_rows}
use Rattle.package_tables.specs.Shapes.{tiles_media_shape}
use Rattle.package_tables.specs.declared.rows.MappingRow.{MappingRow}
use Rattle.identity_register.specs.Numbering.{Numbered, mapping_row, mapping_is, rows_in}
use Rattle.identity_register.specs.Reads.{Says, SaysPairs}

-- the row of a link, where it is of the mapping
abbrev pub row_if : Bool → MappingRow → List MappingRow
row_if b row = if b then row ∷ [] else []

-- the one row of a link of its own mapping, and none of another
pub rows_there : (k : Mapping) (ns : List Numbered) (l : Relation)
    → ((l.mapping ≡ k) × (rows_in k ns l ≡ mapping_row ns l ∷ []))
    ⊎ ((mapping_is l.mapping k ≡ false) × (rows_in k ns l ≡ []))
rows_there k ns l = one (mapping_is l.mapping k) refl
  where
    one : (b : Bool) → mapping_is l.mapping k ≡ b → ((l.mapping ≡ k)
        × (rows_in k ns l ≡ mapping_row ns l ∷ []))
        ⊎ ((mapping_is l.mapping k ≡ false) × (rows_in k ns l ≡ []))
    one true e = inl (same_mapping l.mapping k e, ap (λ b. row_if b (mapping_row ns l)) e)
    one false e = inr (e, ap (λ b. row_if b (mapping_row ns l)) e)

pub own_row : (k : Mapping) (ns : List Numbered) (l : Relation) → l.mapping ≡ k
    → rows_in k ns l ≡ mapping_row ns l ∷ []
own_row k ns l e = ap (λ b. row_if b (mapping_row ns l)) (eq-eqb (kind_number (link_kind l.mapping))
    (kind_number (link_kind k)) (ap (λ m. kind_number (link_kind m)) e))

pub no_row_in : (k : Mapping) (ns : List Numbered) (l : Relation) → mapping_is l.mapping k ≡ false
    → rows_in k ns l ≡ []
no_row_in k ns l e = ap (λ b. row_if b (mapping_row ns l)) e

-- a test of the rows is a test of the links
pub any_row_in : (k : Mapping) (ns : List Numbered) (q : MappingRow → Bool) (l : Relation)
    → list_any q (rows_in k ns l) ≡ (mapping_is l.mapping k && q (mapping_row ns l))
any_row_in k ns q l = one (mapping_is l.mapping k)
  where
    one : (b : Bool) → list_any q (row_if b (mapping_row ns l)) ≡ (b && q (mapping_row ns l))
    one true = or-false (q (mapping_row ns l))
    one false = refl

-- by which the rows of all tables are arranged
abbrev pub pair_key : MappingRow → List ℕ
pair_key = tiles_media_shape.key

-- each table holds the rows of the links
pub table_says : (f : Frame) (p : Package) (t : Tables) (says : Says f p t) (k : Mapping)
    → mapping_rows k t ≡ arranged pair_key (flat_map (rows_in k says.numbered) says.linked)
table_says f p t says TilesMedia = says.tiles_media
table_says f p t says RowsMedia = says.rows_media
table_says f p t says RowsTiles = says.rows_tiles

-- so it does under other numbers, where the links have the same
pub pairs_kept : (k : Mapping) (ns more : List Numbered) (linked : List Relation) (table : List MappingRow)
    → flat_map (rows_in k more) linked ≡ flat_map (rows_in k ns) linked → SaysPairs k ns linked table
    → SaysPairs k more linked table
pairs_kept k ns more linked table same says = says ∙ sym (ap (arranged pair_key) same)
