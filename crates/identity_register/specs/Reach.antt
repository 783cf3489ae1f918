-- What a cut asks of a package, what the package answers, and what asking leaves. Profile.
use Rattle.std.specs.Prelude.{ℕ, ℤ, pos, Bool, false, ◌&&◌, List, filter, if◌then◌else◌, IsTrue, Result}
use Rattle.std.specs.Prelude.{IfOk}
use Rattle.std.specs.Ordering.{int_eq}
use Rattle.std.specs.List.{AllZip}
use Rattle.sqlite.specs.State.{State, HasCleanDisk}
use Rattle.sheet_types.specs.Cut.{identities, has_end}
use Rattle.sheet_types.specs.Matrix.{has_point}
use Rattle.sheet_types.specs.World.{Package, kind_number, base_kind}
use Rattle.sheet_types.specs.declared.command.Content.{Content}
use Rattle.sheet_types.specs.declared.command.Content.TheVariants.{Tile, Media, Row}
use Rattle.sheet_types.specs.declared.command.Mapping.{Mapping}
use Rattle.sheet_types.specs.declared.command.Relation.{Relation}
use Rattle.sheet_types.specs.declared.frame.Frame.{Frame}
use Rattle.sheet_types.specs.declared.frame.Ground.{Ground}
use Rattle.matrix_rules.specs.Places.{in_span}
use Rattle.matrix_rules.specs.declared.spans.Span.{Span}
use Rattle.package_tables.specs.Calls.{AreThose}
use Rattle.package_tables.specs.Mappings.{mapping_rows}
use Rattle.package_tables.specs.Package.{Tables}
use Rattle.package_tables.specs.declared.rows.MappingRow.{MappingRow}
use Rattle.identity_register.specs.Gathered.{IsNamed, IsLinkOf}
use Rattle.identity_register.specs.Reads.{Reads}

-- a tile of this zoom whose place belongs to the block
abbrev pub stands_in : ℤ → Span → Content → Bool
stands_in z s (Tile zoom column row bytes) = int_eq zoom z && in_span s column row
stands_in z s (Media content_type bytes) = false
stands_in z s (Row x y code label) = false

-- a row whose point lies on this ground
abbrev pub lies_on : Ground → Content → Bool
lies_on g (Tile zoom column row bytes) = false
lies_on g (Media content_type bytes) = false
lies_on g (Row x y code label) = has_point g x y

-- the three answers. Items and links of a package are in order, and so are these
abbrev pub tiles_in : Package → ℤ → Span → List (List ℕ)
tiles_in p zoom s = identities (filter (λ i. stands_in zoom s i.content) p.items)

abbrev pub rows_in : Package → Ground → List (List ℕ)
rows_in p g = identities (filter (λ i. lies_on g i.content) p.items)

abbrev pub links_of : Package → List ℕ → List Relation
links_of p id = filter (has_end id) p.links

-- ---- asking

-- Questions to a reach, of which it says when it can be asked, what has stayed since, and which package it shows: it
-- can be asked again, what had stayed has stayed, what it shows it showed before, and the answer is of that package.
pub record Asks {R X E : Type 0} (CanAsk : R → Type 0) (Stays : R → R → Type 0) (Shows : R → Package → Type 0)
    (Answer : Package → X → Type 0) (old new : R) (r : Result X E) : Type 0 where
  pub again : CanAsk new
  pub stays : (was : R) → Stays was old → Stays was new
  pub showed : (p : Package) → Shows new p → Shows old p
  pub told : IfOk r (λ x. (p : Package) → Shows new p → Answer p x)

-- A store shows a package where its disk is clean, it is open, and it reads as that package.
pub record ShowsPackage (s : State) (p : Package) : Type 0 where
  pub clean : HasCleanDisk s
  pub is_open : IsTrue s.is_open
  pub frame : Frame
  pub reads : Reads frame p s.now

-- ---- rows

-- the number that a mapping row has of its end of this kind
abbrev pub number_at : Mapping → ℤ → MappingRow → ℤ
number_at m kind r = if int_eq (pos (kind_number (base_kind m))) kind then r.base_id else r.related_id

-- the links of the rows that have a number at their ends of a kind, where that is the row of this identity
abbrev pub AreLinksAt : Mapping → ℤ → ℤ → List ℕ → Tables → List Relation → Type 0
AreLinksAt m kind number id t links = IsNamed t.identities kind number id → (stored : List MappingRow)
    × AreThose (λ r. int_eq (number_at m kind r) number) (mapping_rows m t) stored
    × AllZip (IsLinkOf m t.identities) stored links
