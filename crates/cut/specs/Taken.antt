-- What a split takes of a package, as it is selected. Profile.
use Rattle.std.specs.Prelude.{◌≡◌, ⊤, ℕ, true, List, [], ◌∷◌, length, nat_le, Option, None, Some}
use Rattle.std.specs.Prelude.{Result, Ok, Err}
use Rattle.std.specs.List.{AllByRecursion, IsDistinct}
use Rattle.std.specs.Prelude.{bytes_eq}
use Rattle.sheet_types.specs.Ordered.{IsArranged, arranged}
use Rattle.sheet_types.specs.Matrix.{has_place, first_row}
use Rattle.sheet_types.specs.Cut.{Cut, cut, start, identities, torn_item}
use Rattle.sheet_types.specs.Refuse.{carrying}
use Rattle.sheet_types.specs.Register.{HasEnds}
use Rattle.sheet_types.specs.World.{Package, item_key, link_key}
use Rattle.sheet_types.specs.declared.command.Content.{Content}
use Rattle.sheet_types.specs.declared.command.Content.TheVariants.{Tile, Media, Row}
use Rattle.sheet_types.specs.declared.command.Mode.{Mode}
use Rattle.sheet_types.specs.declared.command.Mode.TheVariants.{Strict, Follow}
use Rattle.sheet_types.specs.declared.frame.Frame.{Frame}
use Rattle.sheet_types.specs.declared.frame.Rect.{Rect}
use Rattle.sheet_types.specs.declared.refusal.Refusal.{Refusal}
use Rattle.sheet_types.specs.declared.refusal.Refusal.TheVariants.{NothingToLend, CutLink}
use Rattle.identity_register.specs.declared.selection.Selection.{Selection}

-- a tile stands at a place of the frame
abbrev pub HasPlace : Frame → Content → Type 0
HasPlace f (Tile zoom column row bytes) = has_place f zoom column row ≡ true
HasPlace f (Media content_type bytes) = ⊤
HasPlace f (Row x y code label) = ⊤

-- what a register keeps of each package, as far as a cut needs it
pub record IsInOrder (f : Frame) (p : Package) : Type 0 where
  pub items : IsArranged item_key p.items
  pub links : IsArranged link_key p.links
  pub identities : IsDistinct bytes_eq (identities p.items)
  pub places : AllByRecursion (λ i. HasPlace f i.content) p.items
  pub ends : AllByRecursion (HasEnds p) p.links

-- the least item of which a strict split would take a link and not its other end
abbrev pub torn : Frame → Package → Mode → Rect → Option (List ℕ)
torn f p Strict r = torn_item p (identities (start f r p))
torn f p Follow r = None

-- why nothing can be taken, if so
abbrev pub refused : Frame → Package → Mode → Rect → Option Refusal
refused f p mode r = first_row ((nat_le (length (start f r p)) 0, NothingToLend) ∷ carrying CutLink (torn f p mode r)
    ∷ [])

-- a cut as it is selected: its identities in their order, and its links
pub record Selects (c : Cut) (s : Selection) : Type 0 where
  pub items : s.identities.items ≡ arranged (λ id. id) (identities c.items)
  pub links : s.links.items ≡ c.links

-- the cut is selected, or it is said why there is none
abbrev pub IsSelected : Frame → Package → Mode → Rect → Result Selection Refusal → Type 0
IsSelected f p mode r (Ok s) = (refused f p mode r ≡ None) × Selects (cut f p mode r) s
IsSelected f p mode r (Err why) = refused f p mode r ≡ Some why

-- the same of each package that is in order
abbrev pub IsCutOf : Frame → Mode → Rect → Package → Result Selection Refusal → Type 0
IsCutOf f mode r p answer = IsInOrder f p → IsSelected f p mode r answer
