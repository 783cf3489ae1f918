-- Which things of a package a selection names, and what becomes of packages when they go and come. Profile.
use Rattle.std.specs.Prelude.{◌≡◌, ℕ, true, false, List, Contains}
use Rattle.std.specs.List.{AllByRecursion}
use Rattle.sqlite.specs.Effect.{Database}
use Rattle.sheet_types.specs.Cut.{Cut, identities, has_end}
use Rattle.sheet_types.specs.Ordered.{arranged, has, IsArranged}
use Rattle.sheet_types.specs.Register.{HasEnds}
use Rattle.sheet_types.specs.Step.{less}
use Rattle.sheet_types.specs.World.{Package, item_key, link_key, has_item}
use Rattle.sheet_types.specs.declared.frame.Frame.{Frame}
use Rattle.identity_register.specs.LocalNumbers.{KeepsNumbers}
use Rattle.identity_register.specs.Reads.{Reads}
use Rattle.identity_register.specs.declared.selection.Selection.{Selection}
use Rattle.transfer.specs.Parcels.{with_cut}

-- ---- which things

-- The selection names these items, in any order, and these links in theirs.
pub record IsSelectionOf (c : Cut) (s : Selection) : Type 0 where
  pub identities : arranged (λ id. id) s.identities.items ≡ arranged (λ id. id) (identities c.items)
  pub links : s.links.items ≡ c.links

-- ---- what goes and comes

-- these items and links, in the order of their keys, are some of the package's, and with each item go all its links
pub record IsPart (c : Cut) (p : Package) : Type 0 where
  pub items : AllByRecursion (λ i. Contains p.items i) c.items
  pub links : AllByRecursion (λ l. Contains p.links l) c.links
  pub item_order : IsArranged item_key c.items
  pub link_order : IsArranged link_key c.links
  pub whole : AllByRecursion (λ i. AllByRecursion (λ l. has_end i.identity l ≡ true
      → has link_key (link_key l) c.links ≡ true) p.links) c.items

-- they are new to the package, and the links have their ends there
pub record MayCome (c : Cut) (p : Package) : Type 0 where
  pub identities : AllByRecursion (λ i. has_item p i.identity ≡ false) c.items
  pub links : AllByRecursion (λ l. has link_key (link_key l) p.links ≡ false) c.links
  pub ends : AllByRecursion (HasEnds (with_cut c p)) c.links

-- What was selected of the package leaves it, and what stays keeps its number.
abbrev pub TakesOut : Selection → Database → Database → Type 0
TakesOut s old new = (c : Cut) (f : Frame) (p : Package) → IsSelectionOf c s → Reads f p old → IsPart c p
    → Reads f (less c p) new × KeepsNumbers new old

-- What was selected of the package that another database reads as comes to this one, and what stood keeps its number.
abbrev pub CarriesOver : Selection → Database → Database → Database → Type 0
CarriesOver s source old new = (c : Cut) (f : Frame) (from p : Package) → IsSelectionOf c s → Reads f from source
    → IsPart c from → Reads f p old → MayCome c p → Reads f (with_cut c p) new × KeepsNumbers old new
