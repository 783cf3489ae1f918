-- What a map says: each sheet that is held is drawn, once for each time that it is held, and nothing else is.
use Rattle.std.specs.Prelude.{◌≡◌, ℕ, ◌==◌, Bool, true, false, ◌&&◌, List, Some, None, slice_get}
use Rattle.std.specs.Prelude.{count_by}
use Rattle.view_map.specs.Layout.{is_on}
use Rattle.view_map.specs.Sheets.{shapes}
use Rattle.view_map.specs.declared.holders.Place.{Place}
use Rattle.view_map.specs.declared.holders.Holder.{Holder}
use Rattle.view_map.specs.declared.layout.Layout.{Layout}
use Rattle.view_map.specs.declared.sheets.Sheet.{Sheet}

-- the same place
abbrev pub is_place : Place → Place → Bool
is_place p q = (p.column == q.column) && (p.row == q.row)

-- a sheet of the i-th package at this place
abbrev pub is_sheet_at : ℕ → Place → Sheet → Bool
is_sheet_at i p s = (s.index == i) && is_place p s.place

-- how many rectangles there are of the i-th package, so in its colour, at this place
abbrev pub drawn_at : Layout → List Holder → ℕ → Place → ℕ
drawn_at l hs i p = count_by (λ x. is_sheet_at i p x.sheet) (shapes l hs)

-- A place of the zoom has as many rectangles of a package as the package has it: one where it has it once.
abbrev pub EachIsDrawn : Type 0
EachIsDrawn = (l : Layout) (hs : List Holder) (i : ℕ) (h : Holder) (p : Place)
    → slice_get hs i ≡ Some h → is_on l p ≡ true → drawn_at l hs i p ≡ count_by (is_place p) h.places.items

-- There is none of a package that is not in the list,
abbrev pub NoOtherIsDrawn : Type 0
NoOtherIsDrawn = (l : Layout) (hs : List Holder) (i : ℕ) (p : Place) → slice_get hs i ≡ None
    → drawn_at l hs i p ≡ 0

-- and none at a place that the zoom does not have.
abbrev pub NoneIsDrawnBeside : Type 0
NoneIsDrawnBeside = (l : Layout) (hs : List Holder) (i : ℕ) (p : Place) → is_on l p ≡ false
    → drawn_at l hs i p ≡ 0
