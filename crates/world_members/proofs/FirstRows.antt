-- The first reason that holds, by what was looked up.
use Rattle.std.proofs.Common.{◌≡◌, ℕ, ℤ, List, [], ◌∷◌, Bool, true, false, Option, Some, refl, sym}
use Rattle.std.proofs.Common.{ap, ◌∙◌}
use Rattle.std.specs.Prelude.{drop, not, ◌&&◌, if◌then◌else◌}
use Rattle.std.specs.Bool.{then_some}
use Rattle.std.specs.List.{list_any}
use Rattle.std.specs.Option.{option_map_or}
use Rattle.sheet_types.specs.Cut.{has_end}
use Rattle.sheet_types.specs.Ordered.{has}
use Rattle.sheet_types.specs.Matrix.{first_row, has_place, in_frame}
use Rattle.sheet_types.specs.Refuse.{is_at}
use Rattle.sheet_types.specs.World.{Package, has_item, has_kind, base_kind, other_kind, link_key}
use Rattle.sheet_types.specs.declared.command.Relation.{Relation}
use Rattle.sheet_types.specs.declared.frame.Frame.{Frame}
use Rattle.sheet_types.specs.declared.refusal.Refusal.{Refusal}
use Rattle.sheet_types.specs.declared.refusal.Refusal.TheVariants.{UnknownItem, WrongKind, BadPlace, OutOfFrame}
use Rattle.sheet_types.specs.declared.refusal.Refusal.TheVariants.{PlaceTaken, LinkThere, Linked}
use Rattle.identity_register.specs.Answers.{link_state}
use Rattle.identity_register.specs.declared.look_ups.LinkState.{LinkState}
use Rattle.identity_register.specs.declared.look_ups.LinkState.TheVariants.{UnknownEnd, WrongKinds, Absent, There}
use Rattle.world_members.specs.Reasons.{tile_reasons, delete_reasons, link_reasons, reason_told}

-- ---- rows

pub holds : {X : Type 0} (b : Bool) (x : X) (rows : List (Bool × X)) → b ≡ true
    → Some x ≡ first_row ((b, x) ∷ rows)
holds true x rows h = refl
holds false x rows h = cc

pub passes : {X : Type 0} (b : Bool) (x : X) (rows : List (Bool × X)) → b ≡ false
    → first_row ((b, x) ∷ rows) ≡ first_row rows
passes true x rows h = cc
passes false x rows h = refl

pub last : {X : Type 0} (b : Bool) (x : X) → then_some b x ≡ first_row ((b, x) ∷ [])
last true x = refl
last false x = refl

-- ---- what the look-ups answer

abbrev pub IsTaken : ℤ → ℤ → ℤ → Frame → Package → Bool → Type 0
IsTaken zoom column row f p found = found ≡ list_any (λ i. is_at zoom column row i.content) p.items

abbrev pub IsLinked : List ℕ → Frame → Package → Option Bool → Type 0
IsLinked id f p found = found ≡ then_some (has_item p id) (list_any (has_end id) p.links)

abbrev pub IsThere : Relation → Frame → Package → Bool → Type 0
IsThere l f p found = found ≡ has link_key (link_key l) p.links

abbrev pub IsState : Relation → Frame → Package → LinkState → Type 0
IsState l f p found = found ≡ link_state p l

-- ---- a tile

pub no_place : (f g : Frame) (p : Package) (zoom column row : ℤ) (has_one : Bool)
    → has_one ≡ has_place g zoom column row → has_one ≡ false → f ≡ g
    → Some BadPlace ≡ first_row (tile_reasons f p zoom column row)
no_place f g p zoom column row has_one is bad same = holds (not (has_place f zoom column row)) BadPlace
    (drop 1 (tile_reasons f p zoom column row)) (ap (λ x. not (has_place x zoom column row)) same
    ∙ ap not (sym is ∙ bad))

pub a_place : (f g : Frame) (p : Package) (zoom column row : ℤ) (has_one taken : Bool)
    → has_one ≡ has_place g zoom column row → has_one ≡ true → IsTaken zoom column row f p taken → f ≡ g
    → then_some taken PlaceTaken ≡ first_row (tile_reasons f p zoom column row)
a_place f g p zoom column row has_one taken is good told same =
    ap (λ b. then_some b PlaceTaken) told ∙ last (list_any (λ i. is_at zoom column row i.content) p.items)
    PlaceTaken
    ∙ sym (passes (not (has_place f zoom column row)) BadPlace (drop 1 (tile_reasons f p zoom column row))
    (ap (λ x. not (has_place x zoom column row)) same ∙ ap not (sym is ∙ good)))

-- ---- a row

pub on_frame : (f g : Frame) (x y : ℤ) (inside : Bool) → inside ≡ in_frame g x y → f ≡ g
    → then_some (not inside) OutOfFrame ≡ first_row ((not (in_frame f x y), OutOfFrame) ∷ [])
on_frame f g x y inside is same = ap (λ b. then_some (not b) OutOfFrame) (is ∙ ap (λ h. in_frame h x y) (sym same))
    ∙ last (not (in_frame f x y)) OutOfFrame

-- ---- an item that goes

-- why an item does not go, by whether it is there and whether a link names it
abbrev delete_reason : Option Bool → Option Refusal
delete_reason found = option_map_or (λ linked. then_some linked Linked) found (Some UnknownItem)

pub delete_told : (p : Package) (id : List ℕ) (found : Option Bool)
    → found ≡ then_some (has_item p id) (list_any (has_end id) p.links)
    → delete_reason found ≡ first_row (delete_reasons p id)
delete_told p id found told = ap delete_reason told ∙ each (has_item p id) (list_any (has_end id) p.links)
  where
    each : (known linked : Bool) → delete_reason (then_some known linked)
        ≡ first_row ((not known, UnknownItem) ∷ (linked, Linked) ∷ [])
    each true true = refl
    each true false = refl
    each false linked = refl

-- ---- a link that comes

pub reason_is : (p : Package) (l : Relation) → reason_told (link_state p l) ≡ first_row (link_reasons p l)
reason_is p l = each (has_item p l.base && has_item p l.other)
    (has_kind p (base_kind l.mapping) l.base && has_kind p (other_kind l.mapping) l.other)
    (has link_key (link_key l) p.links)
  where
    each : (known right there : Bool) → reason_told (if not known then UnknownEnd else if not right then
        WrongKinds else if there then There else Absent) ≡ first_row
        ((not known, UnknownItem) ∷ (not right, WrongKind) ∷ (there, LinkThere) ∷ [])
    each true true true = refl
    each true true false = refl
    each true false there = refl
    each false right there = refl
