-- The reasons for a refusal by what they ask: the request alone, or one package and its frame. Each list is in the
-- order of the model, of which the first that holds is the reply. Profile.
use Rattle.std.specs.Prelude.{ℕ, ℤ, Bool, not, ◌&&◌, ◌||◌, List, [], ◌∷◌, Option, Some, None}
use Rattle.std.specs.List.{list_any}
use Rattle.sheet_types.specs.Ordered.{has}
use Rattle.sheet_types.specs.Matrix.{has_place, in_frame}
use Rattle.sheet_types.specs.Texts.{is_moment}
use Rattle.sheet_types.specs.World.{Package, has_item, has_kind, link_key, base_kind, other_kind}
use Rattle.sheet_types.specs.Cut.{has_end}
use Rattle.sheet_types.specs.Refuse.{bad_text, too_large, is_at}
use Rattle.sheet_types.specs.declared.command.Command.{Command}
use Rattle.sheet_types.specs.declared.command.Command.TheVariants.{Add, Delete, Link, Unlink, Split, Merge}
use Rattle.sheet_types.specs.declared.command.Content.{Content}
use Rattle.sheet_types.specs.declared.command.Content.TheVariants.{Tile, Media, Row}
use Rattle.sheet_types.specs.declared.command.Relation.{Relation}
use Rattle.sheet_types.specs.declared.command.Request.{Request}
use Rattle.sheet_types.specs.declared.frame.Frame.{Frame}
use Rattle.sheet_types.specs.declared.refusal.Refusal.{Refusal}
use Rattle.sheet_types.specs.declared.refusal.Refusal.TheVariants.{BadText, TooLarge, UnknownItem, WrongKind}
use Rattle.sheet_types.specs.declared.refusal.Refusal.TheVariants.{BadPlace, OutOfFrame, PlaceTaken, LinkThere}
use Rattle.sheet_types.specs.declared.refusal.Refusal.TheVariants.{UnknownLink, Linked}
use Rattle.identity_register.specs.declared.look_ups.LinkState.{LinkState}
use Rattle.identity_register.specs.declared.look_ups.LinkState.TheVariants.{UnknownEnd, WrongKinds, Absent, There}

-- of the request alone: its moment, its texts and its sizes
abbrev pub text_reasons : Request → List (Bool × Refusal)
text_reasons q = (not (is_moment q.at) || bad_text q.command, BadText) ∷ (too_large q.command, TooLarge) ∷ []

-- of a tile that is to come to a place
abbrev pub tile_reasons : Frame → Package → ℤ → ℤ → ℤ → List (Bool × Refusal)
tile_reasons f p zoom column row = (not (has_place f zoom column row), BadPlace)
    ∷ (list_any (λ i. is_at zoom column row i.content) p.items, PlaceTaken) ∷ []

-- of an item that is to come in
abbrev pub content_reasons : Frame → Package → Content → List (Bool × Refusal)
content_reasons f p (Tile zoom column row bytes) = tile_reasons f p zoom column row
content_reasons f p (Media content_type bytes) = []
content_reasons f p (Row x y code label) = (not (in_frame f x y), OutOfFrame) ∷ []

-- of an item that is to go
abbrev pub delete_reasons : Package → List ℕ → List (Bool × Refusal)
delete_reasons p identity = (not (has_item p identity), UnknownItem) ∷ (list_any (has_end identity) p.links, Linked)
    ∷ []

-- of a link that is to come in
abbrev pub link_reasons : Package → Relation → List (Bool × Refusal)
link_reasons p l =
    (not (has_item p l.base && has_item p l.other), UnknownItem)
    ∷ (not (has_kind p (base_kind l.mapping) l.base && has_kind p (other_kind l.mapping) l.other), WrongKind)
    ∷ (has link_key (link_key l) p.links, LinkThere)
    ∷ []

-- which of them a state of the link tells
abbrev pub reason_told : LinkState → Option Refusal
reason_told UnknownEnd = Some UnknownItem
reason_told WrongKinds = Some WrongKind
reason_told Absent = None
reason_told There = Some LinkThere

-- of a link that is to go
abbrev pub unlink_reasons : Package → Relation → List (Bool × Refusal)
unlink_reasons p l = (not (has link_key (link_key l) p.links), UnknownLink) ∷ []

-- Of a command that changes one package. A split and a merge have reasons of their own, and none of these.
abbrev pub package_reasons : Frame → Package → Command → List (Bool × Refusal)
package_reasons f p (Add uuid identity content) = content_reasons f p content
package_reasons f p (Delete uuid identity) = delete_reasons p identity
package_reasons f p (Link uuid mapping base other) = link_reasons p
    (record { mapping = mapping; base = base; other = other })
package_reasons f p (Unlink uuid mapping base other) = unlink_reasons p
    (record { mapping = mapping; base = base; other = other })
package_reasons f p (Split uuid child mode rect) = []
package_reasons f p (Merge child into ticket) = []
