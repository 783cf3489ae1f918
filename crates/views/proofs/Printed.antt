-- The text that is made is the map of the world.
use Rattle.std.proofs.Common.{◌≡◌, ◌∙◌, ℕ, ℤ, List, Option, ap, subst}
use Rattle.std.specs.Prelude.{true}
use Rattle.sheet_types.specs.Matrix.{has_level}
use Rattle.sheet_types.specs.World.{World}
use Rattle.sheet_types.specs.declared.frame.Frame.{Frame}
use Rattle.view_map.specs.Maps.{map_text}
use Rattle.view_map.specs.Worlds.{AreHolders, IsWorldMap}
use Rattle.view_map.specs.declared.holders.Holder.{Holder}
use Rattle.views.specs.Printed.{HasZoom, IsMap}
use Rattle.views.specs.Zooms.{drawn_zoom}

pub made_of : (w : World) (f : Frame) (zoom : ℤ) (hs : List Holder) (text : List ℕ) → f ≡ w.frame
    → AreHolders w zoom hs → text ≡ map_text f zoom hs → IsWorldMap w zoom text
made_of w f zoom hs text frame are is = (hs, are, is ∙ ap (λ x. map_text x zoom hs) frame)

-- of a zoom that a frame has, which is that of the world
module _ (w : World) (f : Frame) (asked : Option ℤ) (zoom : ℤ) (frame : f ≡ w.frame)
    (is : zoom ≡ drawn_zoom f asked) where
  drawn : zoom ≡ drawn_zoom w.frame asked
  drawn = is ∙ ap (λ x. drawn_zoom x asked) frame

  pub has_zoom : has_level f zoom ≡ true → HasZoom w asked
  has_zoom level = subst (λ z. has_level w.frame z ≡ true) drawn
      (subst (λ x. has_level x zoom ≡ true) frame level)

  pub is_map : (text : List ℕ) → IsWorldMap w zoom text → IsMap w asked text
  is_map text map = subst (λ z. IsWorldMap w z text) drawn map
