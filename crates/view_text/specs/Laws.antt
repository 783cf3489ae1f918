-- What holds of the way of an item, whatever calls are made. Profile.
use Rattle.std.specs.Prelude.{◌≡◌, ◌↔◌, ℕ, List, ◌∷◌, IsTrue, Some}
use Rattle.sheet_types.specs.Balance.{holds}
use Rattle.sheet_types.specs.Register.{IsRegister}
use Rattle.sheet_types.specs.World.{World, holdings, receipts_of}
use Rattle.view_text.specs.Ways.{place_by}

-- An item is held by the package in which its receipts say that it stands, and by no other. The thing of an item is 0
-- and its identity.
abbrev pub StandsWhereTold : Type 0
StandsWhereTold = (w : World) (id p : List ℕ) → IsRegister w
    → IsTrue (holds (holdings w p) (0 ∷ id)) ↔ (place_by (receipts_of w) id ≡ Some p)
