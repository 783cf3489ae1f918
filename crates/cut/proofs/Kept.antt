-- A package that a register keeps is in order.
use Rattle.std.specs.Prelude.{◌≡◌, ℕ, List, false}
use Rattle.sheet_types.specs.Matrix.{has_place}
use Rattle.sheet_types.specs.Refuse.{bad_place}
use Rattle.sheet_types.specs.Register.{IsFit}
use Rattle.sheet_types.specs.World.{World}
use Rattle.sheet_types.specs.declared.command.Command.TheVariants.{Add}
use Rattle.sheet_types.specs.declared.command.Content.{Content}
use Rattle.sheet_types.specs.declared.command.Content.TheVariants.{Tile, Media, Row}
use Rattle.sheet_types.proofs.Basics.{not_false}
use Rattle.sheet_types.proofs.Every.{All-weaker}
use Rattle.cut.specs.Laws.{KeptIsInOrder}
use Rattle.cut.specs.Taken.{HasPlace}

place : (w : World) (uuid identity : List ℕ) (x : Content) → bad_place w (Add uuid identity x) ≡ false
    → HasPlace w.frame x
place w uuid identity (Tile zoom column row bytes) h = not_false (has_place w.frame zoom column row) h
place w uuid identity (Media content_type bytes) h = tt
place w uuid identity (Row x y code label) h = tt

pub kept_in_order : KeptIsInOrder
kept_in_order w p kept = record {
  items = kept.items;
  links = kept.links;
  identities = kept.identities;
  places = All-weaker (IsFit w p) (λ i. HasPlace w.frame i.content)
      (λ i fit. place w p.uuid i.identity i.content fit.2) p.items kept.fit;
  ends = kept.ends;
}
