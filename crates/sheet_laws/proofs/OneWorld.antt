-- No list of stores stands for two worlds.
use Rattle.std.specs.Prelude.{◌≡◌, List, Option, unwrap_or}
use Rattle.std.proofs.Common.{sym, ap, ◌∙◌}
use Rattle.sheet_types.specs.World.{World, Package}
use Rattle.sheet_types.specs.Opening.{Head, Claim, Stands, world_read}
use Rattle.sheet_types.specs.declared.frame.Frame.{Frame}

module _ (Store : Type 0) (head : Store → Option Head) (claims : Store → List Claim) (IsFormed : Store → Type 0)
    (IsTied : Store → Type 0) (frame_of : Store → Frame) (read : Store → Package) where
  -- one archive's store is found, so one world is read
  pub one_world : (stores : List Store) (v w : World) → Stands Store head claims IsFormed IsTied frame_of read
      stores v → Stands Store head claims IsFormed IsTied frame_of read stores w → v ≡ w
  one_world stores v w a b =
      let root : a.read_as.0 ≡ b.read_as.0 = ap (λ o. unwrap_or o a.read_as.0) (sym a.read_as.1 ∙ b.read_as.1) in
      a.read_as.2 ∙ ap (world_read Store head claims IsFormed IsTied frame_of read stores) root ∙ sym b.read_as.2
