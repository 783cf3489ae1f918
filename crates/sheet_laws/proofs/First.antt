-- A new world, of one empty archive, is that of a register.
use Rattle.std.specs.Prelude.{ℕ, List, refl}
use Rattle.std.specs.List.{IsDistinct}
use Rattle.sheet_types.specs.Register.{IsKeptPackage}
use Rattle.sheet_laws.specs.Laws.{NewWorldIsRegister}
use Rattle.sheet_types.specs.World.{no_package, new_world}
use Rattle.sheet_types.specs.Lines.{IsUuid}
use Rattle.sheet_types.specs.declared.frame.Frame.{Frame}
use Rattle.sheet_types.proofs.NewWorld.{new_balanced}

kept : (frame : Frame) (archive : List ℕ) → IsUuid archive → IsKeptPackage (new_world archive frame)
    (record no_package { uuid = archive })
unfolding IsDistinct
kept frame archive uuid = record {
  uuid = uuid;
  items = tt;
  links = tt;
  receipts = tt;
  identities = tt;
  uuids = tt;
  fit = tt;
  places = tt;
  ends = tt;
  parent = (refl, refl);
}

-- the law of a new world
pub new_world_is_register : NewWorldIsRegister
new_world_is_register archive frame uuid good = record {
  frame = good;
  arranged = (tt, tt);
  archive = refl;
  packages = (kept frame archive uuid, tt);
  open_loans = tt;
  balanced = new_balanced frame archive;
  unaltered = refl;
}
