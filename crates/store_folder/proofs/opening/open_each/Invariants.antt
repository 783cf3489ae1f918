use Rattle.std.proofs.Common.{◌≡◌, All, length, take}
use Rattle.std.specs.List.{AllZip}
use Rattle.store_folder.proofs.opening.open_each.Given as goal

abbrev pub invariant-loop-package : goal.invariant-loop-package
invariant-loop-package g l = record {
  opened : All g.T.InFolder.is_just_opened l.stores.items;
  fresh : All g.T.InFolder.is_new l.stores.items;
  own : AllZip g.T.InFolder.is_of (take l.package-index l.packages) l.stores.items;
  each : length l.stores.items ≡ l.package-index;
}
