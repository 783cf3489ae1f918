-- The store is as it was, and the records of the items so far are written.
use Rattle.std.proofs.Common.{◌≡◌, Some, map, take}
use Rattle.std.specs.Io.KnownBytes.{Appends}
use Rattle.csv.specs.Writing.{text_written}
use Rattle.sqlite.specs.Held.{state}
use Rattle.sheet_types.specs.World.{item_moved}
use Rattle.identity_register.proofs.Reaching.{GoesOn}
use Rattle.manifest_csv.specs.ByItems.{OfPackage}
use Rattle.manifest_csv.specs.Manifests.{IsBetween, item_fields, records_text}
use Rattle.manifest_csv.proofs.by_items.write_items.Given as goal

abbrev pub invariant-loop-moved : goal.invariant-loop-moved
invariant-loop-moved g l = record {
  between : IsBetween l.writer;
  read : GoesOn (λ t. OfPackage {X = Unit {0}} (λ p _. l.told ≡ map item_moved p.items
      → Appends (text_written (λ v. Some v.items) l.initial.writer) (text_written (λ v. Some v.items) l.writer)
      (records_text item_fields (take l.moved-index p.items))) t tt)
      (state g.S.Store l.fn.conn) (state g.S.Store l.conn);
}
