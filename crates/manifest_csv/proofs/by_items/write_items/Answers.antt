-- One record more is that of the item that was told.
use Rattle.std.proofs.Common.{◌≡◌, ◌≤◌, Some, ap, length, arith}
use Rattle.std.proofs.KnownBytes.{Appends-nil}
use Rattle.std.specs.Prelude.{Contains}
use Rattle.std.specs.Io.KnownBytes.{Appends}
use Rattle.csv.specs.Writing.{default_writer, row_text, text_written}
use Rattle.sheet_types.specs.declared.command.Item.{Item}
use Rattle.identity_register.proofs.Reaching.{stays_itself, goes_from, goes_on}
use Rattle.manifest_csv.specs.ByItems.{OfPackage}
use Rattle.manifest_csv.specs.Manifests.{item_fields}
use Rattle.manifest_csv.proofs.ItemFacts.{item_told, of_package, record_more, records_all}
use Rattle.manifest_csv.proofs.by_items.write_items.Goals as goal

pub loop-moved-init : goal.loop-moved-init
loop-moved-init g c = record {
  between = c.requires.between;
  read = goes_from (stays_itself g.S.Store g.met.S.Store.shut_if_dirty g.met.S.Store.settled c.args.conn.now
      c.requires.rests) (λ t f p says all. Appends-nil (text_written (λ v. Some v.items) c.args.writer.now));
}

pub loop-moved-preserved : goal.loop-moved-preserved
loop-moved-preserved g c = record {
  between = c.in_ok-write_item.ensures.between;
  read = goes_on (OfPackage (λ p _. (item : Item) → Contains p.items item
      → item.identity ≡ c.moved-item.result.base
      → Appends (text_written (λ v. Some v.items) c.loop-moved.writer)
      (text_written (λ v. Some v.items) c.write_item.new.writer) (row_text default_writer (item_fields item))))
      c.loop-moved.invariant.read c.in_ok-write_item.was (of_package _ c.write_item.result c.write_item.ensures.text)
      (λ t so_far here f p says all.
      let it = item_told p.items c.args.told.now c.loop-moved.moved-index c.moved-item.result all
      c.loop-moved-test.true c.moved-item.is in
      record_more (text_written (λ v. Some v.items) c.args.writer.now)
      (text_written (λ v. Some v.items) c.loop-moved.writer)
      (text_written (λ v. Some v.items) c.write_item.new.writer) p.items c.loop-moved.moved-index it.0 it.3
      (so_far f p says all) (here f p says it.0 it.1 (ap (λ m. m.base) it.2)));
}

pub write_item-requires-clause-rests : goal.write_item-requires-clause-rests
write_item-requires-clause-rests g c = c.loop-moved.invariant.read.stays.rests

pub write_item-requires-clause-between : goal.write_item-requires-clause-between
write_item-requires-clause-between g c = c.loop-moved.invariant.between

pub returns-clause-text : goal.returns-clause-text
returns-clause-text g c = λ clean is_open.
    let past : length c.args.told.now ≤ c.loop-moved.moved-index = omega (arith, c.loop-moved-test.false) in
    let d = c.loop-moved.invariant.read.told clean is_open in (
      d.0,
      (
        d.1,
        λ formed f p says all. records_all (text_written (λ v. Some v.items) c.args.writer.now)
            (text_written (λ v. Some v.items) c.loop-moved.writer) p.items c.args.told.now c.loop-moved.moved-index all
            past (d.2 formed f p says all),
      ),
    )
