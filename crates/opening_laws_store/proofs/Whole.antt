-- A store that reads as a package of a register is whole and tied.
use Rattle.std.proofs.Common.{List}
use Rattle.std.specs.List.{AllByRecursion}
use Rattle.package_tables.specs.Package.{tables_of}
use Rattle.package_tables.specs.declared.rows.ContentsRow.{ContentsRow}
use Rattle.identity_register.specs.Reads.{head_row, SayMoments}
use Rattle.package_schema.specs.Frames.{HasMoment}
use Rattle.opening_laws_store.specs.Laws.{KeptStoreIsWhole}
use Rattle.opening_laws_store.proofs.Headed.{row_of_head}
use Rattle.opening_laws_store.proofs.Ranged.{in_ranges}
use Rattle.opening_laws_store.proofs.Received.{receipts_range, claims_are}
use Rattle.opening_laws_store.proofs.Ties.{all_tied}

-- a package says a moment in each row of the contents
moments_told : (listed : List ContentsRow) → SayMoments listed → AllByRecursion HasMoment listed
unfolding HasMoment
moments_told listed dated = dated

pub kept_store_is_whole : KeptStoreIsWhole
kept_store_is_whole w p db kept bounds reads =
    let says = reads.says in
    record {
      formed = reads.formed;
      headed = (
        reads.formed.heads,
        (
          head_row p says.created,
          says.head,
          row_of_head p says.created says.fit_head
              bounds.levelled says.moment,
        ),
      );
      frame = (says.good, says.fixed);
      dated = moments_told (tables_of db).contents says.dated;
      items = in_ranges w p (tables_of db) kept says;
      receipts = receipts_range says.entered p.receipts (tables_of db).receipts (tables_of db).moved says.of_receipts
          kept.receipts bounds.receipts;
      tied = all_tied w.frame p (tables_of db) says;
      claimed = claims_are says.entered p.receipts (tables_of db).receipts (tables_of db).moved says.of_receipts
          kept.receipts;
    }
