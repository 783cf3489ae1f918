use Rattle.std.proofs.Common.{◌≡◌, Some, slice_get, sym, ◌∙◌, rules}
use Rattle.sqlite_schema.specs.Names.{table_named}
use Rattle.store_sql.proofs.Both.{four}
use Rattle.store_sql.proofs.Placing.{placed, unplaced}
use Rattle.store_sql.proofs.keys.has_table.Goals as goal

pub returns : goal.returns
returns c =
    let s = c.args.schema.now in
    let t = c.in-Some-get.table.now in
    let named : table_named s c.args.form.now.name.now ≡ Some c.in-Some.at = search rules in
    let there : slice_get s.tables c.in-Some.at ≡ Some t = search rules in
    let all = four _ _ _ _ c.has_columns_of-columns.ensures c.has_keys_of-keys.ensures
    (rw c.as_slice.ensures at c.is_first_of_tree-first.ensures) c.is_low.ensures in (
      λ yes. placed s c.args.form.now c.in-Some.at t named there (all.0 yes),
      λ is. all.1
          (unplaced s c.args.form.now c.in-Some.at t named there is),
    )
