use Rattle.std.specs.Prelude.{map, ◌≡◌, false}
use Rattle.sqlite.specs.Held.{state}
use Rattle.package_creation.proofs.SchemaMakes.{Along}
use Rattle.package_creation.proofs.schema.make_each.Given as goal

abbrev pub invariant-loop-text : goal.invariant-loop-text
invariant-loop-text g l = record {
  same : l.tx.conn.ghost_name ≡ l.fn.tx.conn.ghost_name;
  along : Along (map (λ text. text.now) l.texts) l.text-index (state g.S.Store l.fn.tx.conn.now)
      (state g.S.Store l.tx.conn.now);
  ended : l.fn.tx.conn.now.in_transaction ≡ false → (l.text-index ≡ 0) × (l.tx.conn.now ≡ l.fn.tx.conn.now);
}
