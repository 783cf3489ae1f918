use Rattle.std.proofs.Common.{ℤ, rules}
use Rattle.std.proofs.lemmas.List.Sorted.{answers_always}
use Rattle.package_tables.specs.declared.rows.MovedRow.{MovedRow}
use Rattle.package_receipts.proofs.Saying.{turned}
use Rattle.package_receipts.proofs.in_turn.Goals as goal

pub returns-clause-turn : goal.returns-clause-turn
returns-clause-turn c =
    let key : MovedRow → ℤ × ℤ = λ m. (m.seq, m.position) in
    let sorted = c.sort_unstable_by_key.ensures.sorted key (answers_always _ _ _ (λ f a r g h. search rules)) in
    turned c.sort_unstable_by_key.new.self.items (λ k d less. sorted k d (search rules) less)
