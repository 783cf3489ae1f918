use Rattle.std.proofs.Common.{ℕ, ℤ, rules}
use Rattle.std.specs.Prelude.{unsigned_abs}
use Rattle.std.proofs.lemmas.List.Sorted.{answers_always}
use Rattle.package_tables.proofs.Sizes.{sized}
use Rattle.package_tables.proofs.numbers.in_size.Goals as goal

pub returns-clause-order : goal.returns-clause-order
returns-clause-order c =
    let key : ℤ → ℕ × ℤ = λ n. (unsigned_abs n, n) in
    let sorted = c.sort_unstable_by_key.ensures.sorted key (answers_always _ _ _ (λ f a r g h. search rules)) in
    sized c.sort_unstable_by_key.new.self.items (λ k d less. sorted k d (search rules) less)
