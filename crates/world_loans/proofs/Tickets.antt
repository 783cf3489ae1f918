-- The tickets after one more receipt, whatever its command.
use Rattle.std.specs.Prelude.{◌≡◌, ◌<◌, ℕ, ◌+◌, cond, List, [], ◌∷◌, ◌++◌, max, length}
use Rattle.std.proofs.Common.{ap, ◌∙◌, arith}
use Rattle.std.proofs.lemmas.List.Sums.{fold-append}
use Rattle.std.specs.List.{AllByRecursion}
use Rattle.sheet_types.specs.Custody.{ticket, names_package}
use Rattle.sheet_types.specs.Register.{IsRegister}
use Rattle.sheet_types.specs.World.{World, receipts_of}
use Rattle.sheet_types.specs.declared.receipt.Receipt.{Receipt}
use Rattle.sheet_laws.proofs.Shifting.{numbers_below}
use Rattle.world_members.proofs.Limits.{ticket_from, ticket_below, greatest}

-- A package that the new receipt names has its number, and every other the one that it had.
pub ticket_next : (w next : World) (r : Receipt) (id : List ℕ) → IsRegister w
    → r.seq ≡ length (receipts_of w) + 1
    → receipts_of next ≡ receipts_of w ++ r ∷ [] → ticket next id
    ≡ cond (names_package id r) r.seq (ticket w id)
ticket_next w next r id register number more =
    let below : AllByRecursion (λ s. s.seq < r.seq) (receipts_of w) =
    numbers_below w r.seq register.balanced.ledger number in
    let small : ticket w id < r.seq = ticket_below 0 id r.seq (receipts_of w) (omega (arith, number)) below in
    ap (ticket_from 0 id) more
    ∙ fold-append (λ m s. cond (names_package id s) (max m s.seq) m) 0 (receipts_of w) (r ∷ [])
    ∙ ap (λ m. cond (names_package id r) m (ticket w id)) (greatest (ticket w id) r.seq small)
