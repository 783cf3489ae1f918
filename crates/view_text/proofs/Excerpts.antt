-- Receipts that were chosen by their places are those that are asked for.
use Rattle.std.proofs.Common.{◌≡◌, ◌∙◌, ℕ, List, [], ◌∷◌, ◌++◌, refl, ap, sym, map, length}
use Rattle.std.proofs.Common.{drop}
use Rattle.std.specs.Borrow.{Bor}
use Rattle.std.specs.Prelude.{Option, flat_map}
use Rattle.std.proofs.lemmas.List.{drop-map, length-map}
use Rattle.sheet_types.specs.declared.receipt.Receipt.{Receipt}
use Rattle.view_text.specs.Ledgers.{last_of, ledger_line, passed}

-- the lines of receipts that are borrowed
pub flat_behind : (xs : List (Bor Receipt)) → flat_map (λ (r : Bor Receipt). ledger_line r.now) xs
    ≡ flat_map ledger_line (map (λ (r : Bor Receipt). r.now) xs)
flat_behind [] = refl
flat_behind (x ∷ xs) = ap (λ l. ledger_line x.now ++ l) (flat_behind xs)

-- the last of them
pub last_behind : (found : List (Bor Receipt)) (asked : List Receipt) (last : Option ℕ)
    → map (λ (r : Bor Receipt). r.now) found ≡ asked
    → map (λ (r : Bor Receipt). r.now) (drop (passed last (length found)) found) ≡ last_of last asked
last_behind found asked last are =
    let start = passed last (length found) in
    sym (drop-map (λ (r : Bor Receipt). r.now) start found) ∙ ap (drop start) are
    ∙ ap (λ n. drop n asked) (ap (passed last) (sym (length-map found (λ (r : Bor Receipt). r.now))
    ∙ ap length are))
