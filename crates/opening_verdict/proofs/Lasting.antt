-- A map of the last receipt that names each package, receipt by receipt.
use Rattle.std.specs.Prelude.{◌≡◌, ℕ, Bool, true, false, cond, ◌||◌, List, [], ◌∷◌, ◌++◌, Some}
use Rattle.std.specs.Prelude.{unwrap_or, bytes_eq}
use Rattle.std.specs.Prelude.{max, refl}
use Rattle.std.proofs.Common.{sym, ap, subst, ◌∙◌}
use Rattle.std.specs.Ordering.{nat_cmp}
use Rattle.std.specs.Cmp.Lexicographic.{slice_cmp}
use Rattle.std.specs.BTreeMap.{BTreeMap, get, Updates}
use Rattle.std.proofs.lemmas.Slice.Eq.{bytes_eq-Decides}
use Rattle.std.proofs.lemmas.List.Sums.{fold-append}
use Rattle.sheet_types.specs.Custody.{names_package}
use Rattle.sheet_types.specs.declared.receipt.Receipt.{Receipt}
use Rattle.sheet_ledger.proofs.Maps.{at_key}
use Rattle.opening_verdict.specs.Tickets.{last_in, last_naming, TellsLast}

-- a key whose number is now the greater of two
pub last_noted : (m new : BTreeMap (List ℕ) ℕ) (k : List ℕ) (before seq top : ℕ) → before ≡ last_in m k
    → top ≡ max before seq → Updates (slice_cmp nat_cmp) m new k (Some top) → (p : List ℕ)
    → last_in new p ≡ cond (bytes_eq k p) (max (last_in m p) seq) (last_in m p)
last_noted m new k before seq top was is h p =
    ap (λ o. unwrap_or o 0) (at_key m new k (Some top) h p)
    ∙ elim (bytes_eq k p) as (λ v. bytes_eq k p ≡ v → unwrap_or
    (cond v (Some top) (get (slice_cmp nat_cmp) m p)) 0
    ≡ cond v (max (last_in m p) seq) (last_in m p)) [
      | true ↦ λ e. is ∙ ap (λ n. max n seq) (was ∙ ap (last_in m) ((bytes_eq-Decides k p).0 e))
      | false ↦ λ e. refl
    ] refl

-- one receipt more
pub last_more : (m new : BTreeMap (List ℕ) ℕ) (rs more : List Receipt) (r : Receipt) → more ≡ rs ++ r ∷ []
    → TellsLast m rs
    → ((p : List ℕ) → last_in new p ≡ cond (names_package p r) (max (last_in m p) r.seq) (last_in m p))
    → TellsLast new more
last_more m new rs more r is was step p =
    step p ∙ ap (λ n. cond (names_package p r) (max n r.seq) n) (was p)
    ∙ sym (ap (last_naming p) is ∙ fold-append (λ n x. cond (names_package p x) (max n x.seq) n) 0 rs (r ∷ []))
