-- Places of entries, noted from the last to the first.
use Rattle.std.specs.Prelude.{◌≡◌, ℕ, true, false, cond, List, Some, bytes_eq, slice_get, length}
use Rattle.std.specs.HashMap.{HashMap, get, Updates}
use Rattle.std.specs.Option.{option_and_then}
use Rattle.std.proofs.Common.{◌∙◌, ◌+◌, ◌<◌, ap, sym, drop, get_or}
use Rattle.std.proofs.lemmas.List.{drop_more}
use Rattle.std.proofs.lemmas.Option.{slice_get-get_or}
use Rattle.sheet_types.specs.Ordered.{entry}

-- the places of the entries from one on
abbrev pub ArePlacesFrom : {X S : Type 0} → (X → List ℕ) → HashMap (List ℕ) ℕ S → List X → ℕ
    → Type 0
ArePlacesFrom key places xs from =
    (id : List ℕ) → option_and_then (slice_get xs) (get bytes_eq places id) ≡ entry key id (drop from xs)

-- with the place of the entry before them
pub one_noted : {X S : Type 0} (key : X → List ℕ) (places new : HashMap (List ℕ) ℕ S) (xs : List X) (at : ℕ)
    (x : X)
    → at < length xs
    → Updates bytes_eq places new (key (get_or xs at x)) (Some at) → ArePlacesFrom key places xs (at + 1)
    → ArePlacesFrom key new xs at
one_noted key places new xs at x within noted rest = λ id.
    ap (option_and_then (slice_get xs)) (noted.0 id)
    ∙ elim (bytes_eq (key (get_or xs at x)) id) as (λ b. option_and_then (slice_get xs)
    (cond b (Some at) (get bytes_eq places id))
    ≡ cond b (Some (get_or xs at x)) (entry key id (drop (at + 1) xs))) [
      | true ↦ slice_get-get_or xs at x within
      | false ↦ rest id
    ]
    ∙ sym (ap (entry key id) (drop_more xs at x within))
