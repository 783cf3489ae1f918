-- One field is not two words.
use Rattle.std.specs.Prelude.{◌≡◌, ◌≢◌, ℕ, false, List, bytes_eq, Option, Some}
use Rattle.std.proofs.Common.{sym}
use Rattle.sheet_types.proofs.Basics.{bytes_eq_itself, differ, some_once}

pub apart : (one other : List ℕ) → bytes_eq one other ≡ false → one ≢ other
apart one other told same = differ (bytes_eq one) told (bytes_eq_itself one) (sym same)

pub clash : (field : Option (List ℕ)) (one other : List ℕ) → field ≡ Some one → field ≡ Some other
    → bytes_eq one other ≡ false → ⊥
clash field one other e f told = apart one other told (some_once field one other e f)

-- what a field is by what was read there
pub is_word : (field : Option (List ℕ)) (text word : List ℕ) → Some text ≡ field → text ≡ word
    → field ≡ Some word
is_word field text word found same = cc
