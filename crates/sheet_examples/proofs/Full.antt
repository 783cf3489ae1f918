-- What is full in one respect is full.
use Rattle.std.specs.Prelude.{◌≡◌, Bool, true, false, ◌||◌, refl, nat_lt, count_by, length}
use Rattle.std.specs.List.{list_any}
use Rattle.sheet_types.specs.World.{Package, is_tile, is_medium, is_row}
use Rattle.sheet_types.specs.Refuse.{is_overfull}
use Rattle.sheet_examples.specs.Limits.{FullPackage, FullLedger}

-- one of several tests
second : (a c d : Bool) → a || true || c || d ≡ true
second true c d = refl
second false c d = refl

third : (a b d : Bool) → a || b || true || d ≡ true
third true b d = refl
third false true d = refl
third false false d = refl

fourth : (a b c : Bool) → a || b || c || true ≡ true
fourth true b c = refl
fourth false true c = refl
fourth false false true = refl
fourth false false false = refl

last : (a b : Bool) → a || b || true ≡ true
last true b = refl
last false true = refl
last false false = refl

-- the tests of a package
abbrev tiles : Package → Bool
tiles p = nat_lt 1000000 (count_by is_tile p.items)

abbrev media : Package → Bool
media p = nat_lt 1000000 (count_by is_medium p.items)

abbrev rows : Package → Bool
rows p = nat_lt 1000000 (count_by is_row p.items)

abbrev links : Package → Bool
links p = nat_lt 4000000 (length p.links)

pub full_package : FullPackage
full_package p = (
  (λ t m r l. rw t (rw m (rw r (rw l refl)))),
  (λ n. rw n refl),
  (λ n. rw n (second (tiles p) (rows p) (links p))),
  (λ n. rw n (third (tiles p) (media p) (links p))),
  (λ n. rw n (fourth (tiles p) (media p) (rows p))),
)

pub full_ledger : FullLedger
full_ledger w = (
  (λ n. rw n (last (list_any is_overfull w.packages) (nat_lt 256 (length w.packages)))),
  (λ n m none. rw none (rw m (rw n refl))),
  (λ any. rw any refl),
)
