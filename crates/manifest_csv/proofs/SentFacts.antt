-- What went out, piece after piece.
use Rattle.std.proofs.Common.{◌<◌, ◌≤◌, ◌+◌, ◌-◌, ◌++◌, ℕ, List, length, take, drop, Option}
use Rattle.std.proofs.Common.{arith}
use lib.ListN.{length-drop}
use Rattle.std.proofs.lemmas.List.{take_rest, length-append, take-append-le}
use Rattle.std.proofs.Math.Seq.{take-add, take-append-add}
use Rattle.std.proofs.KnownBytes.{Appends-trans}
use Rattle.std.specs.Io.KnownBytes.{Appends}
use Rattle.manifest_csv.specs.Sent.{WentOut, WentOutPast}

pub sent_more : (a b c : Option (List ℕ)) (text : List ℕ) (at n : ℕ) → Appends a b (take at text)
    → Appends b c (take n (take (length text - at) (drop at text))) → Appends a c (take (at + n) text)
sent_more a b c text at n p q = rw (take-add at n text) (Appends-trans a b c _ _ p (rw (take_rest text at) at q))

pub more_within : (text : List ℕ) (at n : ℕ) → at ≤ length text
    → n ≤ length (take (length text - at) (drop at text))
    → at + n ≤ length text
more_within text at n h le = let some : n ≤ length (drop at text) =
    rw (take_rest text at) at le in omega (arith, length-drop at text)

-- two texts are something where the first is
pub some_first : (first second : List ℕ) → 0 < length first → 0 < length (first ++ second)
some_first first second some = rw (length-append first second) (omega (arith, some))

-- a beginning of what comes after a whole text is a beginning of both
pub went_out_after : (a b c : Option (List ℕ)) (first second : List ℕ) → Appends a b first → WentOut b c second
    → WentOut a c (first ++ second)
went_out_after a b c first second p q = (
  length first + q.0,
  rw (length-append first second) (omega (arith, q.1)),
  rw (take-append-add first second q.0)
      (Appends-trans a b c first (take q.0 second) p q.2),
)

-- and it is past the first
pub went_out_past : (a b c : Option (List ℕ)) (first second : List ℕ) → Appends a b first → WentOut b c second
    → WentOutPast first a c (first ++ second)
went_out_past a b c first second p q = (
  length first + q.0,
  omega arith,
  rw (length-append first second) (omega (arith, q.1)),
  rw
      (take-append-add first second q.0) (Appends-trans a b c first (take q.0 second) p q.2),
)

-- what went out past a part, after a whole text
pub past_after : (a b c : Option (List ℕ)) (first sent second : List ℕ) → Appends a b first
    → WentOutPast sent b c second → WentOutPast (first ++ sent) a c (first ++ second)
past_after a b c first sent second p q = (
  length first + q.0,
  rw (length-append first sent) (omega (arith, q.1)),
  rw (length-append first second)
      (omega (arith, q.2)),
  rw (take-append-add first second q.0)
      (Appends-trans a b c first (take q.0 second) p q.3),
)

-- a beginning of a text is a beginning of a longer one
pub went_out_of : (a b : Option (List ℕ)) (first second : List ℕ) → WentOut a b first
    → WentOut a b (first ++ second)
went_out_of a b first second q = (
  q.0,
  rw (length-append first second) (omega (arith, q.1)),
  rw
      (take-append-le q.0 first second (omega (arith, q.1))) q.2,
)
