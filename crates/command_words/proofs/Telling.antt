-- What is told goes out in pieces.
use Rattle.std.proofs.Common.{ℕ, List, ◌++◌, Option, Result, Ok, Err, OnOk}
use Rattle.std.specs.Io.KnownBytes.{Appends}
use Rattle.std.proofs.KnownBytes.{Appends-trans}

-- four pieces, of which the last may fail
pub four_sent : {X E : Type 0} (a b c d e : Option (List ℕ)) (p q r s : List ℕ) (sent : Result X E)
    → Appends a b p
    → Appends b c q → Appends c d r → OnOk sent (Appends d e s) → OnOk sent (Appends a e (p ++ (q ++ (r ++ s))))
four_sent a b c d e p q r s (Ok x) one two three last =
    Appends-trans a b e p (q ++ (r ++ s)) one (Appends-trans b c e q (r ++ s) two (Appends-trans c d e r s three last))
four_sent a b c d e p q r s (Err x) one two three last = last
