-- A text that a number writes parses to it.
use Rattle.std.proofs.Common.{◌≡◌, ℕ, ℤ, List, Result, Ok, rules, FitsSigned, w64}
use Rattle.std.proofs.lemmas.Fmt.{parse-signed_decimal}
use Rattle.std.specs.Fmt.{signed_decimal}
use Rattle.std.specs.Str.Parse.{ParsesSigned}

pub reads_back : {E : Type 0} (z : ℤ) (bs : List ℕ) (r : Result ℤ E) → FitsSigned w64 z
    → ParsesSigned w64 10 bs r → bs ≡ signed_decimal z → r ≡ Ok z
reads_back z bs r fits parses is = parse-signed_decimal w64 z bs r fits (search rules) is parses
