use Rattle.std.proofs.Common.{◌≡◌, ℕ, List, length, take}
use Rattle.hex.specs.Hex.{encode_lower}
use Rattle.sheet_types.specs.Reading.{IsDigest}
use Rattle.sheet_types.proofs.fingerprints.decode.Given as goal

-- each byte so far is that of the digest
abbrev pub invariant-loop-place : goal.invariant-loop-place
invariant-loop-place l = (length l.digest ≡ 32) × ((digest : List ℕ) → IsDigest digest
    → l.text ≡ encode_lower digest → take l.place l.digest ≡ take l.place digest)
