-- An identity that a text gives is a UUID.
use Rattle.std.specs.Prelude.{◌≡◌, ◌<◌, ◌+◌, ◌%◌, ℕ, zero, suc, List, [], ◌∷◌, length, take}
use Rattle.std.specs.Prelude.{slice_index, slice_set}
use Rattle.std.proofs.Common.{◌∙◌, arith}
use Rattle.std.proofs.lemmas.List.{length-set, length-take-le}
use Rattle.std.specs.Int.{to_be_bytes, w32}
use Rattle.std.specs.List.{AllByRecursion}
use Rattle.sha2.specs.Sha256.{sha256, digest_bytes, final_hash, initial_hash_256}
use Rattle.sha2.proofs.Facts256.{length-sha256}
use Rattle.uuid.specs.Parts.{with_variant}
use Rattle.uuid.specs.declared.Variant.TheVariants.{RFC4122}
use Rattle.sheet_types.specs.Lines.{IsUuid}
use Rattle.sheet_types.proofs.Every.{All-append}
use Rattle.sheet_types.proofs.Fitting.{bytes_fit}
use Rattle.field_changes.specs.Ids.{derived}

abbrev AreBytes : List ℕ → Type 0
AreBytes xs = AllByRecursion (λ b. b < 256) xs

word_bytes : (n : ℕ) → AreBytes (to_be_bytes w32 n)
word_bytes n = (omega arith, (omega arith, (omega arith, (omega arith, tt))))

digest_small : (h : List ℕ) (n : ℕ) → AreBytes (digest_bytes h n)
unfolding digest_bytes
digest_small h zero = tt
digest_small h (suc n) = All-append (λ b. b < 256) (digest_bytes h n) (to_be_bytes w32 (slice_index h n))
    (digest_small h n) (word_bytes (slice_index h n))

sha_small : (m : List ℕ) → AreBytes (sha256 m)
unfolding sha256
sha_small m = digest_small (final_hash initial_hash_256 m) 8

small_take : (n : ℕ) (xs : List ℕ) → AreBytes xs → AreBytes (take n xs)
small_take zero [] h = tt
small_take zero (x ∷ xs) h = tt
small_take (suc n) [] h = tt
small_take (suc n) (x ∷ xs) h = (h.0, small_take n xs h.1)

small_set : (xs : List ℕ) (i a : ℕ) → a < 256 → AreBytes xs → AreBytes (slice_set xs i a)
small_set [] zero a small h = tt
small_set [] (suc i) a small h = tt
small_set (x ∷ xs) zero a small h = (small, h.1)
small_set (x ∷ xs) (suc i) a small h = (h.0, small_set xs i a small h.1)

pub derived_is_uuid : (text : List ℕ) → IsUuid (derived text)
derived_is_uuid text =
    let front : List ℕ = take 16 (sha256 text) in
    let long : length front ≡ 16 = length-take-le 16 (sha256 text) (omega (arith, length-sha256 text)) in
    let varied : List ℕ = with_variant front RFC4122 in
    bytes_fit 16 (derived text)
    (length-set varied 6 (slice_index varied 6 % 16 + 128) ∙ length-set front 8 (slice_index front 8 % 64 + 128)
    ∙ long)
    (small_set varied 6 (slice_index varied 6 % 16 + 128) (omega arith)
    (small_set front 8 (slice_index front 8 % 64 + 128) (omega arith)
    (small_take 16 (sha256 text) (sha_small text))))
