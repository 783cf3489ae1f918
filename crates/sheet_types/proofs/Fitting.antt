-- The values of the types are fit for a line: UUIDs, digests, and the entry of a command whose sizes are in bounds.
use Rattle.std.specs.Prelude.{◌≡◌, ℕ, zero, suc, ◌<◌, ◌==◌, true, false, nat_lt, nat_le, List, []}
use Rattle.std.specs.Prelude.{◌∷◌, ◌++◌, refl, length, slice_index, pos}
use Rattle.std.proofs.Common.{arith}
use Rattle.std.proofs.lemmas.Bool.{and_parts, and_from, lt-ltb, eq-eqb}
use Rattle.std.proofs.lemmas.Bool.Decides.{nat_tests}
use Rattle.std.specs.List.{list_all, AllByRecursion}
use Rattle.std.specs.Int.{to_be_bytes, w32}
use Rattle.sha2.specs.Sha256.{sha256, digest_bytes, final_hash, initial_hash_256}
use Rattle.sha2.proofs.Facts256.{length-sha256}
use Rattle.sheet_types.specs.Texts.{entry_of, fingerprint, content_bytes, kind_of, size}
use Rattle.sheet_types.specs.Lines.{is_bytes, is_number, HasTypes, IsFitEntry}
use Rattle.sheet_types.specs.World.{is_item_kind}
use Rattle.sheet_types.specs.Refuse.{too_large, has_good_size, is_length_within}
use Rattle.sheet_types.specs.declared.command.Command.{Command}
use Rattle.sheet_types.specs.declared.command.Command.TheVariants.{Add, Delete, Link, Unlink, Split, Merge}
use Rattle.sheet_types.specs.declared.command.Content.{Content}
use Rattle.sheet_types.specs.declared.command.Content.TheVariants.{Tile, Media, Row}
use Rattle.sheet_types.proofs.Basics.{not_false}

-- ---- bytes

-- the test of each byte
below_all : (bytes : List ℕ) → AllByRecursion (λ b. b < 256) bytes → list_all (λ b. nat_lt b 256) bytes ≡ true
below_all [] h = refl
below_all (b ∷ bytes) h = and_from (nat_lt b 256) (list_all (λ x. nat_lt x 256) bytes) (lt-ltb b 256 h.0)
    (below_all bytes h.1)

-- n bytes are what the test says
pub bytes_fit : (n : ℕ) (bytes : List ℕ) → length bytes ≡ n → AllByRecursion (λ b. b < 256) bytes
    → is_bytes n bytes ≡ true
bytes_fit n bytes long small = and_from (length bytes == n) (list_all (λ b. nat_lt b 256) bytes)
    (eq-eqb (length bytes) n long) (below_all bytes small)

-- bytes in a row
all_append : (xs ys : List ℕ) → AllByRecursion (λ b. b < 256) xs → AllByRecursion (λ b. b < 256) ys
    → AllByRecursion (λ b. b < 256) (xs ++ ys)
all_append [] ys h g = g
all_append (x ∷ xs) ys h g = (h.0, all_append xs ys h.1 g)

-- the bytes of a word
word_bytes : (n : ℕ) → AllByRecursion (λ b. b < 256) (to_be_bytes w32 n)
word_bytes n = (omega arith, (omega arith, (omega arith, (omega arith, tt))))

-- the bytes of a digest
digest_small : (h : List ℕ) (n : ℕ) → AllByRecursion (λ b. b < 256) (digest_bytes h n)
unfolding digest_bytes
digest_small h zero = tt
digest_small h (suc n) = all_append (digest_bytes h n) (to_be_bytes w32 (slice_index h n)) (digest_small h n)
    (word_bytes (slice_index h n))

-- the bytes of SHA-256
sha_small : (m : List ℕ) → AllByRecursion (λ b. b < 256) (sha256 m)
unfolding sha256
sha_small m = digest_small (final_hash initial_hash_256 m) 8

-- a digest has 32 bytes
pub digest_fits : (content : Content) → is_bytes 32 (fingerprint content) ≡ true
digest_fits content = bytes_fit 32 (fingerprint content) (length-sha256 (content_bytes content))
    (sha_small (content_bytes content))

-- ---- entries

-- a count up to the limit of data is a number
short_number : (n : ℕ) → nat_le n 1048576 ≡ true → is_number (pos n) ≡ true
short_number n h = grind (arith, nat_tests)

-- so is one up to the limit of labels
shorter_number : (n : ℕ) → nat_le n 200 ≡ true → is_number (pos n) ≡ true
shorter_number n h = grind (arith, nat_tests)

-- a size in bounds is a number
size_fits : (content : Content) → has_good_size content ≡ true → is_number (pos (size content)) ≡ true
size_fits (Tile zoom column row bytes) h = short_number (length bytes)
    (and_parts (nat_le 1 (length bytes)) (nat_le (length bytes) 1048576) h).1
size_fits (Media content_type bytes) h =
    short_number (length bytes) (and_parts (nat_le 1 (length bytes)) (nat_le (length bytes) 1048576)
    (and_parts (is_length_within 1 1048576 bytes) (is_length_within 1 100 content_type) h).0).1
size_fits (Row x y code label) h = shorter_number (length label)
    (and_parts (nat_le 0 (length label)) (nat_le (length label) 200)
    (and_parts (is_length_within 0 200 label) _ h).0).1

-- the kind of a content is that of an item
pub item_kind_of : (content : Content) → is_item_kind (kind_of content) ≡ true
item_kind_of (Tile zoom column row bytes) = refl
item_kind_of (Media content_type bytes) = refl
item_kind_of (Row x y code label) = refl

-- a command whose values are of its types, and whose sizes are in bounds, has a fit entry
pub entry_fits : (command : Command) → HasTypes command → too_large command ≡ false
    → IsFitEntry (entry_of command)
entry_fits (Add p identity content) types sizes =
    and_from _ _ (and_from _ _ (and_from _ _ types (item_kind_of content))
    (size_fits content (not_false (has_good_size content) sizes))) (digest_fits content)
entry_fits (Delete p identity) types sizes = types
entry_fits (Link p mapping base other) types sizes = types
entry_fits (Unlink p mapping base other) types sizes = types
entry_fits (Split p child mode rect) types sizes = types
entry_fits (Merge child into ticket) types sizes = types
