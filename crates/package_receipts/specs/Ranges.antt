-- Which rows of receipts, and of what they moved, are in their ranges. Profile, over UUIDs (RFC 9562, section 4) and
-- digests (FIPS 180-4, section 6.2).
use Rattle.std.specs.Prelude.{◌≡◌, ℕ, true, false, ℤ, pos, ◌≤ℤ◌, Bool, List, [], map, filter}
use Rattle.std.specs.Prelude.{IsPermutation, ◌⊎◌}
use Rattle.std.specs.List.{list_any, AllByRecursion, enumerate_from}
use Rattle.std.specs.Ordering.{int_eq}
use Rattle.hex.specs.Hex.{encode_lower}
use Rattle.sheet_types.specs.Lines.{IsUuid, is_bytes}
use Rattle.sheet_types.specs.Matrix.{is_within}
use Rattle.sheet_types.specs.Texts.{uuid_text, is_moment}
use Rattle.package_tables.specs.declared.rows.MovedRow.{MovedRow}
use Rattle.package_tables.specs.declared.rows.ReceiptRow.{ReceiptRow}

-- ---- texts

-- the 36 characters of a UUID, in lower case
pub record IsUuidText (text : List ℕ) : Type 0 where
  pub id : List ℕ
  pub uuid : IsUuid id
  pub is : text ≡ uuid_text id

-- of a UUID, or empty
abbrev pub IsEndText : List ℕ → Type 0
IsEndText text = (text ≡ []) ⊎ IsUuidText text

-- the 64 hexadecimal digits of a digest, in lower case
pub record IsDigestText (text : List ℕ) : Type 0 where
  pub digest : List ℕ
  pub long : is_bytes 32 digest ≡ true
  pub is : text ≡ encode_lower digest

-- ---- one row

-- the number of a receipt
abbrev pub is_seq : ℤ → Bool
is_seq seq = is_within (pos 1) (pos 1000000000) seq

pub record AreCounts (row : ReceiptRow) : Type 0 where
  pub n_tiles : pos 0 ≤ℤ row.n_tiles
  pub n_media : pos 0 ≤ℤ row.n_media
  pub n_rows : pos 0 ≤ℤ row.n_rows
  pub n_links : pos 0 ≤ℤ row.n_links
  pub n_bytes : pos 0 ≤ℤ row.n_bytes

-- any text is in range as a line, and source and target may be empty under any line
pub record IsReceiptInRange (row : ReceiptRow) : Type 0 where
  pub seq : is_seq row.seq ≡ true
  pub request : IsUuidText row.request
  pub at : is_moment row.at ≡ true
  pub source : IsEndText row.source
  pub target : IsEndText row.target
  pub counts : AreCounts row

-- 1 tile, 2 medium, 3 row; 4 to 6 are links
abbrev pub is_item_number : ℤ → Bool
is_item_number kind = is_within (pos 1) (pos 3) kind

-- An item has a digest and no other end, a link another end and no digest.
pub record IsMovedInRange (row : MovedRow) : Type 0 where
  pub kind : is_within (pos 1) (pos 6) row.kind ≡ true
  pub base : IsUuidText row.base
  pub no_other : is_item_number row.kind ≡ true → row.other ≡ []
  pub other : is_item_number row.kind ≡ false → IsUuidText row.other
  pub size : pos 0 ≤ℤ row.size
  pub fingerprint : is_item_number row.kind ≡ true → IsDigestText row.fingerprint
  pub no_fingerprint : is_item_number row.kind ≡ false → row.fingerprint ≡ []

-- ---- both tables, in whatever order their rows stand

-- what the receipt of a number moved
abbrev pub moved_under : ℤ → List MovedRow → List MovedRow
moved_under seq moved = filter (λ m. int_eq m.seq seq) moved

-- the places of a list: 0, 1, 2, .., as many as it has elements
abbrev pub places : {X : Type 0} → List X → List ℤ
places xs = map (λ x. pos x.0) (enumerate_from 0 xs)

-- the rows stand at 0, 1, 2, .., each place once
abbrev pub HavePlaces : List MovedRow → Type 0
HavePlaces rows = IsPermutation (map (λ m. m.position) rows) (places rows)

pub record AreReceiptsInRange (receipts : List ReceiptRow) (moved : List MovedRow) : Type 0 where
  pub rows : AllByRecursion IsReceiptInRange receipts
  pub things : AllByRecursion IsMovedInRange moved
  pub positions : AllByRecursion (λ r. HavePlaces (moved_under r.seq moved)) receipts
  pub owners : AllByRecursion (λ m. list_any (λ r. int_eq r.seq m.seq) receipts ≡ true) moved
