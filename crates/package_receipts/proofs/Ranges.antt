-- What a row says, where it is in its ranges.
use Rattle.std.proofs.Common.{◌≡◌, ◌∙◌, ℕ, zero, suc, ℤ, pos, negsuc, ◌<◌, ◌≤◌}
use Rattle.std.proofs.Common.{◌≤ℤ◌, ◌*◌, length, get_or, List, []}
use Rattle.std.proofs.Common.{Option, Some, None, Bool, true, false, refl, sym, ap, subst, inl, inr, is_some}
use Rattle.std.proofs.Common.{FitsSigned, w64, rules, arith, true≢false}
use Rattle.std.specs.Prelude.{int_le, ◌==◌, nat_lt}
use Rattle.std.specs.List.{list_all}
use Rattle.std.specs.Option.{option_map_or}
use Rattle.std.proofs.lemmas.Bool.{and_parts, and_from, false≢true}
use Rattle.std.proofs.lemmas.Int.{ints}
use borrow.Author.Tests.{eqb-true}
use Rattle.hex.specs.Hex.{encode_lower, lower_digits}
use Rattle.hex.proofs.HexLemmas.{length-encode_with}
use Rattle.uuid.proofs.TextLemmas.{by_index_length}
use Rattle.sheet_types.specs.Lines.{IsUuid, is_bytes}
use Rattle.sheet_types.specs.Matrix.{is_within}
use Rattle.sheet_types.specs.Reading.{optional_uuid_text}
use Rattle.sheet_types.specs.Texts.{uuid_text}
use Rattle.sheet_types.specs.World.{kind_number}
use Rattle.sheet_types.specs.declared.receipt.MovedKind.{MovedKind}
use Rattle.sheet_types.specs.declared.receipt.MovedKind.TheVariants.{TileItem, MediaItem, RowItem, TilesMediaLink}
use Rattle.sheet_types.specs.declared.receipt.MovedKind.TheVariants.{RowsMediaLink, RowsTilesLink}
use Rattle.sheet_types.specs.declared.receipt.Moved.{Moved}
use Rattle.sheet_types.proofs.Fitting.{bytes_fit}
use Rattle.package_tables.specs.declared.rows.MovedRow.{MovedRow}
use Rattle.identity_register.specs.Reads.{is_fit_end, is_fit_moved}
use Rattle.identity_register.proofs.Uuids.{small_at}
use Rattle.package_receipts.specs.Ranges.{IsUuidText, IsEndText, IsDigestText, IsMovedInRange, is_item_number, is_seq}
use Rattle.package_receipts.specs.Read.{IsThingOf, thing_row, has_parts}

-- ---- texts

-- so many bytes are what the test says
pub fits : (n : ℕ) (bytes : List ℕ) → length bytes ≡ n → ((k : ℕ) → k < n → get_or bytes k 0 < 256)
    → is_bytes n bytes ≡ true
fits n bytes long small = bytes_fit n bytes long (small_at bytes (λ k less. small k (omega (arith, long, less))))

-- a text that may be empty
pub end_text : (text : List ℕ) (end : Option (List ℕ)) → text ≡ optional_uuid_text end
    → is_fit_end end ≡ true
    → IsEndText text
end_text text None is fit = inl is
end_text text (Some id) is fit = inr (record { id = id; uuid = fit; is = is })

-- the text of a UUID or of a digest is not empty
uuid_some : (id : List ℕ) → [] ≡ uuid_text id → ⊥
uuid_some id e = let long : length (uuid_text id) ≡ 36 = by_index_length 36 _ in let same :
    0 ≡ length (uuid_text id) = ap length e in omega arith

digest_some : (a : List ℕ) → is_bytes 32 a ≡ true → [] ≡ encode_lower a → ⊥
digest_some a h e =
    let long : length (encode_lower a) ≡ 2 * length a = length-encode_with lower_digits a in
    let bytes : length a ≡ 32 = eqb-true (length a) 32 (and_parts (length a == 32) (list_all (λ b. nat_lt b 256) a)
    h).0 in
    let same : 0 ≡ length (encode_lower a) = ap length e in
    omega arith

-- ---- numbers

pub seq_counted : (z : ℤ) → is_seq z ≡ true → pos 0 ≤ℤ z
seq_counted z h = let parts = and_parts (int_le (pos 1) z) (int_le z (pos 1000000000)) h in omega (arith, ints, parts.0)

kind_at : (n : ℕ) → 1 ≤ n → n ≤ 6 → (k : MovedKind) × (pos n ≡ pos (kind_number k))
kind_at zero low high = absurd (omega arith)
kind_at (suc zero) low high = (TileItem, refl)
kind_at (suc (suc zero)) low high = (MediaItem, refl)
kind_at (suc (suc (suc zero))) low high = (RowItem, refl)
kind_at (suc (suc (suc (suc zero)))) low high = (TilesMediaLink, refl)
kind_at (suc (suc (suc (suc (suc zero))))) low high = (RowsMediaLink, refl)
kind_at (suc (suc (suc (suc (suc (suc zero)))))) low high = (RowsTilesLink, refl)
kind_at (suc (suc (suc (suc (suc (suc (suc n))))))) low high = absurd (omega arith)

-- each number in the range is that of a kind
pub kind_there : (z : ℤ) → is_within (pos 1) (pos 6) z ≡ true → (k : MovedKind) × (z ≡ pos (kind_number k))
kind_there (pos n) h = let parts = and_parts (int_le (pos 1) (pos n)) (int_le (pos n) (pos 6)) h in kind_at n
    (omega (arith, ints, parts.0)) (omega (arith, ints, parts.1))
kind_there (negsuc n) h = let parts = and_parts (int_le (pos 1) (negsuc n)) (int_le (negsuc n) (pos 6)) h in absurd
    (omega (arith, ints, parts.0))

-- and has 64 bits
fits_64 : (z : ℤ) → pos 1 ≤ℤ z → z ≤ℤ pos 2000000000000 → FitsSigned w64 z
fits_64 z least most = search rules

pub kind_fits : (z : ℤ) → is_within (pos 1) (pos 6) z ≡ true → FitsSigned w64 z
kind_fits z h = let parts = and_parts (int_le (pos 1) z) (int_le z (pos 6)) h in fits_64 z
    (omega (arith, ints, parts.0)) (omega (arith, ints, parts.1))

pub kind_within : (k : MovedKind) → is_within (pos 1) (pos 6) (pos (kind_number k)) ≡ true
kind_within TileItem = refl
kind_within MediaItem = refl
kind_within RowItem = refl
kind_within TilesMediaLink = refl
kind_within RowsMediaLink = refl
kind_within RowsTilesLink = refl

-- ---- things

digest_text : Option (List ℕ) → List ℕ
digest_text a = option_map_or encode_lower a []

is_fit_digest : Option (List ℕ) → Bool
is_fit_digest a = option_map_or (is_bytes 32) a true

no_uuid : (text id : List ℕ) → text ≡ [] → text ≡ uuid_text id → ⊥
no_uuid text id e f = uuid_some id (sym e ∙ f)

no_digest : (text a : List ℕ) → is_bytes 32 a ≡ true → text ≡ [] → text ≡ encode_lower a → ⊥
no_digest text a h e f = digest_some a h (sym e ∙ f)

-- a row in its ranges has the parts of its kind
pub parts_there : (row : MovedRow) (other digest : Option (List ℕ)) → row.other ≡ optional_uuid_text other
    → row.fingerprint ≡ option_map_or encode_lower digest [] → option_map_or (is_bytes 32) digest true ≡ true
    → IsMovedInRange row → has_parts (is_item_number row.kind) (is_some other) (is_some digest) ≡ true
parts_there row None None e f fit r = elim (is_item_number row.kind) as
    (λ b. is_item_number row.kind ≡ b → has_parts b false false ≡ true) [
      | true ↦ λ is. let d = r.fingerprint is in absurd (no_digest row.fingerprint d.digest d.long f d.is)
      | false ↦ λ is. let u = r.other is in absurd (no_uuid row.other u.id e u.is)
    ] refl
parts_there row None (Some digest) e f fit r = elim (is_item_number row.kind) as
    (λ b. is_item_number row.kind ≡ b → has_parts b false true ≡ true) [
      | true ↦ λ is. refl
      | false ↦ λ is. let u = r.other is in absurd (no_uuid row.other u.id e u.is)
    ] refl
parts_there row (Some other) None e f fit r = elim (is_item_number row.kind) as
    (λ b. is_item_number row.kind ≡ b → has_parts b true false ≡ true) [
      | true ↦ λ is. absurd (no_uuid row.other other (r.no_other is) e)
      | false ↦ λ is. refl
    ] refl
parts_there row (Some other) (Some digest) e f fit r = elim (is_item_number row.kind) as
    (λ b. is_item_number row.kind ≡ b → has_parts b true true ≡ true) [
      | true ↦ λ is. absurd (no_uuid row.other other (r.no_other is) e)
      | false ↦ λ is. absurd (no_digest row.fingerprint digest fit (r.no_fingerprint is) f)
    ] refl

pub moved_end : (row : MovedRow) → IsMovedInRange row → IsEndText row.other
moved_end row r = elim (is_item_number row.kind) as (λ b. is_item_number row.kind ≡ b → IsEndText row.other) [
  | true ↦ λ is. inl (r.no_other is)
  | false ↦ λ is. inr (r.other is)
] refl

-- the parts of a row that is in its ranges
pub record IsPut (row : MovedRow) (kind : MovedKind) (base : List ℕ) (other : Option (List ℕ)) (size : ℕ)
    (digest : Option (List ℕ)) : Type 0 where
  pub kind_is : row.kind ≡ pos (kind_number kind)
  pub base_is : row.base ≡ uuid_text base
  pub base_fit : IsUuid base
  pub other_is : row.other ≡ optional_uuid_text other
  pub other_fit : is_fit_end other ≡ true
  pub size_is : row.size ≡ pos size
  pub digest_is : row.fingerprint ≡ option_map_or encode_lower digest []
  pub digest_fit : option_map_or (is_bytes 32) digest true ≡ true

-- with these parts a row is an item's, or a link's
item_parts : (b o d : Bool) → has_parts b o d ≡ true → b ≡ true → (o ≡ false) × (d ≡ true)
item_parts true false true h is = (refl, refl)
item_parts true false false h is = absurd (false≢true h)
item_parts true true d h is = absurd (false≢true h)
item_parts false o d h is = absurd (false≢true is)

link_parts : (b o d : Bool) → has_parts b o d ≡ true → b ≡ false → (o ≡ true) × (d ≡ false)
link_parts false true false h is = (refl, refl)
link_parts false true true h is = absurd (false≢true h)
link_parts false false d h is = absurd (false≢true h)
link_parts true o d h is = absurd (true≢false is)

no_end : (text : List ℕ) (end : Option (List ℕ)) → text ≡ optional_uuid_text end → is_some end ≡ false
    → text ≡ []
no_end text None e h = e
no_end text (Some id) e h = absurd (true≢false h)

one_end : (text : List ℕ) (end : Option (List ℕ)) → text ≡ optional_uuid_text end → is_fit_end end ≡ true
    → is_some end ≡ true → IsUuidText text
one_end text None e fit h = absurd (false≢true h)
one_end text (Some id) e fit h = record { id = id; uuid = fit; is = e }

no_print : (text : List ℕ) (digest : Option (List ℕ)) → text ≡ option_map_or encode_lower digest []
    → is_some digest ≡ false → text ≡ []
no_print text None e h = e
no_print text (Some digest) e h = absurd (true≢false h)

one_print : (text : List ℕ) (digest : Option (List ℕ)) → text ≡ option_map_or encode_lower digest []
    → option_map_or (is_bytes 32) digest true ≡ true → is_some digest ≡ true → IsDigestText text
one_print text None e fit h = absurd (false≢true h)
one_print text (Some digest) e fit h = record { digest = digest; long = fit; is = e }

in_range : (row : MovedRow) (kind : MovedKind) (base : List ℕ) (other : Option (List ℕ)) (size : ℕ)
    (digest : Option (List ℕ)) → IsPut row kind base other size digest
    → has_parts (is_item_number row.kind) (is_some other) (is_some digest) ≡ true → IsMovedInRange row
in_range row kind base other size digest it parts =
    let b = is_item_number row.kind in
    let item = item_parts b (is_some other) (is_some digest) parts in
    let link = link_parts b (is_some other) (is_some digest) parts in
    record {
      kind = subst (λ z. is_within (pos 1) (pos 6) z ≡ true) (sym it.kind_is) (kind_within kind);
      base = record { id = base; uuid = it.base_fit; is = it.base_is };
      no_other = λ is. no_end row.other other it.other_is (item is).0;
      other = λ is. one_end row.other other it.other_is it.other_fit (link is).0;
      size = subst (λ z. pos 0 ≤ℤ z) (sym it.size_is) (omega (arith, ints));
      fingerprint = λ is. one_print row.fingerprint digest it.digest_is it.digest_fit (item is).1;
      no_fingerprint = λ is. no_print row.fingerprint digest it.digest_is (link is).1;
    }

-- they are those of the thing that it says
pub thing_put : (row : MovedRow) (kind : MovedKind) (base : List ℕ) (other : Option (List ℕ)) (size : ℕ)
    (digest : Option (List ℕ)) → IsPut row kind base other size digest
    → has_parts (is_item_number row.kind) (is_some other) (is_some digest) ≡ true
    → IsThingOf row (record { kind = kind; base = base; other = other; size = size; fingerprint = digest })
thing_put row kind base other size digest it parts = record {
  range = in_range row kind base other size digest it parts;
  is = λ n. record {
    seq = row.seq;
    position = row.position;
    kind = it.kind_is n;
    base = it.base_is n;
    other = it.other_is n;
    size = it.size_is n;
    fingerprint = it.digest_is n;
  };
  fit = and_from _ _ (and_from _ _ it.base_fit it.other_fit) it.digest_fit;
}

-- ---- there are receipts that rows in their ranges say

pub end_there : (text : List ℕ) → IsEndText text → (end : Option (List ℕ)) × (text ≡ optional_uuid_text end)
    × (is_fit_end end ≡ true)
end_there text h = elim h [ inl e ↦ (None, e, refl) | inr u ↦ (Some u.id, u.is, u.uuid) ]

pub count_there : (z : ℤ) → pos 0 ≤ℤ z → (n : ℕ) × (z ≡ pos n)
count_there (pos n) h = (n, refl)
count_there (negsuc n) h = absurd (omega (arith, ints, h))

pub digest_there : (row : MovedRow) → IsMovedInRange row → (digest : Option (List ℕ))
    × (row.fingerprint ≡ option_map_or encode_lower digest []) × (option_map_or (is_bytes 32) digest true ≡ true)
digest_there row r = elim (is_item_number row.kind) as (λ b. is_item_number row.kind ≡ b
    → (digest : Option (List ℕ))
    × (row.fingerprint ≡ option_map_or encode_lower digest [])
    × (option_map_or (is_bytes 32) digest true ≡ true)) [
      | true ↦ λ is. let d = r.fingerprint is in (Some d.digest, d.is, d.long)
      | false ↦ λ is. (None, r.no_fingerprint is, refl)
    ] refl

pub thing_there : (row : MovedRow) → IsMovedInRange row → (m : Moved) × (row ≡ thing_row row.seq row.position m)
    × (is_fit_moved m ≡ true)
thing_there row r =
    let kind = kind_there row.kind r.kind in
    let other = end_there row.other (moved_end row r) in
    let size = count_there row.size r.size in
    let digest = digest_there row r in
    let m : Moved = record {
      kind = kind.0;
      base = r.base.id;
      other = other.0;
      size = size.0;
      fingerprint = digest.0;
    } in (
      m,
      (λ n. record {
        seq = row.seq;
        position = row.position;
        kind = kind.1 n;
        base = r.base.is n;
        other = other.1 n;
        size = size.1 n;
        fingerprint = digest.1 n;
      }),
      and_from _ _ (and_from _ _ r.base.uuid other.2) digest.2,
    )
