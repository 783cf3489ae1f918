-- What a line of the ledger says, read back whole. Profile; UUIDs as in RFC 9562, section 4; digests by FIPS 180-4,
-- section 6.2.
use Rattle.std.specs.Prelude.{◌≡◌, ℕ, Bool, true, false, ◌==◌, ◌&&◌, nat_lt, List, [], ◌∷◌}
use Rattle.std.specs.Prelude.{find, length, Option, None, unwrap_or, option_map, if◌then◌else◌, ℤ, pos}
use Rattle.std.specs.Prelude.{negsuc, unsigned_abs, bytes_eq, codes}
use Rattle.std.specs.List.{slice_split, list_all}
use Rattle.std.specs.Option.{option_and_then}
use Rattle.std.specs.Bool.{then_some}
use Rattle.std.specs.Result.{result_unwrap_or}
use Rattle.std.specs.Str.Parse.{signed_digits_value}
use Rattle.hex.specs.Hex.{decode_of}
use Rattle.uuid.specs.Text.{parsed_hyphenated}
use Rattle.sheet_types.specs.Matrix.{is_within}
use Rattle.sheet_types.specs.Texts.{Entry, Adds, Deletes, Links, Unlinks, Splits, Merges, entry_line, kind_word}
use Rattle.sheet_types.specs.Texts.{mapping_word, mode_word}
use Rattle.sheet_types.specs.World.{all_kinds, all_mappings, is_item_kind}
use Rattle.sheet_types.specs.declared.command.Command.{Command}
use Rattle.sheet_types.specs.declared.command.Command.TheVariants.{Add, Delete, Link, Unlink, Split, Merge}
use Rattle.sheet_types.specs.declared.command.Mapping.{Mapping}
use Rattle.sheet_types.specs.declared.command.Mode.{Mode}
use Rattle.sheet_types.specs.declared.command.Mode.TheVariants.{Strict, Follow}
use Rattle.sheet_types.specs.declared.frame.Rect.{Rect}
use Rattle.sheet_types.specs.declared.receipt.MovedKind.{MovedKind}

-- ---- the values that a command can have

-- n bytes
abbrev pub is_bytes : ℕ → List ℕ → Bool
is_bytes n bytes = (length bytes == n) && list_all (λ b. nat_lt b 256) bytes

-- a UUID has 16 bytes (RFC 9562, section 4). Keys of links run two of them together, and tell them apart by this alone
abbrev pub is_uuid : List ℕ → Bool
is_uuid id = is_bytes 16 id

abbrev pub IsUuid : List ℕ → Type 0
IsUuid id = is_uuid id ≡ true

-- a number has 64 bits, one for its sign
abbrev pub is_number : ℤ → Bool
is_number z = is_within (negsuc 9223372036854775807) (pos 9223372036854775807) z

abbrev pub is_rect : Rect → Bool
is_rect r = is_number r.zoom && is_number r.column && is_number r.last_column && is_number r.row && is_number r.last_row

-- an entry that a command can have
abbrev pub is_fit_entry : Entry → Bool
is_fit_entry (Adds p identity kind size digest) = is_uuid p && is_uuid identity && is_item_kind kind && is_number
    (pos size) && is_bytes 32 digest
is_fit_entry (Deletes p identity) = is_uuid p && is_uuid identity
is_fit_entry (Links p mapping base other) = is_uuid p && is_uuid base && is_uuid other
is_fit_entry (Unlinks p mapping base other) = is_uuid p && is_uuid base && is_uuid other
is_fit_entry (Splits p child mode rect) = is_uuid p && is_uuid child && is_rect rect
is_fit_entry (Merges child into ticket) = is_uuid child && is_uuid into && is_number ticket

abbrev pub IsFitEntry : Entry → Type 0
IsFitEntry e = is_fit_entry e ≡ true

-- the values of a command are those of its types; each command that there is has this
abbrev pub has_types : Command → Bool
has_types (Add p identity content) = is_uuid p && is_uuid identity
has_types (Delete p identity) = is_uuid p && is_uuid identity
has_types (Link p mapping base other) = is_uuid p && is_uuid base && is_uuid other
has_types (Unlink p mapping base other) = is_uuid p && is_uuid base && is_uuid other
has_types (Split p child mode rect) = is_uuid p && is_uuid child && is_rect rect
has_types (Merge child into ticket) = is_uuid child && is_uuid into && is_number ticket

abbrev pub HasTypes : Command → Type 0
HasTypes command = has_types command ≡ true

-- ---- reading a line

abbrev pub all_modes : List Mode
all_modes = Strict ∷ Follow ∷ []

-- what a word of a line stands for
abbrev pub kind_in : List ℕ → Option MovedKind
kind_in word = find (λ k. bytes_eq (kind_word k) word) all_kinds

abbrev pub mapping_in : List ℕ → Option Mapping
mapping_in word = find (λ m. bytes_eq (mapping_word m) word) all_mappings

abbrev pub mode_in : List ℕ → Option Mode
mode_in word = find (λ m. bytes_eq (mode_word m) word) all_modes

abbrev pub uuid_in : List ℕ → List ℕ
uuid_in word = unwrap_or (parsed_hyphenated word) []

abbrev pub number_in : List ℕ → ℤ
number_in word = signed_digits_value 10 word

abbrev pub digest_in : List ℕ → List ℕ
digest_in word = result_unwrap_or (decode_of word) []

-- the entry that so many parts can be of
abbrev pub entry_in : List (List ℕ) → Option Entry
entry_in (verb ∷ p ∷ identity ∷ []) = then_some (bytes_eq verb (codes "delete"))
    (Deletes (uuid_in p) (uuid_in identity))
entry_in (verb ∷ child ∷ into ∷ ticket ∷ []) = then_some (bytes_eq verb (codes "merge"))
    (Merges (uuid_in child) (uuid_in into) (number_in ticket))
entry_in (verb ∷ mapping ∷ p ∷ base ∷ other ∷ []) = option_map
    (λ m. if bytes_eq verb (codes "link") then Links (uuid_in p) m (uuid_in base) (uuid_in other) else Unlinks
    (uuid_in p) m (uuid_in base) (uuid_in other)) (mapping_in mapping)
entry_in (verb ∷ p ∷ identity ∷ kind ∷ size ∷ digest ∷ []) =
    option_map (λ k. Adds (uuid_in p) (uuid_in identity) k (unsigned_abs (number_in size)) (digest_in digest))
    (kind_in kind)
entry_in (verb ∷ p ∷ child ∷ mode ∷ zoom ∷ column ∷ last_column ∷ row ∷ last_row ∷ []) =
    option_map (λ m. Splits (uuid_in p) (uuid_in child) m (record {
      zoom = number_in zoom;
      column = number_in column;
      last_column = number_in last_column;
      row = number_in row;
      last_row = number_in last_row;
    })) (mode_in mode)
entry_in parts = None

-- the one entry whose line this is, if there is one: read from the parts, and taken if its own line is the whole text
unfoldable pub entry_from : List ℕ → Option Entry
entry_from text = option_and_then (λ e. then_some (is_fit_entry e && bytes_eq (entry_line e) text) e)
    (entry_in (slice_split (λ c. c == 32) text))

-- ---- the command of an entry

abbrev pub is_adding : Entry → Bool
is_adding (Adds p identity kind size digest) = true
is_adding e = false

abbrev pub is_splitting : Entry → Bool
is_splitting (Splits p child mode rect) = true
is_splitting e = false

abbrev pub is_merging : Entry → Bool
is_merging (Merges child into ticket) = true
is_merging e = false
