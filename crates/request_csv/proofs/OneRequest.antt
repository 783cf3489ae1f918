-- A record is one request at most.
use Rattle.std.proofs.Common.{◌≡◌, ℕ, ℤ, List, Result, Ok, Err, refl, sym, ap, ◌∙◌}
use Rattle.std.proofs.lemmas.Fmt.{signed_decimal_injective}
use Rattle.hex.specs.Hex.{decode_of}
use Rattle.sheet_types.proofs.Basics.{some_once, some_same}
use Rattle.sheet_types.proofs.LineReading.{mapping_back}
use Rattle.sheet_types.specs.Lines.{mapping_in}
use Rattle.sheet_types.specs.Texts.{mapping_word, mode_word}
use Rattle.sheet_types.specs.declared.command.Content.{Content}
use Rattle.sheet_types.specs.declared.command.Content.TheVariants.{Tile, Media, Row}
use Rattle.sheet_types.specs.declared.command.Command.{Command}
use Rattle.sheet_types.specs.declared.command.Command.TheVariants.{Add, Delete, Link, Unlink, Split, Merge}
use Rattle.sheet_types.specs.declared.command.Mapping.{Mapping}
use Rattle.sheet_types.specs.declared.command.Mode.{Mode}
use Rattle.sheet_types.specs.declared.command.Mode.TheVariants.{Strict, Follow}
use Rattle.sheet_types.specs.declared.command.Request.{Request}
use Rattle.sheet_types.specs.declared.frame.Rect.{Rect}
use Rattle.request_csv.specs.Requests.{HasRect, IsCommand, IsContent, IsHexAt, IsNumberAt, IsTextAt}
use Rattle.request_csv.specs.RequestLists.{Asks}
use Rattle.request_csv.proofs.OneWord.{clash}

ok_once : {A E : Type 0} (r : Result A E) (x y : A) → r ≡ Ok x → r ≡ Ok y → x ≡ y
ok_once (Ok z) x y e f = cc
ok_once (Err z) x y e f = cc

one_number : (fields : List (List ℕ)) (column : ℕ) (y z : ℤ) → IsNumberAt fields column y
    → IsNumberAt fields column z → y ≡ z
one_number fields column y z one other = signed_decimal_injective y z one.0.sfits other.0.sfits
    (some_once _ _ _ one.1 other.1)

one_hex : (fields : List (List ℕ)) (column : ℕ) (x y : List ℕ) → IsHexAt fields column x
    → IsHexAt fields column y → x ≡ y
one_hex fields column x y one other =
    let same = some_once _ one.text other.text one.there other.there in
    ok_once (decode_of one.text) x y one.digits (rw same other.digits)

one_mapping : (fields : List (List ℕ)) (m n : Mapping) → IsTextAt fields 6 (mapping_word m)
    → IsTextAt fields 6 (mapping_word n) → m ≡ n
one_mapping fields m n one other = some_same (sym (mapping_back m) ∙ ap mapping_in (some_once _ _ _ one other)
    ∙ mapping_back n)

one_mode : (fields : List (List ℕ)) (m n : Mode) → IsTextAt fields 6 (mode_word m)
    → IsTextAt fields 6 (mode_word n) → m ≡ n
one_mode fields Strict Strict one other = refl
one_mode fields Follow Follow one other = refl
one_mode fields Strict Follow one other = absurd (clash _ _ _ one other refl)
one_mode fields Follow Strict one other = absurd (clash _ _ _ one other refl)

one_rect : (fields : List (List ℕ)) (r s : Rect) → HasRect fields r → HasRect fields s → r ≡ s
one_rect fields r s one other =
    let zoom = one_number fields 7 r.zoom s.zoom one.0 other.0 in
    let column = one_number fields 8 r.column s.column one.1 other.1 in
    let last_column = one_number fields 10 r.last_column s.last_column one.2 other.2 in
    let row = one_number fields 9 r.row s.row one.3 other.3 in
    let last_row = one_number fields 11 r.last_row s.last_row one.4 other.4 in
    λ i. record { zoom = zoom i; column = column i; last_column = last_column i; row = row i; last_row = last_row i }

same_content : (fields : List (List ℕ)) (c d : Content) → IsContent fields c → IsContent fields d → c ≡ d
same_content fields (Tile z c r x) (Tile z' c' r' x') one other =
    rw (
      one_number fields 7 z z' one.1.0 other.1.0,
      one_number fields 8 c c' one.1.1 other.1.1,
      one_number fields 9 r
          r' one.1.2 other.1.2,
      one_hex fields 17 x x' one.1.3 other.1.3,
    ) refl
same_content fields (Media t x) (Media t' x') one other = rw
    (some_once _ t t' one.1.0 other.1.0, one_hex fields 17 x x' one.1.1 other.1.1) refl
same_content fields (Row x y k l) (Row x' y' k' l') one other =
    rw (
      one_number fields 12 x x' one.1.0 other.1.0,
      one_number fields 13 y y' one.1.1 other.1.1,
      one_number fields 14
          k k' one.1.2 other.1.2,
      some_once _ l l' one.1.3 other.1.3,
    ) refl
same_content fields (Tile z c r x) (Media t' x') one other = absurd (clash _ _ _ one.0 other.0 refl)
same_content fields (Tile z c r x) (Row x' y' k' l') one other = absurd (clash _ _ _ one.0 other.0 refl)
same_content fields (Media t x) (Tile z' c' r' x') one other = absurd (clash _ _ _ one.0 other.0 refl)
same_content fields (Media t x) (Row x' y' k' l') one other = absurd (clash _ _ _ one.0 other.0 refl)
same_content fields (Row x y k l) (Tile z' c' r' x') one other = absurd (clash _ _ _ one.0 other.0 refl)
same_content fields (Row x y k l) (Media t' x') one other = absurd (clash _ _ _ one.0 other.0 refl)

same_command : (fields : List (List ℕ)) (c d : Command) → IsCommand fields c → IsCommand fields d → c ≡ d
same_command fields (Add p i c) (Add p' i' c') one other = rw (
  some_once _ p p' one.1.0 other.1.0,
  some_once _ i i' one.1.1 other.1.1,
  same_content fields c c' one.1.2
      other.1.2,
) refl
same_command fields (Delete p i) (Delete p' i') one other = rw
    (some_once _ p p' one.1.0 other.1.0, some_once _ i i' one.1.1 other.1.1) refl
same_command fields (Link p m b r) (Link p' m' b' r') one other =
    rw (
      some_once _ p p' one.1.0 other.1.0,
      one_mapping fields m m' one.1.1 other.1.1,
      some_once _ b b' one.1.2
          other.1.2,
      some_once _ r r' one.1.3 other.1.3,
    ) refl
same_command fields (Unlink p m b r) (Unlink p' m' b' r') one other =
    rw (
      some_once _ p p' one.1.0 other.1.0,
      one_mapping fields m m' one.1.1 other.1.1,
      some_once _ b b' one.1.2
          other.1.2,
      some_once _ r r' one.1.3 other.1.3,
    ) refl
same_command fields (Split p k m r) (Split p' k' m' r') one other =
    rw (
      some_once _ p p' one.1.0 other.1.0,
      some_once _ k k' one.1.1 other.1.1,
      one_mode fields m m' one.1.2
          other.1.2,
      one_rect fields r r' one.1.3 other.1.3,
    ) refl
same_command fields (Merge k p n) (Merge k' p' n') one other =
    rw (
      some_once _ k k' one.1.0 other.1.0,
      some_once _ p p' one.1.1 other.1.1,
      one_number fields 15 n n' one.1.2
          other.1.2,
    ) refl
same_command fields (Add p i c) (Delete p' i') one other = absurd (clash _ _ _ one.0 other.0 refl)
same_command fields (Add p i c) (Link p' m' b' r') one other = absurd (clash _ _ _ one.0 other.0 refl)
same_command fields (Add p i c) (Unlink p' m' b' r') one other = absurd (clash _ _ _ one.0 other.0 refl)
same_command fields (Add p i c) (Split p' k' m' r') one other = absurd (clash _ _ _ one.0 other.0 refl)
same_command fields (Add p i c) (Merge k' p' n') one other = absurd (clash _ _ _ one.0 other.0 refl)
same_command fields (Delete p i) (Add p' i' c') one other = absurd (clash _ _ _ one.0 other.0 refl)
same_command fields (Delete p i) (Link p' m' b' r') one other = absurd (clash _ _ _ one.0 other.0 refl)
same_command fields (Delete p i) (Unlink p' m' b' r') one other = absurd (clash _ _ _ one.0 other.0 refl)
same_command fields (Delete p i) (Split p' k' m' r') one other = absurd (clash _ _ _ one.0 other.0 refl)
same_command fields (Delete p i) (Merge k' p' n') one other = absurd (clash _ _ _ one.0 other.0 refl)
same_command fields (Link p m b r) (Add p' i' c') one other = absurd (clash _ _ _ one.0 other.0 refl)
same_command fields (Link p m b r) (Delete p' i') one other = absurd (clash _ _ _ one.0 other.0 refl)
same_command fields (Link p m b r) (Unlink p' m' b' r') one other = absurd (clash _ _ _ one.0 other.0 refl)
same_command fields (Link p m b r) (Split p' k' m' r') one other = absurd (clash _ _ _ one.0 other.0 refl)
same_command fields (Link p m b r) (Merge k' p' n') one other = absurd (clash _ _ _ one.0 other.0 refl)
same_command fields (Unlink p m b r) (Add p' i' c') one other = absurd (clash _ _ _ one.0 other.0 refl)
same_command fields (Unlink p m b r) (Delete p' i') one other = absurd (clash _ _ _ one.0 other.0 refl)
same_command fields (Unlink p m b r) (Link p' m' b' r') one other = absurd (clash _ _ _ one.0 other.0 refl)
same_command fields (Unlink p m b r) (Split p' k' m' r') one other = absurd (clash _ _ _ one.0 other.0 refl)
same_command fields (Unlink p m b r) (Merge k' p' n') one other = absurd (clash _ _ _ one.0 other.0 refl)
same_command fields (Split p k m r) (Add p' i' c') one other = absurd (clash _ _ _ one.0 other.0 refl)
same_command fields (Split p k m r) (Delete p' i') one other = absurd (clash _ _ _ one.0 other.0 refl)
same_command fields (Split p k m r) (Link p' m' b' r') one other = absurd (clash _ _ _ one.0 other.0 refl)
same_command fields (Split p k m r) (Unlink p' m' b' r') one other = absurd (clash _ _ _ one.0 other.0 refl)
same_command fields (Split p k m r) (Merge k' p' n') one other = absurd (clash _ _ _ one.0 other.0 refl)
same_command fields (Merge k p n) (Add p' i' c') one other = absurd (clash _ _ _ one.0 other.0 refl)
same_command fields (Merge k p n) (Delete p' i') one other = absurd (clash _ _ _ one.0 other.0 refl)
same_command fields (Merge k p n) (Link p' m' b' r') one other = absurd (clash _ _ _ one.0 other.0 refl)
same_command fields (Merge k p n) (Unlink p' m' b' r') one other = absurd (clash _ _ _ one.0 other.0 refl)
same_command fields (Merge k p n) (Split p' k' m' r') one other = absurd (clash _ _ _ one.0 other.0 refl)

-- a record asks for one request at most
pub same_request : (fields : List (List ℕ)) (a b : Request) → Asks fields a → Asks fields b → a ≡ b
same_request fields a b one other =
    let id = some_once _ a.id b.id one.1.id other.1.id in
    let at_same = some_once _ a.at b.at one.1.at other.1.at in
    let asked = same_command fields a.command b.command one.1.command other.1.command in
    λ i. record { id = id i; at = at_same i; command = asked i }
