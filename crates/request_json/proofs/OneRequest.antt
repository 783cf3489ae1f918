-- An object is one request at most, and a text.
use Rattle.std.proofs.Common.{◌≡◌, ℕ, ℤ, List, Option, None, Some, Result, Ok, Err, codes, refl}
use Rattle.hex.specs.Hex.{decode_of}
use Rattle.serde_json.specs.Data.{Data}
use Rattle.serde_json.specs.Read.{read}
use Rattle.sheet_types.proofs.Basics.{some_once}
use Rattle.sheet_types.specs.Texts.{mapping_word, mode_word}
use Rattle.sheet_types.specs.declared.command.Content.{Content}
use Rattle.sheet_types.specs.declared.command.Content.TheVariants.{Tile, Media, Row}
use Rattle.sheet_types.specs.declared.command.Command.{Command}
use Rattle.sheet_types.specs.declared.command.Command.TheVariants.{Add, Delete, Link, Unlink, Split, Merge}
use Rattle.sheet_types.specs.declared.command.Mapping.{Mapping}
use Rattle.sheet_types.specs.declared.command.Mapping.TheVariants.{TilesMedia, RowsMedia, RowsTiles}
use Rattle.sheet_types.specs.declared.command.Mode.{Mode}
use Rattle.sheet_types.specs.declared.command.Mode.TheVariants.{Strict, Follow}
use Rattle.sheet_types.specs.declared.command.Request.{Request}
use Rattle.sheet_types.specs.declared.frame.Rect.{Rect}
use Rattle.request_json.specs.Members.{HasNoOther, IsHexAt, IsTextAt, JsonIs}
use Rattle.request_json.specs.Requests.{HasRect, IsCommand, IsContent, IsRequest, IsRequestText, member_names}
use Rattle.request_json.proofs.OneWord.{clash}

ok_once : {A E : Type 0} (r : Result A E) (x y : A) → r ≡ Ok x → r ≡ Ok y → x ≡ y
ok_once (Ok z) x y e f = cc
ok_once (Err z) x y e f = cc

one_hex : (d : Data) (name x y : List ℕ) → IsHexAt d name x → IsHexAt d name y → x ≡ y
one_hex d name x y one other =
    let same = some_once _ one.text other.text one.there other.there in
    ok_once (decode_of one.text) x y one.digits (rw same other.digits)

one_mapping : (d : Data) (m n : Mapping) → IsTextAt d (codes "kind") (mapping_word m)
    → IsTextAt d (codes "kind") (mapping_word n) → m ≡ n
one_mapping d TilesMedia TilesMedia one other = refl
one_mapping d RowsMedia RowsMedia one other = refl
one_mapping d TilesMedia RowsMedia one other = absurd (clash _ _ _ one other refl)
one_mapping d RowsMedia TilesMedia one other = absurd (clash _ _ _ one other refl)
one_mapping d RowsTiles RowsTiles one other = refl
one_mapping d TilesMedia RowsTiles one other = absurd (clash _ _ _ one other refl)
one_mapping d RowsMedia RowsTiles one other = absurd (clash _ _ _ one other refl)
one_mapping d RowsTiles TilesMedia one other = absurd (clash _ _ _ one other refl)
one_mapping d RowsTiles RowsMedia one other = absurd (clash _ _ _ one other refl)

one_mode : (d : Data) (m n : Mode) → IsTextAt d (codes "kind") (mode_word m)
    → IsTextAt d (codes "kind") (mode_word n)
    → m ≡ n
one_mode d Strict Strict one other = refl
one_mode d Follow Follow one other = refl
one_mode d Strict Follow one other = absurd (clash _ _ _ one other refl)
one_mode d Follow Strict one other = absurd (clash _ _ _ one other refl)

one_rect : (d : Data) (r s : Rect) → HasRect d r → HasRect d s → r ≡ s
one_rect d r s one other =
    let zoom = some_once _ r.zoom s.zoom one.0 other.0 in
    let column = some_once _ r.column s.column one.1 other.1 in
    let last_column = some_once _ r.last_column s.last_column one.2 other.2 in
    let row = some_once _ r.row s.row one.3 other.3 in
    let last_row = some_once _ r.last_row s.last_row one.4 other.4 in
    λ i. record { zoom = zoom i; column = column i; last_column = last_column i; row = row i; last_row = last_row i }

same_content : (d : Data) (c e : Content) → IsContent d c → IsContent d e → c ≡ e
same_content d (Tile z c r x) (Tile z' c' r' x') one other =
    rw (
      some_once _ z z' one.1.0 other.1.0,
      some_once _ c c' one.1.1 other.1.1,
      some_once _ r r' one.1.2 other.1.2,
      one_hex d (codes "data") x x' one.1.3 other.1.3,
    ) refl
same_content d (Media t x) (Media t' x') one other = rw (
  some_once _ t t' one.1.0 other.1.0,
  one_hex d (codes "data")
      x x' one.1.1 other.1.1,
) refl
same_content d (Row x y k l) (Row x' y' k' l') one other =
    rw (
      some_once _ x x' one.1.0 other.1.0,
      some_once _ y y' one.1.1 other.1.1,
      some_once _ k k' one.1.2 other.1.2,
      some_once _ l l' one.1.3 other.1.3,
    ) refl
same_content d (Tile z c r x) (Media t' x') one other = absurd (clash _ _ _ one.0 other.0 refl)
same_content d (Tile z c r x) (Row x' y' k' l') one other = absurd (clash _ _ _ one.0 other.0 refl)
same_content d (Media t x) (Tile z' c' r' x') one other = absurd (clash _ _ _ one.0 other.0 refl)
same_content d (Media t x) (Row x' y' k' l') one other = absurd (clash _ _ _ one.0 other.0 refl)
same_content d (Row x y k l) (Tile z' c' r' x') one other = absurd (clash _ _ _ one.0 other.0 refl)
same_content d (Row x y k l) (Media t' x') one other = absurd (clash _ _ _ one.0 other.0 refl)

-- an object asks for one command at most
pub same_command : (d : Data) (c e : Command) → IsCommand d c → IsCommand d e → c ≡ e
same_command d (Add p i c) (Add p' i' c') one other = rw (
  some_once _ p p' one.1.0 other.1.0,
  some_once _ i i' one.1.1
      other.1.1,
  same_content d c c' one.1.2 other.1.2,
) refl
same_command d (Delete p i) (Delete p' i') one other = rw (
  some_once _ p p' one.1.0 other.1.0,
  some_once _ i i'
      one.1.1 other.1.1,
) refl
same_command d (Link p m b r) (Link p' m' b' r') one other =
    rw (
      some_once _ p p' one.1.0 other.1.0,
      one_mapping d m m' one.1.1 other.1.1,
      some_once _ b b' one.1.2 other.1.2,
      some_once _ r r' one.1.3 other.1.3,
    ) refl
same_command d (Unlink p m b r) (Unlink p' m' b' r') one other =
    rw (
      some_once _ p p' one.1.0 other.1.0,
      one_mapping d m m' one.1.1 other.1.1,
      some_once _ b b' one.1.2 other.1.2,
      some_once _ r r' one.1.3 other.1.3,
    ) refl
same_command d (Split p k m r) (Split p' k' m' r') one other =
    rw (
      some_once _ p p' one.1.0 other.1.0,
      some_once _ k k' one.1.1 other.1.1,
      one_mode d m m' one.1.2 other.1.2,
      one_rect d r r' one.1.3 other.1.3,
    ) refl
same_command d (Merge k p n) (Merge k' p' n') one other = rw
    (some_once _ k k' one.1.0 other.1.0, some_once _ p p' one.1.1 other.1.1, some_once _ n n' one.1.2 other.1.2) refl
same_command d (Add p i c) (Delete p' i') one other = absurd (clash _ _ _ one.0 other.0 refl)
same_command d (Add p i c) (Link p' m' b' r') one other = absurd (clash _ _ _ one.0 other.0 refl)
same_command d (Add p i c) (Unlink p' m' b' r') one other = absurd (clash _ _ _ one.0 other.0 refl)
same_command d (Add p i c) (Split p' k' m' r') one other = absurd (clash _ _ _ one.0 other.0 refl)
same_command d (Add p i c) (Merge k' p' n') one other = absurd (clash _ _ _ one.0 other.0 refl)
same_command d (Delete p i) (Add p' i' c') one other = absurd (clash _ _ _ one.0 other.0 refl)
same_command d (Delete p i) (Link p' m' b' r') one other = absurd (clash _ _ _ one.0 other.0 refl)
same_command d (Delete p i) (Unlink p' m' b' r') one other = absurd (clash _ _ _ one.0 other.0 refl)
same_command d (Delete p i) (Split p' k' m' r') one other = absurd (clash _ _ _ one.0 other.0 refl)
same_command d (Delete p i) (Merge k' p' n') one other = absurd (clash _ _ _ one.0 other.0 refl)
same_command d (Link p m b r) (Add p' i' c') one other = absurd (clash _ _ _ one.0 other.0 refl)
same_command d (Link p m b r) (Delete p' i') one other = absurd (clash _ _ _ one.0 other.0 refl)
same_command d (Link p m b r) (Unlink p' m' b' r') one other = absurd (clash _ _ _ one.0 other.0 refl)
same_command d (Link p m b r) (Split p' k' m' r') one other = absurd (clash _ _ _ one.0 other.0 refl)
same_command d (Link p m b r) (Merge k' p' n') one other = absurd (clash _ _ _ one.0 other.0 refl)
same_command d (Unlink p m b r) (Add p' i' c') one other = absurd (clash _ _ _ one.0 other.0 refl)
same_command d (Unlink p m b r) (Delete p' i') one other = absurd (clash _ _ _ one.0 other.0 refl)
same_command d (Unlink p m b r) (Link p' m' b' r') one other = absurd (clash _ _ _ one.0 other.0 refl)
same_command d (Unlink p m b r) (Split p' k' m' r') one other = absurd (clash _ _ _ one.0 other.0 refl)
same_command d (Unlink p m b r) (Merge k' p' n') one other = absurd (clash _ _ _ one.0 other.0 refl)
same_command d (Split p k m r) (Add p' i' c') one other = absurd (clash _ _ _ one.0 other.0 refl)
same_command d (Split p k m r) (Delete p' i') one other = absurd (clash _ _ _ one.0 other.0 refl)
same_command d (Split p k m r) (Link p' m' b' r') one other = absurd (clash _ _ _ one.0 other.0 refl)
same_command d (Split p k m r) (Unlink p' m' b' r') one other = absurd (clash _ _ _ one.0 other.0 refl)
same_command d (Split p k m r) (Merge k' p' n') one other = absurd (clash _ _ _ one.0 other.0 refl)
same_command d (Merge k p n) (Add p' i' c') one other = absurd (clash _ _ _ one.0 other.0 refl)
same_command d (Merge k p n) (Delete p' i') one other = absurd (clash _ _ _ one.0 other.0 refl)
same_command d (Merge k p n) (Link p' m' b' r') one other = absurd (clash _ _ _ one.0 other.0 refl)
same_command d (Merge k p n) (Unlink p' m' b' r') one other = absurd (clash _ _ _ one.0 other.0 refl)
same_command d (Merge k p n) (Split p' k' m' r') one other = absurd (clash _ _ _ one.0 other.0 refl)

-- and is one request
pub same_request : (d : Data) (a b : Request) → IsRequest d a → IsRequest d b → a ≡ b
same_request d a b one other =
    let id = some_once _ a.id b.id one.id other.id in
    let at_same = some_once _ a.at b.at one.at other.at in
    let asked = same_command d a.command b.command one.command other.command in
    λ i. record { id = id i; at = at_same i; command = asked i }

-- a text is one request at most
pub one_request : (text : List ℕ) (a b : Request) → IsRequestText text a → IsRequestText text b → a ≡ b
one_request text a b (d, is, one) (e, also, other) =
    let same = some_once (read text) d e is.1 also.1 in
    same_request e a b (rw same at one) other

-- what a request with more members than its command's is not
pub more_members : {P : Type 0} (d : Data) (c : Command) → IsCommand d c → (HasNoOther d (member_names c) → P)
    → (r : Request) → IsRequest d r → P
more_members d c asked more r is =
    let same = same_command d c r.command asked is.command in
    more (rw same is.only)

-- a text that is no JSON is no request
pub no_json : (text : List ℕ) → ((d : Data) → ¬ JsonIs text d) → (r : Request) → IsRequestText text r → ⊥
no_json text none r (d, is, request) = none d is
