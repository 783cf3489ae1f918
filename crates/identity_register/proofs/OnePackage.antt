-- The tables read as at most one package.
use Rattle.std.proofs.Common.{◌≡◌, ℕ, ◌+◌, ◌*◌, ◌≤◌, pos, List, [], ◌∷◌, ◌++◌, map}
use Rattle.std.proofs.Common.{Bool, true, false, cond, Option}
use Rattle.std.proofs.Common.{Some, None, refl, sym, ap, subst, ◌∙◌, inl, inr, length, arith}
use Rattle.std.specs.Prelude.{◌⊎◌, ◌==◌, ◌&&◌, bytes_eq, flat_map, unsigned_abs, Contains, nat_lt}
use Rattle.std.specs.List.{IsDistinct, list_all, enumerate_from}
use Rattle.std.specs.Ordering.{int_eq}
use Rattle.std.specs.Option.{option_map_or}
use Rattle.std.specs.Result.{result_unwrap_or}
use Rattle.std.proofs.lemmas.Bool.{and_parts, and_from, and_right, true≢false}
use Rattle.std.proofs.lemmas.Slice.Eq.{bytes_eq-Decides}
use borrow.Author.Tests.{eqb-true, eq-eqb}
use Rattle.hex.specs.Hex.{encode_lower, lower_digits}
use Rattle.hex.proofs.HexLemmas.{decode_of-encode_lower, length-encode_with}
use Rattle.uuid.proofs.TextLemmas.{by_index_length}
use Rattle.sheet_types.specs.Ordered.{arranged, put, has, is_before, IsArranged}
use Rattle.sheet_types.specs.Texts.{uuid_text, kind_of}
use Rattle.sheet_types.specs.World.{Package, item_key, link_key, link_kind, receipt_key, kind_number, base_kind}
use Rattle.sheet_types.specs.World.{other_kind}
use Rattle.sheet_types.specs.Lines.{IsUuid, is_uuid, is_bytes, digest_in}
use Rattle.sheet_types.specs.Register.{HasEnds}
use Rattle.sheet_types.specs.declared.command.Content.{Content}
use Rattle.sheet_types.specs.declared.command.Content.TheVariants.{Tile, Media, Row}
use Rattle.sheet_types.specs.declared.command.Item.{Item}
use Rattle.sheet_types.specs.declared.command.Relation.{Relation}
use Rattle.sheet_types.specs.declared.frame.Frame.{Frame}
use Rattle.sheet_types.specs.declared.receipt.Moved.{Moved}
use Rattle.sheet_types.specs.declared.receipt.MovedKind.{MovedKind}
use Rattle.sheet_types.specs.declared.receipt.Receipt.{Receipt}
use Rattle.sheet_types.proofs.Found.{found, All-found}
use Rattle.sheet_types.proofs.Basics.{bytes_eq_itself, bytes_eq_swap}
use Rattle.sheet_types.proofs.Every.{All-weaker, All-of_map, All-map}
use Rattle.sheet_types.proofs.LineReading.{uuid_length, small_bytes, small_at, same_uuid}
use Rattle.sheet_types.proofs.Order.{put_arranged, All-arranged}
use Rattle.sheet_types.proofs.Same.{In, In-all, In-map, In-of_map, In-flat_map, In-of_flat_map, All-In, Contains-In}
use Rattle.sheet_types.proofs.Same.{any_in, same_list}
use Rattle.store_sql.proofs.Schemas.{sound_alone}
use Rattle.package_tables.specs.Package.{Tables, tables_of}
use Rattle.package_tables.specs.Shapes.{tile_shape, medium_shape, attribute_shape, identity_shape, receipt_shape}
use Rattle.package_tables.specs.Shapes.{moved_shape}
use Rattle.package_tables.specs.declared.rows.AttributeRow.{AttributeRow}
use Rattle.package_tables.specs.declared.rows.MediaRow.{MediaRow}
use Rattle.package_tables.specs.declared.rows.TileRow.{TileRow}
use Rattle.package_tables.specs.declared.rows.MovedRow.{MovedRow}
use Rattle.package_tables.specs.declared.rows.ReceiptRow.{ReceiptRow}
use Rattle.identity_register.specs.Answers.{IsContentOf, are_ends}
use Rattle.identity_register.specs.Laws.{ReadsAlone, TreesReadAlone}
use Rattle.identity_register.specs.Numbering.{Numbered, identity_row, tile_rows, media_rows, attribute_rows}
use Rattle.sheet_types.specs.Reading.{optional_uuid_text}
use Rattle.identity_register.specs.Reads.{Says, Reads, IsFitReceipt, is_fit_end, is_fit_moved, head_row, receipt_row}
use Rattle.identity_register.specs.Reads.{moved_row, moved_rows}
use Rattle.sheet_types.proofs.KindNumbers.{kind_number_tells, same_mapping}
use Rattle.identity_register.proofs.Contents.{content_by_row}
use Rattle.identity_register.proofs.Deleting.{pos_same}
use Rattle.identity_register.proofs.Ends.{link_by_rows}
use Rattle.identity_register.proofs.OneFrame.{head_same, one_frame}
use Rattle.identity_register.proofs.Linking.{end_of, bytes_eq_append}
use Rattle.identity_register.proofs.Finding.{in_arranged}

-- ---- arranged lists

in_put : {X : Type 0} (key : X → List ℕ) (x y : X) (ys : List X) → (y ≡ x) ⊎ In x ys → In x (put key y ys)
in_put key x y [] i = i
in_put key x y (z ∷ zs) i = one (is_before (key z) (key y)) i (in_put key x y zs)
  where
    one : (b : Bool) → (y ≡ x) ⊎ ((z ≡ x) ⊎ In x zs) → ((y ≡ x) ⊎ In x zs → In x (put key y zs))
        → In x (cond b (z ∷ put key y zs) (y ∷ z ∷ zs))
    one true i later = elim i [
      | inl e ↦ inr (later (inl e))
      | inr j
          ↦ elim j [ inl e ↦ inl e | inr k ↦ inr (later (inr k)) ]
    ]
    one false i later = i

pub to_arranged : {X : Type 0} (key : X → List ℕ) (x : X) (xs : List X) → In x xs → In x (arranged key xs)
to_arranged key x [] i = i
to_arranged key x (y ∷ ys) i = in_put key x y (arranged key ys)
    (elim i [ inl e ↦ inl e | inr j ↦ inr (to_arranged key x ys j) ])

-- elements that have keys of their own are arranged as a set
pub distinct_arranged : {X : Type 0} (key : X → List ℕ) (xs : List X) → IsDistinct bytes_eq (map key xs)
    → IsArranged key (arranged key xs)
unfolding IsDistinct
distinct_arranged key [] d = tt
distinct_arranged key (x ∷ xs) d =
    put_arranged key x (arranged key xs) (distinct_arranged key xs d.1)
    (All-arranged key (λ y. bytes_eq (key y) (key x) ≡ false) xs
    (All-weaker _ _ (λ y e. bytes_eq_swap (key y) (key x) ∙ e) xs
    (All-of_map (λ k. bytes_eq (key x) k ≡ false) key xs d.0)))

distinct_by : {X : Type 0} (f g : X → List ℕ) → ((x y : X) → bytes_eq (f x) (f y) ≡ false
    → bytes_eq (g x) (g y) ≡ false) → (xs : List X) → IsDistinct bytes_eq (map f xs)
    → IsDistinct bytes_eq (map g xs)
unfolding IsDistinct
distinct_by f g so [] d = tt
distinct_by f g so (x ∷ xs) d = (
  All-map (λ k. bytes_eq (g x) k ≡ false) g xs
      (All-weaker _ _ (λ y e. so x y e) xs (All-of_map (λ k. bytes_eq (f x) k ≡ false) f xs d.0)),
  distinct_by f g so xs
      d.1,
)

distinct_map : {X Y : Type 0} (f : X → Y) (key : Y → List ℕ) (xs : List X)
    → IsDistinct bytes_eq (map (λ x. key (f x)) xs) → IsDistinct bytes_eq (map key (map f xs))
unfolding IsDistinct
distinct_map f key [] d = tt
distinct_map f key (x ∷ xs) d = (
  All-map (λ k. bytes_eq (key (f x)) k ≡ false) key (map f xs)
      (All-map (λ y. bytes_eq (key (f x)) (key y) ≡ false) f xs
      (All-of_map (λ k. bytes_eq (key (f x)) k ≡ false) (λ y. key (f y)) xs d.0)),
  distinct_map f key xs d.1,
)

-- ---- places in a list

from_place : {X : Type 0} (n : ℕ) (z : ℕ × X) (xs : List X) → In z (enumerate_from n xs) → n ≤ z.0
from_place n z [] i = absurd i
from_place n z (x ∷ xs) i = elim i [
  | inl e ↦ let same = ap (λ v. v.0) e in omega arith
  | inr j ↦ let later =
      from_place (n + 1) z xs j in omega arith
]

-- two lists are one where they have the same element in each place
pub by_places : {X : Type 0} (n : ℕ) (xs ys : List X) → ((z : ℕ × X) → In z (enumerate_from n xs)
    → In z (enumerate_from n ys)) → ((z : ℕ × X) → In z (enumerate_from n ys) → In z (enumerate_from n xs))
    → xs ≡ ys
by_places n [] [] to fro = refl
by_places n [] (y ∷ ys) to fro = absurd (fro (n, y) (inl refl))
by_places n (x ∷ xs) [] to fro = absurd (to (n, x) (inl refl))
by_places {X} n (x ∷ xs) (y ∷ ys) to fro = joined (head (to (n, x) (inl refl)))
    (by_places (n + 1) xs ys (λ z i. rest z (from_place (n + 1) z xs i) y ys (to z (inr i)))
    (λ z i. rest z (from_place (n + 1) z ys i) x xs (fro z (inr i))))
  where
    head : In (n, x) (enumerate_from n (y ∷ ys)) → y ≡ x
    head i = elim i [
      | inl e ↦ ap (λ v. v.1) e
      | inr j ↦ absurd
          (let late = from_place (n + 1) (n, x) ys j in omega arith)
    ]

    rest : (z : ℕ × X) → n + 1 ≤ z.0 → (w : X) (ws : List X) → In z (enumerate_from n (w ∷ ws))
        → In z (enumerate_from (n + 1) ws)
    rest z late w ws i = elim i [ inl e ↦ absurd (let same = ap (λ v. v.0) e in omega arith) | inr j ↦ j ]

    joined : y ≡ x → xs ≡ ys → x ∷ xs ≡ y ∷ ys
    joined e g = cc

-- ---- texts

pub nat_of : (a b : ℕ) → pos a ≡ pos b → a ≡ b
nat_of a b e = ap unsigned_abs e

text_long : (id : List ℕ) → length (uuid_text id) ≡ 36
text_long id = by_index_length 36 _

-- the end that a text is of
same_end : (a b : Option (List ℕ)) → is_fit_end a ≡ true → is_fit_end b ≡ true
    → optional_uuid_text a ≡ optional_uuid_text b → a ≡ b
same_end None None h g e = refl
same_end None (Some b) h g e = absurd (let long = text_long b in let same : 0 ≡ length (uuid_text b) =
    ap length e in omega arith)
same_end (Some a) None h g e = absurd (let long = text_long a in let same : length (uuid_text a) ≡ 0 =
    ap length e in omega arith)
same_end (Some a) (Some b) h g e = ap Some (same_uuid a b h g e)

-- a digest reads back from its text
digest_back : (bytes : List ℕ) → is_bytes 32 bytes ≡ true → digest_in (encode_lower bytes) ≡ bytes
digest_back bytes h = ap (λ r. result_unwrap_or r []) (decode_of-encode_lower bytes
    (small_at bytes (small_bytes bytes (and_parts (length bytes == 32) (list_all (λ b. nat_lt b 256) bytes) h).1)))

is_fit_print : Option (List ℕ) → Bool
is_fit_print a = option_map_or (is_bytes 32) a true

print_text : Option (List ℕ) → List ℕ
print_text a = option_map_or encode_lower a []

-- the text of a digest is not empty
some_text : (a : List ℕ) → is_bytes 32 a ≡ true → [] ≡ encode_lower a → ⊥
some_text a h e =
    let long : length (encode_lower a) ≡ 2 * length a = length-encode_with lower_digits a in
    let bytes : length a ≡ 32 = eqb-true (length a) 32 (and_parts (length a == 32) (list_all (λ b. nat_lt b 256) a)
    h).0 in
    let same : 0 ≡ length (encode_lower a) = ap length e in
    omega arith

same_print : (a b : Option (List ℕ)) → is_fit_print a ≡ true → is_fit_print b ≡ true
    → print_text a ≡ print_text b
    → a ≡ b
unfolding is_fit_print print_text
same_print None None h g e = refl
same_print None (Some b) h g e = absurd (some_text b g e)
same_print (Some a) None h g e = absurd (some_text a h (sym e))
same_print (Some a) (Some b) h g e = ap Some (sym (digest_back a h) ∙ ap digest_in e ∙ digest_back b g)

-- ---- receipts

-- what was moved, by its row
pub same_moved : (a b : Moved) (s k s' k' : ℕ) → is_fit_moved a ≡ true → is_fit_moved b ≡ true
    → moved_row s k a ≡ moved_row s' k' b → a ≡ b
unfolding is_fit_print print_text
same_moved a b s k s' k' h g e =
    let ha = and_parts (is_uuid a.base && is_fit_end a.other) (option_map_or (is_bytes 32) a.fingerprint true) h in
    let ha' = and_parts (is_uuid a.base) (is_fit_end a.other) ha.0 in
    let hb = and_parts (is_uuid b.base && is_fit_end b.other) (option_map_or (is_bytes 32) b.fingerprint true) g in
    let hb' = and_parts (is_uuid b.base) (is_fit_end b.other) hb.0 in
    let kind : a.kind ≡ b.kind = kind_number_tells a.kind b.kind
    (nat_of (kind_number a.kind) (kind_number b.kind) (ap (λ r. r.kind) e)) in
    let base : a.base ≡ b.base = same_uuid a.base b.base ha'.0 hb'.0 (ap (λ r. r.base) e) in
    let other : a.other ≡ b.other = same_end a.other b.other ha'.1 hb'.1 (ap (λ r. r.other) e) in
    let size : a.size ≡ b.size = nat_of a.size b.size (ap (λ r. r.size) e) in
    let print : a.fingerprint ≡ b.fingerprint = same_print a.fingerprint b.fingerprint ha.1 hb.1
    (ap (λ r. r.fingerprint) e) in
    λ n. record { kind = kind n; base = base n; other = other n; size = size n; fingerprint = print n }

pub in_place : {X : Type 0} (n : ℕ) (z : ℕ × X) (xs : List X) → In z (enumerate_from n xs) → In z.1 xs
in_place n z [] i = i
in_place n z (x ∷ xs) i = elim i [ inl e ↦ inl (ap (λ v. v.1) e) | inr j ↦ inr (in_place (n + 1) z xs j) ]

-- what stands at a place, by its row
pub same_place : (w z : ℕ × Moved) (s s' : ℕ) → is_fit_moved w.1 ≡ true → is_fit_moved z.1 ≡ true
    → moved_row s w.0 w.1 ≡ moved_row s' z.0 z.1 → w ≡ z
same_place w z s s' fit_w fit_z e =
    let place : w.0 ≡ z.0 = nat_of w.0 z.0 (ap (λ x. x.position) e) in
    let thing : w.1 ≡ z.1 = same_moved w.1 z.1 s w.0 s' z.0 fit_w fit_z e in
    λ n. (place n, thing n)

-- a receipt is known by its row and by what it moved
pub same_receipt : (s r : Receipt) → IsFitReceipt s → IsFitReceipt r → receipt_row s ≡ receipt_row r
    → s.items ≡ r.items → s ≡ r
same_receipt s r theirs mine e items =
    let seq : s.seq ≡ r.seq = nat_of s.seq r.seq (ap (λ x. x.seq) e) in
    let request : s.request ≡ r.request = same_uuid s.request r.request theirs.request mine.request
    (ap (λ x. x.request) e) in
    let at : s.at ≡ r.at = ap (λ x. x.at) e in
    let line : s.line ≡ r.line = ap (λ x. x.line) e in
    let source : s.source ≡ r.source = same_end s.source r.source theirs.source mine.source (ap (λ x. x.source) e) in
    let target : s.target ≡ r.target = same_end s.target r.target theirs.target mine.target (ap (λ x. x.target) e) in
    let tiles : s.tiles ≡ r.tiles = nat_of s.tiles r.tiles (ap (λ x. x.n_tiles) e) in
    let media : s.media ≡ r.media = nat_of s.media r.media (ap (λ x. x.n_media) e) in
    let rows : s.rows ≡ r.rows = nat_of s.rows r.rows (ap (λ x. x.n_rows) e) in
    let links : s.links ≡ r.links = nat_of s.links r.links (ap (λ x. x.n_links) e) in
    let bytes : s.bytes ≡ r.bytes = nat_of s.bytes r.bytes (ap (λ x. x.n_bytes) e) in
    λ n. record {
      seq = seq n;
      request = request n;
      at = at n;
      line = line n;
      source = source n;
      target = target n;
      items = items n;
      tiles = tiles n;
      media = media n;
      rows = rows n;
      links = links n;
      bytes = bytes n;
    }

-- an element is known by its key
one_of_key : {X : Type 0} (key : X → List ℕ) (xs : List X) (a b : X) → IsDistinct bytes_eq (map key xs)
    → In a xs
    → In b xs → key a ≡ key b → a ≡ b
unfolding IsDistinct
one_of_key key [] a b d i j e = absurd i
one_of_key {X} key (x ∷ xs) a b d i j e = elim i [
  | inl g ↦ elim j [ inl h ↦ sym g ∙ h | inr k ↦ absurd (apart b k (ap key g ∙ e)) ]
  | inr k ↦ elim j [ inl h ↦ absurd (apart a k (ap key h ∙ sym e)) | inr l ↦ one_of_key key xs a b d.1 k l e ]
]
  where
    apart : (y : X) → In y xs → key x ≡ key y → ⊥
    apart y k same = true≢false (sym (bytes_eq_itself (key y)) ∙ ap (λ v. bytes_eq v (key y)) (sym same)
        ∙ All-In (λ z. bytes_eq (key x) (key z) ≡ false) y xs
        (All-of_map (λ v. bytes_eq (key x) v ≡ false) key xs d.0) k)

module _ (f : Frame) (t : Tables) where
  -- the row of a thing that a receipt moved is stored
  pub thing_stored : (p : Package) (one : Says f p t) (r : Receipt) → In r one.entered → (z : ℕ × Moved)
      → In z (enumerate_from 0 r.items) → In (moved_row r.seq z.0 z.1) t.moved
  thing_stored p one r i z at =
      let row : MovedRow = moved_row r.seq z.0 z.1 in
      subst (In row) (sym one.moved) (to_arranged moved_shape.key row (flat_map moved_rows one.entered)
      (In-flat_map moved_rows r row one.entered i (In-map (λ m. moved_row r.seq m.0 m.1) z
      (enumerate_from 0 r.items) at)))

  -- a thing whose row is stored under the number of a receipt was moved by it
  pub thing_moved : (q : Package) (two : Says f q t) (s : Receipt) → In s two.entered → (z : ℕ × Moved)
      → is_fit_moved z.1 ≡ true → In (moved_row s.seq z.0 z.1) t.moved → In z (enumerate_from 0 s.items)
  thing_moved q two s j z fit_z stored =
      let row : MovedRow = moved_row s.seq z.0 z.1 in
      let it = In-of_flat_map moved_rows row two.entered (in_arranged moved_shape.key
      (flat_map moved_rows two.entered) row (subst (In row) two.moved stored)) in
      let w = In-of_map (λ m. moved_row it.0.seq m.0 m.1) row (enumerate_from 0 it.0.items) it.2 in
      let receipt : it.0 ≡ s = one_of_key receipt_key two.entered it.0 s two.distinct_receipts it.1 j
      (ap (λ k. k ∷ []) (nat_of it.0.seq s.seq (ap (λ x. x.seq) w.2))) in
      let fit_w = All-In (λ m. is_fit_moved m ≡ true) w.0.1 it.0.items
      (All-In IsFitReceipt it.0 two.entered two.fit it.1).items (in_place 0 w.0 it.0.items w.1) in
      let whole : w.0 ≡ z = same_place w.0 z it.0.seq s.seq fit_w fit_z w.2 in
      subst (λ x. In z (enumerate_from 0 x.items)) receipt (subst (λ v. In v (enumerate_from 0 it.0.items)) whole w.1)

  -- what a receipt of one reading moved, a receipt of the same number moved in another
  places_there : (p q : Package) (one : Says f p t) (two : Says f q t) (r s : Receipt) → In r one.entered
      → In s two.entered → s.seq ≡ r.seq → (z : ℕ × Moved) → In z (enumerate_from 0 r.items)
      → In z (enumerate_from 0 s.items)
  places_there p q one two r s i j same z at =
      let fit_z = All-In (λ m. is_fit_moved m ≡ true) z.1 r.items (All-In IsFitReceipt r one.entered one.fit i).items
      (in_place 0 z r.items at) in
      thing_moved q two s j z fit_z (subst (λ n. In (moved_row n z.0 z.1) t.moved) (sym same)
      (thing_stored p one r i z at))

  receipt_there : (p q : Package) (one : Says f p t) (two : Says f q t) (r : Receipt) → In r one.entered
      → In r two.entered
  receipt_there p q one two r i =
      let row : ReceiptRow = receipt_row r in
      let stored : In row t.receipts = subst (In row) (sym one.receipts)
      (to_arranged receipt_shape.key row (map receipt_row one.entered)
      (In-map receipt_row r one.entered i)) in
      let it = In-of_map receipt_row row two.entered (in_arranged receipt_shape.key (map receipt_row two.entered) row
      (subst (In row) two.receipts stored)) in
      let s = it.0 in
      let mine = All-In IsFitReceipt r one.entered one.fit i in
      let theirs = All-In IsFitReceipt s two.entered two.fit it.1 in
      let seq : s.seq ≡ r.seq = nat_of s.seq r.seq (ap (λ x. x.seq) it.2) in
      let items : s.items ≡ r.items = by_places 0 s.items r.items (places_there q p two one s r it.1 i (sym seq))
      (places_there p q one two r s i it.1 seq) in
      subst (λ x. In x two.entered) (same_receipt s r theirs mine it.2 items) it.1

  -- ---- items

  -- the row of an item is stored
  pub row_stored : (p : Package) (one : Says f p t) (n : Numbered) → In n one.numbered
      → Contains t.identities (identity_row n)
  row_stored p one n i = Contains-In (identity_row n) t.identities
      (subst (In (identity_row n)) (sym one.identities) (to_arranged identity_shape.key (identity_row n)
      (map identity_row one.numbered) (In-map identity_row n one.numbered i)))

  content_stored : (p : Package) (one : Says f p t) (n : Numbered) → In n one.numbered
      → IsContentOf (pos (kind_number (kind_of n.item.content))) n.number t n.item.content
  content_stored p one n i = by_kind n.item.content refl
    where
      by_kind : (c : Content) → n.item.content ≡ c → IsContentOf (pos (kind_number (kind_of c))) n.number t c
      by_kind (Tile z c w b) e =
          let row : TileRow = record {
            id = n.number;
            zoom_level = z;
            tile_column = c;
            tile_row = w;
            tile_data = b;
          } in (
            refl,
            Contains-In row t.tiles (subst (In row) (sym one.tiles)
                (to_arranged tile_shape.key row (flat_map (λ m. tile_rows m.number m.item.content) one.numbered)
                (In-flat_map (λ m. tile_rows m.number m.item.content) n row one.numbered i
                (subst (λ k. In row (tile_rows n.number k)) (sym e) (inl refl))))),
          )
      by_kind (Media k b) e =
          let row : MediaRow = record { id = n.number; «data» = b; content_type = k } in (
            refl,
            Contains-In row t.media (subst (In row) (sym one.media)
                (to_arranged medium_shape.key row (flat_map (λ m. media_rows m.number m.item.content) one.numbered)
                (In-flat_map (λ m. media_rows m.number m.item.content) n row one.numbered i
                (subst (λ k. In row (media_rows n.number k)) (sym e) (inl refl))))),
          )
      by_kind (Row x y c l) e =
          let row : AttributeRow = record { id = n.number; x = x; y = y; code = c; label = l } in (
            refl,
            Contains-In row t.rows (subst (In row) (sym one.rows)
                (to_arranged attribute_shape.key row (flat_map (λ m. attribute_rows m.number m.item.content)
                one.numbered) (In-flat_map (λ m. attribute_rows m.number m.item.content) n row one.numbered i
                (subst (λ k. In row (attribute_rows n.number k)) (sym e) (inl refl))))),
          )

  item_there : (p q : Package) (one : Says f p t) (two : Says f q t) (x : Item) → In x p.items → In x q.items
  item_there p q one two x i =
      let it = In-of_map (λ n. n.item) x one.numbered (in_arranged item_key (map (λ n. n.item) one.numbered) x
      (subst (In x) one.items i)) in
      let n = it.0 in
      let fit = All-In (λ m. IsUuid m.item.identity) n one.numbered one.numbers.uuids it.1 in
      let told = content_by_row f q t two n.item.identity fit (identity_row n) n.item.content
      (row_stored p one n it.1, bytes_eq_itself (uuid_text n.item.identity)) (content_stored p one n it.1) in
      subst (λ y. In y q.items) it.2 (All-found (λ y. In y q.items) (λ y. bytes_eq y.identity n.item.identity) n.item
      q.items (sym told) (In-all q.items)).0

  -- ---- links

  -- a link by its key
  same_link : (a b : Relation) → IsUuid a.base → IsUuid b.base → bytes_eq (link_key a) (link_key b) ≡ true
      → a ≡ b
  same_link a b ha hb e =
      let key = and_parts (kind_number (link_kind a.mapping) == kind_number (link_kind b.mapping))
      (bytes_eq (a.base ++ a.other) (b.base ++ b.other)) e in
      let ends = and_parts (bytes_eq a.base b.base) (bytes_eq a.other b.other)
      (sym (bytes_eq_append a.base a.other b.base b.other
      (uuid_length a.base ha ∙ sym (uuid_length b.base hb))) ∙ key.1) in
      let mapping : a.mapping ≡ b.mapping = same_mapping a.mapping b.mapping key.0 in
      let base : a.base ≡ b.base = (bytes_eq-Decides a.base b.base).0 ends.0 in
      let other : a.other ≡ b.other = (bytes_eq-Decides a.other b.other).0 ends.1 in
      λ n. record { mapping = mapping n; base = base n; other = other n }

  -- the ends of a link are UUIDs
  end_fit : (p : Package) (one : Says f p t) (kind : MovedKind) (id : List ℕ)
      → has item_key (kind_number kind ∷ id) p.items ≡ true → IsUuid id
  end_fit p one kind id h = let n = end_of f p t one kind id h in subst IsUuid n.3
      (All-In (λ m. IsUuid m.item.identity) n.0 one.numbered one.numbers.uuids n.1)

  of_linked : (p : Package) (one : Says f p t) (l : Relation) → In l p.links → In l one.linked
  of_linked p one l i = in_arranged link_key one.linked l (subst (In l) one.links i)

  link_ends : (p : Package) (one : Says f p t) (l : Relation) → In l p.links → HasEnds p l
  link_ends p one l i = All-In (HasEnds p) l one.linked one.ends (of_linked p one l i)

  link_there : (p q : Package) (one : Says f p t) (two : Says f q t) (l : Relation) → In l p.links → In l q.links
  link_there p q one two l i =
      let ends : HasEnds p l = link_ends p one l i in
      let n = end_of f p t one (base_kind l.mapping) l.base ends.0 in
      let m = end_of f p t one (other_kind l.mapping) l.other ends.1 in
      let base_fit : IsUuid l.base = end_fit p one (base_kind l.mapping) l.base ends.0 in
      let other_fit : IsUuid l.other = end_fit p one (other_kind l.mapping) l.other ends.1 in
      let base_row : Contains t.identities (identity_row n.0)
      × (bytes_eq (identity_row n.0).uuid (uuid_text l.base) ≡ true) = (
        row_stored p one n.0 n.1,
        subst (λ id. bytes_eq (uuid_text n.0.item.identity) (uuid_text id) ≡ true)
            n.3 (bytes_eq_itself (uuid_text n.0.item.identity)),
      ) in
      let other_row : Contains t.identities (identity_row m.0)
      × (bytes_eq (identity_row m.0).uuid (uuid_text l.other) ≡ true) = (
        row_stored p one m.0 m.1,
        subst (λ id. bytes_eq (uuid_text m.0.item.identity) (uuid_text id) ≡ true)
            m.3 (bytes_eq_itself (uuid_text m.0.item.identity)),
      ) in
      let right : are_ends l.mapping (identity_row n.0).kind (identity_row m.0).kind ≡ true =
      and_from _ _ (kind_is_it _ _ n.2) (kind_is_it _ _ m.2) in
      let mine = link_by_rows f p t one l base_fit other_fit (identity_row n.0) (identity_row m.0) base_row other_row
      right in
      let theirs = link_by_rows f q t two l base_fit other_fit (identity_row n.0) (identity_row m.0) base_row
      other_row right in
      let has_it : has link_key (link_key l) q.links ≡ true =
      sym theirs ∙ mine ∙ any_in (λ x. bytes_eq (link_key x) (link_key l)) l p.links i
      (bytes_eq_itself (link_key l)) in
      let x = found (λ x. bytes_eq (link_key x) (link_key l)) q.links has_it in
      let at = All-found (λ y. In y q.links) (λ y. bytes_eq (link_key y) (link_key l)) x.0 q.links x.1
      (In-all q.links) in
      subst (λ y. In y q.links) (same_link x.0 l (end_fit q two (base_kind x.0.mapping) x.0.base
      (link_ends q two x.0 at.0).0) base_fit at.1) at.0
    where
      kind_is_it : (a b : ℕ) → a ≡ b → int_eq (pos b) (pos a) ≡ true
      kind_is_it a b e = pos_same b a ∙ eq-eqb b a (sym e)

  -- ---- the package

  pub items_arranged : (p : Package) (one : Says f p t) → IsArranged item_key p.items
  items_arranged p one =
      subst (IsArranged item_key) (sym one.items) (distinct_arranged item_key (map (λ n. n.item) one.numbered)
      (distinct_by (λ i. i.identity) item_key (λ x y e. apart x y e) (map (λ n. n.item) one.numbered)
      (distinct_map (λ n. n.item) (λ i. i.identity) one.numbered one.numbers.identities)))
    where
      apart : (x y : Item) → bytes_eq x.identity y.identity ≡ false → bytes_eq (item_key x) (item_key y) ≡ false
      apart x y e = ap (λ b. (kind_number (kind_of x.content) == kind_number (kind_of y.content)) && b) e
          ∙ and_right (kind_number (kind_of x.content) == kind_number (kind_of y.content)) false refl

  pub one_package : (p q : Package) → Says f p t → Says f q t → p ≡ q
  one_package p q one two =
      let head : head_row p one.created ≡ head_row q two.created = head_same (sym one.head ∙ two.head) in
      let uuid : p.uuid ≡ q.uuid = same_uuid p.uuid q.uuid one.fit_head.uuid two.fit_head.uuid
      (ap (λ h. h.package) head) in
      let parent : p.parent ≡ q.parent = same_end p.parent q.parent one.fit_head.parent two.fit_head.parent
      (ap (λ h. h.parent) head) in
      let depth : p.depth ≡ q.depth = nat_of p.depth q.depth (ap (λ h. h.depth) head) in
      let loan : p.loan ≡ q.loan = nat_of p.loan q.loan (ap (λ h. h.loan) head) in
      let items : p.items ≡ q.items = same_list item_key p.items q.items (items_arranged p one) (items_arranged q two)
      (item_there p q one two) (item_there q p two one) in
      let links : p.links ≡ q.links =
      same_list link_key p.links q.links (subst (IsArranged link_key) (sym one.links)
      (distinct_arranged link_key one.linked one.distinct_links))
      (subst (IsArranged link_key) (sym two.links) (distinct_arranged link_key two.linked two.distinct_links))
      (link_there p q one two) (link_there q p two one) in
      let receipts : p.receipts ≡ q.receipts =
      same_list receipt_key p.receipts q.receipts (receipts_arranged p one) (receipts_arranged q two)
      (kept_there p q one two) (kept_there q p two one) in
      λ n. record {
        uuid = uuid n;
        parent = parent n;
        depth = depth n;
        loan = loan n;
        items = items n;
        links = links n;
        receipts = receipts n;
      }
    where
      receipts_arranged : (p : Package) (one : Says f p t) → IsArranged receipt_key p.receipts
      receipts_arranged p one = subst (IsArranged receipt_key) (sym one.kept)
          (distinct_arranged receipt_key one.entered one.distinct_receipts)

      kept_there : (p q : Package) (one : Says f p t) (two : Says f q t) (r : Receipt) → In r p.receipts
          → In r q.receipts
      kept_there p q one two r i = subst (In r) (sym two.kept)
          (to_arranged receipt_key r two.entered (receipt_there p q one two r
          (in_arranged receipt_key one.entered r (subst (In r) one.kept i))))

-- a store reads as at most one package, of one frame
pub reads_alone : ReadsAlone
reads_alone f g p q db one two =
    let frame : f ≡ g = one_frame f g (tables_of db) one.says.good two.says.good one.says.fixed two.says.fixed in
    (frame, one_package g (tables_of db) p q (subst (λ h. Says h p (tables_of db)) frame one.says) two.says)

-- so do its trees, whatever schema they are read by
pub trees_read_alone : TreesReadAlone
trees_read_alone f g p q one two trees sound other reads reads' =
    let same : one ≡ two = sound_alone one two trees sound other in
    reads_alone f g p q (record { schema = two; trees = trees })
    (subst (λ s. Reads f p (record { schema = s; trees = trees })) same reads) reads'
