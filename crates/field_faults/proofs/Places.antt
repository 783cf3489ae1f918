-- Places as keys, and the lines of items one by one.
use Rattle.std.proofs.Common.{
  ◌≡◌,
  ◌∙◌,
  ap,
  sym,
  subst,
  arith,
  get_or,
  refl,
  ℕ,
  List,
  ◌∷◌,
  ◌++◌,
  take,
  drop,
  length,
  append_assoc,
}
use Rattle.std.specs.Prelude.{
  ℤ,
  pos,
  negsuc,
  ◌+◌,
  ◌<◌,
  Bool,
  true,
  false,
  ◌&&◌,
  ◌||◌,
  cond,
  not,
  Option,
  Some,
  [],
  is_none,
  int_le,
  unsigned_abs,
  bytes_eq,
}
use Rattle.std.specs.List.{list_any}
use Rattle.std.specs.Ordering.{nat_cmp}
use Rattle.std.specs.Cmp.Lexicographic.{slice_cmp}
use Rattle.std.specs.BTreeMap.{BTreeMap, get}
use Rattle.std.specs.BTreeSet.{BTreeSet, contains}
use Rattle.std.proofs.lemmas.Bool.{false≢true, and_parts, and_from}
use Rattle.std.proofs.lemmas.Int.{ints}
use Rattle.std.proofs.lemmas.List.{drop_more}
use Rattle.std.proofs.lemmas.Slice.Eq.{bytes_eq-Decides}
use Rattle.sheet_types.specs.Matrix.{first_row}
use Rattle.sheet_types.specs.declared.command.Content.{Content}
use Rattle.sheet_types.specs.declared.command.Content.TheVariants.{Tile}
use Rattle.sheet_types.specs.declared.command.Item.{Item}
use Rattle.sheet_types.specs.declared.frame.Frame.{Frame}
use Rattle.sheet_types.proofs.Basics.{or-false}
use Rattle.field_changes.specs.Keys.{sign}
use Rattle.field_changes.specs.declared.held.HeldItem.{HeldItem}
use Rattle.field_changes.proofs.Contents.{same_number}
use Rattle.field_changes.proofs.Sets.{any_snoc, one_more}
use Rattle.field_faults.specs.Heads.{is_same}
use Rattle.field_faults.specs.Lines.{
  bytes_of,
  has_other,
  HasPlaces,
  HasTiles,
  is_at,
  is_good_at,
  is_other_at,
  is_renumbered,
  item_lines,
  line_for,
  place_key,
  reason_among,
  reason_in,
}
use Rattle.field_faults.specs.Reasons.{reason_of}
use Rattle.field_faults.specs.declared.lines.Lying.{Lying}
use Rattle.field_faults.specs.declared.reasons.Reason.TheVariants.{Renumbered, Taken, Twice}

both_ways : (a b : Bool) → (a ≡ true → b ≡ true) → (b ≡ true → a ≡ true) → a ≡ b
both_ways true b to from = sym (to refl)
both_ways false true to from = from refl
both_ways false false to from = refl

from_same : (z a : ℤ) → is_same z a ≡ true → z ≡ a
from_same z a h =
    let parts = and_parts (int_le z a) (int_le a z) h in
    omega (arith, ints, parts.0, parts.1)

to_same : (z a : ℤ) → z ≡ a → is_same z a ≡ true
to_same z a e = subst (λ v. is_same z v ≡ true) e
    (let so : true ≡ int_le z z = omega (arith, ints) in and_from (int_le z z) (int_le z z) (sym so) (sym so))

-- two places have one key where they are one
pub same_place : (z c r zoom column row : ℤ) → bytes_eq (place_key z c r) (place_key zoom column row)
    ≡ (is_same z zoom && is_same c column && is_same r row)
same_place z c r zoom column row =
    both_ways (bytes_eq (place_key z c r) (place_key zoom column row)) (is_same z zoom && is_same c column
    && is_same r row)
    (λ same.
    let e : place_key z c r ≡ place_key zoom column row =
    (bytes_eq-Decides (place_key z c r) (place_key zoom column row)).0 same in
    let z0 : sign z ≡ sign zoom = cc in
    let z1 : unsigned_abs z ≡ unsigned_abs zoom = cc in
    let c0 : sign c ≡ sign column = cc in
    let c1 : unsigned_abs c ≡ unsigned_abs column = cc in
    let r0 : sign r ≡ sign row = cc in
    let r1 : unsigned_abs r ≡ unsigned_abs row = cc in
    and_from (is_same z zoom && is_same c column) (is_same r row)
    (and_from (is_same z zoom) (is_same c column) (to_same z zoom (same_number z zoom z0 z1))
    (to_same c column (same_number c column c0 c1)))
    (to_same r row (same_number r row r0 r1)))
    (λ all.
    let last = and_parts (is_same z zoom && is_same c column) (is_same r row) all in
    let two = and_parts (is_same z zoom) (is_same c column) last.0 in
    (bytes_eq-Decides (place_key z c r) (place_key zoom column row)).1
    (ap (λ v. place_key v c r) (from_same z zoom two.0) ∙ ap (λ v. place_key zoom v r) (from_same c column two.1)
    ∙ ap (λ v. place_key zoom column v) (from_same r row last.1)))

module _ (f : Frame) (h : HeldItem) where
  -- a tile that could be held is put in
  pub noted : (z c r : ℤ) (bytes : List ℕ) → h.content ≡ Tile z c r bytes
      → (s t : BTreeSet (List ℕ)) (k : List ℕ)
      (fits : Bool) → k ≡ place_key z c r → fits ≡ is_none (reason_of f h.content)
      → ((q : List ℕ) → contains (slice_cmp nat_cmp) t q ≡ (contains (slice_cmp nat_cmp) s q ||
      (bytes_eq k q && fits)))
      → (zoom column row : ℤ) → contains (slice_cmp nat_cmp) t (place_key zoom column row)
      ≡ (contains (slice_cmp nat_cmp) s (place_key zoom column row) || is_good_at f zoom column row h)
  noted z c r bytes is s t k fits key fit step zoom column row =
      let had = contains (slice_cmp nat_cmp) s (place_key zoom column row) in
      step (place_key zoom column row)
      ∙ ap (λ l. had || (bytes_eq l (place_key zoom column row) && fits)) key
      ∙ ap (λ b. had || (b && fits)) (same_place z c r zoom column row ∙ ap (is_at zoom column row) (sym is))
      ∙ ap (λ b. had || (is_at zoom column row h.content && b)) fit

  -- any other is not
  pub no_tile : (c : Content) → h.content ≡ c → ((zoom column row : ℤ) → is_at zoom column row c ≡ false)
      → (b : Bool) (zoom column row : ℤ) → b ≡ (b || is_good_at f zoom column row h)
  no_tile c is other b zoom column row = sym (or-false b) ∙ ap (λ v. b || (v && is_none (reason_of f h.content)))
      (sym (ap (is_at zoom column row) is ∙ other zoom column row))

pub where_fit : (b fits : Bool) → fits ≡ true → b ≡ (b && fits)
where_fit b false e = absurd (false≢true e)
where_fit false true e = refl
where_fit true true e = refl

-- ---- a reason beside those in the item

module _ (f : Frame) (items : List Item) (more exported : Bool) (before : List HeldItem) (h : HeldItem) where
  pub of_tile : (z c r : ℤ) (bytes : List ℕ) → h.content ≡ Tile z c r bytes → (twice taken : Bool)
      → twice ≡ list_any (is_good_at f z c r) before → taken
      ≡ (more && list_any (is_other_at z c r bytes) items)
      → first_row ((twice, Twice) ∷ (taken, Taken) ∷ []) ≡ reason_among f items more exported before h h.content
  of_tile z c r bytes is twice taken one two =
      ap (λ b. first_row ((b, Twice) ∷ (taken, Taken) ∷ [])) one
      ∙ ap (λ b. first_row ((list_any (is_good_at f z c r) before, Twice) ∷ (b, Taken) ∷ [])) two
      ∙ ap (reason_among f items more exported before h) (sym is)

  -- of what is no tile
  pub of_number : (c : Content) → h.content ≡ c → (renumbered : Bool)
      → renumbered ≡ (exported && is_renumbered items h) → reason_among f items more exported before h c
      ≡ first_row ((exported && is_renumbered items h, Renumbered) ∷ [])
      → first_row ((renumbered, Renumbered) ∷ []) ≡ reason_among f items more exported before h h.content
  of_number c is renumbered same among = ap (λ b. first_row ((b, Renumbered) ∷ [])) same ∙ sym among
      ∙ ap (reason_among f items more exported before h) (sym is)

-- one item more
module _ (f : Frame) (items : List HeldItem) (i : ℕ) (h : HeldItem) (within : i < length items)
    (is : h ≡ get_or items i h) where
  pub places_more : (s t : BTreeSet (List ℕ)) → HasPlaces f (take i items) s
      → ((zoom column row : ℤ) → contains (slice_cmp nat_cmp) t (place_key zoom column row)
      ≡ (contains (slice_cmp nat_cmp) s (place_key zoom column row) || is_good_at f zoom column row h))
      → HasPlaces f (take (i + 1) items) t
  places_more s t was step zoom column row =
      step zoom column row ∙ ap (λ b. b || is_good_at f zoom column row h) (was zoom column row)
      ∙ sym (any_snoc (is_good_at f zoom column row) (take i items) h)
      ∙ ap (list_any (is_good_at f zoom column row)) (sym (one_more items i h within is))

  pub lines_more : (held : List Item) (more exported : Bool) (text now line : List ℕ) → now ≡ text ++ line
      → line ≡ line_for h (reason_in f held more exported (take i items) h)
      → text ++ item_lines f held more exported (take i items) (drop i items)
      ≡ now ++ item_lines f held more exported (take (i + 1) items) (drop (i + 1) items)
  lines_more held more exported text now line sent due =
      ap (λ l. text ++ item_lines f held more exported (take i items) l) (drop_more items i h within
      ∙ ap (λ x. x ∷ drop (i + 1) items) (sym is))
      ∙ ap (λ l. text ++ (l ++ item_lines f held more exported (take i items ++ h ∷ []) (drop (i + 1) items)))
      (sym due)
      ∙ ap (λ b. text ++ (line ++ item_lines f held more exported b (drop (i + 1) items)))
      (sym (one_more items i h within is))
      ∙ sym (append_assoc text line (item_lines f held more exported (take (i + 1) items) (drop (i + 1) items)))
      ∙ ap (λ l. l ++ item_lines f held more exported (take (i + 1) items) (drop (i + 1) items)) (sym sent)

-- ---- tiles of a package by their places

-- one more is known at a place
pub known_more : (d : Bool) (one two mine : List ℕ) → ((d || not (bytes_eq one two)) || not (bytes_eq one mine))
    ≡ ((d || not (bytes_eq one mine)) || not (bytes_eq two mine))
known_more true one two mine = refl
known_more false one two mine = elim (bytes_eq one two) as (λ b. bytes_eq one two ≡ b
    → (not b || not (bytes_eq one mine)) ≡ (not (bytes_eq one mine) || not (bytes_eq two mine))) [
      | true ↦ λ e.
          let same : one ≡ two = (bytes_eq-Decides one two).0 e in
          twice (bytes_eq one mine) ∙ ap (λ l. not (bytes_eq one mine) || not (bytes_eq l mine)) same
      | false ↦ λ e. elim (bytes_eq one mine) as (λ b. bytes_eq one mine ≡ b
          → true ≡ (not b || not (bytes_eq two mine))) [
            | true ↦ λ f.
                let same : one ≡ mine = (bytes_eq-Decides one mine).0 f in
                let other : bytes_eq two mine ≡ false = not_same two mine
                (λ g. false≢true (sym e ∙ (bytes_eq-Decides one two).1 (same ∙ sym g))) in
                sym (ap not other)
            | false ↦ λ f. refl
          ] refl
    ] refl
  where
    twice : (b : Bool) → not b ≡ (not b || not b)
    twice true = refl
    twice false = refl

    not_same : (xs ys : List ℕ) → (xs ≡ ys → ⊥) → bytes_eq xs ys ≡ false
    not_same xs ys differ = elim (bytes_eq xs ys) as (λ b. bytes_eq xs ys ≡ b → b ≡ false) [
      | true ↦ λ e. absurd (differ ((bytes_eq-Decides xs ys).0 e))
      | false ↦ λ e. refl
    ] refl

-- a tile more is put in
pub tile_noted : (z c r : ℤ) (bytes : List ℕ) (i : Item) → i.content ≡ Tile z c r bytes
    → (s t : BTreeMap (List ℕ) Lying) (k : List ℕ) (lying : Lying) → k ≡ place_key z c r
    → ((mine : List ℕ) → has_other (Some lying) mine ≡ (has_other (get (slice_cmp nat_cmp) s k) mine || not
    (bytes_eq bytes mine)))
    → ((q : List ℕ) → get (slice_cmp nat_cmp) t q ≡ cond (bytes_eq k q) (Some lying)
    (get (slice_cmp nat_cmp) s q))
    → (zoom column row : ℤ) (mine : List ℕ)
    → has_other (get (slice_cmp nat_cmp) t (place_key zoom column row)) mine
    ≡ (has_other (get (slice_cmp nat_cmp) s (place_key zoom column row)) mine || is_other_at zoom column row mine i)
tile_noted z c r bytes i is s t k lying key with step zoom column row mine =
    let q = place_key zoom column row in
    let at : bytes_eq k q ≡ is_at zoom column row (Tile z c r bytes) =
    ap (λ l. bytes_eq l q) key ∙ same_place z c r zoom column row in
    ap (λ o. has_other o mine) (step q)
    ∙ elim (bytes_eq k q) as (λ b. bytes_eq k q ≡ b → has_other
    (cond b (Some lying) (get (slice_cmp nat_cmp) s q)) mine
    ≡ (has_other (get (slice_cmp nat_cmp) s q) mine || (is_at zoom column row (Tile z c r bytes) && not
    (bytes_eq bytes mine)))) [
      | true ↦ λ e.
          let same : k ≡ q = (bytes_eq-Decides k q).0 e in
          with mine ∙ ap (λ l. has_other (get (slice_cmp nat_cmp) s l) mine || not (bytes_eq bytes mine)) same
          ∙ ap (λ b. has_other (get (slice_cmp nat_cmp) s q) mine || (b && not (bytes_eq bytes mine))) (sym e ∙ at)
      | false ↦ λ e.
          sym (or-false (has_other (get (slice_cmp nat_cmp) s q) mine))
          ∙ ap (λ b. has_other (get (slice_cmp nat_cmp) s q) mine || (b && not (bytes_eq bytes mine))) (sym e ∙ at)
    ] refl
    ∙ ap (λ x. has_other (get (slice_cmp nat_cmp) s q) mine ||
    (is_at zoom column row x && not (bytes_eq (bytes_of x) mine))) (sym is)

-- any other is not
pub no_tile_noted : (i : Item) (x : Content) → i.content ≡ x
    → ((zoom column row : ℤ) → is_at zoom column row x ≡ false)
    → (b : Bool) (zoom column row : ℤ) (mine : List ℕ) → b ≡ (b || is_other_at zoom column row mine i)
no_tile_noted i x is other b zoom column row mine = sym (or-false b)
    ∙ ap (λ v. b || (v && not (bytes_eq (bytes_of i.content) mine)))
    (sym (ap (is_at zoom column row) is ∙ other zoom column row))

-- the tiles so far, and one more
pub tiles_more : (items : List Item) (n : ℕ) (i : Item) → n < length items → i ≡ get_or items n i
    → (s t : BTreeMap (List ℕ) Lying) → HasTiles (take n items) s
    → ((zoom column row : ℤ) (mine : List ℕ) → has_other (get (slice_cmp nat_cmp) t
    (place_key zoom column row)) mine
    ≡ (has_other (get (slice_cmp nat_cmp) s (place_key zoom column row)) mine || is_other_at zoom column row mine i))
    → HasTiles (take (n + 1) items) t
tiles_more items n i within is s t was step zoom column row mine =
    step zoom column row mine ∙ ap (λ b. b || is_other_at zoom column row mine i) (was zoom column row mine)
    ∙ sym (any_snoc (is_other_at zoom column row mine) (take n items) i)
    ∙ ap (list_any (is_other_at zoom column row mine)) (sym (one_more items n i within is))
