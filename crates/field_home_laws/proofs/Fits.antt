-- Where no record of a file is told, a package can take it.
use Rattle.std.specs.Prelude.{
  ◌≡◌,
  ◌≤◌,
  ◌+◌,
  ◌-◌,
  ◌==◌,
  ℕ,
  ℤ,
  pos,
  negsuc,
  ◌+ℤ◌,
  Bool,
  true,
  false,
  cond,
  not,
  ◌&&◌,
  ◌||◌,
  int_le,
  int_lt,
  List,
  [],
  ◌∷◌,
  ◌++◌,
  map,
  filter,
  flat_map,
  codes,
  Option,
  Some,
  None,
  is_none,
  IsTrue,
  bytes_eq,
  count_by,
  unsigned_abs,
  IsPermutation,
  refl,
}
use Rattle.std.proofs.Common.{sym, ap, subst, ◌∙◌, inl, inr, arith, append_assoc}
use Rattle.std.specs.List.{list_any, list_all, AllByRecursion, IsDistinct}
use Rattle.std.specs.Fmt.{signed_decimal}
use Rattle.std.proofs.lemmas.Bool.{true≢false, false≢true, or_parts, and_parts, and_from}
use Rattle.std.proofs.lemmas.Int.{ints}
use Rattle.std.proofs.lemmas.List.{append-nil}
use Rattle.std.proofs.lemmas.List.Folds.{list_any-append}
use Rattle.std.proofs.lemmas.Slice.Eq.{bytes_eq-Decides}
use Rattle.sheet_types.specs.Cut.{identities}
use Rattle.sheet_types.specs.Matrix.{
  first_row,
  is_within,
  has_level,
  has_place,
  in_frame,
  width_at,
  height_at,
  level_of,
}
use Rattle.sheet_types.specs.Ordered.{has, is_among}
use Rattle.sheet_types.specs.Refuse.{bad_text, has_good_size, is_length_within, is_printable, place_of, takes_place}
use Rattle.sheet_types.specs.Refuse as refuse
use Rattle.sheet_types.specs.Register.{IsRegister, IsKeptPackage}
use Rattle.sheet_types.specs.Texts.{kind_of, kind_word}
use Rattle.sheet_types.specs.World.{World, Package, is_live, holdings, kind_is}
use Rattle.sheet_types.specs.declared.command.Content.{Content}
use Rattle.sheet_types.specs.declared.command.Content.TheVariants.{Tile, Media, Row}
use Rattle.sheet_types.specs.declared.command.Item.{Item}
use Rattle.sheet_types.specs.declared.command.Request.{Request}
use Rattle.sheet_types.specs.declared.frame.Frame.{Frame}
use Rattle.sheet_types.specs.declared.receipt.MovedKind.TheVariants.{TileItem}
use Rattle.sheet_types.proofs.Basics.{None≢Some, bytes_eq_itself, bytes_eq_swap, not_false}
use Rattle.sheet_types.proofs.Distinct.{distinct_counts}
use Rattle.sheet_types.proofs.Every.{All-append, All-snoc, All-weaker, none_pass, none_any}
use Rattle.sheet_types.proofs.Same.{In, In-all, All-In, In-of_map, any_in, any_at}
use Rattle.sheet_types.proofs.Sums.{count-cons, any_some, any_none}
use Rattle.sheet_laws.proofs.Packages.{at_all}
use Rattle.matrix_rules.proofs.Frames.{GoodFrame, good_frame}
use Rattle.field_changes.specs.Keys.{same_content, content_key}
use Rattle.field_changes.specs.Naming.{copies, names_of}
use Rattle.field_changes.specs.Parts.{new_items, new_item}
use Rattle.field_changes.specs.declared.held.Held.{Held}
use Rattle.field_changes.specs.declared.held.HeldItem.{HeldItem}
use Rattle.field_changes.specs.declared.naming.Named.{Named}
use Rattle.field_faults.specs.Heads.{is_same}
use Rattle.field_faults.specs.Lines.{
  bad_line,
  bytes_of,
  fault_lines,
  is_at,
  is_good_at,
  is_other_at,
  item_lines,
  line_for,
  reason_among,
  reason_in,
  reason_or,
  reason_word,
  record_line,
  was_exported,
}
use Rattle.field_faults.specs.Reasons.{reason_of}
use Rattle.field_faults.specs.declared.reasons.Reason.{Reason}
use Rattle.field_faults.specs.declared.reasons.Reason.TheVariants.{
  BadData,
  BadPlace,
  BadText,
  BadCode,
  BadPoint,
  Twice,
  Taken,
}
use Rattle.field_run_laws.specs.Lists.{has_twice}
use Rattle.field_run_laws.proofs.Keys.{are_distinct}
use Rattle.field_run_laws.proofs.Lists.{of_filter}
use Rattle.field_laws.specs.Changing.{in_items, in_file}
use Rattle.field_laws.specs.Checks.{CanTake, has_fit_place, is_fit, tile_places}
use Rattle.field_changes.proofs.Contents.{same_key}
use Rattle.field_laws.proofs.Least.{new_differ}
use Rattle.field_laws.proofs.Makes.{all_moved}
use Rattle.field_home_laws.specs.Laws.{ChangesOf, IsFree, FitFileIsTaken}

-- ---- no line

nil_parts : (xs ys : List ℕ) → xs ++ ys ≡ [] → (xs ≡ []) × (ys ≡ [])
nil_parts [] ys e = (refl, e)
nil_parts (x ∷ xs) ys e = absurd (cc)

line_feed : codes "\n" ≡ [] → ⊥
line_feed e = cc

-- a record that is told has a line
a_line : (h : HeldItem) (o : Option Reason) → line_for h o ≡ [] → o ≡ None
a_line h None e = refl
a_line h (Some reason) e =
    absurd (line_feed
    (nil_parts (kind_word (kind_of h.content) ++ codes " " ++ signed_decimal h.number ++ codes " "
    ++ reason_word reason) (codes "\n") e).1)

row_passed : {X : Type 0} (b : Bool) (x : X) (o : Option X) → cond b (Some x) o ≡ None → (b ≡ false)
    × (o ≡ None)
row_passed true x o e = absurd (None≢Some (sym e))
row_passed false x o e = (refl, e)

-- what lies in the item alone is no reason, and what lies beside it is none
both_none : (o other : Option Reason) → reason_or o other ≡ None → (o ≡ None) × (other ≡ None)
both_none None other e = (refl, e)
both_none (Some r) other e = absurd (None≢Some (sym e))

false_by : (b : Bool) → (b ≡ true → ⊥) → b ≡ false
false_by true f = absurd (f refl)
false_by false f = refl

-- ---- one item

abbrev IsHeldBy : Frame → HeldItem → Type 0
IsHeldBy f h = reason_of f h.content ≡ None

fits : (f : Frame) (c : Content) → reason_of f c ≡ None → is_fit f c ≡ true
fits f (Tile zoom column row bytes) e =
    let sized = row_passed (not (is_length_within 1 1048576 bytes)) BadData
    (first_row ((not (has_place f zoom column row), BadPlace) ∷ [])) e in
    let place = row_passed (not (has_place f zoom column row)) BadPlace None sized.1 in
    and_from (is_length_within 1 1048576 bytes) (has_place f zoom column row)
    (not_false (is_length_within 1 1048576 bytes) sized.0) (not_false (has_place f zoom column row) place.0)
fits f (Media content_type bytes) e =
    let text = row_passed (not (list_all is_printable content_type && is_length_within 1 100 content_type)) BadText
    (first_row ((not (is_length_within 1 1048576 bytes), BadData) ∷ [])) e in
    let sized = row_passed (not (is_length_within 1 1048576 bytes)) BadData None text.1 in
    media (list_all is_printable content_type) (is_length_within 1 100 content_type)
    (is_length_within 1 1048576 bytes)
    (not_false (list_all is_printable content_type && is_length_within 1 100 content_type) text.0)
    (not_false (is_length_within 1 1048576 bytes) sized.0)
  where
    media : (a b d : Bool) → (a && b) ≡ true → d ≡ true → ((not (not a) && (d && b)) && true) ≡ true
    media true true true s t = refl
    media true true false s t = absurd (false≢true t)
    media true false d s t = absurd (false≢true s)
    media false b d s t = absurd (false≢true s)
fits f (Row x y code label) e =
    let text = row_passed (list_any (λ c. c == 10) label || not (is_length_within 0 200 label)) BadText
    (first_row ((not (is_within (pos 0) (pos 999999) code), BadCode) ∷ (not (in_frame f x y), BadPoint) ∷ []))
    e in
    let number = row_passed (not (is_within (pos 0) (pos 999999) code)) BadCode
    (first_row ((not (in_frame f x y), BadPoint) ∷ [])) text.1 in
    let point = row_passed (not (in_frame f x y)) BadPoint None number.1 in
    let both = or_parts (list_any (λ c. c == 10) label) (not (is_length_within 0 200 label)) text.0 in
    marks (list_any (λ c. c == 10) label) (is_length_within 0 200 label) (is_within (pos 0) (pos 999999) code)
    (in_frame f x y) both.0 (not_false (is_length_within 0 200 label) both.1)
    (not_false (is_within (pos 0) (pos 999999) code) number.0) (not_false (in_frame f x y) point.0)
  where
    marks : (a b d p : Bool) → a ≡ false → b ≡ true → d ≡ true → p ≡ true
        → ((not a && (b && d)) && p) ≡ true
    marks false true true true h1 h2 h3 h4 = refl
    marks true b d p h1 h2 h3 h4 = absurd (true≢false h1)
    marks false false d p h1 h2 h3 h4 = absurd (false≢true h2)
    marks false true false p h1 h2 h3 h4 = absurd (false≢true h3)
    marks false true true false h1 h2 h3 h4 = absurd (false≢true h4)

-- ---- all items

module _ (f : Frame) (items : List Item) (more exported : Bool) where
  -- none of them has a reason, behind those before
  abbrev NoneTold : List HeldItem → List HeldItem → Type 0
  NoneTold before [] = Unit {0}
  NoneTold before (h ∷ hs) = (IsHeldBy f h × (reason_among f items more exported before h h.content ≡ None))
      × NoneTold (before ++ h ∷ []) hs

  none_told : (before hs : List HeldItem) → item_lines f items more exported before hs ≡ [] → NoneTold before hs
  none_told before [] e = tt
  none_told before (h ∷ hs) e =
      let parts = nil_parts (line_for h (reason_in f items more exported before h))
      (item_lines f items more exported (before ++ h ∷ []) hs) e in (
        both_none (reason_of f h.content) (reason_among f items more exported before h h.content)
            (a_line h (reason_in f items more exported before h) parts.0),
        none_told (before ++ h ∷ []) hs parts.1,
      )

  each_held : (before hs : List HeldItem) → NoneTold before hs → AllByRecursion (IsHeldBy f) hs
  each_held before [] told = tt
  each_held before (h ∷ hs) told = (told.0.0, each_held (before ++ h ∷ []) hs told.1)

  all_fit : (hs : List HeldItem) → AllByRecursion (IsHeldBy f) hs → list_all (λ h. is_fit f h.content) hs ≡ true
  all_fit [] held = refl
  all_fit (h ∷ hs) held = and_from (is_fit f h.content) (list_all (λ g. is_fit f g.content) hs)
      (fits f h.content held.0) (all_fit hs held.1)

  -- with `more` none is at a place where the package has other bytes
  abbrev IsUntaken : HeldItem → Type 0
  IsUntaken h = (zoom column row : ℤ) (bytes : List ℕ) → h.content ≡ Tile zoom column row bytes
      → more ≡ true
      → list_any (is_other_at zoom column row bytes) items ≡ false

  untaken : (before : List HeldItem) (h : HeldItem) (c : Content) → c ≡ h.content
      → reason_among f items more exported before h c ≡ None → IsUntaken h
  untaken before h (Tile z c r b) is e zoom column row bytes named asks =
      let one = row_passed (list_any (is_good_at f z c r) before) Twice
      (first_row ((more && list_any (is_other_at z c r b) items, Taken) ∷ [])) e in
      let two = row_passed (more && list_any (is_other_at z c r b) items) Taken None one.1 in
      let same : Tile z c r b ≡ Tile zoom column row bytes = is ∙ named in
      let free : list_any (is_other_at z c r b) items ≡ false =
      ap (λ v. v && list_any (is_other_at z c r b) items) (sym asks) ∙ two.0 in
      moved_tile same free
    where
      moved_tile : Tile z c r b ≡ Tile zoom column row bytes → list_any (is_other_at z c r b) items ≡ false
          → list_any (is_other_at zoom column row bytes) items ≡ false
      moved_tile same free =
          let ez : z ≡ zoom = cc in
          let ec : c ≡ column = cc in
          let er : r ≡ row = cc in
          let eb : b ≡ bytes = cc in
          ap (λ v. list_any (is_other_at v column row bytes) items) (sym ez)
          ∙ ap (λ v. list_any (is_other_at z v row bytes) items) (sym ec)
          ∙ ap (λ v. list_any (is_other_at z c v bytes) items) (sym er)
          ∙ ap (λ v. list_any (is_other_at z c r v) items) (sym eb) ∙ free
  untaken before h (Media t b) is e zoom column row bytes named asks =
      let wrong : Media t b ≡ Tile zoom column row bytes = is ∙ named in absurd (cc)
  untaken before h (Row x y k l) is e zoom column row bytes named asks =
      let wrong : Row x y k l ≡ Tile zoom column row bytes = is ∙ named in absurd (cc)

  each_untaken : (before hs : List HeldItem) → NoneTold before hs → AllByRecursion IsUntaken hs
  each_untaken before [] told = tt
  each_untaken before (h ∷ hs) told =
      (untaken before h h.content refl told.0.1, each_untaken (before ++ h ∷ []) hs told.1)

-- ---- places

same_int : (a z : ℤ) → is_same z a ≡ true → z ≡ a
same_int a z h =
    let parts = and_parts (int_le z a) (int_le a z) h in
    omega (arith, ints, parts.0, parts.1)

itself : (a z : ℤ) → z ≡ a → is_same z a ≡ true
itself a z e = subst (λ v. is_same v a ≡ true) (sym e) (one a)
  where
    one : (b : ℤ) → is_same b b ≡ true
    one b = let so : true ≡ int_le b b = omega (arith, ints) in and_from (int_le b b) (int_le b b) (sym so) (sym so)

-- numbers that are not below 0 are told by how far they are from it
same_abs : (a b : ℤ) → int_le (pos 0) a ≡ true → int_le (pos 0) b ≡ true
    → unsigned_abs a ≡ unsigned_abs b → a ≡ b
same_abs (pos m) (pos n) low low' e = ap pos e
same_abs (pos m) (negsuc n) low low' e = absurd (false≢true low')
same_abs (negsuc m) b low low' e = absurd (false≢true low)

abbrev place_at : ℤ → ℤ → ℤ → List ℕ
place_at zoom column row = unsigned_abs zoom ∷ unsigned_abs column ∷ unsigned_abs row ∷ []

abbrev is_tile_of : HeldItem → Bool
is_tile_of h = kind_is TileItem (kind_of h.content)

abbrev lies_at : List ℕ → HeldItem → Bool
lies_at k h = bytes_eq (place_of h.content) k

module _ (f : Frame) (good : GoodFrame f) where
  record IsPlaced (zoom column row : ℤ) : Type 0 where
    pub zoom_low : int_le (pos 0) zoom ≡ true
    pub column_low : int_le (pos 0) column ≡ true
    pub row_low : int_le (pos 0) row ≡ true

  placed : (zoom column row : ℤ) → has_place f zoom column row ≡ true → IsPlaced zoom column row
  placed zoom column row h =
      let rows = and_parts
      (has_level f zoom && int_le (pos 0) column && int_lt column (width_at f (level_of f zoom)) && int_le (pos 0) row)
      (int_lt row (height_at f (level_of f zoom))) h in
      let row_is =
      and_parts (has_level f zoom && int_le (pos 0) column && int_lt column (width_at f (level_of f zoom)))
      (int_le (pos 0) row) rows.0 in
      let columns = and_parts (has_level f zoom && int_le (pos 0) column)
      (int_lt column (width_at f (level_of f zoom))) row_is.0 in
      let column_is = and_parts (has_level f zoom) (int_le (pos 0) column) columns.0 in
      let level = and_parts (int_le f.first_zoom zoom) (int_lt zoom (f.first_zoom +ℤ f.levels)) column_is.0 in
      let so : true ≡ int_le (pos 0) zoom = omega (arith, ints, good.first_zoom, level.0) in
      record { zoom_low = sym so; column_low = column_is.1; row_low = row_is.1 }

  tile_placed : (zoom column row : ℤ) (bytes : List ℕ) → reason_of f (Tile zoom column row bytes) ≡ None
      → IsPlaced zoom column row
  tile_placed zoom column row bytes e =
      let sized = row_passed (not (is_length_within 1 1048576 bytes)) BadData
      (first_row ((not (has_place f zoom column row), BadPlace) ∷ [])) e in
      let place = row_passed (not (has_place f zoom column row)) BadPlace None sized.1 in
      placed zoom column row (not_false (has_place f zoom column row) place.0)

  -- a tile that can be held, at the place of another
  meets : (zoom column row : ℤ) (h : HeldItem) (c : Content) → c ≡ h.content → IsPlaced zoom column row
      → reason_of f c ≡ None → kind_is TileItem (kind_of c) ≡ true
      → bytes_eq (place_of c) (unsigned_abs zoom ∷ unsigned_abs column ∷ unsigned_abs row ∷ []) ≡ true
      → is_good_at f zoom column row h ≡ true
  meets zoom column row h (Tile z c r b) is at held tile same =
      let there = tile_placed z c r b held in
      let e : unsigned_abs z ∷ unsigned_abs c ∷ unsigned_abs r ∷ [] ≡ unsigned_abs zoom ∷ unsigned_abs column
      ∷ unsigned_abs row ∷ [] =
      (bytes_eq-Decides (unsigned_abs z ∷ unsigned_abs c ∷ unsigned_abs r ∷ [])
      (unsigned_abs zoom ∷ unsigned_abs column ∷ unsigned_abs row ∷ [])).0 same in
      let ez : unsigned_abs z ≡ unsigned_abs zoom = cc in
      let ec : unsigned_abs c ≡ unsigned_abs column = cc in
      let er : unsigned_abs r ≡ unsigned_abs row = cc in
      let place : is_at zoom column row (Tile z c r b) ≡ true =
      and_from (is_same z zoom && is_same c column) (is_same r row)
      (and_from (is_same z zoom) (is_same c column) (itself zoom z (same_abs z zoom there.zoom_low at.zoom_low ez))
      (itself column c (same_abs c column there.column_low at.column_low ec)))
      (itself row r (same_abs r row there.row_low at.row_low er)) in
      subst (λ d. (is_at zoom column row d && is_none (reason_of f d)) ≡ true) is
      (and_from (is_at zoom column row (Tile z c r b)) (is_none (reason_of f (Tile z c r b))) place (ap is_none held))
  meets zoom column row h (Media t b) is at held tile same = absurd (false≢true tile)
  meets zoom column row h (Row x y k l) is at held tile same = absurd (false≢true tile)

  -- ---- no place twice

  twice_snoc : (ks : List (List ℕ)) (k : List ℕ) → has_twice ks ≡ false → is_among ks k ≡ false
      → has_twice (ks ++ k ∷ []) ≡ false
  twice_snoc [] k once out = refl
  twice_snoc (x ∷ ks) k once out =
      let first = or_parts (is_among ks x) (has_twice ks) once in
      let other = or_parts (bytes_eq x k) (is_among ks k) out in
      ap (λ b. b || has_twice (ks ++ k ∷ [])) (list_any-append (λ z. bytes_eq z x) ks (k ∷ [])
      ∙ ap (λ b. b || (bytes_eq k x || false)) first.0 ∙ ap (λ b. b || false) (bytes_eq_swap k x ∙ other.0))
      ∙ twice_snoc ks k first.1 other.1

  places_both : (xs ys : List HeldItem) → tile_places (xs ++ ys) ≡ tile_places xs ++ tile_places ys
  places_both [] ys = refl
  places_both (x ∷ xs) ys =
      elim (is_tile_of x) as
      (λ v. map (λ h. place_of h.content)
      (cond v (x ∷ filter is_tile_of (xs ++ ys)) (filter is_tile_of (xs ++ ys))) ≡ map (λ h. place_of h.content)
      (cond v (x ∷ filter is_tile_of xs) (filter is_tile_of xs)) ++ tile_places ys) [
        | true ↦ ap (λ l. place_of x.content ∷ l) (places_both xs ys)
        | false ↦ places_both xs ys
      ]

  -- where a content alone has its place
  abbrev place_list : Content → List (List ℕ)
  place_list (Tile z c r b) = (unsigned_abs z ∷ unsigned_abs c ∷ unsigned_abs r ∷ []) ∷ []
  place_list (Media t b) = []
  place_list (Row x y k l) = []

  one_place : (n : ℤ) (o : Option (List ℕ)) (c : Content)
      → tile_places (record { number = n; identity = o; content = c } ∷ []) ≡ place_list c
  one_place n o (Tile z c r b) = refl
  one_place n o (Media t b) = refl
  one_place n o (Row x y k l) = refl

  -- no tile before stands at a place where no good one does
  place_out : (zoom column row : ℤ) → IsPlaced zoom column row → (before : List HeldItem)
      → AllByRecursion (IsHeldBy f) before → list_any (is_good_at f zoom column row) before ≡ false
      → is_among (tile_places before) (place_at zoom column row) ≡ false
  place_out zoom column row at before held none =
      false_by (is_among (tile_places before) (place_at zoom column row)) (λ e.
      let k = any_at (λ x. bytes_eq x (place_at zoom column row)) (tile_places before) e in
      let g = In-of_map (λ h. place_of h.content) k.0 (filter is_tile_of before) k.1 in
      let there = of_filter is_tile_of g.0 before g.1 in
      let same : bytes_eq (place_of g.0.content) (place_at zoom column row) ≡ true =
      ap (λ l. bytes_eq l (place_at zoom column row)) g.2 ∙ k.2 in
      let meet = meets zoom column row g.0 g.0.content refl at (All-In (IsHeldBy f) g.0 before held there.0) there.1
      same in
      true≢false (sym (any_in (is_good_at f zoom column row) g.0 before there.0 meet) ∙ none))

  module _ (items : List Item) (more exported : Bool) where
    next : (before : List HeldItem) (h : HeldItem) (c : Content) → c ≡ h.content → has_twice (tile_places before)
        ≡ false → AllByRecursion (IsHeldBy f) before → reason_of f c ≡ None
        → reason_among f items more exported before h c ≡ None
        → has_twice (tile_places before ++ place_list c) ≡ false
    next before h (Tile z c r b) is once held good_one told =
        let first = row_passed (list_any (is_good_at f z c r) before) Twice
        (first_row ((more && list_any (is_other_at z c r b) items, Taken) ∷ [])) told in
        twice_snoc (tile_places before) (unsigned_abs z ∷ unsigned_abs c ∷ unsigned_abs r ∷ []) once
        (place_out z c r (tile_placed z c r b good_one) before held first.0)
    next before h (Media t b) is once held good_one told = ap has_twice (append-nil (tile_places before)) ∙ once
    next before h (Row x y k l) is once held good_one told = ap has_twice (append-nil (tile_places before)) ∙ once

    apart : (before hs : List HeldItem) → has_twice (tile_places before) ≡ false
        → AllByRecursion (IsHeldBy f) before → NoneTold f items more exported before hs
        → has_twice (tile_places (before ++ hs)) ≡ false
    apart before [] once held told = ap (λ l. has_twice (tile_places l)) (append-nil before) ∙ once
    apart before (h ∷ hs) once held told =
        let one : has_twice (tile_places (before ++ h ∷ [])) ≡ false =
        ap has_twice (places_both before (h ∷ []) ∙ ap (λ l. tile_places before ++ l)
        (one_place h.number h.identity h.content)) ∙ next before h h.content refl once held told.0.0 told.0.1 in
        ap (λ l. has_twice (tile_places l)) (sym (append_assoc before (h ∷ []) hs))
        ∙ apart (before ++ h ∷ []) hs one (All-snoc (IsHeldBy f) before h held told.0.0) told.1

-- ---- with `more` no new tile has the place of a tile of the package

of_new : (P : Content → Type 0) (ns : List Named) (hs : List HeldItem) → AllByRecursion (λ h. P h.content) hs
    → AllByRecursion (λ (a : Item). P a.content) (new_items ns hs)
of_new P [] hs all = tt
of_new P (n ∷ ns) [] all = tt
of_new P (n ∷ ns) (h ∷ hs) all =
    All-append (λ (a : Item). P a.content) (new_item n h) (new_items ns hs)
    (elim n.is_new as
    (λ v. AllByRecursion {X = Item} (λ a. P a.content)
    (cond v (record { identity = n.identity; content = h.content } ∷ []) [])) [ true ↦ (all.0, tt) | false ↦ tt ])
    (of_new P ns hs all.1)

-- of a content no more are in a file than there are tiles of its place
fewer : (k : List ℕ) (p : HeldItem → Bool)
    → ((h : HeldItem) → p h ≡ true → (kind_is TileItem (kind_of h.content) ≡ true)
    × (bytes_eq (place_of h.content) k ≡ true))
    → (hs : List HeldItem) → count_by p hs ≤ count_by (lies_at k) (filter is_tile_of hs)
fewer k p to [] = omega arith
fewer k p to (h ∷ hs) =
    elim (p h) as (λ v. p h ≡ v → count_by p (h ∷ hs) ≤ count_by (lies_at k)
    (cond (is_tile_of h) (h ∷ filter is_tile_of hs) (filter is_tile_of hs))) [
      | true ↦ λ e.
          let it = to h e in
          subst (λ b. count_by p (h ∷ hs) ≤ count_by (lies_at k)
          (cond b (h ∷ filter is_tile_of hs) (filter is_tile_of hs))) (sym it.0)
          (omega (
            arith,
            fewer k p to hs,
            count-cons p h hs true e,
            count-cons (lies_at k) h (filter is_tile_of hs) true it.1,
          ))
      | false ↦ λ e.
          elim (is_tile_of h) as
          (λ u. count_by p (h ∷ hs) ≤ count_by (lies_at k) (cond u (h ∷ filter is_tile_of hs)
          (filter is_tile_of hs))) [
            | true ↦ elim (lies_at k h) as
                (λ b. lies_at k h ≡ b → count_by p (h ∷ hs) ≤ count_by (lies_at k)
                (h ∷ filter is_tile_of hs)) [
                  | true ↦ λ m. omega (
                    arith,
                    fewer k p to hs,
                    count-cons p h hs false e,
                    count-cons (lies_at k) h (filter is_tile_of hs) true m,
                  )
                  | false ↦ λ m. omega (
                    arith,
                    fewer k p to hs,
                    count-cons p h hs false e,
                    count-cons (lies_at k) h (filter is_tile_of hs) false m,
                  )
                ] refl
            | false ↦ omega (arith, fewer k p to hs, count-cons p h hs false e)
          ]
    ] refl

-- a tile of the package at this place, whose bytes are no others
same_tile : (zoom column row : ℤ) (bytes : List ℕ) (c : Content) → refuse.is_at zoom column row c ≡ true
    → (is_at zoom column row c && not (bytes_eq (bytes_of c) bytes)) ≡ false → c ≡ Tile zoom column row bytes
same_tile zoom column row bytes (Tile z c r b) at none =
    let last = and_parts (is_within zoom zoom z && is_within column column c) (is_within row row r) at in
    let two = and_parts (is_within zoom zoom z) (is_within column column c) last.0 in
    let ez : z ≡ zoom = sym (same_int z zoom two.0) in
    let ec : c ≡ column = sym (same_int c column two.1) in
    let er : r ≡ row = sym (same_int r row last.1) in
    let place : is_at zoom column row (Tile z c r b) ≡ true =
    and_from (is_same z zoom && is_same c column) (is_same r row)
    (and_from (is_same z zoom) (is_same c column) (itself zoom z ez) (itself column c ec)) (itself row r er) in
    let eb : b ≡ bytes = (bytes_eq-Decides b bytes).0
    (not_false (bytes_eq b bytes) (ap (λ v. v && not (bytes_eq b bytes)) (sym place) ∙ none)) in
    ap (λ v. Tile v c r b) ez ∙ ap (λ v. Tile zoom v r b) ec ∙ ap (λ v. Tile zoom column v b) er
    ∙ ap (λ v. Tile zoom column row v) eb
same_tile zoom column row bytes (Media t b) at none = absurd (false≢true at)
same_tile zoom column row bytes (Row x y k l) at none = absurd (false≢true at)

-- a content is untaken
abbrev IsOwn : Bool → List Item → Content → Type 0
IsOwn more items c = (zoom column row : ℤ) (bytes : List ℕ) → c ≡ Tile zoom column row bytes → more ≡ true
    → list_any (is_other_at zoom column row bytes) items ≡ false

module _ (p : List ℕ) (ticket : ℕ) (more : Bool) (x : Package) (file : List HeldItem)
    (distinct : IsDistinct bytes_eq (identities x.items)) (once : has_twice (tile_places file) ≡ false) where
  abbrev ns : List Named
  ns = names_of p ticket x.items file

  -- at most one of the file has the content of a tile
  one_of : (zoom column row : ℤ) (bytes : List ℕ) → in_file (Tile zoom column row bytes) file ≤ 1
  one_of zoom column row bytes =
      let d : Content = Tile zoom column row bytes in
      omega (
        arith,
        fewer (place_of d) (λ h. same_content d h.content) (λ h same.
            let is : d ≡ h.content =
            same_key d h.content ((bytes_eq-Decides (content_key d) (content_key h.content)).0 same) in (
              ap (λ v. kind_is TileItem (kind_of v)) (sym is),
              ap (λ v. bytes_eq (place_of v) (place_of d)) (sym is)
                  ∙ bytes_eq_itself (place_of d),
            )) file,
        distinct_counts (λ (h : HeldItem). place_of h.content) (place_of d) (filter is_tile_of file)
            (are_distinct (tile_places file) once),
      )

  free : more ≡ true → (a : Item) → In a (new_items ns file) → IsOwn more x.items a.content → (c : Content)
      → c ≡ a.content → takes_place x c ≡ false
  free asks a new own (Tile zoom column row bytes) is =
      false_by (list_any (λ i. refuse.is_at zoom column row i.content) x.items) (λ e.
      let i = any_at (λ j. refuse.is_at zoom column row j.content) x.items e in
      let d : Content = Tile zoom column row bytes in
      let none : is_other_at zoom column row bytes i.0 ≡ false =
      All-In (λ j. is_other_at zoom column row bytes j ≡ false) i.0 x.items
      (none_pass (is_other_at zoom column row bytes) x.items (own zoom column row bytes (sym is) asks)) i.1 in
      let same : i.0.content ≡ d = same_tile zoom column row bytes i.0.content i.2 none in
      let here : same_content d i.0.content ≡ true = ap (λ v. same_content d v) same
      ∙ bytes_eq_itself (content_key d) in
      let there : same_content d a.content ≡ true = ap (λ v. same_content d v) (sym is)
      ∙ bytes_eq_itself (content_key d) in
      omega (
        arith,
        any_some (λ j. same_content d j.content) x.items (any_in (λ j. same_content d j.content) i.0 x.items i.1
            here),
        any_some (λ j. same_content d j.content) (new_items ns file)
            (any_in (λ j. same_content d j.content) a (new_items ns file) new there),
        one_of zoom column row bytes,
        new_differ x.items file distinct d p ticket,
      ))
  free asks a new own (Media t b) is = refl
  free asks a new own (Row y z k l) is = refl

  all_free : (adds : List Item) → IsPermutation (new_items ns file) adds
      → AllByRecursion (λ h. IsOwn more x.items h.content) file → (v : Bool) → more ≡ v
      → (v && list_any (λ i. takes_place x i.content) adds) ≡ false
  all_free adds moves own false asks = refl
  all_free adds moves own true asks =
      let of : AllByRecursion (λ (a : Item). IsOwn more x.items a.content) (new_items ns file) =
      of_new (IsOwn more x.items) ns file own in
      none_any (λ i. takes_place x i.content) adds
      (all_moved (λ i. takes_place x i.content ≡ false) (new_items ns file) adds moves
      (All-weaker (λ a. In a (new_items ns file)) (λ a. takes_place x a.content ≡ false)
      (λ a new. free asks a new (All-In (λ b. IsOwn more x.items b.content) a (new_items ns file) of new)
      a.content refl) (new_items ns file) (In-all (new_items ns file))))

-- ---- both

pub fit_file_is_taken : FitFileIsTaken
fit_file_is_taken w p ticket moment more h requests register live timed none changes free_now =
    let x : Package = holdings w p in
    let file = h.items.items in
    let exported = was_exported h.export in
    let lines = nil_parts (flat_map bad_line h.bad.items) (item_lines w.frame x.items more exported [] file) none in
    let told = none_told w.frame x.items more exported [] file lines.1 in
    let good : GoodFrame w.frame = good_frame w.frame register.frame in
    let kept : IsKeptPackage w x = (at_all w (IsKeptPackage w) p register.packages live).0 in
    let once : has_twice (tile_places file) ≡ false = apart w.frame good x.items more exported [] file refl tt told in
    record {
      moment_fits = timed;
      contents_fit = all_fit w.frame x.items more exported file (each_held w.frame x.items more exported [] file told);
      places_apart = once;
      places_free = all_free p ticket more x file kept.identities once changes.parts.adds.items
          changes.for_file.adds (each_untaken w.frame x.items more exported [] file told) more refl;
      unused = free_now.unused;
      identities_apart = free_now.identities_apart;
      requests_new = free_now.requests_new;
      within_limits = free_now.within_limits;
      ledger_within = free_now.ledger_within;
      package_within = free_now.package_within;
    }
