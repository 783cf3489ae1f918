-- An item that is taken out, with the rows of its number.
use Rattle.std.proofs.Common.{◌≡◌, ℕ, ℤ, pos, negsuc, List, [], ◌∷◌, ◌++◌, map, Bool, true, false}
use Rattle.std.proofs.Common.{cond, refl, sym}
use Rattle.std.proofs.Common.{ap, subst, ◌∙◌, inl, inr, arith}
use Rattle.std.specs.Prelude.{not, ◌&&◌, ◌==◌, if◌then◌else◌, filter, find, bytes_eq, flat_map}
use Rattle.std.specs.Prelude.{unsigned_abs}
use Rattle.std.specs.List.{AllByRecursion, IsDistinct, list_any}
use Rattle.std.specs.Ordering.{int_eq}
use Rattle.std.proofs.lemmas.Bool.{true≢false, false≢true, and_parts, or_parts}
use borrow.Author.Tests.{eqb-true, eq-eqb}
use Rattle.std.proofs.lemmas.List.Elements.{filter-append}
use Rattle.std.proofs.lemmas.Slice.Eq.{bytes_eq-Decides}
use Rattle.sheet_types.specs.Ordered.{arranged, without, is_among}
use Rattle.sheet_types.specs.Cut.{has_end}
use Rattle.sheet_types.specs.Matrix.{is_within}
use Rattle.sheet_types.specs.Texts.{kind_of}
use Rattle.sheet_types.specs.World.{Package, item_key, link_key, kind_number, kind_is, base_kind, other_kind}
use Rattle.sheet_types.specs.Register.{HasEnds}
use Rattle.sheet_types.specs.declared.command.Content.{Content}
use Rattle.sheet_types.specs.declared.command.Content.TheVariants.{Tile, Media, Row}
use Rattle.sheet_types.specs.declared.command.Item.{Item}
use Rattle.sheet_types.specs.declared.command.Mapping.{Mapping}
use Rattle.sheet_types.specs.declared.command.Mapping.TheVariants.{TilesMedia, RowsMedia, RowsTiles}
use Rattle.sheet_types.specs.declared.command.Relation.{Relation}
use Rattle.sheet_types.specs.declared.frame.Frame.{Frame}
use Rattle.sheet_types.specs.declared.receipt.MovedKind.{MovedKind}
use Rattle.sheet_types.specs.declared.receipt.MovedKind.TheVariants.{TileItem, MediaItem, RowItem}
use Rattle.sheet_types.proofs.Every.{All-weaker, All-both, All-each, All-of_map, All-map, All-filter, none_pass}
use Rattle.sheet_types.proofs.Order.{list_any-arranged}
use Rattle.sheet_types.proofs.Arranging.{filter-arranged}
use Rattle.sheet_types.proofs.Found.{any_filter}
use Rattle.sheet_types.proofs.Same.{In, All-In}
use Rattle.sheet_types.proofs.Basics.{bytes_eq_itself, bytes_eq_swap, or-false, and-true, not_false}
use Rattle.package_tables.specs.Shapes.{tile_shape, medium_shape, attribute_shape, identity_shape}
use Rattle.package_tables.specs.Package.{Tables}
use Rattle.package_tables.specs.declared.rows.MappingRow.{MappingRow}
use Rattle.identity_register.specs.Numbering.{Numbered, greatest_number, place_in_tables, tile_rows, media_rows}
use Rattle.identity_register.specs.Numbering.{attribute_rows, identity_row, number_of, mapping_row, mapping_is}
use Rattle.identity_register.specs.Numbering.{rows_in, without_content, without_identity}
use Rattle.identity_register.specs.Reads.{Says, SaysPairs}
use Rattle.identity_register.proofs.MappingTables.{row_if, pairs_kept}

-- ---- lists

-- what goes of the rows is all rows of what goes
pub filter-flat_map : {X Y : Type 0} (f : X → List Y) (test : Y → Bool) (keep : X → Bool) (xs : List X)
    → AllByRecursion (λ x. filter test (f x) ≡ cond (keep x) (f x) []) xs
    → filter test (flat_map f xs) ≡ flat_map f (filter keep xs)
filter-flat_map f test keep [] h = refl
filter-flat_map f test keep (x ∷ xs) h = filter-append test (f x) (flat_map f xs)
    ∙ one (keep x) h.0 (filter-flat_map f test keep xs h.1)
  where
    one : (b : Bool) → filter test (f x) ≡ cond b (f x) [] → filter test (flat_map f xs)
        ≡ flat_map f (filter keep xs)
        → filter test (f x) ++ filter test (flat_map f xs) ≡ flat_map f
        (cond b (x ∷ filter keep xs) (filter keep xs))
    one true e rest = rw (e, rest) refl
    one false e rest = rw (e, rest) refl

-- what goes has no rows
pub flat_map-kept : {X Y : Type 0} (f : X → List Y) (keep : X → Bool) (xs : List X)
    → AllByRecursion (λ x. keep x ≡ false → f x ≡ []) xs → flat_map f (filter keep xs) ≡ flat_map f xs
flat_map-kept f keep [] h = refl
flat_map-kept f keep (x ∷ xs) h = one (keep x) refl (flat_map-kept f keep xs h.1)
  where
    one : (b : Bool) → keep x ≡ b → flat_map f (filter keep xs) ≡ flat_map f xs
        → flat_map f (cond b (x ∷ filter keep xs) (filter keep xs)) ≡ f x ++ flat_map f xs
    one true e rest = ap (λ l. f x ++ l) rest
    one false e rest = rest ∙ sym (ap (λ l. l ++ flat_map f xs) (h.0 e))

filter-map : {X Y : Type 0} (f : X → Y) (test : Y → Bool) (keep : X → Bool) (xs : List X)
    → AllByRecursion (λ x. test (f x) ≡ keep x) xs → filter test (map f xs) ≡ map f (filter keep xs)
filter-map f test keep [] h = refl
filter-map f test keep (x ∷ xs) h = one (keep x) h.0 (filter-map f test keep xs h.1)
  where
    one : (b : Bool) → test (f x) ≡ b → filter test (map f xs) ≡ map f (filter keep xs)
        → filter test (f x ∷ map f xs) ≡ map f (cond b (x ∷ filter keep xs) (filter keep xs))
    one true e rest = rw e (ap (λ l. f x ∷ l) rest)
    one false e rest = rw e rest

find-filter : {X : Type 0} (q keep : X → Bool) (xs : List X)
    → AllByRecursion (λ x. q x ≡ true → keep x ≡ true) xs
    → find q (filter keep xs) ≡ find q xs
find-filter q keep [] h = refl
find-filter q keep (x ∷ xs) h = one (q x) (keep x) refl refl (find-filter q keep xs h.1)
  where
    one : (a b : Bool) → q x ≡ a → keep x ≡ b → find q (filter keep xs) ≡ find q xs
        → find q (filter keep (x ∷ xs)) ≡ find q (x ∷ xs)
    one true true e g rest = rw (g, e) refl
    one true false e g rest = absurd (true≢false (sym (h.0 e) ∙ g))
    one false true e g rest = rw (g, e) rest
    one false false e g rest = rw (g, e) rest

-- what is distinct stays so when some go
pub distinct_filter : {X : Type 0} (f : X → List ℕ) (keep : X → Bool) (xs : List X)
    → IsDistinct bytes_eq (map f xs)
    → IsDistinct bytes_eq (map f (filter keep xs))
unfolding IsDistinct
distinct_filter f keep [] h = tt
distinct_filter f keep (x ∷ xs) h = one (keep x) (distinct_filter f keep xs h.1)
  where
    one : (b : Bool) → IsDistinct bytes_eq (map f (filter keep xs))
        → IsDistinct bytes_eq (map f (cond b (x ∷ filter keep xs) (filter keep xs)))
    one true rest = (All-map _ f (filter keep xs) (All-filter _ keep xs (All-of_map _ f xs h.0)), rest)
    one false rest = rest

-- an element of a list is apart from all others by one name exactly where it is by another
pub same_tests : {X : Type 0} (f g : X → List ℕ) (n : X) (xs : List X) → IsDistinct bytes_eq (map f xs)
    → IsDistinct bytes_eq (map g xs) → In n xs → AllByRecursion
    (λ m. bytes_eq (f m) (f n) ≡ bytes_eq (g m) (g n)) xs
unfolding IsDistinct
same_tests f g n [] hf hg i = tt
same_tests {X} f g n (x ∷ xs) hf hg i = elim i [
  | inl e ↦ (
    subst (λ y. bytes_eq (f x) (f y) ≡ bytes_eq (g x) (g y)) e
        (bytes_eq_itself (f x) ∙ sym (bytes_eq_itself (g x))),
    subst
        (λ y. AllByRecursion (λ m. bytes_eq (f m) (f y) ≡ bytes_eq (g m) (g y)) xs) e
        (all_apart xs (All-of_map _ f xs hf.0) (All-of_map _ g xs hg.0)),
  )
  | inr j ↦ (
    All-In (λ y. bytes_eq (f x) (f y) ≡ false) n xs (All-of_map _ f xs hf.0) j
        ∙ sym (All-In (λ y. bytes_eq (g x) (g y) ≡ false) n xs (All-of_map _ g xs hg.0) j),
    same_tests f g n xs hf.1
        hg.1 j,
  )
]
  where
    all_apart : (ys : List X) → AllByRecursion (λ y. bytes_eq (f x) (f y) ≡ false) ys
        → AllByRecursion (λ y. bytes_eq (g x) (g y) ≡ false) ys
        → AllByRecursion (λ m. bytes_eq (f m) (f x) ≡ bytes_eq (g m) (g x)) ys
    all_apart ys h k = All-both _ _ _ (λ m a b. bytes_eq_swap (f m) (f x) ∙ a
        ∙ sym (bytes_eq_swap (g m) (g x) ∙ b))
        ys h k

-- of two tests of which the first is passed, the second
pub place_test : (a b : Bool) → a ≡ true → (a && (b && true)) ≡ b
place_test true true h = refl
place_test true false h = refl
place_test false b h = absurd (false≢true h)

-- numbers from 1 on are one where their absolute values are
pub same_number : (a b : ℤ) → is_within (pos 1) greatest_number a ≡ true
    → is_within (pos 1) greatest_number b ≡ true
    → int_eq a b ≡ (unsigned_abs a == unsigned_abs b)
same_number (pos a) (pos b) h g = grind (arith)
same_number (negsuc a) b h g = absurd (false≢true h)
same_number (pos a) (negsuc b) h g = absurd (false≢true g)

-- ---- the rows of one kind

-- how a table holds the items of a kind: one row each, under its number
pub record IsOfKind {R : Type 0} (kind : MovedKind) (rows : ℤ → Content → List R) (id : R → ℤ) : Type 0 where
  pub mine : (number : ℤ) (c : Content) → kind_is kind (kind_of c) ≡ true → (r : R)
      × (rows number c ≡ r ∷ [])
      × (id r ≡ number)
  pub others : (number : ℤ) (c : Content) → kind_is kind (kind_of c) ≡ false → rows number c ≡ []

pub tiles_of_kind : IsOfKind TileItem tile_rows (λ r. r.id)
tiles_of_kind = record { mine = mine; others = others }
  where
    mine : (number : ℤ) (c : Content) → kind_is TileItem (kind_of c) ≡ true → (r : _)
        × (tile_rows number c ≡ r ∷ [])
        × (r.id ≡ number)
    mine number (Tile zoom column row bytes) h = (_, refl, refl)
    mine number (Media content_type bytes) h = absurd (false≢true h)
    mine number (Row x y code label) h = absurd (false≢true h)

    others : (number : ℤ) (c : Content) → kind_is TileItem (kind_of c) ≡ false → tile_rows number c ≡ []
    others number (Tile zoom column row bytes) h = absurd (true≢false h)
    others number (Media content_type bytes) h = refl
    others number (Row x y code label) h = refl

pub media_of_kind : IsOfKind MediaItem media_rows (λ r. r.id)
media_of_kind = record { mine = mine; others = others }
  where
    mine : (number : ℤ) (c : Content) → kind_is MediaItem (kind_of c) ≡ true → (r : _)
        × (media_rows number c ≡ r ∷ []) × (r.id ≡ number)
    mine number (Tile zoom column row bytes) h = absurd (false≢true h)
    mine number (Media content_type bytes) h = (_, refl, refl)
    mine number (Row x y code label) h = absurd (false≢true h)

    others : (number : ℤ) (c : Content) → kind_is MediaItem (kind_of c) ≡ false → media_rows number c ≡ []
    others number (Tile zoom column row bytes) h = refl
    others number (Media content_type bytes) h = absurd (true≢false h)
    others number (Row x y code label) h = refl

pub attributes_of_kind : IsOfKind RowItem attribute_rows (λ r. r.id)
attributes_of_kind = record { mine = mine; others = others }
  where
    mine : (number : ℤ) (c : Content) → kind_is RowItem (kind_of c) ≡ true → (r : _)
        × (attribute_rows number c ≡ r ∷ []) × (r.id ≡ number)
    mine number (Tile zoom column row bytes) h = absurd (false≢true h)
    mine number (Media content_type bytes) h = absurd (false≢true h)
    mine number (Row x y code label) h = (_, refl, refl)

    others : (number : ℤ) (c : Content) → kind_is RowItem (kind_of c) ≡ false → attribute_rows number c ≡ []
    others number (Tile zoom column row bytes) h = refl
    others number (Media content_type bytes) h = refl
    others number (Row x y code label) h = absurd (true≢false h)

pub pos_same : (a b : ℕ) → int_eq (pos a) (pos b) ≡ (a == b)
pos_same a b = grind (arith)

-- a kind is this one where its number is
stored_kind : (k a : MovedKind) → int_eq (pos (kind_number a)) (pos (kind_number k)) ≡ kind_is k a
stored_kind k a = grind (arith)

kinds_same : (k : MovedKind) (a b : MovedKind) → (kind_number a == kind_number b) ≡ true
    → kind_is k b ≡ kind_is k a
kinds_same k a b h = ap (λ n. kind_number k == n) (sym (eqb-true (kind_number a) (kind_number b) h))

-- what goes with an item: the row of its number where it is of the kind, no row else
module _ {R : Type 0} (kind : MovedKind) (rows : ℤ → Content → List R) (id : R → ℤ) (key : R → List ℕ)
    (of_kind : IsOfKind kind rows id) (n : Numbered) (ns : List Numbered)
    (range : AllByRecursion (λ m. is_within (pos 1) greatest_number m.number ≡ true) ns)
    (in_range : is_within (pos 1) greatest_number n.number ≡ true)
    (places : AllByRecursion (λ m. bytes_eq (place_in_tables m) (place_in_tables n)
    ≡ bytes_eq m.item.identity n.item.identity) ns) where
  abbrev keep : Numbered → Bool
  keep m = not (bytes_eq m.item.identity n.item.identity)

  abbrev rows_of_item : Numbered → List R
  rows_of_item m = rows m.number m.item.content

  one_goes : kind_is kind (kind_of n.item.content) ≡ true → (m : Numbered)
      → is_within (pos 1) greatest_number m.number ≡ true → bytes_eq (place_in_tables m) (place_in_tables n)
      ≡ bytes_eq m.item.identity n.item.identity
      → filter (λ r. not (int_eq (id r) n.number)) (rows_of_item m) ≡ cond (keep m) (rows_of_item m) []
  one_goes here m ranged same = one (kind_is kind (kind_of m.item.content)) refl
    where
      none : (b : Bool) → ◌≡◌ {A = List R} [] (cond b [] [])
      none true = refl
      none false = refl

      picked : (r : R) (b c : Bool) → b ≡ c → cond b (r ∷ []) [] ≡ cond c (r ∷ []) []
      picked r b c e = ap (λ v. cond v (r ∷ []) []) e

      one : (b : Bool) → kind_is kind (kind_of m.item.content) ≡ b
          → filter (λ r. not (int_eq (id r) n.number)) (rows_of_item m) ≡ cond (keep m) (rows_of_item m) []
      one false e = rw (of_kind.others m.number m.item.content e) (none (keep m))
      one true e =
          let it = of_kind.mine m.number m.item.content e in
          let number_same : int_eq (id it.0) n.number ≡ (unsigned_abs m.number == unsigned_abs n.number) =
          ap (λ z. int_eq z n.number) it.2 ∙ same_number m.number n.number ranged in_range in
          let kind_same : (kind_number (kind_of m.item.content) == kind_number (kind_of n.item.content)) ≡ true =
          same_kinds e here in
          let place_is : bytes_eq (place_in_tables m) (place_in_tables n)
          ≡ (unsigned_abs m.number == unsigned_abs n.number) =
          place_test (kind_number (kind_of m.item.content) == kind_number (kind_of n.item.content))
          (unsigned_abs m.number == unsigned_abs n.number) kind_same in
          rw it.1 (picked it.0 (not (int_eq (id it.0) n.number)) (keep m)
          (ap not (number_same ∙ sym place_is ∙ same)))
        where
          same_kinds : kind_is kind (kind_of m.item.content) ≡ true → kind_is kind (kind_of n.item.content) ≡ true
              → (kind_number (kind_of m.item.content) == kind_number (kind_of n.item.content)) ≡ true
          same_kinds f g =
              eq-eqb (kind_number (kind_of m.item.content)) (kind_number (kind_of n.item.content))
              (sym (eqb-true (kind_number kind) (kind_number (kind_of m.item.content)) f)
              ∙ eqb-true (kind_number kind) (kind_number (kind_of n.item.content)) g)

  stays : kind_is kind (kind_of n.item.content) ≡ false → (m : Numbered)
      → bytes_eq (place_in_tables m) (place_in_tables n) ≡ bytes_eq m.item.identity n.item.identity
      → keep m ≡ false
      → rows_of_item m ≡ []
  stays elsewhere m same gone = of_kind.others m.number m.item.content
      (one (kind_is kind (kind_of m.item.content)) refl)
    where
      one : (b : Bool) → kind_is kind (kind_of m.item.content) ≡ b → b ≡ false
      one false e = refl
      one true e =
          let place : bytes_eq (place_in_tables m) (place_in_tables n) ≡ true =
          same ∙ not_false (bytes_eq m.item.identity n.item.identity) gone in
          let kind_same = (and_parts (kind_number (kind_of m.item.content) == kind_number (kind_of n.item.content)) _
          place).0 in
          absurd (true≢false (sym e ∙ sym (kinds_same kind (kind_of m.item.content) (kind_of n.item.content)
          kind_same) ∙ elsewhere))

  pub rows_less : (table : List R) → table ≡ arranged key (flat_map rows_of_item ns)
      → (if int_eq (identity_row n).kind (pos (kind_number kind)) then filter (λ r. not (int_eq (id r) n.number))
      table else table) ≡ arranged key (flat_map rows_of_item (filter keep ns))
  rows_less table is = ap (λ b. if b then filter (λ r. not (int_eq (id r) n.number)) table else table)
      (stored_kind kind (kind_of n.item.content)) ∙ one (kind_is kind (kind_of n.item.content)) refl
    where
      one : (b : Bool) → kind_is kind (kind_of n.item.content) ≡ b
          → (if b then filter (λ r. not (int_eq (id r) n.number)) table else table)
          ≡ arranged key (flat_map rows_of_item (filter keep ns))
      one true e =
          ap (filter (λ r. not (int_eq (id r) n.number))) is
          ∙ filter-arranged key (λ r. not (int_eq (id r) n.number)) (flat_map rows_of_item ns)
          ∙ ap (arranged key) (filter-flat_map rows_of_item (λ r. not (int_eq (id r) n.number)) keep ns
          (All-both _ _ _ (λ m a b. one_goes e m a b) ns range places))
      one false e = is ∙ sym (ap (arranged key) (flat_map-kept rows_of_item keep ns
          (All-weaker _ _ (λ m a. stays e m a) ns places)))

-- ---- the whole package

pub same_row : (m n : Numbered) → is_within (pos 1) greatest_number m.number ≡ true
    → is_within (pos 1) greatest_number n.number ≡ true
    → (int_eq (identity_row m).kind (identity_row n).kind && int_eq m.number n.number)
    ≡ bytes_eq (place_in_tables m) (place_in_tables n)
same_row m n a b =
    ap (λ x. x && int_eq m.number n.number) (pos_same (kind_number (kind_of m.item.content))
    (kind_number (kind_of n.item.content)))
    ∙ ap (λ x. (kind_number (kind_of m.item.content) == kind_number (kind_of n.item.content)) && x)
    (same_number m.number n.number a b ∙ sym (and-true (unsigned_abs m.number == unsigned_abs n.number)))

-- the same rows of each element
pub flat_map_same : {X Y : Type 0} (f g : X → List Y) (xs : List X) → AllByRecursion (λ x. f x ≡ g x) xs
    → flat_map f xs ≡ flat_map g xs
flat_map_same f g [] h = refl
flat_map_same f g (x ∷ xs) h = rw (h.0, flat_map_same f g xs h.1) refl

module _ (p : Package) (n : Numbered) where
  abbrev id : List ℕ
  id = n.item.identity

  abbrev kept : Numbered → Bool
  kept m = not (bytes_eq m.item.identity id)

  -- the test by which a package loses an item
  gone_test : (i : Item) → not (is_among (id ∷ []) i.identity) ≡ not (bytes_eq i.identity id)
  gone_test i = ap not (or-false (bytes_eq id i.identity) ∙ bytes_eq_swap id i.identity)

  apart : (a : List ℕ) → bytes_eq a id ≡ false → (m : Numbered) → bytes_eq m.item.identity a ≡ true
      → kept m ≡ true
  apart a other m same = ap not (ap (λ x. bytes_eq x id) ((bytes_eq-Decides m.item.identity a).0 same) ∙ other)

  number_left : (ns : List Numbered) (a : List ℕ) → bytes_eq a id ≡ false
      → number_of (filter kept ns) a ≡ number_of ns a
  number_left ns a other = rw (find-filter (λ m. bytes_eq m.item.identity a) kept ns (all ns)) refl
    where
      all : (ms : List Numbered) → AllByRecursion (λ m. bytes_eq m.item.identity a ≡ true → kept m ≡ true) ms
      all [] = tt
      all (m ∷ ms) = (apart a other m, all ms)

  row_left : (ns : List Numbered) (l : Relation) → has_end id l ≡ false
      → mapping_row (filter kept ns) l ≡ mapping_row ns l
  row_left ns l free =
      let both = or_parts (bytes_eq l.base id) (bytes_eq l.other id) free in
      rw (number_left ns l.base both.0, number_left ns l.other both.1) refl

  rows_left : (k : Mapping) (ns : List Numbered) (l : Relation) → has_end id l ≡ false
      → rows_in k (filter kept ns) l ≡ rows_in k ns l
  rows_left k ns l free = ap (row_if (mapping_is l.mapping k)) (row_left ns l free)

  pairs_left : (k : Mapping) (ns : List Numbered) (linked : List Relation) (table : List MappingRow)
      → AllByRecursion (λ l. has_end id l ≡ false) linked → SaysPairs k ns linked table
      → SaysPairs k (filter kept ns) linked table
  pairs_left k ns linked table free = pairs_kept k ns (filter kept ns) linked table
      (flat_map_same _ _ linked (All-weaker _ _ (rows_left k ns) linked free))

  abbrev less_items : List Item
  less_items = without (λ i. i.identity) (id ∷ []) p.items

  still_has : (kind : ℕ) (a : List ℕ) → bytes_eq a id ≡ false
      → list_any (λ i. bytes_eq (item_key i) (kind ∷ a)) p.items ≡ true
      → list_any (λ i. bytes_eq (item_key i) (kind ∷ a)) less_items ≡ true
  still_has kind a other there = any_filter (λ i. bytes_eq (item_key i) (kind ∷ a))
      (λ i. not (is_among (id ∷ []) i.identity)) p.items (λ i h. gone_test i
      ∙ ap not (ap (λ x. bytes_eq x id) ((bytes_eq-Decides i.identity a).0
      (and_parts (kind_number (kind_of i.content) == kind) (bytes_eq i.identity a) h).1) ∙ other)) there

  ends_left : (l : Relation) → has_end id l ≡ false → HasEnds p l
      → HasEnds (record p { items = without (λ i. i.identity) (id ∷ []) p.items }) l
  ends_left l free h =
      let both = or_parts (bytes_eq l.base id) (bytes_eq l.other id) free in (
        still_has (kind_number (base_kind l.mapping)) l.base both.0 h.0,
        still_has (kind_number (other_kind l.mapping))
            l.other both.1 h.1,
      )

-- one item less, of which no link speaks
pub deletes : (f : Frame) (p : Package) (t : Tables) (says : Says f p t) (n : Numbered) → In n says.numbered
    → list_any (has_end n.item.identity) p.links ≡ false
    → Says f (record p { items = without (λ i. i.identity) (n.item.identity ∷ []) p.items })
    (without_identity (identity_row n).kind n.number (without_content (identity_row n).kind n.number t))
deletes f p t says n there free =
    let ns = says.numbered in
    let id = n.item.identity in
    let in_range = All-In (λ m. is_within (pos 1) greatest_number m.number ≡ true) n ns says.numbers.range there in
    let places = same_tests place_in_tables (λ m. m.item.identity) n ns says.numbers.numbers says.numbers.identities
    there in
    let unnamed : AllByRecursion (λ l. has_end id l ≡ false) says.linked =
    none_pass (has_end id) says.linked (sym (list_any-arranged link_key (has_end id) says.linked)
    ∙ ap (list_any (has_end id)) (sym says.links) ∙ free) in
    record {
      good = says.good;
      fixed = says.fixed;
      dated = says.dated;
      created = says.created;
      moment = says.moment;
      fit_head = says.fit_head;
      head = says.head;
      numbered = filter (kept p n) ns;
      of_items = record {
        numbers = record {
          range = All-filter _ (kept p n) ns says.numbers.range;
          numbers = distinct_filter place_in_tables (kept p n) ns says.numbers.numbers;
          identities = distinct_filter (λ m. m.item.identity) (kept p n) ns says.numbers.identities;
          uuids = All-filter _ (kept p n) ns says.numbers.uuids;
        };
        items =
            ap (filter (λ i. not (is_among (id ∷ []) i.identity))) says.items
            ∙ filter-arranged item_key (λ i. not (is_among (id ∷ []) i.identity)) (map (λ m. m.item) ns)
            ∙ ap (arranged item_key) (filter-map (λ m. m.item) (λ i. not (is_among (id ∷ []) i.identity))
            (kept p n)
            ns (All-each _ (λ m. gone_test p n m.item) ns));
        tiles = rows_less TileItem tile_rows (λ r. r.id) tile_shape.key tiles_of_kind n ns says.numbers.range in_range
            places t.tiles says.tiles;
        media = rows_less MediaItem media_rows (λ r. r.id) medium_shape.key media_of_kind n ns says.numbers.range
            in_range places t.media says.media;
        rows = rows_less RowItem attribute_rows (λ r. r.id) attribute_shape.key attributes_of_kind n ns
            says.numbers.range in_range places t.rows says.rows;
        identities =
            ap (filter (λ r. not (int_eq r.kind (identity_row n).kind && int_eq r.local_id n.number))) says.identities
            ∙ filter-arranged identity_shape.key _ (map identity_row ns)
            ∙ ap (arranged identity_shape.key) (filter-map identity_row _ (kept p n) ns
            (All-both _ _ _ (λ m a b. ap not (same_row m n a in_range ∙ b)) ns says.numbers.range places));
      };
      linked = says.linked;
      ends = All-both _ _ _ (λ l a b. ends_left p n l a b) says.linked unnamed says.ends;
      of_links = record {
        distinct_links = says.distinct_links;
        links = says.links;
        tiles_media = pairs_left p n TilesMedia ns says.linked t.tiles_media unnamed says.tiles_media;
        rows_media = pairs_left p n RowsMedia ns says.linked t.rows_media unnamed says.rows_media;
        rows_tiles = pairs_left p n RowsTiles ns says.linked t.rows_tiles unnamed says.rows_tiles;
      };
      entered = says.entered;
      of_receipts = says.of_receipts;
    }
