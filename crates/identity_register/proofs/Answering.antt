-- What an answer of the tables says of the package that they are read as.
use Rattle.std.proofs.Common.{◌≡◌, ℕ, ℤ, List, [], ◌∷◌, map, Bool, true, false, Option, Some, None}
use Rattle.std.proofs.Common.{refl, sym, ap}
use Rattle.std.proofs.Common.{subst, ◌∙◌, arith}
use Rattle.std.specs.Prelude.{◌&&◌, ◌||◌, find, bytes_eq, flat_map, Contains, is_some}
use Rattle.std.specs.List.{AllByRecursion, list_any}
use Rattle.std.specs.Ordering.{int_eq}
use Rattle.std.proofs.lemmas.Int.{ints}
use Rattle.std.proofs.lemmas.List.Folds.{list_any-append}
use Rattle.std.proofs.lemmas.Slice.Eq.{bytes_eq-Decides}
use Rattle.sheet_types.specs.Matrix.{is_within}
use Rattle.sheet_types.specs.Refuse.{is_at}
use Rattle.sheet_types.specs.Texts.{uuid_text}
use Rattle.sheet_types.specs.World.{Package, item_key, item_of, has_item}
use Rattle.sheet_types.specs.Lines.{IsUuid}
use Rattle.sheet_types.specs.declared.command.Content.{Content}
use Rattle.sheet_types.specs.declared.command.Content.TheVariants.{Tile, Media, Row}
use Rattle.sheet_types.specs.declared.command.Item.{Item}
use Rattle.sheet_types.specs.declared.frame.Frame.{Frame}
use Rattle.sheet_types.proofs.Basics.{some_same, bytes_eq_itself, or-false}
use Rattle.sheet_types.proofs.Every.{All-each}
use Rattle.sheet_types.proofs.Found.{found, not_found, All-found}
use Rattle.sheet_types.proofs.Order.{All-arranged, list_any-arranged}
use Rattle.sheet_types.proofs.LineReading.{same_uuid}
use Rattle.sheet_types.proofs.Same.{In, In-all, In-map, In-of_map, All-In, any_in}
use Rattle.package_tables.specs.Calls.{IsOneOf}
use Rattle.package_tables.specs.Package.{Tables}
use Rattle.package_tables.specs.Shapes.{tile_shape}
use Rattle.package_tables.specs.declared.rows.TileRow.{TileRow}
use Rattle.package_tables.specs.declared.rows.IdentityRow.{IdentityRow}
use Rattle.identity_register.specs.Numbering.{Numbered, identity_row, tile_rows}
use Rattle.identity_register.specs.Reads.{Says}
use Rattle.identity_register.proofs.Finding.{row_numbered, no_row_of_uuid, contained, any_map}
use Rattle.identity_register.proofs.Linking.{find_itself}

-- ---- lists

-- some row of some element passes where some element does
pub any_flat_map : {X Y : Type 0} (f : X → List Y) (q : Y → Bool) (test : X → Bool) (xs : List X)
    → AllByRecursion (λ x. list_any q (f x) ≡ test x) xs → list_any q (flat_map f xs) ≡ list_any test xs
any_flat_map f q test [] h = refl
any_flat_map f q test (x ∷ xs) h = list_any-append q (f x) (flat_map f xs)
    ∙ ap (λ b. b || list_any q (flat_map f xs)) h.0 ∙ ap (λ b. test x || b) (any_flat_map f q test xs h.1)

-- a row is found where one passes
pub one_tells : {R : Type 0} (keeps : R → Bool) (rows : List R) (found : Option R) → IsOneOf keeps rows found
    → is_some found ≡ list_any keeps rows
one_tells keeps rows None h = sym h
one_tells keeps rows (Some r) h = sym (any_in keeps r rows (contained rows r h.0) h.1)

-- a number is another where it is between that and itself
within_is : (a b : ℤ) → int_eq a b ≡ is_within b b a
within_is a b = grind (arith, ints)

-- ---- items

-- the test that a row of the tiles table is in a place
abbrev pub is_tile_at : ℤ → ℤ → ℤ → TileRow → Bool
is_tile_at zoom column row x = int_eq x.zoom_level zoom && int_eq x.tile_column column && int_eq x.tile_row row

abbrev pub HasTileAt : ℤ → ℤ → ℤ → Tables → Bool → Type 0
HasTileAt zoom column row t found = found ≡ list_any (is_tile_at zoom column row) t.tiles

-- a row of an identity, if there is one
abbrev pub IsRowFor : List ℕ → Tables → Option IdentityRow → Type 0
IsRowFor id t = IsOneOf (λ x. bytes_eq x.uuid (uuid_text id)) t.identities

module _ (f : Frame) (p : Package) (t : Tables) (says : Says f p t) where
  -- an identity names one item
  pub same_item : (m n : Numbered) → In m says.numbered → In n says.numbered
      → m.item.identity ≡ n.item.identity → m ≡ n
  same_item m n i j same =
      let mine : find (λ y. bytes_eq y.item.identity n.item.identity) says.numbered ≡ Some n =
      find_itself n says.numbered says.numbers.identities j in
      let theirs : find (λ y. bytes_eq y.item.identity m.item.identity) says.numbered ≡ Some m =
      find_itself m says.numbered says.numbers.identities i in
      some_same (sym (subst (λ id. find (λ y. bytes_eq y.item.identity id) says.numbered ≡ Some m) same theirs)
      ∙ mine)

  -- an item is there under its identity
  pub item_there : (n : Numbered) → In n says.numbered → has_item p n.item.identity ≡ true
  item_there n i =
      let q : Item → Bool = λ x. bytes_eq x.identity n.item.identity in
      let items : List Item = map (λ m. m.item) says.numbered in
      ap (list_any q) says.items ∙ list_any-arranged item_key q items
      ∙ any_in q n.item items (In-map (λ m. m.item) n says.numbered i) (bytes_eq_itself n.item.identity)

  -- and is found there
  pub item_is : (n : Numbered) → In n says.numbered → item_of p n.item.identity ≡ Some n.item
  item_is n i =
      let q : Item → Bool = λ x. bytes_eq x.identity n.item.identity in
      let items : List Item = map (λ m. m.item) says.numbered in
      let it = found q p.items (item_there n i) in
      let all : AllByRecursion (λ x. In x items) p.items = subst (AllByRecursion (λ x. In x items)) (sym says.items)
      (All-arranged item_key (λ x. In x items) items (In-all items)) in
      let here = All-found (λ x. In x items) q it.0 p.items it.1 all in
      let m = In-of_map (λ y. y.item) it.0 says.numbered here.0 in
      let same : m.0.item.identity ≡ n.item.identity = ap (λ x. x.identity) m.2
      ∙ (bytes_eq-Decides it.0.identity n.item.identity).0 here.1 in
      let one : m.0 ≡ n = same_item m.0 n m.1 i same in
      it.1 ∙ ap Some (sym m.2 ∙ ap (λ y. y.item) one)

  -- no row has the text of the identity
  pub no_item : (id : List ℕ) → list_any (λ r. bytes_eq r.uuid (uuid_text id)) t.identities ≡ false
      → item_of p id ≡ None
  no_item id none = not_found (λ i. bytes_eq i.identity id) p.items (no_row_of_uuid f p t says id none)

  -- the item of the row that has the text
  pub item_of_row : (id : List ℕ) → IsUuid id → (r : IdentityRow) → Contains t.identities r
      × (bytes_eq r.uuid (uuid_text id) ≡ true)
      → (n : Numbered) × In n says.numbered × (identity_row n ≡ r) × (n.item.identity ≡ id)
      × (item_of p id ≡ Some n.item)
  item_of_row id fit r h =
      let it = row_numbered f p t says r h.0 in
      let text : uuid_text it.0.item.identity ≡ uuid_text id =
      ap (λ x. x.uuid) it.2 ∙ (bytes_eq-Decides r.uuid (uuid_text id)).0 h.1 in
      let same : it.0.item.identity ≡ id = same_uuid it.0.item.identity id
      (All-In (λ m. IsUuid m.item.identity) it.0 says.numbered says.numbers.uuids it.1) fit text in
      (it.0, it.1, it.2, same, subst (λ x. item_of p x ≡ Some it.0.item) same (item_is it.0 it.1))

  -- so the item is there
  pub known_by_row : (id : List ℕ) → IsUuid id → (r : IdentityRow) → Contains t.identities r
      × (bytes_eq r.uuid (uuid_text id) ≡ true) → has_item p id ≡ true
  known_by_row id fit r h = let it = item_of_row id fit r h in subst (λ x. has_item p x ≡ true) it.3
      (item_there it.0 it.1)

  -- ---- tiles

  pub tiles_at : (zoom column row : ℤ) → list_any (is_tile_at zoom column row) t.tiles
      ≡ list_any (λ i. is_at zoom column row i.content) p.items
  tiles_at zoom column row =
      ap (list_any (is_tile_at zoom column row)) says.tiles
      ∙ list_any-arranged tile_shape.key (is_tile_at zoom column row)
      (flat_map (λ n. tile_rows n.number n.item.content) says.numbered)
      ∙ any_flat_map (λ n. tile_rows n.number n.item.content) (is_tile_at zoom column row)
      (λ n. is_at zoom column row n.item.content) says.numbered
      (All-each _ (λ n. one n.number n.item.content) says.numbered)
      ∙ sym (any_map (λ n. n.item) (λ i. is_at zoom column row i.content) says.numbered)
      ∙ sym (list_any-arranged item_key (λ i. is_at zoom column row i.content) (map (λ n. n.item) says.numbered))
      ∙ ap (list_any (λ i. is_at zoom column row i.content)) (sym says.items)
    where
      one : (number : ℤ) (content : Content) → list_any (is_tile_at zoom column row) (tile_rows number content)
          ≡ is_at zoom column row content
      one number (Tile z c r bytes) = or-false _ ∙ ap (λ b. b && int_eq c column && int_eq r row) (within_is z zoom)
          ∙ ap (λ b. is_within zoom zoom z && b && int_eq r row) (within_is c column)
          ∙ ap (λ b. is_within zoom zoom z && is_within column column c && b) (within_is r row)
      one number (Media content_type bytes) = refl
      one number (Row x y code label) = refl
