-- The items and links that whole tables give are those of the package.
use Rattle.std.proofs.Common.{◌≡◌, ℕ, suc, ◌+◌, ◌<◌, pos, List, [], ◌∷◌, ◌++◌, map, length}
use Rattle.std.proofs.Common.{get_or, take, true}
use Rattle.std.proofs.Common.{Result, Ok, Err, refl, sym, ap, subst, ◌∙◌, inl, inr, arith}
use Rattle.std.specs.Prelude.{bytes_eq, flat_map, unsigned_abs, Contains, IsPermutation}
use Rattle.std.specs.List.{AllByRecursion, AllZip, AllAdjacentBelow}
use Rattle.std.proofs.lemmas.List.{append-nil, take_more}
use Rattle.std.proofs.lemmas.List.Elements.{All-contains_itself, recursion_from_All}
use Rattle.std.proofs.lemmas.Slice.Zip.{all_zipped_more}
use Rattle.std.proofs.lemmas.List.Sorted.{IsPermutation-sym, Contains-permutation, All-permutation}
use Rattle.sqlite.specs.State.{State}
use Rattle.store_sql.specs.Transactions.{Looks}
use Rattle.sheet_types.specs.Ordered.{has, is_before, IsArranged}
use Rattle.sheet_types.specs.Texts.{uuid_text, kind_of}
use Rattle.sheet_types.specs.World.{Package, item_key, link_key, kind_number, base_kind, other_kind, all_mappings}
use Rattle.sheet_types.specs.Lines.{IsUuid}
use Rattle.sheet_types.specs.Register.{HasEnds}
use Rattle.sheet_types.specs.declared.command.Item.{Item}
use Rattle.sheet_types.specs.declared.command.Mapping.{Mapping}
use Rattle.sheet_types.specs.declared.command.Mapping.TheVariants.{TilesMedia, RowsMedia, RowsTiles}
use Rattle.sheet_types.specs.declared.command.Relation.{Relation}
use Rattle.sheet_types.specs.declared.frame.Frame.{Frame}
use Rattle.sheet_types.specs.declared.receipt.MovedKind.{MovedKind}
use Rattle.sheet_types.proofs.Basics.{some_same, bytes_eq_itself, before_trans}
use Rattle.sheet_types.proofs.Every.{All-weaker, All-append, All-map}
use Rattle.sheet_types.proofs.Same.{In, In-map, In-of_map, In-flat_map, In-of_flat_map, All-In, Contains-In, same_list}
use Rattle.sheet_types.proofs.LineReading.{same_uuid}
use Rattle.package_tables.specs.Calls.{Answers}
use Rattle.package_tables.specs.Package.{Tables}
use Rattle.package_tables.specs.Mappings.{mapping_rows}
use Rattle.package_tables.specs.declared.rows.AttributeRow.{AttributeRow}
use Rattle.package_tables.specs.declared.rows.IdentityRow.{IdentityRow}
use Rattle.package_tables.specs.declared.rows.MappingRow.{MappingRow}
use Rattle.package_tables.specs.declared.rows.MediaRow.{MediaRow}
use Rattle.package_tables.specs.declared.rows.TileRow.{TileRow}
use Rattle.identity_register.specs.Gathered.{tile_placed, medium_placed, attributes_placed, IsPlaced, IsItemOf, IsReadOf}
use Rattle.identity_register.specs.Gathered.{IsNamed, IsLinkOf, AreLinksIn}
use Rattle.identity_register.specs.Numbering.{Numbered, identity_row, number_of, mapping_row, rows_in}
use Rattle.identity_register.specs.Reads.{Says}
use Rattle.identity_register.specs.declared.whole.Placed.{Placed}
use Rattle.identity_register.proofs.Answering.{same_item, item_is}
use Rattle.identity_register.proofs.Contents.{content_by_row, one_place}
use Rattle.identity_register.proofs.Finding.{contained, in_arranged, moved, row_numbered}
use Rattle.identity_register.proofs.Linking.{end_of}
use Rattle.identity_register.proofs.Looking.{Looked, tells, fails}
use Rattle.identity_register.proofs.MappingTables.{rows_there, own_row, pair_key, table_says}
use Rattle.identity_register.proofs.OnePackage.{to_arranged, distinct_arranged, row_stored, items_arranged}

-- ---- lists

-- pairs stand so where they stand in a stronger relation
zip_weaker : {A B : Type 0} (R S : A → B → Type 0) → ((x : A) (y : B) → R x y → S x y) → (xs : List A) (ys : List B)
    → AllZip R xs ys
    → AllZip S xs ys
zip_weaker R S so [] [] h = tt
zip_weaker R S so [] (y ∷ ys) h = absurd h
zip_weaker R S so (x ∷ xs) [] h = absurd h
zip_weaker R S so (x ∷ xs) (y ∷ ys) h = (so x y h.0, zip_weaker R S so xs ys h.1)

-- an element of one list has one of the other beside it
pub zip_left : {A B : Type 0} (R : A → B → Type 0) (x : A) (xs : List A) (ys : List B) → AllZip R xs ys
    → In x xs
    → (y : B) × In y ys × R x y
zip_left R x [] [] h i = absurd i
zip_left R x [] (y ∷ ys) h i = absurd i
zip_left R x (z ∷ zs) [] h i = absurd h
zip_left R x (z ∷ zs) (y ∷ ys) h i = elim i [
  | inl e ↦ (y, inl refl, subst (λ v. R v y) e h.0)
  | inr j ↦ let it =
      zip_left R x zs ys h.1 j in (it.0, inr it.1, it.2)
]

pub zip_right : {A B : Type 0} (R : A → B → Type 0) (y : B) (xs : List A) (ys : List B) → AllZip R xs ys
    → In y ys
    → (x : A) × In x xs × R x y
zip_right R y [] [] h i = absurd i
zip_right R y (x ∷ xs) [] h i = absurd i
zip_right R y [] (z ∷ zs) h i = absurd h
zip_right R y (x ∷ xs) (z ∷ zs) h i = elim i [
  | inl e ↦ (x, inl refl, subst (λ v. R x v) e h.0)
  | inr j ↦ let it =
      zip_right R y xs zs h.1 j in (it.0, inr it.1, it.2)
]

-- keys that rise from each element to the next rise to each later one
pub rising : {X : Type 0} (key : X → List ℕ) (xs : List X) → AllAdjacentBelow
    (λ x y. is_before (key x) (key y) ≡ true) xs (length xs) → IsArranged key xs
rising key [] h = tt
rising key (x ∷ []) h = (tt, tt)
rising key (x ∷ y ∷ ys) h =
    let rest = rising key (y ∷ ys) (λ k d less. let e : suc k + 1 ≡ suc (k + 1) =
    omega arith in subst (λ n. is_before (key (get_or (x ∷ y ∷ ys) (suc k) d)) (key (get_or (x ∷ y ∷ ys) n d))
    ≡ true) e (h (suc k) d (omega (arith, less)))) in
    let first : is_before (key x) (key y) ≡ true = h 0 x (omega arith) in
    ((first, All-weaker _ _ (λ z later. before_trans (key x) (key y) (key z) first later) ys rest.0), rest)

-- one row more of those that a loop goes over, and what was made of it
pub zip_more : {A B : Type 0} (R : A → B → Type 0) (rows : List A) (i : ℕ) (d row : A) (made now : List B) (x : B)
    → i < length rows → row ≡ get_or rows i d → now ≡ made ++ x ∷ [] → AllZip R (take i rows) made
    → R row x
    → AllZip R (take (i + 1) rows) now
zip_more R rows i d row made now x less is pushed all one =
    let cut : take (i + 1) rows ≡ take i rows ++ row ∷ [] = take_more rows i d less
    ∙ ap (λ r. take i rows ++ r ∷ []) (sym is) in
    subst (λ l. AllZip R l now) (sym cut) (subst (AllZip R (take i rows ++ row ∷ [])) (sym pushed)
    (all_zipped_more R (take i rows) made row x all one))

-- ---- contents

all_there : {X : Type 0} (xs ys : List X) → IsPermutation xs ys → AllByRecursion (Contains xs) ys
all_there xs ys h = recursion_from_All (Contains xs) ys (All-permutation (Contains xs) xs ys h (All-contains_itself xs))

-- the rows of the user tables are contents under their kinds and numbers
pub contents_are : (t : Tables) (tiles : List TileRow) (media : List MediaRow) (rows : List AttributeRow)
    → IsPermutation t.tiles tiles → IsPermutation t.media media → IsPermutation t.rows rows
    → AllByRecursion (IsPlaced t) (map tile_placed tiles ++ map medium_placed media ++ map attributes_placed rows)
contents_are t tiles media rows h i j =
    All-append (IsPlaced t) (map tile_placed tiles ++ map medium_placed media) (map attributes_placed rows)
    (All-append (IsPlaced t) (map tile_placed tiles) (map medium_placed media)
    (All-map (IsPlaced t) tile_placed tiles (All-weaker _ _ (λ r k. (refl, k)) tiles (all_there t.tiles tiles h)))
    (All-map (IsPlaced t) medium_placed media (All-weaker _ _ (λ r k. (refl, k)) media
    (all_there t.media media i))))
    (All-map (IsPlaced t) attributes_placed rows (All-weaker _ _ (λ r k. (refl, k)) rows (all_there t.rows rows j)))

-- ---- items

module _ (f : Frame) (p : Package) (t : Tables) (says : Says f p t) where
  -- the item that an identity row is of, by the UUID whose text it has
  pub row_item : (r : IdentityRow) → Contains t.identities r → (id : List ℕ) → r.uuid ≡ uuid_text id
      → IsUuid id
      → (n : Numbered) × In n says.numbered × (identity_row n ≡ r) × (n.item.identity ≡ id)
  row_item r h id e uuid =
      let it = row_numbered f p t says r h in
      let fit : IsUuid it.0.item.identity = All-In (λ m. IsUuid m.item.identity) it.0 says.numbered says.numbers.uuids
      it.1 in
      (it.0, it.1, it.2, same_uuid it.0.item.identity id fit uuid (ap (λ x. x.uuid) it.2 ∙ e))

  -- so is the item that was read by the row
  item_read : (r : IdentityRow) → Contains t.identities r → (i : Item) → IsReadOf t r i → (n : Numbered)
      × In n says.numbered
      × (identity_row n ≡ r) × (n.item ≡ i)
  item_read r h i it =
      let n = row_item r h i.identity it.text it.fit in
      let fit : IsUuid n.0.item.identity = All-In (λ m. IsUuid m.item.identity) n.0 says.numbered says.numbers.uuids
      n.1 in
      let named : bytes_eq r.uuid (uuid_text n.0.item.identity) ≡ true =
      subst (λ x. bytes_eq x.uuid (uuid_text n.0.item.identity) ≡ true) n.2
      (bytes_eq_itself (uuid_text n.0.item.identity)) in
      let told = content_by_row f p t says n.0.item.identity fit r i.content (h, named) it.there in
      let whole : ◌≡◌ {A = Item} (record { identity = n.0.item.identity; content = i.content }) n.0.item =
      some_same (told ∙ item_is f p t says n.0 n.1) in
      let same : ◌≡◌ {A = Item} (record { identity = n.0.item.identity; content = i.content }) i =
      ap {A = List ℕ} (λ x. record { identity = x; content = i.content }) n.3 in
      (n.0, n.1, n.2, sym whole ∙ same)

  -- and the item that was made of the row and its content
  item_there : (placed : List Placed) → AllByRecursion (IsPlaced t) placed → (r : IdentityRow) (i : Item)
      → IsItemOf placed r i → IsReadOf t r i
  item_there placed all r i it = record {
    text = it.identity;
    fit = it.fit;
    there = All-In (IsPlaced t) (record { kind = r.kind; number = r.local_id; content = i.content }) placed all
        (contained placed _ it.content);
  }

  -- a row is of one item
  pub one_row : (m n : Numbered) → In m says.numbered → In n says.numbered → identity_row m ≡ identity_row n
      → m ≡ n
  one_row m n i j e =
      same_item f p t says m n i j (same_uuid m.item.identity n.item.identity
      (All-In (λ x. IsUuid x.item.identity) m says.numbered says.numbers.uuids i)
      (All-In (λ x. IsUuid x.item.identity) n says.numbered says.numbers.uuids j) (ap (λ r. r.uuid) e))

  -- all identity rows give all items
  pub items_read : (rows : List IdentityRow) (made found : List Item) → IsPermutation t.identities rows
      → AllZip (IsReadOf t) rows made → IsPermutation made found → IsArranged item_key found → found ≡ p.items
  items_read rows made found all zipped moves order =
      same_list item_key found p.items order (items_arranged f t p says) to fro
    where
      to : (x : Item) → In x found → In x p.items
      to x i =
          let it = zip_right (IsReadOf t) x rows made zipped
          (moved x found made (IsPermutation-sym made found moves) i) in
          let n = item_read it.0 (Contains-In it.0 t.identities
          (moved it.0 rows t.identities (IsPermutation-sym t.identities rows all) it.1)) x it.2 in
          subst (λ y. In y p.items) n.3 (subst (In n.0.item) (sym says.items)
          (to_arranged item_key n.0.item (map (λ m. m.item) says.numbered)
          (In-map (λ m. m.item) n.0 says.numbered n.1)))

      fro : (x : Item) → In x p.items → In x found
      fro x i =
          let n = In-of_map (λ m. m.item) x says.numbered (in_arranged item_key (map (λ m. m.item) says.numbered) x
          (subst (In x) says.items i)) in
          let stored : Contains t.identities (identity_row n.0) = row_stored f t p says n.0 n.1 in
          let it = zip_left (IsReadOf t) (identity_row n.0) rows made zipped
          (moved (identity_row n.0) t.identities rows all
          (contained t.identities (identity_row n.0) stored)) in
          let m = item_read (identity_row n.0) stored it.0 it.2 in
          let same : it.0 ≡ x = sym m.3 ∙ ap (λ y. y.item) (one_row m.0 n.0 m.1 n.1 m.2) ∙ n.2 in
          subst (λ y. In y found) same (moved it.0 made found moves it.1)

  -- so do they with their contents
  pub items_are : (rows : List IdentityRow) (placed : List Placed) (made found : List Item)
      → IsPermutation t.identities rows → AllByRecursion (IsPlaced t) placed → AllZip (IsItemOf placed) rows made
      → IsPermutation made found → IsArranged item_key found → found ≡ p.items
  items_are rows placed made found all contents zipped moves order =
      items_read rows made found all (zip_weaker (IsItemOf placed) (IsReadOf t) (item_there placed contents) rows made
      zipped) moves order

  -- ---- links

  -- the identity of an end, by the number that its mapping row has
  named_is : (rows : List IdentityRow) → IsPermutation t.identities rows → (kind : MovedKind) (id found : List ℕ)
      → has item_key (kind_number kind ∷ id) p.items ≡ true → IsNamed rows (pos (kind_number kind))
      (number_of says.numbered id) found → found ≡ id
  named_is rows all kind id found there it =
      let m = end_of f p t says kind id there in
      let n = row_item it.row (Contains-permutation rows t.identities it.row (IsPermutation-sym t.identities rows all)
      it.there) found it.identity it.fit in
      let kinds : kind_number (kind_of n.0.item.content) ≡ kind_number (kind_of m.0.item.content) =
      ap unsigned_abs (ap (λ r. r.kind) n.2 ∙ it.kind_is) ∙ sym m.2 in
      let numbers : n.0.number ≡ m.0.number = ap (λ r. r.local_id) n.2 ∙ it.number_is ∙ m.4 in
      sym n.3 ∙ ap (λ x. x.item.identity) (one_place f p t says n.0 m.0 n.1 m.1 kinds numbers) ∙ m.3

  pub link_is : (rows : List IdentityRow) → IsPermutation t.identities rows → (l found : Relation) → HasEnds p l
      → IsLinkOf l.mapping rows (mapping_row says.numbered l) found → found ≡ l
  link_is rows all l found ends it =
      let base : found.base ≡ l.base = named_is rows all (base_kind l.mapping) l.base found.base ends.0 it.base in
      let other : found.other ≡ l.other = named_is rows all (other_kind l.mapping) l.other found.other ends.1
      it.other in
      let mapping : found.mapping ≡ l.mapping = it.mapping in
      λ n. record { mapping = mapping n; base = base n; other = other n }

  -- a mapping row is of a link, and a link has its row
  pub link_of_row : (m : Mapping) (r : MappingRow) → In r (mapping_rows m t) → (l : Relation) × In l says.linked
      × (l.mapping ≡ m) × (mapping_row says.numbered l ≡ r)
  link_of_row m r i =
      let it = In-of_flat_map (rows_in m says.numbered) r says.linked
      (in_arranged pair_key (flat_map (rows_in m says.numbered) says.linked) r
      (subst (In r) (table_says f p t says m) i)) in
      elim (rows_there m says.numbered it.0) [
        | inl at ↦ (it.0, it.1, at.0, only (mapping_row says.numbered it.0) (subst (In r) at.1 it.2))
        | inr at ↦ absurd (subst (In r) at.1 it.2)
      ]
    where
      only : (x : MappingRow) → In r (x ∷ []) → x ≡ r
      only x j = elim j [ inl same ↦ same | inr k ↦ absurd k ]

  pub row_of_link : (l : Relation) (m : Mapping) → l.mapping ≡ m → In l says.linked
      → In (mapping_row says.numbered l) (mapping_rows m t)
  row_of_link l m e i =
      let row : MappingRow = mapping_row says.numbered l in
      let here : In row (rows_in m says.numbered l) = subst (In row) (sym (own_row m says.numbered l e)) (inl refl) in
      subst (In row) (sym (table_says f p t says m)) (to_arranged pair_key row
      (flat_map (rows_in m says.numbered) says.linked) (In-flat_map (rows_in m says.numbered) l row says.linked i
      here))

  pub ends_of : (l : Relation) → In l says.linked → HasEnds p l
  ends_of l i = All-In (HasEnds p) l says.linked says.ends i

  -- what was made of the rows of one mapping table are its links
  made_of : (rows : List IdentityRow) → IsPermutation t.identities rows → (m : Mapping) (made : List Relation)
      → AreLinksIn m rows t made → (x : Relation) → In x made → In x p.links
  made_of rows all m made (stored, moves, zipped) x i =
      let it = zip_right (IsLinkOf m rows) x stored made zipped i in
      let l = link_of_row m it.0 (moved it.0 stored (mapping_rows m t)
      (IsPermutation-sym (mapping_rows m t) stored moves) it.1) in
      let same : x ≡ l.0 = link_is rows all l.0 x (ends_of l.0 l.1)
      (subst (λ k. IsLinkOf k rows (mapping_row says.numbered l.0) x) (sym l.2)
      (subst (λ r. IsLinkOf m rows r x) (sym l.3) it.2)) in
      subst (λ y. In y p.links) (sym same) (subst (In l.0) (sym says.links) (to_arranged link_key l.0 says.linked l.1))

  is_made : (rows : List IdentityRow) → IsPermutation t.identities rows → (m : Mapping) (made : List Relation)
      → AreLinksIn m rows t made → (l : Relation) → l.mapping ≡ m → In l says.linked → In l made
  is_made rows all m made (stored, moves, zipped) l e i =
      let it = zip_left (IsLinkOf m rows) (mapping_row says.numbered l) stored made zipped
      (moved (mapping_row says.numbered l) (mapping_rows m t) stored moves (row_of_link l m e i)) in
      subst (λ y. In y made) (link_is rows all l it.0 (ends_of l i)
      (subst (λ k. IsLinkOf k rows (mapping_row says.numbered l) it.0) (sym e) it.2)) it.1

  -- the links of all mapping tables are all links
  pub links_are : (rows : List IdentityRow) (made : Mapping → List Relation) (found : List Relation)
      → IsPermutation t.identities rows → ((m : Mapping) → AreLinksIn m rows t (made m))
      → IsPermutation (flat_map made all_mappings) found → IsArranged link_key found → found ≡ p.links
  links_are rows made found all are moves order =
      same_list link_key found p.links order (subst (IsArranged link_key) (sym says.links)
      (distinct_arranged link_key says.linked says.distinct_links)) to fro
    where
      each_mapping : (m : Mapping) → In m all_mappings
      each_mapping TilesMedia = inl refl
      each_mapping RowsMedia = inr (inl refl)
      each_mapping RowsTiles = inr (inr (inl refl))

      to : (x : Relation) → In x found → In x p.links
      to x i =
          let it = In-of_flat_map made x all_mappings (moved x found (flat_map made all_mappings)
          (IsPermutation-sym (flat_map made all_mappings) found moves) i) in
          made_of rows all it.0 (made it.0) (are it.0) x it.2

      fro : (x : Relation) → In x p.links → In x found
      fro x i =
          moved x (flat_map made all_mappings) found moves
          (In-flat_map made x.mapping x all_mappings (each_mapping x.mapping)
          (is_made rows all x.mapping (made x.mapping) (are x.mapping) x refl
          (in_arranged link_key says.linked x (subst (In x) says.links i))))

-- what was looked at answers by a last value
pub tells_if : {X E : Type 0} {Fact : Tables → Type 0} (Answer : Tables → X → Type 0) {old new : State}
    (r : Result X E) → Looked Fact old new
    → ((x : X) → r ≡ Ok x → (t : Tables) → Fact t → Answer t x)
    → Looks {X = X} {E = E} (Answers Answer) old new r
tells_if Answer (Ok x) it says = tells Answer it (says x refl)
tells_if Answer (Err e) it says = fails (Err e) refl it.stays

-- ---- three lists, one for each mapping

abbrev pub by_mapping : {X : Type 0} → X → X → X → Mapping → X
by_mapping tiles_media rows_media rows_tiles TilesMedia = tiles_media
by_mapping tiles_media rows_media rows_tiles RowsMedia = rows_media
by_mapping tiles_media rows_media rows_tiles RowsTiles = rows_tiles

in_turn : {X : Type 0} (a b c : List X) → (a ++ b) ++ c ≡ a ++ (b ++ c)
in_turn [] b c = refl
in_turn (x ∷ xs) b c = ap (λ l. x ∷ l) (in_turn xs b c)

pub joined_lists : {X : Type 0} (a b c : List X) → (a ++ b) ++ c ≡ flat_map (by_mapping a b c) all_mappings
joined_lists a b c = in_turn a b c ∙ ap (λ l. a ++ (b ++ l)) (sym (append-nil c))
