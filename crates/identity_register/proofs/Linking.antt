-- Links that come in and go, by the numbers of their ends.
use Rattle.std.proofs.Common.{◌≡◌, ℕ, List, [], ◌∷◌, ◌++◌, map, Bool, true, false, cond, Some, refl}
use Rattle.std.proofs.Common.{sym, ap, subst}
use Rattle.std.proofs.Common.{◌∙◌, inl, inr, length, arith}
use Rattle.std.specs.Prelude.{not, ◌&&◌, ◌==◌, filter, find, bytes_eq, flat_map, unsigned_abs}
use Rattle.std.specs.List.{AllByRecursion, IsDistinct, list_any}
use Rattle.std.specs.Ordering.{int_eq}
use Rattle.std.proofs.lemmas.Bool.{true≢false, false≢true, and_parts, and_left}
use Rattle.std.proofs.lemmas.Slice.Eq.{bytes_eq-Decides}
use borrow.Author.Tests.{eqb-true, eq-eqb}
use Rattle.sheet_types.specs.Ordered.{arranged, put, without, has, is_among}
use Rattle.sheet_types.specs.Texts.{kind_of}
use Rattle.sheet_types.specs.World.{Package, item_key, link_key, link_kind, kind_number, base_kind, other_kind}
use Rattle.sheet_types.specs.Lines.{IsUuid}
use Rattle.sheet_types.specs.Register.{HasEnds}
use Rattle.sheet_types.specs.declared.command.Item.{Item}
use Rattle.sheet_types.specs.declared.command.Mapping.{Mapping}
use Rattle.sheet_types.specs.declared.command.Mapping.TheVariants.{TilesMedia, RowsMedia, RowsTiles}
use Rattle.sheet_types.specs.declared.command.Relation.{Relation}
use Rattle.sheet_types.specs.declared.frame.Frame.{Frame}
use Rattle.sheet_types.specs.declared.receipt.MovedKind.{MovedKind}
use Rattle.sheet_types.proofs.Every.{All-weaker, All-each, All-of_map, All-filter, none_pass}
use Rattle.sheet_types.proofs.Order.{list_any-arranged}
use Rattle.sheet_types.proofs.Arranging.{filter-arranged}
use Rattle.sheet_types.proofs.LineReading.{uuid_length}
use Rattle.sheet_types.proofs.Found.{filter_same}
use Rattle.sheet_types.proofs.Same.{In, In-of_map, All-In, any_at}
use Rattle.sheet_types.proofs.Basics.{bytes_eq_itself, bytes_eq_swap, or-false}
use Rattle.package_tables.specs.Package.{Tables}
use Rattle.package_tables.specs.Mappings.{mapping_rows, with_mapping_rows}
use Rattle.package_tables.specs.declared.rows.MappingRow.{MappingRow}
use Rattle.identity_register.specs.Numbering.{Numbered, place_in_tables, number_of, mapping_row, mapping_is, rows_in}
use Rattle.identity_register.specs.Numbering.{with_link, without_link, is_pair}
use Rattle.identity_register.specs.Reads.{Says, SaysLinks, SaysPairs}
use Rattle.identity_register.proofs.Adding.{turned}
use Rattle.identity_register.proofs.Deleting.{filter-flat_map, flat_map-kept, distinct_filter, same_tests}
use Rattle.identity_register.proofs.Deleting.{same_number, place_test}
use Rattle.identity_register.proofs.Finding.{in_range}
use Rattle.identity_register.proofs.MappingTables.{rows_there, own_row, no_row_in, pair_key, table_says}

-- ---- other links

-- what the tables say of all else stays where links are others
says_links : (f : Frame) (p : Package) (t : Tables) (says : Says f p t) (linked links : List Relation)
    (tiles_media rows_media rows_tiles : List MappingRow) → AllByRecursion (HasEnds p) linked
    → SaysLinks says.numbered linked links tiles_media rows_media rows_tiles
    → Says f (record p { links = links }) (record t {
      tiles_media = tiles_media;
      rows_media = rows_media;
      rows_tiles = rows_tiles;
    })
says_links f p t says linked links tiles_media rows_media rows_tiles ends of_links = record {
  good = says.good;
  fixed = says.fixed;
  dated = says.dated;
  created = says.created;
  moment = says.moment;
  fit_head = says.fit_head;
  head = says.head;
  numbered = says.numbered;
  of_items = says.of_items;
  linked = linked;
  ends = ends;
  of_links = of_links;
  entered = says.entered;
  of_receipts = says.of_receipts;
}

-- where one table is another, and holds the rows of other links, and so do the tables of the other mappings as they are
says_in : (f : Frame) (p : Package) (t : Tables) (says : Says f p t) (linked links : List Relation) (m : Mapping)
    (rows : List MappingRow) → AllByRecursion (HasEnds p) linked → IsDistinct bytes_eq (map link_key linked)
    → links ≡ arranged link_key linked
    → SaysPairs m says.numbered linked rows → ((k : Mapping) → mapping_is m k ≡ false
    → mapping_is k m ≡ false
    → SaysPairs k says.numbered linked (mapping_rows k t))
    → Says f (record p { links = links }) (with_mapping_rows m rows t)
says_in f p t says linked links TilesMedia rows ends distinct are here others =
    says_links f p t says linked links rows t.rows_media t.rows_tiles ends
    (record {
      distinct_links = distinct;
      links = are;
      tiles_media = here;
      rows_media = others RowsMedia refl refl;
      rows_tiles = others RowsTiles refl refl;
    })
says_in f p t says linked links RowsMedia rows ends distinct are here others =
    says_links f p t says linked links t.tiles_media rows t.rows_tiles ends
    (record {
      distinct_links = distinct;
      links = are;
      tiles_media = others TilesMedia refl refl;
      rows_media = here;
      rows_tiles = others RowsTiles refl refl;
    })
says_in f p t says linked links RowsTiles rows ends distinct are here others =
    says_links f p t says linked links t.tiles_media t.rows_media rows ends
    (record {
      distinct_links = distinct;
      links = are;
      tiles_media = others TilesMedia refl refl;
      rows_media = others RowsMedia refl refl;
      rows_tiles = here;
    })

-- ---- a link more

pub links : (f : Frame) (p : Package) (t : Tables) (l : Relation) (says : Says f p t)
    → has link_key (link_key l) p.links ≡ false → HasEnds p l
    → Says f (record p { links = put link_key l p.links }) (with_link l.mapping (mapping_row says.numbered l) t)
unfolding IsDistinct
links f p t l says fresh ends =
    says_in f p t says (l ∷ says.linked) (put link_key l p.links) l.mapping
    (put pair_key row (mapping_rows l.mapping t)) (ends, says.ends)
    (turned link_key (link_key l) says.linked apart, says.distinct_links) (ap (put link_key l) says.links)
    (ap (put pair_key row) (table_says f p t says l.mapping)
    ∙ before l.mapping (row ∷ []) (own_row l.mapping says.numbered l refl))
    (λ k differ _. table_says f p t says k ∙ before k [] (no_row_in k says.numbered l differ))
  where
    row : MappingRow
    row = mapping_row says.numbered l

    apart : AllByRecursion (λ x. bytes_eq (link_key x) (link_key l) ≡ false) says.linked
    apart = none_pass (λ x. bytes_eq (link_key x) (link_key l)) says.linked
        (sym (list_any-arranged link_key (λ x. bytes_eq (link_key x) (link_key l)) says.linked)
        ∙ ap (list_any (λ x. bytes_eq (link_key x) (link_key l))) (sym says.links) ∙ fresh)

    -- a table with the rows of the link before those of the others
    before : (k : Mapping) (own : List MappingRow) → rows_in k says.numbered l ≡ own
        → arranged pair_key (own ++ flat_map (rows_in k says.numbered) says.linked)
        ≡ arranged pair_key (flat_map (rows_in k says.numbered) (l ∷ says.linked))
    before k own e = sym (ap (λ r. arranged pair_key (r ++ flat_map (rows_in k says.numbered) says.linked)) e)

-- ---- the numbers of ends

-- two texts, each in two parts
pub bytes_eq_append : (a b c d : List ℕ) → length a ≡ length c
    → bytes_eq (a ++ b) (c ++ d) ≡ (bytes_eq a c && bytes_eq b d)
bytes_eq_append [] b [] d h = refl
bytes_eq_append [] b (y ∷ ys) d h = absurd (grind (arith))
bytes_eq_append (x ∷ xs) b [] d h = absurd (grind (arith))
bytes_eq_append (x ∷ xs) b (y ∷ ys) d h = ap (λ v. (x == y) && v) (bytes_eq_append xs b ys d (grind (arith)))
    ∙ sym (and_assoc (x == y) (bytes_eq xs ys) (bytes_eq b d))
  where
    and_assoc : (u v w : Bool) → ((u && v) && w) ≡ (u && (v && w))
    and_assoc true v w = refl
    and_assoc false v w = refl

pub find_itself : (n : Numbered) (ns : List Numbered) → IsDistinct bytes_eq (map (λ m. m.item.identity) ns)
    → In n ns
    → find (λ m. bytes_eq m.item.identity n.item.identity) ns ≡ Some n
unfolding IsDistinct
find_itself n [] d i = absurd i
find_itself n (m ∷ ms) d i = elim i [
  | inl e ↦ subst (λ y. find (λ x. bytes_eq x.item.identity y.item.identity) (m ∷ ms) ≡ Some y) e
      (rw (bytes_eq_itself m.item.identity) refl)
  | inr j ↦ rw (All-In (λ y. bytes_eq m.item.identity y.item.identity ≡ false) n ms
      (All-of_map _ (λ y. y.item.identity) ms d.0) j) (find_itself n ms d.1 j)
]

module _ (f : Frame) (p : Package) (t : Tables) (says : Says f p t) where
  -- an item that the package has is numbered
  pub numbered_item : (q : Item → Bool) → list_any q p.items ≡ true → (n : Numbered) × In n says.numbered
      × (q n.item ≡ true)
  numbered_item q h =
      let it = any_at q (map (λ m. m.item) says.numbered) (sym
      (list_any-arranged item_key q (map (λ m. m.item) says.numbered)) ∙ ap (list_any q) (sym says.items)
      ∙ h) in
      let n = In-of_map (λ m. m.item) it.0 says.numbered it.1 in
      (n.0, n.1, ap q n.2 ∙ it.2)

  pub number_is : (n : Numbered) → In n says.numbered → number_of says.numbered n.item.identity ≡ n.number
  number_is n i = rw (find_itself n says.numbered says.numbers.identities i) refl

  -- the end of a link: an item of the kind, and its number
  pub end_of : (kind : MovedKind) (id : List ℕ) → has item_key (kind_number kind ∷ id) p.items ≡ true
      → (n : Numbered) × In n says.numbered × (kind_number (kind_of n.item.content) ≡ kind_number kind)
      × (n.item.identity ≡ id) × (number_of says.numbered id ≡ n.number)
  end_of kind id h =
      let it = numbered_item (λ i. bytes_eq (item_key i) (kind_number kind ∷ id)) h in
      let both = and_parts (kind_number (kind_of it.0.item.content) == kind_number kind)
      (bytes_eq it.0.item.identity id) it.2 in
      let named = (bytes_eq-Decides it.0.item.identity id).0 both.1 in (
        it.0,
        it.1,
        eqb-true (kind_number (kind_of it.0.item.content)) (kind_number kind) both.0,
        named,
        ap
            (number_of says.numbered) (sym named) ∙ number_is it.0 it.1,
      )

  -- of two ends of one kind the numbers are the same where the identities are
  pub ends_same : (kind : MovedKind) (a b : List ℕ) → has item_key (kind_number kind ∷ a) p.items ≡ true
      → has item_key (kind_number kind ∷ b) p.items ≡ true
      → (int_eq (number_of says.numbered a) (number_of says.numbered b) ≡ bytes_eq a b) × (length a ≡ length b)
  ends_same kind a b ha hb =
      let m = end_of kind a ha in
      let n = end_of kind b hb in
      let ns = says.numbered in
      let long : (x : Numbered) → In x ns → length x.item.identity ≡ 16 =
      λ x i. uuid_length x.item.identity (All-In (λ y. IsUuid y.item.identity) x ns says.numbers.uuids i) in
      let places = All-In (λ y. bytes_eq (place_in_tables y) (place_in_tables n.0)
      ≡ bytes_eq y.item.identity n.0.item.identity) m.0 ns
      (same_tests place_in_tables (λ y. y.item.identity) n.0 ns says.numbers.numbers says.numbers.identities
      n.1) m.1 in
      let kinds : (kind_number (kind_of m.0.item.content) == kind_number (kind_of n.0.item.content)) ≡ true =
      eq-eqb (kind_number (kind_of m.0.item.content)) (kind_number (kind_of n.0.item.content))
      (m.2 ∙ sym n.2) in
      let place_is : bytes_eq (place_in_tables m.0) (place_in_tables n.0)
      ≡ (unsigned_abs m.0.number == unsigned_abs n.0.number) =
      place_test (kind_number (kind_of m.0.item.content) == kind_number (kind_of n.0.item.content))
      (unsigned_abs m.0.number == unsigned_abs n.0.number) kinds in (
        rw (m.4, n.4) (same_number m.0.number n.0.number (in_range f p t says m.0 m.1) (in_range f p t says n.0 n.1))
            ∙ sym place_is ∙ places ∙ rw (m.3, n.3) refl,
        ap length (sym m.3) ∙ long m.0 m.1 ∙ sym (long n.0 n.1) ∙ ap length n.3,
      )

  pub pair_same : (x l : Relation) → x.mapping ≡ l.mapping → HasEnds p x → HasEnds p l
      → is_pair (mapping_row says.numbered x) (mapping_row says.numbered l) ≡ bytes_eq (link_key x) (link_key l)
  pair_same x l same hx hl =
      let base = ends_same (base_kind l.mapping) x.base l.base
      (subst (λ m. has item_key (kind_number (base_kind m) ∷ x.base) p.items ≡ true) same hx.0) hl.0 in
      let other = ends_same (other_kind l.mapping) x.other l.other
      (subst (λ m. has item_key (kind_number (other_kind m) ∷ x.other) p.items ≡ true) same hx.1) hl.1 in
      ap (λ v. v && int_eq (number_of says.numbered x.other) (number_of says.numbered l.other)) base.0
      ∙ ap (λ v. bytes_eq x.base l.base && v) other.0
      ∙ sym (bytes_eq_append x.base x.other l.base l.other base.1)
      ∙ sym (first (kind_number (link_kind x.mapping) == kind_number (link_kind l.mapping))
      (eq-eqb _ _ (ap (λ m. kind_number (link_kind m)) same)))
    where
      first : (u : Bool) → u ≡ true → (u && bytes_eq (x.base ++ x.other) (l.base ++ l.other))
          ≡ bytes_eq (x.base ++ x.other) (l.base ++ l.other)
      first true h = refl
      first false h = absurd (false≢true h)

-- ---- a link less

-- no list is left of nothing, whatever is kept
nothing_kept : {X : Type 0} (b : Bool) → ◌≡◌ {A = List X} [] (cond b [] [])
nothing_kept true = refl
nothing_kept false = refl

module _ (f : Frame) (p : Package) (t : Tables) (says : Says f p t) (l : Relation) (here : HasEnds p l) where
  abbrev row : MappingRow
  row = mapping_row says.numbered l

  abbrev keep : Relation → Bool
  keep x = not (bytes_eq (link_key x) (link_key l))

  one_goes : (x : Relation) → x.mapping ≡ l.mapping → HasEnds p x
      → filter (λ r. not (is_pair r row)) (mapping_row says.numbered x ∷ [])
      ≡ cond (keep x) (mapping_row says.numbered x ∷ []) []
  one_goes x same hx = ap (λ b. cond (not b) (mapping_row says.numbered x ∷ []) [])
      (pair_same f p t says x l same hx here)

  apart : (x : Relation) (k : Mapping) → x.mapping ≡ k → mapping_is k l.mapping ≡ false → keep x ≡ true
  apart x k e differ = let other : bytes_eq (link_key x) (link_key l) ≡ false =
      rw e (and_left (mapping_is k l.mapping) (bytes_eq (x.base ++ x.other) (l.base ++ l.other)) differ) in ap not
      other

  -- in the table of its mapping the row goes
  row_less : (x : Relation) → HasEnds p x → filter (λ r. not (is_pair r row)) (rows_in l.mapping says.numbered x)
      ≡ cond (keep x) (rows_in l.mapping says.numbered x) []
  row_less x hx = elim (rows_there l.mapping says.numbered x) [
    | inl at ↦ rw at.1 (one_goes x at.0 hx)
    | inr at ↦ rw at.1 (nothing_kept (keep x))
  ]

  -- which the table of another mapping does not have
  row_elsewhere : (k : Mapping) → mapping_is k l.mapping ≡ false → (x : Relation) → keep x ≡ false
      → rows_in k says.numbered x ≡ []
  row_elsewhere k differ x gone = elim (rows_there k says.numbered x) [
    | inl at ↦ absurd (true≢false (sym (apart x k at.0 differ) ∙ gone))
    | inr at ↦ at.1
  ]

  links_less : without link_key (link_key l ∷ []) p.links ≡ arranged link_key (filter keep says.linked)
  links_less =
      ap (filter (λ x. not (is_among (link_key l ∷ []) (link_key x)))) says.links
      ∙ filter-arranged link_key (λ x. not (is_among (link_key l ∷ []) (link_key x))) says.linked
      ∙ ap (arranged link_key) (filter_same (λ x. not (is_among (link_key l ∷ []) (link_key x))) keep says.linked
      (All-each _ (λ x. ap not (or-false (bytes_eq (link_key l) (link_key x))
      ∙ bytes_eq_swap (link_key l) (link_key x))) says.linked))

  -- the link goes, and its row
  pub unlinks : Says f (record p { links = without link_key (link_key l ∷ []) p.links })
      (without_link l.mapping row t)
  unlinks =
      says_in f p t says (filter keep says.linked) (without link_key (link_key l ∷ []) p.links) l.mapping
      (filter (λ r. not (is_pair r row)) (mapping_rows l.mapping t)) (All-filter _ keep says.linked says.ends)
      (distinct_filter link_key keep says.linked says.distinct_links) links_less goes (λ k _ differ. stays k differ)
    where
      goes : SaysPairs l.mapping says.numbered (filter keep says.linked)
          (filter (λ r. not (is_pair r row)) (mapping_rows l.mapping t))
      goes =
          ap (filter (λ r. not (is_pair r row))) (table_says f p t says l.mapping)
          ∙ filter-arranged pair_key (λ r. not (is_pair r row))
          (flat_map (rows_in l.mapping says.numbered) says.linked)
          ∙ ap (arranged pair_key) (filter-flat_map (rows_in l.mapping says.numbered) (λ r. not (is_pair r row)) keep
          says.linked (All-weaker _ _ row_less says.linked says.ends))

      stays : (k : Mapping) → mapping_is k l.mapping ≡ false
          → SaysPairs k says.numbered (filter keep says.linked) (mapping_rows k t)
      stays k differ = table_says f p t says k ∙ sym (ap (arranged pair_key)
          (flat_map-kept (rows_in k says.numbered) keep says.linked
          (All-each _ (row_elsewhere k differ) says.linked)))
