-- The rows of the mapping tables are those of links.
use Rattle.std.proofs.Common.{◌≡◌, ℕ, ℤ, pos, List, [], ◌∷◌, ◌++◌, map, Bool, true, false, cond}
use Rattle.std.proofs.Common.{refl, sym, ap, subst}
use Rattle.std.proofs.Common.{◌∙◌, inl, inr, arith, length}
use Rattle.std.specs.Prelude.{bytes_eq, unsigned_abs, flat_map, ◌==◌}
use Rattle.std.specs.List.{AllByRecursion, IsDistinct, list_any}
use Rattle.std.specs.Ordering.{int_eq}
use Rattle.std.proofs.lemmas.Bool.{true≢false, false_from_ne_true, and_parts, and_from, and_left}
use Rattle.std.proofs.lemmas.Slice.Eq.{bytes_eq-Decides}
use borrow.Author.Tests.{eq-eqb, eqb-true}
use Rattle.sheet_types.specs.Lines.{IsUuid}
use Rattle.sheet_types.specs.Ordered.{arranged, IsArranged, has}
use Rattle.sheet_types.specs.Register.{HasEnds}
use Rattle.sheet_types.specs.Texts.{kind_of}
use Rattle.sheet_types.specs.World.{Package, item_key, link_key, link_kind, kind_number, kind_is, base_kind, other_kind}
use Rattle.sheet_types.specs.declared.command.Item.{Item}
use Rattle.sheet_types.specs.declared.command.Mapping.{Mapping}
use Rattle.sheet_types.specs.declared.command.Relation.{Relation}
use Rattle.sheet_types.specs.declared.receipt.MovedKind.{MovedKind}
use Rattle.sheet_types.proofs.Arranging.{IsInOrder}
use Rattle.sheet_types.proofs.Every.{All-weaker}
use Rattle.sheet_types.proofs.LineReading.{uuid_length}
use Rattle.sheet_types.proofs.Order.{list_any-arranged}
use Rattle.sheet_types.proofs.Same.{In, All-In, In-map, any_at, any_in}
use Rattle.package_tables.specs.Package.{Tables}
use Rattle.package_tables.specs.Mappings.{pair_shape}
use Rattle.package_tables.specs.Shapes.{pair_key}
use Rattle.package_tables.specs.declared.rows.MappingRow.{MappingRow}
use Rattle.identity_register.specs.Numbering.{Numbered, IsNumbering, identity_row, number_of, mapping_row, mapping_is}
use Rattle.identity_register.specs.Numbering.{rows_in, is_pair, is_taken}
use Rattle.identity_register.proofs.Deleting.{same_number}
use Rattle.identity_register.proofs.Linking.{bytes_eq_append, find_itself}
use Rattle.package_items.specs.Ranges.{is_pair_in_range, is_local}
use Rattle.package_items.specs.Tied.{AreTied, has_row, has_ends}
use Rattle.package_items.proofs.Apart.{distinct_keys, distinct_of_map, set_in_order, collected, int_same}
use Rattle.package_items.proofs.Numbers.{named, which}

-- ---- one table

-- the rows of a mapping table have keys of their own
pub pairs_set : (m : Mapping) (table : List MappingRow) → IsInOrder (pair_shape m).key table
    → AllByRecursion (λ r. is_pair_in_range r ≡ true) table → IsDistinct is_pair table
    → IsArranged (pair_shape m).key table
pairs_set m table order range apart = set_in_order (pair_shape m).key table order
    (distinct_keys is_pair (pair_shape m).key (λ r. is_pair_in_range r ≡ true) differ table range apart)
  where
    differ : (x y : MappingRow) → is_pair_in_range x ≡ true → is_pair_in_range y ≡ true
        → is_pair x y ≡ false
        → bytes_eq (pair_key x.base_id x.related_id) (pair_key y.base_id y.related_id) ≡ false
    differ x y hx hy d = false_from_ne_true _ (λ e.
        let same = (bytes_eq-Decides (pair_key x.base_id x.related_id) (pair_key y.base_id y.related_id)).0 e in
        let base : unsigned_abs x.base_id ≡ unsigned_abs y.base_id = cc in
        let other : unsigned_abs x.related_id ≡ unsigned_abs y.related_id = cc in
        let px = and_parts (is_local x.base_id) (is_local x.related_id) hx in
        let py = and_parts (is_local y.base_id) (is_local y.related_id) hy in
        true≢false (sym (and_from (int_eq x.base_id y.base_id) (int_eq x.related_id y.related_id)
        (same_number x.base_id y.base_id px.0 py.0 ∙ eq-eqb _ _ base)
        (same_number x.related_id y.related_id px.1 py.1 ∙ eq-eqb _ _ other)) ∙ d))

-- a row of a kind that has an item has an identity
pub row_taken : (t : Tables) → AreTied t → (kind number : ℤ) → has_row kind number t ≡ true
    → is_taken kind number t ≡ true
row_taken t tied kind number h = elim (which kind number t h) [
  | inl e ↦ let y = any_at (λ x. int_eq x.id number) t.tiles e.1 in from (pos 1) y.0.id e.0
      (int_same y.0.id number y.2) (All-In (λ r. is_taken (pos 1) r.id t ≡ true) y.0 t.tiles tied.tiles y.1)
  | inr other ↦ elim other [
    | inl e ↦ let y = any_at (λ x. int_eq x.id number) t.media e.1 in from (pos 2) y.0.id e.0
        (int_same y.0.id number y.2) (All-In (λ r. is_taken (pos 2) r.id t ≡ true) y.0 t.media tied.media y.1)
    | inr e ↦ let y = any_at (λ x. int_eq x.id number) t.rows e.1 in from (pos 3) y.0.id e.0
        (int_same y.0.id number y.2) (All-In (λ r. is_taken (pos 3) r.id t ≡ true) y.0 t.rows tied.rows y.1)
  ]
]
  where
    from : (k n : ℤ) → kind ≡ k → n ≡ number → is_taken k n t ≡ true → is_taken kind number t ≡ true
    from k n e g taken = subst (λ x. is_taken x number t ≡ true) (sym e)
        (subst (λ x. is_taken k x t ≡ true) g taken)

module _ (t : Tables) (numbered : List Numbered) (rows : map identity_row numbered ≡ t.identities)
    (numbers : IsNumbering numbered) (tied : AreTied t) where
  -- an item of the kind, whose identity this is
  pub record IsEnd (kind : MovedKind) (id : List ℕ) : Type 0 where
    pub item : Numbered
    pub there : In item numbered
    pub of_kind : kind_is kind (kind_of item.item.content) ≡ true
    pub is : item.item.identity ≡ id

  -- a link of the mapping, between items of the package
  pub record Joins (m : Mapping) (l : Relation) : Type 0 where
    pub mapping : l.mapping ≡ m
    pub base : IsEnd (base_kind m) l.base
    pub other : IsEnd (other_kind m) l.other

  number_is : (n : Numbered) → In n numbered → number_of numbered n.item.identity ≡ n.number
  number_is n i = rw (find_itself n numbered numbers.identities i) refl

  link_of_row : (m : Mapping) (r : MappingRow) → has_ends m t r ≡ true → (l : Relation)
      × (mapping_row numbered l ≡ r)
      × Joins m l
  link_of_row m r h =
      let both = and_parts (has_row (pos (kind_number (base_kind m))) r.base_id t)
      (has_row (pos (kind_number (other_kind m))) r.related_id t) h in
      let b = named t numbered rows (base_kind m) r.base_id (row_taken t tied _ r.base_id both.0) in
      let o = named t numbered rows (other_kind m) r.related_id (row_taken t tied _ r.related_id both.1) in
      let base : number_of numbered b.0.item.identity ≡ r.base_id = number_is b.0 b.1 ∙ b.3 in
      let other : number_of numbered o.0.item.identity ≡ r.related_id = number_is o.0 o.1 ∙ o.3 in (
        record { mapping = m; base = b.0.item.identity; other = o.0.item.identity },
        λ n. record { base_id = base n; related_id = other n },
        record {
          mapping = refl;
          base = record { item = b.0; there = b.1; of_kind = b.2; is = refl };
          other = record { item = o.0; there = o.1; of_kind = o.2; is = refl };
        },
      )

  -- the links of a mapping table
  pub links_of : (m : Mapping) (table : List MappingRow) → AllByRecursion (λ r. has_ends m t r ≡ true) table
      → (ls : List Relation) × (map (mapping_row numbered) ls ≡ table) × AllByRecursion (Joins m) ls
  links_of m table h = collected (mapping_row numbered) (λ r. has_ends m t r ≡ true) (Joins m) (link_of_row m)
      table h

  end_uuid : (kind : MovedKind) (id : List ℕ) → IsEnd kind id → IsUuid id
  end_uuid kind id e = subst IsUuid e.is (All-In (λ n. IsUuid n.item.identity) e.item numbered numbers.uuids e.there)

  -- links of one mapping differ where their rows do
  differ : (m : Mapping) (x y : Relation) → Joins m x → Joins m y
      → is_pair (mapping_row numbered x) (mapping_row numbered y) ≡ false
      → bytes_eq (link_key x) (link_key y) ≡ false
  differ m x y hx hy d = false_from_ne_true _ (λ e.
      let ends = (and_parts (kind_number (link_kind x.mapping) == kind_number (link_kind y.mapping))
      (bytes_eq (x.base ++ x.other) (y.base ++ y.other)) e).1 in
      let long : length x.base ≡ length y.base = uuid_length x.base (end_uuid _ x.base hx.base)
      ∙ sym (uuid_length y.base (end_uuid _ y.base hy.base)) in
      let both = and_parts (bytes_eq x.base y.base) (bytes_eq x.other y.other)
      (sym (bytes_eq_append x.base x.other y.base y.other long) ∙ ends) in
      let base : x.base ≡ y.base = (bytes_eq-Decides x.base y.base).0 both.0 in
      let other : x.other ≡ y.other = (bytes_eq-Decides x.other y.other).0 both.1 in
      true≢false (sym (and_from (int_eq (number_of numbered x.base) (number_of numbered y.base))
      (int_eq (number_of numbered x.other) (number_of numbered y.other))
      (alike (number_of numbered x.base) (number_of numbered y.base) (ap (number_of numbered) base))
      (alike (number_of numbered x.other) (number_of numbered y.other) (ap (number_of numbered) other))) ∙ d))
    where
      alike : (a b : ℤ) → a ≡ b → int_eq a b ≡ true
      alike a b e = grind (arith)

  pub keys_apart : (m : Mapping) (ls : List Relation) (table : List MappingRow)
      → map (mapping_row numbered) ls ≡ table → AllByRecursion (Joins m) ls → IsDistinct is_pair table
      → IsDistinct bytes_eq (map link_key ls)
  keys_apart m ls table are joins apart = distinct_keys _ link_key (Joins m) (differ m) ls joins
      (distinct_of_map is_pair (mapping_row numbered) ls (subst (IsDistinct is_pair) (sym are) apart))

  -- links of two mappings differ
  pub others_apart : (m k : Mapping) → mapping_is m k ≡ false → (xs ys : List Relation)
      → AllByRecursion (Joins m) xs
      → AllByRecursion (Joins k) ys → AllByRecursion (λ x. AllByRecursion
      (λ y. bytes_eq (link_key x) (link_key y) ≡ false) ys) xs
  others_apart m k two xs ys hx hy = All-weaker (Joins m) _ (λ x jx. All-weaker (Joins k) _
      (λ y jy. and_left (kind_number (link_kind x.mapping) == kind_number (link_kind y.mapping))
      (bytes_eq (x.base ++ x.other) (y.base ++ y.other)) (ap (λ v. mapping_is v y.mapping) jx.mapping
      ∙ ap (mapping_is m) jy.mapping ∙ two)) ys hy) xs hx

  -- the rows that links of one mapping have in the table of a mapping
  pub rows_of_links : (m k : Mapping) (ls : List Relation) → AllByRecursion (Joins k) ls
      → flat_map (rows_in m numbered) ls ≡ cond (mapping_is k m) (map (mapping_row numbered) ls) []
  rows_of_links m k ls joins = one (mapping_is k m) refl ls joins
    where
      one : (b : Bool) → mapping_is k m ≡ b → (ls : List Relation) → AllByRecursion (Joins k) ls
          → flat_map (rows_in m numbered) ls ≡ cond b (map (mapping_row numbered) ls) []
      one true e [] h = refl
      one false e [] h = refl
      one true e (l ∷ ls) h = ap (λ b. cond b (mapping_row numbered l ∷ []) [] ++ flat_map (rows_in m numbered) ls)
          (ap (λ v. mapping_is v m) h.0.mapping ∙ e) ∙ ap (λ rest. mapping_row numbered l ∷ rest)
          (one true e ls h.1)
      one false e (l ∷ ls) h = ap (λ b. cond b (mapping_row numbered l ∷ []) []
          ++ flat_map (rows_in m numbered) ls)
          (ap (λ v. mapping_is v m) h.0.mapping ∙ e) ∙ one false e ls h.1

  -- ---- ends

  end_there : (p : Package) → p.items ≡ arranged item_key (map (λ n. n.item) numbered)
      → (kind : MovedKind) (id : List ℕ) → IsEnd kind id → has item_key (kind_number kind ∷ id) p.items
      ≡ true
  end_there p items kind id e =
      let test = λ (i : Item). bytes_eq (item_key i) (kind_number kind ∷ id) in
      let kinds : kind_number (kind_of e.item.item.content) ≡ kind_number kind =
      sym (eqb-true (kind_number kind) (kind_number (kind_of e.item.item.content)) e.of_kind) in
      let same : item_key e.item.item ≡ kind_number kind ∷ id = λ n. kinds n ∷ e.is n in
      ap (list_any test) items ∙ list_any-arranged item_key test (map (λ n. n.item) numbered)
      ∙ any_in test e.item.item (map (λ n. n.item) numbered) (In-map (λ n. n.item) e.item numbered e.there)
      ((bytes_eq-Decides (item_key e.item.item) (kind_number kind ∷ id)).1 same)

  pub ends_there : (p : Package) → p.items ≡ arranged item_key (map (λ n. n.item) numbered)
      → (m : Mapping) (ls : List Relation) → AllByRecursion (Joins m) ls → AllByRecursion (HasEnds p) ls
  ends_there p items m ls joins = All-weaker (Joins m) (HasEnds p) (λ l j. (
    subst (λ v. has item_key (kind_number (base_kind v) ∷ l.base) p.items ≡ true) (sym j.mapping)
        (end_there p items (base_kind m) l.base j.base),
    subst (λ v. has item_key (kind_number (other_kind v) ∷ l.other) p.items ≡ true) (sym j.mapping)
        (end_there p items (other_kind m) l.other j.other),
  )) ls joins
