-- What a cut asks of a package: from the rows of ranges and of ends to identities and links.
use Rattle.std.proofs.Common.{◌≡◌, ℕ, ℤ, pos, List, [], ◌∷◌, ◌++◌, map, cond, Bool, true, false}
use Rattle.std.proofs.Common.{Result, Ok, Err}
use Rattle.std.proofs.Common.{IsTrue, refl, sym, ap, subst, ◌∙◌, true≢false, inl, inr, arith, Ordering, Less}
use Rattle.std.proofs.Common.{Equal}
use Rattle.std.proofs.Common.{Greater}
use Rattle.std.specs.Prelude.{◌⊎◌, ◌&&◌, ◌||◌, if◌then◌else◌, filter, flat_map, bytes_eq}
use Rattle.std.specs.Prelude.{unsigned_abs, Contains}
use Rattle.std.specs.Prelude.{IfOk, IsPermutation, int_le, int_lt}
use Rattle.std.specs.List.{AllByRecursion, AllZip, list_any}
use Rattle.std.specs.Ordering.{int_eq, nat_cmp, ordering_then, ordering_reverse, is_lt}
use Rattle.std.specs.Cmp.Lexicographic.{slice_cmp}
use Rattle.std.proofs.lemmas.Cmp.{nat_cmp_total}
use Rattle.std.proofs.lemmas.List.Sorted.{IsPermutation-refl, IsPermutation-sym}
use Rattle.std.proofs.lemmas.Slice.Eq.{bytes_eq-Decides}
use Rattle.std.proofs.Math.Nat.{le_refl}
use Rattle.sqlite.specs.Held.{Held, state}
use Rattle.sqlite.specs.Store.{Ghosts}
use Rattle.sqlite.specs.State.{State, HasCleanDisk}
use Rattle.store_sql.specs.Staying.{Stays}
use Rattle.store_sql.specs.Transactions.{Looks, Rests}
use Rattle.store_sql.proofs.Staying.{looks_stays, stays_then}
use Rattle.store_sql.proofs.Transactions.{Shuts, Settles, at_rest}
use Rattle.sheet_types.specs.Cut.{identities, has_end}
use Rattle.sheet_types.specs.Lines.{IsUuid}
use Rattle.sheet_types.specs.Ordered.{arranged, is_before, IsArranged}
use Rattle.sheet_types.specs.Register.{HasEnds}
use Rattle.sheet_types.specs.Texts.{uuid_text, kind_of}
use Rattle.sheet_types.specs.World.{Package, item_key, link_key, kind_number, base_kind, other_kind, has_item, has_kind}
use Rattle.sheet_types.specs.declared.command.Content.{Content}
use Rattle.sheet_types.specs.declared.command.Content.TheVariants.{Tile, Media, Row}
use Rattle.sheet_types.specs.declared.command.Item.{Item}
use Rattle.sheet_types.specs.declared.command.Mapping.{Mapping}
use Rattle.sheet_types.specs.declared.command.Mapping.TheVariants.{TilesMedia, RowsMedia, RowsTiles}
use Rattle.sheet_types.specs.declared.command.Relation.{Relation}
use Rattle.sheet_types.specs.declared.frame.Frame.{Frame}
use Rattle.sheet_types.specs.declared.frame.Ground.{Ground}
use Rattle.sheet_types.specs.declared.receipt.MovedKind.{MovedKind}
use Rattle.sheet_types.specs.declared.receipt.MovedKind.TheVariants.{TileItem, RowItem}
use Rattle.sheet_types.proofs.Basics.{or-false}
use Rattle.sheet_types.proofs.Every.{All-weaker}
use Rattle.sheet_types.proofs.KindNumbers.{same_mapping}
use Rattle.sheet_types.proofs.Order.{filter_arranged}
use Rattle.sheet_types.proofs.Same.{In, In-all, In-filter, In-map, In-of_map, In-append, In-of_append, In-flat_map}
use Rattle.sheet_types.proofs.Same.{In-of_flat_map, same_list}
use Rattle.matrix_rules.specs.declared.spans.Span.{Span}
use Rattle.package_tables.specs.Calls.{Answers, AreThose, AreNumbersOf}
use Rattle.package_tables.specs.Package.{Tables, tables_of, AreFormed}
use Rattle.package_tables.specs.Mappings.{mapping_rows}
use Rattle.package_tables.specs.Shapes.{tile_shape, attribute_shape}
use Rattle.package_tables.specs.declared.rows.AttributeRow.{AttributeRow}
use Rattle.package_tables.specs.declared.rows.IdentityRow.{IdentityRow}
use Rattle.package_tables.specs.declared.rows.MappingRow.{MappingRow}
use Rattle.package_tables.specs.declared.rows.TileRow.{TileRow}
use Rattle.identity_register.specs.Answers.{is_end, AreMappingsOf}
use Rattle.identity_register.specs.Calls.{Sees}
use Rattle.identity_register.specs.Gathered.{IsNamed, IsLinkOf}
use Rattle.identity_register.specs.Numbering.{Numbered, identity_row, number_of, mapping_row, mapping_is, tile_rows}
use Rattle.identity_register.specs.Numbering.{attribute_rows}
use Rattle.identity_register.specs.Reach.{stands_in, lies_on, tiles_in, rows_in, links_of, number_at, AreLinksAt}
use Rattle.identity_register.specs.Reach.{Asks, ShowsPackage}
use Rattle.identity_register.specs.Reads.{Says, Reads}
use Rattle.identity_register.proofs.Answering.{item_of_row}
use Rattle.identity_register.proofs.Contents.{int_same, one_place}
use Rattle.identity_register.proofs.Deleting.{pos_same}
use Rattle.identity_register.proofs.Ends.{first_end, second_end, end_is, item_of_kind}
use Rattle.identity_register.proofs.Finding.{in_arranged, moved, no_row_of_uuid}
use Rattle.identity_register.proofs.Gathering.{zip_left, zip_right, row_item, link_is, link_of_row, row_of_link}
use Rattle.identity_register.proofs.Gathering.{ends_of}
use Rattle.identity_register.proofs.Looking.{Looked, sees, fails}
use Rattle.identity_register.proofs.OnePackage.{to_arranged, distinct_arranged, row_stored, items_arranged}

-- ---- calls that go on from others

-- what some calls have found in the tables so far, where the store was open before
pub record GoesOn (Fact : Tables → Type 0) (old new : State) : Type 0 where
  pub stays : Stays old new
  pub told : HasCleanDisk new → IsTrue old.is_open → IsTrue new.is_open × (new.now ≡ old.now)
      × (AreFormed old.now → Fact (tables_of old.now))

-- a store at rest stays as it is
pub stays_itself : {S : Type 0} (g : Ghosts S) (shuts : Shuts g) (settles : Settles g) (h : Held S)
    → Rests (state g h) → Stays (state g h) (state g h)
stays_itself g shuts settles h rests = record {
  rests = rests;
  was_open = λ is_open. is_open;
  holds = λ is_open. at_rest g shuts settles h rests is_open;
  survives = record {
    clean = le_refl _;
    shield = λ s. s;
    counts = le_refl _;
    limit = refl;
    closes = λ clean is_open. inl is_open;
    crash = λ clean db may. inl may;
  };
}

-- no call yet
pub goes_from : {Fact : Tables → Type 0} {s : State} → Stays s s → ((t : Tables) → Fact t) → GoesOn Fact s s
goes_from stays fact = record { stays = stays; told = λ clean is_open. (is_open, refl, λ formed. fact _) }

-- one call more
pub goes_on : {X E : Type 0} {Fact Next : Tables → Type 0} (Answer : Tables → X → Type 0) {a b c : State}
    {r : Result X E} {x : X} → GoesOn Fact a b → r ≡ Ok x → Looks {X = X} {E = E} (Answers Answer) b c r
    → ((t : Tables) → Fact t → Answer t x → Next t) → GoesOn Next a c
goes_on {X} {E} {Fact} {Next} Answer {a} {b} {c} {r} {x} first is looks so = record {
  stays = stays_then first.stays (looks_stays it);
  told = λ clean is_open.
      let before : HasCleanDisk b = omega (arith, it.survives.clean, clean) in
      let d = first.told before is_open in
      let e = it.done clean in (
        e.0,
        e.1.0 ∙ d.1,
        λ formed. so (tables_of a.now) (d.2 formed)
            (subst (λ db. Answer (tables_of db) x) d.1 (e.1.1 (subst AreFormed (sym d.1) formed))),
      );
}
  where
    it : Looks {X = X} {E = E} (Answers Answer) b c (Ok x)
    it = subst (Looks (Answers Answer) b c) is looks

-- calls that answered, after one that did
pub looked_on : {X E : Type 0} {Fact : Tables → Type 0} (Answer : Tables → X → Type 0) {a b c : State}
    {r : Result X E} {x : X} → Looked Fact a b → r ≡ Ok x → Stays b c
    → (HasCleanDisk c → IsTrue b.is_open → IfOk r (λ y. IsTrue c.is_open × Answers Answer y b.now c.now))
    → Looked (λ t. Fact t × Answer t x) a c
looked_on {X} {E} {Fact} Answer {a} {b} {c} {r} {x} first is stays answered = record {
  stays = stays_then first.stays stays;
  told = λ clean.
      let before : HasCleanDisk b = omega (arith, stays.survives.clean, clean) in
      let d = first.told before in
      let e : IsTrue c.is_open × Answers Answer x b.now c.now =
      subst (λ v. IfOk v (λ y. IsTrue c.is_open × Answers Answer y b.now c.now)) is (answered clean d.0) in (
        e.0,
        e.1.0 ∙ d.1,
        λ formed. (
          d.2 formed,
          subst (λ db. Answer (tables_of db) x) d.1
              (e.1.1 (subst AreFormed (sym d.1) formed)),
        ),
      );
}

-- what was looked at says by a last value what the package has
pub sees_if : {X E : Type 0} {Fact : Tables → Type 0} {Answer : Frame → Package → X → Type 0} {old new : State}
    (r : Result X E) → Looked Fact old new
    → ((x : X) → r ≡ Ok x → (f : Frame) (p : Package) (t : Tables) → Says f p t → Fact t → Answer f p x)
    → Looks {X = X} {E = E} (Sees Answer) old new r
sees_if (Ok x) it so = sees it (so x refl)
sees_if (Err e) it so = fails (Err e) refl it.stays

-- ---- lists

In-of_filter : {X : Type 0} (t : X → Bool) (x : X) (xs : List X) → In x (filter t xs) → In x xs × (t x ≡ true)
In-of_filter t x [] i = absurd i
In-of_filter t x (y ∷ ys) i = one (t y) refl i (In-of_filter t x ys)
  where
    one : (b : Bool) → t y ≡ b → In x (cond b (y ∷ filter t ys) (filter t ys))
        → (In x (filter t ys) → In x ys × (t x ≡ true)) → In x (y ∷ ys) × (t x ≡ true)
    one true e i more = elim i [
      | inl same ↦ (inl same, ap t (sym same) ∙ e)
      | inr later ↦ let it =
          more later in (inr it.0, it.1)
    ]
    one false e i more = let it = more i in (inr it.0, it.1)

-- rows that were asked for pass
those_pass : {R : Type 0} (keeps : R → Bool) (rows found : List R) → AreThose keeps rows found
    → AllByRecursion (λ r. keeps r ≡ true) found
those_pass keeps rows found those = All-weaker (λ r. In r found) (λ r. keeps r ≡ true)
    (λ r i. (In-of_filter keeps r rows (moved r found (filter keeps rows)
    (IsPermutation-sym (filter keeps rows) found those) i)).1) found (In-all found)

equal_itself : (o : Ordering) → o ≡ ordering_reverse o → o ≡ Equal
equal_itself Less h = absurd cc
equal_itself Equal h = refl
equal_itself Greater h = absurd cc

-- items of one kind are in the order of their identities
kind_alike : (k : ℕ) (a b : List ℕ) → is_before (k ∷ a) (k ∷ b) ≡ is_before a b
kind_alike k a b = ap (λ o. is_lt (ordering_then o (slice_cmp nat_cmp a b)))
    (equal_itself (nat_cmp k k) (nat_cmp_total.antisymm k k))

of_one_kind : (k : ℕ) (xs : List Item) → IsArranged item_key xs
    → AllByRecursion (λ i. kind_number (kind_of i.content) ≡ k) xs → IsArranged (λ id. id) (identities xs)
of_one_kind k [] h all = tt
of_one_kind k (x ∷ xs) h all = (each xs h.0 all.1, of_one_kind k xs h.1 all.1)
  where
    each : (ys : List Item) → AllByRecursion (λ y. is_before (item_key x) (item_key y) ≡ true) ys
        → AllByRecursion (λ i. kind_number (kind_of i.content) ≡ k) ys
        → AllByRecursion (λ id. is_before x.identity id ≡ true) (identities ys)
    each [] before kinds = tt
    each (y ∷ ys) before kinds = (
      sym (kind_alike k x.identity y.identity) ∙ ap (λ v. is_before (v ∷ x.identity) (k ∷ y.identity))
          (sym all.0)
          ∙ ap (λ v. is_before (item_key x) (v ∷ y.identity)) (sym kinds.0) ∙ before.0,
      each ys before.1 kinds.1,
    )

-- ---- items by the rows of one table

-- what is asked of the rows
abbrev pub is_between : ℤ → Span → TileRow → Bool
is_between z s x = int_eq x.zoom_level z && int_le s.column x.tile_column && int_le x.tile_column s.last_column &&
    int_le s.row x.tile_row && int_le x.tile_row s.last_row

abbrev pub is_on : Ground → AttributeRow → Bool
is_on g x = int_le g.west x.x && int_lt x.x g.east && int_lt g.south x.y && int_le x.y g.north

module _ (f : Frame) (p : Package) (t : Tables) (says : Says f p t) where
  item_in : (n : Numbered) → In n says.numbered → In n.item p.items
  item_in n i = subst (In n.item) (sym says.items) (to_arranged item_key n.item (map (λ m. m.item) says.numbered)
      (In-map (λ m. m.item) n says.numbered i))

  module _ {R : Type 0} (kind : MovedKind) (number : R → ℤ) (rows : ℤ → Content → List R)
      (key : R → List ℕ)
      (table : List R) (is : table ≡ arranged key (flat_map (λ n. rows n.number n.item.content) says.numbered))
      (keeps : R → Bool) (test : Content → Bool)
      (of : (k : ℤ) (content : Content) (r : R) → In r (rows k content) → (k ≡ number r)
      × (kind_of content ≡ kind)
      × (keeps r ≡ test content)) (row : (k : ℤ) (content : Content) → test content ≡ true → (r : R)
      × In r (rows k content)) where
    abbrev passing : List Item
    passing = filter (λ i. test i.content) p.items

    -- those that pass are of the kind of the table
    kinds : AllByRecursion (λ i. kind_number (kind_of i.content) ≡ kind_number kind) passing
    kinds = All-weaker (λ i. In i passing) (λ i. kind_number (kind_of i.content) ≡ kind_number kind)
        (λ i here. let passes = (In-of_filter (λ i. test i.content) i p.items here).1 in let r =
        row (pos 0) i.content passes in ap kind_number (of (pos 0) i.content r.0 r.1).1) passing (In-all passing)

    pub names_are : (asked : List ℤ) (names found : List (List ℕ)) → AreNumbersOf number keeps table asked
        → AllZip (IsNamed t.identities (pos (kind_number kind))) asked names → IsPermutation names found
        → IsArranged (λ id. id) found
        → found ≡ identities (filter (λ i. test i.content) p.items)
    names_are asked names found those named moves order =
        same_list (λ id. id) found (identities passing) order
        (of_one_kind (kind_number kind) passing (filter_arranged item_key (λ i. test i.content) p.items
        (items_arranged f t p says)) kinds) to fro
      where
        IsOf : ℤ → List ℕ → Type 0
        IsOf = IsNamed t.identities (pos (kind_number kind))

        -- the item of a name, where the content of its row is that of another
        one_item : (x : ℤ) (id : List ℕ) → IsOf x id → (m : Numbered) → In m says.numbered
            → kind_of m.item.content ≡ kind → m.number ≡ x → m.item.identity ≡ id
        one_item x id it m i k e =
            let n = row_item f p t says it.row it.there id it.identity it.fit in
            let kinds : kind_number (kind_of n.0.item.content) ≡ kind_number (kind_of m.item.content) =
            ap unsigned_abs (ap (λ r. r.kind) n.2 ∙ it.kind_is) ∙ ap kind_number (sym k) in
            let numbers : n.0.number ≡ m.number = ap (λ r. r.local_id) n.2 ∙ it.number_is ∙ sym e in
            sym (ap (λ x. x.item.identity) (one_place f p t says n.0 m n.1 i kinds numbers)) ∙ n.3

        to : (id : List ℕ) → In id found → In id (identities passing)
        to id i =
            let a = zip_right IsOf id asked names named (moved id found names (IsPermutation-sym names found moves)
            i) in
            let r = In-of_map number a.0 (filter keeps table)
            (moved a.0 asked (map number (filter keeps table))
            (IsPermutation-sym (map number (filter keeps table)) asked those) a.1) in
            let kept = In-of_filter keeps r.0 table r.1 in
            let m = In-of_flat_map (λ n. rows n.number n.item.content) r.0 says.numbered
            (in_arranged key (flat_map (λ n. rows n.number n.item.content) says.numbered) r.0
            (subst (In r.0) is kept.0)) in
            let o = of m.0.number m.0.item.content r.0 m.2 in
            let same : m.0.item.identity ≡ id = one_item a.0 id a.2 m.0 m.1 o.1 (o.0 ∙ r.2) in
            subst (λ v. In v (identities passing)) same (In-map (λ i. i.identity) m.0.item passing
            (In-filter (λ i. test i.content) m.0.item p.items (item_in m.0 m.1) (sym o.2 ∙ kept.1)))

        fro : (id : List ℕ) → In id (identities passing) → In id found
        fro id i =
            let x = In-of_map (λ i. i.identity) id passing i in
            let y = In-of_filter (λ i. test i.content) x.0 p.items x.1 in
            let n = In-of_map (λ m. m.item) x.0 says.numbered
            (in_arranged item_key (map (λ m. m.item) says.numbered) x.0 (subst (In x.0) says.items y.0)) in
            let passes : test n.0.item.content ≡ true = ap (λ v. test v.content) n.2 ∙ y.1 in
            let r = row n.0.number n.0.item.content passes in
            let o = of n.0.number n.0.item.content r.0 r.1 in
            let stored : In r.0 table = subst (In r.0) (sym is)
            (to_arranged key r.0 (flat_map (λ n. rows n.number n.item.content) says.numbered)
            (In-flat_map (λ n. rows n.number n.item.content) n.0 r.0 says.numbered n.1 r.1)) in
            let here = moved (number r.0) (map number (filter keeps table)) asked those
            (In-map number r.0 (filter keeps table) (In-filter keeps r.0 table stored (o.2 ∙ passes))) in
            let a = zip_left IsOf (number r.0) asked names named here in
            let same : n.0.item.identity ≡ a.0 = one_item (number r.0) a.0 a.2 n.0 n.1 o.1 o.0 in
            subst (λ v. In v found) (sym same ∙ ap (λ v. v.identity) n.2 ∙ x.2) (moved a.0 names found moves a.1)

  -- ---- tiles

  five : (a b c d e : Bool) → (a && b && c && d && e) ≡ (a && ((b && c) && (d && e)))
  five false b c d e = refl
  five true false c d e = refl
  five true true false d e = refl
  five true true true d e = refl

  tile_of : (z : ℤ) (s : Span) (k : ℤ) (content : Content) (r : TileRow) → In r (tile_rows k content)
      → (k ≡ r.id)
      × (kind_of content ≡ TileItem) × (is_between z s r ≡ stands_in z s content)
  tile_of z s k (Tile zoom c w b) r i = elim i [
    | inl e ↦ (
      ap (λ x. x.id) e,
      refl,
      ap (is_between z s) (sym e)
          ∙ five (int_eq zoom z) (int_le s.column c) (int_le c s.last_column) (int_le s.row w) (int_le w s.last_row),
    )
    | inr j ↦ absurd j
  ]
  tile_of z s k (Media c b) r i = absurd i
  tile_of z s k (Row x y c l) r i = absurd i

  tile_row : (z : ℤ) (s : Span) (k : ℤ) (content : Content) → stands_in z s content ≡ true → (r : TileRow)
      × In r (tile_rows k content)
  tile_row z s k (Tile zoom c w b) h = (
    record {
      id = k;
      zoom_level = zoom;
      tile_column = c;
      tile_row = w;
      tile_data = b;
    },
    inl refl,
  )
  tile_row z s k (Media c b) h = absurd (true≢false (sym h))
  tile_row z s k (Row x y c l) h = absurd (true≢false (sym h))

  pub tiles_are : (z : ℤ) (s : Span) (asked : List ℤ) (names found : List (List ℕ))
      → AreNumbersOf (λ x. x.id) (is_between z s) t.tiles asked → AllZip (IsNamed t.identities (pos 1)) asked names
      → IsPermutation names found → IsArranged (λ id. id) found
      → found ≡ tiles_in p z s
  tiles_are z s = names_are TileItem (λ x. x.id) tile_rows tile_shape.key t.tiles says.tiles (is_between z s)
      (stands_in z s) (tile_of z s) (tile_row z s)

  -- ---- rows

  row_of : (g : Ground) (k : ℤ) (content : Content) (r : AttributeRow) → In r (attribute_rows k content)
      → (k ≡ r.id)
      × (kind_of content ≡ RowItem) × (is_on g r ≡ lies_on g content)
  row_of g k (Tile z c w b) r i = absurd i
  row_of g k (Media c b) r i = absurd i
  row_of g k (Row x y c l) r i = elim i [
    | inl e ↦ (ap (λ x. x.id) e, refl, ap (is_on g) (sym e))
    | inr j
        ↦ absurd j
  ]

  row_row : (g : Ground) (k : ℤ) (content : Content) → lies_on g content ≡ true → (r : AttributeRow)
      × In r (attribute_rows k content)
  row_row g k (Tile z c w b) h = absurd (true≢false (sym h))
  row_row g k (Media c b) h = absurd (true≢false (sym h))
  row_row g k (Row x y c l) h = (record { id = k; x = x; y = y; code = c; label = l }, inl refl)

  pub rows_are : (g : Ground) (asked : List ℤ) (names found : List (List ℕ))
      → AreNumbersOf (λ x. x.id) (is_on g) t.rows asked → AllZip (IsNamed t.identities (pos 3)) asked names
      → IsPermutation names found → IsArranged (λ id. id) found
      → found ≡ rows_in p g
  rows_are g = names_are RowItem (λ x. x.id) attribute_rows attribute_shape.key t.rows says.rows (is_on g) (lies_on g)
      (row_of g) (row_row g)

  -- ---- links

  links_arranged : IsArranged link_key p.links
  links_arranged = subst (IsArranged link_key) (sym says.links)
      (distinct_arranged link_key says.linked says.distinct_links)

  link_in : (l : Relation) → In l p.links → In l says.linked
  link_in l i = in_arranged link_key says.linked l (subst (In l) says.links i)

  -- an identity without a row is at no link
  pub no_links : (id : List ℕ) → list_any (λ r. bytes_eq r.uuid (uuid_text id)) t.identities ≡ false
      → [] ≡ links_of p id
  no_links id none = same_list link_key [] (links_of p id) tt
      (filter_arranged link_key (has_end id) p.links links_arranged) (λ l i. absurd i)
      (λ l i. absurd (never l (In-of_filter (has_end id) l p.links i)))
    where
      -- no item has the identity
      unknown : (kind : MovedKind) (x : List ℕ) → has_kind p kind x ≡ true → bytes_eq x id ≡ true → ⊥
      unknown kind x here e = true≢false (sym (item_of_kind f p t says kind x here)
          ∙ ap (has_item p) ((bytes_eq-Decides x id).0 e) ∙ no_row_of_uuid f p t says id none)

      either : (a b : Bool) → (a || b) ≡ true → (a ≡ true) ⊎ (b ≡ true)
      either true b h = inl refl
      either false b h = inr h

      never : (l : Relation) → In l p.links × (has_end id l ≡ true) → ⊥
      never l here =
          let ends = ends_of f p t says l (link_in l here.0) in
          elim (either (bytes_eq l.base id) (bytes_eq l.other id) here.1) [
            | inl e ↦ unknown (base_kind l.mapping) l.base ends.0 e
            | inr e
                ↦ unknown (other_kind l.mapping) l.other ends.1 e
          ]

  module _ (id : List ℕ) (n : Numbered) (i : In n says.numbered) (named : n.item.identity ≡ id)
      (fit : IsUuid id) where
    abbrev kind : ℤ
    kind = (identity_row n).kind

    name : IsNamed t.identities kind n.number id
    name = record {
      row = identity_row n;
      there = row_stored f t p says n i;
      kind_is = refl;
      number_is = refl;
      identity = ap uuid_text named;
      fit = fit;
    }

    -- an end of the kind is the item where it has its number, and another end is not
    end_told : (k : MovedKind) (x : List ℕ) → has_kind p k x ≡ true → (b : Bool)
        → int_eq (pos (kind_number k)) kind ≡ b → (b && int_eq (number_of says.numbered x) n.number)
        ≡ bytes_eq x id
    end_told k x here b e =
        ap (λ v. v && int_eq (number_of says.numbered x) n.number)
        (sym e ∙ pos_same (kind_number k) (kind_number (kind_of n.item.content))) ∙ end_is f p t says n i k x here
        ∙ ap (bytes_eq x) named

    two_kinds : (m : Mapping) (k : ℤ) → int_eq (pos (kind_number (base_kind m))) k ≡ true
        → int_eq (pos (kind_number (other_kind m))) k ≡ true → ⊥
    two_kinds TilesMedia k g h = true≢false (sym (subst (λ v. int_eq (pos 1) v ≡ true)
        (sym (int_same (pos 2) k h)) g))
    two_kinds RowsMedia k g h = true≢false (sym (subst (λ v. int_eq (pos 3) v ≡ true)
        (sym (int_same (pos 2) k h)) g))
    two_kinds RowsTiles k g h = true≢false (sym (subst (λ v. int_eq (pos 3) v ≡ true)
        (sym (int_same (pos 1) k h)) g))

    at_end : (l : Relation) → HasEnds p l → is_end l.mapping kind ≡ true
        → int_eq (number_at l.mapping kind (mapping_row says.numbered l)) n.number ≡ has_end id l
    at_end l ends end = one (int_eq (pos (kind_number (base_kind l.mapping))) kind) refl
        (int_eq (pos (kind_number (other_kind l.mapping))) kind) refl end
      where
        one : (b : Bool) → int_eq (pos (kind_number (base_kind l.mapping))) kind ≡ b → (c : Bool)
            → int_eq (pos (kind_number (other_kind l.mapping))) kind ≡ c → (b || c) ≡ true
            → int_eq (if b then number_of says.numbered l.base else number_of says.numbered l.other) n.number
            ≡ (bytes_eq l.base id || bytes_eq l.other id)
        one true e true g h = absurd (two_kinds l.mapping kind e g)
        one true e false g h = end_told (base_kind l.mapping) l.base ends.0 true e
            ∙ sym (or-false (bytes_eq l.base id)) ∙ ap (λ v. bytes_eq l.base id || v)
            (end_told (other_kind l.mapping) l.other ends.1 false g)
        one false e true g h = end_told (other_kind l.mapping) l.other ends.1 true g
            ∙ ap (λ v. v || bytes_eq l.other id) (end_told (base_kind l.mapping) l.base ends.0 false e)
        one false e false g h = absurd (true≢false (sym h))

    -- a link that has the item at an end is of a mapping of its kind
    end_of_kind : (l : Relation) → HasEnds p l → has_end id l ≡ true → is_end l.mapping kind ≡ true
    end_of_kind l ends h =
        some (int_eq (pos (kind_number (base_kind l.mapping))) kind)
        (int_eq (number_of says.numbered l.base) n.number)
        (int_eq (pos (kind_number (other_kind l.mapping))) kind)
        (int_eq (number_of says.numbered l.other) n.number)
        (ap (λ v. v || (int_eq (pos (kind_number (other_kind l.mapping))) kind && int_eq
        (number_of says.numbered l.other) n.number)) (end_told (base_kind l.mapping) l.base ends.0 _ refl)
        ∙ ap (λ v. bytes_eq l.base id || v) (end_told (other_kind l.mapping) l.other ends.1 _ refl) ∙ h)
      where
        some : (b u c v : Bool) → ((b && u) || (c && v)) ≡ true → (b || c) ≡ true
        some true u c v h = refl
        some false u true v h = refl
        some false u false v h = h

    -- the links of a mapping at the item, as rows and as they were made
    abbrev AreMade : Mapping → List Relation → Type 0
    AreMade m made = (stored : List MappingRow) × AreThose (λ r. int_eq (number_at m kind r) n.number)
        (mapping_rows m t) stored × AllZip (IsLinkOf m t.identities) stored made

    made_in : (m : Mapping) (made : List Relation) → is_end m kind ≡ true → AreMade m made → (x : Relation)
        → In x made → In x (links_of p id)
    made_in m made end (stored, those, zipped) x j =
        let it = zip_right (IsLinkOf m t.identities) x stored made zipped j in
        let r = In-of_filter (λ r. int_eq (number_at m kind r) n.number) it.0 (mapping_rows m t)
        (moved it.0 stored (filter (λ r. int_eq (number_at m kind r) n.number) (mapping_rows m t))
        (IsPermutation-sym (filter (λ r. int_eq (number_at m kind r) n.number) (mapping_rows m t)) stored
        those) it.1) in
        let l = link_of_row f p t says m it.0 r.0 in
        let ends = ends_of f p t says l.0 l.1 in
        let row : MappingRow = mapping_row says.numbered l.0 in
        let same : x ≡ l.0 = link_is f p t says t.identities (IsPermutation-refl t.identities) l.0 x ends
        (subst (λ k. IsLinkOf k t.identities row x) (sym l.2)
        (subst (λ r. IsLinkOf m t.identities r x) (sym l.3) it.2)) in
        let number : int_eq (number_at l.0.mapping kind row) n.number ≡ true =
        subst (λ k. int_eq (number_at k kind row) n.number ≡ true) (sym l.2)
        (subst (λ r. int_eq (number_at m kind r) n.number ≡ true) (sym l.3) r.1) in
        let has : has_end id l.0 ≡ true = sym (at_end l.0 ends (subst (λ k. is_end k kind ≡ true) (sym l.2) end))
        ∙ number in
        let here : In l.0 p.links = subst (In l.0) (sym says.links) (to_arranged link_key l.0 says.linked l.1) in
        subst (λ y. In y (links_of p id)) (sym same) (In-filter (has_end id) l.0 p.links here has)

    is_made : (m : Mapping) (made : List Relation) → AreMade m made → (l : Relation) → In l says.linked
        → l.mapping ≡ m → is_end l.mapping kind ≡ true → has_end id l ≡ true → In l made
    is_made m made (stored, those, zipped) l j e end has =
        let ends = ends_of f p t says l j in
        let row : MappingRow = mapping_row says.numbered l in
        let number : int_eq (number_at m kind row) n.number ≡ true =
        subst (λ k. int_eq (number_at k kind row) n.number ≡ true) e (at_end l ends end ∙ has) in
        let here = moved row (filter (λ r. int_eq (number_at m kind r) n.number) (mapping_rows m t)) stored those
        (In-filter (λ r. int_eq (number_at m kind r) n.number) row (mapping_rows m t)
        (row_of_link f p t says l m e j) number) in
        let z = zip_left (IsLinkOf m t.identities) row stored made zipped here in
        let same : z.0 ≡ l = link_is f p t says t.identities (IsPermutation-refl t.identities) l z.0 ends
        (subst (λ k. IsLinkOf k t.identities row z.0) (sym e) z.2) in
        subst (λ v. In v made) same z.1

    pub links_of_item : (one another : Mapping) (first second found : List Relation) → AreMappingsOf kind one another
        → AreLinksAt one kind n.number id t first → AreLinksAt another kind n.number id t second
        → IsPermutation (first ++ second) found → IsArranged link_key found → found ≡ links_of p id
    links_of_item one another first second found are firsts seconds moves order =
        same_list link_key found (links_of p id) order (filter_arranged link_key (has_end id) p.links links_arranged)
        to fro
      where
        to : (x : Relation) → In x found → In x (links_of p id)
        to x j = elim (In-of_append x first second (moved x found (first ++ second)
            (IsPermutation-sym (first ++ second) found moves) j)) [
              | inl k ↦ made_in one first (first_end kind one another are) (firsts name) x k
              | inr k ↦ made_in another second (second_end kind one another are) (seconds name) x k
            ]

        either : (a b : Bool) → (a || b) ≡ true → (a ≡ true) ⊎ (b ≡ true)
        either true b h = inl refl
        either false b h = inr h

        fro : (x : Relation) → In x (links_of p id) → In x found
        fro x j =
            let it = In-of_filter (has_end id) x p.links j in
            let there = link_in x it.0 in
            let end = end_of_kind x (ends_of f p t says x there) it.1 in
            moved x (first ++ second) found moves (In-append x first second
            (elim (either (mapping_is x.mapping one) (mapping_is x.mapping another) (sym (are x.mapping) ∙ end)) [
              | inl e ↦ inl (is_made one first (firsts name) x there (same_mapping x.mapping one e) end it.1)
              | inr e ↦ inr (is_made another second (seconds name) x there (same_mapping x.mapping another e) end
                  it.1)
            ]))

  -- the same by the row of the item
  pub links_by_row : (id : List ℕ) → IsUuid id → (r : IdentityRow) → Contains t.identities r
      × (bytes_eq r.uuid (uuid_text id) ≡ true) → (one another : Mapping) (first second found : List Relation)
      → AreMappingsOf r.kind one another
      → AreLinksAt one r.kind r.local_id id t first → AreLinksAt another r.kind r.local_id id t second
      → IsPermutation (first ++ second) found → IsArranged link_key found → found ≡ links_of p id
  links_by_row id fit r h one another first second found are firsts seconds moves order =
      let n = item_of_row f p t says id fit r h in
      links_of_item id n.0 n.1 n.3 fit one another first second found
      (subst (λ x. AreMappingsOf x.kind one another) (sym n.2) are)
      (subst (λ x. AreLinksAt one x.kind x.local_id id t first) (sym n.2) firsts)
      (subst (λ x. AreLinksAt another x.kind x.local_id id t second) (sym n.2) seconds) moves order

-- ---- the links that are made of rows at one end

base_itself : (m : Mapping) → int_eq (pos (kind_number (base_kind m))) (pos (kind_number (base_kind m))) ≡ true
base_itself TilesMedia = refl
base_itself RowsMedia = refl
base_itself RowsTiles = refl

other_is_no_base : (m : Mapping) → int_eq (pos (kind_number (base_kind m))) (pos (kind_number (other_kind m)))
    ≡ false
other_is_no_base TilesMedia = refl
other_is_no_base RowsMedia = refl
other_is_no_base RowsTiles = refl

module _ (m : Mapping) (number : ℤ) (id : List ℕ) (t : Tables) (pairs : List MappingRow) where
  -- the item is at their bases
  pub made_from : (others : List (List ℕ)) → AreThose (λ r. int_eq r.base_id number) (mapping_rows m t) pairs
      → AllZip (IsNamed t.identities (pos (kind_number (other_kind m)))) (map (λ r. r.related_id) pairs) others
      → AreLinksAt m (pos (kind_number (base_kind m))) number id t
      (map (λ other. record { mapping = m; base = id; other = other }) others)
  made_from others those named name = (
    pairs,
    subst (λ b. AreThose (λ r. int_eq (if b then r.base_id else r.related_id) number) (mapping_rows m t) pairs)
        (sym (base_itself m)) those,
    each pairs others (those_pass (λ r. int_eq r.base_id number) (mapping_rows m t) pairs those) named,
  )
    where
      each : (rs : List MappingRow) (xs : List (List ℕ)) → AllByRecursion (λ r. int_eq r.base_id number ≡ true)
          rs
          → AllZip (IsNamed t.identities (pos (kind_number (other_kind m)))) (map (λ r. r.related_id) rs) xs
          → AllZip (IsLinkOf m t.identities) rs (map (λ other. record { mapping = m; base = id; other = other }) xs)
      each [] [] pass zipped = tt
      each [] (x ∷ xs) pass zipped = absurd zipped
      each (r ∷ rs) [] pass zipped = absurd zipped
      each (r ∷ rs) (x ∷ xs) pass zipped =
          let own = subst (λ v. IsNamed t.identities (pos (kind_number (base_kind m))) v id)
          (sym (int_same r.base_id number pass.0)) name in
          (record { mapping = refl; base = own; other = zipped.0 }, each rs xs pass.1 zipped.1)

  -- it is at their other ends
  pub made_to : (bases : List (List ℕ)) → AreThose (λ r. int_eq r.related_id number) (mapping_rows m t) pairs
      → AllZip (IsNamed t.identities (pos (kind_number (base_kind m)))) (map (λ r. r.base_id) pairs) bases
      → AreLinksAt m (pos (kind_number (other_kind m))) number id t
      (map (λ base. record { mapping = m; base = base; other = id }) bases)
  made_to bases those named name = (
    pairs,
    subst (λ b. AreThose (λ r. int_eq (if b then r.base_id else r.related_id) number) (mapping_rows m t) pairs)
        (sym (other_is_no_base m)) those,
    each pairs bases (those_pass (λ r. int_eq r.related_id number) (mapping_rows m t) pairs those) named,
  )
    where
      each : (rs : List MappingRow) (xs : List (List ℕ)) → AllByRecursion
          (λ r. int_eq r.related_id number ≡ true) rs
          → AllZip (IsNamed t.identities (pos (kind_number (base_kind m)))) (map (λ r. r.base_id) rs) xs
          → AllZip (IsLinkOf m t.identities) rs (map (λ base. record { mapping = m; base = base; other = id }) xs)
      each [] [] pass zipped = tt
      each [] (x ∷ xs) pass zipped = absurd zipped
      each (r ∷ rs) [] pass zipped = absurd zipped
      each (r ∷ rs) (x ∷ xs) pass zipped =
          let own = subst (λ v. IsNamed t.identities (pos (kind_number (other_kind m))) v id)
          (sym (int_same r.related_id number pass.0)) name in
          (record { mapping = refl; base = zipped.0; other = own }, each rs xs pass.1 zipped.1)

-- ---- a connection that is asked

-- a read of a store at rest is a question
pub asks_of : {S X E : Type 0} {Answer : Package → X → Type 0} (g : Ghosts S) {old new : Held S} (r : Result X E)
    → Looks {X = X} {E = E} (Sees (λ f. Answer)) (state g old) (state g new) r
    → Asks {X = X} {E = E} (λ c. Rests (state g c)) (λ was now. Stays (state g was) (state g now))
    (λ c. ShowsPackage (state g c)) Answer old new r
asks_of {X = X} {E = E} {Answer = Answer} g {old} {new} r it = record {
  again = it.rests;
  stays = λ was before. stays_then before (looks_stays it);
  showed = λ p s. record {
    clean = omega (arith, it.survives.clean, s.clean);
    is_open = it.was_open s.is_open;
    frame = s.frame;
    reads = subst (Reads s.frame p) (it.holds s.is_open).now_is s.reads;
  };
  told = tell r it.done;
}
  where
    tell : (r : Result X E) → (HasCleanDisk (state g new) → IfOk r
        (λ x. IsTrue (state g new).is_open × Sees (λ f. Answer) x (state g old).now (state g new).now))
        → IfOk r (λ x. (p : Package) → ShowsPackage (state g new) p → Answer p x)
    tell (Ok x) done = λ p s. (done s.clean).1.1 s.frame p (subst (Reads s.frame p) (done s.clean).1.0 s.reads)
    tell (Err e) done = tt
