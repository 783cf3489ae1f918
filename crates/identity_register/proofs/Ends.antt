-- What the rows of the mapping tables say of the links of a package, and the rows of its ends of the state of a link.
use Rattle.std.proofs.Common.{◌≡◌, ℕ, ℤ, pos, List, [], ◌∷◌, ◌++◌, map, Bool, true, false, refl}
use Rattle.std.proofs.Common.{sym, ap, subst, ◌∙◌}
use Rattle.std.proofs.Common.{length}
use Rattle.std.specs.Prelude.{◌&&◌, ◌||◌, not, if◌then◌else◌, ◌==◌, bytes_eq, flat_map}
use Rattle.std.specs.Prelude.{unsigned_abs, Contains}
use Rattle.std.specs.Cmp.{both_ways}
use Rattle.std.specs.List.{AllByRecursion, list_any}
use Rattle.std.specs.Ordering.{int_eq}
use Rattle.std.proofs.lemmas.Bool.{true≢false, and_parts, and_from, and_right}
use Rattle.std.proofs.lemmas.Slice.Eq.{bytes_eq-Decides}
use borrow.Author.Tests.{eqb-true}
use Rattle.sheet_types.specs.Cut.{has_end}
use Rattle.sheet_types.specs.Ordered.{has}
use Rattle.sheet_types.specs.Texts.{uuid_text, kind_of}
use Rattle.sheet_types.specs.World.{Package, item_key, link_key, link_kind, kind_number, base_kind, other_kind}
use Rattle.sheet_types.specs.World.{has_item, has_kind, all_mappings}
use Rattle.sheet_types.specs.Lines.{IsUuid}
use Rattle.sheet_types.specs.Register.{HasEnds}
use Rattle.sheet_types.specs.declared.command.Item.{Item}
use Rattle.sheet_types.specs.declared.command.Mapping.{Mapping}
use Rattle.sheet_types.specs.declared.command.Mapping.TheVariants.{TilesMedia, RowsMedia, RowsTiles}
use Rattle.sheet_types.specs.declared.command.Relation.{Relation}
use Rattle.sheet_types.specs.declared.frame.Frame.{Frame}
use Rattle.sheet_types.specs.declared.receipt.MovedKind.{MovedKind}
use Rattle.sheet_types.proofs.Every.{All-weaker, All-each, none_any}
use Rattle.sheet_types.proofs.Basics.{bytes_eq_itself, bytes_eq_swap, or-false, or-true, and-true}
use Rattle.sheet_types.proofs.Order.{list_any-arranged}
use Rattle.sheet_types.proofs.Same.{In, In-map, All-In, any_in, any_at}
use Rattle.sheet_types.proofs.KindNumbers.{same_mapping}
use Rattle.sheet_types.proofs.LineReading.{uuid_length}
use Rattle.package_tables.specs.Package.{Tables}
use Rattle.package_tables.specs.Mappings.{mapping_rows}
use Rattle.package_tables.specs.declared.rows.IdentityRow.{IdentityRow}
use Rattle.package_tables.specs.declared.rows.MappingRow.{MappingRow}
use Rattle.identity_register.specs.Answers.{is_named_by, is_linked_row, is_end, AreMappingsOf, are_ends, link_state}
use Rattle.identity_register.specs.declared.look_ups.LinkState.{LinkState}
use Rattle.identity_register.specs.declared.look_ups.LinkState.TheVariants.{UnknownEnd, WrongKinds, Absent, There}
use Rattle.identity_register.specs.Numbering.{Numbered, place_in_tables, identity_row, number_of, mapping_row}
use Rattle.identity_register.specs.Numbering.{mapping_is, rows_in, is_pair}
use Rattle.identity_register.specs.Reads.{Says}
use Rattle.identity_register.proofs.Deleting.{same_tests, same_number, pos_same}
use Rattle.identity_register.proofs.Linking.{end_of, number_is, pair_same, bytes_eq_append}
use Rattle.identity_register.proofs.Adding.{other_end}
use Rattle.identity_register.proofs.Answering.{any_flat_map, item_of_row, item_there}
use Rattle.identity_register.proofs.MappingTables.{any_row_in, pair_key, table_says}
use Rattle.identity_register.proofs.Finding.{in_range, no_row_of_uuid}

-- ---- tests

or_both : (a b c d : Bool) → (a || b) || (c || d) ≡ ((a || c) || (b || d))
or_both true b c d = refl
or_both false true true d = refl
or_both false true false d = refl
or_both false false true d = refl
or_both false false false d = refl

-- one test or the other
pub any_or : {X : Type 0} (a b : X → Bool) (xs : List X) → (list_any a xs || list_any b xs)
    ≡ list_any (λ x. a x || b x) xs
any_or a b [] = refl
any_or a b (x ∷ xs) = or_both (a x) (list_any a xs) (b x) (list_any b xs)
    ∙ ap (λ v. (a x || b x) || v) (any_or a b xs)

-- a test that is asked of each where another holds
any_and : {X : Type 0} (b : Bool) (a : X → Bool) (xs : List X)
    → (b && list_any a xs) ≡ list_any (λ x. b && a x) xs
any_and true a xs = refl
any_and false a xs = sym (none_any (λ x. false) xs (All-each _ (λ x. refl) xs))

-- some of some, in either order
any_turned : {X Y : Type 0} (a : X → Y → Bool) (xs : List X) (ys : List Y)
    → list_any (λ x. list_any (a x) ys) xs ≡ list_any (λ y. list_any (λ x. a x y) xs) ys
any_turned a [] ys = sym (none_any (λ y. false) ys (All-each _ (λ y. refl) ys))
any_turned a (x ∷ xs) ys = ap (λ v. list_any (a x) ys || v) (any_turned a xs ys)
    ∙ any_or (a x) (λ y. list_any (λ z. a z y) xs) ys

pub any_same : {X : Type 0} (a b : X → Bool) (xs : List X) → AllByRecursion (λ x. a x ≡ b x) xs
    → list_any a xs ≡ list_any b xs
any_same a b [] h = refl
any_same a b (x ∷ xs) h = ap (λ v. v || list_any a xs) h.0 ∙ ap (λ v. b x || v) (any_same a b xs h.1)

-- ---- the mappings of a kind

-- a row is named at the end that is of its kind
pub named_at_base : (m : Mapping) (kind number : ℤ) (t : Tables) → kind ≡ pos (kind_number (base_kind m))
    → list_any (λ r. int_eq r.base_id number) (mapping_rows m t) ≡ is_named_by m kind number t
named_at_base m kind number t e = subst (λ k. list_any (λ r. int_eq r.base_id number) (mapping_rows m t)
    ≡ is_named_by m k number t) (sym e) (one m)
  where
    one : (m : Mapping) → list_any (λ r. int_eq r.base_id number) (mapping_rows m t)
        ≡ is_named_by m (pos (kind_number (base_kind m))) number t
    one TilesMedia = sym (or-false _)
    one RowsMedia = sym (or-false _)
    one RowsTiles = sym (or-false _)

pub named_at_other : (m : Mapping) (kind number : ℤ) (t : Tables) → is_end m kind ≡ true
    → int_eq (pos (kind_number (base_kind m))) kind ≡ false → list_any (λ r. int_eq r.related_id number)
    (mapping_rows m t) ≡ is_named_by m kind number t
named_at_other m kind number t end other = one (int_eq (pos (kind_number (base_kind m))) kind)
    (int_eq (pos (kind_number (other_kind m))) kind) end other
  where
    one : (a b : Bool) → (a || b) ≡ true → a ≡ false
        → list_any (λ r. int_eq r.related_id number) (mapping_rows m t)
        ≡ ((a && list_any (λ r. int_eq r.base_id number) (mapping_rows m t)) ||
        (b && list_any (λ r. int_eq r.related_id number) (mapping_rows m t)))
    one true b h e = absurd (true≢false e)
    one false true h e = refl
    one false false h e = absurd (true≢false (sym h))

mapping_itself : (m : Mapping) → mapping_is m m ≡ true
mapping_itself TilesMedia = refl
mapping_itself RowsMedia = refl
mapping_itself RowsTiles = refl

-- both mappings of a kind relate items of it
pub first_end : (kind : ℤ) (one another : Mapping) → AreMappingsOf kind one another → is_end one kind ≡ true
first_end kind one another are = are one ∙ ap (λ b. b || mapping_is one another) (mapping_itself one)

pub second_end : (kind : ℤ) (one another : Mapping) → AreMappingsOf kind one another
    → is_end another kind ≡ true
second_end kind one another are = are another ∙ ap (λ b. mapping_is another one || b) (mapping_itself another)
    ∙ or-true (mapping_is another one)

-- so a row of the kind is linked where one of them names it
pub linked_by : (kind number : ℤ) (t : Tables) (one another : Mapping) → AreMappingsOf kind one another
    → (is_named_by one kind number t || is_named_by another kind number t) ≡ is_linked_row kind number t
linked_by kind number t one another are =
    ap (λ v. v || is_named_by another kind number t) (sym (one_of one))
    ∙ ap (λ v. list_any (λ m. mapping_is m one && is_named_by m kind number t) all_mappings || v)
    (sym (one_of another))
    ∙ any_or (λ m. mapping_is m one && is_named_by m kind number t)
    (λ m. mapping_is m another && is_named_by m kind number t) all_mappings
    ∙ any_same (λ m. (mapping_is m one && is_named_by m kind number t) ||
    (mapping_is m another && is_named_by m kind number t)) (λ m. is_named_by m kind number t) all_mappings
    (All-each _ each all_mappings)
  where
    one_of : (k : Mapping) → list_any (λ m. mapping_is m k && is_named_by m kind number t) all_mappings
        ≡ is_named_by k kind number t
    one_of TilesMedia = or-false _
    one_of RowsMedia = or-false _
    one_of RowsTiles = or-false _

    parts : (a b v : Bool) → ((a && v) || (b && v)) ≡ ((a || b) && v)
    parts true true true = refl
    parts true true false = refl
    parts true false v = or-false v
    parts false b v = refl

    ended : (a b u v : Bool) → ((a || b) && ((a && u) || (b && v))) ≡ ((a && u) || (b && v))
    ended true b u v = refl
    ended false true u v = refl
    ended false false u v = refl

    each : (m : Mapping) → ((mapping_is m one && is_named_by m kind number t) ||
        (mapping_is m another && is_named_by m kind number t)) ≡ is_named_by m kind number t
    each m =
        parts (mapping_is m one) (mapping_is m another) (is_named_by m kind number t)
        ∙ ap (λ b. b && is_named_by m kind number t) (sym (are m))
        ∙ ended (int_eq (pos (kind_number (base_kind m))) kind) (int_eq (pos (kind_number (other_kind m))) kind)
        (list_any (λ r. int_eq r.base_id number) (mapping_rows m t))
        (list_any (λ r. int_eq r.related_id number) (mapping_rows m t))

-- ---- the states of a link

-- the state by the three things that are asked in turn: whether the ends are known, whether they are of the right
-- kinds, whether the link is there
abbrev pub state_by : Bool → Bool → Bool → LinkState
state_by known right there = if not known then UnknownEnd else if not right then WrongKinds else if there then
    There else Absent

abbrev pub is_there : LinkState → Bool
is_there UnknownEnd = false
is_there WrongKinds = false
is_there Absent = false
is_there There = true

-- where each follows from the next, the last tells the state
there_last : (known right there : Bool) → (there ≡ true → right ≡ true) → (right ≡ true → known ≡ true)
    → is_there (state_by known right there) ≡ there
there_last true true true h g = refl
there_last true true false h g = refl
there_last true false true h g = absurd (true≢false (sym (h refl)))
there_last true false false h g = refl
there_last false right false h g = refl
there_last false right true h g = absurd (true≢false (sym (g (h refl))))

module _ (f : Frame) (p : Package) (t : Tables) (says : Says f p t) where
  -- the end of a link is an item where the kind and the number are
  pub end_is : (n : Numbered) → In n says.numbered → (kind : MovedKind) (id : List ℕ)
      → has item_key (kind_number kind ∷ id) p.items ≡ true
      → ((kind_number kind == kind_number (kind_of n.item.content)) && int_eq (number_of says.numbered id) n.number)
      ≡ bytes_eq id n.item.identity
  end_is n i kind id h =
      let m = end_of f p t says kind id h in
      let k : ℕ = kind_number (kind_of n.item.content) in
      ap (λ x. (x == k) && int_eq (number_of says.numbered id) n.number) (sym m.2)
      ∙ ap (λ x. (kind_number (kind_of m.0.item.content) == k) && int_eq x n.number) m.4
      ∙ ap (λ b. (kind_number (kind_of m.0.item.content) == k) && b)
      (same_number m.0.number n.number (in_range f p t says m.0 m.1) (in_range f p t says n i)
      ∙ sym (and-true (unsigned_abs m.0.number == unsigned_abs n.number)))
      ∙ All-In (λ y. bytes_eq (place_in_tables y) (place_in_tables n) ≡ bytes_eq y.item.identity n.item.identity)
      m.0
      says.numbered (same_tests place_in_tables (λ y. y.item.identity) n says.numbered says.numbers.numbers
      says.numbers.identities i) m.1
      ∙ ap (λ x. bytes_eq x n.item.identity) m.3

  -- what the rows of a mapping table tell of the links
  table_tells : (k : Mapping) (q : MappingRow → Bool) → list_any q (mapping_rows k t)
      ≡ list_any (λ x. mapping_is x.mapping k && q (mapping_row says.numbered x)) says.linked
  table_tells k q =
      ap (list_any q) (table_says f p t says k) ∙ list_any-arranged pair_key q
      (flat_map (rows_in k says.numbered) says.linked)
      ∙ any_flat_map (rows_in k says.numbered) q (λ x. mapping_is x.mapping k && q (mapping_row says.numbered x))
      says.linked (All-each _ (any_row_in k says.numbered q) says.linked)

  of_links : (test : Relation → Bool) → list_any test says.linked ≡ list_any test p.links
  of_links test = sym (list_any-arranged link_key test says.linked) ∙ ap (list_any test) (sym says.links)

  -- ---- links of an item

  -- a link has the item at its base, and at its other end
  base_is : (n : Numbered) → In n says.numbered → (x : Relation) (m : Mapping) → x.mapping ≡ m → HasEnds p x
      → (int_eq (pos (kind_number (base_kind m))) (identity_row n).kind && int_eq (number_of says.numbered x.base)
      n.number) ≡ bytes_eq x.base n.item.identity
  base_is n i x m e h = ap (λ b. b && int_eq (number_of says.numbered x.base) n.number) (pos_same _ _)
      ∙ end_is n i (base_kind m) x.base (subst (λ m. has item_key (kind_number (base_kind m) ∷ x.base) p.items
      ≡ true)
      e h.0)

  other_is : (n : Numbered) → In n says.numbered → (x : Relation) (m : Mapping) → x.mapping ≡ m → HasEnds p x
      → (int_eq (pos (kind_number (other_kind m))) (identity_row n).kind && int_eq (number_of says.numbered x.other)
      n.number) ≡ bytes_eq x.other n.item.identity
  other_is n i x m e h = ap (λ b. b && int_eq (number_of says.numbered x.other) n.number) (pos_same _ _)
      ∙ end_is n i (other_kind m) x.other (subst (λ m. has item_key (kind_number (other_kind m) ∷ x.other) p.items
      ≡ true) e h.1)

  -- the table of a mapping names the item where a link of that mapping does
  named_in : (n : Numbered) → In n says.numbered → (m : Mapping)
      → is_named_by m (identity_row n).kind n.number t ≡ list_any
      (λ x. mapping_is x.mapping m && has_end n.item.identity x) says.linked
  named_in n i m =
      ap (λ v. (of_base && v) || (of_other && list_any (λ r. int_eq r.related_id n.number) (mapping_rows m t)))
      (table_tells m (λ r. int_eq r.base_id n.number))
      ∙ ap (λ v. (of_base && list_any at_base says.linked) || (of_other && v))
      (table_tells m (λ r. int_eq r.related_id n.number))
      ∙ ap (λ v. v || (of_other && list_any at_other says.linked)) (any_and of_base at_base says.linked)
      ∙ ap (λ v. list_any (λ x. of_base && at_base x) says.linked || v) (any_and of_other at_other says.linked)
      ∙ any_or (λ x. of_base && at_base x) (λ x. of_other && at_other x) says.linked
      ∙ any_same (λ x. (of_base && at_base x) || (of_other && at_other x))
      (λ x. mapping_is x.mapping m && has_end n.item.identity x) says.linked
      (All-weaker _ _ (λ x h. one x h (mapping_is x.mapping m) refl) says.linked says.ends)
    where
      of_base : Bool
      of_base = int_eq (pos (kind_number (base_kind m))) (identity_row n).kind

      of_other : Bool
      of_other = int_eq (pos (kind_number (other_kind m))) (identity_row n).kind

      at_base : Relation → Bool
      at_base x = mapping_is x.mapping m && int_eq (number_of says.numbered x.base) n.number

      at_other : Relation → Bool
      at_other x = mapping_is x.mapping m && int_eq (number_of says.numbered x.other) n.number

      -- of a link of another mapping neither end is asked
      neither : (a b : Bool) → ((a && false) || (b && false)) ≡ false
      neither true true = refl
      neither true false = refl
      neither false true = refl
      neither false false = refl

      one : (x : Relation) → HasEnds p x → (b : Bool) → mapping_is x.mapping m ≡ b
          → ((of_base && at_base x) || (of_other && at_other x))
          ≡ (mapping_is x.mapping m && has_end n.item.identity x)
      one x h true e =
          ap (λ b. (of_base && (b && int_eq (number_of says.numbered x.base) n.number)) ||
          (of_other && (b && int_eq (number_of says.numbered x.other) n.number))) e
          ∙ ap (λ v. v || (of_other && int_eq (number_of says.numbered x.other) n.number))
          (base_is n i x m (same_mapping x.mapping m e) h)
          ∙ ap (λ v. bytes_eq x.base n.item.identity || v) (other_is n i x m (same_mapping x.mapping m e) h)
          ∙ sym (ap (λ b. b && has_end n.item.identity x) e)
      one x h false e =
          ap (λ b. (of_base && (b && int_eq (number_of says.numbered x.base) n.number)) ||
          (of_other && (b && int_eq (number_of says.numbered x.other) n.number))) e
          ∙ neither of_base of_other ∙ sym (ap (λ b. b && has_end n.item.identity x) e)

  -- the stored row of an item is linked where a link names the item
  pub linked_row : (n : Numbered) → In n says.numbered → is_linked_row (identity_row n).kind n.number t
      ≡ list_any (has_end n.item.identity) p.links
  linked_row n i =
      any_same (λ m. is_named_by m (identity_row n).kind n.number t)
      (λ m. list_any (λ x. mapping_is x.mapping m && has_end n.item.identity x) says.linked) all_mappings
      (All-each _ (named_in n i) all_mappings)
      ∙ any_turned (λ m x. mapping_is x.mapping m && has_end n.item.identity x) all_mappings says.linked
      ∙ any_same (λ x. list_any (λ m. mapping_is x.mapping m && has_end n.item.identity x) all_mappings)
      (has_end n.item.identity) says.linked (All-each _ (λ x. one_mapping x.mapping (has_end n.item.identity x))
      says.linked)
      ∙ of_links (has_end n.item.identity)
    where
      -- each link is of one mapping
      one_mapping : (m : Mapping) (b : Bool) → list_any (λ k. mapping_is m k && b) all_mappings ≡ b
      one_mapping TilesMedia b = or-false b
      one_mapping RowsMedia b = or-false b
      one_mapping RowsTiles b = or-false b

  -- no link names an identity that no item has
  pub none_named : (id : List ℕ) → has_item p id ≡ false → list_any (has_end id) p.links ≡ false
  none_named id none = sym (of_links (has_end id)) ∙ none_any (has_end id) says.linked
      (All-weaker _ _ (λ x h. one x h) says.linked says.ends)
    where
      one : (x : Relation) → HasEnds p x → has_end id x ≡ false
      one x h = ap (λ v. v || bytes_eq x.other id) (absent (base_kind x.mapping) x.base h.0)
          ∙ absent (other_kind x.mapping) x.other h.1
        where
          absent : (kind : MovedKind) (end : List ℕ) → has item_key (kind_number kind ∷ end) p.items ≡ true
              → bytes_eq end id ≡ false
          absent kind end here = bytes_eq_swap end id ∙ other_end p (kind_number kind) id end none here

  -- the row of an identity is linked where a link names the identity
  pub linked_by_row : (id : List ℕ) → IsUuid id → (r : IdentityRow) → Contains t.identities r
      × (bytes_eq r.uuid (uuid_text id) ≡ true) → is_linked_row r.kind r.local_id t
      ≡ list_any (has_end id) p.links
  linked_by_row id fit r h =
      let it = item_of_row f p t says id fit r h in
      subst (λ r. is_linked_row r.kind r.local_id t ≡ list_any (has_end id) p.links) it.2
      (linked_row it.0 it.1 ∙ ap (λ x. list_any (has_end x) p.links) it.3)

  -- ---- one link

  -- a link that the package has, by its key, has its ends there
  pub ends_there : (l : Relation) → IsUuid l.base → has link_key (link_key l) p.links ≡ true → HasEnds p l
  ends_there l fit h =
      let it = any_at (λ x. bytes_eq (link_key x) (link_key l)) says.linked
      (of_links (λ x. bytes_eq (link_key x) (link_key l)) ∙ h) in
      let x = it.0 in
      let ends : HasEnds p x = All-In (HasEnds p) x says.linked says.ends it.1 in
      let key = and_parts (kind_number (link_kind x.mapping) == kind_number (link_kind l.mapping))
      (bytes_eq (x.base ++ x.other) (l.base ++ l.other)) it.2 in
      let base = end_of f p t says (base_kind x.mapping) x.base ends.0 in
      let long : length x.base ≡ length l.base = ap length (sym base.3)
      ∙ uuid_length base.0.item.identity (All-In (λ y. IsUuid y.item.identity) base.0 says.numbered
      says.numbers.uuids base.1) ∙ sym (uuid_length l.base fit) in
      let parts = and_parts (bytes_eq x.base l.base) (bytes_eq x.other l.other)
      (sym (bytes_eq_append x.base x.other l.base l.other long) ∙ key.1) in
      let mapping : x.mapping ≡ l.mapping = same_mapping x.mapping l.mapping key.0 in
      let base_is : x.base ≡ l.base = (bytes_eq-Decides x.base l.base).0 parts.0 in
      let other_end_is : x.other ≡ l.other = (bytes_eq-Decides x.other l.other).0 parts.1 in (
        subst (λ b. has item_key (kind_number (base_kind l.mapping) ∷ b) p.items ≡ true) base_is
            (subst (λ m. has item_key (kind_number (base_kind m) ∷ x.base) p.items ≡ true) mapping ends.0),
        subst (λ b. has item_key (kind_number (other_kind l.mapping) ∷ b) p.items ≡ true) other_end_is
            (subst (λ m. has item_key (kind_number (other_kind m) ∷ x.other) p.items ≡ true) mapping ends.1),
      )

  -- an item of a kind is an item
  pub item_of_kind : (kind : MovedKind) (id : List ℕ) → has_kind p kind id ≡ true → has_item p id ≡ true
  item_of_kind kind id here = one (has_item p id) refl
    where
      one : (b : Bool) → has_item p id ≡ b → b ≡ true
      one true e = refl
      one false e = absurd (true≢false (sym (bytes_eq_itself id) ∙ other_end p (kind_number kind) id id e here))

  -- a link that is there has ends that are known, of its kinds
  pub link_told : (l : Relation) → IsUuid l.base → is_there (link_state p l) ≡ has link_key (link_key l) p.links
  link_told l fit = there_last (has_item p l.base && has_item p l.other)
      (has_kind p (base_kind l.mapping) l.base && has_kind p (other_kind l.mapping) l.other)
      (has link_key (link_key l) p.links)
      (λ there. let ends = ends_there l fit there in and_from _ _ ends.0 ends.1)
      (λ right. let ends = and_parts (has_kind p (base_kind l.mapping) l.base)
      (has_kind p (other_kind l.mapping) l.other) right in and_from _ _
      (item_of_kind (base_kind l.mapping) l.base ends.0) (item_of_kind (other_kind l.mapping) l.other ends.1))

  -- an end that no row has is not known
  pub no_base : (l : Relation) → list_any (λ r. bytes_eq r.uuid (uuid_text l.base)) t.identities ≡ false
      → UnknownEnd ≡ link_state p l
  no_base l none =
      ap (λ b. state_by (b && has_item p l.other) (has_kind p (base_kind l.mapping) l.base && has_kind p
      (other_kind l.mapping) l.other) (has link_key (link_key l) p.links))
      (sym (no_row_of_uuid f p t says l.base none))

  pub no_other : (l : Relation) → list_any (λ r. bytes_eq r.uuid (uuid_text l.other)) t.identities ≡ false
      → UnknownEnd ≡ link_state p l
  no_other l none =
      ap (λ b. state_by b (has_kind p (base_kind l.mapping) l.base && has_kind p (other_kind l.mapping) l.other)
      (has link_key (link_key l) p.links))
      (sym (and_right (has_item p l.base) (has_item p l.other) (no_row_of_uuid f p t says l.other none)))

  -- the kind of an end, by its row
  kind_there : (n : Numbered) → In n says.numbered → (kind : MovedKind)
      → has item_key (kind_number kind ∷ n.item.identity) p.items ≡ true
      → (kind_number kind == kind_number (kind_of n.item.content)) ≡ true
  kind_there n i kind h = (and_parts (kind_number kind == kind_number (kind_of n.item.content))
      (int_eq (number_of says.numbered n.item.identity) n.number)
      (end_is n i kind n.item.identity h ∙ bytes_eq_itself n.item.identity)).0

  there_of_kind : (n : Numbered) → In n says.numbered → (kind : MovedKind)
      → kind_number (kind_of n.item.content) ≡ kind_number kind
      → has item_key (kind_number kind ∷ n.item.identity) p.items ≡ true
  there_of_kind n i kind e =
      let q : Item → Bool = λ x. bytes_eq (item_key x) (kind_number kind ∷ n.item.identity) in
      let items : List Item = map (λ m. m.item) says.numbered in
      ap (list_any q) says.items ∙ list_any-arranged item_key q items
      ∙ any_in q n.item items (In-map (λ m. m.item) n says.numbered i)
      (subst (λ k. bytes_eq (item_key n.item) (k ∷ n.item.identity) ≡ true) e (bytes_eq_itself (item_key n.item)))

  module _ (l : Relation) (n m : Numbered) (base_in : In n says.numbered) (other_in : In m says.numbered)
      (base_named : n.item.identity ≡ l.base) (other_named : m.item.identity ≡ l.other) where
    ends_right : HasEnds p l → are_ends l.mapping (identity_row n).kind (identity_row m).kind ≡ true
    ends_right ends = and_from _ _
        (pos_same _ _ ∙ kind_there n base_in (base_kind l.mapping) (rw base_named ends.0))
        (pos_same _ _ ∙ kind_there m other_in (other_kind l.mapping) (rw other_named ends.1))

    right_ends : are_ends l.mapping (identity_row n).kind (identity_row m).kind ≡ true → HasEnds p l
    right_ends right =
        let parts = and_parts (int_eq (pos (kind_number (base_kind l.mapping))) (identity_row n).kind)
        (int_eq (pos (kind_number (other_kind l.mapping))) (identity_row m).kind) right in (
          rw (sym base_named) (there_of_kind n base_in (base_kind l.mapping)
              (sym (eqb-true _ _ (sym (pos_same _ _) ∙ parts.0)))),
          rw (sym other_named) (there_of_kind m other_in (other_kind l.mapping)
              (sym (eqb-true _ _ (sym (pos_same _ _) ∙ parts.1)))),
        )

    row_is : mapping_row says.numbered l ≡ record { base_id = n.number; related_id = m.number }
    row_is = rw (sym base_named, sym other_named, number_is f p t says n base_in, number_is f p t says m other_in) refl

    pair_told : HasEnds p l → list_any (λ r. is_pair r (mapping_row says.numbered l)) (mapping_rows l.mapping t)
        ≡ has link_key (link_key l) p.links
    pair_told ends =
        table_tells l.mapping (λ r. is_pair r (mapping_row says.numbered l))
        ∙ any_same (λ x. mapping_is x.mapping l.mapping && is_pair (mapping_row says.numbered x)
        (mapping_row says.numbered l)) (λ x. bytes_eq (link_key x) (link_key l)) says.linked
        (All-weaker _ _ (λ x h. each x h (mapping_is x.mapping l.mapping) refl) says.linked says.ends)
        ∙ of_links (λ x. bytes_eq (link_key x) (link_key l))
      where
        each : (x : Relation) → HasEnds p x → (b : Bool) → mapping_is x.mapping l.mapping ≡ b
            → (mapping_is x.mapping l.mapping && is_pair (mapping_row says.numbered x) (mapping_row says.numbered l))
            ≡ bytes_eq (link_key x) (link_key l)
        each x h true e = ap (λ b. b && is_pair (mapping_row says.numbered x) (mapping_row says.numbered l)) e
            ∙ pair_same f p t says x l (same_mapping x.mapping l.mapping e) h ends
        each x h false e = ap (λ b. b && is_pair (mapping_row says.numbered x) (mapping_row says.numbered l)) e
            ∙ sym (ap (λ b. b && bytes_eq (x.base ++ x.other) (l.base ++ l.other)) e)

  -- by the rows of its ends
  module _ (l : Relation) (base_fit : IsUuid l.base) (other_fit : IsUuid l.other) (base other : IdentityRow)
      (base_row : Contains t.identities base × (bytes_eq base.uuid (uuid_text l.base) ≡ true))
      (other_row : Contains t.identities other × (bytes_eq other.uuid (uuid_text l.other) ≡ true)) where
    -- both are known
    known_ends : (has_item p l.base && has_item p l.other) ≡ true
    known_ends =
        let n = item_of_row f p t says l.base base_fit base base_row in
        let m = item_of_row f p t says l.other other_fit other other_row in
        and_from _ _ (subst (λ x. has_item p x ≡ true) n.3 (item_there f p t says n.0 n.1))
        (subst (λ x. has_item p x ≡ true) m.3 (item_there f p t says m.0 m.1))

    -- they are of the kinds of the link where their rows are
    kinds_told : are_ends l.mapping base.kind other.kind ≡ (has_kind p (base_kind l.mapping) l.base && has_kind p
        (other_kind l.mapping) l.other)
    kinds_told =
        let n = item_of_row f p t says l.base base_fit base base_row in
        let m = item_of_row f p t says l.other other_fit other other_row in
        let rows : are_ends l.mapping (identity_row n.0).kind (identity_row m.0).kind
        ≡ are_ends l.mapping base.kind other.kind = ap
        (λ r. are_ends l.mapping r.kind (identity_row m.0).kind) n.2
        ∙ ap (λ r. are_ends l.mapping base.kind r.kind) m.2 in
        both_ways (are_ends l.mapping base.kind other.kind) (has_kind p (base_kind l.mapping) l.base && has_kind p
        (other_kind l.mapping) l.other)
        (λ right. let ends = right_ends l n.0 m.0 n.1 m.1 n.3 m.3 (rows ∙ right) in and_from _ _ ends.0 ends.1)
        (λ kinds. sym rows ∙ ends_right l n.0 m.0 n.1 m.1 n.3 m.3
        (and_parts (has_kind p (base_kind l.mapping) l.base) (has_kind p (other_kind l.mapping) l.other) kinds))

    pub wrong_kinds : are_ends l.mapping base.kind other.kind ≡ false → WrongKinds ≡ link_state p l
    wrong_kinds wrong =
        ap (λ b. state_by true b (has link_key (link_key l) p.links)) (sym wrong ∙ kinds_told)
        ∙ ap (λ b. state_by b (has_kind p (base_kind l.mapping) l.base && has_kind p (other_kind l.mapping) l.other)
        (has link_key (link_key l) p.links)) (sym known_ends)

    -- whether its row is there
    pub link_by_rows : are_ends l.mapping base.kind other.kind ≡ true
        → list_any (λ r. is_pair r (record { base_id = base.local_id; related_id = other.local_id }))
        (mapping_rows l.mapping t) ≡ has link_key (link_key l) p.links
    link_by_rows right =
        let n = item_of_row f p t says l.base base_fit base base_row in
        let m = item_of_row f p t says l.other other_fit other other_row in
        let row : mapping_row says.numbered l ≡ record { base_id = base.local_id; related_id = other.local_id } =
        row_is l n.0 m.0 n.1 m.1 n.3 m.3 ∙ ap (λ r. record { base_id = r.local_id; related_id = m.0.number })
        n.2 ∙ ap (λ r. record { base_id = base.local_id; related_id = r.local_id }) m.2 in
        let kinds = and_parts (has_kind p (base_kind l.mapping) l.base) (has_kind p (other_kind l.mapping) l.other)
        (sym kinds_told ∙ right) in
        subst (λ row. list_any (λ r. is_pair r row) (mapping_rows l.mapping t) ≡ has link_key (link_key l) p.links)
        row (pair_told l n.0 m.0 n.1 m.1 n.3 m.3 kinds)

    pub right_kinds : (there : Bool) → are_ends l.mapping base.kind other.kind ≡ true
        → there ≡ list_any (λ r. is_pair r (record { base_id = base.local_id; related_id = other.local_id }))
        (mapping_rows l.mapping t) → state_by true true there ≡ link_state p l
    right_kinds there right told =
        ap (λ b. state_by true true b) (told ∙ link_by_rows right)
        ∙ ap (λ b. state_by true b (has link_key (link_key l) p.links)) (sym right ∙ kinds_told)
        ∙ ap (λ b. state_by b (has_kind p (base_kind l.mapping) l.base && has_kind p (other_kind l.mapping) l.other)
        (has link_key (link_key l) p.links)) (sym known_ends)
