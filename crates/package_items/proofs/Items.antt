-- The rows of a user table are those of the items of its kind.
use Rattle.std.proofs.Common.{◌≡◌, ℕ, ℤ, List, [], ◌∷◌, ◌++◌, map, Bool, true, false, refl, sym}
use Rattle.std.proofs.Common.{ap, subst, ◌∙◌, inl}
use Rattle.std.proofs.Common.{inr, arith}
use Rattle.std.specs.Prelude.{bytes_eq, unsigned_abs, flat_map}
use Rattle.std.specs.List.{AllByRecursion, IsDistinct}
use Rattle.std.specs.Ordering.{int_eq}
use Rattle.std.proofs.lemmas.Bool.{true≢false, false_from_ne_true}
use Rattle.std.proofs.lemmas.Slice.Eq.{bytes_eq-Decides}
use borrow.Author.Tests.{eqb-true}
use Rattle.sheet_types.specs.Ordered.{arranged, IsArranged}
use Rattle.sheet_types.specs.Texts.{kind_of}
use Rattle.sheet_types.specs.World.{kind_number, kind_is}
use Rattle.sheet_types.specs.declared.command.Content.{Content}
use Rattle.sheet_types.specs.declared.command.Content.TheVariants.{Tile, Media, Row}
use Rattle.sheet_types.specs.declared.receipt.MovedKind.{MovedKind}
use Rattle.sheet_types.proofs.Every.{All-weaker, All-flat_map, All-map, All-of_map}
use Rattle.sheet_types.proofs.Same.{In, In-flat_map, In-of_flat_map, same_list}
use Rattle.package_tables.specs.Package.{Tables}
use Rattle.package_tables.specs.Shapes.{number_key}
use Rattle.package_tables.specs.declared.rows.AttributeRow.{AttributeRow}
use Rattle.package_tables.specs.declared.rows.MediaRow.{MediaRow}
use Rattle.package_tables.specs.declared.rows.TileRow.{TileRow}
use Rattle.identity_register.specs.Numbering.{Numbered, place_in_tables, tile_rows, media_rows, attribute_rows}
use Rattle.identity_register.proofs.Deleting.{IsOfKind}
use Rattle.identity_register.proofs.Finding.{in_arranged}
use Rattle.identity_register.proofs.OnePackage.{to_arranged, distinct_arranged}
use Rattle.package_items.proofs.Apart.{one_by, int_flips}
use Rattle.package_items.proofs.Numbers.{HasContent}

module _ {R : Type 0} (kind : MovedKind) (rows : ℤ → Content → List R) (id : R → ℤ)
    (of_kind : IsOfKind kind rows id) where
  abbrev key : R → List ℕ
  key x = number_key (id x)

  abbrev pub rows_of : Numbered → List R
  rows_of n = rows n.number n.item.content

  -- the rows of two items in two places have keys of their own
  others_apart : (n m : Numbered) (r : R) → kind_is kind (kind_of n.item.content) ≡ true → id r ≡ n.number
      → bytes_eq (place_in_tables n) (place_in_tables m) ≡ false
      → AllByRecursion (λ y. bytes_eq (key r) (key y) ≡ false) (rows_of m)
  others_apart n m r mine number apart = one (kind_is kind (kind_of m.item.content)) refl
    where
      differ : (s : R) → kind_is kind (kind_of m.item.content) ≡ true → id s ≡ m.number
          → bytes_eq (key r) (key s) ≡ false
      differ s theirs at = false_from_ne_true _ (λ e.
          let same : key r ≡ key s = (bytes_eq-Decides (key r) (key s)).0 e in
          let numbers : unsigned_abs (id r) ≡ unsigned_abs (id s) = cc in
          let left : kind_number kind ≡ kind_number (kind_of n.item.content) = eqb-true _ _ mine in
          let right : kind_number kind ≡ kind_number (kind_of m.item.content) = eqb-true _ _ theirs in
          let kinds : kind_number (kind_of n.item.content) ≡ kind_number (kind_of m.item.content) =
          sym left ∙ right in
          let places : unsigned_abs n.number ≡ unsigned_abs m.number =
          ap unsigned_abs (sym number) ∙ numbers ∙ ap unsigned_abs at in
          let both : place_in_tables n ≡ place_in_tables m = λ i. kinds i ∷ places i ∷ [] in
          true≢false (sym ((bytes_eq-Decides (place_in_tables n) (place_in_tables m)).1 both) ∙ apart))

      one : (b : Bool) → kind_is kind (kind_of m.item.content) ≡ b
          → AllByRecursion (λ y. bytes_eq (key r) (key y) ≡ false) (rows_of m)
      one true e = let s = of_kind.mine m.number m.item.content e in subst
          (AllByRecursion (λ y. bytes_eq (key r) (key y) ≡ false)) (sym s.1) (differ s.0 e s.2, tt)
      one false e = subst (AllByRecursion (λ y. bytes_eq (key r) (key y) ≡ false))
          (sym (of_kind.others m.number m.item.content e)) tt

  rows_apart : (ns : List Numbered) → IsDistinct bytes_eq (map place_in_tables ns)
      → IsDistinct bytes_eq (map key (flat_map rows_of ns))
  unfolding IsDistinct
  rows_apart [] d = tt
  rows_apart (n ∷ ns) d = one (kind_is kind (kind_of n.item.content)) refl (rows_apart ns d.1)
    where
      one : (b : Bool) → kind_is kind (kind_of n.item.content) ≡ b
          → IsDistinct bytes_eq (map key (flat_map rows_of ns))
          → IsDistinct bytes_eq (map key (rows_of n ++ flat_map rows_of ns))
      one true e rest =
          let r = of_kind.mine n.number n.item.content e in
          subst (λ l. IsDistinct bytes_eq (map key (l ++ flat_map rows_of ns))) (sym r.1) (
            All-map (λ k. bytes_eq (key r.0) k ≡ false) key (flat_map rows_of ns)
                (All-flat_map (λ y. bytes_eq (key r.0) (key y) ≡ false) rows_of ns
                (All-weaker _ _ (λ m h. others_apart n m r.0 e r.2 h) ns
                (All-of_map (λ k. bytes_eq (place_in_tables n) k ≡ false) place_in_tables ns d.0))),
            rest,
          )
      one false e rest = subst (λ l. IsDistinct bytes_eq (map key (l ++ flat_map rows_of ns)))
          (sym (of_kind.others n.number n.item.content e)) rest

  -- where each item has its row in the table, and each row of the table an item of its number, the table is that of
  -- the items
  pub table_is : (numbered : List Numbered) (table : List R) → IsArranged key table
      → IsDistinct (λ a b. int_eq (id a) (id b)) table → IsDistinct bytes_eq (map place_in_tables numbered)
      → ((n : Numbered) → In n numbered → (x : R) → In x (rows_of n) → In x table)
      → ((x : R) → In x table → (n : Numbered) × In n numbered
      × (kind_is kind (kind_of n.item.content) ≡ true)
      × (n.number ≡ id x))
      → table ≡ arranged key (flat_map rows_of numbered)
  table_is numbered table set ids places held named = same_list key table (arranged key (flat_map rows_of numbered))
      set (distinct_arranged key (flat_map rows_of numbered) (rows_apart numbered places)) to fro
    where
      to : (x : R) → In x table → In x (arranged key (flat_map rows_of numbered))
      to x i =
          let n = named x i in
          let r = of_kind.mine n.0.number n.0.item.content n.2 in
          let here : In r.0 (rows_of n.0) = subst (In r.0) (sym r.1) (inl refl) in
          let number : id r.0 ≡ id x = r.2 ∙ n.3 in
          let same : r.0 ≡ x = one_by _ (λ a b. int_flips (id a) (id b)) table ids r.0 x (held n.0 n.1 r.0 here) i
          (ap (λ v. int_eq v (id x)) number ∙ itself (id x)) in
          subst (λ v. In v (arranged key (flat_map rows_of numbered))) same
          (to_arranged key r.0 (flat_map rows_of numbered) (In-flat_map rows_of n.0 r.0 numbered n.1 here))
        where
          itself : (z : ℤ) → int_eq z z ≡ true
          itself z = grind (arith)

      fro : (x : R) → In x (arranged key (flat_map rows_of numbered)) → In x table
      fro x i = let n = In-of_flat_map rows_of x numbered (in_arranged key (flat_map rows_of numbered) x i) in held
          n.0 n.1 x n.2

-- ---- the rows of what the tables have

pub tile_here : (t : Tables) (number : ℤ) (c : Content) → HasContent t number c → (x : TileRow)
    → In x (tile_rows number c) → In x t.tiles
tile_here t number (Tile zoom column row bytes) h x i = elim i
    [ inl e ↦ subst (λ v. In v t.tiles) e h | inr j ↦ absurd j ]
tile_here t number (Media content_type bytes) h x i = absurd i
tile_here t number (Row x y code label) h r i = absurd i

pub medium_here : (t : Tables) (number : ℤ) (c : Content) → HasContent t number c → (x : MediaRow)
    → In x (media_rows number c) → In x t.media
medium_here t number (Tile zoom column row bytes) h x i = absurd i
medium_here t number (Media content_type bytes) h x i = elim i
    [ inl e ↦ subst (λ v. In v t.media) e h | inr j ↦ absurd j ]
medium_here t number (Row x y code label) h r i = absurd i

pub attributes_here : (t : Tables) (number : ℤ) (c : Content) → HasContent t number c → (x : AttributeRow)
    → In x (attribute_rows number c) → In x t.rows
attributes_here t number (Tile zoom column row bytes) h x i = absurd i
attributes_here t number (Media content_type bytes) h x i = absurd i
attributes_here t number (Row x y code label) h r i = elim i
    [ inl e ↦ subst (λ v. In v t.rows) e h | inr j ↦ absurd j ]
