-- What the keys of tables tell of identities, rows and mapping rows.
use Rattle.std.proofs.Common.{◌≡◌, ℤ, pos, List, [], ◌∷◌, ◌++◌, map, Bool, true, false, refl, sym}
use Rattle.std.proofs.Common.{ap, ◌∙◌}
use Rattle.std.specs.Prelude.{◌&&◌, ◌||◌, IsPermutation}
use Rattle.std.specs.List.{AllByRecursion, list_any}
use Rattle.std.specs.Ordering.{int_cmp, int_eq, eq_by_cmp}
use Rattle.std.proofs.lemmas.List.Folds.{list_any-append}
use Rattle.std.proofs.lemmas.List.Sorted.{list_any-IsPermutation}
use Rattle.sheet_types.specs.World.{kind_number, base_kind, other_kind}
use Rattle.sheet_types.specs.declared.command.Mapping.{Mapping}
use Rattle.sheet_types.proofs.Every.{All-weaker, All-map, All-of_map, All-left, All-right, All-append}
use Rattle.package_tables.specs.Mappings.{mapping_rows}
use Rattle.package_tables.specs.Package.{Tables}
use Rattle.package_tables.specs.declared.rows.MappingRow.{MappingRow}
use Rattle.identity_register.specs.Numbering.{is_taken}
use Rattle.identity_register.proofs.Finding.{any_map}
use Rattle.package_items.specs.Answers.{Decides}
use Rattle.package_items.specs.Tied.{has_row}
use Rattle.package_items.specs.Ties.{key_cmp, has_key, name_key, row_keys, has_names, has_identities}
use Rattle.package_items.specs.Ties.{RowsHaveIdentities, PairsHaveIdentities}
use Rattle.package_items.proofs.Apart.{int_flips}
use Rattle.package_items.proofs.Deciding.{decides_same, decides_moved}
use Rattle.package_items.proofs.Keys.{is_both}

any_same : {X : Type 0} (p q : X → Bool) → ((x : X) → p x ≡ q x) → (xs : List X)
    → list_any p xs ≡ list_any q xs
any_same p q e [] = refl
any_same p q e (x ∷ xs) = λ n. e x n || any_same p q e xs n

any_under : {X : Type 0} (b : Bool) (q : X → Bool) (xs : List X)
    → list_any (λ x. b && q x) xs ≡ (b && list_any q xs)
any_under b q [] = none b
  where
    none : (b : Bool) → false ≡ (b && false)
    none true = refl
    none false = refl
any_under true q (x ∷ xs) = ap (λ v. q x || v) (any_under true q xs)
any_under false q (x ∷ xs) = any_under false q xs

pub map_again : {X Y Z : Type 0} (f : Y → Z) (g : X → Y) (xs : List X)
    → map f (map g xs) ≡ map (λ x. f (g x)) xs
map_again f g [] = refl
map_again f g (x ∷ xs) = ap (λ l. f (g x) ∷ l) (map_again f g xs)

-- ---- one key

module _ (t : Tables) where
  pub name_taken : (names : List (ℤ × ℤ)) → IsPermutation (map name_key t.identities) names
      → (key : ℤ × ℤ)
      → has_key names key ≡ is_taken key.0 key.1 t
  name_taken names moves key =
      sym (list_any-IsPermutation (λ k. eq_by_cmp key_cmp k key) (map name_key t.identities) names moves)
      ∙ any_map name_key (λ k. eq_by_cmp key_cmp k key) t.identities
      ∙ any_same _ _ (λ r. is_both (int_cmp r.kind key.0) (int_cmp r.local_id key.1)) t.identities

  of_kind : {X : Type 0} (n : ℤ) (id : X → ℤ) (xs : List X) (key : ℤ × ℤ)
      → list_any (λ k. eq_by_cmp key_cmp k key) (map (λ r. (n, id r)) xs)
      ≡ (int_eq key.0 n && list_any (λ r. int_eq (id r) key.1) xs)
  of_kind n id xs key =
      any_map (λ r. (n, id r)) (λ k. eq_by_cmp key_cmp k key) xs
      ∙ any_same _ (λ r. int_eq key.0 n && int_eq (id r) key.1)
      (λ r. is_both (int_cmp n key.0) (int_cmp (id r) key.1)
      ∙ ap (λ b. b && int_eq (id r) key.1) (int_flips n key.0)) xs
      ∙ any_under (int_eq key.0 n) (λ r. int_eq (id r) key.1) xs

  pub row_there : (rows : List (ℤ × ℤ)) → IsPermutation (row_keys t) rows → (key : ℤ × ℤ)
      → has_key rows key ≡ has_row key.0 key.1 t
  row_there rows moves key =
      let p : ℤ × ℤ → Bool = λ k. eq_by_cmp key_cmp k key in
      let tiles : List (ℤ × ℤ) = map (λ r. (pos 1, r.id)) t.tiles in
      let media : List (ℤ × ℤ) = map (λ r. (pos 2, r.id)) t.media in
      let others : List (ℤ × ℤ) = map (λ r. (pos 3, r.id)) t.rows in
      sym (list_any-IsPermutation p (row_keys t) rows moves) ∙ list_any-append p (tiles ++ media) others
      ∙ ap (λ v. v || list_any p others) (list_any-append p tiles media)
      ∙ (λ n. (of_kind (pos 1) (λ r. r.id) t.tiles key n || of_kind (pos 2) (λ r. r.id) t.media key n) || of_kind
      (pos 3) (λ r. r.id) t.rows key n)

  -- ---- all keys of a kind of rows

  abbrev IsKeyTaken : ℤ × ℤ → Type 0
  IsKeyTaken x = is_taken x.0 x.1 t ≡ true

  abbrev tiles : List (ℤ × ℤ)
  tiles = map (λ r. (pos 1, r.id)) t.tiles

  abbrev media : List (ℤ × ℤ)
  media = map (λ r. (pos 2, r.id)) t.media

  abbrev others : List (ℤ × ℤ)
  others = map (λ r. (pos 3, r.id)) t.rows

  module _ (names : List (ℤ × ℤ)) (known : IsPermutation (map name_key t.identities) names) where
    pub rows_decided : (rows : List (ℤ × ℤ)) → IsPermutation (row_keys t) rows → (b : Bool)
        → Decides (AllByRecursion (λ x. has_key names x ≡ true) rows) b → Decides (RowsHaveIdentities t) b
    rows_decided rows moves b h = decides_same b to fro (decides_moved (λ x. has_key names x ≡ true) (row_keys t)
        rows
        b moves h)
      where
        to : AllByRecursion (λ x. has_key names x ≡ true) (row_keys t) → RowsHaveIdentities t
        to all =
            let taken = All-weaker (λ x. has_key names x ≡ true) IsKeyTaken
            (λ x e. sym (name_taken names known x) ∙ e) (row_keys t) all in
            let before = All-left IsKeyTaken (tiles ++ media) others taken in
            record {
              tiles = All-of_map IsKeyTaken (λ r. (pos 1, r.id)) t.tiles (All-left IsKeyTaken tiles media before);
              media = All-of_map IsKeyTaken (λ r. (pos 2, r.id)) t.media (All-right IsKeyTaken tiles media before);
              rows = All-of_map IsKeyTaken (λ r. (pos 3, r.id)) t.rows
                  (All-right IsKeyTaken (tiles ++ media) others taken);
            }

        fro : RowsHaveIdentities t → AllByRecursion (λ x. has_key names x ≡ true) (row_keys t)
        fro it = All-weaker IsKeyTaken (λ x. has_key names x ≡ true) (λ x e. name_taken names known x ∙ e)
            (row_keys t)
            (All-append IsKeyTaken (tiles ++ media) others
            (All-append IsKeyTaken tiles media (All-map IsKeyTaken (λ r. (pos 1, r.id)) t.tiles it.tiles)
            (All-map IsKeyTaken (λ r. (pos 2, r.id)) t.media it.media))
            (All-map IsKeyTaken (λ r. (pos 3, r.id)) t.rows it.rows))

    pub names_decided : (rows : List (ℤ × ℤ)) → IsPermutation (row_keys t) rows → (b : Bool)
        → Decides (AllByRecursion (λ x. has_key rows x ≡ true) names) b
        → Decides (AllByRecursion (λ r. has_row r.kind r.local_id t ≡ true) t.identities) b
    names_decided rows moves b h =
        decides_same b
        (λ all. All-of_map (λ x. has_row x.0 x.1 t ≡ true) name_key t.identities
        (All-weaker (λ x. has_key rows x ≡ true) (λ x. has_row x.0 x.1 t ≡ true)
        (λ x e. sym (row_there rows moves x) ∙ e) (map name_key t.identities) all))
        (λ all. All-weaker (λ x. has_row x.0 x.1 t ≡ true) (λ x. has_key rows x ≡ true)
        (λ x e. row_there rows moves x ∙ e) (map name_key t.identities)
        (All-map (λ x. has_row x.0 x.1 t ≡ true) name_key t.identities all))
        (decides_moved (λ x. has_key rows x ≡ true) (map name_key t.identities) names b known h)

    both_named : (m : Mapping) (r : MappingRow) → has_names names m r ≡ has_identities m t r
    both_named m r = λ n. name_taken names known (pos (kind_number (base_kind m)), r.base_id) n && name_taken names
        known (pos (kind_number (other_kind m)), r.related_id) n

    pub pairs_decided : (m : Mapping) (pairs : List MappingRow) → IsPermutation (mapping_rows m t) pairs
        → (b : Bool)
        → Decides (AllByRecursion (λ r. has_names names m r ≡ true) pairs) b
        → Decides (PairsHaveIdentities m t) b
    pairs_decided m pairs moves b h =
        decides_same b
        (All-weaker (λ r. has_names names m r ≡ true) (λ r. has_identities m t r ≡ true)
        (λ r e. sym (both_named m r) ∙ e) (mapping_rows m t))
        (All-weaker (λ r. has_identities m t r ≡ true) (λ r. has_names names m r ≡ true)
        (λ r e. both_named m r ∙ e)
        (mapping_rows m t))
        (decides_moved (λ r. has_names names m r ≡ true) (mapping_rows m t) pairs b moves h)
