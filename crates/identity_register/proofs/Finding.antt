-- From a row that a table has to the item or link that it stands for.
use Rattle.std.proofs.Common.{◌≡◌, ℕ, pos, List, [], ◌∷◌, map, Bool, true, false, refl, sym, ap, subst}
use Rattle.std.proofs.Common.{◌∙◌}
use Rattle.std.specs.Prelude.{◌||◌, bytes_eq, Contains, All, IsPermutation}
use Rattle.std.specs.List.{list_any}
use Rattle.std.proofs.lemmas.Bool.{true≢false, false_from_ne_true}
use Rattle.std.proofs.lemmas.List.Elements.{All-from_recursion}
use Rattle.std.proofs.lemmas.List.Sorted.{Contains-permutation}
use Rattle.std.proofs.lemmas.Slice.Eq.{bytes_eq-Decides}
use Rattle.sheet_types.specs.Matrix.{is_within}
use Rattle.sheet_types.specs.Ordered.{arranged}
use Rattle.sheet_types.specs.Texts.{uuid_text}
use Rattle.sheet_types.specs.World.{Package, item_key, has_item}
use Rattle.sheet_types.specs.Lines.{IsUuid}
use Rattle.sheet_types.specs.declared.frame.Frame.{Frame}
use Rattle.sheet_types.proofs.Found.{any_implies}
use Rattle.sheet_types.proofs.Order.{All-arranged, list_any-arranged}
use Rattle.sheet_types.proofs.Same.{In, In-all, In-of_map, All-In, Contains-In}
use Rattle.sheet_types.proofs.LineReading.{same_uuid}
use Rattle.package_tables.specs.Package.{Tables}
use Rattle.package_tables.specs.Shapes.{identity_shape}
use Rattle.package_tables.specs.declared.rows.IdentityRow.{IdentityRow}
use Rattle.identity_register.specs.Numbering.{Numbered, greatest_number, identity_row}
use Rattle.identity_register.specs.Reads.{Says}

-- ---- elements

all_contains : {X : Type 0} (P : X → Type 0) (xs : List X) (x : X) → All P xs → Contains xs x → P x
all_contains P xs x all h = subst P h.2 (all h.0 x h.1)

pub contained : {X : Type 0} (xs : List X) (x : X) → Contains xs x → In x xs
contained xs x h = all_contains (λ y. In y xs) xs x (All-from_recursion (λ y. In y xs) xs (In-all xs)) h

pub in_arranged : {X : Type 0} (key : X → List ℕ) (xs : List X) (x : X) → In x (arranged key xs) → In x xs
in_arranged key xs x i = All-In (λ y. In y xs) x (arranged key xs) (All-arranged key (λ y. In y xs) xs (In-all xs)) i

-- elements stay elements in another order
pub moved : {X : Type 0} (x : X) (xs ys : List X) → IsPermutation xs ys → In x xs → In x ys
moved x xs ys h i = contained ys x (Contains-permutation xs ys x h (Contains-In x xs i))

pub any_map : {X Y : Type 0} (f : X → Y) (q : Y → Bool) (xs : List X)
    → list_any q (map f xs) ≡ list_any (λ x. q (f x)) xs
any_map f q [] = refl
any_map f q (x ∷ xs) = ap (λ b. q (f x) || b) (any_map f q xs)

-- where none passes a test, none passes a stronger one
pub weaker_any : {X : Type 0} (p q : X → Bool) → ((x : X) → p x ≡ true → q x ≡ true) → (xs : List X)
    → list_any q xs ≡ false → list_any p xs ≡ false
weaker_any p q f xs h = false_from_ne_true (list_any p xs) (λ e. true≢false (sym (any_implies p q f xs e) ∙ h))

-- ---- identities

-- UUIDs that are one have one text
pub same_text : (a b : List ℕ) → bytes_eq a b ≡ true → bytes_eq (uuid_text a) (uuid_text b) ≡ true
same_text a b e = (bytes_eq-Decides (uuid_text a) (uuid_text b)).1 (ap uuid_text ((bytes_eq-Decides a b).0 e))

-- where no row has the text of a UUID, none is of that UUID
pub no_text : {X Y : Type 0} (row : X → Y) (text : Y → List ℕ) (uuid : X → List ℕ)
    → ((x : X) → text (row x) ≡ uuid_text (uuid x)) → (id : List ℕ) (xs : List X)
    → list_any (λ r. bytes_eq (text r) (uuid_text id)) (map row xs) ≡ false
    → list_any (λ x. bytes_eq (uuid x) id) xs ≡ false
no_text row text uuid is id xs none =
    weaker_any (λ x. bytes_eq (uuid x) id) (λ x. bytes_eq (text (row x)) (uuid_text id))
    (λ x e. ap (λ v. bytes_eq v (uuid_text id)) (is x) ∙ same_text (uuid x) id e) xs
    (sym (any_map row (λ r. bytes_eq (text r) (uuid_text id)) xs) ∙ none)

module _ (f : Frame) (p : Package) (t : Tables) (says : Says f p t) where
  -- the item that an identity row is of
  pub row_numbered : (r : IdentityRow) → Contains t.identities r → (n : Numbered) × In n says.numbered
      × (identity_row n ≡ r)
  row_numbered r h =
      In-of_map identity_row r says.numbered (in_arranged identity_shape.key (map identity_row says.numbered) r
      (subst (In r) says.identities (contained t.identities r h)))

  -- the number of an item is one that may be
  pub in_range : (n : Numbered) → In n says.numbered → is_within (pos 1) greatest_number n.number ≡ true
  in_range n i = All-In (λ m. is_within (pos 1) greatest_number m.number ≡ true) n says.numbered says.numbers.range i

  uuid_of : (n : Numbered) → In n says.numbered → IsUuid n.item.identity
  uuid_of n i = All-In (λ m. IsUuid m.item.identity) n says.numbered says.numbers.uuids i

  -- the item of an identity, by the row that has its text
  pub row_of_uuid : (id : List ℕ) → IsUuid id → (r : IdentityRow) → Contains t.identities r
      → bytes_eq r.uuid (uuid_text id) ≡ true → (n : Numbered) × In n says.numbered × (identity_row n ≡ r)
      × (n.item.identity ≡ id)
  row_of_uuid id fit r h same =
      let it = row_numbered r h in
      let text : uuid_text it.0.item.identity ≡ uuid_text id =
      ap (λ x. x.uuid) it.2 ∙ (bytes_eq-Decides r.uuid (uuid_text id)).0 same in
      (it.0, it.1, it.2, same_uuid it.0.item.identity id (uuid_of it.0 it.1) fit text)

  -- where no row has the text, there is no such item
  pub no_row_of_uuid : (id : List ℕ) → list_any (λ r. bytes_eq r.uuid (uuid_text id)) t.identities ≡ false
      → has_item p id ≡ false
  no_row_of_uuid id none =
      rw says.items (list_any-arranged item_key (λ i. bytes_eq i.identity id) (map (λ n. n.item) says.numbered))
      ∙ any_map (λ n. n.item) (λ i. bytes_eq i.identity id) says.numbered
      ∙ no_text identity_row (λ r. r.uuid) (λ n. n.item.identity) (λ n. refl) id says.numbered
      (sym (ap (list_any (λ r. bytes_eq r.uuid (uuid_text id))) says.identities
      ∙ list_any-arranged identity_shape.key (λ r. bytes_eq r.uuid (uuid_text id))
      (map identity_row says.numbered)) ∙ none)
