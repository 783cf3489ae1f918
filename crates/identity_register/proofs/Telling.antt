-- What was told of all identity rows is what receipts tell of the items of the package.
use Rattle.std.proofs.Common.{◌≡◌, List, [], ◌∷◌, map, true, sym, ap, subst, ◌∙◌}
use Rattle.std.specs.Prelude.{bytes_eq, Contains, IsPermutation, Some}
use Rattle.std.specs.List.{AllZip}
use Rattle.std.proofs.lemmas.List.{append-nil}
use Rattle.std.proofs.lemmas.List.Sorted.{IsPermutation-sym}
use Rattle.sheet_types.specs.Ordered.{is_before, IsArranged}
use Rattle.sheet_types.specs.Texts.{uuid_text}
use Rattle.sheet_types.specs.World.{Package, item_key, item_of, item_moved, moved_key}
use Rattle.sheet_types.specs.declared.command.Item.{Item}
use Rattle.sheet_types.specs.declared.frame.Frame.{Frame}
use Rattle.sheet_types.specs.declared.receipt.Moved.{Moved}
use Rattle.sheet_types.proofs.Basics.{some_same, bytes_eq_itself}
use Rattle.sheet_types.proofs.Every.{All-weaker, All-map}
use Rattle.sheet_types.proofs.Same.{In, In-map, In-of_map, Contains-In, same_list}
use Rattle.package_tables.specs.Package.{Tables}
use Rattle.package_tables.specs.declared.rows.IdentityRow.{IdentityRow}
use Rattle.identity_register.specs.Numbering.{Numbered, identity_row}
use Rattle.identity_register.specs.Reads.{Says}
use Rattle.identity_register.specs.Told.{IsToldOf}
use Rattle.identity_register.proofs.Answering.{item_is}
use Rattle.identity_register.proofs.Contents.{content_by_row}
use Rattle.identity_register.proofs.Finding.{contained, in_arranged, moved}
use Rattle.identity_register.proofs.Gathering.{zip_left, zip_right, row_item, one_row}
use Rattle.identity_register.proofs.OnePackage.{to_arranged, row_stored, items_arranged}

-- a receipt tells of an item under the item's key
same_key : (i : Item) → moved_key (item_moved i) ≡ item_key i
same_key i = ap (λ l. item_key (record { identity = l; content = i.content })) (append-nil i.identity)

-- so what is told of items in their order is in its order
pub told_arranged : (items : List Item) → IsArranged item_key items → IsArranged moved_key (map item_moved items)
told_arranged [] h = tt
told_arranged (i ∷ is) h = (
  All-map (λ y. is_before (moved_key (item_moved i)) (moved_key y) ≡ true) item_moved is
      (All-weaker _ _ (λ j e. subst (λ k. is_before k (moved_key (item_moved j)) ≡ true) (sym (same_key i))
      (subst (λ k. is_before (item_key i) k ≡ true) (sym (same_key j)) e)) is h.0),
  told_arranged is h.1,
)

module _ (f : Frame) (p : Package) (t : Tables) (says : Says f p t) where
  -- what is told of a row is told of the row's item
  told_is : (r : IdentityRow) → Contains t.identities r → (m : Moved) → IsToldOf r t m → (n : Numbered)
      × In n says.numbered × (identity_row n ≡ r) × (item_moved n.item ≡ m)
  told_is r h m it =
      let n = row_item f p t says r h it.identity it.text it.fit in
      let named : bytes_eq r.uuid (uuid_text it.identity) ≡ true =
      subst (λ x. bytes_eq x (uuid_text it.identity) ≡ true) (sym it.text)
      (bytes_eq_itself (uuid_text it.identity)) in
      let here = content_by_row f p t says it.identity it.fit r it.content (h, named) it.there in
      let is : item_of p it.identity ≡ Some n.0.item = ap (item_of p) (sym n.3) ∙ item_is f p t says n.0 n.1 in
      let same : ◌≡◌ {A = Item} (record { identity = it.identity; content = it.content }) n.0.item =
      some_same (here ∙ is) in
      (n.0, n.1, n.2, sym (ap item_moved same) ∙ sym it.told)

  pub told_are : (rows : List IdentityRow) (made found : List Moved) → IsPermutation t.identities rows
      → AllZip (λ r. IsToldOf r t) rows made → IsPermutation made found → IsArranged moved_key found
      → found ≡ map item_moved p.items
  told_are rows made found all zipped moves order = same_list moved_key found (map item_moved p.items) order
      (told_arranged p.items (items_arranged f t p says)) to fro
    where
      to : (x : Moved) → In x found → In x (map item_moved p.items)
      to x i =
          let it = zip_right (λ r. IsToldOf r t) x rows made zipped
          (moved x found made (IsPermutation-sym made found moves) i) in
          let n = told_is it.0 (Contains-In it.0 t.identities
          (moved it.0 rows t.identities (IsPermutation-sym t.identities rows all) it.1)) x it.2 in
          let there : In n.0.item p.items = subst (In n.0.item) (sym says.items)
          (to_arranged item_key n.0.item (map (λ m. m.item) says.numbered)
          (In-map (λ m. m.item) n.0 says.numbered n.1)) in
          subst (λ y. In y (map item_moved p.items)) n.3 (In-map item_moved n.0.item p.items there)

      fro : (x : Moved) → In x (map item_moved p.items) → In x found
      fro x i =
          let item = In-of_map item_moved x p.items i in
          let n = In-of_map (λ m. m.item) item.0 says.numbered
          (in_arranged item_key (map (λ m. m.item) says.numbered) item.0
          (subst (In item.0) says.items item.1)) in
          let stored : Contains t.identities (identity_row n.0) = row_stored f t p says n.0 n.1 in
          let it = zip_left (λ r. IsToldOf r t) (identity_row n.0) rows made zipped
          (moved (identity_row n.0) t.identities rows all
          (contained t.identities (identity_row n.0) stored)) in
          let m = told_is (identity_row n.0) stored it.0 it.2 in
          let same : it.0 ≡ x = sym m.3 ∙ ap (λ y. item_moved y.item) (one_row f p t says m.0 n.0 m.1 n.1 m.2)
          ∙ ap item_moved n.2 ∙ item.2 in
          subst (λ y. In y found) same (moved it.0 made found moves it.1)
