-- A new link keeps the account.
use Rattle.std.specs.Prelude.{◌≡◌, ℕ, true, false, ◌&&◌, ◌||◌, List, [], ◌∷◌, ◌++◌, find}
use Rattle.std.specs.Prelude.{refl, bytes_eq, Some, None, unwrap_or}
use Rattle.std.proofs.Common.{sym, ap, subst, ◌∙◌, arith, drop, take}
use Rattle.std.proofs.lemmas.List.{take_at}
use Rattle.std.proofs.lemmas.Bool.{true≢false, false≢true, and_parts}
use Rattle.std.proofs.lemmas.Slice.Eq.{bytes_eq-Decides}
use Rattle.std.specs.List.{AllByRecursion}
use Rattle.sheet_types.specs.Ordered.{put, has}
use Rattle.sheet_types.specs.Texts.{entry_of}
use Rattle.sheet_types.specs.World.{World, Package, link_key, item_key, item_thing, receipts_of, holdings, is_live}
use Rattle.sheet_types.specs.World.{has_kind, base_kind, other_kind, kind_number, link_moved}
use Rattle.sheet_types.specs.Custody.{custody}
use Rattle.sheet_types.specs.Step.{accepted, receipt_of, kept_reply, relation}
use Rattle.sheet_types.specs.Refuse.{refusal, reasons, has_link}
use Rattle.sheet_types.proofs.LineReading.{entry_from-line, uuid_length}
use Rattle.sheet_types.specs.Lines.{HasTypes, entry_from, is_merging}
use Rattle.sheet_laws.proofs.Ledger.{by_entry}
use Rattle.sheet_types.specs.Balance.{holds}
use Rattle.sheet_types.specs.Lines.{IsUuid}
use Rattle.sheet_types.specs.Register.{IsRegister, IsKeptPackage, HasEnds}
use Rattle.sheet_laws.specs.Laws.{link_request}
use Rattle.sheet_types.specs.declared.command.Item.{Item}
use Rattle.sheet_types.specs.declared.command.Mapping.{Mapping}
use Rattle.sheet_types.specs.declared.command.Mapping.TheVariants.{TilesMedia, RowsMedia, RowsTiles}
use Rattle.sheet_types.specs.declared.command.Relation.{Relation}
use Rattle.sheet_types.specs.declared.command.Request.{Request}
use Rattle.sheet_types.specs.declared.receipt.MovedKind.{MovedKind}
use Rattle.sheet_types.proofs.Basics.{bytes_eq_itself, not_false, and_true}
use Rattle.sheet_laws.proofs.Accepting.{rows_fail, new_identity}
use Rattle.sheet_types.proofs.Every.{none_any, All-both, All-each}
use Rattle.sheet_types.proofs.Order.{sum_by-put}
use Rattle.sheet_types.proofs.Found.{All-found, found}
use Rattle.sheet_laws.proofs.Packages.{holdings_none}
use Rattle.sheet_laws.proofs.Shifting.{thing_link}
use Rattle.sheet_laws.proofs.Facts.{may_move, items_held, kept_at}
use Rattle.sheet_laws.proofs.OnePackage as one

-- an item of this kind is held under its identity
kind_held : (x : Package) (kind : MovedKind) (id : List ℕ) → AllByRecursion (λ i. IsUuid i.identity) x.items
    → has_kind x kind id ≡ true → (holds x (0 ∷ id) ≡ true) × IsUuid id
kind_held x kind id uuids h =
    let f : (i : Item) × (find (λ i. bytes_eq (item_key i) (kind_number kind ∷ id)) x.items ≡ Some i) =
    found (λ i. bytes_eq (item_key i) (kind_number kind ∷ id)) x.items h in
    let Both : Item → Type 0 = λ i. (holds x (item_thing i) ≡ true) × IsUuid i.identity in
    let all : Both f.0 × (bytes_eq (item_key f.0) (kind_number kind ∷ id) ≡ true) =
    All-found Both (λ i. bytes_eq (item_key i) (kind_number kind ∷ id)) f.0 x.items f.1
    (All-both (λ i. holds x (item_thing i) ≡ true) (λ i. IsUuid i.identity) Both (λ i a b. (a, b)) x.items
    (items_held x) uuids) in
    let e : f.0.identity ≡ id = ap (drop 1) ((bytes_eq-Decides (item_key f.0) (kind_number kind ∷ id)).0 all.1) in
    (subst (λ z. holds x (0 ∷ z) ≡ true) e all.0.0, subst IsUuid e all.0.1)

-- no item is the thing of a link
no_item_is_link : (l : Relation) (items : List Item) → has item_thing (link_key l) items ≡ false
no_item_is_link l items = none_any (λ i. bytes_eq (item_thing i) (link_key l)) items
    (All-each (λ i. bytes_eq (item_thing i) (link_key l) ≡ false)
    (λ i. elim l.mapping as (λ m. bytes_eq (item_thing i) (link_key
    (record { mapping = m; base = l.base; other = l.other })) ≡ false)
    [ TilesMedia ↦ refl | RowsMedia ↦ refl | RowsTiles ↦ refl ]) items)

module _ (w : World) (id moment p : List ℕ) (mapping : Mapping) (base other : List ℕ)
    (register : IsRegister w) where
  abbrev pub asked : Request
  asked = link_request id moment p mapping base other

  abbrev pub linked : Relation
  linked = relation mapping base other

  -- a link whose base stands in one package stands in no other
  stood_nowhere : is_live w p ≡ true → has_kind (holdings w p) (base_kind mapping) base ≡ true
      → has_link (holdings w p) mapping base other ≡ false → custody (receipts_of w) (link_key linked) ≡ None
  stood_nowhere live ends not_there =
      elim (custody (receipts_of w) (link_key linked)) as (λ o. custody (receipts_of w) (link_key linked) ≡ o
      → o ≡ None) [
        | None ↦ λ _. refl
        | Some p' ↦ λ at.
            let held : holds (holdings w p') (link_key linked) ≡ true =
            (register.balanced.custody_is p' (link_key linked)).1 at in
            let live' : is_live w p' ≡ true = elim (is_live w p') as (λ v. is_live w p' ≡ v → v ≡ true) [
              | true ↦ λ _. refl
              | false ↦ λ dead. absurd (false≢true (sym (ap (λ x. holds x (link_key linked))
                  (holdings_none w p' dead)) ∙ held))
            ] refl in
            let there : has link_key (link_key linked) (holdings w p').links ≡ true =
            sym (ap (λ b. b || has link_key (link_key linked) (holdings w p').links)
            (no_item_is_link linked (holdings w p').items)) ∙ held in
            let kept : IsKeptPackage w (holdings w p) = kept_at w p register live in
            let kept' : IsKeptPackage w (holdings w p') = kept_at w p' register live' in
            let f : (l : Relation) × (find (λ l. bytes_eq (link_key l) (link_key linked)) (holdings w p').links
            ≡ Some l) = found (λ l. bytes_eq (link_key l) (link_key linked)) (holdings w p').links there in
            let all : HasEnds (holdings w p') f.0 × (bytes_eq (link_key f.0) (link_key linked) ≡ true) =
            All-found (HasEnds (holdings w p')) (λ l. bytes_eq (link_key l) (link_key linked)) f.0
            (holdings w p').links f.1 kept'.ends in
            let mine : (holds (holdings w p) (0 ∷ base) ≡ true) × IsUuid base =
            kind_held (holdings w p) (base_kind mapping) base kept.uuids ends in
            let theirs : (holds (holdings w p') (0 ∷ f.0.base) ≡ true) × IsUuid f.0.base =
            kind_held (holdings w p') (base_kind f.0.mapping) f.0.base kept'.uuids all.0.0 in
            let ends_are : f.0.base ++ f.0.other ≡ base ++ other =
            ap (drop 1) ((bytes_eq-Decides (link_key f.0) (link_key linked)).0 all.1) in
            let bases : f.0.base ≡ base = sym (take_at f.0.base f.0.other 16 (uuid_length f.0.base theirs.1))
            ∙ ap (take 16) ends_are ∙ take_at base other 16 (uuid_length base mine.1) in
            let at_p : custody (receipts_of w) (0 ∷ base) ≡ Some p =
            (register.balanced.custody_is p (0 ∷ base)).0 mine.0 in
            let at_p' : custody (receipts_of w) (0 ∷ base) ≡ Some p' =
            (register.balanced.custody_is p' (0 ∷ base)).0
            (subst (λ z. holds (holdings w p') (0 ∷ z) ≡ true) bases theirs.0) in
            let same : p' ≡ p = ap (λ o. unwrap_or o p) (sym at_p' ∙ at_p) in
            absurd (true≢false (sym (subst (λ z. has link_key (link_key linked) (holdings w z).links ≡ true) same
            there) ∙ not_there))
      ] refl

  pub link_fits : HasTypes asked.command → kept_reply w asked ≡ None
      → refusal w (accepted w asked) asked ≡ None → one.Fits w p (receipt_of w asked) (entry_of asked.command)
      (λ x. x.items) (λ x. put link_key linked x.links)
  link_fits types no_reply no_refusal =
      let says : entry_from (receipt_of w asked).line ≡ Some (entry_of asked.command) =
      entry_from-line (entry_of asked.command) types in
      let fails : AllByRecursion (λ row. row.0 ≡ false) (reasons w (accepted w asked) asked) =
      rows_fail (reasons w (accepted w asked) asked) no_refusal in
      let live : is_live w p ≡ true = and_true (is_live w p) (not_false (is_live w p && true) fails.1.0) in
      let kinds : (has_kind (holdings w p) (base_kind mapping) base ≡ true)
      × (has_kind (holdings w p) (other_kind mapping) other ≡ true) =
      and_parts (has_kind (holdings w p) (base_kind mapping) base)
      (has_kind (holdings w p) (other_kind mapping) other)
      (not_false (has_kind (holdings w p) (base_kind mapping) base && has_kind (holdings w p) (other_kind mapping)
      other) fails.1.1.1.1.1.1.1.0) in
      record {
        says = says;
        stands = refl;
        live = live;
        may = may_move w asked [] (linked ∷ []) register.balanced.ledger (record {
          says = says;
          new_request = new_identity w asked no_reply fails.0;
          things = refl;
          entered = refl;
          in_order = (tt, (tt, tt));
          unaltered = tt;
          from_source = (
            ap (custody (receipts_of w)) (thing_link linked)
                ∙ stood_nowhere live kinds.0 fails.1.1.1.1.1.1.1.1.1.1.1.0,
            tt,
          );
          no_add = refl;
          new_loan = λ splits. absurd (false≢true splits);
        });
        no_merge = by_entry is_merging (receipt_of w asked) (entry_of asked.command) says;
        shifts = λ c _. rw (bytes_eq_itself p) (omega (
          arith,
          sum_by-put link_key (λ l. c (link_moved l)) linked
              (holdings w p).links,
        ));
        elsewhere = λ q other. (refl, other);
      }
