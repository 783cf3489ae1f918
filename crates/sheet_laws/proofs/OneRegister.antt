-- Delete, Unlink and Link keep the rules of a register.
use Rattle.std.specs.Prelude.{◌≡◌, ℕ, Bool, true, false, cond, not, ◌&&◌, ◌||◌, List, [], ◌∷◌}
use Rattle.std.specs.Prelude.{filter, refl, bytes_eq, None}
use Rattle.std.proofs.Common.{ap, ◌∙◌, arith, drop}
use Rattle.std.proofs.lemmas.Bool.{and_parts, or_parts}
use Rattle.std.proofs.lemmas.Slice.Eq.{bytes_eq-Decides}
use Rattle.std.specs.List.{AllByRecursion}
use Rattle.sheet_types.specs.Ordered.{put, has, is_among}
use Rattle.sheet_types.specs.Texts.{entry_of}
use Rattle.sheet_types.specs.World.{World, Package, link_key, item_key, holdings, has_kind, base_kind, other_kind}
use Rattle.sheet_types.specs.World.{kind_number, is_tile}
use Rattle.sheet_types.specs.Step.{accepted, receipt_of, kept_reply, relation}
use Rattle.sheet_types.specs.Refuse.{refusal, reasons, place_of}
use Rattle.sheet_types.specs.Lines.{IsUuid, HasTypes, is_splitting}
use Rattle.sheet_types.specs.Custody.{is_split}
use Rattle.sheet_laws.proofs.Ledger.{by_entry}
use Rattle.sheet_types.specs.Register.{IsRegister, IsKeptPackage, HasEnds}
use Rattle.sheet_laws.specs.Laws.{delete_request, link_request, unlink_request, DeleteKeepsRegister}
use Rattle.sheet_laws.specs.Laws.{LinkKeepsRegister, UnlinkKeepsRegister}
use Rattle.sheet_types.specs.declared.command.Item.{Item}
use Rattle.sheet_types.specs.declared.command.Mapping.{Mapping}
use Rattle.sheet_types.specs.declared.command.Relation.{Relation}
use Rattle.sheet_types.specs.declared.command.Request.{Request}
use Rattle.sheet_types.specs.declared.receipt.MovedKind.{MovedKind}
use Rattle.sheet_types.proofs.Order.{All-put, filter_arranged, put_arranged}
use Rattle.sheet_laws.proofs.Accepting.{rows_fail, keeps}
use Rattle.sheet_types.proofs.Every.{none_pass, All-both, All-filter}
use Rattle.sheet_types.proofs.Basics.{not_false}
use Rattle.sheet_types.proofs.Without.{is_one}
use Rattle.sheet_laws.proofs.Facts.{kept_at}
use Rattle.sheet_laws.proofs.Keeping.{fit_all, places_less}
use Rattle.sheet_types.proofs.Distinct.{distinct_counts, counts_distinct}
use Rattle.sheet_types.proofs.Sums.{filter_less}
use Rattle.sheet_laws.proofs.Changing.{delete_items, delete_fits, unlink_links, unlink_fits}
use Rattle.sheet_laws.proofs.Linking.{link_fits}
use Rattle.sheet_types.proofs.Found.{any_filter}
use Rattle.sheet_laws.proofs.OnePackage as one

module _ (w : World) (id moment p identity : List ℕ) (register : IsRegister w) where
  abbrev asked : Request
  asked = delete_request id moment p identity

  delete_register : HasTypes asked.command → kept_reply w asked ≡ None
      → refusal w (accepted w asked) asked ≡ None → IsRegister (accepted w asked)
  delete_register types no_reply no_refusal =
      let fails : AllByRecursion (λ row. row.0 ≡ false) (reasons w (accepted w asked) asked) =
      rows_fail (reasons w (accepted w asked) asked) no_refusal in
      let x : Package = holdings w p in
      let fits = delete_fits w id moment p identity register types no_reply no_refusal in
      let k : IsKeptPackage w x = kept_at w p register fits.live in
      let t : Item → Bool = λ i. not (is_among (identity ∷ []) i.identity) in
      let untied : AllByRecursion (λ l. (bytes_eq l.base identity || bytes_eq l.other identity) ≡ false) x.links =
      none_pass (λ l. bytes_eq l.base identity || bytes_eq l.other identity) x.links
      fails.1.1.1.1.1.1.1.1.1.1.1.1.1.0 in
      let no_split : is_split (receipt_of w asked) ≡ false =
      by_entry is_splitting (receipt_of w asked) (entry_of asked.command) fits.says in
      one.register_after w p (receipt_of w asked) (entry_of asked.command)
      (delete_items w id moment p identity register) (λ y. y.links) register fits
      (record {
        uuid = k.uuid;
        items = filter_arranged item_key t x.items k.items;
        links = k.links;
        receipts = one.receipts_at_p w p (receipt_of w asked) (entry_of asked.command)
            (delete_items w id moment p identity register) (λ y. y.links) register fits;
        identities = counts_distinct (λ i. i.identity) (filter t x.items)
            (λ n. omega (
              arith,
              distinct_counts (λ i. i.identity) n x.items k.identities,
              filter_less
                  (λ i. cond (bytes_eq i.identity n) 1 0) t x.items,
            ));
        uuids = All-filter (λ i. IsUuid i.identity) t x.items k.uuids;
        fit = fit_all w (accepted w asked) refl x x (filter t x.items) (All-filter _ t x.items k.fit);
        places = counts_distinct (λ i. place_of i.content) (filter is_tile (filter t x.items))
            (λ n. omega (
              arith,
              distinct_counts (λ i. place_of i.content) n (filter is_tile x.items) k.places,
              places_less t n x.items,
            ));
        ends = All-both (λ l. (bytes_eq l.base identity || bytes_eq l.other identity) ≡ false) (HasEnds x) _
            (λ l off ends.
            let apart : (bytes_eq l.base identity ≡ false) × (bytes_eq l.other identity ≡ false) =
            or_parts (bytes_eq l.base identity) (bytes_eq l.other identity) off in (
              kind_stays (base_kind l.mapping) l.base x.items apart.0 ends.0,
              kind_stays (other_kind l.mapping) l.other
                  x.items apart.1 ends.1,
            )) x.links untied k.ends;
        parent = one.parent_kept w p (receipt_of w asked) (entry_of asked.command)
            (delete_items w id moment p identity register) (λ y. y.links) register fits;
      })
      no_split
      (one.contents_after w p (receipt_of w asked) (entry_of asked.command)
      (delete_items w id moment p identity register) (λ y. y.links) register fits
      (λ y h. All-filter _ _ y.items h))
    where
      kind_stays : (kind : MovedKind) (end : List ℕ) (items : List Item) → bytes_eq end identity ≡ false
          → has item_key (kind_number kind ∷ end) items ≡ true
          → has item_key (kind_number kind ∷ end) (filter (λ i. not (is_among (identity ∷ []) i.identity))
          items) ≡ true
      kind_stays kind end items apart h = any_filter (λ i. bytes_eq (item_key i) (kind_number kind ∷ end))
          (λ i. not (is_among (identity ∷ []) i.identity)) items
          (λ i e. ap not (is_one (λ j. j.identity) identity i
          ∙ ap (λ z. bytes_eq z identity) (ap (drop 1) ((bytes_eq-Decides (item_key i)
          (kind_number kind ∷ end)).0 e)) ∙ apart)) h

-- the law of a deletion
pub delete_keeps_register : DeleteKeepsRegister
delete_keeps_register w id moment p identity types register =
    keeps IsRegister w (delete_request id moment p identity) register
    (delete_register w id moment p identity register types)

module _ (w : World) (id moment p : List ℕ) (mapping : Mapping) (base other : List ℕ)
    (register : IsRegister w) where
  abbrev unlink_asked : Request
  unlink_asked = unlink_request id moment p mapping base other

  abbrev link_asked : Request
  link_asked = link_request id moment p mapping base other

  abbrev linked_now : Relation
  linked_now = relation mapping base other

  unlink_register : HasTypes unlink_asked.command → kept_reply w unlink_asked ≡ None
      → refusal w (accepted w unlink_asked) unlink_asked ≡ None → IsRegister (accepted w unlink_asked)
  unlink_register types no_reply no_refusal =
      let x : Package = holdings w p in
      let fits = unlink_fits w id moment p mapping base other register types no_reply no_refusal in
      let k : IsKeptPackage w x = kept_at w p register fits.live in
      let no_split : is_split (receipt_of w unlink_asked) ≡ false =
      by_entry is_splitting (receipt_of w unlink_asked) (entry_of unlink_asked.command) fits.says in
      one.register_after w p (receipt_of w unlink_asked) (entry_of unlink_asked.command) (λ y. y.items)
      (unlink_links w id moment p mapping base other register) register fits
      (record {
        uuid = k.uuid;
        items = k.items;
        links = filter_arranged link_key _ x.links k.links;
        receipts = one.receipts_at_p w p (receipt_of w unlink_asked) (entry_of unlink_asked.command) (λ y. y.items)
            (unlink_links w id moment p mapping base other register) register fits;
        identities = k.identities;
        uuids = k.uuids;
        fit = fit_all w (accepted w unlink_asked) refl x x x.items k.fit;
        places = k.places;
        ends = All-filter _ _ x.links k.ends;
        parent = one.parent_kept w p (receipt_of w unlink_asked) (entry_of unlink_asked.command) (λ y. y.items)
            (unlink_links w id moment p mapping base other register) register fits;
      })
      no_split
      (one.contents_after w p (receipt_of w unlink_asked) (entry_of unlink_asked.command) (λ y. y.items)
      (unlink_links w id moment p mapping base other register) register fits (λ y h. h))

  link_register : HasTypes link_asked.command → kept_reply w link_asked ≡ None
      → refusal w (accepted w link_asked) link_asked ≡ None → IsRegister (accepted w link_asked)
  link_register types no_reply no_refusal =
      let fails : AllByRecursion (λ row. row.0 ≡ false) (reasons w (accepted w link_asked) link_asked) =
      rows_fail (reasons w (accepted w link_asked) link_asked) no_refusal in
      let x : Package = holdings w p in
      let fits = link_fits w id moment p mapping base other register types no_reply no_refusal in
      let k : IsKeptPackage w x = kept_at w p register fits.live in
      let kinds : (has_kind x (base_kind mapping) base ≡ true) × (has_kind x (other_kind mapping) other ≡ true) =
      and_parts (has_kind x (base_kind mapping) base) (has_kind x (other_kind mapping) other)
      (not_false (has_kind x (base_kind mapping) base && has_kind x (other_kind mapping) other)
      fails.1.1.1.1.1.1.1.0) in
      let new : AllByRecursion (λ l. bytes_eq (link_key l) (link_key linked_now) ≡ false) x.links =
      none_pass (λ l. bytes_eq (link_key l) (link_key linked_now)) x.links fails.1.1.1.1.1.1.1.1.1.1.1.0 in
      let no_split : is_split (receipt_of w link_asked) ≡ false =
      by_entry is_splitting (receipt_of w link_asked) (entry_of link_asked.command) fits.says in
      one.register_after w p (receipt_of w link_asked) (entry_of link_asked.command) (λ y. y.items)
      (λ y. put link_key linked_now y.links) register fits
      (record {
        uuid = k.uuid;
        items = k.items;
        links = put_arranged link_key linked_now x.links k.links new;
        receipts = one.receipts_at_p w p (receipt_of w link_asked) (entry_of link_asked.command) (λ y. y.items)
            (λ y. put link_key linked_now y.links) register fits;
        identities = k.identities;
        uuids = k.uuids;
        fit = fit_all w (accepted w link_asked) refl x x x.items k.fit;
        places = k.places;
        ends = All-put link_key _ linked_now x.links kinds k.ends;
        parent = one.parent_kept w p (receipt_of w link_asked) (entry_of link_asked.command) (λ y. y.items)
            (λ y. put link_key linked_now y.links) register fits;
      })
      no_split
      (one.contents_after w p (receipt_of w link_asked) (entry_of link_asked.command) (λ y. y.items)
      (λ y. put link_key linked_now y.links) register fits (λ y h. h))

-- the law of a link taken out
pub unlink_keeps_register : UnlinkKeepsRegister
unlink_keeps_register w id moment p mapping base other types register =
    keeps IsRegister w (unlink_request id moment p mapping base other) register
    (unlink_register w id moment p mapping base other register types)

-- the law of a new link
pub link_keeps_register : LinkKeepsRegister
link_keeps_register w id moment p mapping base other types register =
    keeps IsRegister w (link_request id moment p mapping base other) register
    (link_register w id moment p mapping base other register types)
