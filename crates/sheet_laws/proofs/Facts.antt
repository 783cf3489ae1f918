-- What a sound ledger says of each thing that it names, and what a register says of each thing that it holds.
use Rattle.std.specs.Prelude.{is_some, unwrap_or, if◌then◌else◌, pos, ◌&&◌, ◌≡◌, ℕ, ◌≤◌}
use Rattle.std.specs.Prelude.{◌<◌, ◌==◌, Bool, true, false, ◌||◌, List, [], ◌∷◌, ◌++◌, map}
use Rattle.std.specs.Prelude.{find, length, refl, bytes_eq, Option, Some, None, count_by, slice_index}
use Rattle.std.proofs.Common.{sym, ap, subst, ◌∙◌, arith, length-append}
use Rattle.std.proofs.lemmas.List.{append-nil}
use Rattle.std.proofs.lemmas.Map.Keys.{IsDistinct-head, IsDistinct-tail}
use Rattle.std.proofs.lemmas.Bool.{lt-ltb, false≢true, and_parts, eqb-true, MatchBool-at_false}
use Rattle.std.proofs.lemmas.Slice.Eq.{bytes_eq-Decides}
use Rattle.std.specs.List.{list_any, AllByRecursion, IsDistinct}
use Rattle.sheet_types.specs.Ordered.{has, is_before, IsArranged}
use Rattle.sheet_types.specs.Texts.{Entry, Adds, Deletes, Links, Unlinks, Splits, Merges, entry_of, line}
use Rattle.sheet_types.specs.World.{World, Package, receipt_key, receipts_of, holdings, is_live, item_moved}
use Rattle.sheet_types.specs.World.{link_moved, moved_thing, moved_key, item_thing, item_key, link_key, link_kind}
use Rattle.sheet_types.specs.World.{is_item_kind}
use Rattle.sheet_types.specs.Custody.{names, custody, is_add, ends_at}
use Rattle.sheet_types.specs.Lines.{entry_from, is_uuid, is_number, is_bytes, is_adding, is_splitting}
use Rattle.sheet_types.proofs.LineReading.{line-entry_from}
use Rattle.sheet_types.specs.declared.receipt.MovedKind.{MovedKind}
use Rattle.sheet_types.specs.Balance.{names_as}
use Rattle.sheet_laws.proofs.Ledger.{by_entry}
use Rattle.sheet_types.proofs.Basics.{or-false, or-true}
use Rattle.sheet_types.specs.World.{thing_number, kind_number}
use Rattle.sheet_types.specs.Texts.{size, fingerprint}
use Rattle.sheet_types.specs.Cut.{identities, moved_of}
use Rattle.sheet_types.specs.Step.{added_item, moved, receipt_of, source_of, target_of}
use Rattle.sheet_laws.proofs.Contents.{IsUnaltered}
use Rattle.sheet_types.specs.Balance.{Balanced, IsLedger, IsReceiptOf, IsThing, Agrees, MayFollow, MovesFor}
use Rattle.sheet_types.specs.Balance.{is_split_to, archive_of, holds}
use Rattle.sheet_types.specs.Register.{IsRegister, IsKeptPackage}
use Rattle.sheet_types.specs.declared.command.Content.{Content}
use Rattle.sheet_types.specs.declared.command.Content.TheVariants.{Tile, Media, Row}
use Rattle.sheet_types.specs.declared.command.Item.{Item}
use Rattle.sheet_types.specs.declared.command.Mapping.{Mapping}
use Rattle.sheet_types.specs.declared.command.Mapping.TheVariants.{TilesMedia, RowsMedia, RowsTiles}
use Rattle.sheet_types.specs.declared.command.Relation.{Relation}
use Rattle.sheet_types.specs.declared.command.Request.{Request}
use Rattle.sheet_types.specs.declared.receipt.Moved.{Moved}
use Rattle.sheet_types.specs.declared.receipt.Receipt.{Receipt}
use Rattle.sheet_types.proofs.Order.{before_numbers, counts_arranged}
use Rattle.sheet_types.proofs.Basics.{bytes_eq_itself, bytes_eq_swap}
use Rattle.sheet_types.proofs.Every.{All-weaker, All-left, All-right, All-both, All-append, All-map, All-each}
use Rattle.sheet_types.proofs.Every.{All-of_map}
use Rattle.sheet_laws.proofs.Ledger.{item_kind_by_number, thing_of}
use Rattle.sheet_types.proofs.Found.{found, All-found}
use Rattle.sheet_types.proofs.Sums.{any_none, count-cons, count_none}
use Rattle.sheet_laws.proofs.Packages.{at_all, holdings_none}
use Rattle.sheet_laws.proofs.Shifting.{weighed, counting, count_items, count_links, thing_item, thing_link}

-- ---- in the ledger: order, ranges, and one size and digest for one thing

-- each number is past those before
ledger_above : (archive : List ℕ) (past rs : List Receipt) → IsLedger archive past rs
    → AllByRecursion (λ s. length past < s.seq) rs
ledger_above archive past [] h = tt
ledger_above archive past (r ∷ rs) h = (
  omega (arith, h.0.number),
  All-weaker (λ s. length (past ++ r ∷ []) < s.seq) (λ s. length past < s.seq)
      (λ s lt. omega (arith, lt, length-append past (r ∷ []))) rs (ledger_above archive (past ++ r ∷ []) rs h.1),
)

-- a sound ledger is in the order of its numbers
pub ledger_arranged : (archive : List ℕ) (past rs : List Receipt) → IsLedger archive past rs
    → IsArranged receipt_key rs
ledger_arranged archive past [] h = tt
ledger_arranged archive past (r ∷ rs) h = (
  All-weaker (λ s. length (past ++ r ∷ []) < s.seq) (λ s. is_before (receipt_key r) (receipt_key s) ≡ true)
      (λ s lt. before_numbers r.seq s.seq ∙ lt-ltb r.seq s.seq
      (omega (arith, lt, h.0.number, length-append past (r ∷ [])))) rs
      (ledger_above archive (past ++ r ∷ []) rs h.1),
  ledger_arranged archive (past ++ r ∷ []) rs h.1,
)

-- a sound ledger names things alone
pub ledger_things : (archive : List ℕ) (past rs : List Receipt) → IsLedger archive past rs
    → AllByRecursion (λ s. AllByRecursion IsThing s.items) rs
ledger_things archive past [] h = tt
ledger_things archive past (r ∷ rs) h = (h.0.things, ledger_things archive (past ++ r ∷ []) rs h.1)

-- agreement goes both ways
agrees_back : (m n : Moved) → Agrees m n → Agrees n m
agrees_back m n h = λ same. let e : (m.size ≡ n.size) × (m.fingerprint ≡ n.fingerprint) =
    h (bytes_eq_swap (moved_thing n) (moved_thing m) ∙ same) in (sym e.0, sym e.1)

-- what follows a receipt of one thing agrees with it
later_agree : (archive : List ℕ) (m : Moved) (s : Receipt) → s.items ≡ m ∷ [] → (past rs : List Receipt)
    → IsLedger archive past rs → ((Q : Receipt → Type 0) → AllByRecursion Q past → Q s)
    → AllByRecursion (λ t. AllByRecursion (Agrees m) t.items) rs
later_agree archive m s alone past [] h in_past = tt
later_agree archive m s alone past (r ∷ rs) h in_past = (
  All-weaker (λ n. AllByRecursion (λ x. AllByRecursion (Agrees n) x.items) past) (Agrees m)
      (λ n agree. agrees_back n m (subst (AllByRecursion (Agrees n)) alone
      (in_past (λ x. AllByRecursion (Agrees n) x.items) agree)).0) r.items h.0.agrees,
  later_agree archive m s alone (past ++ r ∷ []) rs h.1 (λ Q g. in_past Q (All-left Q past (r ∷ []) g)),
)

-- a thing agrees with all that receipts name
abbrev AgreeAll : Moved → List Receipt → Type 0
AgreeAll m rs = AllByRecursion (λ t. AllByRecursion (Agrees m) t.items) rs

-- what a receipt of one thing names agrees with the whole ledger
single_agree : (archive : List ℕ) (past rs : List Receipt) → IsLedger archive past rs
    → AllByRecursion (λ s. (m : Moved) → s.items ≡ m ∷ [] → AgreeAll m past × AgreeAll m rs) rs
single_agree archive past [] h = tt
single_agree archive past (r ∷ rs) h = (
  λ m alone. (
    (subst (AllByRecursion (λ n. AllByRecursion (λ x. AllByRecursion (Agrees n) x.items) past)) alone h.0.agrees).0,
    (
      subst (AllByRecursion (Agrees m)) (sym alone) ((λ _. (refl, refl)), tt),
      later_agree archive m r alone
          (past ++ r ∷ []) rs h.1 (λ Q g. (All-right Q past (r ∷ []) g).0),
    ),
  ),
  All-weaker (λ s. (m : Moved) → s.items ≡ m ∷ [] → AgreeAll m (past ++ r ∷ []) × AgreeAll m rs)
      (λ s. (m : Moved) → s.items ≡ m ∷ [] → AgreeAll m past × AgreeAll m (r ∷ rs))
      (λ s g m alone.
      let both : AgreeAll m (past ++ r ∷ []) × AgreeAll m rs = g m alone in (
        All-left (λ t. AllByRecursion (Agrees m) t.items) past (r ∷ []) both.0,
        ((All-right (λ t. AllByRecursion (Agrees m) t.items) past (r ∷ []) both.0).0, both.1),
      ))
      rs (single_agree archive (past ++ r ∷ []) rs h.1),
)

-- the entry of each receipt
pub ledger_entered : (archive : List ℕ) (past rs : List Receipt) → IsLedger archive past rs
    → AllByRecursion (λ s. (e : Entry) × IsReceiptOf s e) rs
ledger_entered archive past [] h = tt
ledger_entered archive past (r ∷ rs) h = (h.0.entered, ledger_entered archive (past ++ r ∷ []) rs h.1)

-- an Add receipt names one thing, which is an item
pub added_thing : (r : Receipt) (e : Entry) → IsReceiptOf r e → is_add r ≡ true → (m : Moved)
    × (r.items ≡ m ∷ []) × (is_item_kind m.kind ≡ true) × (m.other ≡ None)
    × (is_some m.fingerprint ≡ true)
added_thing r (Adds p identity kind size digest) of add =
    let fit : (is_uuid p && is_uuid identity && is_item_kind kind && is_number (pos size) && is_bytes 32 digest)
    ≡ true = (line-entry_from r.line (Adds p identity kind size digest) of.says).0 in
    let upto : ((is_uuid p && is_uuid identity && is_item_kind kind && is_number (pos size)) ≡ true)
    × (is_bytes 32 digest ≡ true) = and_parts (is_uuid p && is_uuid identity && is_item_kind kind &&
    is_number (pos size)) (is_bytes 32 digest) fit in
    let item : is_item_kind kind ≡ true = (and_parts (is_uuid p && is_uuid identity) (is_item_kind kind)
    (and_parts (is_uuid p && is_uuid identity && is_item_kind kind) (is_number (pos size)) upto.0).0).1 in (
      record { kind = kind; base = identity; other = None; size = size; fingerprint = Some digest },
      of.moves,
      item,
      refl,
      refl,
    )
added_thing r (Deletes p identity) of add = absurd (false≢true
    (sym (by_entry is_adding r (Deletes p identity) of.says) ∙ add))
added_thing r (Links p mapping base other) of add = absurd (false≢true
    (sym (by_entry is_adding r (Links p mapping base other) of.says) ∙ add))
added_thing r (Unlinks p mapping base other) of add = absurd
    (false≢true (sym (by_entry is_adding r (Unlinks p mapping base other) of.says) ∙ add))
added_thing r (Splits p child mode rect) of add = absurd (false≢true
    (sym (by_entry is_adding r (Splits p child mode rect) of.says) ∙ add))
added_thing r (Merges child into ticket) of add = absurd (false≢true
    (sym (by_entry is_adding r (Merges child into ticket) of.says) ∙ add))

-- a digest that is there and equal
digest_is : (o : Option (List ℕ)) (d : List ℕ) → is_some o ≡ true → bytes_eq (unwrap_or o []) d ≡ true
    → o ≡ Some d
digest_is None d h e = absurd (false≢true h)
digest_is (Some x) d h e = ap Some ((bytes_eq-Decides x d).0 e)

-- an item is the thing of number 0
item_number : (kind : MovedKind) → is_item_kind kind ≡ true → thing_number kind ≡ 0
item_number kind h = ap (λ b. if b then 0 else kind_number kind) h

-- what a receipt names with an item's identity, size and digest agrees as the item does
agrees_as : (i : Item) (m n : Moved) → is_item_kind m.kind ≡ true → m.other ≡ None
    → is_some m.fingerprint ≡ true → names_as i m ≡ true → Agrees m n → Agrees (item_moved i) n
agrees_as i m n item alone some names agrees same =
    let two : ((bytes_eq m.base i.identity && (m.size == size i.content)) ≡ true)
    × (bytes_eq (unwrap_or m.fingerprint []) (fingerprint i.content) ≡ true) =
    and_parts (bytes_eq m.base i.identity && (m.size == size i.content))
    (bytes_eq (unwrap_or m.fingerprint []) (fingerprint i.content)) names in
    let one : (bytes_eq m.base i.identity ≡ true) × ((m.size == size i.content) ≡ true) =
    and_parts (bytes_eq m.base i.identity) (m.size == size i.content) two.0 in
    let thing : moved_thing m ≡ item_thing i = (λ j. item_number m.kind item j
    ∷ (bytes_eq-Decides m.base i.identity).0 one.0 j ++ unwrap_or (alone j) [])
    ∙ ap (λ zs. 0 ∷ zs) (append-nil i.identity) in
    let is : (m.size ≡ n.size) × (m.fingerprint ≡ n.fingerprint) =
    agrees (ap (bytes_eq (moved_thing n)) (thing ∙ sym (thing_item i)) ∙ same) in (
      sym (eqb-true m.size (size i.content) one.1) ∙ is.0,
      sym
          (digest_is m.fingerprint (fingerprint i.content) some two.1) ∙ is.1,
    )

-- what is unaltered agrees with all that the ledger says
pub unaltered_agrees : (w : World) (i : Item) → IsLedger (archive_of w) [] (receipts_of w) → IsUnaltered w i
    → AllByRecursion (λ t. AllByRecursion (Agrees (item_moved i)) t.items) (receipts_of w)
unaltered_agrees w i sound h =
    let says : Receipt → Bool = λ s. is_add s && list_any (names_as i) s.items in
    let Single : Receipt → Type 0 = λ s. (m : Moved) → s.items ≡ m ∷ [] → AgreeAll m []
    × AgreeAll m (receipts_of w) in
    let Both : Receipt → Type 0 = λ s. ((e : Entry) × IsReceiptOf s e) × Single s in
    let s : (s : Receipt) × (find says (receipts_of w) ≡ Some s) = found says (receipts_of w) h in
    let of : Both s.0 × (says s.0 ≡ true) = All-found Both says s.0 (receipts_of w) s.1
    (All-both (λ x. (e : Entry) × IsReceiptOf x e) Single Both (λ x a b. (a, b)) (receipts_of w)
    (ledger_entered (archive_of w) [] (receipts_of w) sound)
    (single_agree (archive_of w) [] (receipts_of w) sound)) in
    let tests : (is_add s.0 ≡ true) × (list_any (names_as i) s.0.items ≡ true) =
    and_parts (is_add s.0) (list_any (names_as i) s.0.items) of.1 in
    let m : (m : Moved) × (s.0.items ≡ m ∷ []) × (is_item_kind m.kind ≡ true) × (m.other ≡ None)
    × (is_some m.fingerprint ≡ true) = added_thing s.0 of.0.0.0 of.0.0.1 tests.0 in
    let names : names_as i m.0 ≡ true = sym (or-false (names_as i m.0)) ∙ sym (ap (list_any (names_as i)) m.1)
    ∙ tests.1 in
    All-weaker (λ t. AllByRecursion (Agrees m.0) t.items) (λ t. AllByRecursion (Agrees (item_moved i)) t.items)
    (λ t. All-weaker (Agrees m.0) (Agrees (item_moved i)) (λ n. agrees_as i m.0 n m.2 m.3 m.4 names) t.items)
    (receipts_of w) (of.0.1 m.0 m.1).1

-- one thing is an item or a link
same_kind : (m n : Moved) → bytes_eq (moved_thing n) (moved_thing m) ≡ true
    → is_item_kind n.kind ≡ is_item_kind m.kind
same_kind m n same = item_kind_by_number n.kind ∙ ap (λ k. k == 0)
    (ap (λ zs. slice_index zs 0) ((bytes_eq-Decides (moved_thing n) (moved_thing m)).0 same))
    ∙ sym (item_kind_by_number m.kind)

-- a mapping is of no item kind
link_number : (mapping : Mapping) → is_item_kind (link_kind mapping) ≡ false
link_number TilesMedia = refl
link_number RowsMedia = refl
link_number RowsTiles = refl

-- a link agrees with all that the ledger says of it
pub link_agrees : (w : World) (l : Relation) → IsLedger (archive_of w) [] (receipts_of w)
    → AllByRecursion (λ t. AllByRecursion (Agrees (link_moved l)) t.items) (receipts_of w)
link_agrees w l sound =
    All-weaker (λ s. AllByRecursion IsThing s.items) (λ s. AllByRecursion (Agrees (link_moved l)) s.items)
    (λ s. All-weaker IsThing (Agrees (link_moved l)) one_link s.items) (receipts_of w)
    (ledger_things (archive_of w) [] (receipts_of w) sound)
  where
    one_link : (n : Moved) → IsThing n → Agrees (link_moved l) n
    one_link n thing same =
        let link : is_item_kind n.kind ≡ false = same_kind (link_moved l) n same ∙ link_number l.mapping in
        let is : (is_some n.other ≡ true) × (n.size ≡ 0) × (n.fingerprint ≡ None) =
        MatchBool-at_false ((n.other ≡ None) × (is_some n.fingerprint ≡ true))
        ((is_some n.other ≡ true) × (n.size ≡ 0) × (n.fingerprint ≡ None)) link thing in
        (sym is.1, sym is.2)

-- ---- what a receipt of items and links says

-- what a receipt says of an item is a thing
pub item_is_thing : (i : Item) → IsThing (item_moved i)
item_is_thing i = thing_of i.identity i.content

-- what a receipt says of a link is a thing
pub link_is_thing : (l : Relation) → IsThing (link_moved l)
link_is_thing l = elim l.mapping as (λ m. IsThing (link_moved
    (record { mapping = m; base = l.base; other = l.other })))
    [ TilesMedia ↦ (refl, refl, refl) | RowsMedia ↦ (refl, refl, refl) | RowsTiles ↦ (refl, refl, refl) ]

-- a receipt of items and links names things
pub things_moved : (items : List Item) (links : List Relation) → AllByRecursion IsThing (moved_of items links)
things_moved items links = All-append IsThing (map item_moved items) (map link_moved links)
    (All-map IsThing item_moved items (All-each (λ i. IsThing (item_moved i)) item_is_thing items))
    (All-map IsThing link_moved links (All-each (λ l. IsThing (link_moved l)) link_is_thing links))

-- an item and what is said of it have one key
item_key_moved : (identity : List ℕ) (content : Content) → moved_key (item_moved (added_item identity content))
    ≡ item_key (added_item identity content)
item_key_moved identity (Tile zoom column row bytes) = ap (λ zs. 1 ∷ zs) (append-nil identity)
item_key_moved identity (Media content_type bytes) = ap (λ zs. 2 ∷ zs) (append-nil identity)
item_key_moved identity (Row x y code label) = ap (λ zs. 3 ∷ zs) (append-nil identity)

-- the order of items is that of what is said of them
items_before : (i j : Item) → is_before (item_key i) (item_key j) ≡ true
    → is_before (moved_key (item_moved i)) (moved_key (item_moved j)) ≡ true
items_before i j h = ap (λ a. is_before a (moved_key (item_moved j))) (item_key_moved i.identity i.content)
    ∙ ap (is_before (item_key i)) (item_key_moved j.identity j.content) ∙ h

-- items stand before links
before_link : (content : Content) (mapping : Mapping) (identity base other : List ℕ)
    → is_before (item_key (added_item identity content)) (link_key
    (record { mapping = mapping; base = base; other = other })) ≡ true
before_link (Tile zoom column row bytes) TilesMedia identity base other = refl
before_link (Tile zoom column row bytes) RowsMedia identity base other = refl
before_link (Tile zoom column row bytes) RowsTiles identity base other = refl
before_link (Media content_type bytes) TilesMedia identity base other = refl
before_link (Media content_type bytes) RowsMedia identity base other = refl
before_link (Media content_type bytes) RowsTiles identity base other = refl
before_link (Row x y code label) TilesMedia identity base other = refl
before_link (Row x y code label) RowsMedia identity base other = refl
before_link (Row x y code label) RowsTiles identity base other = refl

-- links stand in their order
links_in_order : (links : List Relation) → IsArranged link_key links → IsArranged moved_key (map link_moved links)
links_in_order [] h = tt
links_in_order (l ∷ links) h = (
  All-map (λ n. is_before (moved_key (link_moved l)) (moved_key n) ≡ true)
      link_moved links h.0,
  links_in_order links h.1,
)

-- a receipt of items and links is in order
pub order_moved : (items : List Item) (links : List Relation) → IsArranged item_key items
    → IsArranged link_key links → IsArranged moved_key (moved_of items links)
order_moved [] links h g = links_in_order links g
order_moved (i ∷ items) links h g = (
  All-append (λ n. is_before (moved_key (item_moved i)) (moved_key n) ≡ true) (map item_moved items)
      (map link_moved links)
      (All-map (λ n. is_before (moved_key (item_moved i)) (moved_key n) ≡ true) item_moved items
      (All-weaker (λ j. is_before (item_key i) (item_key j) ≡ true)
      (λ j. is_before (moved_key (item_moved i)) (moved_key (item_moved j)) ≡ true) (items_before i) items
      h.0))
      (All-map (λ n. is_before (moved_key (item_moved i)) (moved_key n) ≡ true) link_moved links
      (All-each (λ l. is_before (moved_key (item_moved i)) (moved_key (link_moved l)) ≡ true)
      (λ l. ap (λ a. is_before a (link_key l)) (item_key_moved i.identity i.content)
      ∙ before_link i.content l.mapping i.identity l.base l.other) links)),
  order_moved items links h.1 g,
)

-- a receipt of unaltered items and of links agrees with the ledger
pub agree_moved : (w : World) (items : List Item) (links : List Relation)
    → IsLedger (archive_of w) [] (receipts_of w) → AllByRecursion (IsUnaltered w) items
    → AllByRecursion (λ m. AllByRecursion (λ x. AllByRecursion (Agrees m) x.items) (receipts_of w))
    (moved_of items links)
agree_moved w items links sound unaltered =
    All-append (λ m. AllByRecursion (λ x. AllByRecursion (Agrees m) x.items) (receipts_of w)) (map item_moved items)
    (map link_moved links)
    (All-map (λ m. AllByRecursion (λ x. AllByRecursion (Agrees m) x.items) (receipts_of w)) item_moved items
    (All-weaker (IsUnaltered w) (λ i. AllByRecursion (λ x. AllByRecursion (Agrees (item_moved i)) x.items)
    (receipts_of w)) (λ i h. unaltered_agrees w i sound h) items unaltered))
    (All-map (λ m. AllByRecursion (λ x. AllByRecursion (Agrees m) x.items) (receipts_of w)) link_moved links
    (All-each (λ l. AllByRecursion (λ x. AllByRecursion (Agrees (link_moved l)) x.items) (receipts_of w))
    (λ l. link_agrees w l sound) links))

-- what a package holds stands there by the ledger
pub custody_moved : (w : World) (p : List ℕ) (items : List Item) (links : List Relation) → Balanced w
    → AllByRecursion (λ i. holds (holdings w p) (item_thing i) ≡ true) items
    → AllByRecursion (λ l. holds (holdings w p) (link_key l) ≡ true) links
    → AllByRecursion (λ m. custody (receipts_of w) (moved_thing m) ≡ Some p) (moved_of items links)
custody_moved w p items links balance hi hl =
    All-append (λ m. custody (receipts_of w) (moved_thing m) ≡ Some p) (map item_moved items) (map link_moved links)
    (All-map (λ m. custody (receipts_of w) (moved_thing m) ≡ Some p) item_moved items
    (All-weaker (λ i. holds (holdings w p) (item_thing i) ≡ true)
    (λ i. custody (receipts_of w) (moved_thing (item_moved i)) ≡ Some p)
    (λ i h. ap (custody (receipts_of w)) (thing_item i) ∙ (balance.custody_is p (item_thing i)).0 h) items hi))
    (All-map (λ m. custody (receipts_of w) (moved_thing m) ≡ Some p) link_moved links
    (All-weaker (λ l. holds (holdings w p) (link_key l) ≡ true)
    (λ l. custody (receipts_of w) (moved_thing (link_moved l)) ≡ Some p)
    (λ l h. ap (custody (receipts_of w)) (thing_link l) ∙ (balance.custody_is p (link_key l)).0 h) links hl))

-- what is to be known of the items and links that a request moves, and of its entry, which adds nothing
pub record Moves (w : World) (q : Request) (items : List Item) (links : List Relation) : Type 0 where
  pub says : entry_from (line q.command) ≡ Some (entry_of q.command)
  pub new_request : has (λ r. r.request) q.id (receipts_of w) ≡ false
  pub things : moved w q.command ≡ moved_of items links
  pub entered : MovesFor (entry_of q.command) (moved w q.command)
  pub in_order : IsArranged item_key items × IsArranged link_key links
  pub unaltered : AllByRecursion (IsUnaltered w) items
  pub from_source : AllByRecursion (λ m. custody (receipts_of w) (moved_thing m) ≡ source_of (entry_of q.command))
      (moved_of items links)
  pub no_add : is_adding (entry_of q.command) ≡ false
  pub new_loan : is_splitting (entry_of q.command) ≡ true → (list_any
      (is_split_to (target_of (entry_of q.command))) (receipts_of w) ≡ false)
      × (ends_at (target_of (entry_of q.command)) (archive_of w) ≡ false)

-- the receipt of such a request may follow the ledger
pub may_move : (w : World) (q : Request) (items : List Item) (links : List Relation)
    → IsLedger (archive_of w) [] (receipts_of w) → Moves w q items links
    → MayFollow (archive_of w) (receipts_of w) (receipt_of w q)
may_move w q items links sound m =
    let r : Receipt = receipt_of w q in
    let e : Entry = entry_of q.command in
    let Known : Moved → Type 0 = λ t. AllByRecursion (λ x. AllByRecursion (Agrees t) x.items) (receipts_of w) in
    record {
      number = refl;
      new_request = m.new_request;
      things = subst (AllByRecursion IsThing) (sym m.things) (things_moved items links);
      in_order = subst (IsArranged moved_key) (sym m.things) (order_moved items links m.in_order.0 m.in_order.1);
      counts = record { tiles = refl; media = refl; rows = refl; links = refl; bytes = refl };
      entered = (e, record { says = m.says; leaves = refl; comes_to = refl; moves = m.entered });
      from_source = subst (AllByRecursion (λ t. custody (receipts_of w) (moved_thing t) ≡ source_of e))
          (sym m.things) m.from_source;
      never_before = λ adds. absurd (false≢true (sym (by_entry is_adding r e m.says ∙ m.no_add) ∙ adds));
      agrees = subst (AllByRecursion Known) (sym m.things) (agree_moved w items links sound m.unaltered);
      new_loan = λ splits. m.new_loan (sym (by_entry is_splitting r e m.says) ∙ splits);
    }

-- each element is among them
pub self_has : {X : Type 0} (key : X → List ℕ) (xs : List X)
    → AllByRecursion (λ x. has key (key x) xs ≡ true) xs
self_has key [] = tt
self_has key (x ∷ xs) = (
  ap (λ b. b || has key (key x) xs) (bytes_eq_itself (key x)),
  All-weaker (λ y. has key (key y) xs ≡ true) (λ y. has key (key y) (x ∷ xs) ≡ true)
      (λ y h. ap (λ b. bytes_eq (key x) (key y) || b) h ∙ or-true (bytes_eq (key x) (key y))) xs
      (self_has key xs),
)

-- a package holds its items
pub items_held : (x : Package) → AllByRecursion (λ i. holds x (item_thing i) ≡ true) x.items
items_held x = All-weaker (λ i. has item_thing (item_thing i) x.items ≡ true)
    (λ i. holds x (item_thing i) ≡ true) (λ i h. ap (λ b. b || has link_key (item_thing i) x.links) h) x.items
    (self_has item_thing x.items)

-- a package holds its links
pub links_held : (x : Package) → AllByRecursion (λ l. holds x (link_key l) ≡ true) x.links
links_held x = All-weaker (λ l. has link_key (link_key l) x.links ≡ true) (λ l. holds x (link_key l) ≡ true)
    (λ l h. ap (λ b. has item_thing (link_key l) x.items || b) h ∙ or-true (has item_thing (link_key l) x.items))
    x.links (self_has link_key x.links)

-- ---- a package holds each thing once

-- items of different identities are different things
items_once : (thing : List ℕ) (items : List Item) → IsDistinct bytes_eq (identities items)
    → count_by (λ i. bytes_eq (item_thing i) thing) items ≤ 1
items_once thing [] h = omega arith
items_once thing (i ∷ items) h =
    elim (bytes_eq (item_thing i) thing) as (λ v. bytes_eq (item_thing i) thing ≡ v
    → count_by (λ j. bytes_eq (item_thing j) thing) (i ∷ items) ≤ 1) [
      | true ↦ λ e.
          let others : AllByRecursion (λ j. bytes_eq (item_thing j) thing ≡ false) items =
          All-weaker (λ j. bytes_eq i.identity j.identity ≡ false) (λ j. bytes_eq (item_thing j) thing ≡ false)
          (λ j d. ap (bytes_eq (item_thing j)) (sym ((bytes_eq-Decides (item_thing i) thing).0 e))
          ∙ bytes_eq_swap j.identity i.identity ∙ d) items
          (All-of_map (λ y. bytes_eq i.identity y ≡ false) (λ j. j.identity) items
          (IsDistinct-head bytes_eq i.identity (identities items) h)) in
          omega (
            arith,
            count-cons (λ j. bytes_eq (item_thing j) thing) i items true e,
            count_none
                (λ j. bytes_eq (item_thing j) thing) items others,
          )
      | false ↦ λ e. omega (
        arith,
        count-cons (λ j. bytes_eq (item_thing j) thing) i items false e,
        items_once
            thing items (IsDistinct-tail bytes_eq i.identity (identities items) h),
      )
    ] refl

-- no link is the thing of an item
no_link_is_item : (i : Item) (thing : List ℕ) → bytes_eq (item_thing i) thing ≡ true → (links : List Relation)
    → count_by (λ l. bytes_eq (link_key l) thing) links ≡ 0
no_link_is_item i thing e links = count_none (λ l. bytes_eq (link_key l) thing) links
    (All-each (λ l. bytes_eq (link_key l) thing ≡ false) (λ l. ap (bytes_eq (link_key l))
    (sym ((bytes_eq-Decides (item_thing i) thing).0 e))
    ∙ elim l.mapping as (λ m. bytes_eq (link_key (record { mapping = m; base = l.base; other = l.other }))
    (item_thing i) ≡ false) [ TilesMedia ↦ refl | RowsMedia ↦ refl | RowsTiles ↦ refl ]) links)

-- a package holds a thing once at most
pub once : (x : Package) (thing : List ℕ) → IsDistinct bytes_eq (identities x.items)
    → IsArranged link_key x.links → weighed (counting thing) x ≤ 1
once x thing distinct arranged' =
    elim (has item_thing thing x.items) as (λ v. has item_thing thing x.items ≡ v
    → weighed (counting thing) x ≤ 1) [
      | true ↦ λ e.
          let f : (i : Item) × (find (λ i. bytes_eq (item_thing i) thing) x.items ≡ Some i) =
          found (λ i. bytes_eq (item_thing i) thing) x.items e in
          let is : bytes_eq (item_thing f.0) thing ≡ true = (All-found (λ _. Unit {0})
          (λ i. bytes_eq (item_thing i) thing) f.0 x.items f.1
          (All-each (λ _. Unit {0}) (λ _. tt) x.items)).1 in
          omega (
            arith,
            count_items thing x.items,
            count_links thing x.links,
            items_once thing x.items distinct,
            no_link_is_item f.0 thing is x.links,
          )
      | false ↦ λ e. omega (
        arith,
        count_items thing x.items,
        count_links thing x.links,
        any_none
            (λ i. bytes_eq (item_thing i) thing) x.items e,
        counts_arranged link_key thing x.links arranged',
      )
    ] refl

-- what is held under a UUID keeps the rules of a package, or is nothing
pub kept_at : (w : World) (p : List ℕ) → IsRegister w → is_live w p ≡ true → IsKeptPackage w (holdings w p)
kept_at w p register live = (at_all w (IsKeptPackage w) p register.packages live).0

-- so does what stands under any UUID
pub holds_once : (w : World) → IsRegister w → (p thing : List ℕ) → weighed (counting thing) (holdings w p) ≤ 1
holds_once w register p thing =
    elim (is_live w p) as (λ v. is_live w p ≡ v → weighed (counting thing) (holdings w p) ≤ 1) [
      | true ↦ λ live. let k : IsKeptPackage w (holdings w p) =
          kept_at w p register live in once (holdings w p) thing k.identities k.links
      | false ↦ λ dead. subst (λ x. weighed (counting thing) x ≤ 1) (sym (holdings_none w p dead)) (omega arith)
    ] refl
