-- An added item keeps the rules of a register; so does each request, and each run.
use Rattle.std.specs.Prelude.{◌≡◌, ℕ, ◌+◌, ◌≤◌, Bool, true, false, cond, not, ◌&&◌, ◌||◌}
use Rattle.std.specs.Prelude.{List, [], ◌∷◌, filter, refl, bytes_eq, None, count_by}
use Rattle.std.proofs.Common.{sym, ap, subst, ◌∙◌, arith, drop}
use Rattle.std.proofs.lemmas.Bool.{true≢false, and_from, or_parts, false_from_ne_true}
use Rattle.std.proofs.lemmas.Slice.Eq.{bytes_eq-Decides}
use Rattle.std.specs.List.{list_any, AllByRecursion}
use Rattle.sheet_types.specs.Ordered.{put, has}
use Rattle.sheet_types.specs.Texts.{entry_of, is_moment}
use Rattle.sheet_types.specs.World.{World, Package, item_key, item_thing, link_key, receipts_of, holdings, no_package}
use Rattle.sheet_types.specs.World.{is_live, item_moved, is_tile}
use Rattle.sheet_types.specs.Custody.{custody}
use Rattle.sheet_types.specs.Step.{accepted, receipt_of, kept_reply, added_item}
use Rattle.sheet_types.specs.Refuse.{refusal, reasons, bad_text, has_good_size, takes_place, place_of}
use Rattle.sheet_laws.proofs.Contents.{IsUnaltered}
use Rattle.sheet_types.proofs.LineReading.{entry_from-line}
use Rattle.sheet_types.proofs.Fitting.{entry_fits, item_kind_of}
use Rattle.sheet_types.specs.Lines.{HasTypes, entry_from, is_adding, is_splitting, is_merging, is_uuid}
use Rattle.sheet_laws.proofs.Ledger.{is_item_of, by_entry, agree_none}
use Rattle.sheet_types.specs.Balance.{names_as, is_unaltered, IsLedger, MayFollow}
use Rattle.sheet_types.specs.Custody.{is_add, is_used}
use Rattle.sheet_types.specs.Texts.{size, fingerprint, kind_of}
use Rattle.sheet_types.specs.World.{is_item_kind}
use Rattle.sheet_types.specs.declared.receipt.Moved.{Moved}
use Rattle.sheet_types.proofs.Basics.{or-true}
use Rattle.sheet_types.proofs.Every.{none_any}
use Rattle.std.specs.Prelude.{Some}
use Rattle.std.proofs.lemmas.List.Folds.{list_any-append}
use Rattle.std.proofs.lemmas.Bool.{false≢true, and_parts, eq-eqb}
use Rattle.sheet_types.specs.Balance.{holds, archive_of, IsThing, names_identity}
use Rattle.sheet_types.specs.Lines.{IsUuid}
use Rattle.sheet_types.specs.Register.{IsRegister, IsKeptPackage, IsFit, HasEnds}
use Rattle.sheet_laws.specs.Laws.{add_request, AddKeepsRegister}
use Rattle.sheet_types.specs.declared.command.Command.TheVariants.{Add}
use Rattle.sheet_types.specs.declared.command.Content.{Content}
use Rattle.sheet_types.specs.declared.command.Item.{Item}
use Rattle.sheet_types.specs.declared.command.Request.{Request}
use Rattle.sheet_types.specs.declared.receipt.Receipt.{Receipt}
use Rattle.sheet_types.specs.declared.refusal.Refusal.{Refusal}
use Rattle.sheet_types.proofs.Order.{All-put, sum_by-put, list_any-put, put_arranged}
use Rattle.sheet_types.proofs.Basics.{bytes_eq_itself, not_false, and_true, or-false, None≢Some}
use Rattle.sheet_types.proofs.Every.{All-weaker, none_pass}
use Rattle.sheet_laws.proofs.Accepting.{rows_fail, new_identity, keeps}
use Rattle.sheet_laws.proofs.Ledger.{never_named, custody_none, thing_of, thing_of_item}
use Rattle.sheet_types.proofs.Sums.{count-cons, not_both_count}
use Rattle.sheet_laws.proofs.Facts.{kept_at}
use Rattle.sheet_laws.proofs.Keeping.{ends_kept, fit_moves, fit_all, places_count, tile_at, apart_places}
use Rattle.sheet_types.proofs.Distinct.{distinct_counts, counts_distinct}
use Rattle.sheet_laws.proofs.OnePackage as one

-- the receipt of an added item may follow the ledger
pub may_add : (w : World) (archive id moment p identity : List ℕ) (content : Content)
    → IsLedger archive [] (receipts_of w)
    → entry_from (receipt_of w (add_request id moment p identity content)).line
    ≡ Some (entry_of (Add p identity content)) → has (λ r. r.request) id (receipts_of w) ≡ false
    → is_used w identity ≡ false → MayFollow archive (receipts_of w)
    (receipt_of w (add_request id moment p identity content))
may_add w archive id moment p identity content sound says new unused =
    let m : Moved = item_moved (added_item identity content) in
    let named : is_item_of identity m ≡ true = and_from (is_item_kind (kind_of content))
    (bytes_eq identity identity) (item_kind_of content) (bytes_eq_itself identity) in
    let all : AllByRecursion (λ s. names_identity identity s ≡ false) (receipts_of w)
    × AllByRecursion (λ s. AllByRecursion IsThing s.items) (receipts_of w) =
    never_named archive identity [] (receipts_of w) sound (none_pass
    (λ s. is_add s && has (λ x. x.base) identity s.items) (receipts_of w) unused) tt tt in
    record {
      number = refl;
      new_request = new;
      things = (thing_of identity content, tt);
      in_order = (tt, tt);
      counts = record { tiles = refl; media = refl; rows = refl; links = refl; bytes = refl };
      entered = (
        entry_of (Add p identity content),
        record {
          says = says;
          leaves = refl;
          comes_to = refl;
          moves = refl;
        },
      );
      from_source = (custody_none identity m (receipts_of w) named (thing_of identity content) all.0 all.1, tt);
      never_before = λ _. (none_any (names_identity identity) (receipts_of w) all.0, tt);
      agrees = (agree_none identity m (receipts_of w) named (thing_of identity content) all.0 all.1, tt);
      new_loan = λ e. absurd (false≢true (sym (by_entry is_splitting
          (receipt_of w (add_request id moment p identity content)) (entry_of (Add p identity content)) says) ∙ e));
    }

-- one element is counted once at most
count_one : {X : Type 0} (p : X → Bool) (x : X) → count_by p (x ∷ []) ≤ 1
count_one p x = elim (p x) as (λ v. p x ≡ v → count_by p (x ∷ []) ≤ 1) [
  | true ↦ λ e. omega (arith, count-cons p x [] true e)
  | false
      ↦ λ e. omega (arith, count-cons p x [] false e)
] refl

-- a count after an element comes in
put_count : {X : Type 0} (key : X → List ℕ) (p : X → Bool) (x : X) (xs : List X)
    → count_by p (put key x xs) ≡ count_by p xs + count_by p (x ∷ [])
put_count key p x xs = omega (arith, sum_by-put key (λ y. cond (p y) 1 0) x xs, count-cons p x [] (p x) refl)

module _ (w : World) (id moment p identity : List ℕ) (content : Content) (types : HasTypes (Add p identity content))
    (register : IsRegister w) where
  abbrev asked : Request
  asked = add_request id moment p identity content

  abbrev item : Item
  item = added_item identity content

  abbrev receipt : Receipt
  receipt = receipt_of w asked

  abbrev items : Package → List Item
  items y = put item_key item y.items

  abbrev next : World
  next = accepted w asked

  module _ (no_reply : kept_reply w asked ≡ None) (no_refusal : refusal w next asked ≡ None) where
    fails : AllByRecursion (λ (row : Bool × Refusal). row.0 ≡ false) (reasons w next asked)
    fails = rows_fail (reasons w next asked) no_refusal

    live : is_live w p ≡ true
    live = and_true (is_live w p) (not_false (is_live w p && true) fails.1.0)

    abbrev x : Package
    x = holdings w p

    k : IsKeptPackage w x
    k = kept_at w p register live

    stood_nowhere : custody (receipts_of w) (item_thing item) ≡ None
    stood_nowhere =
        let all : AllByRecursion (λ s. names_identity identity s ≡ false) (receipts_of w)
        × AllByRecursion (λ s. AllByRecursion IsThing s.items) (receipts_of w) =
        never_named (archive_of w) identity [] (receipts_of w) register.balanced.ledger
        (none_pass _ (receipts_of w) fails.1.1.1.1.1.0) tt tt in
        ap (custody (receipts_of w)) (sym (thing_of_item identity content))
        ∙ custody_none identity (item_moved item) (receipts_of w)
        (and_from _ (bytes_eq identity identity) (item_kind_of content) (bytes_eq_itself identity))
        (thing_of identity content) all.0 all.1

    not_held : holds x (item_thing item) ≡ false
    not_held = false_from_ne_true (holds x (item_thing item))
        (λ held. None≢Some (sym stood_nowhere ∙ (register.balanced.custody_is p (item_thing item)).0 held))

    none_there : list_any (λ j. bytes_eq j.identity identity) x.items ≡ false
    none_there = (or_parts (has item_thing (item_thing item) x.items) (has link_key (item_thing item) x.links)
        not_held).0

    says : entry_from receipt.line ≡ Some (entry_of asked.command)
    says = entry_from-line (entry_of asked.command) (entry_fits asked.command types fails.1.1.1.1.0)

    fits : one.Fits w p receipt (entry_of asked.command) items (λ y. y.links)
    fits = record {
      says = says;
      stands = refl;
      live = live;
      may = may_add w (archive_of w) id moment p identity content register.balanced.ledger says
          (new_identity w asked no_reply fails.0) fails.1.1.1.1.1.0;
      no_merge = by_entry is_merging receipt (entry_of asked.command) says;
      shifts = λ c _. rw (bytes_eq_itself p) (omega (
        arith,
        sum_by-put item_key (λ i. c (item_moved i)) item
            x.items,
      ));
      elsewhere = λ q other. (refl, other);
    }

    abbrev alone : Package
    alone = record no_package { uuid = p; items = item ∷ [] }

    fit_here : IsFit w alone item
    fit_here = (
      (or_parts (not (is_moment moment)) (bad_text (Add p identity content)) fails.1.1.1.0).1,
      not_false
          (has_good_size content) fails.1.1.1.1.0,
      fails.1.1.1.1.1.1.1.1.0,
      fails.1.1.1.1.1.1.1.1.1.0,
    )

    free : takes_place x content ≡ false
    free = fails.1.1.1.1.1.1.1.1.1.1.0

    kept_more : IsKeptPackage next (one.change w p receipt (entry_of asked.command) items (λ y. y.links) x)
    kept_more = record {
      uuid = k.uuid;
      items = put_arranged item_key item x.items k.items (All-weaker (λ j. bytes_eq j.identity identity ≡ false)
          (λ j. bytes_eq (item_key j) (item_key item) ≡ false)
          (λ j other. false_from_ne_true (bytes_eq (item_key j) (item_key item))
          (λ same. true≢false (sym ((bytes_eq-Decides j.identity identity).1
          (ap (drop 1) ((bytes_eq-Decides (item_key j) (item_key item)).0 same))) ∙ other)))
          x.items (none_pass (λ j. bytes_eq j.identity identity) x.items none_there));
      links = k.links;
      receipts = one.receipts_at_p w p receipt (entry_of asked.command) items (λ y. y.links) register fits;
      identities = counts_distinct (λ i. i.identity) (put item_key item x.items) (λ n. omega (
        arith,
        put_count item_key (λ i. bytes_eq i.identity n) item x.items,
        not_both_count (λ i. bytes_eq i.identity n) x.items (item ∷ [])
            (distinct_counts (λ i. i.identity) n x.items k.identities) (count_one (λ i. bytes_eq i.identity n) item)
            (λ a b. true≢false (sym (subst (λ m. list_any (λ i. bytes_eq i.identity m) x.items ≡ true)
            (sym ((bytes_eq-Decides identity n).0 (sym (or-false (bytes_eq identity n)) ∙ b))) a)
            ∙ none_there)),
      ));
      uuids = All-put item_key (λ i. IsUuid i.identity) item x.items
          (and_parts (is_uuid p) (is_uuid identity) types).1 k.uuids;
      fit = All-put item_key (IsFit next x) item x.items (fit_moves w next refl p p identity content alone x fit_here)
          (fit_all w next refl x x x.items k.fit);
      places = counts_distinct (λ i. place_of i.content) (filter is_tile (put item_key item x.items)) (λ n. omega (
        arith,
        places_count n (put item_key item x.items),
        put_count item_key (tile_at n) item x.items,
        not_both_count (tile_at n) x.items (item ∷ []) (subst (λ m. m ≤ 1) (places_count n x.items)
            (distinct_counts (λ i. place_of i.content) n (filter is_tile x.items) k.places))
            (count_one (tile_at n) item)
            (λ a b. apart_places w alone x n register.frame (fit_here, tt) k.fit (free, tt) b a),
      ));
      ends = All-weaker (HasEnds x) (HasEnds (one.change w p receipt (entry_of asked.command) items (λ y. y.links)
          x)) (ends_kept x (one.change w p receipt (entry_of asked.command) items (λ y. y.links) x) has_more) x.links
          k.ends;
      parent = one.parent_kept w p receipt (entry_of asked.command) items (λ y. y.links) register fits;
    }
      where
        has_more : (n : List ℕ) → has item_key n x.items ≡ true
            → has item_key n (put item_key item x.items) ≡ true
        has_more n e = list_any-put item_key (λ i. bytes_eq (item_key i) n) item x.items
            ∙ ap (λ b. bytes_eq (item_key item) n || b) e ∙ or-true (bytes_eq (item_key item) n)

    new_unaltered : IsUnaltered next item
    new_unaltered =
        let named : Receipt → Bool = λ s. is_add s && list_any (names_as item) s.items in
        let itself : names_as item (item_moved item) ≡ true =
        and_from _ _ (and_from _ _ (bytes_eq_itself identity) (eq-eqb (size content) (size content) refl))
        (bytes_eq_itself (fingerprint content)) in
        ap (λ rs. is_unaltered rs item) (one.receipts w p receipt (entry_of asked.command) items (λ y. y.links)
        register fits)
        ∙ list_any-append named (receipts_of w) (receipt ∷ [])
        ∙ ap (λ b. list_any named (receipts_of w) || b) (or-false (named receipt)
        ∙ and_from (is_add receipt) (list_any (names_as item) receipt.items)
        (by_entry is_adding receipt (entry_of asked.command) says)
        (or-false (names_as item (item_moved item)) ∙ itself))
        ∙ or-true (list_any named (receipts_of w))

    add_register : IsRegister next
    add_register = one.register_after w p receipt (entry_of asked.command) items (λ y. y.links) register fits
        kept_more (by_entry is_splitting receipt (entry_of asked.command) says)
        (one.contents_after w p receipt (entry_of asked.command) items (λ y. y.links) register fits
        (λ y h. All-put item_key (IsUnaltered next) item y.items new_unaltered h))

-- the law of an added item
pub add_keeps_register : AddKeepsRegister
add_keeps_register w id moment p identity content types register =
    keeps IsRegister w (add_request id moment p identity content) register
    (add_register w id moment p identity content types register)
