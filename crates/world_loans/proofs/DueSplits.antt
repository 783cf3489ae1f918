-- A split that is accepted is due, by what is kept of the world.
use Rattle.std.specs.Prelude.{◌≡◌, ℕ, ◌+◌, ◌-◌, Bool, true, false, cond, ◌&&◌, ◌||◌, List, []}
use Rattle.std.specs.Prelude.{◌∷◌, ◌++◌, map, filter}
use Rattle.std.specs.Prelude.{find, length, refl, Option, bytes_eq, Some, sum_by, count_by, slice_get, slice_set}
use Rattle.std.specs.Prelude.{Contains}
use Rattle.std.proofs.Common.{sym, ap, subst, ◌∙◌, arith, drop, length-append}
use Rattle.std.proofs.lemmas.Bool.{and_parts}
use Rattle.std.proofs.lemmas.Slice.Eq.{bytes_eq-Decides}
use Rattle.std.proofs.lemmas.List.{append-nil}
use Rattle.std.proofs.lemmas.List.Elements.{All-contains_itself, recursion_from_All}
use Rattle.std.specs.List.{AllByRecursion, insert}
use Rattle.std.specs.Bool.{then_some}
use Rattle.std.specs.Option.{option_and_then}
use Rattle.sheet_types.specs.Answers.{sums_held}
use Rattle.sheet_types.specs.Custody.{ticket}
use Rattle.sheet_types.specs.Cut.{Cut, has_end, moved_of}
use Rattle.sheet_types.specs.Lines.{HasTypes, IsUuid, is_uuid, is_rect}
use Rattle.sheet_types.specs.Ordered.{arranged, has, IsArranged, is_before}
use Rattle.sheet_types.specs.Register.{IsRegister, IsKeptPackage, HasEnds}
use Rattle.sheet_types.specs.Step.{accepted, less, loan_of, cut_of, receipt_of, receipt_over, count_of, links_of}
use Rattle.sheet_types.specs.Texts.{line, size, is_moment}
use Rattle.sheet_types.specs.World.{World, Package, package_key, item_key, link_key, receipts_of, holdings}
use Rattle.sheet_types.specs.World.{with_receipt, item_moved, link_moved, has_item, kind_number, base_kind}
use Rattle.sheet_types.specs.World.{other_kind, is_tile, is_medium, is_row}
use Rattle.sheet_types.specs.declared.command.Command.TheVariants.{Split}
use Rattle.sheet_types.specs.declared.command.Item.{Item}
use Rattle.sheet_types.specs.declared.command.Mode.{Mode}
use Rattle.sheet_types.specs.declared.command.Relation.{Relation}
use Rattle.sheet_types.specs.declared.command.Request.{Request}
use Rattle.sheet_types.specs.declared.frame.Rect.{Rect}
use Rattle.sheet_types.specs.declared.receipt.MovedKind.TheVariants.{TileItem, MediaItem, RowItem}
use Rattle.sheet_types.specs.declared.receipt.Receipt.{Receipt}
use Rattle.sheet_types.proofs.Basics.{bytes_eq_itself, bytes_eq_swap, or-true}
use Rattle.sheet_types.proofs.Every.{All-weaker, All-each, All-filter, All-append, All-both, All-map, none_pass}
use Rattle.sheet_types.proofs.Every.{none_any}
use Rattle.sheet_types.proofs.Found.{found, All-found, filter_passes}
use Rattle.sheet_types.proofs.Order.{filter_arranged}
use Rattle.sheet_types.proofs.Same.{In, In-all, In-filter, any_in}
use Rattle.sheet_types.proofs.Sums.{sum_by-map, sum_by-same, sum_by-zero, length_sum}
use Rattle.sheet_laws.specs.Laws.{split_request}
use Rattle.sheet_laws.proofs.CutEnds.{GoesWhole}
use Rattle.sheet_laws.proofs.Packages.{changed_arranged}
use Rattle.sheet_laws.proofs.Shifting.{of_package, a_tile, a_medium, a_row, a_link, no_tile, no_medium, no_row}
use Rattle.sheet_laws.proofs.Shifting.{one_link, no_link}
use Rattle.sheet_laws.proofs.Splitting as split
use Rattle.sheet_laws.proofs.Splitting.{Known, WholeCut, ByTests, taken_sum}
use Rattle.sheet_laws.proofs.Merging.{weigh_moved}
use Rattle.custody.specs.Receipts.{IsNewReceipt}
use Rattle.identity_register.specs.Creation.{new_package}
use Rattle.identity_register.specs.Reads.{is_fit_moved}
use Rattle.world_loans.specs.Loans.{IsLent, IsNext, OthersStay, IsSplit, LentWhereAccepted, place_for}
use Rattle.register_lending.specs.Selecting.{IsSelectionOf, IsPart, MayCome}
use Rattle.transfer.specs.Parcels.{with_cut}
use Rattle.world_members.specs.Steps.{sums_moved, sums_less}
use Rattle.identity_register.specs.declared.selection.Selection.{Selection}
use Rattle.world_loans.specs.declared.loans.Lending.{Lending}
use Rattle.world_members.proofs.Changing.{changed_set}
use Rattle.world_members.proofs.Fitting.{new_number, fit_item, fit_link, says_moment}
use Rattle.world_loans.proofs.Listing.{put_inserts, arranged_itself, other_key, all_at}
use Rattle.world_loans.proofs.Tickets.{ticket_next}

-- ---- what is taken

-- some of a list that pass a test are of the list
pub some_of : {X : Type 0} (t : X → Bool) (xs taken : List X) → taken ≡ filter t xs
    → AllByRecursion (Contains xs) taken
some_of t xs taken is = subst (AllByRecursion (Contains xs)) (sym is)
    (All-filter (Contains xs) t xs (recursion_from_All (Contains xs) xs (All-contains_itself xs)))

-- a cut that tears no link takes all links of what it takes
module _ (x : Package) (c : Cut) (torn : WholeCut x c) where
  taken_link : (l : Relation) → In l x.links → torn.u l ≡ true → has link_key (link_key l) c.links ≡ true
  taken_link l there takes = ap (has link_key (link_key l)) torn.links
      ∙ any_in (λ y. bytes_eq (link_key y) (link_key l)) l (filter torn.u x.links)
      (In-filter torn.u l x.links there takes) (bytes_eq_itself (link_key l))

  -- a link of an item that is taken is taken
  touched : (n : List ℕ) (l : Relation) → torn.s n ≡ true → GoesWhole torn.s torn.u l → has_end n l ≡ true
      → torn.u l ≡ true
  touched n l takes goes end =
      elim (torn.u l) as (λ v. torn.u l ≡ v → v ≡ true) [
        | true ↦ λ _. refl
        | false ↦ λ stays.
            elim (bytes_eq l.base n) as (λ b. bytes_eq l.base n ≡ b → (b || bytes_eq l.other n) ≡ true
            → false ≡ true) [
              | true ↦ λ is _. sym (goes.1 stays).0 ∙ ap torn.s ((bytes_eq-Decides l.base n).0 is) ∙ takes
              | false ↦ λ _ is. sym (goes.1 stays).1 ∙ ap torn.s ((bytes_eq-Decides l.other n).0 is) ∙ takes
            ] refl end
      ] refl

  pub whole : AllByRecursion (λ i. AllByRecursion (λ l. has_end i.identity l ≡ true
      → has link_key (link_key l) c.links ≡ true) x.links) c.items
  whole = subst (AllByRecursion (λ i. AllByRecursion (λ l. has_end i.identity l ≡ true
      → has link_key (link_key l) c.links ≡ true) x.links)) (sym torn.items)
      (All-weaker (λ i. torn.s i.identity ≡ true) (λ i. AllByRecursion
      (λ l. has_end i.identity l ≡ true → has link_key (link_key l) c.links ≡ true) x.links)
      (λ i takes. All-both (GoesWhole torn.s torn.u) (λ l. In l x.links)
      (λ l. has_end i.identity l ≡ true → has link_key (link_key l) c.links ≡ true)
      (λ l goes there end. taken_link l there (touched i.identity l takes goes end)) x.links torn.whole
      (In-all x.links))
      (filter (λ i. torn.s i.identity) x.items) (filter_passes (λ i. torn.s i.identity) x.items))

  pub part_of : IsArranged item_key x.items → IsArranged link_key x.links → IsPart c x
  part_of items links = record {
    items = some_of (λ i. torn.s i.identity) x.items c.items torn.items;
    links = some_of torn.u x.links c.links torn.links;
    item_order = subst (IsArranged item_key) (sym torn.items)
        (filter_arranged item_key (λ i. torn.s i.identity) x.items items);
    link_order = subst (IsArranged link_key) (sym torn.links) (filter_arranged link_key torn.u x.links links);
    whole = whole;
  }

-- ---- what comes to a new package

-- a new package that gains a cut holds it and nothing else
pub gained_by_new : (c : Cut) (uuid : List ℕ) (above : Option (List ℕ)) (depth seq : ℕ)
    → IsArranged item_key c.items
    → IsArranged link_key c.links
    → with_cut c (new_package uuid above depth seq) ≡ record
    { uuid = uuid; parent = above; depth = depth; loan = seq; items = c.items; links = c.links; receipts = [] }
gained_by_new c uuid above depth seq items links =
    let same_items : arranged item_key (c.items ++ []) ≡ c.items =
    ap (arranged item_key) (append-nil c.items) ∙ arranged_itself item_key c.items items in
    let same_links : arranged link_key (c.links ++ []) ≡ c.links =
    ap (arranged link_key) (append-nil c.links) ∙ arranged_itself link_key c.links links in
    ap (λ is. record {
      uuid = uuid;
      parent = above;
      depth = depth;
      loan = seq;
      items = is;
      links = arranged link_key (c.links ++ []);
      receipts = [];
    }) same_items
    ∙ ap (λ ls. record {
      uuid = uuid;
      parent = above;
      depth = depth;
      loan = seq;
      items = c.items;
      links = ls;
      receipts = [];
    }) same_links

pub may_come_to_new : (c : Cut) (uuid : List ℕ) (above : Option (List ℕ)) (depth seq : ℕ)
    → AllByRecursion (HasEnds (with_cut c (new_package uuid above depth seq))) c.links
    → MayCome c (new_package uuid above depth seq)
may_come_to_new c uuid above depth seq ends = record {
  identities = All-each (λ i. has_item (new_package uuid above depth seq) i.identity ≡ false) (λ i. refl) c.items;
  links = All-each (λ l. has link_key (link_key l) [] ≡ false) (λ l. refl) c.links;
  ends = ends;
}

-- ---- the receipt

-- an item of a package with UUIDs has a UUID
uuid_of : (n : ℕ) (id : List ℕ) (items : List Item) → AllByRecursion (λ i. IsUuid i.identity) items
    → has item_key (n ∷ id) items ≡ true → is_uuid id ≡ true
uuid_of n id items uuids there =
    let i : (i : Item) × (find (λ i. bytes_eq (item_key i) (n ∷ id)) items ≡ Some i) =
    found (λ i. bytes_eq (item_key i) (n ∷ id)) items there in
    let both : IsUuid i.0.identity × (bytes_eq (item_key i.0) (n ∷ id) ≡ true) =
    All-found (λ i. IsUuid i.identity) (λ i. bytes_eq (item_key i) (n ∷ id)) i.0 items i.1 uuids in
    subst (λ u. is_uuid u ≡ true) (ap (drop 1) ((bytes_eq-Decides (item_key i.0) (n ∷ id)).0 both.1)) both.0

-- things of a package have UUIDs and digests
pub fit_moved : (x : Package) (items : List Item) (links : List Relation)
    → AllByRecursion (λ i. IsUuid i.identity) x.items → AllByRecursion (λ i. IsUuid i.identity) items
    → AllByRecursion (HasEnds x) links
    → AllByRecursion (λ m. is_fit_moved m ≡ true) (moved_of items links)
fit_moved x items links all uuids ends = All-append (λ m. is_fit_moved m ≡ true) (map item_moved items)
    (map link_moved links)
    (All-map (λ m. is_fit_moved m ≡ true) item_moved items (All-weaker (λ i. IsUuid i.identity)
    (λ i. is_fit_moved (item_moved i) ≡ true) fit_item items uuids))
    (All-map (λ m. is_fit_moved m ≡ true) link_moved links (All-weaker (HasEnds x)
    (λ l. is_fit_moved (link_moved l) ≡ true)
    (λ l h. fit_link l.base l.other (
      uuid_of (kind_number (base_kind l.mapping)) l.base x.items all h.0,
      uuid_of
          (kind_number (other_kind l.mapping)) l.other x.items all h.1,
    )) links ends))

-- ---- sums

-- what a receipt counts of things is what a package holds that has them
pub held_moved : (seq : ℕ) (q : Request) (x : Package) → sums_held x
    ≡ sums_moved (receipt_over seq q (moved_of x.items x.links))
held_moved seq q x =
    let tiles : count_by is_tile x.items ≡ count_of TileItem (moved_of x.items x.links) =
    omega (
      arith,
      weigh_moved a_tile x.items x.links,
      sum_by-zero (λ l. a_tile (link_moved l)) no_tile
          x.links,
    ) in
    let media : count_by is_medium x.items ≡ count_of MediaItem (moved_of x.items x.links) =
    omega (
      arith,
      weigh_moved a_medium x.items x.links,
      sum_by-zero (λ l. a_medium (link_moved l)) no_medium
          x.links,
    ) in
    let rows : count_by is_row x.items ≡ count_of RowItem (moved_of x.items x.links) =
    omega (
      arith,
      weigh_moved a_row x.items x.links,
      sum_by-zero (λ l. a_row (link_moved l)) no_row
          x.links,
    ) in
    let links : length x.links ≡ links_of (moved_of x.items x.links) =
    omega (
      arith,
      weigh_moved a_link x.items x.links,
      length_sum (λ l. a_link (link_moved l)) one_link
          x.links,
      sum_by-zero (λ i. a_link (item_moved i)) (λ i. no_link i.content i.identity) x.items,
    ) in
    let bytes : sum_by (λ i. size i.content) x.items ≡ sum_by (λ m. m.size) (moved_of x.items x.links) =
    omega (
      arith,
      weigh_moved (λ m. m.size) x.items x.links,
      sum_by-zero (λ l. (link_moved l).size)
          (λ l. refl) x.links,
    ) in
    λ j. record { tiles = tiles j; media = media j; rows = rows j; links = links j; bytes = bytes j }

-- what is left when a cut is taken
module _ (x : Package) (c : Cut) (tests : ByTests x c) (items : IsArranged item_key x.items)
    (links : IsArranged link_key x.links) where
  item_left : (f : Item → ℕ) → sum_by f (less c x).items ≡ sum_by f x.items - sum_by f c.items
  item_left f = omega (arith, taken_sum item_key f x.items c.items tests.items.0 tests.items.1 items)

  pub sums_left : sums_held (less c x) ≡ sums_less (sums_held (record x { items = c.items; links = c.links }))
      (sums_held x)
  sums_left =
      let links_left : length (less c x).links ≡ length x.links - length c.links = omega (
        arith,
        taken_sum link_key (λ _. 1) x.links c.links tests.links.0 tests.links.1 links,
        length_sum (λ _. 1) (λ _. refl) (less c x).links,
        length_sum (λ _. 1) (λ _. refl) x.links,
        length_sum (λ _. 1) (λ _. refl) c.links,
      ) in
      λ j. record {
        tiles = item_left (λ i. cond (is_tile i) 1 0) j;
        media = item_left (λ i. cond (is_medium i) 1 0) j;
        rows = item_left (λ i. cond (is_row i) 1 0) j;
        links = links_left j;
        bytes = item_left (λ i. size i.content) j;
      }

-- ---- the split

module _ (w : World) (id moment p child : List ℕ) (mode : Mode) (rect : Rect)
    (types : HasTypes (Split p child mode rect)) (register : IsRegister w) (uuid : is_uuid id ≡ true)
    (timed : is_moment moment ≡ true) (k : Known w id moment p child mode rect types register) where
  abbrev parent : Package
  parent = holdings w p

  abbrev taken : Cut
  taken = cut_of w p mode rect

  abbrev receipt : Receipt
  receipt = receipt_of w (split_request id moment p child mode rect)

  abbrev next : World
  next = accepted w (split_request id moment p child mode rect)

  abbrev made : Package
  made = loan_of child (holdings w p) receipt.seq (cut_of w p mode rect)

  abbrev give : Package → Package
  give x = with_receipt receipt (less taken x)

  kept : IsKeptPackage w (holdings w p)
  kept = split.kept w id moment p child mode rect types register k

  uuid_p : (holdings w p).uuid ≡ p
  uuid_p = split.uuid_p w id moment p child mode rect types register k

  torn : WholeCut (holdings w p) taken
  torn = split.c w id moment p child mode rect types register k

  part : IsPart taken (holdings w p)
  part = part_of (holdings w p) taken torn kept.items kept.links

  gains : with_cut taken (new_package child (Some (holdings w p).uuid) ((holdings w p).depth + 1) receipt.seq) ≡ made
  gains = gained_by_new taken child (Some (holdings w p).uuid) ((holdings w p).depth + 1) receipt.seq part.item_order
      part.link_order

  new : IsNewReceipt receipt (less taken (holdings w p))
  new =
      let uuids : (is_uuid p ≡ true) × (is_uuid child ≡ true) =
      and_parts (is_uuid p) (is_uuid child) (and_parts (is_uuid p && is_uuid child) (is_rect rect) types).0 in
      record {
        number = new_number w p register;
        request = none_any (λ r. bytes_eq r.request id) (holdings w p).receipts
            (of_package (λ r. bytes_eq r.request id ≡ false) w p
            (none_pass (λ r. bytes_eq r.request id) (receipts_of w) k.new_request));
        fit = record {
          request = uuid;
          source = uuids.0;
          target = uuids.1;
          items = fit_moved (holdings w p) taken.items taken.links kept.uuids
              (subst (AllByRecursion (λ i. IsUuid i.identity)) (sym torn.items)
              (All-filter (λ i. IsUuid i.identity) (λ i. torn.s i.identity) (holdings w p).items kept.uuids))
              (subst (AllByRecursion (HasEnds (holdings w p))) (sym torn.links)
              (All-filter (HasEnds (holdings w p)) torn.u (holdings w p).links kept.ends));
        };
        moment = timed;
      }

  one_more : receipts_of next ≡ receipts_of w ++ receipt ∷ []
  one_more = split.receipts w id moment p child mode rect types register k

  is_next : IsNext w next
  is_next = record {
    frame = refl;
    counted = ap length one_more ∙ length-append (receipts_of w) (receipt ∷ []);
    register = split.register_after w id moment p child mode rect types register k;
  }

  -- the place of the child does not see what becomes of its parent
  place_kept : place_for child (map (λ x. cond (bytes_eq x.uuid p) (give x) x) w.packages)
      ≡ place_for child w.packages
  place_kept =
      sum_by-map (λ x. cond (is_before x.uuid child) 1 0) (λ x. cond (bytes_eq x.uuid p) (give x) x) w.packages
      ∙ sum_by-same (λ x. cond (is_before (cond (bytes_eq x.uuid p) (give x) x).uuid child) 1 0)
      (λ x. cond (is_before x.uuid child) 1 0)
      (λ x. elim (bytes_eq x.uuid p) as (λ v. ◌≡◌ {A = ℕ} (cond (is_before (cond v (give x) x).uuid child) 1
      0)
      (cond (is_before x.uuid child) 1 0)) [ true ↦ refl | false ↦ refl ]) w.packages

  packages_after : (at : ℕ) → slice_get w.packages at ≡ Some (holdings w p)
      → next.packages ≡ insert (slice_set w.packages at (give (holdings w p))) (place_for child w.packages) made
  packages_after at there =
      put_inserts package_key made (map (λ x. cond (bytes_eq x.uuid p) (give x) x) w.packages)
      (changed_arranged give p w.packages (λ x. refl) register.arranged)
      ∙ ap (λ n. insert (map (λ x. cond (bytes_eq x.uuid p) (give x) x) w.packages) n made) place_kept
      ∙ ap (λ zs. insert zs (place_for child w.packages) made)
      (changed_set p give w.packages at (holdings w p) register.arranged there uuid_p)

  ticket_after : (u : List ℕ) → ticket next u ≡ cond (bytes_eq p u || bytes_eq child u) receipt.seq (ticket w u)
  ticket_after u = ticket_next w next receipt u register refl one_more

  none_child : AllByRecursion (λ x. bytes_eq x.uuid child ≡ false) w.packages
  none_child = split.none_child w id moment p child mode rect types register k

  others_stay : (at : ℕ) → slice_get w.packages at ≡ Some (holdings w p) → OthersStay w next w.packages at
  others_stay at there n x here two =
      let not_parent : bytes_eq p x.uuid ≡ false = ap (λ u. bytes_eq u x.uuid) (sym uuid_p)
      ∙ other_key package_key w.packages at n (holdings w p) x register.arranged there here two in
      let not_child : bytes_eq child x.uuid ≡ false = bytes_eq_swap child x.uuid
      ∙ all_at (λ y. bytes_eq y.uuid child ≡ false) w.packages n x none_child here in
      ticket_after x.uuid ∙ ap (λ b. cond (b || bytes_eq child x.uuid) receipt.seq (ticket w x.uuid)) not_parent
      ∙ ap (λ b. cond b receipt.seq (ticket w x.uuid)) not_child

  abbrev exact : ℕ → Selection → Lending
  exact at selection = record {
    at = at;
    child_at = place_for child w.packages;
    child = child;
    parent = (holdings w p).uuid;
    depth = (holdings w p).depth + 1;
    selection = selection;
    receipt = receipt;
    left = sums_held (give (holdings w p));
    lent = sums_held made;
  }

  is_lent : (at : ℕ) (selection : Selection) → slice_get w.packages at ≡ Some (holdings w p)
      → IsSelectionOf taken selection → IsLent w next (exact at selection)
  is_lent at selection there selected = record {
    after = is_next;
    parent = holdings w p;
    place = there;
    taken = taken;
    selected = selected;
    part = part;
    receipt = new;
    above = refl;
    depth = refl;
    come = may_come_to_new taken child (Some (holdings w p).uuid) ((holdings w p).depth + 1) receipt.seq
        (subst (λ x. AllByRecursion (HasEnds x) taken.links) (sym gains)
        (split.kept_loan w id moment p child mode rect types register k).ends);
    left = refl;
    held = ap sums_held (sym gains);
    packages = packages_after at there ∙ ap (insert (slice_set w.packages at (give (holdings w p)))
        (place_for child w.packages)) (sym gains);
    parent_ticket = ticket_after (holdings w p).uuid ∙ ap (λ b. cond (b || bytes_eq child (holdings w p).uuid)
        receipt.seq (ticket w (holdings w p).uuid)) (ap (bytes_eq p) uuid_p ∙ bytes_eq_itself p);
    child_ticket = ticket_after child ∙ ap (λ b. cond b receipt.seq (ticket w child))
        (ap (λ b. bytes_eq p child || b) (bytes_eq_itself child) ∙ or-true (bytes_eq p child));
    tickets = others_stay at there;
    apart = none_child;
  }

  -- what was made of it is that
  lent_of : (due : Lending) → IsSplit w id moment p child mode rect due → IsLent w next due
  lent_of due is =
      let held : due.lent ≡ sums_held made = is.held ∙ sym (held_moved receipt.seq
      (split_request id moment p child mode rect) made) in
      let left : due.left ≡ sums_held (give (holdings w p)) =
      is.left ∙ ap (λ s. sums_less s (sums_held (holdings w p))) held
      ∙ sym (sums_left (holdings w p) taken (split.tests w id moment p child mode rect types register) kept.items
      kept.links) in
      let same : due ≡ exact due.at due.selection = λ j. record {
        at = due.at;
        child_at = is.child_at j;
        child = is.child_uuid j;
        parent = (is.above ∙ sym uuid_p) j;
        depth = is.depth j;
        selection = due.selection;
        receipt = is.receipt j;
        left = left j;
        lent = held j;
      } in
      subst (IsLent w next) (sym same) (is_lent due.at due.selection is.at is.selected)

-- A new split that is not refused is due, where what is due was made of it.
pub lent_where_accepted : LentWhereAccepted
lent_where_accepted w id moment p child mode rect due register uuid types new none made =
    lent_of w id moment p child mode rect types register uuid
    (says_moment w (accepted w (split_request id moment p child mode rect))
    (split_request id moment p child mode rect) none) (split.known w id moment p child mode rect types register
    (ap (λ k. option_and_then (λ r. then_some (bytes_eq r.line (line (Split p child mode rect))) r) k) new) none)
    due made
