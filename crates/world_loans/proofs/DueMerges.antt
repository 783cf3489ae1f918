-- A merge that is accepted is due, by what is kept of the world.
use Rattle.std.specs.Prelude.{◌≡◌, ℕ, ℤ, ◌+◌, ◌≤◌, Bool, true, false, cond, ◌||◌, List, []}
use Rattle.std.specs.Prelude.{◌∷◌, ◌++◌, map, length}
use Rattle.std.specs.Prelude.{refl, bytes_eq, Some, is_some, unwrap_or, sum_by, count_by, flat_map, slice_get}
use Rattle.std.specs.Prelude.{slice_set, Contains}
use Rattle.std.proofs.Common.{sym, ap, subst, ◌∙◌, arith, length-append}
use Rattle.std.proofs.lemmas.Bool.{true≢false, false_from_ne_true}
use Rattle.std.proofs.lemmas.Slice.Eq.{bytes_eq-Decides}
use Rattle.std.proofs.lemmas.List.Elements.{All-contains_itself, recursion_from_All}
use Rattle.std.proofs.lemmas.List.Folds.{list_any-append}
use Rattle.std.proofs.lemmas.List.Sums.{sum_by-append}
use Rattle.std.specs.Bool.{then_some}
use Rattle.std.specs.Option.{option_and_then}
use Rattle.std.specs.List.{list_any, AllByRecursion, remove}
use Rattle.sheet_types.specs.Answers.{sums_held}
use Rattle.sheet_types.specs.Balance.{archive_of, holds}
use Rattle.sheet_types.specs.Custody.{ticket}
use Rattle.sheet_types.specs.Cut.{Cut, has_end}
use Rattle.sheet_types.specs.Lines.{HasTypes, IsUuid, is_uuid}
use Rattle.sheet_types.specs.Ordered.{arranged, has, without, IsArranged}
use Rattle.sheet_types.specs.Register.{IsRegister, IsKeptPackage, HasEnds}
use Rattle.sheet_types.specs.Step.{accepted, joined, receipt_of}
use Rattle.sheet_types.specs.Texts.{line, size, is_moment}
use Rattle.sheet_types.specs.World.{World, Package, package_key, receipt_key, item_key, item_thing, link_key}
use Rattle.sheet_types.specs.World.{receipts_of, holdings, no_package, is_live, with_receipt, has_item, is_tile}
use Rattle.sheet_types.specs.World.{is_medium, is_row}
use Rattle.sheet_types.specs.declared.command.Command.TheVariants.{Merge}
use Rattle.sheet_types.specs.declared.command.Item.{Item}
use Rattle.sheet_types.specs.declared.receipt.Receipt.{Receipt}
use Rattle.sheet_types.proofs.Basics.{bytes_eq_itself, bytes_eq_swap, or-true}
use Rattle.sheet_types.proofs.Every.{All-weaker, All-each, none_pass, none_any}
use Rattle.sheet_types.proofs.Order.{list_any-arranged, sum_by-arranged, counts_arranged, filter_arranged}
use Rattle.sheet_types.proofs.Sums.{any_some, none_counted, sum_by-flat_map, length_sum}
use Rattle.sheet_types.proofs.Without.{All-without}
use Rattle.sheet_laws.specs.Laws.{merge_request}
use Rattle.sheet_laws.proofs.Facts.{ledger_arranged, items_held, links_held, self_has}
use Rattle.sheet_laws.proofs.Merging as merge
use Rattle.sheet_laws.proofs.Merging.{Known}
use Rattle.sheet_laws.proofs.Packages.{at_all, changed_arranged, two_places}
use Rattle.sheet_laws.proofs.Requests.{of_request}
use Rattle.sheet_laws.proofs.Shifting.{of_package}
use Rattle.custody.specs.Receipts.{IsNewReceipt}
use Rattle.register_lending.specs.Lending.{returned, MayReturn}
use Rattle.world_loans.specs.Loans.{IsReturned, IsNext, IsMerge, OthersStay, ReturnedWhereAccepted, place_without}
use Rattle.register_lending.specs.Selecting.{IsSelectionOf, IsPart, MayCome}
use Rattle.custody.specs.Homing.{AreApart, with_receipts_of}
use Rattle.transfer.specs.Parcels.{with_cut}
use Rattle.world_members.specs.Steps.{sums_more}
use Rattle.identity_register.specs.declared.selection.Selection.{Selection}
use Rattle.world_loans.specs.declared.loans.Returning.{Returning}
use Rattle.world_members.proofs.Changing.{changed_set}
use Rattle.world_loans.proofs.DueSplits.{fit_moved, held_moved}
use Rattle.world_members.proofs.Fitting.{new_number, says_moment}
use Rattle.world_loans.proofs.Listing.{all_at, other_key, set_elsewhere, set_then_removed, without_at}
use Rattle.world_loans.proofs.Listing.{still_there}
use Rattle.world_loans.proofs.Tickets.{ticket_next}

-- ---- all that a package holds

-- all that a package holds is a part of it
pub whole_part : (x : Package) → IsArranged item_key x.items → IsArranged link_key x.links
    → IsPart (record { items = x.items; links = x.links }) x
whole_part x items links = record {
  items = recursion_from_All (Contains x.items) x.items (All-contains_itself x.items);
  links = recursion_from_All (Contains x.links) x.links (All-contains_itself x.links);
  item_order = items;
  link_order = links;
  whole = All-each (λ i. AllByRecursion (λ l. has_end i.identity l ≡ true
      → has link_key (link_key l) x.links ≡ true)
      x.links)
      (λ i. All-weaker (λ l. has link_key (link_key l) x.links ≡ true)
      (λ l. has_end i.identity l ≡ true → has link_key (link_key l) x.links ≡ true) (λ l h _. h) x.links
      (self_has link_key x.links)) x.items;
}

-- what a package holds that has with_cut the things of another
pub sums_joined : (r : Receipt) (x p : Package) → sums_held (returned r (record { items = x.items; links = x.links })
    x p) ≡ sums_more (sums_held x) (sums_held p)
sums_joined r x p =
    let more : (f : Item → ℕ) → sum_by f (arranged item_key (x.items ++ p.items))
    ≡ sum_by f p.items + sum_by f x.items =
    λ f. omega (arith, sum_by-arranged item_key f (x.items ++ p.items), sum_by-append f x.items p.items) in
    let links : length (arranged link_key (x.links ++ p.links)) ≡ length p.links + length x.links = omega (
      arith,
      sum_by-arranged link_key (λ _. 1) (x.links ++ p.links),
      sum_by-append (λ _. 1) x.links p.links,
      length_sum (λ _. 1) (λ _. refl) (arranged link_key (x.links ++ p.links)),
      length_sum (λ _. 1) (λ _. refl) x.links,
      length_sum (λ _. 1) (λ _. refl) p.links,
    ) in
    λ j. record {
      tiles = more (λ i. cond (is_tile i) 1 0) j;
      media = more (λ i. cond (is_medium i) 1 0) j;
      rows = more (λ i. cond (is_row i) 1 0) j;
      links = links j;
      bytes = more (λ i. size i.content) j;
    }

-- ---- the merge

module _ (w : World) (id moment child into : List ℕ) (ticket' : ℤ) (types : HasTypes (Merge child into ticket'))
    (register : IsRegister w) (uuid : is_uuid id ≡ true) (k :
    Known w id moment child into ticket' types register) where
  abbrev receipt : Receipt
  receipt = receipt_of w (merge_request id moment child into ticket')

  abbrev next : World
  next = accepted w (merge_request id moment child into ticket')

  abbrev taken : Cut
  taken = record { items = (holdings w child).items; links = (holdings w child).links }

  abbrev take_all : Package → Package
  take_all x = with_receipt receipt (joined (holdings w child) x)

  abbrev all_changed : List Package
  all_changed = map (λ x. cond (bytes_eq x.uuid into) (take_all x) x) w.packages

  kept_child : IsKeptPackage w (holdings w child)
  kept_child = merge.kept_child w id moment child into ticket' types register k

  into_other : bytes_eq into child ≡ false
  into_other = bytes_eq_swap into child ∙ k.apart

  uuid_of : (u : List ℕ) → is_live w u ≡ true → (holdings w u).uuid ≡ u
  uuid_of u live = (at_all w (λ _. Unit {0}) u (All-each (λ _. Unit {0}) (λ _. tt) w.packages) live).1

  uuid_child : (holdings w child).uuid ≡ child
  uuid_child = uuid_of child k.child_live

  uuid_into : (holdings w into).uuid ≡ into
  uuid_into = uuid_of into k.into_live

  -- no thing is in both
  never_both : (thing : List ℕ) → holds (holdings w child) thing ≡ true
      → holds (holdings w into) thing ≡ true → ⊥
  never_both = merge.never_both w id moment child into ticket' types register k

  come : MayCome taken (holdings w into)
  come = record {
    identities = All-weaker (λ i. holds (holdings w child) (item_thing i) ≡ true)
        (λ i. has_item (holdings w into) i.identity ≡ false)
        (λ i held. false_from_ne_true (has_item (holdings w into) i.identity)
        (λ there. never_both (item_thing i) held (ap (λ v. v || has link_key (item_thing i)
        (holdings w into).links) there)))
        (holdings w child).items (items_held (holdings w child));
    links = All-weaker (λ l. holds (holdings w child) (link_key l) ≡ true)
        (λ l. has link_key (link_key l) (holdings w into).links ≡ false)
        (λ l held. false_from_ne_true (has link_key (link_key l) (holdings w into).links)
        (λ there. never_both (link_key l) held (ap (λ v. has item_thing (link_key l) (holdings w into).items || v)
        there ∙ or-true (has item_thing (link_key l) (holdings w into).items))))
        (holdings w child).links (links_held (holdings w child));
    ends = All-weaker (HasEnds (holdings w child)) (HasEnds (with_cut taken (holdings w into)))
        (merge.ends_child w id moment child into ticket' types register k) (holdings w child).links kept_child.ends;
  }

  -- what one receipt at most meets is met in one package at most
  only_in_child : (t : Receipt → Bool) → count_by t (receipts_of w) ≤ 1
      → list_any t (holdings w child).receipts ≡ true → list_any t (holdings w into).receipts ≡ false
  only_in_child t one there = none_any t (holdings w into).receipts (none_counted t (holdings w into).receipts (omega (
    arith,
    one,
    any_some t (holdings w child).receipts there,
    two_places (λ x. count_by t x.receipts) w child into register.arranged into_other k.child_live k.into_live,
    sum_by-flat_map (λ s. cond (t s) 1 0) (λ x. x.receipts) w.packages,
    sum_by-arranged receipt_key (λ s. cond (t s) 1 0) (flat_map (λ x. x.receipts) w.packages),
  )))

  are_apart : AreApart (holdings w child) (with_cut taken (holdings w into))
  are_apart =
      All-weaker (λ r. has receipt_key (receipt_key r) (holdings w child).receipts ≡ true)
      (λ r. has receipt_key (receipt_key r) (holdings w into).receipts ≡ false)
      (λ r there. only_in_child (λ s. bytes_eq (receipt_key s) (receipt_key r))
      (counts_arranged receipt_key (receipt_key r) (receipts_of w)
      (ledger_arranged (archive_of w) [] (receipts_of w) register.balanced.ledger)) there)
      (holdings w child).receipts (self_has receipt_key (holdings w child).receipts)

  -- what no receipt of either meets
  in_neither : (t : Receipt → Bool) → list_any t (holdings w child).receipts ≡ false
      → list_any t (holdings w into).receipts ≡ false → list_any t
      (arranged receipt_key ((holdings w child).receipts ++ (holdings w into).receipts)) ≡ false
  in_neither t a b = list_any-arranged receipt_key t ((holdings w child).receipts ++ (holdings w into).receipts)
      ∙ list_any-append t (holdings w child).receipts (holdings w into).receipts
      ∙ ap (λ v. v || list_any t (holdings w into).receipts) a ∙ b

  no_request : (u : List ℕ) → list_any (of_request id) (holdings w u).receipts ≡ false
  no_request u = none_any (of_request id) (holdings w u).receipts
      (of_package (λ r. of_request id r ≡ false) w u (none_pass (of_request id) (receipts_of w) k.new_request))

  new : is_moment moment ≡ true → IsNewReceipt receipt (with_receipts_of (holdings w child)
      (with_cut taken (holdings w into)))
  new timed =
      let uuids : (is_uuid child ≡ true) × (is_uuid into ≡ true) = (
        subst IsUuid uuid_child kept_child.uuid,
        subst IsUuid uuid_into
            (merge.kept_into w id moment child into ticket' types register k).uuid,
      ) in
      record {
        number = in_neither (λ s. bytes_eq (receipt_key s) (receipt_key receipt)) (new_number w child register)
            (new_number w into register);
        request = in_neither (of_request id) (no_request child) (no_request into);
        fit = record {
          request = uuid;
          source = uuids.0;
          target = uuids.1;
          items = fit_moved (holdings w child) (holdings w child).items (holdings w child).links kept_child.uuids
              kept_child.uuids kept_child.ends;
        };
        moment = timed;
      }

  may : is_moment moment ≡ true → MayReturn receipt taken (holdings w child) (holdings w into)
  may timed = record {
    part = whole_part (holdings w child) kept_child.items kept_child.links;
    come = come;
    apart = are_apart;
    receipt = new timed;
  }

  pub one_more : receipts_of next ≡ receipts_of w ++ receipt ∷ []
  one_more = merge.receipts w id moment child into ticket' types register k

  is_next : IsNext w next
  is_next = record {
    frame = refl;
    counted = ap length one_more ∙ length-append (receipts_of w) (receipt ∷ []);
    register = merge.register_after w id moment child into ticket' types register k;
  }

  ticket_after : (u : List ℕ) → ticket next u ≡ cond (bytes_eq child u || bytes_eq into u) receipt.seq
      (ticket w u)
  ticket_after u = ticket_next w next receipt u register refl one_more

  -- no package of the world after has the child's UUID
  child_gone : AllByRecursion (λ x. bytes_eq x.uuid (holdings w child).uuid ≡ false) next.packages
  child_gone = subst (λ u. AllByRecursion (λ x. bytes_eq x.uuid u ≡ false) next.packages) (sym uuid_child)
      (All-without package_key child (λ x. bytes_eq x.uuid child ≡ false) all_changed
      (All-each (λ x. bytes_eq x.uuid child ≡ false → bytes_eq x.uuid child ≡ false) (λ x h. h) all_changed))

  module _ (from at : ℕ) (child_there : slice_get w.packages from ≡ Some (holdings w child))
      (into_there : slice_get w.packages at ≡ Some (holdings w into)) where
    pub two : ¬ (from ≡ at)
    two same =
        let one : Some (holdings w child) ≡ Some (holdings w into) =
        sym child_there ∙ ap (slice_get w.packages) same ∙ into_there in
        let named : child ≡ into = sym uuid_child ∙ ap (λ o. (unwrap_or o no_package).uuid) one ∙ uuid_into in
        true≢false (sym ((bytes_eq-Decides child into).1 named) ∙ k.apart)

    is_set : all_changed ≡ slice_set w.packages at (take_all (holdings w into))
    is_set = changed_set into take_all w.packages at (holdings w into) register.arranged into_there uuid_into

    pub packages_after : next.packages ≡ slice_set (remove w.packages from) (place_without from at)
        (take_all (holdings w into))
    packages_after =
        without_at package_key child all_changed from (holdings w child)
        (changed_arranged take_all into w.packages (λ x. refl) register.arranged)
        (ap (λ zs. slice_get zs from) is_set ∙ set_elsewhere w.packages at from (take_all (holdings w into)) two
        ∙ child_there) uuid_child
        ∙ ap (λ zs. remove zs from) is_set
        ∙ set_then_removed w.packages from at (take_all (holdings w into)) two

    rest_is : without package_key (child ∷ []) w.packages ≡ remove w.packages from
    rest_is = without_at package_key child w.packages from (holdings w child) register.arranged child_there uuid_child

    rest_arranged : IsArranged package_key (remove w.packages from)
    rest_arranged = subst (IsArranged package_key) rest_is (filter_arranged package_key _ w.packages register.arranged)

    rest_other : AllByRecursion (λ x. bytes_eq x.uuid child ≡ false) (remove w.packages from)
    rest_other = subst (AllByRecursion (λ x. bytes_eq x.uuid child ≡ false)) rest_is
        (All-without package_key child (λ x. bytes_eq x.uuid child ≡ false) w.packages
        (All-each (λ x. bytes_eq x.uuid child ≡ false → bytes_eq x.uuid child ≡ false) (λ x h. h) w.packages))

    others_stay : OthersStay w next (remove w.packages from) (place_without from at)
    others_stay n x here other =
        let not_child : bytes_eq child x.uuid ≡ false = bytes_eq_swap child x.uuid
        ∙ all_at (λ y. bytes_eq y.uuid child ≡ false) (remove w.packages from) n x rest_other here in
        let not_into : bytes_eq into x.uuid ≡ false = ap (λ u. bytes_eq u x.uuid) (sym uuid_into)
        ∙ other_key package_key (remove w.packages from) (place_without from at) n (holdings w into) x
        rest_arranged (still_there w.packages from at (holdings w into) into_there two) here other in
        ticket_after x.uuid ∙ ap (λ b. cond (b || bytes_eq into x.uuid) receipt.seq (ticket w x.uuid)) not_child
        ∙ ap (λ b. cond b receipt.seq (ticket w x.uuid)) not_into

    abbrev exact : Selection → Returning
    exact selection = record {
      from = from;
      into = at;
      selection = selection;
      receipt = receipt;
      sums = sums_held (returned receipt taken (holdings w child) (holdings w into));
    }

    is_returned : is_moment moment ≡ true → (selection : Selection) → IsSelectionOf taken selection
        → IsReturned w next (exact selection)
    is_returned timed selection selected = record {
      after = is_next;
      child = holdings w child;
      from = child_there;
      lent = ap is_some k.parent;
      parent = holdings w into;
      into = into_there;
      taken = taken;
      selected = selected;
      may = may timed;
      sums = refl;
      packages = packages_after;
      parent_ticket = ticket_after (holdings w into).uuid ∙ ap
          (λ b. cond b receipt.seq (ticket w (holdings w into).uuid))
          (ap (λ b. bytes_eq child (holdings w into).uuid || b) (ap (bytes_eq into) uuid_into ∙ bytes_eq_itself into)
          ∙ or-true (bytes_eq child (holdings w into).uuid));
      tickets = others_stay;
      apart = child_gone;
    }

  -- what was made of it is that
  returned_of : is_moment moment ≡ true → (due : Returning) → IsMerge w id moment child into ticket' due
      → IsReturned w next due
  returned_of timed due is =
      let sums : due.sums ≡ sums_held (returned receipt taken (holdings w child) (holdings w into)) = is.sums
      ∙ ap (λ s. sums_more s (sums_held (holdings w into))) (sym
      (held_moved receipt.seq (merge_request id moment child into ticket') (holdings w child)))
      ∙ sym (sums_joined receipt (holdings w child) (holdings w into)) in
      let same : due ≡ exact due.from due.into is.child_at is.parent_at due.selection =
      λ j. record {
        from = due.from;
        into = due.into;
        selection = due.selection;
        receipt = is.receipt j;
        sums = sums j;
      } in
      subst (IsReturned w next) (sym same) (is_returned due.from due.into is.child_at is.parent_at timed due.selection
      is.selected)

-- A new merge that is not refused is due, where what is due was made of it.
pub returned_where_accepted : ReturnedWhereAccepted
returned_where_accepted w id moment child into ticket' due register uuid types new none made =
    returned_of w id moment child into ticket' types register uuid
    (merge.known w id moment child into ticket' types register
    (ap (λ k. option_and_then (λ r. then_some (bytes_eq r.line (line (Merge child into ticket'))) r) k) new) none)
    (says_moment w (accepted w (merge_request id moment child into ticket'))
    (merge_request id moment child into ticket') none) due made
