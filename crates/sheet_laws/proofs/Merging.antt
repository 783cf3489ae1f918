-- A merge keeps the account.
use Rattle.std.specs.Prelude.{◌≡◌, ⊤, ℕ, ℤ, ◌+◌, ◌≤◌, ◌<◌, ◌==◌, Bool, true, false}
use Rattle.std.specs.Prelude.{cond, not, ◌&&◌, ◌||◌, List, [], ◌∷◌, ◌++◌, map, filter, find, refl}
use Rattle.std.specs.Prelude.{nat_lt, bytes_eq, Some, None, unwrap_or, option_map, sum_by, count_by, flat_map}
use Rattle.std.specs.Prelude.{MatchOption, is_none, is_some}
use Rattle.std.specs.Option.{option_map_or}
use Rattle.std.proofs.Common.{sym, ap, subst, ◌∙◌, arith, drop}
use Rattle.std.proofs.lemmas.List.Sums.{sum_by-append, sum_by-cons}
use Rattle.std.proofs.lemmas.List.Folds.{list_any-append}
use Rattle.std.proofs.lemmas.Bool.{true≢false, false≢true, and_parts, and_from, or_right}
use Rattle.std.proofs.lemmas.Slice.Eq.{bytes_eq-Decides}
use Rattle.std.specs.List.{list_any, AllByRecursion}
use Rattle.sheet_types.specs.Ordered.{put, arranged, has, without, IsArranged, is_among}
use Rattle.sheet_types.specs.Texts.{entry_of}
use Rattle.sheet_types.specs.World.{World, Package, package_key, receipt_key, item_key, link_key, receipts_of}
use Rattle.sheet_types.specs.World.{holdings, no_package, is_live, changed, with_receipt, item_moved, link_moved}
use Rattle.sheet_types.specs.World.{item_thing, is_tile}
use Rattle.sheet_types.specs.Custody.{ends_at, is_merge, is_split, after}
use Rattle.sheet_types.specs.Cut.{moved_of}
use Rattle.sheet_types.specs.Step.{accepted, joined, receipt_of, kept_reply}
use Rattle.sheet_types.specs.Refuse.{refusal, reasons, is_archive, takes_place, place_key, place_of}
use Rattle.sheet_laws.proofs.Contents.{NoneAltered, IsUnaltered, each_unaltered, none_altered, still_unaltered}
use Rattle.sheet_types.proofs.LineReading.{entry_from-line}
use Rattle.sheet_types.specs.Lines.{HasTypes, entry_from, is_splitting, is_merging}
use Rattle.sheet_laws.proofs.Ledger.{by_entry}
use Rattle.sheet_laws.proofs.CutEnds.{least_none, none_taken}
use Rattle.sheet_types.specs.Refuse.{greatest_depth}
use Rattle.sheet_types.specs.declared.command.Command.TheVariants.{Merge}
use Rattle.sheet_types.specs.Balance.{Balanced, IsLedger, MayFollow, archive_of, IsLoan, is_split_to, holds}
use Rattle.sheet_types.specs.Lines.{IsUuid}
use Rattle.sheet_types.specs.Register.{IsRegister, IsKeptPackage, HasParent, HasEnds, IsFit}
use Rattle.sheet_laws.specs.Laws.{merge_request, MergeKeepsRegister}
use Rattle.sheet_types.proofs.Every.{All-filter, All-weaker, All-left, All-right, All-snoc, All-both, All-append}
use Rattle.sheet_types.proofs.Every.{All-each, none_any}
use Rattle.sheet_types.specs.declared.command.Item.{Item}
use Rattle.sheet_types.specs.declared.command.Relation.{Relation}
use Rattle.sheet_types.specs.declared.command.Request.{Request}
use Rattle.sheet_types.specs.declared.receipt.Moved.{Moved}
use Rattle.sheet_types.specs.declared.receipt.Receipt.{Receipt}
use Rattle.sheet_types.proofs.Order.{All-put, All-arranged, All-of_put, All-of_arranged, list_any-put, sum_by-put}
use Rattle.sheet_types.proofs.Order.{sum_by-arranged, list_any-arranged, counts_arranged, arranged_counts}
use Rattle.sheet_types.proofs.Order.{filter_arranged}
use Rattle.sheet_types.proofs.Same.{In, same_list, All-In, In-all}
use Rattle.sheet_types.proofs.Basics.{bytes_eq_itself, not_false, and_true, bytes_eq_swap, or-true}
use Rattle.sheet_laws.proofs.Accepting.{rows_fail, new_identity, keeps}
use Rattle.sheet_laws.proofs.Packages.{by_place, by_two_places, archive_stays, find_changed, AllStand, at_uuid}
use Rattle.sheet_laws.proofs.Packages.{each_found, at_all, stand_at, stand_all, stand_flat, holdings_none}
use Rattle.sheet_laws.proofs.Packages.{holdings_changed, holdings_closed, changed_arranged, changed_sum, All-changed}
use Rattle.sheet_laws.proofs.Packages.{two_places, archive_closed}
use Rattle.sheet_laws.proofs.Ledger.{ledger_snoc}
use Rattle.sheet_types.proofs.Without.{All-without, take_one}
use Rattle.sheet_types.proofs.Found.{found, any_implies}
use Rattle.sheet_types.proofs.Sums.{sum_by-map, sum_by-flat_map, count-cons, none_counted, any_some, any_none}
use Rattle.sheet_types.proofs.Sums.{count_le, not_both_count}
use Rattle.sheet_laws.proofs.Shifting.{weighed, goes, Shift, each_stands, of_package, balance_kept, ends_at_is}
use Rattle.sheet_laws.proofs.Shifting.{numbers_below}
use Rattle.sheet_laws.proofs.Facts.{ledger_arranged, may_move, custody_moved, items_held, links_held, kept_at}
use Rattle.sheet_laws.proofs.Facts.{holds_once}
use Rattle.sheet_laws.proofs.Keeping.{ends_kept, made_by, loan_stays, fit_all, places_count, tile_at, apart_places}
use Rattle.sheet_laws.proofs.Keeping.{live_changed, live_closed, parent_moves, package_moves, receipts_kept}
use Rattle.sheet_laws.proofs.Keeping.{sum_by-changed, all_live_at, open_kept, open_is_split}
use Rattle.sheet_types.proofs.Distinct.{distinct_counts, counts_distinct}

-- the measure of a receipt is that of its items and links
pub weigh_moved : (c : Moved → ℕ) (items : List Item) (links : List Relation)
    → sum_by c (moved_of items links) ≡ sum_by (λ i. c (item_moved i)) items + sum_by (λ l. c (link_moved l))
    links
weigh_moved c items links = omega (
  arith,
  sum_by-append c (map item_moved items) (map link_moved links),
  sum_by-map c
      item_moved items,
  sum_by-map c link_moved links,
)

-- ---- a package is lent under a UUID once

-- a split that makes this package
abbrev pub lent_to : List ℕ → Receipt → Bool
lent_to c s = is_split s && ends_at s.target c

-- among past and later receipts
lent_once_from : (archive c : List ℕ) (past rs : List Receipt) → IsLedger archive past rs
    → count_by (lent_to c) past ≤ 1 → count_by (lent_to c) past + count_by (lent_to c) rs ≤ 1
lent_once_from archive c past [] h one = omega (arith, one)
lent_once_from archive c past (r ∷ rs) h one =
    let more : count_by (lent_to c) (past ++ r ∷ []) ≡ count_by (lent_to c) past + count_by (lent_to c)
    (r ∷ []) = sum_by-append (λ s. cond (lent_to c s) 1 0) past (r ∷ []) in
    let here : count_by (lent_to c) (past ++ r ∷ []) ≤ 1 =
    elim (lent_to c r) as (λ v. lent_to c r ≡ v → count_by (lent_to c) (past ++ r ∷ []) ≤ 1) [
      | true ↦ λ e.
          let parts : (is_split r ≡ true) × (ends_at r.target c ≡ true) =
          and_parts (is_split r) (ends_at r.target c) e in
          let none : count_by (lent_to c) past ≡ 0 = any_none (lent_to c) past
          (subst (λ o. list_any (is_split_to o) past ≡ false) (ends_at_is r.target c parts.1)
          (h.0.new_loan parts.0).0) in
          omega (arith, none, more, count-cons (lent_to c) r [] true e)
      | false ↦ λ e. omega (arith, one, more, count-cons (lent_to c) r [] false e)
    ] refl in
    omega (
      arith,
      more,
      lent_once_from archive c (past ++ r ∷ []) rs h.1 here,
      sum_by-cons
          (λ s. cond (lent_to c s) 1 0) r rs,
      sum_by-cons (λ s. cond (lent_to c s) 1 0) r [],
    )

-- in the whole ledger
pub lent_once : (w : World) (c : List ℕ) → IsLedger (archive_of w) [] (receipts_of w)
    → count_by (lent_to c) (receipts_of w) ≤ 1
lent_once w c sound = omega (arith, lent_once_from (archive_of w) c [] (receipts_of w) sound (omega arith))

-- ---- an accepted merge

module _ (w : World) (id moment child into : List ℕ) (ticket : ℤ) (types : HasTypes (Merge child into ticket))
    (register : IsRegister w) where
  abbrev pub asked : Request
  asked = merge_request id moment child into ticket

  abbrev pub receipt : Receipt
  receipt = receipt_of w asked

  abbrev pub take_all : Package → Package
  take_all x = with_receipt receipt (joined (holdings w child) x)

  abbrev pub next : World
  next = accepted w asked

  pub record Known : Type 0 where
    pub new_request : has (λ r. r.request) id (receipts_of w) ≡ false
    pub child_live : is_live w child ≡ true
    pub into_live : is_live w into ≡ true
    pub parent : (holdings w child).parent ≡ Some into
    pub apart : bytes_eq child into ≡ false
    pub no_loans : AllByRecursion (λ x. ends_at x.parent child ≡ false) w.packages
    pub free : AllByRecursion (λ i. takes_place (holdings w into) i.content ≡ false) (holdings w child).items

  pub known : kept_reply w asked ≡ None → refusal w next asked ≡ None → Known
  known no_reply no_refusal =
      let fails : AllByRecursion (λ row. row.0 ≡ false) (reasons w next asked) =
      rows_fail (reasons w next asked) no_refusal in
      let lives : (is_live w child ≡ true) × ((is_live w into && true) ≡ true) =
      and_parts (is_live w child) (is_live w into && true)
      (not_false (is_live w child && (is_live w into && true)) fails.1.0) in
      let up : (holdings w child).parent ≡ Some into = ends_at_is (holdings w child).parent into
      (not_false (ends_at (holdings w child).parent into) fails.1.1.1.1.1.1.1.1.1.1.1.1.1.1.1.1.1.1.0) in
      record {
        new_request = new_identity w asked no_reply fails.0;
        child_live = lives.0;
        into_live = and_true (is_live w into) lives.1;
        parent = up;
        apart = elim (bytes_eq child into) as (λ v. bytes_eq child into ≡ v → v ≡ false) [
          | true ↦ λ same.
              let e : child ≡ into = (bytes_eq-Decides child into).0 same in
              let deeper : (is_live w into ≡ true) × ((holdings w child).depth ≡ (holdings w into).depth + 1)
              × ((holdings w child).depth ≤ greatest_depth) =
              subst (λ o. MatchOption o (((holdings w child).depth ≡ 0) × ((holdings w child).loan ≡ 0))
              (λ p. (is_live w p ≡ true) × ((holdings w child).depth ≡ (holdings w p).depth + 1)
              × ((holdings w child).depth ≤ greatest_depth))) up (kept_at w child register lives.0).parent in
              absurd (omega (arith, deeper.1, ap (λ z. (holdings w z).depth) e))
          | false ↦ λ _. refl
        ] refl;
        no_loans = none_taken (λ x. x.uuid) (λ x. ends_at x.parent child) w.packages
            (least_none (map (λ x. x.uuid) (filter (λ x. ends_at x.parent child) w.packages))
            fails.1.1.1.1.1.1.1.1.1.1.1.1.1.1.1.1.1.1.1.1.0);
        free = All-of_arranged place_key (λ i. takes_place (holdings w into) i.content ≡ false)
            (holdings w child).items (none_meets (arranged place_key (holdings w child).items)
            fails.1.1.1.1.1.1.1.1.1.1.1.1.1.1.1.1.1.1.1.1.1.0);
      }
    where
      none_meets : (items : List Item) → is_some (option_map (λ i. i.identity)
          (find (λ i. takes_place (holdings w into) i.content) items)) ≡ false
          → AllByRecursion (λ i. takes_place (holdings w into) i.content ≡ false) items
      none_meets [] h = tt
      none_meets (i ∷ items) h =
          elim (takes_place (holdings w into) i.content) as (λ v. takes_place (holdings w into) i.content ≡ v
          → is_some (option_map (λ j. j.identity) (cond v (Some i)
          (find (λ j. takes_place (holdings w into) j.content) items))) ≡ false → (v ≡ false)
          × AllByRecursion (λ j. takes_place (holdings w into) j.content ≡ false) items) [
            | true ↦ λ _ e. absurd (true≢false e)
            | false ↦ λ _ e. (refl, none_meets items e)
          ] refl h

  -- the receipt is that of a merge
  pub says : entry_from receipt.line ≡ Some (entry_of asked.command)
  says = entry_from-line (entry_of asked.command) types

  pub merges : is_merge receipt ≡ true
  merges = by_entry is_merging receipt (entry_of asked.command) says

  no_split : is_split receipt ≡ false
  no_split = by_entry is_splitting receipt (entry_of asked.command) says

  module _ (k : Known) where
    pub apart' : bytes_eq into child ≡ false
    apart' = bytes_eq_swap into child ∙ k.apart

    at_mid : (p : List ℕ) → holdings next p ≡ cond (bytes_eq p child) no_package
        (cond (bytes_eq p into) (take_all (holdings w into)) (holdings w p))
    at_mid p = holdings_closed child p (changed take_all into w)
        ∙ ap (λ x. cond (bytes_eq p child) no_package x) (holdings_changed take_all w into p (λ x. refl)
        k.into_live)

    pub at_child : holdings next child ≡ no_package
    at_child = at_mid child ∙ ap (λ b. cond b no_package (cond (bytes_eq child into) (take_all (holdings w into))
        (holdings w child))) (bytes_eq_itself child)

    pub at_into : holdings next into ≡ take_all (holdings w into)
    at_into = at_mid into ∙ ap (λ b. cond b no_package (cond (bytes_eq into into) (take_all (holdings w into))
        (holdings w into))) apart' ∙ ap (λ b. cond b (take_all (holdings w into)) (holdings w into))
        (bytes_eq_itself into)

    pub at_other : (p : List ℕ) → bytes_eq p child ≡ false → bytes_eq p into ≡ false
        → holdings next p ≡ holdings w p
    at_other p a b = at_mid p ∙ ap (λ v. cond v no_package (cond (bytes_eq p into) (take_all (holdings w into))
        (holdings w p))) a ∙ ap (λ v. cond v (take_all (holdings w into)) (holdings w p)) b

    pub distinct_next : IsArranged package_key next.packages
    distinct_next = filter_arranged package_key _ (map (λ x. cond (bytes_eq x.uuid into) (take_all x) x) w.packages)
        (changed_arranged take_all into w.packages (λ x. refl) register.arranged)

    pub shifts : (c : Moved → ℕ) (p : List ℕ) → weighed c (holdings next p) + cond (bytes_eq child p)
        (sum_by c receipt.items) 0 ≡ weighed c (holdings w p) + cond (bytes_eq into p) (sum_by c receipt.items) 0
    shifts c =
        let all : sum_by c receipt.items ≡ weighed c (holdings w child) =
        weigh_moved c (holdings w child).items (holdings w child).links in
        let n : ℕ = sum_by c receipt.items in
        by_two_places child into (λ p. weighed c (holdings next p) + cond (bytes_eq child p) n 0
        ≡ weighed c (holdings w p) + cond (bytes_eq into p) n 0)
        (rw (at_child, bytes_eq_itself child, apart') (omega (arith, all)))
        (rw (at_into, bytes_eq_itself into, k.apart) (omega (
          arith,
          all,
          sum_by-arranged item_key (λ i. c (item_moved i)) ((holdings w child).items ++ (holdings w into).items),
          sum_by-append (λ i. c (item_moved i)) (holdings w child).items (holdings w into).items,
          sum_by-arranged link_key (λ l. c (link_moved l)) ((holdings w child).links ++ (holdings w into).links),
          sum_by-append (λ l. c (link_moved l)) (holdings w child).links (holdings w into).links,
        )))
        (λ p a b. rw (at_other p a b, bytes_eq_swap child p ∙ a, bytes_eq_swap into p ∙ b) refl)

    goes_child : goes receipt child ≡ into
    goes_child = ap (λ b. cond (b && bytes_eq child child) into child) merges
        ∙ ap (λ b. cond b into child) (bytes_eq_itself child)

    goes_other : (p : List ℕ) → bytes_eq p child ≡ false → goes receipt p ≡ p
    goes_other p a = ap (λ b. cond (b && bytes_eq child p) into p) merges
        ∙ ap (λ b. cond b into p) (bytes_eq_swap child p ∙ a)

    carry : (Q : List ℕ → Receipt → Type 0) → AllStand (λ u s. Q (goes receipt u) s) w → Q into receipt
        → AllStand Q next
    carry Q h g = stand_all Q next distinct_next (by_two_places child into
        (λ p. AllByRecursion (Q p) (holdings next p).receipts)
        (subst (λ x. AllByRecursion (Q child) x.receipts) (sym at_child) tt)
        (subst (λ x. AllByRecursion (Q into) x.receipts) (sym at_into)
        (All-put receipt_key (Q into) receipt (arranged receipt_key
        ((holdings w child).receipts ++ (holdings w into).receipts)) g
        (All-arranged receipt_key (Q into) ((holdings w child).receipts ++ (holdings w into).receipts)
        (All-append (Q into) (holdings w child).receipts (holdings w into).receipts
        (subst (λ u. AllByRecursion (Q u) (holdings w child).receipts) goes_child
        (stand_at (λ u s. Q (goes receipt u) s) w child h))
        (subst (λ u. AllByRecursion (Q u) (holdings w into).receipts) (goes_other into apart')
        (stand_at (λ u s. Q (goes receipt u) s) w into h))))))
        (λ p a b. subst (λ x. AllByRecursion (Q p) x.receipts) (sym (at_other p a b))
        (subst (λ u. AllByRecursion (Q u) (holdings w p).receipts) (goes_other p a)
        (stand_at (λ u s. Q (goes receipt u) s) w p h))))

    into_has : (P : Receipt → Type 0) → AllStand (λ _. P) next → P receipt
        × AllByRecursion P (holdings w child).receipts × AllByRecursion P (holdings w into).receipts
    into_has P h =
        let all : AllByRecursion P (put receipt_key receipt (arranged receipt_key
        ((holdings w child).receipts ++ (holdings w into).receipts))) =
        subst (λ x. AllByRecursion P x.receipts) at_into (stand_at (λ _. P) next into h) in
        let parts : P receipt × AllByRecursion P (arranged receipt_key
        ((holdings w child).receipts ++ (holdings w into).receipts)) =
        All-of_put receipt_key P receipt _ all in
        let both : AllByRecursion P ((holdings w child).receipts ++ (holdings w into).receipts) =
        All-of_arranged receipt_key P _ parts.1 in (
          parts.0,
          All-left P (holdings w child).receipts (holdings w into).receipts both,
          All-right P
              (holdings w child).receipts (holdings w into).receipts both,
        )

    back : (P : Receipt → Type 0) → AllStand (λ _. P) next → AllStand (λ _. P) w
    back P h = stand_all (λ _. P) w register.arranged (by_two_places child into
        (λ p. AllByRecursion P (holdings w p).receipts) (into_has P h).1 (into_has P h).2
        (λ p a b. subst (λ x. AllByRecursion P x.receipts) (at_other p a b) (stand_at (λ _. P) next p h)))

    -- ---- the receipts after it

    pub may : MayFollow (archive_of w) (receipts_of w) receipt
    may =
        let kept : IsKeptPackage w (holdings w child) = kept_at w child register k.child_live in
        let items : List Item = (holdings w child).items in
        let links : List Relation = (holdings w child).links in
        may_move w asked items links register.balanced.ledger (record {
          says = says;
          new_request = k.new_request;
          things = refl;
          entered = tt;
          in_order = (kept.items, kept.links);
          unaltered = (at_all w (λ x. AllByRecursion (IsUnaltered w) x.items) child
              (each_unaltered w register.unaltered) k.child_live).0;
          from_source = custody_moved w child items links register.balanced (items_held (holdings w child))
              (links_held (holdings w child));
          no_add = refl;
          new_loan = λ splits. absurd (false≢true splits);
        })

    in_order_after : IsArranged receipt_key (receipts_of w ++ receipt ∷ [])
    in_order_after = ledger_arranged (archive_of w) [] (receipts_of w ++ receipt ∷ [])
        (ledger_snoc (archive_of w) [] (receipts_of w) receipt register.balanced.ledger may)

    sums_after : (f : Receipt → ℕ) → sum_by f (flat_map (λ x. x.receipts) next.packages)
        ≡ sum_by f (flat_map (λ x. x.receipts) w.packages) + f receipt
    sums_after f =
        let h : Package → ℕ = λ x. sum_by f x.receipts in
        let ps : List Package = map (λ x. cond (bytes_eq x.uuid into) (take_all x) x) w.packages in
        let x : (x : Package) × (find (at_uuid into) w.packages ≡ Some x) =
        found (at_uuid into) w.packages k.into_live in
        let y : (y : Package) × (find (at_uuid child) w.packages ≡ Some y) =
        found (at_uuid child) w.packages k.child_live in
        let y' : Package = cond (bytes_eq y.0.uuid into) (take_all y.0) y.0 in
        let there : find (at_uuid child) ps ≡ Some y' = find_changed take_all into child w.packages (λ z. refl)
        ∙ ap (option_map (λ z. cond (bytes_eq z.uuid into) (take_all z) z)) y.1 in
        let is_y : holdings w child ≡ y' = sym (holdings_changed take_all w into child (λ z. refl) k.into_live
        ∙ ap (λ b. cond b (take_all (holdings w into)) (holdings w child)) k.apart)
        ∙ ap (λ o. unwrap_or o no_package) there in
        let is_x : holdings w into ≡ x.0 = ap (λ o. unwrap_or o no_package) x.1 in
        omega (
          arith,
          sum_by-flat_map f (λ z. z.receipts) next.packages,
          sum_by-flat_map f (λ z. z.receipts) w.packages,
          take_one package_key child h y' ps (counts_arranged package_key child ps
              (changed_arranged take_all into w.packages (λ z. refl) register.arranged)) there,
          changed_sum take_all h into x.0 w.packages (counts_arranged package_key into w.packages register.arranged)
              x.1,
          ap h is_y,
          sum_by-put receipt_key f receipt (arranged receipt_key ((holdings w child).receipts ++ x.0.receipts)),
          sum_by-arranged receipt_key f ((holdings w child).receipts ++ x.0.receipts),
          sum_by-append f (holdings w child).receipts x.0.receipts,
        )

    in_order_next : IsArranged receipt_key (receipts_of next)
    in_order_next = arranged_counts receipt_key (flat_map (λ x. x.receipts) next.packages) (λ n.
        let f : Receipt → ℕ = λ s. cond (bytes_eq (receipt_key s) n) 1 0 in
        omega (
          arith,
          sums_after f,
          sum_by-arranged receipt_key f (flat_map (λ x. x.receipts) w.packages),
          sum_by-append f (receipts_of w) (receipt ∷ []),
          sum_by-cons f receipt [],
          counts_arranged receipt_key n
              (receipts_of w ++ receipt ∷ []) in_order_after,
        ))

    pub receipts : receipts_of next ≡ receipts_of w ++ receipt ∷ []
    receipts =
        let after : List Receipt = receipts_of w ++ receipt ∷ [] in
        let flat : List Receipt = flat_map (λ x. x.receipts) next.packages in
        let mine : AllByRecursion (λ s. In s after) after = In-all after in
        let theirs : AllStand (λ _ s. In s (receipts_of next)) next =
        each_stands (λ s. In s (receipts_of next)) next (In-all (receipts_of next)) in
        let to : AllByRecursion (λ s. In s after) (receipts_of next) =
        All-arranged receipt_key (λ s. In s after) flat (stand_flat (λ s. In s after) next.packages
        (carry (λ _ s. In s after) (each_stands (λ s. In s after) w
        (All-left (λ s. In s after) (receipts_of w) (receipt ∷ []) mine))
        (All-right (λ s. In s after) (receipts_of w) (receipt ∷ []) mine).0)) in
        let fro : AllByRecursion (λ s. In s (receipts_of next)) after =
        All-snoc (λ s. In s (receipts_of next)) (receipts_of w) receipt
        (All-arranged receipt_key (λ s. In s (receipts_of next)) (flat_map (λ x. x.receipts) w.packages)
        (stand_flat (λ s. In s (receipts_of next)) w.packages (back (λ s. In s (receipts_of next)) theirs)))
        (into_has (λ s. In s (receipts_of next)) theirs).0 in
        same_list receipt_key (receipts_of next) after in_order_next in_order_after
        (λ s i. All-In (λ z. In z after) s (receipts_of next) to i)
        (λ s i. All-In (λ z. In z (receipts_of next)) s after fro i)

    archive : archive_of next ≡ archive_of w
    archive =
        let ps : List Package = map (λ x. cond (bytes_eq x.uuid into) (take_all x) x) w.packages in
        let is_child : holdings (changed take_all into w) child ≡ holdings w child =
        holdings_changed take_all w into child (λ z. refl) k.into_live
        ∙ ap (λ b. cond b (take_all (holdings w into)) (holdings w child)) k.apart in
        ap (λ o. option_map_or (λ x. x.uuid) o []) (archive_closed child ps
        (All-weaker (λ x. find (at_uuid x.uuid) ps ≡ Some x)
        (λ x. bytes_eq x.uuid child ≡ true → is_archive x ≡ false)
        (λ x is same.
        let here : holdings w child ≡ x = sym is_child ∙ ap (λ u. holdings (changed take_all into w) u)
        (sym ((bytes_eq-Decides x.uuid child).0 same)) ∙ ap (λ o. unwrap_or o no_package) is in
        ap is_archive (sym here) ∙ ap is_none k.parent)
        ps (each_found ps (changed_arranged take_all into w.packages (λ z. refl) register.arranged))))
        ∙ archive_stays take_all into w (λ x. refl) (λ x. refl)

    pub shift : Shift w next receipt
    shift = record { receipts = receipts; archive = archive; may = may; shifts = λ c _. shifts c }

    -- ---- the split that made the child stands where the merge does

    lent_here : (list_any (λ r. is_split r && ends_at r.target (holdings w child).uuid &&
        (r.seq == (holdings w child).loan)) (holdings w into).receipts ≡ true)
        × ((holdings w child).uuid ≡ child)
    lent_here =
        let loan : IsLoan w (holdings w child) × ((holdings w child).uuid ≡ child) =
        at_all w (IsLoan w) child register.balanced.loans k.child_live in (
          (subst (λ o. MatchOption o ⊤ (λ parent.
              (list_any (λ r. is_split r && ends_at r.target (holdings w child).uuid &&
              (r.seq == (holdings w child).loan)) (holdings w parent).receipts ≡ true)
              × (list_any (λ m. is_merge m && ends_at m.source (holdings w child).uuid)
              (after (holdings w child).loan (receipts_of w)) ≡ false))) k.parent loan.0).0,
          loan.1,
        )

    lent_in : 1 ≤ count_by (lent_to child) (holdings w into).receipts
    lent_in = any_some (lent_to child) (holdings w into).receipts
        (any_implies (λ r. is_split r && ends_at r.target (holdings w child).uuid &&
        (r.seq == (holdings w child).loan)) (lent_to child)
        (λ s e. subst (λ u. (is_split s && ends_at s.target u) ≡ true) lent_here.1
        (and_parts (is_split s && ends_at s.target (holdings w child).uuid) (s.seq == (holdings w child).loan)
        e).0) (holdings w into).receipts lent_here.0)

    lent_nowhere_else : (p : List ℕ) → bytes_eq p into ≡ false
        → AllByRecursion (λ s. lent_to child s ≡ false) (holdings w p).receipts
    lent_nowhere_else p other =
        elim (is_live w p) as (λ v. is_live w p ≡ v → AllByRecursion (λ s. lent_to child s ≡ false)
        (holdings w p).receipts) [
          | true ↦ λ live. none_counted (lent_to child) (holdings w p).receipts (omega (
            arith,
            lent_in,
            two_places (λ x. count_by (lent_to child) x.receipts) w into p register.arranged other k.into_live live,
            lent_once w child register.balanced.ledger,
            sum_by-arranged receipt_key (λ s. cond (lent_to child s) 1 0) (flat_map (λ x. x.receipts) w.packages),
            sum_by-flat_map (λ s. cond (lent_to child s) 1 0) (λ x. x.receipts) w.packages,
          ))
          | false ↦ λ dead. subst (λ x. AllByRecursion (λ s. lent_to child s ≡ false) x.receipts)
              (sym (holdings_none w p dead)) tt
        ] refl

    undoes : AllStand (λ u s. (is_split s && nat_lt s.seq receipt.seq && ends_at s.target child) ≡ true
        → goes receipt u ≡ into) w
    undoes = stand_all (λ u s. (is_split s && nat_lt s.seq receipt.seq && ends_at s.target child) ≡ true
        → goes receipt u ≡ into) w register.arranged (λ p.
        elim (bytes_eq p into) as (λ v. bytes_eq p into ≡ v → AllByRecursion
        (λ s. (is_split s && nat_lt s.seq receipt.seq && ends_at s.target child) ≡ true
        → goes receipt p ≡ into) (holdings w p).receipts) [
          | true ↦ λ same. All-each (λ s. (is_split s && nat_lt s.seq receipt.seq && ends_at s.target child)
              ≡ true → goes receipt p ≡ into)
              (λ s _. ap (goes receipt) ((bytes_eq-Decides p into).0 same) ∙ goes_other into apart')
              (holdings w p).receipts
          | false ↦ λ other. All-weaker (λ s. lent_to child s ≡ false)
              (λ s. (is_split s && nat_lt s.seq receipt.seq && ends_at s.target child) ≡ true
              → goes receipt p ≡ into)
              (λ s none test.
              let parts : ((is_split s && nat_lt s.seq receipt.seq) ≡ true) × (ends_at s.target child ≡ true) =
              and_parts (is_split s && nat_lt s.seq receipt.seq) (ends_at s.target child) test in
              absurd (true≢false (sym (and_from (is_split s) (ends_at s.target child)
              (and_parts (is_split s) (nat_lt s.seq receipt.seq) parts.0).0 parts.1) ∙ none)))
              (holdings w p).receipts (lent_nowhere_else p other)
        ] refl)

    -- ---- loans

    loan_kept : (x : Package) → bytes_eq x.uuid child ≡ false → IsLoan w x → ends_at x.parent child ≡ false
        → IsLoan next x
    loan_kept x other h away =
        loan_stays w next receipt x receipts (ap (λ b. b && bytes_eq child x.uuid) merges
        ∙ bytes_eq_swap child x.uuid ∙ other) (λ q ends. made_there q
        (ap (λ o. ends_at o child) (sym (ends_at_is x.parent q ends)) ∙ away)) h
      where
        made : Receipt → Bool
        made = made_by x

        made_there : (q : List ℕ) → bytes_eq q child ≡ false → list_any made (holdings w q).receipts ≡ true
            → list_any made (holdings next q).receipts ≡ true
        made_there = by_place into (λ q. bytes_eq q child ≡ false
            → list_any made (holdings w q).receipts ≡ true → list_any made (holdings next q).receipts ≡ true)
            (λ _ h. ap (λ y. list_any made y.receipts) at_into
            ∙ list_any-put receipt_key made receipt (arranged receipt_key
            ((holdings w child).receipts ++ (holdings w into).receipts))
            ∙ ap (λ b. made receipt || b) (list_any-arranged receipt_key made
            ((holdings w child).receipts ++ (holdings w into).receipts)
            ∙ list_any-append made (holdings w child).receipts (holdings w into).receipts)
            ∙ or_right (made receipt) (list_any made (holdings w child).receipts || list_any made
            (holdings w into).receipts) (or_right (list_any made (holdings w child).receipts)
            (list_any made (holdings w into).receipts) h))
            (λ q b a h. ap (λ y. list_any made y.receipts) (at_other q a b) ∙ h)

    loans_kept : AllByRecursion (IsLoan next) next.packages
    loans_kept =
        let ps : List Package = map (λ x. cond (bytes_eq x.uuid into) (take_all x) x) w.packages in
        let Stays : Package → Type 0 = λ x. bytes_eq x.uuid child ≡ false → IsLoan next x in
        All-without package_key child (IsLoan next) ps
        (All-changed take_all into (λ x. IsLoan w x × (ends_at x.parent child ≡ false)) Stays
        (λ x _ h other. loan_kept x other h.0 h.1) (λ x h other. loan_kept x other h.0 h.1) w.packages
        (All-both (IsLoan w) (λ x. ends_at x.parent child ≡ false)
        (λ x. IsLoan w x × (ends_at x.parent child ≡ false)) (λ x a b. (a, b)) w.packages
        register.balanced.loans k.no_loans))

    pub balance_after : Balanced next
    balance_after = balance_kept w next receipt (entry_of asked.command) says shift register.balanced
        (holds_once w register) carry (λ _. undoes) loans_kept

    -- ---- contents

    pub contents_after : NoneAltered next
    contents_after =
        let ps : List Package = map (λ x. cond (bytes_eq x.uuid into) (take_all x) x) w.packages in
        let Sound : Package → Type 0 = λ x. AllByRecursion (IsUnaltered next) x.items in
        let old : AllByRecursion Sound w.packages = still_unaltered w next receipt receipts register.unaltered in
        let childs : AllByRecursion (IsUnaltered next) (holdings w child).items =
        (at_all w Sound child old k.child_live).0 in
        All-filter Sound (λ x. not (is_among (child ∷ []) x.uuid)) ps (All-changed take_all into Sound Sound
        (λ x _ h. All-arranged item_key (IsUnaltered next) ((holdings w child).items ++ x.items)
        (All-append (IsUnaltered next) (holdings w child).items x.items childs h)) (λ x h. h) w.packages old)

    -- ---- the rules of a register

    abbrev merged : Package
    merged = take_all (holdings w into)

    pub kept_child : IsKeptPackage w (holdings w child)
    kept_child = kept_at w child register k.child_live

    pub kept_into : IsKeptPackage w (holdings w into)
    kept_into = kept_at w into register k.into_live

    -- no thing is in both
    pub never_both : (thing : List ℕ) → holds (holdings w child) thing ≡ true
        → holds (holdings w into) thing ≡ true → ⊥
    never_both thing a b =
        let e : Some child ≡ Some into = sym ((register.balanced.custody_is child thing).0 a)
        ∙ (register.balanced.custody_is into thing).0 b in
        true≢false (sym ((bytes_eq-Decides child into).1 (ap (λ o. unwrap_or o child) e)) ∙ k.apart)

    abbrev has_identity : List ℕ → Item → Bool
    has_identity n i = bytes_eq i.identity n

    abbrev has_link_key : List ℕ → Relation → Bool
    has_link_key n l = bytes_eq (link_key l) n

    pub identities_apart : (n : List ℕ) → count_by (has_identity n)
        ((holdings w child).items ++ (holdings w into).items) ≤ 1
    identities_apart n = omega (
      arith,
      sum_by-append (λ i. cond (has_identity n i) 1 0) (holdings w child).items (holdings w into).items,
      not_both_count (has_identity n) (holdings w child).items (holdings w into).items
          (distinct_counts (λ i. i.identity) n (holdings w child).items kept_child.identities)
          (distinct_counts (λ i. i.identity) n (holdings w into).items kept_into.identities)
          (λ a b. never_both (0 ∷ n) (ap (λ v. v || has link_key (0 ∷ n) (holdings w child).links) a)
          (ap (λ v. v || has link_key (0 ∷ n) (holdings w into).links) b)),
    )

    pub keys_apart : (n : List ℕ) → count_by (λ i. bytes_eq (item_key i) n)
        ((holdings w child).items ++ (holdings w into).items) ≤ 1
    keys_apart n = omega (
      arith,
      identities_apart (drop 1 n),
      count_le (λ i. bytes_eq (item_key i) n) (has_identity (drop 1 n))
          (λ i e. (bytes_eq-Decides i.identity (drop 1 n)).1 (ap (drop 1) ((bytes_eq-Decides (item_key i) n).0 e)))
          ((holdings w child).items ++ (holdings w into).items),
    )

    pub links_apart : (n : List ℕ) → count_by (has_link_key n)
        ((holdings w child).links ++ (holdings w into).links) ≤ 1
    links_apart n = omega (
      arith,
      sum_by-append (λ l. cond (has_link_key n l) 1 0) (holdings w child).links (holdings w into).links,
      not_both_count (has_link_key n) (holdings w child).links (holdings w into).links
          (counts_arranged link_key n (holdings w child).links kept_child.links)
          (counts_arranged link_key n (holdings w into).links kept_into.links)
          (λ a b. never_both n (ap (λ v. has item_thing n (holdings w child).items || v) a
          ∙ or-true (has item_thing n (holdings w child).items))
          (ap (λ v. has item_thing n (holdings w into).items || v) b
          ∙ or-true (has item_thing n (holdings w into).items))),
    )

    places_apart : (n : List ℕ) → count_by (λ i. bytes_eq (place_of i.content) n) (filter is_tile merged.items)
        ≤ 1
    places_apart n = omega (
      arith,
      places_count n merged.items,
      sum_by-arranged item_key (λ i. cond (tile_at n i) 1 0) ((holdings w child).items ++ (holdings w into).items),
      sum_by-append (λ i. cond (tile_at n i) 1 0) (holdings w child).items (holdings w into).items,
      not_both_count (tile_at n) (holdings w child).items (holdings w into).items
          (subst (λ m. m ≤ 1) (places_count n (holdings w child).items)
          (distinct_counts (λ i. place_of i.content) n (filter is_tile (holdings w child).items)
          kept_child.places))
          (subst (λ m. m ≤ 1) (places_count n (holdings w into).items)
          (distinct_counts (λ i. place_of i.content) n (filter is_tile (holdings w into).items)
          kept_into.places))
          (apart_places w (holdings w child) (holdings w into) n register.frame kept_child.fit kept_into.fit k.free),
    )

    pub seqs_apart : IsArranged receipt_key (arranged receipt_key
        ((holdings w child).receipts ++ (holdings w into).receipts))
    seqs_apart = arranged_counts receipt_key ((holdings w child).receipts ++ (holdings w into).receipts) (λ n.
        let f : Receipt → ℕ = λ s. cond (bytes_eq (receipt_key s) n) 1 0 in
        omega (
          arith,
          sum_by-append f (holdings w child).receipts (holdings w into).receipts,
          two_places (λ x. sum_by f x.receipts) w child into register.arranged apart' k.child_live k.into_live,
          sum_by-flat_map f (λ x. x.receipts) w.packages,
          sum_by-arranged receipt_key f (flat_map (λ x. x.receipts) w.packages),
          counts_arranged receipt_key n (receipts_of w) (ledger_arranged (archive_of w) [] (receipts_of w)
              register.balanced.ledger),
        ))

    pub all_below : AllByRecursion (λ s. s.seq < receipt.seq) (receipts_of w)
    all_below = numbers_below w receipt.seq register.balanced.ledger refl

    pub stand_below : (p : List ℕ) → AllByRecursion (λ s. s.seq < receipt.seq) (holdings w p).receipts
    stand_below p = of_package (λ s. s.seq < receipt.seq) w p all_below

    pub live_stays : (q : List ℕ) → bytes_eq q child ≡ false → is_live next q ≡ is_live w q
    live_stays q other = live_closed child q (map (λ x. cond (bytes_eq x.uuid into) (take_all x) x) w.packages) other
        ∙ live_changed take_all into q w.packages (λ x. refl)

    depth_stays : (q : List ℕ) → bytes_eq q child ≡ false → (holdings next q).depth ≡ (holdings w q).depth
    depth_stays = by_two_places child into (λ q. bytes_eq q child ≡ false
        → (holdings next q).depth ≡ (holdings w q).depth) (λ other. absurd
        (true≢false (sym (bytes_eq_itself child) ∙ other))) (λ _. ap (λ x. x.depth) at_into)
        (λ q a b _. ap (λ x. x.depth) (at_other q a b))

    parent_stays : (x : Package) → ends_at x.parent child ≡ false → HasParent w x → HasParent next x
    parent_stays x away h = parent_moves w next x.parent x.depth x.loan (λ q here live.
        let other : bytes_eq q child ≡ false = sym (ap (λ o. ends_at o child) (ends_at_is x.parent q here))
        ∙ away in
        (live_stays q other ∙ live, depth_stays q other)) h

    away_at : (q : List ℕ) → is_live w q ≡ true → ends_at (holdings w q).parent child ≡ false
    away_at q live = (at_all w (λ x. ends_at x.parent child ≡ false) q k.no_loans live).0

    has_merged : (n : List ℕ) → has item_key n merged.items ≡
        (has item_key n (holdings w child).items || has item_key n (holdings w into).items)
    has_merged n = list_any-arranged item_key (λ i. bytes_eq (item_key i) n)
        ((holdings w child).items ++ (holdings w into).items)
        ∙ list_any-append (λ i. bytes_eq (item_key i) n) (holdings w child).items (holdings w into).items

    pub ends_child : (l : Relation) → HasEnds (holdings w child) l → HasEnds merged l
    ends_child = ends_kept (holdings w child) merged (λ n e. has_merged n
        ∙ ap (λ b. b || has item_key n (holdings w into).items) e)

    ends_into : (l : Relation) → HasEnds (holdings w into) l → HasEnds merged l
    ends_into = ends_kept (holdings w into) merged (λ n e. has_merged n
        ∙ ap (λ b. has item_key n (holdings w child).items || b) e
        ∙ or-true (has item_key n (holdings w child).items))

    both_items : (P : Item → Type 0) → AllByRecursion P (holdings w child).items
        → AllByRecursion P (holdings w into).items → AllByRecursion P merged.items
    both_items P a b = All-arranged item_key P ((holdings w child).items ++ (holdings w into).items)
        (All-append P (holdings w child).items (holdings w into).items a b)

    pub kept_merged : IsKeptPackage next merged
    kept_merged = record {
      uuid = kept_into.uuid;
      items = arranged_counts item_key ((holdings w child).items ++ (holdings w into).items) keys_apart;
      links = arranged_counts link_key ((holdings w child).links ++ (holdings w into).links) links_apart;
      receipts = receipts_kept receipt (arranged receipt_key
          ((holdings w child).receipts ++ (holdings w into).receipts)) seqs_apart
          (All-arranged receipt_key (λ s. s.seq < receipt.seq)
          ((holdings w child).receipts ++ (holdings w into).receipts)
          (All-append (λ s. s.seq < receipt.seq) (holdings w child).receipts (holdings w into).receipts
          (stand_below child) (stand_below into)));
      identities = counts_distinct (λ i. i.identity) merged.items
          (λ n. omega (
            arith,
            identities_apart n,
            sum_by-arranged item_key (λ i. cond (has_identity n i) 1 0)
                ((holdings w child).items ++ (holdings w into).items),
          ));
      uuids = both_items (λ i. IsUuid i.identity) kept_child.uuids kept_into.uuids;
      fit = both_items (IsFit next merged) (fit_all w next refl (holdings w child) merged (holdings w child).items
          kept_child.fit) (fit_all w next refl (holdings w into) merged (holdings w into).items kept_into.fit);
      places = counts_distinct (λ i. place_of i.content) (filter is_tile merged.items) places_apart;
      ends = All-arranged link_key (HasEnds merged) ((holdings w child).links ++ (holdings w into).links)
          (All-append (HasEnds merged) (holdings w child).links (holdings w into).links
          (All-weaker (HasEnds (holdings w child)) (HasEnds merged) ends_child (holdings w child).links
          kept_child.ends) (All-weaker (HasEnds (holdings w into)) (HasEnds merged) ends_into
          (holdings w into).links kept_into.ends));
      parent = parent_stays (holdings w into) (away_at into k.into_live) kept_into.parent;
    }

    one_archive : count_by is_archive next.packages ≡ 1
    one_archive =
        let h : Package → ℕ = λ x. cond (is_archive x) 1 0 in
        let ps : List Package = map (λ x. cond (bytes_eq x.uuid into) (take_all x) x) w.packages in
        let y : (y : Package) × (find (at_uuid child) w.packages ≡ Some y) =
        found (at_uuid child) w.packages k.child_live in
        let y' : Package = cond (bytes_eq y.0.uuid into) (take_all y.0) y.0 in
        let there : find (at_uuid child) ps ≡ Some y' = find_changed take_all into child w.packages (λ z. refl)
        ∙ ap (option_map (λ z. cond (bytes_eq z.uuid into) (take_all z) z)) y.1 in
        let is_y : holdings w child ≡ y' = sym (holdings_changed take_all w into child (λ z. refl) k.into_live
        ∙ ap (λ b. cond b (take_all (holdings w into)) (holdings w child)) k.apart)
        ∙ ap (λ o. unwrap_or o no_package) there in
        omega (
          arith,
          take_one package_key child h y' ps (counts_arranged package_key child ps
              (changed_arranged take_all into w.packages (λ z. refl) register.arranged)) there,
          sum_by-changed take_all h into w.packages (λ x. refl),
          register.archive,
          ap h (sym is_y),
          ap {B = ℕ} (λ o. cond (is_none o) 1 0) k.parent,
        )

    pub register_after : IsRegister next
    register_after = record {
      frame = register.frame;
      arranged = distinct_next;
      archive = one_archive;
      packages = all_live_at next (IsKeptPackage next) distinct_next
          (by_two_places child into (λ q. is_live next q ≡ true → IsKeptPackage next (holdings next q))
          (λ live. absurd (true≢false (sym live ∙ gone)))
          (λ _. subst (IsKeptPackage next) (sym at_into) kept_merged)
          (λ q a b live.
          let was : is_live w q ≡ true = sym (live_stays q a) ∙ live in
          let kept : IsKeptPackage w (holdings w q) = kept_at w q register was in
          subst (IsKeptPackage next) (sym (at_other q a b)) (package_moves w next (holdings w q) refl
          (parent_stays (holdings w q) (away_at q was) kept.parent) kept)));
      open_loans = open_kept w next receipt receipts all_below register.open_loans
          (λ t other live. live_stays t (bytes_eq_swap t child ∙ sym (ap (λ b. b && bytes_eq child t) merges)
          ∙ other) ∙ live)
          (λ open'. absurd (false≢true (sym no_split ∙ open_is_split (receipts_of next) receipt open')));
      balanced = balance_after;
      unaltered = none_altered next contents_after;
    }
      where
        gone_from : (ps : List Package) → list_any (at_uuid child) (without package_key (child ∷ []) ps) ≡ false
        gone_from ps = none_any (at_uuid child) (without package_key (child ∷ []) ps)
            (All-without package_key child (λ x. at_uuid child x ≡ false) ps
            (All-each (λ x. bytes_eq x.uuid child ≡ false → at_uuid child x ≡ false) (λ x h. h) ps))

        gone : is_live next child ≡ false
        gone = gone_from (map (λ x. cond (bytes_eq x.uuid into) (take_all x) x) w.packages)

-- the law of a merge
pub merge_keeps_register : MergeKeepsRegister
merge_keeps_register w id moment child into ticket types register =
    keeps IsRegister w (merge_request id moment child into ticket) register
    (λ no_reply no_refusal. register_after w id moment child into ticket types register
    (known w id moment child into ticket types register no_reply no_refusal))
