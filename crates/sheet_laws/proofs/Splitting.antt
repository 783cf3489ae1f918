-- A split keeps the account, whatever its mode.
use Rattle.std.specs.Prelude.{◌≡◌, ⊤, ℕ, ◌+◌, ◌≤◌, ◌<◌, ◌==◌, Bool, true, false, cond}
use Rattle.std.specs.Prelude.{not, ◌&&◌, ◌||◌, List, [], ◌∷◌, ◌++◌, map, filter, find, refl}
use Rattle.std.specs.Prelude.{bytes_eq, Some, None, sum_by, MatchOption, is_none, is_some, nat_le}
use Rattle.std.specs.Option.{option_map_or}
use Rattle.std.proofs.Common.{sym, ap, subst, ◌∙◌, arith}
use Rattle.std.proofs.lemmas.Bool.{true≢false, false≢true, and_from, or_parts, false_from_ne_true}
use Rattle.std.proofs.lemmas.Slice.Eq.{bytes_eq-Decides}
use Rattle.std.specs.List.{list_any, AllByRecursion}
use Rattle.sheet_types.specs.Ordered.{arranged, has, without, IsArranged}
use Rattle.sheet_types.specs.Texts.{entry_of}
use Rattle.sheet_types.specs.World.{World, Package, package_key, receipt_key, item_key, link_key, item_thing}
use Rattle.sheet_types.specs.World.{receipts_of, holdings, is_live, changed, with_receipt, item_moved, link_moved}
use Rattle.sheet_types.specs.Custody.{ends_at, is_merge, is_split, after}
use Rattle.sheet_types.specs.Cut.{Cut, cut, identities, start, strict_set, touches, in_each}
use Rattle.sheet_types.specs.Step.{accepted, less, loan_of, cut_of, receipt_of, kept_reply}
use Rattle.sheet_types.specs.Refuse.{refusal, reasons, is_archive, cut_link, greatest_depth}
use Rattle.sheet_laws.proofs.Contents.{NoneAltered, IsUnaltered, each_unaltered, none_altered, still_unaltered}
use Rattle.sheet_types.proofs.LineReading.{entry_from-line}
use Rattle.sheet_types.specs.Lines.{HasTypes, entry_from, is_splitting, is_merging, is_uuid, is_rect}
use Rattle.sheet_laws.proofs.Ledger.{by_entry}
use Rattle.std.proofs.lemmas.Bool.{and_parts}
use Rattle.sheet_types.specs.Balance.{Balanced, MayFollow, archive_of, IsLoan, holds}
use Rattle.sheet_types.specs.Register.{IsRegister, IsKeptPackage, HasParent, HasEnds}
use Rattle.sheet_laws.specs.Laws.{split_request, SplitKeepsRegister}
use Rattle.sheet_types.specs.declared.command.Mode.{Mode}
use Rattle.sheet_types.specs.declared.command.Mode.TheVariants.{Strict, Follow}
use Rattle.sheet_types.specs.declared.frame.Frame.{Frame}
use Rattle.sheet_types.specs.declared.frame.Rect.{Rect}
use Rattle.sheet_types.specs.declared.command.Item.{Item}
use Rattle.sheet_types.specs.declared.command.Relation.{Relation}
use Rattle.sheet_types.specs.declared.command.Request.{Request}
use Rattle.sheet_types.specs.declared.receipt.Moved.{Moved}
use Rattle.sheet_types.specs.declared.receipt.Receipt.{Receipt}
use Rattle.sheet_types.proofs.Order.{All-put, list_any-put, filter_arranged, put_arranged, find_put_other, sum_by-put}
use Rattle.sheet_types.proofs.Basics.{bytes_eq_itself, not_false, and_true, bytes_eq_swap, not_true}
use Rattle.sheet_types.proofs.Every.{All-weaker, none_pass, none_any, All-filter}
use Rattle.sheet_laws.proofs.Accepting.{rows_fail, new_identity, keeps}
use Rattle.sheet_laws.proofs.Packages.{by_place, by_two_places, archive_stays, receipts_gained, with_receipt_gains}
use Rattle.sheet_laws.proofs.Packages.{AllStand, at_uuid, at_all, stand_at, stand_all, holdings_none}
use Rattle.sheet_laws.proofs.Packages.{holdings_changed, holdings_enlarged, changed_arranged, All-changed, flat_put}
use Rattle.sheet_laws.proofs.Ledger.{none_later}
use Rattle.sheet_types.proofs.Found.{found, All-found}
use Rattle.sheet_types.proofs.Sums.{sum_by-parts, count_none}
use Rattle.sheet_types.proofs.Without.{rest_of}
use Rattle.sheet_laws.proofs.Shifting.{weighed, goes, Shift, of_package, goes_same, balance_kept, numbers_below}
use Rattle.sheet_laws.proofs.Facts.{may_move, custody_moved, items_held, links_held, kept_at, holds_once}
use Rattle.sheet_laws.proofs.Merging.{weigh_moved, lent_to}
use Rattle.std.proofs.lemmas.Bool.Decides.{nat_tests}
use Rattle.sheet_types.specs.declared.command.Command.TheVariants.{Split}
use Rattle.sheet_laws.proofs.CutEnds.{GoesWhole, strict_whole, follow_whole}
use Rattle.sheet_laws.proofs.Keeping.{loan_stays_with, filtered_kept, live_changed, parent_moves, package_moves}
use Rattle.sheet_laws.proofs.Keeping.{receipts_kept, sum_by-changed, all_live_at, open_kept}

-- a cut takes by a test of the items and a test of the links
pub record ByTests (x : Package) (c : Cut) : Type 0 where
  pub items : (t : Item → Bool) × (c.items ≡ filter t x.items)
  pub links : (u : Relation → Bool) × (c.links ≡ filter u x.links)

-- each cut does
pub by_tests : (f : Frame) (x : Package) (mode : Mode) (rect : Rect) → ByTests x (cut f x mode rect)
by_tests f x Strict rect = record { items = (_, refl); links = (_, refl) }
by_tests f x Follow rect = record { items = (_, refl); links = (_, refl) }

-- a cut that tears no link
pub record WholeCut (x : Package) (c : Cut) : Type 0 where
  pub s : List ℕ → Bool
  pub u : Relation → Bool
  pub items : c.items ≡ filter (λ i. s i.identity) x.items
  pub links : c.links ≡ filter u x.links
  pub whole : AllByRecursion (GoesWhole s u) x.links

-- each accepted cut
pub whole_cut : (w : World) (p child : List ℕ) (mode : Mode) (rect : Rect)
    → AllByRecursion (HasEnds (holdings w p)) (holdings w p).links
    → is_some (cut_link w (Split p child mode rect)) ≡ false
    → WholeCut (holdings w p) (cut w.frame (holdings w p) mode rect)
whole_cut w p child Strict rect ends none = record {
  s = strict_set (holdings w p) (identities (start w.frame rect (holdings w p)));
  u = touches (strict_set (holdings w p) (identities (start w.frame rect (holdings w p))));
  items = refl;
  links = refl;
  whole = strict_whole (holdings w p) (identities (start w.frame rect (holdings w p))) ends none;
}
whole_cut w p child Follow rect ends none = record {
  s = in_each (holdings w p) (identities (start w.frame rect (holdings w p)));
  u = touches (in_each (holdings w p) (identities (start w.frame rect (holdings w p))));
  items = refl;
  links = refl;
  whole = follow_whole (holdings w p) (identities (start w.frame rect (holdings w p)));
}

-- what is taken and what is left
pub taken_sum : {X : Type 0} (key : X → List ℕ) (f : X → ℕ) (xs taken : List X) (t : X → Bool)
    → taken ≡ filter t xs → IsArranged key xs → sum_by f (without key (map key taken) xs) + sum_by f taken
    ≡ sum_by f xs
taken_sum key f xs taken t e h = rw (e, rest_of key t xs h) (sum_by-parts f t xs)

module _ (w : World) (id moment p child : List ℕ) (mode : Mode) (rect : Rect)
    (types : HasTypes (Split p child mode rect)) (register : IsRegister w) where
  abbrev pub asked : Request
  asked = split_request id moment p child mode rect

  abbrev pub taken : Cut
  taken = cut_of w p mode rect

  abbrev pub receipt : Receipt
  receipt = receipt_of w asked

  abbrev pub give : Package → Package
  give x = with_receipt receipt (less taken x)

  abbrev pub loan : Package
  loan = loan_of child (holdings w p) receipt.seq taken

  abbrev pub next : World
  next = accepted w asked

  pub tests : ByTests (holdings w p) taken
  tests = by_tests w.frame (holdings w p) mode rect

  pub record Known : Type 0 where
    pub new_request : has (λ r. r.request) id (receipts_of w) ≡ false
    pub live : is_live w p ≡ true
    pub no_archive : AllByRecursion (λ x. (is_archive x && bytes_eq x.uuid child) ≡ false) w.packages
    pub never_lent : list_any (lent_to child) (receipts_of w) ≡ false
    pub untorn : is_some (cut_link w asked.command) ≡ false
    pub shallow : nat_le greatest_depth (holdings w p).depth ≡ false

  pub known : kept_reply w asked ≡ None → refusal w next asked ≡ None → Known
  known no_reply no_refusal =
      let fails : AllByRecursion (λ row. row.0 ≡ false) (reasons w next asked) =
      rows_fail (reasons w next asked) no_refusal in
      let unused : (list_any (λ x. is_archive x && bytes_eq x.uuid child) w.packages ≡ false)
      × (list_any (lent_to child) (receipts_of w) ≡ false) =
      or_parts (list_any (λ x. is_archive x && bytes_eq x.uuid child) w.packages)
      (list_any (lent_to child) (receipts_of w)) fails.1.1.0 in
      record {
        new_request = new_identity w asked no_reply fails.0;
        live = and_true (is_live w p) (not_false (is_live w p && true) fails.1.0);
        no_archive = none_pass (λ x. is_archive x && bytes_eq x.uuid child) w.packages unused.0;
        never_lent = unused.1;
        untorn = fails.1.1.1.1.1.1.1.1.1.1.1.1.1.1.1.1.1.0;
        shallow = fails.1.1.1.1.1.1.1.1.1.1.1.1.1.1.1.0;
      }

  -- the receipt is that of a split
  pub says : entry_from receipt.line ≡ Some (entry_of asked.command)
  says = entry_from-line (entry_of asked.command) types

  splits : is_split receipt ≡ true
  splits = by_entry is_splitting receipt (entry_of asked.command) says

  no_merge : is_merge receipt ≡ false
  no_merge = by_entry is_merging receipt (entry_of asked.command) says

  module _ (k : Known) where
    never_lent_at : (q : List ℕ) → AllByRecursion (λ s. lent_to child s ≡ false) (holdings w q).receipts
    never_lent_at q = of_package (λ s. lent_to child s ≡ false) w q
        (none_pass (lent_to child) (receipts_of w) k.never_lent)

    none_made : (n : ℕ) (rs : List Receipt) → AllByRecursion (λ s. lent_to child s ≡ false) rs
        → list_any (λ s. is_split s && ends_at s.target child && (s.seq == n)) rs ≡ false
    none_made n rs h = none_any (λ s. is_split s && ends_at s.target child && (s.seq == n)) rs
        (All-weaker (λ s. lent_to child s ≡ false) (λ s. (is_split s && ends_at s.target child && (s.seq == n))
        ≡ false) (λ s e. ap (λ b. b && (s.seq == n)) e) rs h)

    -- a package that no split made and that is no archive is not live
    pub child_dead : is_live w child ≡ false
    child_dead = false_from_ne_true (is_live w child) (λ live.
        let f : (x : Package) × (find (at_uuid child) w.packages ≡ Some x) = found (at_uuid child) w.packages live in
        let a : ((is_archive f.0 && bytes_eq f.0.uuid child) ≡ false) × (at_uuid child f.0 ≡ true) =
        All-found (λ x. (is_archive x && bytes_eq x.uuid child) ≡ false) (at_uuid child) f.0 w.packages f.1
        k.no_archive in
        let l : IsLoan w f.0 × (at_uuid child f.0 ≡ true) = All-found (IsLoan w) (at_uuid child) f.0 w.packages f.1
        register.balanced.loans in
        let u : f.0.uuid ≡ child = (bytes_eq-Decides f.0.uuid child).0 a.1 in
        elim f.0.parent as (λ o. f.0.parent ≡ o → MatchOption o ⊤
        (λ parent. (list_any (λ r. is_split r && ends_at r.target f.0.uuid && (r.seq == f.0.loan))
        (holdings w parent).receipts ≡ true)
        × (list_any (λ m. is_merge m && ends_at m.source f.0.uuid) (after f.0.loan (receipts_of w)) ≡ false))
        → ⊥) [
          | None ↦ λ e _. true≢false (sym (and_from (is_archive f.0) (bytes_eq f.0.uuid child) (ap is_none e)
              a.1) ∙ a.0)
          | Some parent ↦ λ _ h. true≢false (sym (subst (λ z. list_any
              (λ r. is_split r && ends_at r.target z && (r.seq == f.0.loan)) (holdings w parent).receipts ≡ true) u
              h.0) ∙ none_made f.0.loan (holdings w parent).receipts (never_lent_at parent))
        ] refl l.0)

    pub none_child : AllByRecursion (λ x. bytes_eq x.uuid child ≡ false) w.packages
    none_child = none_pass (at_uuid child) w.packages child_dead

    pub apart : bytes_eq p child ≡ false
    apart = false_from_ne_true (bytes_eq p child) (λ same. true≢false
        (sym k.live ∙ ap (is_live w) ((bytes_eq-Decides p child).0 same) ∙ child_dead))

    pub uuid_p : (holdings w p).uuid ≡ p
    uuid_p = (at_all w (IsLoan w) p register.balanced.loans k.live).1

    pub kept : IsKeptPackage w (holdings w p)
    kept = kept_at w p register k.live

    at_next : (q : List ℕ) → holdings next q ≡ cond (bytes_eq child q) loan
        (cond (bytes_eq q p) (give (holdings w p)) (holdings w q))
    at_next q = holdings_enlarged loan (changed give p w) q ∙ ap (λ x. cond (bytes_eq child q) loan x)
        (holdings_changed give w p q (λ x. refl) k.live)

    pub at_child : holdings next child ≡ loan
    at_child = at_next child ∙ ap (λ b. cond b loan (cond (bytes_eq child p) (give (holdings w p))
        (holdings w child))) (bytes_eq_itself child)

    pub at_p : holdings next p ≡ give (holdings w p)
    at_p = at_next p ∙ ap (λ b. cond b loan (cond (bytes_eq p p) (give (holdings w p)) (holdings w p)))
        (bytes_eq_swap child p ∙ apart) ∙ ap (λ b. cond b (give (holdings w p)) (holdings w p))
        (bytes_eq_itself p)

    pub at_other : (q : List ℕ) → bytes_eq q child ≡ false → bytes_eq q p ≡ false
        → holdings next q ≡ holdings w q
    at_other q a b = at_next q ∙ ap (λ v. cond v loan (cond (bytes_eq q p) (give (holdings w p)) (holdings w q)))
        (bytes_eq_swap child q ∙ a) ∙ ap (λ v. cond v (give (holdings w p)) (holdings w q)) b

    pub distinct_next : IsArranged package_key next.packages
    distinct_next = put_arranged package_key loan (map (λ x. cond (bytes_eq x.uuid p) (give x) x) w.packages)
        (changed_arranged give p w.packages (λ x. refl) register.arranged)
        (All-changed give p (λ x. bytes_eq x.uuid child ≡ false) (λ x. bytes_eq x.uuid child ≡ false)
        (λ x _ h. h) (λ x h. h) w.packages none_child)

    pub shifts : (c : Moved → ℕ) (q : List ℕ) → weighed c (holdings next q) + cond (bytes_eq p q)
        (sum_by c receipt.items) 0 ≡ weighed c (holdings w q) + cond (bytes_eq child q) (sum_by c receipt.items) 0
    shifts c =
        let n : ℕ = sum_by c receipt.items in
        let all : n ≡ sum_by (λ i. c (item_moved i)) taken.items + sum_by (λ l. c (link_moved l)) taken.links =
        weigh_moved c taken.items taken.links in
        by_two_places child p (λ q. weighed c (holdings next q) + cond (bytes_eq p q) n 0
        ≡ weighed c (holdings w q) + cond (bytes_eq child q) n 0)
        (rw (at_child, holdings_none w child child_dead, bytes_eq_itself child, apart) (omega (arith, all)))
        (rw (at_p, bytes_eq_itself p, bytes_eq_swap child p ∙ apart) (omega (
          arith,
          all,
          taken_sum item_key (λ i. c (item_moved i)) (holdings w p).items taken.items tests.items.0 tests.items.1
              kept.items,
          taken_sum link_key (λ l. c (link_moved l)) (holdings w p).links taken.links tests.links.0 tests.links.1
              kept.links,
        )))
        (λ q a b. rw (at_other q a b, bytes_eq_swap child q ∙ a, bytes_eq_swap p q ∙ b) refl)

    carry : (Q : List ℕ → Receipt → Type 0) → AllStand (λ u s. Q (goes receipt u) s) w → Q p receipt
        → AllStand Q next
    carry Q moved g =
        let h : AllStand Q w = All-weaker (λ x. AllByRecursion (Q (goes receipt x.uuid)) x.receipts)
        (λ x. AllByRecursion (Q x.uuid) x.receipts) (λ x. subst (λ u. AllByRecursion (Q u) x.receipts)
        (goes_same receipt no_merge x.uuid)) w.packages moved in
        stand_all Q next distinct_next (by_two_places child p (λ q. AllByRecursion (Q q) (holdings next q).receipts)
        (subst (λ x. AllByRecursion (Q child) x.receipts) (sym at_child) tt)
        (subst (λ x. AllByRecursion (Q p) x.receipts) (sym at_p)
        (All-put receipt_key (Q p) receipt (holdings w p).receipts g (stand_at Q w p h)))
        (λ q a b. subst (λ x. AllByRecursion (Q q) x.receipts) (sym (at_other q a b)) (stand_at Q w q h)))

    pub below : AllByRecursion (λ s. s.seq < receipt.seq) (receipts_of w)
    below = numbers_below w receipt.seq register.balanced.ledger refl

    pub receipts : receipts_of next ≡ receipts_of w ++ receipt ∷ []
    receipts = ap (arranged receipt_key) (flat_put loan (map (λ x. cond (bytes_eq x.uuid p) (give x) x) w.packages)
        refl)
        ∙ receipts_gained give w p receipt (λ x. with_receipt_gains receipt x) below register.arranged k.live

    archive : archive_of next ≡ archive_of w
    archive = ap (λ o. option_map_or (λ x. x.uuid) o []) (find_put_other package_key is_archive loan
        (map (λ x. cond (bytes_eq x.uuid p) (give x) x) w.packages) refl)
        ∙ archive_stays give p w (λ x. refl) (λ x. refl)

    -- the child is not the archive
    not_archive : bytes_eq child (archive_of w) ≡ false
    not_archive =
        elim (list_any is_archive w.packages) as (λ v. list_any is_archive w.packages ≡ v
        → bytes_eq child (archive_of w) ≡ false) [
          | true ↦ λ some.
              let f : (x : Package) × (find is_archive w.packages ≡ Some x) = found is_archive w.packages some in
              let a : (bytes_eq f.0.uuid child ≡ false) × (is_archive f.0 ≡ true) =
              All-found (λ x. bytes_eq x.uuid child ≡ false) is_archive f.0 w.packages f.1 none_child in
              ap (λ o. bytes_eq child (option_map_or (λ x. x.uuid) o [])) f.1 ∙ bytes_eq_swap child f.0.uuid ∙ a.0
          | false ↦ λ none. absurd (omega (
            arith,
            register.archive,
            count_none is_archive w.packages
                (none_pass is_archive w.packages none),
          ))
        ] refl

    pub may : MayFollow (archive_of w) (receipts_of w) receipt
    may =
        let unaltered : AllByRecursion (IsUnaltered w) (holdings w p).items =
        (at_all w (λ x. AllByRecursion (IsUnaltered w) x.items) p (each_unaltered w register.unaltered)
        k.live).0 in
        let Held : Item → Type 0 = λ i. holds (holdings w p) (item_thing i) ≡ true in
        let Tied : Relation → Type 0 = λ l. holds (holdings w p) (link_key l) ≡ true in
        may_move w asked taken.items taken.links register.balanced.ledger (record {
          says = says;
          new_request = k.new_request;
          things = refl;
          entered = tt;
          in_order = (
            subst (IsArranged item_key) (sym tests.items.1)
                (filter_arranged item_key tests.items.0 (holdings w p).items kept.items),
            subst (IsArranged link_key)
                (sym tests.links.1) (filter_arranged link_key tests.links.0 (holdings w p).links kept.links),
          );
          unaltered = subst (AllByRecursion (IsUnaltered w)) (sym tests.items.1)
              (All-filter (IsUnaltered w) tests.items.0 (holdings w p).items unaltered);
          from_source = custody_moved w p taken.items taken.links register.balanced
              (subst (AllByRecursion Held) (sym tests.items.1)
              (All-filter Held tests.items.0 (holdings w p).items (items_held (holdings w p))))
              (subst (AllByRecursion Tied) (sym tests.links.1)
              (All-filter Tied tests.links.0 (holdings w p).links (links_held (holdings w p))));
          no_add = refl;
          new_loan = λ _. (k.never_lent, not_archive);
        })

    pub shift : Shift w next receipt
    shift = record { receipts = receipts; archive = archive; may = may; shifts = λ c _. shifts c }

    -- ---- loans

    loan_kept : (x : Package) → IsLoan w x → IsLoan next x
    loan_kept = loan_stays_with w next p receipt receipts no_merge (ap (λ y. y.receipts) at_p)
        (by_place child (λ q. bytes_eq q p ≡ false → (holdings next q).receipts ≡ (holdings w q).receipts)
        (λ _. ap (λ y. y.receipts) at_child ∙ sym (ap (λ y. y.receipts) (holdings_none w child child_dead)))
        (λ q a b. ap (λ y. y.receipts) (at_other q a b)))

    new_loan : IsLoan next loan
    new_loan = (
      ap (λ u. list_any made (holdings next u).receipts) uuid_p ∙ ap (λ y. list_any made y.receipts) at_p
          ∙ list_any-put receipt_key made receipt (holdings w p).receipts
          ∙ ap (λ b. b || list_any made (holdings w p).receipts)
          (and_from (is_split receipt && bytes_eq child child) (receipt.seq == receipt.seq)
          (and_from (is_split receipt) (bytes_eq child child) splits (bytes_eq_itself child))
          (eq_itself receipt.seq)),
      ap (λ rs. list_any (λ m. is_merge m && ends_at m.source child) (after receipt.seq rs)) receipts
          ∙ ap (list_any (λ m. is_merge m && ends_at m.source child)) (none_later receipt (receipts_of w) below),
    )
      where
        made : Receipt → Bool
        made r = is_split r && ends_at r.target child && (r.seq == receipt.seq)

        eq_itself : (n : ℕ) → (n == n) ≡ true
        eq_itself n = grind (arith)

    loans_kept : AllByRecursion (IsLoan next) next.packages
    loans_kept = All-put package_key (IsLoan next) loan (map (λ x. cond (bytes_eq x.uuid p) (give x) x) w.packages)
        new_loan
        (All-changed give p (IsLoan w) (IsLoan next) (λ x _ h. loan_kept x h) loan_kept w.packages
        register.balanced.loans)

    pub balance_after : Balanced next
    balance_after = balance_kept w next receipt (entry_of asked.command) says shift register.balanced
        (holds_once w register) carry (λ e. absurd (false≢true (sym no_merge ∙ e))) loans_kept

    -- ---- contents

    pub contents_after : NoneAltered next
    contents_after =
        let Sound : Package → Type 0 = λ x. AllByRecursion (IsUnaltered next) x.items in
        let old : AllByRecursion Sound w.packages = still_unaltered w next receipt receipts register.unaltered in
        All-put package_key Sound loan (map (λ x. cond (bytes_eq x.uuid p) (give x) x) w.packages)
        (subst (AllByRecursion (IsUnaltered next)) (sym tests.items.1)
        (All-filter (IsUnaltered next) tests.items.0 (holdings w p).items (at_all w Sound p old k.live).0))
        (All-changed give p Sound Sound (λ x _ h. All-filter (IsUnaltered next) _ x.items h) (λ x h. h) w.packages
        old)

    -- ---- the rules of a register

    pub c : WholeCut (holdings w p) taken
    c = whole_cut w p child mode rect kept.ends k.untorn

    rest_items : (less taken (holdings w p)).items ≡ filter (λ i. not (c.s i.identity)) (holdings w p).items
    rest_items = ap (λ zs. without item_key (map item_key zs) (holdings w p).items) c.items
        ∙ rest_of item_key (λ i. c.s i.identity) (holdings w p).items kept.items

    rest_links : (less taken (holdings w p)).links ≡ filter (λ l. not (c.u l)) (holdings w p).links
    rest_links = ap (λ zs. without link_key (map link_key zs) (holdings w p).links) c.links
        ∙ rest_of link_key c.u (holdings w p).links kept.links

    pub live_stays : (q : List ℕ) → bytes_eq child q ≡ false → is_live next q ≡ is_live w q
    live_stays q other = list_any-put package_key (at_uuid q) loan
        (map (λ x. cond (bytes_eq x.uuid p) (give x) x) w.packages)
        ∙ ap (λ b. b || list_any (at_uuid q) (map (λ x. cond (bytes_eq x.uuid p) (give x) x) w.packages)) other
        ∙ live_changed give p q w.packages (λ x. refl)

    live_then : (q : List ℕ) → is_live w q ≡ true → is_live next q ≡ true
    live_then q live = live_stays q (bytes_eq_swap child q ∙ not_child q live) ∙ live
      where
        not_child : (z : List ℕ) → is_live w z ≡ true → bytes_eq z child ≡ false
        not_child z h = false_from_ne_true (bytes_eq z child)
            (λ same. true≢false (sym h ∙ ap (is_live w) ((bytes_eq-Decides z child).0 same) ∙ child_dead))

    depth_stays : (q : List ℕ) → is_live w q ≡ true → (holdings next q).depth ≡ (holdings w q).depth
    depth_stays = by_two_places child p (λ q. is_live w q ≡ true
        → (holdings next q).depth ≡ (holdings w q).depth) (λ live. absurd
        (true≢false (sym live ∙ child_dead))) (λ _. ap (λ x. x.depth) at_p)
        (λ q a b _. ap (λ x. x.depth) (at_other q a b))

    parent_stays : (x : Package) → HasParent w x → HasParent next x
    parent_stays x h = parent_moves w next x.parent x.depth x.loan
        (λ q _ live. (live_then q live, depth_stays q live)) h

    pub kept_rest : IsKeptPackage next (give (holdings w p))
    kept_rest = filtered_kept w next (holdings w p) (give (holdings w p)) (λ id. not (c.s id)) (λ l. not (c.u l))
        refl rest_items rest_links kept.uuid
        (receipts_kept receipt (holdings w p).receipts kept.receipts (of_package (λ s. s.seq < receipt.seq) w p below))
        (parent_stays (holdings w p) kept.parent)
        (All-weaker (GoesWhole c.s c.u) (λ l. not (c.u l) ≡ true → (not (c.s l.base) ≡ true)
        × (not (c.s l.other) ≡ true))
        (λ l h left. let both : (c.s l.base ≡ false) × (c.s l.other ≡ false) =
        h.1 (not_true (c.u l) left) in (ap not both.0, ap not both.1)) (holdings w p).links c.whole)
        kept

    pub kept_loan : IsKeptPackage next loan
    kept_loan = filtered_kept w next (holdings w p) loan c.s c.u refl c.items c.links
        (and_parts (is_uuid p) (is_uuid child) (and_parts (is_uuid p && is_uuid child) (is_rect rect) types).0).1 tt (
          live_then (holdings w p).uuid (ap (is_live w) uuid_p ∙ k.live),
          ap (λ n. n + 1)
              (sym (ap (λ u. (holdings next u).depth) uuid_p ∙ depth_stays p k.live)),
          shallow_loan,
        )
        (All-weaker (GoesWhole c.s c.u) (λ l. c.u l ≡ true → (c.s l.base ≡ true) × (c.s l.other ≡ true))
        (λ l h. h.0) (holdings w p).links c.whole) kept
      where
        shallow_loan : (holdings w p).depth + 1 ≤ greatest_depth
        shallow_loan = grind (arith, nat_tests, k.shallow)

    pub register_after : IsRegister next
    register_after = record {
      frame = register.frame;
      arranged = distinct_next;
      archive = omega (
        arith,
        sum_by-put package_key (λ x. cond (is_archive x) 1 0) loan
            (map (λ x. cond (bytes_eq x.uuid p) (give x) x) w.packages),
        sum_by-changed give
            (λ x. cond (is_archive x) 1 0) p w.packages (λ x. refl),
        register.archive,
      );
      packages = all_live_at next (IsKeptPackage next) distinct_next
          (by_two_places child p (λ q. is_live next q ≡ true → IsKeptPackage next (holdings next q))
          (λ _. subst (IsKeptPackage next) (sym at_child) kept_loan)
          (λ _. subst (IsKeptPackage next) (sym at_p) kept_rest)
          (λ q a b live.
          let old : IsKeptPackage w (holdings w q) = kept_at w q register
          (sym (live_stays q (bytes_eq_swap child q ∙ a)) ∙ live) in
          subst (IsKeptPackage next) (sym (at_other q a b)) (package_moves w next (holdings w q) refl
          (parent_stays (holdings w q) old.parent) old)));
      open_loans = open_kept w next receipt receipts below register.open_loans (λ t _ live. live_then t live)
          (λ _. loan_live);
      balanced = balance_after;
      unaltered = none_altered next contents_after;
    }
      where
        loan_live : is_live next child ≡ true
        loan_live = list_any-put package_key (at_uuid child) loan
            (map (λ x. cond (bytes_eq x.uuid p) (give x) x) w.packages)
            ∙ ap (λ b. b || list_any (at_uuid child) (map (λ x. cond (bytes_eq x.uuid p) (give x) x) w.packages))
            (bytes_eq_itself child)

-- the law of a split
pub split_keeps_register : SplitKeepsRegister
split_keeps_register w id moment p child mode rect types register =
    keeps IsRegister w (split_request id moment p child mode rect) register
    (λ no_reply no_refusal. register_after w id moment p child mode rect types register
    (known w id moment p child mode rect types register no_reply no_refusal))
