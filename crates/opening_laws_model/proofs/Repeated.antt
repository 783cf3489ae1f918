-- A request that got a receipt gets the same one in the world that it made.
use Rattle.std.specs.Prelude.{◌≡◌, ◌⊎◌, ℕ, ◌+◌, ◌≤◌, Bool, true, false, cond, not, ◌&&◌}
use Rattle.std.specs.Prelude.{◌||◌, List, [], ◌∷◌, map}
use Rattle.std.specs.Prelude.{find, flat_map, refl, Option, Some, None, MatchOption, Ok, Err, bytes_eq}
use Rattle.std.proofs.Common.{sym, ap, subst, ◌∙◌, arith, inl, inr}
use Rattle.std.proofs.lemmas.Bool.{true≢false, false_from_ne_true, and_parts}
use Rattle.std.proofs.lemmas.Slice.Eq.{bytes_eq-Decides}
use Rattle.std.specs.List.{list_all, AllByRecursion}
use Rattle.sheet_types.specs.Custody.{kept, ends_at}
use Rattle.sheet_types.specs.Ordered.{arranged, put, without, is_among}
use Rattle.sheet_types.specs.Refuse.{refusal, reasons, greatest_depth, packages_named, foreign}
use Rattle.sheet_types.specs.Register.{IsRegister}
use Rattle.sheet_types.specs.Step.{outcome, outcome_by, accepted, receipt_of, kept_reply, refuses, carried_out}
use Rattle.sheet_types.specs.Step.{joined, loan_of, cut_of, less, added_item, relation}
use Rattle.sheet_types.specs.World.{World, Package, receipts_of, receipt_key, package_key, item_key, link_key}
use Rattle.sheet_types.specs.World.{holdings, is_live, with_receipt}
use Rattle.sheet_types.specs.declared.command.Command.{Command}
use Rattle.sheet_types.specs.declared.command.Command.TheVariants.{Add, Delete, Link, Unlink, Split, Merge}
use Rattle.sheet_types.specs.declared.command.Request.{Request}
use Rattle.sheet_types.specs.declared.receipt.Receipt.{Receipt}
use Rattle.sheet_types.specs.declared.refusal.Refusal.{Refusal}
use Rattle.sheet_types.proofs.Basics.{not_false, bytes_eq_itself}
use Rattle.sheet_types.proofs.Every.{All-weaker}
use Rattle.sheet_types.proofs.Found.{found, All-found}
use Rattle.sheet_types.proofs.Order.{All-of_put, All-arranged, All-of_arranged}
use Rattle.sheet_types.proofs.Same.{In, In-all, All-In, In-map, In-filter, In-flat_map, any_in}
use Rattle.sheet_laws.proofs.Accepting.{rows_fail, new_identity}
use Rattle.sheet_laws.proofs.Facts.{kept_at}
use Rattle.sheet_laws.proofs.Packages.{at_all, stand_flat}
use Rattle.sheet_laws.proofs.Running.{repeat_changes_nothing}
use Rattle.sheet_laws.proofs.Shifting.{ends_at_is}
use Rattle.opening_laws_model.specs.Laws.{RepeatGetsItsReceipt}
use Rattle.opening_laws_model.proofs.Timed.{carried}

-- what is put into a list is there, and what was there is
In-put : {X : Type 0} (key : X → List ℕ) (x : X) (xs : List X) → In x (put key x xs)
    × AllByRecursion (λ y. In y (put key x xs)) xs
In-put key x xs = All-of_put key (λ y. In y (put key x xs)) x xs (In-all (put key x xs))

In-to_arranged : {X : Type 0} (key : X → List ℕ) (x : X) (xs : List X) → In x xs → In x (arranged key xs)
In-to_arranged key x xs i = All-In (λ z. In z (arranged key xs)) x xs
    (All-of_arranged key (λ z. In z (arranged key xs)) xs (In-all (arranged key xs))) i

module _ (w : World) (r : Receipt) where
  -- some package has the receipt
  abbrev IsEntered : List Package → Type 0
  IsEntered ps = (x : Package) × In x ps × In r x.receipts

  -- after the change of a live package that enters it
  changed_has : (f : Package → Package) (p : List ℕ) → is_live w p ≡ true
      → ((x : Package) → In r (f x).receipts)
      → (x : Package) × In x w.packages × (x.uuid ≡ p) × In (f x)
      (map (λ y. cond (bytes_eq y.uuid p) (f y) y) w.packages)
  changed_has f p live enters =
      let x : In (holdings w p) w.packages × ((holdings w p).uuid ≡ p) =
      at_all w (λ y. In y w.packages) p (In-all w.packages) live in
      let it : In (cond (bytes_eq (holdings w p).uuid p) (f (holdings w p)) (holdings w p))
      (map (λ y. cond (bytes_eq y.uuid p) (f y) y) w.packages) =
      In-map (λ y. cond (bytes_eq y.uuid p) (f y) y) (holdings w p) w.packages x.0 in (
        holdings w p,
        x.0,
        x.1,
        subst (λ b. In (cond b (f (holdings w p)) (holdings w p))
            (map (λ y. cond (bytes_eq y.uuid p) (f y) y) w.packages)) ((bytes_eq-Decides (holdings w p).uuid p).1 x.1)
            it,
      )

  entered_in : (f : Package → Package) (p : List ℕ) → is_live w p ≡ true
      → ((x : Package) → In r (f x).receipts)
      → IsEntered (map (λ y. cond (bytes_eq y.uuid p) (f y) y) w.packages)
  entered_in f p live enters = let it = changed_has f p live enters in (f it.0, it.3, enters it.0)

  -- the child of a merge is not the package into which it goes
  apart : IsRegister w → (child into : List ℕ) → is_live w child ≡ true
      → ends_at (holdings w child).parent into ≡ true → bytes_eq child into ≡ false
  apart register child into live parent = false_from_ne_true (bytes_eq child into) (λ same.
      let below : (is_live w into ≡ true) × ((holdings w child).depth ≡ (holdings w into).depth + 1)
      × ((holdings w child).depth ≤ greatest_depth) =
      subst (λ o. MatchOption o (((holdings w child).depth ≡ 0) × ((holdings w child).loan ≡ 0))
      (λ x. (is_live w x ≡ true) × ((holdings w child).depth ≡ (holdings w x).depth + 1)
      × ((holdings w child).depth ≤ greatest_depth)))
      (ends_at_is (holdings w child).parent into parent) (kept_at w child register live).parent in
      let depths : (holdings w child).depth ≡ (holdings w into).depth =
      ap (λ u. (holdings w u).depth) ((bytes_eq-Decides child into).0 same) in
      omega (arith, below.1, depths))

  -- after each command whose packages are live
  entered : IsRegister w → (command : Command) → list_all (is_live w) (packages_named command) ≡ true
      → foreign w command ≡ false → IsEntered (carried_out w r command).packages
  entered register (Add p identity content) live home =
      entered_in (λ x. with_receipt r (record x { items = put item_key (added_item identity content) x.items })) p
      (and_parts (is_live w p) true live).0 (λ x. (In-put receipt_key r x.receipts).0)
  entered register (Delete p identity) live home =
      entered_in (λ x. with_receipt r (record x { items = without (λ i. i.identity) (identity ∷ []) x.items })) p
      (and_parts (is_live w p) true live).0 (λ x. (In-put receipt_key r x.receipts).0)
  entered register (Link p mapping base other) live home =
      entered_in (λ x. with_receipt r (record x { links = put link_key (relation mapping base other) x.links })) p
      (and_parts (is_live w p) true live).0 (λ x. (In-put receipt_key r x.receipts).0)
  entered register (Unlink p mapping base other) live home =
      entered_in (λ x. with_receipt r (record x {
        links = without link_key
            (link_key (relation mapping base other) ∷ []) x.links;
      })) p (and_parts (is_live w p) true live).0
      (λ x. (In-put receipt_key r x.receipts).0)
  entered register (Split p child mode rect) live home =
      let loan : Package = loan_of child (holdings w p) r.seq (cut_of w p mode rect) in
      let ps : List Package = map (λ y. cond (bytes_eq y.uuid p) (with_receipt r (less (cut_of w p mode rect) y)) y)
      w.packages in
      let e : IsEntered ps = entered_in (λ x. with_receipt r (less (cut_of w p mode rect) x)) p
      (and_parts (is_live w p) true live).0 (λ x. (In-put receipt_key r x.receipts).0) in
      (e.0, All-In (λ y. In y (put package_key loan ps)) e.0 ps (In-put package_key loan ps).1 e.1, e.2)
  entered register (Merge child into ticket) live home =
      let both : (is_live w child ≡ true) × ((is_live w into && true) ≡ true) =
      and_parts (is_live w child) (is_live w into && true) live in
      let f : Package → Package = λ x. with_receipt r (joined (holdings w child) x) in
      let it = changed_has f into (and_parts (is_live w into) true both.1).0
      (λ x. (In-put receipt_key r (joined (holdings w child) x).receipts).0) in
      let other : bytes_eq child it.0.uuid ≡ false = ap (bytes_eq child) it.2
      ∙ apart register child into both.0 (not_false (ends_at (holdings w child).parent into) home) in
      let stays : not (is_among (child ∷ []) it.0.uuid) ≡ true = ap (λ b. not (b || false)) other in (
        f it.0,
        In-filter (λ x. not (is_among (child ∷ []) x.uuid)) (f it.0)
            (map (λ y. cond (bytes_eq y.uuid into) (f y) y) w.packages) it.3 stays,
        (In-put receipt_key r (joined (holdings w child) it.0).receipts).0,
      )

-- ---- an accepted request is kept

module _ (w : World) (q : Request) (register : IsRegister w) (no_reply : kept_reply w q ≡ None)
    (no_refusal : refusal w (accepted w q) q ≡ None) where
  abbrev receipt : Receipt
  receipt = receipt_of w q

  abbrev next : World
  next = accepted w q

  fails : AllByRecursion (λ row. row.0 ≡ false) (reasons w next q)
  fails = rows_fail (reasons w next q) no_refusal

  there : In receipt (receipts_of next)
  there =
      let e : IsEntered w receipt next.packages = entered w receipt register q.command
      (not_false (list_all (is_live w) (packages_named q.command)) fails.1.0)
      fails.1.1.1.1.1.1.1.1.1.1.1.1.1.1.1.1.1.1.0 in
      In-to_arranged receipt_key receipt (flat_map (λ x. x.receipts) next.packages)
      (In-flat_map (λ (x : Package). x.receipts) e.0 receipt next.packages e.1 e.2)

  -- each receipt was there before, or is this one
  each : AllByRecursion (λ x. In x (receipts_of w) ⊎ (x ≡ receipt)) (receipts_of next)
  each =
      let P : Receipt → Type 0 = λ x. In x (receipts_of w) ⊎ (x ≡ receipt) in
      All-arranged receipt_key P (flat_map (λ x. x.receipts) next.packages) (stand_flat P next.packages
      (carried P receipt (inr refl) w q.command (All-weaker (λ x. In x (receipts_of w)) P (λ x i. inl i)
      (receipts_of w) (In-all (receipts_of w)))))

  kept_is : kept next q.id ≡ Some receipt
  kept_is =
      let asked : Receipt → Bool = λ x. bytes_eq x.request q.id in
      let f : (x : Receipt) × (find asked (receipts_of next) ≡ Some x) =
      found asked (receipts_of next) (any_in asked receipt (receipts_of next) there (bytes_eq_itself q.id)) in
      let it : (In f.0 (receipts_of w) ⊎ (f.0 ≡ receipt)) × (asked f.0 ≡ true) =
      All-found (λ x. In x (receipts_of w) ⊎ (x ≡ receipt)) asked f.0 (receipts_of next) f.1 each in
      elim it.0 [
        | inl before ↦ absurd (true≢false (sym (any_in asked f.0 (receipts_of w) before it.1)
            ∙ new_identity w q no_reply fails.0))
        | inr same ↦ f.1 ∙ ap Some same
      ]

  pub gets_it_again : outcome next q ≡ (Ok receipt, next)
  gets_it_again = repeat_changes_nothing next q receipt kept_is refl

-- ---- whatever the reply was

-- by what is kept, and by what refuses
again_by : (w : World) (q : Request) (r : Receipt) → IsRegister w → (k : Option Receipt) (why : Option Refusal)
    → kept_reply w q ≡ k → refuses w q ≡ why → (outcome_by w q k why).0 ≡ Ok r
    → outcome (outcome_by w q k why).1 q ≡ (Ok r, (outcome_by w q k why).1)
again_by w q r register (Some x) why is by ok = ap (λ k. outcome_by w q k (refuses w q)) is ∙ (λ n. (ok n, w))
again_by w q r register None (Some why) is by ok = absurd (error_not_ok why ok)
  where
    error_not_ok : (e : Refusal) → Err e ≡ Ok r → ⊥
    error_not_ok e same = cc
again_by w q r register None None is by ok = gets_it_again w q register is by ∙ (λ n. (ok n, accepted w q))

pub repeat_gets_its_receipt : RepeatGetsItsReceipt
repeat_gets_its_receipt w q r register ok = again_by w q r register (kept_reply w q) (refuses w q) refl refl ok
