-- A receipt that is given is in the ledger then, and is the only one of its request, whatever the world is.
use Rattle.std.specs.Prelude.{◌≡◌, ℕ, ℤ, Bool, true, false, cond, not, ◌&&◌, ◌||◌, List, []}
use Rattle.std.specs.Prelude.{◌∷◌, ◌++◌, map, filter}
use Rattle.std.specs.Prelude.{find, flat_map, refl, Some, None, is_some, bytes_eq}
use Rattle.std.proofs.Common.{sym, ap, subst, ◌∙◌}
use Rattle.std.proofs.lemmas.Bool.{true≢false, false_from_ne_true, and_parts}
use Rattle.std.proofs.lemmas.Slice.Eq.{bytes_eq-Decides}
use Rattle.std.specs.List.{list_all, AllByRecursion}
use Rattle.sheet_types.specs.Custody.{kept, ends_at}
use Rattle.sheet_types.specs.Ordered.{put, arranged, is_among, without}
use Rattle.sheet_types.specs.Refuse.{reasons, packages_named, foreign, loan_open}
use Rattle.sheet_types.specs.Step.{accepted, receipt_of, kept_reply, refuses, carried_out, joined, loan_of, cut_of}
use Rattle.sheet_types.specs.Step.{less, added_item, relation}
use Rattle.sheet_types.specs.World.{World, Package, receipts_of, receipt_key, package_key, item_key, link_key}
use Rattle.sheet_types.specs.World.{holdings, is_live, with_receipt}
use Rattle.sheet_types.specs.declared.command.Command.{Command}
use Rattle.sheet_types.specs.declared.command.Command.TheVariants.{Add, Delete, Link, Unlink, Split, Merge}
use Rattle.sheet_types.specs.declared.command.Request.{Request}
use Rattle.sheet_types.specs.declared.receipt.Receipt.{Receipt}
use Rattle.sheet_types.proofs.Basics.{not_false, bytes_eq_itself}
use Rattle.sheet_types.proofs.Every.{All-weaker, All-append, All-filter, none_pass}
use Rattle.sheet_types.proofs.Found.{found, All-found}
use Rattle.sheet_types.proofs.Order.{All-put, All-arranged, All-of_put, All-of_arranged}
use Rattle.sheet_types.proofs.Same.{In, In-all, All-In, In-map, In-filter, In-flat_map, any_in}
use Rattle.sheet_laws.proofs.Accepting.{rows_fail, new_identity}
use Rattle.sheet_laws.proofs.CutEnds.{least_none, none_taken}
use Rattle.sheet_laws.proofs.Packages.{at_all, All-changed, stand_flat}
use Rattle.sheet_laws.proofs.Shifting.{each_stands, of_package}

-- ---- a fact of each receipt, and of the new one

module _ (P : Receipt → Type 0) (r : Receipt) (new : P r) where
  abbrev AllOf : Package → Type 0
  AllOf x = AllByRecursion P x.receipts

  -- a package that gets the receipt
  gains : (rs : List Receipt) → AllByRecursion P rs → AllByRecursion P (put receipt_key r rs)
  gains rs h = All-put receipt_key P r rs new h

  -- in all packages after the command is carried out
  carried : (w : World) (command : Command) → AllByRecursion P (receipts_of w)
      → AllByRecursion AllOf (carried_out w r command).packages
  carried w (Add p identity content) h = All-changed _ p AllOf AllOf (λ x _ g. gains x.receipts g) (λ x g. g)
      w.packages (each_stands P w h)
  carried w (Delete p identity) h = All-changed _ p AllOf AllOf (λ x _ g. gains x.receipts g) (λ x g. g) w.packages
      (each_stands P w h)
  carried w (Link p mapping base other) h = All-changed _ p AllOf AllOf (λ x _ g. gains x.receipts g) (λ x g. g)
      w.packages (each_stands P w h)
  carried w (Unlink p mapping base other) h = All-changed _ p AllOf AllOf (λ x _ g. gains x.receipts g) (λ x g. g)
      w.packages (each_stands P w h)
  carried w (Split p child mode rect) h =
      All-put package_key AllOf (loan_of child (holdings w p) r.seq (cut_of w p mode rect)) _ tt
      (All-changed _ p AllOf AllOf (λ x _ g. gains x.receipts g) (λ x g. g) w.packages (each_stands P w h))
  carried w (Merge child into ticket) h =
      let brought : AllOf (holdings w child) = of_package P w child h in
      All-filter AllOf _ _ (All-changed _ into AllOf AllOf
      (λ x _ g. gains (joined (holdings w child) x).receipts
      (All-arranged receipt_key P ((holdings w child).receipts ++ x.receipts)
      (All-append P (holdings w child).receipts x.receipts brought g)))
      (λ x g. g) w.packages (each_stands P w h))

-- ---- where the new one stands

module _ (w : World) (r : Receipt) where
  abbrev after : (Package → Package) → List ℕ → List Package
  after f p = map (λ y. cond (bytes_eq y.uuid p) (f y) y) w.packages

  -- some package has it
  abbrev IsEntered : List Package → Type 0
  IsEntered ps = (x : Package) × In x ps × In r x.receipts

  put_there : (rs : List Receipt) → In r (put receipt_key r rs)
  put_there rs = (All-of_put receipt_key (λ y. In y (put receipt_key r rs)) r rs (In-all (put receipt_key r rs))).0

  -- a live package stands where it stood when it is changed
  changed_at : (f : Package → Package) (p : List ℕ) → is_live w p ≡ true → In (f (holdings w p)) (after f p)
      × ((holdings w p).uuid ≡ p)
  changed_at f p live =
      let x : In (holdings w p) w.packages × ((holdings w p).uuid ≡ p) =
      at_all w (λ y. In y w.packages) p (In-all w.packages) live in
      let it : In (cond (bytes_eq (holdings w p).uuid p) (f (holdings w p)) (holdings w p)) (after f p) =
      In-map (λ y. cond (bytes_eq y.uuid p) (f y) y) (holdings w p) w.packages x.0 in (
        subst (λ b. In (cond b (f (holdings w p)) (holdings w p)) (after f p))
            ((bytes_eq-Decides (holdings w p).uuid p).1 x.1) it,
        x.1,
      )

  entered_in : (f : Package → Package) (p : List ℕ) → (is_live w p && true) ≡ true
      → In r (f (holdings w p)).receipts
      → IsEntered (after f p)
  entered_in f p live enters = (f (holdings w p), (changed_at f p (and_parts (is_live w p) true live).0).0, enters)

  -- a package from which no other was lent is not its own parent
  apart : (child into : List ℕ) (ticket : ℤ) → is_live w child ≡ true
      → ends_at (holdings w child).parent into ≡ true
      → is_some (loan_open w (Merge child into ticket)) ≡ false → bytes_eq child into ≡ false
  apart child into ticket live parent no_loans = false_from_ne_true (bytes_eq child into) (λ same.
      let none : AllByRecursion (λ x. ends_at x.parent child ≡ false) w.packages =
      none_taken (λ x. x.uuid) (λ x. ends_at x.parent child) w.packages
      (least_none (map (λ x. x.uuid) (filter (λ x. ends_at x.parent child) w.packages)) no_loans) in
      let here : ends_at (holdings w child).parent child ≡ false =
      (at_all w (λ x. ends_at x.parent child ≡ false) child none live).0 in
      true≢false (sym parent ∙ ap (ends_at (holdings w child).parent) (sym ((bytes_eq-Decides child into).0 same))
      ∙ here))

  -- after each command whose packages are live
  entered : (command : Command) → list_all (is_live w) (packages_named command) ≡ true
      → foreign w command ≡ false
      → is_some (loan_open w command) ≡ false → IsEntered (carried_out w r command).packages
  entered (Add p identity content) live home no_loans =
      entered_in (λ x. with_receipt r (record x { items = put item_key (added_item identity content) x.items })) p
      live (put_there (holdings w p).receipts)
  entered (Delete p identity) live home no_loans =
      entered_in (λ x. with_receipt r (record x { items = without (λ i. i.identity) (identity ∷ []) x.items })) p
      live
      (put_there (holdings w p).receipts)
  entered (Link p mapping base other) live home no_loans =
      entered_in (λ x. with_receipt r (record x { links = put link_key (relation mapping base other) x.links })) p
      live (put_there (holdings w p).receipts)
  entered (Unlink p mapping base other) live home no_loans =
      entered_in (λ x. with_receipt r (record x {
        links = without link_key
            (link_key (relation mapping base other) ∷ []) x.links;
      })) p live (put_there (holdings w p).receipts)
  entered (Split p child mode rect) live home no_loans =
      let loan : Package = loan_of child (holdings w p) r.seq (cut_of w p mode rect) in
      let f : Package → Package = λ x. with_receipt r (less (cut_of w p mode rect) x) in
      let e : IsEntered (after f p) = entered_in f p live (put_there (holdings w p).receipts) in (
        e.0,
        All-In (λ y. In y (put package_key loan (after f p))) e.0 (after f p)
            (All-of_put package_key (λ y. In y (put package_key loan (after f p))) loan (after f p)
            (In-all (put package_key loan (after f p)))).1 e.1,
        e.2,
      )
  entered (Merge child into ticket) live home no_loans =
      let both : (is_live w child ≡ true) × ((is_live w into && true) ≡ true) =
      and_parts (is_live w child) (is_live w into && true) live in
      let f : Package → Package = λ x. with_receipt r (joined (holdings w child) x) in
      let at : In (f (holdings w into)) (after f into) × ((holdings w into).uuid ≡ into) =
      changed_at f into (and_parts (is_live w into) true both.1).0 in
      let other : bytes_eq child into ≡ false = apart child into ticket both.0
      (not_false (ends_at (holdings w child).parent into) home) no_loans in
      let stays : not (is_among (child ∷ []) (holdings w into).uuid) ≡ true =
      ap (λ u. not (is_among (child ∷ []) u)) at.1 ∙ ap (λ b. not (b || false)) other in (
        f (holdings w into),
        In-filter (λ x. not (is_among (child ∷ []) x.uuid)) (f (holdings w into)) (after f into)
            at.0 stays,
        put_there (joined (holdings w child) (holdings w into)).receipts,
      )

-- ---- an accepted request is kept

module _ (w : World) (q : Request) (no_reply : kept_reply w q ≡ None) (no_refusal : refuses w q ≡ None) where
  abbrev receipt : Receipt
  receipt = receipt_of w q

  abbrev next : World
  next = accepted w q

  abbrev is_asked : Receipt → Bool
  is_asked x = bytes_eq x.request q.id

  fails : AllByRecursion (λ row. row.0 ≡ false) (reasons w next q)
  fails = rows_fail (reasons w next q) no_refusal

  there : In receipt (receipts_of next)
  there =
      let e : IsEntered w receipt next.packages = entered w receipt q.command
      (not_false (list_all (is_live w) (packages_named q.command)) fails.1.0)
      fails.1.1.1.1.1.1.1.1.1.1.1.1.1.1.1.1.1.1.0 fails.1.1.1.1.1.1.1.1.1.1.1.1.1.1.1.1.1.1.1.1.0 in
      let row : List Receipt = flat_map (λ x. x.receipts) next.packages in
      All-In (λ z. In z (arranged receipt_key row)) receipt row
      (All-of_arranged receipt_key (λ z. In z (arranged receipt_key row)) row (In-all (arranged receipt_key row)))
      (In-flat_map (λ (x : Package). x.receipts) e.0 receipt next.packages e.1 e.2)

  -- no other is of this request
  alone : AllByRecursion (λ x. is_asked x ≡ true → x ≡ receipt) (receipts_of next)
  alone =
      let P : Receipt → Type 0 = λ x. is_asked x ≡ true → x ≡ receipt in
      let before : AllByRecursion P (receipts_of w) = All-weaker (λ x. is_asked x ≡ false) P
      (λ x no yes. absurd (true≢false (sym yes ∙ no))) (receipts_of w)
      (none_pass is_asked (receipts_of w) (new_identity w q no_reply fails.0)) in
      All-arranged receipt_key P (flat_map (λ x. x.receipts) next.packages)
      (stand_flat P next.packages (carried P receipt (λ _. refl) w q.command before))

  pub given_is_kept : kept next q.id ≡ Some receipt
  given_is_kept =
      let f : (x : Receipt) × (find is_asked (receipts_of next) ≡ Some x) =
      found is_asked (receipts_of next) (any_in is_asked receipt (receipts_of next) there
      (bytes_eq_itself q.id)) in
      let it : (is_asked f.0 ≡ true → f.0 ≡ receipt) × (is_asked f.0 ≡ true) =
      All-found (λ x. is_asked x ≡ true → x ≡ receipt) is_asked f.0 (receipts_of next) f.1 alone in
      f.1 ∙ ap Some (it.0 it.1)
