-- A request that is carried out gets a receipt that is entered, and each package that it changed says its moment then.
use Rattle.std.specs.Prelude.{◌≡◌, ◌<◌, ◌≤◌, ℕ, ◌+◌, Bool, true, false, cond, ◌||◌, List}
use Rattle.std.specs.Prelude.{[], ◌∷◌, length}
use Rattle.std.specs.Prelude.{max, refl, bytes_eq, Option, Some, None, Result, Ok, Err, IsOk}
use Rattle.std.proofs.Common.{sym, ap, subst, ◌∙◌, arith}
use Rattle.std.proofs.lemmas.Slice.Eq.{bytes_eq-Decides}
use Rattle.std.proofs.lemmas.List.Elements.{All-from_recursion}
use Rattle.std.specs.List.{AllByRecursion}
use Rattle.sqlite.specs.Store.{Ghosts}
use Rattle.sqlite.specs.Held.{Held, state}
use Rattle.sqlite.specs.State.{HasCleanDisk}
use Rattle.sheet_types.specs.Custody.{ticket, names_package, ends_at}
use Rattle.sheet_types.specs.Refuse.{greatest_receipts}
use Rattle.sheet_types.specs.Register.{IsRegister}
use Rattle.sheet_types.specs.Step.{outcome, outcome_by, kept_reply, refuses, receipt_of, accepted, source_of, target_of}
use Rattle.sheet_types.specs.Texts.{entry_of}
use Rattle.sheet_types.specs.World.{World, Package, package_key, receipts_of}
use Rattle.sheet_types.specs.declared.command.Command.{Command}
use Rattle.sheet_types.specs.declared.command.Command.TheVariants.{Add, Delete, Link, Unlink, Split, Merge}
use Rattle.sheet_types.specs.declared.command.Request.{Request}
use Rattle.sheet_types.specs.declared.frame.Frame.{Frame}
use Rattle.sheet_types.specs.declared.receipt.Receipt.{Receipt}
use Rattle.sheet_types.specs.declared.refusal.Refusal.{Refusal}
use Rattle.sheet_types.proofs.Basics.{bytes_eq_swap}
use Rattle.sheet_types.proofs.Every.{All-weaker}
use Rattle.sheet_laws.proofs.Shifting.{numbers_below}
use Rattle.store_sql.proofs.Transactions.{Shuts, Settles}
use Rattle.package_tables.specs.declared.fault.Fault.{Fault}
use Rattle.register_lending.specs.declared.turn_fault.TurnFault.TheVariants.{Before, Committing}
use Rattle.world_queries.specs.Asking.{AsksAll}
use Rattle.world_known.specs.Known.{Grows}
use Rattle.world_known.proofs.Remembering.{all_after}
use Rattle.world_changes.specs.Carries.{OfEachSeen}
use Rattle.world_changes.specs.Dating.{AreDated, packages_changed}
use Rattle.world_changes.specs.Leaving.{AreClean}
use Rattle.world_changes.specs.Writing.{child_returned}
use Rattle.world_decisions.specs.Deciding.{IsOf, Decides, DecidesWhere, child_asked}
use Rattle.world_decisions.specs.declared.deciding.Change.{Change}
use Rattle.world_decisions.specs.declared.deciding.Decision.{Decision}
use Rattle.world_decisions.specs.declared.deciding.Decision.TheVariants.{ChangeDue, SplitDue, MergeDue}
use Rattle.world_loans.specs.Loans.{IsLent, IsReturned}
use Rattle.world_loans.specs.declared.loans.Lending.{Lending}
use Rattle.world_loans.specs.declared.loans.Returning.{Returning}
use Rattle.world_loans.specs.declared.loans.ServeFault.{ServeFault}
use Rattle.world_loans.specs.declared.loans.ServeFault.TheVariants.{Turn}
use Rattle.world_loans.proofs.Listing.{all_at, other_key}
use Rattle.world_members.specs.Carrying.{Meets}
use Rattle.world_members.specs.Laws.{package_of}
use Rattle.world_members.specs.Members.{AllRest, AllClean, AreMembers, IsMember}
use Rattle.world_members.specs.Turning.{IsDue, world_after}
use Rattle.world_members.specs.declared.members.Member.{Member}
use Rattle.world_members.proofs.Limits.{ticket_from}
use Rattle.world_members.proofs.Standing.{members_stay, zip_at}
use Rattle.world.specs.Asked.{HasUuidAt}
use Rattle.world.specs.Dates.{AddsReceipt, DatesChanged}
use Rattle.world.proofs.Noted.{same_receipt, no_receipt}
use Rattle.world.proofs.ServedAll.{decided}

-- ---- whether a commit was tried

-- what failed before a commit tried none
pub untried : {X : Type 0} (r : Result X ServeFault) (other why : Fault) → r ≡ Err (Turn (Before other))
    → ¬ (r ≡ Err (Turn (Committing why)))
untried {X} r other why told is =
    let both : ◌≡◌ {A = Result X ServeFault} (Err (Turn (Before other))) (Err (Turn (Committing why))) =
    sym told ∙ is in cc

-- a fault is no reply
pub unreceived : {X : Type 0} (r : Result X ServeFault) (why : ServeFault) (x : X) → r ≡ Err why → ¬ (r ≡ Ok x)
unreceived {X} r why x told is = let both : ◌≡◌ {A = Result X ServeFault} (Err why) (Ok x) = sym told ∙ is in cc

-- ---- the receipt is the request's own

-- a receipt that names the package has a number below this
abbrev IsBelow : List ℕ → ℕ → Receipt → Type 0
IsBelow p bound s = names_package p s ≡ true → s.seq < bound

-- so has its ticket
named_below : (n : ℕ) (p : List ℕ) (bound : ℕ) (rs : List Receipt) → n < bound
    → AllByRecursion (IsBelow p bound) rs → ticket_from n p rs < bound
named_below n p bound [] h below = h
named_below n p bound (r ∷ rs) h below =
    named_below (cond (names_package p r) (max n r.seq) n) p bound rs
    (elim (names_package p r) as (λ v. (v ≡ true → r.seq < bound) → cond v (max n r.seq) n < bound)
    [ true ↦ λ less. greater n r.seq bound h (less refl) | false ↦ λ less. h ] below.0) below.1
  where
    greater : (a b c : ℕ) → a < c → b < c → max a b < c
    greater a b c x y = omega arith

adds_one : (w next : World) (q : Request) (due : Receipt) → outcome w q ≡ (Ok due, next)
    → length (receipts_of next) ≡ length (receipts_of w) + 1 → AddsReceipt w q
adds_one w next q due is counted = (
  subst (λ o. IsOk o.0) (sym is) refl,
  subst (λ o. length (receipts_of o.1) ≡ length (receipts_of w) + 1) (sym is) counted,
)

module _ (w next : World) (q : Request) (due : Receipt) (is : outcome w q ≡ (Ok due, next))
    (counted : length (receipts_of next) ≡ length (receipts_of w) + 1) where
  -- with one receipt more it did not come before
  own : (due ≡ receipt_of w q) × (next ≡ accepted w q)
  own = by_case (kept_reply w q) (refuses w q) is
    where
      by_case : (k : Option Receipt) (refused : Option Refusal) → outcome_by w q k refused ≡ (Ok due, next)
          → (due ≡ receipt_of w q) × (next ≡ accepted w q)
      by_case (Some r) refused same = absurd (let stays : w ≡ next = ap (λ o. o.1) same in
          let long : length (receipts_of w) ≡ length (receipts_of next) = ap (λ v. length (receipts_of v)) stays in
          omega (arith, long, counted))
      by_case None (Some why) same = absurd (no_receipt why due w next same)
      by_case None None same =
          (sym (same_receipt (receipt_of w q) due (accepted w q) next same), sym (ap (λ o. o.1) same))

  -- a package whose ticket is its number is one that it names
  names_it : IsRegister w → (id : List ℕ) → ticket next id ≡ due.seq
      → names_package id (receipt_of w q) ≡ true
  names_it register id here =
      elim (names_package id (receipt_of w q)) as (λ b. names_package id (receipt_of w q) ≡ b → b ≡ true) [
        | true ↦ λ same. refl
        | false ↦ λ same. absurd (too_small same)
      ] refl
    where
      not_its_own : names_package id (receipt_of w q) ≡ false
          → IsBelow id (length (receipts_of w) + 1) (receipt_of w q)
      not_its_own none named = absurd (let both : false ≡ true = sym none ∙ named in cc)

      too_small : names_package id (receipt_of w q) ≡ false → ⊥
      too_small none =
          let before : AllByRecursion (IsBelow id (length (receipts_of w) + 1)) (receipts_of w) =
          All-weaker (λ s. s.seq < length (receipts_of w) + 1) (IsBelow id (length (receipts_of w) + 1))
          (λ s below named. below) (receipts_of w)
          (numbers_below w (length (receipts_of w) + 1) register.balanced.ledger refl) in
          let small : ticket (accepted w q) id < length (receipts_of w) + 1 =
          named_below 0 id (length (receipts_of w) + 1) (receipts_of (accepted w q)) (omega arith)
          (all_after (IsBelow id (length (receipts_of w) + 1)) w (receipt_of w q) q.command (not_its_own none)
          before) in
          let large : ticket (accepted w q) id ≡ length (receipts_of w) + 1 =
          ap (λ v. ticket v id) (sym own.1) ∙ here ∙ ap (λ (r : Receipt). r.seq) own.0 in
          omega (arith, small, large)

-- ---- the packages are those of the command

first_of : (a b : Bool) → b ≡ false → (a || b) ≡ true → a ≡ true
first_of true b none is = refl
first_of false b none is = absurd (let both : false ≡ true = sym none ∙ is in cc)

second_of : (a b : Bool) → a ≡ false → (a || b) ≡ true → b ≡ true
second_of true b none is = absurd (let e = none in cc)
second_of false b none is = is

-- a command that changes one package
one_changed : (command : Command) (p : Package) → Meets command p
    → packages_changed command ≡ package_of command ∷ []
one_changed (Add uuid identity content) p meets = refl
one_changed (Delete uuid identity) p meets = refl
one_changed (Link uuid mapping base other) p meets = refl
one_changed (Unlink uuid mapping base other) p meets = refl
one_changed (Split uuid child mode rect) p meets = absurd meets
one_changed (Merge child into ticket') p meets = absurd meets

-- an end of the receipt of a command is this package
abbrev IsEnd : Command → List ℕ → Type 0
IsEnd command id = (ends_at (source_of (entry_of command)) id || ends_at (target_of (entry_of command)) id) ≡ true

-- a split: an end that is not the child
split_changed : (command : Command) (child id : List ℕ) → child_asked command ≡ Some child → IsEnd command id
    → bytes_eq id child ≡ false → packages_changed command ≡ id ∷ child ∷ []
split_changed (Split p c mode rect) child id is end apart =
    let same : c ≡ child = cc in
    let other : bytes_eq c id ≡ false = bytes_eq_swap c id ∙ ap (bytes_eq id) same ∙ apart in
    let first : p ≡ id = (bytes_eq-Decides p id).0 (first_of (bytes_eq p id) (bytes_eq c id) other end) in
    ap (λ u. u ∷ c ∷ []) first ∙ ap (λ u. id ∷ u ∷ []) same
split_changed (Merge c into ticket') child id is end apart = absurd (let e = is in cc)
split_changed (Add p identity content) child id is end apart = absurd (let e = is in cc)
split_changed (Delete p identity) child id is end apart = absurd (let e = is in cc)
split_changed (Link p mapping base other) child id is end apart = absurd (let e = is in cc)
split_changed (Unlink p mapping base other) child id is end apart = absurd (let e = is in cc)

-- a merge: an end that is not the child
merge_changed : (command : Command) (child id : List ℕ) → child_returned command ≡ Some child → IsEnd command id
    → bytes_eq id child ≡ false → packages_changed command ≡ id ∷ []
merge_changed (Merge c into ticket') child id is end apart =
    let same : c ≡ child = cc in
    let other : bytes_eq c id ≡ false = bytes_eq_swap c id ∙ ap (bytes_eq id) same ∙ apart in
    ap (λ u. u ∷ []) ((bytes_eq-Decides into id).0 (second_of (bytes_eq c id) (bytes_eq into id) other end))
merge_changed (Split p c mode rect) child id is end apart = absurd (let e = is in cc)
merge_changed (Add p identity content) child id is end apart = absurd (let e = is in cc)
merge_changed (Delete p identity) child id is end apart = absurd (let e = is in cc)
merge_changed (Link p mapping base other) child id is end apart = absurd (let e = is in cc)
merge_changed (Unlink p mapping base other) child id is end apart = absurd (let e = is in cc)

lent_changed : (w next : World) (q : Request) (due : Lending) → outcome w q ≡ (Ok due.receipt, next)
    → IsRegister w → child_asked q.command ≡ Some due.child → IsLent w next due
    → packages_changed q.command ≡ due.parent ∷ due.child ∷ []
lent_changed w next q due is register asked lent = split_changed q.command due.child due.parent asked
    (names_it w next q due.receipt is lent.after.counted register due.parent
    (ap (ticket next) lent.above ∙ lent.parent_ticket))
    (ap (λ u. bytes_eq u due.child) lent.above
    ∙ all_at (λ (p : Package). bytes_eq p.uuid due.child ≡ false) w.packages due.at lent.parent lent.apart
    lent.place)

returned_changed : (w next : World) (q : Request) (due : Returning) → outcome w q ≡ (Ok due.receipt, next)
    → IsRegister w → ¬ (due.from ≡ due.into) → (home : IsReturned w next due)
    → child_returned q.command ≡ Some home.child.uuid → packages_changed q.command ≡ home.parent.uuid ∷ []
returned_changed w next q due is register two home asked =
    merge_changed q.command home.child.uuid home.parent.uuid asked
    (names_it w next q due.receipt is home.after.counted register home.parent.uuid home.parent_ticket)
    (other_key package_key w.packages due.into due.from home.parent home.child register.arranged home.into home.from
    two)

-- ---- each kind of what is due

module _ {S : Type 0} (g : Ghosts S) where
  -- with the request's own words
  in_its_words : (w : World) (q : Request) (due : Receipt) (uuids : List (List ℕ)) (new : List (Member S))
      → due ≡ receipt_of w q → packages_changed q.command ≡ uuids → AreDated g w.frame due.at uuids new
      → AreDated g w.frame q.at (packages_changed q.command) new
  in_its_words w q due uuids new mine names dated =
      subst (λ moment. AreDated g w.frame moment (packages_changed q.command) new)
      (ap (λ (r : Receipt). r.at) mine)
      (subst (λ us. AreDated g w.frame due.at us new) (sym names) dated)

  -- where no connection left
  pub none_left_clean : {Now Before : Type 0} (gone : List (Held S)) → (Now → AreClean g gone → Before)
      → gone ≡ [] → Now → Before
  none_left_clean gone was none now = was now
      (subst (AreClean g) (sym none) (All-from_recursion (λ h. HasCleanDisk (state g h)) [] tt))

  -- the package of the member at the child's place is the child
  pub home_of : (due : Returning) (old : List (Member S)) (count : ℕ) (uuid : List ℕ) (command : Command)
      → HasUuidAt old due.from uuid → child_returned command ≡ Some uuid → (w next : World)
      → AreMembers g old count w → (home : IsReturned w next due)
      → child_returned command ≡ Some home.child.uuid
  home_of due old count uuid command has asked w next are home =
      let here = zip_at (IsMember g w) old w.packages due.from has.0 are.each has.1 in
      let both : Some here.0 ≡ Some home.child = sym here.1 ∙ home.from in
      let same : here.0 ≡ home.child = cc in
      asked ∙ ap Some (has.2 ∙ here.2.uuid ∙ ap (λ (p : Package). p.uuid) same)

  module _ (shuts : Shuts g) (settles : Settles g) (f : Frame) (q : Request) (old mid : List (Member S))
      (known noted : List (List ℕ)) (grows : Grows known noted) (at_rest : AllRest g old) (before : ℕ)
      (low : before ≤ greatest_receipts) {E : Type 0} {r : Result Decision E}
      (it : AsksAll g {X = Decision} {E = E} (DecidesWhere known (IsOf f before) q) old mid r)
      (new : List (Member S)) where
    abbrev DecidedSo : Decision → Type 0
    DecidedSo decision = r ≡ Ok decision → AllClean g mid
        → OfEachSeen g f known old before (λ w. Decides w q decision)

    so : (decision : Decision) → DecidedSo decision
    so = decided g shuts settles f q old mid known noted grows at_rest before low it

    -- ---- the receipt is entered

    pub change_tried : (change : Change) → r ≡ Ok (ChangeDue change) → (AllClean g new → AllClean g mid)
        → AllClean g new → OfEachSeen g f known old before (λ w. AddsReceipt w q)
    change_tried change is was clean w same are =
        let d : Decides w q (ChangeDue change) = so (ChangeDue change) is (was clean) w same are in
        adds_one w (world_after change.receipt q.command w) q change.receipt d.1 d.2.counted

    pub split_tried : (due : Lending) → r ≡ Ok (SplitDue due) → (AllClean g new → AllClean g mid)
        → AllClean g new → OfEachSeen g f known old before (λ w. AddsReceipt w q)
    split_tried due is was clean w same are =
        let d : Decides w q (SplitDue due) = so (SplitDue due) is (was clean) w same are in
        adds_one w d.0 q due.receipt d.1 d.2.after.counted

    pub merge_tried : (due : Returning) → r ≡ Ok (MergeDue due) → (AllClean g new → AllClean g mid)
        → AllClean g new → OfEachSeen g f known old before (λ w. AddsReceipt w q)
    merge_tried due is was clean w same are =
        let d : Decides w q (MergeDue due) = so (MergeDue due) is (was clean) w same are in
        adds_one w d.0 q due.receipt d.1 d.2.after.counted

    -- ---- what was changed says the moment

    pub change_dated : (change : Change) → r ≡ Ok (ChangeDue change) → (AllClean g new → AllClean g mid)
        → (AllClean g new → (w : World) → AreMembers g mid before w
        → IsDue w change.at change.receipt q.command change.sums
        → AreDated g w.frame change.receipt.at (package_of q.command ∷ []) new)
        → AllClean g new → DatesChanged g f q old new known before
    change_dated change is was dated clean w same are =
        let d : Decides w q (ChangeDue change) = so (ChangeDue change) is (was clean) w same are in
        in_its_words w q change.receipt (package_of q.command ∷ []) new d.0
        (one_changed q.command d.2.holds d.2.fits.meets)
        (dated clean w (members_stay g old mid before w it.stay are) d.2)

    pub split_dated : (due : Lending) → r ≡ Ok (SplitDue due) → child_asked q.command ≡ Some due.child
        → (AllClean g new → AllClean g mid)
        → (AllClean g new → (w next : World) → f ≡ w.frame → AreMembers g mid before w → IsLent w next due
        → AreDated g w.frame due.receipt.at (due.parent ∷ due.child ∷ []) new)
        → AllClean g new → DatesChanged g f q old new known before
    split_dated due is asked was dated clean w same are =
        let d : Decides w q (SplitDue due) = so (SplitDue due) is (was clean) w same are in
        in_its_words w q due.receipt (due.parent ∷ due.child ∷ []) new
        (own w d.0 q due.receipt d.1 d.2.after.counted).0
        (lent_changed w d.0 q due d.1 are.register asked d.2)
        (dated clean w d.0 same.0 (members_stay g old mid before w it.stay are) d.2)

    pub merge_dated : (due : Returning) → r ≡ Ok (MergeDue due) → ¬ (due.from ≡ due.into)
        → (gone : List (Held S)) → (AllClean g new → AreClean g gone → AllClean g mid)
        → (AllClean g new → AreClean g gone → (w next : World) → AreMembers g mid before w
        → (home : IsReturned w next due) → (child_returned q.command ≡ Some home.child.uuid)
        × AreDated g w.frame due.receipt.at (home.parent.uuid ∷ []) new)
        → AllClean g new → AreClean g gone → DatesChanged g f q old new known before
    merge_dated due is two gone was dated clean left w same are =
        let d : Decides w q (MergeDue due) = so (MergeDue due) is (was clean left) w same are in
        let told = dated clean left w d.0 (members_stay g old mid before w it.stay are) d.2 in
        in_its_words w q due.receipt (d.2.parent.uuid ∷ []) new
        (own w d.0 q due.receipt d.1 d.2.after.counted).0
        (returned_changed w d.0 q due d.1 are.register two d.2 told.0) told.1
