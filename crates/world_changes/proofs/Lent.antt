-- A split among the members of a world.
use Rattle.std.specs.Prelude.{◌≡◌, ◌≢◌, ◌⊎◌, ◌≤◌, ℕ, true, zero, suc, ◌+◌, List, []}
use Rattle.std.specs.Prelude.{◌∷◌, ◌++◌, map, Some, slice_get}
use Rattle.std.specs.Prelude.{slice_set, refl, Result, Ok, Err, IsTrue}
use Rattle.std.proofs.Common.{IsErrAnd, sym, ap, subst, ◌∙◌, inl, inr, arith, length, length-append}
use Rattle.std.specs.List.{AllByRecursion, AllZip, insert}
use Rattle.std.specs.List.Sorted.{IsPermutation}
use Rattle.std.proofs.lemmas.List.{append-nil}
use Rattle.sqlite_trees.proofs.ListLemmas.{all-slice_get}
use Rattle.std.proofs.lemmas.List.Elements.{All-from_recursion, recursion_from_All}
use Rattle.std.proofs.lemmas.List.Sorted.{IsPermutation-to_front, IsPermutation-insert, IsPermutation-sym}
use Rattle.sqlite.specs.Effect.{Database}
use Rattle.sqlite.specs.Tree.{Trees}
use Rattle.sqlite.specs.Store.{Ghosts}
use Rattle.sqlite.specs.Held.{Held, state}
use Rattle.sqlite.specs.State.{State, HasCleanDisk}
use Rattle.sqlite.proofs.StateLemmas.{clean_if_open}
use Rattle.sheet_types.specs.Cut.{Cut}
use Rattle.sheet_types.specs.Texts.{is_moment}
use Rattle.sheet_types.specs.World.{World, Package}
use Rattle.sheet_types.specs.declared.frame.Frame.{Frame}
use Rattle.sheet_types.specs.declared.receipt.Receipt.{Receipt}
use Rattle.store_sql.specs.Transactions.{Rests, Turns}
use Rattle.store_sql.specs.Stores.{EachLeaves}
use Rattle.store_sql.proofs.Transactions.{Shuts, Settles}
use Rattle.identity_register.specs.Creation.{Keeps, new_package}
use Rattle.identity_register.specs.Reads.{Reads}
use Rattle.package_tables.specs.declared.fault.Fault.{Fault}
use Rattle.package_tables.specs.declared.fault.Fault.TheVariants as fault
use Rattle.package_creation.specs.Unmaking.{IsUnmade}
use Rattle.store_sql.specs.Blank.{IsBlank, no_schema}
use Rattle.world_changes.specs.Giving.{AsksChild, IsUnlent, IsUnshelved, LeavesBlankOr}
use Rattle.world_changes.specs.Leaving.{IsBeside, IsChildBeside, StandsAmong, AreClean, AreBeside, MayBeLeft}
use Rattle.custody.specs.Homing.{FromClean}
use Rattle.register_lending.specs.Lending.{Fills, Lends, lent}
use Rattle.world_loans.specs.Loans.{IsLent, loan}
use Rattle.world_members.specs.Members.{AllRest, AllClean, AllOpen, IsMember, AreMembers}
use Rattle.register_lending.specs.Selecting.{IsSelectionOf, IsPart, MayCome}
use Rattle.transfer.specs.Parcels.{with_cut}
use Rattle.world_changes.specs.Turns.{IsUncommitted}
use Rattle.world_changes.specs.Splits.{Splits, KeepsLoan, ReadsAsChild, member_of_child}
use Rattle.identity_register.specs.declared.selection.Selection.{Selection}
use Rattle.world_members.specs.Turning.{LeftAs, LeavesAsBefore}
use Rattle.world_changes.specs.Turns.{TakesTurn}
use Rattle.register_lending.specs.declared.turn_fault.TurnFault.{TurnFault}
use Rattle.register_lending.specs.declared.turn_fault.TurnFault.TheVariants.{Before, Committing}
use Rattle.world_loans.specs.declared.loans.Lending.{Lending}
use Rattle.world_loans.specs.declared.loans.ServeFault.{ServeFault}
use Rattle.world_loans.specs.declared.loans.ServeFault.TheVariants.{Unshelved, Turn}
use Rattle.world_members.specs.declared.members.Member.{Member}
use Rattle.world_members.proofs.Changing.{each_leaves}
use Rattle.world_changes.proofs.HeldStores.{held_clean, members_left}
use Rattle.world_changes.proofs.Placing.{zip_insert}
use Rattle.world_members.proofs.Standing.{all_still, zip_at}
use Rattle.world_changes.proofs.Surviving.{turn_survive}
use Rattle.world_changes.proofs.Writing.{turn_but}
use Rattle.world_changes.proofs.Turned.{turn_length, turn_was_clean, turn_at_rest, turn_leaves, turn_undone}
use Rattle.world_changes.proofs.Turned.{turn_open_after, turn_done}

-- ---- one more among others

pub all_insert : {A : Type 0} (P : A → Type 0) (xs : List A) (at : ℕ) (x : A) → P x → AllByRecursion P xs
    → AllByRecursion P (insert xs at x)
all_insert P [] zero x here all = (here, tt)
all_insert P [] (suc at) x here all = (here, tt)
all_insert P (y ∷ xs) zero x here all = (here, all)
all_insert P (y ∷ xs) (suc at) x here all = (all.0, all_insert P xs at x here all.1)

pub all_but_inserted : {A : Type 0} (P : A → Type 0) (xs : List A) (at : ℕ) (x : A)
    → AllByRecursion P (insert xs at x) → AllByRecursion P xs
all_but_inserted P [] at x all = tt
all_but_inserted P (y ∷ xs) zero x all = all.1
all_but_inserted P (y ∷ xs) (suc at) x all = (all.0, all_but_inserted P xs at x all.1)

pub inserted_has : {A : Type 0} (P : A → Type 0) (xs : List A) (at : ℕ) (x : A)
    → AllByRecursion P (insert xs at x)
    → P x
inserted_has P [] zero x all = all.0
inserted_has P [] (suc at) x all = all.0
inserted_has P (y ∷ xs) zero x all = all.0
inserted_has P (y ∷ xs) (suc at) x all = inserted_has P xs at x all.1

pub length_insert : {A : Type 0} (xs : List A) (at : ℕ) (x : A) → length (insert xs at x) ≡ length xs + 1
length_insert [] zero x = refl
length_insert [] (suc at) x = refl
length_insert (y ∷ xs) zero x = omega arith
length_insert (y ∷ xs) (suc at) x = omega (arith, length_insert xs at x)

-- ---- the store of the child

module _ {S : Type 0} (g : Ghosts S) where
  -- the store of the member at the place reads as the package there
  pub read_at : (w : World) (count : ℕ) (members : List (Member S)) (at : ℕ) (was : Member S) (p : Package)
      → slice_get members at ≡ Some was → slice_get w.packages at ≡ Some p → IsTrue (state g was.conn).is_open
      → AreMembers g members count w → Reads w.frame p (state g was.conn).now
  read_at w count members at was p place there opened are =
      let here = zip_at (IsMember g w) members w.packages at was are.each place in
      let both : Some here.0 ≡ Some p = sym here.1 ∙ there in
      let same : here.0 ≡ p = cc in
      subst (λ q. Reads w.frame q (state g was.conn).now) same (here.2.reads opened)

  -- what was made of the parent that the member reads as is the loan
  pub loan_kept : (f : Frame) (w next : World) (count : ℕ) (due : Lending) (old : List (Member S)) (was : Member S)
      (child : Held S) → slice_get old due.at ≡ Some was → IsTrue (state g was.conn).is_open → f ≡ w.frame
      → AreMembers g old count w → (lent : IsLent w next due)
      → (is_moment due.receipt.at ≡ true → (c : Cut) (from : Package) → IsSelectionOf c due.selection
      → Reads f from (state g was.conn).now → IsPart c from
      → MayCome c (new_package due.child (Some due.parent) due.depth due.receipt.seq)
      → Keeps f (with_cut c (new_package due.child (Some due.parent) due.depth due.receipt.seq)) (state g child))
      → Keeps w.frame (loan due lent.taken) (state g child)
  loan_kept f w next count due old was child place opened same are lent made =
      let reads : Reads f lent.parent (state g was.conn).now =
      subst (λ v. Reads v lent.parent (state g was.conn).now) (sym same)
      (read_at w count old due.at was lent.parent place lent.place opened are) in
      subst (λ v. Keeps v (loan due lent.taken) (state g child)) same
      (made lent.receipt.moment lent.taken lent.parent lent.selected reads lent.part lent.come)

  -- what reads as a child that is not of the world is beside it
  pub is_beside : (w next : World) (due : Lending) (is : IsLent w next due) (trees : Trees)
      → LeftAs w.frame trees (new_package due.child (Some due.parent) due.depth due.receipt.seq)
      ⊎ LeftAs w.frame trees (loan due is.taken) → IsChildBeside w.frame w.packages due.child trees
  is_beside w next due is trees (inl empty) = (
    record {
      other = new_package due.child (Some due.parent) due.depth due.receipt.seq;
      reads = empty;
      lent = refl;
      apart = is.apart;
    },
    refl,
  )
  is_beside w next due is trees (inr filled) = (
    record {
      other = loan due is.taken;
      reads = filled;
      lent = refl;
      apart = is.apart;
    },
    refl,
  )

  pub none_beside : (f : Frame) (packages : List Package) → AreBeside g f packages []
  none_beside f packages = All-from_recursion (λ h. HasCleanDisk (state g h) → (trees : Trees)
      → (state g h).may_leave trees → IsBeside f packages trees) [] tt

  -- of a store that the shelf gave it leaves what it left
  pub blank_left : (P : Trees → Type 0) (conn : Held S) → (HasCleanDisk (state g conn)
      → IsBlank no_schema (state g conn).now) → LeavesBlankOr g P conn
  blank_left P conn blank clean trees may = inl (conn, clean, blank clean, may)

  pub left_weaker : {P Q : Trees → Type 0} (conn : Held S) → ((trees : Trees) → P trees → Q trees)
      → LeavesBlankOr g P conn → LeavesBlankOr g Q conn
  left_weaker conn so it clean trees may = elim (it clean trees may)
      [ inl blank ↦ inl blank | inr other ↦ inr (so trees other) ]

  -- of one in which no package came to be made, that or the package
  pub unmade_leaves : (f : Frame) (empty : Package) (s : Selection) (at : List ℕ) (db : Database) (source : State)
      (blank conn : Held S) → (HasCleanDisk (state g blank) → IsBlank no_schema (state g blank).now)
      → IsUnmade f empty at (state g blank) (state g conn)
      → LeavesBlankOr g (ReadsAsChild f at empty s db source) conn
  unmade_leaves f empty s at db source blank conn is_blank it clean trees may =
      let was : HasCleanDisk (state g blank) = it.clean clean in
      elim (it.left clean (is_blank was) trees may) [
        | inl before ↦ inl (blank, was, is_blank was, before)
        | inr made ↦ inr (λ clean_source moment c from selected reads part come. inl (made moment))
      ]

  -- of a child that was made and not filled it leaves one of two
  pub unfilled_leaves : {E : Type 0} {r : Result (Unit {0}) E} (f : Frame) (empty : Package) (s : Selection)
      (at : List ℕ) (db : Database) (source made : State) (child : Held S)
      → (is_moment at ≡ true → HasCleanDisk made → Keeps f empty made)
      → Turns {X = Unit {0}} {E = E} (λ _. FromClean source (Fills s at db)) made (state g child) r
      → LeavesBlankOr g (ReadsAsChild f at empty s db source) child
  unfilled_leaves f empty s at db source made child keeps turns clean trees may =
      inr (λ clean_source moment c from selected reads part come.
      let it : Keeps f empty made = keeps moment (omega (arith, turns.survives.clean, clean)) in
      elim (turns.left clean it.holds.is_open trees may) [
        | inl before ↦ inl (made.now, before, it.reads)
        | inr after ↦ inr (
          after.1,
          after.3,
          (after.2 clean_source moment c f from empty selected reads part it.reads
              come).0,
        )
      ])

  -- so what the shelf gets back is beside the world
  pub unlent_left : (f : Frame) (due : Lending) (old new : List (Member S)) (was : Member S) (source : State)
      (conn : Held S) → slice_get old due.at ≡ Some was → (AllClean g new → HasCleanDisk source)
      → LeavesBlankOr g (ReadsAsChild f due.receipt.at (new_package due.child (Some due.parent) due.depth
      due.receipt.seq) due.selection (state g was.conn).now source) conn
      → LeavesBlankOr g (IsUnlent g f due old new) conn
  unlent_left f due old new was source conn place clean_source =
      left_weaker conn (λ trees child clean w next count same are is opened.
      let reads : Reads f is.parent (state g was.conn).now =
      subst (λ v. Reads v is.parent (state g was.conn).now) (sym same)
      (read_at w count old due.at was is.parent place is.place
      (all-slice_get (λ (m : Member S). IsTrue (state g m.conn).is_open) old due.at was place
      (recursion_from_All (λ (m : Member S). IsTrue (state g m.conn).is_open) old opened)) are) in
      is_beside w next due is trees (subst (λ v. LeftAs v trees
      (new_package due.child (Some due.parent) due.depth due.receipt.seq) ⊎ LeftAs v trees (loan due is.taken))
      same
      (child (clean_source clean) is.receipt.moment is.taken is.parent is.selected reads is.part is.come)))

  -- the shelf had none
  pub asked_alone : {H : Type 0} (Takes : List ℕ → S → H → H → Type 0)
      (Asks : List ℕ → H → H → Type 0) (f : Frame)
      (due : Lending) (old new : List (Member S)) (r : Result (Held S) ServeFault) (came : ServeFault) (s t : H)
      → IsErrAnd r (λ why. why ≡ came) → IsUnshelved came → Asks due.child s t
      → AsksChild g Takes Asks f due old new r s t
  asked_alone Takes Asks f due old new (Ok child) came s t is none asked = absurd is
  asked_alone Takes Asks f due old new (Err (Unshelved x)) came s t is none asked = asked
  asked_alone Takes Asks f due old new (Err (Turn x)) came s t is none asked = absurd (subst IsUnshelved (sym is) none)

-- ---- the members

module _ {S : Type 0} (g : Ghosts S) (shuts : Shuts g) (settles : Settles g) (due : Lending) (child : Held S)
    (old mid : List (Member S)) (strays : List (Held S)) (at_rest : AllRest g old)
    (child_rests : Rests (state g child)) where
  abbrev own : Member S
  own = member_of_child due child

  abbrev placed : List (Member S)
  placed = insert mid due.child_at own

  -- what a crash leaves of the child is the loan
  pub child_left : (w next : World) (is : IsLent w next due) → KeepsLoan g w next due is child
      → HasCleanDisk (state g child) → (trees : Trees) → (state g child).may_leave trees
      → LeftAs w.frame trees (loan due is.taken)
  child_left w next is keeps clean trees may = (
    record { schema = (state g child).now.schema; trees = trees },
    refl,
    (keeps clean).left trees may,
  )

  -- a change that reads of the parent what is left of it
  reads_left : (w next : World) (is : IsLent w next due) (db db' : Database) → Reads w.frame is.parent db
      → Lends due.receipt due.selection db db' → Reads w.frame (lent due.receipt is.taken is.parent) db'
  reads_left w next is db db' reads lends = (lends is.taken w.frame is.parent is.selected reads is.part is.receipt).0

  module _ {E : Type 0} (it : TakesTurn g {E = E} (Lends due.receipt due.selection) due.left due.receipt.seq old mid
      due.at (Ok tt)) where
    placed_clean : AllClean g placed → AllClean g mid
    placed_clean clean = All-from_recursion (λ (m : Member S). HasCleanDisk (state g m.conn)) mid
        (all_but_inserted (λ (m : Member S). HasCleanDisk (state g m.conn)) mid due.child_at own
        (recursion_from_All (λ (m : Member S). HasCleanDisk (state g m.conn)) placed clean))

    placed_are : (w next : World) (count : ℕ) → AreMembers g old count w → (is : IsLent w next due)
        → KeepsLoan g w next due is child → AreMembers g placed (count + 1) next
    placed_are w next count are is keeps = record {
      each = subst (λ ps. AllZip (IsMember g next) placed ps) (sym is.packages)
          (zip_insert (IsMember g next) mid (slice_set w.packages due.at (lent due.receipt is.taken is.parent))
          due.child_at own (loan due is.taken) child_is
          (turn_done g {E = E} shuts (Lends due.receipt due.selection) due.left due.receipt.seq old mid due.at it w
          next w.packages is.parent (lent due.receipt is.taken is.parent) is.after.frame is.place
          (record { uuid = refl; parent = refl; depth = refl; loan = refl }) is.left is.parent_ticket
          (reads_left w next is) is.tickets are.each));
      counted = ap (λ n. n + 1) are.counted ∙ sym is.after.counted;
      register = is.after.register;
    }
      where
        child_is : IsMember g next own (loan due is.taken)
        child_is = record {
          uuid = refl;
          parent = refl;
          depth = refl;
          loan = refl;
          sums = is.held;
          ticket = sym is.child_ticket;
          reads = λ is_open. subst (λ f. Reads f (loan due is.taken) (state g child).now) (sym is.after.frame)
              (keeps (clean_if_open (g.view child.store) (shuts child.store) is_open)).reads;
        }

    -- the parent lent, and the child stands at its place
    pub splits_done : Splits g due child old placed strays strays (Ok due.receipt)
    splits_done = record {
      rests = All-from_recursion (λ (m : Member S). Rests (state g m.conn)) placed
          (all_insert (λ (m : Member S). Rests (state g m.conn)) mid due.child_at own child_rests
          (recursion_from_All (λ (m : Member S). Rests (state g m.conn)) mid
          (turn_at_rest g {E = E} (Lends due.receipt due.selection) due.left due.receipt.seq old mid due.at (Ok tt) it
          at_rest)));
      clean = λ clean. turn_was_clean g {E = E} (Lends due.receipt due.selection) due.left due.receipt.seq old mid
          due.at (Ok tt) it (placed_clean clean);
      done = λ receipt is. (
        let same : receipt ≡ due.receipt =
            cc in same,
        refl,
        length_insert mid due.child_at own
            ∙ ap (λ n. n + 1) (turn_length g {E = E} (Lends due.receipt due.selection) due.left due.receipt.seq old
            mid
            due.at (Ok tt) it),
        λ w next count clean are lends keeps. placed_are w next count are lends keeps,
      );
      opens = λ clean was child_open. All-from_recursion (λ (m : Member S). IsTrue (state g m.conn).is_open) placed
          (all_insert (λ (m : Member S). IsTrue (state g m.conn).is_open) mid due.child_at own
          (child_open (inserted_has (λ (m : Member S). HasCleanDisk (state g m.conn)) mid due.child_at own
          (recursion_from_All (λ (m : Member S). HasCleanDisk (state g m.conn)) placed clean)))
          (recursion_from_All (λ (m : Member S). IsTrue (state g m.conn).is_open) mid
          (turn_open_after g {E = E} (Lends due.receipt due.selection) due.left due.receipt.seq old mid due.at it
          (placed_clean clean) was)));
      came = λ receipt is. (
        mid,
        (
          due.at,
          turn_but g {E = E} (Lends due.receipt due.selection) due.left
              due.receipt.seq old mid due.at (Ok tt) (all_still g shuts settles old at_rest) it,
        ),
        refl,
      );
      others = λ why is. absurd (let e = is in cc);
      failed = λ why is. absurd (let e = is in cc);
      kept = λ why is. absurd (let e = is in cc);
      dropped = λ is. absurd (let e = is in cc);
      few = omega arith;
      survive = λ why is. absurd (let e = is in cc);
      unharmed = λ none. absurd none;
      crash = λ why is. absurd (let e = is in cc);
    }

  module _ (why : TurnFault) (it : TakesTurn g {E = TurnFault} (Lends due.receipt due.selection) due.left
      due.receipt.seq old mid due.at (Err why)) where
    crashed : (w next : World) (count : ℕ) → AreMembers g old count w → (is : IsLent w next due)
        → KeepsLoan g w next due is child → AllOpen g old
        → AreClean g (child ∷ map (λ m. m.conn) mid) → (contents : List Trees)
        → MayBeLeft g (child ∷ map (λ m. m.conn) mid) contents → StandsAmong w.frame w.packages contents
        ⊎ StandsAmong w.frame next.packages contents
    crashed w next count are is keeps opened clean [] may = absurd may
    crashed w next count are is keeps opened clean (last ∷ dbs) may =
        let all = recursion_from_All (λ h. HasCleanDisk (state g h)) (child ∷ map (λ (m : Member S). m.conn) mid)
        clean in
        let each : EachLeaves g (λ m. m.conn) (LeftAs w.frame) old w.packages =
        each_leaves g shuts settles old count w at_rest opened are in
        let left : LeftAs w.frame last (loan due is.taken) = child_left w next is keeps all.0 last may.0 in
        elim (turn_leaves g {E = TurnFault} (Lends due.receipt due.selection) due.left due.receipt.seq old mid due.at
        (Err why) it w.frame w.packages is.parent (lent due.receipt is.taken is.parent) each
        (λ db lends. reads_left w next is (state g it.was.conn).now db (member_reads w count are is opened) lends)
        (held_clean g (child ∷ []) mid clean) dbs (members_left g mid dbs may.1)) [
          | inl before ↦ inl (record {
            read = dbs;
            rest = last ∷ [];
            all = IsPermutation-sym _ _ (IsPermutation-to_front dbs last);
            each = before;
            beside = (record { other = loan due is.taken; reads = left; lent = refl; apart = is.apart }, tt);
          })
          | inr after ↦ inr (record {
            read = insert dbs due.child_at last;
            rest = [];
            all = subst (IsPermutation (last ∷ dbs)) (sym (append-nil (insert dbs due.child_at last)))
                (IsPermutation-insert dbs due.child_at last);
            each = subst (λ ps. AllZip (LeftAs w.frame) (insert dbs due.child_at last) ps) (sym is.packages)
                (zip_insert (LeftAs w.frame) dbs (slice_set w.packages due.at (lent due.receipt is.taken is.parent))
                due.child_at last (loan due is.taken) left after);
            beside = tt;
          })
        ]
      where
        member_reads : (w : World) (count : ℕ) → AreMembers g old count w → (is : IsLent w next due)
            → AllOpen g old
            → Reads w.frame is.parent (state g it.was.conn).now
        member_reads v n members is' open' = read_at g v n old due.at it.was is'.parent it.place is'.place
            (all-slice_get (λ (m : Member S). IsTrue (state g m.conn).is_open) old due.at it.was it.place
            (recursion_from_All (λ (m : Member S). IsTrue (state g m.conn).is_open) old open')) members

    one_more_kept : (strays strays_after : List (Held S)) → strays_after ≡ strays ++ child ∷ []
        → length strays_after ≤ length strays + 1
    one_more_kept strays strays_after is = let e : length strays_after ≡ length strays + 1 =
        ap length is ∙ length-append strays (child ∷ []) in omega (arith, e)

    no_more_than_one : (strays strays_after : List (Held S))
        → (why ≢ Before fault.OutOfMemory → strays_after ≡ strays ++ child ∷ [])
        → (why ≡ Before fault.OutOfMemory → strays_after ≡ strays) → length strays_after ≤ length strays + 1
    no_more_than_one strays strays_after kept dropped =
        elim why as (λ x. why ≡ x → length strays_after ≤ length strays + 1) [
          | Before x ↦ λ is. elim x as (λ y. why ≡ Before y → length strays_after ≤ length strays + 1) [
            | fault.OutOfMemory ↦ λ same. let e : length strays_after ≡ length strays =
                ap length (dropped same) in omega (arith, e)
            | fault.StoreFault ↦ λ same. one_more_kept strays strays_after
                (kept (λ e. let both : Before fault.StoreFault ≡ Before fault.OutOfMemory = sym same ∙ e in cc))
          ] is
          | Committing x ↦ λ is. one_more_kept strays strays_after
              (kept (λ e. let both : Committing x ≡ Before fault.OutOfMemory = sym is ∙ e in cc))
        ] refl

    -- the parent is as it was, or may be
    pub splits_failed : (strays strays_after : List (Held S))
        → (why ≢ Before fault.OutOfMemory → strays_after ≡ strays ++ child ∷ [])
        → (why ≡ Before fault.OutOfMemory → strays_after ≡ strays)
        → ((x : Fault) → why ≡ Before x → LeavesAsBefore g old mid)
        → Splits g due child old mid strays strays_after (Err why)
    splits_failed strays strays_after kept dropped unharmed = record {
      rests = turn_at_rest g {E = TurnFault} (Lends due.receipt due.selection) due.left due.receipt.seq old mid due.at
          (Err why) it at_rest;
      clean = λ clean. turn_was_clean g {E = TurnFault} (Lends due.receipt due.selection) due.left due.receipt.seq old
          mid due.at (Err why) it clean;
      done = λ receipt is. absurd (let e = is in cc);
      opens = λ clean. tt;
      came = λ receipt is. absurd (let e = is in cc);
      others = λ other is. (
        due.at,
        turn_but g {E = TurnFault} (Lends due.receipt due.selection) due.left
            due.receipt.seq old mid due.at (Err why) (all_still g shuts settles old at_rest) it,
      );
      failed = λ other is. (
        turn_length g {E = TurnFault} (Lends due.receipt due.selection) due.left due.receipt.seq old mid due.at
            (Err why) it,
        λ w count are. record {
          each = turn_undone g (Lends due.receipt due.selection) due.left due.receipt.seq old
              mid due.at why it w w.packages are.each;
          counted = are.counted;
          register = are.register;
        },
      );
      kept = λ other is lasting. kept (λ same. lasting (let e : why ≡ other = cc in sym e ∙ same));
      dropped = λ is. dropped (let e : why ≡ Before fault.OutOfMemory = cc in e);
      few = no_more_than_one strays strays_after kept dropped;
      survive = λ other is. turn_survive g {E = TurnFault} (Lends due.receipt due.selection) due.left due.receipt.seq
          old mid due.at (Err why) it;
      unharmed = elim why as (λ x. why ≡ x → IsUncommitted {X = Receipt} (Err x) → LeavesAsBefore g old mid) [
        | Before x ↦ λ is none. unharmed x is
        | Committing x ↦ λ is none. absurd none
      ] refl;
      crash = λ other is w next count are lends keeps opened. crashed w next count are lends keeps opened;
    }
