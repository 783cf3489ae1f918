-- A merge among the members of a world.
use Rattle.std.specs.Prelude.{◌≡◌, ⊤, ℕ, zero, suc, ◌+◌, List, [], ◌∷◌, ◌++◌, map, Some}
use Rattle.std.specs.Prelude.{slice_get, refl, Ok, Err}
use Rattle.std.specs.Prelude.{IsTrue}
use Rattle.std.proofs.Common.{sym, ap, subst, ◌∙◌, inl, inr, arith}
use Rattle.std.specs.List.{AllByRecursion, AllZip, insert, remove}
use Rattle.std.specs.List.Sorted.{IsPermutation}
use Rattle.std.proofs.lemmas.List.{append-nil}
use Rattle.std.proofs.lemmas.List.Elements.{All-from_recursion, recursion_from_All}
use Rattle.std.proofs.lemmas.List.Sorted.{IsPermutation-refl, IsPermutation-to_front, IsPermutation-insert}
use Rattle.std.proofs.lemmas.List.Sorted.{IsPermutation-trans, IsPermutation-sym}
use Rattle.sqlite.specs.Effect.{Database}
use Rattle.sqlite.specs.Tree.{Trees}
use Rattle.sqlite.specs.Store.{Ghosts}
use Rattle.sqlite.specs.Held.{Held, state}
use Rattle.sqlite.specs.State.{HasCleanDisk, Survives}
use Rattle.sqlite_trees.proofs.ListLemmas.{all-slice_get}
use Rattle.sheet_types.specs.World.{World, Package}
use Rattle.sheet_types.specs.declared.receipt.Receipt.{Receipt}
use Rattle.store_sql.specs.Staying.{Stays}
use Rattle.store_sql.specs.Transactions.{Rests}
use Rattle.store_sql.specs.Stores.{MayLeave, EachLeaves}
use Rattle.store_sql.proofs.Transactions.{Shuts, Settles}
use Rattle.identity_register.specs.Reads.{Reads}
use Rattle.package_tables.specs.declared.fault.Fault.{Fault}
use Rattle.world_changes.specs.Leaving.{AllSurvive, IsBeside, AreClean, MayBeLeft, LeavesOneOf}
use Rattle.register_lending.specs.Lending.{TakesHome, returned}
use Rattle.world_loans.specs.Loans.{IsReturned, place_without}
use Rattle.world_members.specs.Members.{AllRest, AllClean, AllOpen, IsMember, AreMembers}
use Rattle.world_changes.specs.Merges.{Merges}
use Rattle.custody.specs.Homing.{FromClean}
use Rattle.world_changes.specs.Turns.{IsUncommitted}
use Rattle.world_members.specs.Turning.{LeftAs, LeavesAsBefore}
use Rattle.world_changes.specs.Turns.{TakesTurn, LeavesNoMore}
use Rattle.register_lending.specs.declared.turn_fault.TurnFault.{TurnFault}
use Rattle.register_lending.specs.declared.turn_fault.TurnFault.TheVariants.{Before, Committing}
use Rattle.world_loans.specs.declared.loans.Returning.{Returning}
use Rattle.world_members.specs.declared.members.Member.{Member}
use Rattle.world_members.proofs.Changing.{each_leaves}
use Rattle.world_changes.proofs.Lent.{all_insert, all_but_inserted, inserted_has, length_insert}
use Rattle.world_loans.proofs.Listing.{length_removed, still_there}
use Rattle.world_changes.proofs.Placing.{zip_insert, zip_remove, zip_removed}
use Rattle.world_members.proofs.Standing.{all_still, member_stays, zip_at, zip_both}
use Rattle.world_changes.proofs.Surviving.{survives_any, turn_survive}
use Rattle.world_changes.proofs.Writing.{but_back, turn_but}
use Rattle.world_changes.proofs.Turned.{turn_length, turn_was_clean, turn_at_rest, turn_leaves, turn_undone}
use Rattle.world_changes.proofs.Turned.{turn_open_after, turn_done}

-- ---- one less among others, and back

pub back_again : {A : Type 0} (xs : List A) (at : ℕ) (x : A) → slice_get xs at ≡ Some x
    → insert (remove xs at) at x ≡ xs
back_again [] at x place = absurd (let e = place in cc)
back_again (y ∷ xs) zero x place = let same : y ≡ x = cc in ap (λ z. z ∷ xs) (sym same)
back_again (y ∷ xs) (suc at) x place = ap (λ ys. y ∷ ys) (back_again xs at x place)

pub all_removed : {A : Type 0} (P : A → Type 0) (xs : List A) (at : ℕ) → AllByRecursion P xs
    → AllByRecursion P (remove xs at)
all_removed P [] zero all = tt
all_removed P [] (suc at) all = tt
all_removed P (y ∷ xs) zero all = all.1
all_removed P (y ∷ xs) (suc at) all = (all.0, all_removed P xs at all.1)

-- one store in the place of another, in a list of members
module _ {S : Type 0} (g : Ghosts S) (shuts : Shuts g) (settles : Settles g) (due : Returning) (old : List (Member S))
    (child : Member S) (last : Held S) (mid : List (Member S)) (at_rest : AllRest g old)
    (place : slice_get old due.from ≡ Some child) (stays : Stays (state g child.conn) (state g last))
    (two : ¬ (due.from ≡ due.into)) where
  abbrev rest_of : List (Member S)
  rest_of = remove old due.from

  abbrev into_at : ℕ
  into_at = place_without due.from due.into

  abbrev Change : Database → Database → Type 0
  Change = FromClean (state g last) (TakesHome due.receipt due.selection (state g child.conn).now)

  abbrev now_child : Member S
  now_child = record child { conn = last }

  abbrev Rest : Member S → Type 0
  Rest m = Rests (state g m.conn)

  abbrev Clean : Member S → Type 0
  Clean m = HasCleanDisk (state g m.conn)

  abbrev Open : Member S → Type 0
  Open m = IsTrue (state g m.conn).is_open

  rest_rests : AllRest g rest_of
  rest_rests = All-from_recursion (λ (m : Member S). Rests (state g m.conn)) rest_of
      (all_removed (λ (m : Member S). Rests (state g m.conn)) old due.from
      (recursion_from_All (λ (m : Member S). Rests (state g m.conn)) old at_rest))

  -- all but the child, and the child, are all
  all_were : (P : Member S → Type 0) → AllByRecursion P rest_of → P child → AllByRecursion P old
  all_were P others one = subst (AllByRecursion P) (back_again old due.from child place)
      (all_insert P rest_of due.from child one others)

  child_package : (w next : World) (count : ℕ) → AreMembers g old count w → (is : IsReturned w next due)
      → IsMember g w child is.child
  child_package w next count are is = zip_removed (IsMember g w) old w.packages due.from child is.child place is.from
      are.each

  child_left : (w next : World) (count : ℕ) → AreMembers g old count w → (is : IsReturned w next due)
      → AllOpen g old
      → HasCleanDisk (state g last) → (trees : Trees) → (state g last).may_leave trees
      → LeftAs w.frame trees is.child
  child_left w next count are is opened clean trees may =
      elim (stays.survives.crash clean trees may) [
        | inl before ↦ zip_removed (λ m p. (t : Trees) → (state g m.conn).may_leave t → LeftAs w.frame t p) old
            w.packages due.from child is.child place is.from
            (each_leaves g shuts settles old count w at_rest opened are) trees before
        | inr none ↦ absurd none
      ]

  child_beside : (w next : World) (count : ℕ) → AreMembers g old count w → (is : IsReturned w next due)
      → AllOpen g old → HasCleanDisk (state g last) → (trees : Trees) → (state g last).may_leave trees
      → IsBeside w.frame next.packages trees
  child_beside w next count are is opened clean trees may = record {
    other = is.child;
    reads = child_left w next count are is opened clean trees may;
    lent = is.lent;
    apart = is.apart;
  }

  -- where the parent's disk and the child's are clean, the change is one of the parent's package
  reads_home : (w next : World) (count : ℕ) → AreMembers g old count w → (is : IsReturned w next due)
      → HasCleanDisk (state g last) → IsTrue (state g child.conn).is_open → (db db' : Database)
      → Reads w.frame is.parent db → Change db db' → Reads w.frame
      (returned due.receipt is.taken is.child is.parent)
      db'
  reads_home w next count are is clean opened db db' reads change =
      (change clean is.taken w.frame is.child is.parent is.selected ((child_package w next count are is).reads opened)
      reads is.may).0

  module _ {E : Type 0} (it : TakesTurn g {E = E} Change due.sums due.receipt.seq rest_of mid into_at (Ok tt))
      (opened_after : HasCleanDisk (state g last) → IsTrue (state g last).is_open) where
    home_are : (w next : World) (count : ℕ) → HasCleanDisk (state g last) → AreMembers g old count w
        → IsReturned w next due → AreMembers g mid (count + 1) next
    home_are w next count clean are is = record {
      each = subst (λ ps. AllZip (IsMember g next) mid ps) (sym is.packages)
          (turn_done g {E = E} shuts Change due.sums due.receipt.seq rest_of mid into_at it w next
          (remove w.packages due.from) is.parent (returned due.receipt is.taken is.child is.parent) is.after.frame
          (still_there w.packages due.from due.into is.parent is.into two)
          (record { uuid = refl; parent = refl; depth = refl; loan = refl }) is.sums is.parent_ticket
          (reads_home w next count are is clean (stays.was_open (opened_after clean))) is.tickets
          (zip_remove (IsMember g w) old w.packages due.from are.each));
      counted = ap (λ n. n + 1) are.counted ∙ sym is.after.counted;
      register = is.after.register;
    }

    -- the parent has all, and the child's connection is gone
    pub merges_done : Merges g due old mid (Ok (due.receipt, last))
    merges_done = record {
      read = (due.from, child, place, stays, refl);
      home = λ merged is. (
        child,
        place,
        let same : merged ≡ (due.receipt, last) =
            cc in subst (λ (m : Receipt × Held S). Stays (state g child.conn) (state g m.1)) (sym same) stays,
      );
      others = λ merged is. (
        into_at,
        turn_but g {E = E} Change due.sums due.receipt.seq rest_of mid into_at (Ok tt)
            (all_still g shuts settles rest_of rest_rests) it,
      );
      kept = λ why is. absurd (let e = is in cc);
      survive = λ why is. absurd (let e = is in cc);
      rests = turn_at_rest g {E = E} Change due.sums due.receipt.seq rest_of mid into_at (Ok tt) it rest_rests;
      clean = λ clean gone. All-from_recursion Clean old (all_were Clean
          (recursion_from_All Clean rest_of (turn_was_clean g {E = E} Change due.sums due.receipt.seq rest_of mid
          into_at (Ok tt) it clean)) (omega (arith, stays.survives.clean, gone_clean gone)));
      done = λ merged is. (
        let same : merged ≡ (due.receipt, last) =
            cc in ap (λ (m : Receipt × Held S). m.0) same,
        ap (λ n. n + 1)
            (turn_length g {E = E} Change due.sums due.receipt.seq rest_of mid into_at (Ok tt) it)
            ∙ length_removed old due.from child place,
        λ w next count clean gone are returned. home_are w next count
            (gone_clean gone) are returned,
      );
      opens = λ clean gone was. turn_open_after g {E = E} Change due.sums due.receipt.seq rest_of mid into_at it clean
          (All-from_recursion Open rest_of (all_removed Open old due.from (recursion_from_All Open old was)));
      beside = λ merged is w next count are returned opened. All-from_recursion
          (λ h. HasCleanDisk (state g h) → (trees : Trees) → (state g h).may_leave trees
          → IsBeside w.frame next.packages trees) (last ∷ []) (child_beside w next count are returned opened, tt);
      failed = λ why is. absurd (let e = is in cc);
      unharmed = λ none. absurd none;
      crash = λ why is. absurd (let e = is in cc);
    }
      where
        gone_clean : AreClean g (last ∷ []) → HasCleanDisk (state g last)
        gone_clean gone = (recursion_from_All (λ h. HasCleanDisk (state g h)) (last ∷ []) gone).0

  module _ (why : TurnFault) (it : TakesTurn g {E = TurnFault} Change due.sums due.receipt.seq rest_of mid into_at
      (Err why)) where
    abbrev again : List (Member S)
    again = insert mid due.from now_child

    again_clean : AllClean g again → AllClean g mid × HasCleanDisk (state g last)
    again_clean clean = (
      All-from_recursion Clean mid (all_but_inserted Clean mid due.from now_child
          (recursion_from_All Clean again clean)),
      inserted_has Clean mid due.from now_child
          (recursion_from_All Clean again clean),
    )

    again_are : (w : World) (count : ℕ) → AreMembers g old count w → AreMembers g again count w
    again_are w count are =
        let here = zip_at (IsMember g w) old w.packages due.from child are.each place in
        record {
          each = subst (λ ps. AllZip (IsMember g w) again ps) (back_again w.packages due.from here.0 here.1)
              (zip_insert (IsMember g w) mid (remove w.packages due.from) due.from now_child here.0
              (member_stays g w child now_child here.0 (record { same = refl; stays = stays }) here.2)
              (turn_undone g Change due.sums due.receipt.seq rest_of mid into_at why it w (remove w.packages due.from)
              (zip_remove (IsMember g w) old w.packages due.from are.each)));
          counted = are.counted;
          register = are.register;
        }

    -- one content for each of the others, and one for the child
    parted : (ms : List (Member S)) (at : ℕ) (contents : List Trees)
        → MayBeLeft g (map (λ m. m.conn) (insert ms at now_child)) contents → (dbs : List Trees) × (mine : Trees)
        × (contents ≡ insert dbs at mine) × MayLeave g (λ m. m.conn) ms dbs × (state g last).may_leave mine
    parted [] zero [] may = absurd may
    parted [] zero (t ∷ []) may = ([], t, refl, tt, may.0)
    parted [] zero (t ∷ u ∷ rest) may = absurd may.1
    parted [] (suc at) [] may = absurd may
    parted [] (suc at) (t ∷ []) may = ([], t, refl, tt, may.0)
    parted [] (suc at) (t ∷ u ∷ rest) may = absurd may.1
    parted (m ∷ ms) zero [] may = absurd may
    parted (m ∷ ms) zero (t ∷ rest) may = (rest, t, refl, as_members (m ∷ ms) rest may.1, may.0)
      where
        as_members : (ns : List (Member S)) (ts : List Trees) → MayBeLeft g (map (λ n. n.conn) ns) ts
            → MayLeave g (λ n. n.conn) ns ts
        as_members [] [] left = tt
        as_members [] (u ∷ us) left = absurd left
        as_members (n ∷ ns) [] left = absurd left
        as_members (n ∷ ns) (u ∷ us) left = (left.0, as_members ns us left.1)
    parted (m ∷ ms) (suc at) [] may = absurd may
    parted (m ∷ ms) (suc at) (t ∷ rest) may = let more = parted ms at rest may.1 in
        (t ∷ more.0, more.1, ap (λ ts. t ∷ ts) more.2, (may.0, more.3), more.4)

    conns_clean : (ms : List (Member S)) → AllByRecursion (λ h. HasCleanDisk (state g h))
        (map (λ (m : Member S). m.conn) ms) → AllByRecursion Clean ms
    conns_clean [] all = tt
    conns_clean (m ∷ ms) all = (all.0, conns_clean ms all.1)

    crashed : (w next : World) (count : ℕ) → AreMembers g old count w → (is : IsReturned w next due)
        → AllOpen g old
        → LeavesOneOf g w.frame (map (λ m. m.conn) again) w.packages next.packages
    crashed w next count are is opened clean contents may =
        let disks = again_clean (All-from_recursion Clean again
        (conns_clean again (recursion_from_All (λ h. HasCleanDisk (state g h))
        (map (λ (m : Member S). m.conn) again) clean))) in
        let parts = parted mid due.from contents may in
        let each : EachLeaves g (λ m. m.conn) (LeftAs w.frame) old w.packages =
        each_leaves g shuts settles old count w at_rest opened are in
        let rest_each : EachLeaves g (λ m. m.conn) (LeftAs w.frame) rest_of (remove w.packages due.from) =
        zip_remove (λ m p. (t : Trees) → (state g m.conn).may_leave t → LeftAs w.frame t p) old w.packages
        due.from each in
        let child_open : IsTrue (state g child.conn).is_open =
        all-slice_get Open old due.from child place (recursion_from_All Open old opened) in
        let mine : LeftAs w.frame parts.1 is.child = child_left w next count are is opened disks.1 parts.1 parts.4 in
        let was_there = still_there w.packages due.from due.into is.parent is.into two in
        let parent_reads : Reads w.frame is.parent (state g it.was.conn).now =
        zip_removed (λ (m : Member S) (p : Package). IsTrue (state g m.conn).is_open
        → Reads w.frame p (state g m.conn).now) rest_of (remove w.packages due.from) into_at it.was is.parent
        it.place was_there
        (zip_remove (λ (m : Member S) (p : Package). IsTrue (state g m.conn).is_open
        → Reads w.frame p (state g m.conn).now) old w.packages due.from (reads_all w old w.packages are.each))
        (all-slice_get Open rest_of into_at it.was it.place (all_removed Open old due.from
        (recursion_from_All Open old opened))) in
        elim (turn_leaves g {E = TurnFault} Change due.sums due.receipt.seq rest_of mid into_at (Err why) it w.frame
        (remove w.packages due.from) is.parent (returned due.receipt is.taken is.child is.parent) rest_each
        (λ db change. reads_home w next count are is disks.1 child_open (state g it.was.conn).now db parent_reads
        change) disks.0 parts.0 parts.3) [
          | inl before ↦ inl (record {
            read = insert parts.0 due.from parts.1;
            rest = [];
            all = subst (λ ts. IsPermutation ts (insert parts.0 due.from parts.1 ++ [])) (sym parts.2)
                (subst (IsPermutation (insert parts.0 due.from parts.1))
                (sym (append-nil (insert parts.0 due.from parts.1)))
                (IsPermutation-refl (insert parts.0 due.from parts.1)));
            each = subst (λ ps. AllZip (LeftAs w.frame) (insert parts.0 due.from parts.1) ps)
                (back_again w.packages due.from is.child is.from)
                (zip_insert (LeftAs w.frame) parts.0 (remove w.packages due.from) due.from parts.1 is.child mine
                before);
            beside = tt;
          })
          | inr after ↦ inr (record {
            read = parts.0;
            rest = parts.1 ∷ [];
            all = subst (λ ts. IsPermutation ts (parts.0 ++ parts.1 ∷ [])) (sym parts.2)
                (IsPermutation-sym _ _ (IsPermutation-trans _ _ _ (IsPermutation-to_front parts.0 parts.1)
                (IsPermutation-insert parts.0 due.from parts.1)));
            each = subst (λ ps. AllZip (LeftAs w.frame) parts.0 ps) (sym is.packages) after;
            beside = (record { other = is.child; reads = mine; lent = is.lent; apart = is.apart }, tt);
          })
        ]
      where
        reads_all : (v : World) (ms : List (Member S)) (ps : List Package) → AllZip (IsMember g v) ms ps
            → AllZip (λ (m : Member S) (p : Package). IsTrue (state g m.conn).is_open
            → Reads v.frame p (state g m.conn).now) ms ps
        reads_all v [] [] zip = tt
        reads_all v [] (p ∷ ps) zip = absurd zip
        reads_all v (m ∷ ms) [] zip = absurd zip
        reads_all v (m ∷ ms) (p ∷ ps) zip = (zip.0.reads, reads_all v ms ps zip.1)

    -- of the others and of the child no failure is forgotten
    again_survive : AllSurvive g old again
    again_survive = subst (λ ms. AllSurvive g ms again) (back_again old due.from child place)
        (zip_insert (λ (m n : Member S). Survives (state g m.conn) (state g n.conn) (λ trees. ⊤)) rest_of mid
        due.from
        child now_child (survives_any (state g child.conn) (state g last) stays.survives)
        (turn_survive g {E = TurnFault} Change due.sums due.receipt.seq rest_of mid into_at (Err why) it))

    no_more : LeavesNoMore g rest_of mid → LeavesAsBefore g old again
    no_more fewer clean w count are opened =
        let disks = again_clean clean in
        let here = zip_at (IsMember g w) old w.packages due.from child are.each place in
        let each : EachLeaves g (λ m. m.conn) (LeftAs w.frame) old w.packages =
        each_leaves g shuts settles old count w at_rest opened are in
        let Left : Member S → Package → Type 0 = λ m p. (t : Trees) → (state g m.conn).may_leave t
        → LeftAs w.frame t p in
        subst (λ ps. AllZip (λ (m : Member S) (p : Package). (t : Trees) → (state g m.conn).may_leave t
        → LeftAs w.frame t p) again ps) (back_again w.packages due.from here.0 here.1)
        (zip_insert (λ (m : Member S) (p : Package). (t : Trees) → (state g m.conn).may_leave t
        → LeftAs w.frame t p)
        mid (remove w.packages due.from) due.from now_child here.0
        (λ t may. elim (stays.survives.crash disks.1 t may) [
          | inl before
              ↦ zip_removed (λ (m : Member S) (p : Package). (u : Trees) → (state g m.conn).may_leave u
              → LeftAs w.frame u p) old w.packages due.from child here.0 place here.1 each t before
          | inr none
              ↦ absurd none
        ])
        (zip_both (λ (m n : Member S). (t : Trees) → (state g n.conn).may_leave t → (state g m.conn).may_leave t)
        (λ (m : Member S) (p : Package). (t : Trees) → (state g m.conn).may_leave t → LeftAs w.frame t p)
        (λ (m : Member S) (p : Package). (t : Trees) → (state g m.conn).may_leave t → LeftAs w.frame t p)
        (λ m n p fewer left t may. left t (fewer t may)) rest_of mid (remove w.packages due.from) (fewer disks.0)
        (zip_remove (λ (m : Member S) (p : Package). (t : Trees) → (state g m.conn).may_leave t
        → LeftAs w.frame t p) old w.packages due.from each)))

    -- the parent is as it was, or may be, and the child stands where it stood
    pub merges_failed : ((x : Fault) → why ≡ Before x → LeavesNoMore g rest_of mid)
        → Merges g due old again (Err why)
    merges_failed unharmed = record {
      read = tt;
      home = λ merged is. absurd (let e = is in cc);
      others = λ merged is. absurd (let e = is in cc);
      kept = λ other is. but_back g old mid due.from into_at child now_child place
          (record { same = refl; stays = stays }) (turn_but g {E = TurnFault} Change due.sums due.receipt.seq rest_of
          mid into_at (Err why) (all_still g shuts settles rest_of rest_rests) it);
      survive = λ other is. again_survive;
      rests = All-from_recursion Rest again (all_insert Rest mid due.from now_child stays.rests
          (recursion_from_All Rest mid (turn_at_rest g {E = TurnFault} Change due.sums due.receipt.seq rest_of mid
          into_at (Err why) it rest_rests)));
      clean = λ clean gone.
          let disks = again_clean clean in
          All-from_recursion Clean old (all_were Clean (recursion_from_All Clean rest_of
          (turn_was_clean g {E = TurnFault} Change due.sums due.receipt.seq rest_of mid into_at (Err why) it
          disks.0)) (omega (arith, stays.survives.clean, disks.1)));
      done = λ merged is. absurd (let e = is in cc);
      opens = λ clean gone. tt;
      beside = λ merged is. absurd (let e = is in cc);
      failed = λ other is. (
        length_insert mid due.from now_child
            ∙ ap (λ n. n + 1) (turn_length g {E = TurnFault} Change due.sums due.receipt.seq rest_of mid into_at
            (Err why) it) ∙ length_removed old due.from child place,
        λ w count are. again_are w count are,
      );
      unharmed = elim why as (λ x. why ≡ x → IsUncommitted {X = Receipt} (Err x) → LeavesAsBefore g old again) [
        | Before x ↦ λ is none. no_more (unharmed x is)
        | Committing x ↦ λ is none. absurd none
      ] refl;
      crash = λ other is w next count are returned opened. crashed w next count are returned opened;
    }
