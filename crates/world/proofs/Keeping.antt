-- What a world keeps of what it stands for, when one request was dealt with.
use Rattle.std.proofs.Common.{◌≡◌, ◌↔◌, false, true, IsTrue, refl, sym, ap, subst, ◌∙◌, ℕ}
use Rattle.std.proofs.Common.{◌≤◌, Bool, List, length}
use Rattle.std.proofs.Common.{Vec, Global, Result, IfOk, Ok, Err, inl, inr}
use Rattle.sqlite.specs.Store.{Ghosts}
use Rattle.sheet_types.specs.Refuse.{greatest_receipts}
use Rattle.sheet_types.specs.Step.{IsFault, outcome}
use Rattle.sheet_types.specs.World.{World}
use Rattle.sheet_types.specs.declared.command.Request.{Request}
use Rattle.sheet_types.specs.declared.frame.Frame.{Frame}
use Rattle.sheet_types.specs.declared.receipt.Receipt.{Receipt}
use Rattle.sheet_types.specs.declared.refusal.Refusal.{Refusal}
use Rattle.package_tables.specs.declared.fault.Fault.TheVariants as fault
use Rattle.store_sql.proofs.Transactions.{Shuts, Settles}
use Rattle.sheet_types.specs.declared.refusal.Refusal.TheVariants.{StoreFault}
use Rattle.world_members.proofs.Changing.{each_leaves}
use Rattle.world_members.specs.Members.{AllRest, AllClean, AllOpen, AllStay, AreMembers}
use Rattle.world.specs.Creating.{HasRoomFor}
use Rattle.world_known.specs.Known.{Knows}
use Rattle.world_known.proofs.Remembering.{knows_more}
use Rattle.world_changes.specs.Carries.{HasNoReceipt, ServesAll, OfEachSeen, IsServedAs, IsSeenBy, IsBeforeCommit}
use Rattle.world_changes.specs.Carries.{IsUntouched}
use Rattle.world_changes.specs.Leaving.{AllSurvive, AreClean, AreAtRest}
use Rattle.world_changes.specs.Writing.{WritesTwoAtMost}
use Rattle.world_changes.proofs.Writing.{none_written}
use Rattle.world_members.proofs.Standing.{all_still}
use Rattle.world_loans.specs.ServeFaults.{IsLastingFault, told_refusal, CountsShelf}
use Rattle.sqlite_disk.specs.Disk.{MoreFaults}
use Rattle.std.specs.Prelude.{◌⊎◌}
use Rattle.std.proofs.Common.{arith}
use Rattle.world_loans.specs.declared.loans.ServeFault.{ServeFault}
use Rattle.world_loans.specs.declared.loans.ServeFault.TheVariants.{Unshelved, Turn}
use Rattle.world.proofs.Faults.{fault_is_err}
use Rattle.world.proofs.CarriedOut.{leaves_before}
use Rattle.world_changes.proofs.Surviving.{same_survive}
use Rattle.world_changes.proofs.HeldStores.{left_clean, right_clean}
use Rattle.sqlite.specs.Held.{Held}
use Rattle.std.specs.Prelude.{Option, Some, None, [], ◌++◌}
use Rattle.sqlite.specs.Tree.{Trees}
use Rattle.world.proofs.Settled.{gives_weaker, unserved_settles}
use Rattle.world_changes.specs.Leaving.{IsChildBeside}
use Rattle.world_decisions.specs.Deciding.{child_asked}
use Rattle.world.specs.Asked.{IsNewTo, IsHomeBy, IsNoPackage, IsStepWith, ServesChild, ServesWith, SettlesChild}
use Rattle.world.specs.Asked.{UsesFor, child_returned}
use Rattle.world.proofs.Asks.{asks_nothing, uses_asked, uses_weaker}
use Rattle.world.specs.Dates.{Dates, TriesReceipt}
use Rattle.world.specs.Worlds.{AddsNone, Seen, StandsFor, IsHeld, IsAccepted, IsStep, StandsStill}
use Rattle.world.specs.Worlds.{LeavesNoTrace, LeftAsItStands}
use Rattle.register_lending.specs.declared.turn_fault.TurnFault.TheVariants.{Before, Committing}
use Rattle.world_members.specs.declared.members.Member.{Member}

-- a fault is told as a fault
is_fault : (e : ServeFault) → IsFault (Err (told_refusal e))
is_fault (Turn (Before fault.OutOfMemory)) = inl refl
is_fault (Turn (Before fault.StoreFault)) = inr refl
is_fault (Turn (Committing fault.OutOfMemory)) = inl refl
is_fault (Turn (Committing fault.StoreFault)) = inr refl
is_fault (Unshelved fault.OutOfMemory) = inl refl
is_fault (Unshelved fault.StoreFault) = inr refl

pub told_as_fault : (e : ServeFault) (why : Refusal) → why ≡ told_refusal e → IsFault (Err why)
told_as_fault e why told = subst (λ x. IsFault (Err x)) (sym told) (is_fault e)

-- a reply that is no fault is not told as one of the store
pub usable_after : (reply : Result Receipt Refusal) (was_failed has_failed : Bool) → was_failed ≡ false
    → (IsTrue has_failed ↔ (reply ≡ Err StoreFault)) → ¬ IsFault reply → has_failed ≡ was_failed
usable_after reply was_failed false usable told no_fault = sym usable
usable_after reply was_failed true usable told no_fault = absurd (no_fault (inr (told.0 refl)))

-- what leaves a world usable comes before a commit
uncommitted : (e : ServeFault) (has_failed : Bool) → (IsTrue has_failed ↔ IsLastingFault e) → has_failed ≡ false
    → IsBeforeCommit e
uncommitted (Unshelved x) has_failed lasting usable = tt
uncommitted (Turn (Before x)) has_failed lasting usable = tt
uncommitted (Turn (Committing x)) has_failed lasting usable =
    absurd (let failed : IsTrue has_failed = lasting.1 (λ same. cc) in cc)

-- the room is enough for as many
pub room_stays : {X Y : Type 0} (old new : List X) (room : Vec Y Global) → length new ≡ length old
    → HasRoomFor old room → HasRoomFor new room
room_stays old new room long has = omega (arith, long, has)

module _ {S : Type 0} (g : Ghosts S) where
  -- After a step there is a world that it stands for, if there was one before.
  pub held_after : (q : Request) (old new : Seen S) (reply : Result Receipt Refusal) → IsHeld g old
      → new.frame ≡ old.frame → AllRest g new.members → AreAtRest g new.strays
      → (new.has_failed ≡ false → new.strays ≡ []) → new.count ≤ greatest_receipts
      → IsStep g q old reply new
      → IsHeld g new
  held_after q old new reply held frame rests stray_rests none counted it = record {
    gone = held.gone ++ it.gone;
    rests = rests;
    stray_rests = stray_rests;
    none = none;
    good = rw frame held.good;
    counted = counted;
    stands = λ clean gone.
        let mine : AreClean g it.gone = right_clean g held.gone it.gone gone in
        let before : (w : World) × StandsFor g old w = held.stands (it.clean clean mine)
        (left_clean g held.gone it.gone gone) in
        let after = it.step clean mine before.0 before.1 in
        (after.0, after.2);
  }

  -- A world that has failed answers without a look, and stays as it is.
  pub step_unserved : (shuts : Shuts g) (settles : Settles g) (q : Request) (seen : Seen S) → AllRest g seen.members
      → seen.has_failed ≡ true → IsStep g q seen (Err StoreFault) seen
  step_unserved shuts settles q seen at_rest failed = record {
    gone = [];
    register = λ w stands. stands.members.register;
    reads = λ no_fault. absurd (no_fault (inr refl));
    survive = λ refused. same_survive g seen.members;
    dropped = λ refused. refl;
    writes = none_written g (child_asked q.command) (child_returned q.command) seen.members seen.members
        (all_still g shuts settles seen.members at_rest);
    dated = λ clean gone receipt is. absurd (let e = is in cc);
    clean = λ clean gone. clean;
    step = λ clean gone w stands. (w, inr (inr refl, refl), stands);
    opens = λ clean gone no_fault. absurd (no_fault (inr refl));
    crash = λ fault usable. absurd (let both : true ≡ false = sym failed ∙ usable in cc);
    beside = λ clean gone no_fault. absurd (no_fault (inr refl));
  }

  -- and asks a shelf for nothing and gives nothing back
  pub unserved_with : {H : Type 0} (Asks : List ℕ → H → H → Type 0)
      (Takes : List ℕ → S → H → H → Type 0)
      (Fails : H → ℕ) (shuts : Shuts g) (settles : Settles g) (q : Request) (seen : Seen S) (s : H)
      → AllRest g seen.members → seen.has_failed ≡ true → IsStepWith g Asks Takes Fails q seen
      (Err StoreFault) seen s
      s
  unserved_with Asks Takes Fails shuts settles q seen s at_rest failed =
      let it : IsStep g q seen (Err StoreFault) seen = step_unserved shuts settles q seen at_rest failed in
      record {
        step = it;
        uses = uses_asked g Asks Takes seen.members (child_asked q.command) (IsNewTo g seen seen)
            (IsHomeBy g q seen seen it.gone) it.gone s s (it.dropped refl)
            (asks_nothing Asks Takes (child_asked q.command) (IsNewTo g seen seen) s s refl);
        child = unserved_settles g Asks Takes Fails (child_asked q.command) seen s;
        unused = λ no_fault none. refl;
      }

  -- Between two calls a crash leaves what the world stands for.
  pub left_as_it_stands : Shuts g → Settles g → LeftAsItStands g
  left_as_it_stands shuts settles seen w held stands opened =
      each_leaves g shuts settles seen.members seen.count w held.rests opened stands.members

  module _ (f : Frame) (q : Request) (old new : List (Member S)) (strays : List (Held S))
      (known noted : List (List ℕ)) (before after : ℕ) (r : Result (Result Receipt Refusal) ServeFault)
      (it : ServesAll g f q old new strays known noted before after r)
      (writes : WritesTwoAtMost g (child_asked q.command) (child_returned q.command) old new it.gone)
      (dates : Dates g f q old new known before after it.gone r)
      (was_failed has_failed : Bool) (strays_before : List (Held S)) (was : Seen S)
      (seen : record {
        frame = f;
        members = old;
        count = before;
        has_failed = was_failed;
        strays = strays_before;
        known = known;
      } ≡ was) where
    abbrev now_seen : Seen S
    now_seen = record {
      frame = f;
      members = new;
      count = after;
      has_failed = has_failed;
      strays = strays;
      known = noted;
    }

    stood : (w : World) → StandsFor g was w → IsSeenBy f known w × AreMembers g old before w
    stood w stands = (
      (
        ap (λ s. s.frame) seen ∙ stands.frame,
        subst (λ ids. Knows ids w)
            (sym (ap (λ s. s.known) seen)) stands.known,
      ),
      subst (λ ms. AreMembers g ms before w)
          (sym (ap (λ s. s.members) seen)) (subst (λ n. AreMembers g was.members n w) (sym (ap (λ s. s.count) seen))
          stands.members),
    )

    were_clean : AllClean g new → AreClean g it.gone → AllClean g was.members
    were_clean clean gone = subst (AllClean g) (ap (λ s. s.members) seen) (it.clean clean gone)

    were_open : AllOpen g was.members → AllOpen g old
    were_open opened = subst (AllOpen g) (sym (ap (λ s. s.members) seen)) opened

    were_there : AllSurvive g old new → AllSurvive g was.members new
    were_there survive = subst (λ ms. AllSurvive g ms new) (ap (λ s. s.members) seen) survive

    were_written : WritesTwoAtMost g (child_asked q.command) (child_returned q.command) was.members new it.gone
    were_written = subst (λ ms. WritesTwoAtMost g (child_asked q.command) (child_returned q.command) ms new it.gone)
        (ap (λ s. s.members) seen) writes

    -- a reply is a step, where stores were only read unless it adds a receipt
    step_told : (reply : Result Receipt Refusal) → r ≡ Ok reply
        → (AddsNone reply before after → AllStay g old new)
        → (step : IsStep g q was reply now_seen) × (step.gone ≡ it.gone)
    step_told reply is only_read = (
      record {
        gone = it.gone;
        reads = λ no_fault none. subst (λ ms. AllStay g ms new) (ap (λ s. s.members) seen)
            (only_read (subst (λ n. AddsNone reply n after) (sym (ap (λ s. s.count) seen)) none));
        writes = were_written;
        dated = λ clean gone receipt same_reply more w stands. dates clean gone receipt (is ∙ ap Ok same_reply)
            (λ none. more (none ∙ ap (λ s. s.count) seen)) w (stood w stands).0 (stood w stands).1;
        dropped = λ refused. it.dropped (subst HasNoReceipt (sym is) refused);
        survive = λ refused. were_there (it.survive (subst HasNoReceipt (sym is) refused));
        register = λ w stands. stands.members.register;
        clean = were_clean;
        step = λ clean gone w stands.
            let both = stood w stands in
            let as_model : IsServedAs g w q new noted after reply = it.told clean gone reply is w both.0 both.1 in (
              as_model.next,
              inl (sym (ap (λ o. o.0) as_model.told), sym (ap (λ o. o.1) as_model.told)),
              record
                  { frame = both.0.0 ∙ sym as_model.frame; members = as_model.members; known = as_model.known },
            );
        opens = λ clean gone no_fault opened. (subst (λ (x : Result (Result Receipt Refusal) ServeFault). IfOk x
            (λ y. AllOpen g old → AllOpen g new)) is (it.opens clean gone)) (were_open opened);
        crash = λ fault usable w stands opened. leaves_before g old new strays w before (outcome w q).1.packages
            (it.none reply is) (it.unharmed (subst IsUntouched (sym is) (fault_is_err reply fault)))
            (stood w stands).1 (were_open opened);
        beside = λ clean gone no_fault w stands opened. it.beside clean gone reply is w (stood w stands).0
            (stood w stands).1 (were_open opened);
      },
      refl,
    )

    pub step_replied : (reply : Result Receipt Refusal) → r ≡ Ok reply
        → (AddsNone reply before after → AllStay g old new) → IsStep g q was reply now_seen
    step_replied reply is only_read = (step_told reply is only_read).0

    -- and so is a fault
    step_faulted : (e : ServeFault) → r ≡ Err e → (why : Refusal) → why ≡ told_refusal e
        → (step : IsStep g q was (Err why) now_seen) × (step.gone ≡ it.gone)
    step_faulted e is why told = (
      record {
        gone = it.gone;
        reads = λ no_fault. absurd (no_fault (told_as_fault e why told));
        writes = were_written;
        dated = λ clean gone receipt is'. absurd (let e = is' in cc);
        dropped = λ refused. it.dropped (subst HasNoReceipt (sym is) tt);
        survive = λ refused. were_there (it.survive (subst HasNoReceipt (sym is) tt));
        register = λ w stands. stands.members.register;
        clean = were_clean;
        step = λ clean gone w stands. (
          w,
          inr (told_as_fault e why told, refl),
          record {
            frame = (stood w stands).0.0;
            members = it.failed e is w (stood w stands).1;
            known = knows_more known noted w it.grows (stood w stands).0.1;
          },
        );
        opens = λ clean gone no_fault. absurd (no_fault (told_as_fault e why told));
        crash = λ fault usable w stands opened. it.crash e is w (stood w stands).0 (stood w stands).1
            (were_open opened);
        beside = λ clean gone no_fault. absurd (no_fault (told_as_fault e why told));
      },
      refl,
    )

    pub step_failed : (e : ServeFault) → r ≡ Err e → (why : Refusal) → why ≡ told_refusal e
        → IsStep g q was (Err why) now_seen
    step_failed e is why told = (step_faulted e is why told).0

    -- with what the shelf was asked for and given back
    module _ {H : Type 0} (Asks : List ℕ → H → H → Type 0) (Takes : List ℕ → S → H → H → Type 0)
        (Fails : H → ℕ)
        (s t : H) (used : ServesWith g Asks Takes f q old new known before it.gone s t) where
      step_with : (reply : Result Receipt Refusal) → (step : IsStep g q was reply now_seen) × (step.gone ≡ it.gone)
          → SettlesChild g Asks Takes Fails (child_asked q.command) was reply now_seen s t
          → (¬ IsFault reply → AddsNone reply before after → t ≡ s)
          → IsStepWith g Asks Takes Fails q was reply now_seen s t
      step_with reply both settled unused = record {
        step = both.0;
        child = settled;
        unused = λ no_fault none. unused no_fault
            (subst (λ n. AddsNone reply n after) (sym (ap (λ x. x.count) seen)) none);
        uses = subst (λ gone. UsesFor g Asks Takes was.members (child_asked q.command) (IsNewTo g was now_seen)
            (IsHomeBy g q was now_seen gone) gone s t) (sym both.1)
            (subst (λ ms. UsesFor g Asks Takes ms (child_asked q.command) (IsNewTo g was now_seen)
            (IsHomeBy g q was now_seen it.gone) it.gone s t) (ap (λ x. x.members) seen)
            (uses_weaker g Asks Takes old (child_asked q.command)
            (λ x. AllClean g new → OfEachSeen g f known old before (λ w. IsNoPackage w x))
            (IsNewTo g was now_seen)
            (λ x. (child_returned q.command ≡ Some x) × (AllClean g new → AreClean g it.gone
            → OfEachSeen g f known old before (λ w. IsNoPackage (outcome w q).1 x)))
            (IsHomeBy g q was now_seen it.gone) it.gone s t
            (λ x told clean w stands. told clean w (stood w stands).0 (stood w stands).1)
            (λ x told. (told.0, λ clean gone w stands. told.1 clean gone w (stood w stands).0 (stood w stands).1))
            used));
      }

      pub replied_with : (reply : Result Receipt Refusal) → r ≡ Ok reply
          → (AddsNone reply before after → AllStay g old new)
          → SettlesChild g Asks Takes Fails (child_asked q.command) was reply now_seen s t
          → (AddsNone reply before after → t ≡ s)
          → IsStepWith g Asks Takes Fails q was reply now_seen s t
      replied_with reply is only_read settled unused =
          step_with reply (step_told reply is only_read) settled (λ no_fault. unused)

      pub failed_with : (e : ServeFault) → r ≡ Err e → (why : Refusal) → why ≡ told_refusal e
          → SettlesChild g Asks Takes Fails (child_asked q.command) was (Err why) now_seen s t
          → IsStepWith g Asks Takes Fails q was (Err why) now_seen s t
      failed_with e is why told settled = step_with (Err why) (step_faulted e is why told) settled
          (λ no_fault. absurd (no_fault (told_as_fault e why told)))

    -- what became of the store that the shelf gave for a child
    module _ {H : Type 0} (Asks : List ℕ → H → H → Type 0) (Takes : List ℕ → S → H → H → Type 0)
        (Fails : H → ℕ)
        (s t : H) where
      abbrev BesideSeen : List ℕ → Trees → Type 0
      BesideSeen child trees = AllClean g new → OfEachSeen g f known old before
          (λ w. AllOpen g old → IsChildBeside w.frame w.packages child trees)

      pub settled_replied : (asked : Option (List ℕ)) (reply : Result Receipt Refusal)
          → ServesChild g Asks Takes Fails asked BesideSeen strays (Ok reply) s t
          → SettlesChild g Asks Takes Fails asked was reply now_seen s t
      settled_replied None reply used = tt
      settled_replied (Some child) (Ok receipt) used = used
      settled_replied (Some child) (Err why) used = inl used

      pub settled_failed : (asked : Option (List ℕ)) (e : ServeFault) (why : Refusal)
          → (IsTrue has_failed ↔ IsLastingFault e) → ServesChild g Asks Takes Fails asked BesideSeen strays
          (Err e) s
          t → SettlesChild g Asks Takes Fails asked was (Err why) now_seen s t
      settled_failed None e why lasting used = tt
      settled_failed (Some child) e why lasting used =
          gives_weaker g Asks Takes Fails child (BesideSeen child) _ (IsLastingFault e) (has_failed ≡ true) strays s t
          (λ trees beside clean w stands opened. beside clean w (stood w stands).0 (stood w stands).1
          (were_open opened)) (λ l. lasting.1 l) used

    -- a crash shows nothing of what was refused, or failed before its commit
    pub no_trace_replied : (reply : Result Receipt Refusal) → r ≡ Ok reply → LeavesNoTrace g was reply now_seen
    no_trace_replied reply is refused usable clean w stands opened =
        it.unharmed (subst IsUntouched (sym is) refused) clean w before (stood w stands).1 (were_open opened)

    pub no_trace_failed : (e : ServeFault) → r ≡ Err e → (why : Refusal)
        → (IsTrue has_failed ↔ IsLastingFault e)
        → LeavesNoTrace g was (Err why) now_seen
    no_trace_failed e is why lasting refused usable clean w stands opened =
        it.unharmed (subst IsUntouched (sym is) (uncommitted e has_failed lasting usable)) clean w before
        (stood w stands).1 (were_open opened)

    -- a refusal leaves it standing for what it stood for
    pub still_replied : (reply : Result Receipt Refusal) → r ≡ Ok reply → StandsStill g was reply now_seen
    still_replied (Ok receipt) is refused w stands = absurd (let e = refused in cc)
    still_replied (Err why) is refused w stands = record {
      frame = (stood w stands).0.0;
      members = it.refused why is w (stood w stands).1;
      known = knows_more known noted w it.grows (stood w stands).0.1;
    }

    pub still_failed : (e : ServeFault) → r ≡ Err e → (why : Refusal) → StandsStill g was (Err why) now_seen
    still_failed e is why refused w stands = record {
      frame = (stood w stands).0.0;
      members = it.failed e is w (stood w stands).1;
      known = knows_more known noted w it.grows (stood w stands).0.1;
    }

    -- it has failed by a fault of a store, or by a request that was to get a new receipt
    pub rises_failed : (X : Type 0) (shelf_before shelf_after : ℕ) → TriesReceipt g f q old new known before r
        → (e : ServeFault) → r ≡ Err e → (why : Refusal)
        → why ≡ told_refusal e → (reply : Result Receipt Refusal) → reply ≡ Err why
        → (IsTrue has_failed ↔ IsLastingFault e) → CountsShelf {X = X} (Err e) shelf_before shelf_after
        → has_failed ≡ true
        → (shelf_after ≡ shelf_before) × ((reply ≡ Err StoreFault) ⊎ IsAccepted g q was now_seen)
    rises_failed X m n tried (Unshelved x) is why told reply replied lasting counts failed = absurd (lasting.0 failed)
    rises_failed X m n tried (Turn (Before fault.OutOfMemory)) is why told reply replied lasting counts failed =
        absurd (lasting.0 failed refl)
    rises_failed X m n tried (Turn (Before fault.StoreFault)) is why told reply replied lasting counts failed =
        (counts, inl (replied ∙ ap Err told))
    rises_failed X m n tried (Turn (Committing x)) is why told reply replied lasting counts failed =
        (counts, inr (λ clean w stands. tried x is clean w (stood w stands).0 (stood w stands).1))

    -- a world that can be used has no stray
    pub none_failed : (e : ServeFault) → r ≡ Err e → (IsTrue has_failed ↔ IsLastingFault e)
        → has_failed ≡ false
        → strays ≡ []
    none_failed e is lasting usable = it.usable e is (λ l. let t : IsTrue has_failed = lasting.1 l in cc)

-- why a reply tells that a store failed: the world has failed, or the shelf had none
pub cause_failed : (X : Type 0) (e : ServeFault) (has_failed : Bool) (before after : ℕ) (why : Refusal)
    → (IsTrue has_failed ↔ IsLastingFault e) → CountsShelf {X = X} (Err e) before after → why ≡ told_refusal e
    → why ≡ StoreFault → (has_failed ≡ true) ⊎ MoreFaults before after
cause_failed X (Unshelved x) has_failed before after why lasting counts told is = inr counts.0
cause_failed X (Turn (Before fault.OutOfMemory)) has_failed before after why lasting counts told is =
    absurd (let both : told_refusal (Turn (Before fault.OutOfMemory)) ≡ StoreFault = sym told ∙ is in cc)
cause_failed X (Turn (Before fault.StoreFault)) has_failed before after why lasting counts told is =
    inl (lasting.1 (λ same. cc))
cause_failed X (Turn (Committing x)) has_failed before after why lasting counts told is = inl (lasting.1 (λ same. cc))

-- the count of the shelf never falls
pub counts_grow : {X : Type 0} (r : Result X ServeFault) (before after : ℕ) → CountsShelf r before after
    → before ≤ after
counts_grow (Ok x) before after counts = omega (arith, counts)
counts_grow (Err (Unshelved x)) before after counts = counts.1
counts_grow (Err (Turn x)) before after counts = omega (arith, counts)
