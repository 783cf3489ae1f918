-- What serving a request says in each of the ways in which it ends, for all commands.
use Rattle.std.specs.Prelude.{◌≡◌, ◌≤◌, ℕ, ◌+◌, List, [], ◌++◌, map, refl, Some, Result, Ok}
use Rattle.std.specs.Prelude.{Err, IsOk}
use Rattle.std.proofs.Common.{sym, ap, subst, ◌∙◌, inl, inr}
use Rattle.std.specs.List.{AllByRecursion}
use Rattle.std.proofs.lemmas.List.{append-nil}
use Rattle.std.proofs.lemmas.List.Elements.{All-from_recursion}
use Rattle.std.proofs.lemmas.List.Sorted.{IsPermutation-refl}
use Rattle.std.specs.List.Sorted.{IsPermutation}
use Rattle.sqlite.specs.Store.{Ghosts}
use Rattle.sqlite.specs.Held.{Held, state}
use Rattle.sqlite.specs.State.{HasCleanDisk}
use Rattle.sheet_types.specs.Refuse.{greatest_receipts}
use Rattle.sheet_types.specs.Step.{outcome}
use Rattle.sheet_types.specs.World.{World, Package}
use Rattle.sheet_types.specs.declared.command.Command.{Command}
use Rattle.sheet_types.specs.declared.command.Request.{Request}
use Rattle.sheet_types.specs.declared.frame.Frame.{Frame}
use Rattle.sheet_types.specs.declared.receipt.Receipt.{Receipt}
use Rattle.sheet_types.specs.declared.refusal.Refusal.{Refusal}
use Rattle.store_sql.specs.Transactions.{Rests}
use Rattle.store_sql.specs.Stores.{LeavesEither}
use Rattle.store_sql.proofs.Transactions.{Shuts, Settles}
use Rattle.world_queries.specs.Asking.{AsksAll}
use Rattle.world_known.specs.Known.{Grows, Notes}
use Rattle.world_known.proofs.Remembering.{knows_more}
use Rattle.world_changes.specs.Carries.{Carries, ServesAll, HasNoReceipt, IsSeenBy, IsBeforeCommit, OfEachDue}
use Rattle.world_changes.specs.Carries.{OfEachSeen}
use Rattle.world_decisions.specs.Deciding.{IsOf, Decides, DecidesWhere, child_asked}
use Rattle.world_changes.specs.Giving.{IsUnlent}
use Rattle.world_changes.specs.Leaving.{AreAtRest, AreClean, AreBeside, IsChildBeside, LeavesOneOf}
use Rattle.sqlite.specs.Tree.{Trees}
use Rattle.world_changes.specs.Writing.{WritesTwoAtMost}
use Rattle.world_members.specs.Members.{AllRest, AllClean, AllOpen, AreMembers}
use Rattle.world_loans.specs.ServeFaults.{IsLastingFault, CountsShelf}
use Rattle.world.specs.Changes.{Changes}
use Rattle.world_changes.specs.Turns.{IsUncommitted}
use Rattle.world_members.specs.Turning.{IsDue, LeftAs, world_after}
use Rattle.register_lending.specs.declared.turn_fault.TurnFault.{TurnFault}
use Rattle.register_lending.specs.declared.turn_fault.TurnFault.TheVariants.{Before, Committing}
use Rattle.world_decisions.specs.declared.deciding.Change.{Change}
use Rattle.world_decisions.specs.declared.deciding.Decision.{Decision}
use Rattle.world_decisions.specs.declared.deciding.Decision.TheVariants.{Answered, ChangeDue, SplitDue, MergeDue}
use Rattle.world_loans.specs.declared.loans.Lending.{Lending}
use Rattle.world_loans.specs.declared.loans.Returning.{Returning}
use Rattle.world_loans.specs.Loans.{IsLent, IsReturned}
use Rattle.world_loans.specs.declared.loans.ServeFault.{ServeFault}
use Rattle.world_loans.specs.declared.loans.ServeFault.TheVariants.{Unshelved, Turn}
use Rattle.world_members.specs.declared.members.Member.{Member}
use Rattle.world.specs.Asked.{AsksFor, ComeHome, IsNoPackage, ServesWith, child_returned}
use Rattle.world.specs.Dates.{Dates}
use Rattle.world.proofs.Asks.{asks_nothing, uses_asked, uses_home}
use Rattle.world.proofs.CarriedOut.{leaves_before}
use Rattle.world_changes.proofs.Surviving.{read_before, stay_survive, survive_then}
use Rattle.world_changes.proofs.HeldStores.{held_clean, members_left}
use Rattle.world_changes.proofs.Lent.{none_beside}
use Rattle.world_changes.proofs.Writing.{written_since}
use Rattle.world.proofs.Noted.{knows_after}
use Rattle.world_members.proofs.Changing.{stay_leaves}
use Rattle.world_members.proofs.Standing.{members_stay, clean_before}

module _ {S : Type 0} (g : Ghosts S) (shuts : Shuts g) (settles : Settles g) where
  -- ---- a change of one package

  module _ (change : Change) (command : Command) (old new : List (Member S)) (before : ℕ) where
    abbrev DueChange : World → World → Type 0
    DueChange w next = (next ≡ world_after change.receipt command w)
        × IsDue w change.at change.receipt command change.sums

    pub carries_changed : (after : ℕ) (receipt : Receipt) → Changes g change command old new before after
        (Ok receipt)
        → (made : Carries g (λ w next. (next ≡ world_after change.receipt command w)
        × IsDue w change.at change.receipt command change.sums) change.receipt old new [] before after (Ok receipt))
        × (made.gone ≡ [])
    carries_changed after receipt it =
        let done = it.ok receipt refl in (
          record {
            gone = [];
            read = tt;
            survive = λ why is. absurd (let e = is in cc);
            rests = it.rests;
            stray_rests = All-from_recursion (λ h. Rests (state g h)) [] tt;
            clean = λ clean gone. it.clean clean;
            ok = λ x is. (
              let same : receipt ≡ x = cc in sym same ∙ done.0,
              done.1,
              refl,
              λ w next clean gone are is_due. subst (AreMembers g new after) (sym is_due.0)
                  (subst (λ n. AreMembers g new n (world_after change.receipt command w)) (sym done.1)
                  (done.2 w are is_due.1)),
            );
            opens = λ clean gone. it.opens clean;
            beside = λ x is w next are is_due was. none_beside g w.frame next.packages;
            kept = λ why is. absurd (let e = is in cc);
            err = λ why is. absurd (let e = is in cc);
            usable = λ why is. absurd (let e = is in cc);
            unharmed = λ why is. absurd (let e = is in cc);
            crash = λ why is. absurd (let e = is in cc);
          },
          refl,
        )

    -- one of two worlds, of the members alone
    either : (w : World) (after : List Package) → LeavesEither g (λ m. m.conn) (LeftAs w.frame) new w.packages after
        → LeavesOneOf g w.frame (map (λ m. m.conn) new) w.packages after
    either w after leaves clean contents may =
        elim (leaves (held_clean g [] new clean) contents (members_left g new contents may)) [
          | inl each ↦ inl (record {
            read = contents;
            rest = [];
            all =
                subst (IsPermutation contents) (sym (append-nil contents)) (IsPermutation-refl contents);
            each = each;
            beside = tt;
          })
          | inr each ↦ inr (record {
            read = contents;
            rest = [];
            all =
                subst (IsPermutation contents) (sym (append-nil contents)) (IsPermutation-refl contents);
            each = each;
            beside = tt;
          })
        ]

    pub carries_unchanged : (after : ℕ) (why : TurnFault) → Changes g change command old new before after (Err why)
        → Carries g (λ w next. (next ≡ world_after change.receipt command w)
        × IsDue w change.at change.receipt command change.sums) change.receipt old new [] before after
        (Err (Turn why))
    carries_unchanged after why it =
        let failed = it.err why refl in
        record {
          gone = [];
          read = tt;
          survive = λ other is. it.survive;
          rests = it.rests;
          stray_rests = All-from_recursion (λ h. Rests (state g h)) [] tt;
          clean = λ clean gone. it.clean clean;
          ok = λ receipt is. absurd (let e = is in cc);
          opens = λ clean gone. tt;
          beside = λ receipt is. absurd (let e = is in cc);
          kept = λ other is. refl;
          err = λ other is. failed;
          usable = λ other is usable. refl;
          unharmed = λ other is early. it.unharmed (elim why as
              (λ t. IsBeforeCommit (Turn t) → IsUncommitted {X = Receipt} (Err t))
              [ Before y ↦ λ e. tt | Committing y ↦ λ e. absurd e ]
              (subst IsBeforeCommit (let same : other ≡ Turn why = cc in same) early));
          crash = λ other is w next are is_due was. subst (λ v. LeavesOneOf g w.frame (map (λ m. m.conn) new)
              w.packages v.packages) (sym is_due.0) (either w (world_after change.receipt command w).packages
              (it.crash w are is_due.1 was));
        }

  none_rest : (strays : List (Held S)) → strays ≡ [] → AreAtRest g strays
  none_rest strays none = All-from_recursion (λ h. Rests (state g h)) strays
      (subst (AllByRecursion (λ h. Rests (state g h))) (sym none) tt)

  -- ---- a request

  module _ (f : Frame) (q : Request) (old mid : List (Member S)) (known noted : List (List ℕ))
      (grows : Grows known noted) (at_rest : AllRest g old) (before : ℕ) (low : before ≤ greatest_receipts)
      {E : Type 0} {r : Result Decision E} (it : AsksAll g {X = Decision} {E = E}
      (DecidesWhere known (IsOf f before) q) old mid r) where
    -- what was decided of a world
    pub decided : (decision : Decision) → r ≡ Ok decision → AllClean g mid → (w : World) → IsSeenBy f known w
        → AreMembers g old before w → Decides w q decision
    decided decision is clean w same are =
        let here : AsksAll g {X = Decision} {E = E} (DecidesWhere known (IsOf f before) q) old mid (Ok decision) =
        subst (AsksAll g {X = Decision} {E = E} (DecidesWhere known (IsOf f before) q) old mid) is it in
        here.told clean w before are same.1 (record { frame = same.0; counted = are.counted })

    pub decided_opens : (decision : Decision) → r ≡ Ok decision → AllClean g mid → AllOpen g old
        → AllOpen g mid
    decided_opens decision is clean was =
        let here : AsksAll g {X = Decision} {E = E} (DecidesWhere known (IsOf f before) q) old mid (Ok decision) =
        subst (AsksAll g {X = Decision} {E = E} (DecidesWhere known (IsOf f before) q) old mid) is it in
        here.stays_open clean was

    -- no decision was come to
    pub all_undecided : (strays : List (Held S)) (why : ServeFault) → strays ≡ [] → IsBeforeCommit why
        → ServesAll g f q old mid strays known noted before before (Err why)
    all_undecided strays why none early = record {
      gone = [];
      read = tt;
      dropped = λ none. refl;
      survive = λ none. stay_survive g old mid it.stay;
      tried = λ x is. absurd (subst IsBeforeCommit (let same : why ≡ Turn (Committing x) = cc in same) early);
      rests = it.rests;
      stray_rests = none_rest strays none;
      counted = low;
      grows = grows;
      clean = λ clean gone. clean_before g old mid it.stay clean;
      told = λ clean gone reply is. absurd (let e = is in cc);
      opens = λ clean gone. tt;
      beside = λ clean gone reply is. absurd (let e = is in cc);
      refused = λ other is. absurd (let e = is in cc);
      failed = λ other is w are. members_stay g old mid before w it.stay are;
      none = λ reply is. none;
      usable = λ other is usable. none;
      unharmed = λ untouched. stay_leaves g shuts settles old mid at_rest it.stay;
      crash = λ other is w same are was. leaves_before g old mid strays w before (outcome w q).1.packages none
          (stay_leaves g shuts settles old mid at_rest it.stay) are was;
    }

    -- a reply was come to
    pub all_answered : (strays : List (Held S)) (answer : Result Receipt Refusal) → strays ≡ []
        → r ≡ Ok (Answered answer) → (made : ServesAll g f q old mid strays known noted before before (Ok answer))
        × (made.gone ≡ [])
    all_answered strays answer none is = (
      record {
        gone = [];
        read = tt;
        dropped = λ none. refl;
        survive = λ none. stay_survive g old mid it.stay;
        tried = λ x is'. absurd (let e = is' in cc);
        rests = it.rests;
        stray_rests = none_rest strays none;
        counted = low;
        grows = grows;
        clean = λ clean gone. clean_before g old mid it.stay clean;
        told = λ clean gone reply same_reply w same are.
            let answered : answer ≡ reply = cc in
            record {
              next = w;
              told = decided (Answered answer) is clean w same are ∙ ap (λ x. (x, w)) answered;
              frame = refl;
              members = members_stay g old mid before w it.stay are;
              known = knows_more known noted w grows same.1;
            };
        opens = λ clean gone. decided_opens (Answered answer) is clean;
        beside = λ clean gone reply is' w same are was. none_beside g w.frame (outcome w q).1.packages;
        refused = λ why is' w are. members_stay g old mid before w it.stay are;
        failed = λ why is'. absurd (let e = is' in cc);
        none = λ reply is'. none;
        usable = λ why is'. absurd (let e = is' in cc);
        unharmed = λ untouched. stay_leaves g shuts settles old mid at_rest it.stay;
        crash = λ why is'. absurd (let e = is' in cc);
      },
      refl,
    )

    module _ (Due : World → World → Type 0) (due : Receipt) (new : List (Member S)) (strays : List (Held S))
        (after : ℕ) (decision : Decision) (is : r ≡ Ok decision)
        (so : AllClean g mid → (w : World) → IsSeenBy f known w → AreMembers g old before w → (next : World)
        × (outcome w q ≡ (Ok due, next)) × (next.frame ≡ w.frame) × Due w next) where
      -- what was due was carried out
      pub all_carried_out : Notes noted due → (receipt : Receipt) → before + 1 ≤ greatest_receipts
          → (made : Carries g Due due mid new strays before after (Ok receipt))
          → (all : ServesAll g f q old new strays known noted before after (Ok (Ok receipt)))
          × (all.gone ≡ made.gone)
      all_carried_out notes receipt bounded made =
          let done = made.ok receipt refl in (
            record {
              gone = made.gone;
              read = read_before g old mid made.gone it.stay made.read;
              dropped = λ none. absurd (let e = none in cc);
              survive = λ none. absurd (let e = none in cc);
              tried = λ x is'. absurd (let e = is' in cc);
              rests = made.rests;
              stray_rests = made.stray_rests;
              counted = rw done.1 bounded;
              grows = grows;
              clean = λ clean gone. clean_before g old mid it.stay (made.clean clean gone);
              told = λ clean gone reply same_reply w same are.
                  let x = so (made.clean clean gone) w same are in
                  let replied : Ok receipt ≡ reply = cc in
                  record {
                    next = x.0;
                    told = x.1 ∙ ap (λ a. (Ok a, x.0)) (sym done.0) ∙ ap (λ a. (a, x.0)) replied;
                    frame = x.2;
                    members = done.3 w x.0 clean gone (members_stay g old mid before w it.stay are) x.3;
                    known = knows_after q due known noted grows notes w x.0 same.1 x.1;
                  };
              opens = λ clean gone was. made.opens clean gone (decided_opens decision is (made.clean clean gone) was);
              beside = λ clean gone reply same_reply w same are was.
                  let x = so (made.clean clean gone) w same are in
                  subst (λ v. AreBeside g w.frame v.packages made.gone) (sym (ap (λ o. o.1) x.1))
                  (made.beside receipt refl w x.0 (members_stay g old mid before w it.stay are) x.3
                  (decided_opens decision is (made.clean clean gone) was));
              refused = λ why is'. absurd (let e = is' in cc);
              failed = λ why is'. absurd (let e = is' in cc);
              none = λ reply is'. done.2;
              usable = λ why is'. absurd (let e = is' in cc);
              unharmed = λ untouched. absurd (let e = untouched in cc);
              crash = λ why is'. absurd (let e = is' in cc);
            },
            refl,
          )

      -- or it failed
      pub all_failed : (why : ServeFault) → Carries g Due due mid new strays before after (Err why)
          → ServesAll g f q old new strays known noted before after (Err why)
      all_failed why made = record {
        gone = made.gone;
        read = read_before g old mid made.gone it.stay made.read;
        dropped = λ none. made.kept why refl;
        survive = λ none. survive_then g old mid new (stay_survive g old mid it.stay) (made.survive why refl);
        tried = λ x is' clean w same are.
            let due_is = so (was_clean clean) w same are in
            subst (λ o. IsOk o.0) (sym due_is.1) refl;
        rests = made.rests;
        stray_rests = made.stray_rests;
        counted = rw (made.err why refl).0 low;
        grows = grows;
        clean = λ clean gone. clean_before g old mid it.stay (made.clean clean gone);
        told = λ clean gone reply is'. absurd (let e = is' in cc);
        opens = λ clean gone. tt;
        beside = λ clean gone reply is'. absurd (let e = is' in cc);
        refused = λ other is'. absurd (let e = is' in cc);
        failed = λ other is' w are. subst (λ n. AreMembers g new n w) (sym (made.err why refl).0)
            ((made.err why refl).1 w (members_stay g old mid before w it.stay are));
        none = λ reply is'. absurd (let e = is' in cc);
        usable = λ other is' usable. made.usable why refl (λ lasting. usable
            (subst IsLastingFault (let same : why ≡ other = cc in same) lasting));
        unharmed = λ untouched clean w count are was. made.unharmed why refl untouched clean w count
            (members_stay g old mid count w it.stay are) (decided_opens decision is (was_clean clean) was);
        crash = λ other is' w same are was clean contents may.
            let disks : AllClean g mid = was_clean (held_clean g strays new clean) in
            let x = so disks w same are in
            subst (λ v. LeavesOneOf g w.frame (strays ++ map (λ m. m.conn) new) w.packages v.packages)
            (sym (ap (λ o. o.1) x.1)) (made.crash why refl w x.0 (members_stay g old mid before w it.stay are) x.3
            (decided_opens decision is disks was)) clean contents may;
      }
        where
          was_clean : AllClean g new → AllClean g mid
          was_clean clean = made.clean clean (subst (AreClean g) (sym (made.kept why refl))
              (All-from_recursion (λ h. HasCleanDisk (state g h)) [] tt))

-- ---- each kind of what is due

module _ {S : Type 0} (g : Ghosts S) (shuts : Shuts g) (settles : Settles g) (f : Frame) (q : Request)
    (old mid : List (Member S)) (known noted : List (List ℕ)) (grows : Grows known noted) (at_rest : AllRest g old)
    (before : ℕ) (low : before ≤ greatest_receipts) {E : Type 0} {r : Result Decision E}
    (it : AsksAll g {X = Decision} {E = E} (DecidesWhere known (IsOf f before) q) old mid r) where
  abbrev So : (World → World → Type 0) → Receipt → Type 0
  So Due due = AllClean g mid → (w : World) → IsSeenBy f known w → AreMembers g old before w → (next : World)
      × (outcome w q ≡ (Ok due, next)) × (next.frame ≡ w.frame) × Due w next

  change_so : (change : Change) → r ≡ Ok (ChangeDue change) → So
      (λ w next. (next ≡ world_after change.receipt q.command w)
      × IsDue w change.at change.receipt q.command change.sums) change.receipt
  change_so change is clean w same are =
      let d : Decides w q (ChangeDue change) = decided g shuts settles f q old mid known noted grows at_rest before
      low it (ChangeDue change) is clean w same are in
      (world_after change.receipt q.command w, d.1, refl, (refl, d.2))

  split_so : (due : Lending) → r ≡ Ok (SplitDue due) → So (λ w next. (f ≡ w.frame) × IsLent w next due)
      due.receipt
  split_so due is clean w same are =
      let d : Decides w q (SplitDue due) = decided g shuts settles f q old mid known noted grows at_rest before low it
      (SplitDue due) is clean w same are in
      (d.0, d.1, d.2.after.frame, (same.0, d.2))

  -- no package of the world has the child's UUID
  pub split_apart : (due : Lending) → r ≡ Ok (SplitDue due) → AllClean g mid → (w : World)
      → IsSeenBy f known w
      → AreMembers g old before w → IsNoPackage w due.child
  split_apart due is clean w same are =
      let d : Decides w q (SplitDue due) = decided g shuts settles f q old mid known noted grows at_rest before low it
      (SplitDue due) is clean w same are in
      d.2.apart

  -- what is beside the world that it has not changed
  pub unlent_seen : (due : Lending) (new : List (Member S)) → r ≡ Ok (SplitDue due)
      → (AllClean g new → AllClean g mid) → (trees : Trees) → IsUnlent g f due mid new trees → AllClean g new
      → OfEachSeen g f known old before (λ w. AllOpen g old → IsChildBeside w.frame w.packages due.child trees)
  unlent_seen due new is was trees unlent clean w same are opened =
      let x = split_so due is (was clean) w same are in
      unlent clean w x.0 before same.0 (members_stay g old mid before w it.stay are) x.3.1
      (decided_opens g shuts settles f q old mid known noted grows at_rest before low it (SplitDue due) is
      (was clean) opened)

  -- what no world is after a merge that is due is of none that the request makes
  pub merge_apart : (due : Returning) → r ≡ Ok (MergeDue due) → (uuid : List ℕ)
      → ((w next : World) → AreMembers g mid before w → IsReturned w next due → IsNoPackage next uuid)
      → AllClean g mid → (w : World) → IsSeenBy f known w → AreMembers g old before w
      → IsNoPackage (outcome w q).1 uuid
  merge_apart due is uuid apart clean w same are =
      let d : Decides w q (MergeDue due) = decided g shuts settles f q old mid known noted grows at_rest before low it
      (MergeDue due) is clean w same are in
      subst (λ v. IsNoPackage v uuid) (sym (ap (λ o. o.1) d.1))
      (apart w d.0 (members_stay g old mid before w it.stay are) d.2)

  merge_so : (due : Returning) → r ≡ Ok (MergeDue due) → So (λ w next. IsReturned w next due) due.receipt
  merge_so due is clean w same are =
      let d : Decides w q (MergeDue due) = decided g shuts settles f q old mid known noted grows at_rest before low it
      (MergeDue due) is clean w same are in
      (d.0, d.1, d.2.after.frame, d.2)

  module _ (new : List (Member S)) (strays : List (Held S)) (after : ℕ) where
    pub change_served : (change : Change) (receipt : Receipt) → Notes noted change.receipt → strays ≡ []
        → r ≡ Ok (ChangeDue change) → before + 1 ≤ greatest_receipts
        → Changes g change q.command mid new before after (Ok receipt)
        → (all : ServesAll g f q old new strays known noted before after (Ok (Ok receipt))) × (all.gone ≡ [])
    change_served change receipt notes none is bounded made =
        let carried = carries_changed g shuts settles change q.command mid new before after receipt made in
        let all = (all_carried_out g shuts settles f q old mid known noted grows at_rest before low it
        (λ w next. (next ≡ world_after change.receipt q.command w)
        × IsDue w change.at change.receipt q.command change.sums) change.receipt new [] after
        (ChangeDue change) is (change_so change is) notes receipt bounded carried.0) in
        subst (λ ss. (x : ServesAll g f q old new ss known noted before after (Ok (Ok receipt))) × (x.gone ≡ []))
        (sym none) (all.0, all.1 ∙ carried.1)

    pub change_failed : (change : Change) (why : TurnFault) → strays ≡ [] → r ≡ Ok (ChangeDue change)
        → Changes g change q.command mid new before after (Err why)
        → ServesAll g f q old new strays known noted before after (Err (Turn why))
    change_failed change why none is made = subst (λ ss. ServesAll g f q old new ss known noted before after
        (Err (Turn why))) (sym none)
        (all_failed g shuts settles f q old mid known noted grows at_rest before low it
        (λ w next. (next ≡ world_after change.receipt q.command w)
        × IsDue w change.at change.receipt q.command change.sums) change.receipt new [] after (ChangeDue change)
        is (change_so change is) (Turn why) (carries_unchanged g shuts settles change q.command mid new before
        after why made))

    pub split_served : (due : Lending) (receipt : Receipt) → Notes noted due.receipt → r ≡ Ok (SplitDue due)
        → before + 1 ≤ greatest_receipts → (made : Carries g (λ w next. (f ≡ w.frame) × IsLent w next due)
        due.receipt
        mid new strays before after (Ok receipt)) → (all : ServesAll g f q old new strays known noted before after
        (Ok (Ok receipt))) × (all.gone ≡ made.gone)
    split_served due receipt notes is bounded made = all_carried_out g shuts settles f q old mid known noted grows
        at_rest before low it (λ w next. (f ≡ w.frame) × IsLent w next due) due.receipt new strays after
        (SplitDue due) is (split_so due is) notes receipt bounded made

    pub split_failed : (due : Lending) (why : ServeFault) → r ≡ Ok (SplitDue due)
        → Carries g (λ w next. (f ≡ w.frame) × IsLent w next due) due.receipt mid new strays before after
        (Err why)
        → ServesAll g f q old new strays known noted before after (Err why)
    split_failed due why is made = all_failed g shuts settles f q old mid known noted grows at_rest before low it
        (λ w next. (f ≡ w.frame) × IsLent w next due) due.receipt new strays after (SplitDue due) is
        (split_so due is)
        why made

    pub merge_served : (due : Returning) (receipt : Receipt) → Notes noted due.receipt → strays ≡ []
        → r ≡ Ok (MergeDue due) → before + 1 ≤ greatest_receipts
        → (made : Carries g (λ w next. IsReturned w next due) due.receipt mid new [] before after (Ok receipt))
        → (all : ServesAll g f q old new strays known noted before after (Ok (Ok receipt)))
        × (all.gone ≡ made.gone)
    merge_served due receipt notes none is bounded made = subst
        (λ ss. (x : ServesAll g f q old new ss known noted before after (Ok (Ok receipt))) × (x.gone ≡ made.gone))
        (sym none)
        (all_carried_out g shuts settles f q old mid known noted grows at_rest before low it
        (λ w next. IsReturned w next due) due.receipt new [] after (MergeDue due) is (merge_so due is) notes
        receipt bounded made)

    pub merge_failed : (due : Returning) (why : ServeFault) → strays ≡ [] → r ≡ Ok (MergeDue due)
        → Carries g (λ w next. IsReturned w next due) due.receipt mid new [] before after (Err why)
        → ServesAll g f q old new strays known noted before after (Err why)
    merge_failed due why none is made = subst (λ ss. ServesAll g f q old new ss known noted before after (Err why))
        (sym none)
        (all_failed g shuts settles f q old mid known noted grows at_rest before low it
        (λ w next. IsReturned w next due) due.receipt new [] after (MergeDue due) is (merge_so due is) why made)

    -- the store that a merge lets go was given back, and nothing was asked for
    pub merge_with : {H : Type 0} (Asks : List ℕ → H → H → Type 0)
        (Takes : List ℕ → S → H → H → Type 0) (s t : H)
        {made_reply : Result Receipt ServeFault} {reply : Result (Result Receipt Refusal) ServeFault}
        (due : Returning) → r ≡ Ok (MergeDue due) → (made : Carries g (λ w next. IsReturned w next due)
        due.receipt
        mid new [] before after made_reply)
        → ComeHome g Takes mid (λ uuid. (child_returned q.command ≡ Some uuid)
        × OfEachDue g (λ w next. IsReturned w next due) mid before (λ w next. IsNoPackage next uuid)) made.gone s
        t → WritesTwoAtMost g (child_asked q.command) (child_returned q.command) mid new made.gone
        → (all : ServesAll g f q old new strays known noted before after reply) → all.gone ≡ made.gone
        → Dates g f q old new known before after made.gone reply
        → (x : ServesAll g f q old new strays known noted before after reply)
        × ServesWith g Asks Takes f q old new known before x.gone s t
        × WritesTwoAtMost g (child_asked q.command) (child_returned q.command) old new x.gone
        × Dates g f q old new known before after x.gone reply
    merge_with Asks Takes s t {reply = reply} due is made home writes all same dates = (
      all,
      subst (λ gone. ServesWith g Asks Takes f q old new known before gone s t) (sym same)
          (uses_home g Asks Takes old mid (child_asked q.command)
          (λ child. AllClean g new → OfEachSeen g f known old before (λ w. IsNoPackage w child))
          (λ uuid. (child_returned q.command ≡ Some uuid)
          × OfEachDue g (λ w next. IsReturned w next due) mid before (λ w next. IsNoPackage next uuid))
          (λ uuid. (child_returned q.command ≡ Some uuid) × (AllClean g new → AreClean g made.gone
          → OfEachSeen g f known old before (λ w. IsNoPackage (outcome w q).1 uuid))) made.gone s t it.stay
          (λ uuid both. (
            both.0,
            λ clean gone w seen are. merge_apart due is uuid both.1 (made.clean clean gone) w
                seen are,
          )) home),
      subst (WritesTwoAtMost g (child_asked q.command) (child_returned q.command) old new) (sym same)
          (written_since g (child_asked q.command) (child_returned q.command) old mid it.stay new made.gone writes),
      subst (λ gone. Dates g f q old new known before after gone reply) (sym same) dates,
    )

-- ---- what a shelf is asked for

module _ {S : Type 0} (g : Ghosts S) {H : Type 0} (Asks : List ℕ → H → H → Type 0)
    (Takes : List ℕ → S → H → H → Type 0) {f : Frame} {q : Request} {old new : List (Member S)}
    {strays : List (Held S)} {known noted : List (List ℕ)} {before after : ℕ}
    {r : Result (Result Receipt Refusal) ServeFault} where
  -- nothing was given back
  pub with_asked : (s t : H) → (all : ServesAll g f q old new strays known noted before after r) → all.gone ≡ []
      → AsksFor Asks Takes (child_asked q.command) (λ child. AllClean g new
      → OfEachSeen g f known old before (λ w. IsNoPackage w child)) s t
      → WritesTwoAtMost g (child_asked q.command) (child_returned q.command) old new []
      → Dates g f q old new known before after [] r
      → (x : ServesAll g f q old new strays known noted before after r)
      × ServesWith g Asks Takes f q old new known before x.gone s t
      × WritesTwoAtMost g (child_asked q.command) (child_returned q.command) old new x.gone
      × Dates g f q old new known before after x.gone r
  with_asked s t all none asked writes dates = (
    all,
    uses_asked g Asks Takes old (child_asked q.command) (λ child. AllClean g new
        → OfEachSeen g f known old before (λ w. IsNoPackage w child))
        (λ uuid. (child_returned q.command ≡ Some uuid) × (AllClean g new → AreClean g all.gone
        → OfEachSeen g f known old before (λ w. IsNoPackage (outcome w q).1 uuid))) all.gone s t none asked,
    subst (WritesTwoAtMost g (child_asked q.command) (child_returned q.command) old new) (sym none) writes,
    subst (λ gone. Dates g f q old new known before after gone r) (sym none) dates,
  )

  -- and nothing was asked for
  pub with_nothing : (s : H) → (all : ServesAll g f q old new strays known noted before after r) → all.gone ≡ []
      → WritesTwoAtMost g (child_asked q.command) (child_returned q.command) old new []
      → Dates g f q old new known before after [] r
      → (x : ServesAll g f q old new strays known noted before after r)
      × ServesWith g Asks Takes f q old new known before x.gone s s
      × WritesTwoAtMost g (child_asked q.command) (child_returned q.command) old new x.gone
      × Dates g f q old new known before after x.gone r
  with_nothing s all none writes dates = with_asked s s all none (asks_nothing Asks Takes (child_asked q.command)
      (λ child. AllClean g new → OfEachSeen g f known old before (λ w. IsNoPackage w child)) s s refl) writes dates

  -- where there is a fault no connection left the world
  pub none_gone : {why : ServeFault} → r ≡ Err why → (all : ServesAll g f q old new strays known noted before
      after r)
      → all.gone ≡ []
  none_gone is all = all.dropped (subst HasNoReceipt (sym is) tt)

-- ---- the count of the shelf

-- where a turn failed the shelf is as it was
pub counts_turn : {X : Type 0} (r : Result X ServeFault) (turn : TurnFault) (n : ℕ) → r ≡ Err (Turn turn)
    → CountsShelf r n n
counts_turn r turn n is = subst (λ x. CountsShelf x n n) (sym is) refl

-- a fault that is handed on counts as it did
pub counts_handed : (X Y : Type 0) (r : Result Y ServeFault) (why : ServeFault) (old new : ℕ) → r ≡ Err why
    → CountsShelf {X = X} (Err why) old new → CountsShelf {X = Y} r old new
counts_handed X Y r why old new is counts = subst (λ x. CountsShelf {X = Y} x old new) (sym is) (same why counts)
  where
    same : (e : ServeFault) → CountsShelf {X = X} (Err e) old new → CountsShelf {X = Y} (Err e) old new
    same (Unshelved x) h = h
    same (Turn x) h = h
