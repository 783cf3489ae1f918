-- What is due is carried out among the members of a world that can be used.
use Rattle.std.specs.Prelude.{◌≡◌, ℕ, ◌+◌, List, [], ◌∷◌, ◌++◌, map, refl, Some, slice_get}
use Rattle.std.specs.Prelude.{Result, Ok, Err, IsTrue}
use Rattle.std.proofs.Common.{sym, ap, subst, ◌∙◌, inl, inr}
use Rattle.std.specs.List.{AllByRecursion}
use Rattle.std.proofs.lemmas.List.{append-nil}
use Rattle.std.proofs.lemmas.List.Elements.{All-from_recursion}
use Rattle.std.proofs.lemmas.List.Sorted.{IsPermutation-refl}
use Rattle.std.specs.List.Sorted.{IsPermutation}
use Rattle.sqlite.specs.Store.{Ghosts}
use Rattle.sqlite.specs.Held.{Held, state}
use Rattle.sqlite.specs.State.{HasCleanDisk}
use Rattle.sheet_types.specs.World.{World, Package}
use Rattle.sheet_types.specs.declared.command.Command.{Command}
use Rattle.sheet_types.specs.declared.frame.Frame.{Frame}
use Rattle.sheet_types.specs.declared.receipt.Receipt.{Receipt}
use Rattle.store_sql.specs.Staying.{Stays}
use Rattle.store_sql.specs.Transactions.{Rests}
use Rattle.store_sql.proofs.Transactions.{Shuts, Settles}
use Rattle.store_sql.proofs.StoreLemmas.{same_world}
use Rattle.package_tables.specs.declared.fault.Fault.TheVariants as fault
use Rattle.world_changes.specs.Carries.{Carries, IsBeforeCommit, OfEachDue}
use Rattle.world_changes.specs.Giving.{IsUnlent, LeavesBlankOr}
use Rattle.world_changes.specs.Leaving.{AreAtRest, LeavesOneOf}
use Rattle.world_changes.specs.Writing.{WritesTwoAtMost}
use Rattle.world_decisions.specs.Deciding.{child_asked}
use Rattle.world_loans.specs.Loans.{IsLent, IsReturned}
use Rattle.world_members.specs.Members.{AllRest, AllClean, AllOpen, AllStay, AreMembers, IsMember}
use Rattle.world_changes.specs.Merges.{Merges}
use Rattle.world_loans.specs.ServeFaults.{IsLastingFault}
use Rattle.world_changes.specs.Turns.{IsUncommitted}
use Rattle.world_changes.specs.Splits.{Splits, KeepsLoan}
use Rattle.world_members.specs.Turning.{LeftAs, LeavesAsBefore}
use Rattle.register_lending.specs.declared.turn_fault.TurnFault.{TurnFault}
use Rattle.register_lending.specs.declared.turn_fault.TurnFault.TheVariants.{Before, Committing}
use Rattle.world_loans.specs.declared.loans.Lending.{Lending}
use Rattle.world_loans.specs.declared.loans.Returning.{Returning}
use Rattle.world_loans.specs.declared.loans.ServeFault.{ServeFault}
use Rattle.world_loans.specs.declared.loans.ServeFault.TheVariants.{Turn}
use Rattle.world_members.specs.declared.members.Member.{Member}
use Rattle.world_members.proofs.Changing.{stay_leaves}
use Rattle.world_changes.proofs.Surviving.{stay_survive, survive_then}
use Rattle.world_changes.proofs.HeldStores.{held_clean, members_left}
use Rattle.world_changes.proofs.Writing.{merge_written}
use Rattle.world_changes.proofs.Lent.{child_left, is_beside, none_beside}
use Rattle.world_members.proofs.Standing.{members_stay, clean_before, zip_at}
use Rattle.world.specs.Asked.{ComeHome, GivenBack, HasUuidAt, IsNoPackage, child_returned}

module _ {S : Type 0} (g : Ghosts S) where
  -- where nothing came of it no connection left the world
  pub unkept : {Due : World → World → Type 0} {due : Receipt} {old new : List (Member S)} {strays : List (Held S)}
      {before after : ℕ} {r : Result Receipt ServeFault} {why : ServeFault} → r ≡ Err why
      → Carries g Due due old new strays before after r → (made : Carries g Due due old new strays before after r)
      × (made.gone ≡ [])
  unkept {why = why} is made = (made, made.kept why is)

  -- ---- the stores that are held

  no_held : (P : Held S → Type 0) → (strays : List (Held S)) → strays ≡ [] → AllByRecursion P strays
  no_held P strays none = subst (AllByRecursion P) (sym none) tt

  -- members that leave what they left before stand for the world before
  pub leaves_before : (old new : List (Member S)) (strays : List (Held S)) (w : World) (count : ℕ)
      (after : List Package) → strays ≡ [] → LeavesAsBefore g old new → AreMembers g old count w
      → AllOpen g old
      → LeavesOneOf g w.frame (strays ++ map (λ m. m.conn) new) w.packages after
  leaves_before old new strays w count after none as_before are opened =
      subst (λ ss. LeavesOneOf g w.frame (ss ++ map (λ m. m.conn) new) w.packages after) (sym none)
      (λ clean contents may. inl (record {
        read = contents;
        rest = [];
        all = subst (IsPermutation contents) (sym (append-nil contents)) (IsPermutation-refl contents);
        each = same_world g (λ (m : Member S). m.conn) (LeftAs w.frame) new w.packages contents
            (as_before (held_clean g [] new clean) w count are opened) (members_left g new contents may);
        beside = tt;
      }))

  module _ (shuts : Shuts g) (settles : Settles g) where
    -- ---- nothing was begun

    pub carries_unbegun : (Due : World → World → Type 0) (due : Receipt) (old mid : List (Member S))
        (strays : List (Held S)) (count : ℕ) (why : ServeFault) → strays ≡ [] → AllRest g old → AllRest g mid
        → AllStay g old mid → IsBeforeCommit why
        → Carries g Due due old mid strays count count (Err why)
    carries_unbegun Due due old mid strays count why none at_rest rests stay early = record {
      gone = [];
      read = tt;
      survive = λ other is. stay_survive g old mid stay;
      rests = rests;
      stray_rests = All-from_recursion (λ h. Rests (state g h)) strays (no_held (λ h. Rests (state g h)) strays none);
      clean = λ clean gone. clean_before g old mid stay clean;
      ok = λ receipt is. absurd (let e = is in cc);
      opens = λ clean gone. tt;
      beside = λ receipt is. absurd (let e = is in cc);
      kept = λ other is. refl;
      err = λ other is. (refl, λ w are. members_stay g old mid count w stay are);
      usable = λ other is lasting. none;
      unharmed = λ other is early'. stay_leaves g shuts settles old mid at_rest stay;
      crash = λ other is w next are is_due opened. leaves_before old mid strays w count next.packages none
          (stay_leaves g shuts settles old mid at_rest stay) are opened;
    }

    -- ---- a split

    module _ (f : Frame) (due : Lending) (child : Held S) (old mid new : List (Member S)) (strays : List (Held S))
        (before : ℕ) (at_rest : AllRest g old) (stay : AllStay g old mid)
        (opened : AllClean g mid → AllOpen g old → AllOpen g mid) (child_rests : Rests (state g child))
        (child_open : HasCleanDisk (state g child) → IsTrue (state g child).is_open)
        (keeps : AllClean g mid → (w next : World) (count : ℕ) → f ≡ w.frame → AreMembers g old count w
        → (lent : IsLent w next due) → KeepsLoan g w next due lent child) where
      abbrev IsDueOf : World → World → Type 0
      IsDueOf w next = (f ≡ w.frame) × IsLent w next due

      pub carries_lent : (after : ℕ) (receipt : Receipt) → after ≡ before + 1
          → Splits g due child mid new [] strays (Ok receipt)
          → (made : Carries g (λ w next. (f ≡ w.frame) × IsLent w next due) due.receipt old new strays before
          after
          (Ok receipt)) × (made.gone ≡ [])
      carries_lent after receipt counted it =
          let done = it.done receipt refl in (
            record {
              gone = [];
              read = tt;
              survive = λ why is. absurd (let e = is in cc);
              rests = it.rests;
              stray_rests = All-from_recursion (λ h. Rests (state g h)) strays
                  (no_held (λ h. Rests (state g h)) strays done.1);
              clean = λ clean gone. clean_before g old mid stay (it.clean clean);
              ok = λ x is. (
                let same : receipt ≡ x = cc in sym same ∙ done.0,
                counted,
                done.1,
                λ w next clean gone are is_due. subst (λ n. AreMembers g new n next) (sym counted)
                    (done.3 w next before clean (members_stay g old mid before w stay are) is_due.1
                    (keeps (it.clean clean) w next before is_due.0 are is_due.1)),
              );
              opens = λ clean gone was. it.opens clean (opened (it.clean clean) was) child_open;
              beside = λ x is w next are is_due was. none_beside g w.frame next.packages;
              kept = λ why is. absurd (let e = is in cc);
              err = λ why is. absurd (let e = is in cc);
              usable = λ why is. absurd (let e = is in cc);
              unharmed = λ why is. absurd (let e = is in cc);
              crash = λ why is. absurd (let e = is in cc);
            },
            refl,
          )

      module _ (why : TurnFault) (it : Splits g due child mid new [] strays (Err why)) where
        uncommitted_leaves : IsUncommitted {X = Receipt} (Err why) → LeavesAsBefore g old new
        uncommitted_leaves early clean w count are was = it.unharmed early clean w count
            (members_stay g old mid count w stay are) (opened (it.clean clean) was)

        -- the child is kept, or nothing was written in the parent
        kept_or_dropped : (P : List (Held S) → Type 0) → (IsUncommitted {X = Receipt} (Err why) → strays ≡ []
            → P strays) → P (child ∷ []) → P strays
        kept_or_dropped P dropped kept =
            elim why as (λ x. why ≡ x → P strays) [
              | Before x ↦ λ is. elim x as (λ y. why ≡ Before y → P strays) [
                | fault.OutOfMemory ↦ λ same. dropped (subst (λ t. IsUncommitted {X = Receipt} (Err t)) (sym same)
                    tt)
                    (it.dropped (ap Err same))
                | fault.StoreFault ↦ λ same. subst P (sym (it.kept why refl
                    (λ e. let both : Before fault.StoreFault ≡ Before fault.OutOfMemory = sym same ∙ e in cc)))
                    kept
              ] is
              | Committing x ↦ λ is. subst P (sym (it.kept why refl
                  (λ e. let both : Committing x ≡ Before fault.OutOfMemory = sym is ∙ e in cc))) kept
            ] refl

        not_lasting : ¬ IsLastingFault (Turn why) → strays ≡ []
        not_lasting usable =
            elim why as (λ x. why ≡ x → strays ≡ []) [
              | Before x ↦ λ is. elim x as (λ y. why ≡ Before y → strays ≡ []) [
                | fault.OutOfMemory ↦ λ same. it.dropped (ap Err same)
                | fault.StoreFault ↦ λ same. absurd (usable (λ e. let both :
                    Before fault.StoreFault ≡ Before fault.OutOfMemory = sym same ∙ e in cc))
              ] is
              | Committing x ↦ λ is. absurd (usable (λ e. let both : Committing x ≡ Before fault.OutOfMemory =
                  sym is ∙ e in cc))
            ] refl

        early_of : (x : ServeFault) → Turn why ≡ x → IsBeforeCommit x → IsUncommitted {X = Receipt} (Err why)
        early_of x is early = elim why as (λ t. IsBeforeCommit (Turn t) → IsUncommitted {X = Receipt} (Err t))
            [ Before y ↦ λ e. tt | Committing y ↦ λ e. absurd e ] (subst IsBeforeCommit (sym is) early)

        -- what the shelf may get back is beside the world
        pub child_beside : LeavesBlankOr g (IsUnlent g f due old new) child
        child_beside disk trees may =
            inr (λ clean w next count same are is was. is_beside g w next due is trees
            (inr (child_left g shuts settles due child old mid strays at_rest child_rests w next is
            (keeps (it.clean clean) w next count same are is) disk trees may)))

        pub carries_unlent : Carries g (λ w next. (f ≡ w.frame) × IsLent w next due) due.receipt old new strays
            before
            before (Err (Turn why))
        carries_unlent = record {
          gone = [];
          read = tt;
          survive = λ other is. survive_then g old mid new (stay_survive g old mid stay) (it.survive why refl);
          rests = it.rests;
          stray_rests = kept_or_dropped (AreAtRest g) (λ early none. All-from_recursion (λ h. Rests (state g h))
              strays (no_held (λ h. Rests (state g h)) strays none))
              (All-from_recursion (λ h. Rests (state g h)) (child ∷ []) (child_rests, tt));
          clean = λ clean gone. clean_before g old mid stay (it.clean clean);
          ok = λ receipt is. absurd (let e = is in cc);
          opens = λ clean gone. tt;
          beside = λ receipt is. absurd (let e = is in cc);
          kept = λ other is. refl;
          err = λ other is. (
            refl,
            λ w are. (it.failed why refl).1 w before
                (members_stay g old mid before w stay are),
          );
          usable = λ other is usable. not_lasting (λ lasting. let same : Turn why ≡ other =
              cc in usable (subst IsLastingFault same lasting));
          unharmed = λ other is early. uncommitted_leaves (early_of other (let same : Turn why ≡ other = cc in same)
              early);
          crash = λ other is w next are is_due was.
              kept_or_dropped (λ ss. LeavesOneOf g w.frame (ss ++ map (λ m. m.conn) new) w.packages next.packages)
              (λ early none. leaves_before old new strays w before next.packages none (uncommitted_leaves early) are
              was)
              (λ clean contents may.
              let disks : AllClean g mid = it.clean (held_clean g (child ∷ []) new clean) in
              it.crash why refl w next before (members_stay g old mid before w stay are) is_due.1
              (keeps disks w next before is_due.0 are is_due.1) (opened disks was) clean contents may);
        }

    -- ---- a merge

    module _ (due : Returning) (old new : List (Member S)) (before : ℕ) where
      pub carries_returned : (after : ℕ) (receipt : Receipt) (child : Held S) → after ≡ before + 1
          → Merges g due old new (Ok (receipt, child)) → (made :
          Carries g (λ w next. IsReturned w next due) due.receipt old new [] before after (Ok receipt))
          × (made.gone ≡ child ∷ [])
      carries_returned after receipt child counted it =
          let done = it.done (receipt, child) refl in (
            record {
              gone = child ∷ [];
              read = it.read;
              survive = λ why is. absurd (let e = is in cc);
              rests = it.rests;
              stray_rests = All-from_recursion (λ h. Rests (state g h)) [] tt;
              clean = it.clean;
              ok = λ x is. (
                let same : receipt ≡ x = cc in sym same
                    ∙ done.0,
                counted,
                refl,
                λ w next clean gone are is_due. subst (λ n. AreMembers g new n next)
                    (sym counted) (done.2 w next before clean gone are is_due),
              );
              opens = it.opens;
              beside = λ x is w next are is_due was. it.beside (receipt, child) refl w next before are is_due was;
              kept = λ why is. absurd (let e = is in cc);
              err = λ why is. absurd (let e = is in cc);
              usable = λ why is. absurd (let e = is in cc);
              unharmed = λ why is. absurd (let e = is in cc);
              crash = λ why is. absurd (let e = is in cc);
            },
            refl,
          )

      -- the child's store, given back as that of its package, which is of the world no more
      pub comes_home : {H : Type 0} (Takes : List ℕ → S → H → H → Type 0) (store : Held S) (command : Command)
          (uuid : List ℕ) (s t : H) → ((member : Member S) × (slice_get old due.from ≡ Some member)
          × Stays (state g member.conn) (state g store)) → HasUuidAt old due.from uuid
          → child_returned command ≡ Some uuid → GivenBack g Takes uuid store s t
          → ComeHome g Takes old (λ u. (child_returned command ≡ Some u)
          × OfEachDue g (λ w next. IsReturned w next due) old before (λ w next. IsNoPackage next u)) (store ∷ [])
          s t
      comes_home Takes store command uuid s t home has asked takes =
          let both : Some home.0 ≡ Some has.0 = sym home.1 ∙ has.1 in
          let same : home.0 ≡ has.0 = cc in
          let named : uuid ≡ home.0.uuid = has.2 ∙ ap (λ (m : Member S). m.uuid) (sym same) in (
            refl,
            (
              due.from,
              home.0,
              home.1,
              home.2,
              subst (λ u. GivenBack g Takes u store s t) named takes,
              (asked ∙ ap Some named, λ w next are is. no_more home.0 home.1 w next are is),
            ),
          )
        where
          no_more : (m : Member S) → slice_get old due.from ≡ Some m → (w next : World)
              → AreMembers g old before w
              → IsReturned w next due → IsNoPackage next m.uuid
          no_more m place w next are is =
              let here = zip_at (IsMember g w) old w.packages due.from m are.each place in
              let both : Some here.0 ≡ Some is.child = sym here.1 ∙ is.from in
              let same : here.0 ≡ is.child = cc in
              subst (IsNoPackage next) (sym (here.2.uuid ∙ ap (λ (p : Package). p.uuid) same)) is.apart

      -- of its members all but one at most were only read, and the child, whose store was too
      pub home_written : (receipt : Receipt) (child : Held S) (command : Command) (uuid : List ℕ)
          → Merges g due old new (Ok (receipt, child)) → HasUuidAt old due.from uuid
          → child_returned command ≡ Some uuid → WritesTwoAtMost g (child_asked command)
          (child_returned command) old
          new (child ∷ [])
      home_written receipt child command uuid it has asked =
          let home = it.home (receipt, child) refl in
          let both : Some home.0 ≡ Some has.0 = sym home.1 ∙ has.1 in
          let same : home.0 ≡ has.0 = cc in
          merge_written g (child_asked command) (child_returned command) old new due.from home.0 child home.1
          (asked ∙ ap Some (has.2 ∙ ap (λ (m : Member S). m.uuid) (sym same))) home.2
          (it.others (receipt, child) refl)

      pub carries_unreturned : (why : TurnFault) → Merges g due old new (Err why)
          → Carries g (λ w next. IsReturned w next due) due.receipt old new [] before before (Err (Turn why))
      carries_unreturned why it = record {
        gone = [];
        read = tt;
        survive = λ other is. it.survive why refl;
        rests = it.rests;
        stray_rests = All-from_recursion (λ h. Rests (state g h)) [] tt;
        clean = it.clean;
        ok = λ receipt is. absurd (let e = is in cc);
        opens = λ clean gone. tt;
        beside = λ receipt is. absurd (let e = is in cc);
        kept = λ other is. refl;
        err = λ other is. (refl, λ w are. (it.failed why refl).1 w before are);
        usable = λ other is usable. refl;
        unharmed = λ other is early. it.unharmed (elim why as
            (λ t. IsBeforeCommit (Turn t) → IsUncommitted {X = Receipt} (Err t))
            [ Before y ↦ λ e. tt | Committing y ↦ λ e. absurd e ]
            (subst IsBeforeCommit (let same : other ≡ Turn why = cc in same) early));
        crash = λ other is w next are is_due was. it.crash why refl w next before are is_due was;
      }
