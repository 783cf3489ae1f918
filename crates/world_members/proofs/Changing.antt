-- What the members of a world stand for after one of them took a turn.
use Rattle.std.specs.Prelude.{◌≡◌, ◌⊎◌, ℕ, zero, suc, ◌+◌, true, false, cond, List, [], ◌∷◌}
use Rattle.std.specs.Prelude.{map, Some, slice_get}
use Rattle.std.specs.Prelude.{slice_set, refl, bytes_eq, Result, Ok, Err, IsErr, IsTrue, OnErr, if◌then◌else◌}
use Rattle.std.proofs.Common.{sym, ap, subst, ◌∙◌, inl, inr, arith}
use Rattle.std.specs.List.{AllByRecursion, AllZip}
use Rattle.std.proofs.lemmas.List.{map-id}
use Rattle.std.proofs.lemmas.List.Elements.{All-set, All-from_recursion, recursion_from_All}
use Rattle.std.proofs.lemmas.Option.{slice_get_within}
use Rattle.sqlite.specs.Tree.{Trees}
use Rattle.sqlite.specs.Store.{Ghosts}
use Rattle.sqlite.specs.Held.{Held, state}
use Rattle.sqlite.specs.State.{HasCleanDisk, Survives}
use Rattle.sqlite.proofs.StateLemmas.{clean_if_open}
use Rattle.sqlite_trees.proofs.ListLemmas.{all-slice_get}
use Rattle.sheet_types.specs.Custody.{ticket}
use Rattle.sheet_types.specs.Ordered.{IsArranged, is_before}
use Rattle.sheet_types.specs.World.{World, Package, package_key}
use Rattle.sheet_types.specs.declared.command.Command.{Command}
use Rattle.sheet_types.specs.declared.receipt.Receipt.{Receipt}
use Rattle.sheet_types.specs.declared.receipt.Sums.{Sums}
use Rattle.sheet_types.proofs.Basics.{bytes_eq_itself, bytes_eq_swap, before-differs}
use Rattle.sheet_types.proofs.Every.{All-weaker, All-both}
use Rattle.store_sql.specs.Transactions.{Rests}
use Rattle.store_sql.specs.Stores.{MayLeave, EachLeaves, LeavesEither}
use Rattle.store_sql.proofs.Transactions.{Shuts, Settles, at_rest}
use Rattle.store_sql.proofs.StoreLemmas.{at_set, one_turned, same_world}
use Rattle.identity_register.specs.Reads.{Reads}
use Rattle.world_members.specs.Carrying.{after_command}
use Rattle.world_members.specs.Laws.{package_of}
use Rattle.world_members.specs.Members.{AllRest, AllClean, AllOpen, AllStay, StaysMember, IsMember, AreMembers}
use Rattle.world_members.specs.Turning.{IsDue, CarriesOut, CarriesOutAt, turned, world_after, LeavesAsBefore, LeftAs}
use Rattle.world_members.specs.declared.members.Member.{Member}
use Rattle.world_members.proofs.Carrying.{same_rest}
use Rattle.world_members.proofs.Standing.{zip_at, zip_both}

-- ---- two lists, place by place

-- one element is another that has the same
pub zip_set : {A B : Type 0} (R : A → B → Type 0) (xs : List A) (ys : List B) (at : ℕ) (was now : A)
    → ((y : B) → R was y → R now y) → slice_get xs at ≡ Some was → AllZip R xs ys
    → AllZip R (slice_set xs at now) ys
zip_set R [] ys at was now f place h = absurd (let e = place in cc)
zip_set R (x ∷ xs) [] at was now f place h = absurd h
zip_set R (x ∷ xs) (y ∷ ys) zero was now f place h = let same : x ≡ was =
    cc in (f y (subst (λ z. R z y) same h.0), h.1)
zip_set R (x ∷ xs) (y ∷ ys) (suc at) was now f place h = (h.0, zip_set R xs ys at was now f place h.1)

-- what all have after one was set, and that one had before
set_back : {A : Type 0} (P : A → Type 0) (xs : List A) (at : ℕ) (was now : A) → slice_get xs at ≡ Some was
    → P was
    → AllByRecursion P (slice_set xs at now) → AllByRecursion P xs
set_back P [] at was now place here h = tt
set_back P (x ∷ xs) zero was now place here h = let same : x ≡ was = cc in (subst P (sym same) here, h.1)
set_back P (x ∷ xs) (suc at) was now place here h = (h.0, set_back P xs at was now place here h.1)

-- what goes together by a fact of the first
zip_so : {A B : Type 0} (P : A → Type 0) (R Q : A → B → Type 0) → ((x : A) (y : B) → P x → R x y → Q x y)
    → (xs : List A) (ys : List B) → AllByRecursion P xs → AllZip R xs ys → AllZip Q xs ys
zip_so P R Q f [] [] all h = tt
zip_so P R Q f [] (y ∷ ys) all h = absurd h
zip_so P R Q f (x ∷ xs) [] all h = absurd h
zip_so P R Q f (x ∷ xs) (y ∷ ys) all h = (f x y all.0 h.0, zip_so P R Q f xs ys all.1 h.1)

-- ---- the change of the package of one UUID

module _ (id : List ℕ) where
  -- the packages behind it have others
  differ : (p : Package) (ps : List Package) → p.uuid ≡ id → AllByRecursion
      (λ y. is_before p.uuid y.uuid ≡ true) ps
      → AllByRecursion (λ y. bytes_eq y.uuid id ≡ false) ps
  differ p ps named h = All-weaker (λ y. is_before p.uuid y.uuid ≡ true) (λ y. bytes_eq y.uuid id ≡ false)
      (λ y before. bytes_eq_swap y.uuid id ∙ subst (λ u. bytes_eq u y.uuid ≡ false) named
      (before-differs p.uuid y.uuid before)) ps h

  -- and so have those before it
  pub differs : (q p : Package) (ps : List Package) (at : ℕ)
      → AllByRecursion (λ y. is_before q.uuid y.uuid ≡ true) ps
      → slice_get ps at ≡ Some p → p.uuid ≡ id → bytes_eq q.uuid id ≡ false
  differs q p ps at h place named = subst (λ u. bytes_eq q.uuid u ≡ false) named
      (before-differs q.uuid p.uuid (all-slice_get (λ y. is_before q.uuid y.uuid ≡ true) ps at p place h))

  pub same_uuid : (q p : Package) → q ≡ p → p.uuid ≡ id → bytes_eq q.uuid id ≡ true
  same_uuid q p same named = ap (λ x. bytes_eq x.uuid id) same ∙ ap (λ u. bytes_eq u id) named
      ∙ bytes_eq_itself id

  -- something of each package, and something else of that one
  module _ {X : Type 0} (g h : Package → X) where
    abbrev told_apart : List Package → List X
    told_apart ps = map (λ x. cond (bytes_eq x.uuid id) (g x) (h x)) ps

    none_apart : (ps : List Package) → AllByRecursion (λ y. bytes_eq y.uuid id ≡ false) ps
        → told_apart ps ≡ map h ps
    none_apart [] others = refl
    none_apart (p ∷ ps) others = rw others.0 (ap (λ xs. h p ∷ xs) (none_apart ps others.1))

    -- it is the first of each, set at the place of that package
    pub apart_set : (ps : List Package) (at : ℕ) (p : Package) → IsArranged package_key ps
        → slice_get ps at ≡ Some p
        → p.uuid ≡ id → told_apart ps ≡ slice_set (map h ps) at (g p)
    apart_set [] at p arranged place named = absurd (let e = place in cc)
    apart_set (q ∷ ps) zero p arranged place named =
        let same : q ≡ p = cc in
        rw (
          same_uuid q p same named,
          none_apart ps (differ q ps (ap (λ (x : Package). x.uuid) same ∙ named)
              arranged.0),
        ) (ap (λ x. g x ∷ map h ps) same)
    apart_set (q ∷ ps) (suc at) p arranged place named =
        rw (differs q p ps at arranged.0 place named) (ap (λ xs. h q ∷ xs)
        (apart_set ps at p arranged.1 place named))

  module _ (f : Package → Package) where
    -- a change of that package is one at its place
    pub changed_set : (ps : List Package) (at : ℕ) (p : Package) → IsArranged package_key ps
        → slice_get ps at ≡ Some p → p.uuid ≡ id → map (λ x. cond (bytes_eq x.uuid id) (f x) x) ps
        ≡ slice_set ps at (f p)
    changed_set ps at p arranged place named = apart_set f (λ x. x) ps at p arranged place named
        ∙ ap (λ xs. slice_set xs at (f p)) (map-id ps)

    module _ {A : Type 0} (R R' : A → Package → Type 0) (others : (y : A) (q : Package)
        → bytes_eq q.uuid id ≡ false
        → R y q → R' y q) where
      zip_others : (xs : List A) (ps : List Package) → AllByRecursion (λ y. bytes_eq y.uuid id ≡ false) ps
          → AllZip R xs ps → AllZip R' xs ps
      zip_others [] [] h zip = tt
      zip_others [] (p ∷ ps) h zip = absurd zip
      zip_others (x ∷ xs) [] h zip = absurd zip
      zip_others (x ∷ xs) (p ∷ ps) h zip = (others x p h.0 zip.0, zip_others xs ps h.1 zip.1)

      -- what goes with the packages, one of each list changed
      pub zip_changed : (xs : List A) (ps : List Package) (at : ℕ) (was now : A) (p : Package)
          → (R was p → R' now (f p)) → IsArranged package_key ps → slice_get xs at ≡ Some was
          → slice_get ps at ≡ Some p → p.uuid ≡ id
          → AllZip R xs ps → AllZip R' (slice_set xs at now) (slice_set ps at (f p))
      zip_changed [] ps at was now p here h place at_p named zip = absurd (let e = place in cc)
      zip_changed (x ∷ xs) [] at was now p here h place at_p named zip = absurd zip
      zip_changed (x ∷ xs) (q ∷ ps) zero was now p here h place at_p named zip =
          let same_x : x ≡ was = cc in
          let same : q ≡ p = cc in (
            here (subst (λ y. R was y) same (subst (λ y. R y q) same_x zip.0)),
            zip_others xs ps
                (differ q ps (ap (λ (x : Package). x.uuid) same ∙ named) h.0) zip.1,
          )
      zip_changed (x ∷ xs) (q ∷ ps) (suc at) was now p here h place at_p named zip = (
        others x q (differs q p ps at h.0 at_p named) zip.0,
        zip_changed xs ps at was now p here h.1 place at_p
            named zip.1,
      )

-- ---- the members

module _ {S : Type 0} (g : Ghosts S) (shuts : Shuts g) where
  -- an error leaves what they stand for
  pub undone_members : {E : Type 0} (r : Receipt) (command : Command) (sums : Sums) (old new : List (Member S))
      (at : ℕ) (e : E) → CarriesOutAt g r command sums old new at (Err e) → (w : World) (count : ℕ)
      → AreMembers g old count w → AreMembers g new count w
  undone_members r command sums old new at e it w count are = record {
    each = subst (λ xs. AllZip (IsMember g w) xs w.packages) (sym it.others)
        (zip_set (IsMember g w) old w.packages at it.was (record it.was { conn = it.last }) stays it.place are.each);
    counted = are.counted;
    register = are.register;
  }
    where
      stays : (p : Package) → IsMember g w it.was p → IsMember g w (record it.was { conn = it.last }) p
      stays p is = record {
        uuid = is.uuid;
        parent = is.parent;
        depth = is.depth;
        loan = is.loan;
        sums = is.sums;
        ticket = is.ticket;
        reads = λ is_open. subst (Reads w.frame p) (sym (it.turn.turns.undone is_open).now_is)
            (is.reads (it.turn.was_open is_open));
      }

  -- after a command that was due they stand for the world after it
  pub done_members : {E : Type 0} (r : Receipt) (command : Command) (sums : Sums) (old new : List (Member S)) (at : ℕ)
      → CarriesOutAt g {E = E} r command sums old new at (Ok tt) → (w : World) (count : ℕ)
      → AreMembers g old count w
      → IsDue w at r command sums
      → AreMembers g new (count + 1) (world_after r command w)
  done_members {E} r command sums old new at it w count are due = record {
    each = subst (λ xs. AllZip (IsMember g next) xs next.packages) (sym it.others)
        (subst (λ ps. AllZip (IsMember g next) (slice_set old at now) ps)
        (sym (changed_set id f w.packages at due.holds are.register.arranged due.place due.named))
        (zip_changed id f (IsMember g w) (IsMember g next) others old w.packages at it.was now due.holds here
        are.register.arranged it.place due.place due.named are.each));
    counted = ap (λ n. n + 1) are.counted ∙ sym due.counted;
    register = due.register;
  }
    where
      f : Package → Package
      f = after_command r command

      id : List ℕ
      id = package_of command

      next : World
      next = world_after r command w

      now : Member S
      now = record it.was { conn = it.last; sums = sums; ticket = r.seq }

      others : (m : Member S) (q : Package) → bytes_eq q.uuid id ≡ false → IsMember g w m q
          → IsMember g next m q
      others m q other is = record {
        uuid = is.uuid;
        parent = is.parent;
        depth = is.depth;
        loan = is.loan;
        sums = is.sums;
        ticket = is.ticket ∙ sym (due.tickets q.uuid ∙ ap (λ b. if b then r.seq else ticket w q.uuid) other);
        reads = is.reads;
      }

      here : IsMember g w it.was due.holds → IsMember g next now (f due.holds)
      here is = record {
        uuid = is.uuid ∙ sym (ap (λ x. x.uuid) (same_rest command due.holds));
        parent = is.parent ∙ sym (ap (λ x. x.parent) (same_rest command due.holds));
        depth = is.depth ∙ sym (ap (λ x. x.depth) (same_rest command due.holds));
        loan = is.loan ∙ sym (ap (λ x. x.loan) (same_rest command due.holds));
        sums = due.sums;
        ticket = sym (ap (ticket next) (ap (λ x. x.uuid) (same_rest command due.holds)) ∙ due.tickets due.holds.uuid
            ∙ ap (λ b. if b then r.seq else ticket w due.holds.uuid)
            (ap (λ u. bytes_eq u id) due.named ∙ bytes_eq_itself id));
        reads = λ is_open. (it.turn.turns.done (clean_if_open (g.view it.last.store) (shuts it.last.store) is_open)).0
            w.frame due.holds (is.reads (it.turn.was_open is_open)) due.fits;
      }

  -- a turn that failed, by any name of its error
  pub failed_at : {E F : Type 0} (r : Receipt) (command : Command) (sums : Sums) (old : List (Member S)) (at : ℕ)
      (was : Member S) (last : Held S) (e : E) (reply : Result (Unit {0}) F) → IsErr reply
      → slice_get old at ≡ Some was → CarriesOut r command (state g was.conn) (state g last) (Err e)
      → CarriesOutAt g r command sums old (slice_set old at (record was { conn = last })) at reply
  failed_at r command sums old at was last e (Ok x) failed place it = absurd (let f = failed in cc)
  failed_at r command sums old at was last e (Err f) failed place it = record {
    was = was;
    place = place;
    last = last;
    others = refl;
    turn = record {
      turns = record {
        rests = it.turns.rests;
        done = λ clean. tt;
        undone = it.turns.undone;
        left = it.turns.left;
        survives = it.turns.survives;
      };
      was_open = it.was_open;
    };
  }

  -- and what it leaves
  pub undone_so : {F : Type 0} (r : Receipt) (command : Command) (sums : Sums) (old new : List (Member S)) (at : ℕ)
      (reply : Result (Unit {0}) F) → CarriesOutAt g r command sums old new at reply
      → OnErr reply ((w : World) (count : ℕ) → AreMembers g old count w → AreMembers g new count w)
  undone_so r command sums old new at (Ok x) it = tt
  undone_so r command sums old new at (Err e) it = undone_members r command sums old new at e it

module _ {S : Type 0} (g : Ghosts S) (shuts : Shuts g) (settles : Settles g) where
  same_conn : {E : Type 0} (r : Receipt) (sums : Sums) (was : Member S) (last : Held S) (reply : Result (Unit {0}) E)
      → (turned g r sums was last reply).conn ≡ last
  same_conn r sums was last (Ok x) = refl
  same_conn r sums was last (Err e) = refl

  -- where all disks are clean after a turn, they were so before
  pub clean_turn : {E : Type 0} (r : Receipt) (command : Command) (sums : Sums) (old new : List (Member S)) (at : ℕ)
      (reply : Result (Unit {0}) E) → CarriesOutAt g r command sums old new at reply → AllClean g new
      → AllClean g old
  clean_turn {E} r command sums old new at reply it clean =
      let Clean : Member S → Type 0 = λ m. HasCleanDisk (state g m.conn) in
      let now : Member S = turned g r sums it.was it.last reply in
      let last : HasCleanDisk (state g it.last) = subst (λ h. HasCleanDisk (state g h))
      (same_conn r sums it.was it.last reply)
      (at_set Clean old at now (slice_get_within old at it.was it.place) (subst (AllClean g) it.others clean)) in
      let was : Clean it.was = omega (arith, it.turn.turns.survives.clean, last) in
      All-from_recursion Clean old (set_back Clean old at it.was now it.place was
      (recursion_from_All Clean (slice_set old at now) (subst (AllClean g) it.others clean)))

  -- what a crash leaves of open stores at rest
  pub each_leaves : (members : List (Member S)) (count : ℕ) (w : World) → AllRest g members → AllOpen g members
      → AreMembers g members count w → EachLeaves g (λ m. m.conn) (LeftAs w.frame) members w.packages
  each_leaves members count w rests open' are =
      zip_so (λ m. Rests (state g m.conn) × IsTrue (state g m.conn).is_open) (IsMember g w)
      (λ m p. (trees : Trees) → (state g m.conn).may_leave trees → LeftAs w.frame trees p)
      (λ m p known is trees may. (
        (state g m.conn).now,
        (at_rest g shuts settles m.conn known.0 known.1).left trees
            may,
        is.reads known.1,
      )) members w.packages
      (All-both (λ m. Rests (state g m.conn)) (λ m. IsTrue (state g m.conn).is_open)
      (λ m. Rests (state g m.conn) × IsTrue (state g m.conn).is_open) (λ m a b. (a, b)) members
      (recursion_from_All (λ m. Rests (state g m.conn)) members rests)
      (recursion_from_All (λ m. IsTrue (state g m.conn).is_open) members open'))
      are.each

  -- members that were only read leave no more than they left
  pub stay_leaves : (old new : List (Member S)) → AllRest g old → AllStay g old new → LeavesAsBefore g old new
  stay_leaves old new rests stay clean w count are open' =
      let Clean : Member S → Type 0 = λ m. HasCleanDisk (state g m.conn) in
      let Left : Member S → Package → Type 0 = λ m p. (trees : Trees) → (state g m.conn).may_leave trees
      → LeftAs w.frame trees p in
      zip_so Clean (λ m p. Clean m → Left m p) Left (λ m p disk left. left disk) new w.packages
      (recursion_from_All Clean new clean)
      (zip_both (StaysMember g) Left (λ m p. Clean m → Left m p)
      (λ m n p stays left disk trees may. elim (stays.stays.survives.crash disk trees may)
      [ inl before ↦ left trees before | inr none ↦ absurd none ]) old new w.packages stay
      (each_leaves old count w rests open' are))

  -- what a crash leaves of them reads as the world that they stand for
  pub read_leaves : (old new : List (Member S)) (count : ℕ) (w : World) (after : List Package) → AllRest g old
      → AllStay g old new → AreMembers g old count w → AllOpen g old
      → LeavesEither g (λ m. m.conn) (LeftAs w.frame) new w.packages after
  read_leaves old new count w after rests stay are open' clean dbs may =
      inl (same_world g (λ m. m.conn) (LeftAs w.frame) new w.packages dbs
      (stay_leaves old new rests stay clean w count are open') may)

  -- and so of members of which one took a turn that a crash does not show
  pub unharmed_at : (old : List (Member S)) (at : ℕ) (was : Member S) (last : Held S)
      → slice_get old at ≡ Some was
      → AllRest g old → Survives (state g was.conn) (state g last) (λ _. ⊥)
      → LeavesAsBefore g old (slice_set old at (record was { conn = last }))
  unharmed_at old at was last place rests survives clean w count are open' =
      let now : Member S = record was { conn = last } in
      let disk : HasCleanDisk (state g last) = at_set (λ (m : Member S). HasCleanDisk (state g m.conn)) old at now
      (slice_get_within old at was place) clean in
      zip_set (λ m p. (trees : Trees) → (state g m.conn).may_leave trees → LeftAs w.frame trees p) old w.packages
      at
      was now (λ p left trees may. elim (survives.crash disk trees may)
      [ inl before ↦ left trees before | inr none ↦ absurd none ]) place (each_leaves old count w rests open' are)

  -- a turn that was committed leaves its store open
  pub turned_open : {E : Type 0} (r : Receipt) (command : Command) (sums : Sums) (old new : List (Member S)) (at : ℕ)
      → CarriesOutAt g {E = E} r command sums old new at (Ok tt) → AllClean g new → AllOpen g old
      → AllOpen g new
  turned_open r command sums old new at it clean was =
      let Open : Member S → Type 0 = λ m. IsTrue (state g m.conn).is_open in
      let now : Member S = record it.was { conn = it.last; sums = sums; ticket = r.seq } in
      let disk : HasCleanDisk (state g it.last) = at_set (λ (m : Member S). HasCleanDisk (state g m.conn)) old at now
      (slice_get_within old at it.was it.place) (subst (AllClean g) it.others clean) in
      rw it.others (All-set Open old at now (it.turn.turns.done disk).1.is_open was)

  -- of one that took a turn, what it left before or the package after the command
  pub crash_members : {E : Type 0} (r : Receipt) (command : Command) (sums : Sums) (old new : List (Member S))
      (at : ℕ) (reply : Result (Unit {0}) E) → CarriesOutAt g r command sums old new at reply → AllRest g old
      → (w : World) (count : ℕ) → AreMembers g old count w
      → IsDue w at r command sums → AllOpen g old → LeavesEither g (λ m. m.conn) (LeftAs w.frame) new w.packages
      (world_after r command w).packages
  crash_members {E} r command sums old new at reply it rests w count are due open' clean dbs may =
      elim (one_turned g (λ m. m.conn) (LeftAs w.frame) old at it.was now w.packages (f due.holds) dbs it.place
      (each_leaves old count w rests open' are) turn (subst (λ ms. MayLeave g (λ m. m.conn) ms dbs) it.others
      may)) [
        | inl before ↦ inl before
        | inr after ↦ inr (subst (AllZip (LeftAs w.frame) dbs)
            (sym (changed_set (package_of command) f w.packages at due.holds are.register.arranged due.place
            due.named)) after)
      ]
    where
      f : Package → Package
      f = after_command r command

      now : Member S
      now = turned g r sums it.was it.last reply

      clean_last : HasCleanDisk (state g it.last)
      clean_last = subst (λ h. HasCleanDisk (state g h)) (same_conn r sums it.was it.last reply)
          (at_set (λ (m : Member S). HasCleanDisk (state g m.conn)) old at now
          (slice_get_within old at it.was it.place) (subst (AllClean g) it.others clean))

      was_is : IsMember g w it.was due.holds
      was_is =
          let there = zip_at (IsMember g w) old w.packages at it.was are.each it.place in
          let both : Some there.0 ≡ Some due.holds = sym there.1 ∙ due.place in
          let same : there.0 ≡ due.holds = cc in
          subst (IsMember g w it.was) same there.2

      was_open : IsTrue (state g it.was.conn).is_open
      was_open = all-slice_get (λ m. IsTrue (state g m.conn).is_open) old at it.was it.place
          (recursion_from_All (λ m. IsTrue (state g m.conn).is_open) old open')

      turn : (trees : Trees) → (state g now.conn).may_leave trees → (state g it.was.conn).may_leave trees
          ⊎ LeftAs w.frame trees (f due.holds)
      turn trees left = elim (it.turn.turns.survives.crash clean_last trees
          (subst (λ h. (state g h).may_leave trees) (same_conn r sums it.was it.last reply) left)) [
            | inl before ↦ inl before
            | inr would ↦ inr (would.1, would.3, would.2 w.frame due.holds (was_is.reads was_open) due.fits)
          ]
