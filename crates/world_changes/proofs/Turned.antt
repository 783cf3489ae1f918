-- A member whose store took a turn, and what all members stand for then.
use Rattle.std.specs.Prelude.{◌≡◌, ◌⊎◌, ℕ, zero, suc, List, [], ◌∷◌, Some, slice_get, slice_set}
use Rattle.std.specs.Prelude.{refl, Result, Ok}
use Rattle.std.specs.Prelude.{Err, IsErr, IsTrue}
use Rattle.std.proofs.Common.{sym, ap, subst, ◌∙◌, inl, inr, arith, length, IfErr, IsErrAnd}
use Rattle.std.specs.List.{AllByRecursion, AllZip}
use Rattle.std.proofs.lemmas.List.{length-set}
use Rattle.std.proofs.lemmas.List.Elements.{All-set, All-from_recursion, recursion_from_All}
use Rattle.std.proofs.lemmas.Option.{slice_get_within}
use Rattle.sqlite.specs.Effect.{Database}
use Rattle.sqlite.specs.Tree.{Trees}
use Rattle.sqlite.specs.Store.{Ghosts}
use Rattle.sqlite.specs.Held.{Held, state}
use Rattle.sqlite.specs.State.{HasCleanDisk, Survives}
use Rattle.sqlite.proofs.StateLemmas.{clean_if_open}
use Rattle.sheet_types.specs.Answers.{sums_held}
use Rattle.sheet_types.specs.Custody.{ticket}
use Rattle.sheet_types.specs.World.{World, Package}
use Rattle.sheet_types.specs.declared.frame.Frame.{Frame}
use Rattle.sheet_types.specs.declared.receipt.Sums.{Sums}
use Rattle.store_sql.specs.Transactions.{Rests, Turns}
use Rattle.store_sql.specs.Stores.{MayLeave, EachLeaves}
use Rattle.store_sql.proofs.Transactions.{Shuts}
use Rattle.store_sql.proofs.StoreLemmas.{at_set, one_turned}
use Rattle.identity_register.specs.Reads.{Reads}
use Rattle.world_members.specs.Members.{AllRest, AllClean, AllOpen, IsMember}
use Rattle.world_members.specs.Turning.{LeftAs}
use Rattle.world_changes.specs.Turns.{TakesTurn, LeavesNoMore, after_turn}
use Rattle.world_members.specs.declared.members.Member.{Member}
use Rattle.world_members.proofs.Changing.{zip_set}
use Rattle.world_changes.proofs.Placing.{zip_turn}

-- what all have after one was set, and that one had before
set_back : {A : Type 0} (P : A → Type 0) (xs : List A) (at : ℕ) (was now : A) → slice_get xs at ≡ Some was
    → P was
    → AllByRecursion P (slice_set xs at now) → AllByRecursion P xs
set_back P [] at was now place here h = tt
set_back P (x ∷ xs) zero was now place here h = let same : x ≡ was = cc in (subst P (sym same) here, h.1)
set_back P (x ∷ xs) (suc at) was now place here h = (h.0, set_back P xs at was now place here h.1)

each_same : {A : Type 0} (R : A → A → Type 0) → ((x : A) → R x x) → (xs : List A) → AllZip R xs xs
each_same R same [] = tt
each_same R same (x ∷ xs) = (same x, each_same R same xs)

-- what holds after any error
pub if_err : {X E : Type 0} (P : Type 0) (r : Result X E) → P → IfErr r (λ why. P)
if_err P (Ok x) p = tt
if_err P (Err e) p = p

-- and what holds of the one that came
pub if_err_of : {X E : Type 0} (P : E → Type 0) (r : Result X E) (came : E) → IsErrAnd r (λ why. why ≡ came)
    → P came
    → IfErr r P
if_err_of P (Ok x) came is p = tt
if_err_of P (Err e) came is p = subst P (sym is) p

module _ {S : Type 0} (g : Ghosts S) where
  same_conn : {E : Type 0} (sums : Sums) (number : ℕ) (was : Member S) (last : Held S) (reply : Result (Unit {0}) E)
      → (after_turn g sums number was last reply).conn ≡ last
  same_conn sums number was last (Ok x) = refl
  same_conn sums number was last (Err e) = refl

  same_or_set : {A : Type 0} (R : A → A → Type 0) → ((x : A) → R x x) → (xs : List A) (at : ℕ) (was now : A)
      → slice_get xs at ≡ Some was → R was now → AllZip R xs (slice_set xs at now)
  same_or_set R same [] at was now place one = tt
  same_or_set R same (x ∷ xs) zero was now place one = let here : x ≡ was =
      cc in (subst (λ y. R y now) (sym here) one, each_same R same xs)
  same_or_set R same (x ∷ xs) (suc at) was now place one = (same x, same_or_set R same xs at was now place one)

  -- one store that a crash does not show changed
  pub leaves_no_more : (old : List (Member S)) (at : ℕ) (was : Member S) (last : Held S)
      → slice_get old at ≡ Some was
      → Survives (state g was.conn) (state g last) (λ _. ⊥) → LeavesNoMore g old
      (slice_set old at (record was { conn = last }))
  leaves_no_more old at was last place survives clean =
      let now : Member S = record was { conn = last } in
      let disk : HasCleanDisk (state g last) = at_set (λ (m : Member S). HasCleanDisk (state g m.conn)) old at now
      (slice_get_within old at was place) clean in
      same_or_set (λ m n. (trees : Trees) → (state g n.conn).may_leave trees → (state g m.conn).may_leave trees)
      (λ m trees left. left) old at was now place (λ trees may. elim (survives.crash disk trees may)
      [ inl before ↦ before | inr none ↦ absurd none ])

  -- a turn that failed, by any name of its error
  pub turn_failed : {E F : Type 0} (Change : Database → Database → Type 0) (sums : Sums) (number : ℕ)
      (old : List (Member S)) (at : ℕ) (was : Member S) (last : Held S) (e : E) (reply : Result (Unit {0}) F)
      → IsErr reply → slice_get old at ≡ Some was
      → Turns {X = Unit {0}} {E = E} (λ _. Change) (state g was.conn) (state g last) (Err e)
      → (IsTrue (state g last).is_open → IsTrue (state g was.conn).is_open)
      → TakesTurn g Change sums number old (slice_set old at (record was { conn = last })) at reply
  turn_failed Change sums number old at was last e (Ok x) failed place turns opened = absurd (let f = failed in cc)
  turn_failed Change sums number old at was last e (Err f) failed place turns opened = record {
    was = was;
    place = place;
    last = last;
    others = refl;
    turns = record {
      rests = turns.rests;
      done = λ clean. tt;
      undone = turns.undone;
      left = turns.left;
      survives = turns.survives;
    };
    was_open = opened;
  }

  module _ {E : Type 0} (Change : Database → Database → Type 0) (sums : Sums) (number : ℕ)
      (old new : List (Member S))
      (at : ℕ) (reply : Result (Unit {0}) E) (it : TakesTurn g {E = E} Change sums number old new at reply) where
    abbrev now_here : Member S
    now_here = after_turn g sums number it.was it.last reply

    pub turn_length : length new ≡ length old
    turn_length = ap length it.others ∙ length-set old at now_here

    -- its disk, by all the disks
    pub turn_clean_last : AllClean g new → HasCleanDisk (state g it.last)
    turn_clean_last clean = subst (λ h. HasCleanDisk (state g h)) (same_conn sums number it.was it.last reply)
        (at_set (λ (m : Member S). HasCleanDisk (state g m.conn)) old at now_here
        (slice_get_within old at it.was it.place) (subst (AllClean g) it.others clean))

    -- disks that are clean after a turn were clean before
    pub turn_was_clean : AllClean g new → AllClean g old
    turn_was_clean clean =
        let Clean : Member S → Type 0 = λ m. HasCleanDisk (state g m.conn) in
        let was : Clean it.was = omega (arith, it.turns.survives.clean, turn_clean_last clean) in
        All-from_recursion Clean old (set_back Clean old at it.was now_here it.place was
        (recursion_from_All Clean (slice_set old at now_here) (subst (AllClean g) it.others clean)))

    -- and all are at rest
    pub turn_at_rest : AllRest g old → AllRest g new
    turn_at_rest rests = rw it.others (All-set (λ (m : Member S). Rests (state g m.conn)) old at now_here
        (subst (λ h. Rests (state g h)) (sym (same_conn sums number it.was it.last reply)) it.turns.rests) rests)

    -- What a crash leaves of members that left what some packages are: these, or with the one changed.
    pub turn_leaves : (f : Frame) (packages : List Package) (p after : Package)
        → EachLeaves g (λ m. m.conn) (LeftAs f) old packages
        → ((db : Database) → Change (state g it.was.conn).now db → Reads f after db) → AllClean g new
        → (dbs : List Trees) → MayLeave g (λ m. m.conn) new dbs → AllZip (LeftAs f) dbs packages
        ⊎ AllZip (LeftAs f) dbs (slice_set packages at after)
    turn_leaves f packages p after each so clean dbs may = one_turned g (λ m. m.conn) (LeftAs f) old at it.was
        now_here packages after dbs it.place each turn (subst (λ ms. MayLeave g (λ m. m.conn) ms dbs) it.others may)
      where
        turn : (trees : Trees) → (state g now_here.conn).may_leave trees → (state g it.was.conn).may_leave trees
            ⊎ LeftAs f trees after
        turn trees left = elim (it.turns.survives.crash (turn_clean_last clean) trees
            (subst (λ h. (state g h).may_leave trees) (same_conn sums number it.was it.last reply) left)) [
              | inl before ↦ inl before
              | inr would ↦ inr (would.1, would.3, so would.1 would.2)
            ]

  -- A turn that failed leaves what the members stand for.
  pub turn_undone : {E : Type 0} (Change : Database → Database → Type 0) (sums : Sums) (number : ℕ)
      (old new : List (Member S)) (at : ℕ) (e : E) → TakesTurn g {E = E} Change sums number old new at (Err e)
      → (w : World) (packages : List Package) → AllZip (IsMember g w) old packages
      → AllZip (IsMember g w) new packages
  turn_undone Change sums number old new at e it w packages each =
      subst (λ xs. AllZip (IsMember g w) xs packages) (sym it.others)
      (zip_set (IsMember g w) old packages at it.was (record it.was { conn = it.last }) stays it.place each)
    where
      stays : (p : Package) → IsMember g w it.was p → IsMember g w (record it.was { conn = it.last }) p
      stays p is = record {
        uuid = is.uuid;
        parent = is.parent;
        depth = is.depth;
        loan = is.loan;
        sums = is.sums;
        ticket = is.ticket;
        reads = λ is_open. subst (Reads w.frame p) (sym (it.turns.undone is_open).now_is)
            (is.reads (it.was_open is_open));
      }

  -- One that was committed leaves its store open.
  pub turn_open_after : {E : Type 0} (Change : Database → Database → Type 0) (sums : Sums) (number : ℕ)
      (old new : List (Member S)) (at : ℕ) → TakesTurn g {E = E} Change sums number old new at (Ok tt)
      → AllClean g new → AllOpen g old → AllOpen g new
  turn_open_after {E} Change sums number old new at it clean was =
      rw it.others (All-set (λ (m : Member S). IsTrue (state g m.conn).is_open) old at
      (record it.was { conn = it.last; sums = sums; ticket = number })
      (it.turns.done (turn_clean_last {E = E} Change sums number old new at (Ok tt) it clean)).1.is_open was)

  -- what a change of one package keeps of it
  pub record SameHead (p after : Package) : Type 0 where
    pub uuid : after.uuid ≡ p.uuid
    pub parent : after.parent ≡ p.parent
    pub depth : after.depth ≡ p.depth
    pub loan : after.loan ≡ p.loan

  -- And then the members are the changed packages.
  pub turn_done : {E : Type 0} (shuts : Shuts g) (Change : Database → Database → Type 0) (sums : Sums)
      (number : ℕ)
      (old new : List (Member S)) (at : ℕ) → TakesTurn g {E = E} Change sums number old new at (Ok tt)
      → (w next : World) (packages : List Package) (p after : Package) → next.frame ≡ w.frame
      → slice_get packages at ≡ Some p → SameHead p after → sums ≡ sums_held after
      → ticket next p.uuid ≡ number
      → ((db db' : Database) → Reads w.frame p db → Change db db' → Reads w.frame after db')
      → ((k : ℕ) (q : Package) → slice_get packages k ≡ Some q → ¬ (k ≡ at)
      → ticket next q.uuid ≡ ticket w q.uuid)
      → AllZip (IsMember g w) old packages → AllZip (IsMember g next) new (slice_set packages at after)
  turn_done {E} shuts Change sums number old new at it w next packages p after frame place same held named so others
      each =
      subst (λ xs. AllZip (IsMember g next) xs (slice_set packages at after)) (sym it.others)
      (zip_turn (IsMember g w) (IsMember g next) old packages at it.was
      (record it.was { conn = it.last; sums = sums; ticket = number }) p after it.place place here rest each)
    where
      here : IsMember g w it.was p → IsMember g next (record it.was { conn = it.last; sums = sums; ticket = number })
          after
      here is = record {
        uuid = is.uuid ∙ sym same.uuid;
        parent = is.parent ∙ sym same.parent;
        depth = is.depth ∙ sym same.depth;
        loan = is.loan ∙ sym same.loan;
        sums = held;
        ticket = sym (ap (ticket next) same.uuid ∙ named);
        reads = λ is_open. subst (λ f. Reads f after (state g it.last).now) (sym frame)
            (so (state g it.was.conn).now (state g it.last).now (is.reads (it.was_open is_open))
            (it.turns.done (clean_if_open (g.view it.last.store) (shuts it.last.store) is_open)).0);
      }

      rest : (k : ℕ) (m : Member S) (q : Package) → slice_get packages k ≡ Some q → ¬ (k ≡ at)
          → IsMember g w m q
          → IsMember g next m q
      rest k m q at_k other is = record {
        uuid = is.uuid;
        parent = is.parent;
        depth = is.depth;
        loan = is.loan;
        sums = is.sums;
        ticket = is.ticket ∙ sym (others k q at_k other);
        reads = λ is_open. subst (λ f. Reads f q (state g m.conn).now) (sym frame) (is.reads is_open);
      }
