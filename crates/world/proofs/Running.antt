-- A list of requests, carried out one after the other.
use Rattle.std.specs.Prelude.{ℕ, Option, Some, None}
use Rattle.std.proofs.Common.{inl, inr, arith, sym, subst}
use Rattle.sqlite_disk.specs.Disk.{MoreFaults}
use Rattle.world_changes.specs.Leaving.{AreClean}
use Rattle.world_changes.proofs.HeldStores.{left_clean, right_clean}
use Rattle.std.proofs.Common.{◌≡◌, ◌∙◌, ap, map, IsErr, IsTrue, Ok, refl, true, false, List, []}
use Rattle.std.proofs.Common.{◌∷◌, ◌++◌, Result, Err}
use Rattle.sqlite.specs.Store.{Ghosts}
use Rattle.sheet_types.specs.Register.{IsRegister}
use Rattle.sheet_types.specs.Step.{IsFault, Step, outcome}
use Rattle.sheet_types.specs.World.{World}
use Rattle.sheet_types.specs.declared.command.Request.{Request}
use Rattle.sheet_types.specs.declared.receipt.Receipt.{Receipt}
use Rattle.sheet_types.specs.declared.refusal.Refusal.{Refusal}
use Rattle.sheet_types.specs.declared.refusal.Refusal.TheVariants.{StoreFault}
use Rattle.sheet_types.proofs.Every.{All-left, All-right, All-snoc}
use Rattle.sheet_laws.proofs.Running.{run_of_both}
pub use Rattle.world.specs.Worlds.{IsApplied}
use Rattle.world.specs.Worlds.{Seen, StandsFor, AreApplied, IsStep, IsStopped, IsRun, NoneShut, RunsOverRegisters, held}
use Rattle.world.specs.Asked.{AreStepsWith, IsRunWith, IsStepWith, child_returned}
use Rattle.world_changes.specs.Writing.{Leave}
use Rattle.world.proofs.Asks.{steps_more}
use Rattle.world.proofs.Faults.{fault_is_err, fault_or_not, refused_stays}
use Rattle.world_members.specs.Members.{AllClean, AllOpen}
use Rattle.world_members.specs.declared.members.Member.{Member}
use Rattle.world_changes.specs.Leaving.{AllSurvive, LeavesOneOf}
use Rattle.std.specs.List.{AllByRecursion}
use Rattle.std.proofs.lemmas.List.{append-nil, append_assoc, map-append}
use Rattle.std.proofs.lemmas.List.Elements.{All-from_recursion, recursion_from_All}
use Rattle.sqlite.specs.Held.{Held, state}
use Rattle.sqlite.specs.State.{HasCleanDisk}

-- what each request after the stop is told
abbrev told_so : Request → Result Receipt Refusal
told_so q = Err StoreFault

-- lists that end alike
snoc_same : {X : Type 0} (xs ys : List X) (x y : X) → xs ++ x ∷ [] ≡ ys ++ y ∷ [] → (xs ≡ ys) × (x ≡ y)
snoc_same [] [] x y is = (refl, let e = is in cc)
snoc_same [] (b ∷ []) x y is = absurd (let e = is in cc)
snoc_same [] (b ∷ c ∷ ys) x y is = absurd (let e = is in cc)
snoc_same (a ∷ []) [] x y is = absurd (let e = is in cc)
snoc_same (a ∷ c ∷ xs) [] x y is = absurd (let e = is in cc)
snoc_same (a ∷ xs) (b ∷ ys) x y is =
    let rest : xs ++ x ∷ [] ≡ ys ++ y ∷ [] = cc in
    let first : a ≡ b = cc in
    let more = snoc_same xs ys x y rest in
    (ap (λ z. z ∷ xs) first ∙ ap (λ zs. b ∷ zs) more.0, more.1)

-- a run over registers goes on by a step that leaves one
pub one_step_more : (w mid next : World) (qs : List Request) (replies : List (Result Receipt Refusal)) (q : Request)
    (reply : Result Receipt Refusal) → RunsOverRegisters w qs replies mid → Step mid q reply next
    → IsRegister next
    → RunsOverRegisters w (qs ++ q ∷ []) (replies ++ reply ∷ []) next
one_step_more w mid next [] [] q reply ran step register = (
  ran.1,
  (next, subst (λ v. Step v q reply next) ran.0 step, (refl, register)),
)
one_step_more w mid next [] (r ∷ replies) q reply ran step register = absurd ran
one_step_more w mid next (p ∷ qs) [] q reply ran step register = absurd ran
one_step_more w mid next (p ∷ qs) (r ∷ replies) q reply ran step register =
    (ran.0, (ran.1.0, ran.1.1, one_step_more ran.1.0 mid next qs replies q reply ran.1.2 step register))

module _ {S : Type 0} (g : Ghosts S) where
  -- what a run of no requests has
  none_left : (told : List (Result Receipt Refusal)) (why : Refusal) → ¬ ([] ≡ told ++ Err why ∷ [])
  none_left [] why is = let e = is in cc
  none_left (r ∷ told) why is = let e = is in cc

  -- one more behind the others
  each_more : (qs : List Request) (old mid new : Seen S) (replies : List (Result Receipt Refusal)) (q : Request)
      (reply : Result Receipt Refusal) (gone : List (Held S)) (before between after : ℕ)
      → AreApplied g qs old replies mid gone before between → (one : IsApplied g q mid reply new between after)
      → AreApplied g (qs ++ q ∷ []) old (replies ++ reply ∷ []) new (gone ++ one.step.gone) before after
  each_more [] old mid new [] q reply gone before between after each one =
      let all : List (Held S) = gone ++ one.step.gone in
      let here : (it : IsApplied g q mid reply new between after) × (all ≡ it.step.gone ++ []) =
      (one, ap (λ x. x ++ one.step.gone) each.1 ∙ sym (append-nil one.step.gone)) in
      let there : (it : IsApplied g q old reply new before after) × (all ≡ it.step.gone ++ []) =
      subst (λ m. (it : IsApplied g q m reply new before after) × (all ≡ it.step.gone ++ [])) each.0
      (subst (λ n. (it : IsApplied g q mid reply new n after) × (all ≡ it.step.gone ++ [])) each.2 here) in
      (new, after, there.0, [], there.1, (refl, refl, refl))
  each_more [] old mid new (r ∷ replies) q reply gone before between after each one = absurd each
  each_more (p ∷ qs) old mid new [] q reply gone before between after each one = absurd each
  each_more (p ∷ qs) old mid new (r ∷ replies) q reply gone before between after each one = (
    each.0,
    each.1,
    each.2,
    each.3 ++ one.step.gone,
    ap (λ x. x ++ one.step.gone) each.4 ∙ append_assoc each.2.step.gone each.3 one.step.gone,
    each_more qs each.0 mid new replies q reply each.3 each.1 between after each.5 one,
  )

  -- a request that is no merge lets no connection go
  none_left_by : (returned : Option (List ℕ)) (old before : List (Member S)) (gone : List (Held S))
      → returned ≡ None
      → Leave g returned old before gone → gone ≡ []
  none_left_by returned old before [] none left = refl
  none_left_by returned old before (last ∷ others) none left =
      absurd (let both : None ≡ Some left.2.uuid = sym none ∙ left.4 in cc)

  pub step_keeps : (q : Request) (old new : Seen S) (reply : Result Receipt Refusal) (it : IsStep g q old reply new)
      → child_returned q.command ≡ None → it.gone ≡ []
  step_keeps q old new reply it none = none_left_by (child_returned q.command) old.members it.writes.before it.gone
      none it.writes.left

  -- so do several
  each_keeps : (qs : List Request) (old new : Seen S) (replies : List (Result Receipt Refusal)) (gone : List (Held S))
      (before after : ℕ) → AreApplied g qs old replies new gone before after
      → AllByRecursion (λ q. child_returned q.command ≡ None) qs → gone ≡ []
  each_keeps [] old new [] gone before after each none = each.1
  each_keeps [] old new (r ∷ replies) gone before after each none = absurd each
  each_keeps (q ∷ qs) old new [] gone before after each none = absurd each
  each_keeps (q ∷ qs) old new (r ∷ replies) gone before after each none =
      each.4 ∙ ap (λ x. x ++ each.3) (step_keeps q old each.0 r each.2.step none.0)
      ∙ each_keeps qs each.0 new replies each.3 each.1 after each.5 none.1

  -- disks that cannot fail leave open what was open
  open_unfailing : ((h : Held S) → (state g h).faults ≡ 0) → (old new : List (Member S)) → AllSurvive g old new
      → AllClean g new → AllOpen g old → AllOpen g new
  open_unfailing never old new survive clean opened =
      All-from_recursion (λ (m : Member S). IsTrue (state g m.conn).is_open) new
      (go old new survive (recursion_from_All (λ (m : Member S). HasCleanDisk (state g m.conn)) new clean)
      (recursion_from_All (λ (m : Member S). IsTrue (state g m.conn).is_open) old opened))
    where
      go : (ms ns : List (Member S)) → AllSurvive g ms ns → AllByRecursion
          (λ (m : Member S). HasCleanDisk (state g m.conn)) ns
          → AllByRecursion (λ (m : Member S). IsTrue (state g m.conn).is_open) ms
          → AllByRecursion (λ (m : Member S). IsTrue (state g m.conn).is_open) ns
      go [] [] each disks were = tt
      go [] (n ∷ ns) each disks were = absurd each
      go (m ∷ ms) [] each disks were = absurd each
      go (m ∷ ms) (n ∷ ns) each disks were = (
        elim (each.0.closes disks.0 were.0) [
          | inl still ↦ still
          | inr more ↦ absurd (let one = never m.conn in let two = never n.conn in omega (arith, more, one, two))
        ],
        go ms ns each.1 disks.1 were.1,
      )

  none_shut_before : (replies : List (Result Receipt Refusal)) (reply : Result Receipt Refusal)
      → NoneShut g (replies ++ reply ∷ []) → NoneShut g replies
  none_shut_before replies reply (inl never) = inl never
  none_shut_before replies reply (inr sound) = inr (All-left (λ r. ¬ IsFault r) replies (reply ∷ []) sound)

  -- after one request
  open_after : (q : Request) (replies : List (Result Receipt Refusal)) (reply : Result Receipt Refusal)
      (mid new : Seen S) (it : IsStep g q mid reply new) → NoneShut g (replies ++ reply ∷ [])
      → AllClean g new.members
      → AreClean g it.gone → AllOpen g mid.members → AllOpen g new.members
  open_after q replies (Ok receipt) mid new it none clean gone opened = it.opens clean gone no_fault opened
    where
      no_fault : ¬ IsFault (Ok receipt)
      no_fault (inl e) = let x = e in cc
      no_fault (inr e) = let x = e in cc
  open_after q replies (Err why) mid new it (inl never) clean gone opened =
      open_unfailing never mid.members new.members (it.survive refl) clean opened
  open_after q replies (Err why) mid new it (inr sound) clean gone opened =
      it.opens clean gone (All-right (λ r. ¬ IsFault r) replies (Err why ∷ []) sound).0 opened

  -- no request yet
  none_told : (seen : Seen S) (n : ℕ) → (run : IsRun g [] seen [] seen n n) × (run.gone ≡ [])
  none_told seen n = (
    record {
      gone = [];
      clean = λ clean gone. clean;
      run = λ clean gone w stands. (w, refl, stands);
      registers = λ clean gone w stands.
          (w, (refl, stands.members.register), stands);
      opens = λ clean gone sound opened. opened;
      told = λ usable none. tt;
      usable = λ sound. refl;
      shelf = omega arith;
      each = (refl, refl, refl);
      kept = λ none. refl;
      failed = λ failed. (tt, refl);
      stays_open = λ clean gone usable none opened. opened;
      stops =
          λ clean gone usable failed. absurd (let both : true ≡ false = sym failed ∙ usable in cc);
      unharmed = λ told why is. absurd (none_left told why is);
    },
    refl,
  )

  pub run_none : (seen : Seen S) (n : ℕ) → IsRun g [] seen [] seen n n
  run_none seen n = (none_told seen n).0

  -- a world that can be used could be used before
  was_usable : (q : Request) (old new : Seen S) (reply : Result Receipt Refusal) (before after : ℕ)
      → IsApplied g q old reply new before after → new.has_failed ≡ false → old.has_failed ≡ false
  was_usable q old new reply before after next usable =
      elim old.has_failed as (λ b. old.has_failed ≡ b → b ≡ false)
      [ false ↦ λ is. refl | true ↦ λ is. absurd (let stays = (next.failed is).1 in cc) ] refl

  -- and one more
  more_told : (qs : List Request) (q : Request) (old mid new : Seen S) (replies : List (Result Receipt Refusal))
      (reply : Result Receipt Refusal) (before between after : ℕ)
      → (first : IsRun g qs old replies mid before between) → (next : IsApplied g q mid reply new between after)
      → (run : IsRun g (qs ++ q ∷ []) old (replies ++ reply ∷ []) new before after)
      × (run.gone ≡ first.gone ++ next.step.gone)
  more_told qs q old mid new replies reply before between after first next = (
    record {
      gone = first.gone ++ next.step.gone;
      clean = λ clean gone. first.clean (next.step.clean clean (mine gone)) (theirs gone);
      run = λ clean gone w stands.
          let was = first.run (next.step.clean clean (mine gone)) (theirs gone) w stands in
          let is = next.step.step clean (mine gone) was.0 was.2 in (
            is.0,
            (run_of_both w qs (q ∷ []) (replies ++ reply ∷ []) is.0).1
                (was.0, replies, reply ∷ [], refl, was.1, (is.0, is.1, refl)),
            is.2,
          );
      registers = λ clean gone w stands.
          let was = first.registers (next.step.clean clean (mine gone)) (theirs gone) w stands in
          let is = next.step.step clean (mine gone) was.0 was.2 in
          (is.0, one_step_more w was.0 is.0 qs replies q reply was.1 is.1 (next.step.register is.0 is.2), is.2);
      opens = λ clean gone sound opened.
          next.step.opens clean (mine gone) (All-right (λ r. ¬ IsFault r) replies (reply ∷ []) sound).0
          (first.opens (next.step.clean clean (mine gone)) (theirs gone)
          (All-left (λ r. ¬ IsFault r) replies (reply ∷ []) sound) opened);
      told = λ usable none.
          All-snoc (λ r. ¬ (r ≡ Err StoreFault)) replies reply
          (first.told (was_usable q mid new reply between after next usable) (λ more. none (grown more)))
          (λ is. elim (next.cause is) [
            | inl failed ↦ absurd (let both : true ≡ false = sym failed ∙ usable in cc)
            | inr more ↦ none (grew more)
          ]);
      usable = λ sound.
          next.usable (All-right (λ r. ¬ IsFault r) replies (reply ∷ []) sound).0
          ∙ first.usable (All-left (λ r. ¬ IsFault r) replies (reply ∷ []) sound);
      shelf = omega (arith, first.shelf, next.shelf);
      each = each_more qs old mid new replies q reply first.gone before between after first.each next;
      kept = λ none. each_keeps (qs ++ q ∷ []) old new (replies ++ reply ∷ []) (first.gone ++ next.step.gone)
          before
          after (each_more qs old mid new replies q reply first.gone before between after first.each next) none;
      failed = λ failed.
          let was = first.failed failed in
          let now = next.failed (ap (λ (s : Seen S). s.has_failed) was.1 ∙ failed) in
          (All-snoc (λ r. r ≡ Err StoreFault) replies reply was.0 now.0, now.1 ∙ was.1);
      stays_open = λ clean gone usable none opened.
          open_after q replies reply mid new next.step none clean (mine gone)
          (first.stays_open (next.step.clean clean (mine gone)) (theirs gone)
          (was_usable q mid new reply between after next usable) (none_shut_before replies reply none) opened);
      stops = λ clean gone usable failed w stands opened.
          elim mid.has_failed as (λ b. mid.has_failed ≡ b → IsStopped g (qs ++ q ∷ [])
          (replies ++ reply ∷ []) w new) [
            | true ↦ λ is. stopped_before is (first.stops (next.step.clean clean (mine gone)) (theirs gone) usable is
                w stands opened)
            | false ↦ λ is. stopped_here is clean gone failed w stands opened
          ] refl;
      unharmed = λ told why is usable clean gone none w stands opened.
          let last = snoc_same replies told reply (Err why) is in
          let refused : IsErr reply = subst IsErr (sym last.1) refl in
          let can : mid.has_failed ≡ false = was_usable q mid new reply between after next usable in
          let was = first.run (next.step.clean clean (mine gone)) (theirs gone) w stands in
          let now = next.step.step clean (mine gone) was.0 was.2 in
          let still_open = first.stays_open (next.step.clean clean (mine gone)) (theirs gone) can
          (subst (NoneShut g) (sym last.0) none) opened in (
            was.0,
            (run_of_both w qs (q ∷ []) (replies ++ reply ∷ []) was.0).1 (
              was.0,
              replies,
              reply ∷ [],
              refl,
              was.1,
              (
                was.0,
                refused_stays was.0 now.0 q reply refused now.1,
                refl,
              ),
            ),
            next.still refused was.0 was.2,
            next.unharmed refused usable clean was.0 was.2 still_open,
          );
    },
    refl,
  )
    where
      mine : AreClean g (first.gone ++ next.step.gone) → AreClean g next.step.gone
      mine gone = right_clean g first.gone next.step.gone gone

      theirs : AreClean g (first.gone ++ next.step.gone) → AreClean g first.gone
      theirs gone = left_clean g first.gone next.step.gone gone

      grown : MoreFaults before between → MoreFaults before after
      grown more = omega (arith, more, next.shelf)

      grew : MoreFaults between after → MoreFaults before after
      grew more = omega (arith, more, first.shelf)

      -- it was stopped before, and this request was told so
      stopped_before : mid.has_failed ≡ true → {w : World} → IsStopped g qs replies w mid
          → IsStopped g (qs ++ q ∷ []) (replies ++ reply ∷ []) w new
      stopped_before is it =
          let now = next.failed is in
          record {
            done = it.done;
            at = it.at;
            rest = it.rest ++ q ∷ [];
            told = it.told;
            reply = it.reply;
            requests = ap (λ xs. xs ++ q ∷ []) it.requests ∙ append_assoc it.done (it.at ∷ it.rest) (q ∷ []);
            replied = ap (λ xs. xs ++ reply ∷ []) it.replied
                ∙ append_assoc it.told (it.reply ∷ map told_so it.rest) (reply ∷ [])
                ∙ ap (λ xs. it.told ++ it.reply ∷ xs) (ap (λ r. map told_so it.rest ++ r ∷ []) now.0
                ∙ sym (map-append told_so it.rest (q ∷ [])));
            fault = it.fault;
            mid = it.mid;
            ran = it.ran;
            stands = subst (λ s. StandsFor g s it.mid) (sym now.1) it.stands;
            crash = λ none. subst (λ s. LeavesOneOf g it.mid.frame (held g s) it.mid.packages
                (outcome it.mid it.at).1.packages) (sym now.1) (it.crash none);
          }

      -- it is stopped here
      stopped_here : mid.has_failed ≡ false → AllClean g new.members → AreClean g (first.gone ++ next.step.gone)
          → new.has_failed ≡ true → (w : World) → StandsFor g old w → AllOpen g old.members
          → IsStopped g (qs ++ q ∷ []) (replies ++ reply ∷ []) w new
      stopped_here is clean gone failed w stands opened =
          let was = first.run (next.step.clean clean (mine gone)) (theirs gone) w stands in
          let fault : IsFault reply = elim (fault_or_not reply) [
            | inl f ↦ f
            | inr n ↦ absurd (let same = next.usable n in let both : true ≡ false =
                sym failed ∙ same ∙ is in cc)
          ] in
          record {
            done = qs;
            at = q;
            rest = [];
            told = replies;
            reply = reply;
            requests = refl;
            replied = refl;
            fault = fault;
            mid = was.0;
            ran = was.1;
            stands = next.still (fault_is_err reply fault) was.0 was.2;
            crash = λ none. next.step.crash fault is was.0 was.2
                (first.stays_open (next.step.clean clean (mine gone)) (theirs gone) is none opened);
          }

  pub run_more : (qs : List Request) (q : Request) (old mid new : Seen S) (replies : List (Result Receipt Refusal))
      (reply : Result Receipt Refusal) (before between after : ℕ) → IsRun g qs old replies mid before between
      → IsApplied g q mid reply new between after
      → IsRun g (qs ++ q ∷ []) old (replies ++ reply ∷ []) new before after
  run_more qs q old mid new replies reply before between after first next =
      (more_told qs q old mid new replies reply before between after first next).0

  -- with what a shelf was asked for and given back
  module _ {H : Type 0} (Asks : List ℕ → H → H → Type 0) (Takes : List ℕ → S → H → H → Type 0)
      (Fails : H → ℕ) where
    pub none_with : (seen : Seen S) (n : ℕ) (s : H) → IsRunWith g Asks Takes Fails [] seen [] seen n n s s
    none_with seen n s = record { run = (none_told seen n).0; uses = (refl, (none_told seen n).1, refl) }

    pub more_with : (qs : List Request) (q : Request) (old mid new : Seen S) (replies : List (Result Receipt Refusal))
        (reply : Result Receipt Refusal) (before between after : ℕ) (s b t : H)
        → IsRunWith g Asks Takes Fails qs old replies mid before between s b
        → (next : IsApplied g q mid reply new between after)
        → (one : IsStepWith g Asks Takes Fails q mid reply new b t) → next.step.gone ≡ one.step.gone
        → IsRunWith g Asks Takes Fails (qs ++ q ∷ []) old (replies ++ reply ∷ []) new before after s t
    more_with qs q old mid new replies reply before between after s b t first next one same =
        let both = more_told qs q old mid new replies reply before between after first.run next in
        record {
          run = both.0;
          uses = subst (λ gone. AreStepsWith g Asks Takes Fails (qs ++ q ∷ []) old (replies ++ reply ∷ []) new
              gone s
              t) (sym (both.1 ∙ ap (λ x. first.run.gone ++ x) same))
              (steps_more g Asks Takes qs old mid new replies q reply first.run.gone s b t first.uses one);
        }
