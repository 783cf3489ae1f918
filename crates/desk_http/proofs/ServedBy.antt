-- What one connection makes of a world, and one after another.
use Rattle.std.specs.Prelude.{◌≤◌, ℕ, zero, suc, true, false}
use Rattle.std.proofs.Common.{◌≡◌, ◌⊎◌, ◌+◌, List, [], ◌∷◌, ◌++◌, length, Option, Result}
use Rattle.std.proofs.Common.{Ok, Err, refl, sym, subst}
use Rattle.std.proofs.Common.{inl, inr, arith, length-append}
use Rattle.std.proofs.Math.Numerals.{suc-eq-add-one}
use Rattle.sqlite.specs.Store.{Ghosts}
use Rattle.sheet_types.specs.Step.{Step}
use Rattle.sheet_types.specs.World.{World}
use Rattle.sheet_types.specs.declared.command.Request.{Request}
use Rattle.sheet_types.specs.declared.receipt.Receipt.{Receipt}
use Rattle.sheet_types.specs.declared.refusal.Refusal.{Refusal}
use Rattle.world_changes.specs.Leaving.{AreClean}
use Rattle.world.specs.Worlds.{IsRead, IsStep, RunsOverRegisters, Seen}
use Rattle.world_changes.proofs.HeldStores.{left_clean, right_clean}
use Rattle.desk_calls.specs.declared.calls.Call.TheVariants as call
use Rattle.desk_http.specs.Served.{IsDue, Serving}
use Rattle.desk_http.specs.declared.serving.Served.{Served}
use Rattle.desk_http.specs.declared.serving.Served.TheVariants.{Nothing, Answered}
use Rattle.desk_http.specs.declared.serving.ServeFault.{ServeFault}
use Rattle.desk_http.specs.declared.serving.ServeFault.TheVariants.{Read, Write}
use Rattle.desk_http.specs.Connections.{AreServed, EndsAfter, IsServedBy, Serves}
use Rattle.desk_http.specs.declared.connections.DeskFault.{DeskFault}
use Rattle.desk_http.specs.declared.connections.DeskFault.TheVariants as fault

-- a run over registers, and another behind it
runs_then : (w mid next : World) (qs more : List Request) (replies others : List (Result Receipt Refusal))
    → RunsOverRegisters w qs replies mid → RunsOverRegisters mid more others next
    → RunsOverRegisters w (qs ++ more) (replies ++ others) next
runs_then w mid next [] more [] others ran goes = subst (λ v. RunsOverRegisters v more others next) ran.0 goes
runs_then w mid next [] more (r ∷ replies) others ran goes = absurd ran
runs_then w mid next (q ∷ qs) more [] others ran goes = absurd ran
runs_then w mid next (q ∷ qs) more (r ∷ replies) others ran goes =
    (ran.0, (ran.1.0, ran.1.1, runs_then ran.1.0 mid next qs more replies others ran.1.2 goes))

module _ {S : Type 0} (g : Ghosts S) where
  -- nothing was asked yet
  served_none : (seen : Seen S) → IsServedBy g 0 seen seen
  served_none seen = record {
    requests = [];
    few = omega arith;
    replies = [];
    gone = [];
    clean = λ clean gone. clean;
    run = λ clean gone w stands. (w, (refl, stands.members.register), stands);
  }

  -- the same, where the world was only read
  pub read_by : (old new : Seen S) → IsRead g old new → IsServedBy g 1 old new
  read_by old new read = record {
    requests = [];
    few = omega arith;
    replies = [];
    gone = [];
    clean = λ clean gone. read.clean clean;
    run = λ clean gone w stands. (w, (refl, stands.members.register), read.stands w stands);
  }

  pub same_by : (old new : Seen S) → new ≡ old → IsServedBy g 1 old new
  same_by old new same =
      subst (λ seen. IsServedBy g 1 old seen) (sym same) (record {
        requests = [];
        few = omega arith;
        replies = [];
        gone = [];
        clean = λ clean gone. clean;
        run = λ clean gone w stands. (w, (refl, stands.members.register), stands);
      })

  read_none : (old new : Seen S) → (new ≡ old) ⊎ IsRead g old new → IsServedBy g 0 old new
  read_none old new (inl same) = subst (λ seen. IsServedBy g 0 old seen) (sym same) (served_none old)
  read_none old new (inr read) = record {
    requests = [];
    few = omega arith;
    replies = [];
    gone = [];
    clean = λ clean gone. read.clean clean;
    run = λ clean gone w stands. (w, (refl, stands.members.register), read.stands w stands);
  }

  pub told_by : (old new : Seen S) → (new ≡ old) ⊎ IsRead g old new → IsServedBy g 1 old new
  told_by old new (inl same) = same_by old new same
  told_by old new (inr read) = read_by old new read

  -- a request
  pub step_by : (q : Request) (old new : Seen S) (reply : Result Receipt Refusal) → IsStep g q old reply new
      → IsServedBy g 1 old new
  step_by q old new reply made = record {
    requests = q ∷ [];
    few = omega arith;
    replies = reply ∷ [];
    gone = made.gone;
    clean = made.clean;
    run = λ clean gone w stands.
        let is = made.step clean gone w stands in
        (is.0, (stands.members.register, (is.0, is.1, (refl, made.register is.0 is.2))), is.2);
  }

  due_by : (own : List ℕ) (text : Option (List ℕ)) (old new : Seen S) (out : List ℕ) (before after : ℕ)
      → IsDue g own text old out new before after → IsServedBy g 1 old new
  due_by own known old new out before after (inl (call.Refused flaw, is, (same, text))) = same_by old new same
  due_by own known old new out before after (inl (call.Apply q, is, (reply, applies, text))) =
      step_by q old new reply applies.step
  due_by own known old new out before after (inl (call.Packages, is, tells)) = told_by old new tells.read
  due_by own known old new out before after (inl (call.Manifest id, is, tells)) = told_by old new tells.read
  due_by own known old new out before after (inl (call.Receipt id, is, tells)) = told_by old new tells.read
  due_by own known old new out before after (inr (some, text, same)) = same_by old new same

  -- what came of one connection, whether its bytes are known or not
  pub served_by : (own : List ℕ) (text : Option (List ℕ)) (old new : Seen S) (before after : ℕ)
      (held holds : Option (List ℕ))
      (r : Result Served ServeFault) → Serving g own text old new before after held holds r → IsServedBy g 1 old new
  served_by own known old new before after held holds (Ok Nothing) (none, same) = same_by old new same
  served_by own known old new before after held holds (Ok Answered) (out, due, sent) =
      due_by own known old new out before after due
  served_by own known old new before after held holds (Err Read) same = same_by old new same
  served_by own known old new before after held holds (Err Write) (out, due, sent) =
      due_by own known old new out before after due

  -- some connections, and others behind them
  served_then : (m n : ℕ) (old mid new : Seen S) → IsServedBy g m old mid → IsServedBy g n mid new
      → IsServedBy g (m + n) old new
  served_then m n old mid new first next = record {
    requests = first.requests ++ next.requests;
    few = let both = length-append first.requests next.requests in omega (arith, both, first.few, next.few);
    replies = first.replies ++ next.replies;
    gone = first.gone ++ next.gone;
    clean = λ clean gone. first.clean (next.clean clean (right_clean g first.gone next.gone gone))
        (left_clean g first.gone next.gone gone);
    run = λ clean gone w stands.
        let was =
        first.run (next.clean clean (right_clean g first.gone next.gone gone))
        (left_clean g first.gone next.gone gone) w stands in
        let is = next.run clean (right_clean g first.gone next.gone gone) was.0 was.2 in
        (is.0, runs_then w was.0 is.0 first.requests next.requests first.replies next.replies was.1 is.1, is.2);
  }

  -- a world that was only read, if at all, and then served
  pub read_first : (old mid new : Seen S) → (mid ≡ old) ⊎ IsRead g old mid → IsServedBy g 1 mid new
      → IsServedBy g 1 old new
  read_first old mid new read next = served_then 0 1 old mid new (read_none old mid read) next

  -- and one that was served, and then only read, if at all
  pub read_last : (old mid new : Seen S) → IsServedBy g 1 old mid → (new ≡ mid) ⊎ IsRead g mid new
      → IsServedBy g 1 old new
  read_last old mid new first read = served_then 1 0 old mid new first (read_none mid new read)

  -- so many, of more that were to be served
  served_up_to : (n most : ℕ) (old new : Seen S) → n ≤ most → IsServedBy g n old new
      → IsServedBy g most old new
  served_up_to n most old new few it = record {
    requests = it.requests;
    few = let fit = it.few in omega (arith, few, fit);
    replies = it.replies;
    gone = it.gone;
    clean = it.clean;
    run = it.run;
  }

  -- connections that were each served over a world that could be used
  all_served : (n : ℕ) (old new : Seen S) → AreServed g n old new → IsServedBy g n old new
  all_served zero old new same = subst (λ seen. IsServedBy g 0 old seen) (sym same) (served_none old)
  all_served (suc n) old new (mid, front, usable, last) =
      subst (λ k. IsServedBy g k old new) (sym (suc-eq-add-one n))
      (served_then n 1 old mid new (all_served n old mid front) last)

  -- a desk that ended after so many connections, in each of its ways
  pub desk_served : (n most : ℕ) (old new : Seen S) → n ≤ most → AreServed g n old new
      → IsServedBy g most old new
  desk_served n most old new few each = served_up_to n most old new few (all_served n old new each)

  pub one_more : (n : ℕ) (old mid new : Seen S) → AreServed g n old mid → mid.has_failed ≡ false
      → IsServedBy g 1 mid new → AreServed g (n + 1) old new
  one_more n old mid new each usable last =
      subst (λ k. AreServed g k old new) (suc-eq-add-one n) (mid, each, usable, last)

  pub desk_ended : (n most : ℕ) (old new : Seen S) (end : Result (Unit {0}) DeskFault) → n ≤ most
      → AreServed g n old new → EndsAfter g most n new end → Serves g most old new end
  desk_ended n most old new end few each ends = record { served = n; few = few; each = each; ends = ends }
