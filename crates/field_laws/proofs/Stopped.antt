-- A list of requests that was stopped, and comes again whole.
use Rattle.std.specs.Prelude.{◌≡◌, List, [], ◌∷◌, ◌++◌, Some, Ok, Err, refl}
use Rattle.std.proofs.Common.{sym, ap, subst, ◌∙◌, inl, inr}
use Rattle.std.specs.List.{AllByRecursion, AllZip}
use Rattle.sheet_types.specs.Custody.{kept}
use Rattle.sheet_types.specs.Lines.{HasTypes}
use Rattle.sheet_types.specs.Register.{IsRegister}
use Rattle.sheet_types.specs.Step.{Run}
use Rattle.sheet_types.specs.Texts.{line}
use Rattle.sheet_types.specs.World.{World}
use Rattle.sheet_types.specs.declared.command.Request.{Request}
use Rattle.sheet_types.specs.declared.receipt.Receipt.{Receipt}
use Rattle.sheet_types.specs.declared.refusal.Refusal.{Refusal}
use Rattle.sheet_types.proofs.Every.{All-append, All-left, All-right, All-weaker}
use Rattle.sheet_laws.proofs.Running.{step_keeps_register, run_of_both, repeat_changes_nothing}
use Rattle.sheet_kept_laws.specs.Laws.{HaveTypes}
use Rattle.sheet_kept_laws.proofs.Kept.{run_keeps_kept, accepted_is_kept}
use Rattle.field_run_laws.specs.Lists.{Reply, IsWithin, IsGiven, AreGiven}
use Rattle.field_laws.specs.Changing.{IsAgain, IsSound, StoppedListComesAgain, StoppedChangesComeHome}
use Rattle.field_laws.proofs.Home.{changes_come_home}
use Rattle.field_laws.proofs.Makes.{within}

-- this receipt of the request is kept
abbrev IsKept : World → Reply → Request → Type 0
IsKept m reply q = (r : Receipt) × (reply ≡ Ok r) × (kept m q.id ≡ Some r) × (r.line ≡ line q.command)

-- what got its receipt is kept behind the others
all_kept : (w : World) (qs : List Request) (replies : List Reply) (m : World) → HaveTypes qs → IsRegister w
    → Run w qs replies m → AreGiven replies → AllZip (IsKept m) replies qs
all_kept w [] [] m types register run given = tt
all_kept w [] (reply ∷ replies) m types register run given = absurd run
all_kept w (q ∷ qs) [] m types register run given = absurd run
all_kept w (q ∷ qs) (Err why ∷ replies) m types register run given = absurd given.0
all_kept w (q ∷ qs) (Ok r ∷ replies) m types register run given =
    let one = accepted_is_kept w q r run.0 run.1 in
    let there : IsRegister run.0 = step_keeps_register w q (Ok r) run.0 types.0 register run.1 in (
      (r, refl, run_keeps_kept run.0 qs replies m q.id r types.1 there run.2 one.0, one.1),
      all_kept run.0 qs replies m
          types.1 there run.2 given.1,
    )

-- it gets that receipt again, and changes nothing
stays : (m : World) (qs : List Request) (first replies : List Reply) (next : World) → AllZip (IsKept m) first qs
    → Run m qs replies next → (next ≡ m) × AllZip IsAgain first replies
stays m [] [] [] next all run = (run, tt)
stays m [] (reply ∷ first) replies next all run = absurd all
stays m [] [] (reply ∷ replies) next all run = absurd run
stays m (q ∷ qs) [] replies next all run = absurd all
stays m (q ∷ qs) (old ∷ first) [] next all run = absurd run
stays m (q ∷ qs) (old ∷ first) (reply ∷ replies) next all run =
    let is = repeat_changes_nothing m q all.0.0 all.0.2 all.0.3 in
    let one : (run.0 ≡ m) × IsAgain old reply = elim run.1 [
      | inl done ↦ (done.1 ∙ ap (λ o. o.1) is, inl (done.0 ∙ ap (λ o. o.0) is ∙ sym all.0.1))
      | inr fault ↦ (fault.1, inr fault.0)
    ] in
    let rest = stays m qs first replies next all.1 (subst (λ v. Run v qs replies next) one.0 run.2) in
    (rest.0, (one.1, rest.1))

pub stopped_list_comes_again : StoppedListComesAgain
stopped_list_comes_again w xs ys first mid again next types register run given more =
    let parts = (run_of_both mid xs ys again next).0 more in
    let it = stays mid xs first parts.1 parts.0 (all_kept w xs first mid types register run given) parts.4 in (
      parts.1,
      parts.2,
      parts.3,
      it.1,
      (run_of_both w xs ys (first ++ parts.2) next).1 (
        mid,
        first,
        parts.2,
        refl,
        run,
        subst
            (λ v. Run v ys parts.2 next) it.0 parts.5,
      ),
    )

-- a receipt is no fault
given_sound : (reply : Reply) → IsGiven reply → IsSound reply
given_sound (Ok r) given fault = elim fault [ inl memory ↦ no_error _ memory | inr store ↦ no_error _ store ]
  where
    no_error : (e : Refusal) → Ok r ≡ Err e → ⊥
    no_error e same = cc
given_sound (Err why) given fault = absurd given

pub stopped_changes_come_home : StoppedChangesComeHome
stopped_changes_come_home w p ticket moment more file held xs ys first mid again next register live changes can run
    given whole sound =
    let requests : List Request = xs ++ ys in
    let all = within w p ticket moment more file held requests register live changes in
    let types : HaveTypes xs = All-left (λ q. HasTypes q.command) xs ys
    (All-weaker (λ q. HasTypes q.command × IsWithin p q.command) (λ q. HasTypes q.command) (λ q both. both.0)
    requests all) in
    let it = stopped_list_comes_again w xs ys first mid again next types register run given whole in
    let behind : AllByRecursion IsSound it.1 = All-right IsSound it.0 it.1
    (subst (AllByRecursion IsSound) it.2 sound) in
    (changes_come_home w p ticket moment more file held requests (first ++ it.1) next register live changes can it.4
    (All-append IsSound first it.1 (All-weaker IsGiven IsSound given_sound first given) behind)).1
