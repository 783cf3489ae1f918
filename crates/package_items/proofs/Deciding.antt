-- Answers of yes or no from those of several calls.
use Rattle.std.proofs.Common.{◌≡◌, ℕ, ◌+◌, ◌<◌, List, length, take, get_or, Bool, true, false, Result}
use Rattle.std.proofs.Common.{Ok, Err}
use Rattle.std.proofs.Common.{IsTrue, refl, sym, subst}
use Rattle.std.specs.Prelude.{◌&&◌, IsPermutation}
use Rattle.std.specs.List.{AllByRecursion}
use Rattle.std.proofs.lemmas.List.{take_more}
use Rattle.std.proofs.lemmas.List.Sorted.{IsPermutation-sym}
use Rattle.sqlite.specs.Effect.{Database}
use Rattle.sqlite.specs.State.{State, HasCleanDisk}
use Rattle.store_sql.specs.Transactions.{Looks}
use Rattle.store_sql.proofs.Staying.{looks_stays, stays_then}
use Rattle.sheet_types.proofs.Every.{All-weaker, All-snoc}
use Rattle.sheet_types.proofs.Same.{In, All-In, In-all}
use Rattle.package_tables.specs.Calls.{Answers}
use Rattle.package_tables.specs.Package.{Tables}
use Rattle.identity_register.proofs.Finding.{moved}
use Rattle.identity_register.proofs.Looking.{Looked, looked, looked_then, tells, fails}
use Rattle.identity_register.proofs.Reaching.{GoesOn}
use Rattle.package_items.specs.Answers.{Decides}
use Rattle.package_items.proofs.Walking.{AreNumbered, numbered}

-- a question and another of the same answer
pub decides_same : {P Q : Type 0} (b : Bool) → (P → Q) → (Q → P) → Decides P b → Decides Q b
decides_same true to fro h = to h
decides_same false to fro h = λ q. h (fro q)

pub decides_both : (P Q : Type 0) (a b : Bool) → Decides P a → Decides Q b → Decides (P × Q) (a && b)
decides_both P Q true true p q = (p, q)
decides_both P Q true false p q = λ both. q both.1
decides_both P Q false b p q = λ both. p both.0

-- no to a part is no to the whole
pub says_no : {E F : Type 0} {P Q : Tables → Type 0} {a b : State} {r : Result Bool E} → r ≡ Ok false
    → Looks {X = Bool} {E = E} (Answers (λ t. Decides (P t))) a b r → ((t : Tables) → Q t → P t)
    → Looks {X = Bool} {E = F} (Answers (λ t. Decides (Q t))) a b (Ok false)
says_no {P = P} {Q = Q} is looks so = tells (λ t. Decides (Q t)) (looked (λ t. Decides (P t)) is looks)
    (λ t lacks q. lacks (so t q))

-- and no to a part after others
pub says_no_then : {E F : Type 0} {Fact P Q : Tables → Type 0} {a b c : State} {r : Result Bool E} → Looked Fact a b
    → r ≡ Ok false → Looks {X = Bool} {E = E} (Answers (λ t. Decides (P t))) b c r
    → ((t : Tables) → Q t → P t)
    → Looks {X = Bool} {E = F} (Answers (λ t. Decides (Q t))) a c (Ok false)
says_no_then {P = P} {Q = Q} first is looks so = tells (λ t. Decides (Q t))
    (looked_then (λ t. Decides (P t)) first is looks) (λ t h q. h.1 (so t q))

-- the last part, after yes to all others
pub says_last : {E : Type 0} {Fact P Q : Tables → Type 0} {a b c : State} (r : Result Bool E) → Looked Fact a b
    → Looks {X = Bool} {E = E} (Answers (λ t. Decides (P t))) b c r → ((t : Tables) → Fact t → P t → Q t)
    → ((t : Tables) → Q t → P t)
    → Looks {X = Bool} {E = E} (Answers (λ t. Decides (Q t))) a c r
says_last {P = P} {Q = Q} (Ok x) first next to fro = tells (λ t. Decides (Q t))
    (looked_then (λ t. Decides (P t)) first refl next) (λ t h. decides_same x (to t h.0) (fro t) h.1)
says_last (Err e) first next to fro = fails (Err e) refl (stays_then first.stays (looks_stays next))

-- what calls that went on have found, where the last left the store open
pub goes_tell : {X E : Type 0} (Answer : Tables → X → Type 0) {a c : State} {y : X}
    → GoesOn (λ t. Answer t y) a c
    → (HasCleanDisk c → IsTrue c.is_open) → Looks {X = X} {E = E} (Answers Answer) a c (Ok y)
goes_tell Answer it open' = record {
  rests = it.stays.rests;
  done = λ clean. let d = it.told clean (it.stays.was_open (open' clean)) in (d.0, (d.1, d.2));
  was_open = it.stays.was_open;
  holds = it.stays.holds;
  survives = it.stays.survives;
}

-- in a formed database no two rows of a user table have one number
pub with_numbers : {Fact : Tables → Type 0} {a c : State} → GoesOn (λ t. AreNumbered t → Fact t) a c
    → GoesOn Fact a c
with_numbers {a = a} it = record {
  stays = it.stays;
  told = λ clean is_open. let d =
      it.told clean is_open in (d.0, d.1, λ formed. d.2 formed (numbered a.now formed));
}

pub opened : {X E : Type 0} {Changes : X → Database → Database → Type 0} {a b : State} {r : Result X E} {x : X}
    → r ≡ Ok x → Looks {X = X} {E = E} Changes a b r → HasCleanDisk b → IsTrue b.is_open
opened {X} {E} {Changes} {a} {b} {r} {x} is it clean = (on.done clean).0
  where
    on : Looks {X = X} {E = E} Changes a b (Ok x)
    on = subst (Looks Changes a b) is it

-- ---- rows that were read are all rows, in another order

all_moved : {X : Type 0} (P : X → Type 0) (xs ys : List X) → IsPermutation xs ys → AllByRecursion P xs
    → AllByRecursion P ys
all_moved P xs ys moves all = All-weaker (λ y. In y ys) P (λ y i. All-In P y xs all
    (moved y ys xs (IsPermutation-sym xs ys moves) i)) ys (In-all ys)

pub decides_moved : {X : Type 0} (P : X → Type 0) (xs ys : List X) (b : Bool) → IsPermutation xs ys
    → Decides (AllByRecursion P ys) b → Decides (AllByRecursion P xs) b
decides_moved P xs ys b moves h = decides_same b (all_moved P ys xs (IsPermutation-sym xs ys moves))
    (all_moved P xs ys moves) h

-- ---- each of some elements

pub each_yes : {X : Type 0} (P : X → Type 0) (xs : List X) (i : ℕ) (d : X) → i < length xs → P (get_or xs i d)
    → AllByRecursion P (take i xs) → AllByRecursion P (take (i + 1) xs)
each_yes P xs i d less p all = subst (AllByRecursion P) (sym (take_more xs i d less))
    (All-snoc P (take i xs) (get_or xs i d) all p)
