-- What is told of things, thing by thing and receipt by receipt.
use Rattle.std.specs.Prelude.{◌≡◌, ◌↔◌, ⊤, ℕ, Bool, true, false, cond, List, [], ◌∷◌, ◌++◌}
use Rattle.std.specs.Prelude.{Option, Some, None, bytes_eq, refl}
use Rattle.std.proofs.Common.{sym, ap, subst, ◌∙◌}
use Rattle.std.specs.List.{AllByRecursion}
use Rattle.std.specs.Ordering.{nat_cmp}
use Rattle.std.specs.Cmp.Lexicographic.{slice_cmp}
use Rattle.std.specs.BTreeMap.{BTreeMap, get, Updates}
use Rattle.std.proofs.lemmas.Bool.{true≢false}
use Rattle.std.proofs.lemmas.Slice.Eq.{bytes_eq-Decides}
use Rattle.sheet_types.specs.Balance.{Agrees}
use Rattle.sheet_types.specs.World.{moved_thing}
use Rattle.sheet_types.specs.declared.receipt.Moved.{Moved}
use Rattle.sheet_types.specs.declared.receipt.Receipt.{Receipt}
use Rattle.sheet_types.proofs.Every.{All-weaker, All-snoc, All-left, All-right}
use Rattle.sheet_ledger.specs.Agreeing.{Allows, said_of, SaysSo}
use Rattle.sheet_ledger.specs.Parts.{AgreesWithPast}
use Rattle.sheet_ledger.specs.declared.agreeing.Said.{Said}
use Rattle.sheet_ledger.proofs.Maps.{at_key}

-- a map with what one thing more says
pub told_one : (m n : BTreeMap (List ℕ) (Option Said)) (x : Moved) (more : Option Said)
    → ((u : Said) → Allows (Some more) u ↔ (Allows (get (slice_cmp nat_cmp) m (moved_thing x)) u
    × (u ≡ said_of x))) → Updates (slice_cmp nat_cmp) m n (moved_thing x) (Some more)
    → (thing : List ℕ) (u : Said) → Allows (get (slice_cmp nat_cmp) n thing) u ↔
    (Allows (get (slice_cmp nat_cmp) m thing) u × SaysSo thing u x)
told_one m n x more is h thing u =
    elim (bytes_eq (moved_thing x) thing) as (λ v. bytes_eq (moved_thing x) thing ≡ v
    → get (slice_cmp nat_cmp) n thing ≡ cond v (Some more) (get (slice_cmp nat_cmp) m thing)
    → Allows (get (slice_cmp nat_cmp) n thing) u ↔ (Allows (get (slice_cmp nat_cmp) m thing) u
    × SaysSo thing u x)) [
      | true ↦ λ e now.
          let same : moved_thing x ≡ thing = (bytes_eq-Decides (moved_thing x) thing).0 e in (
            (λ allowed. let both = (is u).0 (subst (λ o. Allows o u) now allowed) in
                (subst (λ t. Allows (get (slice_cmp nat_cmp) m t) u) same both.0, λ _. both.1)),
            (λ both. subst (λ o. Allows o u) (sym now) ((is u).1
                (subst (λ t. Allows (get (slice_cmp nat_cmp) m t) u) (sym same) both.0, both.1 e))),
          )
      | false ↦ λ e now. (
        (λ allowed. (subst (λ o. Allows o u) now allowed, λ t. absurd (true≢false (sym t ∙ e)))),
        (λ both. subst (λ o. Allows o u) (sym now) both.0),
      )
    ] refl (at_key m n (moved_thing x) (Some more) h thing)

-- of several facts and one more
pub told_more : {X : Type 0} (P : X → Type 0) (A B C : Type 0) (xs more : List X) (x : X)
    → more ≡ xs ++ x ∷ [] → B ↔ (A × AllByRecursion P xs) → C ↔ (B × P x)
    → C ↔ (A × AllByRecursion P more)
told_more P A B C xs more x is was step = (
  (λ c. let s = step.0 c in let w = was.0 s.0 in (w.0, subst (AllByRecursion P) (sym is) (All-snoc P xs x w.1 s.1))),
  (λ both. let all = subst (AllByRecursion P) is both.1 in step.1
      (was.1 (both.0, All-left P xs (x ∷ []) all), (All-right P xs (x ∷ []) all).0)),
)

-- the same where nothing was told before
pub told_all : {X : Type 0} (P : X → Type 0) (B C : Type 0) (xs more : List X) (x : X) → more ≡ xs ++ x ∷ []
    → B ↔ AllByRecursion P xs → C ↔ (B × P x) → C ↔ AllByRecursion P more
told_all P B C xs more x is was step = (
  (λ c. let s = step.0 c in subst (AllByRecursion P) (sym is) (All-snoc P xs x (was.0 s.0) s.1)),
  (λ h. let all = subst (AllByRecursion P) is h in step.1 (
    was.1 (All-left P xs (x ∷ []) all),
    (All-right P xs (x ∷ []) all).0,
  )),
)

-- what a map says of some receipts
abbrev Tells : BTreeMap (List ℕ) (Option Said) → List Receipt → Type 0
Tells m rs = (thing : List ℕ) (u : Said) → Allows (get (slice_cmp nat_cmp) m thing) u ↔ AllByRecursion
    (λ r. AllByRecursion (SaysSo thing u) r.items) rs

-- a thing says so exactly where it agrees
so_from_agrees : (m n : Moved) → Agrees m n → SaysSo (moved_thing m) (said_of m) n
so_from_agrees m n a e = λ i. record { size = (a e).0 i; fingerprint = (a e).1 i }

agrees_from_so : (m n : Moved) → SaysSo (moved_thing m) (said_of m) n → Agrees m n
agrees_from_so m n s e = (ap (λ v. v.size) (s e), ap (λ v. v.fingerprint) (s e))

-- what is allowed agrees with the past, and back
pub agree_by_map : (m : BTreeMap (List ℕ) (Option Said)) (rs : List Receipt) (r : Receipt) (xs : List Moved)
    → xs ≡ r.items → Tells m rs → AllByRecursion (λ x. Allows (get (slice_cmp nat_cmp) m (moved_thing x))
    (said_of x)) xs → AgreesWithPast rs r
agree_by_map m rs r xs same tells h =
    subst (AllByRecursion (λ x. AllByRecursion (λ y. AllByRecursion (Agrees x) y.items) rs)) same
    (All-weaker (λ x. Allows (get (slice_cmp nat_cmp) m (moved_thing x)) (said_of x))
    (λ x. AllByRecursion (λ y. AllByRecursion (Agrees x) y.items) rs)
    (λ x a. All-weaker (λ y. AllByRecursion (SaysSo (moved_thing x) (said_of x)) y.items)
    (λ y. AllByRecursion (Agrees x) y.items) (λ y. All-weaker (SaysSo (moved_thing x) (said_of x)) (Agrees x)
    (agrees_from_so x) y.items) rs ((tells (moved_thing x) (said_of x)).0 a)) xs h)

pub map_by_agree : (m : BTreeMap (List ℕ) (Option Said)) (rs : List Receipt) (r : Receipt) (xs : List Moved)
    → r.items ≡ xs → Tells m rs → AgreesWithPast rs r → AllByRecursion
    (λ x. Allows (get (slice_cmp nat_cmp) m (moved_thing x)) (said_of x)) xs
map_by_agree m rs r xs same tells h =
    subst (AllByRecursion (λ x. Allows (get (slice_cmp nat_cmp) m (moved_thing x)) (said_of x))) same
    (All-weaker (λ x. AllByRecursion (λ y. AllByRecursion (Agrees x) y.items) rs)
    (λ x. Allows (get (slice_cmp nat_cmp) m (moved_thing x)) (said_of x))
    (λ x a. (tells (moved_thing x) (said_of x)).1 (All-weaker (λ y. AllByRecursion (Agrees x) y.items)
    (λ y. AllByRecursion (SaysSo (moved_thing x) (said_of x)) y.items)
    (λ y. All-weaker (Agrees x) (SaysSo (moved_thing x) (said_of x)) (so_from_agrees x) y.items) rs a)) r.items
    h)
