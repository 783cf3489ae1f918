-- What was found, and what is to be told.
use Rattle.std.proofs.Common.{◌≡◌, ◌∙◌, ℕ, List, refl, sym, ap, subst, length, Result, Ok, Err}
use Rattle.std.specs.Prelude.{Bool, true, false, MatchOption, Option, Some, None, option_map, map, IfOk, MatchResult}
use Rattle.std.specs.Prelude.{OnOk}
use Rattle.std.specs.Bool.{then_some}

-- a text where it is to be, and none elsewhere
pub text_or_none : {T : Type 0} (bytes : T → List ℕ) (found : Option T) (b : Bool) (text : List ℕ)
    → MatchOption found (b ≡ false) (λ t. (b ≡ true) × (bytes t ≡ text))
    → option_map bytes found ≡ then_some b text
text_or_none bytes None b text is = sym (ap (λ v. then_some v text) is)
text_or_none bytes (Some t) b text is = ap Some is.1 ∙ sym (ap (λ v. then_some v text) is.0)

-- what holds of a count holds of what was found equal to it
pub counted_so : {X E F : Type 0} (P : ℕ → Type 0) (r : Result X E) (count : Result ℕ F) (n : ℕ)
    → OnOk r (count ≡ Ok n) → IfOk count (λ k. P k) → IfOk r (λ _. P n)
counted_so P (Ok x) count n e so = subst (λ c. IfOk c (λ k. P k)) e so
counted_so P (Err x) count n e so = tt

-- the same of what is counted
pub kept_counted : {X E K F : Type 0} (P : ℕ → Type 0) (size : K → ℕ) (r : Result X E) (kept : Result K F)
    (n : ℕ)
    → OnOk r (MatchResult kept (λ k. size k ≡ n) (λ fault. ⊥)) → IfOk kept (λ k. P (size k))
    → IfOk r (λ _. P n)
kept_counted P size (Ok x) (Ok k) n e so = subst P e so
kept_counted P size (Ok x) (Err fault) n e so = absurd e
kept_counted P size (Err x) kept n e so = tt

pub if_ok_so : {X E : Type 0} (P Q : X → Type 0) (r : Result X E) → ((x : X) → P x → Q x) → IfOk r (λ x. P x)
    → IfOk r (λ x. Q x)
if_ok_so P Q (Ok x) so it = so x it
if_ok_so P Q (Err e) so it = tt
