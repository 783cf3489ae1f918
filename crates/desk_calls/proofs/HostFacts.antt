-- The port of a host.
use Rattle.std.proofs.Common.{◌≡◌, ◌&&◌, ℕ, Bool, true, false, List, ◌∷◌, refl, sym, nat_eq}
use Rattle.std.specs.Prelude.{◌↔◌, IsTrue}
use Rattle.std.specs.List.{list_all}
use Rattle.std.specs.Char.{is_ascii_digit}
use Rattle.std.proofs.lemmas.Bool.{false_from_ne_true, false≢true}
use Rattle.std.proofs.lemmas.List.Sums.{AllPass-from_list_all, list_all-from_AllPass}
use Rattle.httparse.specs.Grammar.{AllPass}
use Rattle.desk_calls.specs.Calls.{is_port}

-- a test of digits, as a value
all_digits : (b : Bool) (text : List ℕ) → (IsTrue b ↔ AllPass is_ascii_digit text) → b ≡ list_all is_ascii_digit text
all_digits true text (to, from) = sym (list_all-from_AllPass is_ascii_digit text (to refl))
all_digits false text (to, from) = sym (false_from_ne_true (list_all is_ascii_digit text)
    (λ e. false≢true (from (AllPass-from_list_all is_ascii_digit text e))))

-- a byte and digits
pub port_is : (text digits : List ℕ) (first : ℕ) (b : Bool) → text ≡ first ∷ digits
    → (IsTrue b ↔ AllPass is_ascii_digit digits) → (nat_eq first 58 && b) ≡ is_port text
port_is text digits first b e is = rw (e, all_digits b digits is) refl
