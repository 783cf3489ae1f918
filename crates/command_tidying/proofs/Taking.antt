-- Files that were taken out, one after the other.
use Rattle.std.proofs.Common.{◌≡◌, ◌∙◌, ◌∷◌, [], ◌++◌, ℕ, List, Result, Ok, Err, IsErr, refl}
use Rattle.std.proofs.Common.{sym, ap, subst, inl}
use Rattle.std.proofs.Common.{inr, map}
use Rattle.std.specs.Prelude.{OnErr, OnOk, String, string_bytes}
use Rattle.std.proofs.lemmas.List.{map-append}
use Rattle.opening_verdict.specs.declared.seen.StoreSeen.{StoreSeen}
use Rattle.command_tidying.specs.Tidying.{MayGo, TakesOn, TakesOne, TakesOut, TakesSome}
use Rattle.command_tidying.specs.declared.register.Register.{Register}

module _ {Y : Type 0} (Listed : List ℕ → Type 0) (Shown : List ℕ → StoreSeen → Type 0)
    (Removes : List ℕ → Y → Y → Type 0) (register : Register) where
  -- one more
  pub takes_more : (names : List (List ℕ)) (name : List ℕ) (old mid new : Y)
      → TakesOut Listed Shown Removes register names old mid → TakesOne Listed Shown Removes register name mid new
      → TakesOut Listed Shown Removes register (names ++ name ∷ []) old new
  takes_more [] name old mid new same one =
      (new, subst (λ s. TakesOne Listed Shown Removes register name s new) same one, refl)
  takes_more (first ∷ names) name old mid new took one =
      (took.0, took.1, takes_more names name took.0 mid new took.2 one)

  module _ {Z E : Type 0} where
    -- a file that may go was taken out, and noted if it went well
    pub took : (names names' : List (String Z)) (text : String Z) (old new : Y) (r : Result (Unit {0}) E)
        → MayGo Listed Shown Removes register (string_bytes text) → Removes (string_bytes text) old new
        → OnOk r (names' ≡ names ++ text ∷ []) → OnErr r (names' ≡ names)
        → TakesOn Listed Shown Removes {Z = Z} {E = E} register names names' old new r
    took names names' text old new (Ok x) may out noted kept = λ start it.
        subst (λ l. TakesOut Listed Shown Removes register l start new)
        (sym (ap (map (λ t. string_bytes t)) noted ∙ map-append (λ t. string_bytes t) names (text ∷ [])))
        (takes_more (map (λ t. string_bytes t) names) (string_bytes text) start old new it (may, out))
    took names names' text old new (Err e) may out noted kept = λ start it.
        inr (
          string_bytes text,
          subst (λ l. TakesOut Listed Shown Removes register (map (λ t. string_bytes t) l ++ string_bytes text ∷ [])
              start new) (sym kept)
              (takes_more (map (λ t. string_bytes t) names) (string_bytes text) start old new it (may, out)),
        )

    -- nothing was taken out
    pub took_none : (names : List (String Z)) (old : Y) (r : Result (Unit {0}) E)
        → TakesOn Listed Shown Removes {Z = Z} {E = E} register names names old old r
    took_none names old (Ok x) = λ start it. it
    took_none names old (Err e) = λ start it. inl it

    -- one after the other
    pub took_then : (a b c : List (String Z)) (s t u : Y) (r : Result (Unit {0}) E)
        → ((start : Y) → TakesOut Listed Shown Removes register (map (λ x. string_bytes x) a) start s
        → TakesOut Listed Shown Removes register (map (λ x. string_bytes x) b) start t)
        → TakesOn Listed Shown Removes {Z = Z} {E = E} register b c t u r
        → TakesOn Listed Shown Removes {Z = Z} {E = E} register a c s u r
    took_then a b c s t u r first second = λ start it. second start (first start it)

  -- an error, told as another
  pub took_err : {E : Type 0} (names : List (List ℕ)) (old new : Y) (r : Result (Unit {0}) E) → IsErr r
      → TakesSome Listed Shown Removes {E = Unit {0}} register names old new (Err tt)
      → TakesSome Listed Shown Removes {E = E} register names old new r
  took_err names old new (Ok x) bad it = cc
  took_err names old new (Err f) bad it = it
