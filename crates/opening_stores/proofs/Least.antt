-- The first of those that wait, found one after the other.
use Rattle.std.specs.Prelude.{◌≡◌, ⊤, ℕ, ◌+◌, ◌<◌, ◌≤◌, Bool, true, false, List, []}
use Rattle.std.specs.Prelude.{◌∷◌, ◌++◌, refl, Option, Some}
use Rattle.std.specs.Prelude.{None, MatchOption, IfSome, slice_get, cond}
use Rattle.std.specs.List.{AllByRecursion}
use Rattle.std.proofs.Common.{sym, ap, subst, ◌∙◌, take, get_or, length}
use Rattle.std.proofs.lemmas.List.{take_all, take_more}
use Rattle.std.proofs.lemmas.Bool.{true≢false}
use Rattle.std.proofs.lemmas.Option.{slice_get-get_or}
use Rattle.sheet_types.specs.Ordered.{is_before}
use Rattle.sheet_types.proofs.Basics.{before_trans, before_one_way}
use Rattle.sheet_types.proofs.Every.{All-snoc, All-weaker}
use Rattle.opening_stores.specs.Waiting.{first_of, AreBehind, IsLeast}
use Rattle.opening_stores.specs.declared.waiting.Waiting.{Waiting}

abbrev Waits : Type 0
Waits = Option (List ℕ)

-- the first of the first n
pub record IsFirstOf (waiting : List (Option (List ℕ))) (n : ℕ) (found : Option Waiting) : Type 0 where
  pub some : IfSome found (λ f. (slice_get waiting f.place ≡ Some (Some f.uuid))
      × AreBehind f.uuid (take n waiting))
  pub none : found ≡ None → AllByRecursion (λ waits. waits ≡ None) (take n waiting)

-- what does not come before one does not come before one that comes earlier
not_before : (a b c : List ℕ) → is_before b c ≡ true → is_before a c ≡ false → is_before a b ≡ false
not_before a b c earlier late = one (is_before a b) refl
  where
    one : (v : Bool) → is_before a b ≡ v → is_before a b ≡ false
    one true e = absurd (true≢false (sym (before_trans a b c e earlier) ∙ late))
    one false e = e

itself : (a : List ℕ) → is_before a a ≡ false
itself a = one (is_before a a) refl
  where
    one : (v : Bool) → is_before a a ≡ v → is_before a a ≡ false
    one true e = absurd (before_one_way a a e e)
    one false e = e

abbrev Behind : List ℕ → Option (List ℕ) → Type 0
Behind uuid waits = MatchOption waits ⊤ (λ other. is_before other uuid ≡ false)

none_behind : (uuid : List ℕ) (waits : Option (List ℕ)) → waits ≡ None → Behind uuid waits
none_behind uuid waits is = subst (Behind uuid) (sym is) tt

earlier_behind : (u v : List ℕ) → is_before u v ≡ true → (waits : Option (List ℕ)) → Behind v waits
    → Behind u waits
earlier_behind u v before None is = tt
earlier_behind u v before (Some other) is = not_before other u v before is

module _ (waiting : List (Option (List ℕ))) (n : ℕ) where
  -- with one more place
  one_more : (found : Option Waiting) (waits : Option (List ℕ)) → slice_get waiting n ≡ Some waits
      → (front : List (Option (List ℕ))) → take (n + 1) waiting ≡ front ++ waits ∷ []
      → take n waiting ≡ front
      → IsFirstOf waiting n found
      → IsFirstOf waiting (n + 1) (first_of found n waits)
  one_more None None there front more was it = record {
    some = tt;
    none = λ e. subst (AllByRecursion (λ w. w ≡ None)) (sym more)
        (All-snoc (λ w. w ≡ None) front None (subst (AllByRecursion (λ w. w ≡ None)) was (it.none refl)) refl);
  }
  one_more (Some f) None there front more was it = record {
    some = (
      it.some.0,
      subst (AreBehind f.uuid) (sym more) (All-snoc (Behind f.uuid) front None
          (subst (AreBehind f.uuid) was it.some.1) tt),
    );
    none = λ e. absurd (let same = e in cc);
  }
  one_more None (Some u) there front more was it = record {
    some = (
      there,
      subst (AreBehind u) (sym more) (All-snoc (Behind u) front (Some u)
          (All-weaker (λ w. w ≡ None) (Behind u) (none_behind u) front
          (subst (AllByRecursion (λ w. w ≡ None)) was (it.none refl))) (itself u)),
    );
    none = λ e. absurd (let same = e in cc);
  }
  one_more (Some f) (Some u) there front more was it = one (is_before u f.uuid) refl
    where
      behind : AreBehind f.uuid front
      behind = subst (AreBehind f.uuid) was it.some.1

      one : (v : Bool) → is_before u f.uuid ≡ v → IsFirstOf waiting (n + 1) (first_of (Some f) n (Some u))
      one true e = rw e (record {
        some = (
          there,
          subst (AreBehind u) (sym more) (All-snoc (Behind u) front (Some u)
              (All-weaker (Behind f.uuid) (Behind u) (earlier_behind u f.uuid e) front behind) (itself u)),
        );
        none = λ none. absurd (let same = none in cc);
      })
      one false e = rw e (record {
        some = (it.some.0, subst (AreBehind f.uuid) (sym more) (All-snoc (Behind f.uuid) front (Some u) behind e));
        none = λ none. absurd (let same = none in cc);
      })

  pub goes_on : (found : Option Waiting) (waits : Option (List ℕ)) → n < length waiting
      → waits ≡ get_or waiting n waits → IsFirstOf waiting n found
      → IsFirstOf waiting (n + 1) (first_of found n waits)
  goes_on found waits within is it =
      one_more found waits (slice_get-get_or waiting n waits within ∙ ap Some (sym is)) (take n waiting)
      (take_more waiting n waits within ∙ ap (λ w. take n waiting ++ w ∷ []) (sym is)) refl it

pub begins : (waiting : List (Option (List ℕ))) → IsFirstOf waiting 0 None
begins waiting = record { some = tt; none = λ e. tt }

pub ends : (waiting : List (Option (List ℕ))) (n : ℕ) (found : Option Waiting) → length waiting ≤ n
    → IsFirstOf waiting n found → IfSome found (IsLeast waiting)
ends waiting n None past it = tt
ends waiting n (Some f) past it = record {
  there = it.some.0;
  least = subst (AreBehind f.uuid) (take_all n waiting past) it.some.1;
}

pub ends_none : (waiting : List (Option (List ℕ))) (n : ℕ) (found : Option Waiting) → length waiting ≤ n
    → IsFirstOf waiting n found → found ≡ None → AllByRecursion (λ waits. waits ≡ None) waiting
ends_none waiting n found past it none = subst (AllByRecursion (λ waits. waits ≡ None)) (take_all n waiting past)
    (it.none none)
