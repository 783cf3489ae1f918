-- Stores that are looked at one after the other, and what was seen of the first ones.
use Rattle.std.specs.Prelude.{◌≡◌, ℕ, zero, suc, ◌+◌, ◌<◌, ◌≤◌, List, [], ◌∷◌, ◌++◌}
use Rattle.std.specs.Prelude.{length, refl, Some, slice_get}
use Rattle.std.specs.Prelude.{slice_set}
use Rattle.std.specs.List.{AllZip}
use Rattle.std.proofs.Common.{sym, ap, subst, ◌∙◌, arith, drop, take, get_or}
use Rattle.std.proofs.Math.Seq.{drop-cons, set-append_seam}
use Rattle.std.proofs.lemmas.List.{take_all, take_more}
use Rattle.sqlite_catalog.proofs.ListFacts.{zip_push}
use Rattle.sheet_types.proofs.Basics.{some_once}
use Rattle.package_tables.proofs.Seams.{at_seam, joined, long_snoc}

module _ {H X : Type 0} (P : H → X → Type 0) where
  -- the first n were looked at, and this was seen of them
  pub record Walked (old now : List H) (n : ℕ) (seen : List X) : Type 0 where
    pub done : List H
    pub long : length done ≡ n
    pub now_is : now ≡ done ++ drop n old
    pub seen_of : AllZip P (take n old) seen

  pub walked_none : (old : List H) → Walked old old 0 []
  walked_none old = record { done = []; long = refl; now_is = refl; seen_of = tt }

  module _ (old now new : List H) (n : ℕ) (seen : List X) (within : n < length old) (it : Walked old now n seen)
      (was last : H) (place : slice_get now n ≡ Some was) (others : new ≡ slice_set now n last) where
    abbrev here : H
    here = get_or old n was

    now_so : now ≡ it.done ++ here ∷ drop (suc n) old
    now_so = it.now_is ∙ ap (λ l. it.done ++ l) (drop-cons old n was within)

    was_is : was ≡ here
    was_is = some_once (slice_get now n) was here place
        (ap (λ l. slice_get l n) now_so ∙ ap (slice_get (it.done ++ here ∷ drop (suc n) old)) (sym it.long)
        ∙ at_seam it.done here (drop (suc n) old))

    new_so : new ≡ it.done ++ last ∷ drop (suc n) old
    new_so = others ∙ ap (λ l. slice_set l n last) now_so
        ∙ ap (λ k. slice_set (it.done ++ here ∷ drop (suc n) old) k last) (sym it.long)
        ∙ set-append_seam it.done here (drop (suc n) old) last

    -- one more was seen
    pub walked_more : (x : X) → P was x → Walked old new (n + 1) (seen ++ x ∷ [])
    walked_more x p = record {
      done = it.done ++ last ∷ [];
      long = omega (arith, long_snoc it.done last, it.long);
      now_is =
          new_so ∙ sym (joined it.done last (drop (suc n) old))
          ∙ ap (λ k. (it.done ++ last ∷ []) ++ drop k old) (let e : suc n ≡ n + 1 = omega arith in e);
      seen_of =
          subst (λ l. AllZip P l (seen ++ x ∷ [])) (sym (take_more old n was within
          ∙ ap (λ y. take n old ++ y ∷ []) (sym was_is)))
          (zip_push P (take n old) seen was x it.seen_of p);
    }

  -- all were
  pub walked_all : (old now : List H) (n : ℕ) (seen : List X) → length old ≤ n → Walked old now n seen
      → AllZip P old seen
  walked_all old now n seen past it = subst (λ l. AllZip P l seen) (take_all n old past) it.seen_of
