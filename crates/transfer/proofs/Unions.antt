-- Elements that come into an arranged list one by one, and all at once.
use Rattle.std.specs.Prelude.{◌≡◌, ℕ, Bool, true, false, List, [], ◌∷◌, ◌++◌, refl, bytes_eq}
use Rattle.std.proofs.Common.{sym, ap, ◌∙◌}
use Rattle.std.specs.List.{AllByRecursion}
use Rattle.sheet_types.specs.Ordered.{is_before, put, arranged, IsArranged}
use Rattle.sheet_types.proofs.Arranging.{put_put}
use Rattle.sheet_types.proofs.Basics.{before_not_after}
use Rattle.sheet_types.proofs.Order.{put_arranged}

module _ {X : Type 0} (key : X → List ℕ) where
  put_first : (x : X) (xs : List X) → AllByRecursion (λ y. is_before (key x) (key y) ≡ true) xs
      → put key x xs ≡ x ∷ xs
  put_first x [] h = refl
  put_first x (y ∷ ys) h = rw (before_not_after (key x) (key y) h.0) refl

  -- a list in strict order is arranged
  pub arranged_itself : (xs : List X) → IsArranged key xs → arranged key xs ≡ xs
  arranged_itself [] h = refl
  arranged_itself (x ∷ xs) h = ap (put key x) (arranged_itself xs h.1) ∙ put_first x xs h.0

  -- an element that came in before others is one that comes in with them
  pub arranged_later : (xs ys : List X) (x : X) → IsArranged key ys
      → AllByRecursion (λ y. bytes_eq (key y) (key x) ≡ false) ys
      → AllByRecursion (λ y. bytes_eq (key y) (key x) ≡ false) xs
      → arranged key (xs ++ put key x ys) ≡ put key x (arranged key (xs ++ ys))
  arranged_later [] ys x order other none = arranged_itself (put key x ys) (put_arranged key x ys order other)
      ∙ ap (put key x) (sym (arranged_itself ys order))
  arranged_later (z ∷ zs) ys x order other none = ap (put key z) (arranged_later zs ys x order other none.1)
      ∙ put_put key z x (arranged key (zs ++ ys)) none.0
