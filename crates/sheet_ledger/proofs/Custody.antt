-- Where things stand, receipt by receipt and thing by thing.
use Rattle.std.specs.Prelude.{◌≡◌, ℕ, Bool, true, false, cond, ◌||◌, List, [], ◌∷◌, ◌++◌}
use Rattle.std.specs.Prelude.{Option, Some, None, bytes_eq, refl}
use Rattle.std.proofs.Common.{sym, ap, subst, ◌∙◌}
use Rattle.std.specs.List.{list_any, AllByRecursion}
use Rattle.std.specs.Option.{option_and_then}
use Rattle.std.specs.Ordering.{nat_cmp}
use Rattle.std.specs.Cmp.Lexicographic.{slice_cmp}
use Rattle.std.specs.BTreeMap.{BTreeMap, get, Updates}
use Rattle.std.proofs.lemmas.List.Folds.{list_any-append}
use Rattle.sheet_types.specs.Ordered.{has}
use Rattle.sheet_types.specs.World.{moved_thing}
use Rattle.sheet_types.specs.Custody.{custody, names}
use Rattle.sheet_types.specs.declared.receipt.Moved.{Moved}
use Rattle.sheet_types.specs.declared.receipt.Receipt.{Receipt}
use Rattle.sheet_types.proofs.Basics.{or-false}
use Rattle.sheet_types.proofs.Every.{All-weaker}
use Rattle.sheet_laws.proofs.Ledger.{custody_names, custody_other}
use Rattle.sheet_ledger.specs.Accounts.{place_in, KeepsCustody}
use Rattle.sheet_ledger.proofs.Maps.{at_key}

-- a map with one place more
pub placed : (m n : BTreeMap (List ℕ) (Option (List ℕ))) (k : List ℕ) (target : Option (List ℕ))
    → Updates (slice_cmp nat_cmp) m n k (Some target) → (thing : List ℕ)
    → place_in n thing ≡ cond (bytes_eq k thing) target (place_in m thing)
placed m n k target h thing =
    ap (option_and_then (λ p. p)) (at_key m n k (Some target) h thing)
    ∙ elim (bytes_eq k thing) as (λ v. option_and_then (λ p. p)
    (cond v (Some target) (get (slice_cmp nat_cmp) m thing)) ≡ cond v target (place_in m thing))
    [ true ↦ refl | false ↦ refl ]

-- one thing more to the same place
pub placed_more : (old mid new : List ℕ → Option (List ℕ)) (target : Option (List ℕ)) (xs more : List Moved)
    (m : Moved) → more ≡ xs ++ m ∷ []
    → ((t : List ℕ) → mid t ≡ cond (has moved_thing t xs) target (old t))
    → ((t : List ℕ) → new t ≡ cond (bytes_eq (moved_thing m) t) target (mid t)) → (t : List ℕ)
    → new t ≡ cond (has moved_thing t more) target (old t)
placed_more old mid new target xs more m is was step t =
    step t ∙ ap (λ o. cond (bytes_eq (moved_thing m) t) target o) (was t)
    ∙ both (has moved_thing t xs) (bytes_eq (moved_thing m) t)
    ∙ ap (λ b. cond b target (old t)) (sym (list_any-append (λ x. bytes_eq (moved_thing x) t) xs (m ∷ []))
    ∙ sym (ap (has moved_thing t) is))
  where
    both : (a b : Bool) → cond b target (cond a target (old t)) ≡ cond (a || (b || false)) target (old t)
    both true true = refl
    both true false = refl
    both false true = refl
    both false false = refl

-- one receipt more
pub custody_snoc : (rs : List Receipt) (r : Receipt) (thing : List ℕ)
    → custody (rs ++ r ∷ []) thing ≡ cond (has moved_thing thing r.items) r.target (custody rs thing)
custody_snoc rs r thing = elim (names thing r) as (λ v. names thing r ≡ v
    → custody (rs ++ r ∷ []) thing ≡ cond v r.target (custody rs thing)) [
      | true ↦ λ e. custody_names rs r thing e
      | false ↦ λ e. custody_other rs r thing e
    ] refl

pub keeps_more : (m n : BTreeMap (List ℕ) (Option (List ℕ))) (rs more : List Receipt) (r : Receipt)
    (items : List Moved) → more ≡ rs ++ r ∷ [] → items ≡ r.items → KeepsCustody m rs
    → ((thing : List ℕ) → place_in n thing ≡ cond (has moved_thing thing items) r.target (place_in m thing))
    → KeepsCustody n more
keeps_more m n rs more r items is same was step = record {
  place = λ thing.
      step thing ∙ ap (λ xs. cond (has moved_thing thing xs) r.target (place_in m thing)) same
      ∙ ap (λ o. cond (has moved_thing thing r.items) r.target o) (was.place thing)
      ∙ sym (custody_snoc rs r thing) ∙ ap (λ zs. custody zs thing) (sym is);
}

-- what stands there by a map of custody stands there by the receipts, and back
pub stand_by_map : (m : BTreeMap (List ℕ) (Option (List ℕ))) (rs : List Receipt) (xs items : List Moved)
    (source : Option (List ℕ)) → xs ≡ items → KeepsCustody m rs
    → AllByRecursion (λ x. place_in m (moved_thing x) ≡ source) xs
    → AllByRecursion (λ x. custody rs (moved_thing x) ≡ source) items
stand_by_map m rs xs items source same kept h =
    subst (AllByRecursion (λ x. custody rs (moved_thing x) ≡ source)) same
    (All-weaker (λ x. place_in m (moved_thing x) ≡ source) (λ x. custody rs (moved_thing x) ≡ source)
    (λ x e. sym (kept.place (moved_thing x)) ∙ e) xs h)

pub stand_by_custody : (m : BTreeMap (List ℕ) (Option (List ℕ))) (rs : List Receipt) (items xs : List Moved)
    (source : Option (List ℕ)) → items ≡ xs → KeepsCustody m rs
    → AllByRecursion (λ x. custody rs (moved_thing x) ≡ source) items
    → AllByRecursion (λ x. place_in m (moved_thing x) ≡ source) xs
stand_by_custody m rs items xs source same kept h =
    subst (AllByRecursion (λ x. place_in m (moved_thing x) ≡ source)) same
    (All-weaker (λ x. custody rs (moved_thing x) ≡ source) (λ x. place_in m (moved_thing x) ≡ source)
    (λ x e. kept.place (moved_thing x) ∙ e) items h)
