-- A content is looked up among others that stand in the order of their keys.
use Rattle.std.specs.Prelude.{◌≡◌, ◌<◌, ◌≤◌, ℕ, suc, Bool, false, ◌||◌, List, [], ◌∷◌}
use Rattle.std.specs.Prelude.{length, map, refl}
use Rattle.std.specs.Borrow.{Bor}
use Rattle.std.specs.List.{list_any}
use Rattle.std.specs.List.Sorted.{IsPartitionPoint}
use Rattle.std.specs.Ordering.{nat_cmp}
use Rattle.std.specs.Cmp.Lexicographic.{slice_cmp}
use Rattle.std.specs.declared.cmp.Ordering.{Ordering}
use Rattle.std.specs.declared.cmp.Ordering.TheVariants.{Less, Greater, Equal}
use Rattle.std.proofs.Common.{sym, ap, ◌∙◌, ◌⊎◌, inl, inr, arith, get_or, is_eq}
use Rattle.std.proofs.lemmas.Bool.{cases_lt}
use Rattle.std.proofs.lemmas.Map.Lookups.{exact_bytes}
use Rattle.std.proofs.lemmas.Map.Text.{is_eq-slice_cmp}
use Rattle.sheet_types.specs.declared.command.Content.{Content}
use Rattle.field_changes.specs.Keys.{content_key, same_content}
use Rattle.field_changes.specs.Sharing.{shared_key}
use Rattle.field_changes.proofs.Contents.{same_key, same_swap}

-- where another stands to it
abbrev pub place_to : Content → Bor Content → Ordering
place_to content other = slice_cmp nat_cmp (shared_key other) (content_key content)

pub found_same : (content : Content) (other : Bor Content) → place_to content other ≡ Equal
    → other.now ≡ content
found_same content other e = same_key other.now content (exact_bytes (content_key other.now) (content_key content) e)

apart_at : (content : Content) (other : Bor Content) (o : Ordering) → place_to content other ≡ o
    → is_eq o ≡ false
    → same_content content other.now ≡ false
apart_at content other o is none = same_swap content other.now
    ∙ sym (is_eq-slice_cmp (content_key other.now) (content_key content)) ∙ ap is_eq is ∙ none

none_of : {X Y : Type 0} (f : X → Y) (p : Y → Bool) (xs : List X)
    → ((k : ℕ) (d : X) → k < length xs → p (f (get_or xs k d)) ≡ false) → list_any p (map f xs) ≡ false
none_of f p [] h = refl
none_of f p (x ∷ xs) h = ap (λ b. b || list_any p (map f xs)) (h 0 x (omega arith))
    ∙ none_of f p xs (λ k d less. h (suc k) d (omega (arith, less)))

-- none of those before and behind a place is the same
pub none_same : (content : Content) (others : List (Bor Content)) (i : ℕ)
    → IsPartitionPoint (λ o. place_to content o ≡ Less) (λ o. place_to content o ≡ Greater) others i
    → list_any (same_content content) (map (λ o. o.now) others) ≡ false
none_same content others i parted = none_of (λ o. o.now) (same_content content) others
    (λ k d less. go k d less (cases_lt k i))
  where
    go : (k : ℕ) (d : Bor Content) → k < length others → (k < i) ⊎ (i ≤ k)
        → same_content content (get_or others k d).now ≡ false
    go k d less (inl before) = apart_at content (get_or others k d) Less (parted.0 k d (omega arith) before) refl
    go k d less (inr behind) = apart_at content (get_or others k d) Greater (parted.1 k d behind less) refl
