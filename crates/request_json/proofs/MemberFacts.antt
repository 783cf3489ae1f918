-- The names of an object's members are the keys of its map.
use Rattle.std.specs.Prelude.{◌≡◌, ◌≢◌, ◌↔◌, ◌⊎◌, ◌<◌, ◌+◌, ℕ, zero, suc, List, []}
use Rattle.std.specs.Prelude.{◌∷◌, map, length, Any, All}
use Rattle.std.specs.Prelude.{Option, Some, None, String, string_bytes, true, false, bytes_eq, slice_index_or}
use Rattle.std.specs.declared.alloc.Global.{Global}
use Rattle.std.proofs.Common.{arith, inl, inr, refl, sym, ap, ◌∙◌}
use Rattle.std.proofs.lemmas.List.Elements.{All-head, All-tail}
use Rattle.std.specs.Ordering.{is_eq, nat_cmp, match_ordering}
use Rattle.std.specs.declared.cmp.Ordering.{Ordering}
use Rattle.std.specs.declared.cmp.Ordering.TheVariants.{Less, Equal, Greater}
use Rattle.std.specs.Cmp.Lexicographic.{slice_cmp}
use Rattle.std.proofs.lemmas.Map.Text.{is_eq-slice_cmp}
use Rattle.std.proofs.lemmas.Slice.Eq.{bytes_eq-Decides}
use Rattle.serde_json.specs.Data.{Data, null, boolean, number, string, array, object, Members}
use Rattle.serde_json.specs.Find.{get, get_member, as_object}
use Rattle.serde_json.specs.View.{members_view, view}
use Rattle.serde_json.specs.declared.value.Value.{Value}
use Rattle.sheet_types.proofs.Basics.{bytes_eq_itself}
use Rattle.request_json.specs.Members.{HasNoOther, IsOneOf}
use denote.Ref.{Bor}

any_is : (names : List (Bor (List ℕ))) (name : List ℕ) → Any (λ known. known.now ≡ name) names
    → IsOneOf (map (λ known. known.now) names) name
unfolding IsOneOf
any_is [] name (k, x, within, there, same) = absurd (omega arith)
any_is (known ∷ names) name (zero, x, within, there, same) = inl (ap (λ b. b.now) there ∙ same)
any_is (known ∷ names) name (suc k, x, within, there, same) = inr (any_is names name (k, x, omega arith, there, same))

is_any : (names : List (Bor (List ℕ))) (name : List ℕ) → IsOneOf (map (λ known. known.now) names) name
    → Any (λ known. known.now ≡ name) names
unfolding IsOneOf
is_any [] name none = absurd none
is_any (known ∷ names) name (inl same) = (0, known, omega arith, refl, same)
is_any (known ∷ names) name (inr more) = let (k, x, within, there, same) =
    is_any names name more in (suc k, x, omega arith, there, same)

pub one_of : {P : Type 0} (names : List (Bor (List ℕ))) (name : List ℕ)
    → P ↔ Any (λ known. known.now ≡ name) names
    → P ↔ IsOneOf (map (λ known. known.now) names) name
one_of names name told = (λ p. any_is names name (told.0 p), λ is. told.1 (is_any names name is))

equal_is : (o : Ordering) → is_eq o ≡ true → o ≡ Equal
equal_is Less h = cc
equal_is Equal h = refl
equal_is Greater h = cc

same_key : (k l : List ℕ) → slice_cmp nat_cmp k l ≡ Equal → k ≡ l
same_key k l e = (bytes_eq-Decides k l).0 (sym (is_eq-slice_cmp k l) ∙ ap is_eq e)

itself : (k : List ℕ) → slice_cmp nat_cmp k k ≡ Equal
itself k = equal_is _ (is_eq-slice_cmp k k ∙ bytes_eq_itself k)

-- each name that has a member is a key
pub found_in_keys : (Known : List ℕ → Type 0) (ms : List (String Global × Value))
    → All (λ key. Known (string_bytes key)) (map (λ m. m.0) ms)
    → (name : List ℕ) → get_member name (members_view ms) ≢ None → Known name
found_in_keys Known [] each name there = absurd (there refl)
found_in_keys Known (m ∷ ms) each name there =
    elim (slice_cmp nat_cmp name (string_bytes m.0)) as (λ o. slice_cmp nat_cmp name (string_bytes m.0) ≡ o
    → match_ordering o (get_member name (members_view ms)) (Some (view m.1)) (get_member name (members_view ms)) ≢
    None → Known name) [
      | Less ↦ λ e here. found_in_keys Known ms (All-tail (λ key. Known (string_bytes key)) m.0 (map (λ e. e.0) ms)
          each) name here
      | Equal ↦ λ e here. rw (same_key name (string_bytes m.0) e)
          (All-head (λ key. Known (string_bytes key)) m.0 (map (λ e. e.0) ms) each)
      | Greater ↦ λ e here. found_in_keys Known ms (All-tail (λ key. Known (string_bytes key)) m.0
          (map (λ e. e.0) ms)
          each) name here
    ] refl there

found : (k l : List ℕ) (d : Data) (rest : Option Data) → rest ≢ None
    → match_ordering (slice_cmp nat_cmp k l) rest (Some d) rest ≢ None
found k l d rest there = elim (slice_cmp nat_cmp k l) as (λ o. match_ordering o rest (Some d) rest ≢ None)
    [ Less ↦ there | Equal ↦ λ e. cc | Greater ↦ there ]

-- each key is a name that has a member
key_found : (ms : List (String Global × Value)) (k : ℕ) (d : String Global) → k < length (map (λ m. m.0) ms)
    → get_member (string_bytes (slice_index_or (map (λ m. m.0) ms) k d)) (members_view ms) ≢ None
key_found [] k d within = absurd (omega arith)
key_found (m ∷ ms) zero d within = rw (itself (string_bytes m.0)) (λ e. cc)
key_found (m ∷ ms) (suc k) d within = found (string_bytes (slice_index_or (map (λ m. m.0) ms) k d))
    (string_bytes m.0)
    (view m.1) (get_member (string_bytes (slice_index_or (map (λ m. m.0) ms) k d)) (members_view ms))
    (key_found ms k d (omega arith))

pub keys_are : (Known : List ℕ → Type 0) (ms : List (String Global × Value))
    → ((name : List ℕ) → get_member name (members_view ms) ≢ None → Known name)
    → All (λ key. Known (string_bytes key)) (map (λ m. m.0) ms)
keys_are Known ms each k d within = each (string_bytes (slice_index_or (map (λ m. m.0) ms) k d))
    (key_found ms k d within)

-- a member of a value is one of its object
member_of : (d : Data) (ms : Members) → Some ms ≡ as_object d → (name : List ℕ)
    → get name d ≡ get_member name ms
member_of null ms e name = cc
member_of (boolean b) ms e name = cc
member_of (number n) ms e name = cc
member_of (string s) ms e name = cc
member_of (array ds) ms e name = cc
member_of (object os) ms e name = let same : os ≡ ms = cc in ap (get_member name) same

pub no_other : {P : Type 0} (d : Data) (ms : List (String Global × Value)) (names : List (List ℕ))
    → Some (members_view ms) ≡ as_object d
    → P ↔ All (λ key. IsOneOf names (string_bytes key)) (map (λ m. m.0) ms) → P ↔ HasNoOther d names
no_other d ms names is told =
    let of = member_of d (members_view ms) is in (
      λ p name there. found_in_keys (IsOneOf names) ms (told.0 p) name (λ none. there (of name ∙ none)),
      λ only. told.1 (keys_are (IsOneOf names) ms (λ name there. only name
          (λ none. there (sym (of name) ∙ none)))),
    )
