-- A name that is not new is that of an item of the package with the content.
use Rattle.std.specs.Prelude.{◌≡◌, ◌-◌, ℕ, zero, suc, Bool, true, false, cond, not, ◌&&◌, ◌||◌}
use Rattle.std.specs.Prelude.{List, [], ◌∷◌, ◌++◌}
use Rattle.std.specs.Prelude.{Option, Some, None, length, filter, option_map, unwrap_or, bytes_eq, slice_get, refl}
use Rattle.std.proofs.Common.{ap, subst, ◌∙◌}
use Rattle.std.specs.List.{list_any, AllZip}
use Rattle.std.specs.Option.{option_map_or}
use Rattle.std.proofs.lemmas.Bool.{true≢false, false≢true}
use Rattle.std.proofs.lemmas.Slice.Eq.{bytes_eq-Decides}
use Rattle.sheet_types.specs.Cut.{identities}
use Rattle.sheet_types.specs.Ordered.{has}
use Rattle.sheet_types.specs.declared.command.Content.{Content}
use Rattle.sheet_types.specs.declared.command.Item.{Item}
use Rattle.sheet_types.proofs.Basics.{bytes_eq_swap}
use Rattle.field_changes.specs.Keys.{content_key, same_content, key_of, item_mark}
use Rattle.field_changes.specs.Naming.{alike, copies, is_marked, is_own, others, unmarked, shared_name, name_of}
use Rattle.field_changes.specs.Naming.{known_as, names_behind}
use Rattle.field_changes.specs.declared.held.HeldItem.{HeldItem}
use Rattle.field_changes.specs.declared.naming.Name.{Name}
use Rattle.field_changes.specs.declared.naming.Name.TheVariants.{Old, New}
use Rattle.field_laws.specs.Laws.{is_item, HoldsUnder}
use Rattle.field_changes.proofs.Contents.{same_front}

or_true : (b : Bool) → (b || true) ≡ true
or_true true = refl
or_true false = refl

-- what passes among some passes among all
passes : (p : Item → Bool) (q : Item → Bool) (items : List Item) → ((i : Item) → p i ≡ true → q i ≡ true)
    → list_any p items ≡ true → list_any q items ≡ true
passes p q [] implies some = some
passes p q (i ∷ is) implies some =
    elim (p i) as (λ b. p i ≡ b → (b || list_any p is) ≡ true → (q i || list_any q is) ≡ true) [
      | true ↦ λ e _. ap (λ b. b || list_any q is) (implies i e)
      | false ↦ λ e rest. ap (λ b. q i || b) (passes p q is implies rest) ∙ or_true (q i)
    ] refl some

-- what is true of both parts
pub both : (a b : Bool) → (a && b) ≡ true → (a ≡ true) × (b ≡ true)
both true true e = (refl, refl)
both true false e = absurd (false≢true e)
both false b e = absurd (false≢true e)

-- an item whose mark is this identity and this content has them
marked_item : (i : Item) (id : List ℕ) (c : Content) → bytes_eq (item_mark i) (key_of 0 id c) ≡ true
    → is_item id c i ≡ true
marked_item i id c t =
    let e : item_mark i ≡ key_of 0 id c = (bytes_eq-Decides (item_mark i) (key_of 0 id c)).0 t in
    let long : length i.identity ≡ length id = cc in
    let rest : i.identity ++ content_key i.content ≡ id ++ content_key c = cc in
    let parts = same_front i.identity id (content_key i.content) (content_key c) long rest in
    let one : bytes_eq i.identity id ≡ true = (bytes_eq-Decides i.identity id).1 parts.0 in
    let two : same_content i.content c ≡ true = (bytes_eq-Decides (content_key i.content) (content_key c)).1
    parts.1 in
    ap (λ b. b && same_content i.content c) one ∙ two

own_at : (items : List Item) (before : List HeldItem) (o : Option (List ℕ)) (c : Content)
    → option_map_or (λ m. has item_mark m items && not (list_any (is_marked m) before))
    (option_map (λ id. key_of 0 id c) o) false ≡ true → list_any (is_item (unwrap_or o []) c) items ≡ true
own_at items before None c e = absurd (false≢true e)
own_at items before (Some id) c e =
    passes (λ i. bytes_eq (item_mark i) (key_of 0 id c)) (is_item id c) items (λ i t. marked_item i id c t)
    (both (has item_mark (key_of 0 id c) items) (not (list_any (is_marked (key_of 0 id c)) before)) e).0

-- what stands at a place among those of a content has it
got : (xs : List Item) (c : Content) (k : ℕ) (id : List ℕ) → slice_get (alike c xs) k ≡ Some id
    → list_any (is_item id c) xs ≡ true
got [] c k id e = cc
got (i ∷ is) c k id e =
    elim (same_content c i.content) as (λ b. same_content c i.content ≡ b
    → slice_get (identities (cond b (i ∷ filter (λ j. same_content c j.content) is)
    (filter (λ j. same_content c j.content) is))) k ≡ Some id
    → (is_item id c i || list_any (is_item id c) is) ≡ true) [
      | true ↦ λ t. at k (λ n r. got is c n id r) t
      | false ↦ λ _ rest. ap (λ b. is_item id c i || b) (got is c k id rest) ∙ or_true (is_item id c i)
    ] refl e
  where
    at : (n : ℕ) → ((m : ℕ) → slice_get (alike c is) m ≡ Some id → list_any (is_item id c) is ≡ true)
        → same_content c i.content ≡ true → slice_get (i.identity ∷ alike c is) n ≡ Some id
        → (is_item id c i || list_any (is_item id c) is) ≡ true
    at zero later t here =
        let same : i.identity ≡ id = cc in
        let one : bytes_eq i.identity id ≡ true = (bytes_eq-Decides i.identity id).1 same in
        let two : same_content i.content c ≡ true = bytes_eq_swap (content_key i.content) (content_key c) ∙ t in
        let item : is_item id c i ≡ true = ap (λ b. b && same_content i.content c) one ∙ two in
        ap (λ b. b || list_any (is_item id c) is) item
    at (suc n) later t rest = ap (λ b. is_item id c i || b) (later n rest) ∙ or_true (is_item id c i)

-- what passes of those that are left passes of all
left_of : (p t : Item → Bool) (items : List Item) → list_any p (filter t items) ≡ true
    → list_any p items ≡ true
left_of p t [] some = some
left_of p t (i ∷ is) some =
    elim (t i) as (λ b. list_any p (cond b (i ∷ filter t is) (filter t is)) ≡ true
    → (p i || list_any p is) ≡ true) [
      | true ↦ λ e. elim (p i) as (λ b. (b || list_any p (filter t is)) ≡ true
          → (b || list_any p is) ≡ true) [
            | true ↦ λ _. refl
            | false ↦ λ rest. left_of p t is rest
          ] e
      | false ↦ λ rest. ap (λ b. p i || b) (left_of p t is rest) ∙ or_true (p i)
    ] some

pub shared : (o : Option (List ℕ)) (m : ℕ) (id : List ℕ) → option_map_or Old o (New m) ≡ Old id
    → o ≡ Some id
shared None m id e = cc
shared (Some x) m id e = cc

under : (items : List Item) (p : List ℕ) (n : ℕ) (h : HeldItem) (x : Name)
    → ((id : List ℕ) → x ≡ Old id → list_any (is_item id h.content) items ≡ true)
    → HoldsUnder items h (known_as p n h x)
under items p n h (Old id) f = λ _. f id refl
under items p n h (New k) f = λ e. absurd (true≢false e)

old_name : (items : List Item) (file before : List HeldItem) (h : HeldItem) (id : List ℕ)
    → name_of items file before h ≡ Old id → list_any (is_item id h.content) items ≡ true
old_name items file before h id e =
    let left = unmarked items file in
    let place = copies (λ c. c) h.content (others items [] before) in
    elim (is_own items before h) as (λ b. is_own items before h ≡ b
    → cond b (Old (unwrap_or h.identity [])) (shared_name left h.content place) ≡ Old id
    → list_any (is_item id h.content) items ≡ true) [
      | true ↦ λ own named.
          let same : unwrap_or h.identity [] ≡ id = cc in
          subst (λ x. list_any (is_item x h.content) items ≡ true) same
          (own_at items before h.identity h.content own)
      | false ↦ λ _ named.
          left_of (is_item id h.content) (λ i. not (list_any (is_marked (item_mark i)) file)) items
          (got left h.content place id (shared (slice_get (alike h.content left) place)
          (place - copies (λ i. i.content) h.content left) id named))
    ] refl e

behind : (p : List ℕ) (n : ℕ) (items : List Item) (file before hs : List HeldItem)
    → AllZip (HoldsUnder items) hs (names_behind p n items file before hs)
behind p n items file before [] = tt
behind p n items file before (h ∷ hs) = (
  under items p n h (name_of items file before h)
      (old_name items file before h),
  behind p n items file (before ++ h ∷ []) hs,
)

pub old_names : (p : List ℕ) (n : ℕ) (items : List Item) (file : List HeldItem)
    → AllZip (HoldsUnder items) file (names_behind p n items file [] file)
old_names p n items file = behind p n items file [] file
