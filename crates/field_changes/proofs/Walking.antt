-- The way through the items of a file, one item more.
use Rattle.std.specs.Prelude.{◌≡◌, ◌≤◌, ◌+◌, ℕ, suc, Bool, true, false, cond, ◌||◌, List, []}
use Rattle.std.specs.Prelude.{◌∷◌, ◌++◌, Option, Some}
use Rattle.std.specs.Prelude.{unwrap_or, bytes_eq, length, refl}
use Rattle.std.specs.List.{list_any}
use Rattle.std.specs.Ordering.{nat_cmp}
use Rattle.std.specs.Cmp.Lexicographic.{slice_cmp}
use Rattle.std.specs.BTreeMap.{BTreeMap, get}
use Rattle.std.specs.BTreeSet.{BTreeSet, contains}
use Rattle.std.proofs.Common.{sym, ap, ◌∙◌, arith, append_assoc}
use Rattle.std.proofs.lemmas.List.{append-nil}
use Rattle.std.proofs.lemmas.List.Sums.{count_by-le-length}
use Rattle.sheet_types.specs.declared.command.Content.{Content}
use Rattle.sheet_types.specs.declared.command.Item.{Item}
use Rattle.field_changes.specs.Keys.{same_content, rank_key}
use Rattle.field_changes.specs.Naming.{copies, is_marked, is_own, others, shared_name, unmarked, name_of, known_as}
use Rattle.field_changes.specs.Naming.{names_behind}
use Rattle.field_changes.specs.Spare.{IsWalk}
use Rattle.field_changes.specs.declared.held.HeldItem.{HeldItem}
use Rattle.field_changes.specs.declared.naming.Name.{Name}
use Rattle.field_changes.specs.declared.naming.Name.TheVariants.{Old}
use Rattle.field_changes.specs.declared.naming.Walk.{Walk}
use Rattle.field_changes.proofs.Sets.{any_snoc}
use Rattle.field_changes.proofs.Counting.{counted}

-- its content, where it is not its own
abbrev pub other : List Item → List HeldItem → HeldItem → List Content
other items before h = cond (is_own items before h) [] (h.content ∷ [])

pub others_snoc : (items : List Item) (before xs : List HeldItem) (h : HeldItem)
    → others items before (xs ++ h ∷ []) ≡ others items before xs ++ other items (before ++ xs) h
others_snoc items before [] h = ap (λ b. other items b h) (sym (append-nil before))
others_snoc items before (x ∷ xs) h =
    let step : others items (before ++ x ∷ []) (xs ++ h ∷ []) ≡ others items (before ++ x ∷ []) xs
    ++ other items (before ++ x ∷ xs) h =
    others_snoc items (before ++ x ∷ []) xs h ∙ ap (λ b. others items (before ++ x ∷ []) xs ++ other items b h)
    (append_assoc before (x ∷ []) xs) in
    elim (is_own items before x) as (λ b. cond b (others items (before ++ x ∷ []) (xs ++ h ∷ []))
    (x.content ∷ others items (before ++ x ∷ []) (xs ++ h ∷ []))
    ≡ cond b (others items (before ++ x ∷ []) xs) (x.content ∷ others items (before ++ x ∷ []) xs)
    ++ other items (before ++ x ∷ xs) h) [
      | true ↦ step
      | false ↦ ap (λ l. x.content ∷ l) step
    ]

pub names_snoc : (p : List ℕ) (n : ℕ) (items : List Item) (file before xs : List HeldItem) (h : HeldItem)
    → names_behind p n items file before (xs ++ h ∷ []) ≡ names_behind p n items file before xs
    ++ known_as p n h (name_of items file (before ++ xs) h) ∷ []
names_snoc p n items file before [] h = ap (λ b. known_as p n h (name_of items file b h) ∷ [])
    (sym (append-nil before))
names_snoc p n items file before (x ∷ xs) h =
    ap (λ l. known_as p n x (name_of items file before x) ∷ l)
    (names_snoc p n items file (before ++ x ∷ []) xs h ∙ ap (λ b. names_behind p n items file
    (before ++ x ∷ []) xs
    ++ known_as p n h (name_of items file b h) ∷ []) (append_assoc before (x ∷ []) xs))

pub others_long : (items : List Item) (before xs : List HeldItem) → length (others items before xs) ≤ length xs
others_long items before [] = omega arith
others_long items before (x ∷ xs) =
    let rest : length (others items (before ++ x ∷ []) xs) ≤ length xs =
    others_long items (before ++ x ∷ []) xs in
    elim (is_own items before x) as (λ b. length (cond b (others items (before ++ x ∷ []) xs)
    (x.content ∷ others items (before ++ x ∷ []) xs)) ≤ suc (length xs)) [
      | true ↦ omega (arith, rest)
      | false ↦ omega (arith, rest)
    ]

pub few : (items : List Item) (before : List HeldItem) (c : Content)
    → copies (λ x. x) c (others items [] before) ≤ length before
few items before c =
    let here : copies (λ x. x) c (others items [] before) ≤ length (others items [] before) =
    count_by-le-length (λ x. same_content c x) (others items [] before) in
    omega (arith, here, others_long items [] before)

-- ---- one item more

pub own_name : (items : List Item) (file before : List HeldItem) (h : HeldItem) (id : List ℕ)
    → is_own items before h ≡ true → h.identity ≡ Some id → Old id ≡ name_of items file before h
own_name items file before h id own named =
    ap (λ o. Old (unwrap_or o [])) (sym named)
    ∙ ap (λ b. cond b (Old (unwrap_or h.identity [])) (shared_name (unmarked items file) h.content
    (copies (λ k. k) h.content (others items [] before)))) (sym own)

pub other_name : (items : List Item) (file before : List HeldItem) (h : HeldItem) (n : Name)
    → is_own items before h ≡ false → n ≡ shared_name (unmarked items file) h.content
    (copies (λ k. k) h.content (others items [] before)) → n ≡ name_of items file before h
other_name items file before h n own is =
    is ∙ ap (λ b. cond b (Old (unwrap_or h.identity [])) (shared_name (unmarked items file) h.content
    (copies (λ k. k) h.content (others items [] before)))) (sym own)

seen_more : (before : List HeldItem) (h : HeldItem) (s t : BTreeSet (List ℕ))
    → ((q : List ℕ) → contains (slice_cmp nat_cmp) s q ≡ list_any (is_marked q) before)
    → ((q : List ℕ) → contains (slice_cmp nat_cmp) t q ≡ (contains (slice_cmp nat_cmp) s q || is_marked q h))
    → (q : List ℕ) → contains (slice_cmp nat_cmp) t q ≡ list_any (is_marked q) (before ++ h ∷ [])
seen_more before h s t was step q = step q ∙ ap (λ b. b || is_marked q h) (was q)
    ∙ sym (any_snoc (is_marked q) before h)

pub walk_own : (items : List Item) (file before : List HeldItem) (h : HeldItem) (w : Walk) (seen : BTreeSet (List ℕ))
    → is_own items before h ≡ true
    → ((q : List ℕ) → contains (slice_cmp nat_cmp) seen q ≡ (contains (slice_cmp nat_cmp) w.seen q ||
    is_marked q h))
    → IsWalk items file before w → IsWalk items file (before ++ h ∷ []) (record w { seen = seen })
walk_own items file before h w seen own step is =
    let same : others items [] (before ++ h ∷ []) ≡ others items [] before =
    others_snoc items [] before h ∙ ap (λ b. others items [] before ++ cond b [] (h.content ∷ [])) own
    ∙ append-nil (others items [] before) in
    record {
      marks = is.marks;
      seen = seen_more before h w.seen seen is.seen step;
      spare = is.spare;
      counts = λ k. is.counts k ∙ ap (copies (λ x. x) k) (sym same);
    }

pub walk_other : (items : List Item) (file before : List HeldItem) (h : HeldItem) (w : Walk)
    (seen : BTreeSet (List ℕ)) (counts : BTreeMap (List ℕ) ℕ) (n : ℕ) → is_own items before h ≡ false
    → ((q : List ℕ) → contains (slice_cmp nat_cmp) seen q ≡ (contains (slice_cmp nat_cmp) w.seen q ||
    is_marked q h))
    → n ≡ unwrap_or (get (slice_cmp nat_cmp) w.counts (rank_key 0 h.content)) 0
    → ((q : List ℕ) → get (slice_cmp nat_cmp) counts q ≡ cond (bytes_eq (rank_key 0 h.content) q) (Some (n + 1))
    (get (slice_cmp nat_cmp) w.counts q))
    → IsWalk items file before w → IsWalk items file (before ++ h ∷ [])
    (record w { seen = seen; counts = counts })
walk_other items file before h w seen counts n own step was after is =
    let more : others items [] (before ++ h ∷ []) ≡ others items [] before ++ h.content ∷ [] =
    others_snoc items [] before h ∙ ap (λ b. others items [] before ++ cond b [] (h.content ∷ [])) own in
    record {
      marks = is.marks;
      seen = seen_more before h w.seen seen is.seen step;
      spare = is.spare;
      counts = λ k. counted (λ x. x) w.counts counts (others items [] before) h.content n is.counts was after k
          ∙ ap (copies (λ x. x) k) (sym more);
    }
