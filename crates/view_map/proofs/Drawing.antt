-- How many sheets were drawn at each place, and the rectangle of one more.
use Rattle.std.specs.Prelude.{◌≡◌, ℕ, ◌+◌, ◌<◌, ◌≤◌, ◌==◌, Bool, true, false}
use Rattle.std.specs.Prelude.{if◌then◌else◌, List, [], ◌∷◌, ◌++◌, map}
use Rattle.std.specs.Prelude.{length, min, refl, None, Some, nat_eq, nat_lt, unwrap_or, count_by}
use Rattle.std.specs.List.{AllPass}
use Rattle.std.specs.HashMap.{HashMap, Updates, get}
use Rattle.std.proofs.Common.{◌∙◌, ap, sym, subst, cond, take, drop, get_or, append_assoc, arith}
use Rattle.std.proofs.lemmas.Bool.{and_parts, eqb-true, ltb-true}
use Rattle.std.proofs.lemmas.List.{append-nil, drop_all, drop_more, map-append, take_more}
use Rattle.std.proofs.lemmas.List.Elements.{All-append, All-map, All-nil, filter_passes}
use Rattle.std.proofs.lemmas.List.Sums.{sum_by_push}
use Rattle.view_map.specs.Layout.{is_on, number}
use Rattle.view_map.specs.Pieces.{shape_text, shapes_text}
use Rattle.view_map.specs.Sheets.{all_sheets, is_wanted, layer_at, layered, places_on, sheet_of, sheets_of}
use Rattle.view_map.specs.Sheets.{sheets_where}
use Rattle.view_map.specs.declared.holders.Holder.{Holder}
use Rattle.view_map.specs.declared.holders.Place.{Place}
use Rattle.view_map.specs.declared.layout.Layout.{Layout}
use Rattle.view_map.specs.declared.sheets.Sheet.{Sheet}

abbrev pub numbers_of : Layout → List Sheet → List ℕ
numbers_of l ss = map (λ s. number l s.place) ss

-- the map has how often each number is there, four at most
abbrev pub AreCounted : {S : Type 0} → HashMap ℕ ℕ S → List ℕ → Type 0
AreCounted m below = (n : ℕ) → unwrap_or (get nat_eq m n) 0 ≡ layer_at below n

-- ---- which sheets are drawn

-- the sheets of a package are on the map, and so are all
on_map : (l : Layout) (loans : Bool) (n : ℕ) (hs : List Holder)
    → AllPass (λ (s : Sheet). is_on l s.place) (sheets_where l loans n hs)
unfolding sheets_where
on_map l loans n [] = All-nil (λ (s : Sheet). is_on l s.place ≡ true)
on_map l loans n (h ∷ hs) =
    All-append (λ (s : Sheet). is_on l s.place ≡ true) _ _ (one (is_wanted loans h)) (on_map l loans (n + 1) hs)
  where
    one : (b : Bool) → AllPass (λ (s : Sheet). is_on l s.place) (if b then sheets_of l n h else [])
    one true = All-map (λ (s : Sheet). is_on l s.place ≡ true) (sheet_of n h.uuid) (places_on l h)
        (filter_passes (is_on l) h.places.items)
    one false = All-nil (λ (s : Sheet). is_on l s.place ≡ true)

pub all_on_map : (l : Layout) (hs : List Holder) → AllPass (λ (s : Sheet). is_on l s.place) (all_sheets l hs)
all_on_map l hs = All-append (λ (s : Sheet). is_on l s.place ≡ true) _ _ (on_map l false 0 hs) (on_map l true 0 hs)

-- ---- one sheet more

pub layer_bound : (below : List ℕ) (n : ℕ) → layer_at below n ≤ 4
layer_bound below n = omega arith

-- one more is counted at its number
pub counted_more : {S : Type 0} (m m' : HashMap ℕ ℕ S) (below : List ℕ) (n layer : ℕ) → AreCounted m below
    → layer ≡ unwrap_or (get nat_eq m n) 0
    → Updates nat_eq m m' n (Some (min 4 (layer + 1))) → AreCounted m' (below ++ n ∷ [])
counted_more m m' below n layer counted is updates q = at (nat_eq n q) refl
  where
    pushed : count_by (λ k. k == q) (below ++ n ∷ []) ≡ count_by (λ k. k == q) below + cond (n == q) 1 0
    pushed = sum_by_push (λ k. cond (k == q) 1 0) below n

    at : (b : Bool) → nat_eq n q ≡ b → unwrap_or (get nat_eq m' q) 0 ≡ layer_at (below ++ n ∷ []) q
    at true same =
        let found : unwrap_or (get nat_eq m' q) 0 ≡ min 4 (layer + 1) =
        ap (λ o. unwrap_or o 0) (updates.0 q ∙ ap (λ b. cond b (Some (min 4 (layer + 1))) (get nat_eq m q))
        same) in
        let here : layer ≡ layer_at below q = is ∙ counted n ∙ ap (layer_at below) (eqb-true n q same) in
        let more : count_by (λ k. k == q) (below ++ n ∷ []) ≡ count_by (λ k. k == q) below + 1 =
        pushed ∙ ap (λ b. count_by (λ k. k == q) below + cond b 1 0) same in
        omega (arith, found, here, more)
    at false apart =
        let found : unwrap_or (get nat_eq m' q) 0 ≡ unwrap_or (get nat_eq m q) 0 =
        ap (λ o. unwrap_or o 0) (updates.0 q ∙ ap (λ b. cond b (Some (min 4 (layer + 1))) (get nat_eq m q))
        apart) in
        let more : count_by (λ k. k == q) (below ++ n ∷ []) ≡ count_by (λ k. k == q) below + 0 =
        pushed ∙ ap (λ b. count_by (λ k. k == q) below + cond b 1 0) apart in
        let before = counted q in
        omega (arith, found, before, more)

numbers_more : (l : Layout) (ss : List Sheet) (i : ℕ) (s : Sheet) → i < length ss → s ≡ get_or ss i s
    → numbers_of l (take (i + 1) ss) ≡ numbers_of l (take i ss) ++ number l s.place ∷ []
numbers_more l ss i s within is =
    ap (numbers_of l) (take_more ss i s within ∙ ap (λ x. take i ss ++ x ∷ []) (sym is))
    ∙ map-append (λ (x : Sheet). number l x.place) (take i ss) (s ∷ [])

-- the count after one sheet more
pub counted_next : {S : Type 0} (m m' : HashMap ℕ ℕ S) (l : Layout) (ss : List Sheet) (i : ℕ) (s : Sheet)
    (n layer : ℕ) → i < length ss → s ≡ get_or ss i s → n ≡ number l s.place
    → AreCounted m (numbers_of l (take i ss)) → layer ≡ unwrap_or (get nat_eq m n) 0
    → Updates nat_eq m m' n (Some (min 4 (layer + 1)))
    → AreCounted m' (numbers_of l (take (i + 1) ss))
counted_next m m' l ss i s n layer within is number_is counted layer_is updates =
    subst (AreCounted m') (ap (λ k. numbers_of l (take i ss) ++ k ∷ []) number_is
    ∙ sym (numbers_more l ss i s within is))
    (counted_more m m' (numbers_of l (take i ss)) n layer counted layer_is updates)

-- the rectangle of one sheet more
pub shape_more : (l : Layout) (zoom : ℕ) (ss : List Sheet) (i : ℕ) (s : Sheet) (layer : ℕ)
    (text new more whole : List ℕ) → i < length ss → s ≡ get_or ss i s
    → layer ≡ layer_at (numbers_of l (take i ss)) (number l s.place)
    → more ≡ shape_text l zoom (record { sheet = s; layer = layer }) → new ≡ text ++ more
    → text ++ shapes_text l zoom (layered l (numbers_of l (take i ss)) (drop i ss)) ≡ whole
    → new ++ shapes_text l zoom (layered l (numbers_of l (take (i + 1) ss)) (drop (i + 1) ss)) ≡ whole
unfolding layered
shape_more l zoom ss i s layer text new more whole within is layer_is this grown so_far =
    let below = numbers_of l (take i ss) in
    let rest = drop (i + 1) ss in
    let after : List ℕ = shapes_text l zoom (layered l (below ++ number l s.place ∷ []) rest) in
    let here : drop i ss ≡ s ∷ rest = drop_more ss i s within ∙ ap (λ x. x ∷ rest) (sym is) in
    let one : more ≡ shape_text l zoom (record { sheet = s; layer = layer_at below (number l s.place) }) =
    this ∙ ap (λ k. shape_text l zoom (record { sheet = s; layer = k })) layer_is in
    ap (λ ns. new ++ shapes_text l zoom (layered l ns rest)) (numbers_more l ss i s within is)
    ∙ ap (λ t. t ++ after) (grown ∙ ap (λ m. text ++ m) one)
    ∙ append_assoc text (shape_text l zoom (record { sheet = s; layer = layer_at below (number l s.place) })) after
    ∙ ap (λ xs. text ++ shapes_text l zoom (layered l below xs)) (sym here) ∙ so_far

-- how many lie below the next sheet
pub layer_next : {S : Type 0} (m : HashMap ℕ ℕ S) (below : List ℕ) (l : Layout) (s : Sheet) (n layer : ℕ)
    → n ≡ number l s.place → AreCounted m below
    → layer ≡ unwrap_or (get nat_eq m n) 0 → layer ≡ layer_at below (number l s.place)
layer_next m below l s n layer number_is counted layer_is = layer_is ∙ counted n ∙ ap (layer_at below) number_is

-- ---- the beginning, the end and the places of a loop

pub none_counted : {S : Type 0} (m : HashMap ℕ ℕ S) → ((n : ℕ) → get nat_eq m n ≡ None) → AreCounted m []
none_counted m empty n = ap (λ o. unwrap_or o 0) (empty n)

pub shapes_done : (l : Layout) (zoom : ℕ) (ss : List Sheet) (i : ℕ) (below text whole : List ℕ)
    → length ss ≤ i
    → text ++ shapes_text l zoom (layered l below (drop i ss)) ≡ whole → text ≡ whole
unfolding layered
shapes_done l zoom ss i below text whole past so_far = sym (ap (λ xs. text ++ shapes_text l zoom (layered l below xs))
    (drop_all i ss past) ∙ append-nil text) ∙ so_far

pub item_passes : {X : Type 0} (p : X → Bool) (xs : List X) (i : ℕ) (x : X) → i < length xs
    → x ≡ get_or xs i x
    → AllPass p xs → p x ≡ true
item_passes p xs i x within is all = ap p is ∙ all i x within

pub column_on : (l : Layout) (p : Place) → is_on l p ≡ true → p.column < l.columns
column_on l p on = ltb-true p.column l.columns ((and_parts (nat_lt p.column l.columns) (nat_lt p.row l.rows) on).0)

pub row_on : (l : Layout) (p : Place) → is_on l p ≡ true → p.row < l.rows
row_on l p on = ltb-true p.row l.rows ((and_parts (nat_lt p.column l.columns) (nat_lt p.row l.rows) on).1)
