-- How many rectangles there are of a package at a place.
use Rattle.std.specs.Prelude.{◌≡◌, ◌≢◌, ℕ, zero, suc, ◌+◌, ◌<◌, ◌==◌, Bool, true, false}
use Rattle.std.specs.Prelude.{not, ◌&&◌, if◌then◌else◌}
use Rattle.std.specs.Prelude.{List, [], ◌∷◌, ◌++◌, map, filter, refl, Some, None, slice_get, count_by, nat_lt}
use Rattle.std.proofs.Common.{◌∙◌, ap, sym, cond, arith}
use Rattle.std.proofs.lemmas.Bool.{and_parts, eqb-true, eq-eqb, ne_eqb}
use Rattle.std.proofs.lemmas.List.Sums.{sum_by-append}
use Rattle.std.proofs.lemmas.List.Elements.{recursion_from_All}
use Rattle.std.specs.List.{AllByRecursion}
use Rattle.sheet_types.proofs.Sums.{count-cons}
use Rattle.view_map.proofs.Drawing.{all_on_map}
use Rattle.view_map.specs.Laws.{EachIsDrawn, NoOtherIsDrawn, NoneIsDrawnBeside, drawn_at, is_place, is_sheet_at}
use Rattle.view_map.specs.Layout.{is_on, number}
use Rattle.view_map.specs.Sheets.{Shape, all_sheets, is_loan, is_wanted, layered, layer_at, sheet_of, sheets_of}
use Rattle.view_map.specs.Sheets.{sheets_where, wanted_sheets}
use Rattle.view_map.specs.declared.holders.Place.{Place}
use Rattle.view_map.specs.declared.holders.Holder.{Holder}
use Rattle.view_map.specs.declared.layout.Layout.{Layout}
use Rattle.view_map.specs.declared.sheets.Sheet.{Sheet}

-- rectangles are counted as their sheets
layered_count : (f : Sheet → Bool) (l : Layout) (below : List ℕ) (ss : List Sheet)
    → count_by (λ x. f x.sheet) (layered l below ss) ≡ count_by f ss
unfolding layered
layered_count f l below [] = refl
layered_count f l below (s ∷ ss) =
    let next = below ++ number l s.place ∷ [] in
    let shape : Shape = record { sheet = s; layer = layer_at below (number l s.place) } in
    count-cons (λ (x : Shape). f x.sheet) shape (layered l next ss) (f s) refl
    ∙ ap (λ n. cond (f s) 1 0 + n) (layered_count f l next ss) ∙ sym (count-cons f s ss (f s) refl)

-- a place that is the same is on the map as the other is
same_on : (l : Layout) (p q : Place) → is_place p q ≡ true → is_on l q ≡ is_on l p
same_on l p q same =
    let parts = and_parts (p.column == q.column) (p.row == q.row) same in
    let column : p.column ≡ q.column = eqb-true p.column q.column parts.0 in
    let row : p.row ≡ q.row = eqb-true p.row q.row parts.1 in
    ap (λ c. nat_lt c l.columns && nat_lt q.row l.rows) (sym column)
    ∙ ap (λ r. nat_lt p.column l.columns && nat_lt r l.rows) (sym row)

other_place : (l : Layout) (p q : Place) (b : Bool) → is_on l p ≡ true → is_on l q ≡ false
    → is_place p q ≡ b
    → b ≡ false
other_place l p q false on off same = refl
other_place l p q true on off same = sym on ∙ sym (same_on l p q same) ∙ off

-- one element more, of those of the wanted package or not
one_more : (a b : Bool) (x y : ℕ) → y ≡ cond a x 0 → cond (a && b) 1 0 + y ≡ cond a (cond b 1 0 + x) 0
one_more true b x y rest = ap (λ n. cond b 1 0 + n) rest
one_more false b x y rest = omega (arith, rest)

none_more : (a : Bool) (x y : ℕ) → y ≡ cond a x 0 → y ≡ cond a (0 + x) 0
none_more true x y rest = omega (arith, rest)
none_more false x y rest = rest

-- the sheets of one package at a place of the zoom
of_package : (l : Layout) (i n : ℕ) (u : List ℕ) (p : Place) → is_on l p ≡ true → (qs : List Place)
    → count_by (is_sheet_at i p) (map (sheet_of n u) (filter (is_on l) qs))
    ≡ cond (n == i) (count_by (is_place p) qs) 0
of_package l i n u p on [] = elim (n == i) as (λ b. ◌≡◌ {A = ℕ} 0 (cond b 0 0))
    [ true ↦ refl | false ↦ refl ]
of_package l i n u p on (q ∷ qs) = go (of_package l i n u p on qs) (is_on l q) refl
    ∙ ap (λ x. cond (n == i) x 0) (sym (count-cons (is_place p) q qs (is_place p q) refl))
  where
    go : (rest : count_by (is_sheet_at i p) (map (sheet_of n u) (filter (is_on l) qs))
        ≡ cond (n == i) (count_by (is_place p) qs) 0) (b : Bool) → is_on l q ≡ b
        → count_by (is_sheet_at i p) (map (sheet_of n u) (cond b (q ∷ filter (is_on l) qs) (filter (is_on l) qs)))
        ≡ cond (n == i) (cond (is_place p q) 1 0 + count_by (is_place p) qs) 0
    go rest true here =
        count-cons (is_sheet_at i p) (sheet_of n u q) (map (sheet_of n u) (filter (is_on l) qs))
        ((n == i) && is_place p q) refl
        ∙ one_more (n == i) (is_place p q) (count_by (is_place p) qs) _ rest
    go rest false off =
        none_more (n == i) (count_by (is_place p) qs) _ rest
        ∙ ap (λ b. cond (n == i) (cond b 1 0 + count_by (is_place p) qs) 0)
        (sym (other_place l p q (is_place p q) on off refl))

-- how often the k-th of these packages has a place, where it is a loan or is none
abbrev times : Bool → Place → List Holder → ℕ → ℕ
times loans p [] k = 0
times loans p (h ∷ hs) zero = cond (is_wanted loans h) (count_by (is_place p) h.places.items) 0
times loans p (h ∷ hs) (suc k) = times loans p hs k

head_count : (l : Layout) (loans : Bool) (i n : ℕ) (p : Place) → is_on l p ≡ true → (h : Holder) (b : Bool)
    → count_by (is_sheet_at i p) (if b then sheets_of l n h else [])
    ≡ cond b (cond (n == i) (count_by (is_place p) h.places.items) 0) 0
head_count l loans i n p on h true = of_package l i n h.uuid p on h.places.items
head_count l loans i n p on h false = refl

no_head : (b : Bool) (x : ℕ) → x ≡ 0 → cond b x x ≡ x
no_head true x none = refl
no_head false x none = refl

-- one package more
where_cons : (l : Layout) (loans : Bool) (i n : ℕ) (p : Place) (on : is_on l p ≡ true) (h : Holder)
    (hs : List Holder)
    (a : Bool) → (n == i) ≡ a
    → count_by (is_sheet_at i p) (sheets_where l loans n (h ∷ hs))
    ≡ cond (is_wanted loans h) (cond a (count_by (is_place p) h.places.items) 0) 0 + count_by (is_sheet_at i p)
    (sheets_where l loans (n + 1) hs)
unfolding sheets_where
where_cons l loans i n p on h hs a same =
    let test : Sheet → ℕ = λ s. cond (is_sheet_at i p s) 1 0 in
    let first = wanted_sheets l loans n h in
    sum_by-append test first (sheets_where l loans (n + 1) hs)
    ∙ ap (λ x. x + count_by (is_sheet_at i p) (sheets_where l loans (n + 1) hs))
    (head_count l loans i n p on h (is_wanted loans h) ∙ ap (λ b. cond (is_wanted loans h)
    (cond b (count_by (is_place p) h.places.items) 0) 0) same)

sum_of_none : (x y : ℕ) → x ≡ 0 → y ≡ 0 → x + y ≡ 0
sum_of_none x y p q = omega arith

none_behind : (x y : ℕ) → y ≡ 0 → x + y ≡ x
none_behind x y q = omega arith

none_before : (x y z : ℕ) → x ≡ 0 → y ≡ z → x + y ≡ z
none_before x y z p q = omega arith

apart : (n i : ℕ) → i ≢ n → (n == i) ≡ false
apart n i ne = ne_eqb n i (λ e. ne (sym e))

-- later packages have other numbers
later_none : (l : Layout) (loans : Bool) (i n : ℕ) (p : Place) (on : is_on l p ≡ true) → i < n
    → (hs : List Holder)
    → count_by (is_sheet_at i p) (sheets_where l loans n hs) ≡ 0
unfolding sheets_where
later_none l loans i n p on below [] = refl
later_none l loans i n p on below (h ∷ hs) =
    let other : i ≢ n = omega arith in
    let first = where_cons l loans i n p on h hs false (apart n i other) in
    let none = no_head (is_wanted loans h) 0 refl in
    let rest = later_none l loans i (n + 1) p on (omega arith) hs in
    first ∙ sum_of_none _ _ none rest

where_count : (l : Layout) (loans : Bool) (n : ℕ) (p : Place) (on : is_on l p ≡ true) (hs : List Holder) (k i : ℕ)
    → i ≡ n + k
    → count_by (is_sheet_at i p) (sheets_where l loans n hs) ≡ times loans p hs k
unfolding sheets_where
where_count l loans n p on [] k i is = refl
where_count l loans n p on (h ∷ hs) zero i is =
    let same : n ≡ i = omega arith in
    where_cons l loans i n p on h hs true (eq-eqb n i same) ∙ none_behind _ _
    (later_none l loans i (n + 1) p on (omega arith) hs)
where_count l loans n p on (h ∷ hs) (suc k) i is =
    let other : i ≢ n = omega arith in
    where_cons l loans i n p on h hs false (apart n i other)
    ∙ none_before _ _ _ (no_head (is_wanted loans h) 0 refl)
    (where_count l loans (n + 1) p on hs k i (omega arith))

-- a package is a loan or is none
both : (p : Place) (hs : List Holder) (k : ℕ) (h : Holder) → slice_get hs k ≡ Some h
    → times false p hs k + times true p hs k ≡ count_by (is_place p) h.places.items
both p [] k h there = absurd (cc)
both p (x ∷ xs) zero h there = either (is_loan x) ∙ ap (λ (y : Holder). count_by (is_place p) y.places.items) same
  where
    same : x ≡ h
    same = cc

    either : (b : Bool) → cond (not b) (count_by (is_place p) x.places.items) 0 + cond b
        (count_by (is_place p) x.places.items) 0 ≡ count_by (is_place p) x.places.items
    either true = omega arith
    either false = omega arith
both p (x ∷ xs) (suc k) h there = both p xs k h there

neither : (p : Place) (hs : List Holder) (k : ℕ) → slice_get hs k ≡ None
    → times false p hs k + times true p hs k ≡ 0
neither p [] k there = refl
neither p (x ∷ xs) zero there = absurd (cc)
neither p (x ∷ xs) (suc k) there = neither p xs k there

drawn : (l : Layout) (hs : List Holder) (i : ℕ) (p : Place) → is_on l p ≡ true
    → drawn_at l hs i p ≡ times false p hs i + times true p hs i
drawn l hs i p on =
    let test : Sheet → ℕ = λ s. cond (is_sheet_at i p s) 1 0 in
    layered_count (is_sheet_at i p) l [] (all_sheets l hs)
    ∙ sum_by-append test (sheets_where l false 0 hs) (sheets_where l true 0 hs)
    ∙ ap (λ x. x + count_by (is_sheet_at i p) (sheets_where l true 0 hs))
    (where_count l false 0 p on hs i i (omega arith))
    ∙ ap (λ x. times false p hs i + x) (where_count l true 0 p on hs i i (omega arith))

pub each_is_drawn : EachIsDrawn
each_is_drawn l hs i h p there on = drawn l hs i p on ∙ both p hs i h there

-- ---- beside the zoom

none_of : (l : Layout) (i : ℕ) (p : Place) → is_on l p ≡ false → (ss : List Sheet)
    → AllByRecursion (λ (s : Sheet). is_on l s.place ≡ true) ss → count_by (is_sheet_at i p) ss ≡ 0
none_of l i p off [] all = refl
none_of l i p off (s ∷ ss) all = count-cons (is_sheet_at i p) s ss false (go (is_sheet_at i p s) refl)
    ∙ none_before 0 _ _ refl (none_of l i p off ss all.1)
  where
    go : (b : Bool) → is_sheet_at i p s ≡ b → b ≡ false
    go false same = refl
    go true same = sym all.0 ∙ same_on l p s.place ((and_parts (s.index == i) (is_place p s.place) same).1) ∙ off

pub none_is_drawn_beside : NoneIsDrawnBeside
none_is_drawn_beside l hs i p off =
    layered_count (is_sheet_at i p) l [] (all_sheets l hs)
    ∙ none_of l i p off (all_sheets l hs) (recursion_from_All (λ (s : Sheet). is_on l s.place ≡ true)
    (all_sheets l hs) (all_on_map l hs))

pub no_other_is_drawn : NoOtherIsDrawn
no_other_is_drawn l hs i p there = go (is_on l p) refl
  where
    go : (b : Bool) → is_on l p ≡ b → drawn_at l hs i p ≡ 0
    go true on = drawn l hs i p on ∙ neither p hs i there
    go false off = none_is_drawn_beside l hs i p off
