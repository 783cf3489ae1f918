-- Texts and lists that grow at the end.
use Rattle.std.specs.Prelude.{◌≡◌, ℕ, ◌+◌, ◌<◌, Bool, List, ◌∷◌, ◌++◌, length}
use Rattle.std.proofs.Common.{drop, ◌≤◌}
use Rattle.std.proofs.Common.{◌∙◌, ap, sym, add-one, get_or, append_assoc}
use Rattle.std.proofs.lemmas.List.{append-nil, drop_all, drop_more}
use Rattle.view_map.specs.Pieces.{first_lines, legend_from, legend_line}
use Rattle.view_map.specs.Sheets.{sheets_where, wanted_sheets}
use Rattle.view_map.specs.declared.holders.Holder.{Holder}
use Rattle.view_map.specs.declared.layout.Layout.{Layout}
use Rattle.view_map.specs.declared.sheets.Sheet.{Sheet}

-- no line yet
pub no_line : (line : ℕ → List ℕ) (text : List ℕ) → text ≡ text ++ first_lines line 0
unfolding first_lines
no_line line text = sym (append-nil text)

-- one line more
pub line_more : (line : ℕ → List ℕ) (start text new more : List ℕ) (n : ℕ)
    → text ≡ start ++ first_lines line n
    → more ≡ line n → new ≡ text ++ more
    → new ≡ start ++ first_lines line (n + 1)
unfolding first_lines
line_more line start text new more n so_far this grown =
    rw add-one (grown ∙ ap (λ t. t ++ more) so_far ∙ ap (λ m. (start ++ first_lines line n) ++ m) this
    ∙ append_assoc start (first_lines line n) (line n))

-- the line of one package more
pub legend_more : (l : Layout) (hs : List Holder) (i : ℕ) (h : Holder) (text new more whole : List ℕ)
    → i < length hs
    → h ≡ get_or hs i h
    → more ≡ legend_line l i h → new ≡ text ++ more → text ++ legend_from l i (drop i hs) ≡ whole
    → new ++ legend_from l (i + 1) (drop (i + 1) hs) ≡ whole
unfolding legend_from
legend_more l hs i h text new more whole within is this grown so_far =
    let rest = drop (i + 1) hs in
    let here : drop i hs ≡ h ∷ rest = drop_more hs i h within ∙ ap (λ x. x ∷ rest) (sym is) in
    ap (λ t. t ++ legend_from l (i + 1) rest) (grown ∙ ap (λ m. text ++ m) this)
    ∙ append_assoc text (legend_line l i h) (legend_from l (i + 1) rest)
    ∙ ap (λ xs. text ++ legend_from l i xs) (sym here) ∙ so_far

pub legend_done : (l : Layout) (hs : List Holder) (i : ℕ) (text whole : List ℕ) → length hs ≤ i
    → text ++ legend_from l i (drop i hs) ≡ whole → text ≡ whole
unfolding legend_from
legend_done l hs i text whole past so_far = sym (ap (λ xs. text ++ legend_from l i xs) (drop_all i hs past)
    ∙ append-nil text) ∙ so_far

-- the sheets of one package more
pub sheets_more : (l : Layout) (loans : Bool) (hs : List Holder) (i : ℕ) (h : Holder)
    (sheets new more whole : List Sheet) → i < length hs → h ≡ get_or hs i h
    → more ≡ wanted_sheets l loans i h → new ≡ sheets ++ more
    → sheets ++ sheets_where l loans i (drop i hs) ≡ whole → new ++ sheets_where l loans (i + 1) (drop (i + 1) hs)
    ≡ whole
unfolding sheets_where
sheets_more l loans hs i h sheets new more whole within is this grown so_far =
    let rest = drop (i + 1) hs in
    let here : drop i hs ≡ h ∷ rest = drop_more hs i h within ∙ ap (λ x. x ∷ rest) (sym is) in
    ap (λ t. t ++ sheets_where l loans (i + 1) rest) (grown ∙ ap (λ m. sheets ++ m) this)
    ∙ append_assoc sheets (wanted_sheets l loans i h) (sheets_where l loans (i + 1) rest)
    ∙ ap (λ xs. sheets ++ sheets_where l loans i xs) (sym here) ∙ so_far

pub sheets_done : (l : Layout) (loans : Bool) (hs : List Holder) (i : ℕ) (sheets whole : List Sheet)
    → length hs ≤ i
    → sheets ++ sheets_where l loans i (drop i hs) ≡ whole → sheets ≡ whole
unfolding sheets_where
sheets_done l loans hs i sheets whole past so_far = sym (ap (λ xs. sheets ++ sheets_where l loans i xs)
    (drop_all i hs past) ∙ append-nil sheets) ∙ so_far

-- ---- pieces one after the other

pub five_joined : (old t1 t2 t3 t4 t5 a b c d e : List ℕ) {a' c' e' : List ℕ} → t1 ≡ old ++ a → t2 ≡ t1 ++ b
    → t3 ≡ t2 ++ c → t4 ≡ t3 ++ d → t5 ≡ t4 ++ e
    → a ≡ a' → c ≡ c' → e ≡ e' → t5 ≡ old ++ (a' ++ (b ++ (c' ++ (d ++ e'))))
five_joined old t1 t2 t3 t4 t5 a b c d e {a'} {c'} {e'} p1 p2 p3 p4 p5 is_a is_c is_e =
    let q2 : t2 ≡ (old ++ a') ++ b = p2 ∙ ap (λ t. t ++ b) (p1 ∙ ap (λ x. old ++ x) is_a) in
    let q3 : t3 ≡ ((old ++ a') ++ b) ++ c' = p3 ∙ ap (λ t. t ++ c) q2
    ∙ ap (λ x. ((old ++ a') ++ b) ++ x) is_c in
    let q5 : t5 ≡ ((((old ++ a') ++ b) ++ c') ++ d) ++ e' = p5 ∙ ap (λ t. t ++ e) (p4 ∙ ap (λ t. t ++ d) q3)
    ∙ ap (λ x. ((((old ++ a') ++ b) ++ c') ++ d) ++ x) is_e in
    q5 ∙ simp append_assoc

pub four_joined : (t1 t2 t3 t4 a b c d : List ℕ) → t1 ≡ a → t2 ≡ t1 ++ b → t3 ≡ t2 ++ c → t4 ≡ t3 ++ d
    → t4 ≡ a ++ (b ++ (c ++ d))
four_joined t1 t2 t3 t4 a b c d p1 p2 p3 p4 =
    let q4 : t4 ≡ ((a ++ b) ++ c) ++ d = p4 ∙ ap (λ t. t ++ d)
    (p3 ∙ ap (λ t. t ++ c) (p2 ∙ ap (λ t. t ++ b) p1)) in
    q4 ∙ simp append_assoc

pub two_joined : (t1 t2 a b b' : List ℕ) → t1 ≡ a → t2 ≡ t1 ++ b' → b' ≡ b → t2 ≡ a ++ b
two_joined t1 t2 a b b' p1 p2 is_b = p2 ∙ ap (λ t. t ++ b') p1 ∙ ap (λ x. a ++ x) is_b

pub three_joined : (t1 t2 t3 a b b' c c' : List ℕ) → t1 ≡ a → t2 ≡ t1 ++ b' → t3 ≡ t2 ++ c' → b' ≡ b
    → c' ≡ c
    → t3 ≡ a ++ (b ++ c)
three_joined t1 t2 t3 a b b' c c' p1 p2 p3 is_b is_c =
    p3 ∙ ap (λ t. t ++ c') (two_joined t1 t2 a b b' p1 p2 is_b) ∙ ap (λ x. (a ++ b) ++ x) is_c
    ∙ append_assoc a b c
