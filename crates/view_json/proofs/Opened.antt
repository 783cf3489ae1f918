-- One object more behind those of an open array.
use Rattle.std.proofs.Common.{◌≡◌, ◌∙◌, ◌+◌, ◌<◌, ℕ, List, [], ◌∷◌, ◌++◌, refl, sym}
use Rattle.std.proofs.Common.{ap, subst, length, take, get_or}
use Rattle.std.specs.Prelude.{true, false, cond, filter, map}
use Rattle.std.specs.Borrow.{Bor}
use Rattle.std.proofs.lemmas.List.{append_assoc, append-nil, map-append, take_more}
use Rattle.std.proofs.lemmas.List.Elements.{filter-append}
use Rattle.serde_json.specs.Data.{Data}
use Rattle.serde_json.specs.Written.{comma_if, compact_text}
use Rattle.sheet_types.specs.Balance.{names_identity}
use Rattle.sheet_types.specs.declared.receipt.Receipt.{Receipt}
use Rattle.view_text.specs.Ways.{names_end, naming_word, speaks_of}
use Rattle.view_json.specs.Arrays.{IsOpen, PutsLine, has_some, lines, so_far}
use Rattle.view_json.specs.Ledgers.{receipt_data}
use Rattle.view_json.specs.Ways.{naming_data, way_data, way_datas}
use Rattle.view_json.specs.declared.arrays.Lines.{Lines}

-- ---- one line more

lines_more : (ds : List Data) (d : Data) → lines true (ds ++ d ∷ []) ≡ lines true ds
    ++ (44 ∷ 10 ∷ compact_text d)
lines_more [] d = ap (λ l. 44 ∷ 10 ∷ l) (append-nil (compact_text d))
lines_more (x ∷ ds) d =
    ap (λ l. 44 ∷ 10 ∷ (compact_text x ++ l)) (lines_more ds d)
    ∙ ap (λ l. 44 ∷ 10 ∷ l) (sym (append_assoc (compact_text x) (lines true ds) (44 ∷ 10 ∷ compact_text d)))

so_far_more : (ds : List Data) (d : Data)
    → so_far (ds ++ d ∷ []) ≡ so_far ds ++ ((comma_if (has_some ds) ++ 10 ∷ []) ++ compact_text d)
so_far_more [] d = ap (λ l. 91 ∷ 10 ∷ l) (append-nil (compact_text d))
so_far_more (x ∷ ds) d =
    ap (λ l. 91 ∷ 10 ∷ (compact_text x ++ l)) (lines_more ds d)
    ∙ ap (λ l. 91 ∷ 10 ∷ l) (sym (append_assoc (compact_text x) (lines true ds) (44 ∷ 10 ∷ compact_text d)))

has_more : (ds : List Data) (d : Data) → has_some (ds ++ d ∷ []) ≡ true
has_more [] d = refl
has_more (x ∷ ds) d = refl

pub put_more : (ds : List Data) (d : Data) (object : List ℕ) (old new : Lines) → PutsLine object old new
    → object ≡ compact_text d → IsOpen ds old → IsOpen (ds ++ d ∷ []) new
put_more ds d object old new put is given = record {
  text = put.text ∙ ap (λ t. t ++ ((comma_if old.is_later ++ 10 ∷ []) ++ object)) given.text
      ∙ ap (λ b. so_far ds ++ ((comma_if b ++ 10 ∷ []) ++ object)) given.later
      ∙ ap (λ o. so_far ds ++ ((comma_if (has_some ds) ++ 10 ∷ []) ++ o)) is ∙ sym (so_far_more ds d);
  later = put.later ∙ sym (has_more ds d);
}

-- ---- objects of a list, one after the other

pub open_same : (ds es : List Data) (it : Lines) → ds ≡ es → IsOpen ds it → IsOpen es it
open_same ds es it is given = subst (λ xs. IsOpen xs it) is given

pub none_yet : (ds : List Data) (it : Lines) → IsOpen ds it → IsOpen (ds ++ []) it
none_yet ds it given = open_same ds (ds ++ []) it (sym (append-nil ds)) given

taken : {X : Type 0} (xs : List X) (i : ℕ) (x : X) → i < length xs → x ≡ get_or xs i x
    → take i xs ++ x ∷ [] ≡ take (i + 1) xs
taken xs i x within is = ap (λ z. take i xs ++ z ∷ []) is ∙ sym (take_more xs i x within)

mapped : {X : Type 0} (f : X → Data) (xs : List X) (i : ℕ) (x : X) → i < length xs → x ≡ get_or xs i x
    → map f (take i xs) ++ f x ∷ [] ≡ map f (take (i + 1) xs)
mapped f xs i x within is = sym (map-append f (take i xs) (x ∷ [])) ∙ ap (map f) (taken xs i x within is)

pub one_more : {X : Type 0} (f : X → Data) (xs : List X) (i : ℕ) (x : X) (it : Lines) → i < length xs
    → x ≡ get_or xs i x → IsOpen (map f (take i xs) ++ f x ∷ []) it → IsOpen (map f (take (i + 1) xs)) it
one_more f xs i x it within is given = open_same _ _ it (mapped f xs i x within is) given

-- the same behind others
pub one_behind : {X : Type 0} (f : X → Data) (ds : List Data) (xs : List X) (i : ℕ) (x : X) (it : Lines)
    → i < length xs → x ≡ get_or xs i x → IsOpen ((ds ++ map f (take i xs)) ++ f x ∷ []) it
    → IsOpen (ds ++ map f (take (i + 1) xs)) it
one_behind f ds xs i x it within is given =
    open_same _ _ it (append_assoc ds (map f (take i xs)) (f x ∷ [])
    ∙ ap (λ l. ds ++ l) (mapped f xs i x within is)) given

-- ---- receipts that name an identity

wayed : (id : List ℕ) (xs : List Receipt) (i : ℕ) (r : Receipt) → i < length xs → r ≡ get_or xs i r
    → way_datas id (take i xs) ++ way_datas id (r ∷ []) ≡ way_datas id (take (i + 1) xs)
wayed id xs i r within is =
    sym (map-append (way_data id) (filter (speaks_of id) (take i xs)) (filter (speaks_of id) (r ∷ [])))
    ∙ ap (map (way_data id)) (sym (filter-append (speaks_of id) (take i xs) (r ∷ [])))
    ∙ ap (way_datas id) (taken xs i r within is)

pub way_behind : (id : List ℕ) (ds : List Data) (xs : List Receipt) (i : ℕ) (r : Receipt) (it : Lines)
    → i < length xs → r ≡ get_or xs i r → IsOpen ((ds ++ way_datas id (take i xs)) ++ way_datas id (r ∷ []))
    it
    → IsOpen (ds ++ way_datas id (take (i + 1) xs)) it
way_behind id ds xs i r it within is given =
    open_same _ _ it (append_assoc ds (way_datas id (take i xs)) (way_datas id (r ∷ []))
    ∙ ap (λ l. ds ++ l) (wayed id xs i r within is)) given

pub named_alone : (id : List ℕ) (r : Receipt) (naming : List ℕ) → speaks_of id r ≡ true
    → naming ≡ naming_word (names_identity id r) (names_end id r)
    → naming_data r naming ∷ [] ≡ way_datas id (r ∷ [])
named_alone id r naming speaks is =
    ap (λ w. naming_data r w ∷ []) is ∙ ap (λ b. map (way_data id) (cond b (r ∷ []) [])) (sym speaks)

pub unnamed_alone : (id : List ℕ) (r : Receipt) → speaks_of id r ≡ false → way_datas id (r ∷ []) ≡ []
unnamed_alone id r speaks = ap (λ b. map (way_data id) (cond b (r ∷ []) [])) speaks

-- ---- receipts that are borrowed

pub data_behind : (xs : List (Bor Receipt))
    → map (λ (r : Bor Receipt). receipt_data r.now) xs ≡ map receipt_data (map (λ (r : Bor Receipt). r.now) xs)
data_behind [] = refl
data_behind (x ∷ xs) = ap (λ l. receipt_data x.now ∷ l) (data_behind xs)
