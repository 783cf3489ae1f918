-- A row that its table lets in, and that has no NULL, is one of values of the columns' kinds.
use Rattle.std.proofs.Common.{◌≡◌, ℕ, suc, ◌+◌, List, [], ◌∷◌, Bool, true, false, Option, Some}
use Rattle.std.proofs.Common.{None, refl, ap, subst}
use Rattle.std.proofs.Common.{◌∙◌, arith, drop}
use Rattle.std.specs.Prelude.{not, ◌&&◌, ◌||◌, if◌then◌else◌}
use Rattle.std.proofs.lemmas.Bool.{true≢false, false≢true, and_parts}
use Rattle.sqlite.specs.Order.{Row, column}
use Rattle.sqlite.specs.Tree.{rowid}
use Rattle.sqlite.specs.Ops.{is_null}
use Rattle.sqlite.specs.Table.{Table}
use Rattle.sqlite.specs.declared.types.Value.{Value}
use Rattle.sqlite.specs.declared.types.Value.TheVariants.{Null, Int, Real, Text, Blob}
use Rattle.sqlite_trees.specs.View.{is_int}
use Rattle.sqlite_schema.specs.Names.{is_key}
use Rattle.sqlite_schema.specs.Rules.{is_of, has_affinity, suits, are_typed, are_present}
use Rattle.sqlite_schema.specs.declared.schema.Column.{Column}
use Rattle.sqlite_schema.specs.declared.schema.Kind.{Kind}
use Rattle.sqlite_schema.specs.declared.schema.Kind.TheVariants as kind
use Rattle.package_schema.specs.Rows.{is_kept, are_kept, as_kind, as_columns, as_rowid, as_row, are_filled, is_filled}
use Rattle.package_schema.specs.Rows.{ends_otherwise, are_needed}

-- a value of a kind
of_kind : (k : Kind) (v : Value) → is_kept k ≡ true → is_of k v ≡ true → is_null v ≡ false
    → as_kind k v ≡ v
of_kind kind.Integer Null k h n = absurd (true≢false n)
of_kind kind.Integer (Int i) k h n = refl
of_kind kind.Integer (Real x) k h n = absurd (false≢true h)
of_kind kind.Integer (Text t) k h n = absurd (false≢true h)
of_kind kind.Integer (Blob b) k h n = absurd (false≢true h)
of_kind kind.Text Null k h n = absurd (true≢false n)
of_kind kind.Text (Int i) k h n = absurd (false≢true h)
of_kind kind.Text (Real x) k h n = absurd (false≢true h)
of_kind kind.Text (Text t) k h n = refl
of_kind kind.Text (Blob b) k h n = absurd (false≢true h)
of_kind kind.Blob Null k h n = absurd (true≢false n)
of_kind kind.Blob (Int i) k h n = absurd (false≢true h)
of_kind kind.Blob (Real x) k h n = absurd (false≢true h)
of_kind kind.Blob (Text t) k h n = absurd (false≢true h)
of_kind kind.Blob (Blob b) k h n = refl
of_kind kind.Real v k h n = absurd (false≢true k)
of_kind kind.Any v k h n = absurd (false≢true k)

is_nothing : (v : Value) → is_null v ≡ true → Null ≡ v
is_nothing Null h = refl
is_nothing (Int i) h = absurd (false≢true h)
is_nothing (Real x) h = absurd (false≢true h)
is_nothing (Text t) h = absurd (false≢true h)
is_nothing (Blob b) h = absurd (false≢true h)

not_true : (b : Bool) → not b ≡ true → b ≡ false
not_true true h = absurd (false≢true h)
not_true false h = refl

-- the value of one column
value_is : (key : Option ℕ) (at : ℕ) (c : Column) (v : Value) → (c.is_strict && is_kept c.kind) ≡ true
    → (if is_key key at then is_null v else suits c v) ≡ true → (is_key key at || not (is_null v)) ≡ true
    → (if is_key key at then Null else as_kind c.kind v) ≡ v
value_is key at c v kept typed filled = one (is_key key at) typed filled
  where
    one : (b : Bool) → (if b then is_null v else suits c v) ≡ true → (b || not (is_null v)) ≡ true
        → (if b then Null else as_kind c.kind v) ≡ v
    one true t f = is_nothing v t
    one false t f =
        let both = and_parts c.is_strict (is_kept c.kind) kept in
        let of : is_of c.kind v ≡ true = subst (λ s. (if s then is_of c.kind v else has_affinity c.kind v) ≡ true)
        both.0 t in
        of_kind c.kind v both.1 of (not_true (is_null v) f)

-- a row that lacks its last columns has a NULL
short : (key : Option ℕ) (at : ℕ) (c : Column) (cs : List Column) (r : Row)
    → ((k : ℕ) → column r (at + 1 + k) ≡ Null)
    → ends_otherwise key at (c ∷ cs) ≡ true → are_filled key at (c ∷ cs) r ≡ true → ⊥
short key at c [] r none ends filled =
    let here : column r (at + 1) ≡ Null = ap (column r) (omega arith) ∙ none 0 in
    let f = (and_parts _ _ filled).0 in
    let g : (is_key key at || false) ≡ true = subst (λ v. (is_key key at || not (is_null v)) ≡ true) here f in
    one (is_key key at) (not_true (is_key key at) ends) g
  where
    one : (b : Bool) → b ≡ false → (b || false) ≡ true → ⊥
    one true e h = true≢false e
    one false e h = false≢true h
short key at c (d ∷ cs) r none ends filled =
    short key (at + 1) d cs r (λ k. let e : (at + 1) + 1 + k ≡ at + 1 + suc k =
    omega arith in ap (column r) e ∙ none (suc k)) ends (and_parts _ _ filled).1

rest_ends : (key : Option ℕ) (at : ℕ) (c : Column) (cs : List Column) → ends_otherwise key at (c ∷ cs) ≡ true
    → ends_otherwise key (at + 1) cs ≡ true
rest_ends key at c [] h = refl
rest_ends key at c (d ∷ cs) h = h

columns_are : (key : Option ℕ) (at : ℕ) (cs : List Column) (r vs : Row)
    → ((k : ℕ) → column r (at + 1 + k) ≡ column vs k) → are_kept cs ≡ true
    → ends_otherwise key at cs ≡ true
    → are_typed key at cs vs ≡ true → are_filled key at cs r ≡ true
    → as_columns key at cs r ≡ vs
columns_are key at [] r [] same kept ends typed filled = refl
columns_are key at [] r (v ∷ vs) same kept ends typed filled = absurd (false≢true typed)
columns_are key at (c ∷ cs) r [] same kept ends typed filled = absurd (short key at c cs r same ends filled)
columns_are key at (c ∷ cs) r (v ∷ vs) same kept ends typed filled =
    let here : column r (at + 1) ≡ v = ap (column r) (omega arith) ∙ same 0 in
    let k = and_parts (c.is_strict && is_kept c.kind) (are_kept cs) kept in
    let t = and_parts (if is_key key at then is_null v else suits c v) (are_typed key (at + 1) cs vs) typed in
    let f = and_parts (is_key key at || not (is_null (column r (at + 1)))) (are_filled key (at + 1) cs r) filled in
    let g : (is_key key at || not (is_null v)) ≡ true = subst (λ w. (is_key key at || not (is_null w)) ≡ true) here
    f.0 in
    let first = ap (λ w. if is_key key at then Null else as_kind c.kind w) here ∙ value_is key at c v k.0 t.0 g in
    let more = columns_are key (at + 1) cs r vs (λ n. let e : (at + 1) + 1 + n ≡ at + 1 + suc n =
    omega arith in ap (column r) e ∙ same (suc n)) k.1 (rest_ends key at c cs ends) t.1 f.1 in
    ap (λ w. w ∷ as_columns key (at + 1) cs r) first ∙ ap (λ l. v ∷ l) more

rowid_is : (key : Option ℕ) (w : Value) (vs : Row) → is_int w ≡ true → as_rowid key (w ∷ vs) ≡ w
rowid_is None w vs h = refl
rowid_is (Some at) (Int i) vs h = refl
rowid_is (Some at) Null vs h = absurd (false≢true h)
rowid_is (Some at) (Real x) vs h = absurd (false≢true h)
rowid_is (Some at) (Text t) vs h = absurd (false≢true h)
rowid_is (Some at) (Blob b) vs h = absurd (false≢true h)

-- the whole row
pub row_is : (t : Table) (r : Row) → are_kept t.columns ≡ true → ends_otherwise t.key 0 t.columns ≡ true
    → is_int (rowid r) ≡ true → are_typed t.key 0 t.columns (drop 1 r) ≡ true → is_filled t r ≡ true
    → as_row t r ≡ r
row_is t [] kept ends int typed filled = absurd (false≢true int)
row_is t (w ∷ vs) kept ends int typed filled =
    ap (λ v. v ∷ as_columns t.key 0 t.columns (w ∷ vs)) (rowid_is t.key w vs int)
    ∙ ap (λ l. w ∷ l) (columns_are t.key 0 t.columns (w ∷ vs) vs
    (λ k. let e : 0 + 1 + k ≡ suc k = omega arith in ap (column (w ∷ vs)) e) kept ends typed filled)

-- where each column has to have a value, a row that the table lets in has no NULL
pub needed_filled : (key : Option ℕ) (at : ℕ) (cs : List Column) (r : Row) → are_needed key at cs ≡ true
    → are_present key at cs r ≡ true → are_filled key at cs r ≡ true
needed_filled key at [] r needed present = refl
needed_filled key at (c ∷ cs) r needed present =
    let n = and_parts (is_key key at || c.not_null) (are_needed key (at + 1) cs) needed in
    let p = and_parts (is_key key at || not c.not_null || not (is_null (column r (at + 1))))
    (are_present key (at + 1) cs r) present in
    both (is_key key at || not (is_null (column r (at + 1)))) (are_filled key (at + 1) cs r)
    (one (is_key key at) c.not_null (not (is_null (column r (at + 1)))) n.0 p.0)
    (needed_filled key (at + 1) cs r n.1 p.1)
  where
    one : (a b c : Bool) → (a || b) ≡ true → (a || not b || c) ≡ true → (a || c) ≡ true
    one true b c h k = refl
    one false true c h k = k
    one false false c h k = absurd (false≢true h)

    both : (a b : Bool) → a ≡ true → b ≡ true → (a && b) ≡ true
    both a b h k = rw (h, k) refl
