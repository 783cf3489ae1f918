-- A WHERE of columns that are compared with parameters, joined by AND.
use Rattle.std.proofs.Common.{◌≡◌, ℕ, zero, suc, ◌+◌, List, [], ◌∷◌, ◌++◌, slice_get, Bool}
use Rattle.std.proofs.Common.{true, false, cond, Option, Some, None, Ok, refl, sym, ap, ◌∙◌}
use Rattle.std.proofs.Common.{add-one, inl, inr, arith}
use Rattle.std.specs.Prelude.{nat_lt, ◌-◌, ◌&&◌, not, if◌then◌else◌, filter}
use Rattle.std.specs.List.{list_all}
use Rattle.std.specs.Ordering.{nat_cmp, is_eq}
use Rattle.std.proofs.lemmas.Bool.{cases_Bool, and_parts}
use Rattle.std.proofs.lemmas.List.Folds.{list_all-append}
use Rattle.sqlite_ast.specs.declared.Expr.{Expr, out-Expr}
use Rattle.sqlite_ast.specs.declared.Expr.TheOpen.{Expr-F}
use Rattle.sqlite_ast.specs.declared.Binary.{Binary as Operator}
use Rattle.sqlite_ast.specs.declared.Binary.TheVariants as binary
use Rattle.sqlite.specs.Term.{Term, col, op2, holds}
use Rattle.sqlite.specs.Schema.{Schema}
use Rattle.sqlite.specs.Table.{Table}
use Rattle.sqlite.specs.Order.{Row, column as value_in}
use Rattle.sqlite.specs.declared.types.Value.{Value}
use Rattle.sqlite.specs.declared.types.Value.TheVariants as value
use Rattle.sqlite.specs.Ops.{binary as apply, is_null, is_true, from_truth}
use Rattle.sqlite_value.specs.Order.{class}
use Rattle.sqlite_value.proofs.OrderLemmas.{value_cmp-Null}
use Rattle.sqlite.specs.Collation.TheVariants.{Binary}
use Rattle.sqlite_schema.specs.declared.schema.Column.{Column}
use Rattle.sqlite_schema.specs.declared.schema.Kind.{Kind}
use Rattle.sqlite.specs.Kind.TheVariants as kind
use Rattle.sqlite_schema.specs.Names.{column_named, is_key, place_of}
use Rattle.sqlite_sql.specs.declared.ops.BinaryOp.TheVariants.{Compare, And}
use Rattle.sqlite_sql.specs.declared.ops.CompareOp.TheVariants.{Eq, Ne, Lt, Le, Gt, Ge}
use Rattle.sqlite_sql.specs.declared.ops.CompareOp.{CompareOp}
use Rattle.sqlite_resolve.specs.Lowering.{Lowering, fresh, max_budget, spend, begin, finish, nothing, either}
use Rattle.sqlite_resolve.specs.Lowering.{written_or, chosen}
use Rattle.sqlite_resolve.specs.declared.state.State.{State}
use Rattle.sqlite_resolve.specs.declared.state.Carried.{Carried}
use Rattle.sqlite_resolve.specs.declared.scope.Output.{Output}
use Rattle.sqlite_resolve.specs.declared.scope.Found.TheVariants as found
use Rattle.sqlite_resolve.specs.Expr.{lower, lower_to, node, opened, operation, both as both_of, combine, tests_truth}
use Rattle.sqlite_resolve.specs.Expr.{tests_alias, wanted_truth, passes as hands_on, is_identity}
use Rattle.sqlite_resolve.specs.Body.{tests}
use Rattle.sqlite_resolve.specs.Terms.{conjuncts}
use Rattle.sqlite_resolve.specs.Scope.{is_among, Name, Context, find, column, term_of, column_at, column_in, hit}
use Rattle.sqlite_resolve.specs.Scope.{only, in_level, declared}
use Rattle.sqlite_resolve.specs.Compare.{of_column, at_place, of_declared, of_kind, affinity_of, converted, compared}
use Rattle.sqlite_resolve.specs.Compare.{may_be_text, spelled, is_parameter}
use Rattle.sqlite_resolve.specs.declared.compare.Affinity.{Affinity}
use Rattle.sqlite_resolve.specs.declared.compare.Affinity.TheVariants as affinity
use Rattle.store_sql.specs.Known.{HasTable}
use Rattle.store_sql.specs.Reading.{Test, always, equals, compares, both, passes, is_same, stands}
use Rattle.store_sql.proofs.Resolve.{bound_to}

-- ---- one node, over a meaning `low` of its parts

and_in : (low : Context → Expr → Lowering Term) (cx : Context) (e a b : Expr) (s s1 s2 : State) (x y : Term)
    → out-Expr e ≡ Expr-F.Binary binary.And a b → nat_lt 1 s.budget ≡ true
    → low cx a (record s { budget = s.budget - 1; written = None; last = nothing }) ≡ Ok (x, s1)
    → low cx b s1 ≡ Ok (y, s2)
    → node low cx e s ≡ Ok (
      op2 And x y,
      record s2 {
        written = either s.written s2.written;
        last = written_or s2.written nothing;
      },
    )
unfolding node spend begin finish opened operation both_of combine tests_truth tests_alias wanted_truth hands_on
and_in low cx e a b s s1 s2 x y is enough first second = rw (is, enough, first, second) refl

compare_in : (low : Context → Expr → Lowering Term) (cx : Context) (op : Operator) (e a b : Expr)
    (s s1 s2 : State) (x y t : Term) → out-Expr e ≡ Expr-F.Binary op a b → nat_lt 1 s.budget ≡ true
    → is_identity op ≡ false
    → low cx a (record s { budget = s.budget - 1; written = None; last = nothing }) ≡ Ok (x, s1)
    → low cx b s1 ≡ Ok (y, s2) → combine cx op (chosen s1.last s2.last) x y s2 ≡ Ok (t, s2)
    → node low cx e s ≡ Ok (
      t,
      record s2 {
        written = either s.written s2.written;
        last = written_or s2.written nothing;
      },
    )
unfolding node spend begin finish opened operation both_of tests_truth tests_alias wanted_truth hands_on
compare_in low cx op e a b s s1 s2 x y t is enough plain first second made =
    rw (is, enough, plain, plain, first, second, made) refl

name_in : (low : Context → Expr → Lowering Term) (cx : Context) (e : Expr) (name : Name) (s s1 : State) (t : Term)
    → out-Expr e ≡ Expr-F.Column None name → nat_lt 1 s.budget ≡ true
    → column cx None name (record s { budget = s.budget - 1; written = None; last = nothing }) ≡ Ok (t, s1)
    → node low cx e s ≡ Ok (
      t,
      record s1 {
        written = either s.written s1.written;
        last = written_or s1.written s1.last;
      },
    )
unfolding node spend begin finish opened hands_on
name_in low cx e name s s1 t is enough made = rw (is, enough, made) refl

parameter_in : (low : Context → Expr → Lowering Term) (cx : Context) (e : Expr) (n : ℕ) (s : State)
    → out-Expr e ≡ Expr-F.Parameter n → nat_lt 1 s.budget ≡ true
    → node low cx e s ≡ Ok (
      col 0 (n - 1),
      record s {
        budget = s.budget - 1;
        written = either s.written None;
        last = nothing;
      },
    )
unfolding node spend begin finish opened hands_on
parameter_in low cx e n s is enough = rw (is, enough) refl

-- ---- the condition as it is written

is_loose : Affinity → Bool
is_loose affinity.Loose = true
is_loose _ = false

abbrev affinity_in : Table → ℕ → Column → Affinity
affinity_in t k c = if is_key t.key k then affinity.Numeric else of_declared c

-- `name = ?n`, where the column has the collation BINARY and stands in a strict table: the column and the parameter
-- as expressions, the name, the column, and what they are
abbrev pub IsEquality : Table → Expr → ℕ → ℕ → Type 0
IsEquality t e k j =
    (left : Expr) × (right : Expr) × (name : Name) × (kind : Column)
    × (out-Expr e ≡ Expr-F.Binary binary.Eq left right) × (out-Expr left ≡ Expr-F.Column None name)
    × (out-Expr right ≡ Expr-F.Parameter (j + 1))
    × (column_named t name ≡ Some k) × (slice_get t.columns k ≡ Some kind)
    × (chosen (declared t k kind) nothing ≡ Binary) × (kind.is_strict ≡ true)

abbrev pub written_as : CompareOp → Operator
written_as Eq = binary.Eq
written_as Ne = binary.Ne
written_as Lt = binary.Lt
written_as Le = binary.Le
written_as Gt = binary.Gt
written_as Ge = binary.Ge

-- `name < ?n` and the like, in the same parts
abbrev pub IsComparison : Table → Expr → CompareOp → ℕ → ℕ → Type 0
IsComparison t e op k j =
    (left : Expr) × (right : Expr) × (name : Name) × (kind : Column)
    × (out-Expr e ≡ Expr-F.Binary (written_as op) left right) × (out-Expr left ≡ Expr-F.Column None name)
    × (out-Expr right ≡ Expr-F.Parameter (j + 1))
    × (column_named t name ≡ Some k) × (slice_get t.columns k ≡ Some kind)
    × (chosen (declared t k kind) nothing ≡ Binary) × (kind.is_strict ≡ true)

-- `a AND b`
abbrev pub IsBoth : (Expr → Type 0) → (Expr → Type 0) → Expr → Type 0
IsBoth A B e = (left : Expr) × (right : Expr) × (out-Expr e ≡ Expr-F.Binary binary.And left right) × A left
    × B right

abbrev pub IsTest : Table → Test → Expr → Type 0
IsTest t always e = ⊥
IsTest t (equals k j) e = IsEquality t e k j
IsTest t (compares op k j) e = IsComparison t e op k j
IsTest t (both x y) e = IsBoth (IsTest t x) (IsTest t y) e

-- the WHERE, if there is one
abbrev pub IsWhere : Table → Test → Option Expr → Type 0
IsWhere t always filter = filter ≡ None
IsWhere t test filter = (e : Expr) × (filter ≡ Some e) × IsTest t test e

abbrev pub term_of_test : Table → Test → Term
term_of_test t always = col 0 0
term_of_test t (equals k j) = op2 (Compare Eq Binary) (col 1 (place_of t k)) (col 0 j)
term_of_test t (compares op k j) = op2 (Compare op Binary) (col 1 (place_of t k)) (col 0 j)
term_of_test t (both x y) = op2 And (term_of_test t x) (term_of_test t y)

abbrev pub terms_of_test : Table → Test → List Term
terms_of_test t always = []
terms_of_test t (equals k j) = term_of_test t (equals k j) ∷ []
terms_of_test t (compares op k j) = term_of_test t (compares op k j) ∷ []
terms_of_test t (both x y) = terms_of_test t x ++ terms_of_test t y

-- what is left of a budget after the test, and whether it is enough
abbrev pub left_of : Test → ℕ → ℕ
left_of always b = b
left_of (equals k j) b = b - 1 - 1 - 1
left_of (compares op k j) b = b - 1 - 1 - 1
left_of (both x y) b = left_of y (left_of x (b - 1))

abbrev pub fits : Test → ℕ → ℕ → Bool
fits always d b = false
fits (equals k j) zero b = false
fits (equals k j) (suc zero) b = false
fits (equals k j) (suc (suc d)) b = nat_lt 1 b && (nat_lt 1 (b - 1) && nat_lt 1 (b - 1 - 1))
fits (compares op k j) zero b = false
fits (compares op k j) (suc zero) b = false
fits (compares op k j) (suc (suc d)) b = nat_lt 1 b && (nat_lt 1 (b - 1) && nat_lt 1 (b - 1 - 1))
fits (both x y) zero b = false
fits (both x y) (suc d) b = nat_lt 1 b && (fits x d (b - 1) && fits y d (left_of x (b - 1)))

abbrev pub with_budget : ℕ → State
with_budget n = record (fresh 2 max_budget) { budget = n }

-- the same, where a column was read last
abbrev pub spent : ℕ → Carried → State
spent n c = record (fresh 2 max_budget) { budget = n; last = c }

-- ---- what it means

same_either : {A : Type 0} (b : Bool) (x : A) → cond b x x ≡ x
same_either true x = refl
same_either false x = refl

kept_left : (a : Affinity) (p : ℕ) → is_loose a ≡ false → converted a affinity.None (col 1 p) ≡ col 1 p
unfolding converted may_be_text spelled is_parameter is_loose
kept_left affinity.None p h = refl
kept_left affinity.Numeric p h = refl
kept_left affinity.Loose p h = absurd cc
kept_left affinity.Text p h = refl
kept_left affinity.Blob p h = refl

kept_right : (a : Affinity) (j : ℕ) → is_loose a ≡ false → converted affinity.None a (col 0 j) ≡ col 0 j
unfolding converted may_be_text spelled is_parameter is_loose
kept_right affinity.None j h = refl
kept_right affinity.Numeric j h = refl
kept_right affinity.Loose j h = absurd cc
kept_right affinity.Text j h = refl
kept_right affinity.Blob j h = refl

tight_kind : (filler : Bool) (k : Kind) → is_loose (cond filler affinity.None (of_kind k)) ≡ false
unfolding is_loose
tight_kind true k = refl
tight_kind false kind.Integer = refl
tight_kind false kind.Real = refl
tight_kind false kind.Text = refl
tight_kind false kind.Blob = refl
tight_kind false kind.Any = refl

strict_tight : (key : Bool) (c : Column) → c.is_strict ≡ true
    → is_loose (if key then affinity.Numeric else of_declared c) ≡ false
unfolding is_loose
strict_tight true c h = refl
strict_tight false c h = rw h (tight_kind _ c.kind)

less_one : (j : ℕ) → j + 1 - 1 ≡ j
less_one j = omega arith

conjuncts_of : (t : Table) (test : Test) (e : Expr) → IsTest t test e
    → conjuncts (term_of_test t test) ≡ terms_of_test t test
conjuncts_of t always e it = absurd it
conjuncts_of t (equals k j) e it = refl
conjuncts_of t (compares op k j) e it = refl
conjuncts_of t (both x y) e it = rw (conjuncts_of t x it.0 it.3, conjuncts_of t y it.1 it.4) refl

-- whether a budget is enough for the whole WHERE
abbrev pub fits_from : Test → ℕ → Bool
fits_from always b = true
fits_from (equals k j) b = fits (equals k j) 700 b
fits_from (compares op k j) b = fits (compares op k j) 700 b
fits_from (both x y) b = fits (both x y) 700 b

abbrev pub fits_in : Test → Bool
fits_in test = fits_from test max_budget

and_one : (a : Bool) → a && true ≡ a
and_one true = refl
and_one false = refl

module _ (schema : Schema) (at : ℕ) (t : Table) (h : HasTable schema at t) (shown : List Output)
    (may_aggregate may_alias : Bool) where
  abbrev scope : Context
  scope = record {
    schema = schema;
    levels = record { tables = bound_to t at ∷ []; shown = shown }
        ∷ [];
    may_aggregate = may_aggregate;
    may_alias = may_alias;
  }

  pub find_in : (name : Name) (k : ℕ) → column_named t name ≡ Some k
      → find scope None name ≡ Ok (found.Column 1 at k)
  unfolding find in_level only hit column_in is_among
  find_in name k named = rw (h.there, named) refl

  column_is : (name : Name) (k : ℕ) (c : Column) (s : State) → column_named t name ≡ Some k
      → slice_get t.columns k ≡ Some c → column scope None name s
      ≡ Ok (col 1 (place_of t k), record s { last = declared t k c })
  unfolding column term_of column_at
  column_is name k c s named there = rw (find_in name k named, h.there, there) refl

  place_is : (k : ℕ) (c : Column) → slice_get t.columns k ≡ Some c
      → at_place schema at (place_of t k) ≡ affinity_in t k c
  place_is k c there = elim (cases_Bool (is_key t.key k)) [
    | inl key ↦ rw key refl
    | inr other ↦ rw (other, add-one, h.there, there) refl
  ]

  given_is : (j : ℕ) → affinity_of scope (col 0 j) ≡ affinity.None
  unfolding affinity_of of_column
  given_is j = same_either _ affinity.None

  of_place : (p : ℕ) → affinity_of scope (col 1 p) ≡ at_place schema at p
  unfolding affinity_of of_column
  of_place p = refl

  comparison_is : (op : CompareOp) (k j : ℕ) (c : Column) (s : State) → slice_get t.columns k ≡ Some c
      → is_loose (affinity_in t k c) ≡ false
      → combine scope (written_as op) Binary (col 1 (place_of t k)) (col 0 j) s
      ≡ Ok (op2 (Compare op Binary) (col 1 (place_of t k)) (col 0 j), s)
  unfolding combine compared
  comparison_is op k j c s there tight =
      let a = of_place (place_of t k) ∙ place_is k c there in
      each op a
    where
      each : (op : CompareOp) → affinity_of scope (col 1 (place_of t k)) ≡ affinity_in t k c
          → combine scope (written_as op) Binary (col 1 (place_of t k)) (col 0 j) s
          ≡ Ok (op2 (Compare op Binary) (col 1 (place_of t k)) (col 0 j), s)
      each Eq a = rw (
        a,
        given_is j,
        kept_left (affinity_in t k c) (place_of t k) tight,
        kept_right
            (affinity_in t k c) j tight,
      ) refl
      each Ne a = rw (
        a,
        given_is j,
        kept_left (affinity_in t k c) (place_of t k) tight,
        kept_right
            (affinity_in t k c) j tight,
      ) refl
      each Lt a = rw (
        a,
        given_is j,
        kept_left (affinity_in t k c) (place_of t k) tight,
        kept_right
            (affinity_in t k c) j tight,
      ) refl
      each Le a = rw (
        a,
        given_is j,
        kept_left (affinity_in t k c) (place_of t k) tight,
        kept_right
            (affinity_in t k c) j tight,
      ) refl
      each Gt a = rw (
        a,
        given_is j,
        kept_left (affinity_in t k c) (place_of t k) tight,
        kept_right
            (affinity_in t k c) j tight,
      ) refl
      each Ge a = rw (
        a,
        given_is j,
        kept_left (affinity_in t k c) (place_of t k) tight,
        kept_right
            (affinity_in t k c) j tight,
      ) refl

  plain_operator : (op : CompareOp) → is_identity (written_as op) ≡ false
  plain_operator Eq = refl
  plain_operator Ne = refl
  plain_operator Lt = refl
  plain_operator Le = refl
  plain_operator Gt = refl
  plain_operator Ge = refl

  comparison_in : (op : CompareOp) (e : Expr) (k j d b : ℕ) → IsComparison t e op k j
      → fits (compares op k j) d b ≡ true → lower_to d scope e (with_budget b)
      ≡ Ok (term_of_test t (compares op k j), with_budget (left_of (compares op k j) b))
  unfolding lower_to
  comparison_in op e k j zero b it enough = absurd cc
  comparison_in op e k j (suc zero) b it enough = absurd cc
  comparison_in op e k j (suc (suc d)) b it enough =
      let one = and_parts (nat_lt 1 b) _ enough in
      let two = and_parts (nat_lt 1 (b - 1)) _ one.1 in
      let made = comparison_is op k j it.3 (with_budget (b - 1 - 1 - 1)) it.8
      (strict_tight (is_key t.key k) it.3 it.10) in
      compare_in (lower_to (suc d)) scope (written_as op) e it.0 it.1 (with_budget b)
      (record (with_budget (b - 1 - 1)) { last = declared t k it.3 }) (with_budget (b - 1 - 1 - 1))
      (col 1 (place_of t k)) (col 0 j) (term_of_test t (compares op k j))
      it.4 one.0 (plain_operator op)
      (name_in (lower_to d) scope it.0 it.2 (with_budget (b - 1))
      (record (with_budget (b - 1 - 1)) { last = declared t k it.3 }) (col 1 (place_of t k)) it.5 two.0
      (column_is it.2 k it.3 (with_budget (b - 1 - 1)) it.7 it.8))
      (rw (less_one j) at (parameter_in (lower_to d) scope it.1 (j + 1)
      (record (with_budget (b - 1 - 1)) { last = declared t k it.3 }) it.6 two.1))
      (rw it.9 made)

  fits_same : (k j d b : ℕ) → fits (equals k j) d b ≡ true → fits (compares Eq k j) d b ≡ true
  fits_same k j zero b h = h
  fits_same k j (suc zero) b h = h
  fits_same k j (suc (suc d)) b h = h

  -- a test with its ANDs
  test_in : (test : Test) (e : Expr) (d b : ℕ) → IsTest t test e → fits test d b ≡ true
      → lower_to d scope e (with_budget b) ≡ Ok (term_of_test t test, with_budget (left_of test b))
  unfolding lower_to
  test_in always e d b it enough = absurd it
  test_in (equals k j) e d b it enough = comparison_in Eq e k j d b it (fits_same k j d b enough)
  test_in (compares op k j) e d b it enough = comparison_in op e k j d b it enough
  test_in (both x y) e zero b it enough = absurd cc
  test_in (both x y) e (suc d) b it enough =
      let one = and_parts (nat_lt 1 b) _ enough in
      let two = and_parts (fits x d (b - 1)) _ one.1 in
      and_in (lower_to d) scope e it.0 it.1 (with_budget b) (with_budget (left_of x (b - 1)))
      (with_budget (left_of (both x y) b)) (term_of_test t x) (term_of_test t y) it.2 one.0
      (test_in x it.0 d (b - 1) it.3 two.0) (test_in y it.1 d (left_of x (b - 1)) it.4 two.1)

  -- what `tests` gives of the whole WHERE
  pub where_from : (test : Test) (filter : Option Expr) (b : ℕ) → IsWhere t test filter
      → fits_from test b ≡ true → tests lower scope [] filter (with_budget b)
      ≡ Ok (terms_of_test t test, with_budget (left_of test b))
  unfolding tests
  where_from always filter b it enough = rw it refl
  where_from (equals k j) filter b it enough = rw (it.1, test_in (equals k j) it.0 700 b it.2 enough) refl
  where_from (compares op k j) filter b it enough = rw (it.1, test_in (compares op k j) it.0 700 b it.2 enough) refl
  where_from (both x y) filter b it enough = rw (
    it.1,
    test_in (both x y) it.0 700 b it.2 enough,
    conjuncts_of t
        (both x y) it.0 it.2,
  ) refl

  pub where_in : (test : Test) (filter : Option Expr) → IsWhere t test filter → fits_in test ≡ true
      → tests lower scope [] filter (fresh 2 max_budget) ≡ Ok
      (terms_of_test t test, with_budget (left_of test max_budget))
  where_in test filter it enough = where_from test filter max_budget it enough

  -- what was read last does not count for the next expression
  unread : (e : Expr) (b : ℕ) (c : Carried) → lower scope e (spent b c) ≡ lower scope e (with_budget b)
  unfolding lower_to node spend begin
  unread e b c = elim (cases_Bool (nat_lt 1 b)) [ inl enough ↦ rw enough refl | inr short ↦ rw short refl ]

  tests_unread : (e : Expr) (b : ℕ) (c : Carried) → tests lower scope [] (Some e) (spent b c)
      ≡ tests lower scope [] (Some e) (with_budget b)
  unfolding tests
  tests_unread e b c = rw (unread e b c) refl

  -- the whole WHERE after columns were read
  pub where_after : (test : Test) (filter : Option Expr) (b : ℕ) (c : Carried) → IsWhere t test filter
      → fits_from test b ≡ true → (after : Carried) × (tests lower scope [] filter (spent b c)
      ≡ Ok (terms_of_test t test, spent (left_of test b) after))
  unfolding tests
  where_after always filter b c it enough = (c, rw it refl)
  where_after (equals k j) filter b c it enough = (
    nothing,
    ap (λ f. tests lower scope [] f (spent b c)) it.1
        ∙ tests_unread it.0 b c ∙ where_from (equals k j) (Some it.0) b (it.0, refl, it.2) enough,
  )
  where_after (compares op k j) filter b c it enough = (
    nothing,
    ap (λ f. tests lower scope [] f (spent b c)) it.1
        ∙ tests_unread it.0 b c ∙ where_from (compares op k j) (Some it.0) b (it.0, refl, it.2) enough,
  )
  where_after (both x y) filter b c it enough = (
    nothing,
    ap (λ f. tests lower scope [] f (spent b c)) it.1
        ∙ tests_unread it.0 b c ∙ where_from (both x y) (Some it.0) b (it.0, refl, it.2) enough,
  )

  -- a column alone
  pub column_in_scope : (e : Expr) (name : Name) (k : ℕ) (c : Column) (b : ℕ) (last : Carried)
      → out-Expr e ≡ Expr-F.Column None name → column_named t name ≡ Some k
      → slice_get t.columns k ≡ Some c → nat_lt 1 b ≡ true
      → lower scope e (spent b last) ≡ Ok (col 1 (place_of t k), spent (b - 1) (declared t k c))
  unfolding lower_to
  column_in_scope e name k c b last is named there enough =
      name_in (lower_to 699) scope e name (spent b last) (spent (b - 1) (declared t k c)) (col 1 (place_of t k)) is
      enough (column_is name k c (with_budget (b - 1)) named there)

  -- a parameter alone
  pub given_in : (e : Expr) (j b : ℕ) → out-Expr e ≡ Expr-F.Parameter (j + 1) → nat_lt 1 b ≡ true
      → lower scope e (with_budget b) ≡ Ok (col 0 j, with_budget (b - 1))
  unfolding lower_to
  given_in e j b is enough = rw (less_one j) at (parameter_in (lower_to 699) scope e (j + 1) (with_budget b) is enough)

-- ---- which rows it keeps

true_is : (b : Bool) → is_true (from_truth (Some b)) ≡ b
true_is true = refl
true_is false = refl

never : (v : Value) → is_null v ≡ false → is_eq (nat_cmp 0 (class v)) ≡ false
never value.Null h = absurd cc
never (value.Int n) h = refl
never (value.Real x) h = refl
never (value.Text t) h = refl
never (value.Blob b) h = refl

compare_is : (a b : Value) → is_null b ≡ false → is_true (apply (Compare Eq Binary) a b) ≡ is_same a b
unfolding apply
compare_is value.Null b h = sym (never b h) ∙ sym (ap is_eq (value_cmp-Null b))
compare_is (value.Int n) b h = rw h (true_is _)
compare_is (value.Real x) b h = rw h (true_is _)
compare_is (value.Text t) b h = rw h (true_is _)
compare_is (value.Blob c) b h = rw h (true_is _)

stands_is : (op : CompareOp) (a b : Value) → is_null b ≡ false
    → is_true (apply (Compare op Binary) a b) ≡ stands op a b
unfolding apply
stands_is op value.Null b h = refl
stands_is op (value.Int n) b h = rw h (true_is _)
stands_is op (value.Real x) b h = rw h (true_is _)
stands_is op (value.Text t) b h = rw h (true_is _)
stands_is op (value.Blob c) b h = rw h (true_is _)

-- no parameter of the test is NULL
abbrev pub are_given : Test → Row → Bool
are_given always params = true
are_given (equals k j) params = not (is_null (value_in params j))
are_given (compares op k j) params = not (is_null (value_in params j))
are_given (both x y) params = are_given x params && are_given y params

not_true : (b : Bool) → not b ≡ true → b ≡ false
not_true false h = refl
not_true true h = absurd cc

pub keeps_is : (t : Table) (test : Test) (params r : Row) → are_given test params ≡ true
    → list_all (holds (params ∷ r ∷ [])) (terms_of_test t test) ≡ passes t test params r
keeps_is t always params r h = refl
keeps_is t (equals k j) params r h = rw (compare_is (value_in r (place_of t k)) (value_in params j) (not_true _ h))
    (and_one _)
keeps_is t (compares op k j) params r h = rw (stands_is op (value_in r (place_of t k)) (value_in params j)
    (not_true _ h)) (and_one _)
keeps_is t (both x y) params r h =
    let two = and_parts (are_given x params) (are_given y params) h in
    list_all-append (holds (params ∷ r ∷ [])) (terms_of_test t x) (terms_of_test t y)
    ∙ rw (keeps_is t x params r two.0, keeps_is t y params r two.1) refl
