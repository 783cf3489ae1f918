-- The columns that a SELECT names, and those by which it is ordered.
use Rattle.std.proofs.Common.{◌≡◌, ℕ, ◌+◌, List, [], ◌∷◌, ◌++◌, map, slice_get, Bool, true}
use Rattle.std.proofs.Common.{false, Some, None, Ok, refl, sym, ap, ◌∙◌}
use Rattle.std.specs.Prelude.{nat_lt, ◌-◌, ◌&&◌}
use Rattle.std.specs.List.{position_from}
use Rattle.std.proofs.lemmas.Bool.{and_parts}
use Rattle.std.proofs.lemmas.List.{append_assoc, append-nil}
use Rattle.sqlite_ast.specs.declared.Expr.{Expr, out-Expr}
use Rattle.sqlite_ast.specs.declared.Expr.TheOpen.{Expr-F, Shown-F}
use Rattle.sqlite_ast.specs.declared.Shown.{Shown as Item, out-Shown}
use Rattle.sqlite_ast.specs.declared.Sort.{Sort, out-Sort}
use Rattle.sqlite.specs.Term.{Term, col}
use Rattle.sqlite.specs.Schema.{Schema}
use Rattle.sqlite.specs.Table.{Table}
use Rattle.sqlite_value.specs.declared.keys.Key.{Key}
use Rattle.sqlite_schema.specs.declared.schema.Column.{Column}
use Rattle.sqlite_schema.specs.Names.{column_named, same_name, place_of}
use Rattle.sqlite_resolve.specs.Lowering.{alone}
use Rattle.sqlite_resolve.specs.declared.state.Carried.{Carried}
use Rattle.sqlite_resolve.specs.declared.scope.Output.{Output}
use Rattle.sqlite_resolve.specs.Expr.{lower}
use Rattle.sqlite_resolve.specs.Body.{outputs, outputs_from, shown, heading, is_column, declared as declared_name}
use Rattle.sqlite_resolve.specs.Order.{sorts, sorts_from, sort, key, alias_in, peeled, is_numeral, collation_of}
use Rattle.sqlite_resolve.specs.Order.{written_on, placed}
use Rattle.sqlite_resolve.specs.Scope.{Name, Context, alias_of, declared}
use Rattle.store_sql.specs.Known.{HasTable}
use Rattle.store_sql.proofs.Resolve.{bound_to}
use Rattle.store_sql.proofs.Where.{spent, find_in, column_in_scope}

-- ---- as they are written

-- the expression is the column of this number
abbrev pub IsColumn : Table → Expr → ℕ → Type 0
IsColumn t e k = (name : Name) × (c : Column) × (out-Expr e ≡ Expr-F.Column None name)
    × (column_named t name ≡ Some k) × (slice_get t.columns k ≡ Some c)

-- the items of the result are the columns of these numbers, under their own names
abbrev pub AreColumns : Table → List Item → List ℕ → Type 0
AreColumns t [] [] = Unit {0}
AreColumns t [] (k ∷ ks) = ⊥
AreColumns t (i ∷ is) [] = ⊥
AreColumns t (i ∷ is) (k ∷ ks) = ((e : Expr) × (text : Name) × (out-Shown i ≡ Shown-F.One e None text)
    × IsColumn t e k) × AreColumns t is ks

-- a term of ORDER BY is a column, with no COLLATE and no NULLS FIRST
abbrev pub IsOrder : Table → Sort → Term × Key → Type 0
IsOrder t s by =
    (k : ℕ) × (column : IsColumn t (out-Sort s).key k) × ((out-Sort s).nulls_first ≡ None)
    × (by ≡ (
      col 1 (place_of t k),
      record {
        collation = alone (declared t k column.1);
        descending = (out-Sort s).descending;
      },
    ))

abbrev pub AreOrders : Table → List Sort → List (Term × Key) → Type 0
AreOrders t [] [] = Unit {0}
AreOrders t [] (b ∷ bs) = ⊥
AreOrders t (s ∷ ss) [] = ⊥
AreOrders t (s ∷ ss) (b ∷ bs) = IsOrder t s b × AreOrders t ss bs

-- one step of the budget is for each
abbrev pub left_by : {A : Type 0} → List A → ℕ → ℕ
left_by [] b = b
left_by (x ∷ xs) b = left_by xs (b - 1)

abbrev pub are_covered : {A : Type 0} → List A → ℕ → Bool
are_covered [] b = true
are_covered (x ∷ xs) b = nat_lt 1 b && are_covered xs (b - 1)

-- ---- what they come to

abbrev pub named_terms : Table → List ℕ → List Term
named_terms t ks = map (λ k. col 1 (place_of t k)) ks

abbrev output_in : Table → ℕ → Column → Output
output_in t k c = record {
  name = c.name;
  is_alias = false;
  is_column = true;
  term = col 1 (place_of t k);
  carried = declared t k c;
}

abbrev pub outputs_named : (t : Table) (is : List Item) (ks : List ℕ) → AreColumns t is ks → List Output
outputs_named t [] [] it = []
outputs_named t [] (k ∷ ks) it = absurd it
outputs_named t (i ∷ is) [] it = absurd it
outputs_named t (i ∷ is) (k ∷ ks) it = output_in t k it.0.3.1 ∷ outputs_named t is ks it.1

pub terms_named : (t : Table) (is : List Item) (ks : List ℕ) (it : AreColumns t is ks)
    → map (λ o. o.term) (outputs_named t is ks it) ≡ named_terms t ks
terms_named t [] [] it = refl
terms_named t [] (k ∷ ks) it = absurd it
terms_named t (i ∷ is) [] it = absurd it
terms_named t (i ∷ is) (k ∷ ks) it = ap (λ more. col 1 (place_of t k) ∷ more) (terms_named t is ks it.1)

-- no other clause can mean them by an alias
no_alias_from : (name : Name) (t : Table) (is : List Item) (ks : List ℕ) (it : AreColumns t is ks) (from : ℕ)
    → position_from (λ o. o.is_alias && same_name o.name name) from (outputs_named t is ks it) ≡ None
no_alias_from name t [] [] it from = refl
no_alias_from name t [] (k ∷ ks) it from = absurd it
no_alias_from name t (i ∷ is) [] it from = absurd it
no_alias_from name t (i ∷ is) (k ∷ ks) it from = no_alias_from name t is ks it.1 (from + 1)

pub none_aliased : (t : Table) (is : List Item) (ks : List ℕ) (it : AreColumns t is ks) (name : Name)
    → alias_of name (outputs_named t is ks it) ≡ None
none_aliased t is ks it name = no_alias_from name t is ks it 0

module _ (schema : Schema) (at : ℕ) (t : Table) (h : HasTable schema at t) (around : List Output)
    (may_aggregate may_alias : Bool) where
  abbrev scope : Context
  scope = record {
    schema = schema;
    levels = record { tables = bound_to t at ∷ []; shown = around }
        ∷ [];
    may_aggregate = may_aggregate;
    may_alias = may_alias;
  }

  column_in : (i : Item) (e : Expr) (text : Name) (k : ℕ) → out-Shown i ≡ Shown-F.One e None text
      → (it : IsColumn t e k) → (done : List Output) (b : ℕ) (last : Carried) → nat_lt 1 b ≡ true
      → shown lower scope (bound_to t at ∷ []) done i (spent b last)
      ≡ Ok (done ++ output_in t k it.1 ∷ [], spent (b - 1) (declared t k it.1))
  unfolding shown heading is_column declared_name
  column_in i e text k is it done b last enough = rw (
    is,
    column_in_scope schema at t h around may_aggregate may_alias
        e it.0 k it.1 b last it.2 it.3 it.4 enough,
    it.2,
    find_in schema at t h around may_aggregate may_alias it.0 k
        it.3,
    h.there,
    it.4,
  ) refl

  columns_from : (is : List Item) (ks : List ℕ) (it : AreColumns t is ks) (done : List Output) (b : ℕ)
      (last : Carried) → are_covered ks b ≡ true
      → (after : Carried) × (outputs_from lower scope (bound_to t at ∷ []) done is (spent b last)
      ≡ Ok (done ++ outputs_named t is ks it, spent (left_by ks b) after))
  columns_from [] [] it done b last enough = (last, ap (λ l. Ok (l, spent b last)) (sym (append-nil done)))
  columns_from [] (k ∷ ks) it done b last enough = absurd it
  columns_from (i ∷ is) [] it done b last enough = absurd it
  columns_from (i ∷ is) (k ∷ ks) it done b last enough =
      let two = and_parts (nat_lt 1 b) _ enough in
      let first = column_in i it.0.0 it.0.1 k it.0.2 it.0.3 done b last two.0 in
      let more = columns_from is ks it.1 (done ++ output_in t k it.0.3.1 ∷ []) (b - 1) (declared t k it.0.3.1)
      two.1 in (
        more.0,
        rw first (more.1 ∙ ap (λ l. Ok (l, spent (left_by ks (b - 1)) more.0))
            (append_assoc done (output_in t k it.0.3.1 ∷ []) (outputs_named t is ks it.1))),
      )

  -- the columns of the result
  pub columns_in : (is : List Item) (ks : List ℕ) (it : AreColumns t is ks) (b : ℕ) (last : Carried)
      → are_covered ks b ≡ true
      → (after : Carried) × (outputs lower scope (bound_to t at ∷ []) is (spent b last)
      ≡ Ok (outputs_named t is ks it, spent (left_by ks b) after))
  unfolding outputs
  columns_in is ks it b last enough = columns_from is ks it [] b last enough

  module _ (plain : (name : Name) → alias_of name around ≡ None) where
    order_in : (s : Sort) (by : Term × Key) (it : IsOrder t s by) (done : List (Term × Key)) (b : ℕ)
        (last : Carried) → nat_lt 1 b ≡ true
        → sort lower scope around done s (spent b last) ≡ Ok
        (done ++ by ∷ [], spent (b - 1) (declared t it.0 it.1.1))
    unfolding sort key alias_in peeled is_numeral collation_of written_on placed
    order_in s by it done b last enough =
        rw (
          it.1.2,
          it.1.2,
          plain it.1.0,
          column_in_scope schema at t h around may_aggregate may_alias
              (out-Sort s).key it.1.0 it.0 it.1.1 b last it.1.2 it.1.3 it.1.4 enough,
          it.1.2,
          it.2,
          it.3,
        ) refl

    orders_from : (ss : List Sort) (bs : List (Term × Key)) (it : AreOrders t ss bs) (done : List (Term × Key))
        (b : ℕ) (last : Carried) → are_covered bs b ≡ true
        → (after : Carried) × (sorts_from lower scope around done ss (spent b last)
        ≡ Ok (done ++ bs, spent (left_by bs b) after))
    orders_from [] [] it done b last enough = (last, ap (λ l. Ok (l, spent b last)) (sym (append-nil done)))
    orders_from [] (x ∷ bs) it done b last enough = absurd it
    orders_from (s ∷ ss) [] it done b last enough = absurd it
    orders_from (s ∷ ss) (x ∷ bs) it done b last enough =
        let two = and_parts (nat_lt 1 b) _ enough in
        let first = order_in s x it.0 done b last two.0 in
        let more = orders_from ss bs it.1 (done ++ x ∷ []) (b - 1) (declared t it.0.0 it.0.1.1) two.1 in (
          more.0,
          rw first (more.1 ∙ ap (λ l. Ok (l, spent (left_by bs (b - 1)) more.0))
              (append_assoc done (x ∷ []) bs)),
        )

    -- the terms of ORDER BY
    pub orders_in : (ss : List Sort) (bs : List (Term × Key)) (it : AreOrders t ss bs) (b : ℕ) (last : Carried)
        → are_covered bs b ≡ true
        → (after : Carried) × (sorts lower scope around ss (spent b last) ≡ Ok (bs, spent (left_by bs b) after))
    unfolding sorts
    orders_in ss bs it b last enough = orders_from ss bs it [] b last enough
