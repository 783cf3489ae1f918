-- A value of its column's kind is stored as it is.
use Rattle.std.proofs.Common.{◌≡◌, ℤ, List, [], ◌∷◌, Bool, true, false, cond, refl}
use Rattle.std.proofs.lemmas.Bool.{and_parts}
use Rattle.sqlite.specs.declared.types.Value.{Value}
use Rattle.sqlite.specs.declared.types.Value.TheVariants as value
use Rattle.sqlite.specs.Order.{Row}
use Rattle.sqlite.specs.Ops.{unary}
use Rattle.sqlite.specs.Table.{Table}
use Rattle.sqlite_schema.specs.declared.schema.Kind.{Kind}
use Rattle.sqlite.specs.Kind.TheVariants.{Integer, Text, Blob}
use Rattle.sqlite_schema.specs.declared.schema.Column.{Column}
use Rattle.sqlite.specs.Cast.{cast, cast_all, cast_row}
use Rattle.store_sql.specs.Kinds.{is_of_kind, are_of_kinds, has_kinds}

either : (b : Bool) (x : Value) → cond b x x ≡ x
either true x = refl
either false x = refl

cast_null : cast Integer value.Null ≡ value.Null
unfolding unary
cast_null = either _ value.Null

cast_int : (n : ℤ) → cast Integer (value.Int n) ≡ value.Int n
unfolding unary
cast_int n = either _ (value.Int n)

cast_kept : (k : Kind) (v : Value) → is_of_kind k v ≡ true → cast k v ≡ v
cast_kept Integer value.Null h = cast_null
cast_kept Integer (value.Int n) h = cast_int n
cast_kept Integer (value.Real x) h = absurd cc
cast_kept Integer (value.Text t) h = absurd cc
cast_kept Integer (value.Blob b) h = absurd cc
cast_kept Text value.Null h = refl
cast_kept Text (value.Text t) h = refl
cast_kept Text (value.Int n) h = absurd cc
cast_kept Text (value.Real x) h = absurd cc
cast_kept Text (value.Blob b) h = absurd cc
cast_kept Blob v h = refl
cast_kept _ v h = absurd cc

cast_all_kept : (cs : List Column) (vs : Row) → are_of_kinds cs vs ≡ true → cast_all cs vs ≡ vs
cast_all_kept [] vs h = refl
cast_all_kept (c ∷ cs) [] h = refl
cast_all_kept (c ∷ cs) (v ∷ vs) h = let k = and_parts (is_of_kind c.kind v) (are_of_kinds cs vs) h in rw
    (cast_kept c.kind v k.0, cast_all_kept cs vs k.1) refl

pub cast_row_kept : (t : Table) (row : Row) → has_kinds t row ≡ true → cast_row t row ≡ row
cast_row_kept t [] h = absurd cc
cast_row_kept t (v ∷ vs) h = let k = and_parts (is_of_kind Integer v) (are_of_kinds t.columns vs) h in rw
    (cast_kept Integer v k.0, cast_all_kept t.columns vs k.1) refl
