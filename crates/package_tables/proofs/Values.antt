-- When two stored values are the same, as SQLite compares them.
use Rattle.std.proofs.Common.{◌≡◌, ℤ, List, ℕ, Bool, refl, ap, ◌∙◌, arith}
use Rattle.std.specs.Prelude.{◌&&◌, bytes_eq, int_le, int_lt}
use Rattle.std.specs.Ordering.{is_eq, is_gt, int_eq, int_cmp}
use Rattle.std.proofs.lemmas.Int.{ints}
use Rattle.std.proofs.lemmas.Map.Text.{is_eq-slice_cmp}
use Rattle.sqlite_value.proofs.OrderLemmas.{value_cmp-Int, value_cmp-Text}
use Rattle.sqlite.specs.declared.types.Value.TheVariants.{Int, Text}
use Rattle.sqlite.specs.Ops.{test}
use Rattle.sqlite_sql.specs.declared.ops.CompareOp.{CompareOp}
use Rattle.sqlite_sql.specs.declared.ops.CompareOp.TheVariants.{Ge, Le, Gt, Lt}
use Rattle.store_sql.specs.Reading.{is_same, stands}

pub same_number : (a b : ℤ) → is_same (Int a) (Int b) ≡ int_eq a b
same_number a b = ap is_eq (value_cmp-Int a b) ∙ refl

pub same_text : (s t : List ℕ) → is_same (Text s) (Text t) ≡ bytes_eq s t
same_text s t = ap is_eq (value_cmp-Text s t) ∙ is_eq-slice_cmp s t

-- A column stands to a parameter as their numbers do.
stands_so : (op : CompareOp) (a b : ℤ) → stands op (Int a) (Int b) ≡ test op (int_cmp a b)
stands_so op a b = ap (test op) (value_cmp-Int a b)

pub above_number : (a b : ℤ) → stands Gt (Int a) (Int b) ≡ is_gt (int_cmp a b)
above_number = stands_so Gt

pub at_least : (a b : ℤ) → stands Ge (Int a) (Int b) ≡ int_le b a
at_least a b = stands_so Ge a b ∙ grind (arith, ints)

pub at_most : (a b : ℤ) → stands Le (Int a) (Int b) ≡ int_le a b
at_most a b = stands_so Le a b ∙ grind (arith, ints)

pub above : (a b : ℤ) → stands Gt (Int a) (Int b) ≡ int_lt b a
above a b = stands_so Gt a b ∙ grind (arith, ints)

pub below : (a b : ℤ) → stands Lt (Int a) (Int b) ≡ int_lt a b
below a b = stands_so Lt a b ∙ grind (arith, ints)

pub both_same : {a b c d : Bool} → a ≡ b → c ≡ d → (a && c) ≡ (b && d)
both_same e f = cc (e, f)
