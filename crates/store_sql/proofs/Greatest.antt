-- The first row of a descending order has the greatest key.
use Rattle.std.proofs.Common.{◌≡◌, ℕ, List, [], ◌∷◌, false, sym, ap, ◌∙◌}
use Rattle.std.specs.List.{AllByRecursion}
use Rattle.std.specs.Ordering.{is_gt}
use Rattle.sqlite_trees.proofs.ListLemmas.{all_weaker}
use Rattle.sqlite_value.specs.Order.{value_cmp}
use Rattle.sqlite_value.proofs.OrderLemmas.{then-Equal}
use Rattle.sqlite.specs.Order.{Row, column}
use Rattle.sqlite.specs.Query.{key_cmp}
use Rattle.store_sql.specs.Reading.{ComesFirst, descending}

-- `ORDER BY c DESC`: no other row has a greater value there
pub greatest_of : (place : ℕ) (rows : List Row) (r : Row) → ComesFirst (λ x. column x place ∷ [])
    (descending ∷ []) rows r → AllByRecursion (λ x. is_gt (value_cmp (column x place) (column r place))
    ≡ false) rows
greatest_of place rows r first =
    all_weaker (λ x. is_gt (key_cmp 0 (descending ∷ []) (column r place ∷ []) (column x place ∷ [])) ≡ false)
    (λ x. is_gt (value_cmp (column x place) (column r place)) ≡ false)
    (λ x h. ap is_gt (sym (then-Equal (value_cmp (column x place) (column r place)))) ∙ h) rows first.least
