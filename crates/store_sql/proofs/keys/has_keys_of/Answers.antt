use Rattle.store_sql.proofs.Both.{five}
use Rattle.store_sql.proofs.keys.has_keys_of.Goals as goal

pub returns : goal.returns
returns c =
    let all = five _ _ _ _ _
    (rw c.as_slice.ensures at c.is_same_key-primary.ensures)
    (rw c.as_slice-2.ensures at c.are_same_keys-uniques.ensures)
    (rw c.as_slice-3.ensures at c.are_plain-orders.ensures)
    (rw c.as_slice-4.ensures at c.are_references_of-meant.ensures)
    (rw c.as_slice-5.ensures at c.have_references-written.ensures) in (
      λ yes. let h = all.0 yes in record { primary = h.0; uniques = h.1; orders = h.2; meant = h.3; written = h.4 },
      λ is. all.1 (is.primary, is.uniques, is.orders, is.meant, is.written),
    )
