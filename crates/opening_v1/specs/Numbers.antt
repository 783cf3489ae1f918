-- The numbers under which rows stand: none of a package is below zero. Profile.
use Rattle.std.specs.Prelude.{ℤ, pos, Bool, ◌&&◌, int_le}
use Rattle.std.specs.List.{list_all}
use Rattle.package_copy.specs.declared.package_rows.PackageRows.{PackageRows}

abbrev pub is_number : ℤ → Bool
is_number n = int_le (pos 0) n

abbrev pub have_item_numbers : PackageRows → Bool
have_item_numbers x =
    list_all (λ r. is_number r.id) x.tiles.items && list_all (λ r. is_number r.id) x.media.items && list_all
    (λ r. is_number r.id) x.rows.items
    && list_all (λ r. is_number r.kind && is_number r.local_id) x.identities.items

abbrev pub have_link_numbers : PackageRows → Bool
have_link_numbers x =
    list_all (λ r. is_number r.base_id && is_number r.related_id) x.tiles_media.items && list_all
    (λ r. is_number r.base_id && is_number r.related_id) x.rows_media.items

abbrev pub have_receipt_numbers : PackageRows → Bool
have_receipt_numbers x = list_all (λ r. is_number r.seq) x.receipts.items && list_all
    (λ r. is_number r.seq && is_number r.position) x.moved.items

-- no row stands under a number below zero
abbrev pub have_numbers : PackageRows → Bool
have_numbers x = have_item_numbers x && have_link_numbers x && have_receipt_numbers x
