-- The names are those of the bytes.
use Rattle.std.proofs.Common.{◌∙◌, ap, sym, List, ℕ, Bor}
use Rattle.std.specs.List.{list_any}
use Rattle.store_folder.specs.Names.{is_package_file}
use Rattle.store_folder.proofs.NameFacts.{list_any-map}
use Rattle.store_folder.proofs.listing.listing_of.Goals as goal

pub returns-clause-any : goal.returns-clause-any
returns-clause-any c =
    c.holds_packages.ensures
    ∙ ap (list_any (λ (name : Bor (List ℕ)). is_package_file name.now)) c.as_slice-2.ensures.value
    ∙ sym (list_any-map is_package_file (λ (name : Bor (List ℕ)). name.now) c.in_ok-names.names.items)
    ∙ ap (list_any is_package_file) c.in_ok-names.ensures
