-- The first of the six ends that fits, or none of them.
use Rattle.std.proofs.Common.{refl}
use Rattle.store_folder.specs.Leftovers.{IsBeside, IsOnly}
use Rattle.store_folder.proofs.Beside.{either_so, found_beside, neither_so, none_of_six}
use Rattle.store_folder.proofs.leftovers.package_beside.Goals as goal

pub returns-clause-some : goal.returns-clause-some
returns-clause-some c =
    let name = c.args.name.now in
    let two = either_so (λ id. IsBeside id name) _ _ _ c.or.ensures
    (found_beside _ _ name _ c.as_slice.ensures refl c.package_before.ensures.some)
    (found_beside _ _ name _ c.as_slice-2.ensures refl c.package_before-2.ensures.some) in
    let three = either_so (λ id. IsBeside id name) _ _ _ c.or-2.ensures two
    (found_beside _ _ name _ c.as_slice-3.ensures refl c.package_before-3.ensures.some) in
    let four = either_so (λ id. IsBeside id name) _ _ _ c.or-3.ensures three
    (found_beside _ _ name _ c.as_slice-4.ensures refl c.package_before-4.ensures.some) in
    let five = either_so (λ id. IsBeside id name) _ _ _ c.or-4.ensures four
    (found_beside _ _ name _ c.as_slice-5.ensures refl c.package_before-5.ensures.some) in
    either_so (λ id. IsBeside id name) _ _ _ c.or-5.ensures five
    (found_beside _ _ name _ c.as_slice-6.ensures refl c.package_before-6.ensures.some)

pub returns-clause-only : goal.returns-clause-only
returns-clause-only c =
    let only = IsOnly c.args.name.now in
    let two = either_so only _ _ _ c.or.ensures c.package_before.ensures.only c.package_before-2.ensures.only in
    let three = either_so only _ _ _ c.or-2.ensures two c.package_before-3.ensures.only in
    let four = either_so only _ _ _ c.or-3.ensures three c.package_before-4.ensures.only in
    let five = either_so only _ _ _ c.or-4.ensures four c.package_before-5.ensures.only in
    either_so only _ _ _ c.or-5.ensures five c.package_before-6.ensures.only

pub returns-clause-none : goal.returns-clause-none
returns-clause-none c =
    let name = c.args.name.now in
    let two = neither_so _ _ _ _ _ c.or.ensures c.package_before.ensures.none c.package_before-2.ensures.none in
    let three = neither_so _ _ _ _ _ c.or-2.ensures two c.package_before-3.ensures.none in
    let four = neither_so _ _ _ _ _ c.or-3.ensures three c.package_before-4.ensures.none in
    let five = neither_so _ _ _ _ _ c.or-4.ensures four c.package_before-5.ensures.none in
    let six = neither_so _ _ _ _ _ c.or-5.ensures five c.package_before-6.ensures.none in
    none_of_six name _ _ _ _ _ _ c.or-5.result c.as_slice.ensures c.as_slice-2.ensures c.as_slice-3.ensures
    c.as_slice-4.ensures c.as_slice-5.ensures c.as_slice-6.ensures six
