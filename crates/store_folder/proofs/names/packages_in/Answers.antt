-- A sort changes the order alone, and then those that are alike stand side by side.
use Rattle.std.proofs.Common.{map, subst, sym}
use Rattle.std.specs.Cmp.Lexicographic.{texts_ties}
use Rattle.std.proofs.lemmas.Cmp.{nat_list_cmp_total}
use Rattle.std.proofs.lemmas.List.Filters.{dedup_is}
use Rattle.std.proofs.lemmas.List.Kept.{IsStrictlySortedBy-dedup}
use Rattle.store_folder.specs.Names.{ArePackagesIn}
use Rattle.store_folder.proofs.NameFacts.{files_once, files_permuted}
use Rattle.store_folder.proofs.names.packages_in.Goals as goal

pub returns : goal.returns
returns c =
    let names = map (λ name. name.now) c.args.names.now in
    let sorted = c.sort_unstable.new.self.items in
    subst (ArePackagesIn names) (sym (dedup_is _ sorted c.dedup.new.self.items c.dedup.ensures.filtered)) (record {
      files = files_once names sorted (files_permuted names c.in_ok-packages.packages.items sorted
          c.sort_unstable.ensures.permutation c.in_ok-packages.ensures);
      rising = IsStrictlySortedBy-dedup nat_list_cmp_total texts_ties sorted c.sort_unstable.ensures.sorted;
    })
