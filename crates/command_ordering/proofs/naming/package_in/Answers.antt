use Rattle.command_ordering.proofs.naming.package_in.Goals as goal

pub returns : goal.returns
returns g c = record {
  search = c.found_package-search.result;
  told = c.found_package-search.ensures;
  tells = c.tell_name.ensures;
}
