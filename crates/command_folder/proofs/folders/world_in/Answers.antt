-- Those that are left out are counted with those of the stores that are not of the world.
use Rattle.std.proofs.Common.{◌∙◌, ap, sym, length, rules}
use Rattle.command_folder.proofs.folders.world_in.Goals as goal

pub returns-in-Some : goal.returns-in-Some
returns-in-Some c =
    let chosen = c.in_ok-chosen in
    let at = c.in_ok-world.ensures in
    record {
      packages = c.args.packages.items;
      chosen = chosen.chosen;
      chosen_is = chosen.ensures;
      stores = at.0;
      each = at.2 ∙ ap length c.deref.ensures.value;
      opened = at.1;
      beside = c.in_ok-world.beside;
      is = at.3;
      all = search rules;
    }
