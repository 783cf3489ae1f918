-- What is printed, and how it ends, by equal names.
use Rattle.std.proofs.Common.{◌≡◌, ℕ, List, Option, subst}
use Rattle.command_folder.specs.Printing.{Prints}
use Rattle.command_folder.specs.declared.endings.Ending.{Ending}

pub printed_as : (text other : List ℕ) (due last : Ending) (before after : Option (List ℕ)) (ending : Ending)
    → text ≡ other → due ≡ last → Prints text due before after ending
    → Prints other last before after ending
printed_as text other due last before after ending same ends is =
    subst (λ t. Prints t last before after ending) same (subst (λ d. Prints text d before after ending) ends is)
