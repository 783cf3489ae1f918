-- They stand beside no package, by the names that were listed.
use Rattle.std.specs.Prelude.{string_bytes}
use Rattle.std.proofs.lemmas.List.Elements.{All-same, All-weaker}
use Rattle.store_folder.specs.Leftovers.{IsLeftoverIn}
use Rattle.store_folder.specs.Names.{names_in}
use Rattle.command_tidying.specs.Tidying.{IsLeftoverFile}
use Rattle.command_tidying.proofs.tidying.take_leftovers.Goals as goal

pub take_leftover_each-requires : goal.take_leftover_each-requires
take_leftover_each-requires g c =
    All-same (λ t. IsLeftoverFile g.Y.Yard.listed g.Y.Yard.shown g.Y.Yard.removes (string_bytes t))
    c.deref-2.result.now c.in_ok-found.found.items c.deref-2.ensures.value
    (All-weaker (λ t. IsLeftoverIn (names_in c.in_ok-bytes.bytes.items) (string_bytes t))
    (λ t. IsLeftoverFile g.Y.Yard.listed g.Y.Yard.shown g.Y.Yard.removes (string_bytes t))
    (λ t left. (c.in_ok-bytes.bytes.items, c.in_ok-bytes.ensures, left)) c.in_ok-found.found.items
    (rw c.deref.ensures.value at c.in_ok-found.ensures.left))
