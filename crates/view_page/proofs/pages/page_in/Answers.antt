-- What is asked is of the register.
use Rattle.std.specs.Prelude.{string_bytes}
use Rattle.view_page.proofs.Through.{tells_page}
use Rattle.view_page.proofs.pages.page_in.Goals as goal

pub returns-clause-told : goal.returns-clause-told
returns-clause-told g c =
    tells_page g.S.Store (λ t. string_bytes t) c.args.names.items c.args.paper
    c.args.world.now c.register_in-register.new.world c.register_in-register.result c.text_of.result
    c.text_of.ensures c.register_in-register.ensures.told

pub returns-clause-read : goal.returns-clause-read
returns-clause-read g c = c.register_in-register.ensures.read
