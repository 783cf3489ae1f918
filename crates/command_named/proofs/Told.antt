-- What was searched is what a world's receipts tell.
use Rattle.std.proofs.Common.{◌≡◌, ℕ, List, Result, Ok, Err, subst}
use Rattle.std.specs.Prelude.{IfOk, IsOkAnd}
use Rattle.sqlite.specs.Held.{Held}
use Rattle.sqlite.specs.Store.{Ghosts}
use Rattle.command_tidying.specs.declared.register.Register.{Register}
use Rattle.commands.specs.Registers.{IsRegisterOf}
use Rattle.package_tables.specs.declared.fault.Fault.{Fault}
use Rattle.sheet_types.specs.World.{World, receipts_of}
use Rattle.view_json.specs.declared.forms.Form.{Form}
use Rattle.view_searches.specs.Ways.{IsNamedWay}
use Rattle.view_searches.specs.declared.ways.NamedWay.{NamedWay}
use Rattle.view_world.specs.Looks.{LooksInto}
use Rattle.world.specs.Worlds.{Seen, TellsOf}

module _ {S : Type 0} (g : Ghosts S) where
  pub looks_named : (form : Form) (word : List ℕ) (seen : Seen S) (stores : List (Held S))
      (register : Result Register Fault) (way : Result NamedWay Fault)
      → IfOk way (λ it. IsOkAnd register (λ told. IsNamedWay form told.receipts.items word it))
      → LooksInto g IsRegisterOf seen stores register
      → LooksInto g (λ w it. IsNamedWay form (receipts_of w) word it) seen stores way
  looks_named form word seen stores (Ok told) (Ok way) it looked = record {
    read = looked.read;
    told = λ clean w stands. subst (λ receipts. IsNamedWay form receipts word way)
        (looked.told clean w stands).receipts it;
  }
  looks_named form word seen stores (Err fault) (Ok way) it looked = absurd it
  looks_named form word seen stores register (Err fault) it looked = record { read = looked.read; told = λ clean. tt }

  -- the same of a world that stays
  pub tells_named : (form : Form) (word : List ℕ) (old new : Seen S)
      (register : Result Register Fault) (way : Result NamedWay Fault)
      → IfOk way (λ it. IsOkAnd register (λ told. IsNamedWay form told.receipts.items word it))
      → TellsOf g IsRegisterOf old new register
      → TellsOf g (λ w it. IsNamedWay form (receipts_of w) word it) old new way
  tells_named form word old new (Ok told) (Ok way) it tells = λ clean w stands.
      subst (λ receipts. IsNamedWay form receipts word way) (tells clean w stands).receipts it
  tells_named form word old new (Err fault) (Ok way) it tells = absurd it
  tells_named form word old new register (Err fault) it tells = λ clean. tt
