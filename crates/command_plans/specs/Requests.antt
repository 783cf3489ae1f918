-- Requests that ask for commands, one each, and where their identities come from. Profile.
use Rattle.std.specs.Prelude.{◌≡◌, ◌∷◌, [], ℕ, List, Option, Some, map}
use Rattle.std.specs.List.{AllByRecursion}
use Rattle.sheet_types.specs.declared.command.Command.{Command}
use Rattle.sheet_types.specs.declared.command.Request.{Request}

abbrev pub command_of : Request → Command
command_of q = q.command

-- these commands are asked for in this order, all at this moment
pub record AreRequestsFor (at : List ℕ) (commands : List Command) (requests : List Request) : Type 0 where
  pub order : map command_of requests ≡ commands
  pub moment : AllByRecursion (λ (q : Request). q.at ≡ at) requests

abbrev pub id_of : Request → List ℕ
id_of q = q.id

module _ {N : Type 0} (Gives : Option (List ℕ) → N → N → Type 0) where
  -- Each of these identities was given by a call of its own, in this order. No other call was made between the two
  -- states.
  abbrev pub GivesEach : List (List ℕ) → N → N → Type 0
  GivesEach [] old new = new ≡ old
  GivesEach (id ∷ ids) old new = (mid : N) × Gives (Some id) old mid × GivesEach ids mid new
