-- What the subcommands that look print of a world, and how they end. Profile.
use Rattle.std.specs.Prelude.{◌≡◌, ℕ, List, Option, Result}
use Rattle.sqlite.specs.Held.{Held}
use Rattle.sqlite.specs.Store.{Ghosts}
use Rattle.package_tables.specs.declared.fault.Fault.{Fault}
use Rattle.world.specs.Worlds.{IsRead, Seen, TellsOf}
use Rattle.view_world.specs.Looks.{IsLookedAt, LeavesOpen, LooksInto}
use Rattle.view_json.specs.declared.forms.Form.{Form}
use Rattle.view_text.specs.declared.ledgers.Excerpt.{Excerpt}
use Rattle.view_world.specs.Told.{log_text, receipt_line, status_text, way_answer}
use Rattle.views.specs.Showing.{Shows, ShowsText}
use Rattle.views.specs.declared.endings.Ending.{Ending}
use Rattle.views.specs.declared.endings.Ending.TheVariants.{NoSuchRequest, NoSuchIdentity}

module _ {S : Type 0} (g : Ghosts S) where
  -- The packages were printed in this form, and so many stores beside them; the stores of the world were only read.
  pub record ShowsStatus {W : Type 0} (form : Form) (strays : ℕ) (seen : Seen S) (stores : List (Held S))
      (writer writer' : W) (before after : Option (List ℕ)) (ending : Ending) : Type 0 where
    pub found : Result (List ℕ) Fault
    pub looked : LooksInto g (λ w text. text ≡ status_text form w strays) seen stores found
    pub shown : ShowsText found writer writer' before after ending

  -- The receipts that are asked for were printed; the stores were only read.
  pub record ShowsLog {W : Type 0} (form : Form) (excerpt : Excerpt) (seen : Seen S) (stores : List (Held S))
      (writer writer' : W) (before after : Option (List ℕ)) (ending : Ending) : Type 0 where
    pub found : Result (List ℕ) Fault
    pub looked : LooksInto g (λ w text. text ≡ log_text form w excerpt) seen stores found
    pub shown : ShowsText found writer writer' before after ending

  -- The way of an item was printed; the stores were only read.
  pub record ShowsWay {W : Type 0} (form : Form) (id : List ℕ) (seen : Seen S) (stores : List (Held S))
      (writer writer' : W) (before after : Option (List ℕ)) (ending : Ending) : Type 0 where
    pub found : Result (Option (List ℕ)) Fault
    pub looked : LooksInto g (λ w text. text ≡ way_answer form w id) seen stores found
    pub shown : Shows found NoSuchIdentity writer writer' before after ending

  -- The receipt of a request was printed; the world was only read.
  pub record ShowsReceipt {W : Type 0} (id : List ℕ) (old new : Seen S) (writer writer' : W)
      (before after : Option (List ℕ)) (ending : Ending) : Type 0 where
    pub found : Result (Option (List ℕ)) Fault
    pub told : TellsOf g (λ w text. text ≡ receipt_line w id) old new found
    pub read : IsRead g old new
    pub opens : LeavesOpen g old new found
    pub shown : Shows found NoSuchRequest writer writer' before after ending

  -- The same of a world that stays: the packages,
  pub record TellsStatus {W : Type 0} (form : Form) (strays : ℕ) (old new : Seen S) (writer writer' : W)
      (before after : Option (List ℕ)) (ending : Ending) : Type 0 where
    pub found : Result (List ℕ) Fault
    pub told : TellsOf g (λ w text. text ≡ status_text form w strays) old new found
    pub read : IsLookedAt g old new
    pub opens : LeavesOpen g old new found
    pub shown : ShowsText found writer writer' before after ending

  -- the receipts that are asked for,
  pub record TellsLog {W : Type 0} (form : Form) (excerpt : Excerpt) (old new : Seen S) (writer writer' : W)
      (before after : Option (List ℕ)) (ending : Ending) : Type 0 where
    pub found : Result (List ℕ) Fault
    pub told : TellsOf g (λ w text. text ≡ log_text form w excerpt) old new found
    pub read : IsLookedAt g old new
    pub opens : LeavesOpen g old new found
    pub shown : ShowsText found writer writer' before after ending

  -- and the way of an item.
  pub record TellsWay {W : Type 0} (form : Form) (id : List ℕ) (old new : Seen S) (writer writer' : W)
      (before after : Option (List ℕ)) (ending : Ending) : Type 0 where
    pub found : Result (Option (List ℕ)) Fault
    pub told : TellsOf g (λ w text. text ≡ way_answer form w id) old new found
    pub read : IsLookedAt g old new
    pub opens : LeavesOpen g old new found
    pub shown : Shows found NoSuchIdentity writer writer' before after ending
