-- What is asked of a file before its requests are made is enough. Profile.
use Rattle.std.specs.Prelude.{◌≡◌, ◌≤◌, ◌+◌, ℕ, Bool, true, false, List, [], length}
use Rattle.std.specs.List.{list_any, AllByRecursion}
use Rattle.sheet_types.specs.Custody.{is_used}
use Rattle.sheet_types.specs.Cut.{identities}
use Rattle.sheet_types.specs.Refuse.{is_overfull, too_many, greatest_receipts}
use Rattle.sheet_types.specs.Register.{IsRegister}
use Rattle.sheet_types.specs.Step.{Run}
use Rattle.sheet_types.specs.Texts.{is_moment}
use Rattle.sheet_types.specs.World.{World, is_live, holdings, receipts_of}
use Rattle.sheet_types.specs.declared.command.Request.{Request}
use Rattle.field_changes.specs.declared.asking.Parts.{Parts}
use Rattle.field_changes.specs.declared.held.Held.{Held}
use Rattle.field_faults.specs.Lines.{fault_lines}
use Rattle.field_run_laws.specs.Lists.{Reply, has_twice, AreNew, AreGiven, HoldsNow}
use Rattle.field_laws.specs.Changing.{Changes, names_in, IsSound}
use Rattle.field_laws.specs.Checks.{CanTake}
use Rattle.field_laws.specs.Making.{after_parts, items_home, links_home}

-- What no record of a file tells: new identities and requests are new, and the limits are kept, before and after.
pub record IsFree (w : World) (p : List ℕ) (parts : Parts) (requests : List Request) : Type 0 where
  pub unused : list_any (λ i. is_used w i.identity) parts.adds.items ≡ false
  pub identities_apart : has_twice (identities parts.adds.items) ≡ false
  pub requests_new : AreNew w requests
  pub within_limits : too_many w ≡ false
  pub ledger_within : length (receipts_of w) + length requests ≤ greatest_receipts
  pub package_within : is_overfull (after_parts parts (holdings w p)) ≡ false

-- the requests for what a file holds
abbrev pub ChangesOf : World → List ℕ → ℕ → List ℕ → Bool → Held → List Request → Type 0
ChangesOf w p ticket moment more h requests = Changes w p ticket moment more h.items.items h.links.items requests

-- A package can take a file of which no record is told.
abbrev pub FitFileIsTaken : Type 0
FitFileIsTaken = (w : World) (p : List ℕ) (ticket : ℕ) (moment : List ℕ) (more : Bool) (h : Held)
    (requests : List Request) →
    IsRegister w → is_live w p ≡ true → is_moment moment ≡ true →
    fault_lines w.frame (holdings w p).items more h ≡ [] →
    (changes : ChangesOf w p ticket moment more h requests) →
    IsFree w p changes.parts requests →
    CanTake w p moment more h.items.items changes.parts requests

-- the package holds what the file has, with `more` besides what it had, and nothing else changed
abbrev pub HoldsFile : (w next : World) (p : List ℕ) (ticket : ℕ) (moment : List ℕ) (more : Bool) (h : Held)
    (requests : List Request) → ChangesOf w p ticket moment more h requests → Type 0
HoldsFile w next p ticket moment more h requests changes =
    HoldsNow w next p (items_home more (names_in w p ticket h.items.items) h.items.items (holdings w p).items)
    (links_home more (holdings w p).links changes.for_file.file_links) (length requests)

-- So it comes home, where neither memory nor the store fails.
abbrev pub FitFileComesHome : Type 0
FitFileComesHome = (w : World) (p : List ℕ) (ticket : ℕ) (moment : List ℕ) (more : Bool) (h : Held)
    (requests : List Request) (replies : List Reply) (next : World) →
    IsRegister w → is_live w p ≡ true → is_moment moment ≡ true →
    fault_lines w.frame (holdings w p).items more h ≡ [] →
    (changes : ChangesOf w p ticket moment more h requests) →
    IsFree w p changes.parts requests →
    Run w requests replies next → AllByRecursion IsSound replies →
    AreGiven replies × HoldsFile w next p ticket moment more h requests changes
