-- Laws of lists of requests that change one package. Profile.
use Rattle.std.specs.Prelude.{◌≡◌, true, ℕ, List, length}
use Rattle.sheet_types.specs.Register.{IsRegister}
use Rattle.sheet_types.specs.Step.{Run}
use Rattle.sheet_types.specs.World.{World, is_live, holdings}
use Rattle.sheet_types.specs.declared.command.Request.{Request}
use Rattle.field_run_laws.specs.Lists.{Reply, AreWithin, AreNew, AreGiven, HoldsNow, items_through, links_through}

-- new requests in one package of a register, each of which got a receipt: each did what it asks for, in turn, and
-- nothing else changed
abbrev pub RunWithinOnePackage : Type 0
RunWithinOnePackage = (w : World) (p : List ℕ) (qs : List Request) (replies : List Reply) (next : World) →
    IsRegister w → is_live w p ≡ true → AreWithin p qs → AreNew w qs → Run w qs replies next
    → AreGiven replies →
    HoldsNow w next p (items_through qs (holdings w p).items) (links_through qs (holdings w p).links) (length qs)
    × IsRegister next

-- without want of memory or a fault of the store, one list has one end
abbrev pub GivenRunsAgree : Type 0
GivenRunsAgree = (w : World) (qs : List Request)
    (one : List Reply) (first : World) (other : List Reply) (second : World) →
    Run w qs one first → AreGiven one → Run w qs other second → AreGiven other → first ≡ second
