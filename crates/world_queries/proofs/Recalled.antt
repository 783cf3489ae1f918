-- What one package keeps or names is kept or named by the world, and a loan that it made was made.
use Rattle.std.proofs.Common.{◌≡◌, sym, ◌∙◌, ℕ, Bool, true, List, Option, Some, None, IsTrue, slice_get}
use Rattle.std.specs.Option.{IfSome}
use Rattle.sqlite_trees.proofs.ListLemmas.{all-slice_get}
use Rattle.sheet_types.specs.Custody.{kept, is_used}
use Rattle.sheet_types.specs.Register.{IsRegister}
use Rattle.sheet_types.specs.World.{World, Package}
use Rattle.sheet_types.specs.declared.receipt.Receipt.{Receipt}
use Rattle.sheet_types.proofs.Same.{In, In-all, Contains-In, any_in}
use Rattle.custody.specs.Receipts.{IsKept, is_named, was_lent}
use Rattle.world_members.specs.Register.{ever_lent}
use Rattle.world_members.proofs.EachPackage.{kept_is_there, used_is_named, lent_in_packages}

-- the package at a place has told this
abbrev pub ToldAt : (Package → Type 0) → ℕ → World → Type 0
ToldAt Fact at w = (p : Package) × (slice_get w.packages at ≡ Some p) × Fact p

stands_in : (w : World) (at : ℕ) (p : Package) → slice_get w.packages at ≡ Some p → In p w.packages
stands_in w at p here = all-slice_get (λ y. In y w.packages) w.packages at p here (In-all w.packages)

pub kept_there : (id : List ℕ) (at : ℕ) (found : Option Receipt) (w : World) → IsRegister w
    → ToldAt (λ p. IsKept p id found) at w → IfSome found (λ receipt. Some receipt ≡ kept w id)
kept_there id at None w register told = tt
kept_there id at (Some r) w register told = sym (kept_is_there w id told.0 r register
    (Contains-In told.0 w.packages (stands_in w at told.0 told.1)) told.2)

pub named_there : (id : List ℕ) (at : ℕ) (found : Bool) (w : World) → IsRegister w
    → ToldAt (λ p. found ≡ is_named p id) at w → IsTrue found → is_used w id ≡ true
named_there id at found w register told is = used_is_named w id register
    ∙ any_in (λ x. is_named x id) told.0 w.packages (stands_in w at told.0 told.1) (sym told.2 ∙ is)

pub lent_there : (id : List ℕ) (at : ℕ) (found : Bool) (w : World) → ToldAt (λ p. found ≡ was_lent p id) at w
    → IsTrue found → ever_lent w id ≡ true
lent_there id at found w told is = lent_in_packages w id ∙ any_in (λ x. was_lent x id) told.0 w.packages
    (stands_in w at told.0 told.1) (sym told.2 ∙ is)
