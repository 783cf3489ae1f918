-- The UUIDs that receipts name, as a world keeps them in memory. Profile.
use Rattle.std.specs.Prelude.{◌≡◌, ℕ, ⊤, false, ◌&&◌, List, Contains, None, MatchOption}
use Rattle.std.specs.List.{AllByRecursion, list_any}
use Rattle.sheet_types.specs.Custody.{kept, is_used, is_split, ends_at}
use Rattle.sheet_types.specs.Step.{receipt_of, accepted}
use Rattle.sheet_types.specs.World.{World, receipts_of}
use Rattle.sheet_types.specs.declared.command.Request.{Request}
use Rattle.sheet_types.specs.declared.receipt.Receipt.{Receipt}

-- what is known of some UUIDs is known of others
abbrev pub Grows : List (List ℕ) → List (List ℕ) → Type 0
Grows old new = (id : List ℕ) → Contains old id → Contains new id

-- What a receipt names is known: its request, each thing that it moved, by its identity or its base, and the package
-- that things came to.
pub record Notes (known : List (List ℕ)) (r : Receipt) : Type 0 where
  pub request : Contains known r.request
  pub things : AllByRecursion (λ m. Contains known m.base) r.items
  pub target : MatchOption r.target ⊤ (λ p. Contains known p)

-- What any receipt of the world names is known. More may be: that a UUID is known tells nothing by itself.
abbrev pub Knows : List (List ℕ) → World → Type 0
Knows known w = AllByRecursion (Notes known) (receipts_of w)

-- ---- laws

-- A UUID that is not known is new: no request of it came before, no item had it, and no split made a package of it.
abbrev pub UnknownIsNew : Type 0
UnknownIsNew = (known : List (List ℕ)) (w : World) (id : List ℕ) → Knows known w → ¬ Contains known id
    → (kept w id ≡ None) × (is_used w id ≡ false) × (list_any (λ r. is_split r && ends_at r.target id)
    (receipts_of w) ≡ false)

-- Where the receipt of a request is noted, all that the world names once it is accepted is known.
abbrev pub KnowsNext : Type 0
KnowsNext = (old new : List (List ℕ)) (w : World) (q : Request) → Grows old new → Knows old w
    → Notes new (receipt_of w q) → Knows new (accepted w q)
