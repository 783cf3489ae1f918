-- The last reason of refusal: more than a package, the register or the ledger may hold. It is asked of the world that
-- the request would leave.
use Rattle.std.specs.Prelude.{◌≡◌, ℕ, zero, suc, true, false, List, [], ◌∷◌, ◌++◌, length, count_by}
use Rattle.std.specs.Prelude.{Ok, Err, pos}
use Rattle.std.specs.List.{list_any}
use Rattle.sheet_types.specs.World.{World, Package, is_tile, is_medium, is_row, receipts_of}
use Rattle.sheet_types.specs.Refuse.{is_overfull, too_many}
use Rattle.sheet_types.specs.declared.command.Command.TheVariants.{Delete, Merge, Split}
use Rattle.sheet_types.specs.declared.command.Item.{Item}
use Rattle.sheet_types.specs.declared.command.Mode.TheVariants.{Strict}
use Rattle.sheet_types.specs.declared.refusal.Refusal.TheVariants.{TooMany, Collides}
use Rattle.sheet_examples.specs.Sheets.{ask, archive, crew, second_crew, id, item, tile, quarter, answer}
use Rattle.sheet_examples.specs.Story.{gate, kept_as, archive_with, crew_with, world_with}

-- n empty loans, c0000000-..-01 and so on
abbrev loans : ℕ → List Package
loans zero = []
loans (suc n) = loans n ++ record (crew_with [] [] []) { uuid = id 192 (suc n) } ∷ []

-- an archive with a tile, a loan, and n empty loans
abbrev lent_often : ℕ → List Item → World
lent_often n there = world_with (archive_with (kept_as 1 (tile 1 0 0) ∷ kept_as 2 gate ∷ []) [] []
    ∷ crew_with there [] [] ∷ loans n)

-- 256 packages may live
abbrev pub ManyPackages : Type 0
ManyPackages = (answer (lent_often 253 []) (ask 1 (Split archive second_crew Strict quarter)) ≡ Ok 1)
    × (answer (lent_often 254 []) (ask 1 (Split archive second_crew Strict quarter)) ≡ Err TooMany)
    × (answer (lent_often 254 []) (ask 1 (Delete archive (item 2))) ≡ Ok 1)
    -- the world after a merge has one less
    × (answer (lent_often 255 []) (ask 1 (Delete archive (item 2))) ≡ Err TooMany)
    × (answer (lent_often 255 []) (ask 1 (Merge crew archive (pos 0))) ≡ Ok 1)
    × (answer (lent_often 256 []) (ask 1 (Merge crew archive (pos 0))) ≡ Err TooMany)
    -- after a collision
    × (answer (lent_often 256 (kept_as 9 (tile 1 0 0) ∷ [])) (ask 1 (Merge crew archive (pos 0)))
    ≡ Err (Collides (item 9)))

-- a million items of a kind and four million links in a package, whatever they are
abbrev pub FullPackage : Type 0
FullPackage = (p : Package) →
    (count_by is_tile p.items ≡ 1000000 → count_by is_medium p.items ≡ 1000000
    → count_by is_row p.items ≡ 1000000
    → length p.links ≡ 4000000 → is_overfull p ≡ false)
    × (count_by is_tile p.items ≡ 1000001 → is_overfull p ≡ true)
    × (count_by is_medium p.items ≡ 1000001 → is_overfull p ≡ true)
    × (count_by is_row p.items ≡ 1000001 → is_overfull p ≡ true)
    × (length p.links ≡ 4000001 → is_overfull p ≡ true)

-- 1,000,000,000 receipts, wherever they stand
abbrev pub FullLedger : Type 0
FullLedger = (w : World) →
    (length (receipts_of w) ≡ 1000000001 → too_many w ≡ true)
    × (length (receipts_of w) ≡ 1000000000 → length w.packages ≡ 256
    → (list_any is_overfull w.packages ≡ false)
    → too_many w ≡ false)
    × (list_any is_overfull w.packages ≡ true → too_many w ≡ true)
