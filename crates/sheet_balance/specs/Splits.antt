-- The splits that are seen, by the package that each lends. Profile.
use Rattle.std.specs.Prelude.{◌≡◌, ⊤, ℕ, true, false, ◌&&◌, ◌==◌, List, Vec, [], ◌∷◌}
use Rattle.std.specs.Prelude.{flat_map, bytes_eq, nat_lt, unwrap_or, if◌then◌else◌}
use Rattle.std.specs.List.{list_any, AllByRecursion}
use Rattle.std.specs.Option.{MatchOption, option_map_or}
use Rattle.std.specs.Ordering.{nat_cmp}
use Rattle.std.specs.Cmp.Lexicographic.{slice_cmp}
use Rattle.std.specs.BTreeMap.{BTreeMap, get}
use Rattle.std.specs.declared.alloc.Global.{Global}
use Rattle.sheet_types.specs.Custody.{is_split, is_merge, ends_at}
use Rattle.sheet_types.specs.World.{World, Package}
use Rattle.sheet_types.specs.declared.receipt.Receipt.{Receipt}
use Rattle.sheet_balance.specs.declared.holders.Holder.{Holder}
use Rattle.sheet_balance.specs.declared.sights.Sight.{Sight}
use Rattle.sheet_balance.specs.declared.splits.Lent.{Lent}

-- what a map has under a package; nothing where it has none
abbrev pub lents_in : BTreeMap (List ℕ) (Vec Lent Global) → List ℕ → List Lent
lents_in splits p = option_map_or (λ v. v.items) (get (slice_cmp nat_cmp) splits p) []

-- a split by its number and the package in which it stands
abbrev pub lent_of : List ℕ → Receipt → Lent
lent_of home r = record { seq = r.seq; home = home }

-- the split, if the receipt is one and has this target
abbrev pub lents_by : List ℕ → List ℕ → Receipt → List Lent
lents_by home p r = if is_split r && ends_at r.target p then lent_of home r ∷ [] else []

abbrev pub lents_among : List ℕ → List ℕ → List Receipt → List Lent
lents_among home p rs = flat_map (lents_by home p) rs

-- the splits of this target that are seen
abbrev pub lents_seen : List ℕ → List Sight → List Lent
lents_seen p ss = flat_map (λ s. lents_among s.uuid p s.receipts.items) ss

-- the splits of this target that stand in packages
abbrev pub lents_held : List ℕ → List Package → List Lent
lents_held p ps = flat_map (λ x. lents_among x.uuid p x.receipts) ps

-- the map has the splits of the world
abbrev pub HasSplits : BTreeMap (List ℕ) (Vec Lent Global) → World → Type 0
HasSplits splits w = (p : List ℕ) → lents_in splits p ≡ lents_held p w.packages

-- ---- loans

-- without parent, or the loan of a split that stands in its parent and that no later merge undoes, by these last
-- merges and splits
abbrev pub IsLoanBy : BTreeMap (List ℕ) ℕ → BTreeMap (List ℕ) (Vec Lent Global) → Holder → Type 0
IsLoanBy merges splits h = MatchOption h.parent ⊤ (λ parent.
    (list_any (λ l. bytes_eq l.home parent && (l.seq == h.loan)) (lents_in splits h.uuid) ≡ true)
    × (option_map_or (nat_lt h.loan) (get (slice_cmp nat_cmp) merges h.uuid) false ≡ false))

-- ---- merges

-- the split stands in this package, if it came before
abbrev pub StandsBefore : List ℕ → ℕ → Lent → Type 0
StandsBefore home seq l = nat_lt l.seq seq ≡ true → l.home ≡ home

-- a merge in this package stands where each split of its source before it stands
abbrev pub UndoesBy : BTreeMap (List ℕ) (Vec Lent Global) → List ℕ → Receipt → Type 0
UndoesBy splits home m = is_merge m ≡ true → AllByRecursion (StandsBefore home m.seq)
    (lents_in splits (unwrap_or m.source []))
