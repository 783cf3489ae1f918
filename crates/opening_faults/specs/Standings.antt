-- How far a store is found, round by round. Profile.
use Rattle.std.specs.Prelude.{ℕ, zero, suc, Bool, true, false, List, if◌then◌else◌}
use Rattle.opening_faults.specs.Sights.{is_root, is_reached}
use Rattle.opening_faults.specs.declared.standing.Standing.{Standing}
use Rattle.opening_faults.specs.declared.standing.Standing.TheVariants.{Stray, Fresh, Settled}
use Rattle.opening_faults.specs.declared.sights.Sight.{Sight}

-- how a store stands after this many rounds: found in the last of them, found before, or not found
abbrev pub standing : ℕ → List Sight → Sight → Standing
standing zero stores s = if is_root s then Fresh else Stray
standing (suc k) stores s = if is_reached k stores s then Settled else
    (if is_reached (suc k) stores s then Fresh else Stray)

abbrev pub is_fresh : Standing → Bool
is_fresh Stray = false
is_fresh Fresh = true
is_fresh Settled = false

abbrev pub is_found : Standing → Bool
is_found Stray = false
is_found Fresh = true
is_found Settled = true

-- how a store stands one round later, where the open splits of the last round made it or did not
abbrev pub one_later : Standing → Bool → Standing
one_later Stray made = if made then Fresh else Stray
one_later Fresh made = Settled
one_later Settled made = Settled
