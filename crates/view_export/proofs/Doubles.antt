-- A number that is rounded is a number.
use Rattle.std.proofs.Common.{ℕ, zero, suc, Bool, true, false, cond, ℤ, pos, negsuc, ltb, ◌*◌, ◌^◌, ◌+◌}
use Rattle.std.specs.Float.{Format, NotNan}
use lib.Ieee.{inf, is_nan, low, emax, odd, prec, round, units}
use Rattle.fast_float.specs.Rounding.{nearest_to_decimal}

not_nan-odd : (d : ℕ) (s : Bool) (q k l : ℕ) → NotNan (odd d s q k l)
unfolding odd is_nan
not_nan-odd d s zero k l = tt
not_nan-odd d s (suc q) k l = tt

not_nan-units : (f : Format) (s : Bool) (q k : ℕ) → NotNan (units f s q k)
unfolding units is_nan
not_nan-units f s q k =
    elim (ltb (q * 2 ^ k) (2 ^ (low f + suc (emax f)))) as (λ b. NotNan
    (cond b (odd (suc (prec f)) s q k (low f)) (inf s))) [
      | true ↦ not_nan-odd (suc (prec f)) s q k (low f)
      | false ↦ tt
    ]

not_nan-round : (f : Format) (s : Bool) (num den : ℕ) → NotNan (round f s num den)
unfolding round
not_nan-round f s num den = not_nan-units f s _ _

pub not_nan : (f : Format) (s : Bool) (digits : ℕ) (e : ℤ) → NotNan (nearest_to_decimal f s digits e)
not_nan f s digits (pos e) = not_nan-round f s (digits * 10 ^ e) 1
not_nan f s digits (negsuc e) = not_nan-round f s digits (10 ^ suc e)
