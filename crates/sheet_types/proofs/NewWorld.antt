-- The account of a new world, of one empty archive, is sound.
use Rattle.std.specs.Prelude.{◌≡◌, ℕ, ◌+◌, true, false, cond, List, refl, bytes_eq, Some, None, unwrap_or}
use Rattle.std.specs.Prelude.{count_by, sum_by, length}
use Rattle.std.proofs.Common.{sym, ◌∙◌}
use Rattle.std.proofs.lemmas.Bool.{false≢true}
use Rattle.sheet_types.specs.Texts.{size}
use Rattle.sheet_types.specs.World.{is_tile, is_medium, is_row, Package, holdings, no_package, new_world}
use Rattle.sheet_types.specs.Balance.{Balanced, holds}
use Rattle.sheet_types.specs.declared.frame.Frame.{Frame}
use Rattle.sheet_types.proofs.Basics.{None≢Some}

module _ (frame : Frame) (archive : List ℕ) where
  nothing_held : (p thing : List ℕ) → holds (holdings (new_world archive frame) p) thing ≡ false
  nothing_held p thing = elim (bytes_eq archive p) as (λ v. holds
      (unwrap_or (cond v (Some (record no_package { uuid = archive })) None) no_package) thing ≡ false)
      [ true ↦ refl | false ↦ refl ]

  zero_held : (held : Package → ℕ) → held (record no_package { uuid = archive }) ≡ 0 → held no_package ≡ 0
      → (p : List ℕ) → 0 ≡ 0 + held (holdings (new_world archive frame) p)
  zero_held held here none p = elim (bytes_eq archive p) as (λ v. 0
      ≡ 0 + held (unwrap_or (cond v (Some (record no_package { uuid = archive })) None) no_package))
      [ true ↦ rw here refl | false ↦ rw none refl ]

  pub new_balanced : Balanced (new_world archive frame)
  new_balanced = record {
    ledger = tt;
    custody_is = λ p thing. (
      (λ held. absurd (false≢true (sym (nothing_held p thing) ∙ held))),
      (λ at. absurd (None≢Some at)),
    );
    tiles = zero_held (λ x. count_by is_tile x.items) refl refl;
    media = zero_held (λ x. count_by is_medium x.items) refl refl;
    rows = zero_held (λ x. count_by is_row x.items) refl refl;
    links = zero_held (λ x. length x.links) refl refl;
    bytes = zero_held (λ x. sum_by (λ i. size i.content) x.items) refl refl;
    loans = (tt, tt);
    homes = (tt, tt);
    together = (tt, tt);
  }
