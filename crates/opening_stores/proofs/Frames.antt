-- All live stores of a list that is in order have the archive's frame.
use Rattle.std.specs.Prelude.{◌≡◌, true, List, find, length, Some, Option}
use Rattle.std.proofs.Common.{ap, arith, inl, inr}
use Rattle.std.specs.List.{AllByRecursion}
use Rattle.sheet_types.specs.Opening.{Head, Claim, is_root, is_live_store, live, IsOpenSplitOf, InOrder}
use Rattle.sheet_types.specs.World.{Package}
use Rattle.sheet_types.specs.declared.frame.Frame.{Frame}
use Rattle.sheet_types.proofs.Every.{All-weaker, All-taken}
use Rattle.sheet_types.proofs.Found.{All-found}
use Rattle.sheet_types.proofs.Same.{In, In-all, Contains-In, two_are_one}
use Rattle.sheet_laws.proofs.Rounds.{at, first_round, open_falls, origin}

module _ (Store : Type 0) (head : Store → Option Head) (claims : Store → List Claim) (IsFormed : Store → Type 0)
    (IsTied : Store → Type 0) (frame_of : Store → Frame) (read : Store → Package) (stores : List Store)
    (order : InOrder Store head claims IsFormed IsTied frame_of read stores) (root : Store)
    (found : find (is_root Store head claims IsFormed IsTied frame_of read) stores ≡ Some root) where
  abbrev rooted : Store → Type 0
  rooted s = is_root Store head claims IsFormed IsTied frame_of read s ≡ true

  abbrev ends : Store → Type 0
  ends s = at Store head claims IsFormed IsTied frame_of read stores (length stores) s ≡ true

  root_in : In root stores × rooted root
  root_in = All-found (λ s. In s stores) (is_root Store head claims IsFormed IsTied frame_of read) root stores found
      (In-all stores)

  one : (s : Store) → In s stores → ends s → frame_of s ≡ frame_of root
  one s i e = elim (origin Store head claims IsFormed IsTied frame_of read stores (length stores) s e) [
    | inl h ↦ ap frame_of (two_are_one (is_root Store head claims IsFormed IsTied frame_of read) s root stores
        (omega (arith, order.one_archive)) i root_in.0 h root_in.1)
    | inr o ↦
        let first = first_round Store head claims IsFormed IsTied frame_of read stores o.0 o.2 o.4 in
        let split : IsOpenSplitOf Store head claims IsFormed IsTied frame_of read stores o.2 o.5 = (
          first.0,
          first.2,
          Contains-In o.5 (claims o.2) o.6,
          open_falls Store head claims IsFormed IsTied
              frame_of read stores first.0 o.0 o.5 first.1 o.8,
        ) in
        (order.at_home o.2 o.5 s root found (Contains-In o.2 stores o.3) split (Contains-In s stores i) o.7).0
  ]

  -- each live store has it
  pub live_frames : AllByRecursion (λ s. frame_of s ≡ frame_of root)
      (live Store head claims IsFormed IsTied frame_of read stores)
  live_frames = All-taken (λ s. frame_of s ≡ frame_of root) (is_live_store Store head claims IsFormed IsTied frame_of
      read stores) stores
      (All-weaker (λ s. In s stores) (λ s. ends s → frame_of s ≡ frame_of root) (λ s i e. one s i e) stores
      (In-all stores))
