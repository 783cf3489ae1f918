-- Stores that stand for a world have none of the nine faults.
use Rattle.std.specs.Prelude.{◌≡◌, List, Option, Some, find, unwrap_or}
use Rattle.std.proofs.Common.{sym, ap, subst, ◌∙◌, arith, inl, inr}
use Rattle.std.proofs.lemmas.List.Elements.{All-contains, All-from_recursion}
use Rattle.sheet_types.specs.Ordered.{least}
use Rattle.sheet_types.specs.World.{World, Package}
use Rattle.sheet_types.specs.Balance.{Balanced, altered}
use Rattle.sheet_types.specs.Opening.{Head, Claim, is_root, live, world_read, Stands, IsNoFault}
use Rattle.sheet_types.specs.declared.frame.Frame.{Frame}
use Rattle.sheet_types.proofs.Basics.{None≢Some}

module _ (Store : Type 0) (head : Store → Option Head) (claims : Store → List Claim) (IsFormed : Store → Type 0)
    (IsTied : Store → Type 0) (frame_of : Store → Frame) (read : Store → Package) (stores : List Store)
    (w : World) (stands : Stands Store head claims IsFormed IsTied frame_of read stores w) where
  -- the world under the store that is found as the archive's
  same_world : (root : Store) → find (is_root Store head claims IsFormed IsTied frame_of read) stores ≡ Some root
      → w ≡ world_read Store head claims IsFormed IsTied frame_of read stores root
  same_world root is = stands.read_as.2 ∙ ap (world_read Store head claims IsFormed IsTied frame_of read stores)
      (ap (λ o. unwrap_or o root) (sym stands.read_as.1 ∙ is))

  pub no_fault : IsNoFault Store head claims IsFormed IsTied frame_of read stores
  no_fault = record {
    some_archive = λ none. omega (arith, none, stands.in_order.one_archive);
    no_other_archive = λ two. omega (arith, two, stands.in_order.one_archive);
    formed = λ id f. f.3 (All-contains IsFormed (live Store head claims IsFormed IsTied frame_of read stores) f.0
        (All-from_recursion IsFormed (live Store head claims IsFormed IsTied frame_of read stores)
        stands.in_order.formed) f.1);
    no_copies = stands.in_order.no_copies;
    none_missing = stands.in_order.none_missing;
    none_foreign = λ id f. elim f.10 [
      | inl frame ↦ frame (stands.in_order.at_home f.1 f.2 f.3 f.0 f.4 f.5 f.6 f.7 f.8).0
      | inr below ↦ below (stands.in_order.at_home f.1 f.2 f.3 f.0 f.4 f.5 f.6 f.7 f.8).1
    ];
    tied = λ id f. f.3 (All-contains IsTied (live Store head claims IsFormed IsTied frame_of read stores) f.0
        (All-from_recursion IsTied (live Store head claims IsFormed IsTied frame_of read stores) stands.in_order.tied)
        f.1);
    in_account = λ f. f.2 (subst Balanced (same_world f.0 f.1) stands.balanced);
    unaltered = λ id f. None≢Some (sym (ap least (ap altered (sym (same_world f.0 f.1)) ∙ stands.unaltered))
        ∙ f.2);
  }
