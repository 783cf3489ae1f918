-- Merges, and the splits that they undo.
use Rattle.std.specs.Prelude.{◌≡◌, ◌↔◌, ◌&&◌, ℕ, Bool, true, false, cond, IsTrue, List, []}
use Rattle.std.specs.Prelude.{◌∷◌, nat_lt, unwrap_or, refl}
use Rattle.std.proofs.Common.{sym, subst, ap, ◌∙◌}
use Rattle.std.proofs.lemmas.Bool.{and_parts}
use Rattle.std.specs.List.{AllByRecursion}
use Rattle.sheet_types.specs.Balance.{UndoesHere}
use Rattle.sheet_types.specs.Custody.{is_split, ends_at}
use Rattle.sheet_types.specs.World.{World, Package}
use Rattle.sheet_types.specs.declared.receipt.Receipt.{Receipt}
use Rattle.sheet_ledger.specs.Parts.{AreTogether}
use Rattle.sheet_balance.specs.declared.sights.Sight.{Sight}
use Rattle.sheet_balance.specs.Sights.{IsSightOf, IsSeen}
use Rattle.sheet_balance.specs.Splits.{lents_in, lent_of, lents_by, lents_among, lents_held, StandsBefore, UndoesBy}
use Rattle.sheet_balance.specs.Splits.{HasSplits}
use Rattle.sheet_balance.proofs.Each.{all_flat, all_same, all_seen}
use Rattle.sheet_balance.proofs.Seen.{same_answer}
use Rattle.sheet_balance.proofs.Splitting.{Splits}

-- where this is a split of the target before the number, the package is this
abbrev Undone : List ℕ → List ℕ → ℕ → List ℕ → Receipt → Type 0
Undone home target seq uuid r = (is_split r && nat_lt r.seq seq && ends_at r.target target) ≡ true → uuid ≡ home

module _ (home target : List ℕ) (seq : ℕ) where
  -- of one receipt
  one_undone : (uuid : List ℕ) (r : Receipt) → AllByRecursion (StandsBefore home seq) (lents_by uuid target r) ↔
      Undone home target seq uuid r
  one_undone uuid r = (there, back)
    where
      there : AllByRecursion (StandsBefore home seq) (lents_by uuid target r) → Undone home target seq uuid r
      there h e =
          let parts : ((is_split r && nat_lt r.seq seq) ≡ true) × (ends_at r.target target ≡ true) =
          and_parts (is_split r && nat_lt r.seq seq) (ends_at r.target target) e in
          let early : (is_split r ≡ true) × (nat_lt r.seq seq ≡ true) =
          and_parts (is_split r) (nat_lt r.seq seq) parts.0 in
          let is : (is_split r && ends_at r.target target) ≡ true =
          ap (λ b. b && ends_at r.target target) early.0 ∙ parts.1 in
          let all : AllByRecursion (StandsBefore home seq) (lent_of uuid r ∷ []) =
          subst (λ b. AllByRecursion (StandsBefore home seq) (cond b (lent_of uuid r ∷ []) [])) is h in
          all.0 early.1

      back : Undone home target seq uuid r → AllByRecursion (StandsBefore home seq) (lents_by uuid target r)
      back f = elim (is_split r && ends_at r.target target) as
          (λ b. (is_split r && ends_at r.target target) ≡ b → AllByRecursion (StandsBefore home seq)
          (cond b (lent_of uuid r ∷ []) [])) [
            | true ↦ λ e.
                let parts : (is_split r ≡ true) × (ends_at r.target target ≡ true) =
                and_parts (is_split r) (ends_at r.target target) e in (
                  (λ lt. f (ap (λ b. b && nat_lt r.seq seq && ends_at r.target target) parts.0
                      ∙ ap (λ b. b && ends_at r.target target) lt ∙ parts.1)),
                  tt,
                )
            | false ↦ λ _. tt
          ] refl

  -- of the receipts of one package
  package_undone : (p : Package) → AllByRecursion (StandsBefore home seq) (lents_among p.uuid target p.receipts) ↔
      AllByRecursion (Undone home target seq p.uuid) p.receipts
  package_undone p = same_answer (all_flat (StandsBefore home seq) (lents_by p.uuid target) p.receipts)
      (all_same (λ r. AllByRecursion (StandsBefore home seq) (lents_by p.uuid target r))
      (Undone home target seq p.uuid) (one_undone p.uuid) p.receipts)

  -- of all packages
  all_undone : (ps : List Package) → AllByRecursion (StandsBefore home seq) (lents_held target ps) ↔ AllByRecursion
      (λ x. AllByRecursion (Undone home target seq x.uuid) x.receipts) ps
  all_undone ps = same_answer (all_flat (StandsBefore home seq) (λ x. lents_among x.uuid target x.receipts) ps)
      (all_same (λ x. AllByRecursion (StandsBefore home seq) (lents_among x.uuid target x.receipts))
      (λ x. AllByRecursion (Undone home target seq x.uuid) x.receipts) package_undone ps)

-- ---- the answer

pub together_answer : (splits : Splits) (ss : List Sight) (a : Bool)
    → IsTrue a ↔ AllByRecursion (λ s. AllByRecursion (UndoesBy splits s.uuid) s.receipts.items) ss
    → (w : World) → IsSeen ss w → HasSplits splits w → IsTrue a ↔ AreTogether w
together_answer splits ss a f w h lents =
    same_answer f (all_seen IsSightOf (λ s. AllByRecursion (UndoesBy splits s.uuid) s.receipts.items)
    (λ p. AllByRecursion (UndoesHere w p) p.receipts) of_package ss w.packages h.packages)
  where
    one : (s : Sight) (p : Package) → IsSightOf s p → (m : Receipt)
        → UndoesBy splits s.uuid m ↔ UndoesHere w p m
    one s p k m =
        let seen : AllByRecursion (StandsBefore s.uuid m.seq) (lents_in splits (unwrap_or m.source [])) ↔
        AllByRecursion (λ x. AllByRecursion (Undone p.uuid (unwrap_or m.source []) m.seq x.uuid) x.receipts)
        w.packages =
        subst (λ u. AllByRecursion (StandsBefore u m.seq) (lents_in splits (unwrap_or m.source [])) ↔
        AllByRecursion (λ x. AllByRecursion (Undone p.uuid (unwrap_or m.source []) m.seq x.uuid) x.receipts)
        w.packages) (sym k.uuid)
        (subst (λ ls. AllByRecursion (StandsBefore p.uuid m.seq) ls ↔ AllByRecursion
        (λ x. AllByRecursion (Undone p.uuid (unwrap_or m.source []) m.seq x.uuid) x.receipts) w.packages)
        (sym (lents (unwrap_or m.source []))) (all_undone p.uuid (unwrap_or m.source []) m.seq w.packages)) in
        ((λ g e. seen.0 (g e)), (λ g e. seen.1 (g e)))

    of_package : (s : Sight) (p : Package) → IsSightOf s p → AllByRecursion (UndoesBy splits s.uuid)
        s.receipts.items ↔ AllByRecursion (UndoesHere w p) p.receipts
    of_package s p k = subst (λ rs. AllByRecursion (UndoesBy splits s.uuid) s.receipts.items ↔ AllByRecursion
        (UndoesHere w p) rs) k.receipts (all_same (UndoesBy splits s.uuid) (UndoesHere w p) (one s p k)
        s.receipts.items)
