-- The receipts of the packages, in the order of their numbers, are those of the world.
use Rattle.std.proofs.Common.{◌∙◌, sym, ap, subst}
use Rattle.sheet_types.specs.Ordered.{arranged}
use Rattle.sheet_types.specs.World.{receipt_key}
use Rattle.sheet_balance.specs.Sights.{IsSightOf, IsSeen}
use Rattle.sheet_balance.specs.Splits.{lents_seen}
use Rattle.sheet_balance.proofs.Each.{flat_seen}
use Rattle.sheet_balance.proofs.Seen.{rests_held}
use Rattle.sheet_balance.proofs.Splitting.{seen_splits}
use Rattle.sheet_balance.proofs.accounts.account_of.Goals as goal

pub returns : goal.returns
returns c = λ w seen.
    let ss = c.args.sights.items in
    let splits = seen_splits c.in_ok-splits.splits ss w seen
    (λ p. c.in_ok-splits.ensures.has p ∙ ap (lents_seen p) c.as_slice.ensures.value) in
    record {
      seen = record {
        held = rests_held c.in_ok-receipts.holders.items ss w c.in_ok-receipts.ensures.rests seen;
        whole = c.in_ok-ledger.ensures ∙ ap (arranged receipt_key) (c.in_ok-receipts.ensures.receipts
            ∙ flat_seen IsSightOf (λ s. s.receipts.items) (λ p. p.receipts) (λ s p k. k.receipts) ss w.packages
            seen.packages);
      };
      splits = splits;
      together = c.are_together-together.ensures w (subst (λ xs. IsSeen xs w) (sym c.as_slice-2.ensures.value) seen)
          splits;
    }
