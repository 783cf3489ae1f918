-- The answers of the parts, told of what was seen of stores, are those of the stores.
use Rattle.std.specs.Prelude.{◌≡◌, ◌⊎◌, Bool, List, map, length, Option}
use Rattle.std.proofs.Common.{sym, ap, subst, ◌∙◌, inl, inr}
use Rattle.std.specs.List.{AllZip}
use Rattle.sheet_types.specs.Ordered.{arranged}
use Rattle.sheet_types.specs.World.{World}
use Rattle.sheet_types.specs.declared.receipt.Receipt.{Receipt}
use Rattle.sheet_types.specs.declared.receipt.Sums.{Sums}
use Rattle.sheet_laws.specs.Laws.{StoreSight}
use Rattle.sheet_balance.specs.declared.sights.Sight.{Sight as PackageSight}
use Rattle.opening_faults.specs.declared.faults.RecoverFault.{RecoverFault}
use Rattle.opening_faults.specs.declared.faults.RecoverFault.TheVariants.{StoreFault}
use Rattle.opening_faults.specs.declared.sights.Sight.{Sight}
use Rattle.opening_faults.proofs.Turning.{map_map}
use Rattle.opening_verdict.specs.Accounts.{sight_key, taken, IsWorldOf, IsInAccount, IsLastOf}
use Rattle.opening_verdict.specs.Checks.{flags_of, AreChecked, IsFirstOf}
use Rattle.opening_verdict.specs.Tallies.{TellsSums, AreKept, IsSomeUnkept, IsWantOr}
use Rattle.opening_verdict.specs.Views.{AreSeenAs, IsFaultOf, IsVerdictOf}
use Rattle.opening_verdict.specs.declared.seen.StoreSeen.{StoreSeen}
use Rattle.opening_verdict.specs.declared.verdict.Kept.{Kept}
use Rattle.opening_verdict.specs.declared.verdict.Verdict.{Verdict}
use Rattle.opening_verdict.proofs.FirstFaults.{formed_of, tied_of, first_fault}
use Rattle.opening_verdict.proofs.LiveWorld.{world, is_world, last_fault, too_large, verdict_of}
use Rattle.opening_verdict.proofs.Viewed.{Pair, paired, sights_of, views_of}

module _ (seen : List StoreSeen) (views : List StoreSight) (are : AreSeenAs seen views) (ss : List Sight)
    (fs ts : List Bool) (hs : List PackageSight)
    (s_is : ss ≡ map (λ x. x.sight) seen) (f_is : fs ≡ map (λ x. x.is_formed) seen)
    (t_is : ts ≡ map (λ x. x.is_tied) seen) (h_is : hs ≡ map (λ x. x.held) seen) where
  abbrev ps : List Pair
  ps = (paired seen views are).0

  v_same : views_of ps ≡ views
  v_same = (paired seen views are).2

  part_same : {Y : Type 0} (f : StoreSeen → Y) (ys : List Y) → ys ≡ map f seen → ys ≡ map (λ p. f p.seen) ps
  part_same f ys is = is ∙ ap (map f) (sym (paired seen views are).1) ∙ map_map (λ p. p.seen) f ps

  s_same : ss ≡ sights_of ps
  s_same = part_same (λ x. x.sight) ss s_is

  f_same : fs ≡ formed_of ps
  f_same = part_same (λ x. x.is_formed) fs f_is

  t_same : ts ≡ tied_of ps
  t_same = part_same (λ x. x.is_tied) ts t_is

  h_same : hs ≡ map (λ p. p.seen.held) ps
  h_same = part_same (λ x. x.held) hs h_is

  pub first_of : (f : RecoverFault) → IsFirstOf ss fs ts f → IsFaultOf views f
  first_of f h = subst (λ vs. IsFaultOf vs f) v_same (first_fault ps f
      (subst (λ t. IsFirstOf (sights_of ps) (formed_of ps) t f) t_same
      (subst (λ x. IsFirstOf (sights_of ps) x ts f) f_same (subst (λ x. IsFirstOf x fs ts f) s_same h))))

  module _ (was_checked : AreChecked ss fs ts) (live : List Bool) (live_is : live ≡ flags_of ss) where
    checked : AreChecked (sights_of ps) (formed_of ps) (tied_of ps)
    checked = subst (λ t. AreChecked (sights_of ps) (formed_of ps) t) t_same
        (subst (λ x. AreChecked (sights_of ps) x ts) f_same (subst (λ x. AreChecked x fs ts) s_same was_checked))

    live_same : live ≡ flags_of (sights_of ps)
    live_same = live_is ∙ ap flags_of s_same

    is_theirs : IsWorldOf (arranged sight_key (taken live hs)) (world ps checked)
    is_theirs = subst (λ l. IsWorldOf (arranged sight_key (taken l hs)) (world ps checked)) (sym live_same)
        (subst (λ x. IsWorldOf (arranged sight_key (taken (flags_of (sights_of ps)) x)) (world ps checked))
        (sym h_same) (is_world ps checked))

    pub last_of : (f : RecoverFault) → ((w : World) → IsWorldOf (arranged sight_key (taken live hs)) w
        → IsLastOf w f)
        → IsFaultOf views f
    last_of f h = subst (λ vs. IsFaultOf vs f) v_same (last_fault ps checked f (h (world ps checked) is_theirs))

    module _ (sums : List (Option Sums)) (told : AllZip TellsSums hs sums) where
      told_so : AllZip TellsSums (map (λ p. p.seen.held) ps) sums
      told_so = subst (λ x. AllZip TellsSums x sums) h_same told

      pub want_of : (f : RecoverFault) → IsWantOr (IsSomeUnkept live sums) f → IsFaultOf views f
      want_of f h = elim h [
        | inl want ↦ subst (IsFaultOf views) (sym want) tt
        | inr large ↦ subst (IsFaultOf views) (sym large.0) (subst (λ vs. IsFaultOf vs StoreFault) v_same
            (too_large ps checked sums told_so (subst (λ l. IsSomeUnkept l sums) live_same large.1)))
      ]

      pub verdict_so : (ledger : List Receipt) (kept : List (Option Kept)) (verdict : Verdict)
          → ((w : World) → IsWorldOf (arranged sight_key (taken live hs)) w → IsInAccount ledger w)
          → AreKept ledger (map (λ s. s.head) ss) live sums kept
          → verdict.kept.items ≡ kept → verdict.count ≡ length ledger → IsVerdictOf verdict views
      verdict_so ledger kept verdict account are_kept same count =
          subst (IsVerdictOf verdict) v_same (verdict_of ps checked sums told_so ledger
          (account (world ps checked) is_theirs) kept
          (subst (λ l. AreKept ledger (map (λ s. s.head) (sights_of ps)) l sums kept) live_same
          (subst (λ x. AreKept ledger (map (λ s. s.head) x) live sums kept) s_same are_kept)) verdict same count)
