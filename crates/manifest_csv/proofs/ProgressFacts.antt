-- What is told grows by one reply after the other.
use Rattle.std.proofs.Common.{◌≡◌, ◌∙◌, ℕ, ◌+◌, List, [], ◌∷◌, ◌++◌, length}
use Rattle.std.proofs.Common.{Option, Some, None, Result, Err}
use Rattle.std.proofs.Common.{ap, sym, subst, append_assoc, append-nil, arith}
use Rattle.sheet_types.specs.declared.receipt.Receipt.{Receipt}
use Rattle.sheet_types.specs.declared.refusal.Refusal.{Refusal}
use Rattle.manifest_csv.specs.Progress.{AreTold, Tells, Told, told_from}
use Rattle.manifest_csv.specs.declared.importing.ImportFault.TheVariants.{Unwritten}

-- nothing yet
pub nothing_told : (known : Option (List Told)) → Tells known known []
nothing_told None = tt
nothing_told (Some told) = ap Some (sym (append-nil told))

pub no_reply_told : (all : ℕ) (known : Option (List Told)) → Tells known known (told_from all 1 [])
unfolding told_from
no_reply_told all known = nothing_told known

-- nor where the header could not be written
pub none_told : (all : ℕ) (known : Option (List Told)) → AreTold all [] known known (Err Unwritten)
none_told all known = no_reply_told all known

tells_more : (before between after : Option (List Told)) (first then : List Told)
    → Tells before between first
    → Tells between after then → Tells before after (first ++ then)
tells_more None between after first then one two = tt
tells_more (Some told) between after first then one two =
    let grown : after ≡ Some ((told ++ first) ++ then) = subst (λ b. Tells b after then) one two in
    grown ∙ ap Some (append_assoc told first then)

one_more : (all n : ℕ) (replies : List (Result Receipt Refusal)) (reply : Result Receipt Refusal)
    → told_from all n (replies ++ reply ∷ [])
    ≡ told_from all n replies ++ ((n + length replies, (all, reply)) ∷ [])
unfolding told_from
one_more all n [] reply =
    let zero_more : n ≡ n + 0 = omega arith in
    ap (λ k. (k, (all, reply)) ∷ []) zero_more
one_more all n (first ∷ replies) reply =
    let later : n + 1 + length replies ≡ n + length (first ∷ replies) = omega arith in
    ap (λ l. (n, (all, first)) ∷ l) (one_more all (n + 1) replies reply
    ∙ ap (λ k. told_from all (n + 1) replies ++ ((k, (all, reply)) ∷ [])) later)

-- and one more
pub one_told : (all done : ℕ) (replies : List (Result Receipt Refusal)) (reply : Result Receipt Refusal)
    (before between after : Option (List Told)) → length replies ≡ done
    → Tells before between (told_from all 1 replies)
    → Tells between after ((done + 1, (all, reply)) ∷ [])
    → Tells before after (told_from all 1 (replies ++ reply ∷ []))
one_told all done replies reply before between after counted so_far more =
    let number : done + 1 ≡ 1 + length replies = omega (arith, counted) in
    subst (Tells before after) (sym (one_more all 1 replies reply))
    (tells_more before between after (told_from all 1 replies) ((1 + length replies, (all, reply)) ∷ []) so_far
    (subst (λ k. Tells between after ((k, (all, reply)) ∷ [])) number more))
