-- What is open by the merges that a store claims is open among its claims.
use Rattle.std.specs.Prelude.{Result, Ok, Err, Some, false}
use Rattle.std.proofs.Common.{◌≡◌, ◌∙◌, ◌||◌, sym, ap, subst, map, IfOk}
use Rattle.std.specs.List.{list_any}
use Rattle.std.specs.Option.{option_map_or}
use Rattle.std.specs.Ordering.{nat_cmp}
use Rattle.std.specs.Cmp.Lexicographic.{slice_cmp}
use Rattle.std.specs.BTreeSet.{contains}
use Rattle.sheet_types.specs.Opening.{is_open_claim}
use Rattle.opening_faults.specs.Sights.{claim_said, claims_seen}
use Rattle.opening_faults.specs.Merges.{HasMerges, is_open_by}
use Rattle.opening_live.specs.Named.{names}
use Rattle.opening_live.proofs.Named.{open_by_them}
use Rattle.opening_live.proofs.naming.note_store.Goals as goal

ok_so : {X E : Type 0} (P Q : X → Type 0) (r : Result X E) → ((x : X) → P x → Q x) → IfOk r P → IfOk r Q
ok_so P Q (Ok x) f h = f x h
ok_so P Q (Err e) f h = tt

pub returns-in_ok-merges-in-Some : goal.returns-in_ok-merges-in-Some
returns-in_ok-merges-in-Some c =
    let s = c.args.sight.now in
    let head = c.in-Some.head in
    let merges = c.in_ok-merges-in-Some.merges in
    let said : s.head ≡ Some head = c.in-Some.is in
    let noted : HasMerges merges (claims_seen s) = subst (λ xs. HasMerges merges (map claim_said xs))
    c.as_slice.ensures.value c.in_ok-merges-in-Some.ensures in
    ok_so _ _ c.note_claims.result (λ x h key.
    h key ∙ ap (λ b. contains (slice_cmp nat_cmp) c.args.loans.now key || b) (
    ap (list_any (λ y. names (is_open_by merges) head (claim_said y) key)) c.as_slice-in-Some.ensures.value
    ∙ ap (λ p. list_any (λ y. names p head (claim_said y) key) s.claims.items)
    (λ i. λ y. open_by_them merges (claims_seen s) noted y i)
    ∙ sym (ap (λ o. option_map_or (λ e. list_any (λ y. names (is_open_claim (claims_seen s)) e (claim_said y) key)
    s.claims.items) o false) said)
    )) c.note_claims.ensures
