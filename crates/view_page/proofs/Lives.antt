-- The live packages are those of the world.
use Rattle.std.proofs.Common.{◌≡◌, ◌∙◌, ◌+◌, ◌++◌, ◌∷◌, [], ℕ, List, Some, sym, ap, map}
use Rattle.std.proofs.Common.{take, slice_get}
use Rattle.sheet_types.proofs.Basics.{some_once}
use Rattle.sheet_types.specs.Answers.{PackageSight as ModelSight, sums_held}
use Rattle.sheet_types.specs.Custody.{ticket}
use Rattle.sheet_types.specs.World.{World, Package, receipts_of}
use Rattle.sheet_types.specs.declared.receipt.Receipt.{Receipt}
use Rattle.sheet_types.specs.declared.receipt.Sums.{Sums}
use Rattle.view_report.specs.Registers.{number_of}
use Rattle.view_report.specs.declared.registers.Live.{Live}
use Rattle.view_page.specs.Registers.{live_of}
use Rattle.view_world.specs.Kept.{AreKept}
use Rattle.view_world.proofs.Rows.{at_both, at_place, map_snoc, take_next}
use Rattle.world.specs.Reading.{sight_of}
use Rattle.world.specs.declared.reading.PackageSight.{PackageSight}

-- one more
pub life_next : (w : World) (sights : List PackageSight) (sums : List Sums) (loans : List ℕ)
    (receipts : List Receipt) → AreKept w sights sums → loans ≡ map (λ p. p.loan) w.packages
    → receipts ≡ receipts_of w
    → (i : ℕ) (s : PackageSight) (x : Sums) (l k : ℕ) → k ≡ number_of receipts l
    → slice_get sights i ≡ Some s
    → slice_get sums i ≡ Some x → slice_get loans i ≡ Some l
    → (lives : List Live) → lives ≡ map (live_of w) (take i w.packages)
    → lives ++ record {
      uuid = s.uuid;
      parent = s.parent;
      depth = s.depth;
      loan = l;
      number = k;
      ticket = s.ticket;
      sums = x;
    } ∷ [] ≡ map (live_of w) (take (i + 1) w.packages)
life_next w sights sums loans receipts kept made told i s x l k counted is is_x is_l lives so =
    let seen = at_both sight_of (λ (p : Package). record {
      uuid = p.uuid;
      parent = p.parent;
      depth = p.depth;
      ticket = ticket w p.uuid;
    }) sights w.packages i s kept.seen is in
    let p : Package = seen.0 in
    let of_sums = at_place sums_held sums w.packages i x kept.held is_x in
    let of_loans = at_place (λ (q : Package). q.loan) loans w.packages i l made is_l in
    let sums_is : x ≡ sums_held p = of_sums.2 ∙ ap sums_held
    (some_once (slice_get w.packages i) of_sums.0 p of_sums.1 seen.1) in
    let loan_is : l ≡ p.loan = of_loans.2 ∙ ap (λ (q : Package). q.loan)
    (some_once (slice_get w.packages i) of_loans.0 p of_loans.1 seen.1) in
    let uuid_is : s.uuid ≡ p.uuid = ap (λ (v : ModelSight). v.uuid) seen.2 in
    let parent_is : s.parent ≡ p.parent = ap (λ (v : ModelSight). v.parent) seen.2 in
    let depth_is : s.depth ≡ p.depth = ap (λ (v : ModelSight). v.depth) seen.2 in
    let ticket_is : s.ticket ≡ ticket w p.uuid = ap (λ (v : ModelSight). v.ticket) seen.2 in
    let number_is : k ≡ number_of (receipts_of w) p.loan = counted ∙ (λ n. number_of (told n) (loan_is n)) in
    let live : Live = record {
      uuid = s.uuid;
      parent = s.parent;
      depth = s.depth;
      loan = l;
      number = k;
      ticket = s.ticket;
      sums = x;
    } in
    let live_is : live ≡ live_of w p =
    λ n. record {
      uuid = uuid_is n;
      parent = parent_is n;
      depth = depth_is n;
      loan = loan_is n;
      number = number_is n;
      ticket = ticket_is n;
      sums = sums_is n;
    } in
    ap (λ ls. ls ++ live ∷ []) so ∙ ap (λ r. map (live_of w) (take i w.packages) ++ r ∷ []) live_is
    ∙ sym (map_snoc (live_of w) (take i w.packages) p)
    ∙ ap (map (live_of w)) (sym (take_next w.packages i p seen.1))
