-- What each package of a register tells of the whole.
use Rattle.std.specs.Prelude.{◌≡◌, ℕ, ◌+◌, ◌≤◌, ◌<◌, ◌&&◌, Bool, List, true, [], ◌∷◌}
use Rattle.std.specs.Prelude.{length, slice_index, find}
use Rattle.std.specs.Prelude.{flat_map, bytes_eq, Some, Contains}
use Rattle.std.proofs.Common.{refl, ap, ◌∙◌, arith, inl, inr}
use Rattle.std.proofs.lemmas.Slice.Eq.{bytes_eq-Decides}
use Rattle.std.specs.List.{list_any, AllByRecursion}
use Rattle.sheet_types.specs.Custody.{is_split, ends_at}
use Rattle.sheet_types.specs.Ordered.{has}
use Rattle.sheet_types.specs.World.{World, Package, receipt_key, receipts_of}
use Rattle.sheet_types.specs.Balance.{archive_of, names_identity}
use Rattle.sheet_types.specs.Register.{IsRegister}
use Rattle.sheet_types.specs.declared.receipt.Receipt.{Receipt}
use Rattle.sheet_types.proofs.Basics.{bytes_eq_itself}
use Rattle.sheet_types.proofs.Every.{none_any, All-each}
use Rattle.sheet_types.proofs.Found.{found, not_found, All-found}
use Rattle.sheet_types.proofs.Order.{list_any-arranged, All-arranged, All-of_arranged}
use Rattle.sheet_types.proofs.Same.{In, In-all, All-In, In-flat_map, any_in, two_are_one}
use Rattle.sheet_laws.proofs.Requests.{added_is_named, of_request, one_receipt, no_more_than}
use Rattle.sheet_laws.proofs.Shifting.{numbers_below}
use Rattle.sheet_laws.proofs.Packages.{stand_flat}
use Rattle.identity_register.proofs.Finding.{contained}
use Rattle.identity_register.proofs.Answering.{any_flat_map}
use Rattle.custody.specs.Receipts.{was_lent}
use Rattle.world_members.specs.Register.{ever_lent}
use Rattle.world_members.specs.Register.{UsedIsNamed, NoneIsKept, KeptIsThere, NumberIsCount}

-- a test of all receipts is one of each package's
pub in_packages : (p : Receipt → Bool) (w : World) → list_any p (receipts_of w)
    ≡ list_any (λ x. list_any p x.receipts) w.packages
in_packages p w = list_any-arranged receipt_key p (flat_map (λ x. x.receipts) w.packages)
    ∙ any_flat_map (λ x. x.receipts) p (λ x. list_any p x.receipts) w.packages (All-each _ (λ x. refl) w.packages)

-- a receipt of a package is among all of them
among_receipts : (w : World) (p : Package) (r : Receipt) → Contains w.packages p → Contains p.receipts r
    → In r (receipts_of w)
among_receipts w p r here there =
    All-In (λ x. In x (receipts_of w)) r (flat_map (λ x. x.receipts) w.packages)
    (All-of_arranged receipt_key (λ x. In x (receipts_of w)) (flat_map (λ x. x.receipts) w.packages)
    (In-all (receipts_of w)))
    (In-flat_map (λ x. x.receipts) p r w.packages (contained w.packages p here) (contained p.receipts r there))

pub used_is_named : UsedIsNamed
used_is_named w id register = added_is_named (archive_of w) id (receipts_of w) register.balanced.ledger
    ∙ in_packages (names_identity id) w

-- a split ever made a package of this UUID, where some package has the receipt
pub lent_in_packages : (w : World) (id : List ℕ) → ever_lent w id ≡ list_any (λ p. was_lent p id) w.packages
lent_in_packages w id = in_packages (λ r. is_split r && ends_at r.target id) w

pub none_is_kept : NoneIsKept
none_is_kept w id none = not_found (of_request id) (receipts_of w)
    (in_packages (of_request id) w ∙ none_any (λ p. list_any (of_request id) p.receipts) w.packages none)

pub kept_is_there : KeptIsThere
kept_is_there w id p r register here kept =
    let among : In r (receipts_of w) = among_receipts w p r here kept.0 in
    let passes : of_request id r ≡ true = ap (λ k. bytes_eq k id) kept.1 ∙ bytes_eq_itself id in
    let s : (s : Receipt) × (find (of_request id) (receipts_of w) ≡ Some s) =
    found (of_request id) (receipts_of w) (any_in (of_request id) r (receipts_of w) among passes) in
    let is : In s.0 (receipts_of w) × (of_request id s.0 ≡ true) =
    All-found (λ x. In x (receipts_of w)) (of_request id) s.0 (receipts_of w) s.1 (In-all (receipts_of w)) in
    s.1 ∙ ap Some (two_are_one (of_request id) s.0 r (receipts_of w)
    (one_receipt (archive_of w) id [] (receipts_of w) register.balanced.ledger) is.0 among is.1 passes)

-- the number of a receipt that some package has is not past the count
number_within : (w : World) (n : ℕ) → IsRegister w → list_any (λ p. has receipt_key (n ∷ []) p.receipts)
    w.packages
    ≡ true → n ≤ length (receipts_of w)
number_within w n register there =
    let numbered : Receipt → Bool = λ r. bytes_eq (receipt_key r) (n ∷ []) in
    let s : (s : Receipt) × (find numbered (receipts_of w) ≡ Some s) =
    found numbered (receipts_of w) (in_packages numbered w ∙ there) in
    let Within : Receipt → Type 0 = λ r. r.seq < length (receipts_of w) + 1 in
    let is : Within s.0 × (numbered s.0 ≡ true) = All-found Within numbered s.0 (receipts_of w) s.1
    (numbers_below w (length (receipts_of w) + 1) register.balanced.ledger refl) in
    let number : s.0.seq ≡ n = ap (λ zs. slice_index zs 0) ((bytes_eq-Decides (receipt_key s.0) (n ∷ [])).0
    is.1) in
    omega (arith, is.0, number)

pub number_is_count : NumberIsCount
number_is_count w n register within there =
    let Within : Receipt → Type 0 = λ r. r.seq ≤ n in
    let all : AllByRecursion Within (receipts_of w) = All-arranged receipt_key Within
    (flat_map (λ x. x.receipts) w.packages) (stand_flat Within w.packages within) in
    let few : 0 + length (receipts_of w) ≤ n = no_more_than (archive_of w) n [] (receipts_of w)
    register.balanced.ledger all (omega arith) in
    elim there [
      | inl none ↦ omega (arith, few, none)
      | inr has_it ↦ omega (arith, few, number_within w n register has_it)
    ]
