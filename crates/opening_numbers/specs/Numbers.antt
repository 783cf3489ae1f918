-- Which receipts name what a fault is of, by what stores say of themselves. Profile.
use Rattle.std.specs.Prelude.{◌≡◌, ◌⊎◌, ◌≤◌, ◌==◌, ℕ, ℤ, pos, Bool, true, false, not}
use Rattle.std.specs.Prelude.{nat_le, List, Option}
use Rattle.std.specs.Prelude.{MatchOption, bytes_eq, count_by, Contains}
use Rattle.std.specs.Option.{option_map_or}
use Rattle.sheet_types.specs.Lines.{entry_from}
use Rattle.sheet_types.specs.Opening.{Claim}
use Rattle.sheet_types.specs.Texts.{uuid_text, Entry, Adds}
use Rattle.opening_faults.specs.Copies.{is_missing, is_doubled}
use Rattle.opening_faults.specs.Sights.{claim_said, claims_seen, is_live_store, is_loan_of, IsOpenSplitOf}
use Rattle.opening_faults.specs.declared.copies.Copies.{Copies}
use Rattle.opening_faults.specs.declared.faults.RecoverFault.{RecoverFault}
use Rattle.opening_faults.specs.declared.faults.RecoverFault.TheVariants.{TwoCopies, MissingPackage, ForeignFrame}
use Rattle.opening_faults.specs.declared.faults.RecoverFault.TheVariants.{Altered}
use Rattle.opening_faults.specs.declared.sights.Sight.{Sight}
use Rattle.opening_faults.specs.declared.sights.StoreClaim.{StoreClaim}
use Rattle.opening_faults.specs.declared.splits.OpenSplit.{OpenSplit}
use Rattle.opening_numbers.specs.declared.numbers.Loans.{Loans}
use Rattle.opening_numbers.specs.declared.numbers.Loans.TheVariants.{Missing, Present, Doubled}

-- ---- what a claim says

-- the entry is the addition of this item
abbrev pub adds_this : List ℕ → Entry → Bool
adds_this id (Adds p identity kind size digest) = bytes_eq identity id
adds_this id e = false

-- so says the whole line of a claim
abbrev pub adds_item : List ℕ → Claim → Bool
adds_item id c = option_map_or (adds_this id) (entry_from c.line) false

-- ---- the receipts that name what a fault is of

-- It is the number of an open split of this package, of which so many stores are the loan.
abbrev pub IsSplitOf : (ℕ → Bool) → List Sight → List ℕ → ℕ → Type 0
IsSplitOf test stores id n = (s : Sight) × (c : Claim) × Contains stores s × IsOpenSplitOf stores s c
    × (c.target ≡ uuid_text id) × (test (count_by (is_loan_of c) stores) ≡ true) × (c.seq ≡ pos n)

-- It is the number of an addition of this item, in a store that lives.
abbrev pub IsAdditionOf : List Sight → List ℕ → ℕ → Type 0
IsAdditionOf stores id n = (s : Sight) × (c : Claim) × Contains stores s × (is_live_store stores s ≡ true)
    × Contains (claims_seen s) c × (adds_item id c ≡ true) × (c.seq ≡ pos n)

-- Of two copies, no copy, or a loan that is not at home: an open split of the package, of which two
-- stores, none, or one is the loan. Of an item: its addition. No receipt names what the other
-- faults are of.
abbrev pub Names : List Sight → RecoverFault → ℕ → Type 0
Names stores (TwoCopies id) n = IsSplitOf (nat_le 2) stores id n
Names stores (MissingPackage id) n = IsSplitOf (λ k. k == 0) stores id n
Names stores (ForeignFrame id) n = IsSplitOf (nat_le 1) stores id n
Names stores (Altered id) n = IsAdditionOf stores id n
Names stores fault n = ⊥

-- whether some receipt may
abbrev pub may_be_named : RecoverFault → Bool
may_be_named (TwoCopies id) = true
may_be_named (MissingPackage id) = true
may_be_named (ForeignFrame id) = true
may_be_named (Altered id) = true
may_be_named fault = false

-- the greatest of the numbers above 0, if there are any
abbrev pub IsGreatest : (ℕ → Type 0) → Option ℕ → Type 0
IsGreatest P found = MatchOption found ((m : ℕ) → P m → m ≡ 0) (λ n. P n × ((m : ℕ) → P m → m ≤ n))

-- ---- on the way there

-- 0 or one of the numbers, and no other is greater
abbrev pub IsLast : (ℕ → Type 0) → ℕ → Type 0
IsLast P n = ((n ≡ 0) ⊎ P n) × ((m : ℕ) → P m → m ≤ n)

-- it is a number of one of these
abbrev pub Among : {X : Type 0} → (X → ℕ → Type 0) → List X → ℕ → Type 0
Among {X} P xs n = (x : X) × Contains xs x × P x n

abbrev pub are_so_many : Loans → Option Copies → Bool
are_so_many Missing copies = is_missing copies
are_so_many Present copies = not (is_missing copies)
are_so_many Doubled copies = is_doubled copies

abbrev pub is_count : Loans → ℕ → Bool
is_count Missing k = k == 0
is_count Present k = nat_le 1 k
is_count Doubled k = nat_le 2 k

-- the number of a split of this package with so many loans
abbrev pub IsOfSplit : List ℕ → Loans → Option Copies → OpenSplit → ℕ → Type 0
IsOfSplit id loans copies split n =
    (bytes_eq (uuid_text id) split.target ≡ true) × (are_so_many loans copies ≡ true) × (split.seq ≡ pos n)

-- the number of an addition of this item
abbrev pub IsOfAddition : List ℕ → StoreClaim → ℕ → Type 0
IsOfAddition id c n = (adds_item id (claim_said c) ≡ true) × (c.seq ≡ pos n)

-- one of those of a store, where it lives
abbrev pub IsOfStore : List ℕ → Bool → Sight → ℕ → Type 0
IsOfStore id is_live s n = (is_live ≡ true) × Among (IsOfAddition id) s.claims.items n
