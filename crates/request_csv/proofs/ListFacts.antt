-- The header of a list, and its records one after the other.
use Rattle.std.proofs.Common.{◌≡◌, ◌⊎◌, ◌<◌, ◌+◌, ◌++◌, ℕ, zero, suc, Bool, true, false}
use Rattle.std.proofs.Common.{List, [], ◌∷◌, Some, map, length, get_or, IsTrue, Bor, refl, inl, inr, arith}
use Rattle.std.specs.Bool.{MatchBool}
use Rattle.std.specs.List.{AllWithin, AllZip, HoldsAt, enumerate_from}
use Rattle.std.proofs.lemmas.List.FromFn.{length-enumerate_from, get_or-enumerate_from}
use Rattle.csv.specs.Records.{field_at}
use Rattle.sheet_types.specs.declared.command.Request.{Request}
use Rattle.request_csv.specs.Requests.{IsTextAt}
use Rattle.request_csv.specs.RequestLists.{Asks, IsFaultFrom}
use Rattle.request_csv.specs.declared.lists.ReadFault.{ReadFault}
use Rattle.request_csv.specs.declared.lists.ReadFault.TheVariants.{Memory}

-- fields that stand where as many texts do are these texts
pub same_fields : (fields : List (List ℕ)) (texts : List (Bor (List ℕ))) → length fields ≡ length texts
    → ((k : ℕ) (d : Bor (List ℕ)) → k < length texts → field_at fields k ≡ Some (get_or texts k d).now)
    → fields ≡ map (λ text. text.now) texts
unfolding field_at
same_fields [] [] long each = refl
same_fields [] (t ∷ ts) long each = absurd (cc)
same_fields (f ∷ fs) [] long each = absurd (cc)
same_fields (f ∷ fs) (t ∷ ts) long each =
    let first : Some f ≡ Some t.now = each 0 t (omega arith) in
    let rest = same_fields fs ts (omega (arith, long)) (λ k d low. each (suc k) d (omega (arith, low))) in
    cc

-- each of some texts stands at its place among them
pub text_there : (texts : List (Bor (List ℕ))) (k : ℕ) (d : Bor (List ℕ)) → k < length texts
    → field_at (map (λ text. text.now) texts) k ≡ Some (get_or texts k d).now
unfolding field_at
text_there [] k d low = absurd (omega (arith, low))
text_there (t ∷ ts) zero d low = refl
text_there (t ∷ ts) (suc k) d low = text_there ts k d (omega (arith, low))

-- an entry of the numbered texts
pub entry : (texts : List (Bor (List ℕ))) (k : ℕ) (d : Bor (List ℕ)) → k < length texts
    → get_or (enumerate_from 0 texts) k (0, d) ≡ (k, get_or texts k d)
entry texts k d low =
    let place : 0 + k ≡ k = omega arith in
    rw place at (get_or-enumerate_from 0 texts k (0, d) low)

-- a test of each place decides whether fields are these texts
pub fields_decided : (r : Bool) (fields : List (List ℕ)) (texts : List (Bor (List ℕ)))
    → length fields ≡ length texts
    → MatchBool r (AllWithin (λ p. IsTextAt fields p.0 p.1.now) (enumerate_from 0 texts) 0
    (length (enumerate_from 0 texts)))
    ((k : ℕ) × (k < length (enumerate_from 0 texts)) × HoldsAt (λ p. ¬ IsTextAt fields p.0 p.1.now)
    (enumerate_from 0 texts) k)
    → (IsTrue r → fields ≡ map (λ text. text.now) texts) × (fields ≡ map (λ text. text.now) texts
    → IsTrue r)
fields_decided true fields texts long each = (λ _. same_fields fields texts long stands, λ _. search)
  where
    stands : (k : ℕ) (d : Bor (List ℕ)) → k < length texts → field_at fields k ≡ Some (get_or texts k d).now
    stands k d low = rw (entry texts k d low) at (each k (0, d) (omega arith) (rw (length-enumerate_from 0 texts) low))
fields_decided false fields [] long (k, low, not_there) = absurd (omega (arith, low))
fields_decided false fields (t ∷ ts) long (k, low, not_there) = (λ yes. absurd (cc), λ e. absurd (not_at e))
  where
    below : k < length (t ∷ ts)
    below = rw (length-enumerate_from 0 (t ∷ ts)) at low

    not_at : fields ≡ map (λ text. text.now) (t ∷ ts) → ⊥
    not_at e = (rw (entry (t ∷ ts) k t below) at (not_there (0, t))) (rw e (text_there (t ∷ ts) k t below))

-- the fault of a record is met there, whatever follows
pub fault_here : (number : ℕ) (row : List (List ℕ)) (rest : List (List (List ℕ))) (met : ReadFault)
    → IsFaultFrom number (row ∷ []) met → IsFaultFrom number (row ∷ rest) met
fault_here number row rest met (inl unread) = inl unread
fault_here number row rest met (inr (inl none)) = inr (inl none)
fault_here number row rest met (inr (inr asked)) = absurd asked.2

-- it is met first where the records before it are requests
pub fault_after : (number : ℕ) (before : List (List (List ℕ))) (requests : List Request)
    (rest : List (List (List ℕ))) (met : ReadFault) → AllZip Asks before requests
    → IsFaultFrom (number + length requests) rest met → IsFaultFrom number (before ++ rest) met
fault_after number [] [] rest met asked fault =
    let place : number + 0 ≡ number = omega arith in
    rw place at fault
fault_after number [] (q ∷ qs) rest met asked fault = absurd asked
fault_after number (b ∷ bs) [] rest met asked fault = absurd asked
fault_after number (b ∷ bs) (q ∷ qs) rest met asked fault =
    let place : number + length (q ∷ qs) ≡ (number + 1) + length qs = omega arith in
    inr (inr (q, asked.0, fault_after (number + 1) bs qs rest met asked.1 (rw place at fault)))

-- the fault of the record after those that are requests, in the whole list
pub fault_met : (before : List (List (List ℕ))) (requests : List Request) (count : ℕ) (row : List (List ℕ))
    (rest all : List (List (List ℕ))) (met : ReadFault) → AllZip Asks before requests
    → count ≡ length requests
    → all ≡ before ++ (row ∷ rest) → (met ≡ Memory) ⊎ IsFaultFrom (count + 1) (row ∷ []) met
    → (met ≡ Memory) ⊎ IsFaultFrom 1 all met
fault_met before requests count row rest all met asked counted e (inl want) = inl want
fault_met before requests count row rest all met asked counted e (inr fault) =
    let place : count + 1 ≡ 1 + length requests = omega (arith, counted) in
    inr (rw e (fault_after 1 before requests (row ∷ rest) met asked
    (fault_here (1 + length requests) row rest met (rw place at fault))))
