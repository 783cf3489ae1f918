-- The header of a list, and its records one after the other.
use Rattle.std.proofs.Common.{◌≡◌, ◌⊎◌, ◌<◌, ◌+◌, ◌++◌, ℕ, zero, suc, Bool, true, false}
use Rattle.std.proofs.Common.{List, [], ◌∷◌, Some, map}
use Rattle.std.proofs.Common.{length, get_or, IsTrue, Bor, refl, sym, inl, inr, arith}
use Rattle.std.specs.Bool.{MatchBool}
use Rattle.std.specs.List.{AllWithin, AllZip, HoldsAt, enumerate_from}
use Rattle.std.proofs.lemmas.Slice.Zip.{all_zipped_more}
use Rattle.std.proofs.lemmas.List.FromFn.{length-enumerate_from, get_or-enumerate_from}
use Rattle.csv.specs.Records.{field_at}
use Rattle.field_lists.specs.declared.entries.Listed.{Listed}
use Rattle.request_csv.specs.Requests.{IsTextAt}
use Rattle.field_lists.specs.HoldsLists.{AreBegun, AreList, Lists, IsFaultFrom, IsFaultOf}
use Rattle.field_lists.specs.Listed.{header}
use Rattle.std.proofs.lemmas.Bool.{false≢true}
use Rattle.field_lists.specs.declared.lists.ListFault.{ListFault}
use Rattle.field_lists.specs.declared.lists.ListFault.TheVariants.{Memory}

-- fields that stand where as many texts do are these texts
pub same_fields : (fields : List (List ℕ)) (texts : List (Bor (List ℕ))) → length fields ≡ length texts
    → ((k : ℕ) (d : Bor (List ℕ)) → k < length texts → field_at fields k ≡ Some (get_or texts k d).now)
    → fields ≡ map (λ text. text.now) texts
unfolding field_at
same_fields [] [] long each = refl
same_fields [] (t ∷ ts) long each = absurd (cc)
same_fields (f ∷ fs) [] long each = absurd (cc)
same_fields (f ∷ fs) (t ∷ ts) long each =
    let first : Some f ≡ Some t.now = each 0 t (omega arith) in
    let rest = same_fields fs ts (omega (arith, long)) (λ k d low. each (suc k) d (omega (arith, low))) in
    cc

-- each of some texts stands at its place among them
pub text_there : (texts : List (Bor (List ℕ))) (k : ℕ) (d : Bor (List ℕ)) → k < length texts
    → field_at (map (λ text. text.now) texts) k ≡ Some (get_or texts k d).now
unfolding field_at
text_there [] k d low = absurd (omega (arith, low))
text_there (t ∷ ts) zero d low = refl
text_there (t ∷ ts) (suc k) d low = text_there ts k d (omega (arith, low))

-- an entry of the numbered texts
pub entry : (texts : List (Bor (List ℕ))) (k : ℕ) (d : Bor (List ℕ)) → k < length texts
    → get_or (enumerate_from 0 texts) k (0, d) ≡ (k, get_or texts k d)
entry texts k d low =
    let place : 0 + k ≡ k = omega arith in
    rw place at (get_or-enumerate_from 0 texts k (0, d) low)

-- a test of each place decides whether fields are these texts
pub fields_decided : (r : Bool) (fields : List (List ℕ)) (texts : List (Bor (List ℕ)))
    → length fields ≡ length texts
    → MatchBool r (AllWithin (λ p. IsTextAt fields p.0 p.1.now) (enumerate_from 0 texts) 0
    (length (enumerate_from 0 texts)))
    ((k : ℕ) × (k < length (enumerate_from 0 texts)) × HoldsAt (λ p. ¬ IsTextAt fields p.0 p.1.now)
    (enumerate_from 0 texts) k)
    → (IsTrue r → fields ≡ map (λ text. text.now) texts) × (fields ≡ map (λ text. text.now) texts
    → IsTrue r)
fields_decided true fields texts long each = (λ _. same_fields fields texts long stands, λ _. search)
  where
    stands : (k : ℕ) (d : Bor (List ℕ)) → k < length texts → field_at fields k ≡ Some (get_or texts k d).now
    stands k d low = rw (entry texts k d low) at (each k (0, d) (omega arith) (rw (length-enumerate_from 0 texts) low))
fields_decided false fields [] long (k, low, not_there) = absurd (omega (arith, low))
fields_decided false fields (t ∷ ts) long (k, low, not_there) = (λ yes. absurd (cc), λ e. absurd (not_at e))
  where
    below : k < length (t ∷ ts)
    below = rw (length-enumerate_from 0 (t ∷ ts)) at low

    not_at : fields ≡ map (λ text. text.now) (t ∷ ts) → ⊥
    not_at e = (rw (entry (t ∷ ts) k t below) at (not_there (0, t))) (rw e (text_there (t ∷ ts) k t below))

-- it is met first where the records before it are entries
pub fault_after : (number : ℕ) (before : List (List (List ℕ))) (entries : List Listed)
    (rest : List (List (List ℕ)))
    (met : ListFault) → AllZip Lists before entries
    → IsFaultFrom (number + length entries) rest met → IsFaultFrom number (before ++ rest) met
fault_after number [] [] rest met asked fault =
    let place : number + 0 ≡ number = omega arith in
    rw place at fault
fault_after number [] (q ∷ qs) rest met asked fault = absurd asked
fault_after number (b ∷ bs) [] rest met asked fault = absurd asked
fault_after number (b ∷ bs) (q ∷ qs) rest met asked fault =
    let place : number + length (q ∷ qs) ≡ (number + 1) + length qs = omega arith in
    inr (inr (q, asked.0, fault_after (number + 1) bs qs rest met asked.1 (rw place at fault)))

-- an entry more is read
pub entry_more : (rows : List (List (List ℕ))) (entries : List Listed) (fields : List (List ℕ)) (entry : Listed)
    → AreList rows entries → Lists fields entry
    → AreList (rows ++ fields ∷ []) (entries ++ entry ∷ [])
entry_more [] entries fields entry asked one = absurd asked
entry_more (first ∷ rows) entries fields entry asked one = (asked.0, all_zipped_more Lists _ _ _ _ asked.1 one)

-- the fault of the record after those that are entries
pub fault_next : (rows : List (List (List ℕ))) (entries : List Listed) (number : ℕ) (fields : List (List ℕ))
    (met : ListFault) → number ≡ length entries + 1 → AreList rows entries
    → IsFaultFrom number (fields ∷ []) met → IsFaultOf (rows ++ fields ∷ []) met
fault_next [] entries number fields met counted asked fault = absurd asked
fault_next (first ∷ rows) entries number fields met counted asked fault =
    let place : number ≡ 1 + length entries = omega (arith, counted) in
    inr (inr (asked.0, fault_after 1 rows entries (fields ∷ []) met asked.1 (rw place at fault)))

pub entry_fault : (entries : List Listed) (number : ℕ) (fields : List (List ℕ)) (met : ListFault)
    → number ≡ length entries + 1 → (met ≡ Memory) ⊎ IsFaultFrom number (fields ∷ []) met
    → (met ≡ Memory) ⊎ ((rows : List (List (List ℕ))) → AreList rows entries
    → IsFaultOf (rows ++ fields ∷ []) met)
entry_fault entries number fields met counted (inl want) = inl want
entry_fault entries number fields met counted (inr fault) = inr
    (λ rows asked. fault_next rows entries number fields met counted asked fault)

-- the header is read
pub header_more : (rows : List (List (List ℕ))) (entries : List Listed) (fields : List (List ℕ)) (b : Bool)
    → b ≡ false → AreBegun b rows entries → fields ≡ header
    → AreList (rows ++ fields ∷ []) entries
header_more rows entries fields true e begun is = absurd (false≢true (sym e))
header_more rows entries fields false e begun is = rw (begun.0, begun.1) (is, tt)

-- the first record is none
pub header_fault : (rows : List (List (List ℕ))) (entries : List Listed) (fields : List (List ℕ)) (b : Bool)
    (met : ListFault) → b ≡ false → AreBegun b rows entries → IsFaultOf (fields ∷ []) met
    → IsFaultOf (rows ++ fields ∷ []) met
header_fault rows entries fields true met e begun fault = absurd (false≢true (sym e))
header_fault rows entries fields false met e begun fault = rw begun.0 fault

-- the header was read
pub begun_list : (rows : List (List (List ℕ))) (entries : List Listed) (b : Bool) → b ≡ true
    → AreBegun b rows entries
    → AreList rows entries
begun_list rows entries true e begun = begun
begun_list rows entries false e begun = absurd (false≢true e)

-- nothing was read
pub begun_none : (rows : List (List (List ℕ))) (entries : List Listed) (b : Bool) → b ≡ false
    → AreBegun b rows entries → rows ≡ []
begun_none rows entries true e begun = absurd (false≢true (sym e))
begun_none rows entries false e begun = begun.0
