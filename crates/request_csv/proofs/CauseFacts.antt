-- What is told of a cause, and the records before it.
use Rattle.std.proofs.Common.{◌≡◌, ◌<◌, ◌+◌, ◌++◌, ◌∙◌, ℕ, zero, suc, List, [], ◌∷◌}
use Rattle.std.proofs.Common.{Some, length, get_or, ap, refl, subst, sym, inl, inr, arith}
use Rattle.std.specs.Prelude.{⊤}
use Rattle.std.specs.List.{AllZip}
use Rattle.csv.specs.Records.{field_at}
use Rattle.sheet_types.specs.declared.command.Request.{Request}
use Rattle.request_csv.specs.Causes.{CauseIsMetFirst, IsCauseFrom, IsCauseOf, read_fault}
use Rattle.request_csv.specs.Forms.{IsColumnAtFault, MeetFrom, MeetsAt, header_wants}
use Rattle.request_csv.specs.Requests.{header}
use Rattle.request_csv.specs.RequestLists.{Asks, IsFaultFrom, IsFaultOf}
use Rattle.request_csv.specs.declared.causes.RecordFault.TheVariants.{NoText, FieldCount, Column}
use Rattle.request_csv.specs.declared.causes.ListFault.{ListFault}
use Rattle.request_csv.specs.declared.forms.ColumnFault.{ColumnFault}
use Rattle.request_csv.specs.declared.forms.Want.{Want}
use Rattle.request_csv.specs.declared.forms.Want.TheVariants.{ItsName}
use Rattle.request_csv.proofs.FormFacts.{met_not_first}
use Rattle.request_csv.proofs.UnmetForms.{fault_asks_nothing}

-- ---- the names of the columns

abbrev AllNamed : List Want → Type 0
AllNamed [] = ⊤
AllNamed (w ∷ ws) = (w ≡ ItsName) × AllNamed ws

named_at : (wants : List Want) (k : ℕ) → AllNamed wants → get_or wants k ItsName ≡ ItsName
named_at [] k all = refl
named_at (w ∷ ws) zero all = all.0
named_at (w ∷ ws) (suc k) all = named_at ws k all.1

met_at : (fields : List (List ℕ)) (column : ℕ) (wants : List Want) (k place : ℕ) → k < length wants
    → place ≡ column + k → MeetFrom fields column wants → MeetsAt fields place (get_or wants k ItsName)
met_at fields column [] k place low at met = absurd (omega (arith, low))
met_at fields column (w ∷ ws) zero place low at met =
    let here : place ≡ column = omega (arith, at) in
    rw here met.0
met_at fields column (w ∷ ws) (suc k) place low at met = met_at fields (suc column) ws k place (omega (arith, low))
    (omega (arith, at)) met.1

-- fields that stand where as many names do are these names
same_names : (fields names : List (List ℕ)) → length fields ≡ length names
    → ((k : ℕ) → k < length names → field_at fields k ≡ Some (get_or names k [])) → fields ≡ names
unfolding field_at
same_names [] [] long each = refl
same_names [] (n ∷ ns) long each = absurd (cc)
same_names (f ∷ fs) [] long each = absurd (cc)
same_names (f ∷ fs) (n ∷ ns) long each =
    let first : Some f ≡ Some n = each 0 (omega arith) in
    let rest = same_names fs ns (omega (arith, long)) (λ k low. each (suc k) (omega (arith, low))) in
    cc

all_named : AllNamed header_wants
all_named = (
  refl,
  (
    refl,
    (
      refl,
      (
        refl,
        (
          refl,
          (
            refl,
            (
              refl,
              (refl, (refl, (refl, (refl, (refl, (refl, (refl, (refl, (refl, (refl, (refl, tt))))))))))),
            ),
          ),
        ),
      ),
    ),
  ),
)

-- a record of as many columns, each of which has its name, is the header
pub is_header : (fields : List (List ℕ)) → length fields ≡ 18 → MeetFrom fields 0 header_wants
    → fields ≡ header
is_header fields long met = same_names fields header long each
  where
    each : (k : ℕ) → k < 18 → field_at fields k ≡ Some (get_or header k [])
    each k low = rw (named_at header_wants k all_named) at (met_at fields 0 header_wants k k low (omega arith) met)

-- and the header is one
header_meets : MeetFrom header 0 header_wants
unfolding field_at
header_meets = (
  refl,
  (
    refl,
    (
      refl,
      (
        refl,
        (
          refl,
          (
            refl,
            (
              refl,
              (refl, (refl, (refl, (refl, (refl, (refl, (refl, (refl, (refl, (refl, (refl, tt))))))))))),
            ),
          ),
        ),
      ),
    ),
  ),
)

-- ---- records before the one at fault

pub cause_after : (number : ℕ) (before : List (List (List ℕ))) (requests : List Request)
    (rest : List (List (List ℕ))) (why : ListFault) → AllZip Asks before requests
    → IsCauseFrom (number + length before) rest why → IsCauseFrom number (before ++ rest) why
cause_after number [] requests rest why asked met =
    let place : number + 0 ≡ number = omega arith in
    rw place at met
cause_after number (b ∷ bs) [] rest why asked met = absurd asked
cause_after number (b ∷ bs) (q ∷ qs) rest why asked met =
    let place : number + length (b ∷ bs) ≡ (number + 1) + length bs = omega arith in
    inr (q, asked.0, cause_after (number + 1) bs qs rest why asked.1 (rw place at met))

-- a column at fault of the same fields
pub same_column_fault : (fields others : List (List ℕ)) (at : ColumnFault) → fields ≡ others
    → IsColumnAtFault fields at → IsColumnAtFault others at
same_column_fault fields others at same is = subst (λ f. IsColumnAtFault f at) same is

-- ---- the fault that is told

fault_from : (number : ℕ) (rows : List (List (List ℕ))) (why : ListFault) → IsCauseFrom number rows why
    → IsFaultFrom number rows (read_fault why)
fault_from number [] why met = absurd met
fault_from number (r ∷ rs) why (inl (NoText, is, no_text)) = inl (ap read_fault is, λ readable. no_text readable.0)
fault_from number (r ∷ rs) why (inl (FieldCount count, is, met)) =
    inl (ap read_fault is, λ readable. met.2 (sym met.1 ∙ readable.1))
fault_from number (r ∷ rs) why (inl (Column at, is, met)) = inr
    (inl (ap read_fault is, (met.0, λ request asks. fault_asks_nothing r at request met.1 asks)))
fault_from number (r ∷ rs) why (inr later) = inr (inr (later.0, later.1, fault_from (number + 1) rs why later.2))

fault_of : (first : List (List ℕ)) (rows : List (List (List ℕ))) (why : ListFault)
    → IsCauseOf (first ∷ rows) why → IsFaultOf (first ∷ rows) (read_fault why)
fault_of first rows why (inl (NoText, is, no_text)) = inl (ap read_fault is, no_text)
fault_of first rows why (inl (FieldCount count, is, met)) = inr
    (inl (ap read_fault is, met.0, λ same. met.2 (sym met.1 ∙ ap length same)))
fault_of first rows why (inl (Column at, is, met)) = inr (inl
    (ap read_fault is, met.0.0, λ same. met_not_first first 0 header_wants at (rw same header_meets) met.1))
fault_of first rows why (inr later) = inr (inr (later.0, fault_from 1 rows why later.1))

pub cause_is_met_first : CauseIsMetFirst
cause_is_met_first text why ([], all, is) = inl (ap read_fault is, all)
cause_is_met_first text why (first ∷ rows, (state, rest, front, none), is) =
    inr (first ∷ rows, (state, rest, front), fault_of first rows why is)
