-- A text has one list of records, and these are a list in one way or meet one fault first.
use Rattle.std.proofs.Common.{◌≡◌, ◌⊎◌, nat_lt, true, ◌+◌, ◌++◌, ◌∙◌, ℕ, List, []}
use Rattle.std.proofs.Common.{◌∷◌, Option, Some, None, ap, refl, sym, inl, inr}
use Rattle.std.specs.List.{AllZip}
use Rattle.std.specs.List.{list_all}
use Rattle.std.specs.Str.{IsUtf8}
use Rattle.std.proofs.lemmas.Bool.{and_parts}
use Rattle.std.proofs.lemmas.Str.{IsUtf8-from_ascii}
use Rattle.sheet_types.proofs.Basics.{some_once}
use Rattle.sheet_types.proofs.Digits.{IsAscii-from_test}
use Rattle.csv.specs.Reading.{AreRecords, Reached}
use Rattle.csv.specs.Records.{AllText}
use Rattle.csv.specs.declared.parser.Config.{Config}
use Rattle.csv.specs.declared.parser.State.{State}
use Rattle.sheet_types.specs.declared.command.Request.{Request}
use Rattle.request_csv.specs.Requests.{header}
use Rattle.request_csv.specs.RequestLists.{AreList, Asks, IsFaultFrom, IsFaultOf}
use Rattle.request_csv.specs.ListLaws.{HasOneList, ListGoesOn, ListHasNoFault, OneIsFirst}
use Rattle.request_csv.specs.declared.lists.ReadFault.{ReadFault}
use Rattle.request_csv.proofs.OneRequest.{same_request}

never_both : {A : Type 0} (o : Option A) (x : A) → o ≡ Some x → o ≡ None → ⊥
never_both None x e f = cc
never_both (Some z) x e f = cc

heads : {A : Type 0} (x y : A) (xs ys : List A) → x ≡ y → xs ≡ ys → (x ∷ xs) ≡ (y ∷ ys)
heads x y xs ys e f = λ i. e i ∷ f i

-- some records at the start of a text are a front of all its records
front_of_all : (cfg : Config) (s : State) (xs : List ℕ) (all front : List (List (List ℕ))) (t : State)
    (ys : List ℕ) → AreRecords cfg s xs all → Reached cfg s xs front t ys
    → (more : List (List (List ℕ))) × (all ≡ front ++ more)
unfolding Reached
front_of_all cfg s xs all [] t ys whole front = (all, refl)
front_of_all cfg s xs [] (b ∷ bs) t ys (u, zs, here, none) (q, next, same, rest) =
    absurd (never_both _ q next (rw (here.0, here.1) none))
front_of_all cfg s xs (a ∷ ds) (b ∷ bs) t ys (u, zs, (p, first, is, more), none) (q, next, same, rest) =
    let one : p ≡ q = some_once _ p q first next in
    let tail = front_of_all cfg q.1 q.2 ds bs t ys (u, zs, rw one at more, none) rest in
    let head : a ≡ b = is ∙ ap (λ r. r.0) one ∙ sym same in
    (tail.0, heads a b _ _ head tail.1)

-- of two fronts one goes on where the other ends
fronts : (cfg : Config) (s : State) (xs : List ℕ) (one other : List (List (List ℕ))) (t u : State)
    (ys zs : List ℕ) → Reached cfg s xs one t ys → Reached cfg s xs other u zs
    → ((more : List (List (List ℕ))) × (other ≡ one ++ more))
    ⊎ ((more : List (List (List ℕ))) × (one ≡ other ++ more))
unfolding Reached
fronts cfg s xs [] other t u ys zs here there = inl (other, refl)
fronts cfg s xs (a ∷ ds) [] t u ys zs here there = inr (a ∷ ds, refl)
fronts cfg s xs (a ∷ ds) (b ∷ bs) t u ys zs (p, first, is, more) (q, next, same, rest) =
    let one : p ≡ q = some_once _ p q first next in
    let head : a ≡ b = is ∙ ap (λ r. r.0) one ∙ sym same in
    go head (fronts cfg q.1 q.2 ds bs t u ys zs (rw one at more) rest)
  where
    go : a ≡ b → ((more : List (List (List ℕ))) × (bs ≡ ds ++ more))
        ⊎ ((more : List (List (List ℕ))) × (ds ≡ bs ++ more))
        → ((more : List (List (List ℕ))) × ((b ∷ bs) ≡ (a ∷ ds) ++ more))
        ⊎ ((more : List (List (List ℕ))) × ((a ∷ ds) ≡ (b ∷ bs) ++ more))
    go head (inl tail) = inl (tail.0, heads b a _ _ (sym head) tail.1)
    go head (inr tail) = inr (tail.0, heads a b _ _ head tail.1)

-- a fault stays the first, whatever records follow
fault_from_grows : (number : ℕ) (rows more : List (List (List ℕ))) (fault : ReadFault)
    → IsFaultFrom number rows fault → IsFaultFrom number (rows ++ more) fault
fault_from_grows number [] more fault met = absurd met
fault_from_grows number (r ∷ rs) more fault (inl unread) = inl unread
fault_from_grows number (r ∷ rs) more fault (inr (inl none)) = inr (inl none)
fault_from_grows number (r ∷ rs) more fault (inr (inr (q, asked, later))) =
    inr (inr (q, asked, fault_from_grows (number + 1) rs more fault later))

fault_grows : (rows more : List (List (List ℕ))) (fault : ReadFault) → IsFaultOf rows fault
    → IsFaultOf (rows ++ more) fault
fault_grows [] more fault met = absurd met
fault_grows (r ∷ rs) more fault (inl unread) = inl unread
fault_grows (r ∷ rs) more fault (inr (inl wrong)) = inr (inl wrong)
fault_grows (r ∷ rs) more fault (inr (inr (is, later))) = inr (inr (is, fault_from_grows 1 rs more fault later))

plain : (text : List ℕ) → list_all (λ c. nat_lt c 128) text ≡ true → IsUtf8 text
plain text h = IsUtf8-from_ascii text (IsAscii-from_test text h)

all_plain : (fields : List (List ℕ)) → list_all (list_all (λ c. nat_lt c 128)) fields ≡ true → AllText fields
unfolding AllText
all_plain [] h = tt
all_plain (f ∷ fs) h =
    let parts = and_parts (list_all (λ c. nat_lt c 128) f) (list_all (list_all (λ c. nat_lt c 128)) fs) h in
    (plain f parts.0, all_plain fs parts.1)

-- the names of the columns are text
header_is_text : AllText header
header_is_text = all_plain header refl

-- requests have no fault
no_fault_from : (number : ℕ) (rows : List (List (List ℕ))) (requests : List Request) (fault : ReadFault)
    → AllZip Asks rows requests → IsFaultFrom number rows fault → ⊥
no_fault_from number [] requests fault asked met = met
no_fault_from number (r ∷ rs) [] fault asked met = asked
no_fault_from number (r ∷ rs) (q ∷ qs) fault asked (inl unread) = unread.1 asked.0.0
no_fault_from number (r ∷ rs) (q ∷ qs) fault asked (inr (inl none)) = none.1.1 q asked.0.1
no_fault_from number (r ∷ rs) (q ∷ qs) fault asked (inr (inr later)) =
    no_fault_from (number + 1) rs qs fault asked.1 later.2

no_fault : (rows : List (List (List ℕ))) (requests : List Request) (fault : ReadFault) → AreList rows requests
    → IsFaultOf rows fault → ⊥
no_fault [] requests fault are met = met
no_fault (r ∷ rs) requests fault are (inl unread) = unread.1 (rw are.0 header_is_text)
no_fault (r ∷ rs) requests fault are (inr (inl wrong)) = wrong.2 are.0
no_fault (r ∷ rs) requests fault are (inr (inr later)) = no_fault_from 1 rs requests fault are.1 later.1

-- one fault is the first in records
same_fault_from : (number : ℕ) (rows : List (List (List ℕ))) (f g : ReadFault) → IsFaultFrom number rows f
    → IsFaultFrom number rows g → f ≡ g
same_fault_from number [] f g one other = absurd one
same_fault_from number (r ∷ rs) f g (inl one) (inl other) = one.0 ∙ sym other.0
same_fault_from number (r ∷ rs) f g (inl one) (inr (inl other)) = absurd (one.1 other.1.0)
same_fault_from number (r ∷ rs) f g (inl one) (inr (inr other)) = absurd (one.1 other.1.0)
same_fault_from number (r ∷ rs) f g (inr (inl one)) (inl other) = absurd (other.1 one.1.0)
same_fault_from number (r ∷ rs) f g (inr (inl one)) (inr (inl other)) = one.0 ∙ sym other.0
same_fault_from number (r ∷ rs) f g (inr (inl one)) (inr (inr other)) = absurd (one.1.1 other.0 other.1.1)
same_fault_from number (r ∷ rs) f g (inr (inr one)) (inl other) = absurd (other.1 one.1.0)
same_fault_from number (r ∷ rs) f g (inr (inr one)) (inr (inl other)) = absurd (other.1.1 one.0 one.1.1)
same_fault_from number (r ∷ rs) f g (inr (inr one)) (inr (inr other)) =
    same_fault_from (number + 1) rs f g one.2 other.2

same_fault : (rows : List (List (List ℕ))) (f g : ReadFault) → IsFaultOf rows f → IsFaultOf rows g → f ≡ g
same_fault [] f g one other = absurd one
same_fault (r ∷ rs) f g (inl one) (inl other) = one.0 ∙ sym other.0
same_fault (r ∷ rs) f g (inl one) (inr (inl other)) = absurd (one.1 other.1)
same_fault (r ∷ rs) f g (inl one) (inr (inr other)) = absurd (one.1 (rw other.0 header_is_text))
same_fault (r ∷ rs) f g (inr (inl one)) (inl other) = absurd (other.1 one.1)
same_fault (r ∷ rs) f g (inr (inl one)) (inr (inl other)) = one.0 ∙ sym other.0
same_fault (r ∷ rs) f g (inr (inl one)) (inr (inr other)) = absurd (one.2 other.0)
same_fault (r ∷ rs) f g (inr (inr one)) (inl other) = absurd (other.1 (rw one.0 header_is_text))
same_fault (r ∷ rs) f g (inr (inr one)) (inr (inl other)) = absurd (other.2 one.0)
same_fault (r ∷ rs) f g (inr (inr one)) (inr (inr other)) = same_fault_from 1 rs f g one.1 other.1

-- records are one list of requests at most
same_requests : (rows : List (List (List ℕ))) (a b : List Request) → AllZip Asks rows a → AllZip Asks rows b
    → a ≡ b
same_requests [] [] [] one other = refl
same_requests [] (q ∷ qs) b one other = absurd one
same_requests [] [] (q ∷ qs) one other = absurd other
same_requests (r ∷ rs) [] b one other = absurd one
same_requests (r ∷ rs) (q ∷ qs) [] one other = absurd other
same_requests (r ∷ rs) (p ∷ ps) (q ∷ qs) one other = rw (
  same_request r p q one.0 other.0,
  same_requests rs ps
      qs one.1 other.1,
) refl

same_list : (rows : List (List (List ℕ))) (a b : List Request) → AreList rows a → AreList rows b → a ≡ b
same_list [] a b one other = absurd one
same_list (r ∷ rs) a b one other = same_requests rs a b one.1 other.1

-- all the records of a text are one list of records
same_records : (cfg : Config) (s : State) (xs : List ℕ) (one other : List (List (List ℕ)))
    → AreRecords cfg s xs one → AreRecords cfg s xs other → one ≡ other
unfolding Reached
same_records cfg s xs [] [] here there = refl
same_records cfg s xs [] (b ∷ bs) (t, ys, here, none) (u, zs, (q, next, same, rest), end) =
    absurd (never_both _ q next (rw (here.0, here.1) none))
same_records cfg s xs (a ∷ ds) [] (t, ys, (p, first, is, more), none) (u, zs, there, end) =
    absurd (never_both _ p first (rw (there.0, there.1) end))
same_records cfg s xs (a ∷ ds) (b ∷ bs) (t, ys, (p, first, is, more), none) (u, zs, (q, next, same, rest), end) =
    let one : p ≡ q = some_once _ p q first next in
    let tail = same_records cfg q.1 q.2 ds bs (t, ys, rw one at more, none) (u, zs, rest, end) in
    let head : a ≡ b = is ∙ ap (λ r. r.0) one ∙ sym same in
    heads a b ds bs head tail

pub has_one_list : HasOneList
has_one_list text one other (rows, all, are) (lines, whole, be) =
    let same = same_records _ _ _ rows lines all whole in
    same_list lines one other (rw same at are) be

pub list_has_no_fault : ListHasNoFault
list_has_no_fault text requests fault (rows, all, are) (inl none) =
    no_list rows requests (same_records _ _ _ rows [] all none.1) are
  where
    no_list : (rows : List (List (List ℕ))) (requests : List Request) → rows ≡ [] → AreList rows requests
        → ⊥
    no_list [] requests e are = are
    no_list (r ∷ rs) requests e are = cc
list_has_no_fault text requests fault (rows, all, are) (inr (some, front, met)) =
    let grown = front_of_all _ _ _ rows some _ _ all front.2 in
    no_fault rows requests fault are (rw grown.1 (fault_grows some grown.0 fault met))

pub one_is_first : OneIsFirst
one_is_first text one other (inl first) (inl second) = first.0 ∙ sym second.0
one_is_first text one other (inl first) (inr (some, front, met)) =
    absurd (no_record some (front_of_all _ _ _ [] some _ _ first.1 front.2) met)
  where
    no_record : (some : List (List (List ℕ))) → ((more : List (List (List ℕ))) × ([] ≡ some ++ more))
        → IsFaultOf some other → ⊥
    no_record [] grown met = met
    no_record (r ∷ rs) grown met = cc grown.1
one_is_first text one other (inr (some, front, met)) (inl second) =
    absurd (no_record some (front_of_all _ _ _ [] some _ _ second.1 front.2) met)
  where
    no_record : (some : List (List (List ℕ))) → ((more : List (List (List ℕ))) × ([] ≡ some ++ more))
        → IsFaultOf some one → ⊥
    no_record [] grown met = met
    no_record (r ∷ rs) grown met = cc grown.1
one_is_first text one other (inr (rows, front, met)) (inr (lines, start, seen)) =
    go (fronts _ _ _ rows lines _ _ _ _ front.2 start.2)
  where
    go : ((more : List (List (List ℕ))) × (lines ≡ rows ++ more))
        ⊎ ((more : List (List (List ℕ))) × (rows ≡ lines ++ more)) → one ≡ other
    go (inl longer) = same_fault lines one other (rw longer.1 (fault_grows rows longer.0 one met)) seen
    go (inr longer) = same_fault rows one other met (rw longer.1 (fault_grows lines longer.0 other seen))

-- the requests of the first records are the first of the requests
first_requests : (front more : List (List (List ℕ))) (all some : List Request) → AllZip Asks (front ++ more) all
    → AllZip Asks front some → (rest : List Request) × (all ≡ some ++ rest)
first_requests [] more all [] one other = (all, refl)
first_requests [] more all (q ∷ qs) one other = absurd other
first_requests (r ∷ rs) more [] some one other = absurd one
first_requests (r ∷ rs) more (p ∷ ps) [] one other = absurd other
first_requests (r ∷ rs) more (p ∷ ps) (q ∷ qs) one other =
    let tail = first_requests rs more ps qs one.1 other.1 in
    (tail.0, heads p q _ _ (same_request r p q one.0 other.0) tail.1)

first_of_list : (front more : List (List (List ℕ))) (all some : List Request) → AreList (front ++ more) all
    → AreList front some → (rest : List Request) × (all ≡ some ++ rest)
first_of_list [] more all some one other = absurd other
first_of_list (r ∷ rs) more all some one other = first_requests rs more all some one.1 other.1

pub list_goes_on : ListGoesOn
list_goes_on text all some (rows, whole, are) (front, first, begun) =
    let grown = front_of_all _ _ _ rows front _ _ whole first.2 in
    first_of_list front grown.0 all some (rw grown.1 at are) begun
