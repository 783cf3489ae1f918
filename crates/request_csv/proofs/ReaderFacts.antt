-- A reader of a list goes on by one record.
use Rattle.std.proofs.Common.{◌≡◌, ◌⊎◌, ◌+◌, ℕ, List, [], ◌∷◌, ◌++◌, Option, Some, None}
use Rattle.std.proofs.Common.{IfSome, true, false, refl, sym, inl, inr, option_map, length, length-append, arith}
use Rattle.csv.specs.Reading.{Reached, ReadRecord, default_config, source_of, strip_bom}
use Rattle.csv.specs.declared.reader.Reader.{Reader}
use Rattle.csv.specs.declared.parser.State.TheVariants as st
use Rattle.csv.proofs.ReadFacts.{rows-more, rows-end}
use Rattle.std.proofs.lemmas.Slice.Zip.{all_zipped_more}
use Rattle.sheet_types.specs.declared.command.Request.{Request}
use Rattle.request_csv.specs.Requests.{header}
use Rattle.request_csv.specs.RequestLists.{AreAllRecords, AreFirstRecords, AreList, Asks, IsFaultFrom, IsFaultOf}
use Rattle.request_csv.specs.RequestLists.{IsList, MeetsFirst}
use Rattle.request_csv.specs.ListReading.{IsBegun, IsListOfSo, IsOfReader, Stands}
use Rattle.request_csv.specs.declared.lists.ReadFault.{ReadFault}
use Rattle.request_csv.specs.declared.readers.ListReader.{ListReader}
use Rattle.request_csv.specs.declared.lists.ReadFault.TheVariants.{Header, Memory, Read}
use Rattle.request_csv.proofs.ListFacts.{fault_after}

-- the records of these requests were read, and a reader stands behind them
abbrev pub AreRead : {R : Type 0} → (R → Option (List ℕ)) → Reader R → List Request → List ℕ → Type 0
AreRead rem a requests text = (rows : List (List (List ℕ))) × (y : List ℕ) × (source_of rem a ≡ Some y)
    × Reached default_config st.StartRecord (strip_bom text) rows a.state y × AreList rows requests

-- a reader that begins
module _ {R : Type 0} (rem : R → Option (List ℕ)) (a b : Reader R) (config : a.config ≡ default_config)
    (begins : a.state ≡ st.StartRecord) where
  begun : (text : List ℕ) → source_of rem a ≡ Some (strip_bom text)
      → (y : List ℕ) × (source_of rem a ≡ Some y) × Reached default_config st.StartRecord (strip_bom text) []
      a.state y
  unfolding Reached
  begun text e = (strip_bom text, e, (sym begins, refl))

  -- the header is read
  pub header_read : (o : Option (List ℕ)) (f : List (List ℕ)) → source_of rem a ≡ option_map strip_bom o
      → ReadRecord rem a b true f → f ≡ header
      → IfSome o (AreRead rem b [])
  header_read None f e r is = tt
  header_read (Some text) f e r is =
      let s = begun text e in
      let m = rows-more rem a b f default_config st.StartRecord (strip_bom text) s.0 [] config s.1 s.2 r in
      (f ∷ [], m.0, m.1, m.2, (is, tt))

  -- the first record is no header
  pub header_met : (o : Option (List ℕ)) (f : List (List ℕ)) (met : ReadFault)
      → source_of rem a ≡ option_map strip_bom o → ReadRecord rem a b true f
      → IsFaultOf (f ∷ []) met → IfSome o (λ text. MeetsFirst text met)
  header_met None f met e r fault = tt
  header_met (Some text) f met e r fault =
      let s = begun text e in
      let m = rows-more rem a b f default_config st.StartRecord (strip_bom text) s.0 [] config s.1 s.2 r in
      inr (f ∷ [], (b.state, m.0, m.2), fault)

  -- there is no record
  pub nothing_met : (o : Option (List ℕ)) → source_of rem a ≡ option_map strip_bom o
      → ReadRecord rem a b false []
      → IfSome o (λ text. MeetsFirst text Header)
  nothing_met None e r = tt
  nothing_met (Some text) e r =
      let s = begun text e in
      inl (refl, (a.state, s.0, s.2, rows-end rem a b [] default_config s.0 config s.1 r))

list_more : (rows : List (List (List ℕ))) (requests : List Request) (fields : List (List ℕ)) (request : Request)
    → AreList rows requests → Asks fields request
    → AreList (rows ++ fields ∷ []) (requests ++ request ∷ [])
list_more [] requests fields request asked one = absurd asked
list_more (first ∷ rows) requests fields request asked one = (asked.0, all_zipped_more Asks _ _ _ _ asked.1 one)

fault_next : (rows : List (List (List ℕ))) (requests : List Request) (number : ℕ) (fields : List (List ℕ))
    (met : ReadFault) → number ≡ length requests + 1 → AreList rows requests
    → IsFaultFrom number (fields ∷ []) met → IsFaultOf (rows ++ fields ∷ []) met
fault_next [] requests number fields met counted asked fault = absurd asked
fault_next (first ∷ rows) requests number fields met counted asked fault =
    let place : number ≡ 1 + length requests = omega (arith, counted) in
    inr (inr (asked.0, fault_after 1 rows requests (fields ∷ []) met asked.1 (rw place at fault)))

-- a reader that goes on
module _ {R : Type 0} (rem : R → Option (List ℕ)) (a b : Reader R) (config : a.config ≡ default_config)
    (requests : List Request) where
  -- a request more is read
  pub request_read : (o : Option (List ℕ)) (f : List (List ℕ)) (request : Request)
      → IfSome o (AreRead rem a requests) → ReadRecord rem a b true f → Asks f request
      → IfSome o (AreRead rem b (requests ++ request ∷ []))
  request_read None f request inv r asks = tt
  request_read (Some text) f request (rows, y, left, reached, list) r asks =
      let m = rows-more rem a b f default_config st.StartRecord (strip_bom text) y rows config left reached r in
      (rows ++ f ∷ [], m.0, m.1, m.2, list_more rows requests f request list asks)

  -- a record is no request
  pub record_met : (o : Option (List ℕ)) (f : List (List ℕ)) (number : ℕ) (met : ReadFault)
      → number ≡ length requests + 1 → IfSome o (AreRead rem a requests) → ReadRecord rem a b true f
      → IsFaultFrom number (f ∷ []) met → IfSome o (λ text. MeetsFirst text met)
  record_met None f number met counted inv r fault = tt
  record_met (Some text) f number met counted (rows, y, left, reached, list) r fault =
      let m = rows-more rem a b f default_config st.StartRecord (strip_bom text) y rows config left reached r in
      inr (rows ++ f ∷ [], (b.state, m.0, m.2), fault_next rows requests number f met counted list fault)

  -- all is read
  pub all_read : (o : Option (List ℕ)) → IfSome o (AreRead rem a requests) → ReadRecord rem a b false []
      → IfSome o (λ text. IsList text requests)
  all_read None inv r = tt
  all_read (Some text) (rows, y, left, reached, list) r =
      (rows, (a.state, y, reached, rows-end rem a b [] default_config y config left r), list)

-- a reader that stands behind requests has a text that begins with them
pub stands_begun : {R : Type 0} (rem : R → Option (List ℕ)) (text : Option (List ℕ)) (list : ListReader R)
    (requests : List Request) → Stands rem text list requests → IfSome text (λ t. IsBegun t requests)
stands_begun rem None list requests it = tt
stands_begun rem (Some text) list requests it = let read = it.read in
    (read.0, (list.rows.rdr.state, read.1, read.3), read.4)

-- a record that is none, after these requests
pub request_met : {R : Type 0} (rem : R → Option (List ℕ)) (list : ListReader R) (b : Reader R)
    (NeverFails : Type 0) (number : ℕ) (f : List (List ℕ)) (met : ReadFault)
    → (met ≡ Memory) ⊎ IsFaultFrom number (f ∷ []) met → number ≡ list.count + 1
    → ((text : Option (List ℕ)) (before : List Request) → Stands rem text list before
    → ReadRecord rem list.rows.rdr b true f)
    → IsOfReader NeverFails met ⊎ ((text : Option (List ℕ)) (before : List Request)
    → Stands rem text list before → IfSome text (λ t. MeetsFirst t met))
request_met rem list b NeverFails number f met (inl want) counted step = inl (inl want)
request_met rem list b NeverFails number f met (inr fault) counted step = inr (λ text before stands.
    record_met rem list.rows.rdr b stands.config before text f number met (omega (arith, counted, stands.counted))
    stands.read (step text before stands) fault)

-- so many requests of this text were read
abbrev pub HasRead : {R : Type 0} → (R → Option (List ℕ)) → Option (List ℕ) → ℕ → ListReader R
    → Type 0
HasRead rem text count list = (requests : List Request) × (length requests ≡ count) × Stands rem text list requests

-- one more was read
pub one_more_read : {R : Type 0} (rem : R → Option (List ℕ)) (text : Option (List ℕ)) (count : ℕ)
    (list list' : ListReader R) (request : Request) → HasRead rem text count list
    → ((o : Option (List ℕ)) (before : List Request) → Stands rem o list before
    → Stands rem o list' (before ++ request ∷ []))
    → HasRead rem text (count + 1) list'
one_more_read rem text count list list' request (before, long, stands) more =
    (before ++ request ∷ [], omega (arith, long, length-append before (request ∷ [])), more text before stands)

-- all were
pub so_many : {R : Type 0} (rem : R → Option (List ℕ)) (text : Option (List ℕ)) (count : ℕ)
    (list : ListReader R) → HasRead rem text count list
    → ((o : Option (List ℕ)) (before : List Request) → Stands rem o list before
    → IfSome o (λ t. IsList t before))
    → IsListOfSo count text
so_many rem text count list (before, long, stands) end = (before, long, end text before stands)

-- a fault that was met
pub any_met : {R : Type 0} (rem : R → Option (List ℕ)) (text : Option (List ℕ)) (count : ℕ)
    (list : ListReader R) (NeverFails : Type 0) (met : ReadFault) → HasRead rem text count list
    → IsOfReader NeverFails met ⊎ ((o : Option (List ℕ)) (before : List Request) → Stands rem o list before
    → IfSome o (λ t. MeetsFirst t met))
    → IsOfReader NeverFails met ⊎ IfSome text (λ t. MeetsFirst t met)
any_met rem text count list NeverFails met read (inl why) = inl why
any_met rem text count list NeverFails met (before, long, stands) (inr first) = inr (first text before stands)

module _ (NeverFails : Type 0) (o : Option (List ℕ)) (met : ReadFault) where
  pub any_fault : IsOfReader NeverFails met ⊎ IfSome o (λ text. MeetsFirst text met) → (met ≡ Read)
      ⊎ ((met ≡ Memory) ⊎ IfSome o (λ text. MeetsFirst text met))
  any_fault (inl (inl want)) = inr (inl want)
  any_fault (inl (inr failed)) = inl failed.0
  any_fault (inr first) = inr (inr first)

  pub sure_fault : IsOfReader NeverFails met ⊎ IfSome o (λ text. MeetsFirst text met) → NeverFails
      → (met ≡ Memory) ⊎ IfSome o (λ text. MeetsFirst text met)
  sure_fault (inl (inl want)) never = inl want
  sure_fault (inl (inr failed)) never = absurd (failed.1 never)
  sure_fault (inr first) never = inr first
