-- Names and texts of SQL between marks. A mark inside stands twice; one that stands once is the end (SQL-92, 5.2 and
-- 5.3).
use Rattle.std.specs.Prelude.{ℕ, Bool, true, false, ◌==◌, List, [], ◌∷◌, ◌++◌, if◌then◌else◌}
use Rattle.std.specs.Prelude.{Option, Some, None, option_map}

-- with each mark twice
abbrev pub doubled : ℕ → List ℕ → List ℕ
doubled mark [] = []
doubled mark (b ∷ bs) = if b == mark then b ∷ b ∷ doubled mark bs else b ∷ doubled mark bs

abbrev pub quotation : ℕ → List ℕ → List ℕ
quotation mark name = mark ∷ (doubled mark name ++ mark ∷ [])

-- between quotation marks, a name of a table or a column
abbrev pub identifier : List ℕ → List ℕ
identifier name = quotation 34 name

-- between apostrophes, a text
abbrev pub literal : List ℕ → List ℕ
literal text = quotation 39 text

-- ---- as SQL reads them

-- a name that begins with this byte, and what stands behind it
abbrev pub with_first : ℕ → Option (List ℕ × List ℕ) → Option (List ℕ × List ℕ)
with_first b read = option_map (λ r. (b ∷ r.0, r.1)) read

-- Inside a quotation: the name, and what stands behind it; none where it does not end. The Bool says whether the last
-- byte was a
-- mark, and of which nothing is known yet.
abbrev pub read_name : ℕ → Bool → List ℕ → Option (List ℕ × List ℕ)
read_name mark false [] = None
read_name mark true [] = Some ([], [])
read_name mark false (b ∷ bs) = if b == mark then read_name mark true bs else with_first b (read_name mark false bs)
read_name mark true (b ∷ bs) = if b == mark then with_first b (read_name mark false bs) else Some ([], b ∷ bs)

-- whether a text begins with this byte
abbrev pub begins_with : ℕ → List ℕ → Bool
begins_with mark [] = false
begins_with mark (b ∷ bs) = b == mark

abbrev pub read_quotation : ℕ → List ℕ → Option (List ℕ × List ℕ)
read_quotation mark [] = None
read_quotation mark (b ∷ bs) = if b == mark then read_name mark false bs else None
