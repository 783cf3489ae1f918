-- Which of some UUIDs a word names by its first digits, and which comes nearest. Profile, over RFC 9562 (UUIDs).
use Rattle.std.specs.Prelude.{◌≡◌, ◌<◌, ◌≤◌, ◌+◌, ◌==◌, ◌++◌, ◌∷◌, [], ℕ, Bool}
use Rattle.std.specs.Prelude.{false, List, length, filter, nat_lt}
use Rattle.std.specs.Prelude.{Option, Some, None, if◌then◌else◌}
use Rattle.std.specs.Char.{to_ascii_lowercase}
use Rattle.std.specs.List.{AllByRecursion}
use Rattle.sheet_types.specs.Texts.{uuid_text}
use Rattle.command_verbs.specs.Names.{begins}
use Rattle.command_names.specs.declared.searching.Found.{Found}
use Rattle.command_names.specs.declared.searching.Found.TheVariants.{One, Two, Nearest}

-- how many first characters of a word a text has, where capitals of the word count as small letters
abbrev pub shared : List ℕ → List ℕ → ℕ
shared [] text = 0
shared (digit ∷ digits) [] = 0
shared (digit ∷ digits) (byte ∷ bytes) = if to_ascii_lowercase digit == byte then shared digits bytes + 1 else 0

abbrev pub shared_by : List ℕ → List ℕ → ℕ
shared_by word id = shared word (uuid_text id)

-- a word may name a UUID, whose text begins with it
abbrev pub may_name : List ℕ → List ℕ → Bool
may_name word id = begins word (uuid_text id)

-- ---- what a search is to find

-- This one shares the most characters with the word: more than each before it, and no fewer than each behind it. Or
-- none shares any.
abbrev pub IsNearest : List ℕ → List (List ℕ) → Option (List ℕ) → Type 0
IsNearest word ids None = AllByRecursion (λ id. shared_by word id ≡ 0) ids
IsNearest word ids (Some nearest) =
    (front back : List (List ℕ)) × (ids ≡ front ++ (nearest ∷ back)) × (0 < shared_by word nearest)
    × AllByRecursion (λ id. shared_by word id < shared_by word nearest) front
    × AllByRecursion (λ id. shared_by word id ≤ shared_by word nearest) back

-- The only one that the word may name; or the first two that it may; or it may name none, and this one is nearest.
abbrev pub IsFound : List ℕ → List (List ℕ) → Found → Type 0
IsFound word ids (One id) = filter (may_name word) ids ≡ id ∷ []
IsFound word ids (Two one other) = (more : List (List ℕ)) × (filter (may_name word) ids ≡ one ∷ (other ∷ more))
IsFound word ids (Nearest nearest) = (filter (may_name word) ids ≡ []) × IsNearest word ids nearest

-- ---- how it is found, one after the other

abbrev pub named_too : Found → List ℕ → Found
named_too (Nearest nearest) id = One id
named_too (One first) id = Two first id
named_too (Two first second) id = Two first second

abbrev pub is_nearer : List ℕ → Found → List ℕ → Bool
is_nearer word (Nearest (Some nearest)) id = nat_lt (shared_by word nearest) (shared_by word id)
is_nearer word (Nearest None) id = nat_lt 0 (shared_by word id)
is_nearer word (One first) id = false
is_nearer word (Two first second) id = false

abbrev pub found_with : List ℕ → Found → List ℕ → Found
found_with word found id =
    if shared_by word id == length word then named_too found id
    else if is_nearer word found id then Nearest (Some id) else found
