-- What is told of a desk while it serves (profile).
use Rattle.std.specs.Prelude.{ℕ, List, ◌++◌, map, codes, decimal, nat_lt, if◌then◌else◌}

abbrev pub listening_line : ℕ → List ℕ
listening_line port = codes "listening on 127.0.0.1:" ++ (decimal port ++ codes "\n")

-- a byte that could not be seen is shown as a question mark
abbrev pub shown : ℕ → ℕ
shown byte = if nat_lt byte 32 then 63 else if nat_lt 126 byte then 63 else byte

-- the moment, the first line of the request, and the status of the response
abbrev pub exchange_line : List ℕ → List ℕ → List ℕ → List ℕ
exchange_line moment request status =
    moment ++ codes " " ++ map shown request ++ codes " " ++ status ++ codes "\n"
