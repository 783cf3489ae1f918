-- The bytes of a request that asks a desk to carry out a command (HTTP/1.1, RFC 9112). Path, field and body are
-- profile.
use Rattle.std.specs.Prelude.{ℕ, List, ◌++◌, codes, decimal, length, flat_map, String, string_bytes}

-- some bytes behind their number
abbrev pub counted : List ℕ → List ℕ
counted bytes = decimal (length bytes) ++ (codes "\n" ++ bytes)

-- a word, and the end of its line
abbrev pub word_text : {Z : Type 0} → String Z → List ℕ
word_text word = counted (string_bytes word) ++ codes "\n"

-- how many words there are, each of them, and what standard input has
abbrev pub body_text : {Z : Type 0} → List (String Z) → List ℕ → List ℕ
body_text words input =
    decimal (length words) ++ (codes "\n" ++ (flat_map word_text words ++ counted input))

-- the parts of a head
abbrev pub start_text : ℕ → List ℕ
start_text port = codes "POST /commands HTTP/1.1\r\nHost: 127.0.0.1:" ++ decimal port

abbrev pub key_text : List ℕ → List ℕ
key_text key = codes "\r\nSheetdesk-Key: " ++ key

abbrev pub size_text : ℕ → List ℕ
size_text size = codes "\r\nContent-Length: " ++ (decimal size ++ codes "\r\n\r\n")

-- the head of a request whose body has so many bytes
abbrev pub head_text : ℕ → List ℕ → ℕ → List ℕ
head_text port key size = start_text port ++ (key_text key ++ size_text size)

-- the whole request
abbrev pub request_text : {Z : Type 0} → ℕ → List ℕ → List (String Z) → List ℕ → List ℕ
request_text port key words input = head_text port key (length (body_text words input)) ++ body_text words input
