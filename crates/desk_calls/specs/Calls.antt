-- What the bytes of a connection ask of the desk: the checks, in their order. Profile, over RFC 9112 for fields and
-- RFC 9562 for UUIDs.
use Rattle.std.specs.Prelude.{◌≡◌, ◌≢◌, ◌≤◌, ◌<◌, ◌⊎◌, ℕ, Bool, true, false, ◌&&◌, ◌||◌}
use Rattle.std.specs.Prelude.{nat_eq, nat_le, nat_lt, if◌then◌else◌}
use Rattle.std.specs.Prelude.{List, [], ◌∷◌, ◌++◌, length, take, drop, map, codes, bytes_eq, Option, Some, None}
use Rattle.std.specs.List.{list_all}
use Rattle.std.specs.Char.{is_ascii_digit}
use Rattle.std.specs.Str.{str_eq_ignore_ascii_case}
use Rattle.std.specs.Str.Parse.{digits_value}
use Rattle.uuid.specs.Text.{parsed_hyphenated}
use Rattle.httparse.specs.Grammar.{RequestHead}
use Rattle.httparse.specs.Spans.{name_and_value}
use Rattle.sheet_types.specs.declared.command.Request.{Request}
use Rattle.request_json.specs.Requests.{IsRequestText}
use Rattle.desk_calls.specs.Heads.{HeadIs, HasNoHead, path_of, route_of}
use Rattle.desk_calls.specs.declared.routes.Route.{Route}
use Rattle.desk_calls.specs.declared.routes.Route.TheVariants as route
use Rattle.desk_calls.specs.declared.calls.Flaw.TheVariants.{BadOrigin, BadRequest, NoSuchPath, BadMethod, NoLength}
use Rattle.desk_calls.specs.declared.calls.Flaw.TheVariants.{TooLarge}
use Rattle.desk_calls.specs.declared.calls.Call.{Call}
use Rattle.desk_calls.specs.declared.calls.Call.TheVariants.{Refused, Apply, Packages, Manifest, Receipt}
use Rattle.desk_calls.specs.declared.calls.Asked.{Asked}
use Rattle.desk_calls.specs.declared.calls.Asked.TheVariants.{Now, Body}
use Rattle.desk_calls.specs.declared.lengths.Values.{Values}
use Rattle.desk_calls.specs.declared.lengths.Values.TheVariants as values

-- ---- fields

-- whether a field has this name, letters in either case
abbrev pub is_named : List ℕ → List ℕ × List ℕ → Bool
is_named name field = str_eq_ignore_ascii_case field.0 name

-- the values of the fields of this name, which is in lower case
abbrev pub values_of : List ℕ → List (List ℕ × List ℕ) → List (List ℕ)
values_of name [] = []
values_of name (field ∷ fields) = if is_named name field then field.1
    ∷ values_of name fields else values_of name fields

-- how many values there are, and which where there is one
abbrev pub AreValues : List (List ℕ) → Values → Type 0
AreValues found values.None = found ≡ []
AreValues found (values.One value) = found ≡ value.now ∷ []
AreValues found values.More = (one : List ℕ) × (other : List ℕ) × (more : List (List ℕ))
    × (found ≡ one ∷ other ∷ more)

-- one to nine digits
abbrev pub is_length : List ℕ → Bool
is_length text = nat_le 1 (length text) && nat_le (length text) 9 && list_all is_ascii_digit text

-- the body that digits announce, if it is no larger than a body may be
abbrev pub digits_ask : List ℕ → Asked
digits_ask text = if nat_lt 2200000 (digits_value 10 text) then Now (Refused TooLarge) else Body (digits_value 10 text)

-- the body that the value of a Content-Length announces, or what is wrong with it
abbrev pub length_asks : List ℕ → Asked
length_asks text = if is_length text then digits_ask text else Now (Refused BadRequest)

-- a body that is asked is no larger than that
abbrev pub IsSmall : Asked → Type 0
IsSmall (Now call) = Unit {0}
IsSmall (Body size) = size ≤ 2200000

-- the same of all the Content-Length fields that there are
abbrev pub lengths_ask : List (List ℕ) → Asked
lengths_ask [] = Now (Refused NoLength)
lengths_ask (text ∷ []) = length_asks text
lengths_ask (text ∷ other ∷ more) = Now (Refused BadRequest)

-- and of the Transfer-Encoding fields, which come before
abbrev pub encodings_ask : List (List ℕ) → List (List ℕ) → Asked
encodings_ask [] lengths = lengths_ask lengths
encodings_ask (encoding ∷ encodings) lengths = Now (Refused BadRequest)

-- the body that the fields of a request announce, or what is wrong with them
abbrev pub fields_ask : List (List ℕ × List ℕ) → Asked
fields_ask fields = encodings_ask (values_of (codes "transfer-encoding") fields)
    (values_of (codes "content-length") fields)

-- ---- heads

abbrev pub method_of : Route → List ℕ
method_of route.Requests = codes "POST"
method_of route.Packages = codes "GET"
method_of route.Manifest = codes "GET"
method_of route.Receipt = codes "GET"

-- the UUID that a path has between these two texts, if what stands there is one
abbrev pub NamesBetween : List ℕ → List ℕ → List ℕ → Option (List ℕ) → Type 0
NamesBetween front back path (Some id) = (text : List ℕ) × (path ≡ front ++ (text ++ back))
    × (parsed_hyphenated text ≡ Some id)
NamesBetween front back path None = (text : List ℕ) → path ≡ front ++ (text ++ back)
    → parsed_hyphenated text ≡ None

-- what a head asks on its route, whose method it has
abbrev pub RouteAsks : Route → RequestHead → Asked → Type 0
RouteAsks route.Requests h asked = asked ≡ fields_ask (map name_and_value h.fields)
RouteAsks route.Packages h asked = asked ≡ Now Packages
RouteAsks route.Manifest h asked = (id : Option (List ℕ)) × (asked ≡ Now (Manifest id))
    × NamesBetween (codes "/packages/") (codes "/manifest") (path_of h.target) id
RouteAsks route.Receipt h asked = (id : Option (List ℕ)) × (asked ≡ Now (Receipt id))
    × NamesBetween (codes "/receipts/") [] (path_of h.target) id

-- the same, by whether it has the route's method
abbrev pub MethodAsks : Bool → Route → RequestHead → Asked → Type 0
MethodAsks true to h asked = RouteAsks to h asked
MethodAsks false to h asked = asked ≡ Now (Refused BadMethod)

-- the same, by the route of its path
abbrev pub PathAsks : Option Route → RequestHead → Asked → Type 0
PathAsks None h asked = asked ≡ Now (Refused NoSuchPath)
PathAsks (Some to) h asked = MethodAsks (bytes_eq h.method (method_of to)) to h asked

-- Whether the Origin fields of a request let it pass (RFC 6454, section 7): it has none, as that of
-- a program that is no browser, or the only one is the desk's own address.
abbrev pub origins_pass : List ℕ → List (List ℕ) → Bool
origins_pass own [] = true
origins_pass own (origin ∷ []) = bytes_eq origin own
origins_pass own (origin ∷ other ∷ more) = false

-- whether a text is empty, or a colon and a port, which may be empty too (RFC 3986, section 3.2.3)
abbrev pub is_port : List ℕ → Bool
is_port [] = true
is_port (first ∷ digits) = nat_eq first 58 && list_all is_ascii_digit digits

-- whether a text is this name, letters in either case, with any port or none
abbrev pub is_host : List ℕ → List ℕ → Bool
is_host name text = str_eq_ignore_ascii_case (take (length name) text) name && is_port (drop (length name) text)

-- whether a text is a name of the machine that the desk runs on
abbrev pub is_this_machine : List ℕ → Bool
is_this_machine text = is_host (codes "127.0.0.1") text || is_host (codes "localhost") text

-- Whether the Host fields of a request let it pass (RFC 9110, section 7.2): it has none, as that of HTTP/1.0, or the
-- only one is a name of this machine. The port is not looked at, since a tunnel may have another.
abbrev pub hosts_pass : List (List ℕ) → Bool
hosts_pass [] = true
hosts_pass (host ∷ []) = is_this_machine host
hosts_pass (host ∷ other ∷ more) = false

-- whether the fields of a request let its sender pass: no page of another address asks, by its Origin or its Host
abbrev pub sender_passes : List ℕ → List (List ℕ × List ℕ) → Bool
sender_passes own fields = origins_pass own (values_of (codes "origin") fields)
    && hosts_pass (values_of (codes "host") fields)

-- what a head asks, by whether its sender passes
abbrev pub SenderAsks : Bool → RequestHead → Asked → Type 0
SenderAsks true h asked = PathAsks (route_of (path_of h.target)) h asked
SenderAsks false h asked = asked ≡ Now (Refused BadOrigin)

-- what a head asks of a desk with this address
abbrev pub HeadAsks : List ℕ → RequestHead → Asked → Type 0
HeadAsks own h asked = SenderAsks (sender_passes own (map name_and_value h.fields)) h asked

-- ---- bodies

-- what a body asks
abbrev pub BodyAsks : List ℕ → Call → Type 0
BodyAsks body (Refused flaw) = (flaw ≡ BadRequest) × ((request : Request) → ¬ IsRequestText body request)
BodyAsks body (Apply request) = IsRequestText body request
BodyAsks body Packages = ⊥
BodyAsks body (Manifest id) = ⊥
BodyAsks body (Receipt id) = ⊥

-- what a head asks with the bytes after it: a body may be too short, and what follows it is not looked at
abbrev pub RestAsks : Asked → List ℕ → Call → Type 0
RestAsks (Now call) rest asked = asked ≡ call
RestAsks (Body size) rest asked = ((length rest < size) × (asked ≡ Refused BadRequest))
    ⊎ ((size ≤ length rest) × BodyAsks (take size rest) asked)

-- ---- all of it

-- a head and what follows it ask this of a desk with this address
abbrev pub WholeAsks : List ℕ → List ℕ → Call → Type 0
WholeAsks own xs call = (h : RequestHead) × (rest : List ℕ) × HeadIs xs h rest × (asked : Asked)
    × HeadAsks own h asked
    × RestAsks asked rest call

-- what all the bytes of a connection ask, where there is one
abbrev pub IsCall : List ℕ → List ℕ → Call → Type 0
IsCall own xs call = ((xs ≢ []) × HasNoHead xs × (call ≡ Refused BadRequest)) ⊎ WholeAsks own xs call

-- ---- a law

-- the bytes of a connection ask one call at most
abbrev pub IsOneCall : Type 0
IsOneCall = (own xs : List ℕ) (one other : Call) → IsCall own xs one → IsCall own xs other → one ≡ other
