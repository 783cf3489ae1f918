-- The head of a request at the front of some bytes (RFC 9112, as `httparse` reads it), and the routes of its path (as
-- `matchit` reads them). Limits and routes are profile.
use Rattle.std.specs.Prelude.{◌≡◌, ◌≢◌, ◌≤◌, ℕ, List, [], length, codes, Result, Ok, Err, Option}
use Rattle.std.specs.Prelude.{option_map, nat_eq}
use Rattle.std.specs.List.{before_first}
use Rattle.httparse.specs.Grammar.{RequestHead, ReadsRequest, HasNoRequest, print_request}
use Rattle.httparse.specs.Spans.{IsRequestAt, IsRequestOf, IsRequestWithin, RequestOverflows}
use Rattle.httparse.specs.declared.spans.HeaderSpan.{HeaderSpan}
use Rattle.matchit.specs.Rows.{RowsOf}
use Rattle.matchit.specs.Router.{RouteOf, route_from}
use Rattle.matchit.specs.Order.{placed}
use Rattle.matchit.specs.Route.{Scan, parse_route}
use Rattle.matchit.specs.Seek.{first}
use Rattle.matchit.specs.declared.error.InsertError.{InsertError}
use Rattle.desk_calls.specs.declared.heads.Gathered.{Gathered}
use Rattle.desk_calls.specs.declared.heads.Gathered.TheVariants.{Nothing, Bad, Head}
use Rattle.desk_calls.specs.declared.heads.Judged.{Judged}
use Rattle.desk_calls.specs.declared.heads.Judged.TheVariants.{Whole, Part, Never}
use Rattle.desk_calls.specs.declared.routes.Route.{Route}
use Rattle.desk_calls.specs.declared.routes.Route.TheVariants.{Requests, Packages, Manifest, Receipt}

-- the bytes begin with a head that the desk takes: of 16,384 bytes at most with its empty line, and of 64 fields at
-- most
pub record HeadIs (xs : List ℕ) (h : RequestHead) (rest : List ℕ) : Type 0 where
  pub reads : ReadsRequest xs h rest
  pub short : length (print_request h) ≤ 16384
  pub few : length h.fields ≤ 64

-- they begin with none
abbrev pub HasNoHead : List ℕ → Type 0
HasNoHead xs = (h : RequestHead) (rest : List ℕ) → ¬ (HeadIs xs h rest)

-- what was gathered of a reader's bytes
abbrev pub Gathers : List ℕ → List ℕ → List HeaderSpan → Gathered → Type 0
Gathers xs input headers Nothing = xs ≡ []
Gathers xs input headers Bad = (xs ≢ []) × HasNoHead xs
Gathers xs input headers (Head spans) = (h : RequestHead) × (rest : List ℕ) × HeadIs xs h rest
    × IsRequestAt input headers spans h

-- the spans of a head lie in the input
abbrev pub LiesWithin : List ℕ → List HeaderSpan → Gathered → Type 0
LiesWithin input headers Nothing = Unit {0}
LiesWithin input headers Bad = Unit {0}
LiesWithin input headers (Head spans) = IsRequestWithin input headers spans

-- what a parse says of the input so far
abbrev pub IsJudged : List ℕ → List HeaderSpan → Judged → Type 0
IsJudged input headers (Whole spans) = IsRequestOf input headers spans × IsRequestWithin input headers spans
IsJudged input headers Part = HasNoRequest input
IsJudged input headers Never = RequestOverflows 64 input

-- ---- routes

-- the rows with one more route, if its text reads as one
abbrev pub inserted : Result Scan InsertError → Route → RowsOf (RouteOf Route) → RowsOf (RouteOf Route)
inserted (Ok s) value rows = placed (s.pattern, route_from s value) rows
inserted (Err e) value rows = rows

abbrev pub with_route : List ℕ → Route → RowsOf (RouteOf Route) → RowsOf (RouteOf Route)
with_route text value rows = inserted (parse_route text) value rows

-- the four routes
abbrev pub desk_rows : RowsOf (RouteOf Route)
desk_rows =
    with_route (codes "/receipts/{uuid}") Receipt
    (with_route (codes "/packages/{uuid}/manifest") Manifest
    (with_route (codes "/packages") Packages
    (with_route (codes "/requests") Requests [])))

-- the route of a path, if it has one
abbrev pub route_of : List ℕ → Option Route
route_of path = option_map (λ r. r.value) (first desk_rows path)

-- the path of a target: what stands before its first question mark
abbrev pub path_of : List ℕ → List ℕ
path_of target = before_first (λ b. nat_eq b 63) target
