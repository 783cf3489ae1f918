-- What came to each package and what left it, by receipts. Profile.
use Rattle.std.specs.Prelude.{◌≡◌, ◌+◌, ◌≤◌, ◌<◌, ◌^◌, ℕ, List, filter, sum_by, unwrap_or}
use Rattle.std.specs.Ordering.{nat_cmp}
use Rattle.std.specs.Cmp.Lexicographic.{slice_cmp}
use Rattle.std.specs.BTreeMap.{BTreeMap, get}
use Rattle.sheet_types.specs.Custody.{ends_at}
use Rattle.sheet_types.specs.declared.receipt.Receipt.{Receipt}
use Rattle.sheet_ledger.specs.declared.flows.Flow.{Flow}
use Rattle.sheet_ledger.specs.declared.flows.Totals.{Totals}

-- the sums of receipts by each of the five measures
abbrev pub totals_of : List Receipt → Totals
totals_of rs = record {
  tiles = sum_by (λ r. r.tiles) rs;
  media = sum_by (λ r. r.media) rs;
  rows = sum_by (λ r. r.rows) rs;
  links = sum_by (λ r. r.links) rs;
  bytes = sum_by (λ r. r.bytes) rs;
}

-- what came to the package, and what left it
abbrev pub flow_by : List Receipt → List ℕ → Flow
flow_by rs p = record {
  came = totals_of (filter (λ r. ends_at r.target p) rs);
  left = totals_of (filter (λ r. ends_at r.source p) rs);
}

abbrev pub nothing : Totals
nothing = record { tiles = 0; media = 0; rows = 0; links = 0; bytes = 0 }

abbrev pub no_flow : Flow
no_flow = record { came = nothing; left = nothing }

-- what a map has of a package; nothing where it has none
abbrev pub flow_in : BTreeMap (List ℕ) Flow → List ℕ → Flow
flow_in flows p = unwrap_or (get (slice_cmp nat_cmp) flows p) no_flow

-- the map has the flow of each package
pub record HasFlows (flows : BTreeMap (List ℕ) Flow) (receipts : List Receipt) : Type 0 where
  pub flow : (p : List ℕ) → flow_in flows p ≡ flow_by receipts p

-- the sums with one receipt more
abbrev pub plus : Totals → Receipt → Totals
plus t r = record {
  tiles = t.tiles + r.tiles;
  media = t.media + r.media;
  rows = t.rows + r.rows;
  links = t.links + r.links;
  bytes = t.bytes + r.bytes;
}

abbrev pub comes : Flow → Receipt → Flow
comes f r = record { came = plus f.came r; left = f.left }

abbrev pub leaves : Flow → Receipt → Flow
leaves f r = record { came = f.came; left = plus f.left r }

-- ---- bounds

pub record IsMeasured (r : Receipt) : Type 0 where
  pub tiles : r.tiles < 2 ^ 64
  pub media : r.media < 2 ^ 64
  pub rows : r.rows < 2 ^ 64
  pub links : r.links < 2 ^ 64
  pub bytes : r.bytes < 2 ^ 64

pub record IsAtMost (n : ℕ) (t : Totals) : Type 0 where
  pub tiles : t.tiles ≤ n
  pub media : t.media ≤ n
  pub rows : t.rows ≤ n
  pub links : t.links ≤ n
  pub bytes : t.bytes ≤ n
