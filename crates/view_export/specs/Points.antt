-- Geometries as a GeoPackage keeps them (OGC GeoPackage 1.3, 2.1.3): a point, and the outline of a tile.
use Rattle.std.specs.Prelude.{ℕ, List, [], ◌∷◌, ◌++◌, ℤ, pos, negsuc, int_lt, unsigned_abs, codes}
use Rattle.std.specs.Prelude.{to_bits, FitsSigned}
use Rattle.std.specs.Int.{w32, w64, cast_unsigned, to_le_bytes}
use Rattle.std.specs.Float.{Float, binary64}
use Rattle.fast_float.specs.Rounding.{nearest_to_decimal}
use Rattle.sheet_types.specs.declared.frame.Ground.{Ground}

-- the double nearest to a number of thousandths
abbrev pub in_units : ℤ → Float
in_units x = nearest_to_decimal binary64 (int_lt x (pos 0)) (unsigned_abs x) (negsuc 2)

-- its eight bytes (IEEE 754, binary64), the lowest first
abbrev pub double_bytes : ℤ → List ℕ
double_bytes x = to_le_bytes w64 (to_bits binary64 (in_units x))

-- `GP`, version 0, flags 1: lowest bytes first and no envelope; the reference system
abbrev pub geometry_header : ℤ → List ℕ
geometry_header srs = codes "GP" ++ (0 ∷ 1 ∷ to_le_bytes w32 (cast_unsigned w32 srs))

-- lowest bytes first, and 1 for a point (OGC 06-103r4, 8.2)
abbrev pub point_header : List ℕ
point_header = 1 ∷ 1 ∷ 0 ∷ 0 ∷ 0 ∷ []

-- a place by its two doubles
abbrev pub corner : ℤ → ℤ → List ℕ
corner x y = double_bytes x ++ double_bytes y

abbrev pub point : ℤ → ℤ → ℤ → List ℕ
point srs x y = geometry_header srs ++ (point_header ++ corner x y)

-- lowest bytes first, 3 for a polygon, and one ring of five places (OGC 06-103r4, 8.2)
abbrev pub polygon_header : List ℕ
polygon_header = 1 ∷ 3 ∷ 0 ∷ 0 ∷ 0 ∷ 1 ∷ 0 ∷ 0 ∷ 0 ∷ 5 ∷ 0 ∷ 0 ∷ 0 ∷ []

-- the edge of some ground, from its south-west corner eastwards and back to it
abbrev pub ring : Ground → List ℕ
ring g =
    corner g.west g.south ++ (corner g.east g.south ++ (corner g.east g.north
    ++ (corner g.west g.north ++ corner g.west g.south)))

abbrev pub outline : ℤ → Ground → List ℕ
outline srs g = geometry_header srs ++ (polygon_header ++ ring g)

-- a reference system that the header has room for
abbrev pub FitsHeader : ℤ → Type 0
FitsHeader srs = FitsSigned w32 srs
