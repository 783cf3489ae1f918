-- The edge of some ground, behind what was there, a corner at a time.
use Rattle.std.proofs.Common.{◌≡◌, ◌++◌, ℕ, List}
use Rattle.sheet_types.specs.declared.frame.Ground.{Ground}
use Rattle.view_export.specs.Points.{corner, ring}
use Rattle.view_export.proofs.Texts.{put_behind}

pub ring_behind : (g : Ground) (old one two three four new : List ℕ) → one ≡ old ++ corner g.west g.south
    → two ≡ one ++ corner g.east g.south
    → three ≡ two ++ corner g.east g.north → four ≡ three ++ corner g.west g.north
    → new ≡ four ++ corner g.west g.south → new ≡ old ++ ring g
ring_behind g old one two three four new first second third fourth fifth =
    let a = corner g.west g.south in
    let b = corner g.east g.south in
    let c = corner g.east g.north in
    let d = corner g.west g.north in
    put_behind old a (b ++ (c ++ (d ++ a))) first (put_behind one b (c ++ (d ++ a)) second
    (put_behind two c (d ++ a) third (put_behind three d a fourth fifth)))
