-- The marks (SVG). Profile.
use Rattle.std.specs.Prelude.{ℕ, List, [], ◌++◌, ℤ, ◌-ℤ◌, codes, decimal, unsigned_abs}
use Rattle.std.specs.Fmt.{signed_decimal}
use Rattle.std.specs.Option.{option_map_or}
use Rattle.sheet_types.specs.declared.frame.Frame.{Frame}
use Rattle.view_drawing.specs.Names.{place_text}
use Rattle.view_report.specs.Escaping.{escaped}
use Rattle.view_report.specs.Levels.{share}
use Rattle.view_report.specs.Pieces.{class_text, pattern_of, plain_name}
use Rattle.view_report.specs.Registers.{live_of}
use Rattle.view_report.specs.declared.registers.About.{About}
use Rattle.view_report.specs.declared.registers.About.TheVariants.{Sheet, Medium, Mark}
use Rattle.view_report.specs.declared.registers.Register.{Register}
use Rattle.view_report.specs.declared.registers.Thing.{Thing}

-- where a point stands on the map
abbrev pub mark_place : Frame → ℤ → ℤ → List ℕ
mark_place f x y =
    place_text (share (unsigned_abs (x -ℤ f.min_x)) (unsigned_abs (f.max_x -ℤ f.min_x)))
    (share (unsigned_abs (f.max_y -ℤ y)) (unsigned_abs (f.max_y -ℤ f.min_y)))

-- its shape there, and what is read of it
abbrev pub mark_begin : Frame → ℕ → ℤ → ℤ → List ℕ
mark_begin f n x y =
    codes "<use class=\"" ++ (class_text n ++ (codes "\"" ++ (mark_place f x y
    ++ (codes " href=\"#k" ++ (decimal (pattern_of n) ++ codes "\"><title>mark ")))))

abbrev pub mark_end : Register → Thing → ℤ → List ℕ → List ℕ
mark_end r t code label =
    signed_decimal code ++ (codes ", "
    ++ (plain_name r.names t.holder ++ (codes ", " ++ (escaped label ++ codes "</title></use>\n"))))

unfoldable pub mark_text : Register → Thing → ℕ → ℤ → ℤ → ℤ → List ℕ → List ℕ
mark_text r t n x y code label = mark_begin r.frame n x y ++ mark_end r t code label

abbrev pub mark_of : Register → Thing → ℕ → About → List ℕ
mark_of r t n (Mark x y code label) = mark_text r t n x y code label
mark_of r t n (Sheet zoom column row) = []
mark_of r t n (Medium content_type) = []

-- an item, where it is a mark
abbrev pub mark_if : Register → Thing → List ℕ
mark_if r t = option_map_or (λ p. mark_of r t p.number t.about) (live_of r.packages.items t.holder) []
