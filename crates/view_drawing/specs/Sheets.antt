-- The sheets of each zoom (SVG). Profile.
use Rattle.std.specs.Prelude.{ℕ, zero, suc, List, [], ◌++◌, if◌then◌else◌, ℤ, codes, decimal, flat_map}
use Rattle.std.specs.Option.{option_map_or}
use Rattle.std.specs.Ordering.{int_eq}
use Rattle.view_report.specs.Drawing.{also_named, pattern_link, sheet_box, sides_text}
use Rattle.view_report.specs.Levels.{level_at}
use Rattle.view_report.specs.Pieces.{place_text, plain_name}
use Rattle.view_report.specs.Registers.{live_of}
use Rattle.view_report.specs.declared.levels.Level.{Level}
use Rattle.view_report.specs.declared.registers.About.{About}
use Rattle.view_report.specs.declared.registers.About.TheVariants.{Sheet, Medium, Mark}
use Rattle.view_report.specs.declared.registers.Live.{Live}
use Rattle.view_report.specs.declared.registers.Name.{Name}
use Rattle.view_report.specs.declared.registers.Register.{Register}
use Rattle.view_report.specs.declared.registers.Thing.{Thing}

abbrev pub sheet_title : List Name → Thing → ℤ → ℤ → ℤ → List ℕ
sheet_title names t zoom column row =
    place_text zoom column row ++ (codes ", "
    ++ (plain_name names t.holder ++ (also_named names t.identity ++ codes "</title></rect>\n")))

-- a sheet of a package, and of one that lives
abbrev pub sheet_of : Register → Level → Thing → ℤ → ℤ → ℤ → Live → List ℕ
sheet_of r l t zoom column row p = sheet_box l p p.number column row ++ sheet_title r.names t zoom column row

abbrev pub sheet_text : Register → Level → Thing → ℤ → ℤ → ℤ → List ℕ
sheet_text r l t zoom column row = option_map_or (sheet_of r l t zoom column row) (live_of r.packages.items t.holder) []

-- where it is one of this zoom
abbrev pub sheet_at : Register → Level → Thing → ℤ → ℤ → ℤ → List ℕ
sheet_at r l t zoom column row = if int_eq zoom l.zoom then sheet_text r l t zoom column row else []

-- an item, where it is a sheet of this zoom
abbrev pub sheet_about : Register → Level → Thing → About → List ℕ
sheet_about r l t (Sheet zoom column row) = sheet_at r l t zoom column row
sheet_about r l t (Medium content_type) = []
sheet_about r l t (Mark x y code label) = []

abbrev pub sheet_if : Register → Level → Thing → List ℕ
sheet_if r l t = sheet_about r l t t.about

-- a zoom, in its own units over the whole map
unfoldable pub level_text : Register → Level → List ℕ
level_text r l =
    codes "<svg class=\"l" ++ (decimal l.index ++ (codes "\" viewBox=\"0 0 " ++ (sides_text l.layout 100 (codes " ")
    ++ (codes "\" preserveAspectRatio=\"none\">\n<defs>\n"
    ++ (flat_map (λ p. pattern_link l p.number) r.packages.items ++ (codes "</defs>\n"
    ++ (flat_map (sheet_if r l) r.things ++ codes "</svg>\n")))))))

abbrev pub level_if : Register → ℕ → ℕ → List ℕ
level_if r total index = option_map_or (level_text r) (level_at r.frame total index) []

-- the first n zooms, in turn
unfoldable pub levels_text : Register → ℕ → ℕ → List ℕ
levels_text r total zero = []
levels_text r total (suc n) = levels_text r total n ++ level_if r total n
