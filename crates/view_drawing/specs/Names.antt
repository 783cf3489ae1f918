-- The names of the sheets of the first zoom, and places on the map (SVG). Profile.
use Rattle.std.specs.Prelude.{ℕ, ◌/◌, ◌%◌, List, [], ◌++◌, if◌then◌else◌, ℤ, codes, decimal}
use Rattle.std.specs.Prelude.{flat_map, unsigned_abs}
use Rattle.std.specs.Option.{option_map_or}
use Rattle.std.specs.Ordering.{int_eq}
use Rattle.view_map.specs.declared.layout.Layout.{Layout}
use Rattle.view_report.specs.Escaping.{escaped}
use Rattle.view_report.specs.Levels.{level_at, plus, share}
use Rattle.view_report.specs.Registers.{name_of}
use Rattle.view_report.specs.declared.levels.Level.{Level}
use Rattle.view_report.specs.declared.registers.About.{About}
use Rattle.view_report.specs.declared.registers.About.TheVariants.{Sheet, Medium, Mark}
use Rattle.view_report.specs.declared.registers.Name.{Name}
use Rattle.view_report.specs.declared.registers.Register.{Register}
use Rattle.view_report.specs.declared.registers.Thing.{Thing}

-- ten-thousandths, as a percentage with two places
abbrev pub percent_text : ℕ → List ℕ
percent_text n = decimal (n / 100) ++ (codes "." ++ (decimal (n / 10 % 10) ++ (decimal (n % 10) ++ codes "%")))

abbrev pub place_text : ℕ → ℕ → List ℕ
place_text left top = codes " x=\"" ++ (percent_text left ++ (codes "\" y=\"" ++ (percent_text top ++ codes "\"")))

unfoldable pub named_text : Name → ℕ → ℕ → List ℕ
named_text n left top =
    codes "<text class=\"nm\"" ++ (place_text left top
    ++ (codes " dx=\"9\" dy=\"-9\">" ++ (escaped n.name ++ codes "</text>\n")))

-- of a sheet that has one, and where it is one of this zoom
abbrev pub names_text : List Name → List ℕ → ℕ → ℕ → List ℕ
names_text names id left top = option_map_or (λ n. named_text n left top) (name_of names id) []

abbrev pub name_in : List Name → Layout → List ℕ → ℤ → ℤ → List ℕ
name_in names l id column row =
    names_text names id (share (unsigned_abs column) l.columns) (share (plus (unsigned_abs row) 1) l.rows)

abbrev pub name_at : List Name → Level → List ℕ → ℤ → ℤ → ℤ → List ℕ
name_at names l id zoom column row = if int_eq zoom l.zoom then name_in names l.layout id column row else []

abbrev pub name_about : List Name → Level → List ℕ → About → List ℕ
name_about names l id (Sheet zoom column row) = name_at names l id zoom column row
name_about names l id (Medium content_type) = []
name_about names l id (Mark x y code label) = []

abbrev pub name_if : List Name → Level → Thing → List ℕ
name_if names l t = name_about names l t.identity t.about

-- those of the first zoom
abbrev pub named_at : Register → ℕ → List ℕ
named_at r total = option_map_or (λ l. flat_map (name_if r.names l) r.things) (level_at r.frame total 0) []
