-- The map of a page: all zooms nested, names of the first, and marks (SVG 1.1 in HTML 5). Profile.
use Rattle.std.specs.Prelude.{ℕ, zero, suc, ◌+◌, min, List, [], ◌++◌, Option, Some, None}
use Rattle.std.specs.Prelude.{if◌then◌else◌, ℤ, ◌-ℤ◌}
use Rattle.std.specs.Prelude.{codes, decimal, flat_map, unsigned_abs}
use Rattle.std.specs.Fmt.{signed_decimal}
use Rattle.std.specs.Option.{option_map_or}
use Rattle.std.specs.Ordering.{int_eq}
use Rattle.sheet_types.specs.Texts.{uuid_text}
use Rattle.sheet_types.specs.declared.frame.Frame.{Frame}
use Rattle.view_map.specs.Layout.{layout_of}
use Rattle.view_map.specs.Zooms.{default_zoom}
use Rattle.view_map.specs.declared.layout.Layout.{Layout}
use Rattle.view_report.specs.Escaping.{escaped}
use Rattle.view_report.specs.Levels.{extent, inset_of, level_at, level_total, plus, scale_of, share, start, times}
use Rattle.view_report.specs.Pieces.{class_text, name_text, pattern_of, place_text, plain_name, sums_text, swatch_text}
use Rattle.view_report.specs.Registers.{live_of, name_of}
use Rattle.view_report.specs.declared.words.TheConstants.{LEGEND_END, LEGEND_HEAD, MAP_HEAD}
use Rattle.view_report.specs.declared.levels.Level.{Level}
use Rattle.view_report.specs.declared.registers.About.{About}
use Rattle.view_report.specs.declared.registers.About.TheVariants.{Sheet, Medium, Mark}
use Rattle.view_report.specs.declared.registers.Live.{Live}
use Rattle.view_report.specs.declared.registers.Name.{Name}
use Rattle.view_report.specs.declared.registers.Register.{Register}
use Rattle.view_report.specs.declared.registers.Thing.{Thing}

-- ---- sheets

-- the sheets of a loan lie inside those of its lender, three deep at most
abbrev pub layer_of : Live → ℕ
layer_of p = min p.depth 3

abbrev pub link_text : List ℕ → List ℕ
link_text id = codes "<a href=\"#i-" ++ (uuid_text id ++ codes "\" tabindex=\"-1\">")

abbrev pub sheet_box : Level → Live → ℕ → ℤ → ℤ → List ℕ
sheet_box l p n column row =
    codes "<rect class=\"" ++ (class_text n
    ++ (codes "\" x=\"" ++ (decimal (start (unsigned_abs column) l.layout.width (inset_of l (layer_of p)))
    ++ (codes "\" y=\"" ++ (decimal (start (unsigned_abs row) l.layout.height (inset_of l (layer_of p)))
    ++ (codes "\" width=\"" ++ (decimal (extent l.layout.width (inset_of l (layer_of p)))
    ++ (codes "\" height=\"" ++ (decimal (extent l.layout.height (inset_of l (layer_of p)))
    ++ (codes "\" fill=\"url(#v" ++ (decimal l.index ++ (codes "-" ++ (decimal n ++ codes ")\"><title>")))))))))))))

abbrev pub also_named : List Name → List ℕ → List ℕ
also_named names id = option_map_or (λ n. codes ", " ++ escaped n.name) (name_of names id) []

abbrev pub sheet_title : List Name → Thing → ℤ → ℤ → ℤ → List ℕ
sheet_title names t zoom column row =
    place_text zoom column row ++ (codes ", " ++ (plain_name names t.holder
    ++ (also_named names t.identity ++ codes "</title></rect></a>\n")))

-- a sheet of a package, and of one that lives
abbrev pub sheet_of : Register → Level → Thing → ℤ → ℤ → ℤ → Live → List ℕ
sheet_of r l t zoom column row p =
    link_text t.identity ++ (sheet_box l p p.number column row
    ++ sheet_title r.names t zoom column row)

abbrev pub sheet_text : Register → Level → Thing → ℤ → ℤ → ℤ → List ℕ
sheet_text r l t zoom column row = option_map_or (sheet_of r l t zoom column row) (live_of r.packages.items t.holder) []

-- where it is one of this zoom
abbrev pub sheet_at : Register → Level → Thing → ℤ → ℤ → ℤ → List ℕ
sheet_at r l t zoom column row = if int_eq zoom l.zoom then sheet_text r l t zoom column row else []

-- an item, where it is a sheet of this zoom
abbrev pub sheet_about : Register → Level → Thing → About → List ℕ
sheet_about r l t (Sheet zoom column row) = sheet_at r l t zoom column row
sheet_about r l t (Medium content_type) = []
sheet_about r l t (Mark x y code label) = []

abbrev pub sheet_if : Register → Level → Thing → List ℕ
sheet_if r l t = sheet_about r l t t.about

-- ---- zooms

abbrev pub pattern_link : Level → ℕ → List ℕ
pattern_link l n =
    codes "<pattern id=\"v" ++ (decimal l.index ++ (codes "-" ++ (decimal n ++ (codes "\" href=\"#w" ++ (decimal n
    ++ (codes "\" patternTransform=\"scale(" ++ (decimal (scale_of l.layout) ++ codes ")\"/>\n")))))))

-- the two sides of a map
abbrev pub sides_text : Layout → ℕ → List ℕ → List ℕ
sides_text l by between = decimal (times by (times l.columns l.width))
    ++ (between ++ decimal (times by (times l.rows l.height)))

unfoldable pub level_text : Register → Level → List ℕ
level_text r l =
    codes "<svg class=\"l l" ++ (decimal l.index ++ (codes "\" viewBox=\"0 0 " ++ (sides_text l.layout 100 (codes " ")
    ++ (codes "\" preserveAspectRatio=\"none\">\n<defs>\n"
    ++ (flat_map (λ p. pattern_link l p.number) r.packages.items ++ (codes "</defs>\n"
    ++ (flat_map (sheet_if r l) r.things ++ codes "</svg>\n")))))))

abbrev pub level_if : Register → ℕ → ℕ → List ℕ
level_if r total index = option_map_or (level_text r) (level_at r.frame total index) []

-- the first n zooms, in turn
unfoldable pub levels_text : Register → ℕ → ℕ → List ℕ
levels_text r total zero = []
levels_text r total (suc n) = levels_text r total n ++ level_if r total n

-- ---- names of sheets

abbrev pub style_text : ℕ → ℕ → List ℕ
style_text left top =
    codes " style=\"left:calc(.01%*" ++ (decimal left ++ (codes ");top:calc(.01%*" ++ (decimal top ++ codes ")\"")))

unfoldable pub named_text : Name → ℕ → ℕ → List ℕ
named_text n left top = codes "<span class=\"nm\"" ++ (style_text left top
    ++ (codes ">" ++ (escaped n.name ++ codes "</span>\n")))

-- of a sheet that has one, and where it is one of this zoom
abbrev pub names_text : List Name → List ℕ → ℕ → ℕ → List ℕ
names_text names id left top = option_map_or (λ n. named_text n left top) (name_of names id) []

abbrev pub name_in : List Name → Layout → List ℕ → ℤ → ℤ → List ℕ
name_in names l id column row = names_text names id (share (unsigned_abs column) l.columns)
    (share (plus (unsigned_abs row) 1) l.rows)

abbrev pub name_at : List Name → Level → List ℕ → ℤ → ℤ → ℤ → List ℕ
name_at names l id zoom column row = if int_eq zoom l.zoom then name_in names l.layout id column row else []

abbrev pub name_about : List Name → Level → List ℕ → About → List ℕ
name_about names l id (Sheet zoom column row) = name_at names l id zoom column row
name_about names l id (Medium content_type) = []
name_about names l id (Mark x y code label) = []

abbrev pub name_if : List Name → Level → Thing → List ℕ
name_if names l t = name_about names l t.identity t.about

-- those of the first zoom
abbrev pub named_at : Register → ℕ → List ℕ
named_at r total = option_map_or (λ l. flat_map (name_if r.names l) r.things) (level_at r.frame total 0) []

-- ---- marks

-- where a point stands on the map
abbrev pub mark_place : Frame → ℤ → ℤ → List ℕ
mark_place f x y =
    style_text (share (unsigned_abs (x -ℤ f.min_x)) (unsigned_abs (f.max_x -ℤ f.min_x)))
    (share (unsigned_abs (f.max_y -ℤ y)) (unsigned_abs (f.max_y -ℤ f.min_y)))

abbrev pub mark_at : Register → Thing → ℕ → ℤ → ℤ → List ℕ
mark_at r t n x y =
    codes "<a class=\"mk " ++ (class_text n ++ (codes "\" href=\"#i-"
    ++ (uuid_text t.identity ++ (codes "\" tabindex=\"-1\"" ++ mark_place r.frame x y))))

abbrev pub mark_text : Register → Thing → ℕ → ℤ → List ℕ → List ℕ
mark_text r t n code label =
    codes " title=\"mark " ++ (signed_decimal code
    ++ (codes ", " ++ (plain_name r.names t.holder ++ (codes ", " ++ (escaped label
    ++ (codes "\"><svg width=\"16\" height=\"16\" viewBox=\"-8 -8 16 16\" aria-hidden=\"true\"><use href=\"#k"
    ++ (decimal (pattern_of n) ++ codes "\"/></svg></a>\n")))))))

unfoldable pub whole_mark : Register → Thing → ℕ → ℤ → ℤ → ℤ → List ℕ → List ℕ
whole_mark r t n x y code label = mark_at r t n x y ++ mark_text r t n code label

abbrev pub mark_of : Register → Thing → ℕ → About → List ℕ
mark_of r t n (Mark x y code label) = whole_mark r t n x y code label
mark_of r t n (Sheet zoom column row) = []
mark_of r t n (Medium content_type) = []

-- an item, where it is a mark
abbrev pub mark_if : Register → Thing → List ℕ
mark_if r t = option_map_or (λ p. mark_of r t p.number t.about) (live_of r.packages.items t.holder) []

-- ---- the legend, and all of it

abbrev pub legend_row : Register → Live → List ℕ
legend_row r p =
    codes "<li>" ++ (swatch_text p.number
    ++ (codes "<svg class=\"sw " ++ (class_text p.number
    ++ (codes "\" width=\"16\" height=\"16\" viewBox=\"-8 -8 16 16\" aria-hidden=\"true\"><use class=\"d\" href=\"#k"
    ++ (decimal (pattern_of p.number) ++ (codes "\"/></svg><span>" ++ (name_text r.names p.uuid
    ++ (codes "<span>" ++ (sums_text p.sums.tiles 0 p.sums.rows 0 ++ codes "</span></span></li>\n")))))))))

-- all things that a register has, with a legend of these packages
abbrev pub map_of : Register → List Live → List ℕ
map_of r packages =
    MAP_HEAD.now ++ (sides_text (layout_of r.frame (default_zoom r.frame)) 1 (codes "/") ++ (codes "\">\n"
    ++ (levels_text r (level_total r.frame) (level_total r.frame) ++ (named_at r (level_total r.frame)
    ++ (flat_map (mark_if r) r.things ++ (LEGEND_HEAD.now ++ (flat_map (legend_row r) packages ++ LEGEND_END.now)))))))

abbrev pub map_section : Register → List ℕ
map_section r = map_of r r.packages.items
