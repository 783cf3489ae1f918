-- The project of an export, for a file that lies beside it. Profile, over QGS of QGIS 3.
use Rattle.std.specs.Prelude.{ℕ, List, [], ◌++◌, if◌then◌else◌, ℤ, pos, int_lt, codes}
use Rattle.std.specs.Fmt.{signed_decimal}
use Rattle.sheet_types.specs.declared.frame.Frame.{Frame}
use Rattle.view_export.specs.Statements.{thousandths}
use Rattle.view_report.specs.Escaping.{raw_text}
use Rattle.view_project.specs.Layers.{layers}
use Rattle.view_project.specs.Parts.{beginning, closing, opening, relations, tree}

-- by its EPSG number; none of a frame that has none
abbrev pub reference_system : ℤ → List ℕ
reference_system srs =
    if int_lt (pos 0) srs
    then codes "<spatialrefsys><srsid>1</srsid><authid>EPSG:"
    ++ (signed_decimal srs ++ codes "</authid></spatialrefsys>")
    else []

-- a bound in whole units, as the element of this name
abbrev pub side : List ℕ → ℤ → List ℕ
side name bound = codes "<" ++ (name ++ (codes ">" ++ (thousandths bound ++ (codes "</" ++ (name ++ codes ">")))))

abbrev pub extent : Frame → List ℕ
extent f =
    side (codes "xmin") f.min_x ++ (side (codes "ymin") f.min_y
    ++ (side (codes "xmax") f.max_x ++ side (codes "ymax") f.max_y))

abbrev pub system_of : List ℕ → List ℕ
system_of system = codes "<projectCrs>" ++ (system ++ codes "</projectCrs>\n")

-- what is seen where the project opens
abbrev pub canvas : List ℕ → List ℕ → List ℕ
canvas extent system =
    codes "<mapcanvas name=\"theMapCanvas\"><extent>" ++ (extent ++ (codes "</extent><destinationsrs>" ++ (system
    ++ codes "</destinationsrs></mapcanvas>\n")))

-- what stands before the layers
abbrev pub framed : List ℕ → List ℕ → List ℕ
framed extent system = beginning ++ (system_of system ++ (tree ++ (canvas extent system ++ opening)))

-- of this frame, for a file of this name
abbrev pub project : Frame → List ℕ → List ℕ
project f name =
    framed (extent f) (reference_system f.srs_id)
    ++ (layers (raw_text name) (reference_system f.srs_id) ++ (relations ++ closing))
