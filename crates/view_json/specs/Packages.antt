-- The table of packages as JSON: an object for each, by the names of its columns. Profile.
use Rattle.std.specs.Prelude.{ℕ, List, [], ◌∷◌, ◌++◌, codes, map}
use Rattle.serde_json.specs.Data.{Data, string, object, member, no_members}
use Rattle.sheet_types.specs.Texts.{uuid_text}
use Rattle.view_text.specs.declared.packages.PackageRow.{PackageRow}
use Rattle.view_json.specs.Arrays.{array_text, count, end_data, text_or_null}

-- by the values of its last change and of its parent
abbrev pub package_object : PackageRow → Data → Data → Data
package_object p changed parent =
    object (member (codes "bytes") (count p.sums.bytes) (member (codes "depth") (count p.depth)
    (member (codes "last_change") changed (member (codes "links") (count p.sums.links)
    (member (codes "loan") (count p.loan) (member (codes "media") (count p.sums.media)
    (member (codes "package") (string (uuid_text p.uuid)) (member (codes "parent") parent
    (member (codes "rows") (count p.sums.rows) (member (codes "tiles") (count p.sums.tiles) no_members))))))))))

abbrev pub package_data : PackageRow → Data
package_data p = package_object p (text_or_null p.changed) (end_data p.parent)

-- the last object: how many files are of no live package
abbrev pub strays_data : ℕ → Data
strays_data strays = object (member (codes "strays") (count strays) no_members)

abbrev pub status_json : List PackageRow → ℕ → List ℕ
status_json rows strays = array_text (map package_data rows ++ strays_data strays ∷ [])
