-- What each package holds (HTML 5). Profile.
use Rattle.std.specs.Prelude.{ℕ, bytes_eq, List, [], ◌++◌, if◌then◌else◌, codes, decimal, flat_map}
use Rattle.sheet_types.specs.Texts.{uuid_text}
use Rattle.sheet_types.specs.declared.receipt.MovedKind.{MovedKind}
use Rattle.sheet_types.specs.declared.receipt.MovedKind.TheVariants.{TileItem, MediaItem, RowItem, TilesMediaLink}
use Rattle.sheet_types.specs.declared.receipt.MovedKind.TheVariants.{RowsMediaLink, RowsTilesLink}
use Rattle.view_report.specs.Pieces.{about_text, digest_text, name_text, short_text, sums_text, swatch_text, thing_text}
use Rattle.view_report.specs.declared.words.TheConstants.{HOLDING_END, HOLDING_HEAD}
use Rattle.view_report.specs.declared.registers.About.{About}
use Rattle.view_report.specs.declared.registers.About.TheVariants.{Sheet, Medium, Mark}
use Rattle.view_report.specs.declared.registers.Live.{Live}
use Rattle.view_report.specs.declared.registers.Register.{Register}
use Rattle.view_report.specs.declared.registers.Thing.{Thing}
use Rattle.view_report.specs.declared.registers.Tie.{Tie}

abbrev pub kind_word : MovedKind → List ℕ
kind_word TileItem = codes "sheet"
kind_word MediaItem = codes "medium"
kind_word RowItem = codes "mark"
kind_word TilesMediaLink = codes "sheet, medium"
kind_word RowsMediaLink = codes "mark, medium"
kind_word RowsTilesLink = codes "mark, sheet"

abbrev pub thing_kind : About → MovedKind
thing_kind (Sheet zoom column row) = TileItem
thing_kind (Medium content_type) = MediaItem
thing_kind (Mark x y code label) = RowItem

abbrev pub thing_row : Register → Thing → List ℕ
thing_row r t =
    codes "<tr id=\"i-" ++ (uuid_text t.identity ++ (codes "\"><th scope=\"row\">"
    ++ (kind_word (thing_kind t.about) ++ (codes " "
    ++ (about_text r.names t ++ (codes "</th><td>" ++ (short_text t.identity
    ++ (codes "</td><td class=\"n\" data-l=\"bytes\">" ++ (decimal t.size
    ++ (codes "</td><td>" ++ (digest_text t.fingerprint ++ codes "</td></tr>\n")))))))))))

-- where this package holds it
abbrev pub thing_if : Register → List ℕ → Thing → List ℕ
thing_if r holder t = if bytes_eq t.holder holder then thing_row r t else []

abbrev pub pair_text : Register → List ℕ → List ℕ → List ℕ
pair_text r base other = thing_text r base ++ (codes " &harr; " ++ thing_text r other)

abbrev pub tie_row : Register → Tie → List ℕ
tie_row r t =
    codes "<tr><th scope=\"row\">" ++ (kind_word t.kind ++ (codes "</th><td colspan=\"3\">"
    ++ (pair_text r t.base t.other ++ codes "</td></tr>\n")))

abbrev pub tie_if : Register → List ℕ → Tie → List ℕ
tie_if r holder t = if bytes_eq t.holder holder then tie_row r t else []

-- all that a package holds
abbrev pub holding_text : Register → Live → List ℕ
holding_text r p =
    codes "<details id=\"d-" ++ (uuid_text p.uuid ++ (codes "\">\n<summary>" ++ (swatch_text p.number
    ++ (codes "<b>" ++ (name_text r.names p.uuid
    ++ (codes "</b> " ++ (sums_text p.sums.tiles p.sums.media p.sums.rows p.sums.links
    ++ (HOLDING_HEAD.now ++ (flat_map (thing_if r p.uuid) r.things
    ++ (flat_map (tie_if r p.uuid) r.ties.items ++ HOLDING_END.now))))))))))
