-- Each number is one of the frame, so it is written as it is.
use Rattle.std.proofs.Common.{◌≡◌, ◌∙◌, ℕ, List, Result, Ok, Err, FitsSigned, Global, String}
use Rattle.std.proofs.Common.{append_assoc, refl, rules, to_z-of_z, w64}
use Rattle.std.specs.Prelude.{IfOk, string_bytes}
use Rattle.command_desk.proofs.frame_texts.frame_text.Goals as goal

-- a text that was made is this one too
ok_is : {E : Type 0} (r : Result (String Global) E) (a b : List ℕ) → a ≡ b
    → IfOk r (λ t. string_bytes t ≡ a) → IfOk r (λ t. string_bytes t ≡ b)
ok_is (Ok t) a b e h = h ∙ e
ok_is (Err x) a b e h = tt

pub returns : goal.returns
returns c =
    let f = c.args.frame.now in
    let system : FitsSigned w64 f.srs_id = search rules in
    let west : FitsSigned w64 f.min_x = search rules in
    let south : FitsSigned w64 f.min_y = search rules in
    let east : FitsSigned w64 f.max_x = search rules in
    let north : FitsSigned w64 f.max_y = search rules in
    let width : FitsSigned w64 f.tile_width = search rules in
    let height : FitsSigned w64 f.tile_height = search rules in
    let zoom : FitsSigned w64 f.first_zoom = search rules in
    let levels : FitsSigned w64 f.levels = search rules in
    let columns : FitsSigned w64 f.matrix_width = search rules in
    let rows : FitsSigned w64 f.matrix_height = search rules in
    ok_is c.format.result _ _
    (simp (
      to_z-of_z,
      system,
      west,
      south,
      east,
      north,
      width,
      height,
      zoom,
      levels,
      columns,
      rows,
      append_assoc,
    ) refl)
    c.format.ensures.ok
