-- The tiles of each zoom come behind those of the zooms before it.
use Rattle.std.proofs.Common.{rules, ◌≡◌, ◌∙◌, ◌+◌, ◌+ℤ◌, ◌≤ℤ◌, ◌++◌, ℤ, pos, sym}
use Rattle.std.proofs.Common.{subst, ap, arith, unsigned_abs}
use Rattle.std.proofs.Common.{negsuc, refl, FitsSigned, w64}
use Rattle.std.proofs.lemmas.Int.{ints, to_z-of_z}
use Rattle.matrix_rules.proofs.Frames.{good_frame}
use Rattle.cut.specs.Gathering.{AreSame, tiles_at, tiles_below}
use Rattle.cut.proofs.Asking.{at_first, asked, asked_then, asked_so, answers, fails, stayed}
use Rattle.cut.proofs.Places.{tiles_first, tiles_more}
use Rattle.cut.proofs.starting.tiles_inside.Goals as goal

pub loop-level-init : goal.loop-level-init
loop-level-init g c =
    let f = c.args.frame.now in
    let r = c.args.rect.now in
    let first : f.first_zoom ≡ f.first_zoom +ℤ pos 0 = omega (arith, ints) in
    at_first (λ p. AreSame c.new-found.result.items (tiles_below f r p (f.first_zoom +ℤ pos 0))) c.args.reach.now
    c.requires.ready
    (λ p. subst (λ z. AreSame c.new-found.result.items (tiles_below f r p z)) first
    (subst (λ l. AreSame l (tiles_below f r p f.first_zoom)) (sym c.new-found.ensures.items) (tiles_first f r p)))

pub tiles_at-requires-clause-ready : goal.tiles_at-requires-clause-ready
tiles_at-requires-clause-ready g c = c.loop-level.invariant.again

pub returns-in_err-tiles : goal.returns-in_err-tiles
returns-in_err-tiles g c = fails c.from_residual.result c.from_residual.ensures.0
    (asked_then c.loop-level.invariant (stayed c.tiles_at.ensures))

pub returns-in_err-extend_from_slice : goal.returns-in_err-extend_from_slice
returns-in_err-extend_from_slice g c = fails c.from_residual-in_err-extend_from_slice.result
    c.from_residual-in_err-extend_from_slice.ensures.0 (asked_then c.loop-level.invariant (stayed c.tiles_at.ensures))

pub loop-level-preserved : goal.loop-level-preserved
loop-level-preserved g c =
    let f = c.args.frame.now in
    let r = c.args.rect.now in
    let k = c.loop-level.level in
    let z : ℤ = f.first_zoom +ℤ pos k in
    let found = c.loop-level.found.items in
    let fits : FitsSigned w64 c.zoom_at.result = search rules in
    let next : f.first_zoom +ℤ pos k +ℤ pos 1 ≡ f.first_zoom +ℤ pos (k + 1) = omega (arith, ints) in
    asked_so (asked_then c.loop-level.invariant (asked (λ p tiles. tiles.items ≡ tiles_at f r p c.zoom_at.result)
    c.in_ok-tiles.was (simp (to_z-of_z, fits) at c.tiles_at.ensures)))
    (λ p both.
    let now : c.extend_from_slice.new.self.items ≡ found ++ tiles_at f r p z =
    c.in_ok-extend_from_slice.ensures.items ∙ ap (λ l. found ++ l)
    (c.deref.ensures.value ∙ both.1 ∙ ap (tiles_at f r p) c.zoom_at.ensures.zoom) in
    subst (λ y. AreSame c.extend_from_slice.new.self.items (tiles_below f r p y)) next
    (subst (λ l. AreSame l (tiles_below f r p (z +ℤ pos 1))) (sym now) (tiles_more f r p z found both.0)))

pub returns : goal.returns
returns g c =
    let f = c.args.frame.now in
    let r = c.args.rect.now in
    let good = good_frame f c.requires.frame in
    let all : c.loop-level.level ≡ unsigned_abs f.levels = omega
    (arith, c.level_count-levels.ensures, c.loop-level-test.false, c.loop-level.auto.level-end) in
    let some : pos 1 ≤ℤ f.levels = good.levels in
    let end : f.first_zoom +ℤ pos c.loop-level.level ≡ f.first_zoom +ℤ f.levels =
    ap (λ n. f.first_zoom +ℤ pos n) all ∙ ap (λ n. f.first_zoom +ℤ n) (whole f.levels some) in
    answers c.loop-level.invariant (λ p same. subst (λ z. AreSame c.loop-level.found.items (tiles_below f r p z)) end
    same)
  where
    whole : (n : ℤ) → pos 1 ≤ℤ n → pos (unsigned_abs n) ≡ n
    whole (pos n) some = refl
    whole (negsuc n) some = absurd (omega (arith, ints, some))
