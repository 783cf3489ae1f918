-- A text that a digest spells is decoded to it, and is what the digest spells again.
use Rattle.std.proofs.Common.{◌≡◌, ◌∙◌, ℕ, ◌*◌, length, ap, sym, arith}
use Rattle.hex.specs.Hex.{encode_lower, lower_digits}
use Rattle.hex.proofs.HexLemmas.{length-encode_with}
use Rattle.sheet_types.proofs.Digits.{same_as_itself}
use Rattle.sheet_types.proofs.fingerprints.read_fingerprint.Goals as goal

pub returns-then-text-ne64-clause-none : goal.returns-then-text-ne64-clause-none
returns-then-text-ne64-clause-none c = λ digest h is.
    let long = h.long in
    let spelled : length c.args.text.now ≡ 2 * length digest =
    ap length is ∙ length-encode_with lower_digits digest in
    omega (arith, long, spelled, c.if-text-ne64.true)

pub returns-else-eq-clause-none : goal.returns-else-eq-clause-none
returns-else-eq-clause-none c = λ digest h is.
    let read : c.decode-digest.result ≡ digest = c.decode-digest.ensures digest h (c.as_bytes.ensures.value ∙ is) in
    let text : c.spell.result.now ≡ c.args.text.now = c.spell.ensures ∙ ap encode_lower read ∙ sym is in
    let no = rw text at (sym c.if-eq.false ∙ c.eq.ensures) in
    cc (no, same_as_itself c.args.text.now)
