use Rattle.std.proofs.Common.{◌≡◌, ℤ, pos, ◌+ℤ◌, ◌++◌, ◌∷◌, [], ◌≤◌, sym, subst, ap}
use Rattle.std.proofs.Common.{◌∙◌, length, w64, to_z, of_z}
use Rattle.std.proofs.Common.{arith, length-append}
use Rattle.std.specs.Ordering.{int_eq}
use Rattle.std.specs.List.{list_any}
use Rattle.renumbering.proofs.Choosing.{AreLeast, least_none, least_more, least_same, next_key}
use Rattle.renumbering.proofs.free.least_free.Goals as goal
use Rattle.renumbering.proofs.free.least_free.Goals.{then-not-is_among+in_ok-push, else-not-is_among}

pub loop-key-init : goal.loop-key-init
loop-key-init c = record {
  least = subst (AreLeast c.args.used.now (pos 1)) (sym c.new-keys.ensures.items) (least_none c.args.used.now);
  most = omega (arith, ap length c.new-keys.ensures.items);
}

pub loop-key-preserved : goal.loop-key-preserved
loop-key-preserved c =
    let key = to_z w64 c.loop-key.key-bits in
    let used = c.args.used.now in
    let before = c.loop-key.invariant.least in
    let next : key +ℤ pos 1 ≡ to_z w64 (of_z w64 (key +ℤ pos 1)) =
    next_key key before.from c.loop-key-test.true in
    let is : c.is_among.result ≡ list_any (int_eq key) used =
    c.is_among.ensures ∙ ap (list_any (int_eq key)) c.deref.ensures.value ∙ c.in_ok-taken.ensures.same key in
    elim c.if-not-is_among.branch [
      | then-not-is_among+in_ok-push w ↦ record {
        least = subst (AreLeast used _) (sym (ap (λ v. v.items) w.keys-is ∙ w.in_ok-push.ensures.items))
            (subst (λ k. AreLeast used k (c.loop-key.keys.items ++ key ∷ [])) next
            (least_more used c.loop-key.keys.items key before c.loop-key-test.true
            (sym is ∙ w.if-not-is_among.true)));
        most = omega (
          arith,
          ap (λ v. length v.items) w.keys-is,
          ap length w.in_ok-push.ensures.items,
          length-append
              c.loop-key.keys.items (key ∷ []),
          c.loop-key.invariant.most,
          c.len.ensures,
          c.if-len-n.false,
        );
      }
      | else-not-is_among w ↦ record {
        least = subst (AreLeast used _) (sym (ap (λ v. v.items) w.keys-is))
            (subst (λ k. AreLeast used k c.loop-key.keys.items) next
            (least_same used c.loop-key.keys.items key before (sym is ∙ w.if-not-is_among.false)));
        most = subst (λ v. length v.items ≤ c.args.n) (sym w.keys-is) c.loop-key.invariant.most;
      }
    ]
