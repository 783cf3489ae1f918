-- The member at the place is there, and the command names its package.
use Rattle.std.proofs.Common.{◌≡◌, ◌∙◌, refl, sym, ap, Some}
use Rattle.std.proofs.lemmas.Option.{slice_get_read}
use Rattle.std.proofs.lemmas.Slice.Eq.{bytes_eq-Decides}
use Rattle.world.specs.Asked.{child_returned}
use Rattle.world_members.specs.declared.members.Member.{Member}
use Rattle.world.proofs.applying.child_at.Goals as goal

pub returns-then-eq : goal.returns-then-eq
returns-then-eq g c = (
  (
    c.index-members-at.result,
    slice_get_read _ _ _ _ refl c.requires c.index-members-at.is,
    ap (λ (m : Member g.row.S.Denot). m.uuid) (sym c.index-members-at.is),
  ),
  ap child_returned c.in-Merge.is ∙ ap Some (sym ((bytes_eq-Decides _ c.in-Merge.child).0
      (sym c.eq.ensures ∙ c.if-eq.true))),
)
