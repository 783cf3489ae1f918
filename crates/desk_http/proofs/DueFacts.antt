-- What is due is what is served.
use Rattle.std.proofs.Common.{◌≡◌, ◌⊎◌, ℕ, List, [], Some, refl, sym, subst, inl, inr}
use Rattle.sqlite.specs.Store.{Ghosts}
use Rattle.sheet_types.specs.World.{World}
use Rattle.world.specs.Worlds.{IsRead, Seen, StandsFor}
use Rattle.desk_calls.specs.declared.calls.Call.TheVariants as call
use Rattle.desk_http.specs.Served.{DueIsServed}

module _ {S : Type 0} (g : Ghosts S) where
  still : (old new : Seen S) → (new ≡ old) ⊎ IsRead g old new → (w : World) → StandsFor g old w
      → StandsFor g new w
  still old new (inl same) w stands = subst (λ seen. StandsFor g seen w) (sym same) stands
  still old new (inr read) w stands = read.stands w stands

  pub due_is_served : DueIsServed g
  due_is_served own xs old new out before after (inl (call.Refused flaw, is, (same, text))) = (
    [],
    λ clean gone w stands. (
      w,
      inr (inl (call.Refused flaw, is, (refl, text))),
      still old new (inl same) w stands,
    ),
  )
  due_is_served own xs old new out before after (inl (call.Apply request, is, (reply, applies, text))) = (
    applies.step.gone,
    λ clean gone w stands.
        let it = applies.step.step clean gone w stands in
        (it.0, inr (inl (call.Apply request, is, (reply, it.1, text))), it.2),
  )
  due_is_served own xs old new out before after (inl (call.Packages, is, tells)) = (
    [],
    λ clean gone w stands. (
      w,
      inr (inl (call.Packages, is, (refl, tells.told clean w stands))),
      still old new tells.read w stands,
    ),
  )
  due_is_served own xs old new out before after (inl (call.Manifest id, is, tells)) = (
    [],
    λ clean gone w stands. (
      w,
      inr (inl (call.Manifest id, is, (refl, tells.told clean w stands))),
      still old new tells.read w stands,
    ),
  )
  due_is_served own xs old new out before after (inl (call.Receipt id, is, tells)) = (
    [],
    λ clean gone w stands. (
      w,
      inr (inl (call.Receipt id, is, (refl, tells.told clean w stands))),
      still old new tells.read w stands,
    ),
  )
  due_is_served own xs old new out before after (inr (some, text, same)) =
      ([], λ clean gone w stands. (w, inr (inr (some, text, refl)), still old new (inl same) w stands))
