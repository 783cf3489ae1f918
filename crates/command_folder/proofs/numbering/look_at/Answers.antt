-- The look is that of the one store.
use Rattle.std.specs.Prelude.{◌≡◌, Result, Ok, Err, Option, Some, None, IfOk, IfSome, slice_get, refl}
use Rattle.std.proofs.lemmas.Option.{slice_get_read}
use Rattle.command_folder.proofs.numbering.look_at.Goals as goal

seen_so : {X E : Type 0} (P Q : X → Type 0) (r : Result (Option X) E) → ((x : X) → P x → Q x)
    → IfOk r (λ o. IfSome o P) → IfOk r (λ o. IfSome o Q)
seen_so P Q (Ok (Some x)) f h = f x h
seen_so P Q (Ok None) f h = tt
seen_so P Q (Err e) f h = tt

pub returns : goal.returns
returns g c =
    let was = c.index_mut-conn.result.now in
    let place : slice_get c.args.stores.now.items c.args.at ≡ Some was =
    slice_get_read _ _ _ _ refl c.requires c.index_mut-conn.ensures.value in
    seen_so _ _ c.look_into.result
    (λ sight seen. record { was = was; place = place; last = c.look_into.new.conn; others = refl; seen = seen })
    c.look_into.ensures
