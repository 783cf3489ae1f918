-- What was looked up of a list, one after the other.
use Rattle.std.specs.Prelude.{◌≡◌, ◌&&◌, ◌||◌, ℕ, Bool, true, false, List, [], ◌∷◌, Option}
use Rattle.std.specs.Prelude.{Some, None, Result, Ok}
use Rattle.std.specs.Prelude.{Err, IfOk, MatchOption, bytes_eq, length, refl}
use Rattle.std.proofs.Common.{ap, ◌∙◌, ◌==◌, arith}
use Rattle.std.specs.List.{list_any, AllByRecursion}
use Rattle.std.proofs.lemmas.Bool.Decides.{nat_tests}
use Rattle.sheet_types.specs.Custody.{is_used}
use Rattle.sheet_types.specs.Refuse.{identity_used}
use Rattle.sheet_types.specs.World.{World}
use Rattle.sheet_types.specs.declared.command.Command.TheVariants.{Add}
use Rattle.sheet_types.specs.declared.command.Content.{Content}
use Rattle.sheet_types.specs.declared.command.Item.{Item}
use Rattle.sheet_types.specs.declared.command.Relation.{Relation}
use Rattle.sheet_types.specs.declared.command.Request.{Request}
use Rattle.sheet_types.proofs.Basics.{bytes_eq_itself}
use Rattle.sheet_types.proofs.Every.{All-weaker, none_any}
use Rattle.field_run_laws.specs.Lists.{is_kept}
use Rattle.field_run_laws.specs.Ready.{added}
use Rattle.field_home_laws.specs.Free.{keeps_limits, IsFreeList}
use Rattle.command_field.specs.Freedom.{takes, AreApart, IsNewIn}
use Rattle.command_field.specs.declared.freedom.Taken.{Taken}
use Rattle.command_field.specs.declared.freedom.Taken.TheVariants.{Identity, Request as SameRequest}

-- ---- one request

-- an addition under an identity that is used
pub used_takes : (w : World) (q : Request) (p id : List ℕ) (content : Content) → q.command ≡ Add p id content
    → is_used w id ≡ true → takes w (Identity id) q ≡ true
used_takes w q p id content is used =
    ap (λ c. list_any (λ x. bytes_eq x id) (added c) && is_used w id) is
    ∙ ap (λ b. (b || false) && is_used w id) (bytes_eq_itself id) ∙ used

pub kept_takes : (w : World) (q : Request) → is_kept w q ≡ true → takes w (SameRequest q.id) q ≡ true
kept_takes w q e = ap (λ b. b && is_kept w q) (bytes_eq_itself q.id) ∙ e

-- nothing stands against it: neither the identity that it adds, nor its own
pub both_new : {E : Type 0} (P R : World → Type 0) (q : Request) (r : Result (Option Taken) E)
    → ((w : World) → P w → identity_used w q.command ≡ false) → ((w : World) → P w → R w)
    → IfOk r (λ found. (w : World) → R w → MatchOption found (is_kept w q ≡ false)
    (λ t. takes w t q ≡ true))
    → IfOk r (λ found. (w : World) → P w → MatchOption found (IsNewIn w q) (λ t. takes w t q ≡ true))
both_new P R q (Ok None) unused so it = λ w stands. (unused w stands, it w (so w stands))
both_new P R q (Ok (Some t)) unused so it = λ w stands. it w (so w stands)
both_new P R q (Err e) unused so it = tt

-- ---- a list

pub empty_list : {X : Type 0} (xs : List X) (b : Bool) → b ≡ (length xs == 0) → b ≡ true → xs ≡ []
empty_list [] b said so = refl
empty_list (x ∷ xs) b said so = absurd (grind (arith, nat_tests, said, so))

pub free_list : (w : World) (items : List Item) (linked : List Relation) (qs : List Request) → AreApart qs
    → AllByRecursion (IsNewIn w) qs → keeps_limits w items linked qs ≡ true → IsFreeList w items linked qs
free_list w items linked qs apart new limits = record {
  unused = none_any (λ q. identity_used w q.command) qs
      (All-weaker (IsNewIn w) (λ q. identity_used w q.command ≡ false) (λ q it. it.0) qs new);
  identities_apart = apart.0;
  unkept = none_any (is_kept w) qs (All-weaker (IsNewIn w) (λ q. is_kept w q ≡ false) (λ q it. it.1) qs new);
  requests_apart = apart.1;
  limits = limits;
}
