-- What is kept of the members tells which packages there are and how much each of them holds.
use Rattle.std.proofs.Common.{◌≡◌, sym, ap, subst, ◌∙◌, ℕ, List, map, Some, None, slice_get, Result, Ok}
use Rattle.std.proofs.Common.{Err, IfOk}
use Rattle.std.specs.Bool.{then_some}
use Rattle.sqlite.specs.Store.{Ghosts}
use Rattle.sqlite_trees.proofs.ListLemmas.{map-map}
use Rattle.sheet_types.specs.Answers.{PackageSight, sums_held, sums_of, package_sights}
use Rattle.sheet_types.specs.Custody.{ticket}
use Rattle.sheet_types.specs.World.{World, Package, holdings}
use Rattle.world_queries.specs.Asking.{StandsAt, StandsNowhere}
use Rattle.world_members.specs.Members.{IsMember, AreMembers}
use Rattle.world.specs.Reading.{sight_of, member_sight}
use Rattle.world.specs.Worlds.{Seen, StandsFor}
use Rattle.world_members.specs.declared.members.Member.{Member}
use Rattle.world.specs.declared.reading.PackageSight.{PackageSight as Listed}
use Rattle.world_members.proofs.Standing.{zip_at, zip_map}

module _ {S : Type 0} (g : Ghosts S) where
  abbrev sight : World → Package → PackageSight
  sight w p = record { uuid = p.uuid; parent = p.parent; depth = p.depth; ticket = ticket w p.uuid }

  one_sight : (w : World) (m : Member S) (p : Package) → IsMember g w m p → sight_of (member_sight m) ≡ sight w p
  one_sight w m p is =
      ap (λ id. record { uuid = id; parent = m.parent; depth = m.depth; ticket = m.ticket }) is.uuid
      ∙ ap (λ end. record { uuid = p.uuid; parent = end; depth = m.depth; ticket = m.ticket }) is.parent
      ∙ ap (λ n. record { uuid = p.uuid; parent = p.parent; depth = n; ticket = m.ticket }) is.depth
      ∙ ap (λ n. record { uuid = p.uuid; parent = p.parent; depth = p.depth; ticket = n }) is.ticket

  -- the members are listed as the packages of the world
  sights_told : (w : World) (ms : List (Member S)) (count : ℕ) → AreMembers g ms count w
      → map sight_of (map member_sight ms) ≡ package_sights w
  sights_told w ms count are = map-map sight_of member_sight ms
      ∙ zip_map (IsMember g w) (λ m. sight_of (member_sight m)) (sight w) (one_sight w) ms w.packages are.each

  -- and so is what was made a list of
  pub listed : {X E : Type 0} (items : X → List Listed) (r : Result X E) (ms : List (Member S)) (now : Seen S)
      → ms ≡ now.members → IfOk r (λ x. items x ≡ map member_sight ms)
      → IfOk r (λ x. (w : World) → StandsFor g now w → map sight_of (items x) ≡ package_sights w)
  listed items (Ok x) ms now same is = λ w stands. ap (λ ss. map sight_of ss) is
      ∙ sights_told w ms now.count (subst (λ ls. AreMembers g ls now.count w) (sym same) stands.members)
  listed items (Err e) ms now same is = tt

  -- the sums that are kept of a member are those of its package
  pub sums_there : (ms : List (Member S)) (uuid : List ℕ) (at : ℕ) (m : Member S) → StandsAt g ms uuid at
      → slice_get ms at ≡ Some m → (w : World) (count : ℕ) → AreMembers g ms count w
      → Some m.sums ≡ sums_of w uuid
  sums_there ms uuid at m stands place w count are =
      let here : (p : Package) × (slice_get w.packages at ≡ Some p) × IsMember g w m p =
      zip_at (IsMember g w) ms w.packages at m are.each place in
      let there : slice_get w.packages at ≡ Some (holdings w uuid) = stands.holds w count are in
      let found : slice_get w.packages at ≡ Some here.0 = here.1 in
      let same : here.0 ≡ holdings w uuid = cc in
      ap Some (here.2.sums ∙ ap sums_held same) ∙ ap (λ b. then_some b (sums_held (holdings w uuid)))
      (sym (stands.live w count are))

  pub sums_nowhere : (ms : List (Member S)) (uuid : List ℕ) → StandsNowhere g ms uuid → (w : World) (count : ℕ)
      → AreMembers g ms count w → None ≡ sums_of w uuid
  sums_nowhere ms uuid stands w count are = ap (λ b. then_some b (sums_held (holdings w uuid)))
      (sym (stands.dead w count are))
