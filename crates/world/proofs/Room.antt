-- What is kept of the members tells whether there is room.
use Rattle.std.proofs.Common.{◌≡◌, ◌≤◌, ◌<◌, ◌∙◌, ◌+◌, refl, sym, ap, ℕ, Bool, true}
use Rattle.std.proofs.Common.{false, List, [], ◌∷◌, length}
use Rattle.std.proofs.Common.{arith}
use Rattle.std.specs.Prelude.{◌-◌, ◌&&◌, ◌||◌, not, nat_lt, nat_le}
use Rattle.std.specs.List.{list_any, AllZip}
use Rattle.std.proofs.lemmas.Bool.{true≢false, leb-true, leb-false, le-leb, lt-leb, lt-ltb, le-ltb}
use Rattle.std.proofs.lemmas.Slice.Zip.{AllZip-long}
use Rattle.sqlite.specs.Store.{Ghosts}
use Rattle.sheet_types.specs.Refuse.{is_overfull, greatest_packages, greatest_receipts}
use Rattle.sheet_types.specs.World.{World, Package, receipts_of}
use Rattle.world_members.specs.Members.{IsMember, AreMembers}
use Rattle.world_members.specs.Steps.{is_past_limits}
use Rattle.world_members.specs.declared.members.Member.{Member}
use Rattle.world.specs.Knowing.{has_room, members_have_room}
use Rattle.world.specs.Worlds.{Seen, StandsFor}

-- ---- numbers

-- so many more are none too many, where no more are left
pub left_of : (count more most : ℕ) → count ≤ most → nat_le more (most - count) ≡ nat_le (count + more) most
left_of count more most within =
    elim (nat_le more (most - count)) as (λ v. nat_le more (most - count) ≡ v → v ≡ nat_le (count + more) most) [
      | true ↦ λ e. let h : more ≤ most - count = leb-true more (most - count) e in
          sym (le-leb (count + more) most (omega (arith, h, within)))
      | false ↦ λ e. let h : most - count < more = leb-false more (most - count) e in
          sym (lt-leb (count + more) most (omega (arith, h, within)))
    ] refl

not_past : (n most : ℕ) → nat_le n most ≡ not (nat_lt most n)
not_past n most = elim (nat_le n most) as (λ v. nat_le n most ≡ v → v ≡ not (nat_lt most n)) [
  | true ↦ λ e. let h : n ≤ most = leb-true n most e in ap not (sym (le-ltb most n h))
  | false ↦ λ e. let h : most < n = leb-false n most e in ap not (sym (lt-ltb most n h))
] refl

-- past the last limit nothing more has room
within_all : (a b c d : Bool) → (d ≡ true → c ≡ false) → (not a && not b && d) ≡ (not (a || b || c) && d)
within_all true b c d so = refl
within_all false true c d so = refl
within_all false false true true so = absurd (true≢false (so refl))
within_all false false true false so = refl
within_all false false false d so = refl

fewer_are_none : (n more most : ℕ) → nat_le (n + more) most ≡ true → nat_lt most n ≡ false
fewer_are_none n more most e = let h : n + more ≤ most = leb-true (n + more) most e in le-ltb most n
    (omega (arith, h))

-- ---- the members

module _ {S : Type 0} (g : Ghosts S) (w : World) where
  any_past : (ms : List (Member S)) (ps : List Package) → AllZip (IsMember g w) ms ps
      → list_any (λ m. is_past_limits m.sums) ms ≡ list_any is_overfull ps
  any_past [] [] zip = refl
  any_past [] (p ∷ ps) zip = absurd zip
  any_past (m ∷ ms) [] zip = absurd zip
  any_past (m ∷ ms) (p ∷ ps) zip =
      ap (λ s. is_past_limits s || list_any (λ n. is_past_limits n.sums) ms) zip.0.sums
      ∙ ap (λ b. is_overfull p || b) (any_past ms ps zip.1)

  pub told_room : (ms : List (Member S)) (count more : ℕ) → AreMembers g ms count w
      → members_have_room ms count more ≡ has_room w more
  told_room ms count more are =
      let full : Bool = list_any is_overfull w.packages in
      let most : ℕ = length (receipts_of w) in
      ap (λ b. not b && nat_le (length ms) greatest_packages && nat_le (count + more) greatest_receipts)
      (any_past ms w.packages are.each)
      ∙ ap (λ n. not full && nat_le n greatest_packages && nat_le (count + more) greatest_receipts)
      (sym (AllZip-long (IsMember g w) ms w.packages are.each))
      ∙ ap (λ b. not full && b && nat_le (count + more) greatest_receipts)
      (not_past (length w.packages) greatest_packages)
      ∙ ap (λ n. not full && not (nat_lt greatest_packages (length w.packages)) && nat_le (n + more)
      greatest_receipts)
      are.counted
      ∙ within_all full (nat_lt greatest_packages (length w.packages)) (nat_lt greatest_receipts most)
      (nat_le (most + more) greatest_receipts) (fewer_are_none most more greatest_receipts)

-- and so does a value that stands for the world
pub room_of : {S : Type 0} (g : Ghosts S) (seen : Seen S) (ms : List (Member S)) (count more : ℕ) (r : Bool)
    → ms ≡ seen.members → count ≡ seen.count → r ≡ members_have_room ms count more
    → (w : World) → StandsFor g seen w → r ≡ has_room w more
room_of g seen ms count more r same counted told w stands =
    told ∙ ap (λ (l : List (Member _)). members_have_room l count more) same
    ∙ ap (λ n. members_have_room seen.members n more) counted
    ∙ told_room g w seen.members seen.count more stands.members
