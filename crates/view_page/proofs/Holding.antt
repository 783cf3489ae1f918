-- What packages hold, one after the other.
use Rattle.std.proofs.Common.{◌≡◌, ◌∙◌, ◌<◌, ◌+◌, ◌++◌, ◌∷◌, [], ℕ, List, Bool, true}
use Rattle.std.proofs.Common.{false, refl, ap, sym, length}
use Rattle.std.proofs.Common.{take, get_or, map}
use Rattle.std.specs.Prelude.{flat_map, if◌then◌else◌}
use Rattle.std.proofs.lemmas.List.{append-nil}
use Rattle.std.proofs.lemmas.List.Concat.{flat_map_single}
use Rattle.sheet_types.specs.Answers.{PackageSight as ModelSight, package_sights}
use Rattle.sheet_types.specs.Ordered.{arranged, put, is_before}
use Rattle.sheet_types.specs.World.{World, holdings}
use Rattle.command_requests.proofs.Listed.{flat_more}
use Rattle.view_report.specs.Registers.{thing_of}
use Rattle.view_report.specs.declared.registers.Thing.{Thing}
use Rattle.view_report.specs.declared.registers.Tie.{Tie}
use Rattle.view_page.specs.Registers.{AreContents, by_depth, depth_key, things_under, ties_under, tie_of}
use Rattle.view_page.specs.declared.contents.Contents.{Contents}
use Rattle.world.specs.Reading.{sight_of}
use Rattle.world.specs.declared.reading.PackageSight.{PackageSight}

-- what is kept of a package, a thing for each item, is what it holds
pub one_held : (w : World) (p : List ℕ) (c : Contents) → c.things.items
    ≡ flat_map (λ i. thing_of p i ∷ []) (holdings w p).items
    → c.ties.items ≡ map (tie_of p) (holdings w p).links → AreContents w (λ u. u) (p ∷ []) c
one_held w p c things ties = record {
  things = things ∙ flat_map_single (thing_of p) (holdings w p).items ∙ sym (append-nil (things_under w p));
  ties = ties ∙ sym (append-nil (ties_under w p));
}

-- what one package more holds stands behind what the others hold
pub more_held : (w : World) (sights : List PackageSight) (i : ℕ) (s : PackageSight) (so_far more all : Contents)
    → i < length sights → s ≡ get_or sights i s
    → AreContents w (λ (x : PackageSight). x.uuid) (take i sights) so_far
    → AreContents w (λ u. u) (s.uuid ∷ []) more
    → all.things.items ≡ so_far.things.items ++ more.things.items
    → all.ties.items ≡ so_far.ties.items ++ more.ties.items
    → AreContents w (λ (x : PackageSight). x.uuid) (take (i + 1) sights) all
more_held w sights i s so_far more all within is before here things ties = record {
  things = things ∙ flat_more (λ (x : PackageSight). things_under w x.uuid) sights i s so_far.things.items
      more.things.items within is before.things
      (here.things ∙ append-nil (things_under w s.uuid));
  ties = ties ∙ flat_more (λ (x : PackageSight). ties_under w x.uuid) sights i s so_far.ties.items more.ties.items
      within is before.ties
      (here.ties ∙ append-nil (ties_under w s.uuid));
}

-- ---- in another order

flat_mapped : {X Y Z : Type 0} (f : Y → List Z) (h : X → Y) (xs : List X)
    → flat_map f (map h xs) ≡ flat_map (λ x. f (h x)) xs
flat_mapped f h [] = refl
flat_mapped f h (x ∷ xs) = ap (λ l. f (h x) ++ l) (flat_mapped f h xs)

by_order : (s x : PackageSight) (sights : List PackageSight) (b : Bool)
    → map sight_of (put (λ y. y.depth ∷ []) s sights) ≡ put depth_key (sight_of s) (map sight_of sights)
    → map sight_of (if b then x ∷ put (λ y. y.depth ∷ []) s sights else s ∷ x ∷ sights)
    ≡ (if b then sight_of x ∷ put depth_key (sight_of s) (map sight_of sights) else sight_of s ∷ sight_of x
    ∷ map sight_of sights)
by_order s x sights true rest = ap (λ l. sight_of x ∷ l) rest
by_order s x sights false rest = refl

put_mapped : (s : PackageSight) (sights : List PackageSight)
    → map sight_of (put (λ x. x.depth ∷ []) s sights) ≡ put depth_key (sight_of s) (map sight_of sights)
put_mapped s [] = refl
put_mapped s (x ∷ sights) = by_order s x sights (is_before (x.depth ∷ []) (s.depth ∷ [])) (put_mapped s sights)

-- sights in the order of their depths are so in the words of the model
pub sorted_sights : (sights : List PackageSight) → map sight_of (arranged (λ x. x.depth ∷ []) sights)
    ≡ by_depth (map sight_of sights)
sorted_sights [] = refl
sorted_sights (s ∷ sights) = put_mapped s (arranged (λ x. x.depth ∷ []) sights)
    ∙ ap (put depth_key (sight_of s)) (sorted_sights sights)

-- what the packages in that order hold is said of the world
pub all_held : (w : World) (sights ordered : List PackageSight) (c : Contents)
    → map sight_of sights ≡ package_sights w
    → map sight_of ordered ≡ by_depth (map sight_of sights) → AreContents w (λ (x : PackageSight). x.uuid)
    ordered c
    → AreContents w (λ (m : ModelSight). m.uuid) (by_depth (package_sights w)) c
all_held w sights ordered c seen order held =
    let same : map sight_of ordered ≡ by_depth (package_sights w) = order ∙ ap by_depth seen in
    record {
      things = held.things ∙ sym (flat_mapped (λ (m : ModelSight). things_under w m.uuid) sight_of ordered)
          ∙ ap (flat_map (λ (m : ModelSight). things_under w m.uuid)) same;
      ties = held.ties ∙ sym (flat_mapped (λ (m : ModelSight). ties_under w m.uuid) sight_of ordered)
          ∙ ap (flat_map (λ (m : ModelSight). ties_under w m.uuid)) same;
    }
