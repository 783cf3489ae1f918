-- Where the member of a package stands, there stands the package.
use Rattle.std.proofs.Common.{◌≡◌, sym, ap, subst, ◌∙◌, ℕ, List, Bool, false, take, slice_get, Some}
use Rattle.std.proofs.Common.{bytes_eq, ◌+◌}
use Rattle.std.specs.Prelude.{find, unwrap_or}
use Rattle.std.specs.List.{AllZip, list_any}
use Rattle.std.proofs.lemmas.Map.Keys.{any_passes_from_place}
use Rattle.std.proofs.lemmas.Option.{slice_get_within}
use Rattle.sqlite.specs.Store.{Ghosts}
use Rattle.sqlite_trees.proofs.ListLemmas.{all-slice_get}
use Rattle.sheet_types.specs.Ordered.{IsArranged}
use Rattle.sheet_types.specs.World.{World, Package, package_key, no_package}
use Rattle.sheet_types.proofs.Basics.{bytes_eq_itself}
use Rattle.sheet_types.proofs.Every.{none_pass, none_any}
use Rattle.sheet_laws.proofs.Packages.{at_uuid, each_found}
use Rattle.identity_register.proofs.Finding.{any_map}
use Rattle.world_members.specs.Members.{IsMember, AreMembers}
use Rattle.world_queries.specs.Asking.{StandsAt, StandsNowhere}
use Rattle.world_members.specs.declared.members.Member.{Member}
use Rattle.world_members.proofs.Standing.{zip_at, zip_map}
use Rattle.world_queries.proofs.Asked.{take_one_more}

-- tests that agree place by place
pub any_zip : {X Y : Type 0} (R : X → Y → Type 0) (p : X → Bool) (q : Y → Bool)
    → ((x : X) (y : Y) → R x y → p x ≡ q y) → (xs : List X) (ys : List Y) → AllZip R xs ys
    → list_any p xs ≡ list_any q ys
any_zip R p q f xs ys zip = sym (any_map p (λ b. b) xs) ∙ ap (list_any (λ b. b)) (zip_map R p q f xs ys zip)
    ∙ any_map q (λ b. b) ys

-- the first elements and one more
pub none_more : {X : Type 0} (p : X → Bool) (xs : List X) (n : ℕ) (x : X) → list_any p (take n xs) ≡ false
    → slice_get xs n ≡ Some x → p x ≡ false → list_any p (take (n + 1) xs) ≡ false
none_more p xs n x none place fails = none_any p (take (n + 1) xs)
    (take_one_more (λ y. p y ≡ false) xs n x (none_pass p (take n xs) none) place fails)

-- The packages have different UUIDs, so the one of this UUID is the one that is found.
found_there : (uuid : List ℕ) (ps : List Package) (at : ℕ) (x : Package) → IsArranged package_key ps
    → slice_get ps at ≡ Some x → x.uuid ≡ uuid → find (at_uuid uuid) ps ≡ Some x
found_there uuid ps at x arranged place named = subst (λ u. find (at_uuid u) ps ≡ Some x) named
    (all-slice_get (λ y. find (at_uuid y.uuid) ps ≡ Some y) ps at x place (each_found ps arranged))

module _ {S : Type 0} (g : Ghosts S) where
  same_test : (w : World) (uuid : List ℕ) (m : Member S) (p : Package) → IsMember g w m p
      → bytes_eq m.uuid uuid ≡ bytes_eq p.uuid uuid
  same_test w uuid m p is = ap (λ k. bytes_eq k uuid) is.uuid

  -- a member of this UUID is where its package stands
  pub stands_named : (members : List (Member S)) (uuid : List ℕ) (at : ℕ) (m : Member S)
      → slice_get members at ≡ Some m → m.uuid ≡ uuid → StandsAt g members uuid at
  stands_named members uuid at m place named = record {
    within = slice_get_within members at m place;
    member = m;
    place = place;
    named = named;
    live = λ w count are. let here = there w count are in any_passes_from_place (at_uuid uuid) w.packages at here.0
        here.1 (ap (λ u. bytes_eq u uuid) here.2 ∙ bytes_eq_itself uuid);
    holds = λ w count are. let here = there w count are in here.1
        ∙ ap (λ o. Some (unwrap_or o no_package)) (sym (found_there uuid w.packages at here.0 are.register.arranged
        here.1 here.2));
  }
    where
      there : (w : World) (count : ℕ) → AreMembers g members count w → (p : Package)
          × (slice_get w.packages at ≡ Some p) × (p.uuid ≡ uuid)
      there w count are = let here = zip_at (IsMember g w) members w.packages at m are.each place in
          (here.0, here.1, sym here.2.uuid ∙ named)

  pub stands_nowhere : (members : List (Member S)) (uuid : List ℕ)
      → list_any (λ (x : Member S). bytes_eq x.uuid uuid) members ≡ false → StandsNowhere g members uuid
  stands_nowhere members uuid none = record {
    none = none;
    dead = λ w count are. sym (any_zip (IsMember g w) (λ (x : Member S). bytes_eq x.uuid uuid)
        (λ p. bytes_eq p.uuid uuid) (same_test w uuid) members w.packages are.each) ∙ none;
  }
