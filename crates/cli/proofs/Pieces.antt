-- What is written of packages, one after the other.
use Rattle.std.proofs.Common.{◌≡◌, ◌∙◌, refl, sym, ap, subst, ℕ, ◌+◌, ◌<◌, List, [], ◌∷◌}
use Rattle.std.proofs.Common.{◌++◌, append-nil, codes}
use Rattle.std.proofs.Common.{count_by, map, take, drop, take-append-drop, length, get_or, Option, Result, Ok, Err}
use Rattle.std.proofs.Common.{MatchResult, IsErr, arith}
use Rattle.std.specs.Io.KnownBytes.{Appends}
use Rattle.std.proofs.KnownBytes.{Appends-nil, Appends-trans}
use Rattle.std.proofs.lemmas.Grind.{flat_map-append}
use Rattle.std.proofs.lemmas.List.{map-append, take_more}
use Rattle.std.proofs.lemmas.Simd.{map-map}
use Rattle.sheet_types.specs.Answers.{PackageSight as ModelSight, package_sights}
use Rattle.sheet_types.specs.Refuse.{is_archive}
use Rattle.sheet_types.specs.Register.{IsRegister}
use Rattle.sheet_types.specs.Texts.{uuid_text}
use Rattle.sheet_types.specs.World.{World, Package, holdings}
use Rattle.world.specs.Reading.{sight_of}
use Rattle.world.specs.declared.reading.PackageSight.{PackageSight}
use Rattle.manifest_csv.specs.PackageManifests.{manifest, WritesManifest, WritesNothing}
use Rattle.manifest_csv.specs.Sent.{WentOut}
use Rattle.manifest_csv.specs.declared.package_manifests.ManifestFault.{ManifestFault}
use Rattle.manifest_csv.specs.declared.package_manifests.ManifestFault.TheVariants.{Unknown, Failed, Unwritten}
use Rattle.manifest_csv.proofs.ManifestFacts.{some_manifest}
use Rattle.manifest_csv.proofs.SentFacts.{some_first, went_out_after, went_out_of}
use Rattle.cli.specs.Rehearsals.{package_line, package_text, packages_text, live_text}

-- an answer that `?` hands on
pub failed : {X E : Type 0} (P Q : Type 0) (r : Result X E) → IsErr r → Q → MatchResult r (λ _. P) (λ _. Q)
failed P Q (Ok x) h q = absurd (let e = h in cc)
failed P Q (Err e) h q = q

-- nothing yet, where something is due
pub nothing_out : (a : Option (List ℕ)) (text : List ℕ) → 0 < length text → WentOut a a text
nothing_out a text some = (0, some, Appends-nil a)

-- all of a first text is a beginning of both, where something is due after it
first_out : (a b : Option (List ℕ)) (first second : List ℕ) → Appends a b first → 0 < length second
    → WentOut a b (first ++ second)
first_out a b first second p some = went_out_after a b b first second p (nothing_out b second some)

-- ---- what is due is something

pub package_some : (w : World) (uuid : List ℕ) → 0 < length (package_text w uuid)
package_some w uuid =
    let word : length (codes "package ") ≡ 8 = refl in
    some_first (package_line uuid) (manifest w uuid) (some_first (codes "package ") (uuid_text uuid ++ codes "\n")
    (omega (arith, word)))

-- there is an archive
some_listed : (w : World) (ps : List Package) → count_by is_archive ps ≡ 1
    → 0 < length (packages_text w (map (λ (p : Package). p.uuid) ps))
some_listed w [] one = absurd (let e = one in omega arith)
some_listed w (p ∷ ps) one = some_first (package_text w p.uuid) (packages_text w (map (λ (p : Package). p.uuid) ps))
    (package_some w p.uuid)

pub live_some : (w : World) → IsRegister w → 0 < length (live_text w)
live_some w register = some_listed w w.packages register.archive

-- ---- one package

module _ {W : Type 0} (contents : W → Option (List ℕ)) (w : World) (uuid : List ℕ) (a : Option (List ℕ))
    (mid after : W) (line : Appends a (contents mid) (package_line uuid)) where
  nothing_more : after ≡ mid → WentOut a (contents after) (package_text w uuid)
  nothing_more same = subst (λ x. WentOut a (contents x) (package_text w uuid)) (sym same)
      (first_out a (contents mid) (package_line uuid) (manifest w uuid) line
      (some_manifest (holdings w uuid).items (holdings w uuid).links))

  -- its line, and its manifest was not written
  pub manifest_failed : (e : ManifestFault) → WritesManifest w uuid (contents mid) (contents after) (Err e)
      → WritesNothing mid after (Err e) → WentOut a (contents after) (package_text w uuid)
  manifest_failed Unknown it same = nothing_more same
  manifest_failed (Failed fault) it same = nothing_more same
  manifest_failed Unwritten it same = went_out_after a (contents mid) (contents after) (package_line uuid)
      (manifest w uuid) line it.1

-- ---- all packages

-- the packages of a list that tells their UUIDs
abbrev pub listed_text : World → List PackageSight → List ℕ
listed_text w sights = packages_text w (map (λ s. s.uuid) sights)

listed_append : (w : World) (xs ys : List PackageSight) → listed_text w (xs ++ ys) ≡ listed_text w xs
    ++ listed_text w ys
listed_append w xs ys =
    ap (packages_text w) (map-append (λ (s : PackageSight). s.uuid) xs ys)
    ∙ flat_map-append (package_text w) (map (λ s. s.uuid) xs) (map (λ s. s.uuid) ys)

listed_more : (w : World) (xs : List PackageSight) (x : PackageSight)
    → listed_text w (xs ++ x ∷ []) ≡ listed_text w xs ++ package_text w x.uuid
listed_more w xs x = listed_append w xs (x ∷ []) ∙ ap (λ t. listed_text w xs ++ t)
    (append-nil (package_text w x.uuid))

-- the list of a world's packages tells all of them
pub all_listed : (w : World) (sights : List PackageSight) → map sight_of sights ≡ package_sights w
    → listed_text w sights ≡ live_text w
all_listed w sights told =
    let uuid : ModelSight → List ℕ = λ s. s.uuid in
    let same : map (λ (s : PackageSight). s.uuid) sights ≡ map (λ (p : Package). p.uuid) w.packages =
    sym (map-map uuid sight_of sights) ∙ ap (map uuid) told ∙ map-map uuid _ w.packages in
    ap (packages_text w) same

module _ (w : World) (sights : List PackageSight) (i : ℕ) (within : i < length sights) (s : PackageSight)
    (is : s ≡ get_or sights i s) where
  one_taken : take (i + 1) sights ≡ take i sights ++ s ∷ []
  one_taken = take_more sights i s within ∙ ap (λ x. take i sights ++ x ∷ []) (sym is)

  text_taken : listed_text w (take (i + 1) sights) ≡ listed_text w (take i sights) ++ package_text w s.uuid
  text_taken = ap (listed_text w) one_taken ∙ listed_more w (take i sights) s

  -- one more
  pub one_written : (a b c : Option (List ℕ)) → Appends a b (listed_text w (take i sights))
      → Appends b c (package_text w s.uuid) → Appends a c (listed_text w (take (i + 1) sights))
  one_written a b c before here = rw text_taken (Appends-trans a b c (listed_text w (take i sights))
      (package_text w s.uuid) before here)

  whole : listed_text w sights ≡ (listed_text w (take i sights) ++ package_text w s.uuid)
      ++ listed_text w (drop (i + 1) sights)
  whole = ap (listed_text w) (sym (take-append-drop (i + 1) sights))
      ∙ listed_append w (take (i + 1) sights) (drop (i + 1) sights)
      ∙ ap (λ t. t ++ listed_text w (drop (i + 1) sights)) text_taken

  -- one of which a beginning alone was written
  pub one_failed : (a b c : Option (List ℕ)) → Appends a b (listed_text w (take i sights))
      → WentOut b c (package_text w s.uuid) → WentOut a c (listed_text w sights)
  one_failed a b c before here =
      rw whole (went_out_of a c (listed_text w (take i sights) ++ package_text w s.uuid)
      (listed_text w (drop (i + 1) sights)) (went_out_after a b c (listed_text w (take i sights))
      (package_text w s.uuid) before here))
