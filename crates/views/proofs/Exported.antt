-- What was written of a live package is its export, or a beginning of it.
use Rattle.std.proofs.Common.{◌≡◌, ◌∙◌, ℕ, List, Option, Some, unwrap_or, Result, Ok, Err, OnOk, OnErr}
use Rattle.std.proofs.Common.{Bool, true}
use Rattle.std.proofs.Common.{false, ap, refl, subst, inl, inr}
use Rattle.std.specs.Bool.{then_some}
use Rattle.std.specs.Io.KnownBytes.{Appends}
use Rattle.sheet_types.specs.Answers.{holdings_answer}
use Rattle.sheet_types.specs.Custody.{ticket}
use Rattle.sheet_types.specs.World.{World, is_live, holdings}
use Rattle.sheet_types.specs.declared.command.Item.{Item}
use Rattle.sheet_types.specs.declared.command.Relation.{Relation}
use Rattle.sheet_types.specs.declared.frame.Frame.{Frame}
use Rattle.view_export.specs.Exports.{export_text}
use Rattle.manifest_csv.specs.Sent.{WentOut}
use Rattle.manifest_csv.specs.declared.package_manifests.ManifestFault.{ManifestFault}
use Rattle.manifest_csv.specs.declared.package_manifests.ManifestFault.TheVariants.{Unknown, Failed, Unwritten}
use Rattle.views.specs.Written.{IsOfLive, WritesExport, export}

-- ---- a live package and its holdings

is_held : (b : Bool) (held : List Item × List Relation) (items : List Item) (links : List Relation)
    → Some (items, links) ≡ then_some b held
    → (b ≡ true) × (items ≡ held.0) × (links ≡ held.1)
is_held true held items links e = (refl, ap (λ o. (unwrap_or o held).0) e, ap (λ o. (unwrap_or o held).1) e)
is_held false held items links e = absurd (cc)

pub export_same : (w : World) (p : List ℕ) (f : Frame) (n : ℕ) (items : List Item) (links : List Relation)
    → f ≡ w.frame → n ≡ ticket w p → items ≡ (holdings w p).items → links ≡ (holdings w p).links
    → export_text f p n items links ≡ export w p
export_same w p f n items links frame number same_items same_links =
    ap (λ f. export_text f p n items links) frame ∙ ap (λ k. export_text w.frame p k items links) number
    ∙ ap (λ is. export_text w.frame p (ticket w p) is links) same_items
    ∙ ap (λ ls. export_text w.frame p (ticket w p) (holdings w p).items ls) same_links

-- ---- what was written of it

pub live_written : (w : World) (p : List ℕ) (a b : Option (List ℕ)) (r : Result (Unit {0}) ManifestFault)
    → is_live w p ≡ true
    → OnOk r (Appends a b (export w p)) → OnErr r (WentOut a b (export w p)) → IsOfLive r
    → WritesExport w p a b r
live_written w p a b (Ok x) live ok err of = (live, ok)
live_written w p a b (Err Unknown) live ok err of = absurd of
live_written w p a b (Err (Failed fault)) live ok err of = inr (live, err)
live_written w p a b (Err Unwritten) live ok err of = (live, err)

-- the text of the holdings that were found
pub found_written : (w : World) (p : List ℕ) (f : Frame) (n : ℕ) (items : List Item) (links : List Relation)
    (a b : Option (List ℕ)) (r : Result (Unit {0}) ManifestFault)
    → f ≡ w.frame → (is_live w p ≡ true → n ≡ ticket w p) → Some (items, links) ≡ holdings_answer w p
    → OnOk r (Appends a b (export_text f p n items links)) → OnErr r (WentOut a b (export_text f p n items links))
    → IsOfLive r → WritesExport w p a b r
found_written w p f n items links a b r frame number found ok err of =
    let held = is_held (is_live w p) ((holdings w p).items, (holdings w p).links) items links found in
    let same = export_same w p f n items links frame (number held.0) held.1 held.2 in
    live_written w p a b r held.0 (subst (λ t. OnOk r (Appends a b t)) same ok)
    (subst (λ t. OnErr r (WentOut a b t)) same err) of

-- a package of which nothing was written since memory or a store gave out
abbrev pub HasFailed : Result (Unit {0}) ManifestFault → Type 0
HasFailed (Ok x) = ⊥
HasFailed (Err Unknown) = ⊥
HasFailed (Err (Failed fault)) = Unit {0}
HasFailed (Err Unwritten) = ⊥

pub failed_written : (w : World) (p : List ℕ) (a : Option (List ℕ)) (r : Result (Unit {0}) ManifestFault)
    → HasFailed r → WritesExport w p a a r
failed_written w p a (Ok x) failed = absurd failed
failed_written w p a (Err Unknown) failed = absurd failed
failed_written w p a (Err (Failed fault)) failed = inl refl
failed_written w p a (Err Unwritten) failed = absurd failed
