-- What was written of a live package whose items were told is its export, or a beginning of it.
use Rattle.std.proofs.Common.{◌≡◌, ℕ, List, Option, Result, Ok, Err, OnOk, OnErr, true, refl, subst, sym, inl}
use Rattle.std.proofs.Common.{inr}
use Rattle.std.specs.Io.KnownBytes.{Appends}
use Rattle.sqlite.specs.Store.{Ghosts}
use Rattle.sheet_types.specs.Custody.{ticket}
use Rattle.sheet_types.specs.World.{World, is_live, holdings}
use Rattle.sheet_types.specs.declared.command.Relation.{Relation}
use Rattle.sheet_types.specs.declared.frame.Frame.{Frame}
use Rattle.view_export.specs.Exports.{export_text}
use Rattle.world_members.specs.Members.{AllClean}
use Rattle.world.specs.Worlds.{IsRead, Seen}
use Rattle.world.proofs.WorldsRead.{read_then}
use Rattle.manifest_csv.specs.Sent.{WentOut}
use Rattle.manifest_csv.specs.declared.package_manifests.ManifestFault.{ManifestFault}
use Rattle.views.specs.Printed.{IsUntouched}
use Rattle.views.specs.Written.{IsOfLive, WritesExport}
use Rattle.views.proofs.Exported.{export_same, live_written}

-- what holds under a condition that is met
pub given_ok : {T E P Q : Type 0} (r : Result T E) → (P → Q) → OnOk r P → OnOk r Q
given_ok (Ok x) so p = so p
given_ok (Err e) so p = tt

pub given_err : {T E P Q : Type 0} (r : Result T E) → (P → Q) → OnErr r P → OnErr r Q
given_err (Ok x) so p = tt
given_err (Err e) so p = so p

pub told_written : (w : World) (p : List ℕ) (f : Frame) (n : ℕ) (links : List Relation) (a b : Option (List ℕ))
    (r : Result (Unit {0}) ManifestFault)
    → f ≡ w.frame → n ≡ ticket w p → is_live w p ≡ true → links ≡ (holdings w p).links
    → OnOk r (Appends a b (export_text f p n (holdings w p).items links))
    → OnErr r (WentOut a b (export_text f p n (holdings w p).items links)) → IsOfLive r → WritesExport w p a b r
told_written w p f n links a b r frame number live same_links ok err of =
    let same = export_same w p f n (holdings w p).items links frame number refl same_links in
    live_written w p a b r live (subst (λ t. OnOk r (Appends a b t)) same ok)
    (subst (λ t. OnErr r (WentOut a b t)) same err) of

module _ {S : Type 0} (g : Ghosts S) where
  pub clean_untouched : (a b : Seen S) → IsUntouched g a b → AllClean g b.members → AllClean g a.members
  clean_untouched a b (inl same) clean = subst (λ s. AllClean g s.members) same clean
  clean_untouched a b (inr read) clean = read.clean clean

  pub untouched_read : (a b c : Seen S) → IsRead g a b → IsUntouched g b c → IsRead g a c
  untouched_read a b c first (inl same) = subst (λ s. IsRead g a s) (sym same) first
  untouched_read a b c first (inr next) = read_then g a b c first next
