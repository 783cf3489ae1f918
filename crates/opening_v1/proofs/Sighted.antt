-- What the looks at a store of the first version come to: some right view of it is seen so.
use Rattle.std.proofs.Common.{◌≡◌, ◌∙◌, List, map, false, Some, None, Result, Ok, Err, sym, ap, subst}
use Rattle.std.specs.Prelude.{option_map, pos, IfOk}
use Rattle.std.proofs.lemmas.Bool.{false≢true}
use Rattle.sqlite.specs.Effect.{Database}
use Rattle.sqlite.specs.State.{State, HasCleanDisk}
use Rattle.sheet_types.specs.Opening.{Claim}
use Rattle.sheet_types.specs.World.{no_package}
use Rattle.sheet_types.specs.declared.frame.Frame.{Frame}
use Rattle.sheet_laws.specs.Laws.{StoreSight}
use Rattle.opening_faults.specs.Passages.{passages}
use Rattle.opening_faults.specs.Sights.{head_said, claim_said}
use Rattle.opening_faults.specs.declared.sights.StoreHead.{StoreHead}
use Rattle.package_tables.specs.Damaged.{AreFormedAt}
use Rattle.package_tables.specs.Package.{tables_of}
use Rattle.package_tables.specs.declared.fault.Fault.{Fault}
use Rattle.package_copy.specs.Copies.{AreInOrder, IsCopy}
use Rattle.package_copy.specs.declared.package_rows.PackageRows.{PackageRows}
use Rattle.package_schema.specs.Heads.{ReadsHeadAt}
use Rattle.package_schema.specs.Looking.{LooksAt}
use Rattle.opening_survey.specs.Looks.{IsSeenRight}
use Rattle.opening_survey.specs.Surveying.{IsSeenWithout}
use Rattle.opening_survey.specs.declared.said.Said.{Said}
use Rattle.opening_verdict.specs.Views.{IsSeenAs}
use Rattle.opening_verdict.specs.declared.seen.StoreSeen.{StoreSeen}
use Rattle.opening_v1.specs.Copies.{copy_row, AreRowsOf, IsSeenOfCopy}
use Rattle.opening_v1.specs.Numbers.{have_numbers}
use Rattle.opening_v1.specs.Surveying.{IsFirstSaid, IsFirstRead}
use Rattle.opening_v1.specs.Views.{IsFirstFormed, IsFirstSeenRight}
use Rattle.opening_v1.proofs.Copied.{whole_copy}
use Rattle.opening_v1.proofs.Numbering.{numbered}
use Rattle.opening_v1.proofs.Viewed.{view_seen}

-- the head that is said, these claims, and no package
abbrev view_without : Said → List Claim → Frame → StoreSight
view_without s claims f = record {
  head = option_map head_said s.head;
  claims = claims;
  is_formed = false;
  is_tied = false;
  frame = f;
  reads_as = no_package;
}

seen_without : (s : Said) (claims : List Claim) (f : Frame) (x : StoreSeen)
    → map claim_said s.claims.items ≡ passages claims → IsSeenWithout s f false x
    → IsSeenAs x (view_without s claims f)
seen_without s claims f x taken seen = record {
  head = ap (option_map head_said) seen.head;
  claims = ap (λ v. map claim_said v.items) seen.claims ∙ taken;
  formed = seen.formed;
  tied = seen.tied;
  frame = seen.frame;
  held = λ _ tied. absurd (false≢true tied);
  reading = λ _ tied. absurd (false≢true tied);
}

-- a store that is not formed
pub unformed : (db : Database) (s : Said) (f : Frame) (x : StoreSeen) → IsFirstSaid db s
    → (IsFirstFormed db → ⊥)
    → IsSeenWithout s f false x → IsFirstSeenRight db x
unformed db s f x said lacks seen = (
  view_without s said.claims.claims f,
  record {
    head = said.head;
    claims = said.claims.reads;
    formed = lacks;
    frame = λ h. absurd (false≢true h);
    tied = λ h. absurd (false≢true h);
    reads = λ h. absurd (false≢true h);
  },
  seen_without s said.claims.claims f x said.claims.taken seen,
)

-- a store without head is none
pub no_head : (db : Database) (s : Said) → s.head ≡ None → IsFirstSaid db s → IsFirstFormed db → ⊥
no_head db s none said formed = subst (λ h. ReadsHeadAt (pos 1) db (option_map head_said h)) none said.head
    formed.1.head formed.1.headed

-- a store with a row under a number that no package has
pub misnumbered : (db : Database) (s : Said) (f : Frame) (x : PackageRows) (seen : StoreSeen) → IsFirstSaid db s
    → (AreFormedAt (pos 1) db → AreRowsOf (tables_of db) x) → have_numbers x ≡ false
    → IsSeenWithout s f false seen
    → IsFirstSeenRight db seen
misnumbered db s f x seen said all low it =
    unformed db s f seen said (λ formed. false≢true (sym low
    ∙ numbered formed.0 (tables_of db) x (all formed.1.formed.0) formed.1.items formed.1.receipts)) it

-- a store whose rows were copied
pub copied : (db : Database) (s : Said) (h : StoreHead) (f : Frame) (x : PackageRows) (seen : StoreSeen)
    → s.head ≡ Some h → IsFirstSaid db s → IsFirstRead f db → AreRowsOf (tables_of db) x → AreInOrder x
    → IsSeenOfCopy f h x seen → IsFirstSeenRight db seen
copied db s h f x seen some said read all order it =
    let headed = subst (λ h. ReadsHeadAt (pos 1) db (option_map head_said h)) some said.head in
    let right = it.2 in (
      right.0,
      view_seen db it.0 f h headed read it.1.formed (it.1.says ∙ whole_copy f (copy_row h) db x all order)
          right.0 right.1,
      right.2,
    )

-- what is seen of the copy itself
pub seen_of_copy : (f : Frame) (h : StoreHead) (x : PackageRows) (old new : State) (r : Result StoreSeen Fault)
    → LooksAt IsSeenRight old new r → HasCleanDisk new → IsCopy f (copy_row h) x old.now
    → IfOk r (IsSeenOfCopy f h x)
seen_of_copy f h x old new (Ok seen) looks clean copy = let d =
    looks.done clean in (old.now, copy.holds, d.1.1 copy.keyed)
seen_of_copy f h x old new (Err e) looks clean copy = tt

-- what holds in any case holds after Ok
pub always : {X E : Type 0} {P : Type 0} (r : Result X E) → P → IfOk r (λ _. P)
always (Ok x) p = p
always (Err e) p = tt
