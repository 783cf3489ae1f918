-- What the looks at a store come to: some right view of it is seen so.
use Rattle.std.proofs.Common.{◌≡◌, ◌∙◌, List, map, Bool, true, false, Some, None, ap, subst}
use Rattle.std.specs.Prelude.{option_map}
use Rattle.std.proofs.lemmas.Bool.{false≢true}
use Rattle.sqlite.specs.Effect.{Database}
use Rattle.sheet_types.specs.Lines.{IsUuid}
use Rattle.sheet_types.specs.Opening.{Claim}
use Rattle.sheet_types.specs.World.{Package, no_package}
use Rattle.sheet_types.specs.declared.frame.Frame.{Frame}
use Rattle.sheet_laws.specs.Laws.{StoreSight, SeesItsPackage}
use Rattle.opening_faults.specs.Passages.{passages}
use Rattle.opening_faults.specs.Sights.{head_said, claim_said}
use Rattle.opening_faults.specs.declared.sights.StoreHead.{StoreHead}
use Rattle.package_tables.specs.Package.{tables_of}
use Rattle.identity_register.specs.Reads.{Reads}
use Rattle.package_schema.specs.Heads.{IsHead, ReadsHead}
use Rattle.opening_verdict.specs.Views.{IsSeenAs}
use Rattle.opening_verdict.specs.declared.seen.StoreSeen.{StoreSeen}
use Rattle.opening_survey.specs.Laws.{ReadsAsAPackage, IsPackageOf}
use Rattle.opening_survey.specs.Looks.{TellsHeld, IsSeenRight}
use Rattle.opening_survey.specs.Surveying.{IsSaid, IsRead, TellsTied, IsSeenWithout}
use Rattle.opening_survey.specs.Views.{IsWhole, IsFormed}
use Rattle.opening_survey.specs.declared.forms.Formed.{Formed}
use Rattle.opening_survey.specs.declared.said.Said.{Said}
use Rattle.opening_survey.proofs.Levelling.{Level, levelled}

-- ---- views

-- the head that is said, these claims, and no package
abbrev view_without : Said → List Claim → Frame → Bool → StoreSight
view_without s claims f is_formed = record {
  head = option_map head_said s.head;
  claims = claims;
  is_formed = is_formed;
  is_tied = false;
  frame = f;
  reads_as = no_package;
}

seen_without : (s : Said) (claims : List Claim) (f : Frame) (is_formed : Bool) (x : StoreSeen)
    → map claim_said s.claims.items ≡ passages claims → IsSeenWithout s f is_formed x
    → IsSeenAs x (view_without s claims f is_formed)
seen_without s claims f is_formed x taken seen = record {
  head = ap (option_map head_said) seen.head;
  claims = ap (λ v. map claim_said v.items) seen.claims ∙ taken;
  formed = seen.formed;
  tied = seen.tied;
  frame = seen.frame;
  held = λ _ tied. absurd (false≢true tied);
  reading = λ _ tied. absurd (false≢true tied);
}

-- ---- a store that is not formed

pub unformed : (db : Database) (s : Said) (f : Frame) (x : StoreSeen) → IsSaid db s → (IsFormed db → ⊥)
    → IsSeenWithout s f false x → IsSeenRight db x
unformed db s f x said lacks seen = (
  view_without s said.claims.claims f false,
  record {
    head = said.head;
    claims = said.claims.reads;
    formed = lacks;
    frame = λ h. absurd (false≢true h);
    tied = λ h. absurd (false≢true h);
    reads = λ h. absurd (false≢true h);
  },
  seen_without s said.claims.claims f false x said.claims.taken seen,
)

-- a store without head is none
pub no_head : (db : Database) (s : Said) → s.head ≡ None → IsSaid db s → IsFormed db → ⊥
no_head db s none said formed = subst (λ h. ReadsHead db (option_map head_said h)) none said.head formed.1.head
    formed.1.headed

-- ---- a store that is formed

known : (db : Database) (s : Said) (h : StoreHead) → s.head ≡ Some h → IsSaid db s → IsHead db (head_said h)
known db s h some said = subst (λ h. ReadsHead db (option_map head_said h)) some said.head

whole : (db : Database) (s : Said) (h : StoreHead) (y : Formed) → s.head ≡ Some h → IsSaid db s → IsRead y db
    → IsWhole y.frame db
whole db s h y some said read = record {
  formed = read.formed;
  head = head_said h;
  headed = known db s h some said;
  frame = read.framed.frame;
  dated = read.framed.dated;
  items = read.framed.items;
  receipts = read.receipts.range;
}

-- and not tied
pub untied : (db : Database) (s : Said) (h : StoreHead) (y : Formed) (x : StoreSeen) → s.head ≡ Some h
    → IsSaid db s
    → IsRead y db → TellsTied (tables_of db) false → IsSeenWithout s y.frame true x → IsSeenRight db x
untied db s h y x some said read told seen = (
  view_without s said.claims.claims y.frame true,
  record {
    head = said.head;
    claims = said.claims.reads;
    formed = (y.frame, whole db s h y some said read);
    frame = λ _. whole db s h y some said read;
    tied = λ _. told.tied;
    reads = λ _ tied. absurd (false≢true tied);
  },
  seen_without s said.claims.claims y.frame true x said.claims.taken seen,
)

-- ---- a store that is formed and tied

-- seen with this head and these splits and merges, this frame, and a package that is told so
pub record IsSeenWith (db : Database) (s : Said) (h : StoreHead) (y : Formed) (x : StoreSeen) : Type 0 where
  pub head : x.sight.head ≡ s.head
  pub claims : x.sight.claims ≡ s.claims
  pub frame : x.sight.frame ≡ y.frame
  pub formed : x.is_formed ≡ true
  pub tied : x.is_tied ≡ true
  pub held : (f : Frame) (p : Package) → Reads f p db → TellsHeld (head_said h) y.receipts.items f p x.held

abbrev view_with : Said → List Claim → Frame → Package → StoreSight
view_with s claims f p = record {
  head = option_map head_said s.head;
  claims = claims;
  is_formed = true;
  is_tied = true;
  frame = f;
  reads_as = p;
}

reading : (db : Database) (s : Said) (h : StoreHead) (y : Formed) (p : Package) → s.head ≡ Some h
    → (said : IsSaid db s) → IsRead y db → IsPackageOf y.frame db (head_said h) y.receipts.items p
    → SeesItsPackage (view_with s said.claims.claims y.frame p)
reading db s h y p some said read law formed tied =
    let headed = known db s h some said in
    record {
      heads = ap (option_map head_said) some ∙ ap Some law.heads;
      claimed = said.claims.reads.0 read.formed.receipts ∙ law.claimed;
      frame = read.framed.frame.0;
      uuid = subst (λ k. IsUuid k.uuid) law.heads headed.1.2.uuid;
      keeps = law.keeps;
      level = subst Level law.heads (levelled headed.1.0 (head_said h) headed.1.2);
    }

pub packaged : ReadsAsAPackage → (db : Database) (s : Said) (h : StoreHead) (y : Formed) (x : StoreSeen)
    → s.head ≡ Some h → IsSaid db s → IsRead y db → TellsTied (tables_of db) true → IsSeenWith db s h y x
    → IsSeenRight db x
packaged law db s h y x some said read told seen =
    let w : IsWhole y.frame db = whole db s h y some said read in
    let q : (p : Package) × IsPackageOf y.frame db (head_said h) y.receipts.items p =
    law y.frame db (head_said h) y.receipts.items w (known db s h some said) told.tied told.unique
    read.receipts in (
      view_with s said.claims.claims y.frame q.0,
      record {
        head = said.head;
        claims = said.claims.reads;
        formed = (y.frame, w);
        frame = λ _. w;
        tied = λ _. told.tied;
        reads = λ _ _. q.1.reads;
      },
      record {
        head = ap (option_map head_said) seen.head;
        claims = ap (λ v. map claim_said v.items) seen.claims ∙ said.claims.taken;
        formed = seen.formed;
        tied = seen.tied;
        frame = seen.frame;
        held = λ _ _. seen.held y.frame q.0 q.1.reads q.1.heads q.1.receipts_are;
        reading = reading db s h y q.0 some said read q.1;
      },
    )
