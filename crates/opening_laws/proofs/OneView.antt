-- A right view of a store that reads as a package of a register is the view of that package, and one of a stray is a
-- stray's.
use Rattle.std.specs.Prelude.{◌≡◌, ℤ, pos, [], ◌∷◌, map, Bool, true, false, refl, Option, Some, None}
use Rattle.std.specs.Prelude.{MatchOption, ⊤}
use Rattle.std.proofs.Common.{ap, sym, ◌∙◌, inl, inr}
use Rattle.sqlite.specs.Effect.{Database}
use Rattle.sheet_types.specs.Opening.{Head, head_of}
use Rattle.sheet_types.specs.Register.{IsRegister, IsKeptPackage}
use Rattle.sheet_types.specs.World.{World, Package}
use Rattle.sheet_types.specs.declared.frame.Frame.{Frame}
use Rattle.identity_register.specs.Reads.{Reads}
use Rattle.identity_register.proofs.OnePackage.{reads_alone}
use Rattle.sheet_laws.specs.Laws.{StoreSight}
use Rattle.package_tables.specs.declared.rows.HeadRow.{HeadRow}
use Rattle.package_schema.specs.Heads.{IsHead, IsHeadAt, ReadsHead, ReadsHeadAt}
use Rattle.opening_v1.specs.Either.{IsViewAtEither, SaysFirst}
use Rattle.opening_laws.specs.Stores.{SaysUnknown}
use Rattle.package_items.specs.Answers.{Decides}
use Rattle.opening_survey.specs.Views.{IsViewOf, IsWhole}
use Rattle.opening_laws_model.specs.Beside.{IsViewOfPackage, IsStrayView, IsUnknown}
use Rattle.opening_laws_model.specs.Timely.{IsInBounds}
use Rattle.opening_laws_model.proofs.Bounds.{unknown_is_stray}
use Rattle.opening_laws_store.specs.Kept.{IsWholeAs}
use Rattle.opening_laws_store.proofs.Headed.{head_is_known}
use Rattle.opening_laws_store.proofs.Whole.{kept_store_is_whole}

-- what holds is decided so
decided : (Holds : Type 0) (b : Bool) → Decides Holds b → Holds → b ≡ true
decided Holds true d h = refl
decided Holds false d h = absurd (d h)

-- the head that is read is the one that the store says
head_read : (f : Frame) (p : Package) (db : Database) (o : Option Head) → Reads f p db → IsHead db (head_of p)
    → ReadsHead db o → o ≡ Some (head_of p)
head_read f p db None reads headed none = absurd (none (head_of p) headed)
head_read f p db (Some h) reads headed said = ap Some (head_is_known f p db h reads said)

-- a store that reads as a package says the second version
pub not_first : (f : Frame) (p : Package) (db : Database) → Reads f p db → SaysFirst db → ⊥
not_first f p db reads (head, (formed, (row, rows, is))) =
    let versions : pos 1 ∷ [] ≡ pos 2 ∷ [] = ap (λ v. v ∷ []) (sym is.version)
    ∙ ap (map (λ (h : HeadRow). h.version)) (sym rows ∙ reads.says.head) in
    let e = versions in
    cc

view_of_second : (w : World) (p : Package) (db : Database) (v : StoreSight) → IsKeptPackage w p → IsInBounds p
    → Reads w.frame p db → IsViewOf db v → IsViewOfPackage w v p
view_of_second w p db v kept bounds reads view =
    let whole : IsWholeAs w.frame p db = kept_store_is_whole w p db kept bounds reads in
    let is : IsWhole w.frame db = record {
      formed = whole.formed;
      head = head_of p;
      headed = whole.headed;
      frame = whole.frame;
      dated = whole.dated;
      items = whole.items;
      receipts = whole.receipts;
    } in
    let formed : v.is_formed ≡ true = decided _ v.is_formed view.formed (w.frame, is) in
    let tied : v.is_tied ≡ true = decided _ v.is_tied (view.tied formed) whole.tied in
    let alone : (v.frame ≡ w.frame) × (v.reads_as ≡ p) = reads_alone v.frame w.frame v.reads_as p db
    (view.reads formed tied) reads in
    record {
      head = head_read w.frame p db v.head reads whole.headed view.head;
      claims = view.claims.0 whole.formed.receipts ∙ whole.claimed;
      formed = formed;
      tied = tied;
      frame = alone.0;
      reads = alone.1;
    }

-- a stray, by the heads that it may say
stray_head : (version : ℤ) (w : World) (db : Database) (o : Option Head)
    → ((h : Head) → IsHeadAt version db h → IsUnknown w h) → ReadsHeadAt version db o
    → MatchOption o ⊤ (IsUnknown w)
stray_head version w db None unknown said = tt
stray_head version w db (Some h) unknown said = unknown h said

pub view_of_kept : (w : World) (p : Package) (db : Database) (v : StoreSight) → IsKeptPackage w p → IsInBounds p
    → Reads w.frame p db → IsViewAtEither db v → IsViewOfPackage w v p
view_of_kept w p db v kept bounds reads (inl first) = absurd (not_first w.frame p db reads first.0)
view_of_kept w p db v kept bounds reads (inr second) = view_of_second w p db v kept bounds reads second.1

pub view_of_stray : (w : World) (db : Database) (v : StoreSight) → IsRegister w → SaysUnknown w db
    → IsViewAtEither db v → IsStrayView w v
view_of_stray w db v register unknown (inl first) = unknown_is_stray w v register
    (stray_head (pos 1) w db v.head (λ h said. unknown h (inl said)) first.1.head)
view_of_stray w db v register unknown (inr second) = unknown_is_stray w v register
    (stray_head (pos 2) w db v.head (λ h said. unknown h (inr said)) second.1.head)
