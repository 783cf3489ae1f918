-- What the members and the stores tell of a split.
use Rattle.std.proofs.Common.{◌≡◌, refl, sym, ap, subst, ◌∙◌, ℕ, ◌+◌, ◌≤◌, List, []}
use Rattle.std.proofs.Common.{◌∷◌, Bool, true, false, cond}
use Rattle.std.proofs.Common.{length, slice_get, Option, Some, None, Ok, Err, bytes_eq, Result, not, ◌||◌, ◌&&◌}
use Rattle.std.specs.Prelude.{is_none, drop}
use Rattle.std.specs.List.{list_any, IsDistinct}
use Rattle.std.specs.Option.{option_or}
use Rattle.sqlite_trees.proofs.ListLemmas.{all-slice_get}
use Rattle.sqlite.specs.Store.{Ghosts}
use Rattle.sheet_types.specs.Answers.{sums_held}
use Rattle.sheet_types.specs.Cut.{cut, identities}
use Rattle.sheet_types.specs.Matrix.{first_row, is_good_rect}
use Rattle.sheet_types.specs.Refuse.{is_archive, package_used, bad_text, greatest_depth}
use Rattle.sheet_types.specs.Register.{IsRegister, IsKeptPackage}
use Rattle.sheet_types.specs.Texts.{is_moment}
use Rattle.sheet_types.specs.World.{World, Package, holdings}
use Rattle.sheet_types.specs.declared.command.Mode.{Mode}
use Rattle.sheet_types.specs.declared.command.Request.{Request}
use Rattle.sheet_types.specs.declared.frame.Frame.{Frame}
use Rattle.sheet_types.specs.declared.frame.Rect.{Rect}
use Rattle.sheet_types.specs.declared.refusal.Refusal.{Refusal}
use Rattle.sheet_types.specs.declared.refusal.Refusal.TheVariants.{PackageUsed}
use Rattle.identity_register.proofs.Deleting.{distinct_filter}
use Rattle.identity_register.specs.declared.selection.Selection.{Selection}
use Rattle.cut.specs.Taken.{IsCutOf, IsSelected}
use Rattle.cut.proofs.Kept.{kept_in_order}
use Rattle.sheet_laws.proofs.Splitting.{by_tests}
use Rattle.register_lending.proofs.Selected.{sorted_selection}
use Rattle.world_decisions.specs.DecidingSplits.{command_of, uuid_used, reasons_before_cut, place_reasons}
use Rattle.world_decisions.specs.DecidingSplits.{value_reasons, IsCutOut, IsLender}
use Rattle.world_members.specs.Register.{ever_lent}
use Rattle.world_members.specs.Members.{IsMember, AreMembers}
use Rattle.world_members.specs.Reasons.{text_reasons}
use Rattle.world_decisions.specs.declared.deciding_splits.Asked.{Asked}
use Rattle.world_decisions.specs.declared.deciding_splits.Lender.{Lender}
use Rattle.world_members.specs.declared.members.Member.{Member}
use Rattle.world_members.proofs.Parts.{first_of_both}
use Rattle.world_queries.proofs.Placed.{any_zip}
use Rattle.world_decisions.proofs.SplitDecided.{as_asked, asking}
use Rattle.world_members.proofs.Standing.{zip_at}

-- ---- the UUID of the child

-- the members tell whether it is the archive's
pub archive_told : {S : Type 0} (g : Ghosts S) (members : List (Member S)) (count : ℕ) (w : World) (id : List ℕ)
    → AreMembers g members count w
    → list_any (λ (m : Member S). is_none m.parent && bytes_eq m.uuid id) members
    ≡ list_any (λ x. is_archive x && bytes_eq x.uuid id) w.packages
archive_told {S} g members count w id are =
    any_zip (IsMember g w) (λ (m : Member S). is_none m.parent && bytes_eq m.uuid id)
    (λ x. is_archive x && bytes_eq x.uuid id)
    (λ m p is. ap (λ o. is_none o && bytes_eq m.uuid id) is.parent
    ∙ ap (λ u. is_archive p && bytes_eq u id) is.uuid)
    members w.packages are.each

-- so they tell whether it was used
module _ {S : Type 0} (g : Ghosts S) (members : List (Member S)) (count : ℕ) (w : World) (id : List ℕ)
    (are : AreMembers g members count w) where
  abbrev of_archive : Bool
  of_archive = list_any (λ (m : Member S). is_none m.parent && bytes_eq m.uuid id) members

  pub used_by_archive : of_archive ≡ true → true ≡ uuid_used w id
  used_by_archive found = sym (ap (λ b. b || ever_lent w id) (sym (archive_told g members count w id are) ∙ found))

  pub used_by_loan : (lent : Bool) → of_archive ≡ false → lent ≡ ever_lent w id → lent ≡ uuid_used w id
  used_by_loan lent none told = told ∙ sym (ap (λ b. b || ever_lent w id)
      (sym (archive_told g members count w id are) ∙ none))

-- ---- the reasons before the cut

-- the texts, and else the place
pub value_by_text : (f : Frame) (q : Request) (rect : Rect) (depth : ℕ) (found : Option Refusal) (why : Refusal)
    → found ≡ first_row (text_reasons q) → found ≡ Some why → Some why
    ≡ first_row (value_reasons f q rect depth)
value_by_text f q rect depth found why texts is = ap (λ o. option_or o (first_row (place_reasons f rect depth)))
    (sym is ∙ texts) ∙ sym (first_of_both (text_reasons q) (place_reasons f rect depth))

pub value_by_place : (f : Frame) (q : Request) (rect : Rect) (depth : ℕ) (found why : Option Refusal)
    → found ≡ first_row (text_reasons q) → found ≡ None → why ≡ first_row (place_reasons f rect depth)
    → why ≡ first_row (value_reasons f q rect depth)
value_by_place f q rect depth found why texts none is = is ∙ ap
    (λ o. option_or o (first_row (place_reasons f rect depth))) (sym none ∙ texts)
    ∙ sym (first_of_both (text_reasons q) (place_reasons f rect depth))

module _ (w : World) (f : Frame) (q : Request) (s : Asked) (depth : ℕ) (asked : q.command ≡ command_of s) where
  -- the UUID of the child was used
  pub before_by_uuid : true ≡ uuid_used w s.child → Some PackageUsed ≡ first_row (reasons_before_cut w q)
  before_by_uuid used =
      subst (λ x. Some PackageUsed ≡ first_row (reasons_before_cut w x)) (as_asked q s asked)
      (ap (λ b. cond b (Some PackageUsed) (first_row (drop 1 (reasons_before_cut w (asking q s))))) used)

  -- else the other reasons
  pub before_by_values : (found : Option Refusal) → f ≡ w.frame → depth ≡ (holdings w s.package).depth
      → false ≡ uuid_used w s.child → found ≡ first_row (value_reasons f q s.rect depth)
      → found ≡ first_row (reasons_before_cut w q)
  before_by_values found frame deep unused is =
      is ∙ ap (λ g. first_row (value_reasons g q s.rect depth)) frame
      ∙ ap (λ d. first_row (value_reasons w.frame q s.rect d)) deep
      ∙ subst (λ x. first_row (value_reasons w.frame x s.rect (holdings w s.package).depth)
      ≡ first_row (reasons_before_cut w x)) (as_asked q s asked)
      (ap (λ b. cond b (Some PackageUsed) (first_row (value_reasons w.frame (asking q s) s.rect
      (holdings w s.package).depth))) unused)

-- ---- the cut

-- what is selected of a package of a register is its cut
pub cut_told : {S : Type 0} (g : Ghosts S) (members : List (Member S)) (count at : ℕ) (w : World) (f : Frame)
    (mode : Mode) (rect : Rect) (answer : Result Selection Refusal) → AreMembers g members count w → f ≡ w.frame
    → ((p : Package) → slice_get w.packages at ≡ Some p → IsCutOf f mode rect p answer) → (p : Package)
    → slice_get w.packages at ≡ Some p → IsCutOut w p mode rect answer
cut_told g members count at w f mode rect answer are frame told p there =
    one answer (subst (λ v. IsCutOf v mode rect p answer) frame (told p there) (kept_in_order w p keeps))
  where
    keeps : IsKeptPackage w p
    keeps = all-slice_get (IsKeptPackage w) w.packages at p there are.register.packages

    one : (a : Result Selection Refusal) → IsSelected w.frame p mode rect a → IsCutOut w p mode rect a
    one (Ok selection) it =
        let tests = by_tests w.frame p mode rect in (
          it.0,
          sorted_selection (cut w.frame p mode rect) selection
              (subst (λ items. IsDistinct bytes_eq (identities items)) (sym tests.items.1)
              (distinct_filter (λ i. i.identity) tests.items.0 p.items keeps.identities)) it.1.items it.1.links,
        )
    one (Err why) it = it

-- ---- the member that is to lend

pub lender_told : {S : Type 0} (g : Ghosts S) (members : List (Member S)) (count at : ℕ) (w : World) (p : Package)
    (was : Member S) → AreMembers g members count w → slice_get members at ≡ Some was
    → slice_get w.packages at ≡ Some p
    → IsLender w p (record { at = at; depth = was.depth; held = was.sums })
lender_told g members count at w p was are place there =
    let here = zip_at (IsMember g w) members w.packages at was are.each place in
    let both : Some here.0 ≡ Some p = sym here.1 ∙ there in
    let same : here.0 ≡ p = cc in
    record {
      place = there;
      depth = here.2.depth ∙ ap (λ (x : Package). x.depth) same;
      held = here.2.sums ∙ ap sums_held same;
    }
