-- The receipts that the tables of a package say are the package's, and those of all packages.
use Rattle.std.proofs.Common.{◌≡◌, ◌∙◌, List, [], ◌∷◌, ◌++◌, refl, sym, ap, append-nil}
use Rattle.std.proofs.Common.{append_assoc}
use Rattle.std.specs.Prelude.{flat_map}
use Rattle.std.specs.List.{AllZip}
use Rattle.sheet_types.specs.World.{Package}
use Rattle.sheet_types.specs.declared.frame.Frame.{Frame}
use Rattle.sheet_types.specs.declared.receipt.Receipt.{Receipt}
use Rattle.package_tables.specs.Package.{Tables}
use Rattle.identity_register.specs.Reads.{Says}
use Rattle.identity_register.proofs.OnePackage.{one_package}
use Rattle.package_receipts.specs.Read.{AreSaid}

-- tables that say a package and these receipts say the receipts of the package
pub whole : (f : Frame) (p : Package) (t : Tables) → Says f p t → (found : List Receipt) → AreSaid t found
    → found ≡ p.receipts
whole f p t says found said = sym (ap (λ q. q.receipts) (one_package f t p (record p { receipts = found }) says other))
  where
    other : Says f (record p { receipts = found }) t
    other = record {
      good = says.good;
      fixed = says.fixed;
      dated = says.dated;
      created = says.created;
      moment = says.moment;
      fit_head = says.fit_head;
      head = says.head;
      numbered = says.numbered;
      of_items = says.of_items;
      linked = says.linked;
      ends = says.ends;
      of_links = says.of_links;
      entered = found;
      of_receipts = said.says;
    }

-- lists in turn, each of a package
pub zip_lists : {L : Type 0} (items : L → List Receipt) (packages : List Package) (lists : List L)
    → AllZip (λ p l. items l ≡ p.receipts) packages lists → flat_map items lists
    ≡ flat_map (λ p. p.receipts) packages
zip_lists items [] [] each = refl
zip_lists items [] (l ∷ ls) each = absurd each
zip_lists items (p ∷ ps) [] each = absurd each
zip_lists items (p ∷ ps) (l ∷ ls) each = ap (λ rs. rs ++ flat_map items ls) each.0
    ∙ ap (λ rs. p.receipts ++ rs) (zip_lists items ps ls each.1)

pub flat_snoc : {L : Type 0} (items : L → List Receipt) (lists : List L) (list : L)
    → flat_map items (lists ++ list ∷ []) ≡ flat_map items lists ++ items list
flat_snoc items [] list = append-nil (items list)
flat_snoc items (l ∷ ls) list = ap (λ rs. items l ++ rs) (flat_snoc items ls list)
    ∙ sym (append_assoc (items l) (flat_map items ls) (items list))
