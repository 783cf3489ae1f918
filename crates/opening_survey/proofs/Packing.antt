-- A store that is whole, tied and unique reads as a package that keeps its own rules.
use Rattle.std.proofs.Common.{◌≡◌, ◌∙◌, ℕ, List, [], ◌∷◌, map, refl, sym, ap, subst}
use Rattle.std.specs.Prelude.{bytes_eq}
use Rattle.std.specs.List.{AllByRecursion, IsDistinct}
use Rattle.std.proofs.lemmas.List.Sorted.{IsPermutation-map}
use Rattle.std.proofs.lemmas.Map.Keys.{IsDistinct-IsPermutation}
use Rattle.sqlite.specs.Effect.{Database}
use Rattle.sqlite_trees.proofs.ListLemmas.{map-map}
use Rattle.sheet_types.specs.Cut.{identities}
use Rattle.sheet_types.specs.Lines.{IsUuid}
use Rattle.sheet_types.specs.Opening.{Head}
use Rattle.sheet_types.specs.Ordered.{arranged, IsArranged}
use Rattle.sheet_types.specs.Register.{HasEnds, HasParent, IsKeptPackage}
use Rattle.sheet_types.specs.World.{World, Package, item_key, link_key}
use Rattle.sheet_types.specs.declared.command.Item.{Item}
use Rattle.sheet_types.specs.declared.frame.Frame.{Frame}
use Rattle.sheet_types.specs.declared.receipt.Receipt.{Receipt}
use Rattle.sheet_types.proofs.Basics.{bytes_eq_swap}
use Rattle.sheet_types.proofs.Every.{All-map}
use Rattle.sheet_types.proofs.Order.{All-arranged}
use Rattle.package_tables.proofs.Reading.{arranged_permutation}
use Rattle.package_tables.specs.Package.{tables_of}
use Rattle.identity_register.specs.Numbering.{Numbered, IsNumbering}
use Rattle.package_tables.specs.declared.rows.ContentsRow.{ContentsRow}
use Rattle.identity_register.specs.Reads.{Says, SayMoments}
use Rattle.identity_register.proofs.OnePackage.{distinct_arranged, items_arranged}
use Rattle.package_schema.specs.Frames.{HasMoment}
use Rattle.package_schema.specs.Heads.{IsHead}
use Rattle.package_items.specs.Laws.{HoldsItems}
use Rattle.package_items.proofs.Holding.{says_what_it_holds}
use Rattle.package_receipts.specs.Read.{AreSaid}
use Rattle.opening_survey.specs.Laws.{IsPackageOf, ReadsAsAPackage}
use Rattle.opening_survey.specs.Views.{IsWhole}
use Rattle.opening_survey.proofs.Heading.{fit_head, row_is}
use Rattle.opening_survey.proofs.Claiming.{claims_are}

-- ---- items under numbers, in order

distinct_map : {X Y : Type 0} (f : X → Y) (key : Y → List ℕ) (xs : List X)
    → IsDistinct bytes_eq (map (λ x. key (f x)) xs) → IsDistinct bytes_eq (map key (map f xs))
distinct_map f key xs d = subst (IsDistinct bytes_eq) (sym (map-map key f xs)) d

module _ (items : List Item) (numbered : List Numbered) (are :
    items ≡ arranged item_key (map (λ n. n.item) numbered))
    (numbers : IsNumbering numbered) where
  pub identities_apart : IsDistinct bytes_eq (identities items)
  identities_apart =
      let taken : List Item = map (λ n. n.item) numbered in
      subst (λ l. IsDistinct bytes_eq (identities l)) (sym are)
      (IsDistinct-IsPermutation bytes_eq bytes_eq_swap (identities taken) (identities (arranged item_key taken))
      (IsPermutation-map (λ i. i.identity) taken (arranged item_key taken) (arranged_permutation item_key taken))
      (distinct_map (λ n. n.item) (λ i. i.identity) numbered numbers.identities))

  pub uuids_are : AllByRecursion (λ i. IsUuid i.identity) items
  uuids_are = subst (AllByRecursion (λ i. IsUuid i.identity)) (sym are)
      (All-arranged item_key (λ i. IsUuid i.identity) (map (λ n. n.item) numbered)
      (All-map (λ i. IsUuid i.identity) (λ n. n.item) numbered numbers.uuids))

-- ---- the package

-- a moment in each row is what a package says
pub moments_said : (listed : List ContentsRow) → AllByRecursion HasMoment listed → SayMoments listed
unfolding HasMoment
moments_said listed dated = dated

module _ (f : Frame) (db : Database) (head : Head) (receipts : List Receipt) (whole : IsWhole f db)
    (headed : IsHead db head) (said : AreSaid (tables_of db) receipts) (held : HoldsItems f (tables_of db)) where
  abbrev found : Package
  found = record {
    uuid = head.uuid;
    parent = head.parent;
    depth = head.depth;
    loan = head.loan;
    items = held.items;
    links = held.links;
    receipts = receipts;
  }

  says : Says f found (tables_of db)
  says = record {
    good = whole.frame.0;
    fixed = whole.frame.1;
    dated = moments_said (tables_of db).contents whole.dated;
    created = headed.1.0.created;
    moment = headed.1.2.created;
    fit_head = fit_head headed.1.0 head headed.1.2;
    head = headed.1.1 ∙ ap (λ row. row ∷ []) (row_is headed.1.0 head headed.1.2);
    numbered = held.numbered;
    of_items = held.of_items;
    linked = held.linked;
    ends = held.ends found refl;
    of_links = held.of_links;
    entered = receipts;
    of_receipts = said.says;
  }

  links_apart : IsArranged link_key held.links
  links_apart = subst (IsArranged link_key) (sym held.of_links.links)
      (distinct_arranged link_key held.linked held.of_links.distinct_links)

  links_end : AllByRecursion (HasEnds found) held.links
  links_end = subst (AllByRecursion (HasEnds found)) (sym held.of_links.links)
      (All-arranged link_key (HasEnds found) held.linked (held.ends found refl))

  keeps : (w : World) → w.frame ≡ f → HasParent w found → IsKeptPackage w found
  keeps w same parent = record {
    uuid = headed.1.2.uuid;
    items = items_arranged f (tables_of db) found says;
    links = links_apart;
    receipts = said.order;
    identities = identities_apart held.items held.numbered held.of_items.items held.of_items.numbers;
    uuids = uuids_are held.items held.numbered held.of_items.items held.of_items.numbers;
    fit = held.fit w found same;
    places = held.places;
    ends = links_end;
    parent = parent;
  }

  is_package : IsPackageOf f db head receipts found
  is_package = record {
    reads = record { formed = whole.formed; says = says };
    heads = refl;
    receipts_are = refl;
    claimed = claims_are (tables_of db) receipts said;
    keeps = keeps;
  }

pub reads_as_a_package : ReadsAsAPackage
reads_as_a_package f db head receipts whole headed tied unique said =
    let held : HoldsItems f (tables_of db) = says_what_it_holds f db whole.frame.0 whole.formed whole.items tied
    unique in
    (found f db head receipts whole headed said held, is_package f db head receipts whole headed said held)
