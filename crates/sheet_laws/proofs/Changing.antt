-- Delete and Unlink keep the account.
use Rattle.sheet_types.proofs.Fitting.{item_kind_of}
use Rattle.std.specs.Prelude.{◌≡◌, ℕ, true, false, ◌&&◌, List, [], ◌∷◌, find, refl, bytes_eq, Some}
use Rattle.std.specs.Prelude.{None, sum_by}
use Rattle.std.specs.Option.{option_map_or}
use Rattle.std.proofs.Common.{ap, subst, ◌∙◌, arith}
use Rattle.std.proofs.lemmas.Bool.{false≢true}
use Rattle.std.proofs.lemmas.Slice.Eq.{bytes_eq-Decides}
use Rattle.std.specs.List.{AllByRecursion}
use Rattle.sheet_types.specs.Ordered.{without}
use Rattle.sheet_types.specs.Texts.{entry_of}
use Rattle.sheet_types.specs.World.{World, Package, link_key, item_thing, holdings, is_live, has_item, item_of}
use Rattle.sheet_types.specs.World.{item_moved, link_moved}
use Rattle.sheet_types.specs.Cut.{moved_of}
use Rattle.sheet_types.specs.Step.{accepted, receipt_of, kept_reply, relation}
use Rattle.sheet_types.specs.Refuse.{refusal, reasons, has_link}
use Rattle.sheet_laws.proofs.Contents.{IsUnaltered, each_unaltered}
use Rattle.sheet_types.proofs.Distinct.{distinct_counts}
use Rattle.sheet_types.proofs.LineReading.{entry_from-line}
use Rattle.sheet_types.specs.Lines.{HasTypes, entry_from, is_merging}
use Rattle.sheet_laws.proofs.Ledger.{by_entry}
use Rattle.sheet_types.specs.Balance.{holds}
use Rattle.sheet_types.specs.Register.{IsRegister, IsKeptPackage}
use Rattle.sheet_laws.specs.Laws.{delete_request, unlink_request}
use Rattle.sheet_types.specs.declared.command.Item.{Item}
use Rattle.sheet_types.specs.declared.command.Mapping.{Mapping}
use Rattle.sheet_types.specs.declared.command.Relation.{Relation}
use Rattle.sheet_types.specs.declared.command.Request.{Request}
use Rattle.sheet_types.proofs.Basics.{bytes_eq_itself, not_false, and_true}
use Rattle.sheet_laws.proofs.Accepting.{rows_fail, new_identity}
use Rattle.sheet_types.proofs.Found.{All-found, found, found_passes}
use Rattle.sheet_types.proofs.Order.{counts_arranged}
use Rattle.sheet_types.proofs.Without.{take_one}
use Rattle.sheet_laws.proofs.Packages.{at_all}
use Rattle.sheet_laws.proofs.Facts.{may_move, custody_moved, items_held, links_held, kept_at}
use Rattle.sheet_laws.proofs.OnePackage as one

-- ---- Delete

module _ (w : World) (id moment p identity : List ℕ) (register : IsRegister w) where
  abbrev pub delete_asked : Request
  delete_asked = delete_request id moment p identity

  abbrev pub delete_items : Package → List Item
  delete_items x = without (λ i. i.identity) (identity ∷ []) x.items

  pub delete_fits : HasTypes delete_asked.command → kept_reply w delete_asked ≡ None
      → refusal w (accepted w delete_asked) delete_asked ≡ None
      → one.Fits w p (receipt_of w delete_asked) (entry_of delete_asked.command) delete_items (λ x. x.links)
  delete_fits types no_reply no_refusal =
      let says : entry_from (receipt_of w delete_asked).line ≡ Some (entry_of delete_asked.command) =
      entry_from-line (entry_of delete_asked.command) types in
      let fails : AllByRecursion (λ row. row.0 ≡ false) (reasons w (accepted w delete_asked) delete_asked) =
      rows_fail (reasons w (accepted w delete_asked) delete_asked) no_refusal in
      let live : is_live w p ≡ true = and_true (is_live w p) (not_false (is_live w p && true) fails.1.0) in
      let there : has_item (holdings w p) identity ≡ true = not_false (has_item (holdings w p) identity)
      fails.1.1.1.1.1.1.0 in
      let f : (i : Item) × (item_of (holdings w p) identity ≡ Some i) =
      found (λ i. bytes_eq i.identity identity) (holdings w p).items there in
      let i : Item = f.0 in
      let things : (receipt_of w delete_asked).items ≡ moved_of (i ∷ []) [] =
      ap (λ o. option_map_or (λ j. item_moved j ∷ []) o []) f.1 in
      let kept : IsKeptPackage w (holdings w p) = kept_at w p register live in
      let unaltered : IsUnaltered w i × (bytes_eq i.identity identity ≡ true) =
      All-found (IsUnaltered w) (λ j. bytes_eq j.identity identity) i (holdings w p).items f.1
      (at_all w (λ x. AllByRecursion (IsUnaltered w) x.items) p (each_unaltered w register.unaltered)
      live).0 in
      let held : (holds (holdings w p) (item_thing i) ≡ true) × (bytes_eq i.identity identity ≡ true) =
      All-found (λ j. holds (holdings w p) (item_thing j) ≡ true) (λ j. bytes_eq j.identity identity) i
      (holdings w p).items f.1 (items_held (holdings w p)) in
      record {
        says = says;
        stands = refl;
        live = live;
        may = may_move w delete_asked (i ∷ []) [] register.balanced.ledger (record {
          says = says;
          new_request = new_identity w delete_asked no_reply fails.0;
          things = things;
          entered = (
            item_moved i,
            things,
            (bytes_eq-Decides i.identity identity).0 unaltered.1,
            item_kind_of
                i.content,
          );
          in_order = ((tt, tt), tt);
          unaltered = (unaltered.0, tt);
          from_source = custody_moved w p (i ∷ []) [] register.balanced (held.0, tt) tt;
          no_add = refl;
          new_loan = λ splits. absurd (false≢true splits);
        });
        no_merge = by_entry is_merging (receipt_of w delete_asked) (entry_of delete_asked.command) says;
        shifts = λ c _.
            let alone : sum_by c (receipt_of w delete_asked).items ≡ c (item_moved i) =
            ap (sum_by c) things ∙ omega arith in
            rw (bytes_eq_itself p) (omega (
              arith,
              alone,
              take_one (λ j. j.identity) identity (λ j. c (item_moved j))
                  i (holdings w p).items (distinct_counts (λ j. j.identity) identity (holdings w p).items
                  kept.identities) f.1,
            ));
        elsewhere = λ q other. (other, refl);
      }

-- ---- Unlink

module _ (w : World) (id moment p : List ℕ) (mapping : Mapping) (base other : List ℕ)
    (register : IsRegister w) where
  abbrev pub unlink_asked : Request
  unlink_asked = unlink_request id moment p mapping base other

  abbrev pub unlinked : Relation
  unlinked = relation mapping base other

  abbrev pub unlink_links : Package → List Relation
  unlink_links x = without link_key (link_key unlinked ∷ []) x.links

  pub unlink_fits : HasTypes unlink_asked.command → kept_reply w unlink_asked ≡ None
      → refusal w (accepted w unlink_asked) unlink_asked ≡ None
      → one.Fits w p (receipt_of w unlink_asked) (entry_of unlink_asked.command) (λ x. x.items) unlink_links
  unlink_fits types no_reply no_refusal =
      let says : entry_from (receipt_of w unlink_asked).line ≡ Some (entry_of unlink_asked.command) =
      entry_from-line (entry_of unlink_asked.command) types in
      let fails : AllByRecursion (λ row. row.0 ≡ false) (reasons w (accepted w unlink_asked) unlink_asked) =
      rows_fail (reasons w (accepted w unlink_asked) unlink_asked) no_refusal in
      let live : is_live w p ≡ true = and_true (is_live w p) (not_false (is_live w p && true) fails.1.0) in
      let there : has_link (holdings w p) mapping base other ≡ true =
      not_false (has_link (holdings w p) mapping base other) fails.1.1.1.1.1.1.1.1.1.1.1.1.0 in
      let f : (l : Relation) × (find (λ l. bytes_eq (link_key l) (link_key unlinked)) (holdings w p).links
      ≡ Some l) = found (λ l. bytes_eq (link_key l) (link_key unlinked)) (holdings w p).links there in
      let same : link_key f.0 ≡ link_key unlinked = (bytes_eq-Decides (link_key f.0) (link_key unlinked)).0
      (found_passes (λ l. bytes_eq (link_key l) (link_key unlinked)) f.0 (holdings w p).links f.1) in
      let kept : IsKeptPackage w (holdings w p) = kept_at w p register live in
      let held : holds (holdings w p) (link_key unlinked) ≡ true =
      subst (λ z. holds (holdings w p) z ≡ true) same
      (All-found (λ j. holds (holdings w p) (link_key j) ≡ true)
      (λ l. bytes_eq (link_key l) (link_key unlinked)) f.0 (holdings w p).links f.1
      (links_held (holdings w p))).0 in
      record {
        says = says;
        stands = refl;
        live = live;
        may = may_move w unlink_asked [] (unlinked ∷ []) register.balanced.ledger (record {
          says = says;
          new_request = new_identity w unlink_asked no_reply fails.0;
          things = refl;
          entered = refl;
          in_order = (tt, (tt, tt));
          unaltered = tt;
          from_source = custody_moved w p [] (unlinked ∷ []) register.balanced tt (held, tt);
          no_add = refl;
          new_loan = λ splits. absurd (false≢true splits);
        });
        no_merge = by_entry is_merging (receipt_of w unlink_asked) (entry_of unlink_asked.command) says;
        shifts = λ c sees. rw (bytes_eq_itself p) (omega (
          arith,
          sees f.0 unlinked same,
          take_one link_key
              (link_key unlinked) (λ l. c (link_moved l)) f.0 (holdings w p).links
              (counts_arranged link_key (link_key unlinked) (holdings w p).links kept.links) f.1,
        ));
        elsewhere = λ q other. (other, refl);
      }
