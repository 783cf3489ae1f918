-- The example: an empty archive, and a file with one tile.
use Rattle.std.specs.Prelude.{◌≡◌, ℕ, false, List, [], ◌∷◌, ◌++◌, map, IsPermutation, refl}
use Rattle.std.proofs.Common.{sym, ap, subst, ◌∙◌, arith}
use Rattle.std.specs.List.{list_any}
use Rattle.std.proofs.lemmas.List.Sorted.{IsPermutation-refl}
use Rattle.sheet_types.specs.Cut.{identities}
use Rattle.sheet_types.specs.Custody.{is_used}
use Rattle.sheet_types.specs.Ordered.{IsArranged}
use Rattle.sheet_types.specs.Refuse.{is_overfull}
use Rattle.sheet_types.specs.World.{item_key, link_key, new_world, no_package}
use Rattle.sheet_types.specs.declared.command.Item.{Item}
use Rattle.sheet_types.specs.declared.command.Relation.{Relation}
use Rattle.sheet_laws.proofs.First.{new_world_is_register}
use Rattle.field_changes.specs.Asked.{unlinking, deleting, adding, linking}
use Rattle.field_changes.specs.Ids.{request_of}
use Rattle.field_run_laws.specs.Lists.{has_twice}
use Rattle.field_laws.specs.Example.{archive, sheet, morning, town, asked, EmptyArchiveTakes}

four : (a : List Relation) (b : List (List ℕ)) (c : List Item) (d : List Relation) → a ≡ [] → b ≡ []
    → c ≡ town ∷ []
    → d ≡ []
    → asked ≡ map (request_of archive 0 morning) (map (unlinking archive) a ++ map (deleting archive) b
    ++ map (adding archive) c ++ map (linking archive) d)
four a b c d ea eb ec ed =
    let to : List Relation → List (List ℕ) → List Item → List Relation → List _ =
    λ e f g h. map (request_of archive 0 morning) (map (unlinking archive) e ++ map (deleting archive) f
    ++ map (adding archive) g ++ map (linking archive) h) in
    sym (ap (λ e. to e b c d) ea ∙ ap (λ f. to [] f c d) eb ∙ ap (λ g. to [] [] g d) ec
    ∙ ap (λ h. to [] [] (town ∷ []) h) ed)

pub empty_archive_takes : EmptyArchiveTakes
empty_archive_takes parts no_unlinks no_deletes one no_links = (
  new_world_is_register archive sheet refl refl,
  refl,
  (
    record {
      parts = parts;
      for_file = record {
        file_links = [];
        named = tt;
        unlinks = no_unlinks;
        deletes = no_deletes;
        adds = subst (IsPermutation (town ∷ [])) (sym one) (IsPermutation-refl (town ∷ []));
        adds_order = subst (IsArranged item_key) (sym one) (tt, tt);
        links = subst (IsPermutation []) (sym no_links) (IsPermutation-refl []);
        links_order = subst (IsArranged link_key) (sym no_links) tt;
      };
      asked = four parts.unlinks.items parts.deletes.items parts.adds.items parts.links.items no_unlinks no_deletes
          one no_links;
    },
    record {
      moment_fits = refl;
      contents_fit = refl;
      places_apart = refl;
      places_free = refl;
      unused = subst (λ l. list_any (λ i. is_used (new_world archive sheet) i.identity) l ≡ false) (sym one) refl;
      identities_apart = subst (λ l. has_twice (identities l) ≡ false) (sym one) refl;
      requests_new = record { unkept = refl; apart = refl };
      within_limits = refl;
      ledger_within = omega arith;
      package_within =
          ap (λ l. is_overfull (record no_package {
            uuid = archive;
            items = l ++ [];
            links = parts.links.items ++ [];
          })) one
          ∙ ap (λ l. is_overfull (record no_package { uuid = archive; items = town ∷ []; links = l ++ [] }))
          no_links;
    },
  ),
)
