-- The tables of a package with nothing in it read as that package.
use Rattle.std.proofs.Common.{◌≡◌, ℕ, List, [], ◌∷◌, map, true, Option, IsTrue, refl, sym, subst}
use Rattle.std.specs.List.{IsDistinct}
use Rattle.sqlite.specs.Effect.{Database}
use Rattle.sqlite.specs.State.{State}
use Rattle.store_sql.specs.Transactions.{Holds}
use Rattle.sheet_types.specs.Lines.{IsUuid}
use Rattle.sheet_types.specs.Matrix.{is_good_frame}
use Rattle.sheet_types.specs.Texts.{is_moment}
use Rattle.sheet_types.specs.declared.frame.Frame.{Frame}
use Rattle.package_tables.specs.Creation.{head_of, new_tables, HoldsTables}
use Rattle.package_tables.specs.Fixed.{contents_of}
use Rattle.package_tables.specs.declared.rows.HeadRow.{HeadRow}
use Rattle.identity_register.specs.Creation.{new_package, Keeps, IsMadeAt}
use Rattle.identity_register.specs.Reads.{Reads, Says, is_fit_end}

module _ (f : Frame) (uuid : List ℕ) (parent : Option (List ℕ)) (depth loan : ℕ) (created : List ℕ)
    (good : IsTrue (is_good_frame f)) (moment : is_moment created ≡ true) (fit : IsUuid uuid)
    (fit_parent : is_fit_end parent ≡ true) where
  new_says : Says f (new_package uuid parent depth loan) (new_tables f (head_of uuid parent depth loan created))
  unfolding IsDistinct
  new_says = record {
    good = good;
    fixed = record {
      spatial_ref_sys = refl;
      contents = refl;
      tile_matrix_set = refl;
      tile_matrix = refl;
      relations = refl;
    };
    dated = (moment, (moment, (moment, tt)));
    created = created;
    moment = moment;
    fit_head = record { uuid = fit; parent = fit_parent };
    head = refl;
    numbered = [];
    of_items = record {
      numbers = record { range = tt; numbers = tt; identities = tt; uuids = tt };
      items = refl;
      tiles = refl;
      media = refl;
      rows = refl;
      identities = refl;
    };
    linked = [];
    ends = tt;
    of_links = record { distinct_links = tt; links = refl; tiles_media = refl; rows_media = refl; rows_tiles = refl };
    entered = [];
    of_receipts = record { distinct_receipts = tt; fit = tt; kept = refl; receipts = refl; moved = refl };
  }

  new_reads : (db : Database) → HoldsTables db (new_tables f (head_of uuid parent depth loan created))
      → Reads f (new_package uuid parent depth loan) db
  new_reads db it = record {
    formed = it.formed;
    says = subst (Says f (new_package uuid parent depth loan))
        (sym it.says) new_says;
  }

  -- a store that holds those tables keeps the package
  pub new_keeps : (s : State) → HoldsTables s.now (new_tables f (head_of uuid parent depth loan created))
      → Holds s s.now → Keeps f (new_package uuid parent depth loan) s
  new_keeps s it holds = record {
    holds = holds;
    reads = new_reads s.now it;
    left = λ trees may. subst (λ t. Reads f (new_package uuid parent depth loan)
        (record { schema = s.now.schema; trees = t })) (sym (holds.left trees may)) (new_reads s.now it);
  }

-- and its head and its contents say when it was made
pub new_dated : (f : Frame) (head : HeadRow) (s : State) → HoldsTables s.now (new_tables f head)
    → IsMadeAt f head.created s
new_dated f head s it = record {
  created = subst (λ t. map (λ h. h.created) t.heads ≡ head.created ∷ []) (sym it.says) refl;
  last_change = subst (λ t. t.contents ≡ contents_of f head.created) (sym it.says) refl;
}
