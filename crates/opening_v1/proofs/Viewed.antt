-- What is right to see of the copy is right to see of the store.
use Rattle.std.proofs.Common.{◌≡◌, ◌∙◌, ℕ, pos, List, [], ◌∷◌, map, get_or, Bool, true, false}
use Rattle.std.proofs.Common.{Option, Some, None}
use Rattle.std.proofs.Common.{refl, sym, ap, subst}
use Rattle.std.specs.Prelude.{◌↔◌}
use Rattle.sqlite.specs.Effect.{Database}
use Rattle.sheet_types.specs.Opening.{Head, Claim}
use Rattle.sheet_types.specs.Reading.{optional_uuid_text}
use Rattle.sheet_types.specs.World.{Package}
use Rattle.sheet_types.specs.declared.frame.Frame.{Frame}
use Rattle.sheet_laws.specs.Laws.{StoreSight}
use Rattle.opening_faults.specs.Sights.{head_said}
use Rattle.opening_faults.specs.declared.sights.StoreHead.{StoreHead}
use Rattle.package_tables.specs.Damaged.{ReadsClaims, claim_of_row}
use Rattle.package_tables.specs.Fixed.{HasFixed, mapping_relations}
use Rattle.package_tables.specs.Package.{Tables, tables_of, AreFormed}
use Rattle.package_tables.specs.Shape.{rows_of}
use Rattle.package_tables.specs.Shapes.{head_shape}
use Rattle.package_tables.specs.declared.rows.HeadRow.{HeadRow}
use Rattle.identity_register.specs.Reads.{Says, Reads, head_row}
use Rattle.package_v1.specs.FirstVersion.{brought, first_tables_of, with_version, ReadsAtVersionOne}
use Rattle.package_schema.specs.Frames.{AreDated, HasMoment}
use Rattle.package_schema.specs.Heads.{IsLevel, IsHeadRow, IsHeadRowAt, IsHead, IsHeadAt, ReadsHead, ReadsHeadAt}
use Rattle.package_items.specs.Answers.{Decides}
use Rattle.package_items.specs.Ranges.{AreItemsInRange}
use Rattle.package_items.specs.Tied.{AreTied}
use Rattle.package_receipts.specs.Ranges.{AreReceiptsInRange}
use Rattle.opening_survey.specs.Views.{IsWhole, IsFormed, IsViewOf}
use Rattle.opening_survey.proofs.Packing.{moments_said}
use Rattle.opening_v1.specs.Copies.{copy_row}
use Rattle.opening_v1.specs.Surveying.{IsFirstRead}
use Rattle.opening_v1.specs.Views.{IsFirstWhole, IsFirstFormed, IsFirstViewOf}
use Rattle.opening_v1.proofs.Copied.{of_store}

one_row : (a b : HeadRow) → a ∷ [] ≡ b ∷ [] → a ≡ b
one_row a b e = ap (λ l. get_or l 0 a) e

module _ (db copy : Database) (f : Frame) (h : StoreHead) (headed : IsHeadAt (pos 1) db (head_said h))
    (read : IsFirstRead f db) (formed : AreFormed copy) (says :
    tables_of copy ≡ of_store f (copy_row h) (tables_of db)) where
  abbrev t : Tables
  t = tables_of db

  abbrev told : Tables
  told = of_store f (copy_row h) t

  abbrev row : HeadRow
  row = headed.1.0

  abbrev own : IsHeadRowAt (pos 1) row (head_said h)
  own = headed.1.2

  -- ---- the head

  heads_are : rows_of head_shape copy ≡ copy_row h ∷ []
  heads_are = ap (λ t. t.heads) says

  own_level : IsLevel (copy_row h)
  own_level =
      subst (λ z. ((optional_uuid_text h.parent ≡ []) ↔ (z ≡ pos 0))
      × ((pos h.loan ≡ pos 0) ↔ (z ≡ pos 0))) own.depth
      (subst (λ z. ((optional_uuid_text h.parent ≡ []) ↔ (row.depth ≡ pos 0))
      × ((z ≡ pos 0) ↔ (row.depth ≡ pos 0)))
      own.loan
      (subst (λ z. ((z ≡ []) ↔ (row.depth ≡ pos 0)) × ((row.loan ≡ pos 0) ↔ (row.depth ≡ pos 0)))
      own.parent own.level))

  own_row : IsHeadRow (copy_row h) (head_said h)
  own_row = record {
    id = refl;
    version = refl;
    uuid = own.uuid;
    parent_uuid = own.parent_uuid;
    «package» = refl;
    parent = refl;
    depth = refl;
    low = own.low;
    loan = refl;
    loan_low = own.loan_low;
    created = refl;
    level = own_level;
  }

  own_head : IsHead copy (head_said h)
  own_head = (formed.heads, (copy_row h, heads_are, own_row))

  row_says : (k : Head) → IsHeadRow (copy_row h) k → IsHeadRowAt (pos 1) row k
  row_says k it = record {
    id = own.id;
    version = own.version;
    uuid = it.uuid;
    parent_uuid = it.parent_uuid;
    «package» = own.package ∙ it.package;
    parent = own.parent ∙ it.parent;
    depth = own.depth ∙ it.depth;
    low = it.low;
    loan = own.loan ∙ it.loan;
    loan_low = it.loan_low;
    created = own.created;
    level = own.level;
  }

  head_seen : (o : Option Head) → ReadsHead copy o → ReadsHeadAt (pos 1) db o
  head_seen (Some k) it = (
    headed.0,
    (
      row,
      headed.1.1,
      row_says k
          (subst (λ r. IsHeadRow r k) (one_row it.1.0 (copy_row h) (sym it.1.1 ∙ heads_are)) it.1.2),
    ),
  )
  head_seen None none = absurd (none (head_said h) own_head)

  claims_seen : (claims : List Claim) → ReadsClaims copy claims → ReadsClaims db claims
  claims_seen claims it = (
    λ _. it.0 formed.receipts ∙ ap (λ t. map claim_of_row t.receipts) says,
    λ lacks. absurd
        (lacks read.formed.0.receipts),
  )

  -- ---- the frame

  fixed_seen : (g : Frame) → HasFixed g told → HasFixed g (record t { relations = mapping_relations })
  fixed_seen g it =
      let mine = read.frame.1.1 in
      record {
        spatial_ref_sys = mine.spatial_ref_sys ∙ it.spatial_ref_sys;
        contents = mine.contents ∙ it.contents;
        tile_matrix_set = mine.tile_matrix_set ∙ it.tile_matrix_set;
        tile_matrix = mine.tile_matrix ∙ it.tile_matrix;
        relations = refl;
      }

  fixed_shown : (g : Frame) → HasFixed g (record t { relations = mapping_relations }) → HasFixed g told
  fixed_shown g it =
      let mine = read.frame.1.1 in
      record {
        spatial_ref_sys = sym mine.spatial_ref_sys ∙ it.spatial_ref_sys;
        contents = sym mine.contents ∙ it.contents;
        tile_matrix_set = sym mine.tile_matrix_set ∙ it.tile_matrix_set;
        tile_matrix = sym mine.tile_matrix ∙ it.tile_matrix;
        relations = refl;
      }

  told_dated : AreDated told
  unfolding HasMoment
  told_dated = (refl, (refl, (refl, tt)))

  -- ---- the form

  items_seen : (g : Frame) → AreItemsInRange g told → AreItemsInRange g (first_tables_of db)
  items_seen g it = record {
    tiles = it.tiles;
    media = it.media;
    rows = it.rows;
    identities = it.identities;
    tiles_media = it.tiles_media;
    rows_media = it.rows_media;
    rows_tiles = it.rows_tiles;
  }

  items_shown : (g : Frame) → AreItemsInRange g (first_tables_of db) → AreItemsInRange g told
  items_shown g it = record {
    tiles = it.tiles;
    media = it.media;
    rows = it.rows;
    identities = it.identities;
    tiles_media = it.tiles_media;
    rows_media = it.rows_media;
    rows_tiles = it.rows_tiles;
  }

  whole_seen : (g : Frame) → IsWhole g copy → IsFirstWhole g db
  whole_seen g it = record {
    formed = read.formed;
    head = head_said h;
    headed = headed;
    frame = (it.frame.0, (read.frame.1.0, fixed_seen g (subst (HasFixed g) says it.frame.1)));
    dated = read.dated;
    items = items_seen g (subst (AreItemsInRange g) says it.items);
    receipts = subst (λ t. AreReceiptsInRange t.receipts t.moved) says it.receipts;
  }

  whole_shown : (g : Frame) → IsFirstWhole g db → IsWhole g copy
  whole_shown g it = record {
    formed = formed;
    head = head_said h;
    headed = own_head;
    frame = (it.frame.0, subst (HasFixed g) (sym says) (fixed_shown g it.frame.1.1));
    dated = subst AreDated (sym says) told_dated;
    items = subst (AreItemsInRange g) (sym says) (items_shown g it.items);
    receipts = subst (λ t. AreReceiptsInRange t.receipts t.moved) (sym says) it.receipts;
  }

  form_seen : (b : Bool) → Decides (IsFormed copy) b → Decides (IsFirstFormed db) b
  form_seen true it = (it.0, whole_seen it.0 it.1)
  form_seen false it = λ first. it (first.0, whole_shown first.0 first.1)

  -- ---- the ties

  tied_seen : AreTied told → AreTied (first_tables_of db)
  tied_seen it = record {
    tiles = it.tiles;
    media = it.media;
    rows = it.rows;
    identities = it.identities;
    tiles_media = it.tiles_media;
    rows_media = it.rows_media;
    rows_tiles = it.rows_tiles;
  }

  tied_shown : AreTied (first_tables_of db) → AreTied told
  tied_shown it = record {
    tiles = it.tiles;
    media = it.media;
    rows = it.rows;
    identities = it.identities;
    tiles_media = it.tiles_media;
    rows_media = it.rows_media;
    rows_tiles = it.rows_tiles;
  }

  ties_seen : (b : Bool) → Decides (AreTied (tables_of copy)) b → Decides (AreTied (first_tables_of db)) b
  ties_seen true it = tied_seen (subst AreTied says it)
  ties_seen false it = λ ties. it (subst AreTied (sym says) (tied_shown ties))

  -- ---- the package

  head_brought : (p : Package) (created : List ℕ) → copy_row h ≡ head_row p created
      → with_version (pos 2) row ≡ head_row p row.created
  head_brought p created e = λ n. record {
    id = own.id n;
    version = pos 2;
    «package» = (own.package ∙ ap (λ r. r.package) e) n;
    parent = (own.parent ∙ ap (λ r. r.parent) e) n;
    depth = (own.depth ∙ ap (λ r. r.depth) e) n;
    loan = (own.loan ∙ ap (λ r. r.loan) e) n;
    created = row.created;
  }

  says_brought : (g : Frame) (p : Package) → Says g p told → Says g p (brought (first_tables_of db))
  says_brought g p it =
      let fixed = fixed_seen g it.fixed in
      record {
        good = it.good;
        fixed = record {
          spatial_ref_sys = fixed.spatial_ref_sys;
          contents = fixed.contents;
          tile_matrix_set = fixed.tile_matrix_set;
          tile_matrix = fixed.tile_matrix;
          relations = refl;
        };
        dated = moments_said (tables_of db).contents read.dated;
        created = row.created;
        moment = own.created;
        fit_head = it.fit_head;
        head = ap (map (with_version (pos 2))) headed.1.1 ∙ ap (λ r. r ∷ [])
            (head_brought p it.created (one_row (copy_row h) (head_row p it.created) it.head));
        numbered = it.numbered;
        of_items = it.of_items;
        linked = it.linked;
        ends = it.ends;
        of_links = it.of_links;
        entered = it.entered;
        of_receipts = it.of_receipts;
      }

  reads_seen : (g : Frame) (p : Package) → Reads g p copy → ReadsAtVersionOne g p db
  reads_seen g p it = record {
    formed = read.formed.0;
    free = read.formed.1;
    says = record {
      relations = read.frame.1.0;
      version = ap (map (λ (r : HeadRow). r.version)) headed.1.1 ∙ ap (λ v. v ∷ []) own.version;
      says = says_brought g p (subst (Says g p) says it.says);
    };
  }

  -- ---- the view

  pub view_seen : (v : StoreSight) → IsViewOf copy v → IsFirstViewOf db v
  view_seen v it = record {
    head = head_seen v.head it.head;
    claims = claims_seen v.claims it.claims;
    formed = form_seen v.is_formed it.formed;
    frame = λ is_formed. whole_seen v.frame (it.frame is_formed);
    tied = λ is_formed. ties_seen v.is_tied (it.tied is_formed);
    reads = λ is_formed is_tied. reads_seen v.frame v.reads_as (it.reads is_formed is_tied);
  }
