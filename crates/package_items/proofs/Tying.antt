-- The ties of tables, from those of their parts.
use Rattle.std.proofs.Common.{◌≡◌, ℤ, pos, Bool, true, false, refl, sym, subst, ◌∙◌, inl, inr}
use Rattle.std.specs.Prelude.{◌&&◌, ◌||◌}
use Rattle.std.specs.List.{AllByRecursion, list_any}
use Rattle.std.specs.Ordering.{int_eq}
use Rattle.std.proofs.lemmas.Bool.{and_parts, and_from}
use Rattle.sheet_types.specs.World.{kind_number, base_kind, other_kind}
use Rattle.sheet_types.specs.declared.command.Mapping.{Mapping}
use Rattle.sheet_types.specs.declared.command.Mapping.TheVariants.{TilesMedia, RowsMedia, RowsTiles}
use Rattle.sheet_types.proofs.Basics.{or-false}
use Rattle.sheet_types.proofs.Every.{All-weaker}
use Rattle.sheet_types.proofs.Same.{All-In, any_at}
use Rattle.package_tables.specs.Package.{Tables}
use Rattle.package_tables.specs.Mappings.{mapping_rows}
use Rattle.identity_register.specs.Numbering.{is_taken}
use Rattle.package_items.specs.Tied.{AreTied, has_row, has_ends}
use Rattle.package_items.specs.Ties.{RowsHaveIdentities, PairsHaveIdentities, AllPairsHaveIdentities}
use Rattle.package_items.proofs.Apart.{int_same}
use Rattle.package_items.proofs.Numbers.{which}

-- ---- a row by its kind and number

first : (b : Bool) → b ≡ ((b || false) || false)
first b = sym (or-false (b || false) ∙ or-false b)

last : (b : Bool) → b ≡ (b || false)
last b = sym (or-false b)

pub tile_row : (kind number : ℤ) (t : Tables) → kind ≡ pos 1
    → list_any (λ r. int_eq r.id number) t.tiles ≡ has_row kind number t
tile_row kind number t e = subst (λ k. list_any (λ r. int_eq r.id number) t.tiles ≡ has_row k number t) (sym e)
    (first (list_any (λ r. int_eq r.id number) t.tiles))

pub medium_row : (kind number : ℤ) (t : Tables) → kind ≡ pos 2
    → list_any (λ r. int_eq r.id number) t.media ≡ has_row kind number t
medium_row kind number t e = subst (λ k. list_any (λ r. int_eq r.id number) t.media ≡ has_row k number t) (sym e)
    (last (list_any (λ r. int_eq r.id number) t.media))

pub attributes_row : (kind number : ℤ) (t : Tables) → kind ≡ pos 3
    → list_any (λ r. int_eq r.id number) t.rows ≡ has_row kind number t
attributes_row kind number t e = subst (λ k. list_any (λ r. int_eq r.id number) t.rows ≡ has_row k number t) (sym e)
    refl

-- ---- the ends of mapping rows

-- where rows have identities and identities rows, a kind and a number have a row where they have an identity
row_taken : (t : Tables) → RowsHaveIdentities t → (kind number : ℤ) → has_row kind number t ≡ true
    → is_taken kind number t ≡ true
row_taken t named kind number h = elim (which kind number t h) [
  | inl e ↦ let y = any_at (λ x. int_eq x.id number) t.tiles e.1 in from (pos 1) y.0.id e.0
      (int_same y.0.id number y.2) (All-In (λ r. is_taken (pos 1) r.id t ≡ true) y.0 t.tiles named.tiles y.1)
  | inr other ↦ elim other [
    | inl e ↦ let y = any_at (λ x. int_eq x.id number) t.media e.1 in from (pos 2) y.0.id e.0
        (int_same y.0.id number y.2) (All-In (λ r. is_taken (pos 2) r.id t ≡ true) y.0 t.media named.media y.1)
    | inr e ↦ let y = any_at (λ x. int_eq x.id number) t.rows e.1 in from (pos 3) y.0.id e.0
        (int_same y.0.id number y.2) (All-In (λ r. is_taken (pos 3) r.id t ≡ true) y.0 t.rows named.rows y.1)
  ]
]
  where
    from : (k n : ℤ) → kind ≡ k → n ≡ number → is_taken k n t ≡ true → is_taken kind number t ≡ true
    from k n e g taken = subst (λ x. is_taken x number t ≡ true) (sym e)
        (subst (λ x. is_taken k x t ≡ true) g taken)

taken_row : (t : Tables) → AllByRecursion (λ r. has_row r.kind r.local_id t ≡ true) t.identities
    → (kind number : ℤ)
    → is_taken kind number t ≡ true → has_row kind number t ≡ true
taken_row t there kind number h =
    let r = any_at (λ x. int_eq x.kind kind && int_eq x.local_id number) t.identities h in
    let both = and_parts (int_eq r.0.kind kind) (int_eq r.0.local_id number) r.2 in
    let row = All-In (λ x. has_row x.kind x.local_id t ≡ true) r.0 t.identities there r.1 in
    subst (λ n. has_row kind n t ≡ true) (int_same r.0.local_id number both.1)
    (subst (λ k. has_row k r.0.local_id t ≡ true) (int_same r.0.kind kind both.0) row)

pub pairs_tied : (t : Tables) → AllByRecursion (λ r. has_row r.kind r.local_id t ≡ true) t.identities
    → (m : Mapping)
    → PairsHaveIdentities m t → AllByRecursion (λ r. has_ends m t r ≡ true) (mapping_rows m t)
pairs_tied t there m h = All-weaker _ _ (λ r e.
    let both = and_parts (is_taken (pos (kind_number (base_kind m))) r.base_id t)
    (is_taken (pos (kind_number (other_kind m))) r.related_id t) e in
    and_from _ _ (taken_row t there _ r.base_id both.0) (taken_row t there _ r.related_id both.1)) (mapping_rows m t) h

pairs_named : (t : Tables) → RowsHaveIdentities t → (m : Mapping)
    → AllByRecursion (λ r. has_ends m t r ≡ true) (mapping_rows m t) → PairsHaveIdentities m t
pairs_named t named m h = All-weaker _ _ (λ r e.
    let both = and_parts (has_row (pos (kind_number (base_kind m))) r.base_id t)
    (has_row (pos (kind_number (other_kind m))) r.related_id t) e in
    and_from _ _ (row_taken t named _ r.base_id both.0) (row_taken t named _ r.related_id both.1)) (mapping_rows m t) h

pub all_tied : (t : Tables) → RowsHaveIdentities t → AllByRecursion (λ r. has_row r.kind r.local_id t ≡ true)
    t.identities → AllPairsHaveIdentities t → AreTied t
all_tied t named there pairs = record {
  tiles = named.tiles;
  media = named.media;
  rows = named.rows;
  identities = there;
  tiles_media = pairs_tied t there TilesMedia pairs.tiles_media;
  rows_media = pairs_tied t there RowsMedia pairs.rows_media;
  rows_tiles = pairs_tied t there RowsTiles pairs.rows_tiles;
}

pub tied_rows : (t : Tables) → AreTied t → RowsHaveIdentities t
tied_rows t tied = record { tiles = tied.tiles; media = tied.media; rows = tied.rows }

pub tied_pairs : (t : Tables) → AreTied t → AllPairsHaveIdentities t
tied_pairs t tied = record {
  tiles_media = pairs_named t (tied_rows t tied) TilesMedia tied.tiles_media;
  rows_media = pairs_named t (tied_rows t tied) RowsMedia tied.rows_media;
  rows_tiles = pairs_named t (tied_rows t tied) RowsTiles tied.rows_tiles;
}
