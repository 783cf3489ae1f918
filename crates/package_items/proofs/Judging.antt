-- Whether tables are tied, by all keys of them.
use Rattle.std.proofs.Common.{◌≡◌, ℤ, List, Bool, true, subst}
use Rattle.std.specs.Prelude.{◌&&◌, IsPermutation, map}
use Rattle.std.specs.List.{AllByRecursion}
use Rattle.std.proofs.lemmas.List.Sorted.{IsPermutation-trans}
use Rattle.sheet_types.specs.declared.command.Mapping.TheVariants.{TilesMedia, RowsMedia, RowsTiles}
use Rattle.package_tables.specs.Package.{Tables}
use Rattle.package_items.specs.Answers.{Decides}
use Rattle.package_items.specs.Tied.{AreTied, has_row}
use Rattle.package_items.specs.Ties.{has_key, name_key, row_keys, has_names, AreKeysOf, RowsHaveIdentities}
use Rattle.package_items.specs.declared.tied.TieKeys.{TieKeys}
use Rattle.package_items.proofs.Deciding.{decides_same, decides_both}
use Rattle.package_items.proofs.Keyed.{rows_decided, names_decided, pairs_decided}
use Rattle.package_items.proofs.Tying.{all_tied, tied_rows, tied_pairs}

-- the same of equal values
pub at_two : {A B : Type 0} (P : A → B → Type 0) {a a' : A} {b b' : B} → a ≡ a' → b ≡ b' → P a b
    → P a' b'
at_two P {a} {a'} {b} {b'} e f h = subst (P a') f (subst (λ x. P x b) e h)

abbrev pub AreAmong : List (ℤ × ℤ) → List (ℤ × ℤ) → Type 0
AreAmong sorted keys = AllByRecursion (λ k. has_key sorted k ≡ true) keys

pub tied_decided : (t : Tables) (keys : TieKeys) → AreKeysOf t keys → (names rows : List (ℤ × ℤ))
    → IsPermutation keys.names.items names → IsPermutation keys.rows.items rows → (a b x y z : Bool)
    → Decides (AreAmong names rows) a → Decides (AreAmong rows names) b
    → Decides (AllByRecursion (λ r. has_names names TilesMedia r ≡ true) keys.tiles_media.items) x
    → Decides (AllByRecursion (λ r. has_names names RowsMedia r ≡ true) keys.rows_media.items) y
    → Decides (AllByRecursion (λ r. has_names names RowsTiles r ≡ true) keys.rows_tiles.items) z
    → Decides (AreTied t) ((((a && b) && x) && y) && z)
tied_decided t keys known names rows same others a b x y z ha hb hx hy hz =
    let named = IsPermutation-trans (map name_key t.identities) keys.names.items names known.names same in
    let there = IsPermutation-trans (row_keys t) keys.rows.items rows known.rows others in
    let parts = decides_both _ _ (((a && b) && x) && y) z
    (decides_both _ _ ((a && b) && x) y
    (decides_both _ _ (a && b) x (decides_both (RowsHaveIdentities t)
    (AllByRecursion (λ r. has_row r.kind r.local_id t ≡ true) t.identities) a b
    (rows_decided t names named rows there a ha) (names_decided t names named rows there b hb))
    (pairs_decided t names named TilesMedia keys.tiles_media.items known.tiles_media x hx))
    (pairs_decided t names named RowsMedia keys.rows_media.items known.rows_media y hy))
    (pairs_decided t names named RowsTiles keys.rows_tiles.items known.rows_tiles z hz) in
    decides_same ((((a && b) && x) && y) && z)
    (λ h. all_tied t h.0.0.0.0 h.0.0.0.1 (record { tiles_media = h.0.0.1; rows_media = h.0.1; rows_tiles = h.1 }))
    (λ tied. let pairs = tied_pairs t tied in (
      (
        ((tied_rows t tied, tied.identities), pairs.tiles_media),
        pairs.rows_media,
      ),
      pairs.rows_tiles,
    ))
    parts
