-- A schema to which the table of the third mapping, or its index, comes.
use Rattle.std.proofs.Common.{◌≡◌, ℕ, ◌+◌, ◌<◌, ◌^◌, nat_le, ◌==◌, List, [], ◌∷◌}
use Rattle.std.proofs.Common.{length, false, Some, None, refl}
use Rattle.std.proofs.Common.{sym, ap, subst, ◌∙◌, arith, codes, inl, inr}
use Rattle.std.specs.Prelude.{find}
use Rattle.std.specs.List.{AllZip, list_any}
use Rattle.std.proofs.Math.Bool.{and-false}
use Rattle.std.proofs.lemmas.Bool.{false_from_ne_true, leb-true}
use Rattle.std.proofs.lemmas.List.Folds.{find-append}
use Rattle.std.specs.Fmt.{digits}
use Rattle.sqlite.specs.Order.{Row}
use Rattle.sqlite.specs.Table.{Table}
use Rattle.sqlite.specs.Schema.{Schema}
use Rattle.sqlite.specs.Tree.{Trees}
use Rattle.sqlite.specs.Change.{created, indexed, next_tree}
use Rattle.sqlite.specs.Does.{lacks_sequence}
use Rattle.sqlite_schema.specs.Names.{same_name, table_named}
use Rattle.sqlite_schema.specs.declared.schema.Index.{Index}
use Rattle.sqlite_catalog.specs.Listing.{IsSound, IsTableRow, automatic}
use Rattle.sqlite_catalog.proofs.StepLemmas.{table_below, same_itself}
use Rattle.sqlite_rules.specs.Lists.{Has}
use Rattle.sqlite_rules.proofs.ListLemmas.{all_from, has_got}
use Rattle.sqlite_trees.proofs.ListLemmas.{all-append}
use Rattle.store_sql.specs.Known.{HasTable, IsQuiet, counters}
use Rattle.store_sql.specs.Blank.{IsFree}
use Rattle.package_tables.specs.Tables.{rows_tiles}
use Rattle.package_v1.proofs.Positions.{position_left, position_last, position_none, find_none, slice_left, slice_last}

-- ---- the number of a tree is small, where the trees list the schema

low_tree : (rows : List Row) (tables : List Table) → AllZip IsTableRow rows tables → (t : Table) → Has tables t
    → t.tree < 65536
low_tree [] [] zip t has = absurd has
low_tree [] (u ∷ tables) zip t has = absurd zip
low_tree (r ∷ rows) [] zip t has = absurd zip
low_tree (r ∷ rows) (u ∷ tables) zip t (inl same) = subst (λ (v : Table). v.tree < 65536) (sym same)
    zip.0.described.low
low_tree (r ∷ rows) (u ∷ tables) zip t (inr later) = low_tree rows tables zip.1 t later

not_great : (n : ℕ) → n < 65536 → nat_le (2 ^ 31) n ≡ false
not_great n low = false_from_ne_true (nat_le (2 ^ 31) n) (λ e. omega (arith, leb-true (2 ^ 31) n e, low))

other_tree : (a b : ℕ) → a < b → (a == b) ≡ false
other_tree a b below = grind arith

-- ---- the table comes

module _ (S : Schema) where
  abbrev pub third : Table
  third = rows_tiles (next_tree S)

  abbrev pub with_third : Schema
  with_third = created S (rows_tiles 0)

  -- each table that the schema knows is known
  pub still_there : (at : ℕ) (u : Table) → HasTable S at u → HasTable with_third at u
  still_there at u h = record {
    named = position_left (λ (t : Table). same_name t.name u.name) 0 at S.tables (third ∷ []) h.named;
    there = slice_left at u S.tables (third ∷ []) h.there;
    stored = h.stored;
    by_tree = find-append (λ (t : Table). t.tree == u.tree) S.tables (third ∷ []) ∙ rw h.by_tree refl;
  }

  pub still_quiet : IsQuiet S → IsQuiet with_third
  still_quiet quiet = record {
    seq_at = quiet.seq_at;
    seq = quiet.seq;
    counts = still_there quiet.seq_at (counters quiet.seq) quiet.counts;
    inert = all-append _ S.tables (third ∷ []) quiet.inert (tt, tt);
  }

  -- the count is there, so none is made
  pub has_sequence : IsQuiet S → lacks_sequence with_third ≡ false
  has_sequence quiet = let h = (still_quiet quiet).counts in rw (h.named, h.there)
      (and-false (list_any (λ (t : Table). t.is_counted) with_third.tables))

  module _ (db : Trees) (sound : IsSound with_third db) (free : table_named S (codes "rows_tiles") ≡ None) where
    has_third : Has with_third.tables third
    has_third = has_got with_third.tables (length S.tables) third (slice_last S.tables third)

    -- and so is the new one, at the end
    pub third_there : HasTable with_third (length S.tables) third
    third_there = record {
      named = position_last (λ (t : Table). same_name t.name (codes "rows_tiles")) 0 S.tables third free
          (same_itself (codes "rows_tiles")) ∙ ap Some (omega arith);
      there = slice_last S.tables third;
      stored = not_great (next_tree S) (low_tree _ with_third.tables sound.lists.listed.tables third has_third);
      by_tree = find-append (λ (t : Table). t.tree == next_tree S) S.tables (third ∷ [])
          ∙ rw (find_none (λ (t : Table). t.tree == next_tree S) S.tables
          (all_from (λ (t : Table). (t.tree == next_tree S) ≡ false) S.tables
          (λ t has. other_tree t.tree (next_tree S) (table_below S t has)))) (last_found third);
    }
      where
        last_found : (t : Table) → find (λ (u : Table). u.tree == t.tree) (t ∷ []) ≡ Some t
        last_found t = grind arith

  -- the name of the new table is another than that of the index, and so is that of the index of its key
  other_table : same_name (codes "rows_tiles") (codes "by_rows_tiles") ≡ false
  unfolding same_name
  other_table = refl

  other_index : (tree : ℕ) → same_name (automatic (rows_tiles tree) 0 (1 ∷ 2 ∷ []) (tree + 1)).name
      (codes "by_rows_tiles") ≡ false
  unfolding same_name digits
  other_index tree = refl

  pub index_still_free : IsFree S (codes "by_rows_tiles") → IsFree with_third (codes "by_rows_tiles")
  index_still_free free = record {
    table = position_none (λ (t : Table). same_name t.name (codes "by_rows_tiles")) 0 S.tables third free.table
        other_table;
    view = free.view;
    index = position_none (λ (i : Index). same_name i.name (codes "by_rows_tiles")) 0 S.indexes
        (automatic third 0 (1 ∷ 2 ∷ []) (next_tree S + 1)) free.index (other_index (next_tree S));
  }

-- ---- an index comes

pub still_indexed : (S : Schema) (t : Table) (i : Index) (at : ℕ) (u : Table) → HasTable S at u
    → HasTable (indexed S t i) at u
still_indexed S t i at u h = record { named = h.named; there = h.there; stored = h.stored; by_tree = h.by_tree }

pub quiet_indexed : (S : Schema) (t : Table) (i : Index) → IsQuiet S → IsQuiet (indexed S t i)
quiet_indexed S t i quiet = record {
  seq_at = quiet.seq_at;
  seq = quiet.seq;
  counts = still_indexed S t i quiet.seq_at (counters quiet.seq) quiet.counts;
  inert = quiet.inert;
}
