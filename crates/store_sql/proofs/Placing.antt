-- When a schema has the table of a form.
use Rattle.std.proofs.Common.{◌≡◌, ℕ, Some, false, refl, sym, ap, subst, ◌∙◌, slice_get, arith}
use Rattle.std.specs.Prelude.{◌==◌, nat_le, ◌^◌}
use Rattle.std.specs.List.{position_from}
use Rattle.sqlite.specs.Table.{Table}
use Rattle.sqlite.specs.Schema.{Schema}
use Rattle.sqlite_schema.specs.Names.{table_named, same_name}
use Rattle.store_sql.specs.declared.forms.TableForm.{TableForm}
use Rattle.store_sql.specs.Forms.{table_of}
use Rattle.store_sql.specs.Known.{HasTable}
use Rattle.store_sql.specs.Spelling.{IsSpelling, IsPlaced, spelled, spelling_of}
use Rattle.store_sql.proofs.Spelling.{found_there, first_there, same_some}

module _ (schema : Schema) (form : TableForm) (at : ℕ) (t : Table)
    (named : table_named schema form.name.now ≡ Some at) (there : slice_get schema.tables at ≡ Some t) where
  -- what is tested of the table at the place of the name
  abbrev pub IsKnown : Type 0
  IsKnown = (t ≡ spelled (table_of form) (spelling_of t)) × IsSpelling (table_of form 0) (spelling_of t)
      × (position_from (λ u. u.tree == t.tree) 0 schema.tables ≡ Some at) × (nat_le (2 ^ 31) t.tree ≡ false)

  pub placed : IsKnown → IsPlaced schema (table_of form)
  placed (same, meant, first, low) = record {
    at = at;
    spelling = spelling_of t;
    meant = meant;
    has = subst (HasTable schema at) same (record {
      named = ap (λ u. table_named schema u.name) same
          ∙ named;
      there = there;
      stored = low;
      by_tree = found_there (λ u. u.tree == t.tree) 0 at t schema.tables
          (first ∙ ap Some (omega arith)) there;
    });
  }

  pub unplaced : IsPlaced schema (table_of form) → IsKnown
  unplaced p =
      let here : p.at ≡ at = same_some (sym p.has.named ∙ named) in
      let it : spelled (table_of form) p.spelling ≡ t = same_some
      (sym (subst (λ n. slice_get schema.tables n ≡ Some (spelled (table_of form) p.spelling)) here
      p.has.there) ∙ there) in
      let known : (spelled (table_of form) p.spelling ≡ spelled (table_of form) p.spelling)
      × IsSpelling (table_of form 0) p.spelling
      × (position_from (λ u. u.tree == p.spelling.tree) 0 schema.tables ≡ Some at)
      × (nat_le (2 ^ 31) p.spelling.tree ≡ false) = (
        refl,
        p.meant,
        first_there (λ u. u.tree == p.spelling.tree) (λ u. same_name u.name form.name.now) 0 at
            (spelled (table_of form) p.spelling) schema.tables (named ∙ ap Some (omega arith))
            (there ∙ ap Some (sym it)) p.has.by_tree ∙ ap Some (omega arith),
        p.has.stored,
      ) in
      subst (λ u. (u ≡ spelled (table_of form) (spelling_of u)) × IsSpelling (table_of form 0) (spelling_of u)
      × (position_from (λ v. v.tree == u.tree) 0 schema.tables ≡ Some at)
      × (nat_le (2 ^ 31) u.tree ≡ false)) it known
