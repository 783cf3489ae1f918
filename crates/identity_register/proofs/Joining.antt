-- The steps that put a link in or take it out, as one change of the package.
use Rattle.std.proofs.Common.{◌≡◌, ℕ, ℤ, List, [], ◌∷◌, false, Result, Ok, refl, sym, ap, subst}
use Rattle.std.proofs.Common.{◌∙◌, inl, inr}
use Rattle.std.specs.Prelude.{◌&&◌, ◌==◌, bytes_eq, flat_map, unsigned_abs}
use Rattle.std.specs.List.{AllByRecursion, list_any}
use Rattle.std.specs.Ordering.{int_eq}
use Rattle.std.proofs.lemmas.Bool.{or_from}
use Rattle.sqlite.specs.Effect.{Database}
use Rattle.sqlite.specs.State.{State, Survives}
use Rattle.store_sql.specs.Transactions.{Steps}
use Rattle.store_sql.proofs.Transactions.{steps_then, steps_weaker, steps_answer}
use Rattle.package_tables.specs.Package.{Tables, tables_of, AreFormed}
use Rattle.package_tables.specs.Mappings.{mapping_rows}
use Rattle.package_tables.specs.Calls.{Makes, Answers, OnTables}
use Rattle.package_tables.specs.Listed.{pairs}
use Rattle.package_tables.specs.Changes.{Adds, DropsPair}
use Rattle.package_tables.proofs.Stepping.{makes_steps}
use Rattle.package_tables.specs.declared.rows.IdentityRow.{IdentityRow}
use Rattle.package_tables.specs.declared.rows.MappingRow.{MappingRow}
use Rattle.sheet_types.specs.Ordered.{has}
use Rattle.sheet_types.specs.World.{Package, link_key, base_kind, other_kind}
use Rattle.sheet_types.specs.Lines.{IsUuid}
use Rattle.sheet_types.specs.Register.{HasEnds}
use Rattle.sheet_types.specs.declared.command.Mapping.{Mapping}
use Rattle.sheet_types.specs.declared.command.Relation.{Relation}
use Rattle.sheet_types.specs.declared.frame.Frame.{Frame}
use Rattle.sheet_types.proofs.Basics.{and-true}
use Rattle.sheet_types.proofs.Every.{none_pass}
use Rattle.sheet_types.proofs.Order.{list_any-arranged}
use Rattle.identity_register.specs.Numbering.{number_of, mapping_row, rows_in, with_link, without_link, IsRowOf}
use Rattle.identity_register.specs.Numbering.{AreRowsOfEnds}
use Rattle.identity_register.specs.declared.changes.EndRows.{EndRows}
use Rattle.identity_register.specs.Reads.{Says}
use Rattle.identity_register.specs.LocalNumbers.{KeepRows, Grows, Shrinks}
use Rattle.identity_register.specs.Changes.{IsNewLink, link_added, IsLink, link_removed}
use Rattle.identity_register.proofs.Deleting.{same_number}
use Rattle.identity_register.proofs.Finding.{in_range, row_of_uuid}
use Rattle.identity_register.proofs.KeptNumbers.{link_beside, links_left}
use Rattle.identity_register.proofs.Linking.{links, unlinks, pair_same, end_of, number_is}
use Rattle.identity_register.proofs.Ends.{ends_there}
use Rattle.identity_register.proofs.MappingTables.{rows_there, pair_key, table_says}

module _ (f : Frame) (p : Package) (t : Tables) (says : Says f p t) where
  -- the row that was found gives the number
  found_number : (id : List ℕ) → IsUuid id → (r : IdentityRow) → IsRowOf id t r
      → number_of says.numbered id ≡ r.local_id
  found_number id fit r h =
      let n = row_of_uuid f p t says id fit r h.0 h.1 in
      ap (number_of says.numbered) (sym n.3) ∙ number_is f p t says n.0 n.1 ∙ ap (λ x. x.local_id) n.2

  -- pairs of numbers of ends are one where their keys are
  keys_same : (x l : Relation) → x.mapping ≡ l.mapping → HasEnds p x → HasEnds p l
      → bytes_eq (pair_key (mapping_row says.numbered x)) (pair_key (mapping_row says.numbered l))
      ≡ bytes_eq (link_key x) (link_key l)
  keys_same x l same hx hl =
      let a = end_of f p t says (base_kind x.mapping) x.base hx.0 in
      let b = end_of f p t says (other_kind x.mapping) x.other hx.1 in
      let c = end_of f p t says (base_kind l.mapping) l.base hl.0 in
      let d = end_of f p t says (other_kind l.mapping) l.other hl.1 in
      let base : int_eq (number_of says.numbered x.base) (number_of says.numbered l.base)
      ≡ (unsigned_abs (number_of says.numbered x.base) == unsigned_abs (number_of says.numbered l.base)) =
      rw (a.4, c.4) (same_number a.0.number c.0.number (in_range f p t says a.0 a.1) (in_range f p t says c.0 c.1)) in
      let other : int_eq (number_of says.numbered x.other) (number_of says.numbered l.other)
      ≡ (unsigned_abs (number_of says.numbered x.other) == unsigned_abs (number_of says.numbered l.other)) =
      rw (b.4, d.4) (same_number b.0.number d.0.number (in_range f p t says b.0 b.1) (in_range f p t says d.0 d.1)) in
      ap (λ v. (unsigned_abs (number_of says.numbered x.base) == unsigned_abs (number_of says.numbered l.base)) && v)
      (and-true (unsigned_abs (number_of says.numbered x.other) == unsigned_abs
      (number_of says.numbered l.other)))
      ∙ sym (ap (λ v. v && (unsigned_abs (number_of says.numbered x.other) == unsigned_abs
      (number_of says.numbered l.other))) base)
      ∙ sym (ap (λ v. int_eq (number_of says.numbered x.base) (number_of says.numbered l.base) && v) other)
      ∙ pair_same f p t says x l same hx hl

  -- a link that is none of these has no row among theirs
  no_row : (k : Mapping) (l : Relation) → l.mapping ≡ k → HasEnds p l → (xs : List Relation)
      → AllByRecursion (HasEnds p) xs → AllByRecursion (λ x. bytes_eq (link_key x) (link_key l) ≡ false) xs
      → list_any (λ r. bytes_eq (pair_key r) (pair_key (mapping_row says.numbered l)))
      (flat_map (rows_in k says.numbered) xs) ≡ false
  no_row k l e hl [] h g = refl
  no_row k l e hl (x ∷ xs) h g = elim (rows_there k says.numbered x) [
    | inl at ↦ rw at.1 (or_from _ _ (keys_same x l (at.0 ∙ sym e) h.0 hl ∙ g.0) (no_row k l e hl xs h.1 g.1))
    | inr at ↦ rw at.1 (no_row k l e hl xs h.1 g.1)
  ]

  links_apart : (l : Relation) → has link_key (link_key l) p.links ≡ false
      → AllByRecursion (λ x. bytes_eq (link_key x) (link_key l) ≡ false) says.linked
  links_apart l fresh =
      none_pass (λ x. bytes_eq (link_key x) (link_key l)) says.linked
      (sym (list_any-arranged link_key (λ x. bytes_eq (link_key x) (link_key l)) says.linked)
      ∙ ap (list_any (λ x. bytes_eq (link_key x) (link_key l))) (sym says.links) ∙ fresh)

  -- so its key is free in the table of its mapping
  row_free : (k : Mapping) (l : Relation) (row : MappingRow) → row ≡ mapping_row says.numbered l → l.mapping ≡ k
      → IsNewLink l p → has pair_key (pair_key row) (mapping_rows k t) ≡ false
  row_free k l row is e fits =
      ap (λ r. has pair_key (pair_key r) (mapping_rows k t)) is
      ∙ ap (has pair_key (pair_key (mapping_row says.numbered l))) (table_says f p t says k)
      ∙ list_any-arranged pair_key (λ r. bytes_eq (pair_key r) (pair_key (mapping_row says.numbered l)))
      (flat_map (rows_in k says.numbered) says.linked)
      ∙ no_row k l e fits.ends says.linked says.ends (links_apart l fits.new)

  -- the tables get the row of the link
  pub link_put : (l : Relation) (b m : ℤ) (after : Tables) → number_of says.numbered l.base ≡ b
      → number_of says.numbered l.other ≡ m → IsNewLink l p → Adds (pairs l.mapping)
      (record { base_id = b; related_id = m }) t after → after ≡ with_link l.mapping (mapping_row says.numbered l) t
  link_put l b m after is_base is_other fits adds = adds (row_free l.mapping l _ row_is refl fits)
      ∙ ap (λ r. with_link l.mapping r t) row_is
    where
      row_is : ◌≡◌ {A = MappingRow} (record { base_id = b; related_id = m }) (mapping_row says.numbered l)
      row_is = rw (is_base, is_other) refl

  -- the tables lose the row of the link
  pub link_taken : (l : Relation) (b m : ℤ) (after : Tables) → number_of says.numbered l.base ≡ b
      → number_of says.numbered l.other ≡ m → DropsPair l.mapping b m t after
      → after ≡ without_link l.mapping (mapping_row says.numbered l) t
  link_taken l b m after is_base is_other drops = drops ∙ rw (is_base, is_other) refl

-- ---- the steps

-- what two look-ups found of the ends of a link
pub ends_steps : {E F : Type 0} (a b : List ℕ) (base other : IdentityRow) {old mid new : State}
    → Steps {E = E} (Answers (IsRowOf a)) old mid (Ok base) → Steps {E = F} (Answers (IsRowOf b)) mid new (Ok other)
    → Steps {X = EndRows} {E = F} (Answers (AreRowsOfEnds a b)) old new (Ok (record { base = base; other = other }))
ends_steps {E} {F} a b base other {old} {mid} {new} one two =
    steps_answer {F = F} (Answers (AreRowsOfEnds a b)) (record { base = base; other = other })
    (λ chain. (
      chain.2.0 ∙ chain.1.0,
      λ formed. (
        chain.1.1 formed,
        subst (λ d. IsRowOf b (tables_of d) other)
            chain.1.0 (chain.2.1 (subst AreFormed (sym chain.1.0) formed)),
      ),
    ))
    (steps_then {F = F} one two)

joined : (l : Relation) (ends : EndRows) (old mid new : Database)
    → Answers (AreRowsOfEnds l.base l.other) ends old mid → OnTables
    (Adds (pairs l.mapping) (record { base_id = ends.base.local_id; related_id = ends.other.local_id })) mid new
    → Grows (IsNewLink l) (link_added l) old new
joined l ends old mid new found added f p reads fits =
    let rows = found.1 reads.formed in
    let did = added (subst AreFormed (sym found.0) reads.formed) in
    let is_base = found_number f p (tables_of old) reads.says l.base fits.base ends.base rows.0 in
    let is_other = found_number f p (tables_of old) reads.says l.other fits.other ends.other rows.1 in
    let after = link_put f p (tables_of old) reads.says l ends.base.local_id ends.other.local_id (tables_of new)
    is_base is_other fits (subst (λ d. Adds (pairs l.mapping)
    (record { base_id = ends.base.local_id; related_id = ends.other.local_id }) (tables_of d) (tables_of new))
    found.0 did.1) in (
      record {
        formed = did.0;
        says = subst (Says f (link_added l p)) (sym after)
            (links f p (tables_of old) l reads.says fits.new fits.ends);
      },
      subst (KeepRows (tables_of old)) (sym after) (link_beside l.mapping (mapping_row reads.says.numbered l)
          (tables_of old)),
    )

parted : (l : Relation) (ends : EndRows) (old mid new : Database)
    → Answers (AreRowsOfEnds l.base l.other) ends old mid → OnTables
    (DropsPair l.mapping ends.base.local_id ends.other.local_id) mid new → Shrinks (IsLink l) (link_removed l) old new
parted l ends old mid new found dropped f p reads fits =
    let rows = found.1 reads.formed in
    let did = dropped (subst AreFormed (sym found.0) reads.formed) in
    let is_base = found_number f p (tables_of old) reads.says l.base fits.base ends.base rows.0 in
    let is_other = found_number f p (tables_of old) reads.says l.other fits.other ends.other rows.1 in
    let after = link_taken f p (tables_of old) reads.says l ends.base.local_id ends.other.local_id (tables_of new)
    is_base is_other (subst (λ d. DropsPair l.mapping ends.base.local_id ends.other.local_id (tables_of d)
    (tables_of new)) found.0 did.1) in (
      record {
        formed = did.0;
        says = subst (Says f (link_removed l p)) (sym after)
            (unlinks f p (tables_of old) reads.says l (ends_there f p (tables_of old) reads.says l fits.base
            fits.there));
      },
      subst (λ t. KeepRows t (tables_of old)) (sym after) (links_left l.mapping (mapping_row reads.says.numbered l)
          (tables_of old)),
    )

-- both ends are found, and the link comes in
pub link_steps : {E F : Type 0} (l : Relation) (ends : EndRows) {old mid new : State} {r : Result (Unit {0}) F}
    → Steps {E = E} (Answers (AreRowsOfEnds l.base l.other)) old mid (Ok ends)
    → Makes (Adds (pairs l.mapping) (record { base_id = ends.base.local_id; related_id = ends.other.local_id })) mid
    new r → Survives mid new (λ _. ⊥)
    → Steps (λ _. Grows (IsNewLink l) (link_added l)) old new r
link_steps l ends {old} {mid} {new} first makes survives =
    steps_weaker (λ _. Grows (IsNewLink l) (link_added l)) (λ _ chain. joined l ends old.now chain.0 new.now chain.1
    chain.2)
    (steps_then first (makes_steps (Adds (pairs l.mapping) (record
    { base_id = ends.base.local_id; related_id = ends.other.local_id })) makes survives))

-- both ends are found, and the link goes
pub unlink_steps : {E F : Type 0} (l : Relation) (ends : EndRows) {old mid new : State} {r : Result (Unit {0}) F}
    → Steps {E = E} (Answers (AreRowsOfEnds l.base l.other)) old mid (Ok ends)
    → Makes (DropsPair l.mapping ends.base.local_id ends.other.local_id) mid new r → Survives mid new (λ _. ⊥)
    → Steps (λ _. Shrinks (IsLink l) (link_removed l)) old new r
unlink_steps l ends {old} {mid} {new} first makes survives =
    steps_weaker (λ _. Shrinks (IsLink l) (link_removed l)) (λ _ chain. parted l ends old.now chain.0 new.now chain.1
    chain.2)
    (steps_then first (makes_steps (DropsPair l.mapping ends.base.local_id ends.other.local_id) makes survives))
