use Rattle.std.proofs.Common.{◌≡◌, [], ◌∷◌, rules, subst, IsTrue, FitsSigned, w64, to_z-of_z}
use Rattle.std.specs.Prelude.{◌↔◌, IsPermutation}
use Rattle.package_tables.specs.Fixed.{systems_of, contents_of, undated, matrix_set, levels_of}
use Rattle.package_schema.specs.Frames.{relations_at}
use Rattle.store_sql.proofs.Both.{two, four}
use Rattle.package_schema.proofs.frame_rows.are_rows_of.Goals as goal

pub returns : goal.returns
returns c =
    let f = c.args.frame.now in
    let found = c.args.found.now in
    let number : FitsSigned w64 f.srs_id = search rules in
    let systems = subst (λ l. IsTrue c.in_ok-systems.systems ↔ IsPermutation l (systems_of f.srs_id))
    c.deref.ensures.value (simp (to_z-of_z, number) at c.in_ok-systems.ensures) in
    let listed = subst (λ l. IsTrue c.are_contents-listed.result ↔ IsPermutation (undated l) (contents_of f []))
    c.deref-2.ensures.value c.are_contents-listed.ensures in
    let sets = subst (λ l. IsTrue c.are_sets-sets.result ↔ (l ≡ matrix_set f ∷ [])) c.deref-3.ensures.value
    c.are_sets-sets.ensures in
    let levels = subst (λ l. IsTrue c.are_levels-levels.result ↔ (l ≡ levels_of f)) c.deref-4.ensures.value
    c.are_levels-levels.ensures in
    let related = subst (λ l. IsTrue c.are_relations_at-related.result ↔ IsPermutation l
    (relations_at c.args.version)) c.deref-5.ensures.value c.are_relations_at-related.ensures in
    let all = two _ _ (four _ _ _ _ systems listed sets levels) related in (
      λ yes. let h = all.0 yes in record {
        systems = h.0.0;
        listed = h.0.1;
        sets = h.0.2;
        levels = h.0.3;
        related = h.1;
      },
      λ are. all.1 ((are.systems, are.listed, are.sets, are.levels), are.related),
    )
