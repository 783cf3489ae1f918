-- Tests of the rows that each package has are tests of the lists, in any order.
use Rattle.std.proofs.Common.{◌≡◌, ℕ, suc, ℤ, List, [], ◌∷◌, length, nat_eq, Bool, true, false, refl}
use Rattle.std.proofs.Common.{sym, ap, subst}
use Rattle.std.proofs.Common.{◌∙◌, IsTrue}
use Rattle.std.specs.Prelude.{◌↔◌, ◌&&◌, IsPermutation, cond}
use Rattle.std.specs.List.{list_any}
use Rattle.std.specs.Cmp.{unsigned_Decides}
use Rattle.sheet_types.specs.Ordered.{IsArranged, is_before, put}
use Rattle.sheet_types.specs.declared.frame.Frame.{Frame}
use Rattle.sheet_types.proofs.Order.{All-put, All-of_put}
use Rattle.sheet_types.proofs.Same.{In}
use Rattle.package_tables.specs.Fixed.{standard_systems, own_system, is_standard, systems_of, contents_of, undated}
use Rattle.package_tables.specs.Fixed.{mapping_relations}
use Rattle.package_tables.specs.Shapes.{spatial_ref_sys_shape, contents_shape, relation_shape}
use Rattle.package_tables.specs.declared.rows.ContentsRow.{ContentsRow}
use Rattle.package_tables.specs.declared.rows.RelationRow.{RelationRow}
use Rattle.package_tables.specs.declared.rows.SpatialRefSysRow.{SpatialRefSysRow}
use Rattle.package_tables.proofs.FixedRows.{own_comes, standard_suffices}
use Rattle.package_schema.specs.Frames.{same_system, same_content, same_relation}
use Rattle.package_schema.proofs.Agreeing.{agree_system, agree_content, agree_relation}
use Rattle.store_sql.proofs.Both.{two, three, four}
use Rattle.package_schema.proofs.Framing.{systems_order, contents_order, relations_order, first_order, undate}
use Rattle.package_v1.specs.FirstVersion.{first_relations}
use Rattle.package_schema.proofs.Having.{has_one, has_this, just}

-- tests of three elements and of how many there are
three_just : {X : Type 0} (key : X → List ℕ) (xs : List X) (e f g : X) (a b c d : Bool)
    → IsArranged key (e ∷ f ∷ g ∷ []) → (IsTrue a ↔ In e xs) → (IsTrue b ↔ In f xs)
    → (IsTrue c ↔ In g xs)
    → (IsTrue d ↔ (length xs ≡ 3))
    → IsTrue (((a && b) && c) && d) ↔ IsPermutation xs (e ∷ f ∷ g ∷ [])
three_just key xs e f g a b c d order first second third long =
    let all = four a b c d first second third long in
    just key xs (e ∷ f ∷ g ∷ []) (((a && b) && c) && d) order
    (λ yes. let h = all.0 yes in ((h.0, (h.1, (h.2, tt))), h.3), λ h. all.1 (h.0.0, h.0.1.0, h.0.1.1.0, h.1))

-- what a test of one row says
system_in : (rows : List SpatialRefSysRow) (e : SpatialRefSysRow) (r : Bool)
    → r ≡ list_any (λ x. same_system x e) rows → IsTrue r ↔ In e rows
system_in rows e r is = subst (λ b. IsTrue b ↔ In e rows) (sym is) (has_this same_system agree_system rows e)

relation_in : (rows : List RelationRow) (e : RelationRow) (r : Bool) → r ≡ list_any (λ x. same_relation x e) rows
    → IsTrue r ↔ In e rows
relation_in rows e r is = subst (λ b. IsTrue b ↔ In e rows) (sym is) (has_this same_relation agree_relation rows e)

content_in : (rows : List ContentsRow) (e : ContentsRow) (r : Bool) → e.last_change ≡ []
    → r ≡ list_any (λ x. same_content x e) rows → IsTrue r ↔ In e (undated rows)
content_in rows e r none is = subst (λ b. IsTrue b ↔ In e (undated rows)) (sym is)
    (has_one undate same_content (λ (x : ContentsRow). x.last_change ≡ []) agree_content rows e none)

undated_long : (rows : List ContentsRow) → length (undated rows) ≡ length rows
undated_long [] = refl
undated_long (r ∷ rows) = ap suc (undated_long rows)

-- ---- the three tables

pub relations_just : (rows : List RelationRow) (e f g : RelationRow) (a b c : Bool)
    → mapping_relations ≡ e ∷ f ∷ g ∷ [] → a ≡ list_any (λ x. same_relation x e) rows
    → b ≡ list_any (λ x. same_relation x f) rows → c ≡ list_any (λ x. same_relation x g) rows
    → IsTrue (((a && b) && c) && nat_eq (length rows) 3) ↔ IsPermutation rows mapping_relations
relations_just rows e f g a b c all first second third =
    subst (λ l. IsTrue (((a && b) && c) && nat_eq (length rows) 3) ↔ IsPermutation rows l) (sym all)
    (three_just relation_shape.key rows e f g a b c _ (subst (IsArranged relation_shape.key) all relations_order)
    (relation_in rows e a first) (relation_in rows f b second) (relation_in rows g c third)
    (unsigned_Decides (length rows) 3))

pub first_relations_just : (rows : List RelationRow) (e f : RelationRow) (a b : Bool)
    → first_relations ≡ e ∷ f ∷ []
    → a ≡ list_any (λ x. same_relation x e) rows → b ≡ list_any (λ x. same_relation x f) rows
    → IsTrue ((a && b) && nat_eq (length rows) 2) ↔ IsPermutation rows first_relations
first_relations_just rows e f a b all first second =
    let tests = three a b (nat_eq (length rows) 2) (relation_in rows e a first) (relation_in rows f b second)
    (unsigned_Decides (length rows) 2) in
    subst (λ l. IsTrue ((a && b) && nat_eq (length rows) 2) ↔ IsPermutation rows l) (sym all)
    (just relation_shape.key rows (e ∷ f ∷ []) ((a && b) && nat_eq (length rows) 2)
    (subst (IsArranged relation_shape.key) all first_order)
    (λ yes. let h = tests.0 yes in ((h.0, (h.1, tt)), h.2), λ h. tests.1 (h.0.0, h.0.1.0, h.1)))

pub contents_just : (frame : Frame) (rows : List ContentsRow) (e f g : ContentsRow) (a b c : Bool)
    → contents_of frame [] ≡ e ∷ f ∷ g ∷ [] → a ≡ list_any (λ x. same_content x e) rows
    → b ≡ list_any (λ x. same_content x f) rows
    → c ≡ list_any (λ x. same_content x g) rows → e.last_change ≡ [] → f.last_change ≡ []
    → g.last_change ≡ []
    → IsTrue (((a && b) && c) && nat_eq (length rows) 3) ↔ IsPermutation (undated rows) (contents_of frame [])
contents_just frame rows e f g a b c all first second third p q s =
    let long : IsTrue (nat_eq (length rows) 3) ↔ (length (undated rows) ≡ 3) =
    subst (λ n. IsTrue (nat_eq (length rows) 3) ↔ (n ≡ 3)) (sym (undated_long rows))
    (unsigned_Decides (length rows) 3) in
    subst (λ l. IsTrue (((a && b) && c) && nat_eq (length rows) 3) ↔ IsPermutation (undated rows) l) (sym all)
    (three_just contents_shape.key (undated rows) e f g a b c _
    (subst (IsArranged contents_shape.key) all (contents_order frame [])) (content_in rows e a p first)
    (content_in rows f b q second) (content_in rows g c s third) long)

pub standard_just : (n : ℤ) (rows : List SpatialRefSysRow) (e f g : SpatialRefSysRow) (a b c : Bool)
    → is_standard n ≡ true → standard_systems ≡ e ∷ f ∷ g ∷ []
    → a ≡ list_any (λ x. same_system x e) rows
    → b ≡ list_any (λ x. same_system x f) rows
    → c ≡ list_any (λ x. same_system x g) rows → IsTrue (((a && b) && c) && nat_eq (length rows) 3) ↔
    IsPermutation
    rows (systems_of n)
standard_just n rows e f g a b c standard all first second third =
    let is : systems_of n ≡ e ∷ f ∷ g ∷ [] = standard_suffices n standard ∙ all in
    subst (λ l. IsTrue (((a && b) && c) && nat_eq (length rows) 3) ↔ IsPermutation rows l) (sym is)
    (three_just spatial_ref_sys_shape.key rows e f g a b c _
    (subst (IsArranged spatial_ref_sys_shape.key) is (systems_order n)) (system_in rows e a first)
    (system_in rows f b second) (system_in rows g c third) (unsigned_Decides (length rows) 3))

put_longer : {X : Type 0} (key : X → List ℕ) (x : X) (xs : List X) → length (put key x xs) ≡ suc (length xs)
put_longer key x [] = refl
put_longer key x (y ∷ ys) = elim (is_before (key y) (key x)) as
    (λ v. length (cond v (y ∷ put key x ys) (x ∷ y ∷ ys)) ≡ suc (suc (length ys)))
    [ true ↦ ap suc (put_longer key x ys) | false ↦ refl ]

pub own_just : (n : ℤ) (rows : List SpatialRefSysRow) (e f g : SpatialRefSysRow) (a b c d : Bool)
    → is_standard n ≡ false → standard_systems ≡ e ∷ f ∷ g ∷ []
    → a ≡ list_any (λ x. same_system x e) rows
    → b ≡ list_any (λ x. same_system x f) rows
    → c ≡ list_any (λ x. same_system x g) rows → d ≡ list_any (λ x. same_system x (own_system n)) rows
    → IsTrue ((((a && b) && c) && d) && nat_eq (length rows) 4) ↔ IsPermutation rows (systems_of n)
own_just n rows e f g a b c d other all first second third last =
    let key = spatial_ref_sys_shape.key in
    let es = put key (own_system n) (e ∷ f ∷ g ∷ []) in
    let is : es ≡ systems_of n = ap (put key (own_system n)) (sym all) ∙ own_comes n other in
    let long : length es ≡ 4 = put_longer key (own_system n) (e ∷ f ∷ g ∷ []) in
    let tests = two (((a && b) && c) && d) (nat_eq (length rows) 4)
    (four a b c d (system_in rows e a first) (system_in rows f b second) (system_in rows g c third)
    (system_in rows (own_system n) d last)) (unsigned_Decides (length rows) 4) in
    subst (λ l. IsTrue ((((a && b) && c) && d) && nat_eq (length rows) 4) ↔ IsPermutation rows l) is
    (just key rows es _ (subst (IsArranged key) (sym is) (systems_order n)) (
      λ yes. let h = tests.0 yes in (
        All-put key (λ x. In x rows) (own_system n) (e ∷ f ∷ g ∷ []) h.0.3
            (h.0.0, (h.0.1, (h.0.2, tt))),
        h.1 ∙ sym long,
      ),
      λ h. let each = All-of_put key (λ x. In x rows) (own_system n) (e ∷ f ∷ g ∷ []) h.0 in tests.1
          ((each.1.0, each.1.1.0, each.1.1.1.0, each.0), h.1 ∙ long),
    ))
