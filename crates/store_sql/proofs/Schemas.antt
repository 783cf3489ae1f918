-- The trees of a store tell its schema.
use Rattle.std.proofs.Common.{◌≡◌, inl, inr, ℕ, ◌+◌, ◌<◌, pos, Bool, true, false, Option, Some, None}
use Rattle.std.proofs.Common.{List, [], ◌∷◌, ◌++◌, slice_get, codes, Result, Ok, refl, sym, ap, subst}
use Rattle.std.proofs.Common.{◌∙◌, arith}
use Rattle.std.specs.Prelude.{MatchBool}
use Rattle.std.specs.List.{AllZip}
use Rattle.std.specs.Fmt.{decimal}
use Rattle.std.proofs.lemmas.Fmt.{decimal_injective}
use Rattle.sqlite.specs.declared.types.Value.{Value}
use Rattle.sqlite.specs.declared.types.Value.TheVariants as value
use Rattle.sqlite.specs.Order.{Row, column}
use Rattle.sqlite.specs.Tree.{Trees}
use Rattle.sqlite_trees.specs.Tree.{IsAscending}
use Rattle.sqlite.specs.Table.{Table}
use Rattle.sqlite.specs.Schema.{Schema}
use Rattle.sqlite_schema.specs.declared.schema.Index.{Index}
use Rattle.sqlite_schema.specs.declared.schema.View.{View}
use Rattle.sqlite_catalog.specs.Listing.{Describes, IsSound, IsTableRow, IsIndexRow, IsViewRow, IsDefined, IsAside}
use Rattle.sqlite_catalog.specs.Listing.{IsForeign, IsReadable}
use Rattle.sqlite_catalog.proofs.StepLemmas.{same_itself, named_once}
use Rattle.std.proofs.lemmas.List.{append_cancel_left}
use Rattle.std.specs.Str.{bytes_eq}
use Rattle.std.proofs.lemmas.Bool.{both_ways}
use Rattle.std.proofs.lemmas.Slice.Eq.{bytes_eq-Decides}
use Rattle.sqlite_resolve.specs.Compile.{table_defined_by, index_defined_by}
use Rattle.sqlite_schema.specs.Names.{same_name}

zip_alone : {A B : Type 0} (R : A → B → Type 0) → ((x : A) (y z : B) → R x y → R x z → y ≡ z)
    → (xs : List A) (ys zs : List B) → AllZip R xs ys → AllZip R xs zs → ys ≡ zs
zip_alone R one [] [] [] p q = refl
zip_alone R one [] [] (z ∷ zs) p q = absurd q
zip_alone R one [] (y ∷ ys) zs p q = absurd p
zip_alone R one (x ∷ xs) [] zs p q = absurd p
zip_alone R one (x ∷ xs) (y ∷ ys) [] p q = absurd q
zip_alone R one (x ∷ xs) (y ∷ ys) (z ∷ zs) p q = let e = one x y z p.0 q.0 in rw
    (e, zip_alone R one xs ys zs p.1 q.1) refl

same_tree : (row : Row) (a b : ℕ) (k l n m o p : List ℕ) (s t u v : ℕ) → Describes row a k n o s u
    → Describes row b l m p t v → a ≡ b
same_tree row a b k l n m o p s t u v one two = let e : pos (a + 1) ≡ pos (b + 1) =
    (let f : value.Int (pos (a + 1)) ≡ value.Int (pos (b + 1)) = sym one.id ∙ two.id in cc) in let h :
    a + 1 ≡ b + 1 = cc in omega arith

same_text : {a b : List ℕ} {v : Value} → v ≡ value.Text a → v ≡ value.Text b → a ≡ b
same_text one two = let e = sym one ∙ two in cc

both : {A E : Type 0} (r q : Result A E) {a b : A} → r ≡ q → r ≡ Ok a → q ≡ Ok b → a ≡ b
both r q same one two = let e = sym one ∙ same ∙ two in cc

-- a row of the list is that of one table
one_table : (row : Row) (a b : Table) → IsTableRow row a → IsTableRow row b → a ≡ b
one_table row a b one two =
    let trees = same_tree row a.tree b.tree _ _ _ _ _ _ _ _ _ _ one.described two.described in
    let texts : one.sql ≡ two.sql = same_text one.sql_is two.sql_is in
    let made : one.defined.0 ≡ two.defined.0 = both (table_defined_by one.sql) (table_defined_by two.sql)
    (ap table_defined_by texts) one.defined.1 two.defined.1 in
    one.defined.2 ∙ rw (made, trees) (sym two.defined.2)

pub tables_alone : (s t : Schema) (db : Trees) → IsSound s db → IsSound t db → s.tables ≡ t.tables
tables_alone s t db one two = zip_alone IsTableRow one_table _ _ _ one.lists.listed.tables two.lists.listed.tables

-- ---- the indexes

-- the automatic index of a place has a name of its own
same_automatic : (front name : List ℕ) (i j : ℕ) → i < 65536 → j < 65536
    → front ++ (name ++ (codes "_" ++ decimal (i + 1))) ≡ front ++ (name ++ (codes "_" ++ decimal (j + 1)))
    → i ≡ j
same_automatic front name i j low less same =
    let ends = append_cancel_left (codes "_") (decimal (i + 1)) (decimal (j + 1))
    (append_cancel_left name _ _ (append_cancel_left front _ _ same)) in
    let next : i + 1 ≡ j + 1 = decimal_injective (i + 1) (j + 1) (omega arith) (omega arith) ends in
    omega arith

same_some : {A : Type 0} {o q : Option A} {a b : A} → o ≡ q → o ≡ Some a → q ≡ Some b → a ≡ b
same_some same one two = let e = sym one ∙ same ∙ two in cc

one_definition : (t : Table) (a b : Index) (v : Value) → a.name ≡ b.name → a.tree ≡ b.tree → IsDefined t a v
    → IsDefined t b v → a ≡ b
one_definition t a b value.Null names trees one two =
    let at : one.0 ≡ two.0 = same_automatic (codes "sqlite_autoindex_") t.name one.0 two.0 one.4 two.4
    (sym (ap (λ (x : Index). x.name) one.3) ∙ names ∙ ap (λ (x : Index). x.name) two.3) in
    let keys : one.1 ≡ two.1 = same_some (ap (slice_get t.uniques) at) one.2 two.2 in
    one.3 ∙ rw (at, keys, trees) (sym two.3)
one_definition t a b (value.Int n) names trees one two = absurd one
one_definition t a b (value.Real x) names trees one two = absurd one
one_definition t a b (value.Text sql) names trees one two =
    let made : one.0 ≡ two.0 = both (index_defined_by t sql) (index_defined_by t sql) refl one.1 two.1 in
    one.2 ∙ rw (made, trees) (sym two.2)
one_definition t a b (value.Blob c) names trees one two = absurd one

one_index : (tables : List Table) → IsAscending (λ s t. same_name s.name t.name ≡ false) tables
    → (row : Row) (a b : Index) → IsIndexRow tables row a → IsIndexRow tables row b → a ≡ b
one_index tables apart row a b one two =
    let owners : one.table.name ≡ two.table.name = same_text one.described.owner_is two.described.owner_is in
    let table : one.table ≡ two.table = named_once tables one.table two.table apart one.listed two.listed
    (subst (λ n. same_name one.table.name n ≡ true) owners (same_itself one.table.name)) in
    one_definition one.table a b (column row 4) (same_text one.described.name_is two.described.name_is)
    (same_tree row a.tree b.tree _ _ _ _ _ _ _ _ _ _ one.described two.described) one.defined
    (subst (λ t. IsDefined t b (column row 4)) (sym table) two.defined)

-- ---- the views, and what is kept as it is

abbrev view_of : List ℕ → ℕ → List ℕ → Option (List ℕ) → Bool → Bool → View
view_of name tree sql foreign binds is_bound = record {
  name = name;
  tree = tree;
  sql = sql;
  foreign = foreign;
  binds = binds;
  is_bound = is_bound;
}

same_fields : (n m : List ℕ) (i j : ℕ) (s t : List ℕ) (f g : Option (List ℕ)) (b c d e : Bool) → n ≡ m
    → i ≡ j → s ≡ t → f ≡ g → b ≡ c → d ≡ e → view_of n i s f b d ≡ view_of m j t g c e
same_fields n m i j s t f g b c d e p q r u v w = rw (p, q, r, u, v, w) refl

same_views : (a b : View) → a.name ≡ b.name → a.tree ≡ b.tree → a.sql ≡ b.sql → a.foreign ≡ b.foreign
    → a.binds ≡ b.binds → a.is_bound ≡ b.is_bound → a ≡ b
same_views a b names trees texts owners binds bound = same_fields a.name b.name a.tree b.tree a.sql b.sql a.foreign
    b.foreign a.binds b.binds a.is_bound b.is_bound names trees texts owners binds bound

same_answer : (P : Type 0) (a b : Bool) → MatchBool a P (¬ P) → MatchBool b P (¬ P) → a ≡ b
same_answer P true true one two = refl
same_answer P true false one two = absurd (two one)
same_answer P false true one two = absurd (one two)
same_answer P false false one two = refl

same_bytes : (a : List ℕ) → bytes_eq a a ≡ true
same_bytes a = (bytes_eq-Decides a a).1 refl

-- two kinds of objects
no_kind : (a b kind : List ℕ) → bytes_eq a b ≡ false → kind ≡ a → kind ≡ b → ⊥
no_kind a b kind apart is be = both_ways (bytes_eq a b) apart (rw (sym be ∙ is) (same_bytes a))

one_foreign : (row : Row) (a b : View) (kind : List ℕ) (code : ℕ) → IsForeign row a kind code
    → IsForeign row b kind code → (a.binds ≡ b.binds) × (a.is_bound ≡ b.is_bound)
one_foreign row a b kind code (inl one) (inl two) = (
  one.2 ∙ sym two.2,
  same_answer (IsReadable row) a.is_bound
      b.is_bound one.3 two.3,
)
one_foreign row a b kind code (inl one) (inr (inl two)) = absurd
    (no_kind (codes "table") (codes "index") kind refl one.0 two.0)
one_foreign row a b kind code (inl one) (inr (inr two)) = absurd
    (no_kind (codes "table") (codes "trigger") kind refl one.0 two.0)
one_foreign row a b kind code (inr (inl one)) (inl two) = absurd
    (no_kind (codes "index") (codes "table") kind refl one.0 two.0)
one_foreign row a b kind code (inr (inl one)) (inr (inl two)) = (one.2 ∙ sym two.2, one.3 ∙ sym two.3)
one_foreign row a b kind code (inr (inl one)) (inr (inr two)) =
    absurd (no_kind (codes "index") (codes "trigger") kind refl one.0 two.0)
one_foreign row a b kind code (inr (inr one)) (inl two) = absurd
    (no_kind (codes "trigger") (codes "table") kind refl one.0 two.0)
one_foreign row a b kind code (inr (inr one)) (inr (inl two)) =
    absurd (no_kind (codes "trigger") (codes "index") kind refl one.0 two.0)
one_foreign row a b kind code (inr (inr one)) (inr (inr two)) = (one.2 ∙ sym two.2, one.3 ∙ sym two.3)

not_view : (row : Row) (a : View) (kind : List ℕ) (code : ℕ) → kind ≡ codes "view"
    → IsForeign row a kind code → ⊥
not_view row a kind code is (inl one) = no_kind (codes "table") (codes "view") kind refl one.0 is
not_view row a kind code is (inr (inl one)) = no_kind (codes "index") (codes "view") kind refl one.0 is
not_view row a kind code is (inr (inr one)) = no_kind (codes "trigger") (codes "view") kind refl one.0 is

one_aside : (row : Row) (a b : View) (kind owner : List ℕ) (code : ℕ) (p q : Option (List ℕ))
    → a.foreign ≡ p → b.foreign ≡ q → a.name ≡ b.name → a.tree ≡ b.tree
    → IsAside row a kind owner code p → IsAside row b kind owner code q → a ≡ b
one_aside row a b kind owner code None None is be names trees one two =
    same_views a b names trees (same_text one.3 two.3) (is ∙ sym be) (one.6 ∙ sym two.6) (one.7 ∙ sym two.7)
one_aside row a b kind owner code None (Some o) is be names trees one two =
    absurd (not_view row b kind code one.0 two.2)
one_aside row a b kind owner code (Some o) None is be names trees one two =
    absurd (not_view row a kind code two.0 one.2)
one_aside row a b kind owner code (Some o) (Some u) is be names trees one two =
    let kept = one_foreign row a b kind code one.2 two.2 in
    same_views a b names trees (one.1 ∙ sym two.1) (is ∙ ap Some (sym one.0 ∙ two.0) ∙ sym be) kept.0 kept.1

one_view : (row : Row) (a b : View) → IsViewRow row a → IsViewRow row b → a ≡ b
one_view row a b one two =
    let kinds : two.kind ≡ one.kind = same_text two.described.kind_is one.described.kind_is in
    let owners : two.owner ≡ one.owner = same_text two.described.owner_is one.described.owner_is in
    let shapes : two.code ≡ one.code = sym two.described.shape_is ∙ one.described.shape_is in
    one_aside row a b one.kind one.owner one.code a.foreign b.foreign refl refl
    (same_text one.described.name_is two.described.name_is)
    (same_tree row a.tree b.tree _ _ _ _ _ _ _ _ _ _ one.described two.described) one.aside
    (rw (kinds, owners, shapes) at two.aside)

-- ---- the schema

abbrev pub schema_of : List Table → List Index → List View → Schema
schema_of tables indexes views = record { tables = tables; indexes = indexes; views = views }

pub same_schemas : (ts us : List Table) (is js : List Index) (vs ws : List View) → ts ≡ us → is ≡ js
    → vs ≡ ws → schema_of ts is vs ≡ schema_of us js ws
same_schemas ts us is js vs ws p q r = rw (p, q, r) refl

-- Trees have at most one sound schema, so what is said of a store by its trees may speak of their schema.
pub sound_alone : (s t : Schema) (db : Trees) → IsSound s db → IsSound t db → s ≡ t
sound_alone s t db one two =
    let tables = tables_alone s t db one two in
    let indexes : s.indexes ≡ t.indexes = zip_alone (IsIndexRow s.tables)
    (one_index s.tables one.lists.listed.named) _ _ _ one.lists.listed.indexes
    (rw (sym tables) at two.lists.listed.indexes) in
    let views : s.views ≡ t.views = zip_alone IsViewRow one_view _ _ _ one.lists.listed.views
    two.lists.listed.views in
    same_schemas s.tables t.tables s.indexes t.indexes s.views t.views tables indexes views
