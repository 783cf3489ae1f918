-- What `SELECT .. FROM t WHERE .. ORDER BY ..` answers, of all columns or of those that it names.
use Rattle.std.proofs.Common.{◌≡◌, ℕ, ◌+◌, List, [], ◌∷◌, ◌++◌, length, map, Bool, true, false}
use Rattle.std.proofs.Common.{None, Ok, refl, sym, ap, subst, ◌∙◌}
use Rattle.std.specs.Prelude.{nat_lt, ◌&&◌, filter, if◌then◌else◌}
use Rattle.std.specs.List.{flat_map, list_all}
use Rattle.std.specs.List.Sorted.{IsPermutation}
use Rattle.std.proofs.lemmas.Bool.{and_parts}
use Rattle.std.proofs.lemmas.List.Elements.{filter_agree}
use Rattle.sqlite_trees.proofs.ListLemmas.{map-map}
use Rattle.sqlite_ast.specs.declared.Statement.TheVariants as written
use Rattle.sqlite_ast.specs.declared.Select.{Select as Written, out-Select}
use Rattle.sqlite_ast.specs.declared.Source.{Source as From}
use Rattle.sqlite_ast.specs.declared.Shown.{Shown as Item}
use Rattle.sqlite_ast.specs.declared.Core.{out-Core}
use Rattle.sqlite_syntax.specs.declared.statement.Parsed.{Parsed}
use Rattle.sqlite.specs.declared.types.Value.TheVariants.{Null}
use Rattle.sqlite.specs.Order.{Row}
use Rattle.sqlite.specs.Term.{Term, col, eval_all, holds}
use Rattle.sqlite.specs.Table.{Table}
use Rattle.sqlite.specs.Schema.{Schema}
use Rattle.sqlite.specs.Tree.{Trees}
use Rattle.sqlite.specs.Query.{Query, IsAnswer, inner, end, output, page}
use Rattle.sqlite.specs.Program.{overlay}
use Rattle.sqlite.specs.Command.TheVariants.{Select}
use Rattle.sqlite.specs.State.{State as Conn, Shown, ShowsRows, IsUnchanged}
use Rattle.sqlite.specs.Clock.{timed}
use Rattle.sqlite_value.specs.declared.keys.Key.{Key}
use Rattle.sqlite_schema.specs.Names.{place_of}
use Rattle.sqlite_schema.specs.declared.schema.Column.{Column}
use Rattle.sqlite_schema.specs.declared.program.Program.{Program}
use Rattle.sqlite_draft.specs.declared.join.Step.TheVariants.{Inner}
use Rattle.sqlite_resolve.specs.Lowering.{fresh, max_budget, nothing}
use Rattle.sqlite_resolve.specs.declared.state.State.{State}
use Rattle.sqlite_resolve.specs.declared.body.Body.{Body}
use Rattle.sqlite_resolve.specs.declared.scope.Output.{Output}
use Rattle.sqlite_resolve.specs.declared.compiled.Compiled.{Compiled}
use Rattle.sqlite_resolve.specs.Select.{inside, outermost, paging}
use Rattle.sqlite_resolve.specs.Expr.{lower}
use Rattle.sqlite_resolve.specs.Order.{sorts}
use Rattle.sqlite_resolve.specs.Body.{body, stars, columns_of, outputs, tests, within}
use Rattle.sqlite_resolve.specs.Scope.{Name, is_among}
use Rattle.sqlite_resolve.specs.Program.{program}
use Rattle.sqlite_resolve.specs.Compile.{first, compiled, with_command}
use Rattle.sqlite.specs.Listing.{understood, reads_listing}
use Rattle.sqlite.proofs.Callers.{IsPlain, command_of, reads_as}
use Rattle.store_sql.specs.Spelling.{Spelling, spelled}
use Rattle.store_sql.specs.Known.{HasTable}
use Rattle.store_sql.specs.Reading.{Test, passes, IsListing, Listing, Lists}
use Rattle.store_sql.proofs.Where.{IsWhere, fits_in, fits_from, left_of, with_budget, spent, terms_of_test, where_in}
use Rattle.store_sql.proofs.Where.{where_after, keeps_is, are_given}
use Rattle.store_sql.proofs.Columns.{AreColumns, AreOrders, are_covered, left_by, outputs_named, named_terms}
use Rattle.store_sql.proofs.Columns.{terms_named, none_aliased, columns_in, orders_in}
use Rattle.store_sql.proofs.Resolve.{ReadsTable, ReadsFrom, ReadsOne, all_paged, all_rows, draft_over, drafted_as}
use Rattle.store_sql.proofs.Resolve.{drafted, understood_is, selects_in, queries_in, bounds_in, result_in}
use Rattle.store_sql.proofs.Resolve.{matching_in, starred_in, named_in, body_in, bound_to, outputs_of, level_of}

-- ---- the text of all columns

-- the text reads the table t, with such a WHERE and ORDER BY; Of is the rest of its form
pub record IsReading (Of : Written → From → Item → Type 0) (text : List ℕ) (t : Table) (test : Test)
    (by : List (Term × Key)) : Type 0 where
  pub parse : Parsed
  pub asks : Written
  pub src : From
  pub item : Item
  pub parsed : first text ≡ Ok parse
  pub statement : parse.statement ≡ written.Select asks
  pub formats : parse.formats ≡ []
  pub one : Of asks src item
  pub condition : IsWhere t test (out-Core (out-Select asks).first).filter
  pub enough : fits_in test ≡ true
  pub few : (at : ℕ) → nat_lt 2000 (length (outputs_of t at)) ≡ false
  pub some : (at : ℕ) → nat_lt 0 (length (outputs_of t at)) ≡ true
  pub sorted : (schema : Schema) (at : ℕ) → (s4 : State)
      × (sorts lower (inside schema (level_of t at (outputs_of t at)) false) (outputs_of t at)
      (out-Select asks).order (with_budget (left_of test max_budget)) ≡ Ok (by, s4)) × (s4.steps ≡ [])

-- the text is `SELECT * FROM t`, with such a WHERE and ORDER BY
abbrev pub IsSelect : List ℕ → Table → Test → List (Term × Key) → Type 0
IsSelect text t test by = IsReading (λ asks src item. ReadsOne asks src item t.name) text t test by

-- the same with a LIMIT: `cut` is the limit and the offset
abbrev pub IsPaged : List ℕ → Table → Test → List (Term × Key) → Term × Term → Type 0
IsPaged text t test by cut = IsReading (λ asks src item. ReadsFrom asks src item t.name
    × ((schema : Schema) → paging schema asks ≡ Ok cut)) text t test by

abbrev pub body_over : Table → ℕ → List Output → Test → Body
body_over t at shown test = record {
  level = level_of t at shown;
  steps = Inner t.tree ∷ [];
  filter = terms_of_test t test;
}

abbrev pub body_of : Table → ℕ → Test → Body
body_of t at test = body_over t at (outputs_of t at) test

abbrev columns_from : Table → ℕ → List Column → List Term
columns_from t k [] = []
columns_from t k (c ∷ cs) = col 1 (place_of t k) ∷ columns_from t (k + 1) cs

abbrev pub shown_terms : Table → List Term
shown_terms t = columns_from t 0 t.columns

abbrev pub paged_query : ℕ → List Term → List Term → List (Term × Key) → Term × Term → Query
paged_query tree filter project order cut = record {
  from = inner tree end;
  filter = filter;
  group = None;
  project = project;
  distinct = false;
  collations = [];
  order = order;
  limit = cut.0;
  offset = cut.1;
}

abbrev pub query_of : ℕ → List Term → List Term → List (Term × Key) → Query
query_of tree filter project order = paged_query tree filter project order all_rows

-- the query that a text over a table stands for, showing these terms
abbrev pub program_of : Table → Test → List Term → List (Term × Key) → Term × Term → Program
program_of t test project by cut = record { lets = []; body = paged_query t.tree (terms_of_test t test) project by cut }

-- the compiler takes the draft as it stands
abbrev pub IsPlannedSelect : Table → Test → List (Term × Key) → Type 0
IsPlannedSelect t test by = (schema : Schema) (at : ℕ) → HasTable schema at t
    → program schema [] (drafted (body_of t at test) by) ≡ Ok (program_of t test (shown_terms t) by all_rows)

abbrev pub IsPlannedPage : Table → Test → List (Term × Key) → Term × Term → Type 0
IsPlannedPage t test by cut =
    (schema : Schema) (at : ℕ) → HasTable schema at t → program schema []
    (drafted_as cut (body_of t at test) by) ≡ Ok (program_of t test (shown_terms t) by cut)

-- ---- the text of named columns

-- the text is `SELECT c1, c2 FROM t`, by the numbers of the columns, with such a WHERE and ORDER BY; `cut` is the
-- limit and the offset
pub record IsNamed (text : List ℕ) (t : Table) (shown : List ℕ) (test : Test) (by : List (Term × Key))
    (cut : Term × Term) : Type 0 where
  pub parse : Parsed
  pub asks : Written
  pub src : From
  pub items : List Item
  pub parsed : first text ≡ Ok parse
  pub statement : parse.statement ≡ written.Select asks
  pub formats : parse.formats ≡ []
  pub one : ReadsTable asks src items t.name
  pub paged : (schema : Schema) → paging schema asks ≡ Ok cut
  pub columns : AreColumns t items shown
  pub condition : IsWhere t test (out-Core (out-Select asks).first).filter
  pub orders : AreOrders t (out-Select asks).order by
  pub enough : are_covered shown max_budget && (fits_from test (left_by shown max_budget) && are_covered by
      (left_of test (left_by shown max_budget))) ≡ true

-- the compiler takes the draft as it stands
abbrev pub IsPlannedNamed : Table → List ℕ → Test → List (Term × Key) → Term × Term → Type 0
IsPlannedNamed t shown test by cut =
    (schema : Schema) (at : ℕ) → HasTable schema at t → program schema []
    (draft_over cut t.tree (terms_of_test t test) (named_terms t shown) by)
    ≡ Ok (program_of t test (named_terms t shown) by cut)

-- ---- the query

-- the text is a query over the table t, wherever a schema has it: the rows that pass the test, each as these terms,
-- in this order
pub record IsAsked (text : List ℕ) (t : Table) (test : Test) (project : List Term) (by : List (Term × Key))
    (cut : Term × Term) : Type 0 where
  pub parse : Parsed
  pub asks : Written
  pub parsed : first text ≡ Ok parse
  pub statement : parse.statement ≡ written.Select asks
  pub means : (schema : Schema) (at : ℕ) → HasTable schema at t → (names : List Name)
      × (compiled schema text ≡ Ok (with_command parse (
        [],
        (
          Select (program_of t test project by cut) names,
          None,
        ),
      )))

-- from what the parts of the text come to
module _ (schema : Schema) (at : ℕ) (t : Table) (h : HasTable schema at t) (asks : Written) (src : From)
    (items : List Item) (one : ReadsTable asks src items t.name) (test : Test) (by : List (Term × Key))
    (cut : Term × Term) where
  module _ (shown : List Output) (s1 s2 s3 : State) (resulted :
      outputs lower (within (outermost schema) (level_of t at []) true) (bound_to t at ∷ []) items
      (fresh 2 max_budget) ≡ Ok (shown, s1))
      (matched : tests lower (within (outermost schema) (level_of t at shown) false) []
      (out-Core (out-Select asks).first).filter s1 ≡ Ok (terms_of_test t test, s2)) where
    body_is : body lower (outermost schema) (out-Select asks).first (fresh 1 max_budget)
        ≡ Ok (body_over t at shown test, s2)
    body_is =
        body_in schema (out-Select asks).first _ _ _ _ _ _ _ (bounds_in schema asks src items t one at h)
        (result_in schema asks src items t one at h lower shown (fresh 2 max_budget) s1 resulted)
        (matching_in schema asks src items t one at h shown (terms_of_test t test) s1 s2 lower matched)

    compiled_as : (text : List ℕ) (parse : Parsed) → first text ≡ Ok parse
        → parse.statement ≡ written.Select asks → parse.formats ≡ [] → paging schema asks ≡ Ok cut
        → s2.aggregates ≡ []
        → sorts lower (inside schema (level_of t at shown) false) shown (out-Select asks).order
        (record s2 { aggregates = [] }) ≡ Ok (by, s3) → s3.steps ≡ []
        → (project : List Term) → program schema [] (drafted_as cut (body_over t at shown test) by)
        ≡ Ok (program_of t test project by cut)
        → compiled schema text ≡ Ok (with_command parse (
          [],
          (Select (program_of t test project by cut) (map (λ o. o.name) shown), None),
        ))
    compiled_as text parse parsed statement formats paged none sorted clean project plan =
        selects_in schema text parse asks (drafted_as cut (body_over t at shown test) by) _ _ _ parsed statement formats
        (queries_in schema asks src items t one cut _ paged (named_in schema asks src items t one cut
        (body_over t at shown test) s2 s3 by body_is none sorted clean)) plan

-- all columns
module _ (Of : Written → From → Item → Type 0) {text : List ℕ} {t : Table} {test : Test}
    {by : List (Term × Key)} {cut : Term × Term} (it : IsReading Of text t test by)
    (one : ReadsFrom it.asks it.src it.item t.name)
    (paged : (schema : Schema) → paging schema it.asks ≡ Ok cut) (plan : IsPlannedPage t test by cut) where
  starred : (schema : Schema) (at : ℕ) → HasTable schema at t
      → stars schema None [] (bound_to t at ∷ []) ≡ Ok (outputs_of t at)
  unfolding stars columns_of is_among
  starred schema at h = rw (h.there, it.few at, it.some at) refl

  page_asked : IsAsked text t test (shown_terms t) by cut
  page_asked = record {
    parse = it.parse;
    asks = it.asks;
    parsed = it.parsed;
    statement = it.statement;
    means = λ schema at h.
        let by_order = it.sorted schema at in (
          _,
          compiled_as schema at t h it.asks it.src (it.item ∷ []) one.table test by cut (outputs_of t at)
              (fresh 2 max_budget) (with_budget (left_of test max_budget)) by_order.0
              (starred_in schema it.item _ _ lower _ (fresh 2 max_budget) refl one.all (starred schema at h))
              (where_in schema at t h (outputs_of t at) false true test (out-Core (out-Select it.asks).first).filter
              it.condition it.enough)
              text it.parse it.parsed it.statement it.formats (paged schema) refl by_order.1 by_order.2
              (shown_terms t) (plan schema at h),
        );
  }

pub asked_all : {text : List ℕ} {t : Table} {test : Test} {by : List (Term × Key)} → IsSelect text t test by
    → IsPlannedSelect t test by → IsAsked text t test (shown_terms t) by all_rows
asked_all {text} {t} {test} {by} it plan = page_asked (λ asks src item. ReadsOne asks src item t.name) it
    it.one.source (λ schema. all_paged schema it.asks it.src it.item t.name it.one) plan

pub asked_page : {text : List ℕ} {t : Table} {test : Test} {by : List (Term × Key)} {cut : Term × Term}
    → IsPaged text t test by cut → IsPlannedPage t test by cut → IsAsked text t test (shown_terms t) by cut
asked_page {text} {t} {test} {by} {cut} it plan = page_asked
    (λ asks src item. ReadsFrom asks src item t.name × ((schema : Schema) → paging schema asks ≡ Ok cut)) it
    it.one.0 it.one.1 plan

-- named columns
pub asked_named : {text : List ℕ} {t : Table} {shown : List ℕ} {test : Test} {by : List (Term × Key)}
    {cut : Term × Term} → IsNamed text t shown test by cut → IsPlannedNamed t shown test by cut
    → IsAsked text t test (named_terms t shown) by cut
asked_named {text} {t} {shown} {test} {by} {cut} it plan =
    let outs = outputs_named t it.items shown it.columns in
    let b1 = left_by shown max_budget in
    let b2 = left_of test b1 in
    let two = and_parts (are_covered shown max_budget) _ it.enough in
    let three = and_parts (fits_from test b1) _ two.1 in record {
      parse = it.parse;
      asks = it.asks;
      parsed = it.parsed;
      statement = it.statement;
      means = λ schema at h.
          let read = columns_in schema at t h [] true true it.items shown it.columns max_budget nothing two.0 in
          let kept = where_after schema at t h outs false true test (out-Core (out-Select it.asks).first).filter b1
          read.0 it.condition three.0 in
          let ranked = orders_in schema at t h outs false true (none_aliased t it.items shown it.columns)
          (out-Select it.asks).order by it.orders b2 kept.0 three.1 in (
            _,
            compiled_as schema at t h it.asks it.src it.items it.one test by cut outs (spent b1 read.0)
                (spent b2 kept.0) (spent (left_by by b2) ranked.0) read.1 kept.1
                text it.parse it.parsed it.statement it.formats (it.paged schema) refl ranked.1 refl
                (named_terms t shown)
                (subst (λ project. program schema [] (draft_over cut t.tree (terms_of_test t test) project by)
                ≡ Ok (program_of t test (named_terms t shown) by cut))
                (sym (terms_named t it.items shown it.columns)) (plan schema at h)),
          );
    }

-- ---- the rows

flat_kept : {A B : Type 0} (p : A → Bool) (f : A → B) (xs : List A)
    → flat_map (λ x. if p x then f x ∷ [] else []) xs ≡ map f (filter p xs)
flat_kept p f [] = refl
flat_kept p f (x ∷ xs) = rw (flat_kept p f xs) (one (p x))
  where
    one : (b : Bool) → (if b then f x ∷ [] else []) ++ map f (filter p xs)
        ≡ map f (if b then x ∷ filter p xs else filter p xs)
    one true = refl
    one false = refl

overlay_none : (schema : Schema) (at : ℕ) (t : Table) → HasTable schema at t → (db : Trees)
    → overlay db [] t.tree ≡ db t.tree
overlay_none schema at t h db = rw h.stored refl

-- what a query over one table answers: a page of a listing
pub page_of : (schema : Schema) (at : ℕ) (t : Table) (h : HasTable schema at t) (test : Test) (project : List Term)
    (by : List (Term × Key)) (cut : Term × Term) (db : Trees) (params : Row) (rows : List Row)
    → are_given test params ≡ true
    → IsAnswer (paged_query t.tree (terms_of_test t test) project by cut) (overlay db []) params rows
    → (all : List Row) × IsListing (λ r. eval_all (map (λ k. k.0) by) (params ∷ r ∷ []))
    (λ r. eval_all project (params ∷ r ∷ [])) (map (λ k. k.1) by)
    (filter (λ r. passes t test params r) (db t.tree)) all
    × (rows ≡ page (paged_query t.tree (terms_of_test t test) project by cut) params all)
page_of schema at t h test project by cut db params rows given a =
    let q = paged_query t.tree (terms_of_test t test) project by cut in
    let env = λ (r : Row). params ∷ r ∷ [] in
    let matched = flat_kept (λ (r : Row). list_all (holds (params ∷ r ∷ [])) (terms_of_test t test)) env
    (overlay db [] t.tree) in
    let kept_rows = ap (filter (λ (r : Row). list_all (holds (params ∷ r ∷ [])) (terms_of_test t test)))
    (overlay_none schema at t h db) ∙ filter_agree _ (λ (r : Row). passes t test params r)
    (λ r. keeps_is t test params r given) (db t.tree) in
    let staged : a.staged ≡ map env (filter (λ (r : Row). passes t test params r) (db t.tree)) =
    a.grouped ∙ matched ∙ ap (map env) kept_rows in
    let kept = a.distinct ∙ ap (map (output q)) staged ∙ map-map (output q) env
    (filter (λ (r : Row). passes t test params r) (db t.tree)) in (
      map (λ o. o.1) a.ordered,
      record {
        ordered = a.ordered;
        same = subst (λ k. IsPermutation k a.ordered) kept a.same;
        sorted = a.sorted;
        shows = refl;
      },
      a.shown,
    )

-- with no LIMIT, the listing
pub answer_of : (schema : Schema) (at : ℕ) (t : Table) (h : HasTable schema at t) (test : Test)
    (project : List Term) (by : List (Term × Key)) (db : Trees) (params : Row) (rows : List Row)
    → are_given test params ≡ true
    → IsAnswer (query_of t.tree (terms_of_test t test) project by) (overlay db []) params rows
    → IsListing (λ r. eval_all (map (λ k. k.0) by) (params ∷ r ∷ []))
    (λ r. eval_all project (params ∷ r ∷ [])) (map (λ k. k.1) by)
    (filter (λ r. passes t test params r) (db t.tree)) rows
answer_of schema at t h test project by db params rows given a =
    let it = page_of schema at t h test project by all_rows db params rows given a in
    subst (IsListing (λ r. eval_all (map (λ k. k.0) by) (params ∷ r ∷ []))
    (λ r. eval_all project (params ∷ r ∷ [])) (map (λ k. k.1) by)
    (filter (λ r. passes t test params r) (db t.tree))) (sym it.2) it.1

-- how a query over a table shows and sorts the rows that it keeps
abbrev pub listing_showing : List Term → Table → Test → List (Term × Key) → Row → Listing
listing_showing project t test by params = record {
  keeps = λ r. passes t test params r;
  key = λ r. eval_all (map (λ k. k.0) by) (params ∷ r ∷ []);
  shown = λ r. eval_all project (params ∷ r ∷ []);
  by = map (λ k. k.1) by;
}

abbrev pub listing_of : Table → Test → List (Term × Key) → Row → Listing
listing_of t test by params = listing_showing (shown_terms t) t test by params

-- a call that shows rows of a text shows what its query answers
module _ {text : List ℕ} {t : Table} {test : Test} {project : List Term} {by : List (Term × Key)}
    {cut : Term × Term} (it : IsAsked text t test project by cut) (params : Row) (old new : Conn) (at : ℕ)
    (has : HasTable old.now.schema at t) (rows : List Row)
    (h : Shown text params old new rows) where
  abbrev known : Compiled
  known = with_command it.parse (
    [],
    (
      Select (program_of t test project by cut) (it.means old.now.schema at has).0,
      None,
    ),
  )

  read_is : (understood old.now.schema text ≡ Ok known) × (reads_listing old.now.schema text ≡ false)
  read_is = understood_is old.now.schema text _ (it.means old.now.schema at has).1

  pub unchanged : IsUnchanged old new
  unfolding Shown
  unchanged =
      let bare = subst IsPlain (sym read_is.0 ∙ h.1.is) (refl, refl) in
      (subst (λ r. ShowsRows old new text h.0 (timed params h.0.formats h.1.now) rows r) bare.0 h.2).3

  pub answer_is : IsAnswer (paged_query t.tree (terms_of_test t test) project by cut) (overlay old.now.trees [])
      params rows
  answer_is = (reads_as text params old new old.now.schema refl (Select (program_of t test project by cut) _)
      (ap command_of read_is.0) (subst IsPlain (sym read_is.0) (refl, refl)) read_is.1 rows h).answer Null

-- every row that passes
module _ {text : List ℕ} (table : ℕ → Table) {test : Test} {project : Spelling → List Term}
    {by : List (Term × Key)} (it : (spelling : Spelling) → IsAsked text (spelled table spelling) test
    (project spelling) by all_rows)
    (params : Row) (given : are_given test params ≡ true) (l : Listing)
    (is : (spelling : Spelling) → listing_showing (project spelling) (spelled table spelling) test by params
    ≡ l) (old new : Conn) where
  pub all_listed : (rows : List Row) → Shown text params old new rows → Lists table l old new rows
  all_listed rows h at spelling has =
      let t = spelled table spelling in
      let all = answer_of old.now.schema at t has test (project spelling) by old.now.trees params rows given
      (answer_is (it spelling) params old new at has rows h) in (
        subst (λ (m : Listing). IsListing m.key m.shown m.by (filter m.keeps (old.now.trees t.tree)) rows)
            (is spelling) all,
        unchanged (it spelling) params old new at has rows h,
      )

pub listed : (text : List ℕ) (table : ℕ → Table) (test : Test) (by : List (Term × Key))
    (it : (spelling : Spelling) → IsSelect text (spelled table spelling) test by)
    (plan : (spelling : Spelling) → IsPlannedSelect (spelled table spelling) test by)
    (params : Row) (given : are_given test params ≡ true) (l : Listing)
    (is : (spelling : Spelling) → listing_of (spelled table spelling) test by params ≡ l) (old new : Conn)
    → (rows : List Row) → Shown text params old new rows → Lists table l old new rows
listed text table test by it plan params given l is old new =
    all_listed table (λ spelling. asked_all (it spelling) (plan spelling)) params given l is old new
