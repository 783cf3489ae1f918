-- The meaning of a text under a schema of which one table is known.
use Rattle.std.proofs.Common.{◌≡◌, ℕ, pos, negsuc, ◌+◌, List, [], ◌∷◌, ◌++◌, map, true, false}
use Rattle.std.proofs.Common.{Option, None, Ok, refl}
use Rattle.sqlite_ast.specs.declared.Rows.{Rows}
use Rattle.sqlite_ast.specs.declared.Expr.{Expr}
use Rattle.sqlite_ast.specs.declared.Conflict.TheVariants as conflict
use Rattle.sqlite_ast.specs.declared.Statement.TheVariants as written
use Rattle.sqlite_syntax.specs.declared.statement.Parsed.{Parsed}
use Rattle.sqlite.specs.Table.{Table}
use Rattle.sqlite.specs.Schema.{Schema}
use Rattle.sqlite.specs.Source.{Source}
use Rattle.sqlite.specs.Command.TheVariants.{Insert, Delete, Select, Update}
use Rattle.sqlite_ast.specs.declared.Select.{Select as Written, out-Select}
use Rattle.sqlite_ast.specs.declared.Core.{Core, out-Core}
use Rattle.sqlite_ast.specs.declared.Source.{Source as From, out-Source}
use Rattle.sqlite_ast.specs.declared.Origin.TheVariants as origin
use Rattle.sqlite.specs.Collation.{Collation}
use Rattle.sqlite.specs.declared.types.Value.TheVariants.{Int}
use Rattle.sqlite.specs.Term.{Term, lit}
use Rattle.sqlite_resolve.specs.Scope.{Name, Context}
use Rattle.sqlite_resolve.specs.Select.{named, paging, constant_or, outermost, inside, parts, having, assembled}
use Rattle.sqlite_resolve.specs.Select.{ungrouped}
use Rattle.sqlite_resolve.specs.Body.{bounds, bound, table_in, body, result, matching, columns_from, stars, outputs}
use Rattle.sqlite_resolve.specs.Body.{shown, tests, joins, join, shared, inner_join, within}
use Rattle.sqlite_resolve.specs.declared.body.Body.{Body}
use Rattle.sqlite_resolve.specs.declared.scope.Level.{Level}
use Rattle.sqlite_resolve.specs.Order.{sorts, keys}
use Rattle.sqlite_ast.specs.declared.Shown.{Shown as Item, out-Shown}
use Rattle.sqlite_ast.specs.declared.Expr.TheOpen.{Shown-F}
use Rattle.sqlite_value.specs.declared.keys.Key.{Key}
use Rattle.sqlite_draft.specs.Join.{chain}
use Rattle.sqlite_draft.specs.declared.join.Step.TheVariants.{Inner}
use Rattle.sqlite_resolve.specs.declared.body.Joined.{Joined}
use Rattle.sqlite_resolve.specs.declared.scope.Output.{Output}
use Rattle.sqlite_resolve.specs.declared.state.State.{State}
use Rattle.sqlite_resolve.specs.Expr.{lower}
use Rattle.sqlite_resolve.specs.declared.scope.Bound.{Bound}
use Rattle.sqlite_schema.specs.declared.program.Program.{Program}
use Rattle.sqlite_draft.specs.declared.query.Draft.{Draft}
use Rattle.sqlite_resolve.specs.declared.compiled.Compiled.{Compiled}
use Rattle.sqlite_resolve.specs.Lowering.{Lowering, fresh, max_budget, take_slot}
use Rattle.sqlite_resolve.specs.Write.{deleted, updated}
use Rattle.sqlite_resolve.specs.Program.{program, query, query_to, level, with, whole, alone, single, sources, source}
use Rattle.sqlite_resolve.specs.Program.{viewing, Shown}
use Rattle.sqlite_resolve.specs.Compile.{first, small, new_rows, compiled, planned, meaning, timed, returning}
use Rattle.sqlite_resolve.specs.Compile.{command, insert_or_abort, insert, shows, delete, update, with_command, read}
use Rattle.sqlite.specs.Listing.{understood, reads_listing}
use Rattle.store_sql.specs.Known.{HasTable}

pub understood_is : (schema : Schema) (text : List ℕ) (c : Compiled) → compiled schema text ≡ Ok c
    → (understood schema text ≡ Ok c) × (reads_listing schema text ≡ false)
unfolding understood
understood_is schema text c h = (rw h refl, rw h refl)

pub inserts_in : (schema : Schema) (text : List ℕ) (p : Parsed) (columns : List (List ℕ)) (rows : Rows) (at : ℕ)
    (t : Table) (s : Source)
    → first text ≡ Ok p → p.statement ≡ written.Insert conflict.Abort t.name columns rows [] []
    → p.formats ≡ []
    → HasTable schema at t → t.stamps.formats ≡ [] → new_rows schema t
    (small p.names + small t.stamps.formats) columns rows ≡ Ok s
    → compiled schema text ≡ Ok (with_command p ([], (Insert at s, None)))
unfolding compiled planned meaning timed returning command insert_or_abort insert shows
inserts_in schema text p columns rows at t s parsed statement formats has stamps source =
    rw (parsed, statement, formats, has.named, has.there, source, stamps) refl

pub deletes_in : (schema : Schema) (text : List ℕ) (p : Parsed) (test : Option Expr) (at : ℕ) (t : Table)
    (d : Draft) (q : Program)
    → first text ≡ Ok p → p.statement ≡ written.Delete t.name test [] → p.formats ≡ []
    → HasTable schema at t → deleted schema at t test ≡ Ok d → program schema [] d ≡ Ok q
    → compiled schema text ≡ Ok (with_command p ([], (Delete at q, None)))
unfolding compiled planned meaning timed returning command delete shows
deletes_in schema text p test at t d q parsed statement formats has draft plan =
    rw (parsed, statement, formats, has.named, has.there, draft, plan) refl

pub updates_in : (schema : Schema) (text : List ℕ) (p : Parsed) (sets : List (Name × Expr)) (test : Option Expr)
    (at : ℕ) (t : Table) (d : Draft) (q : Program)
    → first text ≡ Ok p → p.statement ≡ written.Update t.name sets test [] → p.formats ≡ []
    → HasTable schema at t → updated schema at t sets test ≡ Ok d → program schema [] d ≡ Ok q
    → compiled schema text ≡ Ok (with_command p ([], (Update at q, None)))
unfolding compiled planned meaning timed returning command update shows
updates_in schema text p sets test at t d q parsed statement formats has draft plan =
    rw (parsed, statement, formats, has.named, has.there, draft, plan) refl

pub selects_in : (schema : Schema) (text : List ℕ) (p : Parsed) (s : Written) (d : Draft) (names : List Name)
    (how : List (Option Collation)) (q : Program)
    → first text ≡ Ok p → p.statement ≡ written.Select s → p.formats ≡ []
    → query schema s ≡ Ok ((d, names, how), []) → program schema [] d ≡ Ok q
    → compiled schema text ≡ Ok (with_command p ([], (Select q names, None)))
unfolding compiled planned meaning timed returning command read
selects_in schema text p s d names how q parsed statement formats asked plan =
    rw (parsed, statement, formats, asked, plan) refl

-- what a SELECT over one table is written as, with no WITH, no compound and no grouping, whatever it shows and
-- whatever its LIMIT and OFFSET
pub record ReadsTable (s : Written) (src : From) (items : List Item) (name : Name) : Type 0 where
  pub with : (out-Select s).with ≡ []
  pub others : (out-Select s).others ≡ []
  pub from : (out-Core (out-Select s).first).from ≡ src ∷ []
  pub distinct : (out-Core (out-Select s).first).distinct ≡ false
  pub group : (out-Core (out-Select s).first).group ≡ []
  pub having : (out-Core (out-Select s).first).having ≡ None
  pub shown : (out-Core (out-Select s).first).shown ≡ items
  pub origin : (out-Source src).origin ≡ origin.Table name
  pub alias : (out-Source src).alias ≡ None
  pub using : (out-Source src).using ≡ []
  pub on : (out-Source src).on ≡ None
  pub is_left : (out-Source src).is_left ≡ false

-- it is written so
pub over_table : {s : Written} {src : From} {items : List Item} {name : Name} → (out-Select s).with ≡ []
    → (out-Select s).others ≡ [] → (out-Core (out-Select s).first).from ≡ src ∷ []
    → (out-Core (out-Select s).first).distinct ≡ false → (out-Core (out-Select s).first).group ≡ []
    → (out-Core (out-Select s).first).having ≡ None → (out-Core (out-Select s).first).shown ≡ items
    → (out-Source src).origin ≡ origin.Table name → (out-Source src).alias ≡ None
    → (out-Source src).using ≡ [] → (out-Source src).on ≡ None → (out-Source src).is_left ≡ false
    → ReadsTable s src items name
over_table with' others from distinct group having shown origin alias using on is_left =
    record {
      with = with';
      others = others;
      from = from;
      distinct = distinct;
      group = group;
      having = having;
      shown = shown;
      origin = origin;
      alias = alias;
      using = using;
      on = on;
      is_left = is_left;
    }

-- the same, of all columns
pub record ReadsFrom (s : Written) (src : From) (item : Item) (name : Name) : Type 0 where
  pub table : ReadsTable s src (item ∷ []) name
  pub all : out-Shown item ≡ Shown-F.All

pub one_source : {s : Written} {src : From} {item : Item} {name : Name} → (out-Select s).with ≡ []
    → (out-Select s).others ≡ [] → (out-Core (out-Select s).first).from ≡ src ∷ []
    → (out-Core (out-Select s).first).distinct ≡ false → (out-Core (out-Select s).first).group ≡ []
    → (out-Core (out-Select s).first).having ≡ None → (out-Core (out-Select s).first).shown ≡ item ∷ []
    → out-Shown item ≡ Shown-F.All → (out-Source src).origin ≡ origin.Table name
    → (out-Source src).alias ≡ None → (out-Source src).using ≡ [] → (out-Source src).on ≡ None
    → (out-Source src).is_left ≡ false
    → ReadsFrom s src item name
one_source with' others from distinct group having shown all origin alias using on is_left =
    record {
      table = over_table with' others from distinct group having shown origin alias using on is_left;
      all = all;
    }

-- the same with no LIMIT and no OFFSET
pub record ReadsOne (s : Written) (src : From) (item : Item) (name : Name) : Type 0 where
  pub limit : (out-Select s).limit ≡ None
  pub offset : (out-Select s).offset ≡ None
  pub source : ReadsFrom s src item name

pub one_table : {s : Written} {src : From} {item : Item} {name : Name} → (out-Select s).with ≡ []
    → (out-Select s).others ≡ [] → (out-Select s).limit ≡ None → (out-Select s).offset ≡ None
    → (out-Core (out-Select s).first).from ≡ src ∷ [] → (out-Core (out-Select s).first).distinct ≡ false
    → (out-Core (out-Select s).first).group ≡ [] → (out-Core (out-Select s).first).having ≡ None
    → (out-Core (out-Select s).first).shown ≡ item ∷ [] → out-Shown item ≡ Shown-F.All
    → (out-Source src).origin ≡ origin.Table name → (out-Source src).alias ≡ None
    → (out-Source src).using ≡ [] → (out-Source src).on ≡ None → (out-Source src).is_left ≡ false
    → ReadsOne s src item name
one_table with' others limit offset from distinct group having shown all origin alias using on is_left =
    record {
      limit = limit;
      offset = offset;
      source = one_source with' others from distinct group having shown all
          origin alias using on is_left;
    }

abbrev pub all_rows : Term × Term
all_rows = (lit (Int (negsuc 0)), lit (Int (pos 0)))

pub all_paged : (schema : Schema) (s : Written) (src : From) (item : Item) (name : Name) → ReadsOne s src item name
    → paging schema s ≡ Ok all_rows
unfolding paging constant_or
all_paged schema s src item name it = rw (it.limit, it.offset) refl

abbrev pub bound_to : Table → ℕ → Bound
bound_to t at = record { name = t.name; table = at; slot = 1; shared = [] }

-- the columns of the table, as `*` shows them
abbrev pub outputs_of : Table → ℕ → List Output
outputs_of t at = columns_from None t (bound_to t at) 0 [] t.columns

abbrev pub level_of : Table → ℕ → List Output → Level
level_of t at shown = record { tables = bound_to t at ∷ []; shown = shown }

abbrev pub drafted_as : Term × Term → Body → List (Term × Key) → Draft
drafted_as page b by = record {
  from = chain (b.steps ++ []);
  filter = b.filter;
  group = None;
  project = map (λ o. o.term) b.level.shown;
  distinct = false;
  collations = [];
  order = by;
  limit = page.0;
  offset = page.1;
}

-- the draft of a query over one tree
abbrev pub draft_over : Term × Term → ℕ → List Term → List Term → List (Term × Key) → Draft
draft_over page tree filter project by = record {
  from = chain (Inner tree ∷ []);
  filter = filter;
  group = None;
  project = project;
  distinct = false;
  collations = [];
  order = by;
  limit = page.0;
  offset = page.1;
}

abbrev pub drafted : Body → List (Term × Key) → Draft
drafted = drafted_as all_rows

module _ (schema : Schema) (s : Written) (src : From) (items : List Item) (t : Table)
    (it : ReadsTable s src items t.name) where
  abbrev core : Core
  core = (out-Select s).first

  pub queries_in : (page : Term × Term) (shown : Shown) → paging schema s ≡ Ok page
      → named schema core (out-Select s).order page ≡ Ok shown → query schema s ≡ Ok (shown, [])
  unfolding query query_to level with whole alone single sources source viewing
  queries_in page shown paged asked = rw (it.with, paged, it.others, it.from, it.origin, asked) refl

  pub named_in : (page : Term × Term) (b : Body) (s3 s4 : State) (by : List (Term × Key))
      → body lower (outermost schema) core (fresh 1 max_budget) ≡ Ok (b, s3) → s3.aggregates ≡ []
      → sorts lower (inside schema b.level false) b.level.shown (out-Select s).order (record s3 { aggregates = [] })
      ≡ Ok (by, s4) → s4.steps ≡ []
      → named schema core (out-Select s).order page ≡ Ok (
        drafted_as page b by,
        map (λ o. o.name) b.level.shown,
        map (λ o. o.carried.collation) b.level.shown,
      )
  unfolding named parts keys having tests assembled ungrouped
  named_in page b s3 s4 by made none sorted clean = rw (made, it.group, it.having, none, sorted, it.distinct, clean)
      refl

  module _ (at : ℕ) (has : HasTable schema at t) where
    pub bounds_in : bounds schema (out-Core core).from (fresh 1 max_budget)
        ≡ Ok (bound_to t at ∷ [], fresh 2 max_budget)
    unfolding bounds bound table_in take_slot
    bounds_in = rw (it.from, it.origin, it.alias, it.using, has.named) refl

    pub result_in : (low : Context → Expr → Lowering Term) (columns : List Output) (s0 s1 : State)
        → outputs low (within (outermost schema) (level_of t at []) true) (bound_to t at ∷ []) items s0
        ≡ Ok (columns, s1)
        → result low (outermost schema) (level_of t at []) core s0 ≡ Ok (columns, s1)
    unfolding result
    result_in low columns s0 s1 made = rw (it.shown, made) refl

    pub matching_in : (columns : List Output) (terms : List Term) (s0 s1 : State)
        (low : Context → Expr → Lowering Term) → tests low (within (outermost schema) (level_of t at columns)
        false) [] (out-Core core).filter s0 ≡ Ok (terms, s1)
        → matching low (outermost schema) (level_of t at columns) core s0
        ≡ Ok (record { steps = Inner t.tree ∷ []; filter = terms }, s1)
    unfolding matching joins join shared inner_join tests
    matching_in columns terms s0 s1 low passes = rw (it.from, it.on, it.using, has.there, it.is_left, passes) refl

-- `*`
pub starred_in : (schema : Schema) (item : Item) (tables : List Bound) (columns : List Output)
    (low : Context → Expr → Lowering Term) (cx : Context) (s0 : State) → cx.schema ≡ schema
    → out-Shown item ≡ Shown-F.All → stars schema None [] tables ≡ Ok columns
    → outputs low cx tables (item ∷ []) s0 ≡ Ok (columns, s0)
unfolding outputs shown
starred_in schema item tables columns low cx s0 same all starred = rw (all, same, starred) refl

pub body_in : (schema : Schema) (core : Core) (tables : List Bound) (columns : List Output) (joined : Joined)
    (s0 s1 s2 s3 : State)
    → bounds schema (out-Core core).from s0 ≡ Ok (tables, s1)
    → result lower (outermost schema) (record { tables = tables; shown = [] }) core s1 ≡ Ok (columns, s2)
    → matching lower (outermost schema) (record { tables = tables; shown = columns }) core s2 ≡ Ok (joined, s3)
    → body lower (outermost schema) core s0 ≡ Ok (
      record {
        level = record { tables = tables; shown = columns };
        steps = joined.steps;
        filter = joined.filter;
      },
      s3,
    )
unfolding body
body_in schema core tables columns joined s0 s1 s2 s3 first second third = rw (first, second, third) refl
