-- A receipt that is entered under a free number, row by row.
use Rattle.std.proofs.Common.{◌≡◌, ℕ, zero, suc, ℤ, ◌<◌, ◌≤◌, ◌+◌, pos, take, get_or, length}
use Rattle.std.proofs.Common.{List, [], ◌∷◌, ◌++◌}
use Rattle.std.proofs.Common.{map, false, Result, Ok, refl, sym, ap, subst, ◌∙◌, arith}
use Rattle.std.specs.Prelude.{bytes_eq, flat_map}
use Rattle.std.specs.Option.{option_map_or}
use Rattle.hex.specs.Hex.{encode_lower}
use Rattle.std.specs.List.{AllByRecursion, IsDistinct, list_any}
use Rattle.std.proofs.lemmas.Bool.{true≢false, false_from_ne_true}
use Rattle.std.proofs.lemmas.List.{take_more, take_all}
use Rattle.std.proofs.lemmas.Slice.Eq.{bytes_eq-Decides}
use Rattle.sqlite.specs.Effect.{Database}
use Rattle.sqlite.specs.State.{State, Survives}
use Rattle.store_sql.specs.Transactions.{Steps}
use Rattle.store_sql.specs.Writing.{EachChained}
use Rattle.store_sql.proofs.Transactions.{steps_then, steps_weaker}
use Rattle.sheet_types.specs.Ordered.{arranged, put, has}
use Rattle.sheet_types.specs.World.{Package, kind_number, receipt_key, with_receipt}
use Rattle.sheet_types.specs.Reading.{optional_uuid_text}
use Rattle.sheet_types.specs.Texts.{uuid_text}
use Rattle.sheet_types.specs.declared.frame.Frame.{Frame}
use Rattle.sheet_types.specs.declared.receipt.Moved.{Moved}
use Rattle.sheet_types.specs.declared.receipt.Receipt.{Receipt}
use Rattle.sheet_types.proofs.Every.{All-weaker, All-both, All-map, All-of_map, All-flat_map, none_pass, none_any}
use Rattle.sheet_types.proofs.Order.{list_any-arranged}
use Rattle.sheet_types.proofs.Arranging.{arranged-insert}
use Rattle.sheet_types.proofs.Basics.{bytes_eq_swap}
use Rattle.package_tables.specs.Shapes.{receipt_shape, moved_shape}
use Rattle.package_tables.specs.Package.{Tables, tables_of, AreFormed}
use Rattle.package_tables.specs.Calls.{Makes, OnTables}
use Rattle.package_tables.proofs.Stepping.{makes_steps}
use Rattle.package_tables.specs.Listed.{receipts, moved}
use Rattle.package_tables.specs.Changes.{Adds}
use Rattle.package_tables.specs.declared.rows.MovedRow.{MovedRow}
use Rattle.package_tables.specs.declared.rows.ReceiptRow.{ReceiptRow}
use Rattle.identity_register.specs.Reads.{Says, Reads, IsFitReceipt, receipt_row, moved_row, moved_rows}
use Rattle.identity_register.specs.LocalNumbers.{KeepRows, KeepsNumbers}
use Rattle.identity_register.proofs.KeptNumbers.{entries_beside}
use Rattle.custody.specs.Receipts.{EntersReceipt}
use Rattle.custody.specs.Entries.{Enters, rows_from}
use Rattle.custody.proofs.KeptRows.{entries_aside}

-- ---- keys

-- keys that are one are equal
pub differ : (a b : List ℕ) → (a ≡ b → ⊥) → bytes_eq a b ≡ false
differ a b unequal = false_from_ne_true (bytes_eq a b) (λ e. unequal ((bytes_eq-Decides a b).0 e))

pub apart : {a b : List ℕ} → bytes_eq a b ≡ false → a ≡ b → ⊥
apart {a} {b} h e = true≢false (sym ((bytes_eq-Decides a b).1 e) ∙ h)

-- a later position is another
later : (seq k n : ℕ) → k < n → bytes_eq (seq ∷ k ∷ []) (seq ∷ n ∷ []) ≡ false
later seq k n less = differ (seq ∷ k ∷ []) (seq ∷ n ∷ []) (λ e. let same : k ≡ n =
    cc in omega (arith, same, less))

-- another number is another key
elsewhere : (s seq k n : ℕ) → bytes_eq (s ∷ []) (seq ∷ []) ≡ false
    → bytes_eq (s ∷ k ∷ []) (seq ∷ n ∷ []) ≡ false
elsewhere s seq k n h = differ (s ∷ k ∷ []) (seq ∷ n ∷ []) (λ e. let same : s ≡ seq =
    cc in apart h (ap (λ x. x ∷ []) same))

abbrev key : MovedRow → List ℕ
key = moved_shape.key

after : (seq k n : ℕ) (things : List Moved) → k < n → AllByRecursion
    (λ y. bytes_eq (seq ∷ k ∷ []) y ≡ false)
    (map key (rows_from seq n things))
after seq k n [] less = tt
after seq k n (m ∷ ms) less = (later seq k n less, after seq k (n + 1) ms (omega arith))

positions : (seq n : ℕ) (things : List Moved) → IsDistinct bytes_eq (map key (rows_from seq n things))
unfolding IsDistinct
positions seq n [] = tt
positions seq n (m ∷ ms) = (after seq n (n + 1) ms (omega arith), positions seq (n + 1) ms)

others : (s seq k n : ℕ) (things : List Moved) → bytes_eq (s ∷ []) (seq ∷ []) ≡ false
    → AllByRecursion (λ y. bytes_eq (key y) (seq ∷ k ∷ []) ≡ false) (rows_from s n things)
others s seq k n [] h = tt
others s seq k n (m ∷ ms) h = (elsewhere s seq n k h, others s seq k (n + 1) ms h)

-- no row of the receipts of other numbers has the key
free : (seq k : ℕ) (entered : List Receipt) → AllByRecursion (λ e. bytes_eq (receipt_key e) (seq ∷ []) ≡ false)
    entered → AllByRecursion (λ y. bytes_eq (key y) (seq ∷ k ∷ []) ≡ false) (flat_map moved_rows entered)
free seq k entered h = All-flat_map (λ y. bytes_eq (key y) (seq ∷ k ∷ []) ≡ false) moved_rows entered
    (All-weaker _ _ (λ e d. others e.seq seq k 0 e.items d) entered h)

-- a row whose key is none of these
abbrev IsFree : List MovedRow → MovedRow → Type 0
IsFree base x = AllByRecursion (λ y. bytes_eq (key y) (key x) ≡ false) base

all_free : (seq n : ℕ) (things : List Moved) (base : List MovedRow)
    → ((k : ℕ) → AllByRecursion (λ y. bytes_eq (key y) (seq ∷ k ∷ []) ≡ false) base)
    → AllByRecursion (IsFree base) (rows_from seq n things)
all_free seq n [] base h = tt
all_free seq n (m ∷ ms) base h = (h n, all_free seq (n + 1) ms base h)

-- ---- rows that come in one after the other

has_none : (base : List MovedRow) (x : MovedRow) → IsFree base x → has key (key x) (arranged key base) ≡ false
has_none base x h = list_any-arranged key (λ y. bytes_eq (key y) (key x)) base
    ∙ none_any (λ y. bytes_eq (key y) (key x)) base h

-- what the tables are once the rows came in
record Came (rows base : List MovedRow) (old new : Database) : Type 0 where
  formed : AreFormed new
  are : tables_of new ≡ record (tables_of old) { moved = arranged key (rows ++ base) }

come : (rows base : List MovedRow) (old new : Database) → AreFormed old
    → (tables_of old).moved ≡ arranged key base
    → AllByRecursion (IsFree base) rows → IsDistinct bytes_eq (map key rows) → EachChained Enters rows old new
    → Came rows base old new
unfolding IsDistinct
come [] base old new formed is free distinct chain =
    record {
      formed = subst AreFormed (sym chain) formed;
      are = ap tables_of chain ∙ ap (λ m. record (tables_of old) { moved = m }) is;
    }
come (x ∷ xs) base old new formed is free distinct chain =
    let mid = chain.0 in
    let one = chain.1 formed in
    let put_in : tables_of mid ≡ record (tables_of old) { moved = put key x (tables_of old).moved } =
    one.1 (ap (has key (key x)) is ∙ has_none base x free.0) in
    let there : (tables_of mid).moved ≡ arranged key (x ∷ base) =
    ap (λ (t : Tables). t.moved) put_in ∙ ap (put key x) is in
    let apart_keys : AllByRecursion (λ y. bytes_eq (key x) (key y) ≡ false) xs =
    All-of_map (λ y. bytes_eq (key x) y ≡ false) key xs distinct.0 in
    let rest = come xs (x ∷ base) mid new one.0 there (All-both _ _ _ (λ z d h. (d, h)) xs apart_keys free.1)
    distinct.1 chain.2 in
    record {
      formed = rest.formed;
      are = rest.are ∙ ap (λ (t : Tables). record t { moved = arranged key (xs ++ x ∷ base) }) put_in
          ∙ ap (λ m. record (tables_of old) { moved = m }) (arranged-insert key xs base x
          (All-weaker _ _ (λ y d. bytes_eq_swap (key y) (key x) ∙ d) xs apart_keys));
    }

-- ---- the receipt

-- the tables with the rows of a receipt more
abbrev with_entry : Receipt → List MovedRow → Tables → Tables
with_entry r base t = record t {
  receipts = put receipt_shape.key (receipt_row r) t.receipts;
  moved = arranged key (moved_rows r ++ base);
}

module _ (f : Frame) (p : Package) (t : Tables) (says : Says f p t) (r : Receipt)
    (number : has receipt_key (receipt_key r) p.receipts ≡ false) (fit : IsFitReceipt r) where
  numbers_apart : AllByRecursion (λ e. bytes_eq (receipt_key e) (receipt_key r) ≡ false) says.entered
  numbers_apart =
      none_pass (λ e. bytes_eq (receipt_key e) (receipt_key r)) says.entered
      (sym (list_any-arranged receipt_key (λ e. bytes_eq (receipt_key e) (receipt_key r)) says.entered)
      ∙ ap (list_any (λ e. bytes_eq (receipt_key e) (receipt_key r))) (sym says.kept) ∙ number)

  number_free : has receipt_shape.key (receipt_shape.key (receipt_row r)) t.receipts ≡ false
  number_free =
      ap (has receipt_shape.key (receipt_key r)) says.receipts
      ∙ list_any-arranged receipt_shape.key (λ y. bytes_eq (receipt_shape.key y) (receipt_key r))
      (map receipt_row says.entered)
      ∙ none_any (λ y. bytes_eq (receipt_shape.key y) (receipt_key r)) (map receipt_row says.entered)
      (All-map (λ y. bytes_eq (receipt_shape.key y) (receipt_key r) ≡ false) receipt_row says.entered
      numbers_apart)

  rows_free : AllByRecursion (IsFree (flat_map moved_rows says.entered)) (moved_rows r)
  rows_free = all_free r.seq 0 r.items (flat_map moved_rows says.entered)
      (λ k. free r.seq k says.entered numbers_apart)

  enters : Says f (with_receipt r p) (with_entry r (flat_map moved_rows says.entered) t)
  unfolding IsDistinct
  enters = record {
    good = says.good;
    fixed = says.fixed;
    dated = says.dated;
    created = says.created;
    moment = says.moment;
    fit_head = says.fit_head;
    head = says.head;
    numbered = says.numbered;
    of_items = says.of_items;
    linked = says.linked;
    ends = says.ends;
    of_links = says.of_links;
    entered = r ∷ says.entered;
    of_receipts = record {
      distinct_receipts = (
        All-map (λ y. bytes_eq (receipt_key r) y ≡ false) receipt_key says.entered
            (All-weaker _ _ (λ e d. bytes_eq_swap (receipt_key r) (receipt_key e) ∙ d) says.entered numbers_apart),
        says.distinct_receipts,
      );
      fit = (fit, says.fit);
      kept = ap (put receipt_key r) says.kept;
      receipts = ap (put receipt_shape.key (receipt_row r)) says.receipts;
      moved = refl;
    };
  }

-- Of the receipts that are there, only the number must be free.
pub comes_in : (r : Receipt) (old mid new : Database) → OnTables (Adds receipts (receipt_row r)) old mid
    → EachChained Enters (moved_rows r) mid new → (f : Frame) (p : Package) → Reads f p old
    → has receipt_key (receipt_key r) p.receipts ≡ false → IsFitReceipt r
    → Reads f (with_receipt r p) new × KeepsNumbers old new × KeepsNumbers new old
comes_in r old mid new head items f p reads number fit =
    let says = reads.says in
    let one = head reads.formed in
    let put_in = one.1 (number_free f p (tables_of old) says r number fit) in
    let base = flat_map moved_rows says.entered in
    let there : (tables_of mid).moved ≡ arranged key base = ap (λ (t : Tables). t.moved) put_in ∙ says.moved in
    let all = come (moved_rows r) base mid new one.0 there (rows_free f p (tables_of old) says r number fit)
    (positions r.seq 0 r.items) items in
    let are : with_entry r base (tables_of old) ≡ tables_of new =
    sym (all.are ∙ ap (λ (t : Tables). record t { moved = arranged key (moved_rows r ++ base) }) put_in) in (
      record {
        formed = all.formed;
        says = subst (Says f (with_receipt r p)) are
            (enters f p (tables_of old) says r number fit);
      },
      subst (KeepRows (tables_of old)) are
          (entries_beside (put receipt_shape.key (receipt_row r) (tables_of old).receipts)
          (arranged key (moved_rows r ++ base)) (tables_of old)),
      subst (λ (t : Tables). KeepRows t (tables_of old)) are
          (entries_aside (put receipt_shape.key (receipt_row r) (tables_of old).receipts)
          (arranged key (moved_rows r ++ base)) (tables_of old)),
    )

receipt_entered : (r : Receipt) (old mid new : Database) → OnTables (Adds receipts (receipt_row r)) old mid
    → EachChained Enters (moved_rows r) mid new → EntersReceipt r old new
receipt_entered r old mid new head items f p reads fits = comes_in r old mid new head items f p reads fits.number
    fits.fit

-- the row of the receipt comes in, and then those of the things that it moved
pub receipt_steps : {E F : Type 0} (r : Receipt) {old mid new : State} {x : Unit {0}} {q : Result (Unit {0}) F}
    → Steps {E = E} (λ _. OnTables (Adds receipts (receipt_row r))) old mid (Ok x)
    → Steps (λ _. EachChained Enters (moved_rows r)) mid new q
    → Steps (λ _. EntersReceipt r) old new q
receipt_steps r {old} {mid} {new} first next =
    steps_weaker (λ _. EntersReceipt r)
    (λ _ chain. receipt_entered r old.now chain.0 new.now chain.1 chain.2) (steps_then first next)

-- ---- one row

-- a row that was put in is that of the thing
pub moved_steps : {E : Type 0} (seq position : ℕ) (m : Moved) {s at kind size : ℤ} {base other digest : List ℕ}
    {old new : State} {q : Result (Unit {0}) E}
    → Makes (Adds moved (record {
      seq = s;
      position = at;
      kind = kind;
      base = base;
      other = other;
      size = size;
      fingerprint = digest;
    })) old new q → Survives old new (λ _. ⊥)
    → s ≡ pos seq → at ≡ pos position → kind ≡ pos (kind_number m.kind) → base ≡ uuid_text m.base
    → other ≡ optional_uuid_text m.other → size ≡ pos m.size
    → digest ≡ option_map_or encode_lower m.fingerprint []
    → Steps (λ _. Enters (moved_row seq position m)) old new q
moved_steps {E} seq position m {s} {at} {kind} {size} {base} {other} {digest} {old} {new} {q} makes survives e₁ e₂
    e₃
    e₄ e₅ e₆ e₇ =
    let row : MovedRow = record {
      seq = s;
      position = at;
      kind = kind;
      base = base;
      other = other;
      size = size;
      fingerprint = digest;
    } in
    let is : row ≡ moved_row seq position m = λ i. record {
      seq = e₁ i;
      position = e₂ i;
      kind = e₃ i;
      base = e₄ i;
      other = e₅ i;
      size = e₆ i;
      fingerprint = e₇ i;
    } in
    subst (λ r. Steps (λ _. Enters r) old new q) is (makes_steps (Adds moved row) makes survives)

pub head_steps : {E : Type 0} (r : Receipt) {s tiles media rows links bytes : ℤ}
    {request at line source target : List ℕ} {old new : State} {q : Result (Unit {0}) E}
    → Makes (Adds receipts (record {
      seq = s;
      request = request;
      at = at;
      line = line;
      source = source;
      target = target;
      n_tiles = tiles;
      n_media = media;
      n_rows = rows;
      n_links = links;
      n_bytes = bytes;
    })) old new q
    → Survives old new (λ _. ⊥)
    → s ≡ pos r.seq → request ≡ uuid_text r.request → at ≡ r.at → line ≡ r.line
    → source ≡ optional_uuid_text r.source
    → target ≡ optional_uuid_text r.target
    → tiles ≡ pos r.tiles → media ≡ pos r.media → rows ≡ pos r.rows → links ≡ pos r.links
    → bytes ≡ pos r.bytes
    → Steps (λ _. OnTables (Adds receipts (receipt_row r))) old new q
head_steps {E} r {s} {tiles} {media} {rows} {links} {bytes} {request} {at} {line} {source} {target} {old} {new} {q}
    makes survives e₁ e₂ e₃ e₄ e₅ e₆ e₇ e₈ e₉ f₁ f₂ =
    let row : ReceiptRow = record {
      seq = s;
      request = request;
      at = at;
      line = line;
      source = source;
      target = target;
      n_tiles = tiles;
      n_media = media;
      n_rows = rows;
      n_links = links;
      n_bytes = bytes;
    } in
    let is : row ≡ receipt_row r = λ i. record {
      seq = e₁ i;
      request = e₂ i;
      at = e₃ i;
      line = e₄ i;
      source = e₅ i;
      target = e₆ i;
      n_tiles = e₇ i;
      n_media = e₈ i;
      n_rows = e₉ i;
      n_links = f₁ i;
      n_bytes = f₂ i;
    } in
    subst (λ x. Steps (λ _. OnTables (Adds receipts x)) old new q) is (makes_steps (Adds receipts row) makes survives)

-- ---- the rows of a receipt, as far as a loop has come

rows_length : (seq n : ℕ) (things : List Moved) → length (rows_from seq n things) ≡ length things
rows_length seq n [] = refl
rows_length seq n (m ∷ ms) = ap (λ k. suc k) (rows_length seq (n + 1) ms)

row_at : (seq n i : ℕ) (things : List Moved) (d : Moved) (r : MovedRow) → i < length things
    → get_or (rows_from seq n things) i r ≡ moved_row seq (n + i) (get_or things i d)
row_at seq n i [] d r less = absurd (omega arith)
row_at seq n zero (m ∷ ms) d r less = let e : n ≡ n + 0 = omega arith in ap (λ k. moved_row seq k m) e
row_at seq n (suc i) (m ∷ ms) d r less = let e : n + 1 + i ≡ n + suc i =
    omega arith in row_at seq (n + 1) i ms d r (omega arith) ∙ ap (λ k. moved_row seq k (get_or ms i d)) e

pub rows_more : (seq i : ℕ) (things : List Moved) (x : Moved) → x ≡ get_or things i x → i < length things
    → take (i + 1) (rows_from seq 0 things) ≡ take i (rows_from seq 0 things) ++ moved_row seq i x ∷ []
rows_more seq i things x is less =
    let on : 0 + i ≡ i = omega arith in
    take_more (rows_from seq 0 things) i (moved_row seq 0 x) (omega (arith, rows_length seq 0 things))
    ∙ ap (λ r. take i (rows_from seq 0 things) ++ r ∷ []) (row_at seq 0 i things x (moved_row seq 0 x) less
    ∙ ap (λ k. moved_row seq k (get_or things i x)) on ∙ ap (moved_row seq i) (sym is))

pub rows_all : (seq i : ℕ) (things : List Moved) → length things ≤ i
    → take i (rows_from seq 0 things) ≡ rows_from seq 0 things
rows_all seq i things long = take_all i (rows_from seq 0 things) (omega (arith, rows_length seq 0 things))
