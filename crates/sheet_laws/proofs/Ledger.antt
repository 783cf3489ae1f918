-- A ledger of receipts: what each is by those before it, and what one more changes.
use Rattle.std.specs.Prelude.{is_some, ◌≡◌, ℕ, ◌+◌, ◌<◌, Bool, true, false, cond, ◌==◌, ◌&&◌}
use Rattle.std.specs.Prelude.{◌||◌, List, [], ◌∷◌, ◌++◌, filter, length, refl, bytes_eq, Option, Some}
use Rattle.std.specs.Prelude.{None, slice_index, nat_lt, sum_by}
use Rattle.std.proofs.lemmas.List.{append-nil}
use Rattle.std.proofs.Common.{sym, ap, subst, ◌∙◌, arith, append_assoc, length-append, drop, zero-add}
use Rattle.std.proofs.lemmas.Bool.{true≢false, le-ltb, MatchBool-at_true, and_parts, and_from, false_from_ne_true}
use Rattle.std.proofs.lemmas.Slice.Eq.{bytes_eq-Decides}
use Rattle.std.specs.List.{list_any, AllByRecursion}
use Rattle.sheet_types.specs.Ordered.{has, last_of, last_or}
use Rattle.sheet_types.specs.World.{link_moved, item_moved, thing_number, moved_thing, is_item_kind, item_thing}
use Rattle.std.specs.Option.{option_map_or, option_and_then}
use Rattle.sheet_types.specs.Balance.{IsLedger, MayFollow, IsThing, names_identity, IsReceiptOf, Agrees}
use Rattle.sheet_types.specs.Lines.{entry_from, is_adding}
use Rattle.sheet_types.specs.Custody.{names, custody, is_add, after}
use Rattle.sheet_types.specs.Texts.{Entry, Adds, Deletes, Links, Unlinks, Splits, Merges, size}
use Rattle.sheet_types.specs.Step.{relation, added_item}
use Rattle.sheet_types.specs.declared.command.Content.{Content}
use Rattle.sheet_types.specs.declared.command.Content.TheVariants.{Tile, Media, Row}
use Rattle.sheet_types.specs.declared.command.Mapping.{Mapping}
use Rattle.sheet_types.specs.declared.command.Mapping.TheVariants.{TilesMedia, RowsMedia, RowsTiles}
use Rattle.sheet_types.specs.declared.receipt.Moved.{Moved}
use Rattle.sheet_types.specs.declared.receipt.MovedKind.{MovedKind}
use Rattle.sheet_types.specs.declared.receipt.MovedKind.TheVariants.{TileItem, MediaItem, RowItem, TilesMediaLink}
use Rattle.sheet_types.specs.declared.receipt.MovedKind.TheVariants.{RowsMediaLink, RowsTilesLink}
use Rattle.sheet_types.specs.declared.receipt.Receipt.{Receipt}
use Rattle.std.proofs.lemmas.List.Elements.{filter-append}
use Rattle.std.proofs.lemmas.List.Folds.{list_any-append}
use Rattle.std.proofs.lemmas.List.Sums.{sum_by-append}
use Rattle.sheet_types.proofs.Basics.{None≢Some, or-false}
use Rattle.sheet_types.proofs.Every.{All-weaker, All-snoc, none_pass}

-- its numbers count its receipts
pub ledger_numbers : (archive : List ℕ) (past rs : List Receipt) → IsLedger archive past rs
    → AllByRecursion (λ s. s.seq < length past + length rs + 1) rs
ledger_numbers archive past [] h = tt
ledger_numbers archive past (r ∷ rs) h =
    let tail : AllByRecursion (λ s. s.seq < length (past ++ r ∷ []) + length rs + 1) rs =
    ledger_numbers archive (past ++ r ∷ []) rs h.1 in (
      omega (arith, h.0.number),
      All-weaker (λ s. s.seq < length (past ++ r ∷ []) + length rs + 1)
          (λ s. s.seq < length past + length (r ∷ rs) + 1) (λ s lt. omega
          (arith, lt, length-append past (r ∷ []))) rs tail,
    )

-- a receipt that may follow makes a sound ledger
pub ledger_snoc : (archive : List ℕ) (past rs : List Receipt) (r : Receipt) → IsLedger archive past rs
    → MayFollow archive (past ++ rs) r → IsLedger archive past (rs ++ r ∷ [])
ledger_snoc archive past [] r h may = (subst (λ zs. MayFollow archive zs r) (append-nil past) may, tt)
ledger_snoc archive past (x ∷ rs) r h may = (
  h.0,
  ledger_snoc archive (past ++ x ∷ []) rs r h.1
      (subst (λ zs. MayFollow archive zs r) (sym (append_assoc past (x ∷ []) rs)) may),
)

-- items are the things of number 0
pub item_kind_by_number : (k : MovedKind) → is_item_kind k ≡ (thing_number k == 0)
item_kind_by_number TileItem = refl
item_kind_by_number MediaItem = refl
item_kind_by_number RowItem = refl
item_kind_by_number TilesMediaLink = refl
item_kind_by_number RowsMediaLink = refl
item_kind_by_number RowsTilesLink = refl

-- an item of this identity
abbrev pub is_item_of : List ℕ → Moved → Bool
is_item_of id m = is_item_kind m.kind && bytes_eq m.base id

-- an item's key is its kind and its identity
pub key_of_item : (m : Moved) → is_item_kind m.kind ≡ true → IsThing m
    → moved_thing m ≡ thing_number m.kind ∷ m.base
key_of_item m item thing =
    let alone : m.other ≡ None = (MatchBool-at_true ((m.other ≡ None) × (is_some m.fingerprint ≡ true))
    ((is_some m.other ≡ true) × (m.size ≡ 0) × (m.fingerprint ≡ None)) item thing).0 in
    rw alone (ap (λ zs. thing_number m.kind ∷ zs) (append-nil m.base))

-- an item of another identity is another thing
other_key : (id : List ℕ) (m n : Moved) → is_item_of id m ≡ true → IsThing m → is_item_of id n ≡ false
    → IsThing n → bytes_eq (moved_thing n) (moved_thing m) ≡ false
other_key id m n names thing not_named thing' =
    false_from_ne_true (bytes_eq (moved_thing n) (moved_thing m)) (λ same.
    let parts : (is_item_kind m.kind ≡ true) × (bytes_eq m.base id ≡ true) =
    and_parts (is_item_kind m.kind) (bytes_eq m.base id) names in
    let keys : moved_thing n ≡ moved_thing m = (bytes_eq-Decides (moved_thing n) (moved_thing m)).0 same in
    let numbers : thing_number n.kind ≡ thing_number m.kind = ap (λ zs. slice_index zs 0) keys in
    let item : is_item_kind n.kind ≡ true = item_kind_by_number n.kind ∙ ap (λ k. k == 0) numbers
    ∙ sym (item_kind_by_number m.kind) ∙ parts.0 in
    let bases : n.base ≡ m.base = ap (drop 1) (sym (key_of_item n item thing') ∙ keys
    ∙ key_of_item m parts.0 thing) in
    let base : bytes_eq n.base id ≡ true = ap (λ zs. bytes_eq zs id) bases ∙ parts.1 in
    true≢false (sym (and_from (is_item_kind n.kind) (bytes_eq n.base id) item base) ∙ not_named))

-- it is not among these
not_among : (id : List ℕ) (m : Moved) (ns : List Moved) → is_item_of id m ≡ true → IsThing m
    → AllByRecursion (λ n. is_item_of id n ≡ false) ns → AllByRecursion IsThing ns
    → has moved_thing (moved_thing m) ns ≡ false
not_among id m [] names thing h things = refl
not_among id m (n ∷ ns) names thing h things = rw (other_key id m n names thing h.0 things.0)
    (not_among id m ns names thing h.1 things.1)

-- what none of these receipts names stands nowhere
pub custody_none : (id : List ℕ) (m : Moved) (past : List Receipt) → is_item_of id m ≡ true → IsThing m
    → AllByRecursion (λ s. names_identity id s ≡ false) past
    → AllByRecursion (λ s. AllByRecursion IsThing s.items) past → custody past (moved_thing m) ≡ None
custody_none id m [] named thing h things = refl
custody_none id m (s ∷ past) named thing h things =
    rw (not_among id m s.items named thing (none_pass (is_item_of id) s.items h.0) things.0)
    (custody_none id m past named thing h.1 things.1)

-- a test that fails
and_false_or : (b : Bool) → ((b && false) || false) ≡ false
and_false_or true = refl
and_false_or false = refl

-- a link is no item
link_is_no_item : (mapping : Mapping) (id base other : List ℕ)
    → list_any (is_item_of id) (link_moved (relation mapping base other) ∷ []) ≡ false
link_is_no_item TilesMedia id base other = refl
link_is_no_item RowsMedia id base other = refl
link_is_no_item RowsTiles id base other = refl

-- what a receipt that takes from a package moves has stood there, so it was named before
none_taken : (id p : List ℕ) (past : List Receipt) (ms : List Moved)
    → AllByRecursion (λ s. names_identity id s ≡ false) past
    → AllByRecursion (λ s. AllByRecursion IsThing s.items) past
    → AllByRecursion IsThing ms → (source : Option (List ℕ)) → source ≡ Some p
    → AllByRecursion (λ m. custody past (moved_thing m) ≡ source) ms
    → list_any (is_item_of id) ms ≡ false
none_taken id p past [] never before_things things source takes from = refl
none_taken id p past (m ∷ ms) never before_things things source takes from =
    let here : is_item_of id m ≡ false = false_from_ne_true (is_item_of id m)
    (λ named. None≢Some (sym (custody_none id m past named things.0 never before_things) ∙ from.0
    ∙ takes)) in
    rw here (none_taken id p past ms never before_things things.1 source takes from.1)

-- a receipt is of the command of its entry
pub by_entry : (t : Entry → Bool) (r : Receipt) (e : Entry) → entry_from r.line ≡ Some e
    → option_map_or t (entry_from r.line) false ≡ t e
by_entry t r e says = ap (λ o. option_map_or t o false) says

-- a receipt that is no Add of the identity does not name it, where those before it do not
not_named : (archive id : List ℕ) (past : List Receipt) (r : Receipt) → MayFollow archive past r
    → (is_add r && has (λ m. m.base) id r.items) ≡ false
    → AllByRecursion (λ s. names_identity id s ≡ false) past
    → AllByRecursion (λ s. AllByRecursion IsThing s.items) past → (e : Entry) → IsReceiptOf r e
    → names_identity id r ≡ false
not_named archive id past r may unused never before_things (Adds p identity kind size digest) of =
    let line_is : is_add r ≡ true = by_entry is_adding r (Adds p identity kind size digest) of.says in
    let bases : has (λ m. m.base) id r.items ≡ bytes_eq identity id =
    ap (has (λ m. m.base) id) of.moves ∙ or-false (bytes_eq identity id) in
    let other : bytes_eq identity id ≡ false = sym bases ∙ sym
    (ap (λ b. b && has (λ m. m.base) id r.items) line_is) ∙ unused in
    ap (list_any (is_item_of id)) of.moves ∙ rw other (and_false_or (is_item_kind kind))
not_named archive id past r may unused never before_things (Links p mapping base other) of =
    ap (list_any (is_item_of id)) of.moves ∙ link_is_no_item mapping id base other
not_named archive id past r may unused never before_things (Unlinks p mapping base other) of =
    ap (list_any (is_item_of id)) of.moves ∙ link_is_no_item mapping id base other
not_named archive id past r may unused never before_things (Deletes p identity) of =
    none_taken id p past r.items never before_things may.things r.source of.leaves may.from_source
not_named archive id past r may unused never before_things (Splits p child mode rect) of =
    none_taken id p past r.items never before_things may.things r.source of.leaves may.from_source
not_named archive id past r may unused never before_things (Merges child into ticket) of =
    none_taken id child past r.items never before_things may.things r.source of.leaves may.from_source

-- an identity that no Add receipt names is in no receipt
pub never_named : (archive id : List ℕ) (past rs : List Receipt) → IsLedger archive past rs
    → AllByRecursion (λ s. (is_add s && has (λ m. m.base) id s.items) ≡ false) rs
    → AllByRecursion (λ s. names_identity id s ≡ false) past
    → AllByRecursion (λ s. AllByRecursion IsThing s.items) past
    → AllByRecursion (λ s. names_identity id s ≡ false) rs × AllByRecursion
    (λ s. AllByRecursion IsThing s.items) rs
never_named archive id past [] h unused never things = (tt, tt)
never_named archive id past (r ∷ rs) h unused never things =
    let here : names_identity id r ≡ false = not_named archive id past r h.0 unused.0 never things h.0.entered.0
    h.0.entered.1 in
    let rest : AllByRecursion (λ s. names_identity id s ≡ false) rs
    × AllByRecursion (λ s. AllByRecursion IsThing s.items) rs =
    never_named archive id (past ++ r ∷ []) rs h.1 unused.1 (All-snoc (λ s. names_identity id s ≡ false) past r
    never here) (All-snoc (λ s. AllByRecursion IsThing s.items) past r things h.0.things) in
    ((here, rest.0), (h.0.things, rest.1))

-- what a receipt says of an item is a thing
pub thing_of : (identity : List ℕ) (content : Content) → IsThing (item_moved (added_item identity content))
thing_of identity (Tile zoom column row bytes) = (refl, refl)
thing_of identity (Media content_type bytes) = (refl, refl)
thing_of identity (Row x y code label) = (refl, refl)

-- what nothing names cannot differ
agrees_none : (id : List ℕ) (m : Moved) (ns : List Moved) → is_item_of id m ≡ true → IsThing m
    → AllByRecursion (λ n. is_item_of id n ≡ false) ns → AllByRecursion IsThing ns
    → AllByRecursion (Agrees m) ns
agrees_none id m [] named thing h things = tt
agrees_none id m (n ∷ ns) named thing h things = (
  (λ same. absurd (true≢false (sym same ∙ other_key id m n named thing h.0 things.0))),
  agrees_none id m ns
      named thing h.1 things.1,
)

-- in each of these receipts
pub agree_none : (id : List ℕ) (m : Moved) (rs : List Receipt) → is_item_of id m ≡ true → IsThing m
    → AllByRecursion (λ s. names_identity id s ≡ false) rs → AllByRecursion
    (λ s. AllByRecursion IsThing s.items) rs
    → AllByRecursion (λ s. AllByRecursion (Agrees m) s.items) rs
agree_none id m [] named thing h things = tt
agree_none id m (s ∷ rs) named thing h things = (
  agrees_none id m s.items named thing (none_pass (is_item_of id) s.items h.0) things.0,
  agree_none id m rs named
      thing h.1 things.1,
)

-- an item is one thing, whatever its kind
pub thing_of_item : (identity : List ℕ) (content : Content) → moved_thing
    (item_moved (added_item identity content)) ≡ item_thing (added_item identity content)
thing_of_item identity (Tile zoom column row bytes) = ap (λ zs. 0 ∷ zs) (append-nil identity)
thing_of_item identity (Media content_type bytes) = ap (λ zs. 0 ∷ zs) (append-nil identity)
thing_of_item identity (Row x y code label) = ap (λ zs. 0 ∷ zs) (append-nil identity)

-- the last of a list with one more
last_or-snoc : {X : Type 0} (x y : X) (xs : List X) → last_or x (xs ++ y ∷ []) ≡ y
last_or-snoc x y [] = refl
last_or-snoc x y (z ∷ xs) = last_or-snoc z y xs

-- that is this one
last_of-snoc : {X : Type 0} (y : X) (xs : List X) → last_of (xs ++ y ∷ []) ≡ Some y
last_of-snoc y [] = refl
last_of-snoc y (x ∷ xs) = ap Some (last_or-snoc x y xs)

-- a thing that the last receipt names stands in its target
pub custody_names : (rs : List Receipt) (r : Receipt) (thing : List ℕ) → names thing r ≡ true
    → custody (rs ++ r ∷ []) thing ≡ r.target
custody_names rs r thing named =
    let one : filter (names thing) (r ∷ []) ≡ r ∷ [] = rw named refl in
    ap (λ xs. option_and_then (λ x. x.target) (last_of xs)) (filter-append (names thing) rs (r ∷ [])
    ∙ ap (λ xs. filter (names thing) rs ++ xs) one)
    ∙ ap (option_and_then (λ x. x.target)) (last_of-snoc r (filter (names thing) rs))

-- another thing stays where it stood
pub custody_other : (rs : List Receipt) (r : Receipt) (thing : List ℕ) → names thing r ≡ false
    → custody (rs ++ r ∷ []) thing ≡ custody rs thing
custody_other rs r thing named =
    let none : filter (names thing) (r ∷ []) ≡ [] = rw named refl in
    ap (λ xs. option_and_then (λ x. x.target) (last_of xs)) (filter-append (names thing) rs (r ∷ [])
    ∙ ap (λ xs. filter (names thing) rs ++ xs) none ∙ append-nil (filter (names thing) rs))

-- a sum over some receipts and one more
pub sum_by-filter_snoc : (moved : Receipt → ℕ) (p : Receipt → Bool) (rs : List Receipt) (r : Receipt) (b : Bool)
    → p r ≡ b → sum_by moved (filter p (rs ++ r ∷ [])) ≡ sum_by moved (filter p rs) + cond b (moved r) 0
sum_by-filter_snoc moved p rs r b e =
    ap (sum_by moved) (filter-append p rs (r ∷ [])) ∙ sum_by-append moved (filter p rs) (filter p (r ∷ []))
    ∙ ap (λ n. sum_by moved (filter p rs) + n) (ap (λ v. sum_by moved (cond v (r ∷ []) [])) e
    ∙ elim b as (λ v. sum_by moved (cond v (r ∷ []) []) ≡ cond v (moved r) 0)
    [ true ↦ zero-add (moved r) | false ↦ refl ])

-- no receipt after a number, with one more
pub none_after : (p : Receipt → Bool) (n : ℕ) (rs : List Receipt) (r : Receipt) → p r ≡ false
    → list_any p (after n rs) ≡ false → list_any p (after n (rs ++ r ∷ [])) ≡ false
none_after p n rs r fails none =
    ap (list_any p) (filter-append (λ s. nat_lt n s.seq) rs (r ∷ []))
    ∙ list_any-append p (after n rs) (filter (λ s. nat_lt n s.seq) (r ∷ []))
    ∙ rw none (elim (nat_lt n r.seq) as (λ v. list_any p (cond v (r ∷ []) []) ≡ false)
    [ true ↦ rw fails refl | false ↦ refl ])

-- nothing is after the last
pub none_later : (r : Receipt) (rs : List Receipt) → AllByRecursion (λ s. s.seq < r.seq) rs
    → after r.seq (rs ++ r ∷ []) ≡ []
none_later r [] h = rw (le-ltb r.seq r.seq (omega arith)) refl
none_later r (s ∷ rs) h = let before : s.seq < r.seq = h.0 in rw (le-ltb r.seq s.seq (omega (arith, before)))
    (none_later r rs h.1)
