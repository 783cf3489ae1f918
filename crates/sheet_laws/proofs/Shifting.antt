-- What every accepted command does to the account: by any measure of things, its source loses and its target gains
-- what the receipt names.
use Rattle.std.specs.Prelude.{◌≡◌, ◌↔◌, ℕ, ◌+◌, ◌≤◌, ◌<◌, Bool, true, false, cond}
use Rattle.std.specs.Prelude.{◌&&◌, ◌||◌, List, [], ◌∷◌, ◌++◌, filter, find, length, refl, nat_lt}
use Rattle.std.specs.Prelude.{bytes_eq, Option, Some, None, IsTrue, unwrap_or, sum_by, count_by, flat_map, ◌==◌}
use Rattle.std.specs.Prelude.{slice_index}
use Rattle.std.proofs.Common.{sym, ap, subst, ◌∙◌, arith}
use Rattle.std.proofs.lemmas.List.Elements.{filter-append}
use Rattle.std.proofs.lemmas.List.Sums.{fold_push}
use Rattle.std.proofs.lemmas.Bool.{true≢false, false≢true, or_parts, lt-ltb, le-ltb, and_parts}
use Rattle.std.proofs.lemmas.Slice.Eq.{bytes_eq-Decides}
use Rattle.std.specs.List.{AllByRecursion}
use Rattle.sheet_types.specs.Ordered.{has}
use Rattle.sheet_types.specs.Texts.{Entry, size}
use Rattle.sheet_types.specs.Lines.{entry_from}
use Rattle.sheet_types.specs.World.{is_item_kind}
use Rattle.std.specs.Prelude.{not}
use Rattle.sheet_types.specs.World.{World, Package, receipt_key, receipts_of, holdings, item_moved, link_moved}
use Rattle.sheet_types.specs.World.{moved_thing, item_thing, link_key, link_kind, is_tile, is_medium, is_row, kind_is}
use Rattle.sheet_types.specs.World.{kind_number}
use Rattle.sheet_types.specs.Custody.{names, custody, ends_at, is_merge, is_split, after}
use Rattle.sheet_types.specs.Step.{added_item}
use Rattle.sheet_types.specs.Balance.{Balanced, IsLedger, MayFollow, archive_of, holds, AddsUp, IsLoan, home_after}
use Rattle.sheet_types.specs.Balance.{stands_in}
use Rattle.sheet_types.specs.declared.command.Content.{Content}
use Rattle.sheet_types.specs.declared.command.Content.TheVariants.{Tile, Media, Row}
use Rattle.sheet_types.specs.declared.command.Item.{Item}
use Rattle.sheet_types.specs.declared.command.Mapping.TheVariants.{TilesMedia, RowsMedia, RowsTiles}
use Rattle.sheet_types.specs.declared.command.Relation.{Relation}
use Rattle.sheet_types.specs.declared.receipt.Moved.{Moved}
use Rattle.sheet_types.specs.declared.receipt.MovedKind.TheVariants.{TileItem, MediaItem, RowItem}
use Rattle.sheet_types.specs.declared.receipt.Receipt.{Receipt}
use Rattle.sheet_types.proofs.Order.{All-of_arranged}
use Rattle.sheet_types.proofs.Basics.{bytes_eq_itself}
use Rattle.sheet_types.proofs.Every.{All-weaker, All-left, All-right, All-both}
use Rattle.sheet_laws.proofs.Ledger.{ledger_numbers, ledger_snoc, custody_names, custody_other, sum_by-filter_snoc}
use Rattle.sheet_laws.proofs.Ledger.{none_later, thing_of_item}
use Rattle.sheet_types.proofs.Found.{found, All-found}
use Rattle.sheet_types.proofs.Sums.{any_some, any_none, sum_by-same, sum_by-zero, length_sum}
use Rattle.sheet_laws.proofs.Packages.{AllStand, stand_at}

-- what a package holds, by a measure of things
abbrev pub weighed : (Moved → ℕ) → Package → ℕ
weighed c x = sum_by (λ i. c (item_moved i)) x.items + sum_by (λ l. c (link_moved l)) x.links

-- where receipts go that stood under a UUID
abbrev pub goes : Receipt → List ℕ → List ℕ
goes r here = cond (is_merge r && ends_at r.source here) (unwrap_or r.target []) here

-- but for a merge none goes anywhere
pub goes_same : (r : Receipt) → is_merge r ≡ false → (u : List ℕ) → goes r u ≡ u
goes_same r no_merge u = ap (λ b. cond (b && ends_at r.source u) (unwrap_or r.target []) u) no_merge

-- a measure that sees no more of a link than its key
abbrev pub SeesKeys : (Moved → ℕ) → Type 0
SeesKeys c = (a b : Relation) → link_key a ≡ link_key b → c (link_moved a) ≡ c (link_moved b)

-- what an accepted command with receipt r does
pub record Shift (w : World) (next : World) (r : Receipt) : Type 0 where
  pub receipts : receipts_of next ≡ receipts_of w ++ r ∷ []
  pub archive : archive_of next ≡ archive_of w
  pub may : MayFollow (archive_of w) (receipts_of w) r
  pub shifts : (c : Moved → ℕ) → SeesKeys c → (p : List ℕ) → weighed c (holdings next p) + cond
      (ends_at r.source p) (sum_by c r.items) 0 ≡ weighed c (holdings w p) + cond (ends_at r.target p)
      (sum_by c r.items) 0

-- ---- things by measure

-- the measure that counts one thing
abbrev pub counting : List ℕ → Moved → ℕ
counting thing m = cond (bytes_eq (moved_thing m) thing) 1 0

-- an item is one thing, whatever is said of it
pub thing_item : (i : Item) → moved_thing (item_moved i) ≡ item_thing i
thing_item i = thing_of_item i.identity i.content

-- a link is the thing of its key
pub thing_link : (l : Relation) → moved_thing (link_moved l) ≡ link_key l
thing_link l = elim l.mapping as (λ m. moved_thing (link_moved
    (record { mapping = m; base = l.base; other = l.other }))
    ≡ link_key (record { mapping = m; base = l.base; other = l.other }))
    [ TilesMedia ↦ refl | RowsMedia ↦ refl | RowsTiles ↦ refl ]

-- items that are this thing
pub count_items : (thing : List ℕ) (items : List Item) → sum_by (λ i. counting thing (item_moved i)) items
    ≡ count_by (λ i. bytes_eq (item_thing i) thing) items
count_items thing items = sum_by-same (λ i. counting thing (item_moved i))
    (λ i. cond (bytes_eq (item_thing i) thing) 1 0) (λ i. ap (λ k. cond (bytes_eq k thing) 1 0) (thing_item i))
    items

-- links that are this thing
pub count_links : (thing : List ℕ) (links : List Relation) → sum_by (λ l. counting thing (link_moved l)) links
    ≡ count_by (λ l. bytes_eq (link_key l) thing) links
count_links thing links = sum_by-same (λ l. counting thing (link_moved l))
    (λ l. cond (bytes_eq (link_key l) thing) 1 0) (λ l. ap (λ k. cond (bytes_eq k thing) 1 0) (thing_link l)) links

-- what is held is counted
pub holds_some : (x : Package) (thing : List ℕ) → holds x thing ≡ true → 1 ≤ weighed (counting thing) x
holds_some x thing h =
    elim (has item_thing thing x.items) as (λ v. has item_thing thing x.items ≡ v
    → (v || has link_key thing x.links) ≡ true → 1 ≤ weighed (counting thing) x) [
      | true ↦ λ e _. omega (
        arith,
        count_items thing x.items,
        any_some (λ i. bytes_eq (item_thing i) thing)
            x.items e,
      )
      | false ↦ λ _ e. omega (
        arith,
        count_links thing x.links,
        any_some (λ l. bytes_eq (link_key l) thing)
            x.links e,
      )
    ] refl h

-- what is not held is not counted
pub holds_none : (x : Package) (thing : List ℕ) → holds x thing ≡ false → weighed (counting thing) x ≡ 0
holds_none x thing h =
    let parts : (has item_thing thing x.items ≡ false) × (has link_key thing x.links ≡ false) =
    or_parts (has item_thing thing x.items) (has link_key thing x.links) h in
    omega (
      arith,
      count_items thing x.items,
      count_links thing x.links,
      any_none (λ i. bytes_eq (item_thing i) thing)
          x.items parts.0,
      any_none (λ l. bytes_eq (link_key l) thing) x.links parts.1,
    )

-- held or not, by the count
pub holds_by : (x : Package) (thing : List ℕ) (b : Bool) → (b ≡ true → 1 ≤ weighed (counting thing) x)
    → (b ≡ false → weighed (counting thing) x ≡ 0) → holds x thing ≡ b
holds_by x thing b does doesn't =
    elim (holds x thing) as (λ v. holds x thing ≡ v → v ≡ b) [
      | true ↦ λ h. elim b as (λ u. b ≡ u → true ≡ u) [
        | true ↦ λ _. refl
        | false
            ↦ λ e. absurd (omega (arith, holds_some x thing h, doesn't e))
      ] refl
      | false ↦ λ h. elim b as (λ u. b ≡ u → false ≡ u) [
        | true
            ↦ λ e. absurd (omega (arith, holds_none x thing h, does e))
        | false ↦ λ _. refl
      ] refl
    ] refl

-- an end at a package is that package
pub ends_at_is : (o : Option (List ℕ)) (p : List ℕ) → ends_at o p ≡ true → o ≡ Some p
ends_at_is None p h = absurd (false≢true h)
ends_at_is (Some x) p h = ap Some ((bytes_eq-Decides x p).0 h)

-- and back
pub ends_at_some : (o : Option (List ℕ)) (p : List ℕ) → o ≡ Some p → ends_at o p ≡ true
ends_at_some o p e = ap (λ x. ends_at x p) e ∙ bytes_eq_itself p

-- a fact of all receipts in a row, by package
flat_stand : (P : Receipt → Type 0) (ps : List Package) → AllByRecursion P (flat_map (λ x. x.receipts) ps)
    → AllByRecursion (λ x. AllByRecursion P x.receipts) ps
flat_stand P [] h = tt
flat_stand P (x ∷ ps) h = (
  All-left P x.receipts (flat_map (λ y. y.receipts) ps) h,
  flat_stand P ps
      (All-right P x.receipts (flat_map (λ y. y.receipts) ps) h),
)

pub each_stands : (P : Receipt → Type 0) (w : World) → AllByRecursion P (receipts_of w) → AllStand (λ _. P) w
each_stands P w h = flat_stand P w.packages (All-of_arranged receipt_key P (flat_map (λ x. x.receipts) w.packages) h)

-- and of those of one package
pub of_package : (P : Receipt → Type 0) (w : World) (p : List ℕ) → AllByRecursion P (receipts_of w)
    → AllByRecursion P (holdings w p).receipts
of_package P w p h = stand_at (λ _. P) w p (each_stands P w h)

-- all receipts stand below the next number
pub numbers_below : (w : World) (n : ℕ) → IsLedger (archive_of w) [] (receipts_of w)
    → n ≡ length (receipts_of w) + 1 → AllByRecursion (λ s. s.seq < n) (receipts_of w)
numbers_below w n sound next = All-weaker (λ s. s.seq < length {A = Receipt} [] + length (receipts_of w) + 1)
    (λ s. s.seq < n) (λ s lt. omega (arith, lt, next)) (receipts_of w)
    (ledger_numbers (archive_of w) [] (receipts_of w) sound)

-- what follows from two facts of each receipt
pub stand_both : (P Q R : List ℕ → Receipt → Type 0) → ((u : List ℕ) (s : Receipt) → P u s → Q u s
    → R u s) → (w : World) → AllStand P w → AllStand Q w → AllStand R w
stand_both P Q R f w h g = All-both (λ x. AllByRecursion (P x.uuid) x.receipts)
    (λ x. AllByRecursion (Q x.uuid) x.receipts) (λ x. AllByRecursion (R x.uuid) x.receipts)
    (λ x. All-both (P x.uuid) (Q x.uuid) (R x.uuid) (f x.uuid) x.receipts) w.packages h g

-- counting sees no more of a link than its key
counting_sees : (thing : List ℕ) → SeesKeys (counting thing)
counting_sees thing a b e = ap (λ k. cond (bytes_eq k thing) 1 0) (thing_link a ∙ e ∙ sym (thing_link b))

-- so does a measure of its kind
sees_kind : (f : ℕ → ℕ) (a b : Relation) → link_key a ≡ link_key b
    → f (kind_number (link_kind a.mapping)) ≡ f (kind_number (link_kind b.mapping))
sees_kind f a b e = ap (λ k. f (slice_index k 0)) e

-- ---- the measures of the account

-- tiles
abbrev pub a_tile : Moved → ℕ
a_tile m = cond (kind_is TileItem m.kind) 1 0

-- media
abbrev pub a_medium : Moved → ℕ
a_medium m = cond (kind_is MediaItem m.kind) 1 0

-- rows
abbrev pub a_row : Moved → ℕ
a_row m = cond (kind_is RowItem m.kind) 1 0

-- links
abbrev pub a_link : Moved → ℕ
a_link m = cond (not (is_item_kind m.kind)) 1 0

-- a link is no tile
pub no_tile : (l : Relation) → a_tile (link_moved l) ≡ 0
no_tile l = elim l.mapping as (λ m. cond (kind_is TileItem (link_kind m)) 1 0 ≡ 0)
    [ TilesMedia ↦ refl | RowsMedia ↦ refl | RowsTiles ↦ refl ]

-- a link is no medium
pub no_medium : (l : Relation) → a_medium (link_moved l) ≡ 0
no_medium l = elim l.mapping as (λ m. cond (kind_is MediaItem (link_kind m)) 1 0 ≡ 0)
    [ TilesMedia ↦ refl | RowsMedia ↦ refl | RowsTiles ↦ refl ]

-- a link is no row
pub no_row : (l : Relation) → a_row (link_moved l) ≡ 0
no_row l = elim l.mapping as (λ m. cond (kind_is RowItem (link_kind m)) 1 0 ≡ 0)
    [ TilesMedia ↦ refl | RowsMedia ↦ refl | RowsTiles ↦ refl ]

-- a link is one link
pub one_link : (l : Relation) → a_link (link_moved l) ≡ 1
one_link l = elim l.mapping as (λ m. cond (not (is_item_kind (link_kind m))) 1 0 ≡ 1)
    [ TilesMedia ↦ refl | RowsMedia ↦ refl | RowsTiles ↦ refl ]

-- an item is no link
pub no_link : (content : Content) (identity : List ℕ) → a_link (item_moved (added_item identity content)) ≡ 0
no_link (Tile zoom column row bytes) identity = refl
no_link (Media content_type bytes) identity = refl
no_link (Row x y code label) identity = refl

-- ---- the account after a shift

module _ (w next : World) (r : Receipt) (e : Entry) (says : entry_from r.line ≡ Some e) (shift : Shift w next r)
    (balance : Balanced w)
    (one : (p thing : List ℕ) → weighed (counting thing) (holdings w p) ≤ 1) where
  named_stood : (thing : List ℕ) → names thing r ≡ true → custody (receipts_of w) thing ≡ r.source
  named_stood thing h =
      let f : (m : Moved) × (find (λ m. bytes_eq (moved_thing m) thing) r.items ≡ Some m) =
      found (λ m. bytes_eq (moved_thing m) thing) r.items h in
      let both : (custody (receipts_of w) (moved_thing f.0) ≡ r.source)
      × (bytes_eq (moved_thing f.0) thing ≡ true) = All-found
      (λ m. custody (receipts_of w) (moved_thing m) ≡ r.source) (λ m. bytes_eq (moved_thing m) thing) f.0
      r.items f.1 shift.may.from_source in
      ap (custody (receipts_of w)) (sym ((bytes_eq-Decides (moved_thing f.0) thing).0 both.1)) ∙ both.0

  -- what stood in the source is counted once
  stood : (p thing : List ℕ) → names thing r ≡ true → weighed (counting thing) (holdings w p)
      ≡ cond (ends_at r.source p) 1 0
  stood p thing h =
      elim (ends_at r.source p) as (λ v. ends_at r.source p ≡ v
      → weighed (counting thing) (holdings w p) ≡ cond v 1 0) [
        | true ↦ λ here. omega (
          arith,
          one p thing,
          holds_some (holdings w p) thing
              ((balance.custody_is p thing).1 (named_stood thing h ∙ ends_at_is r.source p here)),
        )
        | false ↦ λ other. holds_none (holdings w p) thing (elim (holds (holdings w p) thing) as
            (λ v. holds (holdings w p) thing ≡ v → v ≡ false) [
              | true ↦ λ held. absurd (true≢false (sym (ends_at_some r.source p
                  (sym (named_stood thing h) ∙ (balance.custody_is p thing).0 held)) ∙ other))
              | false ↦ λ _. refl
            ] refl)
      ] refl

  held_named : (p thing : List ℕ) → names thing r ≡ true → holds (holdings next p) thing ≡ ends_at r.target p
  held_named p thing h =
      let some : 1 ≤ sum_by (counting thing) r.items = any_some (λ m. bytes_eq (moved_thing m) thing) r.items h in
      let s : weighed (counting thing) (holdings next p) + cond (ends_at r.source p) (sum_by (counting thing) r.items)
      0 ≡ cond (ends_at r.source p) 1 0 + cond (ends_at r.target p) (sum_by (counting thing) r.items) 0 =
      shift.shifts (counting thing) (counting_sees thing) p ∙ ap
      (λ n. n + cond (ends_at r.target p) (sum_by (counting thing) r.items) 0) (stood p thing h) in
      holds_by (holdings next p) thing (ends_at r.target p)
      (λ to. by_source (ends_at r.source p) true some (s ∙ ap
      (λ v. cond (ends_at r.source p) 1 0 + cond v (sum_by (counting thing) r.items) 0) to))
      (λ to. by_none (ends_at r.source p) some (s ∙ ap (λ v. cond (ends_at r.source p) 1 0 + cond v
      (sum_by (counting thing) r.items) 0) to))
    where
      by_source : {k n : ℕ} (b t : Bool) → 1 ≤ n → k + cond b n 0 ≡ cond b 1 0 + n → 1 ≤ k
      by_source true t some s = omega (arith, some, s)
      by_source false t some s = omega (arith, some, s)

      by_none : {k n : ℕ} (b : Bool) → 1 ≤ n → k + cond b n 0 ≡ cond b 1 0 + 0 → k ≡ 0
      by_none true some s = omega (arith, some, s)
      by_none false some s = omega (arith, some, s)

  held_other : (p thing : List ℕ) → names thing r ≡ false → holds (holdings next p) thing
      ≡ holds (holdings w p) thing
  held_other p thing h =
      let none : sum_by (counting thing) r.items ≡ 0 = any_none (λ m. bytes_eq (moved_thing m) thing) r.items h in
      let s : weighed (counting thing) (holdings next p) ≡ weighed (counting thing) (holdings w p) =
      same (ends_at r.source p) (ends_at r.target p) none
      (shift.shifts (counting thing) (counting_sees thing) p) in
      holds_by (holdings next p) thing (holds (holdings w p) thing)
      (λ held. omega (arith, s, holds_some (holdings w p) thing held))
      (λ held. s ∙ holds_none (holdings w p) thing held)
    where
      same : {k n m : ℕ} (b t : Bool) → n ≡ 0 → k + cond b n 0 ≡ m + cond t n 0 → k ≡ m
      same true true z s = omega (arith, z, s)
      same true false z s = omega (arith, z, s)
      same false true z s = omega (arith, z, s)
      same false false z s = omega (arith, z, s)

  custody_kept : (p thing : List ℕ) → IsTrue (holds (holdings next p) thing) ↔
      (custody (receipts_of next) thing ≡ Some p)
  custody_kept p thing =
      elim (names thing r) as (λ v. names thing r ≡ v → IsTrue (holds (holdings next p) thing) ↔
      (custody (receipts_of next) thing ≡ Some p)) [
        | true ↦ λ h.
            let to : custody (receipts_of next) thing ≡ r.target =
            ap (λ rs. custody rs thing) shift.receipts ∙ custody_names (receipts_of w) r thing h in (
              λ held. to ∙ ends_at_is r.target p (sym (held_named p thing h) ∙ held),
              λ at. held_named p thing h
                  ∙ ends_at_some r.target p (sym to ∙ at),
            )
        | false ↦ λ h.
            let stays : custody (receipts_of next) thing ≡ custody (receipts_of w) thing =
            ap (λ rs. custody rs thing) shift.receipts ∙ custody_other (receipts_of w) r thing h in (
              λ held. stays ∙ (balance.custody_is p thing).0 (sym (held_other p thing h) ∙ held),
              λ at.
                  held_other p thing h ∙ (balance.custody_is p thing).1 (sym stays ∙ at),
            )
      ] refl

  sums_kept : (c : Moved → ℕ) → SeesKeys c → (moved : Receipt → ℕ) (held : Package → ℕ)
      → moved r ≡ sum_by c r.items → ((x : Package) → held x ≡ weighed c x) → AddsUp w moved held
      → AddsUp next moved held
  sums_kept c sees moved held counts weighs sums p =
      let out : sum_by moved (filter (λ s. ends_at s.source p) (receipts_of w ++ r ∷ []))
      ≡ sum_by moved (filter (λ s. ends_at s.source p) (receipts_of w)) + cond (ends_at r.source p)
      (sum_by c r.items) 0 =
      sum_by-filter_snoc moved (λ s. ends_at s.source p) (receipts_of w) r (ends_at r.source p) refl
      ∙ ap (λ n. sum_by moved (filter (λ s. ends_at s.source p) (receipts_of w)) + cond (ends_at r.source p) n
      0) counts in
      let come : sum_by moved (filter (λ s. ends_at s.target p) (receipts_of w ++ r ∷ []))
      ≡ sum_by moved (filter (λ s. ends_at s.target p) (receipts_of w)) + cond (ends_at r.target p)
      (sum_by c r.items) 0 =
      sum_by-filter_snoc moved (λ s. ends_at s.target p) (receipts_of w) r (ends_at r.target p) refl
      ∙ ap (λ n. sum_by moved (filter (λ s. ends_at s.target p) (receipts_of w)) + cond (ends_at r.target p) n
      0) counts in
      rw shift.receipts (omega (
        arith,
        out,
        come,
        sums p,
        shift.shifts c sees p,
        weighs (holdings w p),
        weighs
            (holdings next p),
      ))

  new_number : r.seq ≡ length (receipts_of w) + 1
  new_number = shift.may.number

  all_below : AllByRecursion (λ s. s.seq < r.seq) (receipts_of w)
  all_below = numbers_below w r.seq balance.ledger new_number

  below : AllStand (λ u s. s.seq < r.seq) w
  below = each_stands (λ s. s.seq < r.seq) w all_below

  module _ (carry : (Q : List ℕ → Receipt → Type 0) → AllStand (λ u s. Q (goes r u) s) w
      → Q (stands_in e) r → AllStand Q next)
      (undoes : is_merge r ≡ true → AllStand (λ u s. (is_split s && nat_lt s.seq r.seq && ends_at s.target
      (unwrap_or r.source [])) ≡ true → goes r u ≡ stands_in e) w) where
    abbrev AtHome : World → List ℕ → Receipt → Type 0
    AtHome v u s = (x : Entry) × (entry_from s.line ≡ Some x)
        × (u ≡ home_after (after s.seq (receipts_of v)) (stands_in x))

    home_old : (u : List ℕ) (s : Receipt) → s.seq < r.seq → AtHome w u s → AtHome next (goes r u) s
    home_old u s lt h =
        let one_more : filter (λ x. nat_lt s.seq x.seq) (r ∷ []) ≡ r ∷ [] = rw (lt-ltb s.seq r.seq lt) refl in
        let later : after s.seq (receipts_of next) ≡ after s.seq (receipts_of w) ++ r ∷ [] =
        ap (after s.seq) shift.receipts ∙ filter-append (λ x. nat_lt s.seq x.seq) (receipts_of w) (r ∷ [])
        ∙ ap (λ xs. after s.seq (receipts_of w) ++ xs) one_more in (
          h.0,
          h.1,
          ap (goes r) h.2 ∙ sym (ap (λ xs. home_after xs (stands_in h.0)) later
              ∙ fold_push (λ here m. cond (is_merge m && ends_at m.source here) (unwrap_or m.target []) here)
              (stands_in h.0) (after s.seq (receipts_of w)) r),
        )

    home_new : AtHome next (stands_in e) r
    home_new = (
      e,
      says,
      sym (ap (λ rs. home_after (after r.seq rs) (stands_in e)) shift.receipts
          ∙ ap (λ rs. home_after rs (stands_in e)) (none_later r (receipts_of w) all_below)),
    )

    homes_kept : AllStand (AtHome next) next
    homes_kept = carry (AtHome next) (stand_both (λ u s. s.seq < r.seq) (AtHome w) (λ u s. AtHome next (goes r u) s)
        home_old w below balance.homes) home_new

    abbrev Undone : Receipt → List ℕ → List ℕ → Receipt → Type 0
    Undone m u v s = (is_split s && nat_lt s.seq m.seq && ends_at s.target (unwrap_or m.source [])) ≡ true → v ≡ u

    -- r is not before a receipt of lesser number, nor before itself
    not_before : (m : Receipt) (u v : List ℕ) → m.seq ≤ r.seq → Undone m u v r
    not_before m u v le h = absurd (false≢true (sym (le-ltb r.seq m.seq le)
        ∙ (and_parts (is_split r) (nat_lt r.seq m.seq) (and_parts (is_split r && nat_lt r.seq m.seq)
        (ends_at r.target (unwrap_or m.source [])) h).0).1))

    undone_old : (u : List ℕ) (m : Receipt) → m.seq < r.seq → (is_merge m ≡ true → AllStand (Undone m u) w)
        → is_merge m ≡ true → AllStand (Undone m (goes r u)) next
    undone_old u m lt h merge = carry (Undone m (goes r u))
        (stand_both (λ v s. s.seq < r.seq) (Undone m u) (λ v s. Undone m (goes r u) (goes r v) s)
        (λ v s _ same test. ap (goes r) (same test)) w below (h merge))
        (not_before m (goes r u) (stands_in e) (omega (arith, lt)))

    together_kept : AllStand (λ u m. is_merge m ≡ true → AllStand (Undone m u) next) next
    together_kept = carry (λ u m. is_merge m ≡ true → AllStand (Undone m u) next)
        (stand_both (λ u s. s.seq < r.seq) (λ u m. is_merge m ≡ true → AllStand (Undone m u) w)
        (λ u m. is_merge m ≡ true → AllStand (Undone m (goes r u)) next) undone_old w below balance.together)
        (λ merge. carry (Undone r (stands_in e)) (undoes merge)
        (not_before r (stands_in e) (stands_in e) (omega arith)))

    item_weight : (a : Item → ℕ) (c : Moved → ℕ) → ((i : Item) → a i ≡ c (item_moved i))
        → ((l : Relation) → c (link_moved l) ≡ 0) → (x : Package) → sum_by a x.items ≡ weighed c x
    item_weight a c items links x = omega (
      arith,
      sum_by-same a (λ i. c (item_moved i)) items x.items,
      sum_by-zero
          (λ l. c (link_moved l)) links x.links,
    )

    pub balance_kept : AllByRecursion (IsLoan next) next.packages → Balanced next
    balance_kept loans = record {
      ledger = subst (λ a. IsLedger a [] (receipts_of next)) (sym shift.archive)
          (subst (IsLedger (archive_of w) []) (sym shift.receipts)
          (ledger_snoc (archive_of w) [] (receipts_of w) r balance.ledger shift.may));
      custody_is = custody_kept;
      tiles = sums_kept a_tile (sees_kind (λ n. cond (1 == n) 1 0)) (λ s. s.tiles) (λ x. count_by is_tile x.items)
          shift.may.counts.tiles (item_weight (λ i. cond (is_tile i) 1 0) a_tile (λ i. refl) no_tile) balance.tiles;
      media = sums_kept a_medium (sees_kind (λ n. cond (2 == n) 1 0)) (λ s. s.media)
          (λ x. count_by is_medium x.items) shift.may.counts.media
          (item_weight (λ i. cond (is_medium i) 1 0) a_medium (λ i. refl) no_medium) balance.media;
      rows = sums_kept a_row (sees_kind (λ n. cond (3 == n) 1 0)) (λ s. s.rows) (λ x. count_by is_row x.items)
          shift.may.counts.rows (item_weight (λ i. cond (is_row i) 1 0) a_row (λ i. refl) no_row) balance.rows;
      links = sums_kept a_link (λ a b _. one_link a ∙ sym (one_link b)) (λ s. s.links) (λ x. length x.links)
          shift.may.counts.links
          (λ x. omega (
            arith,
            length_sum (λ l. a_link (link_moved l)) one_link x.links,
            sum_by-zero
                (λ i. a_link (item_moved i)) (λ i. no_link i.content i.identity) x.items,
          )) balance.links;
      bytes = sums_kept (λ m. m.size) (λ a b _. refl) (λ s. s.bytes) (λ x. sum_by (λ i. size i.content) x.items)
          shift.may.counts.bytes (item_weight (λ i. size i.content) (λ m. m.size) (λ i. refl) (λ l. refl))
          balance.bytes;
      loans = loans;
      homes = homes_kept;
      together = together_kept;
    }
