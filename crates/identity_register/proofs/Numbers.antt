-- A number that is free in a kind, and the rows of an item that comes in under it.
use Rattle.std.proofs.Common.{◌≡◌, ℕ, ℤ, pos, ◌≤ℤ◌, ◌<ℤ◌, ◌+ℤ◌, arith, FitsSigned, w64}
use Rattle.std.proofs.Common.{to_z, of_z, to_z-of_z, List}
use Rattle.std.proofs.Common.{[], ◌∷◌, map, Bool, true, false, Option, Some, None, Result, Ok, refl, sym, ap}
use Rattle.std.proofs.Common.{subst}
use Rattle.std.proofs.Common.{◌∙◌}
use Rattle.std.specs.Prelude.{int_le, ◌&&◌, ◌||◌, bytes_eq, cond, if◌then◌else◌, filter, flat_map}
use Rattle.std.specs.Prelude.{unsigned_abs}
use Rattle.std.specs.List.{AllByRecursion, list_any}
use Rattle.std.specs.Ordering.{int_eq}
use Rattle.std.proofs.lemmas.Bool.{and_from, and_parts, or_from, false_from_ne_true}
use Rattle.std.specs.Cmp.{signed_Decides}
use Rattle.std.specs.Int.Signed.{<ℤ_irrefl}
use Rattle.std.proofs.lemmas.List.Elements.{recursion_from_All}
use Rattle.std.proofs.lemmas.Int.{ints}
use Rattle.sqlite.specs.Effect.{Database}
use Rattle.sqlite.specs.State.{State, Survives}
use Rattle.store_sql.specs.Transactions.{Steps}
use Rattle.store_sql.proofs.Transactions.{steps_then, steps_weaker, steps_answer}
use Rattle.package_tables.specs.Package.{Tables, tables_of, AreFormed}
use Rattle.package_tables.specs.Shapes.{tile_shape, medium_shape, attribute_shape, identity_shape}
use Rattle.package_tables.specs.Calls.{Makes, Tells, Answers, OnTables, IsOneOf, IsGreatest}
use Rattle.std.specs.Option.{is_some}
use Rattle.package_tables.specs.declared.rows.IdentityRow.{IdentityRow}
use Rattle.package_tables.specs.Listed.{identities}
use Rattle.package_tables.specs.Changes.{Adds}
use Rattle.package_tables.proofs.Stepping.{makes_steps, tells_steps}
use Rattle.sheet_types.specs.Ordered.{put, has}
use Rattle.sheet_types.specs.Matrix.{is_within}
use Rattle.sheet_types.specs.Texts.{kind_of}
use Rattle.sheet_types.specs.World.{Package, kind_number}
use Rattle.sheet_types.specs.declared.command.Content.{Content}
use Rattle.sheet_types.specs.declared.command.Content.TheVariants.{Tile, Media, Row}
use Rattle.sheet_types.specs.declared.frame.Frame.{Frame}
use Rattle.sheet_types.proofs.Every.{All-weaker, All-both, All-map, All-of_map, All-each, none_pass, none_any}
use Rattle.sheet_types.proofs.Order.{list_any-arranged}
use Rattle.identity_register.specs.Numbering.{Numbered, greatest_number, place_in_tables, identity_row, tile_rows}
use Rattle.identity_register.specs.Numbering.{media_rows, attribute_rows, puts, with_item, IsTaken, IsGap, FindsGap}
use Rattle.identity_register.specs.Numbering.{AddsContent, number_after}
use Rattle.identity_register.specs.Reads.{Says}
use Rattle.identity_register.specs.LocalNumbers.{KeepRows, Grows}
use Rattle.identity_register.specs.Changes.{IsNewItem, item_added}
use Rattle.identity_register.proofs.Adding.{adds}
use Rattle.identity_register.proofs.KeptNumbers.{item_beside}
use Rattle.identity_register.proofs.Deleting.{same_row}
use Rattle.identity_register.proofs.Answering.{one_tells, any_flat_map}

-- ---- rows of other numbers

-- no row passes where none of any element does
no_rows : {X Y : Type 0} (q : Y → Bool) (f : X → List Y) (xs : List X)
    → AllByRecursion (λ x. list_any q (f x) ≡ false) xs → list_any q (flat_map f xs) ≡ false
no_rows q f xs h = any_flat_map f q (λ x. false) xs h ∙ none_any (λ x. false) xs (All-each _ (λ x. refl) xs)

-- a place that is not one under a number of a kind
abbrev IsApart : ℕ → ℤ → Numbered → Type 0
IsApart kind number m = bytes_eq (place_in_tables m) (kind ∷ unsigned_abs number ∷ []) ≡ false

tile_apart : (number : ℤ) (m : Numbered) → IsApart 1 number m
    → list_any (λ r. bytes_eq (tile_shape.key r) (unsigned_abs number ∷ [])) (tile_rows m.number m.item.content)
    ≡ false
tile_apart number m h = at m.item.content h
  where
    at : (c : Content) → bytes_eq (kind_number (kind_of c) ∷ unsigned_abs m.number ∷ [])
        (1 ∷ unsigned_abs number ∷ []) ≡ false → list_any (λ r. bytes_eq (tile_shape.key r)
        (unsigned_abs number ∷ [])) (tile_rows m.number c) ≡ false
    at (Tile zoom column row bytes) k = or_from _ false k refl
    at (Media content_type bytes) k = refl
    at (Row x y code label) k = refl

medium_apart : (number : ℤ) (m : Numbered) → IsApart 2 number m
    → list_any (λ r. bytes_eq (medium_shape.key r) (unsigned_abs number ∷ [])) (media_rows m.number m.item.content)
    ≡ false
medium_apart number m h = at m.item.content h
  where
    at : (c : Content) → bytes_eq (kind_number (kind_of c) ∷ unsigned_abs m.number ∷ [])
        (2 ∷ unsigned_abs number ∷ []) ≡ false → list_any (λ r. bytes_eq (medium_shape.key r)
        (unsigned_abs number ∷ [])) (media_rows m.number c) ≡ false
    at (Tile zoom column row bytes) k = refl
    at (Media content_type bytes) k = or_from _ false k refl
    at (Row x y code label) k = refl

attribute_apart : (number : ℤ) (m : Numbered) → IsApart 3 number m
    → list_any (λ r. bytes_eq (attribute_shape.key r) (unsigned_abs number ∷ []))
    (attribute_rows m.number m.item.content) ≡ false
attribute_apart number m h = at m.item.content h
  where
    at : (c : Content) → bytes_eq (kind_number (kind_of c) ∷ unsigned_abs m.number ∷ [])
        (3 ∷ unsigned_abs number ∷ []) ≡ false → list_any (λ r. bytes_eq (attribute_shape.key r)
        (unsigned_abs number ∷ [])) (attribute_rows m.number c) ≡ false
    at (Tile zoom column row bytes) k = refl
    at (Media content_type bytes) k = refl
    at (Row x y code label) k = or_from _ false k refl

-- ---- an item under a number that no identity row has

module _ (f : Frame) (p : Package) (t : Tables) (says : Says f p t) where
  abbrev AreApart : ℕ → ℤ → Type 0
  AreApart kind number = AllByRecursion (IsApart kind number) says.numbered

  apart_of : (n : Numbered) → is_within (pos 1) greatest_number n.number ≡ true
      → list_any (λ x. int_eq x.kind (identity_row n).kind && int_eq x.local_id n.number) t.identities ≡ false
      → AreApart (kind_number (kind_of n.item.content)) n.number
  apart_of n range gap =
      let none = sym (list_any-arranged identity_shape.key (λ x. int_eq x.kind (identity_row n).kind && int_eq
      x.local_id n.number) (map identity_row says.numbered)) ∙ (rw says.identities at gap) in
      let each = All-of_map (λ x. (int_eq x.kind (identity_row n).kind && int_eq x.local_id n.number) ≡ false)
      identity_row says.numbered (none_pass _ (map identity_row says.numbered) none) in
      All-both _ _ (IsApart (kind_number (kind_of n.item.content)) n.number)
      (λ m fit other. sym (same_row m n fit range) ∙ other) says.numbered says.numbers.range each

  identity_free : (kind : ℕ) (number : ℤ) → AreApart kind number
      → has identity_shape.key (kind ∷ unsigned_abs number ∷ []) t.identities ≡ false
  identity_free kind number apart =
      rw says.identities (list_any-arranged identity_shape.key
      (λ r. bytes_eq (identity_shape.key r) (kind ∷ unsigned_abs number ∷ [])) (map identity_row says.numbered)
      ∙ none_any _ (map identity_row says.numbered) (All-map
      (λ r. bytes_eq (identity_shape.key r) (kind ∷ unsigned_abs number ∷ []) ≡ false) identity_row says.numbered
      apart))

  abbrev with_content : ℤ → Content → Tables
  with_content number c = record t {
    tiles = puts tile_shape.key (tile_rows number c) t.tiles;
    media = puts medium_shape.key (media_rows number c) t.media;
    rows = puts attribute_shape.key (attribute_rows number c) t.rows;
  }

  -- the row of the content is new, and so it comes in
  content_in : (number : ℤ) (c : Content) (u : Tables) → AreApart (kind_number (kind_of c)) number
      → AddsContent number c t u → u ≡ with_content number c
  content_in number (Tile zoom column row bytes) u apart adds =
      adds (rw says.tiles (list_any-arranged tile_shape.key (λ r. bytes_eq (tile_shape.key r)
      (unsigned_abs number ∷ [])) _ ∙ no_rows _ (λ m. tile_rows m.number m.item.content) says.numbered
      (All-weaker _ _ (tile_apart number) says.numbered apart)))
  content_in number (Media content_type bytes) u apart adds =
      adds (rw says.media (list_any-arranged medium_shape.key
      (λ r. bytes_eq (medium_shape.key r) (unsigned_abs number ∷ [])) _
      ∙ no_rows _ (λ m. media_rows m.number m.item.content) says.numbered
      (All-weaker _ _ (medium_apart number) says.numbered apart)))
  content_in number (Row x y code label) u apart adds =
      adds (rw says.rows (list_any-arranged attribute_shape.key
      (λ r. bytes_eq (attribute_shape.key r) (unsigned_abs number ∷ [])) _
      ∙ no_rows _ (λ m. attribute_rows m.number m.item.content) says.numbered
      (All-weaker _ _ (attribute_apart number) says.numbered apart)))

  -- and then its identity
  both_in : (n : Numbered) (u v : Tables) → AreApart (kind_number (kind_of n.item.content)) n.number
      → AddsContent n.number n.item.content t u → Adds identities (identity_row n) u v → with_item n t ≡ v
  both_in n u v apart content identity =
      let e = content_in n.number n.item.content u apart content in
      let free : has identity_shape.key (identity_shape.key (identity_row n)) u.identities ≡ false =
      ap (λ x. has identity_shape.key (identity_shape.key (identity_row n)) x.identities) e
      ∙ identity_free (kind_number (kind_of n.item.content)) n.number apart in
      sym (identity free ∙ ap {A = Tables} (λ x. record x {
        identities = put identity_shape.key (identity_row n) x.identities;
      }) e)

item_in : (n : Numbered) (old mid last new : Database) → Answers (IsGap (identity_row n).kind) n.number old mid
    → OnTables (AddsContent n.number n.item.content) mid last → OnTables (Adds identities (identity_row n)) last new
    → Grows (IsNewItem n.item.identity) (item_added n.item) old new
item_in n old mid last new found content identity f p reads fits =
    let formed_mid = subst AreFormed (sym found.0) reads.formed in
    let gap = found.1 reads.formed in
    let one = content formed_mid in
    let two = identity one.0 in
    let apart = apart_of f p (tables_of old) reads.says n gap.0 gap.1 in
    let e = both_in f p (tables_of old) reads.says n (tables_of last) (tables_of new) apart
    (subst (λ d. AddsContent n.number n.item.content (tables_of d) (tables_of last)) found.0 one.1) two.1 in
    let says = adds f p (tables_of old) n reads.says fits.new fits.uuid gap.0
    (identity_free f p (tables_of old) reads.says (kind_number (kind_of n.item.content)) n.number apart) in (
      record { formed = two.0; says = subst (Says f (item_added n.item p)) e says },
      subst (KeepRows (tables_of old)) e
          (item_beside n (tables_of old)),
    )

-- a free number is found, and the rows are put under it
pub add_steps : {E F G : Type 0} (n : Numbered) {old mid last new : State} {x : Unit {0}} {r : Result (Unit {0}) G}
    → Steps {E = E} (Answers (IsGap (identity_row n).kind)) old mid (Ok n.number)
    → Steps {E = F} (λ _. OnTables (AddsContent n.number n.item.content)) mid last (Ok x)
    → Makes (Adds identities (identity_row n)) last new r → Survives last new (λ _. ⊥)
    → Steps (λ _. Grows (IsNewItem n.item.identity) (item_added n.item)) old new r
add_steps n {old} {mid} {last} {new} one two makes survives =
    steps_weaker (λ _. Grows (IsNewItem n.item.identity) (item_added n.item))
    (λ _ chain. item_in n old.now chain.0 chain.2.0 new.now chain.1 chain.2.1 chain.2.2)
    (steps_then one (steps_then two (makes_steps (Adds identities (identity_row n)) makes survives)))

-- ---- steps

-- a row that is put into the table of its content
pub content_put : {E : Type 0} (number : ℤ) (a b : Content) {old new : State} {r : Result (Unit {0}) E} → a ≡ b
    → Makes (AddsContent number b) old new r → Survives old new (λ _. ⊥)
    → Steps (λ _. OnTables (AddsContent number a)) old new r
content_put {E} number a b {old} {new} {r} same makes survives =
    subst (λ k. Steps (λ _. OnTables (AddsContent number k)) old new r) (sym same)
    (makes_steps (AddsContent number b) makes survives)

-- ---- numbers from 1 to the greatest, in turn

-- each of them is within the range
pub within_from : (n : ℤ) → pos 1 ≤ℤ n → int_le n greatest_number ≡ true
    → is_within (pos 1) greatest_number n ≡ true
within_from n low high = and_from (int_le (pos 1) n) (int_le n greatest_number) (grind (arith, ints)) high

-- and the next one is from 1 on
pub next_from : (n : ℤ) → pos 1 ≤ℤ n → int_le n greatest_number ≡ true
    → pos 1 ≤ℤ to_z w64 (of_z w64 (n +ℤ pos 1))
next_from n low high = let fits : FitsSigned w64 (n +ℤ pos 1) =
    omega (arith, ints) in simp (to_z-of_z, fits) (omega (arith, ints))

pub next_is : (n : ℤ) → pos 1 ≤ℤ n → int_le n greatest_number ≡ true
    → n +ℤ pos 1 ≡ to_z w64 (of_z w64 (n +ℤ pos 1))
next_is n low high = let fits : FitsSigned w64 (n +ℤ pos 1) = omega (arith, ints) in sym (to_z-of_z fits)

-- ---- free numbers

-- whether a number is taken, by the row that was looked up
pub taken_steps : {E : Type 0} (kind number : ℤ) (found : Option IdentityRow) {old new : State}
    → Tells {E = E} (λ t. IsOneOf (λ r. int_eq r.kind kind && int_eq r.local_id number) t.identities) old new
    (Ok found) → Survives old new (λ _. ⊥)
    → Steps {E = E} (Answers (IsTaken kind number)) old new (Ok (is_some found))
taken_steps {E} kind number found told survives =
    steps_answer {E = E} {F = E} (Answers (IsTaken kind number)) (is_some found)
    (λ it. (
      it.0,
      λ formed. one_tells (λ r. int_eq r.kind kind && int_eq r.local_id number) _ found
          (it.1 formed),
    ))
    (tells_steps (λ t. IsOneOf (λ r. int_eq r.kind kind && int_eq r.local_id number) t.identities) told survives)

below_is_other : (a b : ℤ) → a <ℤ b → int_eq a b ≡ false
below_is_other a b low = false_from_ne_true (int_eq a b) (λ same. <ℤ_irrefl
    (subst (λ y. y <ℤ b) ((signed_Decides a b).0 same) low))

next_within : (n : ℤ) → is_within (pos 1) (pos 999999) n ≡ true
    → is_within (pos 1) greatest_number (n +ℤ pos 1) ≡ true
next_within n low = let parts : (int_le (pos 1) n ≡ true) × (int_le n (pos 999999) ≡ true) =
    and_parts (int_le (pos 1) n) (int_le n (pos 999999)) low in and_from (int_le (pos 1) (n +ℤ pos 1))
    (int_le (n +ℤ pos 1) greatest_number) (grind (arith, ints)) (grind (arith, ints))

-- a number above those of a kind is not taken
above_free : (kind number : ℤ) (rows : List IdentityRow) → AllByRecursion (λ x. x.local_id <ℤ number)
    (filter (λ x. int_eq x.kind kind) rows) → list_any (λ x. int_eq x.kind kind && int_eq x.local_id number) rows
    ≡ false
above_free kind number [] h = refl
above_free kind number (x ∷ rows) h =
    elim (int_eq x.kind kind) as (λ v. AllByRecursion (λ r. r.local_id <ℤ number)
    (cond v (x ∷ filter (λ r. int_eq r.kind kind) rows) (filter (λ r. int_eq r.kind kind) rows))
    → (v && int_eq x.local_id number || list_any (λ r. int_eq r.kind kind && int_eq r.local_id number) rows)
    ≡ false) [
      | true ↦ λ k. rw (below_is_other x.local_id number k.0) (above_free kind number rows k.1)
      | false ↦ λ k. above_free kind number rows k
    ] h

-- the number after the greatest of a kind is a gap
after_greatest : (kind : ℤ) (t : Tables) (found : Option ℤ) (number : ℤ)
    → IsGreatest (λ x. x.local_id) (filter (λ x. int_eq x.kind kind) t.identities) found
    → number_after found ≡ Some number → IsGap kind t number
after_greatest kind t None number none after =
    let one : pos 1 ≡ number = cc in
    subst (IsGap kind t) one (
      refl,
      above_free kind (pos 1) t.identities
          (subst (AllByRecursion (λ x. x.local_id <ℤ pos 1)) (sym none) tt),
    )
after_greatest kind t (Some n) number greatest after =
    elim (is_within (pos 1) (pos 999999) n) as (λ v. is_within (pos 1) (pos 999999) n ≡ v
    → (if v then Some (n +ℤ pos 1) else None) ≡ Some number → IsGap kind t number) [
      | true ↦ λ low e.
          let next : n +ℤ pos 1 ≡ number = cc in
          let below = All-weaker (λ (x : IdentityRow). x.local_id ≤ℤ n) (λ x. x.local_id <ℤ (n +ℤ pos 1))
          (λ x h. omega (arith, ints)) (filter (λ x. int_eq x.kind kind) t.identities)
          (recursion_from_All (λ x. x.local_id ≤ℤ n) (filter (λ x. int_eq x.kind kind) t.identities)
          greatest.1) in
          subst (IsGap kind t) next (next_within n low, above_free kind (n +ℤ pos 1) t.identities below)
      | false ↦ λ _ e. absurd (let none : None ≡ Some number = e in cc)
    ] refl after

-- by the greatest number that was looked up
pub greatest_steps : {E : Type 0} (kind : ℤ) {old new : State} {r : Result (Option ℤ) E}
    → Tells (λ t. IsGreatest (λ x. x.local_id) (filter (λ x. int_eq x.kind kind) t.identities)) old new r
    → Survives old new (λ _. ⊥)
    → Steps (Answers (λ t. IsGreatest (λ x. x.local_id) (filter (λ x. int_eq x.kind kind) t.identities))) old new r
greatest_steps kind told survives = tells_steps (λ t. IsGreatest (λ x. x.local_id)
    (filter (λ x. int_eq x.kind kind) t.identities)) told survives

pub after_steps : {E F : Type 0} (kind : ℤ) (found : Option ℤ) (number : ℤ) {old new : State}
    → number_after found ≡ Some number
    → Steps {E = E} (Answers (λ t. IsGreatest (λ x. x.local_id) (filter (λ x. int_eq x.kind kind) t.identities)))
    old
    new (Ok found) → Steps {E = F} (Answers (FindsGap kind)) old new (Ok (Some number))
after_steps {E} {F} kind found number {old} after told = steps_answer {E = E} {F = F} (Answers (FindsGap kind))
    (Some number) (λ it. (it.0, λ formed. after_greatest kind (tables_of old.now) found number (it.1 formed) after))
    told

-- steps that leave the store as it was, and then an answer
pub same_then : {X Y E F : Type 0} {First : X → Database → Database → Type 0} (Answer : Tables → Y → Type 0)
    {old mid new : State} {x : X} {r : Result Y F} → ((a b : Database) → First x a b → b ≡ a)
    → Steps {E = E} First old mid (Ok x)
    → Steps {E = F} (Answers Answer) mid new r → Steps {E = F} (Answers Answer) old new r
same_then {X} {Y} {E} {F} {First} Answer {old} {mid} {new} {x} {r} same one two =
    steps_weaker {X = Y} {E = F} (Answers Answer)
    (λ y chain. let e = same old.now chain.0 chain.1 in (
      chain.2.0
          ∙ e,
      subst (λ d. AreFormed d → Answer (tables_of d) y) e chain.2.1,
    ))
    (steps_then {X = X} {E = E} {First = First} {x = x} one two)

-- a number that is not taken is a gap
pub gap_steps : {E F : Type 0} (kind number : ℤ) (taken : Bool) {old new : State}
    → is_within (pos 1) greatest_number number ≡ true → taken ≡ false
    → Steps {E = E} (Answers (IsTaken kind number)) old new (Ok taken)
    → Steps {E = F} (Answers (IsGap kind)) old new (Ok number)
gap_steps {E} {F} kind number taken range none told = steps_answer {E = E} {F = F} (Answers (IsGap kind)) number
    (λ it. (it.0, λ formed. (range, sym (it.1 formed) ∙ none))) told

-- a gap of a kind, by what its number is
pub gap_of : {E : Type 0} {kind k : ℤ} {old new : State} {r : Result (Option ℤ) E} → kind ≡ k
    → Steps (Answers (FindsGap kind)) old new r → Steps (Answers (FindsGap k)) old new r
gap_of {E} {kind} {k} {old} {new} {r} same gap = subst (λ z. Steps (Answers (FindsGap z)) old new r) same gap

-- an identity row, by what its parts are
pub identity_makes : {E : Type 0} (kind k number : ℤ) (text u : List ℕ) (old new : State) (r : Result (Unit {0}) E)
    → kind ≡ k → text ≡ u → Makes (Adds identities (record { kind = kind; local_id = number; uuid = text }))
    old new r
    → Makes (Adds identities (record { kind = k; local_id = number; uuid = u })) old new r
identity_makes {E} kind k number text u old new r same texts makes =
    subst (λ z. Makes (Adds identities (record { kind = z; local_id = number; uuid = u })) old new r) same
    (subst (λ z. Makes (Adds identities (record { kind = kind; local_id = number; uuid = z })) old new r) texts
    makes)
