-- What the sums of the members tell of the world that a request would leave.
use Rattle.std.proofs.Common.{◌≡◌, ◌<◌, ◌≤◌, refl, sym, ap, subst, ◌∙◌, ℕ, zero, suc, ◌+◌}
use Rattle.std.proofs.Common.{◌*◌, List, [], ◌∷◌, Bool}
use Rattle.std.proofs.Common.{true, false, cond, ◌||◌, map, length, slice_get, slice_set, Some, None, bytes_eq}
use Rattle.std.proofs.Common.{arith}
use Rattle.std.specs.Prelude.{find, not, nat_lt, nat_le, unwrap_or}
use Rattle.std.specs.List.{list_any}
use Rattle.std.proofs.lemmas.Bool.{or_parts, lt-ltb, le-ltb, ltb-false, leb-true, leb-false}
use Rattle.std.proofs.lemmas.Slice.Zip.{AllZip-long}
use Rattle.sqlite.specs.Store.{Ghosts}
use Rattle.sheet_types.specs.Answers.{sums_held}
use Rattle.sheet_types.specs.Matrix.{first_row}
use Rattle.sheet_types.specs.Refuse.{too_many, greatest_items, greatest_links, greatest_packages, greatest_receipts}
use Rattle.sheet_types.specs.Refuse.{bad_text, has_good_size}
use Rattle.sheet_types.specs.Register.{IsRegister}
use Rattle.sheet_types.specs.Step.{accepted, receipt_of}
use Rattle.sheet_types.specs.Texts.{size, is_moment}
use Rattle.sheet_types.specs.World.{World, Package, is_live, holdings, no_package, receipts_of}
use Rattle.sheet_types.specs.declared.command.Command.{Command}
use Rattle.sheet_types.specs.declared.command.Command.TheVariants.{Add, Delete, Link, Unlink, Split, Merge}
use Rattle.sheet_types.specs.declared.command.Request.{Request}
use Rattle.sheet_types.specs.declared.receipt.Sums.{Sums}
use Rattle.sheet_types.specs.declared.refusal.Refusal.TheVariants.{BadText, TooLarge}
use Rattle.sheet_types.proofs.Basics.{None≢Some, not_false}
use Rattle.sheet_types.proofs.Found.{found, All-found}
use Rattle.sheet_types.proofs.Same.{In, In-all, In-map, any_in}
use Rattle.sheet_laws.proofs.Packages.{at_uuid}
use Rattle.world_queries.specs.Asking.{StandsAt}
use Rattle.world_members.specs.Carrying.{Fits}
use Rattle.world_members.specs.Laws.{package_of}
use Rattle.world_members.specs.Members.{IsMember, AreMembers}
use Rattle.world_members.specs.Reasons.{text_reasons}
use Rattle.world_members.specs.Steps.{is_past_limits, sums_moved, sums_more, sums_after, sums_next}
use Rattle.world_queries.specs.Sums.{IsCounted, CanCount}
use Rattle.world_queries.specs.TooMany.{TooManyUncounted, MemberHolds, MembersHoldNext, MembersTellTooMany}
use Rattle.world_queries.specs.TooMany.{MembersTellUncounted}
use Rattle.world_members.specs.declared.members.Member.{Member}
use Rattle.world_members.proofs.Changing.{apart_set}
use Rattle.world_members.proofs.Counting.{sums_after_command, bytes_within, size_within}
use Rattle.world_members.proofs.Limits.{too_many_by_sums}
use Rattle.world_members.proofs.Standing.{zip_at, zip_map}

-- ---- one place of a list

-- what is put at a place stands there
pub get_set_same : {X : Type 0} (xs : List X) (i : ℕ) (x : X) → i < length xs
    → slice_get (slice_set xs i x) i ≡ Some x
get_set_same [] i x within = absurd (omega (arith, within))
get_set_same (y ∷ xs) zero x within = refl
get_set_same (y ∷ xs) (suc i) x within = get_set_same xs i x (omega (arith, within))

-- and every other place is as it was
pub get_set_other : {X : Type 0} (xs : List X) (i j : ℕ) (x : X) → (j ≡ i → ⊥)
    → slice_get (slice_set xs i x) j ≡ slice_get xs j
get_set_other [] i j x differs = refl
get_set_other (y ∷ xs) zero zero x differs = absurd (differs refl)
get_set_other (y ∷ xs) zero (suc j) x differs = refl
get_set_other (y ∷ xs) (suc i) zero x differs = refl
get_set_other (y ∷ xs) (suc i) (suc j) x differs = get_set_other xs i j x (λ e. differs (ap suc e))

-- a number and one more is past a bound that the number has reached
pub one_more_is_over : (bound n : ℕ) → nat_lt bound (n + 1) ≡ nat_le bound n
one_more_is_over bound n =
    elim (nat_le bound n) as (λ v. nat_le bound n ≡ v → nat_lt bound (n + 1) ≡ v) [
      | true ↦ λ e. let h : bound ≤ n = leb-true bound n e in lt-ltb bound (n + 1) (omega (arith, h))
      | false ↦ λ e. let h : n < bound = leb-false bound n e in le-ltb bound (n + 1) (omega (arith, h))
    ] refl

-- ---- what each package holds after a request

module _ (p : List ℕ) (f : Sums → Sums) where
  abbrev next : Package → Sums
  next y = cond (bytes_eq y.uuid p) (f (sums_held y)) (sums_held y)

  -- where it passes a test, one does
  one_passes : (test : Sums → Bool) (ps : List Package) (x : Package) → find (at_uuid p) ps ≡ Some x
      → test (f (sums_held x)) ≡ true → list_any test (map next ps) ≡ true
  one_passes test ps x is passes =
      let there : In x ps × (bytes_eq x.uuid p ≡ true) = All-found (λ y. In y ps) (at_uuid p) x ps is (In-all ps) in
      any_in test (next x) (map next ps) (In-map next x ps there.0)
      (ap (λ b. test (cond b (f (sums_held x)) (sums_held x))) there.1 ∙ passes)

-- ---- sums that can be counted

-- where neither of two reasons holds, the second does not
second_fails : (a b : Bool) → first_row ((a, BadText) ∷ (b, TooLarge) ∷ []) ≡ None → b ≡ false
second_fails true b none = absurd (None≢Some (sym none))
second_fails false true none = absurd (None≢Some (sym none))
second_fails false false none = refl

-- what comes in can be counted, within the limits
more_is_counted : (some held : Sums) → some.bytes ≤ 1048576 → held.bytes ≤ 1048576 *
    (held.tiles + held.media + held.rows) → is_past_limits (sums_more some held) ≡ false
    → IsCounted (sums_more some held)
more_is_counted some held small bytes within =
    let last = or_parts (nat_lt greatest_items (held.tiles + some.tiles) || nat_lt greatest_items
    (held.media + some.media) || nat_lt greatest_items (held.rows + some.rows))
    (nat_lt greatest_links (held.links + some.links)) within in
    let third = or_parts (nat_lt greatest_items (held.tiles + some.tiles) || nat_lt greatest_items
    (held.media + some.media)) (nat_lt greatest_items (held.rows + some.rows)) last.0 in
    let first = or_parts (nat_lt greatest_items (held.tiles + some.tiles))
    (nat_lt greatest_items (held.media + some.media)) third.0 in
    let tiles : held.tiles + some.tiles ≤ 1000000 = ltb-false greatest_items (held.tiles + some.tiles) first.0 in
    let media : held.media + some.media ≤ 1000000 = ltb-false greatest_items (held.media + some.media) first.1 in
    let rows : held.rows + some.rows ≤ 1000000 = ltb-false greatest_items (held.rows + some.rows) third.1 in
    let links : held.links + some.links ≤ 4000000 = ltb-false greatest_links (held.links + some.links) last.1 in
    record {
      tiles = omega (arith, tiles);
      media = omega (arith, media);
      rows = omega (arith, rows);
      links = omega (arith, links);
      bytes = omega (arith, small, bytes, tiles, media, rows);
    }

module _ (w : World) (id at : List ℕ) (register : IsRegister w) where
  abbrev asking : Command → Request
  asking command = record { id = id; at = at; command = command }

  abbrev moved : Command → Sums
  moved command = sums_moved (receipt_of w (asking command))

  abbrev held : Command → Sums
  held command = sums_held (holdings w (package_of command))

  -- within the limits what a package holds after a command can be counted
  can_count : (command : Command) → is_live w (package_of command) ≡ true
      → Fits (receipt_of w (asking command)) command (holdings w (package_of command))
      → first_row (text_reasons (asking command)) ≡ None
      → is_past_limits (sums_after command (moved command) (held command)) ≡ false
      → CanCount command (moved command) (held command)
  can_count (Add p identity content) live fits texts within =
      let good : has_good_size content ≡ true = not_false (has_good_size content)
      (second_fails (not (is_moment at) || bad_text (Add p identity content)) (not (has_good_size content))
      texts) in
      let bytes : (moved (Add p identity content)).bytes ≡ 0 + size content = refl in
      let small : size content ≤ 1048576 = size_within content good in
      more_is_counted (moved (Add p identity content)) (held (Add p identity content)) (omega (arith, bytes, small))
      (bytes_within w p register live) within
  can_count (Delete p identity) live fits texts within = (sums_after_command w (asking (Delete p identity)) register
      live fits).0
  can_count (Link p mapping base other) live fits texts within =
      let bytes : (moved (Link p mapping base other)).bytes ≡ 0 = refl in
      more_is_counted (moved (Link p mapping base other)) (held (Link p mapping base other)) (omega (arith, bytes))
      (bytes_within w p register live) within
  can_count (Unlink p mapping base other) live fits texts within =
      (sums_after_command w (asking (Unlink p mapping base other)) register live fits).0
  can_count (Split p child mode rect) live fits texts within = tt
  can_count (Merge child into ticket) live fits texts within = tt

  -- a package past the limits makes it too many
  past_is_too_many : (command : Command) → is_live w (package_of command) ≡ true
      → Fits (receipt_of w (asking command)) command (holdings w (package_of command))
      → is_past_limits (sums_after command (moved command) (held command)) ≡ true
      → too_many (accepted w (asking command)) ≡ true
  past_is_too_many command live fits past =
      let one : (x : Package) × (find (at_uuid (package_of command)) w.packages ≡ Some x) =
      found (at_uuid (package_of command)) w.packages live in
      let here : holdings w (package_of command) ≡ one.0 = ap (λ o. unwrap_or o no_package) one.1 in
      let passes : is_past_limits (sums_after command (moved command) (sums_held one.0)) ≡ true =
      subst (λ x. is_past_limits (sums_after command (moved command) (sums_held x)) ≡ true) here past in
      too_many_by_sums w (asking command) register live fits
      ∙ ap (λ b. b || nat_lt greatest_packages (length w.packages) || nat_lt greatest_receipts
      (length (receipts_of w) + 1))
      (one_passes (package_of command) (sums_after command (moved command)) is_past_limits w.packages one.0 one.1
      passes)

  uncounted : (command : Command) → is_live w (package_of command) ≡ true
      → Fits (receipt_of w (asking command)) command (holdings w (package_of command))
      → first_row (text_reasons (asking command)) ≡ None
      → (CanCount command (moved command) (held command) → ⊥) → too_many (accepted w (asking command)) ≡ true
  uncounted command live fits texts cannot =
      elim (is_past_limits (sums_after command (moved command) (held command))) as
      (λ v. is_past_limits (sums_after command (moved command) (held command)) ≡ v
      → too_many (accepted w (asking command)) ≡ true) [
        | true ↦ λ past. past_is_too_many command live fits past
        | false ↦ λ within. absurd (cannot (can_count command live fits texts within))
      ] refl

pub too_many_uncounted : TooManyUncounted
too_many_uncounted w q register live fits texts cannot = uncounted w q.id q.at register q.command live fits texts cannot

-- ---- the members

module _ {S : Type 0} (g : Ghosts S) where
  -- the member at the place of a package is it
  pub stands_for : (members : List (Member S)) (count at : ℕ) (w : World) (uuid : List ℕ) (was : Member S)
      → AreMembers g members count w → StandsAt g members uuid at → slice_get members at ≡ Some was
      → IsMember g w was (holdings w uuid)
  stands_for members count at w uuid was are stands place =
      let here = zip_at (IsMember g w) members w.packages at was are.each place in
      let same : here.0 ≡ holdings w uuid = ap (λ o. unwrap_or o no_package)
      (sym here.1 ∙ stands.holds w count are) in
      subst (IsMember g w was) same here.2

  pub member_holds : MemberHolds g
  member_holds members count at w uuid was are stands place =
      (stands_for members count at w uuid was are stands place).sums

  pub members_hold_next : MembersHoldNext g
  members_hold_next members count at w q was are stands place =
      let p : List ℕ = package_of q.command in
      let named : (holdings w (package_of q.command)).uuid ≡ package_of q.command =
      sym (stands_for members count at w (package_of q.command) stands.member are stands stands.place).uuid
      ∙ stands.named in
      ap (λ ss. slice_set ss at (sums_after q.command (sums_moved (receipt_of w q)) was.sums))
      (zip_map (IsMember g w) (λ m. m.sums) sums_held (λ m y is. is.sums) members w.packages are.each)
      ∙ ap (λ s. slice_set (map sums_held w.packages) at (sums_after q.command (sums_moved (receipt_of w q)) s))
      (member_holds members count at w (package_of q.command) was are stands place)
      ∙ sym (apart_set (package_of q.command) (λ y. sums_after q.command (sums_moved (receipt_of w q)) (sums_held y))
      sums_held w.packages at (holdings w (package_of q.command)) are.register.arranged (stands.holds w count are)
      named)

  pub members_tell_too_many : MembersTellTooMany g
  members_tell_too_many members count at w q was are stands place fits =
      ap (λ ss. list_any is_past_limits ss || nat_lt greatest_packages (length members) || nat_lt greatest_receipts
      (count + 1)) (members_hold_next members count at w q was are stands place)
      ∙ ap (λ n. list_any is_past_limits (sums_next w q) || nat_lt greatest_packages n || nat_lt greatest_receipts
      (count + 1)) (sym (AllZip-long (IsMember g w) members w.packages are.each))
      ∙ ap (λ n. list_any is_past_limits (sums_next w q) || nat_lt greatest_packages (length w.packages) || nat_lt
      greatest_receipts (n + 1)) are.counted
      ∙ sym (too_many_by_sums w q are.register (stands.live w count are) fits)

  pub members_tell_uncounted : MembersTellUncounted g
  members_tell_uncounted members count at w q was are stands place fits texts cannot =
      too_many_uncounted w q are.register (stands.live w count are) fits texts
      (λ can. cannot (subst (CanCount q.command (sums_moved (receipt_of w q)))
      (sym (member_holds members count at w (package_of q.command) was are stands place)) can))
