-- Whether a merge would leave too many, by sums and numbers that are kept.
use Rattle.std.specs.Prelude.{◌≡◌, ◌≤◌, ◌<◌, ℕ, zero, suc, ℤ, ◌+◌, ◌-◌, ◌*◌, ◌^◌}
use Rattle.std.specs.Prelude.{Bool, true, false, cond, ◌||◌, not}
use Rattle.std.specs.Prelude.{nat_lt, List, [], ◌∷◌, ◌++◌, map, find, length, refl, bytes_eq, Option, Some}
use Rattle.std.specs.Prelude.{None}
use Rattle.std.specs.Prelude.{is_some, option_map, unwrap_or, slice_get, slice_set, MatchOption}
use Rattle.std.proofs.Common.{sym, ap, subst, ◌∙◌, arith, length-append}
use Rattle.std.proofs.lemmas.Bool.{true≢false, or_parts, ltb-false, le-ltb}
use Rattle.std.proofs.lemmas.List.{length-map, length-set, map-set}
use Rattle.std.proofs.lemmas.Map.Keys.{any_passes_from_place}
use Rattle.std.proofs.lemmas.Option.{slice_get_within}
use Rattle.std.proofs.lemmas.Slice.Eq.{bytes_eq-Decides}
use Rattle.std.proofs.lemmas.Slice.Zip.{AllZip-long}
use Rattle.std.specs.List.{list_any, AllByRecursion, remove}
use Rattle.std.specs.Option.{option_or}
use Rattle.sqlite.specs.Store.{Ghosts}
use Rattle.sheet_types.specs.Answers.{sums_held}
use Rattle.sheet_types.specs.Custody.{kept, ends_at}
use Rattle.sheet_types.specs.Lines.{HasTypes, IsUuid}
use Rattle.sheet_types.specs.Matrix.{first_row}
use Rattle.sheet_types.specs.Ordered.{arranged}
use Rattle.sheet_types.specs.Refuse.{is_overfull, too_many, greatest_items, greatest_links, greatest_packages}
use Rattle.sheet_types.specs.Refuse.{greatest_receipts, greatest_depth, takes_place, place_key, foreign, loan_open}
use Rattle.sheet_types.specs.Refuse.{collides}
use Rattle.sheet_types.specs.Register.{IsRegister}
use Rattle.sheet_types.specs.Step.{accepted, receipt_of}
use Rattle.sheet_types.specs.World.{World, Package, is_live, holdings, no_package, receipts_of}
use Rattle.sheet_types.specs.declared.command.Command.TheVariants.{Merge}
use Rattle.sheet_types.specs.declared.command.Item.{Item}
use Rattle.sheet_types.specs.declared.command.Request.{Request}
use Rattle.sheet_types.specs.declared.receipt.Receipt.{Receipt}
use Rattle.sheet_types.specs.declared.receipt.Sums.{Sums}
use Rattle.sheet_types.specs.declared.refusal.Refusal.TheVariants.{Collides}
use Rattle.sheet_types.proofs.Basics.{None≢Some, not_false}
use Rattle.sheet_types.proofs.Every.{none_pass}
use Rattle.sheet_types.proofs.Found.{none_found}
use Rattle.sheet_types.proofs.Order.{All-of_arranged}
use Rattle.sheet_laws.specs.Laws.{merge_request}
use Rattle.sheet_laws.proofs.Accepting.{rows_fail}
use Rattle.sheet_laws.proofs.CutEnds.{least_none, none_taken}
use Rattle.sheet_laws.proofs.Facts.{kept_at}
use Rattle.sheet_laws.proofs.Merging as merge
use Rattle.sheet_laws.proofs.Merging.{Known}
use Rattle.sheet_laws.proofs.Shifting.{ends_at_is}
use Rattle.identity_register.proofs.Finding.{any_map}
use Rattle.register_lending.specs.Lending.{returned}
use Rattle.world_decisions.specs.DecidingMerges.{IsMergeAt, kept_reasons, refusal_by_kept, refusal_by_held}
use Rattle.world_decisions.specs.DecidingMerges.{leaves_too_many}
use Rattle.world_loans.specs.Loans.{place_without}
use Rattle.world_members.specs.Members.{IsMember, AreMembers}
use Rattle.world_members.specs.Reasons.{text_reasons}
use Rattle.world_members.specs.Steps.{is_past_limits, sums_moved, sums_more}
use Rattle.world_queries.specs.Sums.{IsCounted}
use Rattle.world_members.specs.declared.members.Member.{Member}
use Rattle.world_members.proofs.Counting.{bytes_within}
use Rattle.world_loans.proofs.DueMerges.{sums_joined, one_more, two, packages_after}
use Rattle.world_loans.proofs.DueSplits.{held_moved}
use Rattle.world_loans.proofs.Listing.{set_elsewhere, set_then_removed}
use Rattle.world_queries.proofs.Overfull.{get_set_same}
use Rattle.world_loans.proofs.Listing.{length_removed}
use Rattle.world_loans.proofs.Listing.{still_there}
use Rattle.world_members.proofs.Standing.{zip_at, zip_map}

-- ---- what is known of a merge that nothing speaks against

-- where neither of two is there, both are missing
pub neither : {X : Type 0} (a b : Option X) → option_or a b ≡ None → (a ≡ None) × (b ≡ None)
neither None b none = (refl, none)
neither (Some x) b none = absurd (None≢Some (sym none))

nothing_mapped : {X Y : Type 0} (f : X → Y) (o : Option X) → option_map f o ≡ None → o ≡ None
nothing_mapped f None none = refl
nothing_mapped f (Some x) none = absurd (None≢Some (sym none))

-- a package is no loan of itself
pub not_its_own : (w : World) (child : List ℕ) → IsRegister w → is_live w child ≡ true
    → ends_at (holdings w child).parent child ≡ false
not_its_own w child register live =
    elim (ends_at (holdings w child).parent child) as (λ v. ends_at (holdings w child).parent child ≡ v
    → v ≡ false) [
      | true ↦ λ own.
          let deeper : (is_live w child ≡ true) × ((holdings w child).depth ≡ (holdings w child).depth + 1)
          × ((holdings w child).depth ≤ greatest_depth) =
          subst (λ o. MatchOption o (((holdings w child).depth ≡ 0) × ((holdings w child).loan ≡ 0))
          (λ p. (is_live w p ≡ true) × ((holdings w child).depth ≡ (holdings w p).depth + 1)
          × ((holdings w child).depth ≤ greatest_depth))) (ends_at_is (holdings w child).parent child own)
          (kept_at w child register live).parent in
          absurd (omega (arith, deeper.1))
      | false ↦ λ _. refl
    ] refl

pub known_by : (w : World) (id moment child into : List ℕ) (number : ℤ) (types : HasTypes (Merge child into number))
    (register : IsRegister w) → kept w id ≡ None → is_live w child ≡ true → is_live w into ≡ true
    → refusal_by_held w (merge_request id moment child into number) ≡ None
    → Known w id moment child into number types register
known_by w id moment child into number types register new child_live into_live before =
    let parts = neither (refusal_by_kept w (merge_request id moment child into number))
    (option_map Collides (collides w (Merge child into number))) before in
    let rows = rows_fail (kept_reasons w (Merge child into number))
    (neither (first_row (text_reasons (merge_request id moment child into number)))
    (first_row (kept_reasons w (Merge child into number))) parts.0).1 in
    let own : ends_at (holdings w child).parent into ≡ true =
    not_false (ends_at (holdings w child).parent into) rows.0 in
    let free : find (λ i. takes_place (holdings w into) i.content) (arranged place_key (holdings w child).items)
    ≡ None =
    nothing_mapped (λ i. i.identity) (find (λ i. takes_place (holdings w into) i.content)
    (arranged place_key (holdings w child).items)) (nothing_mapped Collides (collides w (Merge child into number))
    parts.1) in
    record {
      new_request = none_found (λ r. bytes_eq r.request id) (receipts_of w) new;
      child_live = child_live;
      into_live = into_live;
      parent = ends_at_is (holdings w child).parent into own;
      apart = elim (bytes_eq child into) as (λ v. bytes_eq child into ≡ v → v ≡ false) [
        | true ↦ λ same. absurd (true≢false (sym own ∙ ap (ends_at (holdings w child).parent)
            (sym ((bytes_eq-Decides child into).0 same)) ∙ not_its_own w child register child_live))
        | false ↦ λ _. refl
      ] refl;
      no_loans = none_taken (λ x. x.uuid) (λ x. ends_at x.parent child) w.packages (least_none _ rows.1.1.0);
      free = All-of_arranged place_key (λ i. takes_place (holdings w into) i.content ≡ false)
          (holdings w child).items
          (none_pass (λ i. takes_place (holdings w into) i.content) (arranged place_key (holdings w child).items)
          (none_found (λ i. takes_place (holdings w into) i.content) (arranged place_key (holdings w child).items)
          free));
    }

-- ---- one goes whose test another passes too

-- a test of all, by that of one and of the others
any_removed : {X : Type 0} (p : X → Bool) (xs : List X) (gone : ℕ) (x : X) → slice_get xs gone ≡ Some x
    → list_any p xs ≡ (p x || list_any p (remove xs gone))
any_removed p [] gone x there = absurd (let e = there in cc)
any_removed p (y ∷ ys) zero x there = let same : y ≡ x = cc in ap (λ v. p v || list_any p ys) same
any_removed p (y ∷ ys) (suc gone) x there = ap (λ b. p y || b) (any_removed p ys gone x there)
    ∙ swap (p y) (p x) (list_any p (remove ys gone))
  where
    swap : (a b c : Bool) → (a || (b || c)) ≡ (b || (a || c))
    swap true true c = refl
    swap true false c = refl
    swap false true c = refl
    swap false false c = refl

same_without : {X : Type 0} (p : X → Bool) (xs : List X) (gone at : ℕ) (x y : X) → slice_get xs gone ≡ Some x
    → slice_get xs at ≡ Some y → ¬ (gone ≡ at) → (p x ≡ true → p y ≡ true)
    → list_any p (remove xs gone) ≡ list_any p xs
same_without p xs gone at x y there here two weaker =
    elim (p x) as (λ v. p x ≡ v → list_any p (remove xs gone) ≡ list_any p xs) [
      | true ↦ λ passes.
          any_passes_from_place p (remove xs gone) (place_without gone at) y (still_there xs gone at y here two)
          (weaker passes)
          ∙ sym (any_removed p xs gone x there ∙ ap (λ b. b || list_any p (remove xs gone)) passes)
      | false ↦ λ fails. sym (any_removed p xs gone x there ∙ ap (λ b. b || list_any p (remove xs gone)) fails)
    ] refl

-- ---- limits of sums

-- within the limits each sum is
within : (held : Sums) → is_past_limits held ≡ false → (held.tiles ≤ 1000000) × (held.media ≤ 1000000)
    × (held.rows ≤ 1000000) × (held.links ≤ 4000000)
within held few =
    let last = or_parts (nat_lt greatest_items held.tiles || nat_lt greatest_items held.media || nat_lt greatest_items
    held.rows) (nat_lt greatest_links held.links) few in
    let third = or_parts (nat_lt greatest_items held.tiles || nat_lt greatest_items held.media)
    (nat_lt greatest_items held.rows) last.0 in
    let first = or_parts (nat_lt greatest_items held.tiles) (nat_lt greatest_items held.media) third.0 in (
      ltb-false greatest_items held.tiles first.0,
      ltb-false greatest_items held.media first.1,
      ltb-false
          greatest_items held.rows third.1,
      ltb-false greatest_links held.links last.1,
    )

-- and where each is, they are
few_enough : (held : Sums) → held.tiles ≤ 1000000 → held.media ≤ 1000000 → held.rows ≤ 1000000
    → held.links ≤ 4000000
    → is_past_limits held ≡ false
few_enough held tiles media rows links =
    ap (λ b. b || nat_lt greatest_items held.media || nat_lt greatest_items held.rows || nat_lt greatest_links
    held.links) (le-ltb greatest_items held.tiles tiles)
    ∙ ap (λ b. b || nat_lt greatest_items held.rows || nat_lt greatest_links held.links)
    (le-ltb greatest_items held.media media)
    ∙ ap (λ b. b || nat_lt greatest_links held.links) (le-ltb greatest_items held.rows rows)
    ∙ le-ltb greatest_links held.links links

-- what is past a limit is so with more
past_with_more : (some held : Sums) → is_past_limits some ≡ true → is_past_limits (sums_more some held) ≡ true
past_with_more some held past =
    elim (is_past_limits (sums_more some held)) as (λ v. is_past_limits (sums_more some held) ≡ v → v ≡ true) [
      | true ↦ λ _. refl
      | false ↦ λ few.
          let parts = within (sums_more some held) few in
          let tiles : held.tiles + some.tiles ≤ 1000000 = parts.0 in
          let media : held.media + some.media ≤ 1000000 = parts.1 in
          let rows : held.rows + some.rows ≤ 1000000 = parts.2 in
          let links : held.links + some.links ≤ 4000000 = parts.3 in
          absurd (true≢false (sym past ∙ few_enough some (omega (arith, tiles)) (omega (arith, media))
          (omega (arith, rows)) (omega (arith, links))))
    ] refl

-- within the limits what two packages hold can be counted
counted_together : (some held : Sums) → some.bytes ≤ 1048576 * (some.tiles + some.media + some.rows)
    → held.bytes ≤ 1048576 * (held.tiles + held.media + held.rows)
    → is_past_limits (sums_more some held) ≡ false
    → IsCounted (sums_more some held)
counted_together some held small bytes few =
    let parts = within (sums_more some held) few in
    let tiles : held.tiles + some.tiles ≤ 1000000 = parts.0 in
    let media : held.media + some.media ≤ 1000000 = parts.1 in
    let rows : held.rows + some.rows ≤ 1000000 = parts.2 in
    let links : held.links + some.links ≤ 4000000 = parts.3 in
    record {
      tiles = omega (arith, tiles);
      media = omega (arith, media);
      rows = omega (arith, rows);
      links = omega (arith, links);
      bytes = omega (arith, small, bytes, tiles, media, rows);
    }

-- ---- what it would leave

module _ (w : World) (id moment child into : List ℕ) (number : ℤ) (types : HasTypes (Merge child into number))
    (register : IsRegister w) (uuid : IsUuid id) (k : Known w id moment child into number types register)
    (from at : ℕ) (child_there : slice_get w.packages from ≡ Some (holdings w child))
    (into_there : slice_get w.packages at ≡ Some (holdings w into)) where
  abbrev receipt : Receipt
  receipt = receipt_of w (merge_request id moment child into number)

  abbrev next : World
  next = accepted w (merge_request id moment child into number)

  -- the parent with all, and what it holds
  abbrev both : Package
  both = returned receipt (record { items = (holdings w child).items; links = (holdings w child).links })
      (holdings w child) (holdings w into)

  abbrev sums : Sums
  sums = sums_more (sums_moved receipt) (sums_held (holdings w into))

  held_child : sums_held (holdings w child) ≡ sums_moved receipt
  held_child = held_moved receipt.seq (merge_request id moment child into number) (holdings w child)

  held_both : sums_held both ≡ sums
  held_both = sums_joined receipt (holdings w child) (holdings w into)
      ∙ ap (λ s. sums_more s (sums_held (holdings w into))) held_child

  apart : ¬ (from ≡ at)
  apart = two w id moment child into number types register uuid k from at child_there into_there

  abbrev with_both : List Package
  with_both = slice_set w.packages at both

  -- the child is past a limit only where the parent is
  overfull : list_any is_overfull next.packages ≡ list_any is_past_limits
      (slice_set (map sums_held w.packages) at sums)
  overfull =
      ap (list_any is_overfull) (packages_after w id moment child into number types register uuid k from at
      child_there into_there ∙ sym (set_then_removed w.packages from at both apart))
      ∙ same_without is_overfull with_both from at (holdings w child) both
      (set_elsewhere w.packages at from both apart ∙ child_there)
      (get_set_same w.packages at both (slice_get_within w.packages at (holdings w into) into_there)) apart
      (λ past. ap is_past_limits held_both ∙ past_with_more (sums_moved receipt) (sums_held (holdings w into))
      (ap is_past_limits (sym held_child) ∙ past))
      ∙ sym (any_map sums_held is_past_limits with_both)
      ∙ ap (list_any is_past_limits) (map-set sums_held w.packages at both
      ∙ ap (slice_set (map sums_held w.packages) at) held_both)

  fewer : length next.packages ≡ length w.packages - 1
  fewer =
      let one : length (remove w.packages from) + 1 ≡ length w.packages =
      length_removed w.packages from (holdings w child) child_there in
      ap length (packages_after w id moment child into number types register uuid k from at child_there into_there)
      ∙ length-set (remove w.packages from) (place_without from at) both ∙ omega (arith, one)

  more : length (receipts_of next) ≡ length (receipts_of w) + 1
  more = ap length (one_more w id moment child into number types register uuid k)
      ∙ length-append (receipts_of w) (receipt ∷ [])

  too_many_so : too_many next ≡ (list_any is_past_limits (slice_set (map sums_held w.packages) at sums) || nat_lt
      greatest_packages (length w.packages - 1) || nat_lt greatest_receipts (length (receipts_of w) + 1))
  too_many_so =
      ap (λ b. b || nat_lt greatest_packages (length next.packages) || nat_lt greatest_receipts
      (length (receipts_of next))) overfull
      ∙ ap (λ n. list_any is_past_limits (slice_set (map sums_held w.packages) at sums) || nat_lt greatest_packages n
      || nat_lt greatest_receipts (length (receipts_of next))) fewer
      ∙ ap (λ n. list_any is_past_limits (slice_set (map sums_held w.packages) at sums) || nat_lt greatest_packages
      (length w.packages - 1) || nat_lt greatest_receipts n) more

  -- what cannot be counted is past a limit
  uncounted_so : (IsCounted sums → ⊥) → too_many next ≡ true
  uncounted_so cannot =
      let places : at < length (map sums_held w.packages) = omega
      (arith, length-map w.packages sums_held, slice_get_within w.packages at (holdings w into) into_there) in
      let small : (sums_moved receipt).bytes ≤ 1048576 * ((sums_moved receipt).tiles + (sums_moved receipt).media +
      (sums_moved receipt).rows) = subst (λ (s : Sums). s.bytes ≤ 1048576 * (s.tiles + s.media + s.rows))
      held_child (bytes_within w child register k.child_live) in
      elim (is_past_limits sums) as (λ v. is_past_limits sums ≡ v → too_many next ≡ true) [
        | true ↦ λ past.
            too_many_so
            ∙ ap (λ b. b || nat_lt greatest_packages (length w.packages - 1) || nat_lt greatest_receipts
            (length (receipts_of w) + 1))
            (any_passes_from_place is_past_limits (slice_set (map sums_held w.packages) at sums) at sums
            (get_set_same (map sums_held w.packages) at sums places) past)
        | false ↦ λ few. absurd (cannot (counted_together (sums_moved receipt) (sums_held (holdings w into)) small
            (bytes_within w into register k.into_live) few))
      ] refl

-- ---- told by the members

-- the request by its parts
pub as_request : (q : Request) (child into : List ℕ) (number : ℤ) → q.command ≡ Merge child into number
    → q ≡ merge_request q.id q.at child into number
as_request q child into number is = ap (λ c. record { id = q.id; at = q.at; command = c }) is

module _ (count from at : ℕ) (q : Request) (w : World) (register : IsRegister w) (is : IsMergeAt count from at q w)
    (before : refusal_by_held w q ≡ None) where
  abbrev asked : Request
  asked = merge_request q.id q.at is.child is.into is.number

  abbrev sums_of : Request → Sums
  sums_of x = sums_more (sums_moved (receipt_of w x)) (sums_held (holdings w is.into))

  known : Known w q.id q.at is.child is.into is.number is.types register
  known = known_by w q.id q.at is.child is.into is.number is.types register is.new is.child_live is.into_live
      (subst (λ x. refusal_by_held w x ≡ None) (as_request q is.child is.into is.number is.merges) before)

  abbrev Told : Request → Type 0
  Told x = too_many (accepted w x) ≡ (list_any is_past_limits (slice_set (map sums_held w.packages) at (sums_of x)) ||
      nat_lt greatest_packages (length w.packages - 1) || nat_lt greatest_receipts (length (receipts_of w) + 1))

  told : Told q
  told = subst Told (sym (as_request q is.child is.into is.number is.merges))
      (too_many_so w q.id q.at is.child is.into is.number is.types register is.uuid known from at is.child_at
      is.into_at)

  abbrev Uncounted : Request → Type 0
  Uncounted x = (IsCounted (sums_of x) → ⊥) → too_many (accepted w x) ≡ true

  uncounted : Uncounted q
  uncounted = subst Uncounted (sym (as_request q is.child is.into is.number is.merges))
      (uncounted_so w q.id q.at is.child is.into is.number is.types register is.uuid known from at is.child_at
      is.into_at)

  module _ {S : Type 0} (g : Ghosts S) (members : List (Member S)) (are : AreMembers g members count w)
      (was : Member S) (place : slice_get members at ≡ Some was) where
    pub held : was.sums ≡ sums_held (holdings w is.into)
    held =
        let here = zip_at (IsMember g w) members w.packages at was are.each place in
        here.2.sums ∙ ap (λ o. sums_held (unwrap_or o no_package)) (sym here.1 ∙ is.into_at)

    abbrev left : Sums
    left = sums_more (sums_moved (receipt_of w q)) was.sums

    same_left : left ≡ sums_of q
    same_left = ap (sums_more (sums_moved (receipt_of w q))) held

    pub members_tell : leaves_too_many members at left count ≡ too_many (accepted w q)
    members_tell =
        ap (λ s. leaves_too_many members at s count) same_left
        ∙ ap (λ ss. list_any is_past_limits (slice_set ss at (sums_of q)) || nat_lt greatest_packages
        (length members - 1) || nat_lt greatest_receipts (count + 1))
        (zip_map (IsMember g w) (λ m. m.sums) sums_held (λ m y of. of.sums) members w.packages are.each)
        ∙ ap (λ n. list_any is_past_limits (slice_set (map sums_held w.packages) at (sums_of q)) || nat_lt
        greatest_packages (n - 1) || nat_lt greatest_receipts (count + 1))
        (sym (AllZip-long (IsMember g w) members w.packages are.each))
        ∙ ap (λ n. list_any is_past_limits (slice_set (map sums_held w.packages) at (sums_of q)) || nat_lt
        greatest_packages (length w.packages - 1) || nat_lt greatest_receipts (n + 1)) is.counted
        ∙ sym told

    pub members_tell_uncounted : (IsCounted left → ⊥) → too_many (accepted w q) ≡ true
    members_tell_uncounted cannot = uncounted (λ can. cannot (subst IsCounted (sym same_left) can))
