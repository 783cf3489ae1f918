-- What a merge comes to, by what the members and its request tell.
use Rattle.std.proofs.Common.{◌≡◌, ◌≤◌, refl, sym, ap, subst, ◌∙◌, ℕ, ℤ, ◌+◌, ◌-◌, List}
use Rattle.std.proofs.Common.{[], ◌∷◌, Bool, true, false}
use Rattle.std.proofs.Common.{length, slice_get, Option, Some, None, Ok, Err, bytes_eq}
use Rattle.std.specs.Prelude.{not, ◌||◌, ◌&&◌, nat_lt, is_some, unwrap_or, option_map, filter, find, map}
use Rattle.std.specs.Bool.{then_some}
use Rattle.std.specs.List.{list_any}
use Rattle.std.proofs.lemmas.Bool.{or_parts, ltb-false}
use Rattle.std.specs.Option.{option_or, option_and_then}
use Rattle.sqlite.specs.Store.{Ghosts}
use Rattle.sheet_types.specs.Answers.{sums_held}
use Rattle.sheet_types.specs.Custody.{kept, ticket, ends_at}
use Rattle.sheet_types.specs.Cut.{moved_of}
use Rattle.sheet_types.specs.Lines.{IsUuid, HasTypes}
use Rattle.sheet_types.specs.Matrix.{first_row}
use Rattle.sheet_types.specs.Ordered.{arranged, least, IsArranged}
use Rattle.sheet_types.specs.Refuse.{refusal, bad_text, foreign, stale, loan_open, collides, too_many, takes_place}
use Rattle.sheet_types.specs.Refuse.{place_key, greatest_packages, greatest_receipts}
use Rattle.sheet_types.specs.Register.{IsRegister}
use Rattle.sheet_types.specs.Step.{accepted, outcome, outcome_by, refuses, receipt_of, receipt_over, moved}
use Rattle.sheet_types.specs.Texts.{line, is_moment}
use Rattle.sheet_types.specs.World.{World, Package, package_key, is_live, holdings, receipts_of}
use Rattle.sheet_types.specs.declared.command.Command.TheVariants.{Merge}
use Rattle.sheet_types.specs.declared.command.Item.{Item}
use Rattle.sheet_types.specs.declared.command.Relation.{Relation}
use Rattle.sheet_types.specs.declared.command.Request.{Request}
use Rattle.sheet_types.specs.declared.receipt.Moved.{Moved}
use Rattle.sheet_types.specs.declared.receipt.Receipt.{Receipt}
use Rattle.sheet_types.specs.declared.receipt.Sums.{Sums}
use Rattle.sheet_types.specs.declared.refusal.Refusal.{Refusal}
use Rattle.sheet_types.specs.declared.refusal.Refusal.TheVariants.{BadText, TooLarge, UnknownPackage, Foreign, Stale}
use Rattle.sheet_types.specs.declared.refusal.Refusal.TheVariants.{LoanOpen, Collides, TooMany}
use Rattle.sheet_laws.specs.Laws.{merge_request}
use Rattle.register_lending.specs.Selecting.{IsSelectionOf}
use Rattle.identity_register.specs.declared.selection.Selection.{Selection}
use Rattle.world_decisions.specs.Deciding.{Decides}
use Rattle.world_decisions.specs.DecidingMerges.{IsMergeAt, kept_reasons, refusal_by_kept, refusal_by_held}
use Rattle.world_decisions.specs.DecidingMerges.{leaves_too_many, all_of, clash_of, first_clash}
use Rattle.world_decisions.specs.declared.deciding_merges.Clash.{Clash}
use Rattle.world_members.specs.Members.{AreMembers}
use Rattle.world_members.specs.Reasons.{text_reasons}
use Rattle.world_members.specs.Steps.{is_past_limits, sums_moved, sums_more}
use Rattle.world_queries.specs.Asking.{StandsAt}
use Rattle.world_queries.specs.Sums.{IsCounted}
use Rattle.world_queries.specs.TooMany.{sums_with}
use Rattle.world_decisions.specs.declared.deciding.Decision.TheVariants.{Answered, MergeDue}
use Rattle.world_members.specs.declared.members.Member.{Member}
use Rattle.world_loans.proofs.DueMerges.{returned_where_accepted}
use Rattle.world_decisions.proofs.MergeLimits as MergeLimits
use Rattle.world_decisions.proofs.MergeLimits.{as_request, members_tell, members_tell_uncounted}
use Rattle.world_loans.proofs.MergeReasons.{merge_refused_in_turn, merge_refused_as_unknown}
use Rattle.world_members.proofs.Outcomes.{refused_outcome}

-- ---- the first reason

-- the first of some reasons, part by part
in_parts : (a f s l k t : Bool) (ra rz rf rs rl rk rt : Refusal)
    → first_row ((a, ra) ∷ (f, rf) ∷ (s, rs) ∷ (l, rl) ∷ (k, rk) ∷ (t, rt) ∷ [])
    ≡ option_or (option_or (option_or (first_row ((a, ra) ∷ (false, rz) ∷ []))
    (first_row ((f, rf) ∷ (s, rs) ∷ (l, rl) ∷ []))) (then_some k rk)) (then_some t rt)
in_parts true f s l k t ra rz rf rs rl rk rt = refl
in_parts false true s l k t ra rz rf rs rl rk rt = refl
in_parts false false true l k t ra rz rf rs rl rk rt = refl
in_parts false false false true k t ra rz rf rs rl rk rt = refl
in_parts false false false false true t ra rz rf rs rl rk rt = refl
in_parts false false false false false true ra rz rf rs rl rk rt = refl
in_parts false false false false false false ra rz rf rs rl rk rt = refl

carried : (o : Option (List ℕ)) → then_some (is_some o) (Collides (unwrap_or o [])) ≡ option_map Collides o
carried None = refl
carried (Some x) = refl

refused_in_parts : (w next : World) (id moment child into : List ℕ) (number : ℤ) → kept w id ≡ None
    → is_live w child ≡ true → is_live w into ≡ true
    → refusal w next (merge_request id moment child into number)
    ≡ option_or (refusal_by_held w (merge_request id moment child into number))
    (then_some (too_many next) TooMany)
refused_in_parts w next id moment child into number new child_live into_live =
    let o : Option (List ℕ) = loan_open w (Merge child into number) in
    let c : Option (List ℕ) = collides w (Merge child into number) in
    merge_refused_in_turn w next id moment child into number new child_live into_live
    ∙ in_parts (not (is_moment moment) || bad_text (Merge child into number)) (foreign w (Merge child into number))
    (stale w (Merge child into number)) (is_some o) (is_some c) (too_many next)
    BadText TooLarge Foreign (Stale (ticket w child)) (LoanOpen (unwrap_or o [])) (Collides (unwrap_or c [])) TooMany
    ∙ ap (λ x. option_or (option_or (refusal_by_kept w (merge_request id moment child into number)) x)
    (then_some (too_many next) TooMany)) (carried c)

-- where it is refused, it is so before or for what it would leave
refused_so : (count from at : ℕ) (q : Request) (w : World) → IsMergeAt count from at q w
    → refusal w (accepted w q) q ≡ option_or (refusal_by_held w q) (then_some (too_many (accepted w q)) TooMany)
refused_so count from at q w is =
    subst (λ x. refusal w (accepted w x) x ≡ option_or (refusal_by_held w x)
    (then_some (too_many (accepted w x)) TooMany)) (sym (as_request q is.child is.into is.number is.merges))
    (refused_in_parts w (accepted w (merge_request q.id q.at is.child is.into is.number)) q.id q.at is.child is.into
    is.number is.new is.child_live is.into_live)

-- ---- it is refused

-- one of its packages is not live
pub decides_unknown : (w : World) (q : Request) (child into : List ℕ) (number : ℤ)
    → q.command ≡ Merge child into number → kept w q.id ≡ None → (is_live w child && is_live w into) ≡ false
    → Decides w q (Answered (Err UnknownPackage))
decides_unknown w q child into number is new dead =
    subst (λ x. outcome w x ≡ (Err UnknownPackage, w)) (sym (as_request q child into number is))
    (refused_outcome w (merge_request q.id q.at child into number) UnknownPackage new
    (merge_refused_as_unknown w (accepted w (merge_request q.id q.at child into number)) q.id q.at child into
    number new dead))

-- for what is kept
pub decides_by_kept : (count from at : ℕ) (q : Request) (w : World) (why : Refusal) → IsMergeAt count from at q w
    → refusal_by_kept w q ≡ Some why → Decides w q (Answered (Err why))
decides_by_kept count from at q w why is before =
    refused_outcome w q why is.new (refused_so count from at q w is
    ∙ ap (λ o. option_or (option_or o (option_map Collides (collides w q.command)))
    (then_some (too_many (accepted w q)) TooMany)) before)

-- for what is held
pub decides_by_held : (count from at : ℕ) (q : Request) (w : World) (why : Refusal) → IsMergeAt count from at q w
    → refusal_by_held w q ≡ Some why → Decides w q (Answered (Err why))
decides_by_held count from at q w why is before =
    refused_outcome w q why is.new (refused_so count from at q w is
    ∙ ap (λ o. option_or o (then_some (too_many (accepted w q)) TooMany)) before)

-- for what it would leave
decides_too_many : (count from at : ℕ) (q : Request) (w : World) → IsMergeAt count from at q w
    → refusal_by_held w q ≡ None → too_many (accepted w q) ≡ true → Decides w q (Answered (Err TooMany))
decides_too_many count from at q w is before many =
    refused_outcome w q TooMany is.new (refused_so count from at q w is
    ∙ ap (λ o. option_or o (then_some (too_many (accepted w q)) TooMany)) before
    ∙ ap (λ b. then_some b TooMany) many)

-- ---- it is due

accepted_outcome : (w : World) (q : Request) → kept w q.id ≡ None → refusal w (accepted w q) q ≡ None
    → outcome w q ≡ (Ok (receipt_of w q), accepted w q)
accepted_outcome w q new none =
    ap (λ k. outcome_by w q k (refuses w q)) (ap (option_and_then
    (λ r. then_some (bytes_eq r.line (line q.command)) r)) new) ∙ ap (outcome_by w q None) none

module _ (w : World) (from at : ℕ) (child into : List ℕ) (selection : Selection) (receipt : Receipt)
    (sums : Sums) where
  abbrev DueOf : Request → Type 0
  DueOf x = kept w x.id ≡ None → refusal w (accepted w x) x ≡ None → receipt ≡ receipt_of w x
      → sums ≡ sums_more (sums_moved (receipt_of w x)) (sums_held (holdings w into))
      → Decides w x (MergeDue (record {
        from = from;
        into = at;
        selection = selection;
        receipt = receipt;
        sums = sums;
      }))

  due_of : (id moment : List ℕ) (number : ℤ) → IsRegister w → IsUuid id → HasTypes (Merge child into number)
      → slice_get w.packages from ≡ Some (holdings w child) → slice_get w.packages at ≡ Some (holdings w into)
      → IsSelectionOf (all_of (holdings w child)) selection → DueOf (merge_request id moment child into number)
  due_of id moment number register uuid types child_at into_at selected new none made weighed = (
    accepted w (merge_request id moment child into number),
    subst (λ r. outcome w (merge_request id moment child into number)
        ≡ (Ok r, accepted w (merge_request id moment child into number))) (sym made)
        (accepted_outcome w (merge_request id moment child into number) new none),
    returned_where_accepted w id moment child into number (record
        { from = from; into = at; selection = selection; receipt = receipt; sums = sums }) register uuid types new
        none
        (record { child_at = child_at; parent_at = into_at; selected = selected; receipt = made; sums = weighed }),
  )

module _ {S : Type 0} (g : Ghosts S) (members : List (Member S)) (count from at : ℕ) (q : Request) (w : World)
    (was : Member S) (are : AreMembers g members count w) (is : IsMergeAt count from at q w)
    (before : refusal_by_held w q ≡ None) (place : slice_get members at ≡ Some was) where
  abbrev left : Sums
  left = sums_more (sums_moved (receipt_of w q)) was.sums

  same_left : (some held : Sums) → some ≡ sums_moved (receipt_of w q) → held ≡ was.sums
      → sums_more some held ≡ left
  same_left some held moved here = ap (λ s. sums_more s held) moved
      ∙ ap (sums_more (sums_moved (receipt_of w q))) here

  -- what cannot be counted is too many
  weighed_uncounted : (IsCounted left → ⊥) → Decides w q (Answered (Err TooMany))
  weighed_uncounted cannot = decides_too_many count from at q w is before
      (members_tell_uncounted count from at q w are.register is before g members are was place cannot)

  -- and so is what the members tell to be
  weighed_past : leaves_too_many members at left count ≡ true → Decides w q (Answered (Err TooMany))
  weighed_past past = decides_too_many count from at q w is before
      (sym (members_tell count from at q w are.register is before g members are was place) ∙ past)

  -- so it is refused where the one or the other is so
  pub weighed_over : (some held : Sums) → some ≡ sums_moved (receipt_of w q) → held ≡ was.sums
      → ((IsCounted (sums_more some held) × (leaves_too_many members at (sums_more some held) count ≡ false))
      → ⊥)
      → Decides w q (Answered (Err TooMany))
  weighed_over some held moved here cannot =
      let none : (IsCounted left × (leaves_too_many members at left count ≡ false)) → ⊥ =
      subst (λ s. (IsCounted s × (leaves_too_many members at s count ≡ false)) → ⊥)
      (same_left some held moved here) cannot in
      elim (leaves_too_many members at left count) as (λ v. leaves_too_many members at left count ≡ v
      → Decides w q (Answered (Err TooMany))) [
        | true ↦ λ past. weighed_past past
        | false ↦ λ few. weighed_uncounted (λ can. none (can, few))
      ] refl

  -- else it is due
  pub weighed_due : (some held sums : Sums) (selection : Selection) (receipt : Receipt)
      → some ≡ sums_moved (receipt_of w q) → held ≡ was.sums → sums ≡ sums_more some held
      → leaves_too_many members at (sums_more some held) count ≡ false → receipt ≡ receipt_of w q
      → IsSelectionOf (all_of (holdings w is.child)) selection
      → Decides w q (MergeDue (record {
        from = from;
        into = at;
        selection = selection;
        receipt = receipt;
        sums = sums;
      }))
  weighed_due some held sums selection receipt moved here same within made selected =
      let own : sums_more some held ≡ left = same_left some held moved here in
      let few : too_many (accepted w q) ≡ false = sym (members_tell count from at q w are.register is before g members
      are was place) ∙ ap (λ s. leaves_too_many members at s count) (sym own) ∙ within in
      let none : refusal w (accepted w q) q ≡ None = refused_so count from at q w is
      ∙ ap (λ o. option_or o (then_some (too_many (accepted w q)) TooMany)) before
      ∙ ap (λ b. then_some b TooMany) few in
      subst (DueOf w from at is.child is.into selection receipt sums)
      (sym (as_request q is.child is.into is.number is.merges))
      (due_of w from at is.child is.into selection receipt sums q.id q.at is.number are.register is.uuid is.types
      is.child_at is.into_at selected)
      is.new none made (same ∙ own ∙ ap (sums_more (sums_moved (receipt_of w q)))
      (MergeLimits.held count from at q w are.register is before g members are was place))

-- where it leaves not too many, one receipt more is not too many
pub one_more_within : {S : Type 0} (members : List (Member S)) (at : ℕ) (sums : Sums) (count : ℕ)
    → leaves_too_many members at sums count ≡ false → count + 1 ≤ greatest_receipts
one_more_within members at sums count few =
    ltb-false greatest_receipts (count + 1) (or_parts (list_any is_past_limits (sums_with members at sums) || nat_lt
    greatest_packages (length members - 1)) (nat_lt greatest_receipts (count + 1)) few).1

-- ---- its members

module _ {S : Type 0} (g : Ghosts S) (members : List (Member S)) (child into : List ℕ) (from at : ℕ)
    (here : StandsAt g members child from) (there : StandsAt g members into at) where
  -- packages that are two have two places
  pub stand_apart : (child ≡ into → ⊥) → from ≡ at → ⊥
  stand_apart apart same =
      let e : Some here.member ≡ Some there.member = sym here.place ∙ ap (slice_get members) same ∙ there.place in
      let one : here.member ≡ there.member = cc in
      apart (sym here.named ∙ ap (λ m. m.uuid) one ∙ there.named)

  -- a new merge whose packages have these members
  pub merge_placed : (count n : ℕ) (q : Request) (w : World) (number : ℤ) → AreMembers g members n w
      → count ≡ length (receipts_of w) → kept w q.id ≡ None → IsUuid q.id
      → HasTypes (Merge child into number)
      → q.command ≡ Merge child into number
      → IsMergeAt count from at q w
  merge_placed count n q w number are counted new uuid types merges = record {
    counted = counted;
    new = new;
    uuid = uuid;
    child = child;
    into = into;
    number = number;
    merges = merges;
    types = types;
    child_live = here.live w n are;
    into_live = there.live w n are;
    child_at = here.holds w n are;
    into_at = there.holds w n are;
  }

-- the receipt that was made of all that the child holds is that of the world
pub receipt_made : (count from at : ℕ) (q : Request) (w : World) (is : IsMergeAt count from at q w)
    (items : List Item) (links : List Relation) (things : List Moved) (receipt : Receipt)
    → items ≡ (holdings w is.child).items → links ≡ (holdings w is.child).links
    → things ≡ moved_of items links
    → receipt ≡ receipt_over (count + 1) q things → receipt ≡ receipt_of w q
receipt_made count from at q w is items links things receipt items_are links_are are made =
    made ∙ ap (λ n. receipt_over (n + 1) q things) is.counted
    ∙ ap (receipt_over (length (receipts_of w) + 1) q) (are ∙ ap (λ xs. moved_of xs links) items_are
    ∙ ap (moved_of (holdings w is.child).items) links_are ∙ sym (ap (moved w) is.merges))

-- what collides, by what was looked up
pub held_told : (count from at : ℕ) (q : Request) (w : World) (is : IsMergeAt count from at q w) (items : List Item)
    (found : Option Clash) → items ≡ (holdings w is.child).items
    → found ≡ first_clash (holdings w is.into) items
    → refusal_by_kept w q ≡ None
    → refusal_by_held w q ≡ option_map Collides (option_map (λ c. c.identity) found)
held_told count from at q w is items found items_are found_is before =
    ap (λ o. option_or o (option_map Collides (collides w q.command))) before
    ∙ ap (λ c. option_map Collides (collides w c)) is.merges
    ∙ ap (option_map Collides) (sym (ap (option_map (λ c. c.identity))
    (found_is ∙ ap (first_clash (holdings w is.into)) items_are)
    ∙ same (find (λ i. takes_place (holdings w is.into) i.content)
    (arranged place_key (holdings w is.child).items))))
  where
    same : (o : Option Item) → option_map (λ c. c.identity) (option_map clash_of o)
        ≡ option_map (λ i. i.identity) o
    same None = refl
    same (Some i) = refl
