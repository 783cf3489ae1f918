-- What a request comes to, by what the members and the request tell.
use Rattle.std.proofs.Common.{◌≡◌, ◌≤◌, not, refl, sym, ap, subst, ◌∙◌, ℕ, ◌+◌, List, []}
use Rattle.std.proofs.Common.{◌∷◌, Bool, true, false}
use Rattle.std.proofs.Common.{cond, length, get_or, slice_get, Option, Some, None, Result, Ok, Err, bytes_eq}
use Rattle.std.specs.Prelude.{unwrap_or, IfOk, nat_lt, ◌||◌}
use Rattle.std.specs.List.{list_any}
use Rattle.std.specs.Bool.{then_some}
use Rattle.std.specs.Option.{option_or}
use Rattle.sqlite.specs.Store.{Ghosts}
use Rattle.sheet_types.specs.Answers.{sums_held}
use Rattle.sheet_types.specs.Custody.{kept}
use Rattle.sheet_types.specs.Lines.{IsUuid, HasTypes}
use Rattle.sheet_types.specs.Matrix.{first_row}
use Rattle.sheet_types.specs.Refuse.{refusal, identity_used, too_many, bad_text, greatest_packages, greatest_receipts}
use Rattle.sheet_types.specs.Register.{IsRegister}
use Rattle.sheet_types.specs.Step.{accepted, outcome, receipt_of, receipt_over, moved}
use Rattle.sheet_types.specs.Texts.{line, is_moment}
use Rattle.sheet_types.specs.World.{World, is_live, holdings, no_package, receipts_of}
use Rattle.sheet_types.specs.declared.command.Command.{Command}
use Rattle.sheet_types.specs.declared.command.Command.TheVariants.{Add, Delete, Link, Unlink, Split, Merge}
use Rattle.sheet_types.specs.declared.command.Request.{Request}
use Rattle.sheet_types.specs.declared.frame.Frame.{Frame}
use Rattle.sheet_types.specs.declared.receipt.Moved.{Moved}
use Rattle.sheet_types.specs.declared.receipt.Receipt.{Receipt}
use Rattle.sheet_types.specs.declared.receipt.Sums.{Sums}
use Rattle.sheet_types.specs.declared.refusal.Refusal.{Refusal}
use Rattle.sheet_types.specs.declared.refusal.Refusal.TheVariants.{IdReused, UnknownPackage, IdentityUsed, TooMany}
use Rattle.sheet_types.proofs.Basics.{None≢Some, not_false}
use Rattle.sheet_laws.proofs.Accepting.{rows_fail}
use Rattle.std.proofs.lemmas.Bool.{or_parts, ltb-false}
use Rattle.sheet_types.proofs.Every.{All-each}
use Rattle.sheet_laws.proofs.Packages.{at_all}
use Rattle.world_queries.specs.Asking.{AsksAll, StandsAt}
use Rattle.world_members.specs.Carrying.{Fits}
use Rattle.world_decisions.specs.Deciding.{IsAskedOf, IsPlaced, refusal_before, Decides}
use Rattle.world_members.specs.Laws.{package_of}
use Rattle.world_members.specs.Members.{IsMember, AreMembers}
use Rattle.world_members.specs.Reasons.{text_reasons, package_reasons}
use Rattle.world_members.specs.Steps.{IsAddedBy, NothingAgainst, is_past_limits, sums_moved, sums_after}
use Rattle.world_queries.specs.Sums.{CanCount}
use Rattle.world_queries.specs.TooMany.{sums_with, leaves_too_many}
use Rattle.world_members.specs.Turning.{IsDue, world_after}
use Rattle.world_decisions.specs.declared.deciding.Change.{Change}
use Rattle.world_decisions.specs.declared.deciding.Decision.TheVariants.{Answered, ChangeDue}
use Rattle.world_members.specs.declared.members.Member.{Member}
use Rattle.world_members.proofs.Due.{due_where_accepted}
use Rattle.world_members.proofs.Fitting.{fits_where_accepted, refused_in_turn, refused_as_unknown}
use Rattle.world_members.proofs.Outcomes.{kept_outcome, reused_outcome, refused_outcome, accepted_outcome}
use Rattle.world_queries.proofs.Overfull.{member_holds, members_tell_too_many, members_tell_uncounted}
use Rattle.world_queries.proofs.Placed.{stands_named}
use Rattle.world_queries.proofs.Questions.{asks_answer, asks_failed}
use Rattle.world_members.proofs.Standing.{zip_at}

-- ---- a request that came before

-- the reply to one that came before is that of the world
pub decides_repeated : (w : World) (q : Request) (r : Receipt) → kept w q.id ≡ Some r
    → Decides w q (Answered (cond (bytes_eq r.line (line q.command)) (Ok r) (Err IdReused)))
decides_repeated w q r is =
    elim (bytes_eq r.line (line q.command)) as (λ v. bytes_eq r.line (line q.command) ≡ v
    → outcome w q ≡ (cond v (Ok r) (Err IdReused), w)) [
      | true ↦ λ same. kept_outcome w q r is same
      | false ↦ λ other. reused_outcome w q r is other
    ] refl

-- ---- one that is new

-- its package is not known
pub decides_unknown : (f : Frame) (count : ℕ) (q : Request) (w : World) → IsAskedOf f count q w
    → kept w q.id ≡ None
    → is_live w (package_of q.command) ≡ false → Decides w q (Answered (Err UnknownPackage))
decides_unknown f count q w asked new dead = refused_outcome w q UnknownPackage new
    (refused_as_unknown w (accepted w q) q asked.one new dead)

-- the first of four, in two parts
or_last : {X : Type 0} (a b c d : Option X) → option_or a (option_or b (option_or c d))
    ≡ option_or (option_or a (option_or b c)) d
or_last (Some x) b c d = refl
or_last None (Some x) c d = refl
or_last None None (Some x) d = refl
or_last None None None d = refl

-- where it is refused, it is so before or for what it would leave
refused_so : (f : Frame) (count at : ℕ) (q : Request) (w : World) → IsPlaced f count at q w
    → refusal w (accepted w q) q ≡ option_or (refusal_before w q) (then_some (too_many (accepted w q)) TooMany)
refused_so f count at q w placed =
    refused_in_turn w (accepted w q) q placed.asked.one placed.new placed.live
    ∙ or_last (first_row (text_reasons q)) (then_some (identity_used w q.command) IdentityUsed)
    (first_row (package_reasons w.frame (holdings w (package_of q.command)) q.command))
    (then_some (too_many (accepted w q)) TooMany)

-- it is refused before
pub decides_refused : (f : Frame) (count at : ℕ) (q : Request) (w : World) (why : Refusal) → IsPlaced f count at q w
    → refusal_before w q ≡ Some why → Decides w q (Answered (Err why))
decides_refused f count at q w why placed before =
    refused_outcome w q why placed.new (refused_so f count at q w placed
    ∙ ap (λ o. option_or o (then_some (too_many (accepted w q)) TooMany)) before)

-- or for too many
pub decides_too_many : (f : Frame) (count at : ℕ) (q : Request) (w : World) → IsPlaced f count at q w
    → refusal_before w q ≡ None → too_many (accepted w q) ≡ true → Decides w q (Answered (Err TooMany))
decides_too_many f count at q w placed before many =
    refused_outcome w q TooMany placed.new
    (refused_so f count at q w placed ∙ ap (λ o. option_or o (then_some (too_many (accepted w q)) TooMany)) before
    ∙ ap (λ b. then_some b TooMany) many)

-- or not at all
not_refused : (f : Frame) (count at : ℕ) (q : Request) (w : World) → IsPlaced f count at q w
    → refusal_before w q ≡ None → too_many (accepted w q) ≡ false → refusal w (accepted w q) q ≡ None
not_refused f count at q w placed before few =
    refused_so f count at q w placed ∙ ap (λ o. option_or o (then_some (too_many (accepted w q)) TooMany)) before
    ∙ ap (λ b. then_some b TooMany) few

-- then its change is due
pub decides_due : (f : Frame) (count at : ℕ) (q : Request) (w : World) (due : Change) → IsRegister w → IsUuid q.id
    → HasTypes q.command → IsPlaced f count at q w → refusal_before w q ≡ None
    → too_many (accepted w q) ≡ false
    → due.at ≡ at → due.receipt ≡ receipt_of w q → due.sums ≡ sums_after q.command
    (sums_moved (receipt_of w q))
    (sums_held (holdings w (package_of q.command))) → Decides w q (ChangeDue due)
decides_due f count at q w due register uuid types placed before few here receipt sums =
    let none : refusal w (accepted w q) q ≡ None = not_refused f count at q w placed before few in
    let own = due_where_accepted w q at register uuid types placed.asked.one placed.new none placed.place in
    let moved : IsDue w due.at (receipt_of w q) q.command due.sums = rw (here, sums) own in (
      receipt,
      subst (λ r. outcome w q ≡ (Ok r, world_after r q.command w)) (sym receipt)
          (accepted_outcome w q placed.asked.one placed.new none),
      subst (λ r. IsDue w due.at r q.command due.sums)
          (sym receipt) moved,
    )

-- ---- what it is refused for before

-- for its text
pub before_for_text : (w : World) (q : Request) (found : Option Refusal) (why : Refusal)
    → found ≡ first_row (text_reasons q) → found ≡ Some why → Some why ≡ refusal_before w q
before_for_text w q found why texts is =
    ap (λ o. option_or o (option_or (then_some (identity_used w q.command) IdentityUsed)
    (first_row (package_reasons w.frame (holdings w (package_of q.command)) q.command)))) (sym is ∙ texts)

-- else for a used identity
pub before_for_identity : (w : World) (q : Request) (found : Option Refusal) → found ≡ first_row (text_reasons q)
    → found ≡ None → true ≡ identity_used w q.command → Some IdentityUsed ≡ refusal_before w q
before_for_identity w q found texts none used =
    ap (λ b. option_or (then_some b IdentityUsed) (first_row
    (package_reasons w.frame (holdings w (package_of q.command)) q.command))) used
    ∙ ap (λ o. option_or o (option_or (then_some (identity_used w q.command) IdentityUsed)
    (first_row (package_reasons w.frame (holdings w (package_of q.command)) q.command)))) (sym none ∙ texts)

-- else by its package
pub before_by_package : (w : World) (q : Request) (found why : Option Refusal) → found ≡ first_row (text_reasons q)
    → found ≡ None → false ≡ identity_used w q.command
    → why ≡ first_row (package_reasons w.frame (holdings w (package_of q.command)) q.command)
    → why ≡ refusal_before w q
before_by_package w q found why texts none unused is =
    is
    ∙ ap (λ b. option_or (then_some b IdentityUsed) (first_row
    (package_reasons w.frame (holdings w (package_of q.command)) q.command))) unused
    ∙ ap (λ o. option_or o (option_or (then_some (identity_used w q.command) IdentityUsed)
    (first_row (package_reasons w.frame (holdings w (package_of q.command)) q.command)))) (sym none ∙ texts)

-- ---- nothing speaks against it

-- where neither of two is there, both are missing
or_none : {X : Type 0} (a b : Option X) → option_or a b ≡ None → (a ≡ None) × (b ≡ None)
or_none None b none = (refl, none)
or_none (Some x) b none = absurd (None≢Some (sym none))

not_then : {X : Type 0} (b : Bool) (x : X) → then_some b x ≡ None → b ≡ false
not_then false x none = refl
not_then true x none = absurd (None≢Some (sym none))

-- its texts are not refused
no_texts : (w : World) (q : Request) → refusal_before w q ≡ None → first_row (text_reasons q) ≡ None
no_texts w q before =
    (or_none (first_row (text_reasons q)) (option_or (then_some (identity_used w q.command) IdentityUsed)
    (first_row (package_reasons w.frame (holdings w (package_of q.command)) q.command))) before).0

nothing_against : (f : Frame) (count at : ℕ) (q : Request) (w : World) → IsPlaced f count at q w
    → refusal_before w q ≡ None → NothingAgainst w q
nothing_against f count at q w placed before =
    let parts = or_none (first_row (text_reasons q)) (option_or (then_some (identity_used w q.command) IdentityUsed)
    (first_row (package_reasons w.frame (holdings w (package_of q.command)) q.command))) before in
    let last = or_none (then_some (identity_used w q.command) IdentityUsed)
    (first_row (package_reasons w.frame (holdings w (package_of q.command)) q.command)) parts.1 in
    let texts = rows_fail (text_reasons q) parts.0 in
    record {
      live = placed.live;
      new = placed.new;
      moment = not_false (is_moment q.at)
          (or_parts (not (is_moment q.at)) (bad_text q.command) texts.0).0;
      unused = not_then (identity_used w q.command) IdentityUsed last.0;
      no_reason = last.1;
    }

-- so it fits its package
fits_there : (f : Frame) (count at : ℕ) (q : Request) (w : World) → IsRegister w → IsUuid q.id
    → HasTypes q.command
    → IsPlaced f count at q w → refusal_before w q ≡ None → Fits (receipt_of w q) q.command
    (holdings w (package_of q.command))
fits_there f count at q w register uuid types placed before =
    fits_where_accepted w q register uuid types placed.asked.one (nothing_against f count at q w placed before)

-- ---- its place

module _ {S : Type 0} (g : Ghosts S) where
  -- the member at the place of a request's package is of that UUID
  stands_placed : (f : Frame) (members : List (Member S)) (count at : ℕ) (q : Request) (w : World) (was : Member S)
      → AreMembers g members count w → IsPlaced f count at q w → slice_get members at ≡ Some was
      → StandsAt g members (package_of q.command) at
  stands_placed f members count at q w was are placed place =
      let here = zip_at (IsMember g w) members w.packages at was are.each place in
      let same : here.0 ≡ holdings w (package_of q.command) =
      ap (λ o. unwrap_or o no_package) (sym here.1 ∙ placed.place) in
      let named : (holdings w (package_of q.command)).uuid ≡ package_of q.command =
      (at_all w (λ _. Unit {0}) (package_of q.command) (All-each (λ _. Unit {0}) (λ _. tt) w.packages)
      placed.live).1 in
      stands_named g members (package_of q.command) at was place (here.2.uuid ∙ ap (λ x. x.uuid) same ∙ named)

  module _ (members : List (Member S)) (count at : ℕ) (q : Request) (w : World) (was : Member S)
      (are : AreMembers g members count w) (placed : IsPlaced w.frame count at q w)
      (place : slice_get members at ≡ Some was) (uuid : IsUuid q.id) (types : HasTypes q.command)
      (before : refusal_before w q ≡ None) where
    stands : StandsAt g members (package_of q.command) at
    stands = stands_placed w.frame members count at q w was are placed place

    own_fits : Fits (receipt_of w q) q.command (holdings w (package_of q.command))
    own_fits = fits_there w.frame count at q w are.register uuid types placed before

    abbrev after : Sums
    after = sums_after q.command (sums_moved (receipt_of w q)) was.sums

    same_after : (some held : Sums) → some ≡ sums_moved (receipt_of w q) → held ≡ was.sums
        → sums_after q.command some held ≡ after
    same_after some held moved here = ap (λ s. sums_after q.command s held) moved
        ∙ ap (sums_after q.command (sums_moved (receipt_of w q))) here

    -- where the sums after it cannot be counted, it is refused
    limited_uncounted : (CanCount q.command (sums_moved (receipt_of w q)) was.sums → ⊥)
        → Decides w q (Answered (Err TooMany))
    limited_uncounted cannot =
        decides_too_many w.frame count at q w placed before (members_tell_uncounted g members count at w q was are
        stands place own_fits (no_texts w q before) cannot)

    -- where the members tell that it leaves too many, too
    limited_past : leaves_too_many members at after count ≡ true → Decides w q (Answered (Err TooMany))
    limited_past past = decides_too_many w.frame count at q w placed before
        (sym (members_tell_too_many g members count at w q was are stands place own_fits) ∙ past)

    -- so it is refused where the one or the other is so
    pub limited_over : (some held : Sums) → some ≡ sums_moved (receipt_of w q) → held ≡ was.sums
        → ((CanCount q.command some held × (leaves_too_many members at (sums_after q.command some held) count
        ≡ false)) → ⊥) → Decides w q (Answered (Err TooMany))
    limited_over some held moved here cannot =
        elim (leaves_too_many members at after count) as (λ v. leaves_too_many members at after count ≡ v
        → Decides w q (Answered (Err TooMany))) [
          | true ↦ λ past. limited_past past
          | false ↦ λ few.
              limited_uncounted
              (λ can. cannot (
                subst (λ s. CanCount q.command s held) (sym moved)
                    (subst (CanCount q.command (sums_moved (receipt_of w q))) (sym here) can),
                ap (λ s. leaves_too_many members at s count) (same_after some held moved here) ∙ few,
              ))
        ] refl

    -- and else its change is due
    pub limited_due : (some held sums : Sums) (receipt : Receipt) → some ≡ sums_moved (receipt_of w q)
        → held ≡ was.sums → sums ≡ sums_after q.command some held
        → leaves_too_many members at (sums_after q.command some held) count ≡ false → receipt ≡ receipt_of w q
        → Decides w q (ChangeDue (record { at = at; receipt = receipt; sums = sums }))
    limited_due some held sums receipt moved here is within made =
        let same : sums_after q.command some held ≡ after = same_after some held moved here in
        let few : too_many (accepted w q) ≡ false = sym (members_tell_too_many g members count at w q was are stands
        place own_fits) ∙ ap (λ s. leaves_too_many members at s count) (sym same) ∙ within in
        let own : was.sums ≡ sums_held (holdings w (package_of q.command)) =
        member_holds g members count at w (package_of q.command) was are stands place in
        decides_due w.frame count at q w (record { at = at; receipt = receipt; sums = sums }) are.register uuid types
        placed before few refl made (is ∙ same ∙ ap (sums_after q.command (sums_moved (receipt_of w q))) own)

-- ---- what the parts ask

-- a placed request, of the frame of its world
pub of_own_frame : (f : Frame) (count at : ℕ) (q : Request) (w : World) → IsPlaced f count at q w
    → IsPlaced w.frame count at q w
of_own_frame f count at q w placed = record {
  asked = record
      { frame = refl; counted = placed.asked.counted; one = placed.asked.one };
  new = placed.new;
  live = placed.live;
  place = placed.place;
}

-- what an addition moves is told of its item
added_by : (w : World) (command : Command) (thing : Moved) → moved w command ≡ thing ∷ []
    → IsAddedBy command thing
added_by w (Add p identity content) thing same = sym (ap (λ things. get_or things 0 thing) same)
added_by w (Delete p identity) thing same = tt
added_by w (Link p mapping base other) thing same = tt
added_by w (Unlink p mapping base other) thing same = tt
added_by w (Split p child mode rect) thing same = tt
added_by w (Merge child into number) thing same = tt

-- the receipt that was made is that of the world
pub receipt_made : (count : ℕ) (q : Request) (w : World) (thing : Moved) (receipt : Receipt)
    → (IsAddedBy q.command thing → receipt ≡ receipt_over (count + 1) q (thing ∷ []))
    → count ≡ length (receipts_of w)
    → moved w q.command ≡ thing ∷ [] → receipt ≡ receipt_of w q
receipt_made count q w thing receipt is counted things = is (added_by w q.command thing things)
    ∙ ap (λ n. receipt_over (n + 1) q (thing ∷ [])) counted ∙ ap (receipt_over (length (receipts_of w) + 1) q)
    (sym things)

module _ {S : Type 0} (g : Ghosts S) where
  -- the members by the number of receipts that is known
  pub counted_so : (members : List (Member S)) (n count : ℕ) (w : World) → AreMembers g members n w
      → count ≡ length (receipts_of w) → AreMembers g members count w
  counted_so members n count w are counted = record { each = are.each; counted = counted; register = are.register }

  -- an answer that is worked out from another, and may fail
  pub asks_worked : {X Y E E' : Type 0} {A : World → X → Type 0} {B : World → Y → Type 0}
      {old new : List (Member S)}
      {r : Result X E} {x : X} (q : Result Y E') → r ≡ Ok x
      → ((w : World) (count : ℕ) → AreMembers g old count w → A w x → IfOk q (B w))
      → AsksAll g {X = X} {E = E} A old new r → AsksAll g {X = Y} {E = E'} B old new q
  asks_worked (Ok y) is so it = asks_answer g is so it
  asks_worked (Err e) is so it = asks_failed g (Err e) refl it

-- where it leaves not too many, one receipt more is not too many
pub one_more_within : {S : Type 0} (members : List (Member S)) (at : ℕ) (sums : Sums) (count : ℕ)
    → leaves_too_many members at sums count ≡ false → count + 1 ≤ greatest_receipts
one_more_within members at sums count few =
    ltb-false greatest_receipts (count + 1) (or_parts (list_any is_past_limits (sums_with members at sums) || nat_lt
    greatest_packages (length members)) (nat_lt greatest_receipts (count + 1)) few).1
