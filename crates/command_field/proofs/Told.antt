-- What was answered of what was read is so of each world that it was read of.
use Rattle.std.proofs.Common.{◌≡◌, ◌==◌, ℕ, List, ◌∷◌, length, true, false, Some, None}
use Rattle.std.proofs.Common.{Result, Ok, Err, IfOk}
use Rattle.std.proofs.Common.{unwrap_or, ap, sym, subst, inl, inr, arith}
use Rattle.std.specs.Prelude.{Bool, Option, [], refl}
use Rattle.std.proofs.lemmas.Bool.Decides.{nat_tests}
use Rattle.std.specs.Bool.{then_some}
use Rattle.sheet_types.specs.Answers.{holdings_answer}
use Rattle.sheet_types.specs.Custody.{ticket}
use Rattle.sheet_types.specs.World.{World, holdings, is_live}
use Rattle.sheet_types.proofs.Basics.{None≢Some}
use Rattle.sheet_types.specs.declared.command.Item.{Item}
use Rattle.sheet_types.specs.declared.command.Relation.{Relation}
use Rattle.sheet_types.specs.declared.frame.Frame.{Frame}
use Rattle.field_changes.specs.declared.held.Held.{Held}
use Rattle.field_faults.specs.Heads.{head_fault}
use Rattle.field_faults.specs.Lines.{fault_lines}
use Rattle.command_field.specs.Answers.{AnswersBy, AnswersFile, AnswersGiven, AnswersLines, AnswersLive, AnswersText}
use Rattle.command_field.specs.Answers.{AreHeldIn, IsSeen, IsTakenOf, StaysFree}
use Rattle.command_field.specs.declared.asking.Answer.{Answer}
use Rattle.command_field.specs.declared.asking.Answer.TheVariants.{Asked, NoSuchPackage, NoList, OtherPackage, Stale}
use Rattle.command_field.specs.declared.asking.Answer.TheVariants.{OtherSystem, OtherFrame, Items, TwoAlike, NotFree}
use Rattle.command_field.specs.declared.asking.Ask.{Ask}
use Rattle.command_field.specs.declared.freedom.Taken.{Taken}

pair_held : (b : Bool) (held found : List Item × List Relation) → Some found ≡ then_some b held → found ≡ held
pair_held true held found e = ap (λ o. unwrap_or o held) e
pair_held false held found e = absurd (cc)

given_of : (w : World) (a : Ask) (n : ℕ) (f : Frame) (found : List Item × List Relation) (h : Held)
    (first x : Answer)
    → f ≡ w.frame → Some found ≡ holdings_answer w a.«package» → n ≡ ticket w a.«package»
    → AnswersGiven f a n found.0 found.1 h first → StaysFree w found.0 found.1 first x → AnswersFile w a h x
given_of w a n f found h first x frame is number it stays =
    let held : found ≡ ((holdings w a.«package»).items, (holdings w a.«package»).links) =
    pair_held (is_live w a.«package») ((holdings w a.«package»).items, (holdings w a.«package»).links) found
    is in (
      first,
      subst (λ (l : List Item × List Relation). AnswersGiven w.frame a (ticket w a.«package») l.0 l.1 h first) held
          (subst (λ k. AnswersGiven w.frame a k found.0 found.1 h first) number
          (subst (λ (g : Frame). AnswersGiven g a n found.0 found.1 h first) frame it)),
      subst (λ (l : List Item × List Relation). StaysFree w l.0 l.1 first x) held stays,
    )

-- of each world in which the package is seen so
pub told_given : {E : Type 0} (P : World → Type 0) (a : Ask) (n : ℕ) (f : Frame)
    (items : List Item) (links : List Relation) (h : Held) (first : Answer) (r : Result Answer E)
    → ((w : World) → P w → f ≡ w.frame)
    → AnswersGiven f a n items links h first
    → IfOk r (λ x. (w : World) → P w → StaysFree w items links first x)
    → IfOk r (λ x. (w : World) → P w → IsSeen w a.«package» n (items, links) → AnswersFile w a h x)
told_given P a n f items links h first (Ok x) frame given it = λ w stands seen.
    given_of w a n f (items, links) h first x (frame w stands) seen.holdings seen.last given (it w stands)
told_given P a n f items links h first (Err e) frame given it = tt

-- the same of the text that lists the file
pub told_listed : {E : Type 0} (P : World → Type 0) (a : Ask) (n : ℕ) (held : List Item × List Relation)
    (text : Option (List ℕ)) (h : Held) (r : Result Answer E)
    → AreHeldIn text (Some h)
    → IfOk r (λ x. (w : World) → P w → IsSeen w a.«package» n held → AnswersFile w a h x)
    → IfOk r (λ x. (w : World) → P w → IsSeen w a.«package» n held → AnswersLive w a text x)
told_listed P a n held text h (Ok x) listed it = λ w stands seen. inr (h, listed, it w stands seen)
told_listed P a n held text h (Err e) listed it = tt

-- of the worlds before the package was read, and after
pub told_text : {E : Type 0} (P R : World → Type 0) (a : Ask) (n : ℕ) (held : List Item × List Relation)
    (text : Option (List ℕ)) (r : Result Answer E)
    → ((w : World) → P w → IsSeen w a.«package» n held)
    → ((w : World) → P w → R w)
    → IfOk r (λ x. (w : World) → R w → IsSeen w a.«package» n held → AnswersLive w a text x)
    → IfOk r (λ x. (w : World) → P w → AnswersText w a text x)
told_text P R a n held text (Ok x) seen so it = λ w stands. let live = seen w stands in
    inr (live.live, it w (so w stands) live)
told_text P R a n held text (Err e) seen so it = tt

-- where no line is due, what was answered is of the requests
module _ (lines p : List ℕ) (number : ℕ) (moment : List ℕ) (items : List Item) (linked : List Relation)
    (more : Bool)
    (h : Held) (none : lines ≡ []) where
  by_none : (x : Answer) → AnswersBy p number moment items linked more h x
      → AnswersLines lines p number moment items linked more h x
  by_none (Asked requests) it = (none, it)
  by_none NoSuchPackage it = absurd it
  by_none NoList it = (none, it)
  by_none OtherPackage it = absurd it
  by_none (Stale n) it = absurd it
  by_none OtherSystem it = absurd it
  by_none OtherFrame it = absurd it
  by_none (Items text) it = absurd it
  by_none TwoAlike it = (none, it)
  by_none (NotFree taken) it = absurd it

  pub none_told : {E : Type 0} (r : Result Answer E) → IfOk r (AnswersBy p number moment items linked more h)
      → IfOk r (AnswersLines lines p number moment items linked more h)
  none_told (Ok x) it = by_none x it
  none_told (Err e) it = tt

-- where the file as a whole is no fault, what was answered is of its records
pub told_heads : {E : Type 0} (f : Frame) (a : Ask) (n : ℕ) (items : List Item) (links : List Relation) (h : Held)
    (r : Result Answer E)
    → head_fault a.«package» n f a.more h ≡ None
    → IfOk r (AnswersLines (fault_lines f items a.more h) a.«package» n a.at.now items links a.more h)
    → IfOk r (AnswersGiven f a n items links h)
told_heads f a n items links h (Ok x) none it = inr (none, it)
told_heads f a n items links h (Err e) none it = tt

-- a text of no bytes has no lines
pub no_lines : (n : ℕ) (text lines : List ℕ) (b : Bool) → n ≡ length text → text ≡ lines
    → b ≡ (n == 0) → b ≡ true
    → lines ≡ []
no_lines n [] lines b long is said so = sym is
no_lines n (x ∷ xs) lines b long is said so = absurd (grind (arith, nat_tests, long, said, so))

-- ---- what is taken

-- an answer of which nothing is taken stays
module _ (w : World) (items : List Item) (linked : List Relation) where
  pub free_stays : (first : Answer) → IsTakenOf w items linked first None → StaysFree w items linked first first
  free_stays (Asked requests) it = inl (refl, it)
  free_stays NoSuchPackage it = refl
  free_stays NoList it = refl
  free_stays OtherPackage it = refl
  free_stays (Stale n) it = refl
  free_stays OtherSystem it = refl
  free_stays OtherFrame it = refl
  free_stays (Items text) it = refl
  free_stays TwoAlike it = refl
  free_stays (NotFree taken) it = refl

  -- and only of requests something is
  pub taken_stays : (first : Answer) (taken : Taken) → IsTakenOf w items linked first (Some taken)
      → StaysFree w items linked first (NotFree taken)
  taken_stays (Asked requests) taken it = inr (taken, refl, it)
  taken_stays NoSuchPackage taken it = absurd (None≢Some (sym it))
  taken_stays NoList taken it = absurd (None≢Some (sym it))
  taken_stays OtherPackage taken it = absurd (None≢Some (sym it))
  taken_stays (Stale n) taken it = absurd (None≢Some (sym it))
  taken_stays OtherSystem taken it = absurd (None≢Some (sym it))
  taken_stays OtherFrame taken it = absurd (None≢Some (sym it))
  taken_stays (Items text) taken it = absurd (None≢Some (sym it))
  taken_stays TwoAlike taken it = absurd (None≢Some (sym it))
  taken_stays (NotFree other) taken it = absurd (None≢Some (sym it))
