-- Each request keeps that receipts say moments, and that there are no more than a world may have.
use Rattle.std.specs.Prelude.{◌≡◌, ℕ, ◌≤◌, true, false, not, ◌||◌, nat_lt, List, ◌++◌, length}
use Rattle.std.specs.Prelude.{None, flat_map}
use Rattle.std.proofs.Common.{sym, subst, arith, inl, inr}
use Rattle.std.proofs.lemmas.Bool.{or_parts}
use Rattle.std.proofs.lemmas.Bool.Decides.{nat_tests}
use Rattle.std.specs.List.{list_any, AllByRecursion}
use Rattle.sheet_types.specs.Ordered.{put}
use Rattle.sheet_types.specs.Refuse.{refusal, reasons, bad_text, is_overfull, greatest_packages, greatest_receipts}
use Rattle.sheet_types.specs.Step.{accepted, receipt_of, carried_out, joined, loan_of, cut_of}
use Rattle.sheet_types.specs.Texts.{is_moment}
use Rattle.sheet_types.specs.World.{World, Package, receipts_of, receipt_key, package_key, holdings}
use Rattle.sheet_types.specs.declared.command.Command.{Command}
use Rattle.sheet_types.specs.declared.command.Command.TheVariants.{Add, Delete, Link, Unlink, Split, Merge}
use Rattle.sheet_types.specs.declared.command.Request.{Request}
use Rattle.sheet_types.specs.declared.receipt.Receipt.{Receipt}
use Rattle.sheet_types.proofs.Basics.{not_false}
use Rattle.sheet_types.proofs.Every.{All-append, All-filter}
use Rattle.sheet_types.proofs.Order.{All-put, All-arranged}
use Rattle.sheet_laws.proofs.Accepting.{rows_fail, keeps}
use Rattle.sheet_laws.proofs.Packages.{All-changed, stand_flat}
use Rattle.sheet_laws.proofs.Shifting.{each_stands, of_package}
use Rattle.opening_laws_model.specs.Laws.{NewWorldIsTimely, StepKeepsTimely}
use Rattle.opening_laws_model.specs.Timely.{IsTimely}

pub new_world_is_timely : NewWorldIsTimely
new_world_is_timely archive frame = record { moments = tt; counted = omega arith }

-- ---- a fact of each receipt, and of the new one

module _ (P : Receipt → Type 0) (r : Receipt) (new : P r) where
  abbrev AllOf : Package → Type 0
  AllOf x = AllByRecursion P x.receipts

  -- a package that gets the receipt
  gains : (rs : List Receipt) → AllByRecursion P rs → AllByRecursion P (put receipt_key r rs)
  gains rs h = All-put receipt_key P r rs new h

  -- what a package takes over of another
  joins : (child x : Package) → AllOf child → AllOf x → AllOf (joined child x)
  joins child x h g = All-arranged receipt_key P (child.receipts ++ x.receipts)
      (All-append P child.receipts x.receipts h g)

  -- in all packages after the command is carried out
  pub carried : (w : World) (command : Command) → AllByRecursion P (receipts_of w)
      → AllByRecursion AllOf (carried_out w r command).packages
  carried w (Add p identity content) h = All-changed _ p AllOf AllOf (λ x _ g. gains x.receipts g) (λ x g. g)
      w.packages (each_stands P w h)
  carried w (Delete p identity) h = All-changed _ p AllOf AllOf (λ x _ g. gains x.receipts g) (λ x g. g) w.packages
      (each_stands P w h)
  carried w (Link p mapping base other) h = All-changed _ p AllOf AllOf (λ x _ g. gains x.receipts g) (λ x g. g)
      w.packages (each_stands P w h)
  carried w (Unlink p mapping base other) h = All-changed _ p AllOf AllOf (λ x _ g. gains x.receipts g) (λ x g. g)
      w.packages (each_stands P w h)
  carried w (Split p child mode rect) h =
      All-put package_key AllOf (loan_of child (holdings w p) r.seq (cut_of w p mode rect)) _ tt
      (All-changed _ p AllOf AllOf (λ x _ g. gains x.receipts g) (λ x g. g) w.packages (each_stands P w h))
  carried w (Merge child into ticket) h =
      All-filter AllOf _ _ (All-changed _ into AllOf AllOf (λ x _ g. gains (joined (holdings w child) x).receipts
      (joins (holdings w child) x (of_package P w child h) g)) (λ x g. g) w.packages (each_stands P w h))

-- ---- an accepted request

-- what is not past a limit is within it
within : (n : ℕ) → nat_lt greatest_receipts n ≡ false → n ≤ greatest_receipts
within n h = grind (arith, nat_tests)

accepts : (w : World) (q : Request) → IsTimely w → refusal w (accepted w q) q ≡ None → IsTimely (accepted w q)
accepts w q timely no_refusal =
    let next : World = accepted w q in
    let fails = rows_fail (reasons w next q) no_refusal in
    let moment : is_moment q.at ≡ true = not_false (is_moment q.at)
    (or_parts (not (is_moment q.at)) (bad_text q.command) fails.1.1.1.0).0 in
    let few : nat_lt greatest_receipts (length (receipts_of next)) ≡ false =
    (or_parts (list_any is_overfull next.packages || nat_lt greatest_packages (length next.packages))
    (nat_lt greatest_receipts (length (receipts_of next)))
    fails.1.1.1.1.1.1.1.1.1.1.1.1.1.1.1.1.1.1.1.1.1.1.0).1 in
    let P : Receipt → Type 0 = λ r. is_moment r.at ≡ true in
    record {
      moments = All-arranged receipt_key P (flat_map (λ x. x.receipts) next.packages)
          (stand_flat P next.packages (carried P (receipt_of w q) moment w q.command timely.moments));
      counted = within (length (receipts_of next)) few;
    }

pub step_keeps_timely : StepKeepsTimely
step_keeps_timely w q reply next types register timely step =
    elim step [
      | inl done ↦ subst IsTimely (sym done.1) (keeps IsTimely w q timely
          (λ _ no_refusal. accepts w q timely no_refusal))
      | inr fault ↦ subst IsTimely (sym fault.1) timely
    ]
