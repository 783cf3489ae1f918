-- Each request and each list of requests keeps the rules of a register; runs, repeats, and lines.
use Rattle.std.specs.Prelude.{◌≡◌, ℕ, List, [], ◌∷◌, ◌++◌, refl, bytes_eq, Result}
use Rattle.std.proofs.Common.{sym, ap, subst, ◌∙◌, inl, inr}
use Rattle.std.specs.Option.{option_and_then}
use Rattle.std.specs.Bool.{then_some}
use Rattle.sheet_types.specs.Texts.{line}
use Rattle.sheet_types.specs.Lines.{entry_from}
use Rattle.sheet_types.specs.World.{World}
use Rattle.sheet_types.specs.Step.{outcome_by, refuses, Run}
use Rattle.sheet_types.specs.Register.{IsRegister}
use Rattle.sheet_types.specs.declared.command.Command.{Command}
use Rattle.sheet_types.specs.declared.command.Command.TheVariants.{Add, Delete, Link, Unlink, Split, Merge}
use Rattle.sheet_types.specs.declared.command.Request.{Request}
use Rattle.sheet_types.specs.declared.receipt.Receipt.{Receipt}
use Rattle.sheet_types.specs.declared.refusal.Refusal.{Refusal}
use Rattle.sheet_types.proofs.Basics.{bytes_eq_itself}
use Rattle.sheet_types.proofs.LineReading.{entry_from-line, line-entry_from}
use Rattle.sheet_laws.specs.Laws.{KeepsRegister, StepKeepsRegister, RunKeepsRegister, RunOfBoth, RepeatChangesNothing}
use Rattle.sheet_laws.specs.Laws.{LineIsReadBack}
use Rattle.sheet_laws.proofs.AddRegister.{add_keeps_register}
use Rattle.sheet_laws.proofs.OneRegister.{delete_keeps_register, link_keeps_register, unlink_keeps_register}
use Rattle.sheet_laws.proofs.Splitting.{split_keeps_register}
use Rattle.sheet_laws.proofs.Merging.{merge_keeps_register}

-- ---- each request, and each run

-- a request of any command
any_request : (w : World) (id moment : List ℕ) (command : Command)
    → KeepsRegister w (record { id = id; at = moment; command = command })
any_request w id moment (Add p identity content) = add_keeps_register w id moment p identity content
any_request w id moment (Delete p identity) = delete_keeps_register w id moment p identity
any_request w id moment (Link p mapping base other) = link_keeps_register w id moment p mapping base other
any_request w id moment (Unlink p mapping base other) = unlink_keeps_register w id moment p mapping base other
any_request w id moment (Split p child mode rect) = split_keeps_register w id moment p child mode rect
any_request w id moment (Merge child into ticket) = merge_keeps_register w id moment child into ticket

-- the law of a step
pub step_keeps_register : StepKeepsRegister
step_keeps_register w q reply v types register step =
    elim step [
      | inl done ↦ subst IsRegister (sym done.1) (any_request w q.id q.at q.command types register)
      | inr fault ↦ subst IsRegister (sym fault.1) register
    ]

-- the law of a run
pub run_keeps_register : RunKeepsRegister
run_keeps_register w [] [] v types register run = subst IsRegister (sym run) register
run_keeps_register w (q ∷ qs) (reply ∷ replies) v types register run =
    run_keeps_register run.0 qs replies v types.1 (step_keeps_register w q reply run.0 types.0 register run.1) run.2
run_keeps_register w [] (reply ∷ replies) v types register run = absurd run
run_keeps_register w (q ∷ qs) [] v types register run = absurd run

-- ---- a run over two lists

-- a run in two parts
abbrev Both : World → List Request → List Request → List (Result Receipt Refusal) → World → Type 0
Both w xs ys replies next = (mid : World) × (first : List (Result Receipt Refusal))
    × (second : List (Result Receipt Refusal)) × (replies ≡ first ++ second) × Run w xs first mid
    × Run mid ys second next

-- one run in two
apart : (w : World) (xs ys : List Request) (replies : List (Result Receipt Refusal)) (next : World)
    → Run w (xs ++ ys) replies next → Both w xs ys replies next
apart w [] ys replies next run = (w, [], replies, refl, refl, run)
apart w (x ∷ xs) ys [] next run = absurd run
apart w (x ∷ xs) ys (reply ∷ replies) next run =
    let rest : Both run.0 xs ys replies next = apart run.0 xs ys replies next run.2 in
    (rest.0, reply ∷ rest.1, rest.2, ap (λ rs. reply ∷ rs) rest.3, (run.0, run.1, rest.4), rest.5)

-- two runs in one
together : (w : World) (xs ys : List Request) (first second : List (Result Receipt Refusal)) (mid next : World)
    → Run w xs first mid → Run mid ys second next → Run w (xs ++ ys) (first ++ second) next
together w [] ys [] second mid next one two = subst (λ v. Run v ys second next) one two
together w [] ys (reply ∷ first) second mid next one two = absurd one
together w (x ∷ xs) ys [] second mid next one two = absurd one
together w (x ∷ xs) ys (reply ∷ first) second mid next one two =
    (one.0, one.1, together one.0 xs ys first second mid next one.2 two)

-- the law of a run over two lists
pub run_of_both : RunOfBoth
run_of_both w xs ys replies next = (
  apart w xs ys replies next,
  λ both. subst (λ rs. Run w (xs ++ ys) rs next) (sym both.3)
      (together w xs ys both.1 both.2 both.0 next both.4 both.5),
)

-- ---- repeats, and lines

-- the law of a repeat
pub repeat_changes_nothing : RepeatChangesNothing
repeat_changes_nothing w q r found same =
    ap (λ k. outcome_by w q (option_and_then (λ s. then_some (bytes_eq s.line (line q.command)) s) k) (refuses w q))
    found
    ∙ ap (λ b. outcome_by w q (then_some b r) (refuses w q))
    (ap (λ l. bytes_eq l (line q.command)) same ∙ bytes_eq_itself (line q.command))

-- the law of a line
pub line_is_read_back : LineIsReadBack
line_is_read_back text e = (line-entry_from text e, λ both. ap entry_from both.1 ∙ entry_from-line e both.0)
