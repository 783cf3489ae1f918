-- The ledger grows at its end: each request sets at most its own receipt behind all others.
use Rattle.std.specs.Prelude.{◌≡◌, ℕ, true, ◌&&◌, cond, List, [], ◌∷◌, ◌++◌, map, refl}
use Rattle.std.specs.Prelude.{bytes_eq, Option, Some, None}
use Rattle.std.proofs.Common.{sym, ap, subst, ◌∙◌, inl, inr, append_assoc}
use Rattle.std.proofs.lemmas.List.{append-nil}
use Rattle.std.specs.List.{list_all}
use Rattle.sheet_types.specs.Lines.{HasTypes}
use Rattle.sheet_types.specs.Ordered.{put, arranged, without}
use Rattle.sheet_types.specs.Refuse.{refusal, reasons, packages_named}
use Rattle.sheet_types.specs.Register.{IsRegister}
use Rattle.sheet_types.specs.Step.{outcome, outcome_by, accepted, receipt_of, kept_reply, refuses, loan_of, cut_of}
use Rattle.sheet_types.specs.Step.{less, added_item, relation}
use Rattle.sheet_types.specs.World.{World, Package, receipts_of, receipt_key, item_key, link_key, holdings, is_live}
use Rattle.sheet_types.specs.World.{with_receipt, changed}
use Rattle.sheet_types.specs.declared.command.Command.{Command}
use Rattle.sheet_types.specs.declared.command.Command.TheVariants.{Add, Delete, Link, Unlink, Split, Merge}
use Rattle.sheet_types.specs.declared.command.Request.{Request}
use Rattle.sheet_types.specs.declared.receipt.Receipt.{Receipt}
use Rattle.sheet_types.specs.declared.refusal.Refusal.{Refusal}
use Rattle.sheet_types.proofs.Basics.{and_true, not_false}
use Rattle.sheet_laws.proofs.Accepting.{rows_fail}
use Rattle.sheet_laws.proofs.Merging as merging
use Rattle.sheet_laws.proofs.Packages.{receipts_gained, with_receipt_gains, flat_put}
use Rattle.sheet_laws.proofs.Running.{step_keeps_register}
use Rattle.sheet_laws.proofs.Shifting.{numbers_below}
use Rattle.sheet_kept_laws.specs.Laws.{Extends, StepExtendsLedger, RunExtendsLedger}

-- ---- an accepted request

-- its receipt is behind all others
abbrev pub Appended : World → Request → Type 0
Appended w q = receipts_of (accepted w q) ≡ receipts_of w ++ receipt_of w q ∷ []

abbrev asked : List ℕ → List ℕ → Command → Request
asked id moment command = record { id = id; at = moment; command = command }

module _ (w : World) (register : IsRegister w) where
  -- a change of one package that puts it there
  gains : (q : Request) (f : Package → Package) (p : List ℕ)
      → ((x : Package) → (f x).receipts ≡ put receipt_key (receipt_of w q) x.receipts) → is_live w p ≡ true
      → receipts_of (changed f p w) ≡ receipts_of w ++ receipt_of w q ∷ []
  gains q f p puts live = receipts_gained f w p (receipt_of w q)
      (λ x below. puts x ∙ with_receipt_gains (receipt_of w q) x below)
      (numbers_below w (receipt_of w q).seq register.balanced.ledger refl) register.arranged live

  -- the one package that a request names is live
  one_live : (q : Request) (p : List ℕ) → refusal w (accepted w q) q ≡ None
      → list_all (is_live w) (packages_named q.command) ≡ (is_live w p && true) → is_live w p ≡ true
  one_live q p no_refusal names = and_true (is_live w p) (sym names
      ∙ not_false (list_all (is_live w) (packages_named q.command))
      (rows_fail (reasons w (accepted w q) q) no_refusal).1.0)

  appended : (id moment : List ℕ) (command : Command) → HasTypes command
      → kept_reply w (asked id moment command) ≡ None → refusal w (accepted w (asked id moment command))
      (asked id moment command) ≡ None → Appended w (asked id moment command)
  appended id moment (Add p identity content) types no_reply no_refusal =
      let q : Request = asked id moment (Add p identity content) in
      gains q (λ x. with_receipt (receipt_of w q) (record x {
        items = put item_key (added_item identity content) x.items;
      })) p (λ x. refl) (one_live q p no_refusal refl)
  appended id moment (Delete p identity) types no_reply no_refusal =
      let q : Request = asked id moment (Delete p identity) in
      gains q (λ x. with_receipt (receipt_of w q) (record x {
        items = without (λ i. i.identity) (identity ∷ []) x.items;
      })) p (λ x. refl) (one_live q p no_refusal refl)
  appended id moment (Link p mapping base other) types no_reply no_refusal =
      let q : Request = asked id moment (Link p mapping base other) in
      gains q (λ x. with_receipt (receipt_of w q) (record x {
        links = put link_key (relation mapping base other) x.links;
      })) p (λ x. refl) (one_live q p no_refusal refl)
  appended id moment (Unlink p mapping base other) types no_reply no_refusal =
      let q : Request = asked id moment (Unlink p mapping base other) in
      gains q (λ x. with_receipt (receipt_of w q) (record x {
        links = without link_key (link_key (relation mapping base other) ∷ []) x.links;
      })) p (λ x. refl)
      (one_live q p no_refusal refl)
  appended id moment (Split p child mode rect) types no_reply no_refusal =
      let q : Request = asked id moment (Split p child mode rect) in
      let f : Package → Package = λ x. with_receipt (receipt_of w q) (less (cut_of w p mode rect) x) in
      let loan : Package = loan_of child (holdings w p) (receipt_of w q).seq (cut_of w p mode rect) in
      ap (arranged receipt_key) (flat_put loan (map (λ x. cond (bytes_eq x.uuid p) (f x) x) w.packages) refl)
      ∙ gains q f p (λ x. refl) (one_live q p no_refusal refl)
  appended id moment (Merge child into ticket) types no_reply no_refusal =
      merging.receipts w id moment child into ticket types register
      (merging.known w id moment child into ticket types register no_reply no_refusal)

pub accepted_is_appended : (w : World) (q : Request) → HasTypes q.command → IsRegister w → kept_reply w q ≡ None
    → refuses w q ≡ None → Appended w q
accepted_is_appended w q types register no_reply no_refusal =
    appended w register q.id q.at q.command types no_reply no_refusal

-- ---- a step, and a run

-- by what is kept, and by what refuses
extends_by : (w : World) (q : Request) → HasTypes q.command → IsRegister w
    → (k : Option Receipt) (why : Option Refusal) → kept_reply w q ≡ k → refuses w q ≡ why
    → Extends w (outcome_by w q k why).0 (outcome_by w q k why).1
extends_by w q types register (Some r) why is by = inl refl
extends_by w q types register None (Some why) is by = inl refl
extends_by w q types register None None is by = inr (
  receipt_of w q,
  refl,
  accepted_is_appended w q types register is
      by,
)

pub step_extends_ledger : StepExtendsLedger
step_extends_ledger w q reply next types register step =
    elim step [
      | inl done ↦ subst (λ v. Extends w reply v) (sym done.1)
          (subst (λ a. Extends w a (outcome w q).1) (sym done.0)
          (extends_by w q types register (kept_reply w q) (refuses w q) refl refl))
      | inr fault ↦ inl (ap receipts_of fault.1)
    ]

pub run_extends_ledger : RunExtendsLedger
run_extends_ledger w [] [] next types register run = ([], ap receipts_of run ∙ sym (append-nil (receipts_of w)))
run_extends_ledger w (q ∷ qs) (reply ∷ replies) next types register run =
    let rest : (more : List Receipt) × (receipts_of next ≡ receipts_of run.0 ++ more) =
    run_extends_ledger run.0 qs replies next types.1
    (step_keeps_register w q reply run.0 types.0 register run.1) run.2 in
    elim (step_extends_ledger w q reply run.0 types.0 register run.1) [
      | inl same ↦ (rest.0, rest.1 ∙ ap (λ rs. rs ++ rest.0) same)
      | inr new ↦ (
        new.0 ∷ rest.0,
        rest.1 ∙ ap (λ rs. rs ++ rest.0) new.2
            ∙ append_assoc (receipts_of w) (new.0 ∷ []) rest.0,
      )
    ]
run_extends_ledger w [] (reply ∷ replies) next types register run = absurd run
run_extends_ledger w (q ∷ qs) [] next types register run = absurd run
