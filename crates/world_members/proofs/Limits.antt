-- Whether a request would leave too many, by sums and numbers that are kept; and what it makes of the tickets.
use Rattle.std.specs.Prelude.{◌≡◌, ◌<◌, ℕ, ◌+◌, true, false, cond, ◌||◌, nat_lt, List, []}
use Rattle.std.specs.Prelude.{◌∷◌, ◌++◌, map, find, fold}
use Rattle.std.specs.Prelude.{max, length, refl, bytes_eq, Some, unwrap_or}
use Rattle.std.proofs.Common.{sym, ap, subst, ◌∙◌, arith, length-append}
use Rattle.std.proofs.lemmas.List.{length-map}
use Rattle.std.proofs.lemmas.List.Sums.{fold-append}
use Rattle.std.proofs.lemmas.Slice.Eq.{bytes_eq-Decides}
use Rattle.std.specs.List.{list_any, AllByRecursion}
use Rattle.sheet_types.specs.Answers.{sums_held}
use Rattle.sheet_types.specs.Custody.{ticket, names_package}
use Rattle.sheet_types.specs.Ordered.{put}
use Rattle.sheet_types.specs.Refuse.{is_overfull, too_many, greatest_packages, greatest_receipts}
use Rattle.sheet_types.specs.Register.{IsRegister}
use Rattle.sheet_types.specs.Step.{accepted, receipt_of}
use Rattle.sheet_types.specs.World.{World, Package, is_live, holdings, no_package, receipts_of, changed, receipt_key}
use Rattle.sheet_types.specs.declared.command.Command.{Command}
use Rattle.sheet_types.specs.declared.command.Command.TheVariants.{Add, Delete, Link, Unlink, Split, Merge}
use Rattle.sheet_types.specs.declared.command.Request.{Request}
use Rattle.sheet_types.specs.declared.receipt.Receipt.{Receipt}
use Rattle.sheet_types.specs.declared.receipt.Sums.{Sums}
use Rattle.sheet_types.proofs.Basics.{or-false, bytes_eq_swap}
use Rattle.sheet_types.proofs.Every.{All-weaker}
use Rattle.sheet_laws.proofs.Packages.{at_uuid, each_found, receipts_gained, with_receipt_gains}
use Rattle.world_members.specs.Carrying.{Meets, Fits, after_command}
use Rattle.world_members.specs.Laws.{ChangesOnePackage, package_of}
use Rattle.world_members.specs.Steps.{TooManyBySums, TicketAfter, sums_moved, sums_after, sums_next, is_past_limits}
use Rattle.world_members.proofs.Carrying.{carried_out_in_one, same_rest}
use Rattle.world_members.proofs.Counting.{sums_after_command}
use Rattle.sheet_laws.proofs.Shifting.{numbers_below}

-- ---- the receipts

-- the receipt of a command that changes one package is the last
pub receipts_next : (w : World) (q : Request) → IsRegister w → ChangesOnePackage q.command
    → is_live w (package_of q.command) ≡ true → receipts_of (accepted w q) ≡ receipts_of w ++ receipt_of w q
    ∷ []
receipts_next w q register one live =
    let r : Receipt = receipt_of w q in
    ap receipts_of (carried_out_in_one w (receipt_of w q) q.command one)
    ∙ receipts_gained (after_command (receipt_of w q) q.command) w (package_of q.command) (receipt_of w q)
    (λ x below. ap (λ (y : Package). put receipt_key (receipt_of w q) y.receipts) (same_rest q.command x)
    ∙ with_receipt_gains (receipt_of w q) x below)
    (numbers_below w (length (receipts_of w) + 1) register.balanced.ledger refl) register.arranged live

-- ---- the limits

-- a command that a package meets changes one package
meets_one : (command : Command) (p : Package) → Meets command p → ChangesOnePackage command
meets_one (Add uuid identity content) p meets = tt
meets_one (Delete uuid identity) p meets = tt
meets_one (Link uuid mapping base other) p meets = tt
meets_one (Unlink uuid mapping base other) p meets = tt
meets_one (Split uuid child mode rect) p meets = meets
meets_one (Merge child into ticket) p meets = meets

-- the packages that are overfull, by their sums
pub overfull_by : (f : Package → Package) (g : Package → Sums) (ps : List Package)
    → AllByRecursion (λ x. sums_held (f x) ≡ g x) ps → list_any is_overfull (map f ps)
    ≡ list_any is_past_limits (map g ps)
overfull_by f g [] h = refl
overfull_by f g (x ∷ ps) h = ap (λ s. is_past_limits s || list_any is_overfull (map f ps)) h.0
    ∙ ap (λ b. is_past_limits (g x) || b) (overfull_by f g ps h.1)

module _ (w : World) (q : Request) (register : IsRegister w) (live : is_live w (package_of q.command) ≡ true)
    (fits : Fits (receipt_of w q) q.command (holdings w (package_of q.command))) where
  abbrev p : List ℕ
  p = package_of q.command

  abbrev after : Package → Package
  after x = after_command (receipt_of w q) q.command x

  abbrev sums : Sums → Sums
  sums held = sums_after q.command (sums_moved (receipt_of w q)) held

  -- the package that is found under this UUID
  at_package : (x : Package) → find (at_uuid x.uuid) w.packages ≡ Some x
      → sums_held (cond (bytes_eq x.uuid p) (after x) x) ≡ cond (bytes_eq x.uuid p) (sums (sums_held x))
      (sums_held x)
  at_package x is =
      elim (bytes_eq x.uuid p) as (λ v. bytes_eq x.uuid p ≡ v
      → sums_held (cond v (after x) x) ≡ cond v (sums (sums_held x)) (sums_held x)) [
        | true ↦ λ same.
            let here : holdings w p ≡ x = ap (λ u. unwrap_or (find (at_uuid u) w.packages) no_package)
            (sym ((bytes_eq-Decides x.uuid p).0 same)) ∙ ap (λ o. unwrap_or o no_package) is in
            subst (λ y. sums_held (after y) ≡ sums (sums_held y)) here (sums_after_command w q register live fits).1
        | false ↦ λ _. refl
      ] refl

  number : length (receipts_of (accepted w q)) ≡ length (receipts_of w) + 1
  number = ap length (receipts_next w q register (meets_one q.command (holdings w p) fits.meets) live)
      ∙ length-append (receipts_of w) (receipt_of w q ∷ [])

  overfull : list_any is_overfull (changed after p w).packages ≡ list_any is_past_limits (sums_next w q)
  overfull = overfull_by (λ x. cond (bytes_eq x.uuid p) (after x) x)
      (λ x. cond (bytes_eq x.uuid p) (sums (sums_held x)) (sums_held x)) w.packages
      (All-weaker (λ x. find (at_uuid x.uuid) w.packages ≡ Some x)
      (λ x. sums_held (cond (bytes_eq x.uuid p) (after x) x)
      ≡ cond (bytes_eq x.uuid p) (sums (sums_held x)) (sums_held x)) at_package w.packages
      (each_found w.packages register.arranged))

  count : length (changed after p w).packages ≡ length w.packages
  count = length-map w.packages (λ x. cond (bytes_eq x.uuid p) (after x) x)

  is_carried : accepted w q ≡ changed after p w
  is_carried = carried_out_in_one w (receipt_of w q) q.command (meets_one q.command (holdings w p) fits.meets)

  too_many_here : too_many (accepted w q) ≡ (list_any is_past_limits (sums_next w q) || nat_lt greatest_packages
      (length w.packages) || nat_lt greatest_receipts (length (receipts_of w) + 1))
  too_many_here =
      ap (λ n. list_any is_overfull (accepted w q).packages || nat_lt greatest_packages
      (length (accepted w q).packages) || nat_lt greatest_receipts n) number
      ∙ ap (λ v. list_any is_overfull v.packages || nat_lt greatest_packages (length v.packages) || nat_lt
      greatest_receipts (length (receipts_of w) + 1)) is_carried
      ∙ ap (λ b. b || nat_lt greatest_packages (length (changed after p w).packages) || nat_lt greatest_receipts
      (length (receipts_of w) + 1)) overfull
      ∙ ap (λ n. list_any is_past_limits (sums_next w q) || nat_lt greatest_packages n || nat_lt greatest_receipts
      (length (receipts_of w) + 1)) count

pub too_many_by_sums : TooManyBySums
too_many_by_sums w q register live fits = too_many_here w q register live fits

-- ---- the tickets

-- the greatest number of a receipt that names a package
abbrev pub ticket_from : ℕ → List ℕ → List Receipt → ℕ
ticket_from n p rs = fold (λ m r. cond (names_package p r) (max m r.seq) m) n rs

pub ticket_below : (n : ℕ) (p : List ℕ) (bound : ℕ) (rs : List Receipt) → n < bound
    → AllByRecursion (λ s. s.seq < bound) rs → ticket_from n p rs < bound
ticket_below n p bound [] h below = h
ticket_below n p bound (r ∷ rs) h below =
    ticket_below (cond (names_package p r) (max n r.seq) n) p bound rs
    (elim (names_package p r) as (λ v. cond v (max n r.seq) n < bound)
    [ true ↦ greater n r.seq bound h below.0 | false ↦ h ]) below.1
  where
    greater : (a b c : ℕ) → a < c → b < c → max a b < c
    greater a b c x y = omega arith

-- the receipt of a command that changes one package names its package alone
names_its_own : (w : World) (id at : List ℕ) (command : Command) (p : List ℕ) → ChangesOnePackage command
    → names_package p (receipt_of w (record { id = id; at = at; command = command }))
    ≡ bytes_eq p (package_of command)
names_its_own w id at (Add uuid identity content) p one = bytes_eq_swap uuid p
names_its_own w id at (Delete uuid identity) p one = or-false (bytes_eq uuid p) ∙ bytes_eq_swap uuid p
names_its_own w id at (Link uuid mapping base other) p one = bytes_eq_swap uuid p
names_its_own w id at (Unlink uuid mapping base other) p one = or-false (bytes_eq uuid p) ∙ bytes_eq_swap uuid p
names_its_own w id at (Split uuid child mode rect) p one = absurd one
names_its_own w id at (Merge child into ticket) p one = absurd one

pub greatest : (a b : ℕ) → a < b → max a b ≡ b
greatest a b h = omega arith

pub ticket_after : TicketAfter
ticket_after w q id register one live =
    let n : ℕ = length (receipts_of w) + 1 in
    ap (ticket_from 0 id) (receipts_next w q register one live)
    ∙ fold-append (λ m r. cond (names_package id r) (max m r.seq) m) 0 (receipts_of w) (receipt_of w q ∷ [])
    ∙ ap (λ b. cond b (max (ticket w id) (length (receipts_of w) + 1)) (ticket w id))
    (names_its_own w q.id q.at q.command id one)
    ∙ ap (λ m. cond (bytes_eq id (package_of q.command)) m (ticket w id))
    (greatest (ticket w id) (length (receipts_of w) + 1)
    (ticket_below 0 id (length (receipts_of w) + 1) (receipts_of w) (omega arith)
    (numbers_below w (length (receipts_of w) + 1) register.balanced.ledger refl)))
