-- Whether a split would leave too many, by the sums and numbers that are kept.
use Rattle.std.specs.Prelude.{◌≡◌, ℕ, ◌+◌, cond, ◌||◌, nat_lt, List, map, length, refl, bytes_eq}
use Rattle.std.specs.Prelude.{Some, slice_get}
use Rattle.std.specs.Prelude.{slice_set, true, false}
use Rattle.std.proofs.Common.{sym, ap, ◌∙◌, length-append, ◌∷◌, []}
use Rattle.std.proofs.lemmas.List.{length-map}
use Rattle.std.proofs.lemmas.Slice.Zip.{AllZip-long}
use Rattle.std.specs.List.{list_any}
use Rattle.sqlite.specs.Store.{Ghosts}
use Rattle.sheet_types.specs.Answers.{sums_held}
use Rattle.sheet_types.specs.Cut.{Cut}
use Rattle.sheet_types.specs.Lines.{HasTypes}
use Rattle.sheet_types.specs.Ordered.{put}
use Rattle.sheet_types.specs.Refuse.{is_overfull, too_many, greatest_packages, greatest_receipts}
use Rattle.sheet_types.specs.Register.{IsRegister}
use Rattle.sheet_types.specs.Step.{accepted, less, loan_of, cut_of, receipt_of}
use Rattle.sheet_types.specs.World.{World, Package, package_key, holdings, receipts_of, with_receipt}
use Rattle.sheet_types.specs.declared.command.Command.TheVariants.{Split}
use Rattle.sheet_types.specs.declared.command.Mode.{Mode}
use Rattle.sheet_types.specs.declared.command.Request.{Request}
use Rattle.sheet_types.specs.declared.frame.Rect.{Rect}
use Rattle.sheet_types.specs.declared.receipt.Receipt.{Receipt}
use Rattle.sheet_types.specs.declared.receipt.Sums.{Sums}
use Rattle.sheet_types.proofs.Every.{All-each}
use Rattle.sheet_types.proofs.Order.{list_any-put, sum_by-put}
use Rattle.sheet_types.proofs.Sums.{length_sum}
use Rattle.sheet_laws.specs.Laws.{split_request}
use Rattle.sheet_laws.proofs.Splitting as split
use Rattle.sheet_laws.proofs.Splitting.{Known}
use Rattle.world_decisions.specs.DecidingSplits.{leaves_too_many}
use Rattle.world_members.specs.Members.{IsMember, AreMembers}
use Rattle.world_members.specs.Steps.{sums_moved, sums_less, is_past_limits}
use Rattle.world_members.specs.declared.members.Member.{Member}
use Rattle.world_members.proofs.Changing.{apart_set}
use Rattle.world_loans.proofs.DueSplits.{held_moved, sums_left}
use Rattle.world_members.proofs.Limits.{overfull_by}
use Rattle.world_members.proofs.Standing.{zip_map}

-- one more in order is one more
pub length_put : {X : Type 0} (key : X → List ℕ) (x : X) (xs : List X) → length (put key x xs) ≡ length xs + 1
length_put key x xs = sym (length_sum (λ _. 1) (λ _. refl) (put key x xs)) ∙ sum_by-put key (λ _. 1) x xs
    ∙ ap (λ n. n + 1) (length_sum (λ _. 1) (λ _. refl) xs)

module _ (w : World) (id moment p child : List ℕ) (mode : Mode) (rect : Rect)
    (types : HasTypes (Split p child mode rect)) (register : IsRegister w)
    (k : Known w id moment p child mode rect types register) (at : ℕ)
    (there : slice_get w.packages at ≡ Some (holdings w p)) where
  abbrev taken : Cut
  taken = cut_of w p mode rect

  abbrev receipt : Receipt
  receipt = receipt_of w (split_request id moment p child mode rect)

  abbrev next : World
  next = accepted w (split_request id moment p child mode rect)

  abbrev give : Package → Package
  give x = with_receipt receipt (less taken x)

  abbrev made : Package
  made = loan_of child (holdings w p) receipt.seq taken

  abbrev others : List Package
  others = map (λ x. cond (bytes_eq x.uuid p) (give x) x) w.packages

  -- what the package is left with
  abbrev left : Sums
  left = sums_less (sums_moved receipt) (sums_held (holdings w p))

  lent_is : sums_held made ≡ sums_moved receipt
  lent_is = held_moved receipt.seq (split_request id moment p child mode rect) made

  left_is : sums_held (give (holdings w p)) ≡ left
  left_is =
      let kept = split.kept w id moment p child mode rect types register k in
      sums_left (holdings w p) taken (split.tests w id moment p child mode rect types register) kept.items kept.links
      ∙ ap (λ s. sums_less s (sums_held (holdings w p))) lent_is

  others_are : list_any is_overfull others ≡ list_any is_past_limits (slice_set (map sums_held w.packages) at left)
  others_are =
      overfull_by (λ x. cond (bytes_eq x.uuid p) (give x) x)
      (λ x. cond (bytes_eq x.uuid p) (sums_held (give x)) (sums_held x)) w.packages
      (All-each (λ x. sums_held (cond (bytes_eq x.uuid p) (give x) x)
      ≡ cond (bytes_eq x.uuid p) (sums_held (give x)) (sums_held x))
      (λ x. elim (bytes_eq x.uuid p) as (λ v. sums_held (cond v (give x) x)
      ≡ cond v (sums_held (give x)) (sums_held x)) [ true ↦ refl | false ↦ refl ]) w.packages)
      ∙ ap (list_any is_past_limits) (apart_set p (λ x. sums_held (give x)) sums_held w.packages at (holdings w p)
      register.arranged there (split.uuid_p w id moment p child mode rect types register k))
      ∙ ap (λ s. list_any is_past_limits (slice_set (map sums_held w.packages) at s)) left_is

  overfull : list_any is_overfull next.packages ≡ (is_past_limits (sums_moved receipt) || list_any is_past_limits
      (slice_set (map sums_held w.packages) at left))
  overfull =
      list_any-put package_key is_overfull made others
      ∙ ap (λ s. is_past_limits s || list_any is_overfull others) lent_is
      ∙ ap (λ b. is_past_limits (sums_moved receipt) || b) others_are

  packages : length next.packages ≡ length w.packages + 1
  packages = length_put package_key made others ∙ ap (λ n. n + 1)
      (length-map w.packages (λ x. cond (bytes_eq x.uuid p) (give x) x))

  number : length (receipts_of next) ≡ length (receipts_of w) + 1
  number = ap length (split.receipts w id moment p child mode rect types register k)
      ∙ length-append (receipts_of w) (receipt ∷ [])

  pub many_after : too_many next ≡ (is_past_limits (sums_moved receipt) || list_any is_past_limits
      (slice_set (map sums_held w.packages) at left) || nat_lt greatest_packages (length w.packages + 1) || nat_lt
      greatest_receipts (length (receipts_of w) + 1))
  many_after =
      ap (λ b. b || nat_lt greatest_packages (length next.packages) || nat_lt greatest_receipts
      (length (receipts_of next))) overfull
      ∙ ap (λ n. is_past_limits (sums_moved receipt) || list_any is_past_limits
      (slice_set (map sums_held w.packages) at left) || nat_lt greatest_packages n || nat_lt greatest_receipts
      (length (receipts_of next))) packages
      ∙ ap (λ n. is_past_limits (sums_moved receipt) || list_any is_past_limits
      (slice_set (map sums_held w.packages) at left) || nat_lt greatest_packages (length w.packages + 1) || nat_lt
      greatest_receipts n) number

  module _ {S : Type 0} (g : Ghosts S) (members : List (Member S)) (count : ℕ)
      (are : AreMembers g members count w) where
    -- the members tell it
    pub members_tell : leaves_too_many members at left (sums_moved receipt) count ≡ too_many next
    members_tell =
        ap (λ ss. is_past_limits (sums_moved receipt) || list_any is_past_limits (slice_set ss at left) || nat_lt
        greatest_packages (length members + 1) || nat_lt greatest_receipts (count + 1))
        (zip_map (IsMember g w) (λ m. m.sums) sums_held (λ m y is. is.sums) members w.packages are.each)
        ∙ ap (λ n. is_past_limits (sums_moved receipt) || list_any is_past_limits
        (slice_set (map sums_held w.packages) at left) || nat_lt greatest_packages (n + 1) || nat_lt
        greatest_receipts (count + 1)) (sym (AllZip-long (IsMember g w) members w.packages are.each))
        ∙ ap (λ n. is_past_limits (sums_moved receipt) || list_any is_past_limits
        (slice_set (map sums_held w.packages) at left) || nat_lt greatest_packages (length w.packages + 1) ||
        nat_lt greatest_receipts (n + 1)) are.counted
        ∙ sym many_after
