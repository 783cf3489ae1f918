-- What a world has named is known, and after a request what it names more.
use Rattle.std.specs.Prelude.{◌≡◌, ℕ, Bool, true, false, cond, ◌&&◌, ⊤, List, [], ◌∷◌, ◌++◌}
use Rattle.std.specs.Prelude.{map, refl, Option, Some, None, MatchOption, Contains, bytes_eq, flat_map}
use Rattle.std.proofs.Common.{subst}
use Rattle.std.specs.List.{list_any, AllByRecursion}
use Rattle.std.proofs.lemmas.Slice.Eq.{bytes_eq-Decides}
use Rattle.sheet_types.specs.Custody.{kept, is_used, is_add, is_split, ends_at}
use Rattle.sheet_types.specs.Ordered.{has}
use Rattle.sheet_types.specs.Step.{receipt_of, accepted, carried_out}
use Rattle.sheet_types.specs.World.{World, Package, package_key, receipt_key, receipts_of, holdings, with_receipt}
use Rattle.sheet_types.specs.declared.command.Command.{Command}
use Rattle.sheet_types.specs.declared.command.Command.TheVariants.{Add, Delete, Link, Unlink, Split, Merge}
use Rattle.sheet_types.specs.declared.command.Request.{Request}
use Rattle.sheet_types.specs.declared.receipt.Moved.{Moved}
use Rattle.sheet_types.specs.declared.receipt.Receipt.{Receipt}
use Rattle.sheet_types.proofs.Every.{All-snoc, All-weaker, All-filter, All-append, none_any}
use Rattle.sheet_types.proofs.Found.{not_found}
use Rattle.sheet_types.proofs.Order.{All-put, All-arranged}
use Rattle.sheet_laws.proofs.Packages.{stand_flat}
use Rattle.sheet_laws.proofs.Shifting.{each_stands, of_package}
use Rattle.world_known.specs.Known.{Grows, Notes, Knows}

-- ---- what is not known

-- no key that is known is equal to one that is not
differs : (known : List (List ℕ)) (id k : List ℕ) → ¬ Contains known id → Contains known k
    → bytes_eq k id ≡ false
differs known id k new there = elim (bytes_eq k id) as (λ b. bytes_eq k id ≡ b → b ≡ false) [
  | true ↦ λ same. absurd (new (subst (Contains known) ((bytes_eq-Decides k id).0 same) there))
  | false ↦ λ same. refl
] refl

module _ (known : List (List ℕ)) (w : World) (knows : Knows known w) (id : List ℕ)
    (new : ¬ Contains known id) where
  -- a request that is not known did not come before
  pub none_kept : kept w id ≡ None
  none_kept = not_found (λ r. bytes_eq r.request id) (receipts_of w)
      (none_any (λ r. bytes_eq r.request id) (receipts_of w)
      (All-weaker (Notes known) (λ r. bytes_eq r.request id ≡ false)
      (λ r notes. differs known id r.request new notes.request) (receipts_of w) knows))

  unnamed : (r : Receipt) → Notes known r → has (λ m. m.base) id r.items ≡ false
  unnamed r notes = none_any (λ m. bytes_eq m.base id) r.items
      (All-weaker (λ (m : Moved). Contains known m.base) (λ m. bytes_eq m.base id ≡ false)
      (λ m there. differs known id m.base new there) r.items notes.things)

  and_false : (a b : Bool) → b ≡ false → (a && b) ≡ false
  and_false true b is = is
  and_false false b is = refl

  -- nor was an identity used
  pub none_used : is_used w id ≡ false
  none_used = none_any (λ r. is_add r && has (λ m. m.base) id r.items) (receipts_of w)
      (All-weaker (Notes known) (λ r. (is_add r && has (λ m. m.base) id r.items) ≡ false)
      (λ r notes. and_false (is_add r) (has (λ m. m.base) id r.items) (unnamed r notes)) (receipts_of w) knows)

  elsewhere : (o : Option (List ℕ)) → MatchOption o ⊤ (λ p. Contains known p) → ends_at o id ≡ false
  elsewhere None there = refl
  elsewhere (Some p) there = differs known id p new there

  -- nor did a split make a package of that UUID
  pub none_lent : list_any (λ r. is_split r && ends_at r.target id) (receipts_of w) ≡ false
  none_lent = none_any (λ r. is_split r && ends_at r.target id) (receipts_of w)
      (All-weaker (Notes known) (λ r. (is_split r && ends_at r.target id) ≡ false)
      (λ r notes. and_false (is_split r) (ends_at r.target id) (elsewhere r.target notes.target)) (receipts_of w)
      knows)

-- ---- what is known stays so

pub notes_grow : (old new : List (List ℕ)) → Grows old new → (r : Receipt) → Notes old r → Notes new r
notes_grow old new grows r notes = record {
  request = grows r.request notes.request;
  things = All-weaker (λ (m : Moved). Contains old m.base) (λ m. Contains new m.base)
      (λ m there. grows m.base there) r.items notes.things;
  target = elim r.target as (λ o. MatchOption o ⊤ (λ p. Contains old p)
      → MatchOption o ⊤ (λ p. Contains new p)) [ None ↦ λ there. tt | Some p ↦ λ there. grows p there ]
      notes.target;
}

-- of one receipt more
pub notes_more : (old new : List (List ℕ)) (some : List Receipt) (r : Receipt) → Grows old new → Notes new r
    → AllByRecursion (Notes old) some → AllByRecursion (Notes new) (some ++ r ∷ [])
notes_more old new some r grows here each = All-snoc (Notes new) some r
    (All-weaker (Notes old) (Notes new) (notes_grow old new grows) some each) here

pub knows_more : (old new : List (List ℕ)) (w : World) → Grows old new → Knows old w → Knows new w
knows_more old new w grows knows = All-weaker (Notes old) (Notes new) (notes_grow old new grows) (receipts_of w) knows

-- ---- an accepted request

module _ (P : Receipt → Type 0) where
  abbrev Each : Package → Type 0
  Each p = AllByRecursion P p.receipts

  -- the change of one package that takes a receipt with P, where each package had such receipts only
  each_changed : (f : Package → Package) (p : List ℕ) (ps : List Package)
      → ((x : Package) → Each x → Each (f x)) → AllByRecursion Each ps
      → AllByRecursion Each (map (λ x. cond (bytes_eq x.uuid p) (f x) x) ps)
  each_changed f p [] keeps each = tt
  each_changed f p (x ∷ ps) keeps each = (
    elim (bytes_eq x.uuid p) as (λ b. Each (cond b (f x) x))
        [ true ↦ keeps x each.0 | false ↦ each.0 ],
    each_changed f p ps keeps each.1,
  )

  takes : (r : Receipt) (x : Package) → P r → Each x → Each (with_receipt r x)
  takes r x here each = All-put receipt_key P r x.receipts here each

  -- all receipts of the packages after a command are those before it and its own
  each_after : (w : World) (r : Receipt) (command : Command) → P r → AllByRecursion Each w.packages
      → ((p : List ℕ) → Each (holdings w p)) → AllByRecursion Each (carried_out w r command).packages
  each_after w r (Add p identity content) here each held = each_changed _ p w.packages
      (λ x all. All-put receipt_key P r x.receipts here all) each
  each_after w r (Delete p identity) here each held = each_changed _ p w.packages
      (λ x all. All-put receipt_key P r x.receipts here all) each
  each_after w r (Link p mapping base other) here each held =
      each_changed _ p w.packages (λ x all. All-put receipt_key P r x.receipts here all) each
  each_after w r (Unlink p mapping base other) here each held =
      each_changed _ p w.packages (λ x all. All-put receipt_key P r x.receipts here all) each
  each_after w r (Split p child mode rect) here each held = All-put package_key Each _ _ tt
      (each_changed _ p w.packages (λ x all. All-put receipt_key P r x.receipts here all) each)
  each_after w r (Merge child into ticket) here each held =
      All-filter Each _ _ (each_changed _ into w.packages
      (λ x all. All-put receipt_key P r _ here (All-arranged receipt_key P
      ((holdings w child).receipts ++ x.receipts) (All-append P (holdings w child).receipts x.receipts
      (held child) all))) each)

  pub all_after : (w : World) (r : Receipt) (command : Command) → P r → AllByRecursion P (receipts_of w)
      → AllByRecursion P (receipts_of (carried_out w r command))
  all_after w r command here all =
      let next = carried_out w r command in
      All-arranged receipt_key P (flat_map (λ x. x.receipts) next.packages)
      (stand_flat P next.packages (each_after w r command here (each_stands P w all)
      (λ p. of_package P w p all)))

-- what the world after an accepted request names was known, or its receipt names it
pub knows_next : (old new : List (List ℕ)) (w : World) (q : Request) → Grows old new → Knows old w
    → Notes new (receipt_of w q) → Knows new (accepted w q)
knows_next old new w q grows knows notes = all_after (Notes new) w (receipt_of w q) q.command notes
    (knows_more old new w grows knows)
