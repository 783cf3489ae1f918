-- A register is a balanced world that is fit.
use Rattle.std.specs.Prelude.{◌≡◌, ◌↔◌, ◌&&◌, ◌==◌, ◌+◌, ◌≤◌, ⊤, ℕ, pos, Bool, true}
use Rattle.std.specs.Prelude.{false, List, [], Option, Some, None, MatchOption, bytes_eq, find, refl}
use Rattle.std.proofs.Common.{sym, ap, subst, ◌∙◌}
use Rattle.std.proofs.lemmas.Bool.{and_parts, false≢true}
use Rattle.std.proofs.lemmas.Slice.Eq.{bytes_eq-Decides}
use Rattle.std.specs.List.{list_any, AllByRecursion}
use Rattle.sheet_types.specs.Balance.{Balanced, IsLedger, IsLoan, IsReceiptOf, archive_of, names_as}
use Rattle.sheet_types.specs.Custody.{is_add, is_split, is_merge, ends_at, after}
use Rattle.sheet_types.specs.Refuse.{greatest_depth}
use Rattle.sheet_types.specs.Register.{IsRegister, IsKeptPackage, HasParent}
use Rattle.sheet_types.specs.World.{World, Package, holdings, is_item_kind, is_live, receipts_of}
use Rattle.sheet_types.specs.Lines.{IsUuid, is_adding, is_bytes, is_number, is_uuid}
use Rattle.sheet_types.specs.Texts.{Entry, Adds, Deletes, Links, Unlinks, Splits, Merges, fingerprint, size}
use Rattle.sheet_types.specs.declared.command.Item.{Item}
use Rattle.sheet_types.specs.declared.receipt.Moved.{Moved}
use Rattle.sheet_types.specs.declared.receipt.Receipt.{Receipt}
use Rattle.sheet_types.proofs.Basics.{or-false}
use Rattle.sheet_types.proofs.Every.{All-weaker, All-both}
use Rattle.sheet_types.proofs.Found.{found, All-found}
use Rattle.sheet_types.proofs.LineReading.{line-entry_from}
use Rattle.sheet_laws.proofs.Contents.{IsUnaltered, each_unaltered}
use Rattle.sheet_laws.proofs.Facts.{ledger_entered}
use Rattle.sheet_laws.proofs.Ledger.{by_entry}
use Rattle.sheet_laws.proofs.Packages.{holdings_none}
use Rattle.sheet_balance.specs.Registers.{HasDepth, IsFitPackage, IsFitWorld}

-- a package that has a receipt is live
has_receipts : (w : World) (p target : List ℕ) (seq : ℕ) → list_any
    (λ r. is_split r && ends_at r.target target && (r.seq == seq)) (holdings w p).receipts ≡ true
    → is_live w p ≡ true
has_receipts w p target seq h = elim (is_live w p) as (λ b. is_live w p ≡ b → b ≡ true) [
  | true ↦ λ _. refl
  | false ↦ λ e. absurd (false≢true (sym (ap (λ x. list_any (λ r. is_split r && ends_at r.target target &&
      (r.seq == seq)) x.receipts) (holdings_none w p e)) ∙ h))
] refl

-- the parent of a loan is live, since the split stands there
has_parent : (w : World) (p : Package) → IsLoan w p → HasDepth w p → HasParent w p
has_parent w p loan depth = by p.parent loan depth
  where
    by : (o : Option (List ℕ)) → MatchOption o ⊤ (λ parent. (list_any
        (λ r. is_split r && ends_at r.target p.uuid && (r.seq == p.loan)) (holdings w parent).receipts ≡ true)
        × (list_any (λ m. is_merge m && ends_at m.source p.uuid) (after p.loan (receipts_of w)) ≡ false))
        → MatchOption o ((p.depth ≡ 0) × (p.loan ≡ 0)) (λ parent. (p.depth ≡ (holdings w parent).depth + 1)
        × (p.depth ≤ greatest_depth))
        → MatchOption o ((p.depth ≡ 0) × (p.loan ≡ 0)) (λ parent. (is_live w parent ≡ true)
        × (p.depth ≡ (holdings w parent).depth + 1) × (p.depth ≤ greatest_depth))
    by None l d = d
    by (Some parent) l d = (has_receipts w parent p.uuid p.loan l.0, d.0, d.1)

has_depth : (w : World) (p : Package) → HasParent w p → HasDepth w p
has_depth w p h = by p.parent h
  where
    by : (o : Option (List ℕ)) → MatchOption o ((p.depth ≡ 0) × (p.loan ≡ 0))
        (λ parent. (is_live w parent ≡ true) × (p.depth ≡ (holdings w parent).depth + 1)
        × (p.depth ≤ greatest_depth))
        → MatchOption o ((p.depth ≡ 0) × (p.loan ≡ 0)) (λ parent. (p.depth ≡ (holdings w parent).depth + 1)
        × (p.depth ≤ greatest_depth))
    by None d = d
    by (Some parent) d = (d.1, d.2)

-- ---- identities are UUIDs

-- what an addition names as an item has a UUID
uuid_added : (r : Receipt) (e : Entry) → IsReceiptOf r e → is_add r ≡ true → (i : Item)
    → list_any (names_as i) r.items ≡ true → IsUuid i.identity
uuid_added r (Adds p identity kind bytes digest) of add i named =
    let m : Moved = record { kind = kind; base = identity; other = None; size = bytes; fingerprint = Some digest } in
    let names : names_as i m ≡ true = sym (or-false (names_as i m)) ∙ sym (ap (list_any (names_as i)) of.moves)
    ∙ named in
    let same : bytes_eq identity i.identity ≡ true =
    (and_parts (bytes_eq identity i.identity) (bytes == size i.content)
    (and_parts (bytes_eq identity i.identity && (bytes == size i.content))
    (bytes_eq digest (fingerprint i.content)) names).0).0 in
    let fits : (is_uuid p && is_uuid identity && is_item_kind kind && is_number (pos bytes) && is_bytes 32 digest)
    ≡ true = (line-entry_from r.line (Adds p identity kind bytes digest) of.says).0 in
    let three : (is_uuid p && is_uuid identity && is_item_kind kind) ≡ true =
    (and_parts (is_uuid p && is_uuid identity && is_item_kind kind) (is_number (pos bytes))
    (and_parts (is_uuid p && is_uuid identity && is_item_kind kind && is_number (pos bytes)) (is_bytes 32 digest)
    fits).0).0 in
    subst IsUuid ((bytes_eq-Decides identity i.identity).0 same)
    (and_parts (is_uuid p) (is_uuid identity) (and_parts (is_uuid p && is_uuid identity) (is_item_kind kind)
    three).0).1
uuid_added r (Deletes p identity) of add i named = absurd (false≢true
    (sym (by_entry is_adding r (Deletes p identity) of.says) ∙ add))
uuid_added r (Links p mapping base other) of add i named = absurd
    (false≢true (sym (by_entry is_adding r (Links p mapping base other) of.says) ∙ add))
uuid_added r (Unlinks p mapping base other) of add i named =
    absurd (false≢true (sym (by_entry is_adding r (Unlinks p mapping base other) of.says) ∙ add))
uuid_added r (Splits p child mode rect) of add i named = absurd
    (false≢true (sym (by_entry is_adding r (Splits p child mode rect) of.says) ∙ add))
uuid_added r (Merges child into ticket) of add i named = absurd
    (false≢true (sym (by_entry is_adding r (Merges child into ticket) of.says) ∙ add))

-- what is unaltered has a UUID, since an addition names it
uuid_unaltered : (w : World) → IsLedger (archive_of w) [] (receipts_of w) → (i : Item) → IsUnaltered w i
    → IsUuid i.identity
uuid_unaltered w sound i h =
    let says : Receipt → Bool = λ s. is_add s && list_any (names_as i) s.items in
    let s : (s : Receipt) × (find says (receipts_of w) ≡ Some s) = found says (receipts_of w) h in
    let of : ((e : Entry) × IsReceiptOf s.0 e) × (says s.0 ≡ true) =
    All-found (λ x. (e : Entry) × IsReceiptOf x e) says s.0 (receipts_of w) s.1
    (ledger_entered (archive_of w) [] (receipts_of w) sound) in
    let tests : (is_add s.0 ≡ true) × (list_any (names_as i) s.0.items ≡ true) =
    and_parts (is_add s.0) (list_any (names_as i) s.0.items) of.1 in
    uuid_added s.0 of.0.0 of.0.1 tests.0 i tests.1

-- ---- packages

-- what the receipts say of a package that is fit
record Told (w : World) (p : Package) : Type 0 where
  pub loan : IsLoan w p
  pub uuids : AllByRecursion (λ i. IsUuid i.identity) p.items

kept : (w : World) (p : Package) → IsFitPackage w p → Told w p → IsKeptPackage w p
kept w p f told = record {
  uuid = f.uuid;
  items = f.items;
  links = f.links;
  receipts = f.receipts;
  identities = f.identities;
  uuids = told.uuids;
  fit = f.fit;
  places = f.places;
  ends = f.ends;
  parent = has_parent w p told.loan f.depth;
}

fit : (w : World) (p : Package) → IsKeptPackage w p → IsFitPackage w p
fit w p k = record {
  uuid = k.uuid;
  items = k.items;
  links = k.links;
  receipts = k.receipts;
  identities = k.identities;
  fit = k.fit;
  places = k.places;
  ends = k.ends;
  depth = has_depth w p k.parent;
}

pub register_parts : (w : World) → IsRegister w ↔ (Balanced w × IsFitWorld w)
register_parts w = (there, back)
  where
    there : IsRegister w → Balanced w × IsFitWorld w
    there g = (
      g.balanced,
      record {
        frame = g.frame;
        arranged = g.arranged;
        archive = g.archive;
        packages = All-weaker (IsKeptPackage w) (IsFitPackage w) (fit w) w.packages g.packages;
        open_loans = g.open_loans;
        unaltered = g.unaltered;
      },
    )

    back : Balanced w × IsFitWorld w → IsRegister w
    back h =
        let told : AllByRecursion (Told w) w.packages = All-both (IsLoan w)
        (λ p. AllByRecursion (IsUnaltered w) p.items) (Told w)
        (λ p loan items. record {
          loan = loan;
          uuids = All-weaker (IsUnaltered w) (λ i. IsUuid i.identity)
              (uuid_unaltered w h.0.ledger) p.items items;
        }) w.packages h.0.loans (each_unaltered w h.1.unaltered) in
        record {
          frame = h.1.frame;
          arranged = h.1.arranged;
          archive = h.1.archive;
          packages =
              All-both (IsFitPackage w) (Told w) (IsKeptPackage w) (kept w) w.packages h.1.packages told;
          open_loans = h.1.open_loans;
          balanced = h.0;
          unaltered = h.1.unaltered;
        }
