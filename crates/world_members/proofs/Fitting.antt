-- What nothing speaks against fits the package that it names.
use Rattle.std.specs.Prelude.{◌≡◌, ℕ, ◌+◌, ◌<◌, Bool, true, false, not, ◌&&◌, List, [], ◌∷◌}
use Rattle.std.specs.Prelude.{◌++◌, Option, length}
use Rattle.std.specs.Prelude.{refl, bytes_eq, Some, None}
use Rattle.std.proofs.Common.{sym, ap, ◌∙◌}
use Rattle.std.proofs.lemmas.Bool.{false≢true, and_parts, and_from, or_parts, false_from_ne_true, lt-ltb}
use Rattle.std.specs.Bool.{then_some}
use Rattle.std.specs.List.{AllByRecursion}
use Rattle.std.specs.Option.{option_map_or, option_or}
use Rattle.sheet_types.specs.Ordered.{has}
use Rattle.sheet_types.specs.Custody.{kept, custody, is_add, is_used}
use Rattle.sheet_types.specs.Balance.{archive_of, names_identity, holds, IsThing}
use Rattle.sheet_types.specs.Lines.{IsUuid, HasTypes, is_uuid, is_bytes}
use Rattle.sheet_types.specs.Matrix.{first_row}
use Rattle.sheet_types.specs.Refuse.{refusal, reasons, identity_used, id_reused, too_many, bad_text}
use Rattle.sheet_types.specs.Register.{IsRegister}
use Rattle.sheet_types.specs.Step.{moved, source_of, target_of, added_item, relation}
use Rattle.sheet_types.specs.Texts.{entry_of, kind_of, fingerprint, line, is_moment}
use Rattle.sheet_types.specs.World.{World, Package, is_live, holdings, receipts_of, has_item, has_kind, item_of}
use Rattle.sheet_types.specs.World.{item_thing, item_moved, link_key, base_kind, other_kind, receipt_key}
use Rattle.sheet_types.specs.World.{is_item_kind}
use Rattle.sheet_types.specs.declared.command.Command.{Command}
use Rattle.sheet_types.specs.declared.command.Command.TheVariants.{Add, Delete, Link, Unlink, Split, Merge}
use Rattle.sheet_types.specs.declared.command.Content.{Content}
use Rattle.sheet_types.specs.declared.command.Item.{Item}
use Rattle.sheet_types.specs.declared.command.Relation.{Relation}
use Rattle.sheet_types.specs.declared.command.Request.{Request}
use Rattle.sheet_types.specs.declared.refusal.Refusal.{Refusal}
use Rattle.sheet_types.specs.declared.refusal.Refusal.TheVariants.{IdReused, UnknownPackage, TooMany, IdentityUsed}
use Rattle.sheet_types.proofs.Basics.{None≢Some, bytes_eq_itself, not_false, before-differs}
use Rattle.sheet_types.proofs.Every.{All-weaker, All-left, none_pass, none_any}
use Rattle.sheet_types.proofs.Fitting.{digest_fits, item_kind_of}
use Rattle.sheet_types.proofs.Found.{none_found, All-found}
use Rattle.sheet_types.proofs.Order.{before_numbers}
use Rattle.sheet_laws.proofs.Accepting.{rows_fail}
use Rattle.sheet_laws.proofs.Facts.{kept_at}
use Rattle.sheet_laws.proofs.Ledger.{never_named, custody_none, thing_of, thing_of_item}
use Rattle.sheet_laws.proofs.Shifting.{of_package, numbers_below}
use Rattle.identity_register.specs.Reads.{is_fit_end, is_fit_moved}
use Rattle.world_members.specs.Carrying.{Meets}
use Rattle.world_members.specs.Laws.{ChangesOnePackage, package_of, live_reasons}
use Rattle.world_members.specs.Reasons.{text_reasons, package_reasons, delete_reasons, link_reasons, unlink_reasons}
use Rattle.world_members.specs.Steps.{NothingAgainst, FitsWhereAccepted, NothingAgainstAccepted, RefusedInTurn}
use Rattle.world_members.specs.Steps.{RefusedAsUnknown}
use Rattle.world_members.proofs.FirstRows.{passes, last}
use Rattle.world_members.proofs.Parts.{refused_by_parts, refused_unless_live, first_of_both}

-- ---- a new receipt among all

pub new_number : (w : World) (p : List ℕ) → IsRegister w → has receipt_key ((length (receipts_of w) + 1) ∷ [])
    (holdings w p).receipts ≡ false
new_number w p register =
    let n : ℕ = length (receipts_of w) + 1 in
    none_any (λ s. bytes_eq (receipt_key s) (n ∷ [])) (holdings w p).receipts
    (All-weaker (λ s. s.seq < n) (λ s. bytes_eq (receipt_key s) (n ∷ []) ≡ false)
    (λ s lt. before-differs (receipt_key s) (n ∷ []) (before_numbers s.seq n ∙ lt-ltb s.seq n lt))
    (holdings w p).receipts (of_package (λ s. s.seq < n) w p (numbers_below w n register.balanced.ledger refl)))

pub new_request : (w : World) (id p : List ℕ) → kept w id ≡ None
    → has (λ r. r.request) id (holdings w p).receipts ≡ false
new_request w id p new =
    none_any (λ r. bytes_eq r.request id) (holdings w p).receipts
    (of_package (λ r. bytes_eq r.request id ≡ false) w p (none_pass (λ r. bytes_eq r.request id) (receipts_of w)
    (none_found (λ r. bytes_eq r.request id) (receipts_of w) new)))

-- ---- the receipt of a command

-- its ends are UUIDs
fit_ends : (command : Command) → ChangesOnePackage command → HasTypes command
    → (is_fit_end (source_of (entry_of command)) ≡ true) × (is_fit_end (target_of (entry_of command)) ≡ true)
fit_ends (Add p identity content) one types = (refl, (and_parts (is_uuid p) (is_uuid identity) types).0)
fit_ends (Delete p identity) one types = ((and_parts (is_uuid p) (is_uuid identity) types).0, refl)
fit_ends (Link p mapping base other) one types = (
  refl,
  (and_parts (is_uuid p) (is_uuid base)
      (and_parts (is_uuid p && is_uuid base) (is_uuid other) types).0).0,
)
fit_ends (Unlink p mapping base other) one types = (
  (and_parts (is_uuid p) (is_uuid base)
      (and_parts (is_uuid p && is_uuid base) (is_uuid other) types).0).0,
  refl,
)
fit_ends (Split p child mode rect) one types = absurd one
fit_ends (Merge child into ticket) one types = absurd one

-- the UUIDs of a link are such
link_ends : (p base other : List ℕ) → (is_uuid p && is_uuid base && is_uuid other) ≡ true
    → (is_uuid base ≡ true)
    × (is_uuid other ≡ true)
link_ends p base other types =
    let parts : ((is_uuid p && is_uuid base) ≡ true) × (is_uuid other ≡ true) =
    and_parts (is_uuid p && is_uuid base) (is_uuid other) types in
    ((and_parts (is_uuid p) (is_uuid base) parts.0).1, parts.1)

pub fit_item : (i : Item) → IsUuid i.identity → is_fit_moved (item_moved i) ≡ true
fit_item i uuid = and_from (is_uuid i.identity && true) (is_bytes 32 (fingerprint i.content))
    (and_from (is_uuid i.identity) true uuid refl) (digest_fits i.content)

pub fit_link : (base other : List ℕ) → (is_uuid base ≡ true) × (is_uuid other ≡ true)
    → (is_uuid base && is_uuid other && true) ≡ true
fit_link base other uuids = and_from (is_uuid base && is_uuid other) true
    (and_from (is_uuid base) (is_uuid other) uuids.0 uuids.1) refl

-- what it moves has UUIDs and digests
fit_things : (w : World) (command : Command) → ChangesOnePackage command → HasTypes command
    → AllByRecursion (λ i. IsUuid i.identity) (holdings w (package_of command)).items
    → AllByRecursion (λ m. is_fit_moved m ≡ true) (moved w command)
fit_things w (Add p identity content) one types uuids = (
  fit_item (added_item identity content)
      (and_parts (is_uuid p) (is_uuid identity) types).1,
  tt,
)
fit_things w (Delete p identity) one types uuids =
    elim (item_of (holdings w p) identity) as (λ o. item_of (holdings w p) identity ≡ o
    → AllByRecursion (λ m. is_fit_moved m ≡ true) (option_map_or (λ i. item_moved i ∷ []) o [])) [
      | None ↦ λ _. tt
      | Some i ↦ λ is. (
        fit_item i (All-found (λ j. IsUuid j.identity) (λ j. bytes_eq j.identity identity) i
            (holdings w p).items is uuids).0,
        tt,
      )
    ] refl
fit_things w (Link p mapping base other) one types uuids = (fit_link base other (link_ends p base other types), tt)
fit_things w (Unlink p mapping base other) one types uuids = (fit_link base other (link_ends p base other types), tt)
fit_things w (Split p child mode rect) one types uuids = absurd one
fit_things w (Merge child into ticket) one types uuids = absurd one

-- ---- the package

-- an identity that is not used is that of no item
not_held : (w : World) (p identity : List ℕ) (content : Content) → IsRegister w → is_used w identity ≡ false
    → has_item (holdings w p) identity ≡ false
not_held w p identity content register unused =
    let i : Item = added_item identity content in
    let never : AllByRecursion (λ s. names_identity identity s ≡ false) (receipts_of w)
    × AllByRecursion (λ s. AllByRecursion IsThing s.items) (receipts_of w) =
    never_named (archive_of w) identity [] (receipts_of w) register.balanced.ledger
    (none_pass (λ s. is_add s && has (λ m. m.base) identity s.items) (receipts_of w) unused) tt tt in
    let nowhere : custody (receipts_of w) (item_thing i) ≡ None =
    ap (custody (receipts_of w)) (sym (thing_of_item identity content))
    ∙ custody_none identity (item_moved i) (receipts_of w) (and_from (is_item_kind (kind_of content))
    (bytes_eq identity identity) (item_kind_of content) (bytes_eq_itself identity)) (thing_of identity content)
    never.0 never.1 in
    let none : holds (holdings w p) (item_thing i) ≡ false =
    false_from_ne_true (holds (holdings w p) (item_thing i))
    (λ held. None≢Some (sym nowhere ∙ (register.balanced.custody_is p (item_thing i)).0 held)) in
    (or_parts (has item_thing (item_thing i) (holdings w p).items) (has link_key (item_thing i) (holdings w p).links)
    none).0

-- the package is as the command needs it
meets_command : (w : World) (command : Command) → IsRegister w → ChangesOnePackage command → HasTypes command
    → identity_used w command ≡ false
    → first_row (package_reasons w.frame (holdings w (package_of command)) command) ≡ None
    → Meets command (holdings w (package_of command))
meets_command w (Add p identity content) register one types unused none =
    record {
      uuid = (and_parts (is_uuid p) (is_uuid identity) types).1;
      new = not_held w p identity content register unused;
    }
meets_command w (Delete p identity) register one types unused none =
    let fails : AllByRecursion (λ (row : Bool × Refusal). row.0 ≡ false) (delete_reasons (holdings w p) identity) =
    rows_fail (delete_reasons (holdings w p) identity) none in
    (not_false (has_item (holdings w p) identity) fails.0, fails.1.0)
meets_command w (Link p mapping base other) register one types unused none =
    let l : Relation = relation mapping base other in
    let x : Package = holdings w p in
    let fails : AllByRecursion (λ (row : Bool × Refusal). row.0 ≡ false)
    (link_reasons (holdings w p) (relation mapping base other)) =
    rows_fail (link_reasons (holdings w p) (relation mapping base other)) none in
    let uuids : (is_uuid base ≡ true) × (is_uuid other ≡ true) = link_ends p base other types in
    record {
      base = uuids.0;
      other = uuids.1;
      new = fails.1.1.0;
      ends = and_parts (has_kind x (base_kind mapping) base) (has_kind x (other_kind mapping) other)
          (not_false (has_kind x (base_kind mapping) base && has_kind x (other_kind mapping) other) fails.1.0);
    }
meets_command w (Unlink p mapping base other) register one types unused none =
    let fails : AllByRecursion (λ (row : Bool × Refusal). row.0 ≡ false)
    (unlink_reasons (holdings w p) (relation mapping base other)) =
    rows_fail (unlink_reasons (holdings w p) (relation mapping base other)) none in
    let uuids : (is_uuid base ≡ true) × (is_uuid other ≡ true) = link_ends p base other types in
    record {
      base = uuids.0;
      other = uuids.1;
      there = not_false
          (has link_key (link_key (relation mapping base other)) (holdings w p).links) fails.0;
    }
meets_command w (Split p child mode rect) register one types unused none = absurd one
meets_command w (Merge child into ticket) register one types unused none = absurd one

pub fits_where_accepted : FitsWhereAccepted
fits_where_accepted w q register uuid types one open' =
    let ends : (is_fit_end (source_of (entry_of q.command)) ≡ true)
    × (is_fit_end (target_of (entry_of q.command)) ≡ true) = fit_ends q.command one types in
    record {
      meets = meets_command w q.command register one types open'.unused open'.no_reason;
      receipt = record {
        number = new_number w (package_of q.command) register;
        request = new_request w q.id (package_of q.command) open'.new;
        fit = record {
          request = uuid;
          source = ends.0;
          target = ends.1;
          items = fit_things w q.command one types (kept_at w (package_of q.command) register open'.live).uuids;
        };
        moment = open'.moment;
      };
    }

-- ---- a request that is not refused

-- where each test of a table fails, no row passes
rows_none : {X : Type 0} (rows : List (Bool × X)) → AllByRecursion (λ row. row.0 ≡ false) rows
    → first_row rows ≡ None
rows_none [] h = refl
rows_none (row ∷ rows) h = rw h.0 (rows_none rows h.1)

-- it says a moment
pub says_moment : (w next : World) (q : Request) → refusal w next q ≡ None → is_moment q.at ≡ true
says_moment w next q none =
    let fails = rows_fail (reasons w next q) none in
    not_false (is_moment q.at) (or_parts (not (is_moment q.at)) (bad_text q.command) fails.1.1.1.0).0

pub nothing_against_accepted : NothingAgainstAccepted
nothing_against_accepted w next q one new none =
    elim (is_live w (package_of q.command)) as (λ v. is_live w (package_of q.command) ≡ v → NothingAgainst w q) [
      | true ↦ λ live.
          let x : Package = holdings w (package_of q.command) in
          let fails : AllByRecursion (λ (row : Bool × Refusal). row.0 ≡ false) (live_reasons w next x q) =
          rows_fail (live_reasons w next x q) (sym (refused_by_parts w next x q one live refl) ∙ none) in
          record {
            live = live;
            new = new;
            moment = not_false (is_moment q.at) (or_parts (not (is_moment q.at)) (bad_text q.command) fails.1.0).0;
            unused = fails.1.1.1.0;
            no_reason = rows_none (package_reasons w.frame x q.command)
                (All-left (λ (row : Bool × Refusal). row.0 ≡ false) (package_reasons w.frame x q.command)
                ((too_many next, TooMany) ∷ []) fails.1.1.1.1);
          }
      | false ↦ λ dead.
          let fails : AllByRecursion (λ (row : Bool × Refusal). row.0 ≡ false)
          ((id_reused w q, IdReused) ∷ (true, UnknownPackage) ∷ []) =
          rows_fail ((id_reused w q, IdReused) ∷ (true, UnknownPackage) ∷ [])
          (sym (refused_unless_live w next q one dead) ∙ none) in
          absurd (false≢true (sym fails.1.0))
    ] refl

-- ---- a new request

-- a request that did not come before reuses no identity
pub none_reused : (w : World) (q : Request) → kept w q.id ≡ None → id_reused w q ≡ false
none_reused w q new = ap (λ k. option_map_or (λ r. not (bytes_eq r.line (line q.command))) k false) new

pub refused_in_turn : RefusedInTurn
refused_in_turn w next q one new live =
    let x : Package = holdings w (package_of q.command) in
    let last_rows : List (Bool × Refusal) = (too_many next, TooMany) ∷ [] in
    let package_rows : List (Bool × Refusal) = package_reasons w.frame x q.command ++ last_rows in
    let texts : Option Refusal = first_row (text_reasons q) in
    let identity_row : List (Bool × Refusal) = (identity_used w q.command, IdentityUsed) ∷ [] in
    let identity : Option Refusal = then_some (identity_used w q.command) IdentityUsed in
    refused_by_parts w next x q one live refl
    ∙ passes (id_reused w q) IdReused (text_reasons q ++ identity_row ++ package_rows) (none_reused w q new)
    ∙ first_of_both (text_reasons q) (identity_row ++ package_rows)
    ∙ ap (option_or texts) (first_of_both identity_row package_rows
    ∙ ap (λ o. option_or o (first_row package_rows)) (sym (last (identity_used w q.command) IdentityUsed)))
    ∙ ap (λ o. option_or texts (option_or identity o)) (first_of_both (package_reasons w.frame x q.command)
    last_rows)
    ∙ ap (λ o. option_or texts (option_or identity (option_or (first_row (package_reasons w.frame x q.command)) o)))
    (sym (last (too_many next) TooMany))

pub refused_as_unknown : RefusedAsUnknown
refused_as_unknown w next q one new dead = refused_unless_live w next q one dead
    ∙ passes (id_reused w q) IdReused ((true, UnknownPackage) ∷ []) (none_reused w q new)
