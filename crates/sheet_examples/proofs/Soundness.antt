-- Of a sound ledger each rule, of an unsound one the rule that it breaks.
use Rattle.std.specs.Prelude.{◌≡◌, refl, ℕ, List, pos, false, [], ◌∷◌, Some, Ok, ◌==◌, bytes_eq}
use Rattle.std.specs.Prelude.{unwrap_or, is_some}
use Rattle.std.proofs.Common.{ap, sym, subst, ◌∙◌}
use Rattle.std.proofs.lemmas.Bool.{false≢true, true≢false}
use Rattle.std.proofs.lemmas.Map.Keys.{IsDistinct-head}
use Rattle.std.specs.Fmt.{digits}
use Rattle.std.specs.List.{list_any}
use Rattle.std.specs.Option.{option_and_then, option_map_or}
use Rattle.hex.specs.Hex.{encode_with, decode_pairs}
use Rattle.sha2.specs.Sha256.{sha256, first_words, schedule, rounds, compress, hash_after, digest_bytes}
use Rattle.uuid.specs.Text.{by_index}
use Rattle.sheet_types.specs.Lines.{entry_from}
use Rattle.sheet_types.specs.Texts.{Entry, Adds, Deletes, Splits, Merges}
use Rattle.sheet_types.specs.World.{receipts_of}
use Rattle.sheet_types.specs.Step.{outcome, receipt_of, source_of, target_of}
use Rattle.sheet_types.specs.Balance.{IsLedger, MovesFor, stands_in}
use Rattle.sheet_types.specs.declared.command.Mode.TheVariants.{Strict}
use Rattle.sheet_types.specs.declared.receipt.MovedKind.TheVariants.{TileItem}
use Rattle.sheet_types.proofs.Basics.{None≢Some, differ}
use Rattle.sheet_examples.specs.Sheets.{archive, crew, second_crew, item, quarter}
use Rattle.sheet_examples.specs.Story.{moved_corner, moved_small}
use Rattle.sheet_examples.specs.Ledgers.{added, taken_out, SoundLedger, WrongNumbers, WrongLines, WrongThings}
use Rattle.sheet_examples.specs.Ledgers.{WrongMoves, AddedTwice, WrongHoldings, WrongSums, NothingHeld, NoRegister}
use Rattle.sheet_examples.specs.Ledgers.{one_lent, same_key, TakenKey, AlteredThenDeleted}

abbrev digest : List ℕ
digest = unwrap_or moved_corner.fingerprint []

pub sound_ledger : SoundLedger
unfolding by_index digits decode_pairs encode_with entry_from
sound_ledger = (
  record {
    number = refl;
    new_request = refl;
    things = ((refl, refl), tt);
    in_order = (tt, tt);
    counts = record { tiles = refl; media = refl; rows = refl; links = refl; bytes = refl };
    entered = (
      Adds archive (item 1) TileItem 1 digest,
      record
          { says = refl; leaves = refl; comes_to = refl; moves = refl },
    );
    from_source = (refl, tt);
    never_before = λ _. (refl, tt);
    agrees = (tt, tt);
    new_loan = λ e. absurd (false≢true e);
  },
  (
    record {
      number = refl;
      new_request = refl;
      things = ((refl, refl), tt);
      in_order = (tt, tt);
      counts = record { tiles = refl; media = refl; rows = refl; links = refl; bytes = refl };
      entered = (
        Splits archive crew Strict quarter,
        record {
          says = refl;
          leaves = refl;
          comes_to = refl;
          moves = tt;
        },
      );
      from_source = (refl, tt);
      never_before = λ e. absurd (false≢true e);
      agrees = ((((λ _. (refl, refl)), tt), tt), tt);
      new_loan = λ _. (refl, refl);
    },
    (
      record {
        number = refl;
        new_request = refl;
        things = ((refl, refl), tt);
        in_order = (tt, tt);
        counts = record { tiles = refl; media = refl; rows = refl; links = refl; bytes = refl };
        entered = (Merges crew archive (pos 2), record { says = refl; leaves = refl; comes_to = refl; moves = tt });
        from_source = (refl, tt);
        never_before = λ e. absurd (false≢true e);
        agrees = ((((λ _. (refl, refl)), tt), ((((λ _. (refl, refl)), tt)), tt)), tt);
        new_loan = λ e. absurd (false≢true e);
      },
      tt,
    ),
  ),
)

pub wrong_numbers : WrongNumbers
wrong_numbers = (
  (λ h. differ (λ n. n == 3) refl refl h.1.1.0.number),
  (λ h. true≢false h.1.0.new_request),
  (λ h. differ (λ n. n == 1) refl refl h.0.counts.tiles),
  (λ h. differ (λ n. n == 0) refl refl h.0.counts.media),
  (λ h. differ (λ n. n == 0) refl refl h.0.counts.rows),
  (λ h. differ (λ n. n == 0) refl refl h.0.counts.links),
  (λ h. differ (λ n. n == 1) refl refl h.0.counts.bytes),
)

-- what the line of the added tile says
abbrev corner_entry : Entry
corner_entry = Adds archive (item 1) TileItem 1 digest

pub wrong_lines : WrongLines
unfolding by_index digits decode_pairs encode_with entry_from
wrong_lines = (
  (λ h. differ is_some refl refl (h.0.entered.1.leaves ∙ sym
      (ap (λ o. option_and_then source_of o) h.0.entered.1.says))),
  (λ h. differ (λ o. option_map_or (λ x. bytes_eq x archive) o false) refl refl
      (h.0.entered.1.comes_to ∙ sym (ap (λ o. option_and_then target_of o) h.0.entered.1.says))),
  (λ h.
      let MovesIt : Entry → Type 0 = λ e. MovesFor e (moved_small ∷ []) in
      let same : h.0.entered.0 ≡ corner_entry = sym (ap (λ o. unwrap_or o corner_entry) h.0.entered.1.says) in
      differ (λ things. list_any (λ m. bytes_eq m.base (item 1)) things) refl refl
      (subst MovesIt same h.0.entered.1.moves)),
  (λ h. None≢Some h.0.entered.1.says),
  (λ h. None≢Some h.1.0.entered.1.says),
  (λ h. None≢Some h.1.1.0.entered.1.says),
  (λ h. None≢Some h.1.1.0.entered.1.says),
)

pub wrong_things : WrongThings
unfolding by_index digits decode_pairs encode_with entry_from
wrong_things = ((λ h. differ is_some refl refl (sym h.1.0.things.0.0)), (λ h. false≢true h.1.1.0.in_order.0.0))

pub wrong_moves : WrongMoves
unfolding by_index digits decode_pairs encode_with entry_from
wrong_moves = (
  (λ h. differ is_some refl refl h.0.from_source.0),
  (λ h. differ (λ o. option_map_or (λ x. bytes_eq x archive) o false) refl refl h.1.1.0.from_source.0),
  (λ h. differ (λ o. bytes_eq (unwrap_or o []) second_crew) refl refl h.1.0.from_source.0),
  (λ h. differ (λ n. n == 1) refl refl (h.1.0.agrees.0.0.0 refl).0),
  (λ h. differ (λ o. bytes_eq (unwrap_or o []) digest) refl refl (h.1.0.agrees.0.0.0 refl).1),
  (λ h. true≢false (h.1.1.1.0.new_loan refl).0),
  (λ h. true≢false (h.1.0.new_loan refl).1),
)

-- an item is added and deleted
added_and_deleted : IsLedger archive [] (added ∷ taken_out ∷ [])
unfolding by_index digits decode_pairs encode_with entry_from
added_and_deleted = (
  sound_ledger.0,
  (
    record {
      number = refl;
      new_request = refl;
      things = ((refl, refl), tt);
      in_order = (tt, tt);
      counts = record { tiles = refl; media = refl; rows = refl; links = refl; bytes = refl };
      entered = (
        Deletes archive (item 1),
        record {
          says = refl;
          leaves = refl;
          comes_to = refl;
          moves = (moved_corner, refl, refl, refl);
        },
      );
      from_source = (refl, tt);
      never_before = λ e. absurd (false≢true e);
      agrees = ((((λ _. (refl, refl)), tt), tt), tt);
      new_loan = λ e. absurd (false≢true e);
    },
    tt,
  ),
)

pub added_twice : AddedTwice
unfolding by_index digits decode_pairs encode_with entry_from
added_twice = (
  (λ h. true≢false (h.1.0.never_before refl).0),
  added_and_deleted,
  (λ h. true≢false (h.1.1.0.never_before refl).0),
)

pub altered_then_deleted : AlteredThenDeleted
unfolding by_index digits decode_pairs encode_with entry_from sha256 first_words schedule rounds compress hash_after
    digest_bytes
altered_then_deleted = (
  refl,
  λ h. differ (λ o. bytes_eq (unwrap_or o []) digest) refl refl
      (h.1.0.agrees.0.0.0 refl).1,
)

-- what stands in the place of the added tile's line
stands_where : (e : Entry) → entry_from added.line ≡ Some e → stands_in e ≡ archive
unfolding by_index digits decode_pairs encode_with entry_from
stands_where e says = sym (ap (λ o. stands_in (unwrap_or o corner_entry)) says)

pub wrong_holdings : WrongHoldings
unfolding by_index digits decode_pairs encode_with entry_from
wrong_holdings = (
  (λ h. false≢true ((h.custody_is archive (0 ∷ item 1)).1 refl)),
  (λ h. differ is_some refl refl ((h.custody_is archive (0 ∷ item 4)).0 refl)),
  (λ h. differ (λ o. bytes_eq (unwrap_or o []) archive) refl refl ((h.custody_is archive (0 ∷ item 1)).0 refl)),
  (λ h. differ (λ x. bytes_eq x archive) refl refl (h.homes.1.0.0.2
      ∙ stands_where h.homes.1.0.0.0 h.homes.1.0.0.1)),
  (λ h. false≢true h.loans.1.0.0),
  (λ h. differ (λ x. bytes_eq x second_crew) refl refl ((h.together.1.0.0 refl).0.1.0 refl)),
)

pub wrong_sums : WrongSums
unfolding by_index digits decode_pairs encode_with entry_from
wrong_sums = (
  (λ h. differ (λ n. n == 2) refl refl (h.tiles archive)),
  (λ h. differ (λ n. n == 2) refl refl (h.media archive)),
  (λ h. differ (λ n. n == 2) refl refl (h.rows archive)),
  (λ h. differ (λ n. n == 2) refl refl (h.links archive)),
  (λ h. differ (λ n. n == 2) refl refl (h.bytes archive)),
)

pub nothing_held : NothingHeld
nothing_held = (
  (λ h. differ (λ n. n == 0) refl refl (h archive)),
  (λ h. differ (λ n. n == 0) refl refl (h archive)),
  (λ h. differ (λ n. n == 0) refl refl (h archive)),
  (λ h. differ (λ n. n == 0) refl refl (h archive)),
  (λ h. differ (λ n. n == 0) refl refl (h archive)),
)

pub no_register : NoRegister
unfolding by_index digits decode_pairs encode_with entry_from
no_register = (
  (λ h. false≢true (h.open_loans.1.0 refl)),
  (λ h. false≢true (h.open_loans.1.0 refl)),
  (λ w h. true≢false (IsDistinct-head bytes_eq (1 ∷ 0 ∷ 0 ∷ []) ((1 ∷ 0 ∷ 0 ∷ []) ∷ []) h.places).0),
)

-- ---- two links under one key

accepted : (outcome one_lent same_key).0 ≡ Ok (receipt_of one_lent same_key)
unfolding by_index digits encode_with sha256 first_words schedule rounds compress hash_after digest_bytes decode_pairs
    entry_from
accepted = refl

unsound_after : IsLedger archive [] (receipts_of (outcome one_lent same_key).1) → ⊥
unfolding by_index digits encode_with sha256 first_words schedule rounds compress hash_after digest_bytes decode_pairs
    entry_from
unsound_after h = differ is_some refl refl (sym h.1.1.1.1.1.1.0.from_source.0)

pub taken_key : TakenKey
taken_key = (accepted, unsound_after)
