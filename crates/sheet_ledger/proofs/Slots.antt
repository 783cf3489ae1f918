-- Lines part by part: what a text is not, where one of its parts is none.
use Rattle.std.specs.Prelude.{◌≡◌, ◌+◌, suc, ℕ, ℤ, pos, Bool, true, false, ◌==◌, List, []}
use Rattle.std.specs.Prelude.{◌∷◌, ◌++◌, length, take, drop, decimal, Option, Some, None, refl, codes}
use Rattle.std.specs.Prelude.{option_map, bytes_eq}
use Rattle.std.proofs.Common.{sym, ap, subst, ◌∙◌, arith}
use Rattle.std.specs.List.{AllByRecursion, position_or_len, before_first, after_first}
use Rattle.std.specs.Fmt.{signed_decimal}
use Rattle.hex.specs.Hex.{encode_lower}
use Rattle.std.proofs.lemmas.Bool.{and_from, and_parts, false≢true, eq-eqb, ltb-true}
use lib.Signed.{lt_z}
use Rattle.sheet_types.specs.Texts.{Entry, Adds, Deletes, Links, Unlinks, Splits, Merges, entry_line, spaced}
use Rattle.sheet_types.specs.Texts.{uuid_text, kind_word, mapping_word, mode_word}
use Rattle.sheet_types.specs.Lines.{IsUuid, IsFitEntry, is_number, is_bytes, is_uuid, number_in, entry_from}
use Rattle.sheet_types.specs.declared.frame.Rect.{Rect}
use Rattle.sheet_types.proofs.Commas.{cut_once}
use Rattle.sheet_types.proofs.Basics.{None≢Some, bytes_eq_itself}
use Rattle.sheet_types.proofs.LineReading.{line-entry_from, uuid_lacks, kind_lacks, mapping_lacks, mode_lacks}
use Rattle.sheet_types.proofs.LineReading.{number_lacks, hex_lacks, lacks_by_test, number_back}
use Rattle.sheet_ledger.specs.Entries.{link_verb}
use Rattle.sheet_ledger.specs.Slots.{Slot, OfUuid, OfKind, OfSize, OfDigest, OfMapping, OfMode, OfNumber, Fills}
use Rattle.sheet_ledger.specs.Slots.{FillsAll, Lacks, NoFront, NoPart, NoParts, add_slots, delete_slots, link_slots}
use Rattle.sheet_ledger.specs.Slots.{rect_slots, split_slots, merge_slots}

-- ---- texts cut at a space

-- where no byte is a space, the text lacks it
pub lacks_all : (c : ℕ) (text : List ℕ) → position_or_len (λ b. b == c) text ≡ length text → Lacks c text
lacks_all c [] h = tt
lacks_all c (x ∷ xs) h = elim (x == c) as (λ v. (x == c) ≡ v → Lacks c (x ∷ xs)) [
  | true ↦ λ e. absurd (omega (arith, rw e at h))
  | false ↦ λ e. (e, lacks_all c xs (omega (arith, rw e at h)))
] refl

-- what stands before the first space lacks it, and the space and the rest come behind
pub cut_at : (c : ℕ) (text : List ℕ) → Lacks c (before_first (λ b. b == c) text)
cut_at c [] = tt
cut_at c (x ∷ xs) = elim (x == c) as (λ v. (x == c) ≡ v → Lacks c (before_first (λ b. b == c) (x ∷ xs))) [
  | true ↦ λ e. rw e tt
  | false ↦ λ e. rw e (let more : 1 + position_or_len (λ b. b == c) xs
      ≡ suc (position_or_len (λ b. b == c) xs) = omega arith in rw more (e, cut_at c xs))
] refl

-- a part has no space
pub fills_lacks : (s : Slot) (text : List ℕ) → Fills s text → Lacks 32 text
fills_lacks OfUuid text f = subst (Lacks 32) (sym f.2) (uuid_lacks f.0)
fills_lacks OfKind text f = subst (Lacks 32) (sym f.2) (kind_lacks f.0)
fills_lacks OfSize text f = subst (Lacks 32) (sym f.2) (number_lacks (pos f.0))
fills_lacks OfDigest text f = subst (Lacks 32) (sym f.2) (hex_lacks f.0)
fills_lacks OfMapping text f = subst (Lacks 32) (sym f.1) (mapping_lacks f.0)
fills_lacks OfMode text f = subst (Lacks 32) (sym f.1) (mode_lacks f.0)
fills_lacks OfNumber text f = subst (Lacks 32) (sym f.2) (number_lacks f.0)

-- a text with a space behind something does not lack it
pub not_lacking : (c : ℕ) (word rest : List ℕ) → Lacks c (word ++ (c ∷ rest)) → ⊥
not_lacking c [] rest h = cc (h.0, eq-eqb c c refl)
not_lacking c (x ∷ word) rest h = not_lacking c word rest h.1

-- without a space there is no front
pub no_front_uncut : (s : Slot) (text : List ℕ) → Lacks 32 text → NoFront s text
no_front_uncut s text h = record { none = λ word rest f is. not_lacking 32 word rest (subst (Lacks 32) is h) }

-- where what stands before the space is no such part, no such part stands there
pub no_front_cut : (s : Slot) (text front rest : List ℕ) → text ≡ front ++ (32 ∷ rest) → Lacks 32 front
    → NoPart s front → NoFront s text
no_front_cut s text front rest is clean h = record {
  none = λ word behind f same. h.none (subst (Fills s) (sym (cut_once 32 front word rest behind clean
      (fills_lacks s word f) (sym is ∙ same)).0) f);
}

-- ---- lists of parts

-- since the first is missing
pub none_first : (s t : Slot) (ss : List Slot) (text : List ℕ) → NoFront s text → NoParts (s ∷ t ∷ ss) text
none_first s t ss text h = record { none = λ f. h.none f.0 f.1 f.2 f.3 }

-- since the rest is not of the others
pub none_rest : (s t : Slot) (ss : List Slot) (text front rest : List ℕ) → text ≡ front ++ (32 ∷ rest)
    → Lacks 32 front → NoParts (t ∷ ss) rest → NoParts (s ∷ t ∷ ss) text
none_rest s t ss text front rest is clean h = record {
  none = λ f. h.none (subst (FillsAll (t ∷ ss)) (sym (cut_once 32 front f.0 rest f.1 clean (fills_lacks s f.0 f.2)
      (sym is ∙ f.3)).1) f.4);
}

-- since the last is none
pub none_last : (s : Slot) (text : List ℕ) → NoPart s text → NoParts (s ∷ []) text
none_last s text h = record { none = λ f. h.none f }

-- ---- the parts of each entry behind its verb

-- a text that is the line of no entry is read as none
pub no_line : (text : List ℕ) → ((e : Entry) → IsFitEntry e → text ≡ entry_line e → ⊥)
    → entry_from text ≡ None
no_line text h = elim (entry_from text) as (λ o. entry_from text ≡ o → o ≡ None) [
  | None ↦ λ _. refl
  | Some e ↦ λ is. let both = line-entry_from text e is in absurd (h e both.0 both.1)
] refl

-- the verb of an entry's line
abbrev pub verb_of : Entry → List ℕ
verb_of (Adds p identity kind size digest) = codes "add"
verb_of (Deletes p identity) = codes "delete"
verb_of (Links p mapping base other) = codes "link"
verb_of (Unlinks p mapping base other) = codes "unlink"
verb_of (Splits p child mode rect) = codes "split"
verb_of (Merges child into ticket) = codes "merge"

-- and what stands behind it
abbrev pub slots_of : Entry → List Slot
slots_of (Adds p identity kind size digest) = add_slots
slots_of (Deletes p identity) = delete_slots
slots_of (Links p mapping base other) = link_slots
slots_of (Unlinks p mapping base other) = link_slots
slots_of (Splits p child mode rect) = split_slots
slots_of (Merges child into ticket) = merge_slots

-- no verb has a space
pub verb_lacks : (e : Entry) → Lacks 32 (verb_of e)
verb_lacks (Adds p identity kind size digest) = lacks_by_test (codes "add") refl
verb_lacks (Deletes p identity) = lacks_by_test (codes "delete") refl
verb_lacks (Links p mapping base other) = lacks_by_test (codes "link") refl
verb_lacks (Unlinks p mapping base other) = lacks_by_test (codes "unlink") refl
verb_lacks (Splits p child mode rect) = lacks_by_test (codes "split") refl
verb_lacks (Merges child into ticket) = lacks_by_test (codes "merge") refl

-- a fit entry's line is its verb, and its parts behind that
pub record IsVerbed (e : Entry) : Type 0 where
  pub rest : List ℕ
  pub line : entry_line e ≡ verb_of e ++ (32 ∷ rest)
  pub fills : FillsAll (slots_of e) rest

pub verbed : (e : Entry) → IsFitEntry e → IsVerbed e
verbed (Adds p identity kind size digest) fit =
    let f3 = and_parts _ _ fit in
    let f2 = and_parts _ _ f3.0 in
    let f1 = and_parts _ _ f2.0 in
    let f0 = and_parts _ _ f1.0 in
    record {
      rest = spaced (uuid_text p ∷ uuid_text identity ∷ kind_word kind ∷ decimal size ∷ encode_lower digest
          ∷ []);
      line = refl;
      fills = (
        _,
        _,
        (p, f0.0, refl),
        refl,
        (
          _,
          _,
          (identity, f0.1, refl),
          refl,
          (_, _, (kind, f1.1, refl), refl, (_, _, (size, f2.1, refl), refl, (digest, f3.1, refl))),
        ),
      );
    }
verbed (Deletes p identity) fit =
    let f = and_parts _ _ fit in
    record {
      rest = spaced (uuid_text p ∷ uuid_text identity ∷ []);
      line = refl;
      fills = (_, _, (p, f.0, refl), refl, (identity, f.1, refl));
    }
verbed (Links p mapping base other) fit =
    let f1 = and_parts _ _ fit in
    let f0 = and_parts _ _ f1.0 in
    record {
      rest = spaced (mapping_word mapping ∷ uuid_text p ∷ uuid_text base ∷ uuid_text other ∷ []);
      line = refl;
      fills = (
        _,
        _,
        (mapping, refl),
        refl,
        (
          _,
          _,
          (p, f0.0, refl),
          refl,
          (_, _, (base, f0.1, refl), refl, (other, f1.1, refl)),
        ),
      );
    }
verbed (Unlinks p mapping base other) fit =
    let f1 = and_parts _ _ fit in
    let f0 = and_parts _ _ f1.0 in
    record {
      rest = spaced (mapping_word mapping ∷ uuid_text p ∷ uuid_text base ∷ uuid_text other ∷ []);
      line = refl;
      fills = (
        _,
        _,
        (mapping, refl),
        refl,
        (
          _,
          _,
          (p, f0.0, refl),
          refl,
          (_, _, (base, f0.1, refl), refl, (other, f1.1, refl)),
        ),
      );
    }
verbed (Splits p child mode rect) fit =
    let f1 = and_parts _ _ fit in
    let f0 = and_parts _ _ f1.0 in
    let r3 = and_parts _ _ f1.1 in
    let r2 = and_parts _ _ r3.0 in
    let r1 = and_parts _ _ r2.0 in
    let r0 = and_parts _ _ r1.0 in
    record {
      rest = spaced (uuid_text p ∷ uuid_text child ∷ mode_word mode ∷ signed_decimal rect.zoom
          ∷ signed_decimal rect.column ∷ signed_decimal rect.last_column ∷ signed_decimal rect.row
          ∷ signed_decimal rect.last_row ∷ []);
      line = refl;
      fills = (
        _,
        _,
        (p, f0.0, refl),
        refl,
        (
          _,
          _,
          (child, f0.1, refl),
          refl,
          (
            _,
            _,
            (mode, refl),
            refl,
            (
              _,
              _,
              (rect.zoom, r0.0, refl),
              refl,
              (
                _,
                _,
                (rect.column, r0.1, refl),
                refl,
                (
                  _,
                  _,
                  (rect.last_column, r1.1, refl),
                  refl,
                  (_, _, (rect.row, r2.1, refl), refl, (rect.last_row, r3.1, refl)),
                ),
              ),
            ),
          ),
        ),
      );
    }
verbed (Merges child into ticket) fit =
    let f1 = and_parts _ _ fit in
    let f0 = and_parts _ _ f1.0 in
    record {
      rest = spaced (uuid_text child ∷ uuid_text into ∷ signed_decimal ticket ∷ []);
      line = refl;
      fills =
          (_, _, (child, f0.0, refl), refl, (_, _, (into, f0.1, refl), refl, (ticket, f1.1, refl)));
    }

-- behind a verb whose entries have these parts, a text that is not of them makes no line
pub no_entry : (verb : List ℕ) (ss : List Slot) (text : List ℕ) → Lacks 32 verb
    → ((e : Entry) → verb ≡ verb_of e → slots_of e ≡ ss) → NoParts ss text
    → entry_from (verb ++ (32 ∷ text)) ≡ None
no_entry verb ss text clean only h = no_line (verb ++ (32 ∷ text)) (λ e fit is.
    let v = verbed e fit in
    let cut = cut_once 32 verb (verb_of e) text v.rest clean (verb_lacks e) (is ∙ v.line) in
    h.none (subst (λ zs. FillsAll zs text) (only e cut.0) (subst (FillsAll (slots_of e)) (sym cut.1) v.fills)))

-- a verb of no entry makes no line
pub no_verb : (verb text : List ℕ) → Lacks 32 verb → ((e : Entry) → verb ≡ verb_of e → ⊥)
    → entry_from (verb ++ (32 ∷ text)) ≡ None
no_verb verb text clean only = no_line (verb ++ (32 ∷ text)) (λ e fit is.
    let v = verbed e fit in
    only e (cut_once 32 verb (verb_of e) text v.rest clean (verb_lacks e) (is ∙ v.line)).0)

-- a text without a space is no line
pub no_space : (text : List ℕ) → Lacks 32 text → entry_from text ≡ None
no_space text clean = no_line text (λ e fit is. let v = verbed e fit in not_lacking 32 (verb_of e) v.rest
    (subst (Lacks 32) (is ∙ v.line) clean))

-- two words that a test tells apart
apart : (a b : List ℕ) → bytes_eq a b ≡ false → a ≡ b → ⊥
apart a b differs same = false≢true (sym differs ∙ ap (λ x. bytes_eq x b) same ∙ bytes_eq_itself b)

-- the entries of each verb
pub only_add : (e : Entry) → codes "add" ≡ verb_of e → slots_of e ≡ add_slots
only_add (Adds p identity kind size digest) is = refl
only_add (Deletes p identity) is = absurd (apart (codes "add") (codes "delete") refl is)
only_add (Links p mapping base other) is = absurd (apart (codes "add") (codes "link") refl is)
only_add (Unlinks p mapping base other) is = absurd (apart (codes "add") (codes "unlink") refl is)
only_add (Splits p child mode rect) is = absurd (apart (codes "add") (codes "split") refl is)
only_add (Merges child into ticket) is = absurd (apart (codes "add") (codes "merge") refl is)

pub only_delete : (e : Entry) → codes "delete" ≡ verb_of e → slots_of e ≡ delete_slots
only_delete (Adds p identity kind size digest) is = absurd (apart (codes "delete") (codes "add") refl is)
only_delete (Deletes p identity) is = refl
only_delete (Links p mapping base other) is = absurd (apart (codes "delete") (codes "link") refl is)
only_delete (Unlinks p mapping base other) is = absurd (apart (codes "delete") (codes "unlink") refl is)
only_delete (Splits p child mode rect) is = absurd (apart (codes "delete") (codes "split") refl is)
only_delete (Merges child into ticket) is = absurd (apart (codes "delete") (codes "merge") refl is)

pub only_link : (e : Entry) → codes "link" ≡ verb_of e → slots_of e ≡ link_slots
only_link (Adds p identity kind size digest) is = absurd (apart (codes "link") (codes "add") refl is)
only_link (Deletes p identity) is = absurd (apart (codes "link") (codes "delete") refl is)
only_link (Links p mapping base other) is = refl
only_link (Unlinks p mapping base other) is = refl
only_link (Splits p child mode rect) is = absurd (apart (codes "link") (codes "split") refl is)
only_link (Merges child into ticket) is = absurd (apart (codes "link") (codes "merge") refl is)

pub only_unlink : (e : Entry) → codes "unlink" ≡ verb_of e → slots_of e ≡ link_slots
only_unlink (Adds p identity kind size digest) is = absurd (apart (codes "unlink") (codes "add") refl is)
only_unlink (Deletes p identity) is = absurd (apart (codes "unlink") (codes "delete") refl is)
only_unlink (Links p mapping base other) is = refl
only_unlink (Unlinks p mapping base other) is = refl
only_unlink (Splits p child mode rect) is = absurd (apart (codes "unlink") (codes "split") refl is)
only_unlink (Merges child into ticket) is = absurd (apart (codes "unlink") (codes "merge") refl is)

pub only_split : (e : Entry) → codes "split" ≡ verb_of e → slots_of e ≡ split_slots
only_split (Adds p identity kind size digest) is = absurd (apart (codes "split") (codes "add") refl is)
only_split (Deletes p identity) is = absurd (apart (codes "split") (codes "delete") refl is)
only_split (Links p mapping base other) is = absurd (apart (codes "split") (codes "link") refl is)
only_split (Unlinks p mapping base other) is = absurd (apart (codes "split") (codes "unlink") refl is)
only_split (Splits p child mode rect) is = refl
only_split (Merges child into ticket) is = absurd (apart (codes "split") (codes "merge") refl is)

pub only_merge : (e : Entry) → codes "merge" ≡ verb_of e → slots_of e ≡ merge_slots
only_merge (Adds p identity kind size digest) is = absurd (apart (codes "merge") (codes "add") refl is)
only_merge (Deletes p identity) is = absurd (apart (codes "merge") (codes "delete") refl is)
only_merge (Links p mapping base other) is = absurd (apart (codes "merge") (codes "link") refl is)
only_merge (Unlinks p mapping base other) is = absurd (apart (codes "merge") (codes "unlink") refl is)
only_merge (Splits p child mode rect) is = absurd (apart (codes "merge") (codes "split") refl is)
only_merge (Merges child into ticket) is = refl

-- what is missing behind each verb, so that there is no entry
pub no_add : (text : List ℕ) → NoParts add_slots text → entry_from (codes "add" ++ (32 ∷ text)) ≡ None
no_add text h = no_entry (codes "add") add_slots text (lacks_by_test (codes "add") refl) only_add h

pub no_delete : (text : List ℕ) → NoParts delete_slots text → entry_from (codes "delete" ++ (32 ∷ text))
    ≡ None
no_delete text h = no_entry (codes "delete") delete_slots text (lacks_by_test (codes "delete") refl) only_delete h

pub no_link : (comes : Bool) (text : List ℕ) → NoParts link_slots text
    → entry_from (link_verb comes ++ (32 ∷ text)) ≡ None
no_link true text h = no_entry (codes "link") link_slots text (lacks_by_test (codes "link") refl) only_link h
no_link false text h = no_entry (codes "unlink") link_slots text (lacks_by_test (codes "unlink") refl) only_unlink h

pub no_split : (text : List ℕ) → NoParts split_slots text → entry_from (codes "split" ++ (32 ∷ text)) ≡ None
no_split text h = no_entry (codes "split") split_slots text (lacks_by_test (codes "split") refl) only_split h

pub no_merge : (text : List ℕ) → NoParts merge_slots text → entry_from (codes "merge" ++ (32 ∷ text)) ≡ None
no_merge text h = no_entry (codes "merge") merge_slots text (lacks_by_test (codes "merge") refl) only_merge h

-- ---- sizes are numbers that are not below 0

pub number_of_size : (text : List ℕ) → NoPart OfNumber text → NoPart OfSize text
number_of_size text h = record { none = λ f. h.none (pos f.0, f.1, f.2) }

-- a number that is not below 0
not_below : (n : ℕ) → lt_z (pos n) (pos 0) ≡ true → ⊥
not_below n h = absurd (omega (arith, ltb-true n 0 h))

pub no_size_below : (z : ℤ) (text : List ℕ) → text ≡ signed_decimal z → is_number z ≡ true
    → lt_z z (pos 0) ≡ true → NoPart OfSize text
no_size_below z text is fit below = record {
  none = λ f.
      let same : z ≡ pos f.0 = sym (number_back z fit) ∙ ap number_in (sym is ∙ f.2)
      ∙ number_back (pos f.0) f.1 in
      not_below f.0 (subst (λ x. lt_z x (pos 0) ≡ true) same below);
}

-- a verb that is none of the six makes no line
pub no_known_verb : (verb text : List ℕ) → Lacks 32 verb → (verb ≡ codes "add" → ⊥)
    → (verb ≡ codes "delete" → ⊥) → (verb ≡ codes "link" → ⊥) → (verb ≡ codes "unlink" → ⊥)
    → (verb ≡ codes "split" → ⊥) → (verb ≡ codes "merge" → ⊥)
    → entry_from (verb ++ (32 ∷ text)) ≡ None
no_known_verb verb text clean a d l u s m = no_verb verb text clean by
  where
    by : (e : Entry) → verb ≡ verb_of e → ⊥
    by (Adds p identity kind size digest) is = a is
    by (Deletes p identity) is = d is
    by (Links p mapping base other) is = l is
    by (Unlinks p mapping base other) is = u is
    by (Splits p child mode rect) is = s is
    by (Merges child into ticket) is = m is
