-- A balanced world is one that has all the parts.
use Rattle.std.specs.Prelude.{◌≡◌, ◌↔◌, ◌+◌, ℕ, List, [], ◌∷◌, ◌++◌, refl}
use Rattle.std.proofs.Common.{sym, subst, ap, ◌∙◌, append_assoc}
use Rattle.std.proofs.lemmas.List.{append-nil}
use Rattle.std.specs.List.{AllByRecursion}
use Rattle.sheet_types.specs.World.{World, receipts_of}
use Rattle.sheet_types.specs.Balance.{Balanced, MayFollow, IsLedger, CountsFit, archive_of}
use Rattle.sheet_types.specs.declared.receipt.Receipt.{Receipt}
use Rattle.sheet_ledger.specs.Parts.{EachAfter, AreSound, HasNextNumber, HasNewRequest, IsEntered, HasThings}
use Rattle.sheet_ledger.specs.Parts.{IsInOrder, StartsWhereItEnded, AddsWhatIsNew, AgreesWithPast, LendsNewPackage}
use Rattle.sheet_ledger.specs.Parts.{SumsAddUp, HasParts}

-- ---- what holds of each receipt after those before it

-- a weaker fact of each
pub each_weaker : (P Q : List Receipt → Receipt → Type 0) → ((past : List Receipt) (r : Receipt) → P past r
    → Q past r) → (past rs : List Receipt) → EachAfter P past rs → EachAfter Q past rs
each_weaker P Q f past [] h = tt
each_weaker P Q f past (r ∷ rs) h = (f past r h.0, each_weaker P Q f (past ++ r ∷ []) rs h.1)

-- a fact of each by itself
pub each_alone : (P : List Receipt → Receipt → Type 0) (Q : Receipt → Type 0)
    → ((past : List Receipt) (r : Receipt) → P past r → Q r) → (past rs : List Receipt)
    → EachAfter P past rs → AllByRecursion Q rs
each_alone P Q f past [] h = tt
each_alone P Q f past (r ∷ rs) h = (f past r h.0, each_alone P Q f (past ++ r ∷ []) rs h.1)

-- one receipt more
pub each_snoc : (P : List Receipt → Receipt → Type 0) (past rs : List Receipt) (r : Receipt)
    → EachAfter P past rs → P (past ++ rs) r → EachAfter P past (rs ++ r ∷ [])
each_snoc P past [] r h p = (subst (λ zs. P zs r) (append-nil past) p, tt)
each_snoc P past (x ∷ rs) r h p = (
  h.0,
  each_snoc P (past ++ x ∷ []) rs r h.1
      (subst (λ zs. P zs r) (sym (append_assoc past (x ∷ []) rs)) p),
)

-- the fact of one of them
pub each_at : (P : List Receipt → Receipt → Type 0) (past xs : List Receipt) (r : Receipt) (ys : List Receipt)
    → EachAfter P past (xs ++ r ∷ ys) → P (past ++ xs) r
each_at P past [] r ys h = subst (λ zs. P zs r) (sym (append-nil past)) h.0
each_at P past (x ∷ xs) r ys h = subst (λ zs. P zs r) (append_assoc past (x ∷ []) xs)
    (each_at P (past ++ x ∷ []) xs r ys h.1)

-- ---- a sound ledger

-- all parts of each make a sound ledger
ledger_from : (archive : List ℕ) (past rs : List Receipt) → EachAfter HasNextNumber past rs
    → EachAfter HasNewRequest past rs → AllByRecursion IsEntered rs → AllByRecursion HasThings rs
    → AllByRecursion IsInOrder rs → AllByRecursion CountsFit rs
    → EachAfter StartsWhereItEnded past rs → EachAfter AddsWhatIsNew past rs → EachAfter AgreesWithPast past rs
    → EachAfter (LendsNewPackage archive) past rs → IsLedger archive past rs
ledger_from archive past [] n q e t o c s a g l = tt
ledger_from archive past (r ∷ rs) n q e t o c s a g l = (
  record {
    number = n.0;
    new_request = q.0;
    things = t.0;
    in_order = o.0;
    counts = c.0;
    entered = e.0;
    from_source = s.0;
    never_before = a.0;
    agrees = g.0;
    new_loan = l.0;
  },
  ledger_from archive (past ++ r ∷ []) rs n.1 q.1 e.1 t.1 o.1 c.1 s.1 a.1 g.1 l.1,
)

-- a sound ledger is one in which each receipt may follow
each_follows : (archive : List ℕ) (past rs : List Receipt) → IsLedger archive past rs
    → EachAfter (MayFollow archive) past rs
each_follows archive past [] h = tt
each_follows archive past (r ∷ rs) h = (h.0, each_follows archive (past ++ r ∷ []) rs h.1)

ledger_parts : (archive : List ℕ) (rs : List Receipt) → IsLedger archive [] rs → AreSound archive rs
ledger_parts archive rs h =
    let each = each_follows archive [] rs h in
    record {
      formed = record {
        entered = each_alone (MayFollow archive) IsEntered (λ past r m. m.entered) [] rs each;
        things = each_alone (MayFollow archive) HasThings (λ past r m. m.things) [] rs each;
        in_order = each_alone (MayFollow archive) IsInOrder (λ past r m. m.in_order) [] rs each;
        counts = each_alone (MayFollow archive) CountsFit (λ past r m. m.counts) [] rs each;
      };
      follow = record {
        numbers = each_weaker (MayFollow archive) HasNextNumber (λ past r m. m.number) [] rs each;
        requests = each_weaker (MayFollow archive) HasNewRequest (λ past r m. m.new_request) [] rs each;
        from_source = each_weaker (MayFollow archive) StartsWhereItEnded (λ past r m. m.from_source) [] rs each;
        never_before = each_weaker (MayFollow archive) AddsWhatIsNew (λ past r m. m.never_before) [] rs each;
        agrees = each_weaker (MayFollow archive) AgreesWithPast (λ past r m. m.agrees) [] rs each;
        new_loans = each_weaker (MayFollow archive) (LendsNewPackage archive) (λ past r m. m.new_loan) [] rs each;
      };
    }

-- a ledger is sound exactly where it has all parts
pub sound_is_its_parts : (archive : List ℕ) (rs : List Receipt) → IsLedger archive [] rs ↔ AreSound archive rs
sound_is_its_parts archive rs = (
  ledger_parts archive rs,
  λ s. ledger_from archive [] rs s.follow.numbers
      s.follow.requests s.formed.entered s.formed.things s.formed.in_order s.formed.counts s.follow.from_source
      s.follow.never_before s.follow.agrees s.follow.new_loans,
)

-- ---- the world

pub balanced_is_its_parts : (w : World) → Balanced w ↔ HasParts w
balanced_is_its_parts w = (there, back)
  where
    there : Balanced w → HasParts w
    there b = record {
      ledger = (sound_is_its_parts (archive_of w) (receipts_of w)).0 b.ledger;
      custody_is = b.custody_is;
      sums = record { tiles = b.tiles; media = b.media; rows = b.rows; links = b.links; bytes = b.bytes };
      loans = b.loans;
      homes = b.homes;
      together = b.together;
    }

    back : HasParts w → Balanced w
    back h = record {
      ledger = (sound_is_its_parts (archive_of w) (receipts_of w)).1 h.ledger;
      custody_is = h.custody_is;
      tiles = h.sums.tiles;
      media = h.sums.media;
      rows = h.sums.rows;
      links = h.sums.links;
      bytes = h.sums.bytes;
      loans = h.loans;
      homes = h.homes;
      together = h.together;
    }
