-- A world is balanced where each part answers yes.
use Rattle.std.specs.Prelude.{◌≡◌, ◌↔◌, ◌&&◌, ℕ, Bool, true, false, IsTrue, List, [], Option, Some}
use Rattle.std.specs.Prelude.{None, Result, Ok, Err, IfOk}
use Rattle.std.proofs.Common.{sym, subst, ap, ◌∙◌}
use Rattle.std.proofs.lemmas.Bool.{and_parts, false≢true}
use Rattle.sheet_types.specs.Balance.{Balanced, IsLedger, archive_of}
use Rattle.sheet_types.specs.World.{World, receipts_of}
use Rattle.sheet_types.specs.declared.receipt.Receipt.{Receipt}
use Rattle.sheet_types.proofs.Basics.{None≢Some, some_same}
use Rattle.sheet_ledger.specs.Parts.{HoldsWhatIsKept, SumsAddUp, AreLoans, AreAtHome, AreTogether, HasParts}
use Rattle.sheet_ledger.proofs.Parts.{sound_is_its_parts, balanced_is_its_parts}
use Rattle.sheet_balance.specs.declared.accounts.Account.{Account}
use Rattle.sheet_balance.specs.declared.holders.Holder.{Holder}
use Rattle.sheet_balance.specs.Accounts.{IsAccountOf, IsAccounted}
use Rattle.sheet_balance.specs.Holders.{IsHeldWith}

-- five answers together
pub five_parts : (a b c d e : Bool) (w : World) → IsTrue a ↔ HoldsWhatIsKept w → IsTrue b ↔ SumsAddUp w
    → IsTrue c ↔ AreLoans w → IsTrue d ↔ AreAtHome w → IsTrue e ↔ AreTogether w
    → IsTrue ((((a && b) && c) && d) && e) ↔ IsAccounted w
five_parts a b c d e w custody sums loans homes together = (there, back)
  where
    there : ((((a && b) && c) && d) && e) ≡ true → IsAccounted w
    there h =
        let four : ((((a && b) && c) && d) ≡ true) × (e ≡ true) = and_parts (((a && b) && c) && d) e h in
        let three : (((a && b) && c) ≡ true) × (d ≡ true) = and_parts ((a && b) && c) d four.0 in
        let two : ((a && b) ≡ true) × (c ≡ true) = and_parts (a && b) c three.0 in
        let one : (a ≡ true) × (b ≡ true) = and_parts a b two.0 in
        record {
          custody_is = custody.0 one.0;
          sums = sums.0 one.1;
          loans = loans.0 two.1;
          homes = homes.0 three.1;
          together = together.0 four.1;
        }

    back : IsAccounted w → ((((a && b) && c) && d) && e) ≡ true
    back k =
        ap (λ v. (((v && b) && c) && d) && e) (custody.1 k.custody_is)
        ∙ ap (λ v. ((v && c) && d) && e) (sums.1 k.sums) ∙ ap (λ v. (v && d) && e) (loans.1 k.loans)
        ∙ ap (λ v. v && e) (homes.1 k.homes) ∙ together.1 k.together

-- the archive that is seen is that of the world
pub seen_one : (archive : List ℕ) (o : Option (List ℕ)) (w : World) → o ≡ Some archive
    → o ≡ Some (archive_of w) → archive ≡ archive_of w
seen_one archive o w is seen = some_same (sym is ∙ seen)

-- without one nothing is seen so
pub none_seen : (o : Option (List ℕ)) (w : World) → o ≡ None → o ≡ Some (archive_of w) → ⊥
none_seen o w is seen = None≢Some (sym is ∙ seen)

-- slices of an account
pub held_by : (a : Account) (ledger : List Receipt) (hs : List Holder) (w : World) → IsAccountOf a w
    → ledger ≡ a.ledger.items → hs ≡ a.holders.items → IsHeldWith ledger hs w
held_by a ledger hs w is first second =
    subst (λ rs. IsHeldWith rs hs w) (sym first) (subst (λ xs. IsHeldWith a.ledger.items xs w) (sym second) is.seen)

-- the ledger of a balanced world is sound
pub not_sound : (w : World) (archive : List ℕ) (ledger : List Receipt) (sound : Bool)
    → archive ≡ archive_of w → ledger ≡ receipts_of w → IsTrue sound ↔ IsLedger archive [] ledger
    → sound ≡ false → Balanced w → ⊥
not_sound w archive ledger sound is whole f denies b =
    false≢true (sym denies ∙ f.1 (subst (λ rs. IsLedger archive [] rs) (sym whole)
    (subst (λ p. IsLedger p [] (receipts_of w)) (sym is) b.ledger)))

-- a sound ledger that accounts for what is held balances the world
pub judged : (w : World) (archive : List ℕ) (ledger : List Receipt) (sound accounted : Bool)
    → archive ≡ archive_of w → ledger ≡ receipts_of w → IsTrue sound ↔ IsLedger archive [] ledger
    → sound ≡ true
    → (IsLedger (archive_of w) [] ledger → IsTrue accounted ↔ IsAccounted w) → IsTrue accounted ↔ Balanced w
judged w archive ledger sound accounted is whole f holds answer = (
  (λ e. let k : IsAccounted w = (answer of_world).0 e in
      (balanced_is_its_parts w).1 (record {
        ledger = (sound_is_its_parts (archive_of w) (receipts_of w)).0
            (subst (λ rs. IsLedger (archive_of w) [] rs) whole of_world);
        custody_is = k.custody_is;
        sums = k.sums;
        loans = k.loans;
        homes = k.homes;
        together = k.together;
      })),
  (λ b. let h : HasParts w = (balanced_is_its_parts w).0 b in
      (answer of_world).1 (record {
        custody_is = h.custody_is;
        sums = h.sums;
        loans = h.loans;
        homes = h.homes;
        together = h.together;
      })),
)
  where
    of_world : IsLedger (archive_of w) [] ledger
    of_world = subst (λ p. IsLedger p [] ledger) is (f.0 holds)

-- a fact of an answer says another
pub if_ok : {X E : Type 0} (r : Result X E) (P Q : X → Type 0) → ((x : X) → P x → Q x) → IfOk r P → IfOk r Q
if_ok (Ok x) P Q f h = f x h
if_ok (Err e) P Q f h = h
