-- Receipts that are moved out of packages, one after the other, and what is left of each.
use Rattle.std.specs.Prelude.{◌≡◌, ℕ, List, [], ◌∷◌, ◌++◌, flat_map, length, refl}
use Rattle.std.proofs.Common.{sym, ap, subst, ◌∙◌, arith}
use Rattle.std.proofs.lemmas.List.{append-nil, flat_map_more}
use Rattle.std.specs.List.{AllZip}
use Rattle.sheet_types.specs.declared.receipt.Receipt.{Receipt}
use Rattle.sheet_balance.specs.declared.holders.Holder.{Holder}
use Rattle.sheet_balance.specs.declared.sights.Sight.{Sight}
use Rattle.sheet_balance.specs.Holders.{IsRestOf}

pub none_long : {X : Type 0} (n : ℕ) (l : List X) → n ≡ length l → n ≡ 0 → l ≡ []
none_long n [] long none = refl
none_long n (x ∷ xs) long none = absurd (omega (arith, long, none))

abbrev pub receipts_in : List Sight → List Receipt
receipts_in ss = flat_map (λ s. s.receipts.items) ss

-- of the sights so far the receipts and the rests, and the sights that are still to come
pub record IsParted (all : List Sight) (receipts : List Receipt) (hs : List Holder) (rest : List Sight) : Type 0 where
  pub done : List Sight
  pub whole : all ≡ done ++ rest
  pub receipts_are : receipts ≡ receipts_in done
  pub rests : AllZip IsRestOf hs done

zip_push : {X Y : Type 0} (R : X → Y → Type 0) (xs : List X) (ys : List Y) (x : X) (y : Y) → AllZip R xs ys → R x y
    → AllZip R (xs ++ x ∷ []) (ys ++ y ∷ [])
zip_push R [] [] x y h r = (r, tt)
zip_push R [] (b ∷ ys) x y h r = absurd h
zip_push R (a ∷ xs) [] x y h r = absurd h
zip_push R (a ∷ xs) (b ∷ ys) x y h r = (h.0, zip_push R xs ys x y h.1 r)

pub went_on : (all : List Sight) (old new : List Receipt) (hs more : List Holder) (s : Sight) (x : Holder)
    (rest : List Sight) → IsParted all old hs (s ∷ rest) → IsRestOf x s → new ≡ old ++ s.receipts.items
    → more ≡ hs ++ x ∷ [] → IsParted all new more rest
went_on all old new hs more s x rest h one moved pushed = record {
  done = h.done ++ s ∷ [];
  whole = h.whole ∙ shifted h.done;
  receipts_are = moved ∙ ap (λ rs. rs ++ s.receipts.items) h.receipts_are
      ∙ flat_map_more (λ z. z.receipts.items) [] h.done s;
  rests = subst (λ l. AllZip IsRestOf l (h.done ++ s ∷ [])) (sym pushed) (zip_push IsRestOf hs h.done x s h.rests one);
}
  where
    shifted : (xs : List Sight) → xs ++ s ∷ rest ≡ (xs ++ s ∷ []) ++ rest
    shifted [] = refl
    shifted (z ∷ xs) = ap (λ l. z ∷ l) (shifted xs)

all_done : (all : List Sight) (receipts : List Receipt) (hs : List Holder) (rest : List Sight)
    → (h : IsParted all receipts hs rest) → rest ≡ [] → h.done ≡ all
all_done all receipts hs rest h none = sym (append-nil h.done) ∙ ap (λ l. h.done ++ l) (sym none) ∙ sym h.whole

pub receipts_moved : (all : List Sight) (receipts : List Receipt) (hs : List Holder) (rest : List Sight)
    → IsParted all receipts hs rest → rest ≡ [] → receipts ≡ receipts_in all
receipts_moved all receipts hs rest h none = h.receipts_are ∙ ap receipts_in (all_done all receipts hs rest h none)

pub rests_left : (all : List Sight) (receipts : List Receipt) (hs : List Holder) (rest : List Sight)
    → IsParted all receipts hs rest → rest ≡ [] → AllZip IsRestOf hs all
rests_left all receipts hs rest h none = subst (AllZip IsRestOf hs) (all_done all receipts hs rest h none) h.rests
