-- Stores shared out one after the other, the last one first.
use Rattle.std.specs.Prelude.{◌≡◌, ℕ, suc, ◌+◌, ◌<◌, List, [], ◌∷◌, ◌++◌, length, refl}
use Rattle.std.specs.Prelude.{Option, Some, None}
use Rattle.std.proofs.Common.{sym, ap, subst, ◌∙◌, arith, drop}
use Rattle.std.proofs.Math.Seq.{drop-length, drop-append_seam}
use Rattle.std.proofs.lemmas.List.{append-nil, length-append}
use Rattle.sqlite.specs.Held.{Held}
use Rattle.sheet_types.specs.Ordered.{arranged}
use Rattle.sheet_types.proofs.Arranging.{IsInOrder, arranged_in_order}
use Rattle.opening_verdict.specs.declared.verdict.Kept.{Kept}
use Rattle.opening_stores.specs.Sharing.{member_key, members_of, strays_of, with_member, with_stray, HasRoomOf}
use Rattle.opening_stores.specs.Sharing.{AreShared}
use Rattle.opening_stores.specs.declared.sharing.Shares.{Shares}
use Rattle.package_tables.proofs.Seams.{joined, long_snoc}

module _ {S : Type 0} where
  -- one store more, with what is kept of it
  one_member : (h : Held S) (k : Option Kept) (hs : List (Held S)) (ks : List (Option Kept))
      → with_member h k (arranged member_key (members_of hs ks))
      ≡ arranged member_key (members_of (h ∷ hs) (k ∷ ks))
  one_member h (Some k) hs ks = refl
  one_member h None hs ks = refl

  -- the last stores are shared out, and there is room for the others
  pub record IsSharing (all : List (Held S)) (kept : List (Option Kept)) (rest : List (Held S)) (shares : Shares S) :
      Type 0 where
    pub front : all ≡ rest ++ drop (length rest) all
    pub members : shares.members.items ≡ arranged member_key
        (members_of (drop (length rest) all) (drop (length rest) kept))
    pub strays : shares.strays.items ≡ strays_of (drop (length rest) all) (drop (length rest) kept)
    pub room : HasRoomOf shares (length rest)

  pub begins : (all : List (Held S)) (kept : List (Option Kept)) (shares : Shares S) → shares.members.items ≡ []
      → shares.strays.items ≡ [] → HasRoomOf shares (length all) → IsSharing all kept all shares
  begins all kept shares no_members no_strays room = record {
    front = sym (append-nil all) ∙ ap (λ zs. all ++ zs) (sym (drop-length all));
    members = no_members ∙ ap (λ zs. arranged member_key (members_of zs (drop (length all) kept)))
        (sym (drop-length all));
    strays = no_strays ∙ ap (λ zs. strays_of zs (drop (length all) kept)) (sym (drop-length all));
    room = room;
  }

  module _ (all : List (Held S)) (kept : List (Option Kept)) (rest fewer : List (Held S)) (shares : Shares S)
      (h : Held S) (long : length kept ≡ length all) (it : IsSharing all kept rest shares)
      (last : rest ≡ fewer ++ h ∷ []) where
    pub more_long : length rest ≡ suc (length fewer)
    more_long = ap length last ∙ long_snoc fewer h

    whole : all ≡ fewer ++ h ∷ drop (suc (length fewer)) all
    whole = it.front ∙ ap (λ n. rest ++ drop n all) more_long ∙ ap (λ l. l ++ drop (suc (length fewer)) all) last
        ∙ joined fewer h (drop (suc (length fewer)) all)

    behind : drop (length fewer) all ≡ h ∷ drop (suc (length fewer)) all
    behind = ap (drop (length fewer)) whole ∙ drop-append_seam fewer (h ∷ drop (suc (length fewer)) all)

    pub below : length fewer < length kept
    below =
        let n : length all ≡ length fewer + length (h ∷ drop (suc (length fewer)) all) =
        ap length whole ∙ length-append fewer (h ∷ drop (suc (length fewer)) all) in
        omega (arith, long, n)

    pub order : IsInOrder member_key shares.members.items
    order = subst (IsInOrder member_key) (sym it.members) (arranged_in_order member_key
        (members_of (drop (length rest) all) (drop (length rest) kept)))

    pub room_here : HasRoomOf shares 1
    room_here = (omega (arith, it.room.0, more_long), omega (arith, it.room.1, more_long))

    -- what is kept of the store
    kept_behind : (k : Option Kept) → drop (length fewer) kept ≡ k ∷ drop (suc (length fewer)) kept
        → (hs : List (Held S)) → drop (length fewer) all ≡ hs
        → members_of (drop (length fewer) all) (drop (length fewer) kept)
        ≡ members_of hs (k ∷ drop (suc (length fewer)) kept)
    kept_behind k is hs are = ap (λ ks. members_of (drop (length fewer) all) ks) is
        ∙ ap (λ zs. members_of zs (k ∷ drop (suc (length fewer)) kept)) are

    strays_behind : (k : Option Kept) → drop (length fewer) kept ≡ k ∷ drop (suc (length fewer)) kept
        → (hs : List (Held S)) → drop (length fewer) all ≡ hs
        → strays_of (drop (length fewer) all) (drop (length fewer) kept)
        ≡ strays_of hs (k ∷ drop (suc (length fewer)) kept)
    strays_behind k is hs are = ap (λ ks. strays_of (drop (length fewer) all) ks) is
        ∙ ap (λ zs. strays_of zs (k ∷ drop (suc (length fewer)) kept)) are

    pub goes_on : (k : Option Kept) → drop (length fewer) kept ≡ k ∷ drop (suc (length fewer)) kept
        → (new : Shares S)
        → new.members.items ≡ with_member h k shares.members.items
        → new.strays.items ≡ with_stray h k shares.strays.items
        → ((n : ℕ) → HasRoomOf shares (n + 1) → HasRoomOf new n) → IsSharing all kept fewer new
    goes_on k is new members strays room = record {
      front = whole ∙ ap (λ l. fewer ++ l) (sym behind);
      members = members ∙ ap (with_member h k) (it.members ∙ ap
          (λ n. arranged member_key (members_of (drop n all) (drop n kept))) more_long)
          ∙ one_member h k (drop (suc (length fewer)) all) (drop (suc (length fewer)) kept)
          ∙ ap (arranged member_key) (sym (kept_behind k is (h ∷ drop (suc (length fewer)) all) behind));
      strays = strays ∙ ap (with_stray h k) (it.strays ∙ ap (λ n. strays_of (drop n all) (drop n kept)) more_long)
          ∙ sym (strays_behind k is (h ∷ drop (suc (length fewer)) all) behind);
      room = room (length fewer) (omega (arith, it.room.0, more_long), omega (arith, it.room.1, more_long));
    }

  pub ends : (all : List (Held S)) (kept : List (Option Kept)) (rest : List (Held S)) (shares : Shares S)
      → IsSharing all kept rest shares → rest ≡ [] → AreShared all kept shares
  ends all kept rest shares it none = record {
    members = it.members ∙ ap (λ r. arranged member_key (members_of (drop (length r) all) (drop (length r) kept)))
        none;
    strays = it.strays ∙ ap (λ r. strays_of (drop (length r) all) (drop (length r) kept)) none;
  }

pub none_left : {X : Type 0} (xs : List X) → length xs ≡ 0 → xs ≡ []
none_left [] long = refl
none_left (x ∷ xs) long = absurd (omega (arith, long))
