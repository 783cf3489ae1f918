-- The parts of stores, one store after the other.
use Rattle.std.specs.Prelude.{◌≡◌, ℕ, List, [], ◌∷◌, ◌++◌, length, map, refl}
use Rattle.std.proofs.Common.{sym, ap, ◌∙◌, arith}
use Rattle.std.proofs.lemmas.List.{append-nil}
use Rattle.opening_verdict.specs.Parts.{IsEmpty, IsPushed, ArePartsOf}
use Rattle.opening_verdict.specs.declared.seen.StoreSeen.{StoreSeen}
use Rattle.opening_verdict.specs.declared.seen.Parts.{Parts}

-- the parts of some stores, and the stores that are still to come
pub record IsParting (seen : List StoreSeen) (parts : Parts) (rest : List StoreSeen) : Type 0 where
  pub sights : map (λ x. x.sight) seen ≡ parts.sights.items ++ map (λ x. x.sight) rest
  pub formed : map (λ x. x.is_formed) seen ≡ parts.formed.items ++ map (λ x. x.is_formed) rest
  pub tied : map (λ x. x.is_tied) seen ≡ parts.tied.items ++ map (λ x. x.is_tied) rest
  pub held : map (λ x. x.held) seen ≡ parts.held.items ++ map (λ x. x.held) rest

one_on : {X Y : Type 0} (f : X → Y) (all old new : List Y) (x : X) (rest : List X)
    → all ≡ old ++ map f (x ∷ rest)
    → new ≡ old ++ f x ∷ [] → all ≡ new ++ map f rest
one_on {Y = Y} f all old new x rest h push = h ∙ moved old ∙ ap (λ l. l ++ map f rest) (sym push)
  where
    moved : (ys : List Y) → ys ++ f x ∷ map f rest ≡ (ys ++ f x ∷ []) ++ map f rest
    moved [] = refl
    moved (y ∷ ys) = ap (λ zs. y ∷ zs) (moved ys)

nothing_more : {X : Type 0} (all xs rest : List X) → all ≡ xs ++ rest → rest ≡ [] → xs ≡ all
nothing_more all xs rest h none = sym (append-nil xs) ∙ ap (λ l. xs ++ l) (sym none) ∙ sym h

pub begun : (seen : List StoreSeen) (parts : Parts) → IsEmpty parts → IsParting seen parts seen
begun seen parts none = record {
  sights = ap (λ l. l ++ map (λ x. x.sight) seen) (sym none.sights);
  formed = ap (λ l. l ++ map (λ x. x.is_formed) seen) (sym none.formed);
  tied = ap (λ l. l ++ map (λ x. x.is_tied) seen) (sym none.tied);
  held = ap (λ l. l ++ map (λ x. x.held) seen) (sym none.held);
}

pub went_on : (seen : List StoreSeen) (old new : Parts) (x : StoreSeen) (rest : List StoreSeen)
    → IsParting seen old (x ∷ rest) → IsPushed old x new → IsParting seen new rest
went_on seen old new x rest h push = record {
  sights = one_on (λ s. s.sight) (map (λ s. s.sight) seen) old.sights.items new.sights.items x rest h.sights
      push.sights;
  formed = one_on (λ s. s.is_formed) (map (λ s. s.is_formed) seen) old.formed.items new.formed.items x rest h.formed
      push.formed;
  tied = one_on (λ s. s.is_tied) (map (λ s. s.is_tied) seen) old.tied.items new.tied.items x rest h.tied push.tied;
  held = one_on (λ s. s.held) (map (λ s. s.held) seen) old.held.items new.held.items x rest h.held push.held;
}

pub ended : (seen : List StoreSeen) (parts : Parts) (rest : List StoreSeen) → IsParting seen parts rest
    → rest ≡ []
    → ArePartsOf parts seen
ended seen parts rest h none = record {
  sights = nothing_more (map (λ x. x.sight) seen) parts.sights.items (map (λ x. x.sight) rest) h.sights
      (ap (map (λ x. x.sight)) none);
  formed = nothing_more (map (λ x. x.is_formed) seen) parts.formed.items (map (λ x. x.is_formed) rest) h.formed
      (ap (map (λ x. x.is_formed)) none);
  tied = nothing_more (map (λ x. x.is_tied) seen) parts.tied.items (map (λ x. x.is_tied) rest) h.tied
      (ap (map (λ x. x.is_tied)) none);
  held = nothing_more (map (λ x. x.held) seen) parts.held.items (map (λ x. x.held) rest) h.held
      (ap (map (λ x. x.held)) none);
}

pub none_long : {X : Type 0} (n : ℕ) (l : List X) → n ≡ length l → n ≡ 0 → l ≡ []
none_long n [] long none = refl
none_long n (x ∷ xs) long none = absurd (omega (arith, long, none))
