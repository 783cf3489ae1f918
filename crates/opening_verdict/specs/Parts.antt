-- What was seen of stores, part by part. Profile.
use Rattle.std.specs.Prelude.{◌≡◌, List, [], ◌∷◌, ◌++◌, map}
use Rattle.opening_verdict.specs.declared.seen.StoreSeen.{StoreSeen}
use Rattle.opening_verdict.specs.declared.seen.Parts.{Parts}

pub record IsEmpty (parts : Parts) : Type 0 where
  pub sights : parts.sights.items ≡ []
  pub formed : parts.formed.items ≡ []
  pub tied : parts.tied.items ≡ []
  pub held : parts.held.items ≡ []

-- each part has one more, of this store
pub record IsPushed (old : Parts) (store : StoreSeen) (new : Parts) : Type 0 where
  pub sights : new.sights.items ≡ old.sights.items ++ store.sight ∷ []
  pub formed : new.formed.items ≡ old.formed.items ++ store.is_formed ∷ []
  pub tied : new.tied.items ≡ old.tied.items ++ store.is_tied ∷ []
  pub held : new.held.items ≡ old.held.items ++ store.held ∷ []

-- the parts of these stores, in turn
pub record ArePartsOf (parts : Parts) (seen : List StoreSeen) : Type 0 where
  pub sights : parts.sights.items ≡ map (λ x. x.sight) seen
  pub formed : parts.formed.items ≡ map (λ x. x.is_formed) seen
  pub tied : parts.tied.items ≡ map (λ x. x.is_tied) seen
  pub held : parts.held.items ≡ map (λ x. x.held) seen
