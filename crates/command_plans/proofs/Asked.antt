-- One more request behind others, and its identity behind theirs.
use Rattle.std.proofs.Common.{◌≡◌, ◌∙◌, ◌<◌, ◌+◌, ◌++◌, ◌∷◌, [], ℕ, List, Option, Some, ap, refl, sym}
use Rattle.std.proofs.Common.{subst, length, take, get_or, map}
use Rattle.std.proofs.lemmas.List.{map-append, take_more}
use Rattle.sheet_types.proofs.Every.{All-append}
use Rattle.sheet_types.specs.declared.command.Command.{Command}
use Rattle.sheet_types.specs.declared.command.Relation.{Relation}
use Rattle.sheet_types.specs.declared.command.Request.{Request}
use Rattle.command_plans.specs.Requests.{AreRequestsFor, GivesEach, command_of, id_of}

pub asked_one : (at : List ℕ) (commands : List Command) (requests : List Request) (command : Command) (q : Request)
    → AreRequestsFor at commands requests → command_of q ≡ command → q.at ≡ at
    → AreRequestsFor at (commands ++ command ∷ []) (requests ++ q ∷ [])
asked_one at commands requests command q asked is now = record {
  order = map-append command_of requests (q ∷ []) ∙ ap (λ l. l ++ command_of q ∷ []) asked.order
      ∙ ap (λ c. commands ++ c ∷ []) is;
  moment = All-append (λ (r : Request). r.at ≡ at) requests (q ∷ []) asked.moment (now, tt);
}

-- what is made of one more of a list
pub map_taken : {X Y : Type 0} (f : X → Y) (xs : List X) (i : ℕ) (x : X) → i < length xs → x ≡ get_or xs i x
    → map f (take i xs) ++ f x ∷ [] ≡ map f (take (i + 1) xs)
map_taken f xs i x within is =
    sym (map-append f (take i xs) (x ∷ [])) ∙ ap (map f) (ap (λ z. take i xs ++ z ∷ []) is
    ∙ sym (take_more xs i x within))

pub asked_more : (at : List ℕ) (f : Relation → Command) (links : List Relation) (i : ℕ) (link : Relation)
    (requests : List Request) (q : Request)
    → i < length links → link ≡ get_or links i link → AreRequestsFor at (map f (take i links)) requests
    → command_of q ≡ f link → q.at ≡ at
    → AreRequestsFor at (map f (take (i + 1) links)) (requests ++ q ∷ [])
asked_more at f links i link requests q within item asked is now =
    subst (λ cs. AreRequestsFor at cs (requests ++ q ∷ [])) (map_taken f links i link within item)
    (asked_one at (map f (take i links)) requests (f link) q asked is now)

module _ {N : Type 0} (Gives : Option (List ℕ) → N → N → Type 0) where
  pub given_more : (requests : List Request) (q : Request) (old mid new : N)
      → GivesEach Gives (map id_of requests) old mid → Gives (Some q.id) mid new
      → GivesEach Gives (map id_of (requests ++ q ∷ [])) old new
  given_more [] q old mid new same one = (new, subst (λ s. Gives (Some q.id) s new) same one, refl)
  given_more (r ∷ requests) q old mid new (next, first, rest) one =
      (next, first, given_more requests q next mid new rest one)
