-- The splits that are seen, one by one.
use Rattle.std.specs.Prelude.{◌≡◌, ℕ, true, false, cond, ◌&&◌, List, Vec, [], ◌∷◌, ◌++◌, Option}
use Rattle.std.specs.Prelude.{Some, None, flat_map, bytes_eq, refl}
use Rattle.std.proofs.Common.{sym, ap, ◌∙◌}
use Rattle.std.proofs.lemmas.List.{append-nil, flat_map_more}
use Rattle.std.proofs.lemmas.Slice.Eq.{bytes_eq-Decides}
use Rattle.std.specs.declared.alloc.Global.{Global}
use Rattle.std.specs.Option.{option_map_or}
use Rattle.std.specs.Ordering.{nat_cmp}
use Rattle.std.specs.Cmp.Lexicographic.{slice_cmp}
use Rattle.std.specs.BTreeMap.{BTreeMap, get, Updates}
use Rattle.sheet_types.specs.Custody.{is_split, ends_at}
use Rattle.sheet_types.specs.World.{World}
use Rattle.sheet_types.specs.declared.receipt.Receipt.{Receipt}
use Rattle.sheet_ledger.proofs.Maps.{at_key}
use Rattle.sheet_balance.specs.declared.sights.Sight.{Sight}
use Rattle.sheet_balance.specs.declared.splits.Lent.{Lent}
use Rattle.sheet_balance.specs.Sights.{IsSightOf, IsSeen}
use Rattle.sheet_balance.specs.Splits.{lents_in, lent_of, lents_by, lents_among, lents_seen, HasSplits}
use Rattle.sheet_balance.proofs.Each.{flat_seen}

abbrev pub Splits : Type 0
Splits = BTreeMap (List ℕ) (Vec Lent Global)

abbrev items_of : Option (Vec Lent Global) → List Lent
items_of o = option_map_or (λ v. v.items) o []

-- a split is put behind the others of its target
pub one_lent : (old mid new : Splits) (target : List ℕ) (lent : Lent) (v : Vec Lent Global)
    → Updates (slice_cmp nat_cmp) old mid target None → Updates (slice_cmp nat_cmp) mid new target (Some v)
    → v.items ≡ lents_in old target ++ lent ∷ [] → (p : List ℕ)
    → lents_in new p ≡ lents_in old p ++ cond (bytes_eq target p) (lent ∷ []) []
one_lent old mid new target lent v taken put is p =
    ap items_of (at_key mid new target (Some v) put p ∙ ap (λ o. cond (bytes_eq target p) (Some v) o)
    (at_key old mid target None taken p))
    ∙ elim (bytes_eq target p) as (λ b. bytes_eq target p ≡ b
    → items_of (cond b (Some v) (cond b None (get (slice_cmp nat_cmp) old p))) ≡ lents_in old p
    ++ cond b (lent ∷ []) []) [
      | true ↦ λ e. is ∙ ap (λ q. lents_in old q ++ lent ∷ []) ((bytes_eq-Decides target p).0 e)
      | false ↦ λ _. sym (append-nil (lents_in old p))
    ] refl

-- a receipt without target, and one that is no split
pub no_target : (home p : List ℕ) (r : Receipt) → r.target ≡ None → lents_by home p r ≡ []
no_target home p r e =
    ap (λ o. cond (is_split r && ends_at o p) (lent_of home r ∷ []) []) e
    ∙ elim (is_split r) as (λ b. cond (b && false) (lent_of home r ∷ []) [] ≡ [])
    [ true ↦ refl | false ↦ refl ]

pub no_split : (home p : List ℕ) (r : Receipt) → is_split r ≡ false → lents_by home p r ≡ []
no_split home p r e = ap (λ b. cond (b && ends_at r.target p) (lent_of home r ∷ []) []) e

pub a_split : (home p target : List ℕ) (r : Receipt) (lent : Lent) → is_split r ≡ true
    → r.target ≡ Some target → lent ≡ lent_of home r → cond (bytes_eq target p) (lent ∷ []) []
    ≡ lents_by home p r
a_split home p target r lent e is same =
    ap (λ l. cond (bytes_eq target p) (l ∷ []) []) same
    ∙ sym (ap (λ b. cond (b && ends_at r.target p) (lent_of home r ∷ []) []) e
    ∙ ap (λ o. cond (ends_at o p) (lent_of home r ∷ []) []) is)

-- what adds nothing
pub adds_none : (xs ys : List Lent) → ys ≡ [] → xs ≡ xs ++ ys
adds_none xs ys e = sym (append-nil xs) ∙ ap (λ zs. xs ++ zs) (sym e)

-- one more of a list, behind the others
pub lents_more : {X : Type 0} (f : X → List Lent) (old mid new : List Lent) (xs more : List X) (x : X)
    → more ≡ xs ++ x ∷ [] → mid ≡ old ++ flat_map f xs → new ≡ mid ++ f x
    → new ≡ old ++ flat_map f more
lents_more f old mid new xs more x is was step =
    step ∙ ap (λ zs. zs ++ f x) was ∙ flat_map_more f old xs x ∙ ap (λ zs. old ++ flat_map f zs) (sym is)

-- the splits that are seen are those of the world
pub seen_splits : (splits : Splits) (ss : List Sight) (w : World) → IsSeen ss w
    → ((p : List ℕ) → lents_in splits p ≡ lents_seen p ss) → HasSplits splits w
seen_splits splits ss w h has p =
    has p ∙ flat_seen IsSightOf (λ s. lents_among s.uuid p s.receipts.items) (λ x. lents_among x.uuid p x.receipts)
    (λ s x k. ap (λ u. lents_among u p s.receipts.items) k.uuid ∙ ap (lents_among x.uuid p) k.receipts)
    ss w.packages h.packages
