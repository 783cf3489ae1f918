-- A list of items that grows by the ends of links, while each of its items is asked for its links.
use Rattle.std.specs.Prelude.{◌≡◌, ℕ, ◌+◌, ◌<◌, Bool, true, false, ◌||◌, List, [], ◌∷◌}
use Rattle.std.specs.Prelude.{◌++◌, flat_map, length, take}
use Rattle.std.specs.Prelude.{refl, bytes_eq}
use Rattle.std.proofs.Common.{zero, suc, sym, ap, subst, ◌∙◌, get_or, arith, length-append}
use Rattle.std.proofs.Math.ListN.{get_or-append}
use Rattle.std.proofs.lemmas.Bool.{false≢true}
use Rattle.std.proofs.lemmas.List.{take-append-le}
use Rattle.std.proofs.lemmas.Slice.Eq.{bytes_eq-Decides}
use Rattle.std.specs.List.{AllByRecursion}
use Rattle.sheet_types.specs.Ordered.{is_among}
use Rattle.sheet_types.specs.Cut.{has_end}
use Rattle.sheet_types.specs.World.{Package}
use Rattle.sheet_types.specs.declared.command.Relation.{Relation}
use Rattle.sheet_types.proofs.Basics.{bytes_eq_itself, or-true}
use Rattle.sheet_types.proofs.Every.{All-weaker, All-both, All-append, All-filter}
use Rattle.sheet_types.proofs.Found.{filter_passes}
use Rattle.identity_register.specs.Reach.{links_of}
use Rattle.cut.specs.Gathering.{Enters, ends_of, has_member}
use Rattle.cut.specs.declared.group.Group.{Group}
use Rattle.cut.proofs.Lists.{flat_more}

-- So many items of the list were asked. The start is in it, and so are both ends of each link that was found; and
-- whatever set holds the start and both ends of each link of which it holds one, holds the whole list.
pub record Walked (p : Package) (start order : List (List ℕ)) (links : List Relation) (asked : ℕ) : Type 0 where
  pub links_are : links ≡ flat_map (links_of p) (take asked order)
  pub starts : (id : List ℕ) → is_among start id ≡ true → is_among order id ≡ true
  pub ends : AllByRecursion (λ l. (is_among order l.base ≡ true) × (is_among order l.other ≡ true)) links
  pub least : (set : List ℕ → Bool) → ((id : List ℕ) → is_among start id ≡ true → set id ≡ true)
      → AllByRecursion (λ l. set l.base ≡ set l.other) p.links → (id : List ℕ) → is_among order id ≡ true
      → set id ≡ true

-- what is among the first is among all
or_left : (a b : Bool) → a ≡ true → (a || b) ≡ true
or_left a b h = ap (λ v. v || b) h

or_right : (a b : Bool) → b ≡ true → (a || b) ≡ true
or_right a b h = ap (λ v. a || v) h ∙ or-true a

-- before anything was asked
pub walked_none : (p : Package) (start order : List (List ℕ))
    → ((id : List ℕ) → is_among order id ≡ is_among start id) → Walked p start order [] 0
walked_none p start order same = record {
  links_are = refl;
  starts = λ id h. same id ∙ h;
  ends = tt;
  least = λ set holds closed id h. holds id (sym (same id) ∙ h);
}

-- the ends of links are among their ends
pub ends_among : (links : List Relation) → AllByRecursion (λ l. (is_among (flat_map ends_of links) l.base ≡ true)
    × (is_among (flat_map ends_of links) l.other ≡ true)) links
ends_among [] = tt
ends_among (l ∷ links) =
    let rest : List (List ℕ) = flat_map ends_of links in (
      (
        or_left (bytes_eq l.base l.base) (bytes_eq l.other l.base || is_among rest l.base) (bytes_eq_itself l.base),
        or_right (bytes_eq l.base l.other) (bytes_eq l.other l.other || is_among rest l.other)
            (or_left (bytes_eq l.other l.other) (is_among rest l.other) (bytes_eq_itself l.other)),
      ),
      All-weaker (λ x. (is_among rest x.base ≡ true) × (is_among rest x.other ≡ true))
          (λ x. (is_among (flat_map ends_of (l ∷ links)) x.base ≡ true)
          × (is_among (flat_map ends_of (l ∷ links)) x.other ≡ true))
          (λ x h. (
            or_right (bytes_eq l.base x.base) (bytes_eq l.other x.base || is_among rest x.base)
                (or_right (bytes_eq l.other x.base) (is_among rest x.base) h.0),
            or_right (bytes_eq l.base x.other)
                (bytes_eq l.other x.other || is_among rest x.other)
                (or_right (bytes_eq l.other x.other) (is_among rest x.other) h.1),
          )) links (ends_among links),
    )

-- one of two
either : (a b : Bool) (G : Type 0) → (a || b) ≡ true → (a ≡ true → G) → (b ≡ true → G) → G
either true b G h f g = f refl
either false b G h f g = g h

-- a set with both ends of each link has what is among the ends
pub ends_in : (set : List ℕ → Bool) (links : List Relation) (id : List ℕ)
    → AllByRecursion (λ l. (set l.base ≡ true) × (set l.other ≡ true)) links
    → is_among (flat_map ends_of links) id ≡ true → set id ≡ true
ends_in set [] id h among = absurd (false≢true among)
ends_in set (l ∷ links) id h among =
    either (bytes_eq l.base id) (bytes_eq l.other id || is_among (flat_map ends_of links) id) (set id ≡ true) among
    (λ e. ap set (sym ((bytes_eq-Decides l.base id).0 e)) ∙ h.0.0)
    (λ more. either (bytes_eq l.other id) (is_among (flat_map ends_of links) id) (set id ≡ true) more
    (λ e. ap set (sym ((bytes_eq-Decides l.other id).0 e)) ∙ h.0.1)
    (λ rest. ends_in set links id h.1 rest))

-- a link of an item in a closed set has both ends in it
both_in : (set : List ℕ → Bool) (id : List ℕ) (l : Relation) → set id ≡ true → has_end id l ≡ true
    → set l.base ≡ set l.other → (set l.base ≡ true) × (set l.other ≡ true)
both_in set id l member at same = either (bytes_eq l.base id) (bytes_eq l.other id)
    ((set l.base ≡ true) × (set l.other ≡ true)) at
    (λ e. let base : set l.base ≡ true = ap set ((bytes_eq-Decides l.base id).0 e)
    ∙ member in (base, sym same ∙ base))
    (λ e. let media : set l.other ≡ true = ap set ((bytes_eq-Decides l.other id).0 e)
    ∙ member in (same ∙ media, media))

-- an element by its place is among them
pub among_place : (xs : List (List ℕ)) (k : ℕ) (id : List ℕ) → k < length xs → id ≡ get_or xs k id
    → is_among xs id ≡ true
among_place [] k id less is = absurd (omega (arith, less))
among_place (x ∷ xs) zero id less is = or_left (bytes_eq x id) (is_among xs id)
    (ap (bytes_eq x) is ∙ bytes_eq_itself x)
among_place (x ∷ xs) (suc k) id less is = or_right (bytes_eq x id) (is_among xs id)
    (among_place xs k id (omega (arith, less)) is)

-- one more item was asked, and the ends of its links came in
pub walked_more : (p : Package) (start : List (List ℕ)) (old new : Group) (links found all : List Relation) (k : ℕ)
    (id : List ℕ)
    → Walked p start old.order.items links k → k < length old.order.items → id ≡ get_or old.order.items k id
    → found ≡ links_of p id → Enters (flat_map ends_of found) old new → all ≡ links ++ found
    → Walked p start new.order.items all (k + 1)
walked_more p start old new links found all k id walked less is told enters pushed = record {
  links_are = flat_more (links_of p) new.order.items k id links all within place
      (walked.links_are ∙ ap (flat_map (links_of p)) (sym begun)) (pushed ∙ ap (λ l. links ++ l) told);
  starts = λ q h. enters.members q ∙ or_left (has_member old q) (is_among (flat_map ends_of found) q)
      (walked.starts q h);
  ends = subst (AllByRecursion (λ l. (is_among new.order.items l.base ≡ true)
      × (is_among new.order.items l.other ≡ true))) (sym pushed)
      (All-append (λ l. (is_among new.order.items l.base ≡ true) × (is_among new.order.items l.other ≡ true))
      links
      found
      (All-weaker (λ l. (is_among old.order.items l.base ≡ true) × (is_among old.order.items l.other ≡ true))
      (λ l. (is_among new.order.items l.base ≡ true) × (is_among new.order.items l.other ≡ true))
      (λ l h. (
        enters.members l.base ∙ or_left (has_member old l.base) (is_among (flat_map ends_of found) l.base) h.0,
        enters.members l.other ∙ or_left (has_member old l.other) (is_among (flat_map ends_of found) l.other) h.1,
      ))
      links walked.ends)
      (All-weaker (λ l. (is_among (flat_map ends_of found) l.base ≡ true)
      × (is_among (flat_map ends_of found) l.other ≡ true))
      (λ l. (is_among new.order.items l.base ≡ true) × (is_among new.order.items l.other ≡ true))
      (λ l h. (
        enters.members l.base ∙ or_right (has_member old l.base) (is_among (flat_map ends_of found) l.base)
            h.0,
        enters.members l.other ∙ or_right (has_member old l.other) (is_among (flat_map ends_of found) l.other)
            h.1,
      )) found (ends_among found)));
  least = λ set holds closed q h. either (has_member old q) (is_among (flat_map ends_of found) q) (set q ≡ true)
      (sym (enters.members q) ∙ h)
      (λ before. walked.least set holds closed q before)
      (λ came. ends_in set found q
      (subst (AllByRecursion (λ l. (set l.base ≡ true) × (set l.other ≡ true))) (sym told)
      (All-both (λ l. set l.base ≡ set l.other) (λ l. has_end id l ≡ true)
      (λ l. (set l.base ≡ true) × (set l.other ≡ true))
      (λ l same at. both_in set id l (walked.least set holds closed id (among_place old.order.items k id less is)) at
      same)
      (links_of p id) (All-filter (λ l. set l.base ≡ set l.other) (has_end id) p.links closed)
      (filter_passes (has_end id) p.links)))
      came);
}
  where
    begun : take k new.order.items ≡ take k old.order.items
    begun = ap (take k) enters.behind ∙ take-append-le k old.order.items enters.more (omega (arith, less))

    within : k < length new.order.items
    within = omega (arith, less, ap length enters.behind, length-append old.order.items enters.more)

    place : id ≡ get_or new.order.items k id
    place = is ∙ sym (ap (λ l. get_or l k id) enters.behind ∙ get_or-append old.order.items enters.more id k less)
