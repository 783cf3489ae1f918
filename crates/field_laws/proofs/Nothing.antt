-- A file that lists what the package holds asks for nothing.
use Rattle.std.specs.Prelude.{◌≡◌, ◌≤◌, ℕ, Bool, true, false, cond, not, ◌&&◌, List, [], ◌∷◌}
use Rattle.std.specs.Prelude.{◌++◌, Option, Some}
use Rattle.std.specs.Prelude.{None, map, filter, option_map, unwrap_or, is_some, bytes_eq, count_by, length}
use Rattle.std.specs.Prelude.{IsPermutation, refl}
use Rattle.std.proofs.Common.{sym, ap, subst, ◌∙◌, inl, inr, arith, append_assoc}
use Rattle.std.specs.List.{list_any, AllByRecursion, AllZip, IsDistinct}
use Rattle.std.specs.Option.{option_map_or}
use Rattle.std.proofs.lemmas.Bool.{false≢true}
use Rattle.std.proofs.lemmas.List.Sorted.{IsPermutation-sym, IsPermutation-map}
use Rattle.std.proofs.lemmas.List.Sums.{sum_by-append}
use Rattle.std.proofs.lemmas.Map.Keys.{IsDistinct-IsPermutation}
use Rattle.std.proofs.lemmas.Slice.Eq.{bytes_eq-Decides}
use Rattle.sheet_types.specs.Cut.{identities}
use Rattle.sheet_types.specs.Ordered.{has}
use Rattle.sheet_types.specs.World.{link_key}
use Rattle.sheet_types.specs.declared.command.Content.{Content}
use Rattle.sheet_types.specs.declared.command.Item.{Item}
use Rattle.sheet_types.specs.declared.command.Relation.{Relation}
use Rattle.sheet_types.proofs.Basics.{bytes_eq_itself, bytes_eq_swap, some_once}
use Rattle.sheet_types.proofs.Distinct.{distinct_counts}
use Rattle.sheet_types.proofs.Every.{All-weaker, none_any}
use Rattle.sheet_types.proofs.Sums.{count-cons, none_counted, sum_by-map}
use Rattle.sheet_types.proofs.Same.{In, In-all, In-map, In-of_map, any_in}
use Rattle.field_changes.specs.Asked.{unlinking, deleting, adding, linking}
use Rattle.field_changes.specs.Ids.{request_of}
use Rattle.field_changes.specs.Keys.{content_key, key_of, item_mark}
use Rattle.field_changes.specs.Naming.{is_marked, is_own, unmarked, shared_name, copies, others, known_as}
use Rattle.field_changes.specs.Naming.{names_behind, names_of}
use Rattle.field_changes.specs.Parts.{gone, new_items, beyond, link_of, IsLinkOf}
use Rattle.field_changes.specs.declared.held.HeldItem.{HeldItem}
use Rattle.field_changes.specs.declared.held.HeldLink.{HeldLink}
use Rattle.field_changes.specs.declared.naming.Name.TheVariants.{Old}
use Rattle.field_changes.specs.declared.naming.Named.{Named}
use Rattle.field_run_laws.proofs.Lists.{moved}
use Rattle.field_laws.specs.Changing.{as_listed, listed_name, ListsItems, NothingToDo}
use Rattle.field_changes.proofs.Contents.{same_front}

-- nothing passes a test that each fails
none_left : {X : Type 0} (t : X → Bool) (xs : List X) → AllByRecursion (λ x. t x ≡ false) xs
    → filter t xs ≡ []
none_left t [] h = refl
none_left t (x ∷ xs) h = ap (λ b. cond b (x ∷ filter t xs) (filter t xs)) h.0 ∙ none_left t xs h.1

nothing_moved : {X : Type 0} (ys : List X) → IsPermutation [] ys → ys ≡ []
nothing_moved [] h = refl
nothing_moved (y ∷ ys) h = absurd (moved y (y ∷ ys) [] (IsPermutation-sym [] (y ∷ ys) h) (inl refl))

-- ---- names

-- an identity that is another is another mark
other_mark : (id : List ℕ) (c d : Content) (o : Option (List ℕ)) → bytes_eq (unwrap_or o []) id ≡ false
    → option_map_or (λ m. bytes_eq m (key_of 0 id c)) (option_map (λ k. key_of 0 k d) o) false ≡ false
other_mark id c d None h = refl
other_mark id c d (Some k) h =
    elim (bytes_eq (key_of 0 k d) (key_of 0 id c)) as (λ v. bytes_eq (key_of 0 k d) (key_of 0 id c) ≡ v
    → v ≡ false) [
      | true ↦ λ e. absurd (false≢true (sym h ∙ (bytes_eq-Decides k id).1
          (same ((bytes_eq-Decides (key_of 0 k d) (key_of 0 id c)).0 e))))
      | false ↦ λ _. refl
    ] refl
  where
    same : key_of 0 k d ≡ key_of 0 id c → k ≡ id
    same e =
        let long : length k ≡ length id = cc in
        let rest : k ++ content_key d ≡ id ++ content_key c = cc in
        (same_front k id (content_key d) (content_key c) long rest).0

-- where the identity is there, and the package has the item under it, and none before is marked so
own_listed : (items : List Item) (before : List HeldItem) (o : Option (List ℕ)) (c : Content) → is_some o ≡ true
    → has item_mark (key_of 0 (unwrap_or o []) c) items ≡ true
    → list_any (is_marked (key_of 0 (unwrap_or o []) c)) before ≡ false
    → option_map_or (λ m. has item_mark m items && not (list_any (is_marked m) before))
    (option_map (λ id. key_of 0 id c) o) false ≡ true
own_listed items before None c some there first = absurd (false≢true some)
own_listed items before (Some id) c some there first = ap (λ b. b && not
    (list_any (is_marked (key_of 0 id c)) before)) there ∙ ap not first

-- how often an identity stands beside items of a file
abbrev beside : List ℕ → HeldItem → Bool
beside id h = bytes_eq (unwrap_or h.identity []) id

abbrev IsListed : List Item → HeldItem → Type 0
IsListed items h = (is_some h.identity ≡ true) × (has item_mark (key_of 0 (unwrap_or h.identity []) h.content) items
    ≡ true)

listed_names : (p : List ℕ) (n : ℕ) (items : List Item) (file before hs : List HeldItem)
    → ((id : List ℕ) → count_by (beside id) (before ++ hs) ≤ 1) → AllByRecursion (IsListed items) hs
    → names_behind p n items file before hs ≡ map listed_name hs
listed_names p n items file before [] once listed = refl
listed_names p n items file before (h ∷ hs) once listed =
    let id : List ℕ = unwrap_or h.identity [] in
    let whole : (before ++ h ∷ []) ++ hs ≡ before ++ h ∷ hs = append_assoc before (h ∷ []) hs in
    let none : count_by (beside id) before ≡ 0 =
    omega (
      arith,
      once id,
      sum_by-append (λ x. cond (beside id x) 1 0) before (h ∷ hs),
      count-cons (beside id) h hs
          true (bytes_eq_itself id),
    ) in
    let first : list_any (is_marked (key_of 0 id h.content)) before ≡ false =
    none_any (is_marked (key_of 0 id h.content)) before (All-weaker (λ x. beside id x ≡ false)
    (λ x. is_marked (key_of 0 id h.content) x ≡ false) (λ x e. other_mark id h.content x.content x.identity e)
    before (none_counted (beside id) before none)) in
    let own : is_own items before h ≡ true = own_listed items before h.identity h.content listed.0.0 listed.0.1
    first in
    ap (λ b. known_as p n h (cond b (Old id) (shared_name (unmarked items file) h.content
    (copies (λ c. c) h.content (others items [] before)))) ∷ names_behind p n items file (before ++ h ∷ []) hs)
    own
    ∙ ap (λ l. listed_name h ∷ l) (listed_names p n items file (before ++ h ∷ []) hs
    (λ k. subst (λ l. count_by (beside k) l ≤ 1) (sym whole) (once k)) listed.1)

module _ (items : List Item) (file : List HeldItem) (distinct : IsDistinct bytes_eq (identities items))
    (lists : ListsItems items file) where
  listed_once : (id : List ℕ) → count_by (beside id) file ≤ 1
  listed_once id =
      let apart : IsDistinct bytes_eq (identities (map as_listed file)) =
      IsDistinct-IsPermutation bytes_eq bytes_eq_swap (identities items) (identities (map as_listed file))
      (IsPermutation-map (λ i. i.identity) items (map as_listed file) lists.same) distinct in
      omega (
        arith,
        distinct_counts (λ i. i.identity) id (map as_listed file) apart,
        sum_by-map
            (λ (i : Item). cond (bytes_eq i.identity id) 1 0) as_listed file,
      )

  each_listed : AllByRecursion (IsListed items) file
  each_listed = pairs file lists.marked (λ h i. moved (as_listed h) (map as_listed file) items
      (IsPermutation-sym items (map as_listed file) lists.same) (In-map as_listed h file i))
    where
      pairs : (hs : List HeldItem) → AllByRecursion (λ h. is_some h.identity ≡ true) hs
          → ((h : HeldItem) → In h hs → In (as_listed h) items) → AllByRecursion (IsListed items) hs
      pairs [] marked there = tt
      pairs (h ∷ hs) marked there = (
        (
          marked.0,
          any_in (λ i. bytes_eq (item_mark i) (key_of 0 (unwrap_or h.identity []) h.content)) (as_listed h)
              items (there h (inl refl)) (bytes_eq_itself (key_of 0 (unwrap_or h.identity []) h.content)),
        ),
        pairs hs marked.1 (λ g i. there g (inr i)),
      )

  names_are : (p : List ℕ) (n : ℕ) → names_of p n items file ≡ map listed_name file
  names_are p n = listed_names p n items file [] file listed_once each_listed

  -- no item of the package goes
  none_gone : gone (map listed_name file) items ≡ []
  none_gone = none_left (λ i. not (has (λ n. n.identity) i.identity (map listed_name file))) items
      (All-weaker (λ i. In i items) (λ i. not (has (λ n. n.identity) i.identity (map listed_name file)) ≡ false)
      (λ i there. ap not (named i there)) items (In-all items))
    where
      named : (i : Item) → In i items → has (λ n. n.identity) i.identity (map listed_name file) ≡ true
      named i there =
          let it = In-of_map as_listed i file (moved i items (map as_listed file) lists.same there) in
          any_in (λ n. bytes_eq n.identity i.identity) (listed_name it.0) (map listed_name file)
          (In-map listed_name it.0 file it.1) ((bytes_eq-Decides (unwrap_or it.0.identity []) i.identity).1
          (ap (λ x. x.identity) it.2))

-- none is new
none_new : (hs gs : List HeldItem) → new_items (map listed_name hs) gs ≡ []
none_new [] gs = refl
none_new (h ∷ hs) [] = refl
none_new (h ∷ hs) (g ∷ gs) = none_new hs gs

-- ---- links

same_links : (names : List Named) (held : List HeldLink) (xs ys : List Relation) → AllZip (IsLinkOf names) held xs
    → AllZip (IsLinkOf names) held ys → xs ≡ ys
same_links names [] [] [] a b = refl
same_links names [] [] (y ∷ ys) a b = absurd b
same_links names [] (x ∷ xs) ys a b = absurd a
same_links names (h ∷ hs) [] ys a b = absurd a
same_links names (h ∷ hs) (x ∷ xs) [] a b = absurd b
same_links names (h ∷ hs) (x ∷ xs) (y ∷ ys) a b =
    let first : x ≡ y = some_once (link_of names h) x y a.0 b.0 in
    let rest : xs ≡ ys = same_links names hs xs ys a.1 b.1 in
    ap (λ z. z ∷ xs) first ∙ ap (λ zs. y ∷ zs) rest

none_beyond : (others links : List Relation) → ((l : Relation) → In l links → In l others)
    → beyond others links ≡ []
none_beyond others links there = none_left (λ l. not (has link_key (link_key l) others)) links
    (All-weaker (λ l. In l links) (λ l. not (has link_key (link_key l) others) ≡ false)
    (λ l i. ap not (any_in (λ x. bytes_eq (link_key x) (link_key l)) l others (there l i)
    (bytes_eq_itself (link_key l)))) links (In-all links))

either_none : {X : Type 0} (more : Bool) (xs : List X) → xs ≡ [] → cond more [] xs ≡ []
either_none true xs e = refl
either_none false xs e = e

pub nothing_to_do : NothingToDo
nothing_to_do p ticket moment items linked more file held requests distinct lists lists_links changes =
    let for_file = changes.for_file in
    let names : names_of p ticket items file ≡ map listed_name file = names_are items file distinct lists p ticket in
    let links_are : for_file.file_links ≡ lists_links.links =
    same_links (map listed_name file) held for_file.file_links lists_links.links
    (subst (λ l. AllZip (IsLinkOf l) held for_file.file_links) names for_file.named) lists_links.between in
    let unlinks : changes.parts.unlinks.items ≡ [] =
    for_file.unlinks ∙ either_none more (beyond for_file.file_links linked)
    (none_beyond for_file.file_links linked (λ l i. subst (In l) (sym links_are)
    (moved l linked lists_links.links lists_links.same i))) in
    let deletes : changes.parts.deletes.items ≡ [] =
    for_file.deletes ∙ either_none more (identities (gone (names_of p ticket items file) items))
    (ap (λ l. identities (gone l items)) names ∙ ap identities (none_gone items file distinct lists)) in
    let adds : changes.parts.adds.items ≡ [] =
    nothing_moved changes.parts.adds.items (subst (λ l. IsPermutation l changes.parts.adds.items)
    (ap (λ l. new_items l file) names ∙ none_new file file) for_file.adds) in
    let links : changes.parts.links.items ≡ [] =
    nothing_moved changes.parts.links.items (subst (λ l. IsPermutation l changes.parts.links.items)
    (none_beyond linked for_file.file_links (λ l i. moved l lists_links.links linked
    (IsPermutation-sym linked lists_links.links lists_links.same) (subst (In l) links_are i))) for_file.links) in
    changes.asked ∙ ap (map (request_of p ticket moment)) (four changes.parts.unlinks.items
    changes.parts.deletes.items changes.parts.adds.items changes.parts.links.items unlinks deletes adds links)
  where
    four : (a : List Relation) (b : List (List ℕ)) (c : List Item) (d : List Relation) → a ≡ [] → b ≡ []
        → c ≡ []
        → d ≡ []
        → map (unlinking p) a ++ map (deleting p) b ++ map (adding p) c ++ map (linking p) d ≡ []
    four [] [] [] [] a b c d = refl
    four (x ∷ xs) bs cs ds a b c d = cc
    four [] (y ∷ ys) cs ds a b c d = cc
    four [] [] (z ∷ zs) ds a b c d = cc
    four [] [] [] (l ∷ ls) a b c d = cc
