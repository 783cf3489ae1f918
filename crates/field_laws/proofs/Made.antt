-- What a package holds after the changes for a file: the four parts in a closed form, and what they come to.
use Rattle.std.specs.Prelude.{◌≡◌, ◌≤◌, ◌+◌, ℕ, ℤ, Bool, true, false, cond, not, List, []}
use Rattle.std.specs.Prelude.{◌∷◌, ◌++◌, Option, Some}
use Rattle.std.specs.Prelude.{None, map, filter, option_map, bytes_eq, count_by, length, refl}
use Rattle.std.proofs.Common.{sym, ap, subst, ◌∙◌, inl, inr, arith}
use Rattle.std.specs.List.{AllByRecursion, AllZip}
use Rattle.std.specs.Option.{option_and_then}
use Rattle.std.proofs.lemmas.Bool.{true≢false, eq-eqb}
use Rattle.std.proofs.lemmas.List.{map-append}
use Rattle.std.proofs.lemmas.List.Sums.{sum_by-cons}
use Rattle.std.proofs.lemmas.Slice.Eq.{bytes_eq-Decides}
use Rattle.sheet_types.specs.Lines.{IsUuid}
use Rattle.sheet_types.specs.Ordered.{has, without, last_or, last_of, last_where}
use Rattle.sheet_types.specs.Step.{relation}
use Rattle.sheet_types.specs.World.{item_key, link_key, link_kind, kind_number, base_kind, other_kind}
use Rattle.sheet_types.specs.declared.command.Command.{Command}
use Rattle.sheet_types.specs.declared.command.Item.{Item}
use Rattle.sheet_types.specs.declared.command.Mapping.{Mapping}
use Rattle.sheet_types.specs.declared.command.Relation.{Relation}
use Rattle.sheet_types.specs.declared.command.Request.{Request}
use Rattle.sheet_types.specs.declared.receipt.MovedKind.{MovedKind}
use Rattle.sheet_types.proofs.Basics.{None≢Some, some_same}
use Rattle.sheet_types.proofs.Every.{All-weaker}
use Rattle.sheet_types.proofs.KindNumbers.{kind_number_tells, same_mapping}
use Rattle.sheet_types.proofs.LineReading.{uuid_length}
use Rattle.sheet_types.proofs.Same.{In, In-all, In-of_append, any_in, any_at}
use Rattle.sheet_types.proofs.Sums.{count-cons, count_none}
use Rattle.field_changes.specs.Asked.{unlinking, deleting, adding, linking}
use Rattle.field_changes.specs.Keys.{number_key}
use Rattle.field_changes.specs.Parts.{new_item, new_items, end_of, link_of, IsLinkOf}
use Rattle.field_changes.specs.declared.held.HeldItem.{HeldItem}
use Rattle.field_changes.specs.declared.held.HeldLink.{HeldLink}
use Rattle.field_changes.specs.declared.naming.Named.{Named}
use Rattle.field_run_laws.specs.Lists.{items_through, links_through}
use Rattle.field_run_laws.proofs.Lists.{of_filter, folded_same, items_folded, links_folded, items_both, links_both}
use Rattle.field_run_laws.proofs.Lists.{folded_without, all_put}
use Rattle.field_laws.specs.Making.{named_items, each_once}
use Rattle.field_changes.proofs.Contents.{same_front}

-- ---- the four parts in a closed form

module _ (of : Command → Request) (made : (c : Command) → (of c).command ≡ c) (p : List ℕ) where
  abbrev pub four : List Relation → List (List ℕ) → List Item → List Relation → List Command
  four a b c d = map (unlinking p) a ++ map (deleting p) b ++ map (adding p) c ++ map (linking p) d

  pub apart : (a : List Relation) (b : List (List ℕ)) (c : List Item) (d : List Relation)
      → map of (four a b c d) ≡ map of (map (unlinking p) a) ++ map of (map (deleting p) b)
      ++ map of (map (adding p) c) ++ map of (map (linking p) d)
  apart a b c d =
      let ua = map (unlinking p) a in
      let db = map (deleting p) b in
      let ac = map (adding p) c in
      let ld = map (linking p) d in
      map-append of (ua ++ db ++ ac) ld
      ∙ ap (λ l. l ++ map of ld) (map-append of (ua ++ db) ac ∙ ap (λ l. l ++ map of ac) (map-append of ua db))

  pub items_closed : (a : List Relation) (b : List (List ℕ)) (c : List Item) (d : List Relation) (items : List Item)
      → items_through (map of (four a b c d)) items ≡ all_put item_key c (without (λ i. i.identity) b items)
  items_closed a b c d items =
      let ua = map of (map (unlinking p) a) in
      let db = map of (map (deleting p) b) in
      let ac = map of (map (adding p) c) in
      let ld = map of (map (linking p) d) in
      ap (λ qs. items_through qs items) (apart a b c d)
      ∙ items_both (ua ++ db ++ ac) ld items
      ∙ items_folded of made (linking p) (λ x l. l) (λ x l. refl) d (items_through (ua ++ db ++ ac) items)
      ∙ folded_same (λ x l. l) (λ x l. refl) d (items_through (ua ++ db ++ ac) items)
      ∙ items_both (ua ++ db) ac items
      ∙ items_folded of made (adding p) (λ i l. all_put item_key (i ∷ []) l) (λ x l. refl) c
      (items_through (ua ++ db) items)
      ∙ ap (λ l. all_put item_key c l)
      (items_both ua db items
      ∙ items_folded of made (deleting p) (λ k l. without (λ i. i.identity) (k ∷ []) l) (λ x l. refl) b
      (items_through ua items)
      ∙ folded_without (λ i. i.identity) (λ k. k) b (items_through ua items)
      ∙ ap (λ ks. without (λ i. i.identity) ks (items_through ua items)) (map_itself b)
      ∙ ap (without (λ i. i.identity) b) (items_folded of made (unlinking p) (λ x l. l) (λ x l. refl) a items
      ∙ folded_same (λ x l. l) (λ x l. refl) a items))
    where
      map_itself : (ks : List (List ℕ)) → map (λ k. k) ks ≡ ks
      map_itself [] = refl
      map_itself (k ∷ ks) = ap (λ l. k ∷ l) (map_itself ks)

  pub links_closed : (a : List Relation) (b : List (List ℕ)) (c : List Item) (d : List Relation)
      (links : List Relation)
      → links_through (map of (four a b c d)) links ≡ all_put link_key d (without link_key (map link_key a) links)
  links_closed a b c d links =
      let ua = map of (map (unlinking p) a) in
      let db = map of (map (deleting p) b) in
      let ac = map of (map (adding p) c) in
      let ld = map of (map (linking p) d) in
      ap (λ qs. links_through qs links) (apart a b c d)
      ∙ links_both (ua ++ db ++ ac) ld links
      ∙ links_folded of made (linking p) (λ i l. all_put link_key (i ∷ []) l) (λ x l. refl) d
      (links_through (ua ++ db ++ ac) links)
      ∙ ap (λ l. all_put link_key d l)
      (links_both (ua ++ db) ac links
      ∙ links_folded of made (adding p) (λ x l. l) (λ x l. refl) c (links_through (ua ++ db) links)
      ∙ folded_same (λ x l. l) (λ x l. refl) c (links_through (ua ++ db) links)
      ∙ links_both ua db links
      ∙ links_folded of made (deleting p) (λ x l. l) (λ x l. refl) b (links_through ua links)
      ∙ folded_same (λ x l. l) (λ x l. refl) b (links_through ua links)
      ∙ links_folded of made (unlinking p) (λ i l. without link_key (link_key i ∷ []) l) (λ x l. refl) a links
      ∙ folded_without link_key link_key a links)

-- ---- items of the file, by pairs

-- what stands beside a name
pub zip_at : {A B : Type 0} (R : A → B → Type 0) (as' : List A) (bs : List B) (b : B) → AllZip R as' bs
    → In b bs
    → (a : A) × R a b
zip_at R [] [] b all i = absurd i
zip_at R [] (y ∷ ys) b all i = absurd all
zip_at R (x ∷ xs) [] b all i = absurd all
zip_at R (x ∷ xs) (y ∷ ys) b all i = elim i [
  | inl e ↦ (x, subst (R x) e all.0)
  | inr later
      ↦ zip_at R xs ys b all.1 later
]

pub under : HeldItem → Named → Item
under h n = record { identity = n.identity; content = h.content }

-- an item of the file stands under each name
pub paired : (R : HeldItem → Named → Type 0) (hs : List HeldItem) (ns : List Named) (n : Named) → AllZip R hs ns
    → In n ns
    → (h : HeldItem) × In (record { identity = n.identity; content = h.content }) (named_items ns hs)
paired R [] [] n all i = absurd i
paired R [] (m ∷ ms) n all i = absurd all
paired R (h ∷ hs) [] n all i = absurd all
paired R (h ∷ hs) (m ∷ ms) n all i = elim i [
  | inl e ↦ (h, inl (ap (λ x. record { identity = x.identity; content = h.content }) e))
  | inr later ↦ let it = paired R hs ms n all.1 later in (it.0, inr it.1)
]

-- one that is new is one of the file
pub new_named : (ns : List Named) (hs : List HeldItem) (i : Item) → In i (new_items ns hs)
    → In i (named_items ns hs)
new_named [] hs i there = absurd there
new_named (n ∷ ns) [] i there = absurd there
new_named (n ∷ ns) (h ∷ hs) i there = elim (In-of_append i (new_item n h) (new_items ns hs) there) [
  | inl here ↦ elim n.is_new as (λ v. In i (cond v (record { identity = n.identity; content = h.content } ∷ []) [])
      → In i (named_items (n ∷ ns) (h ∷ hs))) [
        | true ↦ λ j. elim j [ inl e ↦ inl e | inr none ↦ absurd none ]
        | false ↦ λ none. absurd none
      ] here
  | inr later ↦ inr (new_named ns hs i later)
]

-- what holds of all that is new, and under each old name, holds of all
pub each_named : (P : Item → Type 0) (R : HeldItem → Named → Type 0)
    → ((h : HeldItem) (n : Named) → n.is_new ≡ false → R h n
    → P (record { identity = n.identity; content = h.content }))
    → (hs : List HeldItem) (ns : List Named) → AllZip R hs ns → AllByRecursion P (new_items ns hs)
    → AllByRecursion P (named_items ns hs)
each_named P R old [] [] all new = tt
each_named P R old [] (n ∷ ns) all new = absurd all
each_named P R old (h ∷ hs) [] all new = absurd all
each_named P R old (h ∷ hs) (n ∷ ns) all new =
    elim n.is_new as (λ v. n.is_new ≡ v → AllByRecursion P (cond v
    (record { identity = n.identity; content = h.content } ∷ []) [] ++ new_items ns hs)
    → AllByRecursion P (named_items (n ∷ ns) (h ∷ hs))) [
      | true ↦ λ _ parts. (parts.0, each_named P R old hs ns all.1 parts.1)
      | false ↦ λ e rest. (old h n e all.0, each_named P R old hs ns all.1 rest)
    ] refl new

-- those of one identity are new, or stand under an old name
pub named_count : (R : HeldItem → Named → Type 0) (k : List ℕ) (hs : List HeldItem) (ns : List Named)
    → AllZip R hs ns
    → count_by (λ i. bytes_eq i.identity k) (named_items ns hs)
    ≡ count_by (λ i. bytes_eq i.identity k) (new_items ns hs) + count_by (λ n. bytes_eq n.identity k)
    (filter (λ n. not n.is_new) ns)
named_count R k [] [] all = omega arith
named_count R k [] (n ∷ ns) all = absurd all
named_count R k (h ∷ hs) [] all = absurd all
named_count R k (h ∷ hs) (n ∷ ns) all =
    let one : Item = record { identity = n.identity; content = h.content } in
    let f : Item → ℕ = λ i. cond (bytes_eq i.identity k) 1 0 in
    elim n.is_new as (λ v. count_by (λ i. bytes_eq i.identity k) (one ∷ named_items ns hs)
    ≡ count_by (λ i. bytes_eq i.identity k) (cond v (one ∷ []) [] ++ new_items ns hs) + count_by
    (λ m. bytes_eq m.identity k) (cond (not v) (n ∷ filter (λ m. not m.is_new) ns)
    (filter (λ m. not m.is_new) ns))) [
      | true ↦ omega (
        arith,
        sum_by-cons f one (named_items ns hs),
        sum_by-cons f one (new_items ns hs),
        named_count R
            k hs ns all.1,
      )
      | false ↦ omega (
        arith,
        sum_by-cons f one (named_items ns hs),
        sum_by-cons
            (λ (m : Named). cond (bytes_eq m.identity k) 1 0) n (filter (λ m. not m.is_new) ns),
        named_count R k hs ns
            all.1,
      )
    ]

-- ---- links

pub each_of_once : (x : Relation) (ls : List Relation) → In x (each_once ls) → In x ls
each_of_once x [] i = absurd i
each_of_once x (l ∷ ls) i =
    elim (has link_key (link_key l) ls) as (λ v. In x (cond v (each_once ls) (l ∷ each_once ls))
    → In x (l ∷ ls)) [
      | true ↦ λ j. inr (each_of_once x ls j)
      | false ↦ λ j. elim j [ inl e ↦ inl e | inr later ↦ inr (each_of_once x ls later) ]
    ] i

pub once_for_each : (x : Relation) (ls : List Relation) → In x ls → (y : Relation) × In y (each_once ls)
    × (link_key y ≡ link_key x)
once_for_each x [] i = absurd i
once_for_each x (l ∷ ls) i =
    elim (has link_key (link_key l) ls) as (λ v. has link_key (link_key l) ls ≡ v → (y : Relation)
    × In y (cond v (each_once ls) (l ∷ each_once ls)) × (link_key y ≡ link_key x)) [
      | true ↦ λ some. elim i [
        | inl e ↦
            let it = any_at (λ z. bytes_eq (link_key z) (link_key l)) ls some in
            let y = once_for_each it.0 ls it.1 in
            (y.0, y.1, y.2 ∙ (bytes_eq-Decides (link_key it.0) (link_key l)).0 it.2 ∙ ap link_key e)
        | inr later ↦ once_for_each x ls later
      ]
      | false ↦ λ _. elim i [
        | inl e ↦ (l, inl refl, ap link_key e)
        | inr later ↦ let y = once_for_each x ls later in (y.0, inr y.1, y.2)
      ]
    ] refl

pub once_count : (k : List ℕ) (ls : List Relation) → count_by (λ l. bytes_eq (link_key l) k) (each_once ls) ≤ 1
once_count k [] = omega arith
once_count k (l ∷ ls) =
    elim (has link_key (link_key l) ls) as (λ v. has link_key (link_key l) ls ≡ v
    → count_by (λ x. bytes_eq (link_key x) k) (cond v (each_once ls) (l ∷ each_once ls)) ≤ 1) [
      | true ↦ λ _. once_count k ls
      | false ↦ λ none. one (bytes_eq (link_key l) k) refl none (once_count k ls)
    ] refl
  where
    one : (v : Bool) → bytes_eq (link_key l) k ≡ v → has link_key (link_key l) ls ≡ false
        → count_by (λ x. bytes_eq (link_key x) k) (each_once ls) ≤ 1
        → count_by (λ x. bytes_eq (link_key x) k) (l ∷ each_once ls) ≤ 1
    one true e none rest =
        let lacks : AllByRecursion (λ x. bytes_eq (link_key x) k ≡ false) (each_once ls) =
        All-weaker (λ x. In x (each_once ls)) (λ x. bytes_eq (link_key x) k ≡ false) (λ x i. other x i)
        (each_once ls)
        (In-all (each_once ls)) in
        omega (
          arith,
          count-cons (λ x. bytes_eq (link_key x) k) l (each_once ls) true e,
          count_none
              (λ x. bytes_eq (link_key x) k) (each_once ls) lacks,
        )
      where
        other : (x : Relation) → In x (each_once ls) → bytes_eq (link_key x) k ≡ false
        other x i =
            elim (bytes_eq (link_key x) k) as (λ v. bytes_eq (link_key x) k ≡ v → v ≡ false) [
              | true ↦ λ same. absurd (true≢false (sym (any_in (λ z. bytes_eq (link_key z) (link_key l)) x ls
                  (each_of_once x ls i)
                  ((bytes_eq-Decides (link_key x) (link_key l)).1
                  ((bytes_eq-Decides (link_key x) k).0 same ∙ sym ((bytes_eq-Decides (link_key l) k).0 e))))
                  ∙ none))
              | false ↦ λ _. refl
            ] refl
    one false e none rest = omega (arith, count-cons (λ x. bytes_eq (link_key x) k) l (each_once ls) false e, rest)

-- both ends are UUIDs
abbrev pub JoinsUuids : Relation → Type 0
JoinsUuids l = IsUuid l.base × IsUuid l.other

pub uuid_long : (id : List ℕ) → IsUuid id → length id ≡ 16
uuid_long id h = uuid_length id h

-- then the key tells the link
pub same_link : (x y : Relation) → JoinsUuids x → JoinsUuids y → link_key x ≡ link_key y → x ≡ y
same_link x y a b e =
    let kinds : kind_number (link_kind x.mapping) ≡ kind_number (link_kind y.mapping) = cc in
    let rest : x.base ++ x.other ≡ y.base ++ y.other = cc in
    let mapping_is : x.mapping ≡ y.mapping = same_mapping x.mapping y.mapping
    (eq-eqb (kind_number (link_kind x.mapping)) (kind_number (link_kind y.mapping)) kinds) in
    let ends = same_front x.base y.base x.other y.other (uuid_long x.base a.0 ∙ sym (uuid_long y.base b.0)) rest in
    let base_is : x.base ≡ y.base = ends.0 in
    let other_is : x.other ≡ y.other = ends.1 in
    same_parts x.mapping y.mapping x.base y.base x.other y.other mapping_is base_is other_is
  where
    same_parts : (m n : Mapping) (a b c d : List ℕ) → m ≡ n → a ≡ b → c ≡ d
        → relation m a c ≡ relation n b d
    same_parts m n a b c d e f g = ap (λ v. relation v a c) e ∙ ap (λ v. relation n v c) f ∙ ap (relation n b) g

in_last : {X : Type 0} (x : X) (xs : List X) → In (last_or x xs) (x ∷ xs)
in_last x [] = inl refl
in_last x (y ∷ ys) = inr (in_last y ys)

last_in : {X : Type 0} (xs : List X) (x : X) → last_of xs ≡ Some x → In x xs
last_in [] x e = absurd (None≢Some e)
last_in (y ∷ ys) x e = subst (λ z. In z (y ∷ ys)) (some_same e) (in_last y ys)

-- an end of a link is a name of an item of its kind
pub record EndNamed (names : List Named) (kind : MovedKind) (id : List ℕ) : Type 0 where
  pub name : Named
  pub there : In name names
  pub identity_is : name.identity ≡ id
  pub kind_is : name.kind ≡ kind

pub end_named : (names : List Named) (kind : MovedKind) (number : ℤ) (id : List ℕ)
    → end_of names kind number ≡ Some id → EndNamed names kind id
end_named names kind number id e = at (last_where (λ n. bytes_eq (number_key n.kind n.number)
    (number_key kind number)) names) refl e
  where
    at : (o : Option Named) → last_where (λ n. bytes_eq (number_key n.kind n.number) (number_key kind number)) names
        ≡ o → option_map (λ n. n.identity) o ≡ Some id → EndNamed names kind id
    at None found none = absurd (None≢Some none)
    at (Some n) found is =
        let it = of_filter (λ m. bytes_eq (number_key m.kind m.number) (number_key kind number)) n names
        (last_in (filter (λ m. bytes_eq (number_key m.kind m.number) (number_key kind number)) names) n
        found) in
        let keys : number_key n.kind n.number ≡ number_key kind number =
        (bytes_eq-Decides (number_key n.kind n.number) (number_key kind number)).0 it.1 in
        let kinds : kind_number n.kind ≡ kind_number kind = cc in
        record { name = n; there = it.0; identity_is = some_same is; kind_is = kind_number_tells n.kind kind kinds }

pub record LinkNamed (names : List Named) (l : Relation) : Type 0 where
  pub base_named : EndNamed names (base_kind l.mapping) l.base
  pub other_named : EndNamed names (other_kind l.mapping) l.other

pub link_named : (names : List Named) (h : HeldLink) (l : Relation) → link_of names h ≡ Some l → LinkNamed names l
link_named names h l e = at (end_of names (base_kind h.mapping) h.base) (end_of names (other_kind h.mapping) h.other)
    refl refl e
  where
    at : (o q : Option (List ℕ)) → end_of names (base_kind h.mapping) h.base ≡ o
        → end_of names (other_kind h.mapping) h.other ≡ q
        → option_and_then (λ base. option_map (λ other. relation h.mapping base other) q) o ≡ Some l
        → LinkNamed names l
    at None q a b is = absurd (None≢Some is)
    at (Some base) None a b is = absurd (None≢Some is)
    at (Some base) (Some other) a b is = subst (LinkNamed names) (some_same is) (record {
      base_named = end_named names (base_kind h.mapping) h.base base a;
      other_named = end_named names (other_kind h.mapping) h.other other b;
    })

pub links_named : (names : List Named) (held : List HeldLink) (ls : List Relation) → AllZip (IsLinkOf names) held ls
    → AllByRecursion (LinkNamed names) ls
links_named names [] [] all = tt
links_named names [] (l ∷ ls) all = absurd all
links_named names (h ∷ hs) [] all = absurd all
links_named names (h ∷ hs) (l ∷ ls) all = (link_named names h l all.0, links_named names hs ls all.1)
