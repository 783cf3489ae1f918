-- A world by what is held under each UUID, before and after a change, a new package, and the end of one.
use Rattle.std.specs.Prelude.{◌≡◌, ℕ, ◌+◌, ◌≤◌, Bool, true, false, cond, not, List, [], ◌∷◌}
use Rattle.std.specs.Prelude.{◌++◌, map, find, refl, bytes_eq, Some, None, sum_by, count_by, unwrap_or, flat_map}
use Rattle.std.specs.Prelude.{◌<◌, ◌||◌, Option, option_map, is_none}
use Rattle.std.proofs.Common.{sym, ap, subst, ◌∙◌, arith, append_assoc}
use Rattle.std.proofs.lemmas.List.Sums.{sum_by-cons}
use Rattle.std.proofs.lemmas.Slice.Eq.{bytes_eq-Decides}
use Rattle.std.specs.List.{AllByRecursion, list_any}
use Rattle.sheet_types.specs.Ordered.{is_before, put, without, is_among, IsArranged, arranged, has}
use Rattle.sheet_types.specs.World.{World, Package, package_key, holdings, no_package, is_live, changed, receipts_of}
use Rattle.sheet_types.specs.World.{receipt_key}
use Rattle.sheet_types.specs.Step.{closed, enlarged}
use Rattle.sheet_types.specs.declared.receipt.Receipt.{Receipt}
use Rattle.sheet_types.specs.Refuse.{is_archive}
use Rattle.std.proofs.lemmas.Bool.{true≢false, false≢true, le-ltb, lt-ltb}
use Rattle.std.specs.Option.{option_map_or}
use Rattle.sheet_types.specs.Balance.{archive_of}
use Rattle.sheet_types.proofs.Basics.{None≢Some, or-false, bytes_eq_itself, bytes_eq_swap, before-differs}
use Rattle.sheet_types.proofs.Every.{All-weaker, All-both, All-left, All-right, All-flat_map}
use Rattle.sheet_types.proofs.Sums.{count-cons, none_counted}
use Rattle.sheet_types.proofs.Found.{found, not_found, All-found}
use Rattle.sheet_types.proofs.Order.{before_numbers, put_last, All-of_arranged, arranged_last, counts_arranged}
use Rattle.sheet_types.proofs.Order.{filter_arranged}
use Rattle.sheet_types.proofs.Without.{is_one, take_one}

-- what holds at one place and at every other holds at all
pub by_place : (p : List ℕ) (P : List ℕ → Type 0) → P p → ((q : List ℕ) → bytes_eq q p ≡ false
    → P q) → (q : List ℕ) → P q
by_place p P here elsewhere q =
    elim (bytes_eq q p) as (λ v. bytes_eq q p ≡ v → P q) [
      | true ↦ λ same. subst P (sym ((bytes_eq-Decides q p).0 same)) here
      | false ↦ λ other. elsewhere q other
    ] refl

-- the same of two places
pub by_two_places : (a b : List ℕ) (P : List ℕ → Type 0) → P a → P b
    → ((q : List ℕ) → bytes_eq q a ≡ false → bytes_eq q b ≡ false → P q) → (q : List ℕ) → P q
by_two_places a b P first second elsewhere = by_place a P first
    (by_place b (λ q. bytes_eq q a ≡ false → P q) (λ _. second) (λ q not_b not_a. elsewhere q not_a not_b))

-- the package of this UUID
abbrev pub at_uuid : List ℕ → Package → Bool
at_uuid p x = bytes_eq x.uuid p

-- what is found after a change
pub find_changed : (f : Package → Package) (p p' : List ℕ) (ps : List Package)
    → ((x : Package) → (f x).uuid ≡ x.uuid)
    → find (λ x. bytes_eq x.uuid p') (map (λ x. cond (bytes_eq x.uuid p) (f x) x) ps)
    ≡ option_map (λ x. cond (bytes_eq x.uuid p) (f x) x) (find (λ x. bytes_eq x.uuid p') ps)
find_changed f p p' [] uuids = refl
find_changed f p p' (x ∷ ps) uuids =
    let y : Package = cond (bytes_eq x.uuid p) (f x) x in
    let rest : List Package = map (λ z. cond (bytes_eq z.uuid p) (f z) z) ps in
    let u : y.uuid ≡ x.uuid = elim (bytes_eq x.uuid p) as (λ v. (cond v (f x) x).uuid ≡ x.uuid)
    [ true ↦ uuids x | false ↦ refl ] in
    subst (λ id. cond (bytes_eq id p') (Some y) (find (λ z. bytes_eq z.uuid p') rest)
    ≡ option_map (λ z. cond (bytes_eq z.uuid p) (f z) z)
    (cond (bytes_eq x.uuid p') (Some x) (find (λ z. bytes_eq z.uuid p') ps))) (sym u)
    (elim (bytes_eq x.uuid p') as (λ v. cond v (Some y) (find (λ z. bytes_eq z.uuid p') rest)
    ≡ option_map (λ z. cond (bytes_eq z.uuid p) (f z) z)
    (cond v (Some x) (find (λ z. bytes_eq z.uuid p') ps))) [
      | true ↦ refl
      | false ↦ find_changed f p p' ps uuids
    ])

-- what is found has the UUID
found_at : (f : Package → Package) (p p' : List ℕ) (ps : List Package) (b : Bool) → bytes_eq p' p ≡ b
    → unwrap_or (option_map (λ x. cond (bytes_eq x.uuid p) (f x) x) (find (λ x. bytes_eq x.uuid p') ps)) no_package
    ≡ unwrap_or (option_map (λ x. cond b (f x) x) (find (λ x. bytes_eq x.uuid p') ps)) no_package
found_at f p p' [] b e = refl
found_at f p p' (x ∷ ps) b e =
    elim (bytes_eq x.uuid p') as (λ v. bytes_eq x.uuid p' ≡ v
    → unwrap_or (option_map (λ z. cond (bytes_eq z.uuid p) (f z) z)
    (cond v (Some x) (find (λ z. bytes_eq z.uuid p') ps))) no_package
    ≡ unwrap_or (option_map (λ z. cond b (f z) z) (cond v (Some x) (find (λ z. bytes_eq z.uuid p') ps)))
    no_package) [
      | true ↦ λ same. ap (λ v. cond v (f x) x) (ap (λ id. bytes_eq id p) ((bytes_eq-Decides x.uuid p').0 same)
          ∙ e)
      | false ↦ λ _. found_at f p p' ps b e
    ] refl

-- another package is as it was
pub holdings_other : (f : Package → Package) (w : World) (p p' : List ℕ)
    → ((x : Package) → (f x).uuid ≡ x.uuid) → bytes_eq p' p ≡ false
    → holdings (changed f p w) p' ≡ holdings w p'
holdings_other f w p p' uuids other =
    ap (λ o. unwrap_or o no_package) (find_changed f p p' w.packages uuids)
    ∙ found_at f p p' w.packages false other ∙ as_it_was (find (λ x. bytes_eq x.uuid p') w.packages)
  where
    as_it_was : (o : Option Package) → unwrap_or (option_map (λ x. cond false (f x) x) o) no_package
        ≡ unwrap_or o no_package
    as_it_was None = refl
    as_it_was (Some x) = refl

-- the changed one is changed
pub holdings_same : (f : Package → Package) (w : World) (p : List ℕ) → ((x : Package) → (f x).uuid ≡ x.uuid)
    → is_live w p ≡ true → holdings (changed f p w) p ≡ f (holdings w p)
holdings_same f w p uuids live =
    ap (λ o. unwrap_or o no_package) (find_changed f p p w.packages uuids)
    ∙ found_at f p p w.packages true (bytes_eq_itself p) ∙ found w.packages live
  where
    found : (ps : List Package) → list_any (λ x. bytes_eq x.uuid p) ps ≡ true
        → unwrap_or (option_map (λ x. cond true (f x) x) (find (λ x. bytes_eq x.uuid p) ps)) no_package
        ≡ f (unwrap_or (find (λ x. bytes_eq x.uuid p) ps) no_package)
    found [] h = absurd (false≢true h)
    found (x ∷ ps) h =
        elim (bytes_eq x.uuid p) as (λ v. (v || list_any (λ z. bytes_eq z.uuid p) ps) ≡ true
        → unwrap_or (option_map (λ z. cond true (f z) z) (cond v (Some x) (find (λ z. bytes_eq z.uuid p) ps)))
        no_package ≡ f (unwrap_or (cond v (Some x) (find (λ z. bytes_eq z.uuid p) ps)) no_package)) [
          | true ↦ λ _. refl
          | false ↦ λ more. found ps more
        ] h

-- each package is what is found under its UUID
pub each_found : (ps : List Package) → IsArranged package_key ps
    → AllByRecursion (λ x. find (at_uuid x.uuid) ps ≡ Some x) ps
each_found [] h = tt
each_found (x ∷ ps) h = (
  ap (λ b. cond b (Some x) (find (at_uuid x.uuid) ps)) (bytes_eq_itself x.uuid),
  All-both (λ y. is_before x.uuid y.uuid ≡ true) (λ y. find (at_uuid y.uuid) ps ≡ Some y)
      (λ y. find (at_uuid y.uuid) (x ∷ ps) ≡ Some y)
      (λ y before is. ap (λ b. cond b (Some x) (find (at_uuid y.uuid) ps)) (before-differs x.uuid y.uuid before)
      ∙ is) ps h.0 (each_found ps h.1),
)

-- under a UUID that is not live stands nothing
pub holdings_none : (w : World) (p : List ℕ) → is_live w p ≡ false → holdings w p ≡ no_package
holdings_none w p dead = ap (λ o. unwrap_or o no_package) (not_found (at_uuid p) w.packages dead)

-- a fact of each package, at a live UUID
pub at_all : (w : World) (P : Package → Type 0) (p : List ℕ) → AllByRecursion P w.packages
    → is_live w p ≡ true → P (holdings w p) × ((holdings w p).uuid ≡ p)
at_all w P p h live =
    let f : (x : Package) × (find (at_uuid p) w.packages ≡ Some x) = found (at_uuid p) w.packages live in
    let all : P f.0 × (at_uuid p f.0 ≡ true) = All-found P (at_uuid p) f.0 w.packages f.1 h in
    let is : f.0 ≡ holdings w p = sym (ap (λ o. unwrap_or o no_package) f.1) in
    (subst P is all.0, subst (λ x. x.uuid ≡ p) is ((bytes_eq-Decides f.0.uuid p).0 all.1))

-- a fact of each receipt and of the UUID under which it stands
abbrev pub AllStand : (List ℕ → Receipt → Type 0) → World → Type 0
AllStand Q w = AllByRecursion (λ x. AllByRecursion (Q x.uuid) x.receipts) w.packages

-- at a UUID
pub stand_at : (Q : List ℕ → Receipt → Type 0) (w : World) (p : List ℕ) → AllStand Q w
    → AllByRecursion (Q p) (holdings w p).receipts
stand_at Q w p h =
    elim (is_live w p) as (λ v. is_live w p ≡ v → AllByRecursion (Q p) (holdings w p).receipts) [
      | true ↦ λ live.
          let r : AllByRecursion (Q (holdings w p).uuid) (holdings w p).receipts × ((holdings w p).uuid ≡ p) =
          at_all w (λ x. AllByRecursion (Q x.uuid) x.receipts) p h live in
          subst (λ u. AllByRecursion (Q u) (holdings w p).receipts) r.1 r.0
      | false ↦ λ dead. subst (λ x. AllByRecursion (Q p) x.receipts) (sym (holdings_none w p dead)) tt
    ] refl

-- from each UUID
pub stand_all : (Q : List ℕ → Receipt → Type 0) (w : World) → IsArranged package_key w.packages
    → ((p : List ℕ) → AllByRecursion (Q p) (holdings w p).receipts) → AllStand Q w
stand_all Q w distinct h =
    All-weaker (λ x. find (at_uuid x.uuid) w.packages ≡ Some x) (λ x. AllByRecursion (Q x.uuid) x.receipts)
    (λ x is. subst (λ y. AllByRecursion (Q x.uuid) y.receipts) (ap (λ o. unwrap_or o no_package) is) (h x.uuid))
    w.packages (each_found w.packages distinct)

-- what stands under a UUID after a change
pub holdings_changed : (f : Package → Package) (w : World) (p p' : List ℕ)
    → ((x : Package) → (f x).uuid ≡ x.uuid) → is_live w p ≡ true
    → holdings (changed f p w) p' ≡ cond (bytes_eq p' p) (f (holdings w p)) (holdings w p')
holdings_changed f w p p' uuids live =
    elim (bytes_eq p' p) as (λ v. bytes_eq p' p ≡ v → holdings (changed f p w) p'
    ≡ cond v (f (holdings w p)) (holdings w p')) [
      | true ↦ λ same. ap (holdings (changed f p w)) ((bytes_eq-Decides p' p).0 same)
          ∙ holdings_same f w p uuids live
      | false ↦ λ other. holdings_other f w p p' uuids other
    ] refl

-- what is found after a new package
find_put : (x : Package) (p : List ℕ) (ps : List Package) → find (at_uuid p) (put package_key x ps)
    ≡ cond (bytes_eq x.uuid p) (Some x) (find (at_uuid p) ps)
find_put x p [] = refl
find_put x p (y ∷ ps) =
    elim (is_before y.uuid x.uuid) as (λ v. is_before y.uuid x.uuid ≡ v
    → find (at_uuid p) (cond v (y ∷ put package_key x ps) (x ∷ y ∷ ps))
    ≡ cond (bytes_eq x.uuid p) (Some x) (cond (bytes_eq y.uuid p) (Some y) (find (at_uuid p) ps))) [
      | true ↦ λ before. elim (bytes_eq x.uuid p) as (λ v. bytes_eq x.uuid p ≡ v
          → cond (bytes_eq y.uuid p) (Some y) (find (at_uuid p) (put package_key x ps))
          ≡ cond v (Some x) (cond (bytes_eq y.uuid p) (Some y) (find (at_uuid p) ps))) [
            | true ↦ λ same.
                let other : bytes_eq y.uuid p ≡ false = ap (bytes_eq y.uuid)
                (sym ((bytes_eq-Decides x.uuid p).0 same))
                ∙ before-differs y.uuid x.uuid before in
                ap (λ b. cond b (Some y) (find (at_uuid p) (put package_key x ps))) other ∙ find_put x p ps
                ∙ ap (λ b. cond b (Some x) (find (at_uuid p) ps)) same
            | false ↦ λ other. ap (λ o. cond (bytes_eq y.uuid p) (Some y) o)
                (find_put x p ps ∙ ap (λ b. cond b (Some x) (find (at_uuid p) ps)) other)
          ] refl
      | false ↦ λ _. refl
    ] refl

-- what stands under a UUID after a new package
pub holdings_enlarged : (x : Package) (w : World) (p : List ℕ)
    → holdings (enlarged x w) p ≡ cond (bytes_eq x.uuid p) x (holdings w p)
holdings_enlarged x w p = ap (λ o. unwrap_or o no_package) (find_put x p w.packages)
    ∙ elim (bytes_eq x.uuid p) as (λ v. unwrap_or (cond v (Some x) (find (at_uuid p) w.packages)) no_package
    ≡ cond v x (holdings w p)) [ true ↦ refl | false ↦ refl ]

-- what is found after the end of one
find_closed : (c p : List ℕ) (ps : List Package) → find (at_uuid p) (without package_key (c ∷ []) ps)
    ≡ cond (bytes_eq p c) None (find (at_uuid p) ps)
find_closed c p [] = elim (bytes_eq p c) as (λ v. find (at_uuid p) [] ≡ cond v None (find (at_uuid p) []))
    [ true ↦ refl | false ↦ refl ]
find_closed c p (y ∷ ps) =
    elim (is_among (c ∷ []) y.uuid) as (λ v. is_among (c ∷ []) y.uuid ≡ v
    → find (at_uuid p) (cond (not v) (y ∷ without package_key (c ∷ []) ps)
    (without package_key (c ∷ []) ps)) ≡ cond (bytes_eq p c) None
    (cond (bytes_eq y.uuid p) (Some y) (find (at_uuid p) ps))) [
      | true ↦ λ gone.
          let e : c ≡ y.uuid = (bytes_eq-Decides c y.uuid).0 (sym (or-false (bytes_eq c y.uuid)) ∙ gone) in
          find_closed c p ps ∙ elim (bytes_eq p c) as (λ v. bytes_eq p c ≡ v
          → cond v None (find (at_uuid p) ps) ≡ cond v None
          (cond (bytes_eq y.uuid p) (Some y) (find (at_uuid p) ps))) [
            | true ↦ λ _. refl
            | false ↦ λ other. sym (ap (λ b. cond b (Some y) (find (at_uuid p) ps))
                (bytes_eq_swap y.uuid p ∙ ap (bytes_eq p) (sym e) ∙ other))
          ] refl
      | false ↦ λ stays.
          elim (bytes_eq y.uuid p) as (λ v. bytes_eq y.uuid p ≡ v
          → cond v (Some y) (find (at_uuid p) (without package_key (c ∷ []) ps))
          ≡ cond (bytes_eq p c) None (cond v (Some y) (find (at_uuid p) ps))) [
            | true ↦ λ here.
                let other : bytes_eq p c ≡ false = bytes_eq_swap p c
                ∙ ap (bytes_eq c) (sym ((bytes_eq-Decides y.uuid p).0 here))
                ∙ sym (or-false (bytes_eq c y.uuid)) ∙ stays in
                sym (ap (λ b. cond b None (Some y)) other)
            | false ↦ λ _. find_closed c p ps
          ] refl
    ] refl

-- what stands under a UUID after the end of one
pub holdings_closed : (c p : List ℕ) (w : World) → holdings (closed c w) p
    ≡ cond (bytes_eq p c) no_package (holdings w p)
holdings_closed c p w = ap (λ o. unwrap_or o no_package) (find_closed c p w.packages)
    ∙ elim (bytes_eq p c) as (λ v. unwrap_or (cond v None (find (at_uuid p) w.packages)) no_package
    ≡ cond v no_package (holdings w p)) [ true ↦ refl | false ↦ refl ]

-- the packages stay in order
map_before : (f : Package → Package) (p u : List ℕ) (ps : List Package)
    → ((x : Package) → (f x).uuid ≡ x.uuid) → AllByRecursion (λ y. is_before u y.uuid ≡ true) ps
    → AllByRecursion (λ y. is_before u y.uuid ≡ true) (map (λ x. cond (bytes_eq x.uuid p) (f x) x) ps)
map_before f p u [] uuids h = tt
map_before f p u (x ∷ ps) uuids h = (
  elim (bytes_eq x.uuid p) as (λ v. is_before u (cond v (f x) x).uuid ≡ true)
      [ true ↦ ap (is_before u) (uuids x) ∙ h.0 | false ↦ h.0 ],
  map_before f p u ps uuids h.1,
)

-- a change leaves the order
pub changed_arranged : (f : Package → Package) (p : List ℕ) (ps : List Package)
    → ((x : Package) → (f x).uuid ≡ x.uuid) → IsArranged package_key ps
    → IsArranged package_key (map (λ x. cond (bytes_eq x.uuid p) (f x) x) ps)
changed_arranged f p [] uuids h = tt
changed_arranged f p (x ∷ ps) uuids h = (
  elim (bytes_eq x.uuid p) as (λ v. AllByRecursion (λ y. is_before (cond v (f x) x).uuid y.uuid ≡ true)
      (map (λ z. cond (bytes_eq z.uuid p) (f z) z) ps)) [
        | true ↦ subst (λ u. AllByRecursion (λ y. is_before u y.uuid ≡ true)
            (map (λ z. cond (bytes_eq z.uuid p) (f z) z) ps)) (sym (uuids x)) (map_before f p x.uuid ps uuids h.0)
        | false ↦ map_before f p x.uuid ps uuids h.0
      ],
  changed_arranged f p ps uuids h.1,
)

-- a sum over the packages after a change of one
changed_none : (f : Package → Package) (h : Package → ℕ) (p : List ℕ) (ps : List Package)
    → AllByRecursion (λ x. at_uuid p x ≡ false) ps → sum_by h (map (λ x. cond (bytes_eq x.uuid p) (f x) x) ps)
    ≡ sum_by h ps
changed_none f h p [] none = refl
changed_none f h p (x ∷ ps) none =
    let here : h (cond (bytes_eq x.uuid p) (f x) x) ≡ h x = ap (λ b. h (cond b (f x) x)) none.0 in
    omega (
      arith,
      sum_by-cons h (cond (bytes_eq x.uuid p) (f x) x) (map (λ z. cond (bytes_eq z.uuid p) (f z) z) ps),
      sum_by-cons h x ps,
      here,
      changed_none f h p ps none.1,
    )

-- the sum changes by that of the one
pub changed_sum : (f : Package → Package) (h : Package → ℕ) (p : List ℕ) (x : Package) (ps : List Package)
    → count_by (at_uuid p) ps ≤ 1 → find (at_uuid p) ps ≡ Some x
    → sum_by h (map (λ z. cond (bytes_eq z.uuid p) (f z) z) ps) + h x ≡ sum_by h ps + h (f x)
changed_sum f h p x [] one e = absurd (None≢Some e)
changed_sum f h p x (y ∷ ps) one e =
    let rest : List Package = map (λ z. cond (bytes_eq z.uuid p) (f z) z) ps in
    elim (bytes_eq y.uuid p) as (λ v. bytes_eq y.uuid p ≡ v → cond v (Some y) (find (at_uuid p) ps) ≡ Some x
    → sum_by h (cond v (f y) y ∷ rest) + h x ≡ sum_by h (y ∷ ps) + h (f x)) [
      | true ↦ λ here is.
          let same : y ≡ x = ap (λ o. unwrap_or o y) is in
          let none : sum_by h rest ≡ sum_by h ps = changed_none f h p ps
          (none_counted (at_uuid p) ps (omega (arith, one, count-cons (at_uuid p) y ps true here))) in
          omega (arith, sum_by-cons h (f y) rest, sum_by-cons h y ps, none, ap h same, ap (λ z. h (f z)) same)
      | false ↦ λ other is. omega (
        arith,
        sum_by-cons h y rest,
        sum_by-cons h y ps,
        changed_sum f h p x ps
            (omega (arith, one, count-cons (at_uuid p) y ps false other)) is,
      )
    ] refl e

-- a fact of each package after a change of one
pub All-changed : (f : Package → Package) (p : List ℕ) (P Q : Package → Type 0)
    → ((x : Package) → bytes_eq x.uuid p ≡ true → P x → Q (f x)) → ((x : Package) → P x → Q x)
    → (ps : List Package) → AllByRecursion P ps
    → AllByRecursion Q (map (λ x. cond (bytes_eq x.uuid p) (f x) x) ps)
All-changed f p P Q here other [] h = tt
All-changed f p P Q here other (x ∷ ps) h = (
  elim (bytes_eq x.uuid p) as (λ v. bytes_eq x.uuid p ≡ v → Q (cond v (f x) x))
      [ true ↦ λ same. here x same h.0 | false ↦ λ _. other x h.0 ] refl,
  All-changed f p P Q here other ps h.1,
)

-- a fact of each receipt, over all packages in a row
pub stand_flat : (P : Receipt → Type 0) (ps : List Package) → AllByRecursion (λ x. AllByRecursion P x.receipts)
    ps → AllByRecursion P (flat_map (λ x. x.receipts) ps)
stand_flat P ps h = All-flat_map P (λ (x : Package). x.receipts) ps h

-- two packages weigh no more than all
pub two_places : (h : Package → ℕ) (w : World) (p p' : List ℕ) → IsArranged package_key w.packages
    → bytes_eq p' p ≡ false → is_live w p ≡ true → is_live w p' ≡ true
    → h (holdings w p) + h (holdings w p') ≤ sum_by h w.packages
two_places h w p p' distinct other live live' =
    let x : (x : Package) × (find (at_uuid p) w.packages ≡ Some x) = found (at_uuid p) w.packages live in
    let y : (y : Package) × (find (at_uuid p') w.packages ≡ Some y) = found (at_uuid p') w.packages live' in
    let rest : List Package = without package_key (p ∷ []) w.packages in
    let there : find (at_uuid p') rest ≡ Some y.0 = find_closed p p' w.packages
    ∙ ap (λ b. cond b None (find (at_uuid p') w.packages)) other ∙ y.1 in
    omega (
      arith,
      take_one package_key p h x.0 w.packages (counts_arranged package_key p w.packages distinct) x.1,
      take_one package_key p' h y.0 rest (counts_arranged package_key p' rest
          (filter_arranged package_key (λ z. not (is_among (p ∷ []) z.uuid)) w.packages distinct)) there,
      ap (λ o. h (unwrap_or o no_package)) x.1,
      ap (λ o. h (unwrap_or o no_package)) y.1,
    )

-- the archive stays where a package with a parent ends
pub archive_closed : (c : List ℕ) (ps : List Package) → AllByRecursion
    (λ x. bytes_eq x.uuid c ≡ true → is_archive x ≡ false) ps
    → find is_archive (without package_key (c ∷ []) ps) ≡ find is_archive ps
archive_closed c [] h = refl
archive_closed c (x ∷ ps) h =
    elim (is_among (c ∷ []) x.uuid) as (λ v. is_among (c ∷ []) x.uuid ≡ v
    → find is_archive (cond (not v) (x ∷ without package_key (c ∷ []) ps)
    (without package_key (c ∷ []) ps)) ≡ cond (is_archive x) (Some x) (find is_archive ps)) [
      | true ↦ λ gone. archive_closed c ps h.1 ∙ sym (ap (λ b. cond b (Some x) (find is_archive ps))
          (h.0 (sym (is_one package_key c x) ∙ gone)))
      | false ↦ λ _. ap (λ o. cond (is_archive x) (Some x) o) (archive_closed c ps h.1)
    ] refl

-- a new package without receipts brings none
pub flat_put : (x : Package) (ps : List Package) → x.receipts ≡ []
    → flat_map (λ y. y.receipts) (put package_key x ps) ≡ flat_map (λ y. y.receipts) ps
flat_put x [] none = rw none refl
flat_put x (y ∷ ps) none =
    elim (is_before y.uuid x.uuid) as (λ v. flat_map (λ z. z.receipts)
    (cond v (y ∷ put package_key x ps) (x ∷ y ∷ ps)) ≡ flat_map (λ z. z.receipts) (y ∷ ps)) [
      | true ↦ ap (λ zs. y.receipts ++ zs) (flat_put x ps none)
      | false ↦ ap (λ zs. zs ++ flat_map (λ z. z.receipts) (y ∷ ps)) none
    ]

-- the receipts in a row, before and after one came in
record Gained (f : Package → Package) (p : List ℕ) (r : Receipt) (ps : List Package) : Type 0 where
  before : List Receipt
  behind : List Receipt
  was : flat_map (λ x. x.receipts) ps ≡ before ++ behind
  is : flat_map (λ x. x.receipts) (map (λ x. cond (bytes_eq x.uuid p) (f x) x) ps) ≡ before ++ r ∷ behind

-- the packages behind one of this UUID have others
none_behind : (f : Package → Package) (p : List ℕ) (x : Package) (ps : List Package) → p ≡ x.uuid
    → AllByRecursion (λ y. is_before x.uuid y.uuid ≡ true) ps
    → map (λ y. cond (bytes_eq y.uuid p) (f y) y) ps ≡ ps
none_behind f p x [] e h = refl
none_behind f p x (y ∷ ps) e h =
    let other : bytes_eq y.uuid p ≡ false = differs in
    rw other (ap (λ zs. y ∷ zs) (none_behind f p x ps e h.1))
  where
    differs : bytes_eq y.uuid p ≡ false
    differs = elim (bytes_eq y.uuid p) as (λ v. bytes_eq y.uuid p ≡ v → v ≡ false) [
      | true ↦ λ same. absurd (true≢false (sym (bytes_eq_itself p)
          ∙ subst (λ z. bytes_eq p z ≡ false) ((bytes_eq-Decides y.uuid p).0 same)
          (subst (λ z. bytes_eq z y.uuid ≡ false) (sym e) (before-differs x.uuid y.uuid h.0))))
      | false ↦ λ _. refl
    ] refl

-- one package gains it
gained : (f : Package → Package) (p : List ℕ) (r : Receipt) (ps : List Package)
    → ((x : Package) → AllByRecursion (λ s. s.seq < r.seq) x.receipts
    → (f x).receipts ≡ x.receipts ++ r ∷ [])
    → AllByRecursion (λ s. s.seq < r.seq) (flat_map (λ x. x.receipts) ps) → IsArranged package_key ps
    → has package_key p ps ≡ true → Gained f p r ps
gained f p r [] gains below distinct live = absurd (false≢true live)
gained f p r (x ∷ ps) gains below distinct live =
    elim (bytes_eq x.uuid p) as (λ v. bytes_eq x.uuid p ≡ v → (v || has package_key p ps) ≡ true
    → Gained f p r (x ∷ ps)) [
      | true ↦ λ here _.
          let e : (cond (bytes_eq x.uuid p) (f x) x).receipts ≡ x.receipts ++ r ∷ [] =
          rw here (gains x (All-left (λ s. s.seq < r.seq) x.receipts (flat_map (λ y. y.receipts) ps)
          below)) in
          let same : map (λ y. cond (bytes_eq y.uuid p) (f y) y) ps ≡ ps =
          none_behind f p x ps (sym ((bytes_eq-Decides x.uuid p).0 here)) distinct.0 in record {
            before = x.receipts;
            behind = flat_map (λ y. y.receipts) ps;
            was = refl;
            is = rw (e, same) (append_assoc x.receipts (r ∷ []) (flat_map (λ y. y.receipts) ps));
          }
      | false ↦ λ other live.
          let rest : Gained f p r ps = gained f p r ps gains
          (All-right (λ s. s.seq < r.seq) x.receipts (flat_map (λ y. y.receipts) ps) below) distinct.1
          live in
          let e : (cond (bytes_eq x.uuid p) (f x) x).receipts ≡ x.receipts = rw other refl in record {
            before = x.receipts ++ rest.before;
            behind = rest.behind;
            was = ap (λ zs. x.receipts ++ zs) rest.was ∙ sym (append_assoc x.receipts rest.before rest.behind);
            is = rw (e, rest.is) (sym (append_assoc x.receipts rest.before (r ∷ rest.behind)));
          }
    ] refl live

-- the receipts in order, after all of lesser number
pub receipts_gained : (f : Package → Package) (w : World) (p : List ℕ) (r : Receipt)
    → ((x : Package) → AllByRecursion (λ s. s.seq < r.seq) x.receipts
    → (f x).receipts ≡ x.receipts ++ r ∷ [])
    → AllByRecursion (λ s. s.seq < r.seq) (receipts_of w) → IsArranged package_key w.packages
    → has package_key p w.packages ≡ true
    → receipts_of (changed f p w) ≡ receipts_of w ++ r ∷ []
receipts_gained f w p r gains below distinct live =
    let unordered : AllByRecursion (λ s. s.seq < r.seq) (flat_map (λ x. x.receipts) w.packages) =
    All-of_arranged receipt_key (λ s. s.seq < r.seq) (flat_map (λ x. x.receipts) w.packages) below in
    let g : Gained f p r w.packages = gained f p r w.packages gains unordered distinct live in
    let sides : AllByRecursion (λ s. s.seq < r.seq) (g.before ++ g.behind) =
    subst (AllByRecursion (λ s. s.seq < r.seq)) g.was unordered in
    ap (arranged receipt_key) g.is ∙ arranged_last receipt_key r g.before g.behind
    (All-weaker (λ s. s.seq < r.seq) (λ s. (is_before (receipt_key s) (receipt_key r) ≡ true)
    × (is_before (receipt_key r) (receipt_key s) ≡ false))
    (λ s lt. (
      before_numbers s.seq r.seq ∙ lt-ltb s.seq r.seq lt,
      before_numbers r.seq s.seq
          ∙ le-ltb r.seq s.seq (omega arith),
    )) (g.before ++ g.behind) sides)
    ∙ ap (λ zs. arranged receipt_key zs ++ r ∷ []) (sym g.was)

-- a receipt that is put among lesser ones is the last
pub with_receipt_gains : (r : Receipt) (x : Package) → AllByRecursion (λ s. s.seq < r.seq) x.receipts
    → put receipt_key r x.receipts ≡ x.receipts ++ r ∷ []
with_receipt_gains r x below = put_last receipt_key r x.receipts
    (All-weaker (λ s. s.seq < r.seq) (λ s. is_before (receipt_key s) (receipt_key r) ≡ true)
    (λ s lt. before_numbers s.seq r.seq ∙ lt-ltb s.seq r.seq lt) x.receipts below)

-- a change that leaves UUID and parent leaves the archive
archive_in_stays : (f : Package → Package) (p : List ℕ) (ps : List Package)
    → ((x : Package) → (f x).uuid ≡ x.uuid) → ((x : Package) → (f x).parent ≡ x.parent)
    → option_map_or (λ x. x.uuid) (find is_archive (map (λ x. cond (bytes_eq x.uuid p) (f x) x) ps)) []
    ≡ option_map_or (λ x. x.uuid) (find is_archive ps) []
archive_in_stays f p [] uuids parents = refl
archive_in_stays f p (x ∷ ps) uuids parents =
    let y : Package = cond (bytes_eq x.uuid p) (f x) x in
    let u : y.uuid ≡ x.uuid = elim (bytes_eq x.uuid p) as (λ v. (cond v (f x) x).uuid ≡ x.uuid)
    [ true ↦ uuids x | false ↦ refl ] in
    let a : is_archive y ≡ is_archive x = elim (bytes_eq x.uuid p) as
    (λ v. is_archive (cond v (f x) x) ≡ is_archive x)
    [ true ↦ ap is_none (parents x) | false ↦ refl ] in
    let rest : List Package = map (λ z. cond (bytes_eq z.uuid p) (f z) z) ps in
    subst (λ v. option_map_or (λ z. z.uuid) (cond v (Some y) (find is_archive rest)) []
    ≡ option_map_or (λ z. z.uuid) (cond (is_archive x) (Some x) (find is_archive ps)) []) (sym a)
    (elim (is_archive x) as (λ v. option_map_or (λ z. z.uuid) (cond v (Some y) (find is_archive rest)) []
    ≡ option_map_or (λ z. z.uuid) (cond v (Some x) (find is_archive ps)) []) [
      | true ↦ u
      | false ↦ archive_in_stays f p ps uuids parents
    ])

-- in a world
pub archive_stays : (f : Package → Package) (p : List ℕ) (w : World) → ((x : Package) → (f x).uuid ≡ x.uuid)
    → ((x : Package) → (f x).parent ≡ x.parent) → archive_of (changed f p w) ≡ archive_of w
archive_stays f p w uuids parents = archive_in_stays f p w.packages uuids parents
