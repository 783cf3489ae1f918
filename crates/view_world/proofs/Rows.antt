-- The rows of the table are those of the world's packages.
use Rattle.std.proofs.Common.{◌≡◌, ◌∙◌, ℕ, zero, suc, ◌+◌, ◌<◌, List, [], ◌∷◌, ◌++◌}
use Rattle.std.proofs.Common.{map, refl, sym, ap, subst}
use Rattle.std.proofs.Common.{length, take, get_or, arith}
use Rattle.std.specs.Prelude.{true, Option, Some, None, slice_get}
use Rattle.std.specs.List.{AllByRecursion}
use Rattle.std.specs.Bool.{then_some}
use Rattle.sheet_types.proofs.Basics.{None≢Some, some_once, some_same}
use Rattle.sheet_types.proofs.Every.{All-each}
use Rattle.sheet_types.specs.Answers.{PackageSight as ModelSight, package_sights, sums_held, sums_of}
use Rattle.sheet_types.specs.Custody.{ticket}
use Rattle.sheet_types.specs.Ordered.{IsArranged}
use Rattle.sheet_types.specs.World.{World, Package, holdings, is_live, package_key}
use Rattle.sheet_types.specs.declared.receipt.Sums.{Sums}
use Rattle.sheet_laws.proofs.Keeping.{all_live_at}
use Rattle.sheet_laws.proofs.Packages.{at_all}
use Rattle.world.specs.Reading.{sight_of}
use Rattle.world.specs.declared.reading.PackageSight.{PackageSight}
use Rattle.view_history.specs.Told.{ledger_of, moment_of}
use Rattle.view_text.specs.declared.packages.PackageRow.{PackageRow}
use Rattle.view_world.specs.Kept.{AreAsked, AreKept}
use Rattle.view_world.specs.Told.{last_change, package_row, package_rows}

-- ---- lists

pub map_map : {X Y Z : Type 0} (f : X → Y) (h : Y → Z) (xs : List X) → map h (map f xs) ≡ map (λ x. h (f x)) xs
map_map f h [] = refl
map_map f h (x ∷ xs) = ap (λ ys. h (f x) ∷ ys) (map_map f h xs)

unfoldable pub front : {X : Type 0} → X → List X → X
front d [] = d
front d (z ∷ zs) = z

unfoldable pub behind : {X : Type 0} → List X → List X
behind [] = []
behind (z ∷ zs) = zs

-- where two lists are told alike, what stands at one place of both is told alike
pub at_both : {A P X : Type 0} (h : A → X) (f : P → X) (xs : List A) (ps : List P) (i : ℕ) (x : A)
    → map h xs ≡ map f ps → slice_get xs i ≡ Some x → (p : P) × (slice_get ps i ≡ Some p) × (h x ≡ f p)
unfolding front behind
at_both h f [] ps i x e is = absurd (None≢Some is)
at_both h f (a ∷ rest) [] i x e is = absurd (let long : length (h a ∷ map h rest) ≡ 0 =
    ap length e in omega arith)
at_both h f (a ∷ rest) (p ∷ ps) zero x e is = (p, refl, ap h (some_same (sym is)) ∙ ap (front (h a)) e)
at_both h f (a ∷ rest) (p ∷ ps) (suc i) x e is = at_both h f rest ps i x (ap behind e) is

map_same : {X : Type 0} (xs : List X) → map (λ x. x) xs ≡ xs
map_same [] = refl
map_same (x ∷ xs) = ap (λ l. x ∷ l) (map_same xs)

-- what stands at a place of a map is of what stands there
pub at_place : {P X : Type 0} (f : P → X) (xs : List X) (ps : List P) (i : ℕ) (x : X) → xs ≡ map f ps
    → slice_get xs i ≡ Some x → (p : P) × (slice_get ps i ≡ Some p) × (x ≡ f p)
at_place f xs ps i x e is = at_both (λ y. y) f xs ps i x (map_same xs ∙ e) is

pub take_next : {P : Type 0} (ps : List P) (i : ℕ) (p : P) → slice_get ps i ≡ Some p
    → take (i + 1) ps ≡ take i ps ++ p ∷ []
take_next ps i p e = ap (λ k. take k ps) (let n : i + 1 ≡ suc i = omega arith in n) ∙ next ps i e
  where
    next : (qs : List _) (k : ℕ) → slice_get qs k ≡ Some p → take (suc k) qs ≡ take k qs ++ p ∷ []
    next [] k e = absurd (None≢Some e)
    next (q ∷ qs) zero e = ap (λ x. x ∷ []) (some_same e)
    next (q ∷ qs) (suc k) e = ap (λ l. q ∷ l) (next qs k e)

pub map_snoc : {X Y : Type 0} (f : X → Y) (xs : List X) (x : X) → map f (xs ++ x ∷ []) ≡ map f xs ++ f x ∷ []
map_snoc f [] x = refl
map_snoc f (z ∷ zs) x = ap (λ l. f z ∷ l) (map_snoc f zs x)

-- ---- sums

each_itself : (w : World) → IsArranged package_key w.packages
    → AllByRecursion (λ x. sums_of w x.uuid ≡ Some (sums_held x)) w.packages
each_itself w order = all_live_at w (λ x. sums_of w x.uuid ≡ Some (sums_held x)) order (λ p live.
    let own : (holdings w p).uuid ≡ p =
    (at_all w (λ _. Unit {0}) p (All-each (λ _. Unit {0}) (λ _. tt) w.packages) live).1 in
    ap (sums_of w) own ∙ ap (λ b. then_some b (sums_held (holdings w p))) live)

map_each : {X Y : Type 0} (f h : X → Y) (xs : List X) → AllByRecursion (λ x. f x ≡ h x) xs
    → map f xs ≡ map h xs
map_each f h [] each = refl
map_each f h (x ∷ xs) each = let rest : map f xs ≡ map h xs = map_each f h xs each.1 in λ n. each.0 n ∷ rest n

all_some : {X : Type 0} (xs ys : List X) → map (λ x. Some x) xs ≡ map (λ x. Some x) ys → xs ≡ ys
unfolding front behind
all_some [] [] e = refl
all_some [] (y ∷ ys) e = absurd (let long : 0 ≡ length (Some y ∷ map (λ z. Some z) ys) =
    ap length e in omega arith)
all_some (x ∷ xs) [] e = absurd (let long : length (Some x ∷ map (λ z. Some z) xs) ≡ 0 =
    ap length e in omega arith)
all_some {X} (x ∷ xs) (y ∷ ys) e =
    let here : x ≡ y = some_same (ap (front (Some x)) e) in
    let rest : xs ≡ ys = all_some xs ys (ap behind e) in
    λ n. here n ∷ rest n

-- the sums of the packages that are seen are those of the world's
pub sums_seen : (w : World) → IsArranged package_key w.packages → (sights : List PackageSight) (sums : List Sums)
    → map sight_of sights ≡ package_sights w → map (λ x. Some x) sums ≡ map (λ s. sums_of w s.uuid) sights
    → sums ≡ map sums_held w.packages
sums_seen w order sights sums seen are =
    let of_sights : map (λ (s : PackageSight). sums_of w s.uuid) sights ≡ map (λ (p : Package). sums_of w p.uuid)
    w.packages =
    sym (map_map sight_of (λ (m : ModelSight). sums_of w m.uuid) sights)
    ∙ ap (map (λ (m : ModelSight). sums_of w m.uuid)) seen
    ∙ map_map
    (λ (p : Package). record { uuid = p.uuid; parent = p.parent; depth = p.depth; ticket = ticket w p.uuid })
    (λ (m : ModelSight). sums_of w m.uuid) w.packages in
    all_some sums (map sums_held w.packages) (are ∙ of_sights
    ∙ map_each (λ p. sums_of w p.uuid) (λ p. Some (sums_held p)) w.packages (each_itself w order)
    ∙ sym (map_map sums_held (λ x. Some x) w.packages))

-- the numbers of the last receipts
pub tickets_seen : (w : World) (sights : List PackageSight) → map sight_of sights ≡ package_sights w
    → map (λ s. s.ticket) sights ≡ map (λ p. ticket w p.uuid) w.packages
tickets_seen w sights seen =
    sym (map_map sight_of (λ (m : ModelSight). m.ticket) sights) ∙ ap (map (λ (m : ModelSight). m.ticket)) seen
    ∙ map_map
    (λ (p : Package). record { uuid = p.uuid; parent = p.parent; depth = p.depth; ticket = ticket w p.uuid })
    (λ (m : ModelSight). m.ticket) w.packages

long_map : {X Y : Type 0} (f : X → Y) (xs : List X) → length (map f xs) ≡ length xs
long_map f [] = refl
long_map f (x ∷ xs) = ap suc (long_map f xs)

-- as many as the world has
pub long_seen : (w : World) (sights : List PackageSight) → map sight_of sights ≡ package_sights w
    → length sights ≡ length w.packages
long_seen w sights seen =
    sym (long_map sight_of sights) ∙ ap length seen
    ∙ long_map
    (λ (p : Package). record { uuid = p.uuid; parent = p.parent; depth = p.depth; ticket = ticket w p.uuid })
    w.packages

-- ---- one row more

pub row_next : (w : World) (sights : List PackageSight) (sums : List Sums) (loans : List ℕ)
    (moments : List (Option (List ℕ))) → AreKept w sights sums → AreAsked w loans moments → (i : ℕ)
    → (s : PackageSight) (x : Sums) (l : ℕ) (m : Option (List ℕ)) → slice_get sights i ≡ Some s
    → slice_get sums i ≡ Some x → slice_get loans i ≡ Some l → slice_get moments i ≡ Some m
    → (rows : List PackageRow) → rows ≡ map (package_row w) (take i w.packages)
    → rows ++ record { uuid = s.uuid; parent = s.parent; depth = s.depth; loan = l; sums = x; changed = m } ∷ []
    ≡ map (package_row w) (take (i + 1) w.packages)
row_next w sights sums loans moments kept asked i s x l m is is_x is_l is_m rows so =
    let seen =
    at_both sight_of
    (λ (p : Package). record { uuid = p.uuid; parent = p.parent; depth = p.depth; ticket = ticket w p.uuid })
    sights w.packages i s kept.seen is in
    let p : Package = seen.0 in
    let of_sums = at_place sums_held sums w.packages i x kept.held is_x in
    let of_loans = at_place (λ (q : Package). q.loan) loans w.packages i l asked.made_by is_l in
    let of_moments = at_place (λ (q : Package). last_change w q.uuid) moments w.packages i m asked.changed is_m in
    let sums_is : x ≡ sums_held p =
    of_sums.2 ∙ ap sums_held (some_once (slice_get w.packages i) of_sums.0 p of_sums.1 seen.1) in
    let loan_is : l ≡ p.loan =
    of_loans.2
    ∙ ap (λ (q : Package). q.loan) (some_once (slice_get w.packages i) of_loans.0 p of_loans.1 seen.1) in
    let moment_is : m ≡ last_change w p.uuid =
    of_moments.2
    ∙ ap (λ (q : Package). last_change w q.uuid)
    (some_once (slice_get w.packages i) of_moments.0 p of_moments.1 seen.1) in
    let uuid_is : s.uuid ≡ p.uuid = ap (λ (v : ModelSight). v.uuid) seen.2 in
    let parent_is : s.parent ≡ p.parent = ap (λ (v : ModelSight). v.parent) seen.2 in
    let depth_is : s.depth ≡ p.depth = ap (λ (v : ModelSight). v.depth) seen.2 in
    let row : PackageRow =
    record { uuid = s.uuid; parent = s.parent; depth = s.depth; loan = l; sums = x; changed = m } in
    let row_is : row ≡ package_row w p =
    λ n. record {
      uuid = uuid_is n;
      parent = parent_is n;
      depth = depth_is n;
      loan = loan_is n;
      sums = sums_is n;
      changed = moment_is n;
    } in
    ap (λ l. l ++ row ∷ []) so ∙ ap (λ r. map (package_row w) (take i w.packages) ++ r ∷ []) row_is
    ∙ sym (map_snoc (package_row w) (take i w.packages) p)
    ∙ ap (map (package_row w)) (sym (take_next w.packages i p seen.1))

-- what was asked by the numbers of the last receipts is asked of the world
pub asked_of : (w : World) (sights : List PackageSight) (sums : List Sums) (loans tickets : List ℕ)
    (moments : List (Option (List ℕ))) → AreKept w sights sums → tickets ≡ map (λ s. s.ticket) sights
    → loans ≡ map (λ p. p.loan) w.packages → moments ≡ map (moment_of (ledger_of w.packages)) tickets
    → AreAsked w loans moments
asked_of w sights sums loans tickets moments kept numbers of_loans of_moments = record {
  made_by = of_loans;
  changed = of_moments ∙ ap (map (moment_of (ledger_of w.packages))) (numbers ∙ tickets_seen w sights kept.seen)
      ∙ map_map (λ (p : Package). ticket w p.uuid) (moment_of (ledger_of w.packages)) w.packages;
}
