-- Stores that were seen are judged: the frame is that of their world, what their receipts name is known, and their
-- views are right.
use Rattle.std.specs.Prelude.{◌≡◌, ◌⊎◌, ℕ, zero, suc, ◌==◌, Bool, true, false, cond, List, []}
use Rattle.std.specs.Prelude.{◌∷◌, ◌++◌, map}
use Rattle.std.specs.Prelude.{flat_map, find, refl, Option, Some, None, option_map, slice_get, Result, Ok, Err, IfOk}
use Rattle.std.specs.Prelude.{IfErr}
use Rattle.std.specs.List.{AllZip, AllByRecursion}
use Rattle.std.specs.Option.{option_map_or}
use Rattle.std.proofs.Common.{sym, ap, subst, ◌∙◌, take, inl, inr}
use Rattle.sqlite.specs.Store.{Ghosts}
use Rattle.sqlite.specs.Held.{Held}
use Rattle.sheet_types.specs.Opening.{is_root}
use Rattle.sheet_types.specs.World.{Package, package_key, receipt_key}
use Rattle.sheet_types.specs.declared.frame.Frame.{Frame}
use Rattle.sheet_types.proofs.Every.{All-both, All-filter, All-map, All-snoc, All-weaker}
use Rattle.sheet_types.proofs.Order.{All-arranged}
use Rattle.sheet_laws.specs.Laws.{StoreSight}
use Rattle.sheet_laws.proofs.Packages.{stand_flat}
use Rattle.opening_faults.specs.Sights.{head_said}
use Rattle.opening_faults.specs.declared.faults.RecoverFault.{RecoverFault}
use Rattle.opening_verdict.specs.Views.{AreSeenAs, IsSeenAs, IsFaultOf, IsVerdictOf, is_live_view, live_views}
use Rattle.opening_verdict.specs.declared.seen.StoreSeen.{StoreSeen}
use Rattle.opening_verdict.specs.declared.verdict.Verdict.{Verdict}
use Rattle.world_known.specs.Known.{Grows, Knows, Notes}
use Rattle.world_known.proofs.Remembering.{notes_grow}
use Rattle.opening_stores.specs.Judged.{archive_seen, said_root, AreAllNoted, AreJudged, AreViewsOf, IsFaultAt}
use Rattle.opening_stores.specs.Judged.{IsJudgedOf, IsWant}
use Rattle.opening_stores.specs.Stores.{IsSurveyed}

-- ---- the frame of the archive

mapped_or : {X Y : Type 0} (f : X → Y) (g : Y → Bool) (o : Option X)
    → option_map_or g (option_map f o) false ≡ option_map_or (λ x. g (f x)) o false
mapped_or f g None = refl
mapped_or f g (Some x) = refl

-- the first that passes
pub found_first : {X : Type 0} (p : X → Bool) (xs : List X) (n : ℕ) (x : X)
    → AllByRecursion (λ y. p y ≡ false) (take n xs) → slice_get xs n ≡ Some x → p x ≡ true
    → find p xs ≡ Some x
found_first p [] n x each place is = absurd (let e = place in cc)
found_first p (y ∷ ys) zero x each place is = let same : y ≡ x = cc in rw (ap p same ∙ is) (ap Some same)
found_first p (y ∷ ys) (suc n) x each place is = rw each.0 (found_first p ys n x each.1 place is)

pub none_found : {X : Type 0} (p : X → Bool) (xs : List X) → AllByRecursion (λ y. p y ≡ false) xs
    → find p xs ≡ None
none_found p [] each = refl
none_found p (x ∷ xs) each = rw each.0 (none_found p xs each.1)

-- what is found at the same place of two lists
found_zip : {X Y Z : Type 0} (R : X → Y → Type 0) (p : X → Bool) (q : Y → Bool) (f : X → Z) (g : Y → Z)
    → ((x : X) (y : Y) → R x y → p x ≡ q y) → ((x : X) (y : Y) → R x y → f x ≡ g y)
    → (xs : List X) (ys : List Y) → AllZip R xs ys → option_map f (find p xs) ≡ option_map g (find q ys)
found_zip R p q f g tests same [] [] zip = refl
found_zip R p q f g tests same [] (y ∷ ys) zip = absurd zip
found_zip R p q f g tests same (x ∷ xs) [] zip = absurd zip
found_zip {X} {Y} {Z} R p q f g tests same (x ∷ xs) (y ∷ ys) zip =
    one (q y) (tests x y zip.0) refl (found_zip R p q f g tests same xs ys zip.1)
  where
    one : (b : Bool) → p x ≡ b → q y ≡ b → option_map f (find p xs) ≡ option_map g (find q ys)
        → option_map f (cond (p x) (Some x) (find p xs)) ≡ option_map g (cond (q y) (Some y) (find q ys))
    one true e e' rest = rw (e, e') (ap Some (same x y zip.0))
    one false e e' rest = rw (e, e') rest

abbrev root_view : StoreSight → Bool
root_view = is_root StoreSight (λ v. v.head) (λ v. v.claims) (λ v. v.is_formed ≡ true) (λ v. v.is_tied ≡ true)
    (λ v. v.frame) (λ v. v.reads_as)

same_root : (s : StoreSeen) (v : StoreSight) → IsSeenAs s v → said_root s ≡ root_view v
same_root s v is = sym (mapped_or head_said (λ h. h.depth == 0) s.sight.head)
    ∙ ap (λ o. option_map_or (λ h. h.depth == 0) o false) is.head

some_frame : (a b : Frame) → Some a ≡ Some b → a ≡ b
some_frame a b e = cc

-- the frame that was seen of the archive is that of its world
pub frame_seen_is : (seen : List StoreSeen) (views : List StoreSight) (verdict : Verdict) (frame : Frame)
    → archive_seen seen ≡ Some frame → AreSeenAs seen views → (is : IsVerdictOf verdict views)
    → frame ≡ is.world.frame
frame_seen_is seen views verdict frame found seen_as is =
    let root = is.stands.read_as in
    let there : option_map (λ v. v.frame) (find root_view views) ≡ Some root.0.frame =
    ap (option_map (λ (v : StoreSight). v.frame)) root.1 in
    some_frame frame root.0.frame (sym found ∙ found_zip IsSeenAs said_root root_view (λ s. s.sight.frame)
    (λ v. v.frame) same_root (λ s v e. e.frame) seen views seen_as ∙ there)
    ∙ sym (ap (λ w. w.frame) root.2)

-- ---- what receipts name

-- what was noted of what was seen is known of views of it
views_noted : (known : List (List ℕ)) (seen : List StoreSeen) (views : List StoreSight) → AreSeenAs seen views
    → AreAllNoted known seen → AllByRecursion (λ v. v.is_formed ≡ true → v.is_tied ≡ true
    → AllByRecursion (Notes known) v.reads_as.receipts) views
views_noted known [] [] seen_as noted = tt
views_noted known [] (v ∷ vs) seen_as noted = absurd seen_as
views_noted known (s ∷ ss) [] seen_as noted = absurd seen_as
views_noted known (s ∷ ss) (v ∷ vs) seen_as noted = (
  λ formed tied. subst (AllByRecursion (Notes known))
      (seen_as.0.held formed tied).receipts noted.0,
  views_noted known ss vs seen_as.1 noted.1,
)

-- of one store more
pub noted_more : (old new : List (List ℕ)) (seen : List StoreSeen) (s : StoreSeen) → Grows old new
    → AllByRecursion (Notes new) s.held.receipts.items → AreAllNoted old seen → AreAllNoted new (seen ++ s ∷ [])
noted_more old new seen s grows here each =
    All-snoc (λ (x : StoreSeen). AllByRecursion (Notes new) x.held.receipts.items) seen s
    (All-weaker (λ (x : StoreSeen). AllByRecursion (Notes old) x.held.receipts.items)
    (λ x. AllByRecursion (Notes new) x.held.receipts.items)
    (λ x some. All-weaker (Notes old) (Notes new) (notes_grow old new grows) x.held.receipts.items some) seen
    each) here

-- and so of the world
pub knows_seen : (known : List (List ℕ)) (seen : List StoreSeen) (views : List StoreSight) (verdict : Verdict)
    → AreAllNoted known seen → AreSeenAs seen views → (is : IsVerdictOf verdict views) → Knows known is.world
knows_seen known seen views verdict noted seen_as is =
    let P : StoreSight → Type 0 = λ v. AllByRecursion (Notes known) v.reads_as.receipts in
    let Each : Package → Type 0 = λ p. AllByRecursion (Notes known) p.receipts in
    let some : AllByRecursion (λ v. v.is_formed ≡ true → v.is_tied ≡ true → P v) (live_views views) =
    All-filter (λ v. v.is_formed ≡ true → v.is_tied ≡ true → P v) (is_live_view views) views
    (views_noted known seen views seen_as noted) in
    let formed : AllByRecursion (λ v. v.is_tied ≡ true → P v) (live_views views) =
    All-both (λ v. v.is_formed ≡ true → v.is_tied ≡ true → P v) (λ v. v.is_formed ≡ true)
    (λ v. v.is_tied ≡ true → P v) (λ v so formed. so formed) (live_views views) some is.stands.in_order.formed in
    let all : AllByRecursion P (live_views views) = All-both (λ v. v.is_tied ≡ true → P v)
    (λ v. v.is_tied ≡ true) P
    (λ v so tied. so tied) (live_views views) formed is.stands.in_order.tied in
    let packages : AllByRecursion Each is.world.packages =
    subst (AllByRecursion Each) (sym (ap (λ w. w.packages) is.stands.read_as.2))
    (All-arranged package_key Each (map (λ v. v.reads_as) (live_views views))
    (All-map Each (λ (v : StoreSight). v.reads_as) (live_views views) all)) in
    All-arranged receipt_key (Notes known) (flat_map (λ p. p.receipts) is.world.packages)
    (stand_flat (Notes known) is.world.packages packages)

-- what is so of an answer, and of a fault
pub ok_so : {X E : Type 0} (P Q : X → Type 0) (r : Result X E) → ((x : X) → P x → Q x) → IfOk r P → IfOk r Q
ok_so P Q (Ok x) so is = so x is
ok_so P Q (Err e) so is = tt

pub err_so : {X E : Type 0} (P Q : E → Type 0) (r : Result X E) → ((e : E) → P e → Q e) → IfErr r P
    → IfErr r Q
err_so P Q (Ok x) so is = tt
err_so P Q (Err e) so is = so e is

-- ---- views of what was surveyed

module _ {S : Type 0} (g : Ghosts S) where
  pub record HaveViews (stores : List (Held S)) (seen : List StoreSeen) : Type 0 where
    pub views : List StoreSight
    pub right : AreViewsOf g stores views
    pub seen_as : AreSeenAs seen views

  pub views_of : (stores : List (Held S)) (seen : List StoreSeen) → AllZip (IsSurveyed g) stores seen
      → HaveViews stores seen
  views_of [] [] zip = record { views = []; right = tt; seen_as = tt }
  views_of [] (s ∷ ss) zip = absurd zip
  views_of (h ∷ hs) [] zip = absurd zip
  views_of (h ∷ hs) (s ∷ ss) zip =
      let more = views_of hs ss zip.1 in
      record {
        views = zip.0.right.0 ∷ more.views;
        right = ((zip.0.is_open, zip.0.right.1), more.right);
        seen_as = (zip.0.right.2, more.seen_as);
      }

  pub judged : (stores : List (Held S)) (seen : List StoreSeen) (frame : Frame) (verdict : Verdict)
      (known : List (List ℕ)) → AllZip (IsSurveyed g) stores seen → IsJudgedOf seen frame verdict known
      → AreJudged g stores frame verdict known
  judged stores seen frame verdict known surveyed is =
      let have = views_of stores seen surveyed in
      let told = is have.views have.seen_as in
      record { views = have.views; right = have.right; is = told.0; frame_is = told.1; knows = told.2 }

  pub fault_at : (stores : List (Held S)) (seen : List StoreSeen) (fault : RecoverFault)
      → AllZip (IsSurveyed g) stores seen → IsWant fault ⊎ ((views : List StoreSight) → AreSeenAs seen views
      → IsFaultOf views fault) → IsFaultAt g stores fault
  fault_at stores seen fault surveyed (inl want) = inl want
  fault_at stores seen fault surveyed (inr so) = let have = views_of stores seen surveyed in inr
      (have.views, have.right, so have.views have.seen_as)
