-- Stores that are judged and brought: each member is its package, and nothing is lost.
use Rattle.std.specs.Prelude.{◌≡◌, ◌≤◌, ℕ, suc, Bool, true, false, cond, List, [], ◌∷◌, ◌++◌}
use Rattle.std.specs.Prelude.{map, filter, length}
use Rattle.std.specs.Prelude.{refl, Option, Some, None, MatchOption, IsPermutation, IsTrue, Ok}
use Rattle.std.specs.List.{AllZip, AllByRecursion}
use Rattle.std.proofs.Common.{sym, ap, subst, ◌∙◌, arith, inl, inr}
use Rattle.std.proofs.lemmas.Bool.{true≢false}
use Rattle.std.proofs.lemmas.List.Elements.{All-from_recursion, recursion_from_All}
use Rattle.std.proofs.lemmas.List.Sorted.{IsPermutation-refl, IsPermutation-trans, IsPermutation-sym}
use Rattle.std.proofs.lemmas.List.Sorted.{IsPermutation-cons, IsPermutation-to_front, IsPermutation-map}
use Rattle.std.proofs.lemmas.List.Sorted.{IsPermutation-append_left}
use Rattle.sqlite.specs.Store.{Ghosts}
use Rattle.sqlite.specs.Held.{Held, state}
use Rattle.sqlite.specs.Effect.{Database}
use Rattle.sqlite.specs.State.{HasCleanDisk}
use Rattle.store_sql.specs.Transactions.{Rests}
use Rattle.sheet_types.specs.Ordered.{put, arranged, is_before}
use Rattle.sheet_types.specs.World.{World, package_key}
use Rattle.sheet_types.specs.declared.frame.Frame.{Frame}
use Rattle.sheet_types.proofs.Order.{All-arranged}
use Rattle.identity_register.specs.Reads.{Reads}
use Rattle.sheet_laws.specs.Laws.{StoreSight, StoresStandFor}
use Rattle.package_tables.proofs.Reading.{arranged_permutation}
use Rattle.package_tables.specs.declared.fault.Fault.{Fault}
use Rattle.opening_v1.specs.Either.{IsViewAtEither}
use Rattle.package_v1.specs.FirstVersion.{ReadsAtOne}
use Rattle.opening_verdict.specs.Views.{IsKept, IsKeptOf, is_live_view, live_views}
use Rattle.opening_verdict.specs.declared.verdict.Kept.{Kept}
use Rattle.opening_verdict.specs.declared.verdict.Verdict.{Verdict}
use Rattle.world_changes.specs.Leaving.{AreAtRest, AreClean}
use Rattle.world_members.specs.Members.{AllRest, AllOpen, AreMembers, IsMember}
use Rattle.world_members.specs.declared.members.Member.{Member}
use Rattle.opening_stores.specs.Brought.{Place, AreAllTurned, IsTurned}
use Rattle.opening_stores.specs.Judged.{AreJudged}
use Rattle.opening_stores.specs.Stores.{AreOpenWhereClean}
use Rattle.opening_stores.specs.Sharing.{member_key, member_of, members_of, strays_of}
use Rattle.opening_stores.proofs.Frames.{live_frames}
use Rattle.opening_stores.proofs.Brought.{turned_reads}

module _ {S : Type 0} (g : Ghosts S) where
  -- ---- each member is its package

  -- two lists that go together do so in the order of their keys
  zip_put : {X Y : Type 0} (R : X → Y → Type 0) (key : X → List ℕ) (other : Y → List ℕ)
      → ((x : X) (y : Y) → R x y → key x ≡ other y) → (x : X) (y : Y) (xs : List X) (ys : List Y) → R x y
      → AllZip R xs ys → AllZip R (put key x xs) (put other y ys)
  zip_put R key other same x y [] [] here zip = (here, tt)
  zip_put R key other same x y [] (b ∷ ys) here zip = absurd zip
  zip_put R key other same x y (a ∷ xs) [] here zip = absurd zip
  zip_put R key other same x y (a ∷ xs) (b ∷ ys) here zip = one (is_before (other b) (other y))
      (ap (λ k. is_before k (key x)) (same a b zip.0) ∙ ap (is_before (other b)) (same x y here)) refl
      (zip_put R key other same x y xs ys here zip.1)
    where
      one : (v : Bool) → is_before (key a) (key x) ≡ v → is_before (other b) (other y) ≡ v
          → AllZip R (put key x xs) (put other y ys) → AllZip R
          (cond (is_before (key a) (key x)) (a ∷ put key x xs) (x ∷ a ∷ xs))
          (cond (is_before (other b) (other y)) (b ∷ put other y ys) (y ∷ b ∷ ys))
      one true e e' rest = rw (e, e') (zip.0, rest)
      one false e e' rest = rw (e, e') (here, zip)

  zip_arranged : {X Y : Type 0} (R : X → Y → Type 0) (key : X → List ℕ) (other : Y → List ℕ)
      → ((x : X) (y : Y) → R x y → key x ≡ other y) → (xs : List X) (ys : List Y) → AllZip R xs ys
      → AllZip R (arranged key xs) (arranged other ys)
  zip_arranged R key other same [] [] zip = tt
  zip_arranged R key other same [] (y ∷ ys) zip = absurd zip
  zip_arranged R key other same (x ∷ xs) [] zip = absurd zip
  zip_arranged R key other same (x ∷ xs) (y ∷ ys) zip = zip_put R key other same x y (arranged key xs)
      (arranged other ys) zip.0 (zip_arranged R key other same xs ys zip.1)

  module _ (views : List StoreSight) (w : World) where
    -- what is asked of a live view
    abbrev Sound : StoreSight → Type 0
    Sound v = (v.is_formed ≡ true) × (v.is_tied ≡ true) × (v.frame ≡ w.frame)

    -- where the view is live and that of a package, the store reads as it at the second version
    abbrev Viewed : (StoreSight → Bool) → Held S → StoreSight → Type 0
    Viewed live h v = live v ≡ true → v.is_formed ≡ true → v.is_tied ≡ true → IsTrue (state g h).is_open
        → Reads v.frame v.reads_as (state g h).now

    member_is : (live : StoreSight → Bool) (h : Held S) (k : Kept) (v : StoreSight) → Viewed live h v
        → live v ≡ true
        → IsKept views w k v → Sound v → IsMember g w (member_of h k) v.reads_as
    member_is live h k v view lives kept sound = record {
      uuid = ap (λ x. x.uuid) kept.head;
      parent = ap (λ x. x.parent) kept.head;
      depth = ap (λ x. x.depth) kept.head;
      loan = ap (λ x. x.loan) kept.head;
      sums = kept.sums;
      ticket = kept.ticket_is;
      reads = λ is_open. subst (λ f. Reads f v.reads_as (state g h).now) sound.2 (view lives sound.0 sound.1 is_open);
    }

    members_are : (live : StoreSight → Bool) → ((k : Option Kept) (v : StoreSight) → IsKeptOf views w k v
        → MatchOption k (live v ≡ false) (λ x. (live v ≡ true) × IsKept views w x v))
        → (stores : List (Held S)) (kept : List (Option Kept)) (vs : List StoreSight)
        → AllZip (Viewed live) stores vs
        → AllZip (IsKeptOf views w) kept vs → AllByRecursion Sound (filter live vs)
        → AllZip (IsMember g w) (members_of stores kept) (map (λ v. v.reads_as) (filter live vs))
    members_are live lives [] kept [] view keep sound = tt
    members_are live lives [] kept (v ∷ vs) view keep sound = absurd view
    members_are live lives (h ∷ hs) kept [] view keep sound = absurd view
    members_are live lives (h ∷ hs) [] (v ∷ vs) view keep sound = absurd keep
    members_are live lives (h ∷ hs) (Some k ∷ ks) (v ∷ vs) view keep sound =
        one (lives (Some k) v keep.0) (λ more. members_are live lives hs ks vs view.1 keep.1 more)
      where
        one : (live v ≡ true) × IsKept views w k v → (AllByRecursion Sound (filter live vs)
            → AllZip (IsMember g w) (members_of hs ks) (map (λ x. x.reads_as) (filter live vs)))
            → AllZip (IsMember g w) (member_of h k ∷ members_of hs ks)
            (map (λ x. x.reads_as) (cond (live v) (v ∷ filter live vs) (filter live vs)))
        one is rest =
            let all : AllByRecursion Sound (v ∷ filter live vs) =
            subst (λ b. AllByRecursion Sound (cond b (v ∷ filter live vs) (filter live vs))) is.0 sound in
            rw is.0 (member_is live h k v view.0 is.0 is.1 all.0, rest all.1)
    members_are live lives (h ∷ hs) (None ∷ ks) (v ∷ vs) view keep sound =
        one (lives None v keep.0) (λ more. members_are live lives hs ks vs view.1 keep.1 more)
      where
        one : live v ≡ false → (AllByRecursion Sound (filter live vs)
            → AllZip (IsMember g w) (members_of hs ks) (map (λ x. x.reads_as) (filter live vs)))
            → AllZip (IsMember g w) (members_of hs ks) (map (λ x. x.reads_as)
            (cond (live v) (v ∷ filter live vs) (filter live vs)))
        one is rest =
            let all : AllByRecursion Sound (filter live vs) =
            subst (λ b. AllByRecursion Sound (cond b (v ∷ filter live vs) (filter live vs))) is sound in
            rw is (rest all)

  kept_lives : (views : List StoreSight) (w : World) (k : Option Kept) (v : StoreSight) → IsKeptOf views w k v
      → MatchOption k (is_live_view views v ≡ false) (λ x. (is_live_view views v ≡ true) × IsKept views w x v)
  kept_lives views w (Some k) v is = (is.live, is)
  kept_lives views w None v is = is

  all_three : {X : Type 0} (P Q R : X → Type 0) (xs : List X) → AllByRecursion P xs → AllByRecursion Q xs
      → AllByRecursion R xs → AllByRecursion (λ x. P x × Q x × R x) xs
  all_three P Q R [] one two three = tt
  all_three P Q R (x ∷ xs) one two three = ((one.0, two.0, three.0), all_three P Q R xs one.1 two.1 three.1)

  frames_so : (views : List StoreSight) (w : World) (stands : StoresStandFor views w)
      → AllByRecursion (λ v. v.frame ≡ w.frame) (live_views views)
  frames_so views w stands =
      subst (λ f. AllByRecursion (λ v. v.frame ≡ f) (live_views views)) (sym (ap (λ x. x.frame) stands.read_as.2))
      (live_frames StoreSight (λ v. v.head) (λ v. v.claims) (λ v. v.is_formed ≡ true) (λ v. v.is_tied ≡ true)
      (λ v. v.frame) (λ v. v.reads_as) views stands.in_order stands.read_as.0 stands.read_as.1)

  abbrev Right : Held S → StoreSight → Type 0
  Right h v = IsTrue (state g h).is_open × IsViewAtEither (state g h).now v

  -- a right view of a package, at either version
  pub reads_at_one : (db : Database) (v : StoreSight) → IsViewAtEither db v → v.is_formed ≡ true
      → v.is_tied ≡ true
      → ReadsAtOne v.frame v.reads_as db
  reads_at_one db v (inl first) formed tied = inl (first.1.reads formed tied)
  reads_at_one db v (inr second) formed tied = inr (second.1.reads formed tied)

  abbrev IsDone : Place S → Type 0
  IsDone p = MatchOption p.kept (p.now ≡ p.old) (λ _. IsTurned g {E = Fault} p.old p.now (Ok tt))

  abbrev Cleanly : Held S → Type 0
  Cleanly h = HasCleanDisk (state g h)

  done_reads : (views : List StoreSight) (w : World) (kept : Option Kept) (old now : Held S) (v : StoreSight)
      → IsDone (record { kept = kept; old = old; now = now }) → IsKeptOf views w kept v → Right old v
      → Cleanly now
      → Viewed views w (is_live_view views) now v
  done_reads views w None old now v done keep right clean = λ lives. absurd (true≢false (sym lives ∙ keep))
  done_reads views w (Some k) old now v done keep right clean =
      λ lives formed tied is_open. turned_reads g old now right.0 done clean v.frame v.reads_as
      (reads_at_one (state g old).now v right.1 formed tied)

  -- each live store was brought, and so reads as its package
  all_read_so : (views : List StoreSight) (w : World) (ps : List (Place S)) (vs : List StoreSight)
      → AllByRecursion IsDone ps → AllZip (IsKeptOf views w) (map (λ p. p.kept) ps) vs
      → AllZip Right (map (λ p. p.old) ps) vs
      → AllByRecursion Cleanly (map (λ p. p.now) ps) → AllZip (Viewed views w (is_live_view views))
      (map (λ p. p.now) ps) vs
  all_read_so views w [] [] done keep right clean = tt
  all_read_so views w [] (v ∷ vs) done keep right clean = absurd right
  all_read_so views w (p ∷ ps) [] done keep right clean = absurd right
  all_read_so views w (p ∷ ps) (v ∷ vs) done keep right clean = (
    done_reads views w p.kept p.old p.now v done.0 keep.0 right.0 clean.0,
    all_read_so views w ps vs done.1 keep.1
        right.1 clean.1,
  )

  -- the members in the order of their UUIDs are those of the world
  pub are_members : (read now : List (Held S)) (frame : Frame) (verdict : Verdict) (known : List (List ℕ))
      (it : AreJudged g read frame verdict known) → AreAllTurned g verdict.kept.items read now → AreClean g now
      → AreMembers g (arranged member_key (members_of now verdict.kept.items)) verdict.count it.is.world
  are_members read now frame verdict known it turned clean =
      let w = it.is.world in
      let stands : StoresStandFor it.views w = it.is.stands in
      let sound : AllByRecursion (λ v. (v.is_formed ≡ true) × (v.is_tied ≡ true) × (v.frame ≡ w.frame))
      (live_views it.views) =
      all_three (λ v. v.is_formed ≡ true) (λ v. v.is_tied ≡ true) (λ v. v.frame ≡ w.frame)
      (live_views it.views)
      stands.in_order.formed stands.in_order.tied (frames_so it.views w stands) in
      let viewed : AllZip (Viewed it.views w (is_live_view it.views)) now it.views =
      subst (λ l. AllZip (Viewed it.views w (is_live_view it.views)) l it.views) (sym turned.new_is)
      (all_read_so it.views w turned.places it.views turned.each
      (subst (λ l. AllZip (IsKeptOf it.views w) l it.views) turned.kept_is it.is.kept)
      (subst (λ l. AllZip Right l it.views) turned.old_is it.right)
      (subst (AllByRecursion Cleanly) turned.new_is (recursion_from_All Cleanly now clean))) in
      let each : AllZip (IsMember g w) (members_of now verdict.kept.items)
      (map (λ v. v.reads_as) (live_views it.views)) =
      members_are it.views w (is_live_view it.views) (kept_lives it.views w) now verdict.kept.items it.views viewed
      it.is.kept sound in
      let order : AllZip (IsMember g w) (arranged member_key (members_of now verdict.kept.items))
      (arranged package_key (map (λ v. v.reads_as) (live_views it.views))) =
      zip_arranged (IsMember g w) member_key package_key (λ m p is. is.uuid) (members_of now verdict.kept.items)
      (map (λ v. v.reads_as) (live_views it.views)) each in
      record {
        each = subst (AllZip (IsMember g w) (arranged member_key (members_of now verdict.kept.items)))
            (sym (ap (λ x. x.packages) stands.read_as.2)) order;
        counted = it.is.counted;
        register = it.is.register;
      }

  -- ---- nothing is lost

  assoc : {X : Type 0} (xs ys zs : List X) → (xs ++ ys) ++ zs ≡ xs ++ (ys ++ zs)
  assoc [] ys zs = refl
  assoc (x ∷ xs) ys zs = ap (λ l. x ∷ l) (assoc xs ys zs)

  abbrev stores_in : List (Member S) → List (Held S)
  stores_in members = map (λ m. m.conn) members

  shared_all : (stores : List (Held S)) (kept : List (Option Kept)) → length kept ≡ length stores
      → IsPermutation stores (stores_in (members_of stores kept) ++ strays_of stores kept)
  shared_all [] [] long = IsPermutation-refl []
  shared_all [] (k ∷ ks) long = absurd (omega (arith, long))
  shared_all (h ∷ hs) [] long = absurd (omega (arith, long))
  shared_all (h ∷ hs) (Some k ∷ ks) long = IsPermutation-cons h hs (stores_in (members_of hs ks) ++ strays_of hs ks)
      (shared_all hs ks (omega (arith, long)))
  shared_all (h ∷ hs) (None ∷ ks) long =
      let rest = stores_in (members_of hs ks) ++ strays_of hs ks in
      let front : IsPermutation (h ∷ hs) (h ∷ rest) = IsPermutation-cons h hs rest
      (shared_all hs ks (omega (arith, long))) in
      subst (IsPermutation (h ∷ hs)) (assoc (stores_in (members_of hs ks)) (strays_of hs ks) (h ∷ []))
      (IsPermutation-trans (h ∷ hs) (h ∷ rest) (rest ++ h ∷ []) front
      (IsPermutation-sym (rest ++ h ∷ []) (h ∷ rest) (IsPermutation-to_front rest h)))

  pub nothing_lost : (stores : List (Held S)) (kept : List (Option Kept)) (members : List (Member S))
      (strays : List (Held S)) → length kept ≡ length stores
      → members ≡ arranged member_key (members_of stores kept)
      → strays ≡ strays_of stores kept
      → IsPermutation stores (stores_in members ++ strays)
  nothing_lost stores kept members strays long are strays_are =
      let some = members_of stores kept in
      let ordered : IsPermutation (stores_in some) (stores_in (arranged member_key some)) =
      IsPermutation-map (λ (m : Member S). m.conn) some (arranged member_key some)
      (arranged_permutation member_key some) in
      let all : IsPermutation stores (stores_in (arranged member_key some) ++ strays_of stores kept) =
      IsPermutation-trans stores (stores_in some ++ strays_of stores kept)
      (stores_in (arranged member_key some) ++ strays_of stores kept) (shared_all stores kept long)
      (IsPermutation-append_left (strays_of stores kept) (stores_in some) (stores_in (arranged member_key some))
      ordered) in
      subst (λ ms. IsPermutation stores (stores_in ms ++ strays)) (sym are)
      (subst (λ hs. IsPermutation stores (stores_in (arranged member_key some) ++ hs)) (sym strays_are) all)

  -- ---- what is true of each store is true of each member and each stray

  members_have : (P : Held S → Type 0) (stores : List (Held S)) (kept : List (Option Kept))
      → AllByRecursion P stores
      → AllByRecursion (λ (m : Member S). P m.conn) (members_of stores kept)
  members_have P [] kept each = tt
  members_have P (h ∷ hs) [] each = tt
  members_have P (h ∷ hs) (Some k ∷ ks) each = (each.0, members_have P hs ks each.1)
  members_have P (h ∷ hs) (None ∷ ks) each = members_have P hs ks each.1

  pub last_has : (P : Held S → Type 0) (hs : List (Held S)) (h : Held S) → AllByRecursion P hs → P h
      → AllByRecursion P (hs ++ h ∷ [])
  last_has P [] h each here = (here, tt)
  last_has P (x ∷ xs) h each here = (each.0, last_has P xs h each.1 here)

  pub strays_have : (P : Held S → Type 0) (stores : List (Held S)) (kept : List (Option Kept))
      → AllByRecursion P stores → AllByRecursion P (strays_of stores kept)
  strays_have P [] kept each = tt
  strays_have P (h ∷ hs) [] each = tt
  strays_have P (h ∷ hs) (Some k ∷ ks) each = strays_have P hs ks each.1
  strays_have P (h ∷ hs) (None ∷ ks) each = last_has P (strays_of hs ks) h (strays_have P hs ks each.1) each.0

  pub members_rest : (stores : List (Held S)) (kept : List (Option Kept)) (members : List (Member S))
      → members ≡ arranged member_key (members_of stores kept) → AreAtRest g stores → AllRest g members
  members_rest stores kept members are rests =
      let P : Held S → Type 0 = λ h. Rests (state g h) in
      let Q : Member S → Type 0 = λ m. P m.conn in
      All-from_recursion Q members (subst (AllByRecursion Q) (sym are)
      (All-arranged member_key Q (members_of stores kept)
      (members_have P stores kept (recursion_from_All P stores rests))))

  -- ---- stores that were open where their disks are clean still are

  abbrev IsOpenStore : Held S → Type 0
  IsOpenStore h = IsTrue (state g h).is_open

  abbrev OpensCleanly : Held S → Type 0
  OpensCleanly h = HasCleanDisk (state g h) → IsTrue (state g h).is_open

  done_open : (kept : Option Kept) (old now : Held S) → IsDone (record { kept = kept; old = old; now = now })
      → OpensCleanly old → Cleanly now → IsOpenStore now
  done_open None old now done opens clean = subst IsOpenStore (sym done) (opens (subst Cleanly done clean))
  done_open (Some k) old now done opens clean = ((done.turns (opens (done.clean clean))).done clean).1.is_open

  done_all_open : (ps : List (Place S)) → AllByRecursion IsDone ps
      → AllByRecursion OpensCleanly (map (λ p. p.old) ps)
      → AllByRecursion Cleanly (map (λ p. p.now) ps) → AllByRecursion IsOpenStore (map (λ p. p.now) ps)
  done_all_open [] done opens clean = tt
  done_all_open (p ∷ ps) done opens clean = (
    done_open p.kept p.old p.now done.0 opens.0 clean.0,
    done_all_open ps
        done.1 opens.1 clean.1,
  )

  pub members_open : (read now : List (Held S)) (kept : List (Option Kept)) (members : List (Member S))
      → members ≡ arranged member_key (members_of now kept) → AreAllTurned g kept read now
      → AreOpenWhereClean g read
      → AreClean g now → AllOpen g members
  members_open read now kept members are turned opens clean =
      let Q : Member S → Type 0 = λ m. IsOpenStore m.conn in
      let each : AllByRecursion IsOpenStore now =
      subst (AllByRecursion IsOpenStore) (sym turned.new_is)
      (done_all_open turned.places turned.each (subst (AllByRecursion OpensCleanly) turned.old_is
      (recursion_from_All OpensCleanly read opens)) (subst (AllByRecursion Cleanly) turned.new_is
      (recursion_from_All Cleanly now clean))) in
      All-from_recursion Q members (subst (AllByRecursion Q) (sym are)
      (All-arranged member_key Q (members_of now kept) (members_have IsOpenStore now kept each)))

  pub strays_rest : (stores : List (Held S)) (kept : List (Option Kept)) (strays : List (Held S))
      → strays ≡ strays_of stores kept → AreAtRest g stores → AreAtRest g strays
  strays_rest stores kept strays are rests =
      let P : Held S → Type 0 = λ h. Rests (state g h) in
      All-from_recursion P strays (subst (AllByRecursion P) (sym are)
      (strays_have P stores kept (recursion_from_All P stores rests)))

  put_long : {X : Type 0} (key : X → List ℕ) (x : X) (xs : List X) → length (put key x xs) ≡ suc (length xs)
  put_long key x [] = refl
  put_long key x (y ∷ ys) = elim (is_before (key y) (key x)) as
      (λ v. length (cond v (y ∷ put key x ys) (x ∷ y ∷ ys)) ≡ suc (suc (length ys))) [
        | true ↦ ap suc (put_long key x ys)
        | false ↦ refl
      ]

  arranged_long : {X : Type 0} (key : X → List ℕ) (xs : List X) → length (arranged key xs) ≡ length xs
  arranged_long key [] = refl
  arranged_long key (x ∷ xs) = put_long key x (arranged key xs) ∙ ap suc (arranged_long key xs)

  -- no more members than stores
  few_members : (stores : List (Held S)) (kept : List (Option Kept))
      → length (members_of stores kept) ≤ length stores
  few_members [] kept = omega arith
  few_members (h ∷ hs) [] = omega arith
  few_members (h ∷ hs) (Some k ∷ ks) = omega (arith, few_members hs ks)
  few_members (h ∷ hs) (None ∷ ks) = omega (arith, few_members hs ks)

  pub few : (stores : List (Held S)) (kept : List (Option Kept)) (members : List (Member S))
      → members ≡ arranged member_key (members_of stores kept) → length members ≤ length stores
  few stores kept members are = omega (
    arith,
    ap length are,
    arranged_long member_key (members_of stores kept),
    few_members stores kept,
  )
