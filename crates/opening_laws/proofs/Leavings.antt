-- The stores of a world at rest, and those that are opened from what a crash left.
use Rattle.std.specs.Prelude.{◌≡◌, false, List, [], ◌∷◌, ◌++◌, map, refl, is_some, ◌==◌, bytes_eq}
use Rattle.std.specs.Prelude.{IsPermutation}
use Rattle.std.specs.Prelude.{Contains}
use Rattle.std.proofs.Common.{sym, ap, subst, ◌∙◌, inl, inr, append_assoc}
use Rattle.std.proofs.lemmas.Bool.{true≢false}
use Rattle.std.proofs.lemmas.List.Sorted.{IsPermutation-append_comm, IsPermutation-append_left, IsPermutation-trans}
use Rattle.std.specs.List.{AllByRecursion, AllZip}
use Rattle.sqlite.specs.Held.{Held, state}
use Rattle.sqlite.specs.State.{State}
use Rattle.sqlite.specs.Store.{Ghosts}
use Rattle.sqlite.specs.Tree.{Trees}
use Rattle.sqlite_catalog.specs.Listing.{IsSound}
use Rattle.sheet_types.specs.Opening.{head_of}
use Rattle.sheet_types.specs.Register.{IsRegister}
use Rattle.sheet_types.specs.Step.{outcome, carried_out, receipt_of}
use Rattle.sheet_types.specs.World.{World, Package}
use Rattle.sheet_types.specs.declared.command.Command.{Command}
use Rattle.sheet_types.specs.declared.command.Command.TheVariants.{Add, Delete, Link, Unlink, Split, Merge}
use Rattle.sheet_types.specs.declared.command.Request.{Request}
use Rattle.sheet_types.specs.declared.frame.Frame.{Frame}
use Rattle.sheet_types.specs.declared.receipt.Receipt.{Receipt}
use Rattle.sheet_types.proofs.Basics.{bytes_eq_itself}
use Rattle.sheet_types.proofs.Same.{All-In}
use Rattle.sheet_types.proofs.Every.{All-append, All-each, none_any}
use Rattle.sheet_laws.proofs.Accepting.{keeps}
use Rattle.sheet_laws.proofs.Running.{step_keeps_register}
use Rattle.store_sql.specs.Transactions.{IsAdopted}
use Rattle.store_sql.proofs.Schemas.{sound_alone}
use Rattle.identity_register.specs.Reads.{Reads}
use Rattle.identity_register.proofs.Finding.{contained}
use Rattle.identity_register.proofs.OnePackage.{reads_alone}
use Rattle.opening_laws_store.proofs.Headed.{head_is_known, lent_head_is_low}
use Rattle.opening_laws_model.proofs.Timed.{step_keeps_timely}
use Rattle.world_changes.specs.Leaving.{IsBeside, StandsAmong}
use Rattle.world_members.specs.Members.{IsMember}
use Rattle.world_members.specs.Turning.{LeftAs}
use Rattle.world.specs.Worlds.{held}
use Rattle.world_members.specs.declared.members.Member.{Member}
use Rattle.opening_laws.specs.Laws.{RestIsStores, RestIsOpened, LeftIsStores, CrashIsOpened, IsKeptWorld}
use Rattle.opening_laws.specs.Stores.{SaysUnknown, IsStoreOf, IsStrayStore, ReadsAsNone, AreStoresOf, AreWithStrays}
use Rattle.opening_laws.proofs.OneView.{not_first}
use Rattle.opening_laws.proofs.Openings.{opens_again, meets_no_fault}
use Rattle.opening_laws.proofs.Zipped.{zip_permuted, zip_parts, zip_through, zip_all}

-- ---- one store

-- what was left as a package is read as it again
reads_again : (f : Frame) (p : Package) (s : State) (trees : Trees) → IsAdopted s trees → LeftAs f trees p
    → Reads f p s.now
reads_again f p s trees adopted d =
    let own : IsSound s.now.schema trees = subst (IsSound s.now.schema) adopted.trees_are adopted.sound in
    let theirs : IsSound d.0.schema trees = subst (IsSound d.0.schema) (sym d.1) d.2.formed.sound in
    let schema : d.0.schema ≡ s.now.schema = sound_alone d.0.schema s.now.schema trees theirs own in
    let same_trees : d.0.trees ≡ s.now.trees = sym d.1 ∙ sym adopted.trees_are in
    let same : d.0 ≡ s.now = λ n. record { schema = schema n; trees = same_trees n } in
    subst (Reads f p) same d.2

-- and what was left beside a world is a stray of it
unknown_again : (w : World) (s : State) (trees : Trees) → IsAdopted s trees → IsBeside w.frame w.packages trees
    → SaysUnknown w s.now
unknown_again w s trees adopted is h (inl first) = absurd (not_first w.frame is.other s.now
    (reads_again w.frame is.other s trees adopted is.reads) (h, first))
unknown_again w s trees adopted is h (inr said) =
    let reads : Reads w.frame is.other s.now = reads_again w.frame is.other s trees adopted is.reads in
    let e : h ≡ head_of is.other = head_is_known w.frame is.other s.now h reads said in
    let low : ((h.depth == 0) ≡ false) × _ = lent_head_is_low s.now h said
    (ap (λ x. is_some x.parent) e ∙ is.lent) in
    record {
      lent = low.0;
      uuid = low.1;
      apart = none_any (λ p. bytes_eq p.uuid h.uuid) w.packages
          (subst (λ u. AllByRecursion (λ p. bytes_eq p.uuid u ≡ false) w.packages) (sym (ap (λ x. x.uuid) e))
          is.apart);
    }

-- of which no package of it is read
none_again : (w : World) (s : State) (trees : Trees) → IsAdopted s trees → IsBeside w.frame w.packages trees
    → (p : Package) → Contains w.packages p → Reads w.frame p s.now → ⊥
none_again w s trees adopted is p there reads =
    let own : Reads w.frame is.other s.now = reads_again w.frame is.other s trees adopted is.reads in
    let same : p ≡ is.other = (reads_alone w.frame w.frame p is.other s.now reads own).1 in
    true≢false (sym (ap (λ x. bytes_eq x.uuid is.other.uuid) same ∙ bytes_eq_itself is.other.uuid)
    ∙ All-In (λ x. bytes_eq x.uuid is.other.uuid ≡ false) p w.packages is.apart (contained w.packages p there))

-- a request leaves the frame of its world
frame_carried : (w : World) (r : Receipt) (command : Command) → (carried_out w r command).frame ≡ w.frame
frame_carried w r (Add p identity content) = refl
frame_carried w r (Delete p identity) = refl
frame_carried w r (Link p mapping base other) = refl
frame_carried w r (Unlink p mapping base other) = refl
frame_carried w r (Split p child mode rect) = refl
frame_carried w r (Merge child into ticket) = refl

pub same_frame : (w : World) (q : Request) → (outcome w q).1.frame ≡ w.frame
same_frame w q = keeps (λ v. v.frame ≡ w.frame) w q refl (λ _ _. frame_carried w (receipt_of w q) q.command)

module _ {S : Type 0} (g : Ghosts S) where
  -- ---- a world at rest

  member_stores : (w : World) (ms : List (Member S)) (ps : List Package) → AllZip (IsMember g w) ms ps
      → AllZip (IsStoreOf g w) (map (λ m. m.conn) ms) ps
  member_stores w [] [] each = tt
  member_stores w [] (p ∷ ps) each = absurd each
  member_stores w (m ∷ ms) [] each = absurd each
  member_stores w (m ∷ ms) (p ∷ ps) each = (each.0.reads, member_stores w ms ps each.1)

  pub rest_is_stores : RestIsStores g
  rest_is_stores seen w is_held usable stands =
      let conns : List (Held S) = map (λ m. m.conn) seen.members in (
        record {
          members = conns;
          others = seen.strays;
          all = IsPermutation-append_comm seen.strays conns;
          each = member_stores w seen.members w.packages stands.members.each;
          beside = subst (AllByRecursion (IsStrayStore g w)) (sym (is_held.none usable)) tt;
        },
        subst (AllByRecursion (ReadsAsNone g w)) (sym (is_held.none usable)) tt,
      )

  -- stores of a world, with strays of it
  pub with_strays : (w : World) (these stores : List (Held S)) → AreWithStrays g w these stores
      → AreStoresOf g these w → AreStoresOf g stores w
  with_strays w these stores more of = record {
    members = of.members;
    others = of.others ++ more.further;
    all = IsPermutation-trans stores (these ++ more.further) (of.members ++ (of.others ++ more.further)) more.all
        (subst (IsPermutation (these ++ more.further)) (append_assoc of.members of.others more.further)
        (IsPermutation-append_left more.further these (of.members ++ of.others) of.all));
    each = of.each;
    beside = All-append (IsStrayStore g w) of.others more.further of.beside more.strays;
  }

  pub rest_is_opened : RestIsOpened g
  rest_is_opened seen w stores is_held usable stands timely more =
      let of : AreStoresOf g stores w = with_strays w (held g seen) stores more
      (rest_is_stores seen w is_held usable stands).0 in
      let kept : IsKeptWorld w = (stands.members.register, timely) in (
        (λ found is clean. opens_again g w stores found kept of is clean),
        (λ refused is clean. meets_no_fault g w stores refused kept of is clean),
      )

  -- ---- what a crash left

  -- a store that was opened from a content
  abbrev IsAgain : Trees → Held S → Type 0
  IsAgain trees h = IsAdopted (state g h) trees

  each_again : (contents : List Trees) (again : List (Held S))
      → AllZip (λ h trees. IsAdopted (state g h) trees) again contents → AllZip IsAgain contents again
  each_again [] [] opened = tt
  each_again [] (h ∷ again) opened = absurd opened
  each_again (t ∷ contents) [] opened = absurd opened
  each_again (t ∷ contents) (h ∷ again) opened = (opened.0, each_again contents again opened.1)

  pub left_is_stores : LeftIsStores g
  left_is_stores w contents again among opened =
      let f : Frame = w.frame in
      let moved : (hs : List (Held S)) × IsPermutation again hs × AllZip IsAgain (among.read ++ among.rest) hs =
      zip_permuted IsAgain contents (among.read ++ among.rest) again among.all
      (each_again contents again opened) in
      let parts : (ms : List (Held S)) × (os : List (Held S)) × (moved.0 ≡ ms ++ os) × AllZip IsAgain among.read ms
      × AllZip IsAgain among.rest os = zip_parts IsAgain among.read among.rest moved.0 moved.2 in (
        record {
          members = parts.0;
          others = parts.1;
          all = subst (IsPermutation again) parts.2 moved.1;
          each = zip_through IsAgain (LeftAs f) (λ _. Unit {0}) (IsStoreOf g w)
              (λ t h p is _ left is_open. reads_again f p (state g h) t is left)
              among.read parts.0 w.packages (All-each (λ _. Unit {0}) (λ _. tt) w.packages) parts.3 among.each;
          beside = zip_all IsAgain (IsBeside f w.packages) (IsStrayStore g w)
              (λ t h is beside _. unknown_again w (state g h) t is beside) among.rest parts.1 among.beside parts.4;
        },
        zip_all IsAgain (IsBeside f w.packages) (ReadsAsNone g w)
            (λ t h is beside _. none_again w (state g h) t is beside) among.rest parts.1 among.beside parts.4,
      )

  pub crash_is_opened : CrashIsOpened g
  crash_is_opened q old reply new w contents again stores step fault usable stands is_open types timely clean left
      opened more_before more_after =
      let register : IsRegister w = stands.members.register in
      elim (step.crash fault usable w stands is_open clean contents left) [
        | inl before ↦
            let of : AreStoresOf g stores w = with_strays w again stores more_before
            (left_is_stores w contents again before opened).0 in (
              (λ found is clean'. inl (opens_again g w stores found (register, timely) of is clean')),
              (λ refused is clean'. meets_no_fault g w stores refused (register, timely) of is clean'),
            )
        | inr after ↦
            let next : World = (outcome w q).1 in
            let kept : IsKeptWorld next = (
              step_keeps_register w q (outcome w q).0 next types register
                  (inl (refl, refl)),
              step_keeps_timely w q (outcome w q).0 next types register timely
                  (inl (refl, refl)),
            ) in
            let frame : w.frame ≡ next.frame = sym (same_frame w q) in
            let of : AreStoresOf g stores next = with_strays next again stores more_after
            (left_is_stores next contents again (subst (λ f. StandsAmong f next.packages contents) frame
            after) opened).0 in (
              (λ found is clean'. inr (opens_again g next stores found kept of is clean')),
              (λ refused is clean'. meets_no_fault g next stores refused kept of is clean'),
            )
      ]
