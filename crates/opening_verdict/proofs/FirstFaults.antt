-- The first seven faults: told of sights, they are those of the stores; where none is told, the stores are in order.
use Rattle.std.specs.Prelude.{◌≡◌, ◌⊎◌, ℕ, ℤ, ◌+◌, ◌==◌, nat_le, Bool, true, false, List, map}
use Rattle.std.specs.Prelude.{refl, find, Option}
use Rattle.std.specs.Prelude.{Some, None, Contains, bytes_eq}
use Rattle.std.proofs.Common.{sym, ap, subst, ◌∙◌, inl, inr, int_eq}
use Rattle.std.proofs.lemmas.Bool.{true≢false}
use Rattle.std.proofs.lemmas.Bool.Decides.{Decides-int_eq, Decides-eqb}
use Rattle.std.proofs.lemmas.Slice.Eq.{bytes_eq-Decides}
use Rattle.std.specs.Bool.{Decides}
use Rattle.std.specs.List.{AllByRecursion}
use Rattle.sheet_types.specs.Opening as model
use Rattle.sheet_types.specs.Opening.{Head, Claim, IsBelow, IsNever, IsLeast}
use Rattle.sheet_types.specs.declared.frame.Frame.{Frame}
use Rattle.sheet_types.proofs.Basics.{None≢Some, some_same}
use Rattle.sheet_types.proofs.Same.{In, In-all, Contains-In}
use Rattle.sheet_types.proofs.Every.{All-weaker}
use Rattle.sheet_laws.specs.Laws.{StoreSight}
use Rattle.opening_faults.specs.Sights as sights
use Rattle.opening_faults.specs.declared.faults.RecoverFault.{RecoverFault}
use Rattle.opening_faults.specs.declared.faults.RecoverFault.TheVariants.{NoArchive, TwoArchives, NotAPackage}
use Rattle.opening_faults.specs.declared.faults.RecoverFault.TheVariants.{TwoCopies, MissingPackage, ForeignFrame}
use Rattle.opening_faults.specs.declared.faults.RecoverFault.TheVariants.{Dangling, OutOfAccount, Altered}
use Rattle.opening_faults.specs.declared.faults.RecoverFault.TheVariants.{OutOfMemory, StoreFault}
use Rattle.opening_faults.proofs.Carried.{least_same, never_same}
use Rattle.opening_faults.proofs.SameFrames.{one_frame}
use Rattle.opening_verdict.specs.Checks.{HasUnfit, AreChecked, IsFirstOf}
use Rattle.opening_verdict.specs.Views.{is_live_view, live_views, AreInOrder, IsFaultOf}
use Rattle.opening_verdict.proofs.Viewed.{Pair, sights_of, views_of, no_archive_to, two_archives_to, one_to}
use Rattle.opening_verdict.proofs.Viewed.{counted_to, counted_fro, foreign_to, foreign_fro, unfit_to, unfit_fro}

-- ---- what can be decided is so, where it cannot be otherwise

decided : (b : Bool) (P : Type 0) → Decides b P → ((P → ⊥) → ⊥) → P
decided true P d nn = d.0 refl
decided false P d nn = absurd (nn (λ p. true≢false (sym (d.1 p))))

stable_int : (x y : ℤ) → ((x ≡ y → ⊥) → ⊥) → x ≡ y
stable_int x y nn = decided (int_eq x y) (x ≡ y) (Decides-int_eq x y) nn

stable_frame : (f g : Frame) → ((f ≡ g → ⊥) → ⊥) → f ≡ g
stable_frame f g nn = one_frame f g (
  stable_int f.srs_id g.srs_id (λ n. nn (λ e. n (ap (λ x. x.srs_id) e))),
  stable_int f.min_x g.min_x (λ n. nn (λ e. n (ap (λ x. x.min_x) e))),
  stable_int f.min_y g.min_y (λ n. nn (λ e. n (ap (λ x. x.min_y) e))),
  stable_int f.max_x g.max_x (λ n. nn (λ e. n (ap (λ x. x.max_x) e))),
  stable_int f.max_y g.max_y (λ n. nn (λ e. n (ap (λ x. x.max_y) e))),
) (
  stable_int f.tile_width g.tile_width (λ n. nn (λ e. n (ap (λ x. x.tile_width) e))),
  stable_int f.tile_height g.tile_height (λ n. nn (λ e. n (ap (λ x. x.tile_height) e))),
  stable_int f.first_zoom g.first_zoom (λ n. nn (λ e. n (ap (λ x. x.first_zoom) e))),
  stable_int f.levels g.levels (λ n. nn (λ e. n (ap (λ x. x.levels) e))),
  stable_int f.matrix_width g.matrix_width (λ n. nn (λ e. n (ap (λ x. x.matrix_width) e))),
  stable_int f.matrix_height g.matrix_height (λ n. nn (λ e. n (ap (λ x. x.matrix_height) e))),
)

stable_some : (o : Option (List ℕ)) (x : List ℕ) → ((o ≡ Some x → ⊥) → ⊥) → o ≡ Some x
stable_some None x nn = absurd (nn (λ e. None≢Some e))
stable_some (Some y) x nn = ap Some (decided (bytes_eq y x) (y ≡ x) (bytes_eq-Decides y x)
    (λ n. nn (λ e. n (some_same e))))

stable_below : (a b : Option Head) → ((IsBelow a b → ⊥) → ⊥) → IsBelow a b
stable_below None None nn = nn (λ x. x)
stable_below None (Some b) nn = nn (λ x. x)
stable_below (Some a) None nn = nn (λ x. x)
stable_below (Some a) (Some b) nn = (
  stable_some b.parent a.uuid (λ n. nn (λ e. n e.0)),
  decided (b.depth == a.depth + 1) (b.depth ≡ a.depth + 1) (Decides-eqb b.depth (a.depth + 1))
      (λ n. nn (λ e. n e.1)),
)

module _ (ps : List Pair) where
  abbrev pub formed_of : List Bool
  formed_of = map (λ p. p.seen.is_formed) ps

  abbrev pub tied_of : List Bool
  tied_of = map (λ p. p.seen.is_tied) ps

  -- ---- fault by fault

  never_unformed : IsNever (HasUnfit (sights_of ps) formed_of)
      → IsNever (model.NotAPackage StoreSight (λ v. v.head) (λ v. v.claims) (λ v. v.is_formed ≡ true)
      (λ v. v.is_tied ≡ true) (λ v. v.frame) (λ v. v.reads_as) (views_of ps))
  never_unformed h = never_same (HasUnfit (sights_of ps) formed_of)
      (model.NotAPackage StoreSight (λ v. v.head) (λ v. v.claims) (λ v. v.is_formed ≡ true)
      (λ v. v.is_tied ≡ true)
      (λ v. v.frame) (λ v. v.reads_as) (views_of ps)) (λ id f. unfit_fro ps (λ x. x.is_formed) (λ v. v.is_formed)
      (λ p. p.is.formed) id f.0 f.1 f.2 f.3) h

  least_unformed : (id : List ℕ) → IsLeast (HasUnfit (sights_of ps) formed_of) id
      → IsLeast (model.NotAPackage StoreSight (λ v. v.head) (λ v. v.claims) (λ v. v.is_formed ≡ true)
      (λ v. v.is_tied ≡ true) (λ v. v.frame) (λ v. v.reads_as) (views_of ps)) id
  least_unformed id h = least_same (HasUnfit (sights_of ps) formed_of)
      (model.NotAPackage StoreSight (λ v. v.head) (λ v. v.claims) (λ v. v.is_formed ≡ true)
      (λ v. v.is_tied ≡ true)
      (λ v. v.frame) (λ v. v.reads_as) (views_of ps)) (unfit_to ps (λ x. x.is_formed) (λ v. v.is_formed)
      (λ p. p.is.formed)) (λ k f. unfit_fro ps (λ x. x.is_formed) (λ v. v.is_formed) (λ p. p.is.formed) k f.0 f.1
      f.2
      f.3) id h

  never_untied : IsNever (HasUnfit (sights_of ps) tied_of) → IsNever
      (model.Dangling StoreSight (λ v. v.head) (λ v. v.claims) (λ v. v.is_formed ≡ true) (λ v. v.is_tied ≡ true)
      (λ v. v.frame) (λ v. v.reads_as) (views_of ps))
  never_untied h = never_same (HasUnfit (sights_of ps) tied_of)
      (model.Dangling StoreSight (λ v. v.head) (λ v. v.claims) (λ v. v.is_formed ≡ true) (λ v. v.is_tied ≡ true)
      (λ v. v.frame) (λ v. v.reads_as) (views_of ps)) (λ id f. unfit_fro ps (λ x. x.is_tied) (λ v. v.is_tied)
      (λ p. p.is.tied) id f.0 f.1 f.2 f.3) h

  least_untied : (id : List ℕ) → IsLeast (HasUnfit (sights_of ps) tied_of) id
      → IsLeast (model.Dangling StoreSight (λ v. v.head) (λ v. v.claims) (λ v. v.is_formed ≡ true)
      (λ v. v.is_tied ≡ true) (λ v. v.frame) (λ v. v.reads_as) (views_of ps)) id
  least_untied id h = least_same (HasUnfit (sights_of ps) tied_of)
      (model.Dangling StoreSight (λ v. v.head) (λ v. v.claims) (λ v. v.is_formed ≡ true) (λ v. v.is_tied ≡ true)
      (λ v. v.frame) (λ v. v.reads_as) (views_of ps)) (unfit_to ps (λ x. x.is_tied) (λ v. v.is_tied)
      (λ p. p.is.tied))
      (λ k f. unfit_fro ps (λ x. x.is_tied) (λ v. v.is_tied) (λ p. p.is.tied) k f.0 f.1 f.2 f.3) id h

  never_copied : IsNever (sights.TwoCopies (sights_of ps)) → IsNever
      (model.TwoCopies StoreSight (λ v. v.head) (λ v. v.claims) (λ v. v.is_formed ≡ true)
      (λ v. v.is_tied ≡ true)
      (λ v. v.frame) (λ v. v.reads_as) (views_of ps))
  never_copied h = never_same (sights.TwoCopies (sights_of ps))
      (model.TwoCopies StoreSight (λ v. v.head) (λ v. v.claims) (λ v. v.is_formed ≡ true)
      (λ v. v.is_tied ≡ true)
      (λ v. v.frame) (λ v. v.reads_as) (views_of ps)) (counted_fro ps (nat_le 2)) h

  least_copied : (id : List ℕ) → IsLeast (sights.TwoCopies (sights_of ps)) id
      → IsLeast (model.TwoCopies StoreSight (λ v. v.head) (λ v. v.claims) (λ v. v.is_formed ≡ true)
      (λ v. v.is_tied ≡ true) (λ v. v.frame) (λ v. v.reads_as) (views_of ps)) id
  least_copied id h = least_same (sights.TwoCopies (sights_of ps))
      (model.TwoCopies StoreSight (λ v. v.head) (λ v. v.claims) (λ v. v.is_formed ≡ true)
      (λ v. v.is_tied ≡ true)
      (λ v. v.frame) (λ v. v.reads_as) (views_of ps)) (counted_to ps (nat_le 2)) (counted_fro ps (nat_le 2)) id h

  never_missing : IsNever (sights.MissingPackage (sights_of ps))
      → IsNever (model.MissingPackage StoreSight (λ v. v.head) (λ v. v.claims) (λ v. v.is_formed ≡ true)
      (λ v. v.is_tied ≡ true) (λ v. v.frame) (λ v. v.reads_as) (views_of ps))
  never_missing h = never_same (sights.MissingPackage (sights_of ps))
      (model.MissingPackage StoreSight (λ v. v.head) (λ v. v.claims) (λ v. v.is_formed ≡ true)
      (λ v. v.is_tied ≡ true)
      (λ v. v.frame) (λ v. v.reads_as) (views_of ps)) (counted_fro ps (λ n. n == 0)) h

  least_missing : (id : List ℕ) → IsLeast (sights.MissingPackage (sights_of ps)) id
      → IsLeast (model.MissingPackage StoreSight (λ v. v.head) (λ v. v.claims) (λ v. v.is_formed ≡ true)
      (λ v. v.is_tied ≡ true) (λ v. v.frame) (λ v. v.reads_as) (views_of ps)) id
  least_missing id h = least_same (sights.MissingPackage (sights_of ps))
      (model.MissingPackage StoreSight (λ v. v.head) (λ v. v.claims) (λ v. v.is_formed ≡ true)
      (λ v. v.is_tied ≡ true)
      (λ v. v.frame) (λ v. v.reads_as) (views_of ps)) (counted_to ps (λ n. n == 0)) (counted_fro ps (λ n. n == 0))
      id
      h

  never_foreign : IsNever (sights.ForeignFrame (sights_of ps))
      → IsNever (model.ForeignFrame StoreSight (λ v. v.head) (λ v. v.claims) (λ v. v.is_formed ≡ true)
      (λ v. v.is_tied ≡ true) (λ v. v.frame) (λ v. v.reads_as) (views_of ps))
  never_foreign h = never_same (sights.ForeignFrame (sights_of ps))
      (model.ForeignFrame StoreSight (λ v. v.head) (λ v. v.claims) (λ v. v.is_formed ≡ true)
      (λ v. v.is_tied ≡ true)
      (λ v. v.frame) (λ v. v.reads_as) (views_of ps)) (foreign_fro ps) h

  least_foreign : (id : List ℕ) → IsLeast (sights.ForeignFrame (sights_of ps)) id
      → IsLeast (model.ForeignFrame StoreSight (λ v. v.head) (λ v. v.claims) (λ v. v.is_formed ≡ true)
      (λ v. v.is_tied ≡ true) (λ v. v.frame) (λ v. v.reads_as) (views_of ps)) id
  least_foreign id h = least_same (sights.ForeignFrame (sights_of ps))
      (model.ForeignFrame StoreSight (λ v. v.head) (λ v. v.claims) (λ v. v.is_formed ≡ true)
      (λ v. v.is_tied ≡ true)
      (λ v. v.frame) (λ v. v.reads_as) (views_of ps)) (foreign_to ps) (foreign_fro ps) id h

  pub first_fault : (f : RecoverFault) → IsFirstOf (sights_of ps) formed_of tied_of f → IsFaultOf (views_of ps) f
  first_fault NoArchive h = no_archive_to ps h
  first_fault TwoArchives h = two_archives_to ps h
  first_fault (NotAPackage id) h = (one_to ps h.0, least_unformed id h.1)
  first_fault (TwoCopies id) h = (one_to ps h.0, never_unformed h.1, least_copied id h.2)
  first_fault (MissingPackage id) h = (one_to ps h.0, never_unformed h.1, never_copied h.2, least_missing id h.3)
  first_fault (ForeignFrame id) h = (
    one_to ps h.0,
    never_unformed h.1,
    never_copied h.2,
    never_missing h.3,
    least_foreign id h.4,
  )
  first_fault (Dangling id) h = (
    one_to ps h.0,
    never_unformed h.1,
    never_copied h.2,
    never_missing h.3,
    never_foreign
        h.4,
    least_untied id h.5,
  )
  first_fault OutOfAccount h = absurd h
  first_fault (Altered id) h = absurd h
  first_fault OutOfMemory h = tt
  first_fault StoreFault h = absurd h

  -- ---- none of them

  all_fit : (test : StoreSight → Bool) → ((id : List ℕ) (v : StoreSight) → Contains (live_views (views_of ps)) v
      → model.uuid_of StoreSight (λ v. v.head) (λ v. v.claims) (λ v. v.is_formed ≡ true)
      (λ v. v.is_tied ≡ true)
      (λ v. v.frame) (λ v. v.reads_as) v ≡ id → (test v ≡ true → ⊥) → ⊥)
      → AllByRecursion (λ v. test v ≡ true) (live_views (views_of ps))
  all_fit test never = All-weaker (λ v. In v (live_views (views_of ps))) (λ v. test v ≡ true)
      (λ v i. is_true (test v) (λ down. never (model.uuid_of StoreSight (λ v. v.head) (λ v. v.claims)
      (λ v. v.is_formed ≡ true) (λ v. v.is_tied ≡ true) (λ v. v.frame) (λ v. v.reads_as) v) v
      (Contains-In v (live_views (views_of ps)) i) refl (λ up. true≢false (sym up ∙ down))))
      (live_views (views_of ps)) (In-all (live_views (views_of ps)))
    where
      is_true : (b : Bool) → (b ≡ false → ⊥) → b ≡ true
      is_true true f = refl
      is_true false f = absurd (f refl)

  at_home : IsNever (model.ForeignFrame StoreSight (λ v. v.head) (λ v. v.claims) (λ v. v.is_formed ≡ true)
      (λ v. v.is_tied ≡ true) (λ v. v.frame) (λ v. v.reads_as) (views_of ps))
      → (s : StoreSight) (c : Claim) (loan : StoreSight) → model.IsAtHome StoreSight (λ v. v.head) (λ v. v.claims)
      (λ v. v.is_formed ≡ true) (λ v. v.is_tied ≡ true) (λ v. v.frame) (λ v. v.reads_as) (views_of ps) s c loan
  at_home never s c loan = λ root is there open' here made. (
    stable_frame loan.frame root.frame (λ differ. never (model.uuid_of StoreSight (λ v. v.head) (λ v. v.claims)
        (λ v. v.is_formed ≡ true) (λ v. v.is_tied ≡ true) (λ v. v.frame) (λ v. v.reads_as) loan)
        (root, s, c, loan, is, there, open', here, made, refl, inl differ)),
    stable_below s.head loan.head (λ off. never (model.uuid_of StoreSight (λ v. v.head) (λ v. v.claims)
        (λ v. v.is_formed ≡ true) (λ v. v.is_tied ≡ true) (λ v. v.frame) (λ v. v.reads_as) loan)
        (root, s, c, loan, is, there, open', here, made, refl, inr off)),
  )

  pub in_order : AreChecked (sights_of ps) formed_of tied_of → AreInOrder (views_of ps)
  in_order h = record {
    one_archive = one_to ps h.one;
    formed = all_fit (λ v. v.is_formed) (λ id v there named fails. never_unformed h.formed_all id
        (v, there, named, fails));
    no_copies = never_copied h.no_copies;
    none_missing = never_missing h.none_missing;
    at_home = at_home (never_foreign h.at_home);
    tied = all_fit (λ v. v.is_tied) (λ id v there named fails. never_untied h.tied_all id (v, there, named, fails));
  }
