-- Stores that do not live by glances at all of them may be left out.
use Rattle.std.specs.Prelude.{◌≡◌, suc, pos, true, List, [], ◌∷◌, map, length, refl}
use Rattle.std.proofs.Common.{sym, ap, subst, ◌∙◌, inl, inr}
use Rattle.std.proofs.lemmas.List.{length-map}
use Rattle.std.specs.List.{AllZip}
use Rattle.sqlite.specs.Effect.{Database}
use Rattle.sheet_laws.specs.Laws.{StoreSight, StoresStandFor}
use Rattle.opening_faults.specs.Sights.{head_seen, claims_seen}
use Rattle.opening_faults.specs.declared.sights.Sight.{Sight}
use Rattle.opening_verdict.specs.Views.{is_live_view, live_views}
use Rattle.opening_v1.specs.Either.{IsViewAtEither}
use Rattle.opening_live.specs.Chosen.{flagged, live_flags}
use Rattle.opening_live.proofs.Seen.{Pair, flags_are}
use Rattle.opening_live.proofs.Flags.{flagged_by, put_together}
use Rattle.opening_live.proofs.Alone.{stand_to}
use Rattle.opening_glances.specs.Glances.{IsGlanceOf, ReadsEitherHead}
use Rattle.opening_glances.specs.Laws.{LeftOutStand}
use Rattle.opening_glances.proofs.Lone.{heads_same, claims_same}

-- a view beside a glance at the same store
beside : (db : Database) (v : StoreSight) (t : Sight) → IsGlanceOf db t → IsViewAtEither db v → Pair
beside db v t glance (inl first) = record {
  view = v;
  sight = t;
  heads = first_head glance.head;
  claims = claims_same db (claims_seen t) v.claims glance.claims first.1.claims;
}
  where
    first_head : ReadsEitherHead db (head_seen t) → head_seen t ≡ v.head
    first_head (inl said) = heads_same (pos 1) db (head_seen t) v.head said.1 first.1.head
    first_head (inr said) = absurd (said.0 first.0)
beside db v t glance (inr second) = record {
  view = v;
  sight = t;
  heads = second_head glance.head;
  claims = claims_same db (claims_seen t) v.claims glance.claims second.1.claims;
}
  where
    second_head : ReadsEitherHead db (head_seen t) → head_seen t ≡ v.head
    second_head (inl said) = absurd (second.0 said.0)
    second_head (inr said) = heads_same (pos 2) db (head_seen t) v.head said.1 second.1.head

view_beside : (db : Database) (v : StoreSight) (t : Sight) (g : IsGlanceOf db t) (is : IsViewAtEither db v)
    → (beside db v t g is).view ≡ v
unfolding beside
view_beside db v t g (inl first) = refl
view_beside db v t g (inr second) = refl

sight_beside : (db : Database) (v : StoreSight) (t : Sight) (g : IsGlanceOf db t) (is : IsViewAtEither db v)
    → (beside db v t g is).sight ≡ t
unfolding beside
sight_beside db v t g (inl first) = refl
sight_beside db v t g (inr second) = refl

-- of all stores, in turn
all_beside : (dbs : List Database) (sights : List Sight) (views : List StoreSight) → AllZip IsGlanceOf dbs sights
    → AllZip IsViewAtEither dbs views
    → (ps : List Pair) × (map (λ p. p.sight) ps ≡ sights) × (map (λ p. p.view) ps ≡ views)
all_beside [] [] [] g h = ([], refl, refl)
all_beside [] [] (v ∷ vs) g h = absurd h
all_beside [] (t ∷ ts) vs g h = absurd g
all_beside (db ∷ dbs) [] vs g h = absurd g
all_beside (db ∷ dbs) (t ∷ ts) [] g h = absurd h
all_beside (db ∷ dbs) (t ∷ ts) (v ∷ vs) g h =
    let r : (ps : List Pair) × (map (λ p. p.sight) ps ≡ ts) × (map (λ p. p.view) ps ≡ vs) =
    all_beside dbs ts vs g.1 h.1 in (
      beside db v t g.0 h.0 ∷ r.0,
      ap (λ x. x ∷ map (λ p. p.sight) r.0) (sight_beside db v t g.0 h.0) ∙ ap (λ xs. t ∷ xs) r.1,
      ap (λ x. x ∷ map (λ p. p.view) r.0) (view_beside db v t g.0 h.0) ∙ ap (λ xs. v ∷ xs) r.2,
    )

-- so glances tell which views live
pub told_live : (dbs : List Database) (sights : List Sight) (views : List StoreSight) → AllZip IsGlanceOf dbs sights
    → AllZip IsViewAtEither dbs views
    → live_flags sights ≡ map (is_live_view views) views
told_live dbs sights views g h =
    let r = all_beside dbs sights views g h in
    ap live_flags (sym r.1) ∙ flags_are r.0 ∙ ap (λ vs. map (is_live_view vs) vs) r.2

as_long : (dbs : List Database) (sights : List Sight) → AllZip IsGlanceOf dbs sights → length sights ≡ length dbs
as_long [] [] g = refl
as_long [] (t ∷ ts) g = absurd g
as_long (db ∷ dbs) [] g = absurd g
as_long (db ∷ dbs) (t ∷ ts) g = ap (λ n. suc n) (as_long dbs ts g.1)

pub left_out_stand : LeftOutStand
left_out_stand dbs sights live others w g opened left stands =
    let long : length (live_flags sights) ≡ length dbs = length-map sights _ ∙ as_long dbs sights g in
    let r : (views : List StoreSight) × AllZip IsViewAtEither dbs views
    × (flagged (live_flags sights) views ≡ live) =
    put_together IsViewAtEither dbs (live_flags sights) live others long opened left in
    let taken : live ≡ live_views r.0 = sym r.2 ∙ ap (λ flags. flagged flags r.0) (told_live dbs sights r.0 g r.1)
    ∙ flagged_by (is_live_view r.0) r.0 in (
      r.0,
      r.1,
      stand_to StoreSight (λ v. v.head) (λ v. v.claims) (λ v. v.is_formed ≡ true) (λ v. v.is_tied ≡ true)
          (λ v. v.frame) (λ v. v.reads_as) r.0 w (subst (λ vs. StoresStandFor vs w) taken stands),
    )
