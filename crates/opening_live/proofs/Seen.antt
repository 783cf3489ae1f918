-- Which stores live depends on their heads and their claims alone.
use Rattle.std.specs.Prelude.{◌≡◌, ◌==◌, ℕ, zero, suc, Bool, true, false, ◌&&◌, ◌||◌, List, []}
use Rattle.std.specs.Prelude.{◌∷◌, ◌++◌, map}
use Rattle.std.specs.Prelude.{filter, length, refl, Option, flat_map}
use Rattle.std.proofs.Common.{sym, ap, ◌∙◌}
use Rattle.std.proofs.lemmas.List.{length-map}
use Rattle.std.specs.List.{list_any}
use Rattle.std.specs.Option.{option_map_or}
use Rattle.sheet_types.specs.World.{Package}
use Rattle.sheet_types.specs.Opening as model
use Rattle.sheet_types.specs.Opening.{Head, Claim, is_open_claim}
use Rattle.sheet_types.specs.declared.frame.Frame.{Frame}
use Rattle.sheet_laws.specs.Laws.{StoreSight}
use Rattle.opening_faults.specs.Sights.{Any, nothing_read, head_seen, claims_seen, frame_seen, is_live_store}
use Rattle.opening_faults.specs.declared.sights.Sight.{Sight}
use Rattle.opening_faults.proofs.Carried.{filter_seen}
use Rattle.opening_faults.proofs.Turning.{map_same, map_map}
use Rattle.opening_live.specs.Chosen.{live_flags}
use Rattle.opening_verdict.specs.Views.{is_live_view}

flat_seen : {X Y Z : Type 0} (see : X → Y) (f : X → List Z) (g : Y → List Z) → ((x : X) → g (see x) ≡ f x)
    → (xs : List X) → flat_map g (map see xs) ≡ flat_map f xs
flat_seen see f g same [] = refl
flat_seen see f g same (x ∷ xs) = ap (λ ys. ys ++ flat_map g (map see xs)) (same x)
    ∙ ap (λ ys. f x ++ ys) (flat_seen see f g same xs)

any_same : {X : Type 0} (p q : X → Bool) → ((x : X) → q x ≡ p x) → (xs : List X)
    → list_any q xs ≡ list_any p xs
any_same p q same [] = refl
any_same p q same (x ∷ xs) = ap (λ b. b || list_any q xs) (same x) ∙ ap (λ b. p x || b) (any_same p q same xs)

module _ (Store Seen : Type 0)
    (head : Store → Option Head) (claims : Store → List Claim) (IsFormed : Store → Type 0)
    (IsTied : Store → Type 0)
    (frame_of : Store → Frame) (read : Store → Package)
    (head' : Seen → Option Head) (claims' : Seen → List Claim) (IsFormed' : Seen → Type 0)
    (IsTied' : Seen → Type 0)
    (frame_of' : Seen → Frame) (read' : Seen → Package)
    (see : Store → Seen) (same_head : (s : Store) → head' (see s) ≡ head s)
    (same_claims : (s : Store) → claims' (see s) ≡ claims s) (stores : List Store) where
  abbrev at : ℕ → Store → Bool
  at k s = model.is_reached Store head claims IsFormed IsTied frame_of read k stores s

  abbrev at' : ℕ → Seen → Bool
  at' k s = model.is_reached Seen head' claims' IsFormed' IsTied' frame_of' read' k (map see stores) s

  abbrev said : ℕ → List Claim
  said k = model.claims_at Store head claims IsFormed IsTied frame_of read k stores

  abbrev said' : ℕ → List Claim
  said' k = model.claims_at Seen head' claims' IsFormed' IsTied' frame_of' read' k (map see stores)

  abbrev loan_of : Claim → Store → Bool
  loan_of c s = model.is_loan_of Store head claims IsFormed IsTied frame_of read c s

  abbrev loan_of' : Claim → Seen → Bool
  loan_of' c s = model.is_loan_of Seen head' claims' IsFormed' IsTied' frame_of' read' c s

  loan_seen : (c : Claim) (s : Store) → loan_of' c (see s) ≡ loan_of c s
  loan_seen c s = ap (λ h. model.is_loan_of (Option Head) (λ x. x) (λ x. []) (λ x. Unit {0}) (λ x. Unit {0})
      (λ x. frame_of s) (λ x. read s) c h) (same_head s)

  said_by : (k : ℕ) → ((s : Store) → at' k (see s) ≡ at k s) → said' k ≡ said k
  said_by k h = ap (flat_map claims') (filter_seen see (at k) (at' k) h stores)
      ∙ flat_seen see claims claims' same_claims (filter (at k) stores)

  reached_seen : (k : ℕ) (s : Store) → at' k (see s) ≡ at k s
  reached_seen zero s = ap (λ h. option_map_or (λ x. x.depth == 0) h false) (same_head s)
  reached_seen (suc k) s =
      let same : said' k ≡ said k = said_by k (reached_seen k) in
      ap (λ b. b || list_any (λ c. loan_of' c (see s) && is_open_claim (said' k) c) (said' k)) (reached_seen k s)
      ∙ ap (λ cs. at k s || list_any (λ c. loan_of' c (see s) && is_open_claim cs c) cs) same
      ∙ ap (λ b. at k s || b) (any_same (λ c. loan_of c s && is_open_claim (said k) c)
      (λ c. loan_of' c (see s) && is_open_claim (said k) c)
      (λ c. ap (λ b. b && is_open_claim (said k) c) (loan_seen c s)) (said k))

  pub live_seen : (s : Store) → model.is_live_store Seen head' claims' IsFormed' IsTied' frame_of' read'
      (map see stores) (see s) ≡ model.is_live_store Store head claims IsFormed IsTied frame_of read stores s
  live_seen s = ap (λ n. at' n (see s)) (length-map stores see) ∙ reached_seen (length stores) s

-- ---- a view beside a sight of the same store

pub record Pair : Type 0 where
  pub view : StoreSight
  pub sight : Sight
  pub heads : head_seen sight ≡ view.head
  pub claims : claims_seen sight ≡ view.claims

abbrev nothing_of : Pair → Package
nothing_of p = p.view.reads_as

abbrev AnyPair : Pair → Type 0
AnyPair p = Unit {0}

-- the sights tell which views live
pub flags_are : (ps : List Pair) → live_flags (map (λ p. p.sight) ps)
    ≡ map (is_live_view (map (λ p. p.view) ps)) (map (λ p. p.view) ps)
flags_are ps =
    map_map (λ p. p.sight) (is_live_store (map (λ p. p.sight) ps)) ps
    ∙ map_same (λ p. is_live_store (map (λ q. q.sight) ps) p.sight)
    (λ p. is_live_view (map (λ q. q.view) ps) p.view)
    (λ p. live_seen Pair Sight (λ q. q.view.head) (λ q. q.view.claims) AnyPair AnyPair (λ q. q.view.frame)
    nothing_of
    head_seen claims_seen Any Any frame_seen nothing_read (λ q. q.sight) (λ q. q.heads) (λ q. q.claims) ps p
    ∙ sym (live_seen Pair StoreSight (λ q. q.view.head) (λ q. q.view.claims) AnyPair AnyPair (λ q. q.view.frame)
    nothing_of (λ v. v.head) (λ v. v.claims) (λ v. v.is_formed ≡ true) (λ v. v.is_tied ≡ true) (λ v. v.frame)
    (λ v. v.reads_as) (λ q. q.view) (λ q. refl) (λ q. refl) ps p)) ps
    ∙ sym (map_map (λ p. p.view) (is_live_view (map (λ p. p.view) ps)) ps)
