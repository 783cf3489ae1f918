-- The words of opening over stores beside their sights: where each store has the head, the claims and the frame of
-- the sight at its place, each word of the sights is that of the stores.
use Rattle.std.specs.Prelude.{◌≡◌, ℕ, Bool, List, [], ◌∷◌, map, Option, ⊤}
use Rattle.std.proofs.Common.{refl, sym, ap, subst, ◌∙◌}
use Rattle.sheet_types.specs.World.{Package}
use Rattle.sheet_types.specs.Opening as model
use Rattle.sheet_types.specs.Opening.{Head, Claim}
use Rattle.sheet_types.specs.declared.frame.Frame.{Frame}
use Rattle.opening_faults.specs.Sights.{Any, nothing_read, head_seen, claims_seen, frame_seen, is_live_store}
use Rattle.opening_faults.specs.Sights.{NoArchive, TwoArchives, ForeignFrame}
use Rattle.opening_faults.specs.declared.sights.Sight.{Sight}
use Rattle.opening_faults.specs.Passages.{passages}
use Rattle.opening_faults.proofs.Carried as carried
use Rattle.opening_faults.proofs.Turning.{map_same, map_map}

module _ (Store : Type 0) (head : Store → Option Head) (claims : Store → List Claim) (IsFormed : Store → Type 0)
    (IsTied : Store → Type 0) (frame_of : Store → Frame) (read : Store → Package) where
  -- the sight says of itself what the store does
  pub record IsBeside (s : Store) (t : Sight) : Type 0 where
    pub head_is : head_seen t ≡ head s
    pub claims_are : claims_seen t ≡ claims s
    pub frame_is : frame_seen t ≡ frame_of s

  abbrev pub AreBeside : List Store → List Sight → Type 0
  AreBeside [] [] = ⊤
  AreBeside [] (t ∷ ts) = ⊥
  AreBeside (s ∷ ss) [] = ⊥
  AreBeside (s ∷ ss) (t ∷ ts) = IsBeside s t × AreBeside ss ts

  pub record Pair : Type 0 where
    pub store : Store
    pub sight : Sight
    pub beside : IsBeside store sight

  pub paired : (ss : List Store) (ts : List Sight) → AreBeside ss ts → (ps : List Pair)
      × (map (λ p. p.store) ps ≡ ss)
      × (map (λ p. p.sight) ps ≡ ts)
  paired [] [] h = ([], refl, refl)
  paired [] (t ∷ ts) h = absurd h
  paired (s ∷ ss) [] h = absurd h
  paired (s ∷ ss) (t ∷ ts) h =
      let r : (ps : List Pair) × (map (λ p. p.store) ps ≡ ss) × (map (λ p. p.sight) ps ≡ ts) =
      paired ss ts h.1 in
      (record { store = s; sight = t; beside = h.0 } ∷ r.0, ap (λ xs. s ∷ xs) r.1, ap (λ xs. t ∷ xs) r.2)

  abbrev head_of_pair : Pair → Option Head
  head_of_pair p = head p.store

  abbrev claims_of_pair : Pair → List Claim
  claims_of_pair p = claims p.store

  abbrev frame_of_pair : Pair → Frame
  frame_of_pair p = frame_of p.store

  abbrev AnyPair : Pair → Type 0
  AnyPair p = ⊤

  abbrev read_of_pair : Pair → Package
  read_of_pair p = read p.store

  module _ (stores : List Store) (sights : List Sight) (all : AreBeside stores sights) where
    abbrev pairs : List Pair
    pairs = (paired stores sights all).0

    -- a fact of the stores is one of the sights, where it goes from the pairs to either
    over : (P : List Store → Type 0) (Q : List Pair → Type 0) (R : List Sight → Type 0)
        → ((ps : List Pair) → P (map (λ p. p.store) ps) → Q ps)
        → ((ps : List Pair) → Q ps → R (map (λ p. p.sight) ps)) → P stores → R sights
    over P Q R down up h = subst R (paired stores sights all).2
        (up pairs (down pairs (subst P (sym (paired stores sights all).1) h)))

    back : (P : List Store → Type 0) (Q : List Pair → Type 0) (R : List Sight → Type 0)
        → ((ps : List Pair) → R (map (λ p. p.sight) ps) → Q ps)
        → ((ps : List Pair) → Q ps → P (map (λ p. p.store) ps)) → R sights → P stores
    back P Q R down up h = subst P (paired stores sights all).1
        (up pairs (down pairs (subst R (sym (paired stores sights all).2) h)))

    pub no_archive_seen : model.NoArchive Store head claims IsFormed IsTied frame_of read stores → NoArchive sights
    no_archive_seen = over (model.NoArchive Store head claims IsFormed IsTied frame_of read)
        (model.NoArchive Pair head_of_pair claims_of_pair AnyPair AnyPair frame_of_pair read_of_pair) NoArchive
        (carried.no_archive_fro Pair Store head_of_pair claims_of_pair AnyPair AnyPair frame_of_pair read_of_pair head
        claims IsFormed IsTied frame_of read (λ p. p.store) (λ p. refl) (λ p. refl) (λ p. refl))
        (carried.no_archive_to Pair Sight head_of_pair claims_of_pair AnyPair AnyPair frame_of_pair read_of_pair
        head_seen claims_seen Any Any frame_seen nothing_read (λ p. p.sight) (λ p. p.beside.head_is)
        (λ p. ap passages p.beside.claims_are) (λ p. p.beside.frame_is))

    pub no_archive_said : NoArchive sights → model.NoArchive Store head claims IsFormed IsTied frame_of read stores
    no_archive_said = back (model.NoArchive Store head claims IsFormed IsTied frame_of read)
        (model.NoArchive Pair head_of_pair claims_of_pair AnyPair AnyPair frame_of_pair read_of_pair) NoArchive
        (carried.no_archive_fro Pair Sight head_of_pair claims_of_pair AnyPair AnyPair frame_of_pair read_of_pair
        head_seen claims_seen Any Any frame_seen nothing_read (λ p. p.sight) (λ p. p.beside.head_is)
        (λ p. ap passages p.beside.claims_are) (λ p. p.beside.frame_is))
        (carried.no_archive_to Pair Store head_of_pair claims_of_pair AnyPair AnyPair frame_of_pair read_of_pair head
        claims IsFormed IsTied frame_of read (λ p. p.store) (λ p. refl) (λ p. refl) (λ p. refl))

    pub two_archives_seen : model.TwoArchives Store head claims IsFormed IsTied frame_of read stores
        → TwoArchives sights
    two_archives_seen = over (model.TwoArchives Store head claims IsFormed IsTied frame_of read)
        (model.TwoArchives Pair head_of_pair claims_of_pair AnyPair AnyPair frame_of_pair read_of_pair) TwoArchives
        (carried.two_archives_fro Pair Store head_of_pair claims_of_pair AnyPair AnyPair frame_of_pair read_of_pair
        head claims IsFormed IsTied frame_of read (λ p. p.store) (λ p. refl) (λ p. refl) (λ p. refl))
        (carried.two_archives_to Pair Sight head_of_pair claims_of_pair AnyPair AnyPair frame_of_pair read_of_pair
        head_seen claims_seen Any Any frame_seen nothing_read (λ p. p.sight) (λ p. p.beside.head_is)
        (λ p. ap passages p.beside.claims_are) (λ p. p.beside.frame_is))

    pub two_archives_said : TwoArchives sights → model.TwoArchives Store head claims IsFormed IsTied frame_of read
        stores
    two_archives_said = back (model.TwoArchives Store head claims IsFormed IsTied frame_of read)
        (model.TwoArchives Pair head_of_pair claims_of_pair AnyPair AnyPair frame_of_pair read_of_pair) TwoArchives
        (carried.two_archives_fro Pair Sight head_of_pair claims_of_pair AnyPair AnyPair frame_of_pair read_of_pair
        head_seen claims_seen Any Any frame_seen nothing_read (λ p. p.sight) (λ p. p.beside.head_is)
        (λ p. ap passages p.beside.claims_are) (λ p. p.beside.frame_is))
        (carried.two_archives_to Pair Store head_of_pair claims_of_pair AnyPair AnyPair frame_of_pair read_of_pair
        head claims IsFormed IsTied frame_of read (λ p. p.store) (λ p. refl) (λ p. refl) (λ p. refl))

    -- of a count: two copies and none
    pub counted_seen : (test : ℕ → Bool) (id : List ℕ) → model.Counted Store head claims IsFormed IsTied
        frame_of read
        test stores id → model.Counted Sight head_seen claims_seen Any Any frame_seen nothing_read test sights id
    counted_seen test id = over (λ xs. model.Counted Store head claims IsFormed IsTied frame_of read test xs id)
        (λ xs. model.Counted Pair head_of_pair claims_of_pair AnyPair AnyPair frame_of_pair read_of_pair test xs id)
        (λ xs. model.Counted Sight head_seen claims_seen Any Any frame_seen nothing_read test xs id)
        (λ ps. carried.counted_fro Pair Store head_of_pair claims_of_pair AnyPair AnyPair frame_of_pair read_of_pair
        head claims IsFormed IsTied frame_of read (λ p. p.store) (λ p. refl) (λ p. refl) (λ p. refl) ps test id)
        (λ ps. carried.counted_to Pair Sight head_of_pair claims_of_pair AnyPair AnyPair frame_of_pair read_of_pair
        head_seen claims_seen Any Any frame_seen nothing_read (λ p. p.sight) (λ p. p.beside.head_is)
        (λ p. ap passages p.beside.claims_are) (λ p. p.beside.frame_is) ps test id)

    pub counted_said : (test : ℕ → Bool) (id : List ℕ) → model.Counted Sight head_seen claims_seen Any Any
        frame_seen
        nothing_read test sights id → model.Counted Store head claims IsFormed IsTied frame_of read test stores id
    counted_said test id = back (λ xs. model.Counted Store head claims IsFormed IsTied frame_of read test xs id)
        (λ xs. model.Counted Pair head_of_pair claims_of_pair AnyPair AnyPair frame_of_pair read_of_pair test xs id)
        (λ xs. model.Counted Sight head_seen claims_seen Any Any frame_seen nothing_read test xs id)
        (λ ps. carried.counted_fro Pair Sight head_of_pair claims_of_pair AnyPair AnyPair frame_of_pair read_of_pair
        head_seen claims_seen Any Any frame_seen nothing_read (λ p. p.sight) (λ p. p.beside.head_is)
        (λ p. ap passages p.beside.claims_are) (λ p. p.beside.frame_is) ps test id)
        (λ ps. carried.counted_to Pair Store head_of_pair claims_of_pair AnyPair AnyPair frame_of_pair read_of_pair
        head claims IsFormed IsTied frame_of read (λ p. p.store) (λ p. refl) (λ p. refl) (λ p. refl) ps test id)

    pub foreign_seen : (id : List ℕ) → model.ForeignFrame Store head claims IsFormed IsTied frame_of read stores id
        → ForeignFrame sights id
    foreign_seen id = over (λ xs. model.ForeignFrame Store head claims IsFormed IsTied frame_of read xs id)
        (λ xs. model.ForeignFrame Pair head_of_pair claims_of_pair AnyPair AnyPair frame_of_pair read_of_pair xs id)
        (λ xs. ForeignFrame xs id)
        (λ ps. carried.foreign_fro Pair Store head_of_pair claims_of_pair AnyPair AnyPair frame_of_pair read_of_pair
        head claims IsFormed IsTied frame_of read (λ p. p.store) (λ p. refl) (λ p. refl) (λ p. refl) ps id)
        (λ ps. carried.foreign_to Pair Sight head_of_pair claims_of_pair AnyPair AnyPair frame_of_pair read_of_pair
        head_seen claims_seen Any Any frame_seen nothing_read (λ p. p.sight) (λ p. p.beside.head_is)
        (λ p. ap passages p.beside.claims_are) (λ p. p.beside.frame_is) ps id)

    pub foreign_said : (id : List ℕ) → ForeignFrame sights id
        → model.ForeignFrame Store head claims IsFormed IsTied frame_of read stores id
    foreign_said id = back (λ xs. model.ForeignFrame Store head claims IsFormed IsTied frame_of read xs id)
        (λ xs. model.ForeignFrame Pair head_of_pair claims_of_pair AnyPair AnyPair frame_of_pair read_of_pair xs id)
        (λ xs. ForeignFrame xs id)
        (λ ps. carried.foreign_fro Pair Sight head_of_pair claims_of_pair AnyPair AnyPair frame_of_pair read_of_pair
        head_seen claims_seen Any Any frame_seen nothing_read (λ p. p.sight) (λ p. p.beside.head_is)
        (λ p. ap passages p.beside.claims_are) (λ p. p.beside.frame_is) ps id)
        (λ ps. carried.foreign_to Pair Store head_of_pair claims_of_pair AnyPair AnyPair frame_of_pair read_of_pair
        head claims IsFormed IsTied frame_of read (λ p. p.store) (λ p. refl) (λ p. refl) (λ p. refl) ps id)

    -- which are live, place by place
    live_at : (ps : List Pair) → map (is_live_store (map (λ p. p.sight) ps)) (map (λ p. p.sight) ps)
        ≡ map (model.is_live_store Store head claims IsFormed IsTied frame_of read (map (λ p. p.store) ps))
        (map (λ p. p.store) ps)
    live_at ps =
        map_map (λ p. p.sight) (is_live_store (map (λ p. p.sight) ps)) ps
        ∙ map_same (λ p. is_live_store (map (λ q. q.sight) ps) p.sight)
        (λ p. model.is_live_store Store head claims IsFormed IsTied frame_of read (map (λ q. q.store) ps) p.store)
        (λ p. carried.live_store_seen Pair Sight head_of_pair claims_of_pair AnyPair AnyPair frame_of_pair
        read_of_pair head_seen claims_seen Any Any frame_seen nothing_read (λ q. q.sight) (λ q. q.beside.head_is)
        (λ q. ap passages q.beside.claims_are) (λ q. q.beside.frame_is) ps p
        ∙ sym (carried.live_store_seen Pair Store head_of_pair claims_of_pair AnyPair AnyPair frame_of_pair
        read_of_pair head claims IsFormed IsTied frame_of read (λ q. q.store) (λ q. refl) (λ q. refl) (λ q. refl)
        ps p)) ps
        ∙ sym (map_map (λ p. p.store) (model.is_live_store Store head claims IsFormed IsTied frame_of read
        (map (λ p. p.store) ps)) ps)

    pub live_same : map (is_live_store sights) sights ≡ map (model.is_live_store Store head claims IsFormed IsTied
        frame_of read stores) stores
    live_same =
        ap (λ ts. map (is_live_store ts) ts) (sym (paired stores sights all).2) ∙ live_at pairs
        ∙ ap (λ ss. map (model.is_live_store Store head claims IsFormed IsTied frame_of read ss) ss)
        (paired stores sights all).1
