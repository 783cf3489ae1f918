-- One more file behind others.
use Rattle.std.proofs.Common.{◌≡◌, ◌∙◌, ◌<◌, ◌≤◌, ◌+◌, ◌++◌, ◌∷◌, [], ℕ, suc}
use Rattle.std.proofs.Common.{List, Option, Bool, true, false, not, Ok, Err}
use Rattle.std.proofs.Common.{ap, arith, cond, refl, sym, subst, length, take, drop, drop-cons, get_or}
use Rattle.std.specs.Prelude.{count_by}
use Rattle.std.proofs.lemmas.List.{take-append-drop, take_all, take_more}
use Rattle.std.proofs.lemmas.List.Sums.{sum_by-append}
use Rattle.sqlite.specs.Store.{Ghosts}
use Rattle.sheet_types.specs.declared.command.Item.{Item}
use Rattle.world.specs.Worlds.{Seen}
use Rattle.command_plans.specs.Places.{IsPlaceOf}
use Rattle.command_verbs.specs.declared.areas.Place.{Place}
use Rattle.command_trees.specs.Adding.{AddsBytes, AddsFile, AddsFiles, AddsTile, AreAdded, AreCounted, Work, is_there}
use Rattle.command_trees.specs.declared.adding.AddFault.{AddFault}
use Rattle.command_trees.specs.declared.adding.AddFault.TheVariants.{BadPlace, Failed, Refused, Unread}
use Rattle.command_trees.specs.declared.adding.Counts.{Counts}
use Rattle.command_trees.specs.declared.adding.Target.{Target}

-- ---- how many were added, and how many passed over

one_more : (p : Bool → Bool) (told : List Bool) (b : Bool) → count_by p (told ++ b ∷ [])
    ≡ count_by p told + count_by p (b ∷ [])
one_more p told b = sum_by-append (λ x. cond (p x) 1 0) told (b ∷ [])

pub counted_new : (told : List Bool) (added passed : ℕ) → AreCounted told
    (record { added = added; passed = passed })
    → AreCounted (told ++ true ∷ []) (record { added = added + 1; passed = passed })
counted_new told added passed it =
    let new : count_by (λ b. b) (told ++ true ∷ []) ≡ count_by (λ b. b) told + 1 = one_more (λ b. b) told true in
    let old : count_by not (told ++ true ∷ []) ≡ count_by not told + 0 = one_more not told true in
    (omega (arith, it.0, new), omega (arith, it.1, old))

pub counted_old : (told : List Bool) (added passed : ℕ) → AreCounted told
    (record { added = added; passed = passed })
    → AreCounted (told ++ false ∷ []) (record { added = added; passed = passed + 1 })
counted_old told added passed it =
    let new : count_by (λ b. b) (told ++ false ∷ []) ≡ count_by (λ b. b) told + 0 =
    one_more (λ b. b) told false in
    let old : count_by not (told ++ false ∷ []) ≡ count_by not told + 1 = one_more not told false in
    (omega (arith, it.0, new), omega (arith, it.1, old))

-- ---- files in turn

module _ {S : Type 0} (g : Ghosts S) {N : Type 0} (Gives : Option (List ℕ) → N → N → Type 0) (t : Target)
    (items : List Item) where
  -- a tile that was not added, of a file that lies there
  pub not_added : (file place : Place) (bytes : List ℕ) (old new : Seen S) (ids ids' : N) (fault : AddFault)
      → IsPlaceOf old.frame t.is_upward file place → is_there items place bytes ≡ false
      → AddsTile g Gives t place bytes old new ids ids' (Err fault)
      → AddsBytes g Gives t items file bytes old new ids ids' (Err fault)
  not_added file place bytes old new ids ids' (Refused why) is not_there it = (place, is, not_there, it)
  not_added file place bytes old new ids ids' (Failed fault) is not_there it = it
  not_added file place bytes old new ids ids' BadPlace is not_there it = absurd it
  not_added file place bytes old new ids ids' Unread is not_there it = absurd it

  module _ {F : Type 0} (Reads : Place → Option (List ℕ) → F → F → Type 0) where
    pub added_more : (files : List Place) (told : List Bool) (old mid new : Work S N F) (file : Place)
        (is_new : Bool) → AreAdded g Gives Reads t items files told old mid
        → AddsFile g Gives Reads t items file mid new (Ok is_new)
        → AreAdded g Gives Reads t items (files ++ file ∷ []) (told ++ is_new ∷ []) old new
    added_more [] [] old mid new file is_new same step =
        (new, subst (λ s. AddsFile g Gives Reads t items file s new (Ok is_new)) same step, refl)
    added_more (f ∷ files) (b ∷ told) old mid new file is_new (next, first, rest) step =
        (next, first, added_more files told next mid new file is_new rest step)
    added_more [] (b ∷ told) old mid new file is_new none step = absurd none
    added_more (f ∷ files) [] old mid new file is_new none step = absurd none

    pub added_next : (files : List Place) (i : ℕ) (d : Place) (told : List Bool) (old mid new : Work S N F)
        (is_new : Bool) → i < length files
        → AreAdded g Gives Reads t items (take i files) told old mid
        → AddsFile g Gives Reads t items (get_or files i d) mid new (Ok is_new)
        → AreAdded g Gives Reads t items (take (i + 1) files) (told ++ is_new ∷ []) old new
    added_next files i d told old mid new is_new within so_far step =
        subst (λ fs. AreAdded g Gives Reads t items fs (told ++ is_new ∷ []) old new)
        (sym (take_more files i d within))
        (added_more (take i files) told old mid new (get_or files i d) is_new so_far step)

    pub added_all : (files : List Place) (i : ℕ) (told : List Bool) (old new : Work S N F) → length files ≤ i
        → AreAdded g Gives Reads t items (take i files) told old new
        → AreAdded g Gives Reads t items files told old new
    added_all files i told old new beyond all = subst (λ fs. AreAdded g Gives Reads t items fs told old new)
        (take_all i files beyond) all

    pub stopped_at : (files : List Place) (i : ℕ) (d : Place) (told : List Bool) (counts : Counts)
        (old mid new : Work S N F) (fault : AddFault) → i < length files
        → AreAdded g Gives Reads t items (take i files) told old mid → AreCounted told counts
        → AddsFile g Gives Reads t items (get_or files i d) mid new (Err fault)
        → AddsFiles g Gives Reads t items files old new counts (Err fault)
    stopped_at files i d told counts old mid new fault within so_far counted step = (
      told,
      take i files,
      drop (suc i) files,
      get_or files i d,
      mid,
      sym (take-append-drop i files) ∙ ap (λ l. take i files ++ l) (drop-cons files i d within),
      so_far,
      counted,
      step,
    )
