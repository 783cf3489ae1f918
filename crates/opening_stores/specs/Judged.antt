-- What stores that are handed in are judged to be, or the fault that is told of them. Profile.
use Rattle.std.specs.Prelude.{◌≡◌, ◌⊎◌, ◌==◌, ℕ, Bool, false, List, find, Option, option_map, IsTrue}
use Rattle.std.specs.List.{AllByRecursion, AllZip}
use Rattle.std.specs.Option.{option_map_or}
use Rattle.sqlite.specs.Held.{Held, state}
use Rattle.sqlite.specs.Store.{Ghosts}
use Rattle.sheet_types.specs.declared.frame.Frame.{Frame}
use Rattle.sheet_laws.specs.Laws.{StoreSight}
use Rattle.opening_faults.specs.declared.faults.RecoverFault.{RecoverFault}
use Rattle.opening_faults.specs.declared.faults.RecoverFault.TheVariants.{OutOfMemory, StoreFault}
use Rattle.opening_v1.specs.Either.{IsViewAtEither}
use Rattle.opening_verdict.specs.Views.{AreSeenAs, IsFaultOf, IsVerdictOf}
use Rattle.opening_verdict.specs.declared.seen.StoreSeen.{StoreSeen}
use Rattle.opening_verdict.specs.declared.verdict.Verdict.{Verdict}
use Rattle.world_known.specs.Known.{Knows, Notes}

-- the store says that it is an archive's
abbrev pub said_root : StoreSeen → Bool
said_root s = option_map_or (λ h. h.depth == 0) s.sight.head false

-- the frame that was seen of the first store that says so
abbrev pub archive_seen : List StoreSeen → Option Frame
archive_seen seen = option_map (λ s. s.sight.frame) (find said_root seen)

-- why there is no answer of the nine
abbrev pub IsWant : RecoverFault → Type 0
IsWant fault = (fault ≡ OutOfMemory) ⊎ (fault ≡ StoreFault)

-- what any receipt that was seen names is known
abbrev pub AreAllNoted : List (List ℕ) → List StoreSeen → Type 0
AreAllNoted known seen = AllByRecursion (λ s. AllByRecursion (Notes known) s.held.receipts.items) seen

-- What was seen comes to this verdict, the frame is that of its world, and what that one's receipts name is known.
abbrev pub IsJudgedOf : List StoreSeen → Frame → Verdict → List (List ℕ) → Type 0
IsJudgedOf seen frame verdict known = (views : List StoreSight) → AreSeenAs seen views
    → (is : IsVerdictOf verdict views) × (frame ≡ is.world.frame) × Knows known is.world

module _ {S : Type 0} (g : Ghosts S) where
  -- right views of what the stores hold, in turn
  abbrev pub AreViewsOf : List (Held S) → List StoreSight → Type 0
  AreViewsOf stores views = AllZip (λ h v. IsTrue (state g h).is_open × IsViewAtEither (state g h).now v) stores views

  -- The stores come to these values: some right views of them do.
  pub record AreJudged (stores : List (Held S)) (frame : Frame) (verdict : Verdict) (known : List (List ℕ)) :
      Type 0 where
    pub views : List StoreSight
    pub right : AreViewsOf stores views
    pub is : IsVerdictOf verdict views
    pub frame_is : frame ≡ is.world.frame
    pub knows : Knows known is.world

  -- The fault is the first of the nine that holds of right views of the stores; or memory or a store gave out.
  abbrev pub IsFaultAt : List (Held S) → RecoverFault → Type 0
  IsFaultAt stores fault = IsWant fault ⊎ ((views : List StoreSight) × AreViewsOf stores views
      × IsFaultOf views fault)
