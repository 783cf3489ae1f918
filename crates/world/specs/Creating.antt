-- When no world is made. Profile.
use Rattle.std.specs.Prelude.{◌≡◌, ◌≤◌, ◌+◌, ℕ, not, List, [], length, Vec, vec_capacity, Option}
use Rattle.std.specs.Prelude.{Result, Err, IfErr}
use Rattle.std.specs.Prelude.{MatchOption}
use Rattle.std.specs.Bool.{then_some}
use Rattle.std.specs.Option.{option_or, option_map}
use Rattle.std.specs.declared.alloc.Global.{Global}
use Rattle.sheet_types.specs.Matrix.{frame_fault}
use Rattle.sheet_types.specs.Texts.{is_moment}
use Rattle.sheet_types.specs.declared.frame.Frame.{Frame}
use Rattle.package_tables.specs.declared.fault.Fault.{Fault}
use Rattle.world.specs.declared.creating.CreateFault.{CreateFault}
use Rattle.world.specs.declared.creating.CreateFault.TheVariants.{BadFrame, BadText, Failed}

-- what is wrong with what is handed in: the first rule that the frame breaks, or else the moment
abbrev pub create_refusal : Frame → List ℕ → Option CreateFault
create_refusal f at = option_or (option_map BadFrame (frame_fault f)) (then_some (not (is_moment at)) BadText)

-- Where something is wrong that is the answer, and else no other fault than want of memory or the store's is.
abbrev pub IsCreatedOrRefused : {X : Type 0} → Frame → List ℕ → Result X CreateFault → Type 0
IsCreatedOrRefused f at r =
    MatchOption (create_refusal f at) (IfErr r (λ why. (fault : Fault) × (why ≡ Failed fault)))
    (λ why. r ≡ Err why)

-- an empty list has room for one of each of these
abbrev pub HasRoom : {X Y : Type 0} → List X → Vec Y Global → Type 0
HasRoom xs room = (room.items ≡ []) × (length xs ≤ vec_capacity room)

-- a list has room for one of each of these beside what it has
abbrev pub HasRoomFor : {X Y : Type 0} → List X → Vec Y Global → Type 0
HasRoomFor xs room = length xs + length room.items ≤ vec_capacity room
