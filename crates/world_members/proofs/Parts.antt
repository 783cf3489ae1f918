-- The reasons of a command that changes one package are those of its parts: the others do not hold.
use Rattle.std.proofs.Common.{◌≡◌, ℕ, List, [], ◌∷◌, ◌++◌, Bool, true, false, cond, Some, refl, subst}
use Rattle.std.specs.Prelude.{not, ◌&&◌, drop}
use Rattle.std.specs.Option.{option_or}
use Rattle.sheet_types.specs.Matrix.{first_row}
use Rattle.sheet_types.specs.World.{World, is_live, holdings}
use Rattle.sheet_types.specs.Refuse.{refusal, reasons, id_reused}
use Rattle.sheet_types.specs.declared.command.Command.{Command}
use Rattle.sheet_types.specs.declared.command.Command.TheVariants.{Add, Delete, Link, Unlink, Split, Merge}
use Rattle.sheet_types.specs.declared.command.Content.TheVariants.{Tile, Media, Row}
use Rattle.sheet_types.specs.declared.command.Request.{Request}
use Rattle.sheet_types.specs.declared.refusal.Refusal.{Refusal}
use Rattle.sheet_types.specs.declared.refusal.Refusal.TheVariants.{IdReused, UnknownPackage}
use Rattle.world_members.specs.Laws.{ChangesOnePackage, package_of, live_reasons, RefusedByParts, RefusedUnlessLive}

-- the row of a package that is live is passed over
live_row : (a : Bool × Refusal) (live : Bool) (rows : List (Bool × Refusal)) → live ≡ true
    → first_row (a ∷ (not (live && true), UnknownPackage) ∷ rows) ≡ first_row (a ∷ rows)
live_row a true rows h = refl
live_row a false rows h = cc

-- and that of one that is not is the last
dead_row : (a : Bool × Refusal) (live : Bool) (rows : List (Bool × Refusal)) → live ≡ false
    → first_row (a ∷ (not (live && true), UnknownPackage) ∷ rows)
    ≡ first_row (a ∷ (true, UnknownPackage) ∷ [])
dead_row a true rows h = cc
dead_row a false rows h = refl

module _ (w next : World) (id at : List ℕ) where
  abbrev asking : Command → Request
  asking command = record { id = id; at = at; command = command }

  abbrev later : Command → List (Bool × Refusal)
  later command = drop 2 (reasons w next (asking command))

  live_parts : (command : Command) → ChangesOnePackage command → is_live w (package_of command) ≡ true
      → refusal w next (asking command) ≡ first_row (live_reasons w next (holdings w (package_of command))
      (asking command))
  live_parts (Add uuid identity (Tile zoom column row bytes)) one live =
      live_row (id_reused w (asking (Add uuid identity (Tile zoom column row bytes))), IdReused) (is_live w uuid)
      (later (Add uuid identity (Tile zoom column row bytes))) live
  live_parts (Add uuid identity (Media content_type bytes)) one live =
      live_row (id_reused w (asking (Add uuid identity (Media content_type bytes))), IdReused) (is_live w uuid)
      (later (Add uuid identity (Media content_type bytes))) live
  live_parts (Add uuid identity (Row x y code label)) one live =
      live_row (id_reused w (asking (Add uuid identity (Row x y code label))), IdReused) (is_live w uuid)
      (later (Add uuid identity (Row x y code label))) live
  live_parts (Delete uuid identity) one live = live_row (id_reused w (asking (Delete uuid identity)), IdReused)
      (is_live w uuid) (later (Delete uuid identity)) live
  live_parts (Link uuid mapping base other) one live = live_row
      (id_reused w (asking (Link uuid mapping base other)), IdReused) (is_live w uuid)
      (later (Link uuid mapping base other)) live
  live_parts (Unlink uuid mapping base other) one live = live_row
      (id_reused w (asking (Unlink uuid mapping base other)), IdReused) (is_live w uuid)
      (later (Unlink uuid mapping base other)) live
  live_parts (Split uuid child mode rect) one live = absurd one
  live_parts (Merge child into ticket) one live = absurd one

  dead_parts : (command : Command) → ChangesOnePackage command → is_live w (package_of command) ≡ false
      → refusal w next (asking command) ≡ first_row ((id_reused w (asking command), IdReused)
      ∷ (true, UnknownPackage)
      ∷ [])
  dead_parts (Add uuid identity content) one dead = dead_row
      (id_reused w (asking (Add uuid identity content)), IdReused) (is_live w uuid)
      (later (Add uuid identity content)) dead
  dead_parts (Delete uuid identity) one dead = dead_row (id_reused w (asking (Delete uuid identity)), IdReused)
      (is_live w uuid) (later (Delete uuid identity)) dead
  dead_parts (Link uuid mapping base other) one dead = dead_row
      (id_reused w (asking (Link uuid mapping base other)), IdReused) (is_live w uuid)
      (later (Link uuid mapping base other)) dead
  dead_parts (Unlink uuid mapping base other) one dead = dead_row
      (id_reused w (asking (Unlink uuid mapping base other)), IdReused) (is_live w uuid)
      (later (Unlink uuid mapping base other)) dead
  dead_parts (Split uuid child mode rect) one dead = absurd one
  dead_parts (Merge child into ticket) one dead = absurd one

pub refused_by_parts : RefusedByParts
refused_by_parts w next p q one live here = subst (λ x. refusal w next q ≡ first_row (live_reasons w next x q)) here
    (live_parts w next q.id q.at q.command one live)

pub refused_unless_live : RefusedUnlessLive
refused_unless_live w next q one dead = dead_parts w next q.id q.at q.command one dead

-- the first of two lists in a row, for a judge of one after the other
pub first_of_both : {X : Type 0} (xs ys : List (Bool × X)) → first_row (xs ++ ys)
    ≡ option_or (first_row xs) (first_row ys)
first_of_both [] ys = refl
first_of_both (x ∷ xs) ys = elim x.0 as (λ v. cond v (Some x.1) (first_row (xs ++ ys))
    ≡ option_or (cond v (Some x.1) (first_row xs)) (first_row ys)) [ true ↦ refl | false ↦ first_of_both xs ys ]
