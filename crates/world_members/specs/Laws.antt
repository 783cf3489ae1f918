-- A request is refused for the first of the reasons that its parts are judged by. Profile.
use Rattle.std.specs.Prelude.{◌≡◌, ℕ, Bool, true, false, List, [], ◌∷◌, ◌++◌}
use Rattle.sheet_types.specs.Matrix.{first_row}
use Rattle.sheet_types.specs.World.{World, Package, is_live, holdings, changed}
use Rattle.sheet_types.specs.Step.{carried_out}
use Rattle.sheet_types.specs.Refuse.{refusal, id_reused, identity_used, too_many}
use Rattle.sheet_types.specs.declared.command.Command.{Command}
use Rattle.sheet_types.specs.declared.command.Command.TheVariants.{Add, Delete, Link, Unlink, Split, Merge}
use Rattle.sheet_types.specs.declared.command.Request.{Request}
use Rattle.sheet_types.specs.declared.refusal.Refusal.{Refusal}
use Rattle.sheet_types.specs.declared.refusal.Refusal.TheVariants.{IdReused, UnknownPackage, IdentityUsed, TooMany}
use Rattle.sheet_types.specs.declared.receipt.Receipt.{Receipt}
use Rattle.world_members.specs.Reasons.{text_reasons, package_reasons}
use Rattle.world_members.specs.Carrying.{after_command}

-- the commands that change one package
abbrev pub ChangesOnePackage : Command → Type 0
ChangesOnePackage (Add uuid identity content) = Unit {0}
ChangesOnePackage (Delete uuid identity) = Unit {0}
ChangesOnePackage (Link uuid mapping base other) = Unit {0}
ChangesOnePackage (Unlink uuid mapping base other) = Unit {0}
ChangesOnePackage (Split uuid child mode rect) = ⊥
ChangesOnePackage (Merge child into ticket) = ⊥

-- the package that a command changes; of a split the one that it takes from, of a merge the one that takes all
abbrev pub package_of : Command → List ℕ
package_of (Add uuid identity content) = uuid
package_of (Delete uuid identity) = uuid
package_of (Link uuid mapping base other) = uuid
package_of (Unlink uuid mapping base other) = uuid
package_of (Split uuid child mode rect) = uuid
package_of (Merge child into ticket) = into

-- the reasons of a command that changes one package, which package is live and is p. next is the world that the
-- request would leave
abbrev pub live_reasons : World → World → Package → Request → List (Bool × Refusal)
live_reasons w next p q =
    (id_reused w q, IdReused)
    ∷ text_reasons q
    ++ (identity_used w q.command, IdentityUsed)
    ∷ package_reasons w.frame p q.command
    ++ (too_many next, TooMany)
    ∷ []

-- Such a command is refused for the first of these, where its package is live.
abbrev pub RefusedByParts : Type 0
RefusedByParts = (w next : World) (p : Package) (q : Request) → ChangesOnePackage q.command
    → is_live w (package_of q.command) ≡ true → holdings w (package_of q.command) ≡ p
    → refusal w next q ≡ first_row (live_reasons w next p q)

-- Where it is not live, what was reused or that it is not known is all that is told.
abbrev pub RefusedUnlessLive : Type 0
RefusedUnlessLive = (w next : World) (q : Request) → ChangesOnePackage q.command
    → is_live w (package_of q.command) ≡ false
    → refusal w next q ≡ first_row ((id_reused w q, IdReused) ∷ (true, UnknownPackage) ∷ [])

-- Such a command is carried out in the world by the change of the one package that it names, with the receipt in it.
abbrev pub CarriedOutInOne : Type 0
CarriedOutInOne = (w : World) (r : Receipt) (command : Command) → ChangesOnePackage command
    → carried_out w r command ≡ changed (after_command r command) (package_of command) w
