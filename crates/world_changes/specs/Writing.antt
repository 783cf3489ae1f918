-- Which stores of members a request writes to, which member comes to the list and which leaves it. Profile.
use Rattle.std.specs.Prelude.{◌≡◌, ◌⊎◌, ℕ, zero, suc, ⊤, List, [], ◌∷◌, Option, Some, None}
use Rattle.std.specs.Prelude.{slice_get}
use Rattle.std.specs.List.{insert, remove}
use Rattle.sqlite.specs.Held.{Held, state}
use Rattle.sqlite.specs.Store.{Ghosts}
use Rattle.sheet_types.specs.declared.command.Command.{Command}
use Rattle.sheet_types.specs.declared.command.Command.TheVariants.{Merge}
use Rattle.store_sql.specs.Staying.{Stays}
use Rattle.world_members.specs.Members.{AllStay, StaysMember}
use Rattle.world_members.specs.declared.members.Member.{Member}

-- the package that a command takes home
abbrev pub child_returned : Command → Option (List ℕ)
child_returned (Merge child into ticket) = Some child
child_returned command = None

module _ {S : Type 0} (g : Ghosts S) where
  -- Each member stands where it stood, and all but that at this place were only read.
  abbrev pub AllStayBut : List (Member S) → List (Member S) → ℕ → Type 0
  AllStayBut [] [] at = ⊤
  AllStayBut [] (n ∷ ns) at = ⊥
  AllStayBut (m ∷ ms) [] at = ⊥
  AllStayBut (m ∷ ms) (n ∷ ns) zero = (n.uuid ≡ m.uuid) × AllStay g ms ns
  AllStayBut (m ∷ ms) (n ∷ ns) (suc at) = StaysMember g m n × AllStayBut ms ns at

  -- all but one at most
  abbrev pub AllStayButOne : List (Member S) → List (Member S) → Type 0
  AllStayButOne old new = (at : ℕ) × AllStayBut old new at

  -- No member left, and no connection. Or the member of the package that is taken home left, and its connection did:
  -- its store was only read.
  abbrev pub Leave : Option (List ℕ) → List (Member S) → List (Member S) → List (Held S) → Type 0
  Leave returned old rest [] = rest ≡ old
  Leave returned old rest (last ∷ others) = (others ≡ []) × (from : ℕ) × (member : Member S)
      × (slice_get old from ≡ Some member) × (returned ≡ Some member.uuid) × (rest ≡ remove old from)
      × Stays (state g member.conn) (state g last)

  -- No member came, or that of the package that was asked for.
  abbrev pub Come : Option (List ℕ) → List (Member S) → List (Member S) → Type 0
  Come asked rest new = (new ≡ rest) ⊎ ((at : ℕ) × (child : Member S) × (asked ≡ Some child.uuid)
      × (new ≡ insert rest at child))

  -- At most two stores were written to: that of one of the members that stayed, and that of the member that came. The
  -- connections that left are those of the member that left.
  pub record WritesTwoAtMost (asked returned : Option (List ℕ)) (old new : List (Member S))
      (gone : List (Held S)) : Type 0 where
    -- those that stayed, as they were and as they are
    pub before : List (Member S)
    pub after : List (Member S)
    pub left : Leave returned old before gone
    pub stayed : AllStayButOne before after
    pub came : Come asked after new
