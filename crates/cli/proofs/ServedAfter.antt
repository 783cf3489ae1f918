-- What a rehearsal hands on, and what connections then make of it.
use Rattle.std.proofs.Common.{◌≡◌, ◌≤◌, ◌∙◌, ℕ, List, Option, Result, Ok, sym, subst}
use Rattle.std.proofs.Common.{slice_index_or, arith}
use Rattle.std.proofs.lemmas.Fmt.{decimal_injective}
use Rattle.sqlite.specs.Held.{Held, state}
use Rattle.sqlite.specs.State.{HasCleanDisk}
use Rattle.sqlite.specs.Store.{Ghosts}
use Rattle.sheet_types.specs.World.{World, new_world}
use Rattle.sheet_types.specs.declared.frame.Frame.{Frame}
use Rattle.world.specs.Worlds.{Seen}
use Rattle.desk_http.specs.Connections.{IsServedBy}
use Rattle.command_words.specs.Arguments.{Asks, AsksDesk, IsNumber, IsFirstUnserved}
use Rattle.cli.specs.Servings.{HandsOn, Leaves, RehearsesAndServes}
use Rattle.cli.specs.declared.serving.LeftWorld.{LeftWorld}
use Rattle.command_words.specs.declared.statuses.Outcome.{Outcome}
use Rattle.command_words.specs.declared.statuses.What.{What}
use Rattle.command_words.specs.declared.statuses.What.TheVariants.{BadUuid, BadMoment, BadFrame, BadNumber, BadList}
use Rattle.cli.proofs.Rehearsing.{asks_read}

module _ {S W : Type 0} (g : Ghosts S) (clean : (h : Held S) → HasCleanDisk (state g h)) (w : World)
    (text : Option (List ℕ)) (writer writer' : W) (before after : Option (List ℕ)) (seen last : Seen S)
    (most : ℕ) where
  pub then_served : HandsOn g w text writer writer' before after (Ok seen) → IsServedBy g most seen last
      → RehearsesAndServes g w most text writer writer' before after (Ok last)
  then_served handed it =
      let ran = it.run (λ k d within. clean (slice_index_or last.members k d).conn)
      (λ k d within. clean (slice_index_or it.gone k d)) handed.0.0.next handed.1 in (
        handed.0,
        record {
          requests = it.requests;
          few = it.few;
          replies = it.replies;
          next = ran.0;
          run = ran.1;
          stands = ran.2;
        },
      )

-- ---- the words

-- words that ask for a rehearsal and a desk can all be read
pub asks_served : (archive at frame port count uuid moment : List ℕ) (asked : Frame) (place most : ℕ)
    → Asks archive at frame uuid moment asked → AsksDesk port count place most → (what : What)
    → IsFirstUnserved archive at frame port count what → ⊥
asks_served archive at frame port count uuid moment asked place most asks desk BadUuid unread =
    asks_read archive at frame uuid moment asked asks BadUuid unread
asks_served archive at frame port count uuid moment asked place most asks desk BadMoment unread =
    asks_read archive at frame uuid moment asked asks BadMoment unread
asks_served archive at frame port count uuid moment asked place most asks desk BadFrame unread =
    asks_read archive at frame uuid moment asked asks BadFrame unread
asks_served archive at frame port count uuid moment asked place most asks desk BadNumber unread =
    unread.1 place most desk
asks_served archive at frame port count uuid moment asked place most asks desk BadList unread = absurd unread

-- a text is one number
pub one_number : (least most : ℕ) (text : List ℕ) (m n : ℕ) → most ≤ 1000000 → IsNumber least most text m
    → IsNumber least most text n → m ≡ n
one_number least most text m n small one other =
    let high = one.2 in
    let high' = other.2 in
    decimal_injective m n (omega (arith, small, high)) (omega (arith, small, high')) (sym one.0 ∙ other.0)

-- what the words ask for, in the words of another reading of them
pub same_served : {W : Type 0} (u v : List ℕ) (f e : Frame) (m n : ℕ) (text : Option (List ℕ))
    (writer writer' : W)
    (before after : Option (List ℕ)) (r : Result LeftWorld Outcome)
    → u ≡ v → f ≡ e → m ≡ n → Leaves (new_world v e) n text writer writer' before after r
    → Leaves (new_world u f) m text writer writer' before after r
same_served u v f e m n text writer writer' before after r uuid frame times it =
    subst (λ x. Leaves (new_world x f) m text writer writer' before after r) (sym uuid)
    (subst (λ y. Leaves (new_world v y) m text writer writer' before after r) (sym frame)
    (subst (λ k. Leaves (new_world v e) k text writer writer' before after r) (sym times) it))
