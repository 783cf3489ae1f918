-- Words ask for one archive at most.
use Rattle.std.proofs.Common.{◌≡◌, ◌∙◌, ℕ, List, Option, sym, subst}
use Rattle.sqlite.specs.Store.{Ghosts}
use Rattle.sheet_types.specs.declared.frame.Frame.{Frame}
use Rattle.command_words.proofs.FrameTexts.{frame_once, in_range}
use Rattle.command_words.specs.Arguments.{Asks, IsFirstUnread}
use Rattle.command_words.specs.declared.statuses.What.{What}
use Rattle.command_words.specs.declared.statuses.What.TheVariants.{BadUuid, BadMoment, BadFrame, BadNumber, BadList}
use Rattle.command_folder.specs.declared.endings.Ending.{Ending}
use Rattle.commands.specs.Subcommands.{Inits}

module _ (archive at frame uuid moment : List ℕ) (asked : Frame)
    (asks : Asks archive at frame uuid moment asked) where
  -- those of which one cannot be read ask for nothing
  pub asks_read : (what : What) → IsFirstUnread archive at frame what → ⊥
  asks_read BadUuid unread = let none = unread in let named = asks.named in cc
  asks_read BadMoment unread = let none = unread.1 in let timed = asks.timed in cc
  asks_read BadFrame unread = unread.2 asked asks.framed
  asks_read BadNumber unread = absurd unread
  asks_read BadList unread = absurd unread

  same_uuid : (uuid' moment' : List ℕ) (asked' : Frame) → Asks archive at frame uuid' moment' asked' → uuid ≡ uuid'
  same_uuid uuid' moment' asked' other = let named = asks.named in let named' = other.named in cc

  same_moment : (uuid' moment' : List ℕ) (asked' : Frame) → Asks archive at frame uuid' moment' asked'
      → moment ≡ moment'
  same_moment uuid' moment' asked' other = asks.made ∙ sym other.made

  same_frame : (uuid' moment' : List ℕ) (asked' : Frame) → Asks archive at frame uuid' moment' asked'
      → asked ≡ asked'
  same_frame uuid' moment' asked' other =
      frame_once asked asked' (in_range asked asks.framed.good) (in_range asked' other.framed.good)
      (sym asks.framed.written ∙ other.framed.written)

  -- What was made of one archive that they ask for was made of the other.
  pub inits_asked : {S W : Type 0} (g : Ghosts S) (uuid' moment' : List ℕ) (asked' : Frame) (writer writer' : W)
      (before after : Option (List ℕ)) (ending : Ending) → Asks archive at frame uuid' moment' asked'
      → Inits g uuid' moment' asked' writer writer' before after ending
      → Inits g uuid moment asked writer writer' before after ending
  inits_asked g uuid' moment' asked' writer writer' before after ending other it =
      subst (λ u. Inits g u moment asked writer writer' before after ending)
      (sym (same_uuid uuid' moment' asked' other))
      (subst (λ m. Inits g uuid' m asked writer writer' before after ending)
      (sym (same_moment uuid' moment' asked' other))
      (subst (λ f. Inits g uuid' moment' f writer writer' before after ending)
      (sym (same_frame uuid' moment' asked' other)) it))
