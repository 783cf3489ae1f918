-- How the program ends. Profile.
use Rattle.std.specs.Prelude.{ℕ, List, [], ◌∷◌, ◌++◌, Option, Result, Ok, Err}
use Rattle.package_tables.specs.declared.fault.Fault.{Fault}
use Rattle.sheet_types.specs.declared.receipt.Receipt.{Receipt}
use Rattle.sheet_types.specs.declared.refusal.Refusal.{Refusal}
use Rattle.command_words.specs.Failures.{of_fault}
use Rattle.command_words.specs.declared.statuses.Outcome.TheVariants.{Stopped}
use Rattle.command_folder.specs.Endings.{done}
use Rattle.command_folder.specs.declared.endings.Ending.{Ending}
use Rattle.command_folder.specs.declared.endings.Ending.TheVariants.{Usual}
use Rattle.command_ordering.specs.Orders.{PrintsLine}
use Rattle.command_folder.specs.Replies.{refusal_ending}
use Rattle.desk_replies.specs.Bodies.{refusal_text}

-- memory or a store gave out before anything was printed
abbrev pub stopped : Fault → Ending
stopped fault = Usual (Stopped (of_fault fault))

-- a request got this reply
abbrev pub reply_ending : Result Receipt Refusal → Ending
reply_ending (Ok receipt) = done
reply_ending (Err why) = refusal_ending why

-- Requests got these: the first that was refused tells, or all is done.
abbrev pub replies_ending : List (Result Receipt Refusal) → Ending
replies_ending [] = done
replies_ending (Ok receipt ∷ replies) = replies_ending replies
replies_ending (Err why ∷ replies) = refusal_ending why

-- a refusal as JSON, on a line
abbrev pub refusal_line : Refusal → List ℕ
refusal_line why = refusal_text why ++ (10 ∷ [])

-- It is printed; where memory is wanting for it, that is the ending, and nothing is written.
module _ {W : Type 0} (writer writer' : W) (before after : Option (List ℕ)) where
  abbrev pub TellsRefused : Refusal → Ending → Type 0
  TellsRefused why ending = PrintsLine writer writer' before after (refusal_line why) (refusal_ending why) ending
