-- The reply to a request as a line. Profile.
use Rattle.std.specs.Prelude.{◌≡◌, ◌⊎◌, ℕ, List, codes, Option, Result, Ok, Err}
use Rattle.sheet_types.specs.declared.receipt.Receipt.{Receipt}
use Rattle.sheet_types.specs.declared.refusal.Refusal.{Refusal}
use Rattle.sheet_types.specs.declared.refusal.Refusal.TheVariants as refusal
use Rattle.desk_replies.specs.Bodies.{receipt_text, refusal_text}
use Rattle.command_folder.specs.Endings.{done, failed, no_memory}
use Rattle.command_folder.specs.Printing.{Prints, with_end}
use Rattle.command_folder.specs.declared.endings.Ending.{Ending}
use Rattle.command_folder.specs.declared.endings.Ending.TheVariants.{Declined}

abbrev pub ask_again : List ℕ
ask_again = codes "{\"fault\":\"ask again\"}"

-- what gave out, or declined
abbrev pub refusal_ending : Refusal → Ending
refusal_ending refusal.OutOfMemory = no_memory
refusal_ending refusal.StoreFault = failed
refusal_ending why = Declined why

-- The body of the reply to a request, and how the program ends after it. Memory may be wanting for the text: of a
-- receipt, which stands, that is said; a refusal is told as want of memory is.
abbrev pub IsReplyBody : Result Receipt Refusal → List ℕ → Ending → Type 0
IsReplyBody (Ok receipt) text ending = ((text ≡ receipt_text receipt) × (ending ≡ done))
    ⊎ ((text ≡ ask_again) × (ending ≡ no_memory))
IsReplyBody (Err why) text ending = ((text ≡ refusal_text why) × (ending ≡ refusal_ending why))
    ⊎ ((text ≡ refusal_text refusal.OutOfMemory) × (ending ≡ no_memory))

-- the reply as a line
abbrev pub PrintsReply : Result Receipt Refusal → Option (List ℕ) → Option (List ℕ) → Ending → Type 0
PrintsReply reply before after ending = (text : List ℕ) × (due : Ending) × IsReplyBody reply text due
    × Prints (with_end text) due before after ending
