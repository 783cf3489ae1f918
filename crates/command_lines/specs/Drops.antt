-- The lines of an item that is dropped. Profile.
use Rattle.std.specs.Prelude.{ℕ, List, [], ◌∷◌, ◌++◌, codes, flat_map, Result, Ok, Err}
use Rattle.sheet_types.specs.Texts.{uuid_text}
use Rattle.sheet_types.specs.declared.command.Relation.{Relation}
use Rattle.sheet_types.specs.declared.command.Request.{Request}
use Rattle.sheet_types.specs.declared.receipt.Receipt.{Receipt}
use Rattle.sheet_types.specs.declared.refusal.Refusal.{Refusal}
use Rattle.command_replies.specs.Receipts.{reply_text}
use Rattle.command_replies.specs.Requests.{request_text}
use Rattle.desk_replies.specs.Bodies.{refusal_text}

-- ---- the links for which it stays

abbrev pub linked_line : Relation → List ℕ
linked_line link = codes "linked " ++ (uuid_text link.base ++ (codes " " ++ (uuid_text link.other ++ codes "\n")))

abbrev pub linked_lines : List Relation → List ℕ
linked_lines links = flat_map linked_line links

abbrev pub linked_text : List Relation → List ℕ
linked_text links = linked_lines links ++ codes "refused: linked\n"

-- ---- its requests, as JSON

abbrev pub request_line : Request → List ℕ
request_line q = request_text q ++ (10 ∷ [])

abbrev pub requests_text : List Request → List ℕ
requests_text requests = flat_map request_line requests

-- ---- what came of them

-- in plain words, or the refusal as JSON
abbrev pub outcome_text : Request → Result Receipt Refusal → List ℕ
outcome_text q (Ok receipt) = reply_text q.command receipt
outcome_text q (Err why) = refusal_text why

-- of each in turn, to the end of a line
abbrev pub outcomes_text : List Request → List (Result Receipt Refusal) → List ℕ
outcomes_text [] replies = []
outcomes_text (q ∷ qs) [] = []
outcomes_text (q ∷ qs) (reply ∷ replies) = (outcome_text q reply ++ (10 ∷ [])) ++ outcomes_text qs replies
