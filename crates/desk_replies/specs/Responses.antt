-- The texts of responses: a status line, three fields, an empty line and a body (RFC 9112). Statuses, phrases and
-- types are profile.
use Rattle.std.specs.Prelude.{◌≡◌, ◌⊎◌, ℕ, List, ◌++◌, length, codes, decimal, Result, Ok, Err}
use Rattle.sheet_types.specs.World.{World}
use Rattle.sheet_types.specs.declared.receipt.Receipt.{Receipt}
use Rattle.sheet_types.specs.declared.refusal.Refusal.{Refusal}
use Rattle.sheet_types.specs.declared.refusal.Refusal.TheVariants as refusal
use Rattle.desk_replies.specs.Bodies.{list_text, packages_text, receipt_text, refusal_text}
use Rattle.desk_replies.specs.declared.fixed.Fixed.{Fixed}
use Rattle.desk_replies.specs.declared.fixed.Fixed.TheVariants.{BadOrigin, BadRequest, NoSuchPath, NoSuchPackage}
use Rattle.desk_replies.specs.declared.fixed.Fixed.TheVariants.{NoSuchReceipt, BadMethod, NoLength, TooLarge}
use Rattle.desk_replies.specs.declared.fixed.Fixed.TheVariants.{StoreFault, OutOfMemory, AskAgain}
use Rattle.desk_replies.specs.declared.packages.Listed.{Listed}
use Rattle.desk_replies.specs.declared.replies.Outgoing.{Outgoing}
use Rattle.desk_replies.specs.declared.replies.Outgoing.TheVariants as outgoing

-- the status line and the fields, with the empty line
abbrev pub response_head : ℕ → List ℕ → List ℕ → ℕ → List ℕ
response_head status phrase kind size =
    codes "HTTP/1.1 " ++ (decimal status ++ (codes " " ++ (phrase
    ++ (codes "\r\ncontent-type: " ++ (kind ++ (codes "\r\ncontent-length: "
    ++ (decimal size ++ codes "\r\nconnection: close\r\n\r\n")))))))

abbrev pub response : ℕ → List ℕ → List ℕ → List ℕ → List ℕ
response status phrase kind body = response_head status phrase kind (length body) ++ body

abbrev pub json_response : ℕ → List ℕ → List ℕ → List ℕ
json_response status phrase body = response status phrase (codes "application/json") body

-- what is answered where all is well
abbrev pub good_response : List ℕ → List ℕ
good_response body = json_response 200 (codes "OK") body

-- responses that are the same each time
abbrev pub fixed_response : Fixed → List ℕ
fixed_response BadRequest = json_response 400 (codes "Bad Request") (codes "{\"fault\":\"bad request\"}")
fixed_response BadOrigin = json_response 403 (codes "Forbidden") (codes "{\"fault\":\"bad origin\"}")
fixed_response NoSuchPath = json_response 404 (codes "Not Found") (codes "{\"fault\":\"no such path\"}")
fixed_response NoSuchPackage = json_response 404 (codes "Not Found") (codes "{\"fault\":\"no such package\"}")
fixed_response NoSuchReceipt = json_response 404 (codes "Not Found") (codes "{\"fault\":\"no such receipt\"}")
fixed_response BadMethod = json_response 405 (codes "Method Not Allowed") (codes "{\"fault\":\"bad method\"}")
fixed_response NoLength = json_response 411 (codes "Length Required") (codes "{\"fault\":\"no length\"}")
fixed_response TooLarge = json_response 413 (codes "Payload Too Large") (codes "{\"fault\":\"too large\"}")
fixed_response StoreFault = json_response 500 (codes "Internal Server Error") (refusal_text refusal.StoreFault)
fixed_response OutOfMemory = json_response 507 (codes "Insufficient Storage") (refusal_text refusal.OutOfMemory)
fixed_response AskAgain = json_response 507 (codes "Insufficient Storage") (codes "{\"fault\":\"ask again\"}")

abbrev pub receipt_response : Receipt → List ℕ
receipt_response r = good_response (receipt_text r)

-- of a refusal by the rules
abbrev pub conflict_response : Refusal → List ℕ
conflict_response why = json_response 409 (codes "Conflict") (refusal_text why)

abbrev pub refusal_response : Refusal → List ℕ
refusal_response refusal.OutOfMemory = fixed_response OutOfMemory
refusal_response refusal.StoreFault = fixed_response StoreFault
refusal_response why = conflict_response why

abbrev pub list_response : List Listed → List ℕ
list_response ps = good_response (list_text ps)

-- the list of a world's packages
abbrev pub packages_response : World → List ℕ
packages_response w = good_response (packages_text w)

abbrev pub manifest_response : List ℕ → List ℕ
manifest_response manifest = response 200 (codes "OK") (codes "text/csv") manifest

-- the bytes that are to go out
abbrev pub outgoing_bytes : Outgoing → List ℕ
outgoing_bytes (outgoing.Made bytes) = bytes.items
outgoing_bytes (outgoing.Fixed fixed) = fixed_response fixed

-- The response to a refusal. Memory may be wanting for the text of one by the rules: that is answered as want of
-- memory is, and nothing has changed either way. That of a store needs no memory.
abbrev pub IsRefusal : Refusal → List ℕ → Type 0
IsRefusal refusal.StoreFault out = out ≡ refusal_response refusal.StoreFault
IsRefusal why out = (out ≡ refusal_response why) ⊎ (out ≡ fixed_response OutOfMemory)

-- The response to the reply to a request. Memory may be wanting for it: of a receipt, which stands, that is said.
abbrev pub IsReply : Result Receipt Refusal → List ℕ → Type 0
IsReply (Ok receipt) out = (out ≡ receipt_response receipt) ⊎ (out ≡ fixed_response AskAgain)
IsReply (Err why) out = IsRefusal why out
