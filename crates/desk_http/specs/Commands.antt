-- What the bytes of a connection must be for a command to be handed to the clerk of a desk. Profile.
use Rattle.std.specs.Prelude.{◌≡◌, ◌≢◌, ◌≤◌, ◌⊎◌, ℕ, List, [], ◌∷◌, ◌++◌, length, map, take}
use Rattle.std.specs.Prelude.{drop}
use Rattle.std.specs.Prelude.{if◌then◌else◌, bytes_eq, codes, decimal, Option, IfSome, Result, Ok, Err}
use Rattle.std.specs.Io.KnownBytes.{Appends}
use Rattle.httparse.specs.Grammar.{RequestHead}
use Rattle.httparse.specs.Spans.{name_and_value}
use Rattle.desk_calls.specs.Calls.{values_of}
use Rattle.desk_calls.specs.Heads.{HeadIs}
use Rattle.manifest_csv.specs.Sent.{WentOut}
use Rattle.desk_replies.specs.Responses.{fixed_response, json_response}
use Rattle.desk_replies.specs.declared.fixed.Fixed.{Fixed}
use Rattle.desk_replies.specs.declared.fixed.Fixed.TheVariants as fixed
use Rattle.desk_http.specs.declared.commands.Bar.{Bar}
use Rattle.desk_http.specs.declared.commands.Bar.TheVariants.{Unread, Key, Other}
use Rattle.desk_http.specs.declared.serving.Served.{Served}
use Rattle.desk_http.specs.declared.serving.Served.TheVariants.{Nothing, Answered}
use Rattle.desk_http.specs.declared.serving.ServeFault.{ServeFault}
use Rattle.desk_http.specs.declared.serving.ServeFault.TheVariants.{Read, Write}

-- the fields of this name, which is in lower case, are one, with this value
abbrev pub HasOnly : List ℕ → List ℕ → List (List ℕ × List ℕ) → Type 0
HasOnly name value fields = values_of name fields ≡ value ∷ []

-- there is no field of this name
abbrev pub HasNone : List ℕ → List (List ℕ × List ℕ) → Type 0
HasNone name fields = values_of name fields ≡ []

-- the address of a desk, at some port, as a browser names it (RFC 6454, section 6.2)
abbrev pub IsAddress : List ℕ → Type 0
IsAddress own = (port : ℕ) × (port ≤ 65535) × (own ≡ codes "http://127.0.0.1:" ++ decimal port)

-- the host of a desk: its address without the scheme
abbrev pub host_of : List ℕ → List ℕ
host_of own = if bytes_eq (take 7 own) (codes "http://") then drop 7 own else own

-- Nothing in the fields of a request bars it. No page asks (RFC 6454, section 7); whoever asks shows
-- the key, which is not empty; no other name than the desk's own led here.
pub record IsFree (own key : List ℕ) (fields : List (List ℕ × List ℕ)) : Type 0 where
  pub some_key : key ≢ []
  pub no_page : HasNone (codes "origin") fields
  pub one_key : HasOnly (codes "sheetdesk-key") key fields
  pub one_host : HasOnly (codes "host") (host_of own) fields

-- a text is the size of a body that a request may have
pub record IsSize (text : List ℕ) (size : ℕ) : Type 0 where
  pub is : text ≡ decimal size
  pub small : size ≤ 2300000

-- the fields tell that the body has so many bytes
abbrev pub TellsSize : List (List ℕ × List ℕ) → ℕ → Type 0
TellsSize fields size = HasOnly (codes "content-length") (decimal size) fields × (size ≤ 2300000)

-- the fields of a request let a command pass whose body has so many bytes
abbrev pub FieldsPass : List ℕ → List ℕ → List (List ℕ × List ℕ) → ℕ → Type 0
FieldsPass own key fields size = IsFree own key fields × TellsSize fields size

-- the method and the target of a request for a command
abbrev pub AsksCommand : List ℕ → List ℕ → Type 0
AsksCommand method target = (method ≡ codes "POST") × (target ≡ codes "/commands")

-- a head lets a command pass whose body has so many bytes
pub record HeadPasses (own key : List ℕ) (h : RequestHead) (size : ℕ) : Type 0 where
  pub asks : AsksCommand h.method h.target
  pub fields : FieldsPass own key (map name_and_value h.fields) size

-- this head passes, and the bytes behind it begin with a body of the size that it tells
pub record IsRest (own key : List ℕ) (h : RequestHead) (rest body : List ℕ) : Type 0 where
  pub passes : HeadPasses own key h (length body)
  pub more : List ℕ
  pub is : rest ≡ body ++ more

-- the bytes of a connection begin with a request whose command is handed on, with this body
abbrev pub IsCommand : List ℕ → List ℕ → List ℕ → List ℕ → Type 0
IsCommand own key xs body = (h : RequestHead) × (rest : List ℕ) × HeadIs xs h rest × IsRest own key h rest body

-- This body may be handed on, in the words of a connection's bytes, where these are known. own is the
-- desk's address, key that of its clerk.
pub record MayPass (own key : List ℕ) (text : Option (List ℕ)) (body : List ℕ) : Type 0 where
  pub some_key : key ≢ []
  pub asks : IfSome text (λ xs. IsCommand own key xs body)

-- ---- what is done

-- what goes out before the frames of an answer
abbrev pub answer_head : List ℕ
answer_head = codes "HTTP/1.1 200 OK\r\ncontent-type: application/octet-stream\r\nconnection: close\r\n\r\n"

-- what goes out where the key is not the clerk's
abbrev pub bad_key : List ℕ
bad_key = json_response 403 (codes "Forbidden") (codes "{\"fault\":\"bad key\"}")

-- no request of these bytes, where they are known, is one to be handed on
abbrev pub AsksNone : List ℕ → List ℕ → Option (List ℕ) → Type 0
AsksNone own key text = IfSome text (λ xs. (body : List ℕ) → ¬ (IsCommand own key xs body))

-- the reader failed, or memory was wanting: that may come with any request
abbrev pub IsChance : Bar → Type 0
IsChance bar = (bar ≡ Unread) ⊎ (bar ≡ Other fixed.OutOfMemory)

-- a text went out, or the writer failed behind a beginning of it
abbrev pub Sends : List ℕ → Option (List ℕ) → Option (List ℕ) → Result Served ServeFault → Type 0
Sends out held holds (Ok Nothing) = ⊥
Sends out held holds (Ok Answered) = Appends held holds out
Sends out held holds (Err Read) = ⊥
Sends out held holds (Err Write) = WentOut held holds out

-- what goes out for what bars a request
abbrev pub TurnsBy : Bar → Option (List ℕ) → Option (List ℕ) → Result Served ServeFault → Type 0
TurnsBy Unread held holds end = (holds ≡ held) × (end ≡ Err Read)
TurnsBy Key held holds end = Sends bad_key held holds end
TurnsBy (Other why) held holds end = Sends (fixed_response why) held holds end

-- the writer failed behind a beginning of the head of an answer
abbrev pub IsCutShort : Option (List ℕ) → Option (List ℕ) → Result Served ServeFault → Type 0
IsCutShort held holds end = WentOut held holds answer_head × (end ≡ Err Write)

-- a text that refuses a request: none of these bytes is one to be handed on, or memory was wanting
abbrev pub Refuses : List ℕ → List ℕ → Option (List ℕ) → List ℕ → Type 0
Refuses own key text out = (out ≡ fixed_response fixed.OutOfMemory)
    ⊎ (AsksNone own key text × ((out ≡ bad_key) ⊎ ((why : Fixed) × (out ≡ fixed_response why))))

-- What a writer that had held has in the end, where the clerk was not asked: nothing more where the reader failed; or a
-- text that refuses the request, whole or cut by the writer; or a beginning of the head of an answer.
abbrev pub TurnsAway : List ℕ → List ℕ → Option (List ℕ) → Option (List ℕ) → Option (List ℕ)
    → Result Served ServeFault → Type 0
TurnsAway own key text held holds end = ((holds ≡ held) × (end ≡ Err Read))
    ⊎ ((out : List ℕ) × Refuses own key text out × Sends out held holds end)
    ⊎ IsCutShort held holds end

-- The clerk was asked once, with this body, behind the head of an answer. attends is what he does where he is asked: of
-- a body, of what the writer has before and after, and of himself.
pub record IsAsked {K : Type 0} (attends : List ℕ → Option (List ℕ) → Option (List ℕ) → K → K → Type 0)
    (body : List ℕ) (held holds : Option (List ℕ)) (clerk next : K) (end : Result Served ServeFault) : Type 0 where
  pub begun : Option (List ℕ)
  pub head : Appends held begun answer_head
  pub done : attends body begun holds clerk next
  pub told : end ≡ Ok Answered

-- The same, with the body of a request that may be handed on. text is what the reader has.
pub record IsHanded {K : Type 0} (attends : List ℕ → Option (List ℕ) → Option (List ℕ) → K → K → Type 0)
    (own key : List ℕ) (text held holds : Option (List ℕ)) (clerk next : K) (end : Result Served ServeFault)
    : Type 0 where
  pub body : List ℕ
  pub passes : MayPass own key text body
  pub asked : IsAsked attends body held holds clerk next end

-- the clerk was not asked: the world, the shelf and the clerk are as they were
pub record IsLeft {W H K : Type 0} (world next : W) (shelf after : H) (clerk same : K) : Type 0 where
  pub world_stays : next ≡ world
  pub shelf_stays : after ≡ shelf
  pub clerk_stays : same ≡ clerk
