-- Identities that a text gives: version 8 (RFC 9562, 5.8), of the first 16 bytes of its SHA-256 (FIPS 180-4). Profile.
use Rattle.std.specs.Prelude.{ℕ, List, [], ◌∷◌, take, codes, decimal}
use Rattle.sha2.specs.Sha256.{sha256}
use Rattle.hex.specs.Hex.{encode_lower}
use Rattle.uuid.specs.Parts.{with_variant, with_version}
use Rattle.uuid.specs.declared.Variant.TheVariants.{RFC4122}
use Rattle.uuid.specs.declared.Version.TheVariants.{Custom}
use Rattle.sheet_types.specs.Texts.{spaced, uuid_text, fingerprint, line}
use Rattle.sheet_types.specs.declared.command.Command.{Command}
use Rattle.sheet_types.specs.declared.command.Content.{Content}
use Rattle.sheet_types.specs.declared.command.Request.{Request}

-- the UUID of a text
abbrev pub derived : List ℕ → List ℕ
derived text = with_version (with_variant (take 16 (sha256 text)) RFC4122) Custom

-- the text of a new item: the package and its ticket, how many new items of the content stand before it, and the
-- content's digest
abbrev pub item_text : List ℕ → ℕ → ℕ → Content → List ℕ
item_text p ticket copy content = spaced (codes "sheetdesk" ∷ codes "item" ∷ uuid_text p ∷ decimal ticket
    ∷ decimal copy ∷ encode_lower (fingerprint content) ∷ [])

-- the text of a request: the package and its ticket, and the line of the command. It has no moment, so that a list of
-- a ticket is one list
abbrev pub request_text : List ℕ → ℕ → List ℕ → List ℕ
request_text p ticket words = spaced (codes "sheetdesk" ∷ codes "request" ∷ uuid_text p ∷ decimal ticket
    ∷ words ∷ [])

-- the request for a command, at this moment
abbrev pub request_of : List ℕ → ℕ → List ℕ → Command → Request
request_of p ticket moment command = record {
  id = derived (request_text p ticket (line command));
  at = moment;
  command = command;
}
