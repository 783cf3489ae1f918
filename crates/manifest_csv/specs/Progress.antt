-- What is told of an import while it goes on. Profile.
use Rattle.std.specs.Prelude.{◌≡◌, ◌-◌, ◌+◌, ℕ, List, [], ◌∷◌, ◌++◌, length, take, Option}
use Rattle.std.specs.Prelude.{Some, None, Result, Ok, Err}
use Rattle.sheet_types.specs.declared.receipt.Receipt.{Receipt}
use Rattle.sheet_types.specs.declared.refusal.Refusal.{Refusal}
use Rattle.manifest_csv.specs.declared.importing.ImportFault.{ImportFault}
use Rattle.manifest_csv.specs.declared.importing.ImportFault.TheVariants.{Unread, Stopped, Unwritten}

-- What is told of one request: that so many of so many are done, and the reply to the last of them.
abbrev pub Told : Type 0
Told = ℕ × (ℕ × Result Receipt Refusal)

-- What is told of the replies to requests of a list of so many, in turn. The first is that of the n-th request.
unfoldable pub told_from : ℕ → ℕ → List (Result Receipt Refusal) → List Told
told_from all n [] = []
told_from all n (reply ∷ replies) = (n, (all, reply)) ∷ told_from all (n + 1) replies

-- What a teller was told is followed by this, where it is known what it was told.
abbrev pub Tells : Option (List Told) → Option (List Told) → List Told → Type 0
Tells None after said = Unit {0}
Tells (Some before) after said = after ≡ Some (before ++ said)

-- The replies of which the lines were written: all, or all but the last where the writer failed.
abbrev pub written_of : List (Result Receipt Refusal) → Result (Unit {0}) ImportFault
    → List (Result Receipt Refusal)
written_of replies (Ok x) = replies
written_of replies (Err (Stopped n fault)) = replies
written_of replies (Err Unwritten) = take (length replies - 1) replies
written_of replies (Err (Unread fault)) = []

-- Of an import of so many requests with these replies each is told of which the line was written, and no other.
abbrev pub AreTold : ℕ → List (Result Receipt Refusal) → Option (List Told) → Option (List Told)
    → Result (Unit {0}) ImportFault → Type 0
AreTold all replies before after r = Tells before after (told_from all 1 (written_of replies r))
