-- A line, byte by byte.
use Rattle.std.proofs.Common.{◌≡◌, ◌∙◌, ℕ, List, [], ◌∷◌, ◌++◌, Option, Some, None, IfSome}
use Rattle.std.proofs.Common.{Bool, true, false}
use Rattle.std.proofs.Common.{refl, sym, ap, subst, append_assoc, append-nil, arith, length}
use Rattle.std.specs.Io.BufRead.{take_through}
use Rattle.std.specs.Io.KnownBytes.{Consumes, IsAtEnd, prepend_known}
use Rattle.std.proofs.KnownBytes.{Consumes-nil, Consumes-trans, prepend_known-nil}
use Rattle.std.specs.Io.Buffered.{reader_buffer, reader_capacity, reader_inner, reader_remaining}
use Rattle.std.specs.declared.io.buffered.BufReader.{BufReader}
use Rattle.std.specs.Prelude.{if◌then◌else◌, ◌==◌, nat_eq}
use Rattle.commands.specs.Streams.{GivesByte, GivesLine}

-- bytes without the end of a line
abbrev pub Unended : List ℕ → Type 0
Unended line = (rest : List ℕ) → take_through 10 (line ++ rest) ≡ line ++ take_through 10 rest

-- what was read of a line
pub record SoFar (left left' : Option (List ℕ)) (line : List ℕ) : Type 0 where
  pub taken : Consumes left left' line
  pub unended : Unended line

pub none_yet : (left : Option (List ℕ)) → SoFar left left []
none_yet left = record { taken = Consumes-nil left; unended = λ rest. refl }

through_other : (byte : ℕ) (rest : List ℕ) → nat_eq byte 10 ≡ false
    → take_through 10 (byte ∷ rest) ≡ byte ∷ take_through 10 rest
through_other byte rest other = rw other refl

pub one_more : (a b c : Option (List ℕ)) (line line' : List ℕ) (byte : ℕ) → SoFar a b line
    → Consumes b c (byte ∷ []) → nat_eq byte 10 ≡ false
    → line' ≡ line ++ byte ∷ [] → SoFar a c line'
one_more a b c line line' byte so_far given other is = record {
  taken = subst (Consumes a c) (sym is) (Consumes-trans a b c line (byte ∷ []) so_far.taken given);
  unended = subst Unended (sym is) (λ rest.
      ap (take_through 10) (append_assoc line (byte ∷ []) rest) ∙ so_far.unended (byte ∷ rest)
      ∙ ap (λ xs. line ++ xs) (through_other byte rest other)
      ∙ sym (append_assoc line (byte ∷ []) (take_through 10 rest)));
}

-- the line ends with its end
pub ended_here : (a b c : Option (List ℕ)) (line line' : List ℕ) (byte : ℕ) → SoFar a b line
    → Consumes b c (byte ∷ []) → byte ≡ 10
    → line' ≡ line ++ byte ∷ [] → GivesLine a c line'
ended_here None b c line line' byte so_far given end is = (tt, tt)
ended_here (Some xs) (Some ys) (Some zs) line line' byte so_far given end is = (
  subst (Consumes (Some xs) (Some zs)) (sym is)
      (Consumes-trans (Some xs) (Some ys) (Some zs) line (byte ∷ []) so_far.taken given),
  is ∙ ap (λ b. line ++ b ∷ []) end
      ∙ sym (ap (take_through 10) (so_far.taken ∙ ap (λ t. line ++ t) (given ∙ ap (λ b. b ∷ zs) end))
      ∙ so_far.unended (10 ∷ zs)),
)
ended_here (Some xs) (Some ys) None line line' byte so_far given end is = absurd given
ended_here (Some xs) None c line line' byte so_far given end is = absurd so_far.taken

-- or with the text
ended_with : (a b c : Option (List ℕ)) (line : List ℕ) → SoFar a b line → GivesByte b c None
    → GivesLine a c line
ended_with None b c line so_far given = (tt, tt)
ended_with (Some xs) (Some ys) (Some zs) line so_far given =
    let none : ys ≡ [] = given.0 ∙ given.1 in (
      so_far.taken ∙ ap (λ t. line ++ t) given.0,
      sym (ap (take_through 10) (so_far.taken ∙ ap (λ t. line ++ t) none) ∙ so_far.unended [] ∙ append-nil line),
    )
ended_with (Some xs) (Some ys) None line so_far given = absurd given.0
ended_with (Some xs) None c line so_far given = absurd so_far.taken

pub ended_there : (a b c : Option (List ℕ)) (line : List ℕ) (next : Option ℕ) → SoFar a b line
    → GivesByte b c next → next ≡ None
    → GivesLine a c line
ended_there a b c line next so_far given none = ended_with a b c line so_far (subst (GivesByte b c) none given)

-- ---- the end of all, and what is behind a line

no_line : (text : List ℕ) → length (take_through 10 text) ≡ 0 → text ≡ []
no_line [] none = refl
no_line (x ∷ xs) none = none_through (nat_eq x 10) none
  where
    none_through : (here : Bool) → length (if here then x ∷ [] else x ∷ take_through 10 xs) ≡ 0
        → x ∷ xs ≡ []
    none_through true none = absurd (let long : length (x ∷ []) ≡ 0 = none in omega arith)
    none_through false none = absurd (let long : length (x ∷ take_through 10 xs) ≡ 0 = none in omega arith)

-- a line of nothing was read at the end alone
pub at_end : (left left' : Option (List ℕ)) (line : List ℕ) → GivesLine left left' line → length line ≡ 0
    → IsAtEnd left
at_end None left' line given empty = tt
at_end (Some text) left' line given empty = no_line text (sym (ap length given.1) ∙ empty)

-- what holds of a line and all behind it holds of the whole
pub behind_line : (left left' : Option (List ℕ)) (line : List ℕ) (P : List ℕ → Type 0)
    → Consumes left left' line
    → IfSome (prepend_known line left') P → IfSome left P
behind_line None left' line P given so = tt
behind_line (Some text) (Some rest) line P given so = subst P (sym given) so
behind_line (Some text) None line P given so = absurd given

pub whole_of : (left : Option (List ℕ)) (line body : List ℕ) (P : List ℕ → Type 0)
    → IfSome left (λ text. body ≡ line ++ text) → P body
    → IfSome (prepend_known line left) P
whole_of None line body P is so = tt
whole_of (Some text) line body P is so = subst P is so

-- what holds of a line holds of the first one
pub first_of : (left left' : Option (List ℕ)) (line : List ℕ) (P : List ℕ → Type 0)
    → GivesLine left left' line
    → P line
    → IfSome left (λ text. P (take_through 10 text))
first_of None left' line P given so = tt
first_of (Some text) left' line P given so = subst P given.1 so

-- a buffer that has read nothing
pub unread_buffer : {R A : Type 0} (remaining : R → Option (List ℕ)) (buffer : BufReader R A) (inner : R)
    → reader_inner buffer ≡ inner
    → reader_buffer buffer ≡ [] → reader_capacity buffer ≡ 8192
    → reader_remaining remaining buffer ≡ remaining inner
unread_buffer remaining buffer inner same empty long =
    ap (λ n. if n == 0 then None else prepend_known (reader_buffer buffer) (remaining (reader_inner buffer))) long
    ∙ ap (λ bytes. prepend_known bytes (remaining (reader_inner buffer))) empty
    ∙ prepend_known-nil (remaining (reader_inner buffer)) ∙ ap remaining same
