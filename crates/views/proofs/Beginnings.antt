-- What went out of a text of several pieces.
use Rattle.std.proofs.Common.{◌≡◌, ◌<◌, ◌≤◌, ◌++◌, ℕ, List, length, length-append, take_all}
use Rattle.std.proofs.Common.{Option, Result, Ok, Err}
use Rattle.std.proofs.Common.{OnErr, arith, refl, sym, subst}
use Rattle.std.proofs.lemmas.List.{take-append-le}
use Rattle.std.proofs.KnownBytes.{Appends-nil, Appends-trans}
use Rattle.std.specs.Io.KnownBytes.{Appends}
use Rattle.view_export.specs.Exports.{closing}
use Rattle.manifest_csv.specs.Sent.{WentOut}
use Rattle.manifest_csv.proofs.SentFacts.{went_out_after, went_out_of}
use Rattle.views.specs.Written.{Began}

-- what holds, holds after an error
pub on_err : {T E : Type 0} {P : Type 0} (r : Result T E) → P → OnErr r P
on_err (Ok x) p = tt
on_err (Err e) p = p

pub began_of : (a b : Option (List ℕ)) (text : List ℕ) → WentOut a b text → Began a b text
began_of a b text q = (q.0, omega (arith, q.1), q.2)

-- a whole piece is a beginning
began_at : (a b : Option (List ℕ)) (first second : List ℕ) → Appends a b first → Began a b (first ++ second)
began_at a b first second p =
    let most : length first ≤ length first = omega arith in (
      length first,
      rw (length-append first second) (omega arith),
      rw
          (take-append-le (length first) first second most, take_all (length first) first most) p,
    )

-- ---- of a text in pieces, where pieces went out and then this one

-- no part of it
pub began_before : (a b : Option (List ℕ)) (all sent left : List ℕ) → all ≡ sent ++ left → Appends a b sent
    → Began a b all
began_before a b all sent left split p = subst (Began a b) (sym split) (began_at a b sent left p)

-- a beginning of it
pub began_within : (a b c : Option (List ℕ)) (all sent piece text more left : List ℕ) → text ≡ piece
    → more ≡ sent ++ piece → all ≡ more ++ left
    → Appends a b sent → WentOut b c text → Began a c all
began_within a b c all sent piece text more left is joined split p q =
    let both : WentOut a c more = subst (WentOut a c) (sym joined)
    (went_out_after a b c sent piece p (subst (WentOut b c) is q)) in
    began_of a c all (subst (WentOut a c) (sym split) (went_out_of a c more left both))

-- all of it
pub sent_too : (a b c : Option (List ℕ)) (sent piece text more : List ℕ) → text ≡ piece
    → more ≡ sent ++ piece
    → Appends a b sent → Appends b c text → Appends a c more
sent_too a b c sent piece text more is joined p q =
    subst (Appends a c) (sym joined) (Appends-trans a b c sent piece p (subst (Appends b c) is q))

-- ---- of a text that has an end

some_last : (first last : List ℕ) → 0 < length last → 0 < length (first ++ last)
some_last first last some = rw (length-append first last) (omega (arith, some))

-- nothing of it
pub unbegun : (a : Option (List ℕ)) (text : List ℕ) → 0 < length text → WentOut a a text
unbegun a text some = (0, some, Appends-nil a)

-- not its end
pub unended : (a b : Option (List ℕ)) (text last : List ℕ) → 0 < length last → Began a b text
    → WentOut a b (text ++ last)
unended a b text last some q =
    (q.0, rw (length-append text last) (omega (arith, q.1, some)), rw (take-append-le q.0 text last q.1) q.2)

-- a head, rows, links and an end
module _ (head rows links : List ℕ) where
  abbrev pub whole : List ℕ
  whole = head ++ (rows ++ (links ++ closing))

  some_end : 0 < length (links ++ closing)
  some_end = let eight : length closing ≡ 8 = refl in some_last links closing (omega (arith, eight))

  pub none_sent : (a : Option (List ℕ)) → WentOut a a whole
  none_sent a = unbegun a whole (some_last head (rows ++ (links ++ closing))
      (some_last rows (links ++ closing) some_end))

  pub head_begun : (a b : Option (List ℕ)) → WentOut a b head → WentOut a b whole
  head_begun a b q = went_out_of a b head (rows ++ (links ++ closing)) q

  pub rows_begun : (a b c : Option (List ℕ)) → Appends a b head → Began b c rows → WentOut a c whole
  rows_begun a b c p q = went_out_after a b c head (rows ++ (links ++ closing)) p
      (unended b c rows (links ++ closing) some_end q)

  pub links_begun : (a b c d : Option (List ℕ)) → Appends a b head → Appends b c rows → Began c d links
      → WentOut a d whole
  links_begun a b c d p q r =
      let eight : length closing ≡ 8 = refl in
      went_out_after a b d head (rows ++ (links ++ closing)) p
      (went_out_after b c d rows (links ++ closing) q (unended c d links closing (omega (arith, eight)) r))

  pub end_begun : (a b c d e : Option (List ℕ)) → Appends a b head → Appends b c rows → Appends c d links
      → WentOut d e closing → WentOut a e whole
  end_begun a b c d e p q r s =
      went_out_after a b e head (rows ++ (links ++ closing)) p
      (went_out_after b c e rows (links ++ closing) q (went_out_after c d e links closing r s))

  pub all_sent : (a b c d e : Option (List ℕ)) → Appends a b head → Appends b c rows → Appends c d links
      → Appends d e closing → Appends a e whole
  all_sent a b c d e p q r s =
      Appends-trans a b e head (rows ++ (links ++ closing)) p
      (Appends-trans b c e rows (links ++ closing) q (Appends-trans c d e links closing r s))
