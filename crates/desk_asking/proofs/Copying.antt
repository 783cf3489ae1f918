-- What was read and written so far, frame by frame and piece by piece.
use Rattle.std.proofs.Common.{◌≡◌, ◌≢◌, ◌≤◌, ◌+◌, ◌-◌, ℕ, List, [], ◌∷◌, ◌++◌}
use Rattle.std.proofs.Common.{length, true, Option, Result, Ok, Err}
use Rattle.std.proofs.Common.{inl, inr, refl, sym, ◌∙◌, subst, arith}
use Rattle.std.specs.Prelude.{All, IfOk, codes, flat_map, nat_eq}
use Rattle.std.specs.Io.KnownBytes.{Appends, Consumes}
use Rattle.std.specs.List.{starts_with}
use Rattle.std.proofs.KnownBytes.{Appends-nil, Appends-trans, Consumes-nil, Consumes-trans}
use Rattle.std.proofs.lemmas.List.{flat_map_more, length-append}
use Rattle.std.proofs.lemmas.List.Elements.{All-append, All-cons, All-nil}
use Rattle.desk_asking.specs.Answers.{AreFields, AreFrames, Copies, Frame, IsAnswer, IsEnd, IsFrameOf, IsHead, IsTold}
use Rattle.desk_asking.specs.Answers.{Moves, bytes_if, bytes_of, frame_head, frame_text, line_text}
use Rattle.desk_asking.specs.declared.answers.Answer.{Answer}
use Rattle.desk_asking.specs.declared.answers.Answer.TheVariants.{Ended, NotHere}

-- bytes that were taken, and more behind them
pub taken_then : (a b c : Option (List ℕ)) (bs cs ds : List ℕ) → Consumes a b bs → Consumes b c cs
    → ds ≡ bs ++ cs
    → Consumes a c ds
taken_then a b c bs cs ds p q e = subst (Consumes a c) (sym e) (Consumes-trans a b c bs cs p q)

-- ---- pieces

-- so many bytes of a frame went from the reader to the writer, and so many are to come
pub record Moved (left left' out out' : Option (List ℕ)) (size rest : ℕ) : Type 0 where
  pub bytes : List ℕ
  pub long : length bytes + rest ≡ size
  pub taken : Consumes left left' bytes
  pub put : Appends out out' bytes

pub none_moved : (left out : Option (List ℕ)) (size : ℕ) → Moved left left out out size size
none_moved left out size = record { bytes = []; long = omega arith; taken = Consumes-nil left; put = Appends-nil out }

-- a piece more
pub more_moved : (left left1 left2 out out1 out2 : Option (List ℕ)) (size rest count long : ℕ)
    → Moved left left1 out out1 size rest
    → Moves long left1 left2 out1 out2 → long ≡ count → count ≤ rest
    → Moved left left2 out out2 size (rest - count)
more_moved left left1 left2 out out1 out2 size rest count long moved piece all within = record {
  bytes = moved.bytes ++ piece.0;
  long =
      let both = length-append moved.bytes piece.0 in
      let before = moved.long in
      let here = piece.1 in
      omega (arith, both, before, here, all, within);
  taken = Consumes-trans left left1 left2 moved.bytes piece.0 moved.taken piece.2;
  put = Appends-trans out out1 out2 moved.bytes piece.0 moved.put piece.3;
}

-- all of it
pub all_moved : (left left' out out' : Option (List ℕ)) (size rest : ℕ) → rest ≡ 0
    → Moved left left' out out' size rest → Moves size left left' out out'
all_moved left left' out out' size rest none moved = (moved.bytes, long, moved.taken, moved.put)
  where
    long : length moved.bytes ≡ size
    long = let all = moved.long in omega (arith, all, none)

-- ---- frames

-- bytes that are for standard output, and for standard error
pub for_output : (left left' out out' err : Option (List ℕ)) (kind size : ℕ) → kind ≡ 49
    → Moves size left left' out out' → Copies (IsFrameOf kind size) left left' out out' err err
for_output left left' out out' err kind size is moved =
    subst (λ k. Copies (IsFrameOf k size) left left' out out' err err) (sym is)
    (moved.0, moved.0, [], (moved.1, inl refl, refl, refl), moved.2, moved.3, Appends-nil err)

pub for_errors : (left left' out err err' : Option (List ℕ)) (kind size : ℕ) → kind ≡ 50
    → Moves size left left' err err' → Copies (IsFrameOf kind size) left left' out out err err'
for_errors left left' out err err' kind size is moved =
    subst (λ k. Copies (IsFrameOf k size) left left' out out err err') (sym is)
    (moved.0, [], moved.0, (moved.1, inr refl, refl, refl), moved.2, Appends-nil out, moved.3)

-- so many frames were read, and their bytes went to the writers that they are for
pub record SoFar (left left' out out' err err' : Option (List ℕ)) (count : ℕ) : Type 0 where
  pub frames : List Frame
  pub taken : Consumes left left' (flat_map frame_text frames)
  pub told : All IsTold frames
  pub to_output : Appends out out' (bytes_of 49 frames)
  pub to_errors : Appends err err' (bytes_of 50 frames)
  pub many : length frames ≡ count

pub none_yet : (left out err : Option (List ℕ)) → SoFar left left out out err err 0
none_yet left out err = record {
  frames = [];
  taken = Consumes-nil left;
  told = All-nil IsTold;
  to_output = Appends-nil out;
  to_errors = Appends-nil err;
  many = refl;
}

flat_one : (f : Frame → List ℕ) (fs : List Frame) (x : Frame)
    → flat_map f (fs ++ x ∷ []) ≡ flat_map f fs ++ f x
flat_one f fs x = sym (flat_map_more f [] fs x)

-- a frame more
pub one_more : (left left1 left2 left3 out out1 out2 err err1 err2 : Option (List ℕ)) (count kind size : ℕ)
    → SoFar left left1 out out1 err err1 count
    → Consumes left1 left2 (frame_head kind size) → Copies (IsFrameOf kind size) left2 left3 out1 out2 err1 err2
    → SoFar left left3 out out2 err err2 (count + 1)
one_more left left1 left2 left3 out out1 out2 err err1 err2 count kind size so head copied =
    let bytes = copied.0 in
    let says = copied.3 in
    let frame : Frame = (kind, bytes) in
    let whole : Consumes left1 left3 (frame_head kind size ++ bytes) =
    Consumes-trans left1 left2 left3 _ _ head copied.4 in
    let text : Consumes left1 left3 (frame_text frame) =
    subst (λ n. Consumes left1 left3 (frame_head kind n ++ bytes)) (sym says.0) whole in
    record {
      frames = so.frames ++ frame ∷ [];
      taken = subst (Consumes left left3) (sym (flat_one frame_text so.frames frame))
          (Consumes-trans left left1 left3 _ _ so.taken text);
      told = All-append IsTold so.frames (frame ∷ []) so.told (All-cons IsTold frame [] says.1 (All-nil IsTold));
      to_output =
          subst (Appends out out2) (sym (flat_one (bytes_if 49) so.frames frame))
          (Appends-trans out out1 out2 _ _ so.to_output (subst (Appends out1 out2) says.2 copied.5));
      to_errors =
          subst (Appends err err2) (sym (flat_one (bytes_if 50) so.frames frame))
          (Appends-trans err err1 err2 _ _ so.to_errors (subst (Appends err1 err2) says.3 copied.6));
      many =
          let all = length-append so.frames (frame ∷ []) in
          let before = so.many in
          omega (arith, all, before);
    }

nil_of : (fs : List Frame) → length fs ≡ 0 → fs ≡ []
nil_of [] e = refl
nil_of (f ∷ fs) e = cc e

-- the head of a last frame
pub ends_so : (left left1 left2 out out1 err err1 : Option (List ℕ)) (count kind size : ℕ) (answer : Answer)
    → SoFar left left1 out out1 err err1 count
    → Consumes left1 left2 (frame_head kind size) → IsEnd kind size count answer
    → Copies (λ bytes output errors. AreFrames bytes output errors answer) left left2 out out1 err err1
ends_so left left1 left2 out out1 err err1 count kind size (Ended status) so head end = (
  flat_map frame_text so.frames ++ frame_head 48 status,
  bytes_of 49 so.frames,
  bytes_of 50 so.frames,
  record { frames = so.frames; is = refl; told = so.told; ends = end.2; to_output = refl; to_errors = refl },
  Consumes-trans left left1 left2 _ _ so.taken
      (subst (λ k. Consumes left1 left2 (frame_head k status)) end.0
      (subst (λ n. Consumes left1 left2 (frame_head kind n)) end.1 head)),
  so.to_output,
  so.to_errors,
)
ends_so left left1 left2 out out1 err err1 count kind size NotHere so head end = (
  flat_map frame_text so.frames ++ frame_head 51 0,
  bytes_of 49 so.frames,
  bytes_of 50 so.frames,
  record {
    frames = so.frames;
    is = refl;
    told = so.told;
    ends = nil_of so.frames (so.many ∙ end.2);
    to_output = refl;
    to_errors = refl;
  },
  Consumes-trans left left1 left2 _ _ so.taken
      (subst (λ k. Consumes left1 left2 (frame_head k 0)) end.0
      (subst (λ n. Consumes left1 left2 (frame_head kind n)) end.1 head)),
  so.to_output,
  so.to_errors,
)

-- the same of an answer that may be none, where the frame changed nothing
pub ends_by : {F : Type 0} (r : Result Answer F)
    (left left1 left2 left3 out out1 out2 err err1 err2 : Option (List ℕ)) (count kind size : ℕ)
    → SoFar left left1 out out1 err err1 count → Consumes left1 left2 (frame_head kind size)
    → (left3 ≡ left2) × (out2 ≡ out1) × (err2 ≡ err1)
    → IfOk r (IsEnd kind size count)
    → IfOk r (λ answer. Copies (λ bytes output errors. AreFrames bytes output errors answer) left left3 out out2
    err err2)
ends_by (Err fault) left left1 left2 left3 out out1 out2 err err1 err2 count kind size so head same end = tt
ends_by (Ok answer) left left1 left2 left3 out out1 out2 err err1 err2 count kind size so head same end =
    let whole = ends_so left left1 left2 out out1 err err1 count kind size answer so head end in
    subst (λ e. Copies (λ bytes output errors. AreFrames bytes output errors answer) left left3 out out2 err e)
    (sym same.2)
    (subst (λ o. Copies (λ bytes output errors. AreFrames bytes output errors answer) left left3 out o err err1)
    (sym same.1)
    (subst (λ l. Copies (λ bytes output errors. AreFrames bytes output errors answer) left l out out1 err err1)
    (sym same.0) whole))

-- ---- heads

-- lines of a head that are not empty, and what they take
pub record FieldsSoFar (left left' : Option (List ℕ)) : Type 0 where
  pub fields : List (List ℕ)
  pub none_empty : All (λ field. field ≢ 13 ∷ []) fields
  pub taken : Consumes left left' (flat_map line_text fields)

pub no_fields : (left : Option (List ℕ)) → FieldsSoFar left left
no_fields left = record { fields = []; none_empty = All-nil (λ field. field ≢ 13 ∷ []); taken = Consumes-nil left }

pub more_fields : (left left1 left2 : Option (List ℕ)) (line : List ℕ) → FieldsSoFar left left1
    → Consumes left1 left2 (line ++ 10 ∷ []) → line ≢ 13 ∷ [] → FieldsSoFar left left2
more_fields left left1 left2 line so more some = record {
  fields = so.fields ++ line ∷ [];
  none_empty =
      All-append (λ field. field ≢ 13 ∷ []) so.fields (line ∷ []) so.none_empty
      (All-cons (λ field. field ≢ 13 ∷ []) line [] some (All-nil (λ field. field ≢ 13 ∷ [])));
  taken = subst (Consumes left left2) (flat_map_more line_text [] so.fields line)
      (Consumes-trans left left1 left2 _ _ so.taken more);
}

-- the empty line
pub fields_end : (left left1 left2 : Option (List ℕ)) (line : List ℕ) → FieldsSoFar left left1
    → Consumes left1 left2 (line ++ 10 ∷ []) → line ≡ 13 ∷ [] → (bytes : List ℕ) × AreFields bytes
    × Consumes left left2 bytes
fields_end left left1 left2 line so more is = (
  flat_map line_text so.fields ++ line_text (13 ∷ []),
  record { fields = so.fields; is = refl; none_empty = so.none_empty },
  Consumes-trans left left1 left2 _ _ so.taken (subst (λ (l : List ℕ). Consumes left1 left2 (l ++ 10 ∷ [])) is
      more),
)

-- a status line, and the fields behind it
pub head_of : (left left1 left2 : Option (List ℕ)) (status : List ℕ) → Consumes left left1 (status ++ 10 ∷ [])
    → starts_with nat_eq status (codes "HTTP/1.1 200 ") ≡ true
    → (bytes : List ℕ) × AreFields bytes × Consumes left1 left2 bytes → (head : List ℕ) × IsHead head
    × Consumes left left2 head
head_of left left1 left2 status taken good rest =
    (line_text status ++ rest.0, (status, rest.0, refl, good, rest.1), Consumes-trans left left1 left2 _ _ taken rest.2)

-- frames behind a head
pub behind_head : {F : Type 0} (r : Result Answer F) (left left1 left2 out out' err err' : Option (List ℕ))
    → (head : List ℕ) × IsHead head × Consumes left left1 head
    → IfOk r (λ answer. Copies (λ bytes output errors. AreFrames bytes output errors answer) left1 left2 out out'
    err
    err')
    → IfOk r (λ answer. Copies (λ bytes output errors. IsAnswer bytes output errors answer) left left2 out out' err
    err')
behind_head (Ok answer) left left1 left2 out out' err err' h w =
    (h.0 ++ w.0, w.1, w.2, (h.0, w.0, refl, h.1, w.3), Consumes-trans left left1 left2 _ _ h.2 w.4, w.5, w.6)
behind_head (Err fault) left left1 left2 out out' err err' h w = tt
