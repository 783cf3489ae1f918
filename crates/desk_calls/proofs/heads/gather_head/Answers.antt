-- What was read so far says what the whole says.
use Rattle.std.proofs.Common.{[], arith, rules, inr, sym, ◌∙◌}
use Rattle.std.proofs.lemmas.Bool.{false≢true}
use Rattle.std.proofs.KnownBytes.{Consumes-kept}
use Rattle.desk_calls.proofs.HeadFacts.{whole_gathers, never_gathers, full_gathers, ended_gathers, grown, grown_some}
use Rattle.desk_calls.proofs.HeadFacts.{long_some, none_of, not_empty, nothing_read, one_more, room_within}
use Rattle.desk_calls.proofs.heads.gather_head.Goals as goal
use Rattle.desk_calls.proofs.heads.gather_head.Goals.{in-None, in-Some+in-Part}

pub returns-then-len-ge-MOST_HEAD-clause-head : goal.returns-then-len-ge-MOST_HEAD-clause-head
returns-then-len-ge-MOST_HEAD-clause-head g c =
    let inv = c.gathering.invariant in
    let some = long_some c.gathering.input.items (omega arith) in
    full_gathers _ _ c.gathering.input.items [] inv.taken (omega arith) some
    (none_of c.gathering.input.items inv.none some)

pub returns-else-is_empty-clause-head : goal.returns-else-is_empty-clause-head
returns-else-is_empty-clause-head g c =
    let inv = c.gathering.invariant in
    let w = rw c.in-Some-eq0.is at c.in_ok-take_more.ensures.took in
    let new = c.take_more.new.input.items in
    let some = not_empty _ new (sym c.if-is_empty.false ∙ c.is_empty.ensures) c.take_more.new.input.ok.0 in
    let same = nothing_read c.gathering.input.items new w.0 (sym c.in-Some-eq0.field-0-test ∙ w.3) w.1 in
    ended_gathers _ _ new [] (grown _ _ _ _ _ w.0 inv.taken w.1 w.2) (w.5 c.in-Some-eq0.field-0-test) some
    (rw same (none_of c.gathering.input.items inv.none (λ e. some (same ∙ e))))

pub returns-in-Whole-clause-taken : goal.returns-in-Whole-clause-taken
returns-in-Whole-clause-taken g c =
    let w = rw c.in-Some.is at c.in_ok-take_more.ensures.took in
    grown _ _ _ _ _ w.0 c.gathering.invariant.taken w.1 w.2

pub returns-in-Whole-clause-head : goal.returns-in-Whole-clause-head
returns-in-Whole-clause-head g c =
    let w = rw c.in-Some.is at c.in_ok-take_more.ensures.took in
    whole_gathers _ _ c.take_more.new.input.items _ c.in-Whole.head
    (grown _ _ _ _ _ w.0 c.gathering.invariant.taken w.1 w.2)
    (room_within _ _ _ w.4 (c.len-in-gathering.ensures ∙ c.gathering.input.ok.0) c.gathering.invariant.within)
    (search rules) (rw c.as_slice.ensures.value at c.in-Whole.ensures.0)

pub returns-in-Never-clause-head : goal.returns-in-Never-clause-head
returns-in-Never-clause-head g c =
    let w = rw c.in-Some.is at c.in_ok-take_more.ensures.took in
    never_gathers _ _ c.take_more.new.input.items [] (grown _ _ _ _ _ w.0 c.gathering.invariant.taken w.1 w.2)
    (grown_some _ _ w.0 _ c.in-Some.field-0-test.1 w.3 w.1) (rw c.as_slice.ensures.value at c.in-Never.ensures)

pub returns-else-is_empty-clause-short : goal.returns-else-is_empty-clause-short
returns-else-is_empty-clause-short g c =
    let w = rw c.in-Some-eq0.is at c.in_ok-take_more.ensures.took in
    room_within _ _ _ w.4 (c.len-in-gathering.ensures ∙ c.gathering.input.ok.0) c.gathering.invariant.within

pub returns-in-Whole-clause-short : goal.returns-in-Whole-clause-short
returns-in-Whole-clause-short g c =
    let w = rw c.in-Some.is at c.in_ok-take_more.ensures.took in
    room_within _ _ _ w.4 (c.len-in-gathering.ensures ∙ c.gathering.input.ok.0) c.gathering.invariant.within

pub returns-in-Never-clause-short : goal.returns-in-Never-clause-short
returns-in-Never-clause-short g c =
    let w = rw c.in-Some.is at c.in_ok-take_more.ensures.took in
    room_within _ _ _ w.4 (c.len-in-gathering.ensures ∙ c.gathering.input.ok.0) c.gathering.invariant.within

pub gathering-preserved : goal.gathering-preserved
gathering-preserved g c =
    let inv = c.gathering.invariant in
    let room = c.match-branch-2.auto.headers ∙ inv.room in
    elim c.match-branch-2.branch [
      | in-None w ↦
          let kept = rw w.in-None.is at c.in_ok-take_more.ensures.took in
          let on = rw w.in-None.is at c.in_ok-take_more.ensures.goes_on in
          record {
            within = rw kept.0 inv.within;
            room = room;
            taken = rw kept.0 (Consumes-kept _ _ _ _ inv.taken kept.1);
            none = rw kept.0 inv.none;
            keeps = λ sound. c.in_ok-take_more.ensures.keeps (inv.keeps sound);
            steps = λ sound. absurd (false≢true (on (inv.keeps sound)));
          }
      | in-Some+in-Part w ↦
          let v = rw w.in-Some.is at c.in_ok-take_more.ensures.took in
          record {
            within = room_within _ _ _ v.4 (c.len-in-gathering.ensures ∙ c.gathering.input.ok.0) inv.within;
            room = room;
            taken = grown _ _ _ _ _ v.0 inv.taken v.1 v.2;
            none = inr (rw w.as_slice.ensures.value at w.in-Part.ensures);
            keeps = λ sound. c.in_ok-take_more.ensures.keeps (inv.keeps sound);
            steps = λ sound. one_more _ _ v.0 _ _ (inv.steps sound) w.in-Some.field-0-test.1 v.3 v.1;
          }
    ]
