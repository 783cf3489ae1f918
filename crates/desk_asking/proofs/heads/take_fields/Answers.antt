-- A line more, or the empty one.
use Rattle.desk_asking.proofs.Copying.{fields_end, more_fields, no_fields}
use Rattle.desk_asking.proofs.heads.take_fields.Goals as goal

pub fields-init : goal.fields-init
fields-init g c = no_fields _

pub fields-preserved : goal.fields-preserved
fields-preserved g c =
    more_fields _ _ _ _ c.fields.invariant c.in_ok-line.ensures
    (rw c.as_slice.ensures.value at (c.is_blank.ensures.no c.if-is_blank.false))

pub returns-then-is_blank : goal.returns-then-is_blank
returns-then-is_blank g c =
    fields_end _ _ _ _ c.fields.invariant c.in_ok-line.ensures
    (rw c.as_slice.ensures.value at (c.is_blank.ensures.yes c.if-is_blank.true))
