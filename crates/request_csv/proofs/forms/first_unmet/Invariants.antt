-- The columns so far are met.
use Rattle.std.proofs.Common.{take}
use Rattle.csv.specs.Records.{fields_of}
use Rattle.request_csv.specs.Forms.{MeetFrom}
use Rattle.request_csv.proofs.forms.first_unmet.Given as goal

abbrev pub invariant-loop-column : goal.invariant-loop-column
invariant-loop-column l = MeetFrom (fields_of l.row) 0 (take l.column l.wants)
