-- The requests of the parts.
use Rattle.field_changes.proofs.changes.changes.Goals as goal

pub returns-clause-made : goal.returns-clause-made
returns-clause-made c =
    record { parts = c.in_ok-parts.parts; for_file = c.in_ok-parts.ensures.parts; asked = c.in_ok-requests.ensures }
