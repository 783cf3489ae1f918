-- The counts went out, and behind them why no more tiles were added.
use Rattle.command_ordering.proofs.putting.tell_added.Goals as goal

pub returns-in-Err : goal.returns-in-Err
returns-in-Err g c = rw c.in-Err.is (
  c.tell_counts-told.new.writer,
  c.tell_counts-told.result,
  c.tell_counts-told.ensures,
  c.tell_stop.ensures,
)
