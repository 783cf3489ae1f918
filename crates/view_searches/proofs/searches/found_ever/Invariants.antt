-- The receipts so far are searched.
use Rattle.std.proofs.Common.{take}
use Rattle.command_names.specs.Searching.{IsFound}
use Rattle.view_searches.specs.Searches.{added_of}
use Rattle.view_searches.proofs.searches.found_ever.Given as goal

abbrev pub invariant-loop-receipt : goal.invariant-loop-receipt
invariant-loop-receipt l = IsFound l.word (added_of (take l.receipt-index l.receipts)) l.found
