use Rattle.std.proofs.Common.{◌≡◌, ◌++◌, flat_map, take}
use Rattle.std.specs.Prelude.{string_bytes}
use Rattle.view_report.specs.Accounts.{account_of}
use Rattle.view_report.proofs.accounts.put_accounts.Given as goal

-- the accounts of the packages so far
abbrev pub invariant-loop-live : goal.invariant-loop-live
invariant-loop-live l = string_bytes l.text ≡ string_bytes l.initial.text
    ++ flat_map (account_of l.register) (take l.live-index l.packages)
