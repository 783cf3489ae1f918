-- A command makes of a world what one request makes of it, at most.
use Rattle.std.proofs.Common.{ℕ, List, [], Option, Some, Result, Ok, Err, inl, inr}
use Rattle.sqlite.specs.Store.{Ghosts}
use Rattle.world.specs.Worlds.{Seen}
use Rattle.command_folder.specs.declared.endings.Ending.{Ending as CommandEnding}
use Rattle.command_names.specs.declared.hints.Hint.{Hint}
use Rattle.command_named.specs.declared.looking.NamedLook.TheVariants.{Get, Explain, Manifest, Export}
use Rattle.command_named.specs.declared.packages.PackageLook.{PackageLook}
use Rattle.command_named.specs.declared.packages.PackageLook.TheVariants as kind
use Rattle.command_ordering.specs.Boxes.{LendsBox, order_of}
use Rattle.command_ordering.specs.declared.boxes.BoxedLoan.{BoxedLoan}
use Rattle.command_requests.specs.declared.orders.Order.{Order}
use Rattle.command_ordering.specs.Orders.{Answers, Orders}
use Rattle.command_ordering.specs.declared.orders.Purpose.{Purpose}
use Rattle.command_ordering.specs.declared.orders.Purpose.TheVariants.{Show, CarryOut}
use Rattle.desk_http.specs.Connections.{IsServedBy}
use Rattle.desk_http.proofs.ServedBy.{read_first, read_last, same_by, step_by, told_by}
use Rattle.sheet_types.specs.declared.command.Request.{Request}
use Rattle.views.specs.Looks.{LooksOver}
use Rattle.views.specs.declared.endings.Ending.{Ending}
use Rattle.views.specs.declared.looking.Look.{Look}
use Rattle.views.specs.declared.looking.Look.TheVariants as look
use Rattle.command_desk.specs.Deeds.{IsDone, LooksNamed}
use Rattle.command_desk.specs.declared.deeds.Deed.{Deed}
use Rattle.command_desk.specs.declared.deeds.Deed.TheVariants as deed

module _ {S : Type 0} (g : Ghosts S) {W : Type 0} (writer' : W) (after : Option (List ℕ))
    (contents : W → Option (List ℕ)) where
  -- a look reads, if at all
  looked : (strays : ℕ) (old new : Seen S) (writer : W) (before : Option (List ℕ)) (it : Look) (ending : Ending)
      → LooksOver g strays old new writer writer' before after it ending → IsServedBy g 1 old new
  looked strays old new writer before (look.Status form) ending is = told_by g old new is.read
  looked strays old new writer before (look.Log form excerpt) ending is = told_by g old new is.read
  looked strays old new writer before (look.Get word) ending is = told_by g old new is.read
  looked strays old new writer before (look.Explain form id) ending is = told_by g old new is.read
  looked strays old new writer before (look.Receipt id) ending is = told_by g old new (inr is.read)
  looked strays old new writer before (look.Manifest p) ending (told, ends, (r, due, read, is, rest)) =
      told_by g old new (inr read)
  looked strays old new writer before (look.Export p) ending (told, ends, (r, due, read, is, left, opens)) =
      told_by g old new (inr read)
  looked strays old new writer before (look.Map zoom) ending is = told_by g old new is.read
  looked strays old new writer before look.Audit ending (told, same, ends, rest) = same_by g old new same

  -- so does one of a package that a word names
  named : (old new : Seen S) (writer mid : W) (before between : Option (List ℕ)) (told hint : Option Hint)
      (what : PackageLook) (found : Result (List ℕ) CommandEnding) (ending : Ending)
      → LooksNamed g old new writer writer' before after mid between told what found ending hint
      → IsServedBy g 1 old new
  named old new writer mid before between told hint kind.Manifest (Ok id) ending is =
      looked 0 old new mid between (look.Manifest id) ending is.0
  named old new writer mid before between told hint kind.Export (Ok id) ending is =
      looked 0 old new mid between (look.Export id) ending is.0
  named old new writer mid before between told hint what (Err why) ending (ends, hinted, same, rest) =
      same_by g old new same

  -- a request that is shown, or carried out
  answered : (old new : Seen S) (writer : W) (before : Option (List ℕ)) (purpose : Purpose) (q : Request)
      (told : CommandEnding) → Answers g writer writer' before after purpose q old new told → IsServedBy g 1 old new
  answered old new writer before Show q told is = same_by g old new is.0
  answered old new writer before CarryOut q told is = step_by g q old new is.reply is.step

  ordered : (old new : Seen S) (writer : W) (before text : Option (List ℕ)) (o : Order) (purpose : Purpose)
      (told : CommandEnding) → Orders g writer writer' before after text o purpose old new told
      → IsServedBy g 1 old new
  ordered old new writer before text o purpose told (inl (unread, same, rest)) = same_by g old new same
  ordered old new writer before text o purpose told (inr (bytes, are, inl (why, read, asks, rest))) =
      told_by g old new read
  ordered old new writer before text o purpose told (inr (bytes, are, inr (q, mid, read, asks, is))) =
      read_first g old mid new read (answered mid new writer before purpose q told is)

  lent : (old new : Seen S) (writer : W) (before : Option (List ℕ)) (b : BoxedLoan) (purpose : Purpose)
      (told : CommandEnding) (hint : Option Hint)
      → LendsBox g b purpose old new writer writer' before after told hint → IsServedBy g 1 old new
  lent old new writer before b purpose told hint (inl is) =
      ordered old new writer before (Some []) (order_of b is.area) purpose told is.ordered
  lent old new writer before b purpose told hint (inr (inl is)) = same_by g old new is.same
  lent old new writer before b purpose told hint (inr (inr (fault, ends, same, rest, none))) = same_by g old new same

  -- what was done
  pub done_served : (old new : Seen S) (writer : W) (before : Option (List ℕ)) (files : ℕ) (input : List ℕ)
      (it : Deed)
      (ending : Ending) (hint : Option Hint)
      → IsDone g old new writer writer' before after contents files input it ending hint → IsServedBy g 1 old new
  done_served old new writer before files input deed.Apply ending hint (told, ends, none, inl (unread, same, rest)) =
      same_by g old new same
  done_served old new writer before files input deed.Apply ending hint (told, ends, none, inr (q, asks, is)) =
      step_by g q old new is.reply is.step
  done_served old new writer before files input (deed.Look asked) ending hint
      (inl (what, unread, ends, same, rest), none) = same_by g old new same
  done_served old new writer before files input (deed.Look asked) ending hint
      (inr (it, asks, inl (strays, are, is)), none) = looked strays old new writer before it ending is
  done_served old new writer before files input (deed.Look asked) ending hint
      (inr (it, asks, inr (fault, ends, same, rest)), none) = same_by g old new same
  done_served old new writer before files input (deed.Named (Get word)) ending hint (mid, gets, read, rest) =
      read_last g old mid new (told_by g old mid gets.read) read
  done_served old new writer before files input (deed.Named (Explain form word)) ending hint is =
      told_by g old new is.read
  done_served old new writer before files input (deed.Named (Manifest word)) ending hint is =
      named old new writer is.mid before (contents is.mid) is.told hint kind.Manifest is.named ending is.looks
  done_served old new writer before files input (deed.Named (Export word)) ending hint is =
      named old new writer is.mid before (contents is.mid) is.told hint kind.Export is.named ending is.looks
  done_served old new writer before files input (deed.Order o purpose) ending hint (told, ends, is) =
      read_last g old is.mid new (ordered old is.mid writer before (Some input) o purpose told is.ordered) is.read
  done_served old new writer before files input (deed.LendBox b purpose) ending hint (told, ends, is) =
      lent old new writer before b purpose told hint is
  done_served old new writer before files input (deed.Carry report) ending hint
      (told, ends, none, inl (unread, same, rest)) = same_by g old new same
  done_served old new writer before files input (deed.Carry report) ending hint (told, ends, none, inr (q, asks, is)) =
      step_by g q old new is.reply is.step
  done_served old new writer before files input deed.Frame ending hint (told, ends, none, same, rest) =
      same_by g old new same
