-- What is said of a mark, said of its verb.
use Rattle.std.proofs.Common.{◌≡◌, ℕ, List, Result, MatchResult, sym, subst}
use Rattle.std.specs.Borrow.{Bor}
use Rattle.sheet_types.specs.Answers.{PackageSight}
use Rattle.sheet_types.specs.declared.command.Command.{Command}
use Rattle.command_verbs.specs.Verbs.{IsWhyNoMark, IsWhyUnsaid, PutsMark, Says}
use Rattle.command_verbs.specs.declared.items.ItemEntry.{ItemEntry}
use Rattle.command_verbs.specs.declared.verbs.Mark.{Mark}
use Rattle.command_verbs.specs.declared.verbs.Verb.{Verb}
use Rattle.command_verbs.specs.declared.verbs.Verb.TheVariants.{PutMark}
use Rattle.command_verbs.specs.declared.verbs.VerbFault.{VerbFault}

pub said_mark : (sights : List PackageSight) (items : List ItemEntry) (v : Verb) (holder : Bor (List ℕ)) (m : Mark)
    (identity bytes : List ℕ) (r : Result Command VerbFault)
    → v ≡ PutMark holder m identity → MatchResult r (PutsMark sights holder.now m identity)
    (IsWhyNoMark sights holder.now m)
    → MatchResult r (Says sights items v bytes) (IsWhyUnsaid sights items v bytes)
said_mark sights items v holder m identity bytes r is it =
    subst (λ x. MatchResult r (Says sights items x bytes) (IsWhyUnsaid sights items x bytes)) (sym is) it
