-- Requests that are taken line by line.
use Rattle.std.proofs.Common.{◌≡◌, ◌++◌, ◌∷◌, [], ℕ, List, None, Option, Result, Some, inl, inr}
use Rattle.std.proofs.Common.{refl, subst, sym}
use Rattle.std.specs.Io.KnownBytes.{Keeps}
use Rattle.std.proofs.KnownBytes.{Appends-kept}
use Rattle.sqlite.specs.Store.{Ghosts}
use Rattle.sheet_types.specs.declared.command.Request.{Request}
use Rattle.request_json.specs.Requests.{IsRequestText}
use Rattle.world.specs.Worlds.{Seen}
use Rattle.command_folder.specs.Printing.{Prints}
use Rattle.command_folder.specs.declared.endings.Ending.{Ending}
use Rattle.command_folder.specs.Replies.{PrintsReply}
use Rattle.commands.specs.Streams.{AreSteps}
use Rattle.command_folder.specs.Bodies.{IsUnread}
use Rattle.commands.specs.Subcommands.{Applies, IsApplied, IsWhyUnasked}
use Rattle.sheet_types.specs.declared.receipt.Receipt.{Receipt}
use Rattle.sheet_types.specs.declared.refusal.Refusal.{Refusal}
use Rattle.std.specs.Prelude.{IfNone, IfSome}

-- ---- what is printed stays where a writer is flushed

pub prints_kept : (text : List ℕ) (due : Ending) (a b c : Option (List ℕ)) (ending : Ending)
    → Prints text due a b ending → Keeps b c
    → Prints text due a c ending
prints_kept text due a b c ending (inl whole) kept = inl (whole.0, Appends-kept a b c _ whole.1 kept)
prints_kept text due a b c ending (inr part) kept =
    inr (part.0, (part.1.0, part.1.1, Appends-kept a b c _ part.1.2 kept))

reply_kept : (reply : Result Receipt Refusal) (a b c : Option (List ℕ)) (ending : Ending)
    → PrintsReply reply a b ending → Keeps b c
    → PrintsReply reply a c ending
reply_kept reply a b c ending it kept = (it.0, it.1, it.2, prints_kept _ it.1 a b c ending it.3 kept)

pub applied_kept : {S : Type 0} (g : Ghosts S) (q : Request) (old new : Seen S)
    (a b c : Option (List ℕ)) (ending : Ending)
    → IsApplied g q old new a b ending → Keeps b c → IsApplied g q old new a c ending
applied_kept g q old new a b c ending it kept = record {
  reply = it.reply;
  step = it.step;
  still = it.still;
  unharmed = it.unharmed;
  printed = reply_kept it.reply a b c ending it.printed kept;
}

-- ---- steps

pub steps_more : {X T : Type 0} (Step : X → T → T → Type 0) (xs : List X) (x : X) (a b c : T)
    → AreSteps Step xs a b → Step x b c
    → AreSteps Step (xs ++ x ∷ []) a c
steps_more Step [] x a b c steps step = (c, subst (λ t. Step x t c) steps step, refl)
steps_more Step (y ∷ ys) x a b c steps step = (steps.0, steps.1, steps_more Step ys x steps.0 b c steps.2 step)

-- why a body is not asked, as why a reader's is not
pub unread_of : (text : List ℕ) (ending : Ending) → IsWhyUnasked text ending → IsUnread ending
unread_of text ending (inl none) = inl none
unread_of text ending (inr bad) = inr bad.0

-- of one request of all bytes
pub applies_where : {S W : Type 0} (g : Ghosts S) (text text' : Option (List ℕ)) (old new : Seen S)
    (writer writer' : W)
    (before after : Option (List ℕ)) (ending : Ending)
    → ((q : Request) → IfSome text (λ t. IsRequestText t q) → IfSome text' (λ t. IsRequestText t q))
    → Applies g text old new writer writer' before after ending
    → Applies g text' old new writer writer' before after ending
applies_where g text text' old new writer writer' before after ending so (inl nothing) = inl nothing
applies_where g text text' old new writer writer' before after ending so (inr it) = inr (it.0, so it.0 it.1, it.2)

-- ---- what was found

pub some_found : {A : Type 0} (found : Option A) (a : A) (P : A → Type 0) → found ≡ Some a → IfSome found P
    → P a
some_found found a P is so = subst (λ o. IfSome o P) is so

pub none_found : {A : Type 0} (found : Option A) (P : Type 0) → found ≡ None → IfNone found P → P
none_found found P is so = subst (λ o. IfNone o P) is so
