-- A change of one package, or a split or a merge.
use Rattle.std.proofs.Common.{◌≡◌, ◌⊎◌, sym, ap, subst, inl, inr, ℕ, List, IfOk, Result, Ok, Err}
use Rattle.std.specs.Prelude.{Option}
use Rattle.world_decisions.specs.Deciding.{child_asked, Makes, MakesNone}
use Rattle.world_decisions.specs.declared.deciding.Decision.{Decision}
use Rattle.sheet_types.specs.declared.command.Command.{Command}
use Rattle.sheet_types.specs.declared.command.Command.TheVariants.{Add, Delete, Link, Unlink}
use Rattle.sheet_types.specs.declared.command.Content.{Content}
use Rattle.sheet_types.specs.declared.command.Mapping.{Mapping}
use Rattle.world_members.specs.Laws.{ChangesOnePackage}
use Rattle.world_queries.proofs.Questions.{asks_weaker}
use Rattle.world_decisions.proofs.deciding.decide_new.Goals as goal

-- the commands of the last arm change one package
one_by_add : (command : Command) → ((uuid : List ℕ) × (identity : List ℕ) × (content : Content)
    × (command ≡ Add uuid identity content)) → ChangesOnePackage command
one_by_add command (uuid, identity, content, is) = subst ChangesOnePackage (sym is) tt

one_by_delete : (command : Command) → ((uuid : List ℕ) × (identity : List ℕ)
    × (command ≡ Delete uuid identity))
    → ChangesOnePackage command
one_by_delete command (uuid, identity, is) = subst ChangesOnePackage (sym is) tt

one_by_link : (command : Command) → ((uuid : List ℕ) × (mapping : Mapping) × (base : List ℕ)
    × (other : List ℕ)
    × (command ≡ Link uuid mapping base other)) → ChangesOnePackage command
one_by_link command (uuid, mapping, base, other, is) = subst ChangesOnePackage (sym is) tt

one_by_unlink : (command : Command) → ((uuid : List ℕ) × (mapping : Mapping) × (base : List ℕ)
    × (other : List ℕ)
    × (command ≡ Unlink uuid mapping base other)) → ChangesOnePackage command
one_by_unlink command (uuid, mapping, base, other, is) = subst ChangesOnePackage (sym is) tt

pub returns-in-Add-clause-asks : goal.returns-in-Add-clause-asks
returns-in-Add-clause-asks g c =
    let one : ChangesOnePackage c.args.request.now.command =
    elim c.in-Add.is [
      | inl add ↦ one_by_add _ add
      | inr (inl delete) ↦ one_by_delete _ delete
      | inr (inr (inl link)) ↦ one_by_link _ link
      | inr (inr (inr unlink)) ↦ one_by_unlink _ unlink
    ] in
    asks_weaker g.S.Store _ (λ decision w count are told knows new. told knows (record {
      asked = record { frame = new.of_world.frame; counted = new.of_world.counted; one = one };
      new = new.new;
    })) c.decide_change.ensures.asks

pub returns-in-Merge-clause-asks : goal.returns-in-Merge-clause-asks
returns-in-Merge-clause-asks g c = asks_weaker g.S.Store _ (λ decision w count are told knows new. told
    new.of_world.counted new.new) c.decide_merge.ensures.asks

pub returns-in-Split-clause-asks : goal.returns-in-Split-clause-asks
returns-in-Split-clause-asks g c = c.decide_split.ensures.asks

-- where no split is due, none makes another package
makes_none : {E : Type 0} (r : Result Decision E) (child : Option (List ℕ)) → IfOk r MakesNone
    → IfOk r (λ decision. Makes child decision)
makes_none (Ok decision) child none = none child
makes_none (Err e) child none = tt

pub returns-in-Merge-clause-makes : goal.returns-in-Merge-clause-makes
returns-in-Merge-clause-makes g c = makes_none c.decide_merge.result (child_asked c.args.request.now.command)
    c.decide_merge.ensures.makes

pub returns-in-Split-clause-makes : goal.returns-in-Split-clause-makes
returns-in-Split-clause-makes g c =
    subst (λ child. IfOk c.decide_split.result (λ decision. Makes child decision))
    (sym (ap child_asked c.in-Split.is)) c.decide_split.ensures.makes
