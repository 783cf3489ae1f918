-- Some right views of the stores are judged.
use Rattle.std.specs.Prelude.{List}
use Rattle.std.proofs.Common.{◌⊎◌}
use Rattle.sheet_laws.specs.Laws.{StoreSight}
use Rattle.opening_verdict.specs.Views.{AreSeenAs, IsFaultOf}
use Rattle.world_changes.specs.Leaving.{AreClean}
use Rattle.opening_stores.specs.Judged.{AreJudged, IsFaultAt, IsJudgedOf, IsWant}
use Rattle.opening_stores.proofs.Judged.{ok_so, err_so, judged, fault_at}
use Rattle.opening_stores.proofs.judging.judge_stores.Goals as goal

pub returns-in-Ok-clause-judged : goal.returns-in-Ok-clause-judged
returns-in-Ok-clause-judged g c =
    ok_so (λ j. IsJudgedOf c.in-Ok.seen.items j.frame j.verdict j.known)
    (λ j. AreClean g.S.Store c.survey_all.new.stores.items
    → AreJudged g.S.Store c.survey_all.new.stores.items j.frame j.verdict j.known) c.judge_seen.result
    (λ j is clean. judged g.S.Store c.survey_all.new.stores.items c.in-Ok.seen.items j.frame j.verdict j.known
    (c.in-Ok.ensures.seen c.requires.keyed clean) is) c.judge_seen.ensures.is

pub returns-in-Ok-clause-fault : goal.returns-in-Ok-clause-fault
returns-in-Ok-clause-fault g c =
    err_so (λ f. IsWant f ⊎ ((views : List StoreSight) → AreSeenAs c.in-Ok.seen.items views → IsFaultOf views f))
    (λ f. AreClean g.S.Store c.survey_all.new.stores.items → IsFaultAt g.S.Store c.survey_all.new.stores.items f)
    c.judge_seen.result
    (λ f is clean. fault_at g.S.Store c.survey_all.new.stores.items c.in-Ok.seen.items f
    (c.in-Ok.ensures.seen c.requires.keyed clean) is) c.judge_seen.ensures.fault
