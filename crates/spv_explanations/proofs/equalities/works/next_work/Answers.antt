use Rattle.std.proofs.Common.{subst}
use Rattle.spv_explanations.specs.equalities.Links.{AreOwed}
use Rattle.spv_explanations.proofs.equalities.Owed.{owed-first, owed-last}
use Rattle.spv_explanations.proofs.equalities.works.next_work.Goals as goal

pub returns-in-Some-clause-owed : goal.returns-in-Some-clause-owed
returns-in-Some-clause-owed c g h same = owed-last g c.pop.new.self.items c.in-Some.work (subst (λ ws. AreOwed g ws) c.in-Some.ensures.items h)

pub returns-in-Some-clause-others : goal.returns-in-Some-clause-others
returns-in-Some-clause-others c g h = owed-first g c.pop.new.self.items c.in-Some.work (subst (λ ws. AreOwed g ws) c.in-Some.ensures.items h)
