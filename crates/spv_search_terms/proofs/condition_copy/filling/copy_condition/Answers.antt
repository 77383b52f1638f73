use Rattle.std.proofs.Common.{refl, ap}
use Rattle.std.specs.Prelude.{Err}
use Rattle.spv_term.specs.declared.nodes.TermFault.TheVariants.{Size}
use Rattle.spv_search_terms.proofs.condition_copy.Exits.{one_fault}
use Rattle.spv_search_terms.proofs.condition_copy.FillLemmas.{copy_made, copy_stops}
use Rattle.spv_search_terms.proofs.condition_copy.filling.copy_condition.Goals as goal

pub returns-in-Ok-clause-copy : goal.returns-in-Ok-clause-copy
returns-in-Ok-clause-copy c = copy_made c.args.terms.now c.args.condition.now c.args.most c.in_ok-new.new c.in_ok-new.ensures c.fill.new.new c.in-Ok.filled c.in-Ok.ensures.gains c.in-Ok.ensures.filled

pub returns-in-Err-clause-size : goal.returns-in-Err-clause-size
returns-in-Err-clause-size c = λ is. copy_stops c.args.terms.now c.args.condition.now c.args.most c.in_ok-new.new c.in_ok-new.ensures (c.in-Err.ensures.size (ap Err (one_fault c.in-Err.fault Size _ refl is)))
