use Rattle.spv_proof.proofs.checker.Stacks.{leaves-open}
use Rattle.spv_proof.proofs.checker.checker.leave.Goals as goal

pub returns-in-Some : goal.returns-in-Some
returns-in-Some c = leaves-open c.args.terms.now c.args.facts.now c.args.pending.now.items c.open.new.pending.items c.in-Some.split c.args.path c.args.split.now c.open.result c.in-Open.is c.in-Some.is c.open.ensures
