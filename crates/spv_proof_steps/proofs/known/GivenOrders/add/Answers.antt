use Rattle.std.proofs.Common.{refl}
use Rattle.spv_atoms.proofs.Walks.{on_ok}
use Rattle.spv_proof_steps.proofs.GivenLemmas.{adds_order}
use Rattle.spv_proof_steps.proofs.known.GivenOrders.add.Goals as goal

pub returns-in-Some : goal.returns-in-Some
returns-in-Some c = on_ok c.insert.result _ _ c.insert.ensures
    (adds_order c.args.terms.now c.law_arena.ensures c.args.fact c.in-Some.low c.in-Some.high c.args.self.now c.insert.new.self (c.in-Some.ensures.in_range _ refl).0 (c.in-Some.ensures.in_range _ refl).1 c.in-Some.ensures.value)
