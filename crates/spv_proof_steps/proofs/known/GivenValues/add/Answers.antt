use Rattle.std.proofs.Common.{refl}
use Rattle.spv_atoms.proofs.Walks.{on_ok}
use Rattle.spv_proof_steps.proofs.GivenLemmas.{adds_one, adds_two}
use Rattle.spv_proof_steps.proofs.known.GivenValues.add.Goals as goal

pub returns-in_ok-give-in-Some : goal.returns-in_ok-give-in-Some
returns-in_ok-give-in-Some c = on_ok c.give-in-Some.result _ _ c.give-in-Some.ensures
    (adds_two c.args.terms.now c.law_arena.ensures c.args.fact c.in-Some.u c.args.self.now c.give.new.self c.give-in-Some.new.self c.requires (c.in-Some.ensures.in_range _ refl) c.in-Some.ensures.value c.in_ok-give-in-Some.ensures)

pub returns-in-None : goal.returns-in-None
returns-in-None c = on_ok c.give-in-None.result _ _ c.give-in-None.ensures
    (adds_one c.args.terms.now c.law_arena.ensures c.args.fact c.args.self.now c.give-in-None.new.self c.requires c.in-None.ensures.value)
