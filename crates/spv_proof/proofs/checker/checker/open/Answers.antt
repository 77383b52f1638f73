use Rattle.std.proofs.Common.{◌∙◌, sym}
use Rattle.spv_proof_steps.specs.Steps.{asked}
use Rattle.spv_proof.specs.checker.Stacks.{facts_in}
use Rattle.spv_proof.proofs.checker.Stacks.{opens-cases, atom-sort}
use Rattle.spv_proof.proofs.checker.checker.open.Goals as goal

pub cases_of-cases-requires-clause-sort : goal.cases_of-cases-requires-clause-sort
cases_of-cases-requires-clause-sort c = atom-sort c.args.terms.now c.law_arena.ensures c.args.split.now.atom c.requires.split (sym c.is_atom.ensures ∙ c.if-not-is_atom.false)

pub returns : goal.returns
returns c q =
    opens-cases c.args.terms.now c.args.facts.now c.args.pending.now.items c.push_cases.new.pending.items c.args.split.now (asked c.args.terms.now q) (facts_in c.cases_of-cases.result) (c.cases_of-cases.ensures.value q)
    (sym c.is_atom.ensures ∙ c.if-not-is_atom.false) (sym c.len.ensures ∙ (c.if-len-count.false ∙ c.count.ensures)) c.cases_of-cases.ensures.may c.requires.pending c.in_ok-push_cases.ensures
