use Rattle.std.proofs.Common.{◌∷◌, [], ap}
use Rattle.spv_logic.specs.declared.operators.Head.TheVariants as head
use Rattle.spv_proof_steps.specs.Steps.{fact_of}
use Rattle.spv_rules.proofs.making.Kept.{kept_ok, kept_err}
use Rattle.spv_proof.proofs.checker.Kept.{fact_known, negation_below, equation_below, below_below, at_most_below}
use Rattle.spv_proof.proofs.checker.keeping.make.Goals as goal

pub returns-in-Known-clause-kept : goal.returns-in-Known-clause-kept
returns-in-Known-clause-kept c = fact_known c.args.terms.now c.args.fact c.requires c.law_arena.ensures c.in-Known.t c.in-Known.is

pub returns-in-Negation-clause-kept : goal.returns-in-Negation-clause-kept
returns-in-Negation-clause-kept c =
    kept_ok c.args.terms.now c.law_arena.ensures head.Not (c.in-Negation.t ∷ []) (negation_below c.args.terms.now c.args.fact c.requires c.in-Negation.t c.in-Negation.is) c.make.new.self c.make.result
    (fact_of c.args.terms.now c.args.fact) (ap (fact_of c.args.terms.now) c.in-Negation.is) c.make.ensures.full c.make.ensures.arena

pub returns-in-Negation-clause-fault : goal.returns-in-Negation-clause-fault
returns-in-Negation-clause-fault c =
    kept_err c.args.terms.now c.law_arena.ensures head.Not (c.in-Negation.t ∷ []) (negation_below c.args.terms.now c.args.fact c.requires c.in-Negation.t c.in-Negation.is) c.make.result
    (fact_of c.args.terms.now c.args.fact) (ap (fact_of c.args.terms.now) c.in-Negation.is) c.make.ensures.size

pub returns-in-Equation-clause-kept : goal.returns-in-Equation-clause-kept
returns-in-Equation-clause-kept c =
    kept_ok c.args.terms.now c.law_arena.ensures head.Eq (c.in-Equation.s ∷ c.in-Equation.t ∷ []) (equation_below c.args.terms.now c.args.fact c.requires c.in-Equation.s c.in-Equation.t c.in-Equation.is) c.make-in-Equation.new.self c.make-in-Equation.result
    (fact_of c.args.terms.now c.args.fact) (ap (fact_of c.args.terms.now) c.in-Equation.is) c.make-in-Equation.ensures.full c.make-in-Equation.ensures.arena

pub returns-in-Equation-clause-fault : goal.returns-in-Equation-clause-fault
returns-in-Equation-clause-fault c =
    kept_err c.args.terms.now c.law_arena.ensures head.Eq (c.in-Equation.s ∷ c.in-Equation.t ∷ []) (equation_below c.args.terms.now c.args.fact c.requires c.in-Equation.s c.in-Equation.t c.in-Equation.is) c.make-in-Equation.result
    (fact_of c.args.terms.now c.args.fact) (ap (fact_of c.args.terms.now) c.in-Equation.is) c.make-in-Equation.ensures.size

pub returns-in-Below-clause-kept : goal.returns-in-Below-clause-kept
returns-in-Below-clause-kept c =
    kept_ok c.args.terms.now c.law_arena.ensures head.Lt (c.in-Below.s ∷ c.in-Below.t ∷ []) (below_below c.args.terms.now c.args.fact c.requires c.in-Below.s c.in-Below.t c.in-Below.is) c.make-in-Below.new.self c.make-in-Below.result
    (fact_of c.args.terms.now c.args.fact) (ap (fact_of c.args.terms.now) c.in-Below.is) c.make-in-Below.ensures.full c.make-in-Below.ensures.arena

pub returns-in-Below-clause-fault : goal.returns-in-Below-clause-fault
returns-in-Below-clause-fault c =
    kept_err c.args.terms.now c.law_arena.ensures head.Lt (c.in-Below.s ∷ c.in-Below.t ∷ []) (below_below c.args.terms.now c.args.fact c.requires c.in-Below.s c.in-Below.t c.in-Below.is) c.make-in-Below.result
    (fact_of c.args.terms.now c.args.fact) (ap (fact_of c.args.terms.now) c.in-Below.is) c.make-in-Below.ensures.size

pub returns-in-AtMost-clause-kept : goal.returns-in-AtMost-clause-kept
returns-in-AtMost-clause-kept c =
    kept_ok c.args.terms.now c.law_arena.ensures head.Le (c.in-AtMost.s ∷ c.in-AtMost.t ∷ []) (at_most_below c.args.terms.now c.args.fact c.requires c.in-AtMost.s c.in-AtMost.t c.in-AtMost.is) c.make-in-AtMost.new.self c.make-in-AtMost.result
    (fact_of c.args.terms.now c.args.fact) (ap (fact_of c.args.terms.now) c.in-AtMost.is) c.make-in-AtMost.ensures.full c.make-in-AtMost.ensures.arena

pub returns-in-AtMost-clause-fault : goal.returns-in-AtMost-clause-fault
returns-in-AtMost-clause-fault c =
    kept_err c.args.terms.now c.law_arena.ensures head.Le (c.in-AtMost.s ∷ c.in-AtMost.t ∷ []) (at_most_below c.args.terms.now c.args.fact c.requires c.in-AtMost.s c.in-AtMost.t c.in-AtMost.is) c.make-in-AtMost.result
    (fact_of c.args.terms.now c.args.fact) (ap (fact_of c.args.terms.now) c.in-AtMost.is) c.make-in-AtMost.ensures.size
