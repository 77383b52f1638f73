use Rattle.std.proofs.Common.{sym, ap}
use Rattle.std.specs.Prelude.{Err}
use Rattle.spv_term.specs.declared.nodes.TermFault.TheVariants.{Size}
use Rattle.spv_search_terms.proofs.subterms.GainLemmas.{Stops-left, Stops-behind}
use Rattle.spv_search_terms.proofs.split_candidates.EquationLemmas.{on_ok, same_fault, gains_as, stops_as, both_gained, equations-are, own_sorts, own_now}
use Rattle.spv_search_terms.proofs.split_candidates.equations.equate_pair.Goals as goal

pub returns-in_err-equate_arguments-clause-size : goal.returns-in_err-equate_arguments-clause-size
returns-in_err-equate_arguments-clause-size c =
    λ is.
    stops_as c.args.terms.now _ _ (sym (equations-are c.args.terms.now c.law_arena.ensures c.args.s c.args.t c.requires.s c.requires.t c.requires.pair))
    (Stops-left c.args.terms.now _ _ (c.in_err-equate_arguments.ensures.size (ap Err (same_fault c.in_err-equate_arguments.field-0.0 c.from_residual.result c.from_residual.ensures.1 Size is))))

pub equate_if-requires-clause-sorts : goal.equate_if-requires-clause-sorts
equate_if-requires-clause-sorts c = own_sorts c.args.terms.now c.law_arena.ensures c.args.s c.args.t c.requires.s c.requires.t c.requires.pair c.equate_arguments.new.terms c.in_ok-equate_arguments.ensures.grows

pub returns-clause-gains : goal.returns-clause-gains
returns-clause-gains c =
    on_ok c.equate_if.result _ _ c.equate_if.ensures.gains
    (λ g. gains_as c.args.terms.now c.equate_if.new.terms c.args.out.now c.equate_if.new.out _ _
    (own_now c.args.terms.now c.law_arena.ensures c.args.s c.args.t c.requires.s c.requires.t c.requires.pair c.equate_arguments.new.terms c.in_ok-equate_arguments.ensures.grows c.is_number-wanted.result c.is_number-wanted.ensures)
    (both_gained c.args.terms.now c.equate_arguments.new.terms c.equate_if.new.terms c.args.out.now c.equate_arguments.new.out c.equate_if.new.out _ _ c.in_ok-equate_arguments.ensures.gains g))

pub returns-clause-size : goal.returns-clause-size
returns-clause-size c =
    λ is.
    stops_as c.args.terms.now _ _
    (own_now c.args.terms.now c.law_arena.ensures c.args.s c.args.t c.requires.s c.requires.t c.requires.pair c.equate_arguments.new.terms c.in_ok-equate_arguments.ensures.grows c.is_number-wanted.result c.is_number-wanted.ensures)
    (Stops-behind c.args.terms.now c.equate_arguments.new.terms _ _ c.in_ok-equate_arguments.ensures.gains.gains (c.equate_if.ensures.size is))
