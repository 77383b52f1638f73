use Rattle.std.proofs.Common.{List, length, sym, subst}
use Rattle.spv_logic.specs.declared.conditions.TermId.{TermId}
use Rattle.spv_term.specs.Arena.{AllBelow}
use Rattle.spv_arithmetic_side.specs.slack_rows.Rows.{IsWideAmong}
use Rattle.spv_trail.proofs.search_setup.BothSides.{ends_are, sides_are}
use Rattle.spv_trail.proofs.search_setup.sides.both_for.Goals as goal

pub open-requires-clause-below : goal.open-requires-clause-below
open-requires-clause-below c = subst (AllBelow (length c.args.terms.now.nodes)) (sym c.as_slice.ensures.value) c.requires.asked.atoms_are.atoms_in

pub open-requires-clause-ends : goal.open-requires-clause-ends
open-requires-clause-ends c = ends_are c.args.terms.now c.args.base c.requires.base

pub returns-in-Ok-clause-sides : goal.returns-in-Ok-clause-sides
returns-in-Ok-clause-sides c =
    sides_are c.args.terms.now c.args.condition.now c.args.questions.now c.args.pivots c.in-Ok.both _ c.law_arena.ensures c.requires.formulas c.requires.asked c.as_slice.ensures.value c.in-Ok.ensures.both c.in-Ok.ensures.told c.in-Ok.ensures.nodes
    c.in-Ok.ensures.parts c.in-Ok.ensures.pivots c.in-Ok.ensures.of_atoms c.in-Ok.ensures.listed c.law_terms.ensures

pub returns-in-Err-clause-wide : goal.returns-in-Err-clause-wide
returns-in-Err-clause-wide c = subst (λ (ts : List TermId). IsWideAmong c.args.terms.now ts c.in-Err.fault) c.as_slice.ensures.value c.in-Err.ensures.wide
