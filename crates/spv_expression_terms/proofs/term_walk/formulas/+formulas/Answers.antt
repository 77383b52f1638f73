use Rattle.std.proofs.Common.{◌≤◌, subst, sym, arith, length}
use Rattle.spv_program.specs.Terms.{formula_terms}
use Rattle.spv_expression_terms.specs.term_walk.Names.{head_in}
use Rattle.spv_program.specs.Formulas.{Formula}
use Rattle.spv_program.specs.typed.FormulaViews.{formulas_of}
use Rattle.spv_program.specs.typed.Model.FormulaSizes.{formula_size, formulas_size}
use Rattle.spv_expression_terms.proofs.term_walk.Lists.{formula_within, count_of_formulas, compared_as, head_behind}
use Rattle.spv_expression_terms.proofs.term_walk.formulas.+formulas.Goals as goal

pub operands-formula-requires : goal.operands-formula-requires
operands-formula-requires t c =
    let within : formula_size c.f-item.result ≤ formulas_size (formulas_of c.args.fs.now) =
    subst (λ (f : Formula). formula_size f ≤ formulas_size (formulas_of c.args.fs.now)) (sym c.f-item.is)
    (formula_within c.args.fs.now c.loop-f.f-index c.f-item.result (omega arith)) in
    (omega (arith, c.decreases), tt)

pub compared-returns-in-Equal-clause-writes : goal.compared-returns-in-Equal-clause-writes
compared-returns-in-Equal-clause-writes t c = compared_as _ _ _ _ _ _ _ c.in-Equal.is c.two.ensures.writes

pub compared-returns-in-NotEqual-clause-writes : goal.compared-returns-in-NotEqual-clause-writes
compared-returns-in-NotEqual-clause-writes t c = compared_as _ _ _ _ _ _ _ c.in-NotEqual.is c.different.ensures.writes

pub compared-returns-in-Less-clause-writes : goal.compared-returns-in-Less-clause-writes
compared-returns-in-Less-clause-writes t c = compared_as _ _ _ _ _ _ _ c.in-Less.is c.two-in-Less.ensures.writes

pub compared-returns-in-AtMost-clause-writes : goal.compared-returns-in-AtMost-clause-writes
compared-returns-in-AtMost-clause-writes t c = compared_as _ _ _ _ _ _ _ c.in-AtMost.is c.two-in-AtMost.ensures.writes

pub compared-returns-in-Greater-clause-writes : goal.compared-returns-in-Greater-clause-writes
compared-returns-in-Greater-clause-writes t c = compared_as _ _ _ _ _ _ _ c.in-Greater.is c.two-in-Greater.ensures.writes

pub compared-returns-in-AtLeast-clause-writes : goal.compared-returns-in-AtLeast-clause-writes
compared-returns-in-AtLeast-clause-writes t c = compared_as _ _ _ _ _ _ _ c.in-AtLeast.is c.two-in-AtLeast.ensures.writes

pub all-returns-clause-writes : goal.all-returns-clause-writes
all-returns-clause-writes t c =
    let heads = head_in c.args.names.now c.args.starts.now in
    head_behind c.write.result c.args.head (formula_terms heads (formulas_of c.args.fs.now)) (length c.args.fs.now) c.args.pieces.now.items c.operands.new.pieces.items c.write.new.pieces.items
    c.in_ok-operands.ensures.writes c.write.ensures (count_of_formulas heads c.args.fs.now)
