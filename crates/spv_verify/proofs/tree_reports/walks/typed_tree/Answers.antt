use Rattle.std.proofs.Common.{◌≡◌, IfErr, IfOk, Ok, subst, sym}
use Rattle.spv_typing.specs.Known.{known_in}
use Rattle.spv_environments.specs.Answers.{Stops}
use Rattle.spv_verify.specs.declared.texts.TextTree.{TextTree}
use Rattle.spv_verify.specs.texts.Trees.{tree_walk}
use Rattle.spv_verify.proofs.tree_reports.walks.typed_tree.Goals as goal

pub returns-in-OfProgram-clause-ok : goal.returns-in-OfProgram-clause-ok
returns-in-OfProgram-clause-ok c =
    subst (λ (t : TextTree). IfOk c.typed.result (λ p. tree_walk (known_in c.args.names.now) t ≡ Ok p)) (sym c.in-OfProgram.is) c.typed.ensures.ok

pub returns-in-OfProgram-clause-err : goal.returns-in-OfProgram-clause-err
returns-in-OfProgram-clause-err c =
    subst (λ (t : TextTree). IfErr c.typed.result (λ e. Stops e (tree_walk (known_in c.args.names.now) t))) (sym c.in-OfProgram.is) c.typed.ensures.err

pub returns-in-OfFormula-clause-ok : goal.returns-in-OfFormula-clause-ok
returns-in-OfFormula-clause-ok c =
    subst (λ (t : TextTree). IfOk c.typed_formula.result (λ p. tree_walk (known_in c.args.names.now) t ≡ Ok p)) (sym c.in-OfFormula.is) c.typed_formula.ensures.ok

pub returns-in-OfFormula-clause-err : goal.returns-in-OfFormula-clause-err
returns-in-OfFormula-clause-err c =
    subst (λ (t : TextTree). IfErr c.typed_formula.result (λ e. Stops e (tree_walk (known_in c.args.names.now) t))) (sym c.in-OfFormula.is) c.typed_formula.ensures.err
