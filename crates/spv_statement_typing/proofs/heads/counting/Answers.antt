use Rattle.std.proofs.Common.{◌≡◌, Ok, IfOk, IfErr, subst, sym}
use Rattle.spv_program.specs.Statements.{Counting}
use Rattle.spv_program.specs.typed.StatementViews.{counting_of}
use Rattle.spv_typing.specs.Outcomes.{Outcome}
use Rattle.spv_environments.specs.Answers.{Stops}
use Rattle.spv_formula_typing.specs.Operands.{operand_of}
use Rattle.spv_statement_typing.specs.Settings.{setting_of}
use Rattle.spv_statement_typing.proofs.Counters.{counting_is}
use Rattle.spv_statement_typing.proofs.heads.counting.Goals as goal

pub returns-clause-ok : goal.returns-clause-ok
returns-clause-ok c =
    subst (λ (o : Outcome Counting). IfOk c.head_settled.result (λ r. o ≡ Ok (counting_of r.value)))
    (sym (counting_is (setting_of c.args.setting.now) c.args.line c.args.x c.args.from.now c.args.to.now c.args.towards (operand_of c.in_ok-a.a) (operand_of c.in_ok-b.b)
    c.line-on.result c.line-under.result c.direction_of.result c.in_ok-declared.ensures.ok c.in_ok-a.ensures.ok c.in_ok-b.ensures.ok c.line-on.ensures c.line-under.ensures
    c.direction_of.ensures))
    c.head_settled.ensures.ok

pub returns-clause-err : goal.returns-clause-err
returns-clause-err c =
    subst (λ (o : Outcome Counting). IfErr c.head_settled.result (λ e. Stops e o))
    (sym (counting_is (setting_of c.args.setting.now) c.args.line c.args.x c.args.from.now c.args.to.now c.args.towards (operand_of c.in_ok-a.a) (operand_of c.in_ok-b.b)
    c.line-on.result c.line-under.result c.direction_of.result c.in_ok-declared.ensures.ok c.in_ok-a.ensures.ok c.in_ok-b.ensures.ok c.line-on.ensures c.line-under.ensures
    c.direction_of.ensures))
    c.head_settled.ensures.err
