use Rattle.std.proofs.Common.{◌≤◌, ◌<◌, ◌+◌, ◌*◌, Option, Ok, IfErr, option_map, rules, refl, subst, sym, ap, ◌∙◌, arith}
use Rattle.std.specs.declared.boxed.Box.{Box}
use Rattle.std.specs.Global.{Global}
use Rattle.spv_tree.specs.declared.syntax.lists.Several.{Several}
use Rattle.spv_tree.specs.declared.syntax.names.Constant.{Constant}
use Rattle.spv_tree.specs.syntax.Statements as tree
use Rattle.spv_tree.specs.syntax.StatementViews.{arm_of}
use Rattle.spv_tree.specs.syntax.Model.StatementSizes.{more_statements_of, more_arms_of, statement_size, more_statements_size, arm_size, more_arms_size}
use Rattle.spv_program.specs.Statements.{Statement}
use Rattle.spv_program.specs.typed.FormulaViews.{annotation_of}
use Rattle.spv_typing.specs.Outcomes.{Outcome}
use Rattle.spv_typing.specs.StatementWalk.{statement_walk, arm_walk}
use Rattle.spv_environments.specs.Answers.{Stops}
use Rattle.spv_statement_typing.specs.Chains.{so_far, arms_walk}
use Rattle.spv_statement_typing.specs.Settings.{setting_of}
use Rattle.spv_statement_typing.proofs.Loops.{chain_more, chain_all, arm_is, arms_stop, arms_all, statement_within, arm_within, repeat_walked, selection_stops}
use Rattle.spv_statement_typing.proofs.walk.+statements.Goals as goal

-- ---- statements one after the other

pub statements-statement-requires-in-loop-other : goal.statements-statement-requires-in-loop-other
statements-statement-requires-in-loop-other t c =
    let within : statement_size c.other-item.result ≤ more_statements_size (more_statements_of c.args.more.now) =
    subst (λ (s : tree.Statement). statement_size s ≤ more_statements_size (more_statements_of c.args.more.now)) (sym c.other-item.is)
    (statement_within c.args.more.now c.loop-other.other-index c.other-item.result c.loop-other-test.true) in
    let falls : 8 * statement_size c.other-item.result < 8 * (statement_size c.args.first.now + more_statements_size (more_statements_of c.args.more.now)) + 4 = omega (arith, within) in
    search rules

pub statements-loop-other-preserved : goal.statements-loop-other-preserved
statements-loop-other-preserved t c =
    chain_more (setting_of c.args.setting.now) c.args.first.now c.args.more.now c.loop-other.other-index c.other-item.result c.loop-other.made.items c.push-in-loop-other.new.items.items
    c.in_ok-next.next c.loop-other-test.true c.other-item.is c.in_ok-next.ensures.ok c.in_ok-push-2.ensures c.loop-other.invariant

pub statements-returns-clause-ok : goal.statements-returns-clause-ok
statements-returns-clause-ok t c =
    chain_all (setting_of c.args.setting.now) c.args.first.now c.args.more.now c.loop-other.other-index c.loop-other.made.items c.loop-other-test.false c.loop-other.invariant

-- ---- arms

pub arms-add_arm-requires-in-loop-other : goal.arms-add_arm-requires-in-loop-other
arms-add_arm-requires-in-loop-other t c =
    let within : arm_size c.other-item.result ≤ more_arms_size (more_arms_of c.args.more.now) =
    subst (λ (s : tree.Arm). arm_size s ≤ more_arms_size (more_arms_of c.args.more.now)) (sym c.other-item.is)
    (arm_within c.args.more.now c.loop-other.other-index c.other-item.result c.loop-other-test.true) in
    let falls : 8 * arm_size c.other-item.result + 2 < 8 * (arm_size c.args.first.now + more_arms_size (more_arms_of c.args.more.now)) + 4 = omega (arith, within) in
    search rules

pub arms-returns-in_err-add_arm-2-clause-err : goal.arms-returns-in_err-add_arm-2-clause-err
arms-returns-in_err-add_arm-2-clause-err t c =
    let stopped : Stops c.in_err-add_arm-2.field-0.0 (arms_walk (setting_of c.args.setting.now) c.args.first.now c.args.more.now) =
    arms_stop (setting_of c.args.setting.now) c.args.first.now c.args.more.now c.loop-other.other-index c.other-item.result c.loop-other.seen c.loop-other.made.items
    c.in_err-add_arm-2.field-0.0 c.loop-other-test.true c.other-item.is c.in_err-add_arm-2.ensures.err c.loop-other.invariant in
    search rules

pub arms-returns-clause-ok : goal.arms-returns-clause-ok
arms-returns-clause-ok t c =
    arms_all (setting_of c.args.setting.now) c.args.first.now c.args.more.now c.loop-other.other-index c.loop-other.seen c.loop-other.made.items c.loop-other-test.false c.loop-other.invariant

pub arm-returns-clause-ok : goal.arm-returns-clause-ok
arm-returns-clause-ok t c = λ line made.
    arm_is (setting_of c.args.setting.now) line c.args.constants.now c.args.body.now c.args.seen.now c.arm_labels.new.seen c.in_ok-own.own made _
    c.in_ok-own.ensures.ok c.in_ok-own.ensures.added c.in_ok-made.ensures.ok refl

pub add_arm-returns-in_ok-push-in-Some-clause-ok : goal.add_arm-returns-in_ok-push-in-Some-clause-ok
add_arm-returns-in_ok-push-in-Some-clause-ok t c =
    ap (λ o. arm_walk (setting_of c.args.setting.now) (so_far c.args.seen.now c.args.made.now.items) o) (sym c.tree.view_is)
    ∙ ap (λ (o : Option (Several Constant × Box tree.Statement Global)). arm_walk (setting_of c.args.setting.now) (so_far c.args.seen.now c.args.made.now.items) (arm_of c.tree.inside.line o)) c.in-Some.is
    ∙ ap (λ (s : tree.Statement). arm_walk (setting_of c.args.setting.now) (so_far c.args.seen.now c.args.made.now.items) (tree.arm c.tree.inside.line c.in-Some.constants s)) (sym c.deref.ensures)
    ∙ c.in_ok-next-in-Some.ensures.ok c.tree.inside.line c.args.made.now.items
    ∙ ap (λ made. Ok (so_far c.arm.new.seen made)) (sym c.in_ok-push-in-Some.ensures)

pub add_arm-returns-in_err-next-in-Some-clause-err : goal.add_arm-returns-in_err-next-in-Some-clause-err
add_arm-returns-in_err-next-in-Some-clause-err t c =
    let stopped : Stops c.in_err-next-in-Some.field-0.0 (arm_walk (setting_of c.args.setting.now) (so_far c.args.seen.now c.args.made.now.items) c.args.tree.now) =
    subst (λ (a : tree.Arm). Stops c.in_err-next-in-Some.field-0.0 (arm_walk (setting_of c.args.setting.now) (so_far c.args.seen.now c.args.made.now.items) a))
    (ap (λ (s : tree.Statement). tree.arm c.tree.inside.line c.in-Some.constants s) c.deref.ensures
    ∙ ap (λ (o : Option (Several Constant × Box tree.Statement Global)). arm_of c.tree.inside.line o) (sym c.in-Some.is) ∙ c.tree.view_is)
    (c.in_err-next-in-Some.ensures.err c.tree.inside.line c.args.made.now.items) in
    search rules

pub selection-returns-in_err-made-clause-err : goal.selection-returns-in_err-made-clause-err
selection-returns-in_err-made-clause-err t c =
    let stopped : Stops c.in_err-made.field-0.0 (statement_walk (setting_of c.args.setting.now) (tree.selection c.args.line c.args.about.now c.args.first.now (more_arms_of c.args.more.now))) =
    selection_stops (setting_of c.args.setting.now) c.args.line c.args.about.now c.in_ok-value.value.value c.args.first.now c.args.more.now c.in_err-made.field-0.0 c.in_ok-value.ensures.ok
    c.in_err-made.ensures.err in
    search rules

-- ---- loops

pub repeated-returns-in-Repeat-clause-err : goal.repeated-returns-in-Repeat-clause-err
repeated-returns-in-Repeat-clause-err t c =
    subst (λ (o : Outcome Statement). IfErr c.repeat_loop.result (λ e. Stops e o))
    (repeat_walked (setting_of c.args.setting.now) c.args.line c.inside.inside.line (option_map annotation_of c.args.noted.value) c.args.inside.now c.inside.inside.form c.in-Repeat.first c.in-Repeat.more
    c.in-Repeat.test c.deref-in-Repeat.result.now c.deref-in-Repeat-2.result.now c.in-Repeat.test c.inside.view_is c.in-Repeat.is c.deref-in-Repeat.ensures c.deref-in-Repeat-2.ensures.value
    refl)
    c.repeat_loop.ensures.err
