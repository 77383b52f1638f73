use Rattle.std.proofs.Common.{◌∙◌, ap, subst, drop, ◌+◌, Bool, List, length, nat_eq}
use Rattle.spv_term.specs.Arena.{trees_of}
use Rattle.spv_proof_rules.specs.Outcomes as outcomes
use Rattle.spv_proof.specs.declared.checker.branches.Branch.{Branch}
use Rattle.spv_proof.specs.declared.checker.stops.CheckStop.{CheckStop}
use Rattle.spv_proof.specs.checker.Ends.{EndsAs}
use Rattle.spv_proof.specs.checker.Tasks.{asks}
use Rattle.spv_proof.specs.checker.Stacks.{Checked}
use Rattle.spv_proof.proofs.checker.Staying.{task-Extends}
use Rattle.spv_proof.proofs.checker.Goings.{if_same}
use Rattle.spv_proof.proofs.checker.Nodes.{nothing-ends, next-node, drop_past, checking-end, checking-steps, checking-waits, checking-ends, checking-fails, checking-on}
use Rattle.spv_proof.proofs.checker.checker.check_nodes.Goals as goal

pub check_node-requires-clause-task : goal.check_node-requires-clause-task
check_node-requires-clause-task c = task-Extends c.loop-node.invariant.grows c.args.task.now c.requires.task

pub check_node-requires-clause-branch : goal.check_node-requires-clause-branch
check_node-requires-clause-branch c =
    let n = c.node-item.result in
    let others = drop (c.loop-node.node-index + 1) c.args.nodes.now in
    let next = next-node c.args.nodes.now c.loop-node.node-index n c.loop-node-test.true c.node-item.is in
    (checking-waits c.loop-node.invariant c.requires.task n others next c.pop.new.self.items c.in-Some.branch c.in-Some.ensures.items).1

pub check_node-requires-clause-mark : goal.check_node-requires-clause-mark
check_node-requires-clause-mark c =
    let n = c.node-item.result in
    let others = drop (c.loop-node.node-index + 1) c.args.nodes.now in
    let next = next-node c.args.nodes.now c.loop-node.node-index n c.loop-node-test.true c.node-item.is in
    (checking-waits c.loop-node.invariant c.requires.task n others next c.pop.new.self.items c.in-Some.branch c.in-Some.ensures.items).0

pub check_node-requires-clause-pending : goal.check_node-requires-clause-pending
check_node-requires-clause-pending c =
    let n = c.node-item.result in
    let others = drop (c.loop-node.node-index + 1) c.args.nodes.now in
    let next = next-node c.args.nodes.now c.loop-node.node-index n c.loop-node-test.true c.node-item.is in
    (checking-waits c.loop-node.invariant c.requires.task n others next c.pop.new.self.items c.in-Some.branch c.in-Some.ensures.items).2

pub check_node-requires-clause-steps : goal.check_node-requires-clause-steps
check_node-requires-clause-steps c =
    let n = c.node-item.result in
    let others = drop (c.loop-node.node-index + 1) c.args.nodes.now in
    let next = next-node c.args.nodes.now c.loop-node.node-index n c.loop-node-test.true c.node-item.is in
    checking-steps c.loop-node.invariant c.requires.task n others next

pub returns-in_err-check_node-clause-stop : goal.returns-in_err-check_node-clause-stop
returns-in_err-check_node-clause-stop c =
    let n = c.node-item.result in
    let others = drop (c.loop-node.node-index + 1) c.args.nodes.now in
    let next = next-node c.args.nodes.now c.loop-node.node-index n c.loop-node-test.true c.node-item.is in
    let e = c.in_err-check_node.field-0.0 in
    if_same c.from_residual.result e (λ (x : CheckStop). EndsAs c.check_node.new.terms x (outcomes.outcome c.args.terms.now.most (asks c.args.terms.now c.args.task.now) (trees_of c.args.terms.now.nodes) c.args.nodes.now)) c.from_residual.ensures.1
    (checking-ends c.loop-node.invariant c.requires.task n others next c.pop.new.self.items c.in-Some.branch c.in-Some.ensures.items c.check_node.new.terms e c.in_err-check_node.ensures.stop)

pub returns-then-not-branch-clause-outcome : goal.returns-then-not-branch-clause-outcome
returns-then-not-branch-clause-outcome c =
    let n = c.node-item.result in
    let others = drop (c.loop-node.node-index + 1) c.args.nodes.now in
    let next = next-node c.args.nodes.now c.loop-node.node-index n c.loop-node-test.true c.node-item.is in
    checking-fails c.loop-node.invariant c.requires.task n others next c.pop.new.self.items c.in-Some.branch c.in-Some.ensures.items c.check_node.new.terms c.in_ok-check_node.ensures.grows c.check_node.new.facts.items c.check_node.new.pending.items
    (subst (λ (b : Bool). Checked c.loop-node.terms c.args.task.now c.loop-node.facts.items c.pop.new.self.items c.in-Some.branch n c.check_node.new.terms c.check_node.new.facts.items c.check_node.new.pending.items b) c.if-not-branch.true c.in_ok-check_node.ensures.checked)

pub loop-node-preserved : goal.loop-node-preserved
loop-node-preserved c =
    let n = c.node-item.result in
    let others = drop (c.loop-node.node-index + 1) c.args.nodes.now in
    let next = next-node c.args.nodes.now c.loop-node.node-index n c.loop-node-test.true c.node-item.is in
    checking-on c.loop-node.invariant c.requires.task n others next c.pop.new.self.items c.in-Some.branch c.in-Some.ensures.items c.check_node.new.terms c.in_ok-check_node.ensures.grows c.check_node.new.facts.items c.check_node.new.pending.items
    (subst (λ (b : Bool). Checked c.loop-node.terms c.args.task.now c.loop-node.facts.items c.pop.new.self.items c.in-Some.branch n c.check_node.new.terms c.check_node.new.facts.items c.check_node.new.pending.items b) c.if-not-branch.false c.in_ok-check_node.ensures.checked)

pub returns-in_default-clause-stop : goal.returns-in_default-clause-stop
returns-in_default-clause-stop c = nothing-ends c.args.terms.now c.args.task.now c.args.nodes.now

pub returns-clause-outcome : goal.returns-clause-outcome
returns-clause-outcome c =
    checking-end c.loop-node.invariant c.requires.task (drop_past c.args.nodes.now c.loop-node.node-index c.loop-node-test.false) c.is_empty.result
    (c.is_empty.ensures ∙ ap (λ (bs : List Branch). nat_eq (length bs) 0) c.as_slice.ensures.value)
