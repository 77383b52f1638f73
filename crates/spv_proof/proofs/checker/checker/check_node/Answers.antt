use Rattle.std.proofs.Common.{sym, subst, length, map, List}
use Rattle.spv_logic.specs.declared.conditions.TermId.{TermId}
use Rattle.spv_atoms.specs.declared.proofs.Step.{Step}
use Rattle.spv_term.specs.Arena.{tree, trees_of, sequent}
use Rattle.spv_term.proofs.ArenaLemmas.{Extends-refl}
use Rattle.spv_proof_rules.specs.Outcomes.{node_outcome, branches_after}
use Rattle.spv_proof.specs.declared.checker.stops.CheckStop.{CheckStop}
use Rattle.spv_proof.specs.checker.Ends.{EndsAs}
use Rattle.spv_proof.specs.checker.Tasks.{rules_of, asks}
use Rattle.spv_proof.specs.checker.Walks.{path_of, steps_in, Leads}
use Rattle.spv_proof.specs.checker.Stacks.{branch_in, IsPending, Leaves}
use Rattle.spv_proof.proofs.checker.Staying.{task-Extends}
use Rattle.spv_proof.proofs.checker.Goings.{if_same}
use Rattle.spv_proof.proofs.checker.UnderRules.{after_under}
use Rattle.spv_proof.proofs.checker.Nodes.{StepsIn-Extends, begin-ends, walk-ends, leave-ends, waits-in, node-checked}
use Rattle.spv_proof.proofs.checker.checker.check_node.Goals as goal

pub returns-in_err-begin-clause-stop : goal.returns-in_err-begin-clause-stop
returns-in_err-begin-clause-stop c =
    let e = c.in_err-begin.field-0.0 in
    if_same c.from_residual.result e (λ (x : CheckStop). EndsAs c.begin.new.terms x (node_outcome c.args.terms.now.most (asks c.args.terms.now c.args.task.now) (trees_of c.args.terms.now.nodes) (branch_in c.args.terms.now c.args.facts.now.items c.args.branch) c.args.node.now)) c.from_residual.ensures.1
    (begin-ends (Extends-refl c.args.terms.now) (Extends-refl c.args.terms.now) c.args.task.now c.requires.task c.args.facts.now.items c.args.pending.now.items c.args.branch c.args.node.now c.requires.steps c.requires.split c.begin.new.terms e c.in_err-begin.ensures.stop)

pub walk-requires-clause-task : goal.walk-requires-clause-task
walk-requires-clause-task c = task-Extends c.in_ok-begin.ensures.grows c.args.task.now c.requires.task

pub walk-requires-clause-steps : goal.walk-requires-clause-steps
walk-requires-clause-steps c = rw c.as_slice.ensures (StepsIn-Extends c.in_ok-begin.ensures.grows c.args.node.now.steps c.requires.steps)

pub returns-in_err-path-clause-stop : goal.returns-in_err-path-clause-stop
returns-in_err-path-clause-stop c =
    let e = c.in_err-path.field-0.0 in
    if_same c.from_residual-in_err-path.result e (λ (x : CheckStop). EndsAs c.walk.new.terms x (node_outcome c.args.terms.now.most (asks c.args.terms.now c.args.task.now) (trees_of c.args.terms.now.nodes) (branch_in c.args.terms.now c.args.facts.now.items c.args.branch) c.args.node.now)) c.from_residual-in_err-path.ensures.1
    (walk-ends c.in_ok-begin.ensures.grows c.in_err-path.ensures.grows c.args.task.now c.requires.task c.args.facts.now.items c.args.pending.now.items c.args.branch c.args.node.now c.requires.steps c.requires.split c.begin.new.facts.items c.in_ok-begin.ensures.begun e
    (subst (λ (ts : List Step). EndsAs c.walk.new.terms e (steps_in c.begin.new.terms c.args.task.now c.begin.new.facts.items ts)) c.as_slice.ensures c.in_err-path.ensures.stop))

pub leave-requires-clause-pending : goal.leave-requires-clause-pending
leave-requires-clause-pending c =
    subst (λ (ts : List TermId). IsPending c.walk.new.terms (length ts) c.args.pending.now.items) (sym c.as_slice-2.ensures.value)
    (waits-in c.in_ok-begin.ensures.grows c.in_ok-path.ensures.grows c.args.task.now c.requires.task c.args.facts.now.items c.args.pending.now.items c.args.branch c.args.node.now c.requires.steps c.requires.split c.begin.new.facts.items c.in_ok-begin.ensures.begun c.walk.new.facts.items c.in_ok-path.path (subst (λ (ts : List Step). Leads c.begin.new.terms c.args.task.now c.begin.new.facts.items ts c.walk.new.terms c.walk.new.facts.items c.in_ok-path.path) c.as_slice.ensures c.in_ok-path.ensures.leads) c.requires.pending)

pub returns-in-Err-clause-stop : goal.returns-in-Err-clause-stop
returns-in-Err-clause-stop c = leave-ends c.in_ok-begin.ensures.grows c.in_ok-path.ensures.grows c.args.task.now c.requires.task c.args.facts.now.items c.args.pending.now.items c.args.branch c.args.node.now c.requires.steps c.requires.split c.begin.new.facts.items c.in_ok-begin.ensures.begun c.walk.new.facts.items c.in_ok-path.path (subst (λ (ts : List Step). Leads c.begin.new.terms c.args.task.now c.begin.new.facts.items ts c.walk.new.terms c.walk.new.facts.items c.in_ok-path.path) c.as_slice.ensures c.in_ok-path.ensures.leads)

pub returns-in-Ok-clause-checked : goal.returns-in-Ok-clause-checked
returns-in-Ok-clause-checked c =
    let a = c.walk.new.terms in
    node-checked c.in_ok-begin.ensures.grows c.in_ok-path.ensures.grows c.args.task.now c.requires.task c.args.facts.now.items c.args.pending.now.items c.args.branch c.args.node.now c.requires.steps c.requires.split c.begin.new.facts.items c.in_ok-begin.ensures.begun c.walk.new.facts.items c.in_ok-path.path (subst (λ (ts : List Step). Leads c.begin.new.terms c.args.task.now c.begin.new.facts.items ts c.walk.new.terms c.walk.new.facts.items c.in_ok-path.path) c.as_slice.ensures c.in_ok-path.ensures.leads) c.requires.pending c.requires.facts c.leave.new.pending.items c.in-Ok.closes
    (subst (λ (ts : List TermId). Leaves a ts c.args.pending.now.items c.leave.new.pending.items c.in-Ok.closes (branches_after (asks a c.args.task.now) (path_of (map (tree a) ts) c.in_ok-path.path) c.args.node.now.split)) c.as_slice-2.ensures.value
    (subst (Leaves a c.as_slice-2.result.now c.args.pending.now.items c.leave.new.pending.items c.in-Ok.closes)
    (sym (after_under (rules_of c.args.task.now.rules) a c.args.task.now.condition.now (path_of (map (tree a) c.as_slice-2.result.now) c.in_ok-path.path) c.args.node.now.split))
    (c.in-Ok.ensures (sequent a c.args.task.now.condition.now))))
