use Rattle.std.proofs.Common.{subst, sym, drop, ◌+◌, map, length}
use Rattle.spv_term.specs.Arena.{AllBelow, tree, trees_of}
use Rattle.spv_proof_rules.specs.Outcomes.{trial}
use Rattle.spv_proof.specs.declared.checker.stops.CheckStop.{CheckStop}
use Rattle.spv_proof.specs.checker.Ends.{EndsAs, IsTrialStop}
use Rattle.spv_proof.specs.checker.Tasks.{asks}
use Rattle.spv_proof.specs.checker.Walks.{steps_in}
use Rattle.spv_proof.proofs.checker.Staying.{task-Extends}
use Rattle.spv_proof.proofs.checker.Goings.{going-step, going-prepared, going-unmade, prepared-step, going-stops, going-ends, going-fails, going-on, going-full, stepped, if_same, last-step, next-step}
use Rattle.spv_proof.proofs.checker.walking.walk.Goals as goal

pub made-requires-clause-task : goal.made-requires-clause-task
made-requires-clause-task c = task-Extends c.loop-place.invariant.grows c.args.task.now c.requires.task

pub made-requires-clause-step : goal.made-requires-clause-step
made-requires-clause-step c =
    let s = c.index-steps-place.result in
    going-step c.loop-place.invariant c.requires.task s (drop (c.loop-place.place + 1) c.args.steps.now) (next-step c.args.steps.now c.loop-place.place s c.loop-place-test.true c.index-steps-place.is)

pub returns-in_err-made-clause-stop : goal.returns-in_err-made-clause-stop
returns-in_err-made-clause-stop c =
    let s = c.index-steps-place.result in
    let e = c.in_err-made.field-0.0 in
    if_same c.from_residual.result e (λ (x : CheckStop). EndsAs c.made.new.terms x (steps_in c.args.terms.now c.args.task.now c.args.facts.now.items c.args.steps.now)) c.from_residual.ensures.1
    (going-unmade c.loop-place.invariant c.requires.task s (drop (c.loop-place.place + 1) c.args.steps.now) (next-step c.args.steps.now c.loop-place.place s c.loop-place-test.true c.index-steps-place.is)
    c.made.new.terms e c.in_err-made.ensures.stop)

pub trial-requires-clause-task : goal.trial-requires-clause-task
trial-requires-clause-task c =
    let s = c.index-steps-place.result in
    let others = drop (c.loop-place.place + 1) c.args.steps.now in
    let p = going-prepared c.loop-place.invariant c.requires.task s others (next-step c.args.steps.now c.loop-place.place s c.loop-place-test.true c.index-steps-place.is)
    c.made.new.terms c.in_ok-made.ensures.grows c.in_ok-made.ensures.all in
    task-Extends p.grows c.args.task.now c.requires.task

pub trial-requires-clause-facts : goal.trial-requires-clause-facts
trial-requires-clause-facts c =
    let s = c.index-steps-place.result in
    let others = drop (c.loop-place.place + 1) c.args.steps.now in
    let p = going-prepared c.loop-place.invariant c.requires.task s others (next-step c.args.steps.now c.loop-place.place s c.loop-place-test.true c.index-steps-place.is)
    c.made.new.terms c.in_ok-made.ensures.grows c.in_ok-made.ensures.all in
    subst (AllBelow (length c.made.new.terms.nodes)) (sym c.as_slice.ensures.value) p.facts_in

pub trial-requires-clause-step : goal.trial-requires-clause-step
trial-requires-clause-step c =
    let s = c.index-steps-place.result in
    let others = drop (c.loop-place.place + 1) c.args.steps.now in
    let p = going-prepared c.loop-place.invariant c.requires.task s others (next-step c.args.steps.now c.loop-place.place s c.loop-place-test.true c.index-steps-place.is)
    c.made.new.terms c.in_ok-made.ensures.grows c.in_ok-made.ensures.all in
    prepared-step p c.requires.task

pub returns-in_err-fact-clause-stop : goal.returns-in_err-fact-clause-stop
returns-in_err-fact-clause-stop c =
    let s = c.index-steps-place.result in
    let others = drop (c.loop-place.place + 1) c.args.steps.now in
    let p = going-prepared c.loop-place.invariant c.requires.task s others (next-step c.args.steps.now c.loop-place.place s c.loop-place-test.true c.index-steps-place.is)
    c.made.new.terms c.in_ok-made.ensures.grows c.in_ok-made.ensures.all in
    let mid = c.made.new.terms in
    let e = c.in_err-fact.field-0.0 in
    if_same c.from_residual-in_err-fact.result e (λ (x : CheckStop). EndsAs c.trial.new.terms x (steps_in c.args.terms.now c.args.task.now c.args.facts.now.items c.args.steps.now)) c.from_residual-in_err-fact.ensures.1
    (going-stops p c.requires.task c.trial.new.terms e
    (subst (λ (ts : _). IsTrialStop mid c.trial.new.terms e (trial mid.most (asks mid c.args.task.now) (trees_of mid.nodes) (map (tree mid) ts) s)) c.as_slice.ensures.value c.in_err-fact.ensures.stop))

pub returns-in-Ends-clause-leads : goal.returns-in-Ends-clause-leads
returns-in-Ends-clause-leads c =
    let s = c.index-steps-place.result in
    let others = drop (c.loop-place.place + 1) c.args.steps.now in
    let p = going-prepared c.loop-place.invariant c.requires.task s others (next-step c.args.steps.now c.loop-place.place s c.loop-place-test.true c.index-steps-place.is)
    c.made.new.terms c.in_ok-made.ensures.grows c.in_ok-made.ensures.all in
    let k = stepped p c.trial.new.terms c.as_slice.result.now c.in_ok-fact.field-0 c.in_ok-fact.ensures.same c.as_slice.ensures.value c.in_ok-fact.ensures.value in
    going-ends k.prepared c.requires.task c.in_ok-fact.field-0 k.does c.in-Ends.is c.ended.result
    (c.ended.ensures (map (tree c.trial.new.terms) c.loop-place.facts.items) others (last-step c.args.steps.now c.loop-place.place c.loop-place-test.true))

pub returns-in-Fails-clause-leads : goal.returns-in-Fails-clause-leads
returns-in-Fails-clause-leads c =
    let s = c.index-steps-place.result in
    let others = drop (c.loop-place.place + 1) c.args.steps.now in
    let p = going-prepared c.loop-place.invariant c.requires.task s others (next-step c.args.steps.now c.loop-place.place s c.loop-place-test.true c.index-steps-place.is)
    c.made.new.terms c.in_ok-made.ensures.grows c.in_ok-made.ensures.all in
    let k = stepped p c.trial.new.terms c.as_slice.result.now c.in_ok-fact.field-0 c.in_ok-fact.ensures.same c.as_slice.ensures.value c.in_ok-fact.ensures.value in
    going-fails k.prepared c.requires.task c.in_ok-fact.field-0 k.does c.in-Fails.is

pub add-requires-clause-facts : goal.add-requires-clause-facts
add-requires-clause-facts c =
    let s = c.index-steps-place.result in
    let others = drop (c.loop-place.place + 1) c.args.steps.now in
    let p = going-prepared c.loop-place.invariant c.requires.task s others (next-step c.args.steps.now c.loop-place.place s c.loop-place-test.true c.index-steps-place.is)
    c.made.new.terms c.in_ok-made.ensures.grows c.in_ok-made.ensures.all in
    let k = stepped p c.trial.new.terms c.as_slice.result.now c.in_ok-fact.field-0 c.in_ok-fact.ensures.same c.as_slice.ensures.value c.in_ok-fact.ensures.value in
    k.prepared.facts_in

pub returns-in_err-add-in-Adds-clause-stop : goal.returns-in_err-add-in-Adds-clause-stop
returns-in_err-add-in-Adds-clause-stop c =
    let s = c.index-steps-place.result in
    let others = drop (c.loop-place.place + 1) c.args.steps.now in
    let p = going-prepared c.loop-place.invariant c.requires.task s others (next-step c.args.steps.now c.loop-place.place s c.loop-place-test.true c.index-steps-place.is)
    c.made.new.terms c.in_ok-made.ensures.grows c.in_ok-made.ensures.all in
    let k = stepped p c.trial.new.terms c.as_slice.result.now c.in_ok-fact.field-0 c.in_ok-fact.ensures.same c.as_slice.ensures.value c.in_ok-fact.ensures.value in
    let e = c.in_err-add-in-Adds.field-0.0 in
    if_same c.from_residual-in_err-add-in-Adds.result e (λ (x : CheckStop). EndsAs c.add.new.terms x (steps_in c.args.terms.now c.args.task.now c.args.facts.now.items c.args.steps.now)) c.from_residual-in_err-add-in-Adds.ensures.1
    (going-full k.prepared c.requires.task c.in_ok-fact.field-0 k.does c.in-Adds.fact c.in-Adds.is
    c.add.new.terms e c.in_err-add-in-Adds.ensures.fault c.in_err-add-in-Adds.ensures.unchanged)

pub loop-place-preserved : goal.loop-place-preserved
loop-place-preserved c =
    let s = c.index-steps-place.result in
    let others = drop (c.loop-place.place + 1) c.args.steps.now in
    let p = going-prepared c.loop-place.invariant c.requires.task s others (next-step c.args.steps.now c.loop-place.place s c.loop-place-test.true c.index-steps-place.is)
    c.made.new.terms c.in_ok-made.ensures.grows c.in_ok-made.ensures.all in
    let k = stepped p c.trial.new.terms c.as_slice.result.now c.in_ok-fact.field-0 c.in_ok-fact.ensures.same c.as_slice.ensures.value c.in_ok-fact.ensures.value in
    let a = c.in_ok-add-in-Adds.ensures in
    going-on k.prepared c.requires.task c.in_ok-fact.field-0 k.does c.in-Adds.fact c.in-Adds.is
    c.add.new.terms a.grows c.add.new.facts.items a.facts a.in_range a.before a.kept
