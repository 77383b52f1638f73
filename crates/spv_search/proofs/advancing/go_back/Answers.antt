use Rattle.std.proofs.Common.{length, sym, ap, ◌∙◌, Some, arith}
use Rattle.std.proofs.lemmas.Option.{slice_get-get_or}
use Rattle.spv_search.proofs.Advance.{last_many, has_mark, before}
use Rattle.spv_search.proofs.Calls.{on_three}
use Rattle.spv_search.proofs.advancing.go_back.Goals as goal

pub overflow_sub-place : goal.overflow_sub-place
overflow_sub-place c =
    let many = last_many c.args.branches.now.cases (c.requires.running.comes c.requires.comes) in
    let same = ap length c.cases.ensures in
    omega (arith, many, same)

pub bounds-marks-place : goal.bounds-marks-place
bounds-marks-place c =
    let many = last_many c.args.branches.now.cases (c.requires.running.comes c.requires.comes) in
    let same = ap length c.cases.ensures in
    let enough = (c.requires.running.marks c.requires.comes).many in
    omega (arith, many, same, enough)

pub undo-requires-clause-both : goal.undo-requires-clause-both
undo-requires-clause-both c = c.requires.running.both

pub undo-requires-clause-mark : goal.undo-requires-clause-mark
undo-requires-clause-mark c =
    let many = last_many c.args.branches.now.cases (c.requires.running.comes c.requires.comes) in
    let same = ap length c.cases.ensures in
    let enough = (c.requires.running.marks c.requires.comes).many in
    has_mark c.args.terms.now c.args.condition.now c.args.atoms.now c.args.ground.now c.args.limits.now c.args.path.now c.args.path.now c.args.branches.now c.args.marks.now c.requires.running c.requires.comes _ _ (omega (arith, many, same))
    (slice_get-get_or c.args.marks.now _ _ (omega (arith, many, same, enough)) ∙ ap Some (sym c.index-marks-place.is))

pub returns : goal.returns
returns c =
    let many = last_many c.args.branches.now.cases (c.requires.running.comes c.requires.comes) in
    let same = ap length c.cases.ensures in
    let enough = (c.requires.running.marks c.requires.comes).many in
    on_three c.undo.result c.undo.ensures.told c.undo.ensures.stays c.undo.ensures.marks
    (λ told stays marks.
    before c.args.terms.now c.args.condition.now c.args.atoms.now c.args.ground.now c.args.limits.now c.args.path.now c.undo.new.self c.args.branches.now c.args.marks.now c.requires.running c.requires.comes _ _ (omega (arith, many, same))
    (slice_get-get_or c.args.marks.now _ _ (omega (arith, many, same, enough)) ∙ ap Some (sym c.index-marks-place.is)) told stays marks)
