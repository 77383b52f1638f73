use Rattle.std.proofs.Common.{List, ◌∷◌, ◌++◌, [], ap, ◌∙◌}
use Rattle.spv_search.specs.Searching.{formulas_in}
use Rattle.spv_trail.specs.declared.backtracking.marks.TrailMark.{TrailMark}
use Rattle.spv_search.proofs.Marks.{marks_pushed}
use Rattle.spv_search.proofs.branch.push_mark.Goals as goal

pub returns : goal.returns
returns c =
    λ cs many told marks.
    marks_pushed c.args.terms.now c.args.condition.now c.args.path.now c.args.marks.now.items c.push.new.self.items cs c.args.count c.mark.result many
    (c.in_ok-push.ensures.items ∙ ap (λ (ms : List TrailMark). ms ++ c.mark.result ∷ []) c.truncate.ensures.items) (c.mark.ensures.mark (formulas_in c.args.terms.now cs) told) c.mark.ensures.last marks
