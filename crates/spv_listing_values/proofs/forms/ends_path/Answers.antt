use Rattle.std.proofs.Common.{sym, ◌∙◌}
use Rattle.spv_listing_values.specs.Mapped.{step_at}
use Rattle.spv_listing_values.proofs.Judging.{path_ends, path_broken}
use Rattle.spv_listing_values.proofs.forms.ends_path.Goals as goal

pub returns-then-have_no_end : goal.returns-then-have_no_end
returns-then-have_no_end c f =
    c.is_end.ensures f ∙ sym (path_ends (step_at f) c.args.steps.now c.last-item.result c.in-len1-up.len_at_least c.last-item.is (sym (c.have_no_end.ensures f) ∙ c.if-have_no_end.true))

pub returns-else-have_no_end : goal.returns-else-have_no_end
returns-else-have_no_end c f =
    c.if-have_no_end.false ∙ sym (path_broken (step_at f) c.args.steps.now c.last-item.result c.in-len1-up.len_at_least c.last-item.is (sym (c.have_no_end.ensures f) ∙ c.if-have_no_end.false))
