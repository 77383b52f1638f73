use Rattle.std.proofs.Common.{Bool, Ok, ◌∙◌, ap}
use Rattle.spv_rules.proofs.matching.Meetings.{test_passed, one_match}
use Rattle.spv_rules.proofs.matching.variables.met_again.Goals as goal

pub returns-clause-ok : goal.returns-clause-ok
returns-clause-ok c =
    test_passed c.args.s.now.terms.now c.args.found.now.items c.requires.found _ _ c.put_copy.new.found.items (c.in_ok-have_one_value.ensures.value ∙ ap (λ (b : Bool). Ok b) c.if-not-branch.false)
    (one_match c.args.s.now.terms.now c.args.found.now.items c.requires.found c.args.m.now.bound.now c.requires.may.bound c.put_copy.new.found.items (c.in_ok-put_copy.ensures))
