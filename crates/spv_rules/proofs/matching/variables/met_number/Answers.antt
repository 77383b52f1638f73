use Rattle.std.proofs.Common.{Bool, Ok, ℤ, ◌∙◌, ap, sym}
use Rattle.spv_atoms.proofs.Sums.{narrow}
use Rattle.spv_term.specs.Arena.{tree}
use Rattle.spv_rules.specs.matching.Matches.{has_number}
use Rattle.spv_rules.specs.matching.Views.{setting_in}
use Rattle.spv_rules.proofs.matching.Meetings.{test_passed, one_match}
use Rattle.spv_rules.proofs.matching.variables.met_number.Goals as goal

pub returns-clause-ok : goal.returns-clause-ok
returns-clause-ok c =
    test_passed c.args.s.now.terms.now c.args.found.now.items c.requires.found _ _ c.put_copy.new.found.items
    (ap (λ (z : ℤ). has_number (setting_in c.args.s.now).listed z (tree c.args.s.now.terms.now c.args.m.now.term)) (sym (narrow c.args.number c.requires.number)) ∙ (c.in_ok-has_number.ensures.value ∙ ap (λ (b : Bool). Ok b) c.if-not-branch.false))
    (one_match c.args.s.now.terms.now c.args.found.now.items c.requires.found c.args.m.now.bound.now c.requires.may.bound c.put_copy.new.found.items c.in_ok-put_copy.ensures)
