use Rattle.std.proofs.Common.{◌≡◌, length, map, sym, ap, ◌∙◌, subst}
use Rattle.spv_term.specs.Arena.{AllBelow, tree}
use Rattle.spv_trail.proofs.search_setup.sides.ground_of.Goals as goal

pub returns-clause-is : goal.returns-clause-is
returns-clause-is c =
    let same : c.in_ok-asked.asked.items ≡ c.args.questions.now = c.in_ok-asked.ensures ∙ c.as_slice.ensures in
    record {
      formulas = c.requires.formulas;
      questions_are = ap (map (tree c.args.terms.now)) same ∙ c.requires.questions.questions;
      within = subst (AllBelow (length c.args.terms.now.nodes)) (sym same) c.requires.questions.questions_in;
      ids = c.in_ok-connectives.ensures.ids;
      plain = c.in_ok-connectives.ensures.plain;
    }
