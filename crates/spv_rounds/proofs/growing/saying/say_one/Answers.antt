use Rattle.std.proofs.Common.{sym, ap, ◌∙◌}
use Rattle.std.specs.Option.{option_map}
use Rattle.spv_term.specs.Arena.{tree}
use Rattle.spv_rounds.proofs.growing.SayLemmas.{said-truth}
use Rattle.spv_rounds.proofs.growing.saying.say_one.Goals as goal

pub returns-in-Ok-Some-clause-truth : goal.returns-in-Ok-Some-clause-truth
returns-in-Ok-Some-clause-truth c =
    said-truth c.args.rules.now c.law_rules.ensures.rules c.args.terms.now.shapes c.args.terms.now.decls c.requires.shapes c.requires.decls c.args.member.now.rule _ _
    (sym c.in-Ok-Some.ensures.instance ∙ ap (option_map (tree c.instance.new.terms)) c.in-Ok-Some.field-0-is)
