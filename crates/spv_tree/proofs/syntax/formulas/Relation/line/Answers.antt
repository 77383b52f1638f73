use Rattle.std.proofs.Common.{ap, ◌∙◌}
use Rattle.spv_tree.specs.syntax.Lines.{relation_line, simple_line}
use Rattle.spv_tree.proofs.syntax.formulas.Relation.line.Goals as goal

pub returns : goal.returns
returns c = ap (λ a. simple_line a.left) c.self-inside.view_is ∙ ap relation_line c.self.view_is
