use Rattle.std.proofs.Common.{List, ◌++◌, refl, ap, ◌∙◌}
use Rattle.spv_program.specs.Terms.{formula_term, name_in}
use Rattle.spv_expression_terms.specs.declared.postfix.pieces.Piece.{Piece}
use Rattle.spv_expression_terms.specs.postfix.Postfix.{postfix}
use Rattle.spv_expression_terms.proofs.term_walk.Fitting.{formula_small, makeable}
use Rattle.spv_rule_files.specs.Stated.{stated}
use Rattle.spv_rule_files.proofs.rule_terms.making.stated_made.Goals as goal

pub built-requires : goal.built-requires
built-requires c =
    let heads = name_in c.args.rule.now.variables in
    let said = formula_term heads (stated c.args.rule.now) in
    record {
      t = said;
      is = c.as_slice.ensures.value ∙ (c.in_ok-write_stated.ensures.written ∙ ap (λ (before : List Piece). before ++ postfix said) c.new-pieces.ensures.items);
      makeable = makeable c.args.terms.now.shapes c.args.terms.now.decls said c.requires (formula_small heads (λ x. refl) (stated c.args.rule.now) c.in_ok-write_stated.ensures.numerals);
    }
