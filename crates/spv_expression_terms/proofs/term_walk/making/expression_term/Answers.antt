use Rattle.std.proofs.Common.{List, ◌++◌, refl, ap, ◌∙◌}
use Rattle.spv_expression_terms.specs.declared.postfix.pieces.Piece.{Piece}
use Rattle.spv_expression_terms.specs.postfix.Postfix.{postfix}
use Rattle.spv_program.specs.Terms.{name_in}
use Rattle.spv_expression_terms.specs.term_walk.ExpressionTerms as plain
use Rattle.spv_expression_terms.proofs.term_walk.Fitting.{expression_small, makeable}
use Rattle.spv_expression_terms.proofs.term_walk.making.expression_term.Goals as goal

pub built-requires : goal.built-requires
built-requires c =
    let heads = name_in c.args.names.now in
    record {
      t = plain.expression_term heads c.args.e.now;
      is = c.as_slice.ensures.value ∙ (c.in_ok-write_expression.ensures.written ∙ ap (λ (before : List Piece). before ++ postfix (plain.expression_term heads c.args.e.now)) c.new-pieces.ensures.items);
      makeable = makeable c.args.terms.now.shapes c.args.terms.now.decls (plain.expression_term heads c.args.e.now) c.requires.sorted
          (expression_small heads (λ x. refl) c.args.e.now c.in_ok-write_expression.ensures.numerals);
    }
