use Rattle.std.proofs.Common.{List, ◌++◌, ap, ◌∙◌}
use Rattle.spv_expression_terms.specs.declared.postfix.pieces.Piece.{Piece}
use Rattle.spv_expression_terms.specs.postfix.Postfix.{postfix}
use Rattle.spv_program.specs.Terms as spec
use Rattle.spv_expression_terms.specs.term_walk.Names.{head_in}
use Rattle.spv_expression_terms.proofs.term_walk.Fitting.{head_small, formula_small, makeable}
use Rattle.spv_expression_terms.proofs.term_walk.making.exit_formula_term.Goals as goal

pub built-requires : goal.built-requires
built-requires c =
    let heads = head_in c.args.names.now c.args.starts.now in
    record {
      t = spec.formula_term heads c.args.f.now;
      is = c.as_slice.ensures.value ∙ (c.in_ok-write_exit_formula.ensures.written ∙ ap (λ (before : List Piece). before ++ postfix (spec.formula_term heads c.args.f.now)) c.new-pieces.ensures.items);
      makeable = makeable c.args.terms.now.shapes c.args.terms.now.decls (spec.formula_term heads c.args.f.now) c.requires
          (formula_small heads (head_small c.args.names.now c.args.starts.now) c.args.f.now c.in_ok-write_exit_formula.ensures.numerals);
    }
