use Rattle.std.proofs.Common.{List, ◌++◌, refl, ap, ◌∙◌}
use Rattle.spv_expression_terms.specs.declared.postfix.pieces.Piece.{Piece}
use Rattle.spv_expression_terms.specs.postfix.Postfix.{postfix}
use Rattle.spv_program.specs.Terms as spec
use Rattle.spv_program.specs.Terms.{name_in}
use Rattle.spv_expression_terms.proofs.term_walk.Fitting.{formula_small, makeable}
use Rattle.spv_expression_terms.proofs.term_walk.making.formula_term.Goals as goal

pub built-requires : goal.built-requires
built-requires c =
    let heads = name_in c.args.names.now in
    record {
      t = spec.formula_term heads c.args.f.now;
      is = c.as_slice.ensures.value ∙ (c.in_ok-write_formula.ensures.written ∙ ap (λ (before : List Piece). before ++ postfix (spec.formula_term heads c.args.f.now)) c.new-pieces.ensures.items);
      makeable = makeable c.args.terms.now.shapes c.args.terms.now.decls (spec.formula_term heads c.args.f.now) c.requires
          (formula_small heads (λ x. refl) c.args.f.now c.in_ok-write_formula.ensures.numerals);
    }
