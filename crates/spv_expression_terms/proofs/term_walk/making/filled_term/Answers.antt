use Rattle.std.proofs.Common.{List, ◌++◌, refl, ap, ◌∙◌}
use Rattle.spv_expression_terms.specs.declared.postfix.pieces.Piece.{Piece}
use Rattle.spv_expression_terms.specs.postfix.Postfix.{postfix}
use Rattle.spv_program.specs.Terms.{name_in}
use Rattle.spv_expression_terms.specs.term_walk.OuterCalls.{filled}
use Rattle.spv_expression_terms.proofs.term_walk.Fitting.{filled_small, makeable}
use Rattle.spv_expression_terms.proofs.term_walk.making.filled_term.Goals as goal

pub built-requires : goal.built-requires
built-requires c =
    let heads = name_in c.args.names.now in
    record {
      t = filled heads c.args.variables.now c.args.e.now;
      is = c.as_slice.ensures.value ∙ (c.in_ok-write_filled.ensures.written ∙ ap (λ (before : List Piece). before ++ postfix (filled heads c.args.variables.now c.args.e.now)) c.new-pieces.ensures.items);
      makeable = makeable c.args.terms.now.shapes c.args.terms.now.decls (filled heads c.args.variables.now c.args.e.now) c.requires.sorted
          (filled_small heads (λ x. refl) c.args.variables.now c.requires.variables c.args.e.now c.in_ok-write_filled.ensures.numerals);
    }
