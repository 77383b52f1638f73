use Rattle.std.proofs.Common.{List, ◌++◌, refl, ap, ◌∙◌}
use Rattle.spv_expression_terms.specs.declared.postfix.pieces.Piece.{Piece}
use Rattle.spv_expression_terms.specs.postfix.Postfix.{postfix}
use Rattle.spv_program.specs.Terms.{name_in}
use Rattle.spv_expression_terms.specs.term_walk.OuterCalls.{filled_place}
use Rattle.spv_expression_terms.proofs.term_walk.Fitting.{filled_place_small, makeable}
use Rattle.spv_expression_terms.proofs.term_walk.making.filled_place_term.Goals as goal

pub built-requires : goal.built-requires
built-requires c =
    let heads = name_in c.args.names.now in
    record {
      t = filled_place heads c.args.variables.now c.args.d.now;
      is = c.as_slice.ensures.value ∙ (c.in_ok-write_filled_place.ensures.written ∙ ap (λ (before : List Piece). before ++ postfix (filled_place heads c.args.variables.now c.args.d.now)) c.new-pieces.ensures.items);
      makeable = makeable c.args.terms.now.shapes c.args.terms.now.decls (filled_place heads c.args.variables.now c.args.d.now) c.requires.sorted
          (filled_place_small heads (λ x. refl) c.args.variables.now c.requires.variables c.args.d.now c.in_ok-write_filled_place.ensures.numerals);
    }
