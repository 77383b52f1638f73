use Rattle.std.proofs.Common.{List, ◌++◌, refl, ap, ◌∙◌}
use Rattle.spv_expression_terms.specs.declared.postfix.pieces.Piece.{Piece}
use Rattle.spv_expression_terms.specs.postfix.Postfix.{postfix}
use Rattle.spv_program.specs.Terms.{name_in}
use Rattle.spv_expression_terms.specs.term_walk.ExpressionTerms as plain
use Rattle.spv_expression_terms.proofs.term_walk.Fitting.{place_small, makeable}
use Rattle.spv_expression_terms.proofs.term_walk.making.place_term.Goals as goal

pub built-requires : goal.built-requires
built-requires c =
    let heads = name_in c.args.names.now in
    record {
      t = plain.place_term heads c.args.d.now;
      is = c.as_slice.ensures.value ∙ (c.in_ok-write_place.ensures.written ∙ ap (λ (before : List Piece). before ++ postfix (plain.place_term heads c.args.d.now)) c.new-pieces.ensures.items);
      makeable = makeable c.args.terms.now.shapes c.args.terms.now.decls (plain.place_term heads c.args.d.now) c.requires.sorted
          (place_small heads (λ x. refl) c.args.d.now c.in_ok-write_place.ensures.numerals);
    }
