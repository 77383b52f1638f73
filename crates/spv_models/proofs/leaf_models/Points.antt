-- A point that meets the bounds of literals makes them true, as they are read.
use Rattle.std.proofs.Common.{◌≡◌, ℕ, Bool, true, refl, sym, List, Option, Some, None}
use Rattle.std.specs.Prelude.{slice_get}
use Rattle.spv_frac.specs.rational.Rational.{Rational}
use Rattle.spv_logic.specs.declared.operators.Head.{Head}
use Rattle.spv_logic.specs.Terms.{Term, term, no_terms, terms}
use Rattle.spv_logic.specs.Formulas.{below}
use Rattle.spv_term.specs.Arena.{Arena, IsArena}
use Rattle.spv_atoms.specs.Linear.{IdForm}
use Rattle.spv_proof_rules.specs.Sums.{Reading, reading}
use Rattle.spv_tableau_rules.specs.tableaux.Rows.{Point, IsSolution}
use Rattle.spv_tableau_rules.specs.tableaux.Bounds.{Bound, limits, Meets}
use Rattle.spv_tableau_rules.specs.tableaux.Forms.{rows_of}
use Rattle.spv_tableau_rules.specs.declared.constraints.saying.RowConstraint.{RowConstraint}
use Rattle.spv_tableau_rules.specs.declared.constraints.saying.RowConstraint.TheVariants.{Above}
use Rattle.spv_tableau_rules.specs.constraints.Sayings.{saying, literal, reading_of}
use Rattle.spv_tableau_rules.specs.constraints.Relations.{IsRowOf, AreIn}
use Rattle.spv_tableau_rules.specs.constraints.Values.{part_value}
use Rattle.spv_tableau_rules.proofs.constraints.Literals.{literal_read, above_read}
use Rattle.spv_tableau_rules.proofs.constraints.Standing.{true_where_standing}
use Rattle.spv_models.specs.leaf_models.Leaves.{is_met_by, is_met}
use Rattle.spv_models.specs.leaf_models.Laws.{Stands}

module _ (a : Arena) (ok : IsArena a) (forms : List IdForm) (inside : AreIn a forms) (bounds : List Bound) (v : Point) (solution : IsSolution (rows_of forms) v) (meets : Meets (limits (rows_of forms) bounds) v)
    (i : ℕ) (f : IdForm) (at : slice_get forms i ≡ Some f) (s t : Term) (row : IsRowOf a (s, t) f) where
  abbrev point : Term → Rational
  point = part_value a forms v

  -- what is read of a saying whose bounds stand
  standing-read : (x : RowConstraint) → Stands bounds i f x → (o : Option Reading) → o ≡ reading_of x s t → is_met_by point o ≡ true
  standing-read x stands None e = refl
  standing-read x stands (Some r) e = true_where_standing a ok forms inside bounds v solution meets i f at s t row x r (sym e) stands

  pub literal-met : (is_number : Term → Bool) (h : Head) (b : Bool) (x : RowConstraint) → is_number s ≡ true → is_number t ≡ true → saying h b ≡ Some x → Stands bounds i f x
      → is_met is_number point (literal b (term h (terms s (terms t no_terms)))) ≡ true
  literal-met is_number h b x hs ht e stands = standing-read x stands (reading is_number (literal b (term h (terms s (terms t no_terms))))) (literal_read is_number s t hs ht h b x e)

  pub above-met : (is_number : Term → Bool) → is_number s ≡ true → is_number t ≡ true → Stands bounds i f Above → is_met is_number point (below t s) ≡ true
  above-met is_number hs ht stands = standing-read Above stands (reading is_number (below t s)) (above_read is_number s t hs ht)
