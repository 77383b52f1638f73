-- The steps that end a path by a contradiction of bounds, or show an equality by two.
use Rattle.std.proofs.Common.{◌≡◌, ℕ, true, List, [], ◌&&◌, ap, ◌∙◌}
use mathlib.Core.Path.{ap₂}
use Rattle.spv_whole.specs.Fraction.{Fraction}
use Rattle.spv_logic.specs.declared.conditions.TermId.{TermId}
use Rattle.spv_logic.specs.Terms.{Term}
use Rattle.spv_logic.specs.Formulas.{equation}
use Rattle.spv_atoms.specs.declared.proofs.Relation.TheVariants as relation
use Rattle.spv_atoms.proofs.Coefficients.{both_true}
use Rattle.spv_proof_rules.specs.Sums.{refutes}
use Rattle.spv_proof_rules.specs.Effects.{Question, Adds, adds_if, is_number, linear, at_most}
use Rattle.spv_tableau_rules.specs.constraints.Laws.{numeral_of}

pub adds_impossible : (q : Question) (facts : List Term) (one zero : TermId) (multiples : List (Fraction × ℕ)) → q.at one ≡ numeral_of 1 → q.at zero ≡ numeral_of 0
    → refutes (is_number q) facts (numeral_of 1) (numeral_of 0) multiples ≡ true → linear q facts (relation.AtMost one zero) multiples [] ≡ Adds (at_most (numeral_of 1) (numeral_of 0))
adds_impossible q facts one zero multiples at_one at_zero h =
    ap₂ (λ a b. adds_if (is_number q a && (is_number q b && (true && refutes (is_number q) facts a b multiples))) (at_most a b)) at_one at_zero
    ∙ ap (λ b. adds_if b (at_most (numeral_of 1) (numeral_of 0))) h

pub adds_equation : (q : Question) (facts : List Term) (s t : TermId) (first second : List (Fraction × ℕ)) → is_number q (q.at s) ≡ true → is_number q (q.at t) ≡ true
    → refutes (is_number q) facts (q.at s) (q.at t) first ≡ true → refutes (is_number q) facts (q.at t) (q.at s) second ≡ true
    → linear q facts (relation.Equal s t) first second ≡ Adds (equation (q.at s) (q.at t))
adds_equation q facts s t first second hs ht h k =
    ap (λ b. adds_if b (equation (q.at s) (q.at t)))
    (both_true (is_number q (q.at s)) _ hs (both_true (is_number q (q.at t)) _ ht (both_true (refutes (is_number q) facts (q.at s) (q.at t) first) _ h k)))
