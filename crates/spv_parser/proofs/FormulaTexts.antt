-- What comes of a formula and the period behind it.
use Rattle.std.proofs.Common.{◌≡◌, ℕ, ◌+◌, ◌≤◌, List, [], ◌∷◌, Some, length, refl, sym, ap, ◌∙◌, arith}
use Rattle.spv_tree.specs.declared.tokens.token.Token.{Token}
use Rattle.spv_tree.specs.syntax.Formulas.{Formula}
use Rattle.spv_grammar.specs.reading.Readers.{Stop, wrong, deep, Read, Halted}
use Rattle.spv_grammar.specs.reading.FormulaReaders.{read_formula}
use Rattle.spv_grammar.specs.reading.RuleReaders.{before_period}
use Rattle.spv_grammar.proofs.reading.Fronts.{some_is}
use Rattle.spv_formula_parser.specs.declared.primitives.fault.Fault.{Fault}
use Rattle.spv_formula_parser.specs.declared.primitives.fault.Fault.TheVariants.{Syntax, Deep}
use Rattle.spv_formula_parser.specs.primitives.Faults.{stop_of, IsStop}
use Rattle.spv_grammar.specs.expected_tokens.FormulaTexts.{surplus, before_last, up_to_period, asserted_by, whole_asserted}
use Rattle.spv_parser.specs.Stopped.{IsOneMore}

-- ---- one more

pub more_wrong : (fault : Fault) (left more : ℕ) (s : Stop) → fault ≡ Syntax left → more ≡ left + 1 → IsStop s (Syntax more) → IsOneMore s fault
more_wrong fault left more s is many e = record { before = wrong left; told = ap stop_of is; more = sym (some_is (wrong more) s e) ∙ ap wrong many }

pub more_deep : (fault : Fault) (left more : ℕ) (s : Stop) → fault ≡ Deep left → more ≡ left + 1 → IsStop s (Deep more) → IsOneMore s fault
more_deep fault left more s is many e = record { before = deep left; told = ap stop_of is; more = sym (some_is (deep more) s e) ∙ ap deep many }

-- ---- where a period ends the tokens

module _ (n : ℕ) (tokens : List Token) where
  with_period : (inside : List Token) → before_period tokens ≡ Some inside → whole_asserted n tokens ≡ up_to_period (read_formula n inside)
  with_period inside there = ap (λ o. asserted_by n o tokens) there

  some_left : (f : Formula) (rest : List Token) → 1 ≤ length rest → up_to_period (Read (f, rest)) ≡ Halted (wrong (length (surplus rest) + 1))
  some_left f [] some = absurd (omega (arith, some))
  some_left f (t ∷ rest) some = refl

  -- tokens are left behind the formula
  pub left_behind : {inside rest : List Token} {f : Formula} (k : ℕ) (s : Stop) → before_period tokens ≡ Some inside → read_formula n inside ≡ Read (f, rest) → 1 ≤ length rest → k ≡ length (surplus rest) → IsOneMore s (Syntax k) → whole_asserted n tokens ≡ Halted s
  left_behind {inside} {rest} {f} k s there e some is h =
      with_period inside there ∙ ap up_to_period e ∙ some_left f rest some ∙ ap (λ m. Halted (wrong (m + 1))) (sym is) ∙ ap (λ r. Halted (before_last r)) (some_is (wrong k) h.before h.told) ∙ ap Halted (sym h.more)

  -- no formula is read
  pub stopped : {inside : List Token} (fault : Fault) (s : Stop) → before_period tokens ≡ Some inside → ((r : Stop) → IsStop r fault → read_formula n inside ≡ Halted r) → IsOneMore s fault → whole_asserted n tokens ≡ Halted s
  stopped {inside} fault s there e h = with_period inside there ∙ ap up_to_period (e h.before h.told) ∙ ap Halted (sym h.more)
