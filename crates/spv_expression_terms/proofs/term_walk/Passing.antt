-- Terms whose heads pass a test, by their parts.
use Rattle.std.proofs.Common.{◌≡◌, Bool, true, false, ◌&&◌, refl}
use Rattle.std.specs.Cmp.Derive.{both_true}
use Rattle.spv_logic.proofs.list.Tests.{left_true, right_true}
use Rattle.spv_logic.specs.declared.operators.Head.{Head}
use Rattle.spv_logic.specs.declared.operators.Head.TheVariants as head
use Rattle.spv_logic.specs.Terms.{Term, Terms, term, no_terms, terms, heads_pass, all_heads_pass}
use Rattle.spv_logic.specs.declared.names.names.Symbol.{Symbol}
use Rattle.spv_program.specs.declared.operators.Arithmetic.{Arithmetic}
use Rattle.spv_program.specs.declared.operators.Arithmetic.TheVariants as arithmetic
use Rattle.spv_program.specs.declared.operators.Connective.{Connective}
use Rattle.spv_program.specs.declared.operators.Connective.TheVariants as connective
use Rattle.spv_program.specs.declared.operators.BuiltIn.{BuiltIn}
use Rattle.spv_program.specs.declared.operators.BuiltIn.TheVariants as known
use Rattle.spv_program.specs.FormulaTypes.{head_of_known}
use Rattle.spv_program.specs.declared.operators.Comparison.{Comparison}
use Rattle.spv_program.specs.declared.operators.Comparison.TheVariants as comparison
use Rattle.spv_program.specs.Terms.{unary, binary, truth, head_of_arithmetic, comparing, head_of_connective}

-- whether a head is an operator: it stands for no name, no class, no numeral and no NIL
abbrev pub is_operator : Head → Bool
is_operator (head.Var x s n) = false
is_operator (head.ClassVar t n) = false
is_operator (head.Start x s) = false
is_operator (head.Num z) = false
is_operator (head.Nil t) = false
is_operator _ = true

arithmetic_operator : (o : Arithmetic) → is_operator (head_of_arithmetic o) ≡ true
arithmetic_operator arithmetic.Plus = refl
arithmetic_operator arithmetic.Minus = refl
arithmetic_operator arithmetic.Times = refl
arithmetic_operator arithmetic.Div = refl
arithmetic_operator arithmetic.Mod = refl

connective_operator : (o : Connective) → is_operator (head_of_connective o) ≡ true
connective_operator connective.And = refl
connective_operator connective.Or = refl

known_operator : (b : BuiltIn) → is_operator (head_of_known b) ≡ true
known_operator known.Select = refl
known_operator known.Store = refl
known_operator (known.Put f) = refl
known_operator known.Cell = refl
known_operator known.SetCell = refl
known_operator known.Extend = refl
known_operator known.PointerTo = refl
known_operator known.Car = refl
known_operator known.Cdr = refl
known_operator known.Cons = refl
known_operator known.Atom = refl

-- a test that operators pass
module _ (test : Head → Bool) (operators : (h : Head) → is_operator h ≡ true → test h ≡ true) where
  pub pass_one : (h : Head) (s : Term) → is_operator h ≡ true → heads_pass test s ≡ true → heads_pass test (unary h s) ≡ true
  pass_one h s p q = both_true (operators h p) (both_true q refl)

  pub pass_two : (h : Head) (s t : Term) → is_operator h ≡ true → heads_pass test s ≡ true → heads_pass test t ≡ true → heads_pass test (binary h s t) ≡ true
  pass_two h s t p q r = both_true (operators h p) (both_true q (both_true r refl))

  pub pass_known : (b : BuiltIn) (ts : Terms) → all_heads_pass test ts ≡ true → heads_pass test (term (head_of_known b) ts) ≡ true
  pass_known b ts p = both_true (operators (head_of_known b) (known_operator b)) p

  pub pass_applied : (f : Symbol) (ts : Terms) → all_heads_pass test ts ≡ true → heads_pass test (term (head.App f) ts) ≡ true
  pass_applied f ts p = both_true (operators (head.App f) refl) p

  pub pass_truth : (b : Bool) → heads_pass test (truth b) ≡ true
  pass_truth true = both_true (operators head.True refl) refl
  pass_truth false = both_true (operators head.False refl) refl

  pub pass_calculated : (o : Arithmetic) (s t : Term) → heads_pass test s ≡ true → heads_pass test t ≡ true → heads_pass test (binary (head_of_arithmetic o) s t) ≡ true
  pass_calculated o s t q r = pass_two (head_of_arithmetic o) s t (arithmetic_operator o) q r

  pub pass_joined : (o : Connective) (s t : Term) → heads_pass test s ≡ true → heads_pass test t ≡ true → heads_pass test (binary (head_of_connective o) s t) ≡ true
  pass_joined o s t q r = pass_two (head_of_connective o) s t (connective_operator o) q r

  pub pass_compared : (o : Comparison) (s t : Term) → heads_pass test s ≡ true → heads_pass test t ≡ true → heads_pass test (comparing o s t) ≡ true
  pass_compared comparison.Equal s t q r = pass_two head.Eq s t refl q r
  pass_compared comparison.NotEqual s t q r = pass_one head.Not (binary head.Eq s t) refl (pass_two head.Eq s t refl q r)
  pass_compared comparison.Less s t q r = pass_two head.Lt s t refl q r
  pass_compared comparison.AtMost s t q r = pass_two head.Le s t refl q r
  pass_compared comparison.Greater s t q r = pass_two head.Lt t s refl r q
  pass_compared comparison.AtLeast s t q r = pass_two head.Le t s refl r q

-- two tests are one
module _ (test other : Head → Bool) where
  abbrev both : Head → Bool
  both h = test h && other h

  mutual
    pub pass_both : (t : Term) → heads_pass test t ≡ true → heads_pass other t ≡ true → heads_pass both t ≡ true
    pass_both (term h ts) p q =
        both_true (both_true (left_true (test h) (all_heads_pass test ts) p) (left_true (other h) (all_heads_pass other ts) q))
        (all_pass_both ts (right_true (test h) (all_heads_pass test ts) p) (right_true (other h) (all_heads_pass other ts) q))

    all_pass_both : (ts : Terms) → all_heads_pass test ts ≡ true → all_heads_pass other ts ≡ true → all_heads_pass both ts ≡ true
    all_pass_both no_terms p q = refl
    all_pass_both (terms t ts) p q =
        both_true (pass_both t (left_true (heads_pass test t) (all_heads_pass test ts) p) (left_true (heads_pass other t) (all_heads_pass other ts) q))
        (all_pass_both ts (right_true (heads_pass test t) (all_heads_pass test ts) p) (right_true (heads_pass other t) (all_heads_pass other ts) q))
