-- What a term is worth after a substitution, and that it hangs on its variables alone.
use Rattle.std.proofs.Common.{◌≡◌, Bool, true, false, List, refl, sym, ap, ◌∙◌, Option, Some, None}
use Rattle.spv_logic.specs.declared.operators.Head.{Head}
use Rattle.spv_logic.specs.declared.operators.Head.TheVariants.{Var, ClassVar, Start}
use Rattle.spv_logic.specs.Values.{Value}
use Rattle.spv_logic.specs.Terms.{Term, Terms, term, no_terms, terms, worth, eval, eval_all, heads_pass, all_heads_pass}
use Rattle.std.specs.Cmp.Derive.{both_true}
use Rattle.spv_logic.proofs.list.Tests.{left_true, right_true}
use Rattle.spv_logic.specs.Conditions.{Meaning, Valuation}
use Rattle.spv_logic.specs.Substitution.{Replacement, is_variable, replacement_at, replaced, substitute, substitute_all, value_under, under}

-- a head that is no variable does not look at the valuation
pub worth-same : (symbols : Meaning) (v w : Valuation) (h : Head) (vs : List Value) → is_variable h ≡ false → worth symbols v h vs ≡ worth symbols w h vs
worth-same symbols v w (Var x s n) vs e = cc
worth-same symbols v w (ClassVar t n) vs e = cc
worth-same symbols v w (Start x s) vs e = cc
worth-same symbols v w _ vs e = refl

-- a variable is worth its value
pub worth-variable : (symbols : Meaning) (v : Valuation) (h : Head) (vs : List Value) → is_variable h ≡ true → worth symbols v h vs ≡ v h
worth-variable symbols v (Var x s n) vs e = refl
worth-variable symbols v (ClassVar t n) vs e = refl
worth-variable symbols v (Start x s) vs e = refl
worth-variable symbols v _ vs e = cc

head_case : (symbols : Meaning) (by : Replacement) (v : Valuation) (h : Head) (ts : Terms) (b : Bool) (r : Option Term) → is_variable h ≡ b → by h ≡ r → eval_all symbols v (substitute_all by ts) ≡ eval_all symbols (under symbols by v) ts → eval symbols v (replaced (replacement_at b r) (term h (substitute_all by ts))) ≡ worth symbols (under symbols by v) h (eval_all symbols (under symbols by v) ts)
head_case symbols by v h ts true None e f g =
    worth-variable symbols v h (eval_all symbols v (substitute_all by ts)) e ∙ sym (worth-variable symbols (under symbols by v) h (eval_all symbols (under symbols by v) ts) e ∙ ap (λ r. value_under symbols v r (v h)) f)
head_case symbols by v h ts true (Some u) e f g =
    sym (worth-variable symbols (under symbols by v) h (eval_all symbols (under symbols by v) ts) e ∙ ap (λ r. value_under symbols v r (v h)) f)
head_case symbols by v h ts false r e f g =
    worth-same symbols v (under symbols by v) h (eval_all symbols v (substitute_all by ts)) e ∙ ap (worth symbols (under symbols by v) h) g

mutual
  -- what the substituted term is worth is what the term is worth under the valuation that the replacement makes
  pub eval-substitute : (symbols : Meaning) (by : Replacement) (v : Valuation) (t : Term) → eval symbols v (substitute by t) ≡ eval symbols (under symbols by v) t
  eval-substitute symbols by v (term h ts) =
      head_case symbols by v h ts (is_variable h) (by h) refl refl (eval_all-substitute symbols by v ts)

  pub eval_all-substitute : (symbols : Meaning) (by : Replacement) (v : Valuation) (ts : Terms) → eval_all symbols v (substitute_all by ts) ≡ eval_all symbols (under symbols by v) ts
  eval_all-substitute symbols by v no_terms = refl
  eval_all-substitute symbols by v (terms t ts) =
      let e = eval-substitute symbols by v t in
      let f = eval_all-substitute symbols by v ts in
      cc (e, f)

same_head : (symbols : Meaning) (v w : Valuation) (h : Head) (vs : List Value) (b : Bool) → is_variable h ≡ b → (is_variable h ≡ true → v h ≡ w h) → worth symbols v h vs ≡ worth symbols w h vs
same_head symbols v w h vs true e same = worth-variable symbols v h vs e ∙ (same e ∙ sym (worth-variable symbols w h vs e))
same_head symbols v w h vs false e same = worth-same symbols v w h vs e

mutual
  -- valuations that agree on a term's variables give it the same worth; `test` is passed by the term's heads
  pub eval-agree : (symbols : Meaning) (v w : Valuation) (test : Head → Bool) (t : Term) → heads_pass test t ≡ true → ((k : Head) → test k ≡ true → is_variable k ≡ true → v k ≡ w k) → eval symbols v t ≡ eval symbols w t
  eval-agree symbols v w test (term h ts) pass same =
      ap (worth symbols v h) (eval_all-agree symbols v w test ts (right_true (test h) _ pass) same)
      ∙ same_head symbols v w h (eval_all symbols w ts) (is_variable h) refl (same h (left_true _ _ pass))

  pub eval_all-agree : (symbols : Meaning) (v w : Valuation) (test : Head → Bool) (ts : Terms) → all_heads_pass test ts ≡ true → ((k : Head) → test k ≡ true → is_variable k ≡ true → v k ≡ w k) → eval_all symbols v ts ≡ eval_all symbols w ts
  eval_all-agree symbols v w test no_terms pass same = refl
  eval_all-agree symbols v w test (terms t ts) pass same =
      let e = eval-agree symbols v w test t (left_true _ _ pass) same in
      let f = eval_all-agree symbols v w test ts (right_true (heads_pass test t) _ pass) same in
      cc (e, f)

mutual
  any_heads_pass : (t : Term) → heads_pass (λ h. true) t ≡ true
  any_heads_pass (term h ts) = any_all_heads_pass ts

  any_all_heads_pass : (ts : Terms) → all_heads_pass (λ h. true) ts ≡ true
  any_all_heads_pass no_terms = refl
  any_all_heads_pass (terms t ts) = both_true (any_heads_pass t) (any_all_heads_pass ts)

-- valuations that agree on all variables
pub eval-same : (symbols : Meaning) (v w : Valuation) (t : Term) → ((k : Head) → is_variable k ≡ true → v k ≡ w k) → eval symbols v t ≡ eval symbols w t
eval-same symbols v w t same = eval-agree symbols v w (λ h. true) t (any_heads_pass t) (λ k e. same k)
