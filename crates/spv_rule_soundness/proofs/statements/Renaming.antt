-- Fresh variables in the place of others.
use Rattle.std.proofs.Common.{arith, ◌≡◌, ℕ, suc, Bool, true, false, cond, ◌||◌, List, [], ◌∷◌, refl, sym, ap, ◌∙◌, nat_lt, Some, None}
use Rattle.std.specs.List.{list_any, list_all}
use Rattle.std.proofs.lemmas.Bool.{false≢true, eq-eqb}
use Rattle.std.proofs.lemmas.Bool.Decides.{nat_tests}
use Rattle.spv_logic.proofs.list.Tests.{left_true, right_true}
use Rattle.spv_logic.specs.declared.operators.Head.{Head}
use Rattle.spv_logic.specs.declared.operators.Head.TheVariants as head
use Rattle.spv_logic.specs.Terms.{Term, term, head_eq}
use Rattle.spv_logic.specs.Fits.{fits}
use Rattle.spv_logic.specs.Sorts.{variable_sort}
use Rattle.spv_logic.specs.Substitution.{is_variable, value_under, under}
use Rattle.spv_logic.specs.Conditions.{Meaning, Valuation, IsValuation}
use Rattle.spv_logic.proofs.Equality.{head_eq-true, head_eq-refl}
use Rattle.spv_logic.proofs.Substitution.{worth-variable}
use Rattle.spv_program.specs.Lists.{same_name}
use Rattle.spv_program.specs.Types.{same_type}
use Rattle.spv_program.specs.Programs.{Program, shapes}
use Rattle.spv_program.specs.Supplies.{Supply, fresh_like}
use Rattle.spv_program.specs.Terms.{alone}
use Rattle.spv_program.specs.Calls.{replacing}
use Rattle.spv_meaning.specs.Before.{renamed}
use Rattle.spv_rule_soundness.specs.statements.Truth.{is_new, IsLater}
use Rattle.spv_rule_soundness.proofs.statements.Lists.{not_new}

-- ---- supplies

-- variables and classes that a fresh one can be like
abbrev pub is_name : Head → Bool
is_name (head.Var x s n) = true
is_name (head.ClassVar t n) = true
is_name _ = false

below_next : (m k : ℕ) → nat_lt (suc k) m ≡ true → nat_lt k m ≡ true
below_next m k h = grind (arith, nat_tests)

itself_next : (k : ℕ) → nat_lt k (suc k) ≡ true
itself_next k = grind (arith, nat_tests)

not_itself : (k : ℕ) → nat_lt k k ≡ false
not_itself k = grind (arith, nat_tests)

pub fresh_later : (k : Head) (n : Supply) → IsLater n (fresh_like k n).supply
fresh_later (head.Var x s i) n (head.Var y r m) new = by_name (same_name x y) refl new
  where
    by_name : (b : Bool) → same_name x y ≡ b → nat_lt (cond b (suc (n.names y)) (n.names y)) m ≡ true → nat_lt (n.names y) m ≡ true
    by_name true e h = below_next m (n.names y) h
    by_name false e h = h
fresh_later (head.Var x s i) n (head.ClassVar t m) new = new
fresh_later (head.Var x s i) n _ new = absurd (false≢true new)
fresh_later (head.ClassVar t i) n (head.ClassVar u m) new = by_type (same_type t u) refl new
  where
    by_type : (b : Bool) → same_type t u ≡ b → nat_lt (cond b (suc (n.classes u)) (n.classes u)) m ≡ true → nat_lt (n.classes u) m ≡ true
    by_type true e h = below_next m (n.classes u) h
    by_type false e h = h
fresh_later (head.ClassVar t i) n (head.Var x s m) new = new
fresh_later (head.ClassVar t i) n _ new = absurd (false≢true new)
fresh_later _ n h new = new

pub fresh_new : (k : Head) (n : Supply) → is_name k ≡ true → is_new n (fresh_like k n).head ≡ true
fresh_new (head.Var x s i) n name = itself_next (n.names x)
fresh_new (head.ClassVar t i) n name = itself_next (n.classes t)
fresh_new _ n name = absurd (false≢true name)

pub fresh_taken : (k : Head) (n : Supply) → is_name k ≡ true → is_new (fresh_like k n).supply (fresh_like k n).head ≡ false
fresh_taken (head.Var x s i) n name =
    ap (λ b. nat_lt (cond b (suc (n.names x)) (n.names x)) (suc (n.names x))) (eq-eqb x.0 x.0 refl) ∙ not_itself (suc (n.names x))
fresh_taken (head.ClassVar t i) n name =
    ap (λ b. nat_lt (cond b (suc (n.classes t)) (n.classes t)) (suc (n.classes t))) (eq-eqb t.0 t.0 refl) ∙ not_itself (suc (n.classes t))
fresh_taken _ n name = absurd (false≢true name)

pub fresh_sort : (k : Head) (n : Supply) → variable_sort (fresh_like k n).head ≡ variable_sort k
fresh_sort (head.Var x s i) n = refl
fresh_sort (head.ClassVar t i) n = refl
fresh_sort _ n = refl

-- what is new is none that is not
pub new_differs : (n : Supply) (h y : Head) → is_new n h ≡ false → is_new n y ≡ true → head_eq h y ≡ false
new_differs n h y old new = by_case (head_eq h y) refl
  where
    by_case : (b : Bool) → head_eq h y ≡ b → b ≡ false
    by_case true e = absurd (false≢true (sym old ∙ (ap (is_new n) (head_eq-true h y e) ∙ new)))
    by_case false e = refl

pub old_differs : (n : Supply) (h y : Head) → is_new n h ≡ true → is_new n y ≡ false → head_eq h y ≡ false
old_differs n h y new old = by_case (head_eq h y) refl
  where
    by_case : (b : Bool) → head_eq h y ≡ b → b ≡ false
    by_case true e = absurd (false≢true (sym old ∙ (ap (is_new n) (sym (head_eq-true h y e)) ∙ new)))
    by_case false e = refl

pub renamed_later : (heads : List Head) (n : Supply) → IsLater n (renamed heads n).supply
renamed_later [] n h new = new
renamed_later (k ∷ heads) n h new = fresh_later k n h (renamed_later heads (fresh_like k n).supply h new)

-- ---- values of fresh variables

-- each fresh variable has the value that another valuation gives to what it stands for
abbrev pub with_fresh : List (Head × Term) → Valuation → Valuation → Valuation
with_fresh [] source base h = base h
with_fresh ((k, term y ts) ∷ pairs) source base h = cond (head_eq h y) (source k) (with_fresh pairs source base h)

pub fresh_else : (heads : List Head) → list_all is_name heads ≡ true → (n : Supply) (source base : Valuation) (h : Head) → is_new n h ≡ false → with_fresh (renamed heads n).pairs source base h ≡ base h
fresh_else [] names n source base h old = refl
fresh_else (k ∷ heads) names n source base h old =
    ap (λ b. cond b (source k) (with_fresh (renamed heads (fresh_like k n).supply).pairs source base h)) (new_differs n h (fresh_like k n).head old (fresh_new k n (left_true (is_name k) _ names)))
    ∙ fresh_else heads (right_true (is_name k) _ names) (fresh_like k n).supply source base h (not_new n (fresh_like k n).supply h (fresh_later k n) old)

-- what stands for a head that is renamed
pub record Stands (pairs : List (Head × Term)) (n : Supply) (source base : Valuation) (k : Head) : Type 0 where
  pub variable : Head
  pub is : replacing pairs k ≡ Some (alone variable)
  pub new : is_new n variable ≡ true
  pub name : is_variable variable ≡ true
  pub value : with_fresh pairs source base variable ≡ source k

pub fresh_is_variable : (k : Head) (n : Supply) → is_name k ≡ true → is_variable (fresh_like k n).head ≡ true
fresh_is_variable (head.Var x s i) n name = refl
fresh_is_variable (head.ClassVar t i) n name = refl
fresh_is_variable _ n name = absurd (false≢true name)

pub stands : (heads : List Head) → list_all is_name heads ≡ true → (n : Supply) (source base : Valuation) (k : Head) → list_any (head_eq k) heads ≡ true → Stands (renamed heads n).pairs n source base k
stands [] names n source base k there = absurd (false≢true there)
stands (h ∷ heads) names n source base k there =
    by_case (head_eq k h) refl there (λ later. stands heads (right_true (is_name h) _ names) (fresh_like h n).supply source base k later)
  where
    y : Head
    y = (fresh_like h n).head

    rest : List (Head × Term)
    rest = (renamed heads (fresh_like h n).supply).pairs

    name : is_name h ≡ true
    name = left_true (is_name h) _ names

    by_case : (b : Bool) → head_eq k h ≡ b → (b || list_any (head_eq k) heads) ≡ true → (list_any (head_eq k) heads ≡ true → Stands rest (fresh_like h n).supply source base k) → Stands ((h, alone y) ∷ rest) n source base k
    by_case true e there later = record {
      variable = y;
      is = ap (λ b. cond b (Some (alone y)) (replacing rest k)) e;
      new = fresh_new h n name;
      name = fresh_is_variable h n name;
      value = ap (λ b. cond b (source h) (with_fresh rest source base y)) (head_eq-refl y) ∙ ap source (sym (head_eq-true k h e));
    }
    by_case false e there later =
        let s = later there in
        record {
          variable = s.variable;
          is = ap (λ b. cond b (Some (alone y)) (replacing rest k)) e ∙ s.is;
          new = fresh_later h n s.variable s.new;
          name = s.name;
          value = ap (λ b. cond b (source h) (with_fresh rest source base s.variable)) (old_differs (fresh_like h n).supply s.variable y s.new (fresh_taken h n name)) ∙ s.value;
        }

pub not_renamed : (heads : List Head) (n : Supply) (k : Head) → list_any (head_eq k) heads ≡ false → replacing (renamed heads n).pairs k ≡ None
not_renamed [] n k away = refl
not_renamed (h ∷ heads) n k away =
    by_case (head_eq k h) refl away (not_renamed heads (fresh_like h n).supply k)
  where
    by_case : (b : Bool) → head_eq k h ≡ b → (b || list_any (head_eq k) heads) ≡ false → (list_any (head_eq k) heads ≡ false → replacing (renamed heads (fresh_like h n).supply).pairs k ≡ None) → replacing (renamed (h ∷ heads) n).pairs k ≡ None
    by_case true e away later = absurd (false≢true (sym away))
    by_case false e away later = ap (λ b. cond b (Some (alone (fresh_like h n).head)) (replacing (renamed heads (fresh_like h n).supply).pairs k)) e ∙ later away

-- under the renaming, with fresh variables that have the values of what they stand for
pub under_there : (symbols : Meaning) (heads : List Head) → list_all is_name heads ≡ true → (n : Supply) (source base : Valuation) (k : Head) → list_any (head_eq k) heads ≡ true → under symbols (replacing (renamed heads n).pairs) (with_fresh (renamed heads n).pairs source base) k ≡ source k
under_there symbols heads names n source base k there =
    let s = stands heads names n source base k there in
    let w = with_fresh (renamed heads n).pairs source base in
    ap (λ o. value_under symbols w o (w k)) s.is ∙ (worth-variable symbols w s.variable [] s.name ∙ s.value)

pub under_else : (symbols : Meaning) (heads : List Head) (n : Supply) (w : Valuation) (k : Head) → list_any (head_eq k) heads ≡ false → under symbols (replacing (renamed heads n).pairs) w k ≡ w k
under_else symbols heads n w k away = ap (λ o. value_under symbols w o (w k)) (not_renamed heads n k away)

-- ---- valuations

pub value_at : (p : Program) (v : Valuation) → IsValuation (shapes p) v → (h : Head) → is_variable h ≡ true → fits (shapes p) (v h) (variable_sort h) ≡ true
value_at p v val (head.Var x s n) name = val.variables x s n
value_at p v val (head.ClassVar t n) name = val.classes t n
value_at p v val (head.Start x s) name = val.starts x s
value_at p v val _ name = absurd (false≢true name)

pub valuation_from : (p : Program) (v : Valuation) → ((h : Head) → is_variable h ≡ true → fits (shapes p) (v h) (variable_sort h) ≡ true) → IsValuation (shapes p) v
valuation_from p v fit = record {
  variables = λ x s n. fit (head.Var x s n) refl;
  classes = λ t n. fit (head.ClassVar t n) refl;
  starts = λ x s. fit (head.Start x s) refl;
}

name_is_variable : (k : Head) → is_name k ≡ true → is_variable k ≡ true
name_is_variable (head.Var x s n) name = refl
name_is_variable (head.ClassVar t n) name = refl
name_is_variable _ name = absurd (false≢true name)

fresh_fit : (p : Program) (heads : List Head) → list_all is_name heads ≡ true → (n : Supply) (source base : Valuation) → IsValuation (shapes p) source → IsValuation (shapes p) base → (h : Head) → is_variable h ≡ true → fits (shapes p) (with_fresh (renamed heads n).pairs source base h) (variable_sort h) ≡ true
fresh_fit p [] names n source base val under h name = value_at p base under h name
fresh_fit p (k ∷ heads) names n source base val under h name =
    by_case (head_eq h (fresh_like k n).head) refl (fresh_fit p heads (right_true (is_name k) _ names) (fresh_like k n).supply source base val under h name)
  where
    by_case : (b : Bool) → head_eq h (fresh_like k n).head ≡ b → fits (shapes p) (with_fresh (renamed heads (fresh_like k n).supply).pairs source base h) (variable_sort h) ≡ true → fits (shapes p) (cond b (source k) (with_fresh (renamed heads (fresh_like k n).supply).pairs source base h)) (variable_sort h) ≡ true
    by_case true e later =
        ap (fits (shapes p) (source k)) (ap variable_sort (head_eq-true h (fresh_like k n).head e) ∙ fresh_sort k n) ∙ value_at p source val k (name_is_variable k (left_true (is_name k) _ names))
    by_case false e later = later

pub fresh_valuation : (p : Program) (heads : List Head) → list_all is_name heads ≡ true → (n : Supply) (source base : Valuation) → IsValuation (shapes p) source → IsValuation (shapes p) base → IsValuation (shapes p) (with_fresh (renamed heads n).pairs source base)
fresh_valuation p heads names n source base val under = valuation_from p _ (fresh_fit p heads names n source base val under)
