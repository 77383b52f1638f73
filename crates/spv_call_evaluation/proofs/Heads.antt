-- The heads in ENTRY and EXIT of a function: its parameters, its name, and what its GLOBAL list has.
use Rattle.std.proofs.Common.{◌≡◌, Bool, true, false, cond, not, ◌&&◌, ◌||◌, List, [], ◌∷◌, ◌++◌, map, pos, refl, sym, ap, ◌∙◌, nat_eq, Some, option_map}
use Rattle.std.specs.Prelude.{is_some}
use Rattle.std.specs.List.{list_all, list_any}
use Rattle.std.specs.Cmp.Derive.{both_true}
use Rattle.std.proofs.lemmas.Bool.{false≢true}
use Rattle.spv_logic.proofs.list.Tests.{left_true, right_true, left_false, right_false, both_false}
use Rattle.spv_logic.specs.declared.names.names.Symbol.{Symbol}
use Rattle.spv_logic.specs.declared.types.TypeId.{TypeId}
use Rattle.spv_logic.specs.declared.operators.Head.{Head}
use Rattle.spv_logic.specs.declared.operators.Head.TheVariants as head
use Rattle.spv_logic.specs.Terms.{Term, sort_eq, heads_pass, all_heads_pass}
use Rattle.spv_logic.specs.Substitution.{is_variable}
use Rattle.spv_logic.proofs.Equality.{sort_eq-refl}
use Rattle.spv_program.specs.declared.operators.Arithmetic.{Arithmetic}
use Rattle.spv_program.specs.declared.operators.Arithmetic.TheVariants as arithmetic
use Rattle.spv_program.specs.declared.operators.BuiltIn.{BuiltIn}
use Rattle.spv_program.specs.declared.operators.BuiltIn.TheVariants as known
use Rattle.spv_program.specs.declared.operators.Comparison.{Comparison}
use Rattle.spv_program.specs.declared.operators.Comparison.TheVariants as comparison
use Rattle.spv_program.specs.declared.operators.Connective.{Connective}
use Rattle.spv_program.specs.declared.operators.Connective.TheVariants as connective
use Rattle.spv_program.specs.declared.types.Item.{Item}
use Rattle.spv_program.specs.declared.types.Item.TheVariants.{Variable, Class}
use Rattle.spv_program.specs.Lists.{same_name, found}
use Rattle.spv_program.specs.Types.{sort_of, same_item}
use Rattle.spv_program.specs.Formulas.{Formula, Formulas, Numeral, Boolean, NilOf, Named, ClassOf, Element, FieldOf, Content, Applied, Known, Negative, Calculated, Compared, Negated, Joined, Implied, no_formulas, formulas}
use Rattle.spv_program.specs.FormulaTypes.{head_of_known}
use Rattle.spv_program.specs.Programs.{Formal, GlobalItem, Routine, Program, lists}
use Rattle.spv_program.specs.Scopes.{sort_or_int, with_sorts_of, entry_scope, exit_scope, is_value_parameter, result_name}
use Rattle.spv_program.specs.Uses.{Use, name_root, formula_uses, formulas_uses}
use Rattle.spv_program.specs.Frames.{is_formal, is_initial, use_allowed, changes_nothing}
use Rattle.spv_program.specs.Terms.{alone, numeral, binary, head_of_arithmetic, comparing, head_of_connective, name_in, start_or_name, name_at_exit, formula_term, formula_terms}
use Rattle.spv_program.specs.Typing.{may_be_initial}
use Rattle.spv_meaning.proofs.Differing.{not_true}
use Rattle.spv_writes.proofs.Lists.{all_left, all_right}

-- ---- formulas that name what is allowed

known_plain : (b : BuiltIn) → is_variable (head_of_known b) ≡ false
known_plain known.Select = refl
known_plain known.Store = refl
known_plain (known.Put f) = refl
known_plain known.Cell = refl
known_plain known.SetCell = refl
known_plain known.Extend = refl
known_plain known.PointerTo = refl
known_plain known.Car = refl
known_plain known.Cdr = refl
known_plain known.Cons = refl
known_plain known.Atom = refl

arithmetic_plain : (o : Arithmetic) → is_variable (head_of_arithmetic o) ≡ false
arithmetic_plain arithmetic.Plus = refl
arithmetic_plain arithmetic.Minus = refl
arithmetic_plain arithmetic.Times = refl
arithmetic_plain arithmetic.Div = refl
arithmetic_plain arithmetic.Mod = refl

connective_plain : (o : Connective) → is_variable (head_of_connective o) ≡ false
connective_plain connective.And = refl
connective_plain connective.Or = refl

-- a test that operators pass, and the names and classes that a list lets a formula read
pub record Passes (test : Head → Bool) (names : Symbol → Head) (own : Symbol → Bool) (globals : List GlobalItem) : Type 0 where
  pub operators : (h : Head) → is_variable h ≡ false → test h ≡ true
  pub classes : (t : TypeId) → lists globals (Class t) false ≡ true → test (head.ClassVar t 0) ≡ true
  pub named : (x : Symbol) → use_allowed globals (name_root own x) false ≡ true → test (names x) ≡ true

module _ (test : Head → Bool) (names : Symbol → Head) (own : Symbol → Bool) (globals : List GlobalItem) (passes : Passes test names own globals) where
  abbrev Allowed : List Use → Type 0
  Allowed us = list_all (λ u. use_allowed globals u.root u.changes) us ≡ true

  allowed_left : (us vs : List Use) → Allowed (us ++ vs) → Allowed us
  allowed_left us vs h = all_left (λ u. use_allowed globals u.root u.changes) us vs h

  allowed_right : (us vs : List Use) → Allowed (us ++ vs) → Allowed vs
  allowed_right us vs h = all_right (λ u. use_allowed globals u.root u.changes) us vs h

  two_pass : (h : Head) (s t : Term) → is_variable h ≡ false → heads_pass test s ≡ true → heads_pass test t ≡ true → heads_pass test (binary h s t) ≡ true
  two_pass h s t plain a b = both_true (passes.operators h plain) (both_true a (both_true b refl))

  comparison_passes : (o : Comparison) (s t : Term) → heads_pass test s ≡ true → heads_pass test t ≡ true → heads_pass test (comparing o s t) ≡ true
  comparison_passes comparison.Equal s t a b = two_pass head.Eq s t refl a b
  comparison_passes comparison.NotEqual s t a b = both_true (passes.operators head.Not refl) (both_true (two_pass head.Eq s t refl a b) refl)
  comparison_passes comparison.Less s t a b = two_pass head.Lt s t refl a b
  comparison_passes comparison.AtMost s t a b = two_pass head.Le s t refl a b
  comparison_passes comparison.Greater s t a b = two_pass head.Lt t s refl b a
  comparison_passes comparison.AtLeast s t a b = two_pass head.Le t s refl b a

  mutual
    pub formula_passes : (f : Formula) → Allowed (formula_uses own f) → heads_pass test (formula_term names f) ≡ true
    formula_passes (Numeral z) uses = both_true (passes.operators (head.Num z) refl) refl
    formula_passes (Boolean true) uses = both_true (passes.operators head.True refl) refl
    formula_passes (Boolean false) uses = both_true (passes.operators head.False refl) refl
    formula_passes (NilOf t) uses = both_true (passes.operators (head.Nil t) refl) refl
    formula_passes (Named line x) uses = both_true (passes.named x (left_true (use_allowed globals (name_root own x) false) true uses)) refl
    formula_passes (ClassOf line t) uses = both_true (passes.classes t (left_true (lists globals (Class t) false) true uses)) refl
    formula_passes (Element a i) uses = two_pass head.Select _ _ refl (formula_passes a (allowed_left (formula_uses own a) (formula_uses own i) uses)) (formula_passes i (allowed_right (formula_uses own a) (formula_uses own i) uses))
    formula_passes (FieldOf r f) uses = both_true (passes.operators (head.Field f) refl) (both_true (formula_passes r uses) refl)
    formula_passes (Content line t q) uses =
        two_pass head.Cell (alone (head.ClassVar t 0)) (formula_term names q) refl (both_true (passes.classes t (left_true (lists globals (Class t) false) true (allowed_right (formula_uses own q) _ uses))) refl) (formula_passes q (allowed_left (formula_uses own q) _ uses))
    formula_passes (Applied f fs) uses = both_true (passes.operators (head.App f) refl) (formulas_pass fs uses)
    formula_passes (Known b fs) uses = both_true (passes.operators (head_of_known b) (known_plain b)) (formulas_pass fs uses)
    formula_passes (Negative f) uses = two_pass head.Sub (numeral (pos 0)) (formula_term names f) refl (both_true (passes.operators (head.Num (pos 0)) refl) refl) (formula_passes f uses)
    formula_passes (Calculated o f g) uses = two_pass (head_of_arithmetic o) _ _ (arithmetic_plain o) (formula_passes f (allowed_left (formula_uses own f) (formula_uses own g) uses)) (formula_passes g (allowed_right (formula_uses own f) (formula_uses own g) uses))
    formula_passes (Compared o f g) uses = comparison_passes o _ _ (formula_passes f (allowed_left (formula_uses own f) (formula_uses own g) uses)) (formula_passes g (allowed_right (formula_uses own f) (formula_uses own g) uses))
    formula_passes (Negated f) uses = both_true (passes.operators head.Not refl) (both_true (formula_passes f uses) refl)
    formula_passes (Joined o f g) uses = two_pass (head_of_connective o) _ _ (connective_plain o) (formula_passes f (allowed_left (formula_uses own f) (formula_uses own g) uses)) (formula_passes g (allowed_right (formula_uses own f) (formula_uses own g) uses))
    formula_passes (Implied f g) uses = two_pass head.Implies _ _ refl (formula_passes f (allowed_left (formula_uses own f) (formula_uses own g) uses)) (formula_passes g (allowed_right (formula_uses own f) (formula_uses own g) uses))

    formulas_pass : (fs : Formulas) → Allowed (formulas_uses own fs) → all_heads_pass test (formula_terms names fs) ≡ true
    formulas_pass no_formulas uses = refl
    formulas_pass (formulas f fs) uses = both_true (formula_passes f (allowed_left (formula_uses own f) (formulas_uses own fs) uses)) (formulas_pass fs (allowed_right (formula_uses own f) (formulas_uses own fs) uses))

-- ---- the heads of ENTRY and of EXIT

-- the names that a function's EXIT has beside its parameters and its GLOBAL list
abbrev pub named_at_exit : Routine → Symbol → Bool
named_at_exit q x = is_formal q x || (is_some (found (result_name q.name q.result) x) || is_initial q x)

abbrev pub entry_test : Program → Routine → Head → Bool
entry_test p q (head.Var x s m) = nat_eq m 0 && (sort_eq s (sort_or_int (found (entry_scope p q) x)) && use_allowed q.globals (name_root (is_formal q) x) false)
entry_test p q (head.ClassVar t m) = nat_eq m 0 && lists q.globals (Class t) false
entry_test p q (head.Start x s) = false
entry_test p q _ = true

abbrev pub exit_test : Program → Routine → Head → Bool
exit_test p q (head.Var x s m) =
    nat_eq m 0 && (not (is_value_parameter q x) && (sort_eq s (sort_or_int (found (exit_scope p q) x)) && use_allowed q.globals (name_root (named_at_exit q) x) false))
exit_test p q (head.ClassVar t m) = nat_eq m 0 && lists q.globals (Class t) false
exit_test p q (head.Start x s) = is_value_parameter q x && sort_eq s (sort_or_int (found (exit_scope p q) x))
exit_test p q _ = true

entry_plain : (p : Program) (q : Routine) (h : Head) → is_variable h ≡ false → entry_test p q h ≡ true
entry_plain p q (head.Var x s m) e = cc
entry_plain p q (head.ClassVar t m) e = cc
entry_plain p q (head.Start x s) e = cc
entry_plain p q _ e = refl

exit_plain : (p : Program) (q : Routine) (h : Head) → is_variable h ≡ false → exit_test p q h ≡ true
exit_plain p q (head.Var x s m) e = cc
exit_plain p q (head.ClassVar t m) e = cc
exit_plain p q (head.Start x s) e = cc
exit_plain p q _ e = refl

pub entry_passes : (p : Program) (q : Routine) → Passes (entry_test p q) (name_in (entry_scope p q)) (is_formal q) q.globals
entry_passes p q = record {
  operators = entry_plain p q;
  classes = λ t listed. listed;
  named = λ x allowed. both_true (sort_eq-refl (sort_or_int (found (entry_scope p q) x))) allowed;
}

pub exit_passes : (p : Program) (q : Routine) → Passes (exit_test p q) (name_at_exit p q) (named_at_exit q) q.globals
exit_passes p q = record {
  operators = exit_plain p q;
  classes = λ t listed. listed;
  named = λ x allowed. by_kind x (is_value_parameter q x) refl allowed;
}
  where
    by_kind : (x : Symbol) (b : Bool) → is_value_parameter q x ≡ b → use_allowed q.globals (name_root (named_at_exit q) x) false ≡ true → exit_test p q (start_or_name b x (sort_or_int (found (exit_scope p q) x))) ≡ true
    by_kind x true is allowed = both_true is (sort_eq-refl (sort_or_int (found (exit_scope p q) x)))
    by_kind x false is allowed = both_true (ap not is) (both_true (sort_eq-refl (sort_or_int (found (exit_scope p q) x))) allowed)

-- ---- scopes

pub found-sorts : (p : Program) (names : List (Symbol × TypeId)) (x : Symbol) → found (with_sorts_of p names) x ≡ option_map (sort_of p.forms) (found names x)
found-sorts p [] x = refl
found-sorts p (n ∷ names) x = by_name (same_name n.0 x) (found-sorts p names x)
  where
    by_name : (b : Bool) → found (with_sorts_of p names) x ≡ option_map (sort_of p.forms) (found names x) → cond b (Some (sort_of p.forms n.1)) (found (with_sorts_of p names) x) ≡ option_map (sort_of p.forms) (cond b (Some n.1) (found names x))
    by_name true later = refl
    by_name false later = later

-- ---- functions change nothing

-- a value parameter is a parameter
pub value_is_formal : (formals : List Formal) (x : Symbol) → list_any (λ f. same_name f.name x && not f.by_place) formals ≡ true → is_some (found (map (λ f. (f.name, f.of)) formals) x) ≡ true
value_is_formal [] x h = absurd (false≢true h)
value_is_formal (f ∷ formals) x h = by_name (same_name f.name x) h (value_is_formal formals x)
  where
    by_name : (b : Bool) → ((b && not f.by_place) || list_any (λ f. same_name f.name x && not f.by_place) formals) ≡ true → (list_any (λ f. same_name f.name x && not f.by_place) formals ≡ true → is_some (found (map (λ f. (f.name, f.of)) formals) x) ≡ true)
        → is_some (cond b (Some f.of) (found (map (λ f. (f.name, f.of)) formals) x)) ≡ true
    by_name true h later = refl
    by_name false h later = later h

-- and of a function each parameter is one
pub formal_is_value : (formals : List Formal) → list_any (λ f. f.by_place) formals ≡ false → (x : Symbol) → is_some (found (map (λ f. (f.name, f.of)) formals) x) ≡ true → list_any (λ f. same_name f.name x && not f.by_place) formals ≡ true
formal_is_value [] none x h = absurd (false≢true h)
formal_is_value (f ∷ formals) none x h = by_name (same_name f.name x) (left_false f.by_place _ none) h (formal_is_value formals (right_false f.by_place _ none) x)
  where
    by_name : (b : Bool) → f.by_place ≡ false → is_some (cond b (Some f.of) (found (map (λ f. (f.name, f.of)) formals) x)) ≡ true → (is_some (found (map (λ f. (f.name, f.of)) formals) x) ≡ true → list_any (λ f. same_name f.name x && not f.by_place) formals ≡ true)
        → ((b && not f.by_place) || list_any (λ f. same_name f.name x && not f.by_place) formals) ≡ true
    by_name true kept h later = ap (λ b. not b || list_any (λ f. same_name f.name x && not f.by_place) formals) kept
    by_name false kept h later = later h

none_by_place : (formals : List Formal) (x : Symbol) → list_any (λ f. f.by_place) formals ≡ false → list_any (λ f. same_name f.name x && f.by_place) formals ≡ false
none_by_place [] x none = refl
none_by_place (f ∷ formals) x none = by_kind (same_name f.name x) f.by_place (left_false f.by_place _ none) (none_by_place formals x (right_false f.by_place _ none))
  where
    by_kind : (b place : Bool) → place ≡ false → list_any (λ f. same_name f.name x && f.by_place) formals ≡ false → ((b && place) || list_any (λ f. same_name f.name x && f.by_place) formals) ≡ false
    by_kind b true e later = absurd (false≢true (sym e))
    by_kind true false e later = later
    by_kind false false e later = later

none_in_var : (globals : List GlobalItem) (i : Item) → list_any (λ g. g.is_var) globals ≡ false → lists globals i true ≡ false
none_in_var [] i none = refl
none_in_var (g ∷ globals) i none = by_kind (same_item g.item i) g.is_var (left_false g.is_var _ none) (none_in_var globals i (right_false g.is_var _ none))
  where
    by_kind : (b var : Bool) → var ≡ false → lists globals i true ≡ false → ((b && (var || false)) || lists globals i true) ≡ false
    by_kind b true e later = absurd (false≢true (sym e))
    by_kind true false e later = later
    by_kind false false e later = later

-- a function has no INITIAL names
pub no_initial : (q : Routine) → changes_nothing q ≡ true → list_all (λ i. may_be_initial q i.1) q.initial ≡ true → q.initial ≡ []
no_initial q quiet all = by_list q.initial all
  where
    formals : list_any (λ f. f.by_place) q.formals ≡ false
    formals = not_true (list_any (λ f. f.by_place) q.formals) (left_true (not (list_any (λ f. f.by_place) q.formals)) _ quiet)

    globals : list_any (λ g. g.is_var) q.globals ≡ false
    globals = not_true (list_any (λ g. g.is_var) q.globals) (right_true (not (list_any (λ f. f.by_place) q.formals)) _ quiet)

    none : (i : Item) → may_be_initial q i ≡ false
    none (Variable x) = both_false (list_any (λ f. same_name f.name x && f.by_place) q.formals) (lists q.globals (Variable x) true) (none_by_place q.formals x formals) (none_in_var q.globals (Variable x) globals)
    none (Class t) = none_in_var q.globals (Class t) globals

    by_list : (names : List (Symbol × Item)) → list_all (λ i. may_be_initial q i.1) names ≡ true → names ≡ []
    by_list [] h = refl
    by_list (n ∷ names) h = absurd (false≢true (sym (none n.1) ∙ left_true (may_be_initial q n.1) _ h))
