-- Which variables a statement changes, told by the walk and by typing.
use Rattle.std.proofs.Common.{◌≡◌, ℕ, Bool, true, false, cond, ◌&&◌, ◌||◌, not, List, [], ◌∷◌, ◌++◌, map, filter, Option, Some, None, refl, sym, ap, ◌∙◌, subst}
use Rattle.std.specs.List.{list_any, flat_map}
use Rattle.std.proofs.lemmas.Bool.{false≢true, eqb-true}
use Rattle.std.proofs.lemmas.List.Folds.{list_any-append}
use Rattle.std.proofs.lemmas.Grind.{flat_map-append}
use Rattle.spv_logic.specs.declared.names.names.Symbol.{Symbol}
use Rattle.spv_logic.proofs.list.Tests.{left_false, right_false, both_false}
use Rattle.spv_logic.specs.declared.types.TypeId.{TypeId}
use Rattle.spv_program.specs.declared.types.Item.TheVariants.{Variable, Class}
use Rattle.spv_program.specs.Lists.{same_name}
use Rattle.spv_program.specs.Expressions.{Expression, Designator, Selectors, Call, Arguments, Numeral, Boolean, NilOf, Read, Result, Through, Negative, Calculated, Compared, Negated, Joined, designator, no_selectors, at_index, at_field, at_cell, call, no_arguments, by_value, by_place}
use Rattle.spv_program.specs.Formulas as formula
use Rattle.spv_program.specs.Formulas.{Formula, Formulas, Annotation, no_formulas, formulas}
use Rattle.spv_program.specs.Statements.{Statement}
use Rattle.spv_program.specs.Uses.{Root, Own, Shared, Use, same_root, name_root, has_cell, reading, expression_uses, designator_uses, selector_uses, call_uses, argument_uses, formula_uses, formulas_uses, annotation_uses, statement_uses, statement_calls}
use Rattle.spv_program.specs.Changes.{changed_by_call, changed_roots}
use Rattle.spv_program.specs.Programs.{Routine, Program}
use Rattle.spv_program.specs.Scopes.{is_own}
use Rattle.spv_program.proofs.SortFacts.{nothing_there}
use Rattle.spv_typing.specs.StatementWalk.{counted_as, first_counted}

pub same_names : (x y : Symbol) → same_name x y ≡ true → x ≡ y
same_names x y h = let e = eqb-true x.0 y.0 h in λ i. record { 0 = e i }

-- ---- roots that are changed

abbrev pub of_use : Use → Root
of_use u = u.root

abbrev pub is_change : Use → Bool
is_change u = u.changes

-- whether a root that passes a test is changed
abbrev pub touched : (Root → Bool) → List Use → Bool
touched test us = list_any test (map of_use (filter is_change us))

touched_is : (test : Root → Bool) (us : List Use) → touched test us ≡ list_any (λ u. is_change u && test (of_use u)) us
touched_is test [] = refl
touched_is test (u ∷ us) = by_case (is_change u) (touched_is test us)
  where
    by_case : (b : Bool) → touched test us ≡ list_any (λ u. is_change u && test (of_use u)) us
        → list_any test (map of_use (cond b (u ∷ filter is_change us) (filter is_change us)))
        ≡ ((b && test (of_use u)) || list_any (λ u. is_change u && test (of_use u)) us)
    by_case true e = ap (λ b. test (of_use u) || b) e
    by_case false e = e

pub touched_append : (test : Root → Bool) (xs ys : List Use) → touched test (xs ++ ys) ≡ (touched test xs || touched test ys)
touched_append test xs ys =
    touched_is test (xs ++ ys)
    ∙ (list_any-append (λ u. is_change u && test (of_use u)) xs ys
    ∙ (ap (λ b. b || list_any (λ u. is_change u && test (of_use u)) ys) (sym (touched_is test xs))
    ∙ ap (λ b. touched test xs || b) (sym (touched_is test ys))))

-- ---- uses that are alike for a name, where two ways tell which names are own ones

module _ (one two : Symbol → Bool) (v : Symbol) (agree : one v ≡ two v) where
  abbrev root_of : Bool → Symbol → Root
  root_of own x = cond own (Own x) (Shared (Variable x))

  pub data Alike : List Use → List Use → Type 0 where
    none_alike : Alike [] []
    more_alike : (u w : Use) (us ws : List Use) → u.changes ≡ w.changes
        → same_root (name_root one v) u.root ≡ same_root (name_root two v) w.root → Alike us ws → Alike (u ∷ us) (w ∷ ws)

  pub alike_append : (us ws xs ys : List Use) → Alike us ws → Alike xs ys → Alike (us ++ xs) (ws ++ ys)
  alike_append us ws xs ys none_alike h = h
  alike_append us ws xs ys (more_alike u w rest others c r g) h =
      more_alike u w (rest ++ xs) (others ++ ys) c r (alike_append rest others xs ys g h)

  apart : (a b : Bool) (x : Symbol) → same_name v x ≡ false → same_root (root_of a v) (root_of b x) ≡ false
  apart true true x e = e
  apart true false x e = refl
  apart false true x e = refl
  apart false false x e = e

  pub root_alike : (x : Symbol) → same_root (name_root one v) (name_root one x) ≡ same_root (name_root two v) (name_root two x)
  root_alike x = by_name (same_name v x) refl
    where
      by_name : (b : Bool) → same_name v x ≡ b
          → same_root (name_root one v) (name_root one x) ≡ same_root (name_root two v) (name_root two x)
      by_name true e =
          subst (λ y. same_root (name_root one v) (name_root one y) ≡ same_root (name_root two v) (name_root two y)) (same_names v x e)
          (ap (λ b. same_root (root_of b v) (root_of b v)) agree)
      by_name false e = apart (one v) (one x) x e ∙ sym (apart (two v) (two x) x e)

  pub class_alike : (t : TypeId) → same_root (name_root one v) (Shared (Class t)) ≡ same_root (name_root two v) (Shared (Class t))
  class_alike t = ap (λ b. same_root (root_of b v) (Shared (Class t))) agree

  abbrev cell : ℕ → TypeId → Bool → Use
  cell line t changes = record { root = Shared (Class t); changes = changes; line = line }

  abbrev not_cell : Selectors → Bool
  not_cell others = not (has_cell others)

  mutual
    pub expression_alike : (e : Expression) → Alike (expression_uses one e) (expression_uses two e)
    expression_alike (Numeral z) = none_alike
    expression_alike (Boolean b) = none_alike
    expression_alike (NilOf t) = none_alike
    expression_alike (Read d) = designator_alike false d
    expression_alike (Result c) = call_alike c
    expression_alike (Through c line t others) =
        alike_append (call_uses one c) (call_uses two c) (cell line t false ∷ selector_uses one false others)
        (cell line t false ∷ selector_uses two false others) (call_alike c)
        (more_alike (cell line t false) (cell line t false) (selector_uses one false others) (selector_uses two false others) refl
        (class_alike t) (selectors_alike false others))
    expression_alike (Negative e) = expression_alike e
    expression_alike (Calculated o a b) =
        alike_append (expression_uses one a) (expression_uses two a) (expression_uses one b) (expression_uses two b) (expression_alike a)
        (expression_alike b)
    expression_alike (Compared o a b) =
        alike_append (expression_uses one a) (expression_uses two a) (expression_uses one b) (expression_uses two b) (expression_alike a)
        (expression_alike b)
    expression_alike (Negated e) = expression_alike e
    expression_alike (Joined o a b) =
        alike_append (expression_uses one a) (expression_uses two a) (expression_uses one b) (expression_uses two b) (expression_alike a)
        (expression_alike b)

    pub designator_alike : (writes : Bool) (d : Designator) → Alike (designator_uses one writes d) (designator_uses two writes d)
    designator_alike writes (designator line x others) =
        more_alike (record { root = name_root one x; changes = writes && not_cell others; line = line })
        (record { root = name_root two x; changes = writes && not_cell others; line = line })
        (selector_uses one writes others) (selector_uses two writes others) refl (root_alike x) (selectors_alike writes others)

    pub selectors_alike : (writes : Bool) (others : Selectors) → Alike (selector_uses one writes others) (selector_uses two writes others)
    selectors_alike writes no_selectors = none_alike
    selectors_alike writes (at_index t e others) =
        alike_append (expression_uses one e) (expression_uses two e) (selector_uses one writes others) (selector_uses two writes others)
        (expression_alike e) (selectors_alike writes others)
    selectors_alike writes (at_field t f others) = selectors_alike writes others
    selectors_alike writes (at_cell line t others) =
        more_alike (cell line t (writes && not_cell others)) (cell line t (writes && not_cell others)) (selector_uses one writes others)
        (selector_uses two writes others) refl (class_alike t) (selectors_alike writes others)

    pub call_alike : (c : Call) → Alike (call_uses one c) (call_uses two c)
    call_alike (call r line given) = arguments_alike given

    pub arguments_alike : (given : Arguments) → Alike (argument_uses one given) (argument_uses two given)
    arguments_alike no_arguments = none_alike
    arguments_alike (by_value e others) =
        alike_append (expression_uses one e) (expression_uses two e) (argument_uses one others) (argument_uses two others)
        (expression_alike e) (arguments_alike others)
    arguments_alike (by_place d others) =
        alike_append (designator_uses one true d) (designator_uses two true d) (argument_uses one others) (argument_uses two others)
        (designator_alike true d) (arguments_alike others)

  pub alike_touched : (us ws : List Use) → Alike us ws → touched (same_root (name_root one v)) us ≡ touched (same_root (name_root two v)) ws
  alike_touched us ws h = touched_is (same_root (name_root one v)) us ∙ (plain us ws h ∙ sym (touched_is (same_root (name_root two v)) ws))
    where
      plain : (us ws : List Use) → Alike us ws
          → list_any (λ u. is_change u && same_root (name_root one v) (of_use u)) us
          ≡ list_any (λ u. is_change u && same_root (name_root two v) (of_use u)) ws
      plain us ws none_alike = refl
      plain us ws (more_alike u w rest others c r g) =
          ap (λ b. (b && same_root (name_root one v) u.root)
          || list_any (λ k. is_change k && same_root (name_root one v) (of_use k)) rest) c
          ∙ (ap (λ b. (w.changes && b) || list_any (λ k. is_change k && same_root (name_root one v) (of_use k)) rest) r
          ∙ ap (λ b. (w.changes && same_root (name_root two v) w.root) || b) (plain rest others g))

-- ---- annotations change nothing

pub data Silent : List Use → Type 0 where
  silent_none : Silent []
  silent_more : (u : Use) (us : List Use) → u.changes ≡ false → Silent us → Silent (u ∷ us)

silent_append : (us ws : List Use) → Silent us → Silent ws → Silent (us ++ ws)
silent_append us ws silent_none h = h
silent_append us ws (silent_more u rest e g) h = silent_more u (rest ++ ws) e (silent_append rest ws g h)

pub silent_touched : (test : Root → Bool) (us : List Use) → Silent us → touched test us ≡ false
silent_touched test us silent_none = refl
silent_touched test us (silent_more u rest e g) =
    ap (λ b. list_any test (map of_use (cond b (u ∷ filter is_change rest) (filter is_change rest)))) e ∙ silent_touched test rest g

module _ (own : Symbol → Bool) where
  read_once : (root : Root) (line : ℕ) → Silent (reading root line ∷ [])
  read_once root line = silent_more (reading root line) [] refl silent_none

  mutual
    pub formula_silent : (f : Formula) → Silent (formula_uses own f)
    formula_silent (formula.Numeral z) = silent_none
    formula_silent (formula.Boolean b) = silent_none
    formula_silent (formula.NilOf t) = silent_none
    formula_silent (formula.Named line x) = read_once (name_root own x) line
    formula_silent (formula.ClassOf line t) = read_once (Shared (Class t)) line
    formula_silent (formula.Element a i) = silent_append (formula_uses own a) (formula_uses own i) (formula_silent a) (formula_silent i)
    formula_silent (formula.FieldOf r f) = formula_silent r
    formula_silent (formula.Content line t q) =
        silent_append (formula_uses own q) (reading (Shared (Class t)) line ∷ []) (formula_silent q) (read_once (Shared (Class t)) line)
    formula_silent (formula.Applied f fs) = formulas_silent fs
    formula_silent (formula.Known b fs) = formulas_silent fs
    formula_silent (formula.Negative f) = formula_silent f
    formula_silent (formula.Calculated o f g) =
        silent_append (formula_uses own f) (formula_uses own g) (formula_silent f) (formula_silent g)
    formula_silent (formula.Compared o f g) = silent_append (formula_uses own f) (formula_uses own g) (formula_silent f) (formula_silent g)
    formula_silent (formula.Negated f) = formula_silent f
    formula_silent (formula.Joined o f g) = silent_append (formula_uses own f) (formula_uses own g) (formula_silent f) (formula_silent g)
    formula_silent (formula.Implied f g) = silent_append (formula_uses own f) (formula_uses own g) (formula_silent f) (formula_silent g)

    formulas_silent : (fs : Formulas) → Silent (formulas_uses own fs)
    formulas_silent no_formulas = silent_none
    formulas_silent (formulas f fs) = silent_append (formula_uses own f) (formulas_uses own fs) (formula_silent f) (formulas_silent fs)

  pub annotation_silent : (a : Option Annotation) → Silent (annotation_uses own a)
  annotation_silent None = silent_none
  annotation_silent (Some a) = formula_silent a.formula

-- ---- uses and calls that leave what passes a test alone

pub record Leaves (p : Program) (test : Root → Bool) (us : List Use) (cs : List Call) : Type 0 where
  pub uses : touched test us ≡ false
  pub calls : list_any test (flat_map (changed_by_call p) cs) ≡ false

module _ (p : Program) (test : Root → Bool) where
  pub leaves_none : Leaves p test [] []
  leaves_none = record { uses = refl; calls = refl }

  calls_append : (cs ds : List Call)
      → list_any test (flat_map (changed_by_call p) (cs ++ ds))
      ≡ (list_any test (flat_map (changed_by_call p) cs) || list_any test (flat_map (changed_by_call p) ds))
  calls_append cs ds =
      ap (list_any test) (flat_map-append (changed_by_call p) cs ds)
      ∙ list_any-append test (flat_map (changed_by_call p) cs) (flat_map (changed_by_call p) ds)

  pub leaves_append : (us ws : List Use) (cs ds : List Call) → Leaves p test us cs → Leaves p test ws ds
      → Leaves p test (us ++ ws) (cs ++ ds)
  leaves_append us ws cs ds g h = record {
    uses = touched_append test us ws ∙ both_false (touched test us) (touched test ws) g.uses h.uses;
    calls = calls_append cs ds ∙ both_false (list_any test (flat_map (changed_by_call p) cs))
        (list_any test (flat_map (changed_by_call p) ds)) g.calls h.calls;
  }

  pub leaves_first : (us ws : List Use) (cs ds : List Call) → Leaves p test (us ++ ws) (cs ++ ds) → Leaves p test us cs
  leaves_first us ws cs ds h = record {
    uses = left_false (touched test us) (touched test ws) (sym (touched_append test us ws) ∙ h.uses);
    calls = left_false (list_any test (flat_map (changed_by_call p) cs)) (list_any test (flat_map (changed_by_call p) ds))
        (sym (calls_append cs ds) ∙ h.calls);
  }

  pub leaves_rest : (us ws : List Use) (cs ds : List Call) → Leaves p test (us ++ ws) (cs ++ ds) → Leaves p test ws ds
  leaves_rest us ws cs ds h = record {
    uses = right_false (touched test us) (touched test ws) (sym (touched_append test us ws) ∙ h.uses);
    calls = right_false (list_any test (flat_map (changed_by_call p) cs)) (list_any test (flat_map (changed_by_call p) ds))
        (sym (calls_append cs ds) ∙ h.calls);
  }

  -- one that is changed and does not pass the test
  pub leaves_use : (u : Use) (us : List Use) (cs : List Call) → test u.root ≡ false → Leaves p test us cs → Leaves p test (u ∷ us) cs
  leaves_use u us cs e h = record {
    uses = touched_append test (u ∷ []) us ∙ both_false (touched test (u ∷ [])) (touched test us) (alone u.changes) h.uses;
    calls =
        h.calls;
  }
    where
      alone : (b : Bool) → list_any test (map of_use (cond b (u ∷ []) [])) ≡ false
      alone true = both_false (test u.root) false e refl
      alone false = refl

  -- behind one that is changed
  pub leaves_behind : (u : Use) (us : List Use) (cs : List Call) → Leaves p test (u ∷ us) cs → Leaves p test us cs
  leaves_behind u us cs h = record
      { uses = right_false (touched test (u ∷ [])) (touched test us) (sym (touched_append test (u ∷ []) us) ∙ h.uses); calls = h.calls }

  pub leaves_silent : (us : List Use) → Silent us → Leaves p test us []
  leaves_silent us h = record { uses = silent_touched test us h; calls = refl }

-- what a statement leaves alone is not among what it changes
pub not_changed : (p : Program) (here : Option Routine) (test : Root → Bool) (s : Statement)
    → Leaves p test (statement_uses (is_own here) s) (statement_calls s) → list_any test (changed_roots p here s) ≡ false
not_changed p here test s h =
    list_any-append test (map of_use (filter is_change (statement_uses (is_own here) s))) (flat_map (changed_by_call p) (statement_calls s))
    ∙ both_false (touched test (statement_uses (is_own here) s)) (list_any test (flat_map (changed_by_call p) (statement_calls s))) h.uses
    h.calls

-- ---- variables that count

counted_none : (own : Symbol → Bool) (counted : List Symbol) (r : Root) (v : Symbol) → counted_as own counted r ≡ None
    → list_any (same_name v) counted ≡ true → same_root (name_root own v) r ≡ false
counted_none own [] r v e k = absurd (false≢true k)
counted_none own (w ∷ counted) r v e k = by_root (same_root (name_root own w) r) refl e (λ f. counted_none own counted r v f)
  where
    by_root : (b : Bool) → same_root (name_root own w) r ≡ b → cond b (Some w) (counted_as own counted r) ≡ None
        → (counted_as own counted r ≡ None → list_any (same_name v) counted ≡ true → same_root (name_root own v) r ≡ false)
        → same_root (name_root own v) r ≡ false
    by_root true same f later = absurd (nothing_there (sym f))
    by_root false same f later = by_name (same_name v w) refl k
      where
        by_name : (b : Bool) → same_name v w ≡ b → (b || list_any (same_name v) counted) ≡ true → same_root (name_root own v) r ≡ false
        by_name true is h = subst (λ x. same_root (name_root own x) r ≡ false) (sym (same_names v w is)) same
        by_name false is h = later f h

pub none_of_counted : (own : Symbol → Bool) (counted : List Symbol) (r : Root) → counted_as own counted r ≡ None → (v : Symbol)
    → list_any (same_name v) counted ≡ true → same_root (name_root own v) r ≡ false
none_of_counted own counted r e v k = counted_none own counted r v e k

pub none_counted : (own : Symbol → Bool) (counted : List Symbol) (roots : List Root) → first_counted own counted roots ≡ None
    → (v : Symbol) → list_any (same_name v) counted ≡ true → list_any (same_root (name_root own v)) roots ≡ false
none_counted own counted [] e v k = refl
none_counted own counted (r ∷ roots) e v k = by_root (counted_as own counted r) refl (λ f. none_counted own counted roots f v k)
  where
    by_root : (o : Option Symbol) → counted_as own counted r ≡ o
        → (first_counted own counted roots ≡ None → list_any (same_root (name_root own v)) roots ≡ false)
        → (same_root (name_root own v) r || list_any (same_root (name_root own v)) roots) ≡ false
    by_root None f later =
        let rest : first_counted own counted (r ∷ roots) ≡ first_counted own counted roots = rw (f) refl in
        both_false (same_root (name_root own v) r) (list_any (same_root (name_root own v)) roots) (counted_none own counted r v f k)
        (later (sym rest ∙ e))
    by_root (Some w) f later =
        let first : first_counted own counted (r ∷ roots) ≡ Some w = rw (f) refl in absurd (nothing_there (sym e ∙ first))
