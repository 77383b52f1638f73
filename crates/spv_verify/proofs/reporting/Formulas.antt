-- The formulas of a program's conditions over an arena are of sort Bool.
use Rattle.std.proofs.Common.{◌≡◌, Bool, true, false, ◌||◌, List, [], ◌∷◌, ◌++◌, refl, sym, ap, subst}
use Rattle.std.proofs.lemmas.Bool.{false≢true}
use Rattle.spv_logic.specs.declared.types.Sort.TheVariants as sort
use Rattle.spv_logic.specs.declared.types.Shape.{Shape}
use Rattle.spv_logic.specs.declared.types.Decl.{Decl}
use Rattle.spv_logic.specs.Terms.{Term, term_eq}
use Rattle.spv_logic.specs.Conditions as logic
use Rattle.spv_logic.proofs.Equality.{term_eq-true}
use Rattle.spv_term.specs.declared.nodes.Condition.{Condition}
use Rattle.spv_term.specs.Arena.{Arena, sequent}
use Rattle.spv_atoms.specs.Atoms.{has_sort, is_truth}
use Rattle.spv_models.specs.leaf_models.Subterms.{is_among}
use Rattle.spv_models.specs.leaf_models.Tables.{formulas_of}
use Rattle.spv_models.specs.leaf_models.Laws.{AreFormulas}
use Rattle.spv_program.specs.Programs.{Program, shapes}
use Rattle.spv_program.specs.Typing.{well_typed}
use Rattle.spv_meaning.specs.ProgramConditions as program
use Rattle.spv_assign.specs.Conditions.{conditions_of}
use Rattle.spv_rule_soundness.specs.condition_sorts.Sorted.{IsTruth, AreTruths, AreSorted}
use Rattle.spv_conditions.specs.Sorted.{ConditionsAreSorted}
use Rattle.spv_term.specs.Arena.{Extends}
use Rattle.spv_conditions.specs.Making.{empty_arena}
use Rattle.spv_verify.specs.reporting.Parts.{AreFormulasIn}

formula_first : (p : Program) (g f : Term) (others : Bool) → IsTruth p g → (others ≡ true → is_truth (shapes p) p.symbols f ≡ true) → (b : Bool) → term_eq f g ≡ b → (b || others) ≡ true → is_truth (shapes p) p.symbols f ≡ true
formula_first p g f others is rest true same k = subst (λ (t : Term). is_truth (shapes p) p.symbols t ≡ true) (sym (term_eq-true f g same)) (ap (has_sort sort.Bool) is)
formula_first p g f others is rest false differ k = rest k

are_formulas : (p : Program) (fs : List Term) → AreTruths p fs → AreFormulas (shapes p) p.symbols fs
are_formulas p [] all f h = absurd (false≢true h)
are_formulas p (g ∷ fs) all f h = formula_first p g f (is_among fs f) all.0 (are_formulas p fs all.1 f) (term_eq f g) refl h

with_goal : (p : Program) (given : List Term) (goal : Term) → AreTruths p given → IsTruth p goal → AreTruths p (given ++ goal ∷ [])
with_goal p [] goal all is = (is, tt)
with_goal p (t ∷ given) goal all is = (all.0, with_goal p given goal all.1 is)

module _ (p : Program) (a : Arena) (same_shapes : a.shapes ≡ shapes p) (same_decls : a.decls ≡ p.symbols) where
  over : (fs : List Term) → AreFormulas (shapes p) p.symbols fs → AreFormulas a.shapes a.decls fs
  over fs is =
      subst (λ (d : List Decl). AreFormulas a.shapes d fs) (sym same_decls) (subst (λ (s : List Shape). AreFormulas s p.symbols fs) (sym same_shapes) is)

  formulas_in : (cs : List Condition) → AreSorted p (conditions_of a cs) → AreFormulasIn a cs
  formulas_in [] all = tt
  formulas_in (c ∷ cs) all = (
    over (formulas_of (sequent a c)) (are_formulas p (formulas_of (sequent a c)) (with_goal p (sequent a c).given (sequent a c).goal all.0.given all.0.goal)),
    formulas_in cs all.1,
  )

pub all_formulas : (p : Program) (a : Arena) (cs : List Condition) → ConditionsAreSorted → well_typed p ≡ true → Extends (empty_arena p) a → conditions_of a cs ≡ program.conditions_of p
    → AreFormulasIn a cs
all_formulas p a cs law typed grows same =
    formulas_in p a grows.shapes grows.decls cs (subst (λ (conditions : List logic.Condition). AreSorted p conditions) (sym same) (law p typed))
