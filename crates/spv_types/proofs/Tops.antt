-- What is seen from outside all routines.
use Rattle.std.proofs.Common.{◌≡◌, List, [], ◌++◌, None, Ok, IfOk, IfErr, Result, subst}
use Rattle.spv_logic.specs.declared.names.names.Symbol.{Symbol}
use Rattle.spv_tree.specs.syntax.Formulas.{Formula}
use Rattle.spv_program.specs.declared.typed.formulas.Annotation.{Annotation as AnnotationText}
use Rattle.spv_program.specs.typed.FormulaViews.{annotation_of}
use Rattle.spv_typing.specs.declared.faults.TypeFault.{TypeFault}
use Rattle.spv_typing.specs.FormulaWalk.{annotation}
use Rattle.spv_typing.specs.Known.{Known, Scope, at_top, named}
use Rattle.spv_environments.specs.declared.scopes.Own.{Own}
use Rattle.spv_environments.specs.Answers.{Stops}
use Rattle.spv_environments.specs.Scopes.{own_of, result_of}

abbrev pub scope_with : Known → List (Symbol × Own) → Scope
scope_with k own = record { known = k; own = named own_of own ++ (result_of None ++ named own_of own); routine = None }

module _ (k : Known) (own : List (Symbol × Own)) (none : own ≡ []) (f : Formula) (r : Result AnnotationText TypeFault) where
  pub read_at_top : IfOk r (λ a. annotation (scope_with k own) f ≡ Ok (annotation_of a)) → IfOk r (λ a. annotation (at_top k) f ≡ Ok (annotation_of a))
  read_at_top h = subst (λ (own : List (Symbol × Own)). IfOk r (λ a. annotation (scope_with k own) f ≡ Ok (annotation_of a))) none h

  pub stops_at_top : IfErr r (λ e. Stops e (annotation (scope_with k own) f)) → IfErr r (λ e. Stops e (annotation (at_top k) f))
  stops_at_top h = subst (λ (own : List (Symbol × Own)). IfErr r (λ e. Stops e (annotation (scope_with k own) f))) none h
