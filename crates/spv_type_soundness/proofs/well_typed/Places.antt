-- Names and selectors of expressions keep their types.
use Rattle.std.proofs.Common.{◌≡◌, ℕ, true, cond, refl, ap, ◌∙◌}
use Rattle.std.specs.Prelude.{List, [], ◌∷◌, ◌++◌, Option, Some, None}
use Rattle.std.specs.Option.{option_and_then}
use Rattle.std.specs.Cmp.Derive.{both_true}
use Rattle.std.proofs.lemmas.Bool.{eq-eqb}
use Rattle.spv_logic.specs.declared.names.names.Symbol.{Symbol}
use Rattle.spv_logic.specs.declared.types.TypeId.{TypeId}
use Rattle.spv_logic.specs.declared.types.Sort.TheVariants as sort
use Rattle.spv_program.specs.Types.{same_type, form_at, element_of, field_of, target_of}
use Rattle.spv_program.specs.Expressions.{Expression}
use Rattle.spv_program.specs.ExpressionTypes.{selected_type}
use Rattle.spv_program.specs.FormulaTypes.{is_sort}
use Rattle.spv_program.specs.Programs.{Routine, Program}
use Rattle.spv_typing.specs.ExpressionWalk.{Link, ByIndex, ByField, ByCell, chained}
use Rattle.spv_type_soundness.proofs.well_typed.ExpressionParts.{Typed}

pub same_type-refl : (t : TypeId) → same_type t t ≡ true
same_type-refl t = eq-eqb t.0 t.0 refl

module _ (p : Program) (here : Option Routine) where
  -- a selector from a type to another one
  pub data Leads : Link → TypeId → TypeId → Type 0 where
    by_index : (t u : TypeId) (e : Expression) → Typed p here e sort.Int → element_of (form_at p.forms t.0) ≡ Some u
        → Leads (ByIndex t e) t u
    by_field : (t u : TypeId) (f : Symbol) → field_of (form_at p.forms t.0) f ≡ Some u → Leads (ByField t f) t u
    by_cell : (line : ℕ) (t u : TypeId) → target_of (form_at p.forms t.0) ≡ Some u → Leads (ByCell line u) t u

  -- what follows a selector is selected from the type that it leads to
  pub step_on : (l : Link) (t u : TypeId) (links : List Link) → Leads l t u
      → selected_type p here t (chained (l ∷ links)) ≡ selected_type p here u (chained links)
  step_on (ByIndex a e) t u links (by_index b v x h k) =
      ap (λ c. cond c (option_and_then (λ w. selected_type p here w (chained links)) (element_of (form_at p.forms t.0))) None)
      (both_true (same_type-refl t) (ap (is_sort sort.Int) h.is))
      ∙ ap (λ o. option_and_then (λ w. selected_type p here w (chained links)) o) k
  step_on (ByField a f) t u links (by_field b v g k) =
      ap (λ c. cond c (option_and_then (λ w. selected_type p here w (chained links)) (field_of (form_at p.forms t.0) f)) None)
      (same_type-refl t)
      ∙ ap (λ o. option_and_then (λ w. selected_type p here w (chained links)) o) k
  step_on (ByCell line c) t u links (by_cell at b v k) =
      ap (λ o. option_and_then (λ w. cond (same_type c w) (selected_type p here w (chained links)) None) o) k
      ∙ ap (λ b. cond b (selected_type p here u (chained links)) None) (same_type-refl u)

  -- selectors one after the other
  pub data Way : TypeId → List Link → TypeId → Type 0 where
    at_once : (t : TypeId) → Way t [] t
    and_on : (l : Link) (t u v : TypeId) (links : List Link) → Leads l t u → Way u links v → Way t (l ∷ links) v

  pub way_selects : (t : TypeId) (links : List Link) (v : TypeId) → Way t links v → selected_type p here t (chained links) ≡ Some v
  way_selects t [] v (at_once u) = refl
  way_selects t (l ∷ links) v (and_on k a u w ls h way) = step_on l t u links h ∙ way_selects u links v way

  pub way_further : (t : TypeId) (links : List Link) (u v : TypeId) (l : Link) → Way t links u → Leads l u v → Way t (links ++ l ∷ []) v
  way_further t [] u v l (at_once a) h = and_on l t v v [] h (at_once v)
  way_further t (k ∷ links) u v l (and_on m a b c ls h way) g = and_on k t b v (links ++ l ∷ []) h (way_further b links u v l way g)
