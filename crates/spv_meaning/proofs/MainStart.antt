-- The main block has a start.
use Rattle.std.proofs.Common.{◌≡◌, Bool, true, false, cond, List, [], ◌∷◌, map, refl, sym, ap, ◌∙◌, Some, None}
use Rattle.std.specs.List.{list_all}
use Rattle.spv_logic.specs.declared.names.names.Symbol.{Symbol}
use Rattle.spv_logic.specs.declared.types.TypeId.{TypeId}
use Rattle.spv_logic.specs.Shapes.{shapes_ok}
use Rattle.spv_logic.specs.Fits.{default_of}
use Rattle.spv_logic.proofs.list.Tests.{left_true, right_true}
use Rattle.spv_logic.proofs.Defaults.{default_fits}
use Rattle.spv_program.specs.Lists.{same_name, found}
use Rattle.spv_program.specs.Types.{sort_of, form_ok, forms_ok}
use Rattle.spv_program.specs.Programs.{Program, shapes}
use Rattle.spv_program.specs.Typing.{well_typed, declarations_ok}
use Rattle.spv_program.proofs.SortFacts.{nothing_there, some_is}
use Rattle.spv_meaning.specs.FrameTypes.{in_main}
use Rattle.spv_meaning.specs.Starts.{IsStart, is_of_type}
use Rattle.spv_meaning.specs.Laws.{with_defaults}
use Rattle.spv_meaning.proofs.MainViews.{look-variable, shown-main}

pub default_found : (p : Program) (names : List (Symbol × TypeId)) (x : Symbol) (t : TypeId) → found names x ≡ Some t → found (map (λ n. (n.0, default_of (shapes p) (sort_of p.forms n.1))) names) x ≡ Some (default_of (shapes p) (sort_of p.forms t))
default_found p [] x t e = absurd (nothing_there e)
default_found p (n ∷ names) x t e = by_case (same_name n.0 x) e (default_found p names x t)
  where
    by_case : (b : Bool) → cond b (Some n.1) (found names x) ≡ Some t → (found names x ≡ Some t → found (map (λ n. (n.0, default_of (shapes p) (sort_of p.forms n.1))) names) x ≡ Some (default_of (shapes p) (sort_of p.forms t)))
        → cond b (Some (default_of (shapes p) (sort_of p.forms n.1))) (found (map (λ n. (n.0, default_of (shapes p) (sort_of p.forms n.1))) names) x) ≡ Some (default_of (shapes p) (sort_of p.forms t))
    by_case true e later = ap (λ u. Some (default_of (shapes p) (sort_of p.forms u))) (some_is e)
    by_case false e later = later e

pub types_ok : (p : Program) → well_typed p ≡ true → shapes_ok (shapes p) ≡ true
types_ok p typed = right_true (list_all (form_ok p.forms) p.forms) _ (left_true (forms_ok p.forms) _ (left_true (declarations_ok p) _ typed))

pub variables_right : (p : Program) → well_typed p ≡ true → (x : Symbol) (t : TypeId) → found p.variables x ≡ Some t → is_of_type p t (found (with_defaults p).variables x) ≡ true
variables_right p typed x t e = ap (is_of_type p t) (default_found p p.variables x t e) ∙ default_fits (shapes p) (types_ok p typed) (sort_of p.forms t)

-- the state in which each variable has its type's default
pub defaults_start : (p : Program) → well_typed p ≡ true → IsStart p None (with_defaults p)
defaults_start p typed =
    record {
      right = record { types = []; inside = in_main []; right = record { variables = variables_right p typed; frames = refl; heap = refl } };
      frame = refl;
      names = λ x t e. ap (is_of_type p t) (look-variable (with_defaults p) x) ∙ variables_right p typed x t (sym (shown-main p x) ∙ e);
      heap = refl;
      areas = refl;
    }
