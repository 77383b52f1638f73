-- Local declarations of a heading.
use Rattle.std.proofs.Common.{◌≡◌, ℤ, Bool, true, false, ◌&&◌, ◌||◌, not, List, [], None, Ok, refl, sym, ap, subst, ◌∙◌}
use Rattle.spv_logic.specs.declared.names.names.Symbol.{Symbol}
use Rattle.spv_tree.specs.declared.syntax.declarations.Const.{Const}
use Rattle.spv_tree.specs.declared.syntax.declarations.Vars.{Vars}
use Rattle.spv_tree.specs.declared.syntax.routines.Locals.{Locals}
use Rattle.spv_program.specs.Lists.{same_name}
use Rattle.spv_typing.specs.declared.faults.TypeFault.{TypeFault}
use Rattle.spv_typing.specs.Known.{KnownNames, is_fixed, Names, is_named, named, Known}
use Rattle.spv_typing.specs.Outcomes.{Outcome, after, where_so, each, twice}
use Rattle.spv_typing.specs.TypeWalk.{all_names, constant}
use Rattle.spv_logic.specs.declared.types.TypeId.{TypeId}
use Rattle.spv_typing.specs.DeclarationWalk.{NewType, with_program, with_types, new_name, type_walk}
use Rattle.spv_typing.specs.RoutineWalk.{is_free_in, is_listed, in_routine, Headed, local_const, local_vars, locals_walk}
use Rattle.spv_typing.specs.RoutineWalk as spec
use Rattle.spv_environments.specs.Answers.{Stops}
use Rattle.spv_environments.specs.declared.scopes.Own.{Own}
use Rattle.spv_environments.specs.Scopes.{own_of}
use Rattle.spv_routine_typing.specs.declared.local_typing.places.Local.{Local}
use Rattle.spv_routine_typing.specs.local_typing.Locals.{free_among, local_of, with_constant, with_variables, const_by, vars_by, locals_by, IsHeaded}

regrouped : (a b c d : Bool) → (not a && (not b && (not c && not d))) ≡ (not (a || b) && not (c || d))
regrouped true b c d = refl
regrouped false true c d = refl
regrouped false false true d = refl
regrouped false false false d = refl

module _ (h : Headed) (name : Symbol) (own : List (Symbol × Own)) (listed : List (Symbol × Bool)) (is : IsHeaded h name own listed) where
  free_at : (start : KnownNames) (names : Names) (x : Symbol) → is_free_in start h.specified.heading.name h.specified.heading.globals names x ≡ free_among start name listed names x
  free_at start names x =
      regrouped (is_fixed start x) (same_name h.specified.heading.name x) (is_named names x) (is_listed h.specified.heading.globals x)
      ∙ (ap (λ (n : Symbol). not (is_fixed start x || same_name n x) && not (is_named names x || is_listed h.specified.heading.globals x)) is.name_is
      ∙ ap (λ b. not (is_fixed start x || same_name name x) && not (is_named names x || b)) (sym (is.listed_is x)))

  const_at : (l : spec.Local) (c : Const) → local_const h.specified.heading l c ≡ const_by name listed l c
  const_at l c =
      ap (λ b. where_so b (twice c.name) (after (constant (in_routine l.known l.own None) c.value) (λ z. Ok (with_constant l c.name.symbol z))))
      (free_at l.known.start l.own c.name.symbol)

  vars_at : (l : spec.Local) (v : Vars) → local_vars h.specified.heading l v ≡ vars_by name listed l v
  vars_at l v =
      ap (λ (free : Symbol → Bool). after (each (new_name free) [] (all_names v.names)) (λ names.
      after (type_walk (in_routine l.known l.own None) v.of) (λ t.
      Ok (with_variables (record { known = with_program l.known (with_types l.known.program t.forms l.known.program.types); own = l.own; variables = l.variables }) names t.type))))
      (λ i x. free_at l.known.start l.own x i)

  locals_same : (k : Known) (tree : Locals) → locals_walk k h tree ≡ locals_by name listed k own tree
  locals_same k tree =
      ap (λ (step : spec.Local → Const → Outcome spec.Local). after (each step (record { known = k; own = h.own; variables = [] }) tree.constants) (λ a. each (local_vars h.specified.heading) a tree.variables))
      (λ i l c. const_at l c i)
      ∙ (ap (λ (step : spec.Local → Vars → Outcome spec.Local). after (each (const_by name listed) (record { known = k; own = h.own; variables = [] }) tree.constants) (λ a. each step a tree.variables))
      (λ i l v. vars_at l v i)
      ∙ ap (λ (n : Names). after (each (const_by name listed) (record { known = k; own = n; variables = [] }) tree.constants) (λ a. each (vars_by name listed) a tree.variables)) is.own_is)

  pub locals_are : (k : Known) (tree : Locals) (l : spec.Local) → locals_by name listed k own tree ≡ Ok l → locals_walk k h tree ≡ Ok l
  locals_are k tree l e = locals_same k tree ∙ e

  pub locals_stop : (k : Known) (tree : Locals) (e : TypeFault) → Stops e (locals_by name listed k own tree) → Stops e (locals_walk k h tree)
  locals_stop k tree e s = subst (Stops e) (sym (locals_same k tree)) s

-- ---- one declaration

pub const_done : (k : Known) (l m : Local) (routine : Symbol) (listed : List (Symbol × Bool)) (c : Const) (z : ℤ) → free_among k.start routine listed (named own_of l.own) c.name.symbol ≡ true
    → constant (in_routine k (named own_of l.own) None) c.value ≡ Ok z → local_of k m ≡ with_constant (local_of k l) c.name.symbol z → const_by routine listed (local_of k l) c ≡ Ok (local_of k m)
const_done k l m routine listed c z free value put =
    ap (λ b. where_so b (twice c.name) (after (constant (in_routine k (named own_of l.own) None) c.value) (λ z. Ok (with_constant (local_of k l) c.name.symbol z)))) free
    ∙ (ap (λ (o : Outcome ℤ). after o (λ z. Ok (with_constant (local_of k l) c.name.symbol z))) value ∙ ap Ok (sym put))

pub vars_done : (k next : Known) (l m : Local) (routine : Symbol) (listed : List (Symbol × Bool)) (v : Vars) (names : List Symbol) (t : NewType) (type : TypeId)
    → each (new_name (free_among k.start routine listed (named own_of l.own))) [] (all_names v.names) ≡ Ok names → type_walk (in_routine k (named own_of l.own) None) v.of ≡ Ok t
    → next ≡ with_program k (with_types k.program t.forms k.program.types) → type ≡ t.type → local_of next m ≡ with_variables (local_of next l) names type
    → vars_by routine listed (local_of k l) v ≡ Ok (local_of next m)
vars_done k next l m routine listed v names t type read typed is same put =
    ap (λ (o : Outcome (List Symbol)). after o (λ names. after (type_walk (in_routine k (named own_of l.own) None) v.of) (λ t.
    Ok (with_variables (local_of (with_program k (with_types k.program t.forms k.program.types)) l) names t.type)))) read
    ∙ (ap (λ (o : Outcome NewType). after o (λ t. Ok (with_variables (local_of (with_program k (with_types k.program t.forms k.program.types)) l) names t.type))) typed
    ∙ ap Ok (ap (λ (n : Known). with_variables (local_of n l) names t.type) (sym is) ∙ (ap (with_variables (local_of next l) names) (sym same) ∙ sym put)))
