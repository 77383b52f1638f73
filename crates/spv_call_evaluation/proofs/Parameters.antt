-- What stands for the parameters of a routine at a call.
use Rattle.std.proofs.Common.{◌≡◌, Bool, true, false, cond, not, ◌&&◌, ◌||◌, List, [], ◌∷◌, ◌++◌, map, refl, sym, ap, subst, ◌∙◌, Option, Some, None}
use Rattle.std.specs.List.{list_any}
use Rattle.std.proofs.lemmas.Bool.{false≢true}
use Rattle.spv_logic.proofs.list.Tests.{left_false, right_false, both_false}
use Rattle.spv_logic.specs.declared.names.names.Symbol.{Symbol}
use Rattle.spv_logic.specs.declared.types.TypeId.{TypeId}
use Rattle.spv_logic.specs.declared.types.Sort.{Sort}
use Rattle.spv_logic.specs.declared.operators.Head.{Head}
use Rattle.spv_logic.specs.declared.operators.Head.TheVariants as head
use Rattle.spv_logic.specs.Values.{Value}
use Rattle.spv_logic.specs.Terms.{Term, sort_eq, head_eq, eval}
use Rattle.spv_logic.specs.Conditions.{Meaning, Valuation, View}
use Rattle.spv_logic.proofs.Equality.{head_eq-refl}
use Rattle.spv_program.specs.Lists.{same_name, found, all_differ}
use Rattle.spv_program.specs.Types.{sort_of}
use Rattle.spv_program.specs.Programs.{Formal, Program}
use Rattle.spv_program.specs.Places.{present}
use Rattle.spv_program.specs.Calls.{Argument, Given, AtPlace, replacing, present_argument, formal_head, at_call, starts_at_call}
use Rattle.spv_program.proofs.SortFacts.{nothing_there, some_is}
use Rattle.spv_meaning.specs.Places.{Binding, State, Holding, Referring, look}
use Rattle.spv_meaning.specs.Levels.{Here}
use Rattle.spv_meaning.proofs.Differing.{first_differs, others_differ}
use Rattle.spv_meaning.proofs.Maps.{same_names, other_way}
use Rattle.spv_call_evaluation.specs.Known.{Knows}
use Rattle.spv_call_evaluation.specs.Lying.{AreBound, NoneBound, ValueBound, PlaceBound}

-- ---- lists of pairs

pub replacing-there : (xs ys : List (Head × Term)) (h : Head) (t : Term) → replacing xs h ≡ Some t → replacing (xs ++ ys) h ≡ Some t
replacing-there [] ys h t e = absurd (nothing_there e)
replacing-there (x ∷ xs) ys h t e = by_head (head_eq h x.0) e (replacing-there xs ys h t)
  where
    by_head : (b : Bool) → cond b (Some x.1) (replacing xs h) ≡ Some t → (replacing xs h ≡ Some t → replacing (xs ++ ys) h ≡ Some t) → cond b (Some x.1) (replacing (xs ++ ys) h) ≡ Some t
    by_head true e later = e
    by_head false e later = later e

pub replacing-none : (xs ys : List (Head × Term)) (h : Head) → replacing xs h ≡ None → replacing (xs ++ ys) h ≡ replacing ys h
replacing-none [] ys h e = refl
replacing-none (x ∷ xs) ys h e = by_head (head_eq h x.0) e (replacing-none xs ys h)
  where
    by_head : (b : Bool) → cond b (Some x.1) (replacing xs h) ≡ None → (replacing xs h ≡ None → replacing (xs ++ ys) h ≡ replacing ys h) → cond b (Some x.1) (replacing (xs ++ ys) h) ≡ replacing ys h
    by_head true e later = absurd (nothing_there (sym e))
    by_head false e later = later e

-- what a name of a frame shows: a value, or what is at the place that it refers to
abbrev pub bound_value : State → Binding → Option Value
bound_value state (Holding v) = Some v
bound_value state (Referring a) = look state a

module _ (p : Program) where
  -- at a call only parameters are replaced
  pub no_parameter : (formals : List Formal) (terms : List Argument) (h : Head) → ((f : Formal) → head_eq h (formal_head p f) ≡ false) → replacing (at_call p formals terms) h ≡ None
  no_parameter [] terms h other = refl
  no_parameter (f ∷ formals) [] h other = refl
  no_parameter (f ∷ formals) (a ∷ terms) h other = ap (λ b. cond b (Some (present_argument a)) (replacing (at_call p formals terms) h)) (other f) ∙ no_parameter formals terms h other

  pub no_such_parameter : (formals : List Formal) (terms : List Argument) (x : Symbol) (s : Sort) → found (map (λ f. (f.name, f.of)) formals) x ≡ None → replacing (at_call p formals terms) (head.Var x s 0) ≡ None
  no_such_parameter [] terms x s e = refl
  no_such_parameter (f ∷ formals) [] x s e = refl
  no_such_parameter (f ∷ formals) (a ∷ terms) x s e = by_name (same_name f.name x) refl e (no_such_parameter formals terms x s)
    where
      by_name : (b : Bool) → same_name f.name x ≡ b → cond b (Some f.of) (found (map (λ f. (f.name, f.of)) formals) x) ≡ None → (found (map (λ f. (f.name, f.of)) formals) x ≡ None → replacing (at_call p formals terms) (head.Var x s 0) ≡ None)
          → replacing (at_call p (f ∷ formals) (a ∷ terms)) (head.Var x s 0) ≡ None
      by_name true e h later = absurd (nothing_there (sym h))
      by_name false e h later = ap (λ b. cond (b && (sort_eq s (sort_of p.forms f.of) && true)) (Some (present_argument a)) (replacing (at_call p formals terms) (head.Var x s 0))) (other_way f.name x e) ∙ later h

  -- and only starts of parameters
  pub no_start : (formals : List Formal) (terms : List Argument) (h : Head) → ((x : Symbol) (s : Sort) → head_eq h (head.Start x s) ≡ false) → replacing (starts_at_call p formals terms) h ≡ None
  no_start [] terms h other = refl
  no_start (f ∷ formals) [] h other = refl
  no_start (f ∷ formals) (Given t ∷ terms) h other =
      ap (λ b. cond b (Some t) (replacing (starts_at_call p formals terms) h)) (other f.name (sort_of p.forms f.of)) ∙ no_start formals terms h other
  no_start (f ∷ formals) (AtPlace d ∷ terms) h other = no_start formals terms h other

  -- ---- the argument of a parameter

  -- what a parameter shows at the beginning, which is what its argument's term is worth
  pub record ParameterAt (symbols : Meaning) (v : Valuation) (state : State) (formals : List Formal) (terms : List Argument) (names : List (Symbol × Binding)) (x : Symbol) (t : TypeId) : Type 0 where
    pub term : Term
    pub value : Value
    pub binding : Binding
    pub bound : found names x ≡ Some binding
    pub holds : bound_value state binding ≡ Some value
    pub replaced : replacing (at_call p formals terms) (head.Var x (sort_of p.forms t) 0) ≡ Some term
    pub worth : eval symbols v term ≡ value

  -- a parameter that is bound to a value, and its start
  pub record ArgumentOf (symbols : Meaning) (v : Valuation) (formals : List Formal) (terms : List Argument) (names : List (Symbol × Binding)) (x : Symbol) (t : TypeId) : Type 0 where
    pub term : Term
    pub value : Value
    pub bound : found names x ≡ Some (Holding value)
    pub started : replacing (starts_at_call p formals terms) (head.Start x (sort_of p.forms t)) ≡ Some term
    pub worth : eval symbols v term ≡ value

  module _ (symbols : Meaning) (here : Here) (state : State) (window : View) (v : Valuation) (knows : Knows p symbols here state window v) where
    same_head : (x y : Symbol) (t u : TypeId) → y ≡ x → u ≡ t → head_eq (head.Var x (sort_of p.forms t) 0) (head.Var y (sort_of p.forms u) 0) ≡ true
    same_head x y t u name type = (λ i. head_eq (head.Var x (sort_of p.forms t) 0) (head.Var (name i) (sort_of p.forms (type i)) 0)) ∙ head_eq-refl (head.Var x (sort_of p.forms t) 0)

    one : (f : Formal) (u : Term) (b : Binding) (w : Value) → bound_value state b ≡ Some w → eval symbols v u ≡ w → (formals : List Formal) (terms : List Argument) (names : List (Symbol × Binding)) (x : Symbol) (t : TypeId) → found (map (λ f. (f.name, f.of)) (f ∷ formals)) x ≡ Some t
        → (a : Argument) → present_argument a ≡ u → (found (map (λ f. (f.name, f.of)) formals) x ≡ Some t → ParameterAt symbols v state formals terms names x t) → ParameterAt symbols v state (f ∷ formals) (a ∷ terms) ((f.name, b) ∷ names) x t
    one f u b w holds worth formals terms names x t e a is later = by_name (same_name f.name x) refl e
      where
        by_name : (c : Bool) → same_name f.name x ≡ c → cond c (Some f.of) (found (map (λ f. (f.name, f.of)) formals) x) ≡ Some t → ParameterAt symbols v state (f ∷ formals) (a ∷ terms) ((f.name, b) ∷ names) x t
        by_name true same h = record {
          term = u;
          value = w;
          binding = b;
          bound = ap (λ c. cond c (Some b) (found names x)) same;
          holds = holds;
          replaced = ap (λ c. cond c (Some (present_argument a)) (replacing (at_call p formals terms) (head.Var x (sort_of p.forms t) 0))) (same_head x f.name t f.of (same_names f.name x same) (some_is h)) ∙ ap Some is;
          worth = worth;
        }
        by_name false same h =
            let rest = later h in
            record {
              term = rest.term;
              value = rest.value;
              binding = rest.binding;
              bound = ap (λ c. cond c (Some b) (found names x)) same ∙ rest.bound;
              holds = rest.holds;
              replaced = ap (λ c. cond (c && (sort_eq (sort_of p.forms t) (sort_of p.forms f.of) && true)) (Some (present_argument a)) (replacing (at_call p formals terms) (head.Var x (sort_of p.forms t) 0))) (other_way f.name x same) ∙ rest.replaced;
              worth = rest.worth;
            }

    pub parameter_at : (formals : List Formal) (terms : List Argument) (names : List (Symbol × Binding)) → AreBound p symbols here state window formals terms names → (x : Symbol) (t : TypeId) → found (map (λ f. (f.name, f.of)) formals) x ≡ Some t → ParameterAt symbols v state formals terms names x t
    parameter_at _ _ _ NoneBound x t e = absurd (nothing_there e)
    parameter_at _ _ _ (ValueBound f u w kept sorted worth formals terms names others) x t e =
        one f u (Holding w) w refl (worth v knows) formals terms names x t e (Given u) refl (parameter_at formals terms names others x t)
    parameter_at _ _ _ (PlaceBound f d a placed sorted lies formals terms names others) x t e =
        one f (present d) (Referring a) (eval symbols v (present d)) (lies v knows).holds refl formals terms names x t e (AtPlace d) refl (parameter_at formals terms names others x t)

    -- one that is among the values
    pub argument_of : (formals : List Formal) (terms : List Argument) (names : List (Symbol × Binding)) → AreBound p symbols here state window formals terms names → all_differ same_name (map (λ f. f.name) formals) ≡ true → (x : Symbol) (t : TypeId) → list_any (λ f. same_name f.name x && not f.by_place) formals ≡ true → found (map (λ f. (f.name, f.of)) formals) x ≡ Some t → ArgumentOf symbols v formals terms names x t
    argument_of _ _ _ NoneBound differ x t value e = absurd (nothing_there e)
    argument_of _ _ _ (PlaceBound f d a placed sorted lies formals terms names others) differ x t value e =
        by_name (same_name f.name x) refl value e (argument_of formals terms names others (others_differ same_name f.name (map (λ f. f.name) formals) differ) x t)
      where
        no_second : (formals : List Formal) → list_any (same_name x) (map (λ f. f.name) formals) ≡ false → list_any (λ f. same_name f.name x && not f.by_place) formals ≡ false
        no_second [] none = refl
        no_second (g ∷ formals) none =
            both_false (same_name g.name x && not g.by_place) (list_any (λ f. same_name f.name x && not f.by_place) formals) (ap (λ b. b && not g.by_place) (other_way x g.name (left_false (same_name x g.name) _ none)))
            (no_second formals (right_false (same_name x g.name) _ none))

        by_name : (b : Bool) → same_name f.name x ≡ b → ((b && not f.by_place) || list_any (λ f. same_name f.name x && not f.by_place) formals) ≡ true → cond b (Some f.of) (found (map (λ f. (f.name, f.of)) formals) x) ≡ Some t
            → (list_any (λ f. same_name f.name x && not f.by_place) formals ≡ true → found (map (λ f. (f.name, f.of)) formals) x ≡ Some t → ArgumentOf symbols v formals terms names x t)
            → ArgumentOf symbols v (f ∷ formals) (AtPlace d ∷ terms) ((f.name, Referring a) ∷ names) x t
        by_name true same value h later =
            absurd (false≢true (sym (no_second formals (subst (λ (y : Symbol). list_any (same_name y) (map (λ f. f.name) formals) ≡ false) (same_names f.name x same) (first_differs same_name f.name (map (λ f. f.name) formals) differ)))
            ∙ (sym (ap (λ b. not b || list_any (λ f. same_name f.name x && not f.by_place) formals) placed) ∙ value)))
        by_name false same value h later =
            let rest = later value h in
            record { term = rest.term; value = rest.value; bound = ap (λ b. cond b (Some (Referring a)) (found names x)) same ∙ rest.bound; started = rest.started; worth = rest.worth }
    argument_of _ _ _ (ValueBound f u w kept sorted worth formals terms names others) differ x t value e =
        by_name (same_name f.name x) refl value e (argument_of formals terms names others (others_differ same_name f.name (map (λ f. f.name) formals) differ) x t)
      where
        by_name : (b : Bool) → same_name f.name x ≡ b → ((b && not f.by_place) || list_any (λ f. same_name f.name x && not f.by_place) formals) ≡ true → cond b (Some f.of) (found (map (λ f. (f.name, f.of)) formals) x) ≡ Some t
            → (list_any (λ f. same_name f.name x && not f.by_place) formals ≡ true → found (map (λ f. (f.name, f.of)) formals) x ≡ Some t → ArgumentOf symbols v formals terms names x t)
            → ArgumentOf symbols v (f ∷ formals) (Given u ∷ terms) ((f.name, Holding w) ∷ names) x t
        by_name true same value h later =
            let name = same_names f.name x same in
            let type = some_is h in
            record {
              term = u;
              value = w;
              bound = ap (λ b. cond b (Some (Holding w)) (found names x)) same;
              started = ap (λ b. cond b (Some u) (replacing (starts_at_call p formals terms) (head.Start x (sort_of p.forms t)))) ((λ i. head_eq (head.Start x (sort_of p.forms t)) (head.Start (name i) (sort_of p.forms (type i)))) ∙ head_eq-refl (head.Start x (sort_of p.forms t)));
              worth = worth v knows;
            }
        by_name false same value h later =
            let rest = later value h in
            let other = other_way f.name x same in
            record {
              term = rest.term;
              value = rest.value;
              bound = ap (λ b. cond b (Some (Holding w)) (found names x)) same ∙ rest.bound;
              started = ap (λ b. cond (b && sort_eq (sort_of p.forms t) (sort_of p.forms f.of)) (Some u) (replacing (starts_at_call p formals terms) (head.Start x (sort_of p.forms t)))) other ∙ rest.started;
              worth = rest.worth;
            }
