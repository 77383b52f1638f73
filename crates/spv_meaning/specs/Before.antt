-- The conditions before a statement, made from those after it.
use Rattle.std.specs.Prelude.{ℕ, List, [], ◌∷◌, ◌++◌, map, fold, Option, Some, None, ℤ, pos, option_map}
use Rattle.std.specs.Option.{unwrap_or}
use Rattle.spv_logic.specs.declared.names.names.Symbol.{Symbol}
use Rattle.spv_logic.specs.declared.types.TypeId.{TypeId}
use Rattle.spv_logic.specs.declared.types.Sort.TheVariants as sort
use Rattle.spv_logic.specs.declared.conditions.Kind.{Kind}
use Rattle.spv_logic.specs.declared.conditions.Kind.TheVariants as kind
use Rattle.spv_logic.specs.declared.conditions.RoutineId.{RoutineId}
use Rattle.spv_logic.specs.declared.operators.Head.{Head}
use Rattle.spv_logic.specs.declared.operators.Head.TheVariants as head
use Rattle.spv_logic.specs.Terms.{Term}
use Rattle.spv_logic.specs.Substitution.{Replacement, substitute}
use Rattle.spv_logic.specs.Conditions.{Sequent, Condition}
use Rattle.spv_program.specs.declared.operators.Direction.{Direction}
use Rattle.spv_program.specs.declared.operators.Direction.TheVariants.{Up, Down}
use Rattle.spv_program.specs.declared.types.Item.{Item}
use Rattle.spv_program.specs.declared.types.Item.TheVariants.{Variable}
use Rattle.spv_program.specs.Lists.{item_at}
use Rattle.spv_program.specs.Types.{sort_of}
use Rattle.spv_program.specs.Formulas.{Annotation}
use Rattle.spv_program.specs.Expressions.{Designator, Call, call, designator}
use Rattle.spv_program.specs.Statements.{Statement, Arms, Empty, Assign, Perform, New, Sequence, If, Case, While, Repeat, For, Assert, no_arms, arm}
use Rattle.spv_program.specs.Programs.{Formal, Routine, Program, routine_at, routine_in}
use Rattle.spv_program.specs.Changes.{var_items, changed_heads}
use Rattle.spv_program.specs.Terms.{alone, unary, binary, ternary, numeral, item_head, body_term}
use Rattle.spv_program.specs.Supplies.{Supply, fresh_variable, fresh_like}
use Rattle.spv_program.specs.Places.{Target, whole_with}
use Rattle.spv_program.specs.Calls.{Argument, Given, AtPlace, replacing, formal_head, entry_at_call, exit_at_call}
use Rattle.spv_program.specs.ExpressionTerms.{Called, Argued, valued, placed, argued}

-- conditions, and the fresh variables that are left
pub record Made : Type 0 where
  pub conditions : List Condition
  pub supply : Supply

-- ---- lists of conditions

abbrev pub with_claim : Sequent → Condition → Condition
with_claim s c = record { claim = s; origin = c.origin }

-- one hypothesis more, in front
abbrev pub assuming : Term → Condition → Condition
assuming h c = with_claim (record { given = h ∷ c.claim.given; goal = c.claim.goal }) c

abbrev pub all_assuming : Term → List Condition → List Condition
all_assuming h conditions = map (assuming h) conditions

abbrev pub assuming_if_there : Option Term → List Condition → List Condition
assuming_if_there None conditions = conditions
assuming_if_there (Some h) conditions = all_assuming h conditions

abbrev pub substitute_in : Replacement → Sequent → Sequent
substitute_in by s = record { given = map (substitute by) s.given; goal = substitute by s.goal }

-- all conditions with terms in the place of variables and classes, all at once
abbrev pub replaced : List (Head × Term) → List Condition → List Condition
replaced pairs conditions = map (λ c. with_claim (substitute_in (replacing pairs) c.claim) c) conditions

-- the condition that a formula is true
abbrev pub wanted : Option RoutineId → Kind → ℕ → Term → Condition
wanted here k line t = record {
  claim = record { given = []; goal = t };
  origin = record { routine = here; kind = k; line = line };
}

abbrev pub negated : Term → Term
negated t = unary head.Not t

-- ---- annotations

abbrev pub annotation_term : Program → Option RoutineId → Option Annotation → Option Term
annotation_term p here a = option_map (body_term p (routine_in p here)) a

-- the condition of an annotation of a body, or of the main block's EXIT; none where there is no annotation
abbrev pub wanted_if_there : Program → Option RoutineId → Kind → Option Annotation → List Condition
wanted_if_there p here k None = []
wanted_if_there p here k (Some a) = wanted here k a.line (body_term p (routine_in p here) a) ∷ []

-- the same with a term in the place of a variable
abbrev pub wanted_with : Program → Option RoutineId → Kind → Head → Term → Option Annotation → List Condition
wanted_with p here k v t None = []
wanted_with p here k v t (Some a) = wanted here k a.line (substitute (replacing ((v, t) ∷ [])) (body_term p (routine_in p here) a)) ∷ []

-- ---- calls

abbrev pub wanted_entry : Option RoutineId → ℕ → Option Term → List Condition
wanted_entry here line None = []
wanted_entry here line (Some t) = wanted here kind.Entry line t ∷ []

-- calls in front of conditions: each ENTRY is wanted, and its EXIT is known from there on
abbrev pub before_calls : Option RoutineId → List Called → List Condition → List Condition
before_calls here [] conditions = conditions
before_calls here (c ∷ calls) conditions = wanted_entry here c.line c.needs ++ assuming_if_there c.gives (before_calls here calls conditions)

-- fresh variables for what a call changes: in the callee's EXIT, and in what is wanted after the call
pub record Changed : Type 0 where
  pub in_exit : List (Head × Term)
  pub after : List (Head × Term)
  pub supply : Supply

abbrev pub and_changed : Head × Term → Head × Term → Changed → Changed
and_changed exit after others = record { in_exit = exit ∷ others.in_exit; after = after ∷ others.after; supply = others.supply }

-- each item of a VAR group is a fresh one
abbrev pub changed_items : Program → Routine → List Item → Supply → Changed
changed_items p r [] n = record { in_exit = []; after = []; supply = n }
changed_items p r (item ∷ items) n =
    let h = item_head p (Some r) item in
    let y = fresh_like h n in
    and_changed (h, alone y.head) (h, alone y.head) (changed_items p r items y.supply)

-- each VAR parameter is a fresh variable, and the root of its argument is its whole with that variable at the argument's place
abbrev pub changed_places : Program → Routine → List Formal → List Argument → Supply → Changed
changed_places p r [] arguments n = changed_items p r (var_items r.globals) n
changed_places p r (f ∷ formals) [] n = changed_items p r (var_items r.globals) n
changed_places p r (f ∷ formals) (Given t ∷ arguments) n = changed_places p r formals arguments n
changed_places p r (f ∷ formals) (AtPlace d ∷ arguments) n =
    let y = fresh_like (formal_head p f) n in
    and_changed (formal_head p f, alone y.head) (d.root, whole_with d (alone y.head)) (changed_places p r formals arguments y.supply)

abbrev pub before_entering : Program → Option RoutineId → ℕ → Option Routine → Argued → List Condition → Made
before_entering p here line None given conditions = record { conditions = conditions; supply = given.supply }
before_entering p here line (Some r) given conditions =
    let fresh = changed_places p r r.formals given.arguments given.supply in
    record {
      conditions = wanted_entry here line (entry_at_call p r given.arguments)
          ++ assuming_if_there (exit_at_call p r given.arguments fresh.in_exit) (replaced fresh.after conditions);
      supply = fresh.supply;
    }

-- the calls in the arguments come first
abbrev pub behind_calls : Option RoutineId → List Called → Made → Made
behind_calls here calls made = record { conditions = before_calls here calls made.conditions; supply = made.supply }

abbrev pub before_call : Program → Option RoutineId → Call → Made → Made
before_call p here (call r line given) q =
    let arguments = argued p (routine_in p here) q.supply given in
    behind_calls here arguments.calls (before_entering p here line (routine_at p r) arguments q.conditions)

-- ---- loops

-- a fresh variable for each of these
pub record Renamed : Type 0 where
  pub pairs : List (Head × Term)
  pub supply : Supply

abbrev pub renamed : List Head → Supply → Renamed
renamed [] n = record { pairs = []; supply = n }
renamed (h ∷ heads) n =
    let y = fresh_like h n in
    let others = renamed heads y.supply in
    record { pairs = (h, alone y.head) ∷ others.pairs; supply = others.supply }

-- what stands for a variable
abbrev pub standing_for : List (Head × Term) → Head → Term
standing_for pairs h = unwrap_or (replacing pairs h) (alone h)

-- the next value of a FOR's variable, whether it is within the end, and whether it is past it
abbrev pub next_term : Direction → Term → Term
next_term Up v = binary head.Add v (numeral (pos 1))
next_term Down v = binary head.Sub v (numeral (pos 1))

abbrev pub within_term : Direction → Term → Term → Term
within_term Up v end = binary head.Le v end
within_term Down v end = binary head.Le end v

abbrev pub past_term : Direction → Term → Term → Term
past_term Up v end = binary head.Lt end v
past_term Down v end = binary head.Lt v end

-- ---- CASE

-- whether a term is one of the labels: equations joined by OR from the left
abbrev pub is_label : Term → List ℤ → Term
is_label t [] = alone head.False
is_label t (z ∷ labels) = fold (λ s y. binary head.Or s (binary head.Eq t (numeral y))) (binary head.Eq t (numeral z)) labels

-- ---- NEW

abbrev pub first_name : Designator → Symbol
first_name (designator line x others) = x

-- the name of a type; one that is never printed where it has none
abbrev pub title_of : Program → TypeId → Symbol
title_of p t = unwrap_or (unwrap_or (item_at p.titles t.0) None) (record { 0 = 0 })

-- the place becomes the pointer to a cell of the class that is extended by it; the cell was none before
abbrev pub before_creation : TypeId → Target → Term → Term → List Condition → List Condition
before_creation t place pointer content conditions =
    let class = alone (head.ClassVar t 0) in
    all_assuming (negated (binary head.Eq pointer (alone (head.Nil t))))
    (all_assuming (negated (binary head.PointerTo pointer class))
    (replaced ((head.ClassVar t 0, ternary head.Extend class pointer content) ∷ [])
    (replaced ((place.root, whole_with place pointer) ∷ []) conditions)))

-- ---- statements

abbrev mutual
  pub before : Program → Option RoutineId → Statement → Made → Made
  before p here Empty q = q
  before p here (Assign d e) q =
      let place = placed p (routine_in p here) q.supply d in
      let v = valued p (routine_in p here) place.supply e in
      record {
        conditions = before_calls here (place.calls ++ v.calls) (replaced ((place.target.root, whole_with place.target v.term) ∷ []) q.conditions);
        supply = v.supply;
      }
  before p here (Perform c) q = before_call p here c q
  before p here (New line d t) q =
      let place = placed p (routine_in p here) q.supply d in
      let pointer = fresh_variable (first_name d) (sort.Ptr t) place.supply in
      let content = fresh_variable (title_of p t) (sort_of p.forms t) pointer.supply in
      record {
        conditions = before_calls here place.calls (before_creation t place.target (alone pointer.head) (alone content.head) q.conditions);
        supply = content.supply;
      }
  before p here (Sequence a b) q = before p here a (before p here b q)
  before p here (If line e a b) q =
      let v = valued p (routine_in p here) q.supply e in
      let first = before p here a (record { conditions = q.conditions; supply = v.supply }) in
      let second = before p here b (record { conditions = q.conditions; supply = first.supply }) in
      record {
        conditions = before_calls here v.calls (all_assuming v.term first.conditions ++ all_assuming (negated v.term) second.conditions);
        supply = second.supply;
      }
  before p here (Case line e arms) q =
      let v = valued p (routine_in p here) q.supply e in
      behind_calls here v.calls (before_arms p here v.term arms (record { conditions = q.conditions; supply = v.supply }))
  before p here (While line f e s) q =
      let v = valued p (routine_in p here) q.supply e in
      let turn = before p here s (record { conditions = wanted_if_there p here kind.Preserved f; supply = v.supply }) in
      let fresh = renamed (changed_heads p (routine_in p here) (While line f e s)) turn.supply in
      let uses = all_assuming v.term turn.conditions ++ all_assuming (negated v.term) q.conditions in
      record {
        conditions = wanted_if_there p here kind.Invariant f
            ++ replaced fresh.pairs (assuming_if_there (annotation_term p here f) (before_calls here v.calls uses));
        supply = fresh.supply;
      }
  before p here (Repeat line f s e) q =
      let v = valued p (routine_in p here) q.supply e in
      let uses = all_assuming (negated v.term) (wanted_if_there p here kind.Preserved f) ++ all_assuming v.term q.conditions in
      let turn = before p here s (record { conditions = before_calls here v.calls uses; supply = v.supply }) in
      let fresh = renamed (changed_heads p (routine_in p here) (Repeat line f s e)) turn.supply in
      record {
        conditions = wanted_if_there p here kind.Invariant f
            ++ replaced fresh.pairs (assuming_if_there (annotation_term p here f) turn.conditions);
        supply = fresh.supply;
      }
  before p here (For line f count s) q =
      let first = valued p (routine_in p here) q.supply count.first in
      let end = valued p (routine_in p here) first.supply count.last in
      let v = item_head p (routine_in p here) (Variable count.variable) in
      let preserved = wanted_with p here kind.Preserved v (next_term count.direction (alone v)) f in
      let turn = before p here s (record { conditions = preserved; supply = end.supply }) in
      let fresh = renamed (changed_heads p (routine_in p here) (For line f count s)) turn.supply in
      let last = fresh_like v fresh.supply in
      let invariant = option_map (substitute (replacing fresh.pairs)) (annotation_term p here f) in
      let now = standing_for fresh.pairs v in
      record {
        conditions = before_calls here (first.calls ++ end.calls)
            (wanted_with p here kind.Invariant v first.term f
            ++ (assuming_if_there invariant (all_assuming (within_term count.direction now end.term) (replaced fresh.pairs turn.conditions))
            ++ assuming_if_there invariant
            (all_assuming (past_term count.direction now end.term) (replaced fresh.pairs (replaced ((v, alone last.head) ∷ []) q.conditions)))));
        supply = last.supply;
      }
  before p here (Assert a) q = record {
    conditions = wanted here kind.Assert a.line (body_term p (routine_in p here) a) ∷ all_assuming (body_term p (routine_in p here) a) q.conditions;
    supply = q.supply;
  }

  -- each arm under the hypothesis that the value is one of its labels
  pub before_arms : Program → Option RoutineId → Term → Arms → Made → Made
  before_arms p here t no_arms q = record { conditions = []; supply = q.supply }
  before_arms p here t (arm labels s others) q =
      let first = before p here s q in
      let second = before_arms p here t others (record { conditions = q.conditions; supply = first.supply }) in
      record { conditions = all_assuming (is_label t labels) first.conditions ++ second.conditions; supply = second.supply }

-- the body of a routine, or of the main block
abbrev pub before_body : Program → Option RoutineId → Statement → Made → Made
before_body p here body q = before p here body q
