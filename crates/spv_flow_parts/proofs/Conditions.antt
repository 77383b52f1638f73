-- Lists of conditions that are made of others.
use Rattle.std.proofs.Common.{◌≡◌, ℕ, ◌<◌, ◌+◌, List, [], ◌∷◌, ◌++◌, map, length, Ok, Err, IfOk, Option, Some, None, option_map, refl, sym, ap, subst, ◌∙◌}
use Rattle.std.proofs.lemmas.List.{length-map}
use Rattle.spv_logic.specs.declared.conditions.Kind.{Kind}
use Rattle.spv_logic.specs.declared.conditions.TermId.{TermId}
use Rattle.spv_logic.specs.declared.conditions.RoutineId.{RoutineId}
use Rattle.spv_logic.specs.Terms.{Term}
use Rattle.spv_logic.specs.Conditions as logic
use Rattle.spv_term.specs.declared.nodes.Condition.{Condition}
use Rattle.spv_term.specs.Arena.{Arena, Extends, tree}
use Rattle.spv_term.proofs.ArenaLemmas.{Extends-refl}
use Rattle.spv_program.specs.Formulas.{Annotation}
use Rattle.spv_program.specs.Programs.{Program, routine_in}
use Rattle.spv_program.specs.Terms.{body_term}
use Rattle.spv_assign.proofs.supply.FreshLemmas.{AreThere-Extends}
use Rattle.spv_assign.specs.Conditions.{condition_of, conditions_of, pairs_of, AreIn, all_terms_in, with_given, Assumes}
use Rattle.spv_meaning.specs.Before.{all_assuming, assuming_if_there, replaced, wanted_if_there}
use Rattle.spv_assign.specs.creation_trace.Events.{Answers}
use Rattle.spv_assign.specs.creation_trace.StatementEvents.{counted, several}
use Rattle.spv_assign.specs.limited_steps.Makes.{IsTerm}
use Rattle.spv_flow_parts.specs.Walks.{AreThese, IsMade, IsThere, wanted_item, Listed, ComesTo}

pub conditions_both : (a : Arena) (xs ys : List Condition) → conditions_of a (xs ++ ys) ≡ conditions_of a xs ++ conditions_of a ys
conditions_both a [] ys = refl
conditions_both a (x ∷ xs) ys = ap (λ (l : List logic.Condition). conditions_of a (x ∷ []) ++ l) (conditions_both a xs ys)

pub are_in_both : (a : Arena) (xs ys : List Condition) → AreIn a xs → AreIn a ys → AreIn a (xs ++ ys)
are_in_both a [] ys h k = k
are_in_both a (x ∷ xs) ys h k = (h.0, are_in_both a xs ys h.1 k)

pub these_both : (a : Arena) (xs ys : List Condition) (cs ds : List logic.Condition) → AreThese a xs cs → AreThese a ys ds → AreThese a (xs ++ ys) (cs ++ ds)
these_both a xs ys cs ds h k = record {
  same = let first = h.same in let second = k.same in conditions_both a xs ys ∙ (λ i. first i ++ second i);
  in_range = are_in_both a xs ys h.in_range k.in_range;
}

-- ---- one list behind another

pub joined_comes : (r : Listed) (xs ys : List Condition) (cs ds : List logic.Condition) (a : Arena) → IfOk r (λ all. all.items ≡ xs ++ ys) → Answers r (counted (length xs + length ys)) a a
    → AreThese a xs cs → AreThese a ys ds → ComesTo r (cs ++ ds) (counted (length xs + length ys)) a a
joined_comes r xs ys cs ds a items walk h k n there = record { grows = Extends-refl a; walk = walk; made = by r items }
  where
    by : (r : Listed) → IfOk r (λ all. all.items ≡ xs ++ ys) → IfOk r (λ all. IsMade a n all.items (record { conditions = cs ++ ds; supply = n }))
    by (Ok all) items = record {
      conditions = subst (λ (l : List Condition). AreThese a l (cs ++ ds)) (sym items) (these_both a xs ys cs ds h k);
      supply = refl;
      there = there;
    }
    by (Err e) items = tt

-- ---- hypotheses

pub assumed_these : (h : TermId) (old new : List Condition) (a : Arena) → Assumes h old new → h.0 < length a.nodes → AreIn a old → AreThese a new (all_assuming (tree a h) (conditions_of a old))
assumed_these h old new a assumes there within = record { same = assumes.conditions a; in_range = assumes.in_range a there within }

pub as_long : (h : TermId) (old new : List Condition) → new ≡ map (with_given h) old → length new ≡ length old
as_long h old new e = ap (λ (l : List Condition). length l) e ∙ length-map old (with_given h)

pub long_conditions : (a : Arena) (items : List Condition) → length (conditions_of a items) ≡ length items
long_conditions a items = length-map items (condition_of a)

-- conditions under a term
pub under_term : (h : TermId) (old new : List Condition) (a : Arena) (x : Term) (cs : List logic.Condition) → Assumes h old new → IsTerm a h x → AreThese a old cs → AreThese a new (all_assuming x cs)
under_term h old new a x cs assumes term these = record {
  same = let e = term.is_tree in let f = these.same in assumes.conditions a ∙ (λ i. all_assuming (e i) (f i));
  in_range = assumes.in_range a term.there these.in_range;
}

pub ways_come : (h k : TermId) (first second f s : List Condition) (r : Listed) → f ≡ map (with_given h) first → s ≡ map (with_given k) second → Assumes h first f → Assumes k second s
    → IfOk r (λ all. all.items ≡ f ++ s) → ((a : Arena) → Answers r (counted (length f + length s)) a a)
    → (a : Arena) (x y : Term) (cs ds : List logic.Condition) → IsTerm a h x → IsTerm a k y → AreThese a first cs → AreThese a second ds
    → ComesTo r (all_assuming x cs ++ all_assuming y ds) (counted (length cs + length ds)) a a
ways_come h k first second f s r is_first is_second f_assumes s_assumes items walk a x y cs ds h_term k_term first_these second_these =
    let long : length f ≡ length cs = as_long h first f is_first ∙ sym (long_conditions a first) ∙ ap (λ (l : List logic.Condition). length l) first_these.same in
    let long_too : length s ≡ length ds = as_long k second s is_second ∙ sym (long_conditions a second) ∙ ap (λ (l : List logic.Condition). length l) second_these.same in
    subst (λ count. ComesTo r (all_assuming x cs ++ all_assuming y ds) (counted count) a a) (λ i. long i + long_too i)
    (joined_comes r f s (all_assuming x cs) (all_assuming y ds) a items (walk a) (under_term h first f a x cs f_assumes h_term first_these) (under_term k second s a y ds s_assumes k_term second_these))

pub known_these : (h : Option TermId) (old : List Condition) (a : Arena) (r : Listed) → IsThere a h → AreIn a old
    → (h ≡ None → IfOk r (λ cs. cs.items ≡ old)) → ((t : TermId) → h ≡ Some t → IfOk r (λ cs. Assumes t old cs.items))
    → IfOk r (λ cs. AreThese a cs.items (assuming_if_there (option_map (tree a) h) (conditions_of a old)))
known_these None old a r is within none some = by r (none refl)
  where
    by : (r : Listed) → IfOk r (λ cs. cs.items ≡ old) → IfOk r (λ cs. AreThese a cs.items (conditions_of a old))
    by (Ok cs) items = record { same = ap (conditions_of a) items; in_range = subst (AreIn a) (sym items) within }
    by (Err e) items = tt
known_these (Some t) old a r is within none some = by r (some t refl)
  where
    by : (r : Listed) → IfOk r (λ cs. Assumes t old cs.items) → IfOk r (λ cs. AreThese a cs.items (all_assuming (tree a t) (conditions_of a old)))
    by (Ok cs) h = assumed_these t old cs.items a h is within
    by (Err e) h = tt

-- ---- annotations

pub wanted_these : (a : Arena) (p : Program) (here : Option RoutineId) (k : Kind) (t : TermId) (line : ℕ) (f : Annotation) (items : List Condition)
    → items ≡ wanted_item here k t line ∷ [] → line ≡ f.line → IsTerm a t (body_term p (routine_in p here) f) → AreThese a items (wanted_if_there p here k (Some f))
wanted_these a p here k t line f items is same h =
    subst (λ (l : List Condition). AreThese a l (wanted_if_there p here k (Some f))) (sym is) (record {
      same = let term = h.is_tree in λ i. record { claim = record { given = []; goal = term i }; origin = record { routine = here; kind = k; line = same i } } ∷ [];
      in_range = (record { given = tt; goal = h.there }, tt);
    })

-- ---- replacements

pub replaced_comes : (r : Listed) (a b : Arena) (wanted : List logic.Condition) → IfOk r (λ cs. conditions_of b cs.items ≡ wanted) → IfOk r (λ cs. AreIn b cs.items) → Extends a b
    → Answers r (several (all_terms_in wanted)) a b → ComesTo r wanted (several (all_terms_in wanted)) a b
replaced_comes r a b wanted is within grows walk n there = record { grows = grows; walk = walk; made = by r is within }
  where
    by : (r : Listed) → IfOk r (λ cs. conditions_of b cs.items ≡ wanted) → IfOk r (λ cs. AreIn b cs.items) → IfOk r (λ cs. IsMade b n cs.items (record { conditions = wanted; supply = n }))
    by (Ok cs) is within = record { conditions = record { same = is; in_range = within }; supply = refl; there = AreThere-Extends a b n grows there }
    by (Err e) is within = tt

pub replaced_own : (r : Listed) (a b : Arena) (pairs : List (TermId × TermId)) (own rest : List Condition) → own ≡ rest → IfOk r (λ cs. conditions_of b cs.items ≡ replaced (pairs_of a pairs) (conditions_of a own))
    → IfOk r (λ cs. AreIn b cs.items) → Extends a b → Answers r (several (all_terms_in (replaced (pairs_of a pairs) (conditions_of a own)))) a b
    → ComesTo r (replaced (pairs_of a pairs) (conditions_of a rest)) (several (all_terms_in (replaced (pairs_of a pairs) (conditions_of a rest)))) a b
replaced_own r a b pairs own rest same is within grows walk =
    subst (λ (l : List Condition). ComesTo r (replaced (pairs_of a pairs) (conditions_of a l)) (several (all_terms_in (replaced (pairs_of a pairs) (conditions_of a l)))) a b) same
    (replaced_comes r a b (replaced (pairs_of a pairs) (conditions_of a own)) is within grows walk)
