-- The terms of a FOR.
use Rattle.std.proofs.Common.{◌≡◌, ◌<◌, true, List, [], ◌∷◌, length, Result, Ok, Err, IfOk, Option, Some, None, refl, ap, subst, ◌∙◌}
use Rattle.std.proofs.lemmas.Bool.{or_left, or_right}
use Rattle.std.specs.Option.{unwrap_or}
use Rattle.spv_logic.specs.declared.names.names.Symbol.{Symbol}
use Rattle.spv_logic.specs.declared.conditions.TermId.{TermId}
use Rattle.spv_logic.specs.declared.types.Sort.TheVariants as sort
use Rattle.spv_logic.specs.declared.operators.Head.{Head}
use Rattle.spv_logic.specs.declared.operators.Head.TheVariants as head
use Rattle.spv_logic.specs.Terms.{Term, terms, no_terms}
use Rattle.spv_logic.specs.Substitution.{substitute, replaced}
use Rattle.spv_term.specs.Arena.{Arena, Extends, tree, sort_at}
use Rattle.spv_term.proofs.ArenaLemmas.{Extends-trans, tree-Extends, sort_at-Extends}
use Rattle.spv_term.specs.substitution.Images.{pairs_at}
use Rattle.spv_term.specs.substitution.Parts.{is_part}
use Rattle.spv_term.proofs.substitution.PartLemmas.{is_part-refl, part_of_args}
use Rattle.spv_program.specs.declared.operators.Direction.{Direction}
use Rattle.spv_program.specs.declared.operators.Direction.TheVariants.{Up, Down}
use Rattle.spv_program.specs.Calls.{replacing}
use Rattle.spv_program.specs.Terms.{alone}
use Rattle.spv_assign.specs.Conditions.{pairs_of}
use Rattle.spv_assign.proofs.Replacing.{replacing-is}
use Rattle.spv_meaning.specs.Before.{next_term, within_term, past_term, standing_for}
use Rattle.spv_assign.specs.declared.creation_trace.faults.GenFault.{GenFault}
use Rattle.spv_assign.specs.creation_trace.Events.{Walked, Stops}
use Rattle.spv_assign.specs.creation_trace.StatementEvents.{one, several}
use Rattle.spv_assign.proofs.creation_trace.Covering.{AreCovered, covered_more, covered_nothing, covered_stops, covered_walked, covered_behind}
use Rattle.spv_assign.specs.limited_steps.Makes.{IsTerm}
use Rattle.spv_assign.proofs.limited_steps.Renamings.{stops_at_one, stops_at_two, walked_two}
use Rattle.spv_flow_parts.specs.Walks.{MakesTerm}
use Rattle.spv_flow_parts.proofs.Steps.{IsTerm-Extends}
use Rattle.spv_flow_parts.specs.for_loops.Counting.{IsCounter, AreEnds, end_terms, number_head}

-- ---- the variable

pub is_counter : (a b : Arena) (v u : TermId) (direction : Direction) (h : Head) → IsTerm a v (alone h) → Extends a b → IsTerm b u (next_term direction (tree a v)) → sort_at a v ≡ sort.Int → sort_at b u ≡ sort.Int
    → IsCounter b (record { variable = v; next = u }) direction h
is_counter a b v u direction h is more next number next_number = record {
  variable = IsTerm-Extends v (alone h) more is;
  next = subst (λ (x : Term). IsTerm b u (next_term direction x)) is.is_tree next;
  variable_sort = sort_at-Extends more v is.there ∙ number;
  next_sort = next_number;
}

-- ---- terms with others in their places

module _ (a : Arena) (pairs : List (TermId × TermId)) (t : TermId) where
  pub put_term : substitute (pairs_at a pairs) (tree a t) ≡ substitute (replacing (pairs_of a pairs)) (tree a t)
  put_term = ap (λ by. substitute by (tree a t)) (replacing-is a pairs)

-- a variable with pairs put in is what stands for it
pub stands_for : (pairs : List (Head × Term)) (x : Symbol) → substitute (replacing pairs) (alone (number_head x)) ≡ standing_for pairs (number_head x)
stands_for pairs x = by (replacing pairs (number_head x))
  where
    by : (o : Option Term) → replaced o (alone (number_head x)) ≡ unwrap_or o (alone (number_head x))
    by None = refl
    by (Some t) = refl

-- ---- the ends

in_within : (direction : Direction) (now end : Term) → is_part now (within_term direction now end) ≡ true
in_within Up now end = part_of_args now head.Le (terms now (terms end no_terms)) (or_left (is_part now now) _ (is_part-refl now))
in_within Down now end = part_of_args now head.Le (terms end (terms now no_terms)) (or_right (is_part now end) _ (or_left (is_part now now) _ (is_part-refl now)))

module _ (direction : Direction) (now end : Term) where
  abbrev within : Term
  within = within_term direction now end

  abbrev past : Term
  past = past_term direction now end

  pub now_covered : AreCovered (now ∷ []) (end_terms direction now end)
  now_covered = covered_more now [] (end_terms direction now end) (or_left (is_part now within) _ (in_within direction now end)) (covered_nothing (end_terms direction now end))

  pub now_stops : (g : GenFault) (a b : Arena) → Stops g (one now) a b → Stops g (several (end_terms direction now end)) a b
  now_stops g a b stops = covered_stops (one now) refl (end_terms direction now end) now_covered g a b stops

  pub within_stops : (g : GenFault) (a b c : Arena) → Walked (one now) a b → Stops g (one within) b c → Stops g (several (end_terms direction now end)) a c
  within_stops g a b c walked stops = covered_behind (one now) refl (end_terms direction now end) now_covered g a b c walked (stops_at_one within past g b c stops)

  pub past_stops : (g : GenFault) (a b c d : Arena) → Walked (one now) a b → Walked (one within) b c → Stops g (one past) c d → Stops g (several (end_terms direction now end)) a d
  past_stops g a b c d walked first stops = covered_behind (one now) refl (end_terms direction now end) now_covered g a b d walked (stops_at_two within past g b c d first stops)

  pub ends_walked : (a b c d : Arena) → Walked (one now) a b → Walked (one within) b c → Walked (one past) c d → Walked (several (end_terms direction now end)) a d
  ends_walked a b c d walked first second = covered_walked (one now) refl (end_terms direction now end) now_covered a b d walked (walked_two within past b c d first second)

-- the comparisons by the ids of their sides
module _ (direction : Direction) (a b : Arena) (s t : TermId) (x y : Term) (first : IsTerm b s x) (second_there : t.0 < length a.nodes) (second : tree a t ≡ y) (more : Extends a b) where
  pub same_sides : {X : Type 0} (f : Term → Term → X) → f (tree b s) (tree b t) ≡ f x y
  same_sides f = let e = first.is_tree in let g = tree-Extends more t second_there ∙ second in λ i. f (e i) (g i)

pub are_ends : (direction : Direction) (a0 a1 a2 a3 : Arena) (now end within past : TermId) (x : Term) → end.0 < length a0.nodes → MakesTerm (Ok now) x a0 a1 → Extends a1 a2 → Extends a2 a3
    → IsTerm a2 within (within_term direction (tree a1 now) (tree a1 end)) → IsTerm a3 past (past_term direction (tree a2 now) (tree a2 end)) → AreEnds a3 (record { within = within; past = past }) direction x (tree a0 end)
are_ends direction a0 a1 a2 a3 now end within past x end_there made more last within_is past_is =
    let later = IsTerm-Extends now x more made.term in
    let first : within_term direction (tree a1 now) (tree a1 end) ≡ within_term direction x (tree a0 end) = same_sides direction a0 a1 now end x (tree a0 end) made.term end_there refl made.grows (within_term direction) in
    let second : past_term direction (tree a2 now) (tree a2 end) ≡ past_term direction x (tree a0 end) = same_sides direction a0 a2 now end x (tree a0 end) later end_there refl (Extends-trans made.grows more) (past_term direction) in
    record {
      within = IsTerm-Extends within (within_term direction x (tree a0 end)) last (subst (λ (t : Term). IsTerm a2 within t) first within_is);
      past = subst (λ (t : Term). IsTerm a3 past t) second past_is;
    }

pub if_told : {T E F : Type 0} (P : T → Type 0) (r : Result T E) (s : Result T F) → IfOk s (λ t. r ≡ Ok t) → IfOk r P → IfOk s P
if_told {T} {E} {F} P r (Ok t) told h = subst (λ (x : Result T E). IfOk x P) told h
if_told P r (Err e) told h = tt
