-- A class extended by a cell, in conditions.
use Rattle.std.proofs.Common.{◌≡◌, ◌<◌, List, [], ◌∷◌, length, IsErrAnd, sym, ap, subst, ◌∙◌, arith}
use Rattle.spv_logic.specs.declared.conditions.TermId.{TermId}
use Rattle.spv_logic.specs.declared.types.TypeId.{TypeId}
use Rattle.spv_logic.specs.declared.types.Sort.TheVariants as sort
use Rattle.spv_logic.specs.declared.operators.Head.{Head}
use Rattle.spv_logic.specs.declared.operators.Head.TheVariants as head
use Rattle.spv_logic.specs.Terms.{Term}
use Rattle.spv_logic.specs.Conditions as logic
use Rattle.spv_logic.specs.Substitution.{is_variable}
use Rattle.spv_term.specs.declared.nodes.Condition.{Condition}
use Rattle.spv_term.specs.Arena.{Arena, Extends, tree, sort_at}
use Rattle.spv_term.proofs.ArenaLemmas.{Extends-trans, tree-Extends, sort_at-Extends, length-Extends}
use Rattle.spv_term.specs.substitution.Images.{head_of, ArePairs}
use Rattle.spv_program.specs.Terms.{alone, ternary}
use Rattle.spv_program.specs.Supplies.{Supply}
use Rattle.spv_assign.proofs.supply.FreshLemmas.{AreThere-Extends}
use Rattle.spv_assign.specs.Conditions.{AreIn, all_terms_in, conditions_of, pairs_of}
use Rattle.spv_assign.proofs.Growing.{conditions_of-Extends, AreIn-Extends}
use Rattle.spv_meaning.specs.Before.{Made, replaced}
use Rattle.spv_assign.specs.declared.creation_trace.faults.GenFault.{GenFault}
use Rattle.spv_assign.specs.creation_trace.Events.{Event, Walked, Stops}
use Rattle.spv_assign.specs.creation_trace.StatementEvents.{one, pair_terms, replacing_events, several}
use Rattle.spv_assign.proofs.creation_trace.Walks.{nothing_walked}
use Rattle.spv_assign.specs.limited_steps.Makes.{IsTerm}
use Rattle.spv_assign.proofs.limited_steps.Renamings.{stops_at_one, stops_at_two, walked_two}
use Rattle.spv_flow_parts.specs.Walks.{Comes, ComesTo, Listed}
use Rattle.spv_flow_parts.proofs.Steps.{comes_last, exit, went}

module _ (t : TypeId) (pointer content : TermId) (a : Arena) (p_there : pointer.0 < length a.nodes) (c_there : content.0 < length a.nodes) (rest : List Condition) (within : AreIn a rest) where
  abbrev class : Term
  class = alone (head.ClassVar t 0)

  abbrev extended : Term
  extended = ternary head.Extend class (tree a pointer) (tree a content)

  abbrev pairs : List (Head × Term)
  pairs = (head.ClassVar t 0, extended) ∷ []

  abbrev cs : List logic.Condition
  cs = conditions_of a rest

  abbrev e1 : List Event
  e1 = several (pair_terms pairs)

  abbrev e2 : List Event
  e2 = several (all_terms_in (replaced pairs cs))

  abbrev so : Supply → Made
  so n = record { conditions = replaced pairs cs; supply = n }

  pub class_stops : (o : Listed) (e : GenFault) (b : Arena) → IsErrAnd o (λ f. f ≡ e) → Extends a b → Stops e (one class) a b → ComesTo o (replaced pairs cs) (replacing_events pairs cs) a b
  class_stops o e b is grows stops n numbers = exit o e (so n) n [] e1 (e2 ∷ []) is (nothing_walked a) grows (stops_at_one class extended e a b stops)

  module _ (b : Arena) (k : TermId) (grows1 : Extends a b) (walked1 : Walked (one class) a b) (k_is : IsTerm b k class) where
    extended_is : ternary head.Extend (tree b k) (tree b pointer) (tree b content) ≡ extended
    extended_is = let first = k_is.is_tree in let second = tree-Extends grows1 pointer p_there in let third = tree-Extends grows1 content c_there in λ i. ternary head.Extend (first i) (second i) (third i)

    pub extended_stops : (o : Listed) (e : GenFault) (c : Arena) → IsErrAnd o (λ f. f ≡ e) → Extends b c → Stops e (one (ternary head.Extend (tree b k) (tree b pointer) (tree b content))) b c → ComesTo o (replaced pairs cs) (replacing_events pairs cs) a c
    extended_stops o e c is grows stops n numbers =
        exit o e (so n) n [] e1 (e2 ∷ []) is (nothing_walked a) (Extends-trans grows1 grows) (stops_at_two class extended e a b c walked1 (subst (λ (x : Term). Stops e (one x) b c) extended_is stops))

    module _ (c : Arena) (u : TermId) (grows2 : Extends b c) (walked2 : Walked (one (ternary head.Extend (tree b k) (tree b pointer) (tree b content))) b c) (u_is : IsTerm c u (ternary head.Extend (tree b k) (tree b pointer) (tree b content))) where
      k_stays : tree c k ≡ class
      k_stays = tree-Extends grows2 k k_is.there ∙ k_is.is_tree

      pub cell_pair : sort_at b k ≡ sort.Class t → sort_at c u ≡ sort.Class t → ArePairs c ((k, u) ∷ [])
      cell_pair k_sort u_sort = (
        record {
          variable_there = let longer = length-Extends grows2 in let there = k_is.there in omega (arith, longer, there);
          term_there = u_is.there;
          variable = ap (λ (x : Term). is_variable (head_of x)) k_stays;
          same_sort = u_sort ∙ sym (sort_at-Extends grows2 k k_is.there ∙ k_sort);
        },
        tt,
      )

      pub cell_within : AreIn c rest
      cell_within = AreIn-Extends (Extends-trans grows1 grows2) rest within

      wanted_is : replaced (pairs_of c ((k, u) ∷ [])) (conditions_of c rest) ≡ replaced pairs cs
      wanted_is =
          let head = k_stays in
          let term = u_is.is_tree ∙ extended_is in
          let conditions = conditions_of-Extends (Extends-trans grows1 grows2) rest within in
          λ i. replaced ((head_of (head i), term i) ∷ []) (conditions i)

      pub cell_done : (o : Listed) (d : Arena) → ComesTo o (replaced (pairs_of c ((k, u) ∷ [])) (conditions_of c rest)) (several (all_terms_in (replaced (pairs_of c ((k, u) ∷ [])) (conditions_of c rest)))) c d
          → ComesTo o (replaced pairs cs) (replacing_events pairs cs) a d
      cell_done o d comes n numbers =
          comes_last o (so n) n (e1 ∷ []) e2 (went [] e1 (nothing_walked a) (walked_two class extended a b c walked1 (subst (λ (x : Term). Walked (one x) b c) extended_is walked2)))
          (subst (λ (l : List logic.Condition). Comes o (record { conditions = l; supply = n }) (several (all_terms_in l)) c d n) wanted_is (comes n (AreThere-Extends a c n (Extends-trans grows1 grows2) numbers)))
