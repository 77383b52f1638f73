-- A term at a place, in conditions.
use Rattle.std.proofs.Common.{◌≡◌, ◌<◌, List, [], ◌∷◌, length, Some, option_map, Ok, IsErrAnd, IsSome, is_some, refl, sym, ap, subst, ◌∙◌}
use Rattle.std.proofs.lemmas.Bool.{or_left, or_right}
use Rattle.spv_logic.specs.declared.conditions.TermId.{TermId}
use Rattle.spv_logic.specs.declared.operators.Head.{Head}
use Rattle.spv_logic.specs.Terms.{Term}
use Rattle.spv_logic.specs.Sorts.{term_sort, variable_sort}
use Rattle.spv_logic.specs.Conditions as logic
use Rattle.spv_term.specs.declared.nodes.Condition.{Condition}
use Rattle.spv_term.specs.Arena.{Arena, IsArena, Extends, tree, sort_at}
use Rattle.spv_term.proofs.ArenaLemmas.{tree-Extends, sort_at-Extends, term_sort-tree}
use Rattle.spv_term.specs.substitution.Images.{head_at, head_of, ArePairs}
use Rattle.spv_term.specs.substitution.Parts.{is_part, is_part_of}
use Rattle.spv_term.proofs.substitution.ImageLemmas.{variable_alone}
use Rattle.spv_term.proofs.substitution.PartLemmas.{is_part-refl}
use Rattle.spv_program.specs.Places.{present, whole_with}
use Rattle.spv_program.specs.Terms.{alone}
use Rattle.spv_program.specs.Supplies.{Supply}
use Rattle.spv_program.proofs.SortFacts.{some_is}
use Rattle.spv_assign.proofs.supply.FreshLemmas.{AreThere-Extends, variable_result}
use Rattle.spv_assign.specs.Conditions.{AreIn, all_terms_in, conditions_of, pairs_of}
use Rattle.spv_assign.proofs.Growing.{conditions_of-Extends}
use Rattle.spv_meaning.specs.Before.{Made, replaced}
use Rattle.spv_assign.specs.declared.creation_trace.faults.GenFault.{GenFault}
use Rattle.spv_assign.specs.creation_trace.Events.{Event, HasTerms, Walked, Stops}
use Rattle.spv_assign.specs.creation_trace.StatementEvents.{one, pair_terms, replacing_events, several}
use Rattle.spv_assign.proofs.creation_trace.Walks.{nothing_walked}
use Rattle.spv_assign.proofs.creation_trace.Covering.{AreCovered, covered_more, covered_nothing, covered_stops}
use Rattle.spv_assign.specs.declared.structures.places.Target.{Target}
use Rattle.spv_assign.specs.structures.Making.{GivesTerm}
use Rattle.spv_assign.specs.structures.Steps.{steps_in}
use Rattle.spv_assign.specs.structures.Targets.{IsTarget, target_in}
use Rattle.spv_flow_parts.specs.Walks.{Comes, ComesTo, Listed}
use Rattle.spv_flow_parts.proofs.Steps.{comes_last, exit, went}
use Rattle.spv_flow_parts.proofs.calls.Wholes.{whole_sorted, target_there}

module _ (d : Target) (v : TermId) (a : Arena) (ok : IsArena a) (target : IsTarget a d) (v_there : v.0 < length a.nodes) (sorts : term_sort a.shapes a.decls (present (target_in a d)) ≡ Some (sort_at a v)) where
  abbrev root : Head
  root = head_at a d.root

  abbrev whole : Term
  whole = whole_with (target_in a d) (tree a v)

  abbrev pairs : List (Head × Term)
  pairs = (root, whole) ∷ []

  whole_has : term_sort a.shapes a.decls whole ≡ Some (variable_sort root)
  whole_has = whole_sorted a.shapes a.decls root (option_map (tree a) d.pointer) (steps_in a d.path) (tree a v) (sort_at a v) target.variable sorts (term_sort-tree a ok (tree a v) v v_there refl)

  pub whole_fits : IsSome (term_sort a.shapes a.decls whole)
  whole_fits = ap (λ o. is_some o) whole_has

  whole_covered : AreCovered (whole ∷ []) (alone root ∷ whole ∷ [])
  whole_covered =
      covered_more whole [] (alone root ∷ whole ∷ [])
      (or_right (is_part whole (alone root)) (is_part_of (whole ∷ []) whole) (or_left (is_part whole whole) (is_part_of [] whole) (is_part-refl whole))) (covered_nothing (alone root ∷ whole ∷ []))

  module _ (rest : List Condition) (within : AreIn a rest) where
    abbrev cs : List logic.Condition
    cs = conditions_of a rest

    abbrev e1 : List Event
    e1 = several (pair_terms pairs)

    abbrev e2 : List Event
    e2 = several (all_terms_in (replaced pairs cs))

    abbrev so : Supply → Made
    so n = record { conditions = replaced pairs cs; supply = n }

    pub whole_stops : (o : Listed) (e : GenFault) (b : Arena) → IsErrAnd o (λ f. f ≡ e) → Extends a b → Stops e (one whole) a b → ComesTo o (replaced pairs cs) (replacing_events pairs cs) a b
    whole_stops o e b is grows stops n numbers = exit o e (so n) n [] e1 (e2 ∷ []) is (nothing_walked a) grows (covered_stops (one whole) refl (alone root ∷ whole ∷ []) whole_covered e a b stops)

    module _ (b : Arena) (u : TermId) (gives : GivesTerm (Ok u) whole a b) (made : Walked (one whole) a b) where
      root_stays : tree b d.root ≡ alone root
      root_stays = tree-Extends gives.grows d.root target.root ∙ variable_alone a ok d.root target.root target.variable

      both_there : HasTerms b (alone root ∷ whole ∷ [])
      both_there = (
        record { id = d.root; there = (target_there gives.grows d target).root; is_tree = root_stays },
        (record { id = u; there = gives.term.there; is_tree = gives.term.is_tree }, tt),
      )

      both_walked : Walked e1 a b
      both_walked = record { grows = gives.grows; there = both_there; only = record { part = λ x low high. whole_covered.each (tree b x) (made.only.part x low high) }; lists = tt }

      same_sorts : sort_at b u ≡ sort_at b d.root
      same_sorts =
          some_is (sym gives.sort ∙ whole_has ∙ sym (variable_result a.shapes a.decls root target.variable) ∙ term_sort-tree a ok (alone root) d.root target.root (variable_alone a ok d.root target.root target.variable))
          ∙ sym (sort_at-Extends gives.grows d.root target.root)

      pub put_pair : ArePairs b ((d.root, u) ∷ [])
      put_pair = (
        record { variable_there = (target_there gives.grows d target).root; term_there = gives.term.there; variable = (target_there gives.grows d target).variable; same_sort = same_sorts },
        tt,
      )

      wanted_is : replaced (pairs_of b ((d.root, u) ∷ [])) (conditions_of b rest) ≡ replaced pairs cs
      wanted_is =
          let head = root_stays in
          let term = gives.term.is_tree in
          let conditions = conditions_of-Extends gives.grows rest within in
          λ i. replaced ((head_of (head i), term i) ∷ []) (conditions i)

      pub put_done : (o : Listed) (c : Arena) → ComesTo o (replaced (pairs_of b ((d.root, u) ∷ [])) (conditions_of b rest)) (several (all_terms_in (replaced (pairs_of b ((d.root, u) ∷ [])) (conditions_of b rest)))) b c
          → ComesTo o (replaced pairs cs) (replacing_events pairs cs) a c
      put_done o c comes n numbers =
          comes_last o (so n) n (e1 ∷ []) e2 (went [] e1 (nothing_walked a) both_walked)
          (subst (λ (l : List logic.Condition). Comes o (record { conditions = l; supply = n }) (several (all_terms_in l)) b c n) wanted_is (comes n (AreThere-Extends a b n gives.grows numbers)))
