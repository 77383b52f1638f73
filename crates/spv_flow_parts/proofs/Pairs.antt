-- Fresh variables in the place of what a loop changes.
use Rattle.std.proofs.Common.{◌≡◌, true, List, [], ◌∷◌, ◌++◌, refl, sym, ap, subst, ◌∙◌, arith}
use Rattle.std.proofs.lemmas.List.{append_assoc}
use Rattle.spv_logic.specs.declared.conditions.TermId.{TermId}
use Rattle.spv_logic.specs.declared.types.Shape.{Shape}
use Rattle.spv_logic.specs.declared.operators.Head.{Head}
use Rattle.spv_logic.specs.Terms.{Term}
use Rattle.spv_logic.specs.Sorts.{head_in_range}
use Rattle.spv_logic.specs.Substitution.{is_variable}
use Rattle.spv_term.specs.Arena.{Arena, Extends}
use Rattle.spv_term.proofs.ArenaLemmas.{Extends-refl, Extends-trans, tree-Extends, sort_at-Extends, length-Extends}
use Rattle.spv_term.specs.substitution.Images.{IsPair, ArePairs, head_at, head_of}
use Rattle.spv_program.specs.Supplies.{Supply, fresh_like}
use Rattle.spv_program.specs.Terms.{alone}
use Rattle.spv_assign.specs.supply.Numbers.{Taken, AreThere, supply_of}
use Rattle.spv_assign.specs.Conditions.{pairs_of}
use Rattle.spv_meaning.specs.Before.{renamed}
use Rattle.spv_assign.specs.declared.creation_trace.faults.GenFault.{GenFault}
use Rattle.spv_assign.specs.creation_trace.Events.{Walked, Stops}
use Rattle.spv_assign.specs.creation_trace.StatementEvents.{several, pair_terms}
use Rattle.spv_assign.proofs.creation_trace.Walks.{adds_nothing, part_first, walked_behind, stopped_behind}
use Rattle.spv_assign.proofs.creation_trace.Covering.{AreCovered, covered_stops, same_walk}
use Rattle.spv_assign.specs.limited_steps.Makes.{IsFreshPair}
use Rattle.spv_flow_parts.specs.Standing.{AllRenamed}
use Rattle.spv_flow_parts.specs.Walks.{AreRenamed}
use Rattle.spv_flow_parts.proofs.Steps.{append_nil}

-- ---- arenas that grow

module _ {a b : Arena} (more : Extends a b) where
  IsPair-Extends : (p : TermId × TermId) → IsPair a p → IsPair b p
  IsPair-Extends p h = record {
    variable_there = let longer = length-Extends more in let there = h.variable_there in omega (arith, longer, there);
    term_there = let longer = length-Extends more in let there = h.term_there in omega (arith, longer, there);
    variable = ap (λ (t : Term). is_variable (head_of t)) (tree-Extends more p.0 h.variable_there) ∙ h.variable;
    same_sort = sort_at-Extends more p.1 h.term_there ∙ h.same_sort ∙ sym (sort_at-Extends more p.0 h.variable_there);
  }

  pub ArePairs-Extends : (pairs : List (TermId × TermId)) → ArePairs a pairs → ArePairs b pairs
  ArePairs-Extends [] h = tt
  ArePairs-Extends (p ∷ pairs) h = (IsPair-Extends p h.0, ArePairs-Extends pairs h.1)

  pub pairs_of-Extends : (pairs : List (TermId × TermId)) → ArePairs a pairs → pairs_of b pairs ≡ pairs_of a pairs
  pairs_of-Extends [] h = refl
  pairs_of-Extends (p ∷ pairs) h =
      let variable = tree-Extends more p.0 h.0.variable_there in
      let term = tree-Extends more p.1 h.0.term_there in
      let others = pairs_of-Extends pairs h.1 in
      λ i. (head_of (variable i), term i) ∷ others i

pub all_there : (a b : Arena) (heads : List Head) → Extends a b → AllRenamed a.shapes heads → AllRenamed b.shapes heads
all_there a b heads more h = subst (λ (s : List Shape). AllRenamed s heads) (sym more.shapes) h

-- ---- lists

pub pairs_both : (a : Arena) (xs ys : List (TermId × TermId)) → pairs_of a (xs ++ ys) ≡ pairs_of a xs ++ pairs_of a ys
pairs_both a [] ys = refl
pairs_both a (x ∷ xs) ys = ap (λ (l : List (Head × Term)). pairs_of a (x ∷ []) ++ l) (pairs_both a xs ys)

pub are_pairs_both : (a : Arena) (xs ys : List (TermId × TermId)) → ArePairs a xs → ArePairs a ys → ArePairs a (xs ++ ys)
are_pairs_both a [] ys h k = k
are_pairs_both a (x ∷ xs) ys h k = (h.0, are_pairs_both a xs ys h.1 k)

pub terms_both : (xs ys : List (Head × Term)) → pair_terms (xs ++ ys) ≡ pair_terms xs ++ pair_terms ys
terms_both [] ys = refl
terms_both (x ∷ xs) ys = ap (λ (l : List Term). alone x.0 ∷ x.1 ∷ l) (terms_both xs ys)

pub two_walks : (us vs : List Term) {a b c : Arena} → Walked (several us) a b → Walked (several vs) b c → Walked (several (us ++ vs)) a c
two_walks us vs {a} {b} {c} first rest =
    same_walk (several us ++ several vs) (several (us ++ vs)) a c (sym (append_assoc us vs [])) tt (walked_behind (several us) (several vs) first rest)

-- terms that begin others
pub begun_covered : (us more : List Term) → AreCovered us (us ++ more)
begun_covered us more = record { each = λ x e. part_first us more x e }

-- ---- the renaming

pub record RenamedSoFar (old a : Arena) (start n : Supply) (heads rest : List Head) (pairs : List (TermId × TermId)) : Type 0 where
  pub grows : Extends old a
  pub fit : ArePairs a pairs
  pub there : AreThere a n
  pub left : AllRenamed a.shapes rest
  pub same : pairs_of a pairs ++ (renamed rest n).pairs ≡ (renamed heads start).pairs
  pub supply : (renamed rest n).supply ≡ (renamed heads start).supply
  pub walked : Walked (several (pair_terms (pairs_of a pairs))) old a

pub renamed_first : (old : Arena) (start : Supply) (heads : List Head) (pairs : List (TermId × TermId)) → pairs ≡ [] → AllRenamed old.shapes heads → AreThere old start → RenamedSoFar old old start start heads heads pairs
renamed_first old start heads pairs none all there = subst (λ (l : List (TermId × TermId)). RenamedSoFar old old start start heads heads l) (sym none) (record {
  grows = Extends-refl old;
  fit = tt;
  there = there;
  left = all;
  same = refl;
  supply = refl;
  walked = record { grows = Extends-refl old; there = tt; only = adds_nothing old []; lists = tt };
})

module _ (old a : Arena) (start n : Supply) (heads rest : List Head) (head : Head) (pairs : List (TermId × TermId)) (h : RenamedSoFar old a start n heads (head ∷ rest) pairs) where
  pub next_variable : is_variable head ≡ true
  next_variable = h.left.0.0

  pub next_type : head_in_range a.shapes head ≡ true
  next_type = h.left.0.1

  abbrev two : List Term
  two = alone head ∷ alone (fresh_like head n).head ∷ []

  all_terms : pair_terms (renamed heads start).pairs ≡ pair_terms (pairs_of a pairs) ++ (alone head ∷ alone (fresh_like head n).head ∷ pair_terms (renamed rest (fresh_like head n).supply).pairs)
  all_terms = ap pair_terms (sym h.same) ∙ terms_both (pairs_of a pairs) (renamed (head ∷ rest) n).pairs

  covered : AreCovered (pair_terms (pairs_of a pairs) ++ (two ++ [])) (pair_terms (renamed heads start).pairs)
  covered =
      subst (λ (l : List Term). AreCovered l (pair_terms (renamed heads start).pairs)) (ap (λ (l : List Term). pair_terms (pairs_of a pairs) ++ l) (sym (append_nil two)))
      (subst (λ (l : List Term). AreCovered (pair_terms (pairs_of a pairs) ++ two) l)
      (append_assoc (pair_terms (pairs_of a pairs)) two (pair_terms (renamed rest (fresh_like head n).supply).pairs) ∙ sym all_terms)
      (begun_covered (pair_terms (pairs_of a pairs) ++ two) (pair_terms (renamed rest (fresh_like head n).supply).pairs)))

  pub renamed_stops : (b : Arena) (e : GenFault) → Stops e (several two) a b → Stops e (several (pair_terms (renamed heads start).pairs)) old b
  renamed_stops b e stops =
      covered_stops (several (pair_terms (pairs_of a pairs)) ++ several two) refl (pair_terms (renamed heads start).pairs) covered e old b
      (stopped_behind e (several (pair_terms (pairs_of a pairs))) (several two) old a b h.walked stops)

  module _ (b : Arena) (taken : Taken) (p : TermId × TermId) (fresh : IsFreshPair b taken p head n) (more : Extends a b) where
    new_pairs : pairs_of b (pairs ++ p ∷ []) ≡ pairs_of a pairs ++ (head, alone (fresh_like head n).head) ∷ []
    new_pairs =
        let before = pairs_of-Extends more pairs h.fit in
        let variable : head_at b p.0 ≡ head = ap head_of fresh.variable in
        let term = fresh.fresh in
        pairs_both b pairs (p ∷ []) ∙ (λ i. before i ++ (variable i, term i) ∷ [])

    pub renamed_next : AreThere b (supply_of taken) → Walked (several two) a b → RenamedSoFar old b start (supply_of taken) heads rest (pairs ++ p ∷ [])
    renamed_next there walked = record {
      grows = Extends-trans h.grows more;
      fit = are_pairs_both b pairs (p ∷ []) (ArePairs-Extends more pairs h.fit) (fresh.pair, tt);
      there = there;
      left = all_there a b rest more h.left.1;
      same =
          ap (λ (l : List (Head × Term)). l ++ (renamed rest (supply_of taken)).pairs) new_pairs
          ∙ append_assoc (pairs_of a pairs) ((head, alone (fresh_like head n).head) ∷ []) (renamed rest (supply_of taken)).pairs
          ∙ ap (λ (m : Supply). pairs_of a pairs ++ (head, alone (fresh_like head n).head) ∷ (renamed rest m).pairs) fresh.supply
          ∙ h.same;
      supply = ap (λ (m : Supply). (renamed rest m).supply) fresh.supply ∙ h.supply;
      walked =
          subst (λ (l : List Term). Walked (several l) old b) (sym (ap pair_terms new_pairs ∙ terms_both (pairs_of a pairs) ((head, alone (fresh_like head n).head) ∷ [])))
          (two_walks (pair_terms (pairs_of a pairs)) two h.walked walked);
    }

    pub renamed_pushed : (new : List (TermId × TermId)) → new ≡ pairs ++ p ∷ [] → AreThere b (supply_of taken) → Walked (several two) a b → RenamedSoFar old b start (supply_of taken) heads rest new
    renamed_pushed new e there walked = subst (λ (l : List (TermId × TermId)). RenamedSoFar old b start (supply_of taken) heads rest l) (sym e) (renamed_next there walked)

module _ (old a : Arena) (start n : Supply) (heads : List Head) (pairs : List (TermId × TermId)) (h : RenamedSoFar old a start n heads [] pairs) where
  all_pairs : pairs_of a pairs ≡ (renamed heads start).pairs
  all_pairs = sym (append_nil (pairs_of a pairs)) ∙ h.same

  pub renamed_all : AreRenamed a n pairs (renamed heads start)
  renamed_all = record { fit = h.fit; same = all_pairs; supply = h.supply; there = h.there }

  pub renamed_walk : Walked (several (pair_terms (renamed heads start).pairs)) old a
  renamed_walk = subst (λ (l : List (Head × Term)). Walked (several (pair_terms l)) old a) all_pairs h.walked
