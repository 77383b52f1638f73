-- Terms, and pairs of variables and terms, that are made one after the other.
use Rattle.std.proofs.Common.{◌≡◌, ◌<◌, true, List, [], ◌∷◌, ◌++◌, length, Result, Ok, Err, OnOk, IsErrAnd, Some, refl, sym, ap, subst, ◌∙◌, arith}
use Rattle.std.proofs.lemmas.List.{append_assoc}
use Rattle.std.specs.Prelude.{⊤}
use Rattle.spv_logic.specs.declared.conditions.TermId.{TermId}
use Rattle.spv_logic.specs.declared.operators.Head.{Head}
use Rattle.spv_logic.specs.Terms.{Term}
use Rattle.spv_logic.specs.Sorts.{result_sort, term_sort, variable_sort}
use Rattle.spv_logic.specs.Substitution.{is_variable}
use Rattle.spv_term.specs.Arena.{Arena, Extends, IsArena, sort_at, tree}
use Rattle.spv_term.proofs.ArenaLemmas.{Extends-refl, Extends-trans, length-Extends, sort_at-Extends, term_sort-tree, tree-Extends}
use Rattle.spv_term.specs.substitution.Images.{ArePairs, head_at, head_of}
use Rattle.spv_term.specs.substitution.Parts.{is_part_of}
use Rattle.spv_program.specs.Terms.{alone}
use Rattle.spv_program.proofs.SortFacts.{some_is}
use Rattle.spv_assign.specs.Conditions.{pairs_of}
use Rattle.spv_assign.specs.declared.creation_trace.faults.GenFault.{GenFault}
use Rattle.spv_assign.specs.creation_trace.Events.{Stops, Walked}
use Rattle.spv_assign.specs.creation_trace.StatementEvents.{one, pair_terms, several}
use Rattle.spv_assign.proofs.creation_trace.Walks.{adds_nothing, part_behind, stopped_behind}
use Rattle.spv_assign.proofs.creation_trace.Covering.{AreCovered, covered_answers, covered_stops}
use Rattle.spv_assign.proofs.supply.FreshLemmas.{variable_result}
use Rattle.spv_assign.specs.limited_steps.Makes.{IsTerm}
use Rattle.spv_assign.proofs.limited_steps.Limits.{same_stop}
use Rattle.spv_assign.proofs.limited_steps.Renamings.{stops_at_one, walked_two}
use Rattle.spv_flow_parts.specs.calls.Arguments.{AddsPairs}
use Rattle.spv_flow_parts.proofs.Steps.{append_nil}
use Rattle.spv_flow_parts.proofs.Pairs.{ArePairs-Extends, are_pairs_both, begun_covered, pairs_both, pairs_of-Extends, terms_both, two_walks}

-- ---- terms

-- a term that is there may be made again
pub there_already : (a : Arena) (t : TermId) (x : Term) → IsTerm a t x → Walked (one x) a a
there_already a t x is = record {
  grows = Extends-refl a;
  there = (record { id = t; there = is.there; is_tree = is.is_tree }, tt);
  only = adds_nothing a (x ∷ []);
  lists = tt;
}

pub record TermsSoFar (old a : Arena) (all rest : List Term) : Type 0 where
  pub done : List Term
  pub parts : done ++ rest ≡ all
  pub walked : Walked (several done) old a

pub terms_begin : (old : Arena) (all : List Term) → TermsSoFar old old all all
terms_begin old all = record {
  done = [];
  parts = refl;
  walked = record { grows = Extends-refl old; there = tt; only = adds_nothing old []; lists = tt };
}

pub terms_next : {old a b : Arena} (all xs rest : List Term) → TermsSoFar old a all (xs ++ rest) → Walked (several xs) a b → TermsSoFar old b all rest
terms_next {old} {a} {b} all xs rest h walked = record {
  done = h.done ++ xs;
  parts = append_assoc h.done xs rest ∙ h.parts;
  walked = two_walks h.done xs h.walked walked;
}

pub terms_stop : (e : GenFault) (old a b : Arena) (all xs rest : List Term) → TermsSoFar old a all (xs ++ rest) → Stops e (several xs) a b → Stops e (several all) old b
terms_stop e old a b all xs rest h stops =
    covered_stops (several h.done ++ several xs) refl all covered e old b (stopped_behind e (several h.done) (several xs) old a b h.walked stops)
  where
    covered : AreCovered (h.done ++ (xs ++ [])) all
    covered =
        subst (λ (l : List Term). AreCovered (h.done ++ l) all) (sym (append_nil xs))
        (subst (λ (l : List Term). AreCovered (h.done ++ xs) l) (append_assoc h.done xs rest ∙ h.parts) (begun_covered (h.done ++ xs) rest))

pub terms_end : {old a : Arena} (all rest : List Term) → rest ≡ [] → TermsSoFar old a all rest → Walked (several all) old a
terms_end {old} {a} all rest none h =
    subst (λ (l : List Term). Walked (several l) old a) (sym (append_nil h.done) ∙ ap (λ (l : List Term). h.done ++ l) (sym none) ∙ h.parts) h.walked

-- ---- one pair

pub not_ok : (P : Type 0) (r : Result ⊤ GenFault) (e : GenFault) → IsErrAnd r (λ f. f ≡ e) → OnOk r P
not_ok P (Ok u) e h = absurd h
not_ok P (Err f) e h = tt

module _ (a b : Arena) (h : Head) (t n : TermId) (ok : IsArena a) (there : t.0 < length a.nodes) (variable : is_variable h ≡ true)
    (sort : term_sort a.shapes a.decls (tree a t) ≡ Some (variable_sort h)) (grows : Extends a b) where
  pub pair_stops : (r : Result ⊤ GenFault) (e : GenFault) (now new : List (TermId × TermId)) → IsErrAnd r (λ f. f ≡ e) → Stops e (one (alone h)) a b → AddsPairs r ((h, tree a t) ∷ []) a b now new
  pair_stops r e now new is stops = record {
    grows = grows;
    walk = same_stop r e (several (alone h ∷ tree a t ∷ [])) a b is (stops_at_one (alone h) (tree a t) e a b stops);
    pairs = λ before same fit. not_ok _ r e is;
  }

  module _ (is : IsTerm b n (alone h)) (of_sort : result_sort a.shapes a.decls h [] ≡ Some (sort_at b n)) (walked : Walked (one (alone h)) a b) where
    stays : IsTerm b t (tree a t)
    stays = record { there = let longer = length-Extends grows in omega (arith, there, longer); is_tree = tree-Extends grows t there }

    same_sorts : sort_at b t ≡ sort_at b n
    same_sorts =
        sort_at-Extends grows t there
        ∙ some_is (sym (term_sort-tree a ok (tree a t) t there refl) ∙ sort ∙ (sym (variable_result a.shapes a.decls h variable) ∙ of_sort))

    pub pair_added : (u : ⊤) (now new : List (TermId × TermId)) → new ≡ now ++ (n, t) ∷ [] → AddsPairs (Ok u) ((h, tree a t) ∷ []) a b now new
    pair_added u now new pushed = record {
      grows = grows;
      walk = walked_two (alone h) (tree a t) a b b walked (there_already b t (tree a t) stays);
      pairs = λ before same fit. (ap (pairs_of b) pushed ∙ both before same fit, subst (ArePairs b) (sym pushed) (are fit));
    }
      where
        both : (before : List (Head × Term)) → pairs_of a now ≡ before → ArePairs a now → pairs_of b (now ++ (n, t) ∷ []) ≡ before ++ (h, tree a t) ∷ []
        both before same fit =
            let first = pairs_of-Extends grows now fit ∙ same in
            let variable : head_at b n ≡ h = ap head_of is.is_tree in
            let term : tree b t ≡ tree a t = tree-Extends grows t there in
            pairs_both b now ((n, t) ∷ []) ∙ (λ i. first i ++ (variable i, term i) ∷ [])

        are : ArePairs a now → ArePairs b (now ++ (n, t) ∷ [])
        are fit =
            are_pairs_both b now ((n, t) ∷ []) (ArePairs-Extends grows now fit) (
              record {
                variable_there = is.there;
                term_there = stays.there;
                variable = ap is_variable (ap head_of is.is_tree) ∙ variable;
                same_sort = same_sorts;
              },
              tt,
            )

-- what stands in a variable's place may be made first
module _ (a b : Arena) (h : Head) (x : Term) where
  last_covered : AreCovered (x ∷ []) (alone h ∷ x ∷ [])
  last_covered = record { each = λ y e. or_more y e }
    where
      or_more : (y : Term) → is_part_of (x ∷ []) y ≡ true → is_part_of (alone h ∷ x ∷ []) y ≡ true
      or_more y e = part_behind (alone h ∷ []) (x ∷ []) y e

  pub last_stops : (r : Result ⊤ GenFault) (e : GenFault) (now new : List (TermId × TermId)) → IsErrAnd r (λ f. f ≡ e) → Extends a b → Stops e (one x) a b → AddsPairs r ((h, x) ∷ []) a b now new
  last_stops r e now new is grows stops = record {
    grows = grows;
    walk = same_stop r e (several (alone h ∷ x ∷ [])) a b is (covered_stops (one x) refl (alone h ∷ x ∷ []) last_covered e a b stops);
    pairs = λ before same fit. not_ok _ r e is;
  }

  pub last_first : (r : Result ⊤ GenFault) (c : Arena) (now new : List (TermId × TermId)) → Extends a b → Walked (one x) a b → AddsPairs r ((h, x) ∷ []) b c now new → AddsPairs r ((h, x) ∷ []) a c now new
  last_first r c now new grows walked k = record {
    grows = Extends-trans grows k.grows;
    walk = covered_answers (one x) refl (alone h ∷ x ∷ []) last_covered r a b c walked k.walk;
    pairs = λ before same fit. k.pairs before (pairs_of-Extends grows now fit ∙ same) (ArePairs-Extends grows now fit);
  }

-- ---- pairs

pub record PairsSoFar (old a : Arena) (all rest : List (Head × Term)) (start now : List (TermId × TermId)) : Type 0 where
  pub done : List (Head × Term)
  pub parts : done ++ rest ≡ all
  pub walked : Walked (several (pair_terms done)) old a
  pub pairs : (before : List (Head × Term)) → pairs_of old start ≡ before → ArePairs old start → (pairs_of a now ≡ before ++ done) × ArePairs a now

pub pairs_begin : (old : Arena) (all : List (Head × Term)) (start : List (TermId × TermId)) → PairsSoFar old old all all start start
pairs_begin old all start = record {
  done = [];
  parts = refl;
  walked = record { grows = Extends-refl old; there = tt; only = adds_nothing old []; lists = tt };
  pairs = λ before same fit. (same ∙ sym (append_nil before), fit);
}

pub pairs_none : (old : Arena) (all : List (Head × Term)) (start : List (TermId × TermId)) → start ≡ [] → PairsSoFar old old all all [] start
pairs_none old all start none = subst (λ (l : List (TermId × TermId)). PairsSoFar old old all all [] l) (sym none) (pairs_begin old all [])

module _ (old a b : Arena) (all qs rest : List (Head × Term)) (start now : List (TermId × TermId)) (h : PairsSoFar old a all (qs ++ rest) start now) where
  terms_left : TermsSoFar old a (pair_terms all) (pair_terms qs ++ pair_terms rest)
  terms_left = record {
    done = pair_terms h.done;
    parts = ap (λ (l : List Term). pair_terms h.done ++ l) (sym (terms_both qs rest)) ∙ sym (terms_both h.done (qs ++ rest)) ∙ ap pair_terms h.parts;
    walked = h.walked;
  }

  pub pairs_stop_walk : (e : GenFault) → Stops e (several (pair_terms qs)) a b → Stops e (several (pair_terms all)) old b
  pairs_stop_walk e stops = terms_stop e old a b (pair_terms all) (pair_terms qs) (pair_terms rest) terms_left stops

  pub pairs_next : (u : ⊤) (new : List (TermId × TermId)) → AddsPairs (Ok u) qs a b now new → PairsSoFar old b all rest start new
  pairs_next u new k = record {
    done = h.done ++ qs;
    parts = append_assoc h.done qs rest ∙ h.parts;
    walked = subst (λ (l : List Term). Walked (several l) old b) (sym (terms_both h.done qs)) (two_walks (pair_terms h.done) (pair_terms qs) h.walked k.walk);
    pairs = λ before same fit.
        (let first = h.pairs before same fit in
        let both = k.pairs (before ++ h.done) first.0 first.1 in
        (both.0 ∙ append_assoc before h.done qs, both.1));
  }

  pub pairs_stop : (r : Result ⊤ GenFault) (e : GenFault) (new last : List (TermId × TermId)) → IsErrAnd r (λ f. f ≡ e) → AddsPairs (Err e) qs a b now new → AddsPairs r all old b start last
  pairs_stop r e new last is k = record {
    grows = Extends-trans h.walked.grows k.grows;
    walk = same_stop r e (several (pair_terms all)) old b is (pairs_stop_walk e k.walk);
    pairs = λ before same fit. not_ok _ r e is;
  }

module _ {old a : Arena} (all rest : List (Head × Term)) (start now : List (TermId × TermId)) (none : rest ≡ []) (h : PairsSoFar old a all rest start now) where
  all_done : h.done ≡ all
  all_done = sym (append_nil h.done) ∙ ap (λ (l : List (Head × Term)). h.done ++ l) (sym none) ∙ h.parts

  pub pairs_walk : Walked (several (pair_terms all)) old a
  pairs_walk = subst (λ (l : List (Head × Term)). Walked (several (pair_terms l)) old a) all_done h.walked

  pub pairs_end : (u : ⊤) → AddsPairs (Ok u) all old a start now
  pairs_end u = record {
    grows = h.walked.grows;
    walk = pairs_walk;
    pairs = λ before same fit. (let both = h.pairs before same fit in (both.0 ∙ ap (λ (l : List (Head × Term)). before ++ l) all_done, both.1));
  }
