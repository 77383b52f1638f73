-- Tests joined by OR.
use Rattle.std.proofs.Common.{◌≡◌, ◌<◌, ℤ, true, List, [], ◌∷◌, length, fold, Result, IfOk, refl, sym, ap, subst, ◌∙◌, arith}
use Rattle.std.proofs.lemmas.Bool.{or_left}
use Rattle.spv_logic.specs.declared.conditions.TermId.{TermId}
use Rattle.spv_logic.specs.declared.types.Sort.TheVariants as sort
use Rattle.spv_logic.specs.declared.operators.Head.TheVariants as head
use Rattle.spv_logic.specs.Terms.{Term, terms, no_terms}
use Rattle.spv_term.specs.Arena.{Arena, Extends, tree, sort_at}
use Rattle.spv_term.proofs.ArenaLemmas.{Extends-refl, Extends-trans, tree-Extends, sort_at-Extends, length-Extends}
use Rattle.spv_term.specs.substitution.Parts.{is_part}
use Rattle.spv_term.proofs.substitution.PartLemmas.{is_part-refl, part_of_args}
use Rattle.spv_program.specs.Terms.{binary, numeral}
use Rattle.spv_assign.specs.declared.creation_trace.faults.GenFault.{GenFault}
use Rattle.spv_assign.specs.creation_trace.Events.{Walked, Stops, Answers}
use Rattle.spv_assign.specs.creation_trace.StatementEvents.{one}
use Rattle.spv_assign.proofs.creation_trace.Walks.{adds_nothing}
use Rattle.spv_assign.proofs.creation_trace.Covering.{covered_one, part_of_part, covered_walked, covered_behind, covered_stops, covered_answers}
use Rattle.spv_assign.specs.limited_steps.Makes.{IsTerm}
use Rattle.spv_assign.specs.limited_steps.Labels.{or_number}
use Rattle.spv_assign.proofs.limited_steps.Limits.{first_covered, if_ok}

-- a test is a part of what it is joined to
pub joined_part : (t s : Term) (zs : List ℤ) → is_part s (fold (or_number t) s zs) ≡ true
joined_part t s [] = is_part-refl s
joined_part t s (z ∷ zs) =
    part_of_part s (or_number t s z) (fold (or_number t) (or_number t s z) zs)
    (part_of_args s head.Or (terms s (terms (binary head.Eq t (numeral z)) no_terms)) (or_left (is_part s s) _ (is_part-refl s)))
    (joined_part t (or_number t s z) zs)

-- what was joined so far, and what it leads to
pub record JoinedSoFar (old a : Arena) (t all : TermId) (whole : Term) (rest : List ℤ) : Type 0 where
  pub grows : Extends old a
  pub there : all.0 < length a.nodes
  pub is_sort : sort_at a all ≡ sort.Bool
  pub leads : fold (or_number (tree old t)) (tree a all) rest ≡ whole
  pub walked : Walked (one (tree a all)) old a

module _ (old : Arena) (t test : TermId) (zs : List ℤ) (t_there : t.0 < length old.nodes) (there : test.0 < length old.nodes) (is_bool : sort_at old test ≡ sort.Bool) where
  whole : Term
  whole = fold (or_number (tree old t)) (tree old test) zs

  pub joined_first : JoinedSoFar old old t test (fold (or_number (tree old t)) (tree old test) zs) zs
  joined_first = record {
    grows = Extends-refl old;
    there = there;
    is_sort = is_bool;
    leads = refl;
    walked = record {
      grows = Extends-refl old;
      there = (record { id = test; there = there; is_tree = refl }, tt);
      only = adds_nothing old (tree old test ∷ []);
      lists = tt;
    };
  }

module _ (old a b : Arena) (t all : TermId) (goal : Term) (z : ℤ) (rest : List ℤ) (t_there : t.0 < length old.nodes)
    (h : JoinedSoFar old a t all goal (z ∷ rest)) where
  same_t : tree a t ≡ tree old t
  same_t = tree-Extends h.grows t t_there

  same_next : or_number (tree a t) (tree a all) z ≡ or_number (tree old t) (tree a all) z
  same_next = ap (λ (s : Term). or_number s (tree a all) z) same_t

  next_part : is_part (or_number (tree old t) (tree a all) z) goal ≡ true
  next_part = subst (λ (g : Term). is_part (or_number (tree old t) (tree a all) z) g ≡ true) h.leads (joined_part (tree old t) (or_number (tree old t) (tree a all) z) rest)

  pub joined_next : (u : TermId) → IsTerm b u (or_number (tree a t) (tree a all) z) → sort_at b u ≡ sort.Bool → Extends a b → Walked (one (or_number (tree a t) (tree a all) z)) a b
      → JoinedSoFar old b t u goal rest
  joined_next u is is_bool more walked =
      let same : tree b u ≡ or_number (tree old t) (tree a all) z = is.is_tree ∙ same_next in
      record {
        grows = Extends-trans h.grows more;
        there = is.there;
        is_sort = is_bool;
        leads = ap (λ (s : Term). fold (or_number (tree old t)) s rest) same ∙ h.leads;
        walked = subst (λ (s : Term). Walked (one s) old b) (sym is.is_tree)
            (covered_walked (one (tree a all)) refl (or_number (tree a t) (tree a all) z ∷ [])
            (first_covered head.Or (tree a all) (binary head.Eq (tree a t) (numeral z))) old a b h.walked walked);
      }

  pub joined_stops : (e : GenFault) → Stops e (one (or_number (tree a t) (tree a all) z)) a b → Stops e (one goal) old b
  joined_stops e stops =
      covered_stops (one (or_number (tree a t) (tree a all) z)) refl (goal ∷ [])
      (covered_one (or_number (tree a t) (tree a all) z) goal (subst (λ (s : Term). is_part s goal ≡ true) (sym same_next) next_part)) e old b
      (covered_behind (one (tree a all)) refl (or_number (tree a t) (tree a all) z ∷ []) (first_covered head.Or (tree a all) (binary head.Eq (tree a t) (numeral z))) e old a b h.walked stops)

module _ (old a : Arena) (t all : TermId) (goal : Term) (h : JoinedSoFar old a t all goal []) where
  pub joined_term : IsTerm a all goal
  joined_term = record { there = h.there; is_tree = h.leads }

  pub joined_walk : Walked (one goal) old a
  joined_walk = subst (λ (s : Term). Walked (one s) old a) h.leads h.walked

module _ (old a : Arena) (t all : TermId) (goal : Term) (rest : List ℤ) (t_there : t.0 < length old.nodes) where
  pub joined_t : JoinedSoFar old a t all goal rest → t.0 < length a.nodes
  joined_t h = let longer = length-Extends h.grows in omega (arith, t_there, longer)

  pub joined_t_sort : sort_at old t ≡ sort.Int → JoinedSoFar old a t all goal rest → sort_at a t ≡ sort.Int
  joined_t_sort is h = sort_at-Extends h.grows t t_there ∙ is

-- ---- the first number

module _ (a b : Arena) (t test : TermId) (start : Term) (zs : List ℤ) (grows : Extends a b) (t_there : t.0 < length a.nodes) (is : IsTerm b test start) where
  same_fold : fold (or_number (tree b t)) (tree b test) zs ≡ fold (or_number (tree a t)) start zs
  same_fold = let first = tree-Extends grows t t_there in let second = is.is_tree in λ i. fold (or_number (first i)) (second i) zs

  pub one_term : (r : Result TermId GenFault) (c : Arena) → IfOk r (λ u. IsTerm c u (fold (or_number (tree b t)) (tree b test) zs)) → IfOk r (λ u. IsTerm c u (fold (or_number (tree a t)) start zs))
  one_term r c made = if_ok r made (λ u m. record { there = m.there; is_tree = m.is_tree ∙ same_fold })

  pub one_walk : {X : Type 0} (r : Result X GenFault) (c : Arena) → Walked (one start) a b → Answers r (one (fold (or_number (tree b t)) (tree b test) zs)) b c
      → Answers r (one (fold (or_number (tree a t)) start zs)) a c
  one_walk r c first rest =
      covered_answers (one start) refl (fold (or_number (tree a t)) start zs ∷ []) (covered_one start (fold (or_number (tree a t)) start zs) (joined_part (tree a t) start zs)) r a b c first
      (subst (λ (s : Term). Answers r (one s) b c) same_fold rest)

  pub one_t : t.0 < length b.nodes
  one_t = let longer = length-Extends grows in omega (arith, t_there, longer)

  pub one_t_sort : sort_at a t ≡ sort.Int → sort_at b t ≡ sort.Int
  one_t_sort e = sort_at-Extends grows t t_there ∙ e

pub stops_at_first : (t start : Term) (zs : List ℤ) (e : GenFault) (a b : Arena) → Stops e (one start) a b → Stops e (one (fold (or_number t) start zs)) a b
stops_at_first t start zs e a b stops =
    covered_stops (one start) refl (fold (or_number t) start zs ∷ []) (covered_one start (fold (or_number t) start zs) (joined_part t start zs)) e a b stops
