-- The condition of which another one claims that all is refuted.
use Rattle.std.proofs.Common.{◌≡◌, ℕ, zero, suc, ◌<◌, ◌-◌, List, [], ◌∷◌, ◌++◌, map, length, take, get_or, Option, Some, None, sym, ap, ◌∙◌, subst, arith}
use Rattle.std.specs.Option.{option_map}
use Rattle.std.proofs.Math.Seq.{take-append_seam}
use Rattle.std.proofs.lemmas.List.{get_or-append_right, get_or-map, length-append, length-map, take-map}
use Rattle.std.proofs.lemmas.Option.{none-some, same_Some}
use Rattle.spv_logic.specs.declared.conditions.TermId.{TermId}
use Rattle.spv_logic.specs.Terms.{Term}
use Rattle.spv_logic.specs.Formulas.{negation}
use Rattle.spv_logic.specs.Conditions.{Sequent}
use Rattle.spv_term.specs.declared.nodes.Condition.{Condition}
use Rattle.spv_term.specs.Arena.{Arena, AllBelow, sequent, tree}
use Rattle.spv_proof_rules.specs.Sums.{negated}
use Rattle.spv_proof_rules.specs.Stand.{question}
use Rattle.spv_search_terms.proofs.subterms.PlaceLemmas.{item_in}
use Rattle.spv_search_terms.specs.condition_copy.Copies.{IsSameClaim}
use Rattle.spv_verdicts.specs.Schemas.{enlarged, further_facts}

below-take : (m : ℕ) (n : ℕ) (ts : List TermId) → AllBelow m ts → AllBelow m (take n ts)
below-take m zero ts h = tt
below-take m (suc n) [] h = tt
below-take m (suc n) (t ∷ ts) h = (h.0, below-take m n ts h.1)

module _ (a : Arena) (c : Condition) (b : Arena) (d : Condition) (given_in : AllBelow (length b.nodes) d.given) (claim : sequent b d ≡ (enlarged (question a c)).sequent) (n : ℕ) (many : n ≡ length c.given) where
  abbrev hypotheses : List Term
  hypotheses = map (tree a) c.given

  abbrev denied : Term
  denied = negation (tree a c.goal)

  all : map (tree b) d.given ≡ hypotheses ++ denied ∷ further_facts (question a c)
  all = ap (λ (s : Sequent). s.given) claim

  as_many : n ≡ length hypotheses
  as_many = many ∙ sym (length-map c.given (tree a))

  pub longer : n < length d.given
  longer =
      let its : length d.given ≡ length (hypotheses ++ denied ∷ further_facts (question a c)) = sym (length-map d.given (tree b)) ∙ ap length all in
      omega (arith, its, as_many, length-append hypotheses (denied ∷ further_facts (question a c)))

  own : map (tree b) (take n d.given) ≡ hypotheses
  own = sym (take-map (tree b) n d.given) ∙ ap (take n) all ∙ ap (λ k. take k (hypotheses ++ denied ∷ further_facts (question a c))) as_many ∙ take-append_seam hypotheses (denied ∷ further_facts (question a c))

  module _ (given : List TermId) (given_is : given ≡ d.given) (x : TermId) where
    pub denied-in : (get_or given n x).0 < length b.nodes
    denied-in = item_in (length b.nodes) d.given given n x given_is given_in (subst (λ (ts : List TermId). n < length ts) (sym given_is) longer)

    denied_there : tree b (get_or given n x) ≡ denied
    denied_there =
        ap (λ (ts : List TermId). tree b (get_or ts n x)) given_is
        ∙ sym (get_or-map (tree b) d.given n x (tree b x) longer)
        ∙ ap (λ ts. get_or ts n (tree b x)) all
        ∙ get_or-append_right hypotheses (denied ∷ further_facts (question a c)) n n (tree b x) (sym as_many) (omega arith)
        ∙ ap (λ k. get_or (denied ∷ further_facts (question a c)) k (tree b x)) none_left
      where
        none_left : n - n ≡ 0
        none_left = omega arith

    module _ (o : Option TermId) (value : option_map (tree b) o ≡ negated (tree b (get_or given n x))) where
      known : option_map (tree b) o ≡ Some (tree a c.goal)
      known = value ∙ ap negated denied_there

      pub never-none : o ≡ None → ⊥
      never-none none = none-some _ (sym (ap (option_map (tree b)) none) ∙ known)

      pub own-claim : (goal : TermId) → o ≡ Some goal → goal.0 < length b.nodes → (ts : List TermId) → ts ≡ take n d.given → d.origin ≡ c.origin → IsSameClaim a c b (record { given = ts; goal = goal; origin = d.origin })
      own-claim goal some within ts is origin = record {
        given_in = subst (AllBelow (length b.nodes)) (sym is) (below-take (length b.nodes) n d.given given_in);
        goal_in = within;
        claim =
            let first = ap (map (tree b)) is ∙ own in
            let last : tree b goal ≡ tree a c.goal = same_Some (tree b goal) (tree a c.goal) (sym (ap (option_map (tree b)) some) ∙ known) in
            λ i. record { given = first i; goal = last i };
        origin = origin;
      }
