-- Trails that go on.
use Rattle.std.proofs.Common.{◌≡◌, ℕ, List, [], ◌∷◌, ◌++◌, length, refl, sym, ap, ◌∙◌, subst, Option, Some, Result, Ok, Err, OnOk, OnErr, append_assoc, inl, inr, ◌⊎◌, arith}
use Rattle.std.proofs.lemmas.Bool.{cases_lt}
use Rattle.std.proofs.lemmas.List.{append-nil, length_push}
use Rattle.std.proofs.lemmas.Option.{slice_get_within, same_Some}
use Rattle.std.specs.Prelude.{slice_get}
use Rattle.spv_logic.specs.declared.conditions.TermId.{TermId}
use Rattle.spv_logic.specs.Formulas.{negation, equation}
use Rattle.spv_logic.specs.Terms.{Term}
use Rattle.spv_term.specs.declared.nodes.Node.{Node}
use Rattle.spv_term.specs.Arena.{Arena, tree}
use Rattle.spv_term.proofs.ListLemmas.{slice_get-append_left, slice_get_push}
use Rattle.spv_congruence.specs.declared.facts.Fact.{Fact}
use Rattle.spv_congruence.specs.Graph.{Graph}
use Rattle.spv_congruence.specs.Keep.{IsNode}
use Rattle.spv_congruence.specs.Told.{AddsParts, IsOf, IsPart, Joins}
use Rattle.spv_derivations.specs.declared.derivation.entries.Entry.{Entry}
use Rattle.spv_derivations.specs.derivation.Derivation.{IsDerivation, fact_at}
use Rattle.spv_derivations.specs.derivation.Derived.{IsTrueTerm, IsFalseTerm}
use Rattle.spv_derivations.proofs.derivation.Growth.{fact_at-more}
use Rattle.spv_derivations.proofs.derivation.Equations.{sides_at-more}
use Rattle.spv_explanations.specs.equalities.Reasons.{MayReason}
use Rattle.spv_congruence.specs.Graph.{AreTerms}
use Rattle.spv_explanations.specs.declared.congruence_side.trail.Trail.{Trail}
use Rattle.spv_explanations.specs.congruence_side.Holding.{AddsTerm, Backs, Grows, HasFacts, Holds, IsBackedFact, Moves}

module _ (a : Arena) where
  pub backed_more : (es more : List Entry) (x : Fact) → IsBackedFact a es x → IsBackedFact a (es ++ more) x
  backed_more es more x h = record {
    equal = λ e. sides_at-more a es more x.why (x.left, x.right) (h.equal e);
    apart = λ e. fact_at-more a es more x.why (negation (equation (tree a x.left) (tree a x.right))) (h.apart e);
  }

  pub backs_more : (es more : List Entry) (told : List Fact) → Backs a es told → Backs a (es ++ more) told
  backs_more es more told h = record { each = λ place x at. backed_more es more x (h.each place x at) }

  pub backs_push : (es : List Entry) (told : List Fact) (x : Fact) → Backs a es told → IsBackedFact a es x → Backs a es (told ++ x ∷ [])
  backs_push es told x h k = record { each = each }
    where
      each : (place : ℕ) (y : Fact) → slice_get (told ++ x ∷ []) place ≡ Some y → IsBackedFact a es y
      each place y at = elim (cases_lt place (length told)) [
        | inl below ↦ h.each place y (sym (slice_get-append_left told (x ∷ []) place below) ∙ at)
        | inr above ↦
            let within = slice_get_within (told ++ x ∷ []) place y at in
            let last : place ≡ length told = omega (arith, length_push told x) in
            let same : x ≡ y = same_Some x y (sym (slice_get_push told x) ∙ ap (slice_get (told ++ x ∷ [])) (sym last) ∙ at) in
            subst (IsBackedFact a es) same k
      ]

  pub facts_push : (nodes : List (Option Node)) (told : List Fact) (x : Fact) → HasFacts nodes told → IsNode nodes x.left → IsNode nodes x.right → HasFacts nodes (told ++ x ∷ [])
  facts_push nodes told x h left right = record { each = each }
    where
      each : (place : ℕ) (y : Fact) → slice_get (told ++ x ∷ []) place ≡ Some y → IsNode nodes y.left × IsNode nodes y.right
      each place y at = elim (cases_lt place (length told)) [
        | inl below ↦ h.each place y (sym (slice_get-append_left told (x ∷ []) place below) ∙ at)
        | inr above ↦
            let within = slice_get_within (told ++ x ∷ []) place y at in
            let last : place ≡ length told = omega (arith, length_push told x) in
            let same : x ≡ y = same_Some x y (sym (slice_get_push told x) ∙ ap (slice_get (told ++ x ∷ [])) (sym last) ∙ at) in
            subst (λ (z : Fact). IsNode nodes z.left × IsNode nodes z.right) same (left, right)
      ]

  node_as : (old new : Graph) → new.nodes ≡ old.nodes → (t : TermId) → IsNode old.nodes t → IsNode new.nodes t
  node_as old new e t h = (h.0, ap (λ ns. slice_get ns t.0) e ∙ h.1)

  -- the derivation goes on
  pub holds_moves : (old new : Trail) → Holds a old → Moves a old.derivation new.derivation → new.graph ≡ old.graph → new.facts.items ≡ old.facts.items → new.truth ≡ old.truth → new.falsity ≡ old.falsity → Holds a new
  holds_moves old new h m graph facts truth falsity = record {
    of = subst (IsOf a) (sym graph) h.of;
    derivation = m.derivation;
    kept = facts ∙ (h.kept ∙ ap (λ (g : Graph). g.told) (sym graph));
    backs = subst (λ (g : Graph). Backs a new.derivation g.told) (sym graph) (subst (λ (es : List Entry). Backs a es old.graph.told) (sym m.is) (backs_more old.derivation m.more old.graph.told h.backs));
    ends = subst (λ (g : Graph). HasFacts g.nodes g.told) (sym graph) h.ends;
    truth = subst (IsTrueTerm a) (sym truth) h.truth;
    falsity = subst (IsFalseTerm a) (sym falsity) h.falsity;
    truth_node = subst (λ (g : Graph). IsNode g.nodes new.truth) (sym graph) (subst (IsNode old.graph.nodes) (sym truth) h.truth_node);
    falsity_node = subst (λ (g : Graph). IsNode g.nodes new.falsity) (sym graph) (subst (IsNode old.graph.nodes) (sym falsity) h.falsity_node);
  }

  pub grows_moves : (old new : Trail) → Moves a old.derivation new.derivation → new.graph ≡ old.graph → new.truth ≡ old.truth → new.falsity ≡ old.falsity → Grows old new
  grows_moves old new m graph truth falsity = record {
    entries = m.more;
    derivation = m.is;
    facts = [];
    told = ap (λ (g : Graph). g.told) graph ∙ sym (append-nil old.graph.told);
    nodes = node_as old.graph new.graph (ap (λ (g : Graph). g.nodes) graph);
    same_nodes = ap (λ (g : Graph). g.nodes) graph;
    same_terms = ap (λ (g : Graph). g.added) graph;
    truth = truth;
    falsity = falsity;
  }

  -- the graph is told a fact
  pub holds_enters : (old new : Trail) (x : Fact) → Holds a old → IsNode old.graph.nodes x.left → IsNode old.graph.nodes x.right → IsBackedFact a old.derivation x → Joins old.graph x new.graph → new.derivation ≡ old.derivation → new.facts.items ≡ old.facts.items ++ x ∷ []
      → new.truth ≡ old.truth → new.falsity ≡ old.falsity → Holds a new
  holds_enters old new x h left right k j derivation facts truth falsity = record {
    of = record { node = λ t n at. h.of.node t n (ap (λ ns. slice_get ns t.0) (sym j.nodes) ∙ at) };
    derivation = subst (IsDerivation a) (sym derivation) h.derivation;
    kept = facts ∙ (ap (λ xs. xs ++ x ∷ []) h.kept ∙ sym j.told);
    backs = subst (Backs a new.derivation) (sym j.told) (subst (λ (es : List Entry). Backs a es (old.graph.told ++ x ∷ [])) (sym derivation) (backs_push old.derivation old.graph.told x h.backs k));
    ends = subst (λ (ns : List (Option Node)). HasFacts ns new.graph.told) (sym j.nodes) (subst (HasFacts old.graph.nodes) (sym j.told) (facts_push old.graph.nodes old.graph.told x h.ends left right));
    truth = subst (IsTrueTerm a) (sym truth) h.truth;
    falsity = subst (IsFalseTerm a) (sym falsity) h.falsity;
    truth_node = node_as old.graph new.graph j.nodes new.truth (subst (IsNode old.graph.nodes) (sym truth) h.truth_node);
    falsity_node = node_as old.graph new.graph j.nodes new.falsity (subst (IsNode old.graph.nodes) (sym falsity) h.falsity_node);
  }

  -- what spv_explanations::equalities asks for
  pub may_reason : (tr : Trail) → Holds a tr → AreTerms tr.graph.nodes tr.graph.added → MayReason a tr.graph tr.derivation
  may_reason tr h terms = record { of = h.of; terms = terms; derivation = h.derivation; backed = record { each = λ place x at e. (h.backs.each place x at).equal e } }

-- terms were added
pub holds_adds : (a : Arena) (old new : Trail) (t : TermId) → Holds a old → AddsParts a t old.graph new.graph → IsOf a new.graph → new.derivation ≡ old.derivation → new.facts.items ≡ old.facts.items → new.truth ≡ old.truth → new.falsity ≡ old.falsity → Holds a new
holds_adds a old new t h adds of derivation facts truth falsity = record {
  of = of;
  derivation = subst (IsDerivation a) (sym derivation) h.derivation;
  kept = facts ∙ (h.kept ∙ sym adds.told);
  backs = subst (Backs a new.derivation) (sym adds.told) (subst (λ (es : List Entry). Backs a es old.graph.told) (sym derivation) h.backs);
  ends = record { each = λ place x at. let both = h.ends.each place x (ap (λ xs. slice_get xs place) (sym adds.told) ∙ at) in (stays x.left both.0, stays x.right both.1) };
  truth = subst (IsTrueTerm a) (sym truth) h.truth;
  falsity = subst (IsFalseTerm a) (sym falsity) h.falsity;
  truth_node = stays new.truth (subst (IsNode old.graph.nodes) (sym truth) h.truth_node);
  falsity_node = stays new.falsity (subst (IsNode old.graph.nodes) (sym falsity) h.falsity_node);
}
  where
    stays : (u : TermId) → IsNode old.graph.nodes u → IsNode new.graph.nodes u
    stays u k = (k.0, adds.kept u k.0 k.1)

abbrev facts_of : List Fact → List Fact
facts_of xs = xs

-- a trail as it begins
pub holds_opens : (a : Arena) (tr : Trail) (t f : TermId) (first second : Graph) → tr.truth ≡ t → tr.falsity ≡ f → first.told ≡ [] → AddsParts a t first second → AddsParts a f second tr.graph → IsOf a tr.graph → IsNode second.nodes t → IsNode tr.graph.nodes f
    → tr.derivation ≡ [] → tr.facts.items ≡ [] → IsTrueTerm a t → IsFalseTerm a f → Holds a tr
holds_opens a tr t f first second truth_is falsity_is none adds more of truth_node falsity_node derivation facts truth falsity =
    let told : tr.graph.told ≡ [] = more.told ∙ (adds.told ∙ none) in
    record {
      of = of;
      derivation = subst (IsDerivation a) (sym derivation) (record { follow = tt });
      kept = facts ∙ sym told;
      backs = subst (Backs a tr.derivation) (sym told) (record { each = λ place x at. absurd (nothing place x at) });
      ends = subst (HasFacts tr.graph.nodes) (sym told) (record { each = λ place x at. absurd (nothing place x at) });
      truth = subst (IsTrueTerm a) (sym truth_is) truth;
      falsity = subst (IsFalseTerm a) (sym falsity_is) falsity;
      truth_node = subst (IsNode tr.graph.nodes) (sym truth_is) (truth_node.0, more.kept t truth_node.0 truth_node.1);
      falsity_node = subst (IsNode tr.graph.nodes) (sym falsity_is) falsity_node;
    }
  where
    nothing : (place : ℕ) (x : Fact) → slice_get (facts_of []) place ≡ Some x → ⊥
    nothing place x at = cc

pub grows_enters : (old new : Trail) (x : Fact) → Joins old.graph x new.graph → new.derivation ≡ old.derivation → new.truth ≡ old.truth → new.falsity ≡ old.falsity → Grows old new
grows_enters old new x j derivation truth falsity = record {
  entries = [];
  derivation = derivation ∙ sym (append-nil old.derivation);
  facts = x ∷ [];
  told = j.told;
  nodes = λ t h. (h.0, ap (λ ns. slice_get ns t.0) j.nodes ∙ h.1);
  same_nodes = j.nodes;
  same_terms = j.added;
  truth = truth;
  falsity = falsity;
}

pub grows_then : (old mid new : Trail) → Grows old mid → Grows mid new → Grows old new
grows_then old mid new g h = record {
  entries = g.entries ++ h.entries;
  derivation = h.derivation ∙ (ap (λ es. es ++ h.entries) g.derivation ∙ append_assoc old.derivation g.entries h.entries);
  facts = g.facts ++ h.facts;
  told = h.told ∙ (ap (λ xs. xs ++ h.facts) g.told ∙ append_assoc old.graph.told g.facts h.facts);
  nodes = λ t n. h.nodes t (g.nodes t n);
  same_nodes = h.same_nodes ∙ g.same_nodes;
  same_terms = h.same_terms ∙ g.same_terms;
  truth = h.truth ∙ g.truth;
  falsity = h.falsity ∙ g.falsity;
}

pub grows_same : (old new : Trail) → new.derivation ≡ old.derivation → new.graph ≡ old.graph → new.truth ≡ old.truth → new.falsity ≡ old.falsity → Grows old new
grows_same old new derivation graph truth falsity = record {
  entries = [];
  derivation = derivation ∙ sym (append-nil old.derivation);
  facts = [];
  told = ap (λ (g : Graph). g.told) graph ∙ sym (append-nil old.graph.told);
  nodes = λ t h. (h.0, ap (λ (g : Graph). slice_get g.nodes t.0) graph ∙ h.1);
  same_nodes = ap (λ (g : Graph). g.nodes) graph;
  same_terms = ap (λ (g : Graph). g.added) graph;
  truth = truth;
  falsity = falsity;
}

-- ---- one part changed

pub course_holds : (a : Arena) (old : Trail) (es : List Entry) → Holds a old → Moves a old.derivation es → Holds a (record old { derivation = es })
course_holds a old es h m = holds_moves a old (record old { derivation = es }) h m refl refl refl refl

pub course_grows : (a : Arena) (old : Trail) (es : List Entry) → Moves a old.derivation es → Grows old (record old { derivation = es })
course_grows a old es m = grows_moves a old (record old { derivation = es }) m refl refl refl

stays : (a : Arena) (old : Trail) → Holds a old → Moves a old.derivation old.derivation
stays a old h = record { more = []; is = sym (append-nil old.derivation); derivation = h.derivation }

pub added_holds : {T E : Type 0} (a : Arena) (old : Trail) (g : Graph) (t : TermId) (r : Result T E) → Holds a old → OnOk r (AddsParts a t old.graph g) → OnOk r (IsOf a g) → OnErr r (g ≡ old.graph) → Holds a (record old { graph = g })
added_holds a old g t (Ok x) h adds of same = holds_adds a old (record old { graph = g }) t h adds of refl refl refl refl
added_holds a old g t (Err x) h adds of same = holds_moves a old (record old { graph = g }) h (stays a old h) same refl refl refl

pub added_term : {T E : Type 0} (a : Arena) (old : Trail) (g : Graph) (t : TermId) (r : Result T E) → OnOk r (AddsParts a t old.graph g) → OnErr r (g ≡ old.graph) → AddsTerm a t old (record old { graph = g })
added_term a old g t (Ok x) adds same = record {
  nodes = λ u k. (k.0, adds.kept u k.0 k.1);
  parts = λ u k. elim (adds.parts u k.0 k.1) [ inl h ↦ let there : IsNode old.graph.nodes u = (k.0, h) in inl there | inr p ↦ inr p ];
  derivation = refl;
  told = adds.told;
  truth = refl;
  falsity = refl;
}
added_term a old g t (Err x) adds same = record {
  nodes = λ u k. (k.0, ap (λ (h : Graph). slice_get h.nodes u.0) same ∙ k.1);
  parts = λ u k. let there : IsNode old.graph.nodes u = (k.0, ap (λ (h : Graph). slice_get h.nodes u.0) (sym same) ∙ k.1) in inl there;
  derivation = refl;
  told = ap (λ (h : Graph). h.told) same;
  truth = refl;
  falsity = refl;
}

abbrev nodes_of : List (Option Node) → List (Option Node)
nodes_of ns = ns

-- only TRUE and FALSE were added
pub opens_parts : (a : Arena) (t f : TermId) (first second third : Graph) → first.nodes ≡ [] → AddsParts a t first second → AddsParts a f second third → (u : TermId) → IsNode third.nodes u → IsPart a t u ⊎ IsPart a f u
opens_parts a t f first second third none adds more u k = elim (more.parts u k.0 k.1) [
  | inl h ↦ inl (by_first (adds.parts u k.0 h))
  | inr p ↦ inr p
]
  where
    nothing : (n : Node) → slice_get (nodes_of []) u.0 ≡ Some (Some n) → ⊥
    nothing n e = cc

    by_first : (slice_get first.nodes u.0 ≡ Some (Some k.0)) ⊎ IsPart a t u → IsPart a t u
    by_first h = elim h [ inl e ↦ absurd (nothing k.0 (ap (λ (ns : List (Option Node)). slice_get ns u.0) (sym none) ∙ e)) | inr p ↦ p ]

-- a fact stays where the trail goes on
pub fact_on : (a : Arena) (old new : Trail) (k : ℕ) (t : Term) → Grows old new → fact_at a old.derivation k ≡ Some t → fact_at a new.derivation k ≡ Some t
fact_on a old new k t g h = ap (λ es. fact_at a es k) g.derivation ∙ fact_at-more a old.derivation g.entries k t h
