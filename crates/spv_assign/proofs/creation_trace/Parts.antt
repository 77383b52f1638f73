-- The parts of terms that are there.
use Rattle.std.proofs.Common.{◌≡◌, ◌<◌, ◌↔◌, true, List, [], ◌∷◌, length, IsTrue, sym, ap, ◌∙◌, arith}
use Rattle.std.proofs.lemmas.Bool.{false≢true}
use Rattle.spv_logic.specs.declared.conditions.TermId.{TermId}
use Rattle.spv_logic.specs.Terms.{Term, Terms, term, terms, no_terms, term_eq}
use Rattle.spv_logic.proofs.Equality.{term_eq-true}
use Rattle.spv_term.specs.Arena.{Arena, IsArena, AllBelow, tree, trees}
use Rattle.spv_term.proofs.ArenaLemmas.{node_of, args_in_range, tree-node}
use Rattle.spv_term.specs.substitution.Parts.{is_part, is_part_of_some, is_part_of}
use Rattle.spv_term.proofs.substitution.PartLemmas.{or_split}
use Rattle.spv_assign.specs.creation_trace.Events.{Event, terms_of, HasTerm, HasTerms, Walked, MeetsFullArena}
use Rattle.spv_assign.specs.creation_trace.Laws.{AreMoreParts}
use Rattle.spv_assign.proofs.creation_trace.Walks.{part_first, terms_of_both}

module _ (b : Arena) (ok : IsArena b) where
  mutual
    -- with a term each part of it is there
    pub part_there : (t x : Term) (id : TermId) → id.0 < length b.nodes → tree b id ≡ t → is_part x t ≡ true → HasTerm b x
    part_there (term h ts) x id within is e =
        or_split (term_eq x (term h ts)) (is_part_of_some x ts) e
        (λ same. record { id = id; there = within; is_tree = is ∙ sym (term_eq-true x (term h ts) same) })
        (λ inside.
        (let n = node_of b ok id within in
        let whole : term n.0.head (trees b n.0.args) ≡ term h ts = sym (tree-node b ok id n.0 n.1) ∙ is in
        let same : trees b n.0.args ≡ ts = cc in
        parts_there ts x n.0.args (args_in_range b ok id n.0 n.1) same inside))

    parts_there : (ts : Terms) (x : Term) (ids : List TermId) → AllBelow (length b.nodes) ids → trees b ids ≡ ts → is_part_of_some x ts ≡ true → HasTerm b x
    parts_there no_terms x ids within is e = absurd (false≢true e)
    parts_there (terms t ts) x [] within is e = absurd (none_some t ts is)
      where
        none_some : (t : Term) (ts : Terms) → no_terms ≡ terms t ts → ⊥
        none_some t ts e = cc
    parts_there (terms t ts) x (id ∷ ids) within is e =
        let first : tree b id ≡ t = first_of (tree b id) t (trees b ids) ts is in
        let others : trees b ids ≡ ts = others_of (tree b id) t (trees b ids) ts is in
        or_split (is_part x t) (is_part_of_some x ts) e (part_there t x id within.0 first) (parts_there ts x ids within.1 others)
      where
        first_of : (s t : Term) (ss ts : Terms) → terms s ss ≡ terms t ts → s ≡ t
        first_of s t ss ts e = cc

        others_of : (s t : Term) (ss ts : Terms) → terms s ss ≡ terms t ts → ss ≡ ts
        others_of s t ss ts e = cc

  pub part_of_there : (ts : List Term) (x : Term) → HasTerms b ts → is_part_of ts x ≡ true → HasTerm b x
  part_of_there [] x h e = absurd (false≢true e)
  part_of_there (t ∷ ts) x h e = or_split (is_part x t) (is_part_of ts x) e (part_there t x h.0.id h.0.there h.0.is_tree) (part_of_there ts x h.1)

pub has_the_parts : (events : List Event) (a b : Arena) → a.nodes ≡ [] → IsArena b → Walked events a b → (x : Term) → IsTrue (is_part_of (terms_of events) x) ↔ HasTerm b x
has_the_parts events a b empty ok walked x = (part_of_there b ok (terms_of events) x walked.there, back)
  where
    none : length a.nodes ≡ 0
    none = ap length empty

    back : HasTerm b x → IsTrue (is_part_of (terms_of events) x)
    back h = ap (is_part_of (terms_of events)) (sym h.is_tree) ∙ walked.only.part h.id (let zero = none in omega (arith, zero)) h.there

pub full_means_more : (events : List Event) (a b : Arena) → a.nodes ≡ [] → MeetsFullArena events a b → AreMoreParts b (terms_of events)
full_means_more events a b empty h = record {
  full = h.lacks.lacks.full;
  parts = λ u within. wider (tree b u) (h.only.part u (let zero = none in omega (arith, zero)) within);
  other = h.lacks.missing;
  part = wider h.lacks.missing h.lacks.part;
  absent = λ there. h.lacks.lacks.absent there.id there.there there.is_tree;
}
  where
    none : length a.nodes ≡ 0
    none = ap length empty

    wider : (x : Term) → is_part_of (terms_of h.first) x ≡ true → is_part_of (terms_of events) x ≡ true
    wider x e =
        ap (λ (l : List Term). is_part_of l x) (ap terms_of h.parts ∙ terms_of_both h.first h.after) ∙ part_first (terms_of h.first) (terms_of h.after) x e
