-- Labels of a graph are equal exactly where there is a derivation.
use Rattle.std.proofs.Common.{◌≡◌, ◌↔◌, ℕ, zero, suc, ◌<◌, Bool, true, false, ◌&&◌, ◌||◌, List, [], ◌∷◌, length, nat_eq, refl, sym, ap, ◌∙◌, subst, Some, arith, IsTrue}
use Rattle.std.specs.Prelude.{slice_get}
use Rattle.std.specs.Cmp.Derive.{both_true}
use Rattle.std.proofs.lemmas.Bool.{false≢true}
use Rattle.std.proofs.lemmas.Option.{slice_get_within, same_Some}
use Rattle.spv_logic.specs.declared.conditions.TermId.{TermId}
use Rattle.spv_logic.specs.Terms.{Term, Terms}
use Rattle.spv_term.specs.declared.nodes.Node.{Node}
use Rattle.spv_term.specs.Arena.{AllBelow, Arena, IsArena, tree}
use Rattle.spv_atoms.proofs.Members.{or_cases}
use Rattle.spv_union_find.proofs.classes.Lists.{nat_same}
use Rattle.spv_tableau_rules.proofs.pivots.Sums.{eq_is}
use Rattle.spv_tableau_rules.proofs.pivots.Tests.{and_left, and_right}
use Rattle.spv_term.specs.closure.Joined.{AllJoined, congruent, IsAmong, itself, Joined, more, none, through, told, turned}
use Rattle.spv_term.specs.closure.Joined as joined
use Rattle.spv_term.specs.closure.Laws.{Listed}
use Rattle.spv_congruence.specs.declared.facts.Fact.{Fact}
use Rattle.spv_congruence.specs.Graph.{are_same, AreTerms, Graph, HasNode, id, IsFact, label_of}
use Rattle.spv_congruence.specs.Keep.{IsNode}
use Rattle.spv_congruence.specs.Told.{IsAdded, IsExact, IsOf, IsTold}
use Rattle.spv_congruence.specs.Told as graph
use Rattle.spv_models.specs.leaf_models.Labels.{AreExact}
use Rattle.spv_share.specs.combination_laws.Pairs.{told_by}

-- ---- equalities by another test

module _ (a : Arena) (Added : TermId → Type 0) (Told Others : TermId → TermId → Type 0) (each : (s t : TermId) → Told s t → Others s t) where
  mutual
    pub joined_as : (s t : Term) → Joined (IsAmong a Added) (joined.IsTold a Told) s t → Joined (IsAmong a Added) (joined.IsTold a Others) s t
    joined_as _ _ (told s t h) = told s t (record { left = h.left; right = h.right; told = each h.left h.right h.told; left_is = h.left_is; right_is = h.right_is })
    joined_as _ _ (itself t) = itself t
    joined_as _ _ (turned s t d) = turned s t (joined_as s t d)
    joined_as _ _ (through s t u d e) = through s t u (joined_as s t d) (joined_as t u e)
    joined_as _ _ (congruent h ss ts i j all) = congruent h ss ts i j (all_joined_as ss ts all)

    all_joined_as : (ss ts : Terms) → AllJoined (IsAmong a Added) (joined.IsTold a Told) ss ts → AllJoined (IsAmong a Added) (joined.IsTold a Others) ss ts
    all_joined_as _ _ none = none
    all_joined_as _ _ (more s t ss ts d all) = more s t ss ts (joined_as s t d) (all_joined_as ss ts all)

-- ---- what was told, as a test

abbrev no_facts : List Fact
no_facts = []

nothing : (place : ℕ) (x : Fact) → slice_get no_facts place ≡ Some x → ⊥
nothing place x at = cc

or_left : (b c : Bool) → b ≡ true → (b || c) ≡ true
or_left true c e = refl
or_left false c e = absurd (false≢true e)

or_right : (b c : Bool) → c ≡ true → (b || c) ≡ true
or_right true c e = refl
or_right false c e = e

abbrev is_of : TermId → TermId → Fact → Bool
is_of s t x = x.equal && (nat_eq x.left.0 s.0 && nat_eq x.right.0 t.0)

is_fact : (x : Fact) (s t : TermId) → x.equal ≡ true → x.left ≡ s → x.right ≡ t → is_of s t x ≡ true
is_fact x s t e left right = both_true e (both_true (ap (λ (u : TermId). nat_eq u.0 s.0) left ∙ nat_same s.0) (ap (λ (u : TermId). nat_eq u.0 t.0) right ∙ nat_same t.0))

told_there : (xs : List Fact) (place : ℕ) (s t : TermId) → IsFact xs place s t → told_by xs s t ≡ true
told_there [] place s t f = absurd (nothing place f.fact f.there)
told_there (x ∷ xs) zero s t f =
    or_left (is_of s t x) (told_by xs s t) (ap (is_of s t) (same_Some x f.fact f.there) ∙ is_fact f.fact s t f.equal f.left f.right)
told_there (x ∷ xs) (suc place) s t f =
    or_right (is_of s t x) (told_by xs s t) (told_there xs place s t (record { fact = f.fact; there = f.there; equal = f.equal; left = f.left; right = f.right }))

same_id : (s t : TermId) → nat_eq s.0 t.0 ≡ true → s ≡ t
same_id s t e = let same : s.0 ≡ t.0 = eq_is s.0 t.0 e in ap id same

pub record Found (xs : List Fact) (s t : TermId) : Type 0 where
  pub place : ℕ
  pub fact : IsFact xs place s t

told_found : (xs : List Fact) (s t : TermId) → told_by xs s t ≡ true → Found xs s t
told_found [] s t e = absurd (false≢true e)
told_found (x ∷ xs) s t e = or_cases (is_of s t x) (told_by xs s t) e here (λ k. later (told_found xs s t k))
  where
    here : is_of s t x ≡ true → Found (x ∷ xs) s t
    here k =
        let ids : (nat_eq x.left.0 s.0 && nat_eq x.right.0 t.0) ≡ true = and_right x.equal (nat_eq x.left.0 s.0 && nat_eq x.right.0 t.0) k in
        record {
          place = 0;
          fact = record {
            fact = x;
            there = refl;
            equal = and_left x.equal (nat_eq x.left.0 s.0 && nat_eq x.right.0 t.0) k;
            left = same_id x.left s (and_left (nat_eq x.left.0 s.0) (nat_eq x.right.0 t.0) ids);
            right = same_id x.right t (and_right (nat_eq x.left.0 s.0) (nat_eq x.right.0 t.0) ids);
          };
        }

    later : Found xs s t → Found (x ∷ xs) s t
    later k = record { place = suc k.place; fact = record { fact = k.fact.fact; there = k.fact.there; equal = k.fact.equal; left = k.fact.left; right = k.fact.right } }

-- ---- labels

all_below : (n : ℕ) (xs : List TermId) → ((i : ℕ) (t : TermId) → slice_get xs i ≡ Some t → t.0 < n) → AllBelow n xs
all_below n [] each = tt
all_below n (x ∷ xs) each = (each 0 x refl, all_below n xs (λ i t at. each (suc i) t at))

module _ (a : Arena) (ok : IsArena a) (g : Graph) (of : IsOf a g) (exact : IsExact g) (terms : AreTerms g.nodes g.added) where
  abbrev IsToldBy : TermId → TermId → Type 0
  IsToldBy s t = told_by g.told s t ≡ true

  to_told : (s t : TermId) → IsTold g s t → IsToldBy s t
  to_told s t h = told_there g.told h.0 s t h.1

  from_told : (s t : TermId) → IsToldBy s t → IsTold g s t
  from_told s t e = let f = told_found g.told s t e in (f.place, f.fact)

  pub node_listed : (t : TermId) → Listed g.added t → IsNode g.nodes t
  node_listed t l = terms.noded l.0 t l.1

  pub listed_node : (t : TermId) → IsNode g.nodes t → Listed g.added t
  listed_node t n = let early = terms.listed t n.0 n.1 in (early.place, early.there)

  pub inside : (t : TermId) → IsNode g.nodes t → t.0 < length a.nodes
  inside t n = slice_get_within a.nodes t.0 n.0 (of.node t n.0 n.1)

  pub same_derived : (s t : TermId) → IsNode g.nodes s → IsNode g.nodes t → are_same g s t ≡ true → graph.Joined a g s t
  same_derived s t m n e = let way : IsTrue (are_same g s t) ↔ graph.Joined a g s t = exact a ok of s t m.0 n.0 m.1 n.1 in way.0 e

  pub derived_same : (s t : TermId) → IsNode g.nodes s → IsNode g.nodes t → graph.Joined a g s t → are_same g s t ≡ true
  derived_same s t m n d = let way : IsTrue (are_same g s t) ↔ graph.Joined a g s t = exact a ok of s t m.0 n.0 m.1 n.1 in way.1 d

  pub labels_exact : AreExact a g.added (λ s t. told_by g.told s t ≡ true) (label_of g.joins)
  labels_exact = record {
    in_range = all_below (length a.nodes) g.added (λ i t at. inside t (node_listed t (i, at)));
    arguments = λ t n l at i u arg.
        let m = node_listed t l in
        let same : m.0 ≡ n = same_Some m.0 n (sym (of.node t m.0 m.1) ∙ at) in
        let early = terms.args l.0 t m.0 l.1 m.1 i u (ap (λ (x : Node). slice_get x.args i) same ∙ arg) in
        (early.place, early.there);
    derived = λ s t ls lt e.
        joined_as a (IsAdded g) (IsTold g) IsToldBy to_told (tree a s) (tree a t)
        (same_derived s t (node_listed s ls) (node_listed t lt) (ap (λ n. nat_eq n (label_of g.joins t)) e ∙ nat_same (label_of g.joins t)));
    found = λ s t ls lt d.
        eq_is (label_of g.joins s) (label_of g.joins t)
        (derived_same s t (node_listed s ls) (node_listed t lt) (joined_as a (IsAdded g) IsToldBy (IsTold g) from_told (tree a s) (tree a t) d));
  }
