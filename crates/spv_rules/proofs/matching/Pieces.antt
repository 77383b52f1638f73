-- What a pattern over ids gives, case by case.
use Rattle.std.proofs.Common.{◌≡◌, ℕ, zero, suc, ◌<◌, true, false, List, [], ◌∷◌, ◌++◌, ℤ, length, get_or, Some, None, Ok, refl, sym, ap, ◌∙◌, subst, arith, cond, slice_get}
use Rattle.std.specs.List.{list_any}
use Rattle.std.proofs.lemmas.List.{map-append}
use Rattle.spv_logic.specs.declared.conditions.TermId.{TermId}
use Rattle.spv_logic.specs.declared.operators.Head.{Head}
use Rattle.spv_logic.specs.declared.operators.Head.TheVariants.{Num}
use Rattle.spv_logic.specs.Terms.{Term, term, head_eq}
use Rattle.spv_logic.specs.Sorts.{numeral_fits}
use Rattle.spv_frac.specs.Range.{fits}
use Rattle.spv_term.specs.declared.nodes.Node.{Node}
use Rattle.spv_term.specs.Arena.{Arena, IsArena, AllBelow, tree, trees}
use Rattle.spv_term.specs.substitution.Images.{head_of, head_at}
use Rattle.spv_term.proofs.ArenaLemmas.{tree-node, args_before, args_in_range}
use Rattle.spv_proof_steps.proofs.StepLemmas.{AllBelow-read}
use Rattle.spv_rules.specs.declared.matching.bindings.Bound.{Bound}
use Rattle.spv_rules.specs.declared.matching.values.Setting.{Setting}
use Rattle.spv_rules.specs.declared.matching.patterns.Meeting.{Meeting}
use Rattle.spv_rules.specs.matching.Matches as plain
use Rattle.spv_rules.specs.matching.Matches.{Wide, Found, Bindings, after, behind, each, if_passes, matched, matched_all, met, met_by, applied, numeral, arguments, bound, has_number, have_one_value}
use Rattle.spv_rules.specs.matching.Views.{setting_in, bindings_in, all_in, AreBound, AllBound, GoesOn, IsFound, matched_in, met_by_in, inside_in, applied_in}
use Rattle.spv_rules.proofs.matching.Sequences.{each-map}
use Rattle.spv_rules.proofs.matching.Meetings.{AllBound-append}
use Rattle.spv_rules.proofs.matching.Walks.{Beside}

-- ---- heads of nodes

module _ (a : Arena) (ok : IsArena a) (t : TermId) (n : Node) (at : slice_get a.nodes t.0 ≡ Some n) where
  pub head-node : head_at a t ≡ n.head
  head-node = ap head_of (tree-node a ok t n at)

  pub arguments-node : arguments (tree a t) ≡ trees a n.args
  arguments-node = ap arguments (tree-node a ok t n at)

-- ---- the cases of a pattern

module _ (m : plain.Setting) (t : Term) (b : Bindings) where
  variable_met : (x : Term) → list_any (head_eq (head_of x)) m.variables ≡ true → matched m x t b ≡ met m (head_of x) (bound b (head_of x)) t b
  variable_met (term h ps) e = ap (λ c. cond c (met m h (bound b h) t b) (applied m h (numeral h) t b (λ u. matched_all m ps (arguments u) (b ∷ [])))) e

  other_met : (x : Term) → list_any (head_eq (head_of x)) m.variables ≡ false
      → matched m x t b ≡ applied m (head_of x) (numeral (head_of x)) t b (λ u. matched_all m (arguments x) (arguments u) (b ∷ []))
  other_met (term h ps) e = ap (λ c. cond c (met m h (bound b h) t b) (applied m h (numeral h) t b (λ u. matched_all m ps (arguments u) (b ∷ [])))) e

no_numeral : (h : Head) → ((z : ℤ) → h ≡ Num z → ⊥) → numeral h ≡ None
no_numeral (Num z) k = absurd (k z refl)
no_numeral _ k = refl

module _ (s : Setting) (g : Meeting) (ok : IsArena s.patterns.now) (n : Node) (at : slice_get s.patterns.now.nodes g.pattern.0 ≡ Some n) where
  p_head : head_at s.patterns.now g.pattern ≡ n.head
  p_head = head-node s.patterns.now ok g.pattern n at

  pub variable_case : true ≡ list_any (head_eq n.head) s.variables.now
      → matched_in s g ≡ met (setting_in s) n.head (bound (bindings_in s.terms.now g.bound.now) n.head) (tree s.terms.now g.term) (bindings_in s.terms.now g.bound.now)
  variable_case e =
      variable_met (setting_in s) (tree s.terms.now g.term) (bindings_in s.terms.now g.bound.now) (tree s.patterns.now g.pattern) (ap (λ h. list_any (head_eq h) s.variables.now) p_head ∙ sym e)
      ∙ ap (λ h. met (setting_in s) h (bound (bindings_in s.terms.now g.bound.now) h) (tree s.terms.now g.term) (bindings_in s.terms.now g.bound.now)) p_head

  module _ (e : false ≡ list_any (head_eq n.head) s.variables.now) where
    other : matched_in s g ≡ applied (setting_in s) (head_at s.patterns.now g.pattern) (numeral (head_at s.patterns.now g.pattern)) (tree s.terms.now g.term) (bindings_in s.terms.now g.bound.now)
        (λ u. matched_all (setting_in s) (arguments (tree s.patterns.now g.pattern)) (arguments u) (bindings_in s.terms.now g.bound.now ∷ []))
    other =
        other_met (setting_in s) (tree s.terms.now g.term) (bindings_in s.terms.now g.bound.now) (tree s.patterns.now g.pattern) (ap (λ h. list_any (head_eq h) s.variables.now) p_head ∙ sym e)

    pub number_case : (z : ℤ) → n.head ≡ Num z → matched_in s g ≡ if_passes (has_number (setting_in s).listed z (tree s.terms.now g.term)) (Ok (bindings_in s.terms.now g.bound.now ∷ []))
    number_case z is =
        other
        ∙ ap (λ o. applied (setting_in s) (head_at s.patterns.now g.pattern) o (tree s.terms.now g.term) (bindings_in s.terms.now g.bound.now)
        (λ u. matched_all (setting_in s) (arguments (tree s.patterns.now g.pattern)) (arguments u) (bindings_in s.terms.now g.bound.now ∷ [])))
        (ap numeral (p_head ∙ is))

    pub application_case : ((z : ℤ) → n.head ≡ Num z → ⊥) → matched_in s g ≡ applied_in s g s.used.now
    application_case k =
        other
        ∙ (ap (λ o. applied (setting_in s) (head_at s.patterns.now g.pattern) o (tree s.terms.now g.term) (bindings_in s.terms.now g.bound.now)
        (λ u. matched_all (setting_in s) (arguments (tree s.patterns.now g.pattern)) (arguments u) (bindings_in s.terms.now g.bound.now ∷ [])))
        (ap numeral p_head ∙ no_numeral n.head k)
        ∙ each-map (met_by (setting_in s) (head_at s.patterns.now g.pattern) (tree s.terms.now g.term)
        (λ u. matched_all (setting_in s) (arguments (tree s.patterns.now g.pattern)) (arguments u) (bindings_in s.terms.now g.bound.now ∷ []))) (tree s.terms.now) s.used.now)

  -- ---- by one used term

  module _ (ok_terms : IsArena s.terms.now) (u : TermId) (k : Node) (there : slice_get s.terms.now.nodes u.0 ≡ Some k) where
    heads_test : head_eq (head_at s.patterns.now g.pattern) (head_at s.terms.now u) ≡ head_eq n.head k.head
    heads_test = (λ i. head_eq (p_head i) (head-node s.terms.now ok_terms u k there i))

    pub same_heads : true ≡ head_eq n.head k.head → met_by_in s g u ≡ if_passes (have_one_value (setting_in s).listed (tree s.terms.now u) (tree s.terms.now g.term)) (inside_in s g u)
    same_heads e = ap (λ c. cond c (if_passes (have_one_value (setting_in s).listed (tree s.terms.now u) (tree s.terms.now g.term)) (inside_in s g u)) (Ok [])) (heads_test ∙ sym e)

    pub other_heads : false ≡ head_eq n.head k.head → met_by_in s g u ≡ Ok []
    other_heads e = ap (λ c. cond c (if_passes (have_one_value (setting_in s).listed (tree s.terms.now u) (tree s.terms.now g.term)) (inside_in s g u)) (Ok [])) (heads_test ∙ sym e)

    -- ---- arguments, one beside the other

    pub inside_begins : (ps ts : List TermId) → ps ≡ n.args → ts ≡ k.args → (found : List (List Bound)) → found ≡ g.bound.now ∷ [] → AreBound (length s.terms.now.nodes) g.bound.now
        → Beside s.patterns.now s.terms.now (setting_in s) (inside_in s g u) found ps ts
    inside_begins ps ts e f found is h = record {
      same =
          (λ i. matched_all (setting_in s) (trees s.patterns.now (e i)) (trees s.terms.now (f i)) (all_in s.terms.now (is i)))
          ∙ (λ i. matched_all (setting_in s) (sym (arguments-node s.patterns.now ok g.pattern n at) i) (sym (arguments-node s.terms.now ok_terms u k there) i) (bindings_in s.terms.now g.bound.now ∷ []));
      in_range = subst (AllBound (length s.terms.now.nodes)) (sym is) (h, tt);
    }

-- what was found inside comes behind
pub found_behind : (a : Arena) (outcome : Found) (old more new : List (List Bound)) → AllBound (length a.nodes) old → IsFound a outcome more → new ≡ old ++ more → GoesOn a outcome old new
found_behind a outcome old more new h is e = record {
  same = ap (behind (Ok (all_in a old))) is.same ∙ (ap (λ (xs : List Bindings). Ok xs) (sym (map-append (bindings_in a) old more)) ∙ ap (λ xs. Ok (all_in a xs)) (sym e));
  in_range = subst (AllBound (length a.nodes)) (sym e) (AllBound-append (length a.nodes) old more h is.in_range);
}

-- a list of matches at a place
pub bound_at : (n : ℕ) (found : List (List Bound)) (i : ℕ) (d : List Bound) → AllBound n found → i < length found → AreBound n (get_or found i d)
bound_at n [] i d h below = absurd (omega (arith, below))
bound_at n (b ∷ found) zero d h below = h.0
bound_at n (b ∷ found) (suc i) d h below = bound_at n found i d h.1 (omega (arith, below))

-- the arguments of a pattern have smaller ids
pub argument_before : (a : Arena) (ok : IsArena a) (t : TermId) (n : Node) → slice_get a.nodes t.0 ≡ Some n → (ps : List TermId) → ps ≡ n.args → (i : ℕ) (d : TermId) → i < length ps → (get_or ps i d).0 < t.0
argument_before a ok t n at ps e i d below = AllBelow-read t.0 ps i d (subst (AllBelow t.0) (sym e) (args_before a ok t n at)) below

pub argument_in : (a : Arena) (ok : IsArena a) (t : TermId) (n : Node) → slice_get a.nodes t.0 ≡ Some n → (ps : List TermId) → ps ≡ n.args → (i : ℕ) (d : TermId) → i < length ps → (get_or ps i d).0 < length a.nodes
argument_in a ok t n at ps e i d below = AllBelow-read (length a.nodes) ps i d (subst (AllBelow (length a.nodes)) (sym e) (args_in_range a ok t n at)) below

-- a numeral of a pattern fits
pub number_fits : (a : Arena) → IsArena a → (i : ℕ) (n : Node) → slice_get a.nodes i ≡ Some n → (z : ℤ) → n.head ≡ Num z → fits z ≡ true
number_fits a ok i n at z is = sym (ap numeral_fits is) ∙ (ok.nodes i n at).numeral
