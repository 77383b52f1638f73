-- The atoms of what is refuted, and what a table lists for it, are those of the condition, of what instances say and of facts.
use Rattle.std.proofs.Common.{◌≡◌, Bool, true, false, ◌&&◌, not, cond, List, [], ◌∷◌, ◌++◌, refl, sym, ap, ◌∙◌, subst}
use Rattle.std.specs.List.{flat_map}
use Rattle.std.proofs.lemmas.Bool.{false≢true}
use Rattle.spv_logic.proofs.list.Tests.{left_true, right_true}
use Rattle.spv_logic.specs.declared.types.Shape.{Shape}
use Rattle.spv_logic.specs.declared.types.Decl.{Decl}
use Rattle.spv_logic.specs.declared.operators.Head.{Head}
use Rattle.spv_logic.specs.declared.operators.Head.TheVariants.{Not, False}
use Rattle.spv_logic.specs.Terms.{Term, Terms, term, no_terms, terms, term_eq}
use Rattle.spv_logic.specs.Sorts.{term_sorts}
use Rattle.spv_logic.proofs.Equality.{term_eq-true, term_eq-refl}
use Rattle.spv_schemas.specs.Laws.{FactsAreWhereSortsFit}
use Rattle.spv_atoms.specs.Atoms.{is_connective, is_truth_value, is_atom, connects, only_if, atoms_in, atoms_in_all, with_term, with_terms, with_atoms}
use Rattle.spv_atoms.specs.Atoms as atoms_by
use Rattle.spv_atoms.specs.Order.{order, order_all, passing}
use Rattle.spv_atoms.specs.Tables.{all_truths}
use Rattle.spv_atoms.proofs.Members.{has, or_cases, or_left, or_right, has-left, has-right, has-parts, has_one, has-with_terms, with_terms-has}
use Rattle.spv_proof_rules.specs.Effects.{Question, is_truth}
use Rattle.spv_models.specs.leaf_models.Atoms.{same_sorts, are_comparable, equations_of, pair_equations, all_equations}
use Rattle.spv_models.specs.leaf_models.Subterms.{enters_each, with_subterms, subterms, list_of, arguments, is_listed}
use Rattle.spv_models.specs.leaf_models.Tables.{formulas_of}
use Rattle.spv_models.specs.split_trees.Paths.{atoms}
use Rattle.spv_models.proofs.leaf_models.Closed.{ArgumentsIn, with_term-parts, subterms-has}
use Rattle.spv_models.proofs.leaf_models.Lookups.{has-passing, passing-parts, has-flat_map}
use Rattle.spv_verdicts.specs.Verdicts.{with_all_atoms}
use Rattle.spv_verdicts.specs.Schemas.{enlarged}
use Rattle.spv_verdicts.proofs.TermCounts.{terms-parts}
use Rattle.spv_verdicts.proofs.translation.CountLemmas.{IsInside}
use Rattle.spv_verdicts.proofs.model_check.AtomLemmas.{atoms_inside}
use Rattle.spv_rounds.specs.Claims.{claim}
use Rattle.spv_rounds.specs.Atoms.{facts_with, terms_with, stated_with, is_atom_with, atoms_with, listed_with}
use Rattle.spv_rounds.proofs.RemainingTerms.{remains, remaining, IsLeftOut, negated, untrue, left_out, one_truth, passing-through, passing-same, flat_map-passing}
use Rattle.spv_rounds.proofs.RefutedTerms.{subterms-inside, with_subterms-append, terms-alone, terms-same}

-- ---- what is left out is no atom, in no pair and in no table

and_false : (b : Bool) → (b && false) ≡ false
and_false true = refl
and_false false = refl

no_atom : (truth : Term → Bool) (t : Term) → IsLeftOut t → is_atom truth t ≡ false
no_atom truth t (negated ts) = and_false (truth (term Not ts))
no_atom truth t (untrue ts) = and_false (truth (term False ts))

not_listed : (t : Term) → IsLeftOut t → is_listed t ≡ false
not_listed t (negated ts) = refl
not_listed t (untrue ts) = refl

module _ (shapes : List Shape) (decls : List Decl) where
  unlike_negation : (s : Term) (ts : Terms) → are_comparable shapes decls s (term Not ts) ≡ false
  unlike_negation (term Not ss) ts = and_false (same_sorts (term_sorts shapes decls ss) (term_sorts shapes decls ts))
  unlike_negation (term h ss) ts = refl

  unlike_falsity : (s : Term) (ts : Terms) → are_comparable shapes decls s (term False ts) ≡ false
  unlike_falsity (term False ss) ts = and_false (same_sorts (term_sorts shapes decls ss) (term_sorts shapes decls ts))
  unlike_falsity (term h ss) ts = refl

  negation_unlike : (ss : Terms) (t : Term) → are_comparable shapes decls (term Not ss) t ≡ false
  negation_unlike ss (term Not ts) = and_false (same_sorts (term_sorts shapes decls ss) (term_sorts shapes decls ts))
  negation_unlike ss (term h ts) = refl

  falsity_unlike : (ss : Terms) (t : Term) → are_comparable shapes decls (term False ss) t ≡ false
  falsity_unlike ss (term False ts) = and_false (same_sorts (term_sorts shapes decls ss) (term_sorts shapes decls ts))
  falsity_unlike ss (term h ts) = refl

  no_right : (s t : Term) → IsLeftOut t → pair_equations shapes decls s t ≡ []
  no_right s t (negated ts) = ap (λ b. cond b (equations_of shapes decls s t) []) (unlike_negation s ts)
  no_right s t (untrue ts) = ap (λ b. cond b (equations_of shapes decls s t) []) (unlike_falsity s ts)

  no_left : (s t : Term) → IsLeftOut s → pair_equations shapes decls s t ≡ []
  no_left s t (negated ss) = ap (λ b. cond b (equations_of shapes decls s t) []) (negation_unlike ss t)
  no_left s t (untrue ss) = ap (λ b. cond b (equations_of shapes decls s t) []) (falsity_unlike ss t)

  nothing_left : (s : Term) (ts : List Term) → IsLeftOut s → flat_map (pair_equations shapes decls s) ts ≡ []
  nothing_left s [] l = refl
  nothing_left s (t ∷ ts) l = ap (λ us. us ++ flat_map (pair_equations shapes decls s) ts) (no_left s t l) ∙ nothing_left s ts l

  equations-remaining : (ts : List Term) → all_equations shapes decls (remaining ts) ≡ all_equations shapes decls ts
  equations-remaining [] = refl
  equations-remaining (t ∷ ts) = by (remains t) refl (equations-remaining ts)
    where
      by : (b : Bool) → remains t ≡ b → all_equations shapes decls (remaining ts) ≡ all_equations shapes decls ts
          → all_equations shapes decls (only_if b t ++ remaining ts) ≡ flat_map (pair_equations shapes decls t) ts ++ all_equations shapes decls ts
      by true e later =
          ap (λ us. us ++ all_equations shapes decls (remaining ts)) (flat_map-passing remains (pair_equations shapes decls t) ts (λ u k. no_right t u (left_out u k)))
          ∙ ap (λ us. flat_map (pair_equations shapes decls t) ts ++ us) later
      by false e later = later ∙ ap (λ us. us ++ all_equations shapes decls ts) (sym (nothing_left t ts (left_out t e)))

  abbrev truth : Term → Bool
  truth = atoms_by.is_truth shapes decls

  -- so they are the same where the terms are
  pub same-equations : (ts us : List Term) → remaining ts ≡ remaining us → all_equations shapes decls ts ≡ all_equations shapes decls us
  same-equations ts us e = sym (equations-remaining ts) ∙ (ap (all_equations shapes decls) e ∙ equations-remaining us)

  same-passing : (ts us : List Term) (test : Term → Bool) → ((t : Term) → IsLeftOut t → test t ≡ false) → remaining ts ≡ remaining us → passing test ts ≡ passing test us
  same-passing ts us test none e =
      sym (passing-through test remains ts (λ t k. none t (left_out t k))) ∙ (ap (passing test) e ∙ passing-through test remains us (λ t k. none t (left_out t k)))

  same-atoms : (ts us : List Term) → remaining ts ≡ remaining us → with_terms (passing (is_atom truth) ts) (all_equations shapes decls ts) ≡ with_terms (passing (is_atom truth) us) (all_equations shapes decls us)
  same-atoms ts us e =
      ap (λ xs. with_terms xs (all_equations shapes decls ts)) (same-passing ts us (is_atom truth) (no_atom truth) e)
      ∙ ap (with_terms (passing (is_atom truth) us)) (same-equations ts us e)

-- ---- each term is a formula or an argument

module _ (all fs : List Term) (inside : IsInside all) where
  -- a term is one of the formulas, or an argument of one of the terms
  abbrev Stands : Term → Type 0
  Stands t = has (fs ++ flat_map arguments all) t ≡ true

  abbrev AllStand : Terms → Type 0
  AllStand no_terms = Unit {0}
  AllStand (terms t ts) = Stands t × AllStand ts

  each_stands : (ts : Terms) → ((t : Term) → has (list_of ts) t ≡ true → Stands t) → AllStand ts
  each_stands no_terms h = tt
  each_stands (terms t ts) h = (h t (or_left (term_eq t t) (has (list_of ts) t) (term_eq-refl t)), each_stands ts (λ u m. h u (or_right (term_eq u t) (has (list_of ts) u) m)))

  arguments_stand : (h : Head) (ts : Terms) → has all (term h ts) ≡ true → AllStand ts
  arguments_stand h ts m = each_stands ts (λ t k. has-right fs (flat_map arguments all) t (has-flat_map arguments all (term h ts) t m k))

  mutual
    order-stands : (t : Term) (done : List Term) → has all t ≡ true → Stands t → ((u : Term) → has done u ≡ true → Stands u) → (u : Term) → has (order enters_each t done) u ≡ true → Stands u
    order-stands (term h ts) done there own before u = by (has done (term h ts)) (all-stand ts done (inside h ts there) (arguments_stand h ts there) before)
      where
        by : (b : Bool) → ((v : Term) → has (order_all enters_each ts done) v ≡ true → Stands v) → has (cond b done (with_term (order_all enters_each ts done) (term h ts))) u ≡ true → Stands u
        by true later m = before u m
        by false later m = with_term-parts (order_all enters_each ts done) (term h ts) u m (later u) (λ e. ap (has (fs ++ flat_map arguments all)) e ∙ own)

    all-stand : (ts : Terms) (done : List Term) → ArgumentsIn all ts → AllStand ts → ((u : Term) → has done u ≡ true → Stands u) → (u : Term) → has (order_all enters_each ts done) u ≡ true → Stands u
    all-stand no_terms done there own before = before
    all-stand (terms t ts) done there own before = all-stand ts (order enters_each t done) there.1 own.1 (order-stands t done there.0 own.0 before)

  subterms-stand : (gs done : List Term) → ((g : Term) → has gs g ≡ true → has all g ≡ true) → ((g : Term) → has gs g ≡ true → has fs g ≡ true) → ((u : Term) → has done u ≡ true → Stands u)
      → (u : Term) → has (with_subterms done gs) u ≡ true → Stands u
  subterms-stand [] done there among before = before
  subterms-stand (g ∷ gs) done there among before =
      let first : has (g ∷ gs) g ≡ true = or_left (term_eq g g) (has gs g) (term_eq-refl g) in
      subterms-stand gs (order enters_each g done) (λ f m. there f (or_right (term_eq f g) (has gs f) m)) (λ f m. among f (or_right (term_eq f g) (has gs f) m))
      (order-stands g done (there g first) (has-left fs (flat_map arguments all) g (among g first)) before)

each-stands : (fs : List Term) (t : Term) → has (subterms fs) t ≡ true → has (fs ++ flat_map arguments (subterms fs)) t ≡ true
each-stands fs t m = subterms-stand (subterms fs) fs (subterms-inside fs) fs [] (subterms-has fs) (λ g k. k) (λ u k. absurd (false≢true k)) t m

-- ---- atoms of formulas

module _ (truth : Term → Bool) where
  not_true : (b : Bool) → not b ≡ true → b ≡ false
  not_true true e = absurd (false≢true e)
  not_true false e = refl

  -- an atom is the one atom of itself
  atom_alone : (t : Term) → is_atom truth t ≡ true → atoms_in truth t ≡ t ∷ []
  atom_alone (term h ts) a =
      ap (λ b. cond b (atoms_in_all truth ts) (only_if (is_atom truth (term h ts)) (term h ts)))
      (not_true (connects (all_truths truth ts) h) (left_true (not (connects (all_truths truth ts) h)) _ (right_true (truth (term h ts)) _ a)))
      ∙ ap (λ b. only_if b (term h ts)) a

  own_atom : (t : Term) → is_atom truth t ≡ true → has (atoms_in truth t) t ≡ true
  own_atom t a = ap (λ us. has us t) (atom_alone t a) ∙ or_left (term_eq t t) false (term_eq-refl t)

  only_one : (b : Bool) (u t : Term) → has (only_if b u) t ≡ true → (b ≡ true) × (t ≡ u)
  only_one true u t m = (refl, has_one t u m)
  only_one false u t m = absurd (false≢true m)

  mutual
    atoms-are : (f t : Term) → has (atoms_in truth f) t ≡ true → is_atom truth t ≡ true
    atoms-are (term h ts) t m = by (connects (all_truths truth ts) h) m (all-atoms-are ts t)
      where
        by : (b : Bool) → has (cond b (atoms_in_all truth ts) (only_if (is_atom truth (term h ts)) (term h ts))) t ≡ true → (has (atoms_in_all truth ts) t ≡ true → is_atom truth t ≡ true) → is_atom truth t ≡ true
        by true k later = later k
        by false k later = let o = only_one (is_atom truth (term h ts)) (term h ts) t k in ap (is_atom truth) o.1 ∙ o.0

    all-atoms-are : (ts : Terms) (t : Term) → has (atoms_in_all truth ts) t ≡ true → is_atom truth t ≡ true
    all-atoms-are no_terms t m = absurd (false≢true m)
    all-atoms-are (terms u us) t m = has-parts (atoms_in truth u) (atoms_in_all truth us) t m (atoms-are u t) (all-atoms-are us t)

  -- the atoms of formulas are atoms
  with_all_atoms-are : (known fs : List Term) → ((t : Term) → has known t ≡ true → is_atom truth t ≡ true) → (t : Term) → has (with_all_atoms truth known fs) t ≡ true → is_atom truth t ≡ true
  with_all_atoms-are known [] before = before
  with_all_atoms-are known (f ∷ fs) before = with_all_atoms-are (with_atoms truth known f) fs (λ t m. terms-parts known (atoms_in truth f) t m (before t) (atoms-are f t))

  with_all_atoms-keeps : (known fs : List Term) (t : Term) → has known t ≡ true → has (with_all_atoms truth known fs) t ≡ true
  with_all_atoms-keeps known [] t m = m
  with_all_atoms-keeps known (f ∷ fs) t m = with_all_atoms-keeps (with_atoms truth known f) fs t (has-with_terms known (atoms_in truth f) t m)

  with_all_atoms-has : (known fs : List Term) (f t : Term) → has fs f ≡ true → has (atoms_in truth f) t ≡ true → has (with_all_atoms truth known fs) t ≡ true
  with_all_atoms-has known [] f t m k = absurd (false≢true m)
  with_all_atoms-has known (g ∷ gs) f t m k =
      or_cases (term_eq f g) (has gs f) m
      (λ e. with_all_atoms-keeps (with_atoms truth known g) gs t (with_terms-has known (atoms_in truth g) t (ap (λ u. has (atoms_in truth u) t) (sym (term_eq-true f g e)) ∙ k)))
      (λ l. with_all_atoms-has (with_atoms truth known g) gs f t l k)

-- ---- the atoms of all that is stated

module _ (q : Question) (fs : List Term) where
  abbrev formulas : List Term
  formulas = (formulas_of q.sequent ++ fs) ++ facts_with q fs

  abbrev truths : List Term
  truths = passing (is_truth q) (flat_map arguments (terms_with q fs))

  at_hand : terms_with q fs ≡ subterms formulas
  at_hand = sym (with_subterms-append (formulas_of q.sequent ++ fs) (facts_with q fs) [])

  at_hand-inside : IsInside (terms_with q fs)
  at_hand-inside h ts m = subst (λ us. ArgumentsIn us ts) (sym at_hand) (subterms-inside formulas h ts (ap (λ us. has us (term h ts)) (sym at_hand) ∙ m))

  formula_stated : (t : Term) → has formulas t ≡ true → has (stated_with q fs) t ≡ true
  formula_stated t m =
      has-parts (formulas_of q.sequent ++ fs) (facts_with q fs) t m
      (λ k. has-parts (formulas_of q.sequent) fs t k (has-left (formulas_of q.sequent) (fs ++ (facts_with q fs ++ truths)) t)
      (λ l. has-right (formulas_of q.sequent) (fs ++ (facts_with q fs ++ truths)) t (has-left fs (facts_with q fs ++ truths) t l)))
      (λ k. has-right (formulas_of q.sequent) (fs ++ (facts_with q fs ++ truths)) t (has-right fs (facts_with q fs ++ truths) t (has-left (facts_with q fs) truths t k)))

  truth_stated : (t : Term) → has truths t ≡ true → has (stated_with q fs) t ≡ true
  truth_stated t m = has-right (formulas_of q.sequent) (fs ++ (facts_with q fs ++ truths)) t (has-right fs (facts_with q fs ++ truths) t (has-right (facts_with q fs) truths t m))

  atom_stated : (t : Term) → has (terms_with q fs) t ≡ true → is_atom (is_truth q) t ≡ true → has (stated_with q fs) t ≡ true
  atom_stated t m a =
      has-parts formulas (flat_map arguments (subterms formulas)) t (each-stands formulas t (ap (λ us. has us t) (sym at_hand) ∙ m)) (formula_stated t)
      (λ k. truth_stated t (has-passing (is_truth q) (flat_map arguments (terms_with q fs)) t (ap (λ us. has (flat_map arguments us) t) at_hand ∙ k) (left_true (is_truth q t) _ a)))

  is-atom : (t : Term) → has (terms_with q fs) t ≡ true → is_atom (is_truth q) t ≡ is_atom_with q fs t
  is-atom t m =
      one_truth (is_atom (is_truth q) t) (is_atom_with q fs t)
      (λ a. with_all_atoms-has (is_truth q) [] (stated_with q fs) t t (atom_stated t m a) (own_atom (is_truth q) t a))
      (λ k. with_all_atoms-are (is_truth q) [] (stated_with q fs) (λ u l. absurd (false≢true l)) t k)

  -- they are those of the terms at hand
  defined-atoms : with_terms (passing (is_atom (is_truth q)) (terms_with q fs)) (all_equations q.shapes q.decls (terms_with q fs)) ≡ atoms_with q fs
  defined-atoms = ap (λ us. with_terms us (all_equations q.shapes q.decls (terms_with q fs))) (passing-same (is_atom (is_truth q)) (is_atom_with q fs) (terms_with q fs) is-atom)

  formula_there : (u : Term) → has formulas u ≡ true → has (terms_with q fs) u ≡ true
  formula_there u k = ap (λ us. has us u) at_hand ∙ subterms-has formulas u k

  argument_there : (ts : Terms) (u : Term) → ArgumentsIn (terms_with q fs) ts → has (list_of ts) u ≡ true → has (terms_with q fs) u ≡ true
  argument_there no_terms u a k = absurd (false≢true k)
  argument_there (terms v vs) u a k = or_cases (term_eq u v) (has (list_of vs) u) k (λ e. ap (has (terms_with q fs)) (term_eq-true u v e) ∙ a.0) (λ l. argument_there vs u a.1 l)

  arguments_there : (ts : List Term) → ((t : Term) → has ts t ≡ true → has (terms_with q fs) t ≡ true) → (u : Term) → has (flat_map arguments ts) u ≡ true → has (terms_with q fs) u ≡ true
  arguments_there [] sub u k = absurd (false≢true k)
  arguments_there (term h us ∷ ts) sub u k =
      has-parts (list_of us) (flat_map arguments ts) u k
      (λ l. argument_there us u (at_hand-inside h us (sub (term h us) (or_left (term_eq (term h us) (term h us)) (has ts (term h us)) (term_eq-refl (term h us))))) l)
      (λ l. arguments_there ts (λ t n. sub t (or_right (term_eq t (term h us)) (has ts t) n)) u l)

  truth_there : (u : Term) → has truths u ≡ true → has (terms_with q fs) u ≡ true
  truth_there u k = arguments_there (terms_with q fs) (λ t l. l) u (passing-parts (is_truth q) (flat_map arguments (terms_with q fs)) u k).among

  -- and what is stated is among the terms at hand
  stated-there : (t : Term) → has (stated_with q fs) t ≡ true → has (terms_with q fs) t ≡ true
  stated-there t m =
      has-parts (formulas_of q.sequent) (fs ++ (facts_with q fs ++ truths)) t m
      (λ k. formula_there t (has-left (formulas_of q.sequent ++ fs) (facts_with q fs) t (has-left (formulas_of q.sequent) fs t k)))
      (λ k. has-parts fs (facts_with q fs ++ truths) t k
      (λ l. formula_there t (has-left (formulas_of q.sequent ++ fs) (facts_with q fs) t (has-right (formulas_of q.sequent) fs t l)))
      (λ l. has-parts (facts_with q fs) truths t l (λ n. formula_there t (has-right (formulas_of q.sequent ++ fs) (facts_with q fs) t n)) (truth_there t)))

  -- so each of its atoms is among the atoms
  pub all-there : (t : Term) → has (with_all_atoms (is_truth q) [] (stated_with q fs)) t ≡ true → has (atoms_with q fs) t ≡ true
  all-there t m =
      has-with_terms (passing (is_atom_with q fs) (terms_with q fs)) (all_equations q.shapes q.decls (terms_with q fs)) t
      (has-passing (is_atom_with q fs) (terms_with q fs) t (atoms_inside (is_truth q) (terms_with q fs) at_hand-inside [] (stated_with q fs) (λ u l. absurd (false≢true l)) stated-there t m) m)

-- ---- what is refuted

pub atoms-alone : (q : Question) → atoms (enlarged q) ≡ atoms_with q []
atoms-alone q = same-atoms q.shapes q.decls (subterms (formulas_of (enlarged q).sequent)) (terms_with q []) (terms-alone q) ∙ defined-atoms q []

pub listed-alone : (q : Question) → passing is_listed (subterms (formulas_of (enlarged q).sequent)) ≡ listed_with q []
listed-alone q = same-passing q.shapes q.decls (subterms (formulas_of (enlarged q).sequent)) (terms_with q []) is_listed not_listed (terms-alone q)

module _ (fits : FactsAreWhereSortsFit) where
  pub atoms-same : (q : Question) (fs : List Term) → atoms (enlarged (claim q fs)) ≡ atoms_with q fs
  atoms-same q fs = same-atoms q.shapes q.decls (subterms (formulas_of (enlarged (claim q fs)).sequent)) (terms_with q fs) (terms-same fits q fs) ∙ defined-atoms q fs

  pub listed-same : (q : Question) (fs : List Term) → passing is_listed (subterms (formulas_of (enlarged (claim q fs)).sequent)) ≡ listed_with q fs
  listed-same q fs = same-passing q.shapes q.decls (subterms (formulas_of (enlarged (claim q fs)).sequent)) (terms_with q fs) is_listed not_listed (terms-same fits q fs)
