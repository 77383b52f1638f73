-- Each question of a search stands in an atom: it is one, or an argument of a subterm that is no connective, and that stands in an atom.
use Rattle.std.proofs.Common.{◌≡◌, Bool, true, false, not, List, [], ◌∷◌, refl, sym, ap, ◌∙◌, Option, Some, None}
use Rattle.std.specs.Prelude.{is_some}
use Rattle.std.specs.List.{flat_map}
use Rattle.std.specs.Cmp.Derive.{both_true}
use Rattle.std.proofs.lemmas.Bool.{false≢true}
use Rattle.spv_logic.proofs.list.Tests.{left_true}
use Rattle.spv_logic.specs.declared.types.Sort.{Sort}
use Rattle.spv_logic.specs.declared.types.Shape.{Shape}
use Rattle.spv_logic.specs.declared.types.Decl.{Decl}
use Rattle.spv_logic.specs.declared.operators.Head.{Head}
use Rattle.spv_logic.specs.declared.operators.Head.TheVariants as head
use Rattle.spv_logic.specs.Terms.{Term, Terms, term, no_terms, terms, term_eq}
use Rattle.spv_logic.specs.Sorts.{term_sort, term_sorts, with_sorts, sort_before, result_sort}
use Rattle.spv_logic.proofs.Equality.{term_eq-refl}
use Rattle.spv_atoms.specs.Atoms.{is_truth, is_fixed, with_term, with_terms}
use Rattle.spv_atoms.specs.Order.{passing}
use Rattle.spv_atoms.proofs.Members.{has, has-parts, or_left, or_right}
use Rattle.spv_models.specs.leaf_models.Subterms.{subterms, list_of, arguments, is_plain, truth_arguments, is_uncomputed}
use Rattle.spv_models.specs.leaf_models.Atoms.{atoms, questions, is_open}
use Rattle.spv_models.specs.leaf_models.Laws.{AreFormulas}
use Rattle.spv_models.proofs.leaf_models.Closed.{subterms-has, with_term-parts}
use Rattle.spv_models.proofs.leaf_models.Covering.{atoms-are, part-arguments, parts-closed}
use Rattle.spv_models.proofs.leaf_models.Lookups.{has-passing, passing-parts}
use Rattle.spv_models.proofs.leaf_models.Standing.{uncomputed-in-atoms}

-- ---- members of lists that are put together

with_terms-parts : {A : Type 0} (xs ts : List Term) (u : Term) → has (with_terms xs ts) u ≡ true → (has xs u ≡ true → A) → (has ts u ≡ true → A) → A
with_terms-parts xs [] u h f g = f h
with_terms-parts xs (t ∷ ts) u h f g =
    with_terms-parts (with_term xs t) ts u h
    (λ k. with_term-parts xs t u k f (λ e. g (or_left (term_eq u t) (has ts u) (ap (term_eq u) (sym e) ∙ term_eq-refl u))))
    (λ k. g (or_right (term_eq u t) (has ts u) k))

flat_map-parts : {A : Type 0} (f : Term → List Term) (ts : List Term) (e : Term) → has (flat_map f ts) e ≡ true → ((t : Term) → has ts t ≡ true → has (f t) e ≡ true → A) → A
flat_map-parts f [] e h go = absurd (false≢true h)
flat_map-parts f (t ∷ ts) e h go =
    has-parts (f t) (flat_map f ts) e h (λ k. go t (or_left (term_eq t t) (has ts t) (term_eq-refl t)) k)
    (λ k. flat_map-parts f ts e k (λ u m l. go u (or_right (term_eq u t) (has ts u) m) l))

-- ---- TRUE and FALSE have no arguments

not_sorted : (go : List Sort → Option Sort) → ((s : Sort) (ss : List Sort) → go (s ∷ ss) ≡ None) → (o : Option Sort) (p : Option (List Sort)) → is_some (with_sorts (sort_before o p) go) ≡ false
not_sorted go none None p = refl
not_sorted go none (Some s) None = refl
not_sorted go none (Some s) (Some ss) = ap is_some (none s ss)

module _ (shapes : List Shape) (decls : List Decl) where
  not_fixed : (h : Head) (ts : Terms) (t : Term) → is_some (term_sort shapes decls (term h ts)) ≡ true → has (list_of ts) t ≡ true → is_fixed h ≡ false
  not_fixed head.True no_terms t sorted m = absurd (false≢true m)
  not_fixed head.True (terms u us) t sorted m =
      absurd (false≢true (sym (not_sorted (result_sort shapes decls head.True) (λ s ss. refl) (term_sort shapes decls u) (term_sorts shapes decls us)) ∙ sorted))
  not_fixed head.False no_terms t sorted m = absurd (false≢true m)
  not_fixed head.False (terms u us) t sorted m =
      absurd (false≢true (sym (not_sorted (result_sort shapes decls head.False) (λ s ss. refl) (term_sort shapes decls u) (term_sorts shapes decls us)) ∙ sorted))
  not_fixed h ts t sorted m = refl

-- ---- questions

module _ (shapes : List Shape) (decls : List Decl) (fs : List Term) (are : AreFormulas shapes decls fs) where
  abbrev truth : Term → Bool
  truth = is_truth shapes decls

  -- what stands in the atoms
  abbrev within : List Term
  within = subterms (atoms shapes decls fs)

  atoms_are_formulas : AreFormulas shapes decls (atoms shapes decls fs)
  atoms_are_formulas = λ t m. left_true (truth t) _ (atoms-are shapes decls fs are t m)

  -- a subterm that is no connective and has an argument stands there
  owner_stands : (u t : Term) → has (subterms fs) u ≡ true → is_plain truth u ≡ true → has (arguments u) t ≡ true → has within u ≡ true
  owner_stands (term h ts) t m plain k =
      let alone = not_fixed shapes decls h ts t ((parts-closed shapes decls fs are).sorted (term h ts) m) k in
      uncomputed-in-atoms shapes decls fs are (term h ts) (has-passing (is_uncomputed truth) (subterms fs) (term h ts) m (both_true plain (ap not alone)))

  -- and so does the argument
  argument_stands : (u t : Term) → has (subterms fs) u ≡ true → is_plain truth u ≡ true → has (arguments u) t ≡ true → has within t ≡ true
  argument_stands u t m plain k = part-arguments shapes decls (atoms shapes decls fs) atoms_are_formulas u t (owner_stands u t m plain k) k

  truth_argument_stands : (t : Term) → has (truth_arguments truth (subterms fs)) t ≡ true → has within t ≡ true
  truth_argument_stands t m =
      let p = passing-parts truth (flat_map arguments (passing (is_plain truth) (subterms fs))) t m in
      flat_map-parts arguments (passing (is_plain truth) (subterms fs)) t p.among
      (λ u l k. let q = passing-parts (is_plain truth) (subterms fs) u l in argument_stands u t q.among q.passes k)

  pub question_stands : (t : Term) → has (questions shapes decls fs) t ≡ true → has within t ≡ true
  question_stands t m =
      with_terms-parts (atoms shapes decls fs) (passing is_open (truth_arguments truth (subterms fs))) t m (λ k. subterms-has (atoms shapes decls fs) t k)
      (λ k. truth_argument_stands t (passing-parts is_open (truth_arguments truth (subterms fs)) t k).among)
