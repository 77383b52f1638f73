-- Where nothing is left to split on, each question has a truth, and each equation of whole numbers that is false has an order.
use Rattle.std.proofs.Common.{◌≡◌, ◌⊎◌, inl, inr, ℕ, suc, Bool, true, false, ◌&&◌, ◌||◌, not, List, [], ◌∷◌, length, map, slice_get, refl, sym, ap, ◌∙◌, subst, Option, Some, None}
use Rattle.std.specs.Prelude.{is_some}
use Rattle.std.specs.Cmp.Derive.{both_true}
use Rattle.std.proofs.lemmas.Bool.{false≢true}
use Rattle.spv_logic.proofs.list.Tests.{left_true}
use Rattle.spv_logic.specs.declared.conditions.TermId.{TermId}
use Rattle.spv_logic.specs.declared.types.Sort.{Sort}
use Rattle.spv_logic.specs.declared.types.Sort.TheVariants as sort
use Rattle.spv_logic.specs.declared.types.Shape.{Shape}
use Rattle.spv_logic.specs.declared.types.Decl.{Decl}
use Rattle.spv_logic.specs.declared.operators.Head.TheVariants as head
use Rattle.spv_logic.specs.Terms.{Term, term_eq}
use Rattle.spv_logic.specs.Formulas.{equation, below}
use Rattle.spv_logic.specs.Sorts.{term_sort, with_sorts, sort_before, result_sort}
use Rattle.spv_logic.specs.Conditions.{Sequent}
use Rattle.spv_logic.proofs.Equality.{term_eq-true}
use Rattle.spv_logic.proofs.Sorting.{taken}
use Rattle.spv_term.specs.Arena.{Arena, AllBelow, tree}
use Rattle.spv_term.proofs.TreeLemmas.{AllBelow-at}
use Rattle.spv_atoms.specs.Atoms as sorts
use Rattle.spv_atoms.specs.Atoms.{has_sort, is_atom}
use Rattle.spv_atoms.specs.Order.{passing}
use Rattle.spv_atoms.proofs.Members.{has, has-with_terms}
use Rattle.spv_proof_rules.specs.Evaluation.{sides}
use Rattle.spv_proof_rules.specs.Effects.{Question, is_truth, is_number}
use Rattle.spv_derivations.specs.derivation.Derivation.{are_numbers, asked}
use Rattle.spv_models.specs.leaf_models.Subterms.{subterms, truth_arguments}
use Rattle.spv_models.specs.leaf_models.Atoms.{is_open}
use Rattle.spv_models.specs.leaf_models.Laws.{AreFormulas}
use Rattle.spv_models.specs.leaf_models.Tables.{formulas_of}
use Rattle.spv_models.proofs.leaf_models.Values.{sort_known}
use Rattle.spv_models.proofs.leaf_models.Covering.{atoms-are}
use Rattle.spv_models.specs.split_trees.Paths as paths
use Rattle.spv_models.specs.split_trees.Paths.{atoms, questions}
use Rattle.spv_models.specs.split_trees.Shown.{IsFinished}
use Rattle.spv_assignments.specs.kleene.Passes.{at}
use Rattle.spv_assignments.specs.declared.partial_assignment.facts.Known.{Known}
use Rattle.spv_assignments.specs.partial_assignment.Facts.{fact_of}
use Rattle.spv_decisions.specs.literal_lookup.Orders.{crosses, orders, has_order}
use Rattle.spv_decisions.proofs.literal_lookup.Among.{passing_item}
use Rattle.spv_decisions.proofs.literal_lookup.Ordered.{order_is}
use Rattle.spv_decisions.specs.decision.Choosing.{is_comparison, is_false, HaveValues, HaveOrders}
use Rattle.spv_decisions.specs.decision.Laws.{IsFilledBy, GivesValues, AreKnownOn, ListsValues, NothingLeftIsFilled}
use Rattle.spv_decisions.proofs.decision.Questions.{questions-filled}

-- ---- ids that are among others

-- an id among these whose tree is a term
record StandsFor (a : Arena) (ids : List TermId) (t : Term) : Type 0 where
  place : ℕ
  id : TermId
  here : slice_get ids place ≡ Some id
  is : tree a id ≡ t

stands_for : (a : Arena) (ids : List TermId) (t : Term) → has (map (tree a) ids) t ≡ true → StandsFor a ids t
stands_for a [] t e = absurd (false≢true e)
stands_for a (u ∷ ids) t e = by_case (term_eq t (tree a u)) refl (λ h. stands_for a ids t h)
  where
    by_case : (b : Bool) → term_eq t (tree a u) ≡ b → (has (map (tree a) ids) t ≡ true → StandsFor a ids t) → StandsFor a (u ∷ ids) t
    by_case true h later = record { place = 0; id = u; here = refl; is = sym (term_eq-true t (tree a u) h) }
    by_case false h later =
        let found = later (sym (ap (λ b. b || has (map (tree a) ids) t) h) ∙ e) in
        record { place = suc found.place; id = found.id; here = found.here; is = found.is }

-- ---- the sorts of an equation

module _ (shapes : List Shape) (decls : List Decl) where
  one_sort : (o p : Option Sort) → with_sorts (sort_before o (sort_before p (Some []))) (result_sort shapes decls head.Eq) ≡ Some sort.Bool → o ≡ p
  one_sort None p e = cc
  one_sort (Some x) None e = cc
  one_sort (Some x) (Some y) e = let w : (x ∷ x ∷ []) ≡ (x ∷ y ∷ []) = (taken (x ∷ x ∷ []) (x ∷ y ∷ []) sort.Bool sort.Bool e).wanted_is in cc

  -- sides of an equation that is of sort Bool are both numbers, if the left one is
  other_number : (s t : Term) → sorts.is_truth shapes decls (equation s t) ≡ true → sorts.is_number shapes decls s ≡ true → sorts.is_number shapes decls t ≡ true
  other_number s t e h =
      ap (has_sort sort.Int) (sym (one_sort (term_sort shapes decls s) (term_sort shapes decls t) (sort_known sort.Bool (term_sort shapes decls (equation s t)) e))) ∙ h

-- ---- the order of an equation

not_false : (b c d : Bool) → b ≡ true → c ≡ true → (b && (c && not d)) ≡ false → d ≡ true
not_false true true true e f h = refl
not_false true true false e f h = sym h
not_false false c d e f h = absurd (false≢true e)
not_false true false d e f h = absurd (false≢true f)

-- an order of the sides of an equation puts one of them below the other
order_says : (q : Question) (fs : List Term) (s t f : Term) → (f ≡ below s t) ⊎ (f ≡ below t s) → paths.Known q fs f → paths.Known q fs (below s t) ⊎ paths.Known q fs (below t s)
order_says q fs s t f (inl e) k = inl (subst (λ x. paths.Known q fs x) e k)
order_says q fs s t f (inr e) k = inr (subst (λ x. paths.Known q fs x) e k)

module _ (a : Arena) (c : Sequent) (are : AreFormulas a.shapes a.decls (formulas_of c)) (ids : List TermId) (are_atoms : map (tree a) ids ≡ atoms (asked a c)) (inside : AllBelow (length a.nodes) ids)
    (value : Term → Option Bool) (values : List (Option Bool)) (lists : ListsValues a values value) (known : List Known) (have_values : HaveValues values ids) (have_orders : HaveOrders a values known ids)
    (fs : List Term) (finished : IsFinished (asked a c) fs value) (are_known : AreKnownOn a c fs known) where
  atom_id : (t : Term) → has (atoms (asked a c)) t ≡ true → StandsFor a ids t
  atom_id t m = stands_for a ids t (ap (λ ts. has ts t) are_atoms ∙ m)

  -- what is listed beside the id of an atom is its value
  listed_value : (t : Term) (s : StandsFor a ids t) → at values s.id.0 ≡ value t
  listed_value t s = lists s.id (AllBelow-at (length a.nodes) ids s.place s.id inside s.here) ∙ ap value s.is

  atom_value : (t : Term) → has (atoms (asked a c)) t ≡ true → is_some (value t) ≡ true
  atom_value t m =
      let s = atom_id t m in
      ap is_some (sym (listed_value t s)) ∙ have_values.each s.place s.id s.here

  filled : (t : Term) → has (questions (asked a c)) t ≡ true → is_some (value t) ≡ true
  filled t m = questions-filled (asked a c) are fs value finished atom_value t m

  atom_asked : (t : Term) → has (atoms (asked a c)) t ≡ true → has (questions (asked a c)) t ≡ true
  atom_asked t m = has-with_terms (atoms (asked a c)) (passing is_open (truth_arguments (is_truth (asked a c)) (subterms (formulas_of c)))) t m

  ordered : (s t : Term) → has (atoms (asked a c)) (equation s t) ≡ true → value (equation s t) ≡ Some false → is_number (asked a c) s ≡ true → paths.Known (asked a c) fs (below s t) ⊎ paths.Known (asked a c) fs (below t s)
  ordered s t m e h =
      let number : sorts.is_number a.shapes a.decls t ≡ true =
      other_number a.shapes a.decls s t (left_true _ _ (atoms-are a.shapes a.decls (formulas_of c) are (equation s t) m)) h in
      let i = atom_id (equation s t) m in
      let wrong : is_false (at values i.id.0) ≡ true = ap is_false (listed_value (equation s t) i ∙ e) in
      let compared : is_comparison a i.id ≡ true = ap (λ x. are_numbers (sorts.is_number a.shapes a.decls) (sides x)) i.is ∙ both_true h number in
      let ordered_by : has_order a known i.id ≡ true = not_false (is_false (at values i.id.0)) (is_comparison a i.id) (has_order a known i.id) wrong compared (have_orders.each i.place i.id i.here) in
      let o = passing_item (orders a i.id) known ordered_by in
      let crossed : crosses (equation s t) (fact_of a o.item) ≡ true = ap (λ x. crosses x (fact_of a o.item)) (sym i.is) ∙ o.passes in
      order_says (asked a c) fs s t (fact_of a o.item) (order_is (equation s t) (fact_of a o.item) s t refl crossed) (are_known o.place o.item o.here)

  is_filled : (given : Term → Option Bool) → GivesValues (asked a c) value given → IsFilledBy (asked a c) fs given
  is_filled given gives = record {
    full = λ t m. ap is_some (gives t m) ∙ filled t m;
    ordered = λ s t m e h. ordered s t m (sym (gives (equation s t) (atom_asked (equation s t) m)) ∙ e) h;
  }

pub nothing_left : NothingLeftIsFilled
nothing_left a c are ids are_atoms inside value values lists known full fs finished are_known given gives =
    is_filled a c are ids are_atoms inside value values lists known full.0 full.1 fs finished are_known given gives
