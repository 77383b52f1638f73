-- The subterms that a table lists were added to the graph.
use Rattle.std.proofs.Common.{◌≡◌, ℕ, ◌<◌, Bool, true, false, not, List, length, refl, sym, ap, ◌∙◌, subst, Option, Some}
use Rattle.std.specs.Prelude.{slice_get}
use Rattle.std.specs.Option.{option_map}
use Rattle.std.specs.Cmp.Derive.{both_true}
use Rattle.std.proofs.lemmas.Bool.{false≢true}
use Rattle.std.proofs.lemmas.Option.{same_Some, slice_get-map}
use Rattle.spv_logic.specs.declared.conditions.TermId.{TermId}
use Rattle.spv_logic.specs.Terms.{Term, term}
use Rattle.spv_term.specs.declared.nodes.Condition.{Condition}
use Rattle.spv_term.specs.Arena.{Arena, tree}
use Rattle.spv_term.proofs.ArenaLemmas.{HasOneId-arena}
use Rattle.spv_term.proofs.TreeLemmas.{AllBelow-at}
use Rattle.spv_atoms.specs.Forms.{constant_values}
use Rattle.spv_atoms.specs.Tables.{all_truths}
use Rattle.spv_atoms.proofs.Members.{has}
use Rattle.spv_proof_rules.specs.Stand.{question}
use Rattle.spv_derivations.specs.derivation.Derived.{is_truth}
use Rattle.spv_congruence.specs.Keep.{IsNode}
use Rattle.spv_models.specs.leaf_models.Subterms.{subterms, is_listed, means, is_uncomputed}
use Rattle.spv_models.specs.leaf_models.Tables.{formulas_of}
use Rattle.spv_models.proofs.leaf_models.Lookups.{has-passing}
use Rattle.spv_models.proofs.leaf_models.Owns.{own-plain, own-open}
use Rattle.spv_models.proofs.leaf_models.Standing.{uncomputed-in-atoms}
use Rattle.spv_share.specs.declared.both.Both.{Both}
use Rattle.spv_share.proofs.combination_laws.Exact.{node_listed, inside}
use Rattle.spv_branch_theory.specs.model_construction.Firsts.{HasNodes}
use Rattle.spv_branch_theory.specs.model_construction.Laws.{IsOne, IsOther}
use Rattle.spv_branch_theory.specs.consistency.Laws.{IsOpenState}
use Rattle.spv_branch_theory.proofs.consistency.Sameness.{found_id}
use Rattle.spv_branch_theory.specs.saturation.States.{AreListed}

pub not_true : (b : Bool) → not b ≡ true → b ≡ false
not_true true e = absurd (false≢true e)
not_true false e = refl

-- a term that a table lists is not computed
listed_uncomputed : (truth : Term → Bool) (t : Term) → is_listed t ≡ true → is_uncomputed truth t ≡ true
listed_uncomputed truth (term h ts) e =
    let own : means h (constant_values ts) ≡ false = not_true (means h (constant_values ts)) e in
    both_true (ap not (own-plain h (constant_values ts) (all_truths truth ts) own)) (ap not (own-open h (constant_values ts) own))

module _ (a : Arena) (c : Condition) (ids : List TermId) (flags : List Bool) (are : AreListed a c ids flags) where
  -- each id is that of a subterm
  pub id_there : (place : ℕ) (t : TermId) → slice_get ids place ≡ Some t → has (subterms (formulas_of (question a c).sequent)) (tree a t) ≡ true
  id_there place t at =
      ap (λ ts. has ts (tree a t)) (sym are.subterms.trees) ∙ found_id a ids (tree a t) (record { id = t; listed = (place, at); is = refl })

  pub id_inside : (place : ℕ) (t : TermId) → slice_get ids place ≡ Some t → t.0 < length a.nodes
  id_inside place t at = AllBelow-at (length a.nodes) ids place t are.in_range at

  -- its flag says whether a table lists it
  flag_is : (place : ℕ) (t : TermId) (f : Bool) → slice_get ids place ≡ Some t → slice_get flags place ≡ Some f → is_listed (tree a t) ≡ f
  flag_is place t f at flagged =
      same_Some (is_listed (tree a t)) f
      (sym (ap (option_map (λ u. is_listed (tree a u))) at) ∙ (sym (slice_get-map (λ u. is_listed (tree a u)) ids place) ∙ (ap (λ fl. slice_get fl place) (sym are.subterms.flags_are) ∙ flagged)))

  pub one_listed : (t : TermId) → IsOne ids flags t → is_listed (tree a t) ≡ true
  one_listed t one = flag_is one.place t true one.there one.flagged

  pub other_unlisted : (t : TermId) → IsOther ids flags t → is_listed (tree a t) ≡ false
  other_unlisted t other = flag_is other.place t false other.there other.flagged

module _ (a : Arena) (c : Condition) (b : Both) (cases : List Term) (value : Term → Option Bool) (s : IsOpenState a c b cases value) where
  -- a listed subterm of the arena was added
  listed_node : (t : TermId) → t.0 < length a.nodes → has (subterms (formulas_of (question a c).sequent)) (tree a t) ≡ true → is_listed (tree a t) ≡ true → IsNode b.trail.graph.nodes t
  listed_node t within m e =
      let there = uncomputed-in-atoms a.shapes a.decls (formulas_of (question a c).sequent) s.formulas (tree a t)
      (has-passing (is_uncomputed (is_truth a)) (subterms (formulas_of (question a c).sequent)) (tree a t) m (listed_uncomputed (is_truth a) (tree a t) e)) in
      let k = s.parts.each (tree a t) there in
      let node : IsNode b.trail.graph.nodes k.id = node_listed a s.ok b.trail.graph s.both.sound.trail.of s.exact s.terms_are k.id k.listed in
      subst (λ (u : TermId). IsNode b.trail.graph.nodes u)
      (HasOneId-arena a s.ok k.id t (inside a s.ok b.trail.graph s.both.sound.trail.of s.exact s.terms_are k.id node) within k.is) node

  pub listed_nodes : (ids : List TermId) (flags : List Bool) → AreListed a c ids flags → HasNodes b.trail.graph.nodes ids flags
  listed_nodes ids flags are = record {
    each = λ i t at flagged. let one : IsOne ids flags t = record { place = i; there = at; flagged = flagged } in
        listed_node t (id_inside a c ids flags are i t at) (id_there a c ids flags are i t at) (one_listed a c ids flags are t one);
  }
