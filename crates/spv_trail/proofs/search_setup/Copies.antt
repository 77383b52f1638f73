-- A condition in an arena of its own, and with what is asked of it there.
use Rattle.std.proofs.Common.{◌≡◌, ◌<◌, ℕ, length, sym, ap, ◌∙◌, subst, arith}
use Rattle.spv_logic.specs.Conditions.{Sequent}
use Rattle.spv_term.specs.declared.nodes.Condition.{Condition}
use Rattle.spv_term.specs.Arena.{Arena, AllBelow, sequent, Extends}
use Rattle.spv_term.proofs.ArenaLemmas.{AllBelow-Extends, length-Extends, map_tree-Extends, tree-Extends}
use Rattle.spv_atoms.specs.Atoms.{is_truth}
use Rattle.spv_proof_rules.specs.Stand.{question}
use Rattle.spv_models.specs.leaf_models.Atoms as leaves
use Rattle.spv_models.specs.leaf_models.Atoms.{all_equations}
use Rattle.spv_models.specs.leaf_models.Laws.{AreFormulas}
use Rattle.spv_models.specs.leaf_models.Subterms.{is_among, subterms}
use Rattle.spv_models.specs.leaf_models.Tables.{formulas_of}
use Rattle.spv_search_terms.specs.subterms.Gaining.{Stops}
use Rattle.spv_models.specs.split_trees.Paths.{atoms, questions}
use Rattle.spv_search_terms.specs.declared.condition_copy.filling.Copied.{Copied}
use Rattle.spv_search_terms.specs.condition_copy.Copies.{all_terms, IsCopy}
use Rattle.spv_search_terms.specs.declared.split_candidates.asking.Questions.{Questions}
use Rattle.spv_search_terms.specs.split_candidates.Asking.{IsAsked}
use Rattle.spv_verdicts.proofs.TermCounts.{copies-stop, asks-stop}
use Rattle.spv_trail.specs.search_setup.Openings.{AreAsked, HasTooMany, IsCopied}

-- ---- further terms

-- what a condition claims stays the same with further terms
same_claim : (k b : Arena) (d : Condition) → Extends k b → AllBelow (length k.nodes) d.given → d.goal.0 < length k.nodes → sequent b d ≡ sequent k d
same_claim k b d more given goal = λ i. record { given = map_tree-Extends more d.given given i; goal = tree-Extends more d.goal goal i }

module _ (a : Arena) (c : Condition) where
  pub copied : (most : ℕ) (k : Copied) → IsCopy a c most k → IsCopied a c k.terms k.condition
  copied most k h = record { claim = h.condition; shapes = h.shapes; decls = h.decls }

  pub copied_on : (k b : Arena) (d : Condition) → Extends k b → IsCopied a c k d → IsCopied a c b d
  copied_on k b d more h = record {
    claim = record {
      given_in = AllBelow-Extends more d.given h.claim.given_in;
      goal_in = omega (arith, h.claim.goal_in, length-Extends more);
      claim = same_claim k b d more h.claim.given_in h.claim.goal_in ∙ h.claim.claim;
      origin = h.claim.origin;
    };
    shapes = more.shapes ∙ h.shapes;
    decls = more.decls ∙ h.decls;
  }

  pub formulas_copied : (b : Arena) (d : Condition) → IsCopied a c b d → AreFormulas a.shapes a.decls (formulas_of (question a c).sequent) → AreFormulas b.shapes b.decls (formulas_of (question b d).sequent)
  formulas_copied b d h are =
      λ f m.
      let among : is_among (formulas_of (sequent a c)) f ≡ is_among (formulas_of (sequent b d)) f = ap (λ (s : Sequent). is_among (formulas_of s) f) (sym h.claim.claim) in
      let sorts : is_truth b.shapes b.decls f ≡ is_truth a.shapes a.decls f = λ i. is_truth (h.shapes i) (h.decls i) f in
      sorts ∙ are f (among ∙ m)

  -- ---- too many terms

  pub copy_too_many : (limit most : ℕ) (k : Copied) → IsCopy a c limit k → most < length (all_terms (sequent a c)) → HasTooMany a c most k.terms k.condition
  copy_too_many limit most k h many =
      let here = copied limit k h in
      record { copy = here; many = copies-stop (question k.terms k.condition) most (subst (λ (s : Sequent). most < length (all_terms s)) (sym here.claim.claim) many) }

  pub asks_too_many : (most : ℕ) (k : Copied) (b : Arena) → IsCopy a c most k → Extends k.terms b
      → Stops k.terms (all_equations k.terms.shapes k.terms.decls (subterms (formulas_of (sequent k.terms k.condition)))) → HasTooMany a c most b k.condition
  asks_too_many most k b h more stops =
      let here = copied_on k.terms b k.condition more (copied most k h) in
      let same : sequent b k.condition ≡ sequent k.terms k.condition = same_claim k.terms b k.condition more h.condition.given_in h.condition.goal_in in
      let equations : all_equations b.shapes b.decls (subterms (formulas_of (sequent b k.condition))) ≡ all_equations k.terms.shapes k.terms.decls (subterms (formulas_of (sequent k.terms k.condition))) =
      λ i. all_equations (more.shapes i) (more.decls i) (subterms (formulas_of (same i))) in
      record { copy = here; many = asks-stop (question b k.condition) most k.terms (h.terms ∙ ap all_terms (sym here.claim.claim)) h.most (subst (Stops k.terms) (sym equations) stops) }

-- ---- what is asked

pub asked_there : (k b : Arena) (d : Condition) (q : Questions) → Extends k b → AllBelow (length k.nodes) d.given → d.goal.0 < length k.nodes → IsAsked k d b q → AreAsked b d q
asked_there k b d q more given goal h =
    let same : sequent b d ≡ sequent k d = same_claim k b d more given goal in
    let parts : subterms (formulas_of (sequent b d)) ≡ subterms (formulas_of (sequent k d)) = ap (λ (s : Sequent). subterms (formulas_of s)) same in
    let its_atoms : atoms (question b d) ≡ leaves.atoms k.shapes k.decls (formulas_of (sequent k d)) = λ i. leaves.atoms (more.shapes i) (more.decls i) (formulas_of (same i)) in
    let its_questions : questions (question b d) ≡ leaves.questions k.shapes k.decls (formulas_of (sequent k d)) = λ i. leaves.questions (more.shapes i) (more.decls i) (formulas_of (same i)) in
    record {
      subterms_are = record { subterms = h.subterms ∙ sym parts; subterms_in = h.subterms_in; listed = h.listed };
      atoms_are = record { atoms = h.atoms ∙ sym its_atoms; atoms_in = h.atoms_in };
      questions_are = record { questions = h.questions ∙ sym its_questions; questions_in = h.questions_in };
    }
