-- What was found of all that is refuted with a condition, told of the condition.
use Rattle.std.proofs.Common.{◌≡◌, ℕ, ◌<◌, Bool, List, length, refl, sym, ap, ◌∙◌, subst}
use Rattle.spv_whole.specs.Fraction.{Fraction}
use Rattle.spv_proof_rules.specs.Accepted.{accepts}
use Rattle.spv_logic.specs.declared.conditions.TermId.{TermId}
use Rattle.spv_logic.specs.Terms.{Term}
use Rattle.spv_term.specs.declared.nodes.Condition.{Condition}
use Rattle.spv_term.specs.Arena.{Arena, tree}
use Rattle.spv_atoms.specs.declared.proofs.Step.{Step}
use Rattle.spv_atoms.specs.declared.proofs.ProofNode.{ProofNode}
use Rattle.spv_proof_rules.specs.Effects.{Question}
use Rattle.spv_proof_rules.specs.Stand.{question}
use Rattle.spv_models.specs.split_trees.Trees.{Tree}
use Rattle.spv_verdicts.specs.Verdicts as verdicts
use Rattle.spv_verdicts.specs.Verdicts.{Limits, IsReached, search_terms}
use Rattle.spv_verdicts.specs.Schemas.{enlarged, IsKeptOn, IsReachedWith, SurvivesFacts}
use Rattle.spv_verdicts.specs.declared.answers.trees.SplitNode.{SplitNode}
use Rattle.spv_verdicts.specs.declared.answers.verdicts.Round.{Round}
use Rattle.spv_verdicts.specs.declared.answers.verdicts.Unproved.{Unproved}
use Rattle.spv_verdicts.specs.declared.answers.verdicts.Wide.{Wide}
use Rattle.spv_verdicts.specs.declared.answers.verdicts.Wide.TheVariants as wide
use Rattle.spv_verdicts.specs.declared.answers.verdicts.Limit.{Limit}
use Rattle.spv_verdicts.specs.declared.answers.verdicts.Limit.TheVariants as limit
use Rattle.spv_verdicts.specs.declared.answers.verdicts.Verdict.TheVariants as verdict
use Rattle.spv_verdicts.specs.answers.Nodes.{tree_at}
use Rattle.spv_verdicts.specs.answers.Views.{CasesIn, SplitNodesIn, branch_in, pairs_in, wide_in}
use Rattle.spv_proof_rules.specs.Stand.{NodesIn}
use Rattle.spv_verdicts.specs.translation.Exchanged.{Exchanges, exchanged_nodes}
use Rattle.spv_verdicts.specs.translation.ExchangedTrees.{exchanged_tree}
use Rattle.spv_verdicts.specs.translation.Laws.{ExchangedIsAccepted, ExchangedIsKept}
use Rattle.spv_fact_search.specs.Enlarging.{IsEnough}
use Rattle.spv_fact_search.specs.Telling.{IsFoundOf, IsLimitOf, IsLimitWith, IsToldWith}

module _ (a : Arena) (c : Condition) (limits : Limits) where
  abbrev q : Question
  q = question a c

  -- ---- limits

  pub told-terms : IsEnough q limits.terms → (n : ℕ) → IsLimitOf a c limits (limit.Terms n) → IsLimitWith a c limits (limit.Terms 1000000)
  told-terms enough n l = record { terms_in = tt; reached = record { limit = refl; more = enough (subst (λ m. m < length (search_terms (enlarged q))) l.reached.limit l.reached.more) } }

  pub told-splits : ExchangedIsKept → (table : List Step) → Exchanges (enlarged q) q table → (old new : List SplitNode) → ((at : TermId → Term) → tree_at at new ≡ exchanged_tree table (tree_at at old)) → SplitNodesIn a new
      → IsLimitOf a c limits (limit.Splits old) → IsLimitWith a c limits (limit.Splits new)
  told-splits kept table ex old new is there l = record {
    terms_in = there;
    reached = subst (λ (t : Tree). IsKeptOn q limits.splits t) (sym (is (tree a))) (kept q table ex limits.splits (tree_at (tree a) old) l.reached);
  }

  wide-kept : (w : Wide) → IsReached a (enlarged q) limits (wide_in a w) → IsReachedWith a q limits (wide_in a w)
  wide-kept (wide.Form t) r = r
  wide-kept (wide.Pivot e) r = r
  wide-kept (wide.Sum nodes op x y) r = r
  wide-kept (wide.Value table t op x y) r = r

  pub told-number : (w : Wide) → IsLimitOf a c limits (limit.Number w) → IsLimitWith a c limits (limit.Number w)
  told-number w l = record { terms_in = l.terms_in; reached = wide-kept w l.reached }

  -- ---- verdicts

  pub told-proof : ExchangedIsAccepted → (table : List Step) → Exchanges (enlarged q) q table → (old new : List ProofNode) → new ≡ exchanged_nodes table old → NodesIn a new
      → IsFoundOf a c limits (verdict.Proved old) → IsToldWith a c limits (verdict.Proved new)
  told-proof accepted table ex old new is there f = record {
    terms_in = there;
    right = ap (λ nodes. accepts q nodes) is ∙ accepted (enlarged q) q table ex old f.right;
  }

  pub told-limit : (rounds : List Round) (old new : Limit) → IsFoundOf a c limits (verdict.GaveUp rounds old) → IsLimitWith a c limits new → IsToldWith a c limits (verdict.GaveUp rounds new)
  told-limit rounds old new f l = record { terms_in = (f.terms_in.0, l.terms_in); right = record { reached = l.reached; no_rounds = f.right.no_rounds } }

  pub limit-found : (rounds : List Round) (l : Limit) → IsFoundOf a c limits (verdict.GaveUp rounds l) → IsLimitOf a c limits l
  limit-found rounds l f = record { terms_in = f.terms_in.1; reached = f.right.reached }

  pub told-branch : (old : Unproved) (own : List (TermId × Bool)) → CasesIn a own
      → ((table : List (Term × Fraction)) → verdicts.Survives (enlarged q) (branch_in a old.branch) table → SurvivesFacts q (branch_in a own) table)
      → IsFoundOf a c limits (verdict.Unproved old) → IsToldWith a c limits (verdict.Unproved (record { branch = own; table = old.table; instances = old.instances }))
  told-branch old own there survives f = record {
    terms_in = (there, f.terms_in.1, f.terms_in.2);
    right = record { survives = survives (pairs_in a old.table.values) f.right.survives; no_instances = f.right.no_instances };
  }
