-- Steps that close a branch.
use Rattle.std.proofs.Common.{◌≡◌, ℕ, suc, ◌+◌, true, List, [], ◌∷◌, ◌++◌, length, sym, ◌∙◌, subst, Result, Ok, Err, OnOk, arith}
use Rattle.std.proofs.lemmas.List.{length-map, length_push}
use Rattle.spv_logic.specs.Terms.{Term}
use Rattle.spv_atoms.specs.declared.proofs.Step.{Step}
use Rattle.spv_atoms.specs.declared.proofs.Step.TheVariants.{Contra}
use Rattle.spv_term.specs.declared.nodes.Condition.{Condition}
use Rattle.spv_term.specs.Arena.{Arena, tree, sequent}
use Rattle.spv_proof_rules.specs.Effects.{Question}
use Rattle.spv_proof_rules.specs.Accepted.{Closed, walk}
use Rattle.spv_proof_rules.specs.Stand.{question, StepsIn}
use Rattle.spv_verdicts.specs.Verdicts.{Limits}
use Rattle.spv_derivations.specs.declared.derivation.entries.Entry.{Entry}
use Rattle.spv_verdicts.specs.declared.answers.growing.Grown.TheVariants as grown
use Rattle.spv_share.specs.declared.both.Both.{Both}
use Rattle.spv_share.specs.Both.{told}
use Rattle.spv_share.specs.States.{Closes}
use Rattle.spv_search.specs.branches.Growth.{Growth, IsIn, Takes, case_in}
use Rattle.spv_derivations.specs.branches.Paths.{fact_in, facts_from, facts_in, IsPath}
use Rattle.spv_trail.specs.trail_states.Told.{IsStored}
use Rattle.spv_assignments.specs.declared.partial_assignment.facts.Known.{Known}
use Rattle.spv_trail.specs.declared.propagation.ending.End.{End}
use Rattle.spv_trail.specs.propagation.Learning.{EndsBy}
use Rattle.spv_search.specs.Searching.{formulas_in, HasTaken, IsWithin}
use Rattle.spv_search.proofs.Taking.{taken_closed}

-- ---- two clauses of a call

pub on_both : {T E : Type 0} {P Q R : Type 0} (r : Result T E) → OnOk r P → OnOk r Q → (P → Q → R) → OnOk r R
on_both (Ok t) p q go = go p q
on_both (Err e) p q go = tt

-- ---- how many facts a path has

facts_many : (q : Question) (before : List Term) (es : List Entry) → length (facts_from q before es) ≡ length before + length es
facts_many q before [] = none_more (length before)
  where
    none_more : (k : ℕ) → k ≡ k + 0
    none_more k = omega arith
facts_many q before (e ∷ es) =
    let more = facts_many q (before ++ fact_in q before e ∷ []) es in
    let long = length_push before (fact_in q before e) in
    next_one (length (facts_from q (before ++ fact_in q before e ∷ []) es)) (length (before ++ fact_in q before e ∷ [])) (length before) (length es) more long
  where
    next_one : (n m k j : ℕ) → n ≡ m + j → m ≡ k + 1 → n ≡ k + suc j
    next_one n m k j e f = omega (arith, e, f)

pub count_facts : (q : Question) (es : List Entry) → length (facts_in q es) ≡ length es
count_facts q es = let m = facts_many q [] es in omega (arith, m)

-- ---- steps that close a path behind all its facts

pub shared_closes : (a : Arena) (c : Condition) (b : Both) (es : List Entry) (ks : List Known) (count : ℕ) (steps : List Step) → count ≡ length es → IsStored a c es ks (told b) → Closes a b count steps
    → walk (question a c) (facts_in (question a c) es) steps ≡ Closed
shared_closes a c b es ks count steps many stored closes = closes.ends (sequent a c) (facts_in (question a c) es) (count_facts (question a c) es ∙ sym many) stored.literals

pub end_closes : (a : Arena) (c : Condition) (cases : List Term) (es : List Entry) (e : End) (steps : List Step) → EndsBy a c cases es e → steps ≡ Contra e.first e.second ∷ [] → walk (question a c) (facts_in (question a c) es) steps ≡ Closed
end_closes a c cases es e steps ends same = subst (λ (ss : List Step). walk (question a c) (facts_in (question a c) es) ss ≡ Closed) (sym same) ends.closes

-- the step by which facts end a path names no term
pub end_within : (a : Arena) (e : End) (steps : List Step) → steps ≡ Contra e.first e.second ∷ [] → StepsIn a steps
end_within a e steps same = subst (StepsIn a) (sym same) (tt, tt)

-- ---- the branch that comes next is closed

pub close_taken : (a : Arena) (c : Condition) (old new : Growth) (es : List Entry) (steps : List Step) (count : ℕ) → old.is_left ≡ true → count ≡ length old.cases → IsPath (question a c) (formulas_in a old.cases) es
    → ((known : List Term) → length known ≡ count → IsPath (question a c) known es → walk (question a c) known steps ≡ Closed) → StepsIn a steps
    → ((q : Question) → Takes q old new (grown.Closed steps)) → ((b : Arena) → IsIn b old → StepsIn b steps → IsIn b new) → (limits : Limits) → IsWithin a c limits old → HasTaken a c limits (length old.cases) old new
close_taken a c old new es steps count here many path closes there takes within limits w =
    taken_closed a c limits old new here w (within a w.terms_in there) steps (takes (question a c)) (closes (formulas_in a old.cases) (length-map old.cases (case_in (tree a)) ∙ sym many) path)
