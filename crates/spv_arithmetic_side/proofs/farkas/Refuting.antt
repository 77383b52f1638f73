-- Contradictions of bounds as sums of facts of a derivation.
use Rattle.std.proofs.Common.{◌≡◌, ℕ, true, List, [], pos, ap, ◌∙◌, subst, Some, None, Result, Ok, Err, IfOk}
use mathlib.Core.Path.{ap₂}
use Rattle.spv_whole.specs.Fraction.{Fraction}
use Rattle.spv_logic.specs.declared.conditions.TermId.{TermId}
use Rattle.spv_logic.specs.Terms.{Term}
use Rattle.spv_term.specs.Arena.{Arena, IsArena, tree}
use Rattle.spv_atoms.specs.declared.proofs.Relation.TheVariants as relation
use Rattle.spv_proof_rules.specs.Sums.{difference, is_at_most_zero, refutes}
use Rattle.spv_proof_rules.specs.Effects.{at_most, end_of_one}
use Rattle.spv_tableau_rules.specs.tableaux.Contradictions.{Multiple}
use Rattle.spv_derivations.specs.declared.derivation.entries.Entry.{Entry}
use Rattle.spv_derivations.specs.derivation.Derivation.{facts, fact_at, Gains}
use Rattle.spv_derivations.specs.derivation.Derived.{is_number, IsSum, relation_of}
use Rattle.spv_derivations.specs.derivation.Steps.{IsEnd}
use Rattle.spv_tableau_rules.specs.constraints.Sources.{Sources, fact_multiples}
use Rattle.spv_tableau_rules.specs.constraints.Laws.{numeral_of}
use Rattle.spv_tableau_rules.proofs.constraints.Sourcing.{kept_in_step}
use Rattle.spv_tableau_rules.proofs.constraints.Refuting.{contradiction_refutes}
use Rattle.spv_arithmetic_side.specs.farkas.Refuted.{IsRefuted, IsRefutedAbove, AreOneAndZero}

pub refuted_above : (a : Arena) → IsArena a → (es : List Entry) (p q : Term) (sources : Sources) (multiples : List Multiple) → IsRefutedAbove a es p q sources multiples
    → refutes (is_number a) (facts a es) p q (fact_multiples sources multiples) ≡ true
refuted_above a ok es p q sources multiples h = contradiction_refutes (is_number a) a ok (facts a es) p q h.forms h.inside h.bounds sources h.sourced multiples h.contradiction

-- what is refuted without a supposition is so with any
supposing : (a : Arena) (es : List Entry) (p q : Term) (sources : Sources) (multiples : List Multiple) → IsRefuted a es sources multiples → IsRefutedAbove a es p q sources multiples
supposing a es p q sources multiples h = record {
  forms = h.forms;
  bounds = h.bounds;
  inside = h.inside;
  sourced = kept_in_step (is_number a) a (facts a es) (is_at_most_zero (difference q p (pos 1))) h.forms h.bounds sources h.sourced;
  contradiction = h.contradiction;
}

pub one_is_sum : (a : Arena) → IsArena a → (es : List Entry) (one zero : TermId) → AreOneAndZero a one zero → (sources : Sources) (multiples : List Multiple) → IsRefuted a es sources multiples
    → (list second : List (Fraction × ℕ)) → list ≡ fact_multiples sources multiples → second ≡ [] → IsSum a es (relation.AtMost one zero) list second
one_is_sum a ok es one zero are sources multiples h list second list_is second_is = record {
  terms = (are.one_in, are.zero_in);
  numbers = (ap (is_number a) are.one_is, ap (is_number a) are.zero_is);
  shown = (
    second_is,
    ap (refutes (is_number a) (facts a es) (tree a one) (tree a zero)) list_is
        ∙ refuted_above a ok es (tree a one) (tree a zero) sources multiples (supposing a es (tree a one) (tree a zero) sources multiples h),
  );
}

pub gains_one : (a : Arena) (old new : List Entry) (n : ℕ) (one zero : TermId) → AreOneAndZero a one zero → Gains a old new n (relation_of a (relation.AtMost one zero))
    → Gains a old new n (at_most (numeral_of 1) (numeral_of 0))
gains_one a old new n one zero are h = subst (λ (t : Term). Gains a old new n t) (ap₂ at_most are.one_is are.zero_is) h

pub ends_by_one : (a : Arena) (es : List Entry) (n : ℕ) → fact_at a es n ≡ Some (at_most (numeral_of 1) (numeral_of 0)) → IsEnd a es n None
ends_by_one a es n e = ap end_of_one e

-- a callee's clause in other words
pub if_ok : {T E : Type 0} {P R : T → Type 0} (r : Result T E) → IfOk r P → ((t : T) → P t → R t) → IfOk r R
if_ok (Ok t) p go = go t p
if_ok (Err e) p go = tt
