-- What each step of a proof does on its path.
use Rattle.std.specs.Prelude.{ℕ, zero, suc, Bool, true, false, ◌&&◌, ◌||◌, not, List, [], ◌∷◌, map, Option, Some, None, slice_get, if◌then◌else◌}
use Rattle.spv_whole.specs.Fraction.{Fraction}
use Rattle.spv_logic.specs.declared.names.names.Symbol.{Symbol}
use Rattle.spv_logic.specs.declared.conditions.TermId.{TermId}
use Rattle.spv_logic.specs.declared.types.Shape.{Shape}
use Rattle.spv_logic.specs.declared.types.Decl.{Decl}
use Rattle.spv_logic.specs.declared.operators.Head.TheVariants.{Le, True, False}
use Rattle.spv_logic.specs.Terms.{Term, Terms, term, no_terms, terms, head_eq, term_eq}
use Rattle.spv_logic.specs.Formulas.{negation, equation}
use Rattle.spv_logic.specs.Conditions.{Sequent}
use Rattle.spv_schemas.specs.declared.kinds.SchemaKind.{SchemaKind}
use Rattle.spv_schemas.specs.Kinds.{kind_of_number}
use Rattle.spv_schemas.specs.Facts.{schema_fact}
use Rattle.spv_atoms.specs.declared.proofs.Relation.{Relation}
use Rattle.spv_atoms.specs.declared.proofs.Relation.TheVariants.{AtMost, Equal}
use Rattle.spv_atoms.specs.declared.proofs.Stated.{Stated}
use Rattle.spv_atoms.specs.declared.proofs.Stated.TheVariants.{Is, Same}
use Rattle.spv_atoms.specs.declared.proofs.Step.{Step}
use Rattle.spv_atoms.specs.declared.proofs.Step.TheVariants as step
use Rattle.spv_atoms.specs.Tables.{numeral_relation}
use Rattle.spv_atoms.specs.Atoms as atoms
use Rattle.spv_proof_rules.specs.Sums.{negated, refutes}
use Rattle.spv_proof_rules.specs.Rules.{Rule, numbered_rule, instance_of}
use Rattle.spv_proof_rules.specs.Evaluation.{sides, evaluates}

-- what a proof is to show: a sequent, over terms by their ids, over types and declared symbols, and under rules
pub record Question : Type 0 where
  pub shapes : List Shape
  pub decls : List Decl
  pub at : TermId → Term
  pub sequent : Sequent
  pub rules : List Rule

-- what a step does on a path: it adds a fact, ends the path, or does not follow
pub data Effect : Type 0 where
  Adds : Term → Effect
  Ends : Effect
  Fails : Effect

abbrev pub is_truth : Question → Term → Bool
is_truth q t = atoms.is_truth q.shapes q.decls t

abbrev pub is_number : Question → Term → Bool
is_number q t = atoms.is_number q.shapes q.decls t

abbrev pub adds_if : Bool → Term → Effect
adds_if true t = Adds t
adds_if false t = Fails

abbrev pub adds_known : Option Term → Effect
adds_known None = Fails
adds_known (Some t) = Adds t

-- ---- facts by their numbers, from 1

abbrev pub numbered : List Term → ℕ → Option Term
numbered facts zero = None
numbered facts (suc k) = slice_get facts k

abbrev pub fact_before : Option Term → Option (List Term) → Option (List Term)
fact_before None facts = None
fact_before (Some t) None = None
fact_before (Some t) (Some facts) = Some (t ∷ facts)

-- the cited facts, where each is there
abbrev pub cited : List Term → List ℕ → Option (List Term)
cited facts [] = Some []
cited facts (k ∷ ks) = fact_before (numbered facts k) (cited facts ks)

-- ---- hypotheses and equations

-- a hypothesis, or that the goal is false
abbrev pub given_effect : Sequent → ℕ → Effect
given_effect c zero = Adds (negation c.goal)
given_effect c (suc k) = adds_known (slice_get c.given k)

abbrev pub sides_of : Option Term → Option (Term × Term)
sides_of None = None
sides_of (Some t) = sides t

-- an equation with its sides exchanged
abbrev pub exchanged : Option (Term × Term) → Effect
exchanged None = Fails
exchanged (Some st) = Adds (equation st.1 st.0)

-- two equations with a shared middle term
abbrev pub joined : Option (Term × Term) → Option (Term × Term) → Effect
joined None tu = Fails
joined (Some st) None = Fails
joined (Some st) (Some tu) = adds_if (term_eq st.1 tu.0) (equation st.0 tu.1)

abbrev pub is_fact : Option Term → Term → Bool
is_fact None t = false
is_fact (Some s) t = term_eq s t

-- whether the cited facts are the equations of these arguments, in order
abbrev pub all_equal : List Term → Terms → Terms → List ℕ → Bool
all_equal facts no_terms no_terms [] = true
all_equal facts (terms t ts) (terms u us) (k ∷ ks) = is_fact (numbered facts k) (equation t u) && all_equal facts ts us ks
all_equal _ _ _ _ = false

-- whether two terms have one head, and the cited facts are the equations of their arguments
abbrev pub congruent : List Term → Term → Term → List ℕ → Bool
congruent facts (term h ts) (term k us) ks = head_eq h k && all_equal facts ts us ks

-- ---- relations of whole numbers

abbrev pub at_most : Term → Term → Term
at_most a b = term Le (terms a (terms b no_terms))

abbrev pub is_empty : List (Fraction × ℕ) → Bool
is_empty [] = true
is_empty (m ∷ multiples) = false

-- a relation that multiples of facts show: for an equality there are two lists, one for each direction
abbrev pub linear : Question → List Term → Relation → List (Fraction × ℕ) → List (Fraction × ℕ) → Effect
linear q facts (AtMost s t) first second =
    let a = q.at s in
    let b = q.at t in
    adds_if (is_number q a && (is_number q b && (is_empty second && refutes (is_number q) facts a b first))) (at_most a b)
linear q facts (Equal s t) first second =
    let a = q.at s in
    let b = q.at t in
    adds_if (is_number q a && (is_number q b && (refutes (is_number q) facts a b first && refutes (is_number q) facts b a second))) (equation a b)

-- ---- evaluations

-- the formula that an evaluation states, where the terms in it are of sort Bool
abbrev pub stated : Question → Stated → Option Term
stated q (Is t true) = if is_truth q (q.at t) then Some (q.at t) else None
stated q (Is t false) = if is_truth q (q.at t) then Some (negation (q.at t)) else None
stated q (Same s t) = if is_truth q (q.at s) && is_truth q (q.at t) then Some (equation (q.at s) (q.at t)) else None

abbrev pub evaluated : (Term → Bool) → Option Term → Option (List Term) → Effect
evaluated is_truth None facts = Fails
evaluated is_truth (Some formula) None = Fails
evaluated is_truth (Some formula) (Some facts) = adds_if (evaluates is_truth facts formula) formula

-- ---- schemas

abbrev pub fact_of_kind : Question → Option SchemaKind → List Term → Option Symbol → Option Term
fact_of_kind q None ts field = None
fact_of_kind q (Some kind) ts field = schema_fact q.shapes q.decls kind ts field

-- the fact of the kind of this number about these terms, which need not be those of the sequent
abbrev pub schema_stated : Question → ℕ → List TermId → Option Symbol → Option Term
schema_stated q number ts field = fact_of_kind q (kind_of_number number) (map q.at ts) field

-- ---- rules

-- what the rule of this number, from 1, says of these terms, which need not be those of the sequent
abbrev pub rule_stated : Question → ℕ → List TermId → Option Term
rule_stated q number ts = instance_of q.shapes q.decls (numbered_rule q.rules number) (map q.at ts)

-- ---- the end of a path

abbrev pub is_negation_of : Option Term → Term → Bool
is_negation_of None t = false
is_negation_of (Some s) t = term_eq s t

-- whether one of two formulas is the negation of the other
abbrev pub contrary : Term → Term → Bool
contrary s t = is_negation_of (negated s) t || is_negation_of (negated t) s

abbrev pub is_false : Option Bool → Bool
is_false None = false
is_false (Some b) = not b

-- whether a formula is never true: FALSE, NOT of TRUE, or what compares two numerals and does not hold
abbrev pub impossible : Term → Bool
impossible t =
    term_eq t (term False no_terms) || (term_eq t (negation (term True no_terms)) || is_false (numeral_relation t))

abbrev pub ends_if : Bool → Effect
ends_if true = Ends
ends_if false = Fails

abbrev pub end_of_one : Option Term → Effect
end_of_one None = Fails
end_of_one (Some t) = ends_if (impossible t)

abbrev pub end_of_two : Option Term → Option Term → Effect
end_of_two None t = Fails
end_of_two (Some s) None = Fails
end_of_two (Some s) (Some t) = ends_if (contrary s t)

abbrev pub end_of : List Term → Option Term → Option ℕ → Effect
end_of facts s None = end_of_one s
end_of facts s (Some k) = end_of_two s (numbered facts k)

-- ---- steps

-- what a step does after these facts
abbrev pub effect : Question → List Term → Step → Effect
effect q facts (step.Given k) = given_effect q.sequent k
effect q facts (step.Refl t) = Adds (equation (q.at t) (q.at t))
effect q facts (step.Symm i) = exchanged (sides_of (numbered facts i))
effect q facts (step.Trans i j) = joined (sides_of (numbered facts i)) (sides_of (numbered facts j))
effect q facts (step.Cong t u ks) = adds_if (congruent facts (q.at t) (q.at u) ks) (equation (q.at t) (q.at u))
effect q facts (step.Linear r first second) = linear q facts r first second
effect q facts (step.Schema kind ts field) = adds_known (schema_stated q kind ts field)
effect q facts (step.Rule number ts) = adds_known (rule_stated q number ts)
effect q facts (step.Eval s ks) = evaluated (is_truth q) (stated q s) (cited facts ks)
effect q facts (step.Contra i j) = end_of facts (numbered facts i) j
