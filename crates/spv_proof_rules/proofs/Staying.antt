-- What a step does stays the same where the arena grows.
use Rattle.std.proofs.Common.{◌≡◌, ℕ, ◌<◌, true, false, ◌&&◌, List, [], map, length, Option, Some, None, if◌then◌else◌, refl, ap, arith}
use Rattle.std.specs.List.{filter}
use Rattle.spv_whole.specs.Fraction.{Fraction}
use Rattle.spv_logic.specs.declared.names.names.Symbol.{Symbol}
use Rattle.spv_logic.specs.declared.conditions.TermId.{TermId}
use Rattle.spv_logic.specs.Terms.{Term}
use Rattle.spv_logic.specs.Formulas.{negation, equation}
use Rattle.spv_logic.specs.Conditions.{Sequent}
use Rattle.spv_term.specs.Arena.{AllBelow, Arena, Extends, tree}
use Rattle.spv_term.proofs.ArenaLemmas.{length-Extends, tree-Extends, AllBelow-Extends, map_tree-Extends}
use Rattle.spv_schemas.specs.declared.kinds.SchemaKind.{SchemaKind}
use Rattle.spv_schemas.specs.Kinds.{kind_of_number}
use Rattle.spv_schemas.specs.Facts.{schema_fact}
use Rattle.spv_atoms.specs.declared.proofs.Relation.{Relation}
use Rattle.spv_atoms.specs.declared.proofs.Relation.TheVariants.{AtMost, Equal}
use Rattle.spv_atoms.specs.declared.proofs.Stated.{Stated}
use Rattle.spv_atoms.specs.declared.proofs.Stated.TheVariants.{Is, Same}
use Rattle.spv_atoms.specs.declared.proofs.Step.{Step}
use Rattle.spv_atoms.specs.declared.proofs.Step.TheVariants as step
use Rattle.spv_atoms.specs.Steps.{Part, Number, Fact, OtherFact, Facts, One, Several, Sums, States, Field, names_terms, shape}
use Rattle.spv_atoms.specs.Atoms as atoms
use Rattle.spv_atoms.proofs.Steps.{of_each-map}
use Rattle.spv_proof_rules.specs.Sums.{refutes}
use Rattle.spv_proof_rules.specs.Rules.{Rule, numbered_rule, instance_of}
use Rattle.spv_proof_rules.specs.Effects.{Question, Adds, is_truth, is_number, adds_if, adds_known, at_most, cited, congruent, effect, evaluated, fact_of_kind, given_effect, is_empty, linear, rule_stated, schema_stated, stated}
use Rattle.spv_proof_rules.specs.Stand.{PartIn, RelationIn, StatedIn, StepIn}

module _ {old new : Arena} (more : Extends old new) where
  pub below-Extends : (n : ℕ) → n < length old.nodes → n < length new.nodes
  below-Extends n h = omega (arith, length-Extends more)

  -- ---- the terms that a step names

  pub StatedIn-Extends : (s : Stated) → StatedIn old s → StatedIn new s
  StatedIn-Extends (Is t b) h = below-Extends t.0 h
  StatedIn-Extends (Same s t) h = (below-Extends s.0 h.0, below-Extends t.0 h.1)

  pub RelationIn-Extends : (r : Relation) → RelationIn old r → RelationIn new r
  RelationIn-Extends (AtMost s t) h = (below-Extends s.0 h.0, below-Extends t.0 h.1)
  RelationIn-Extends (Equal s t) h = (below-Extends s.0 h.0, below-Extends t.0 h.1)

  PartIn-Extends : (p : Part) → PartIn old p → PartIn new p
  PartIn-Extends (Number k) h = tt
  PartIn-Extends (Fact k) h = tt
  PartIn-Extends (OtherFact k) h = tt
  PartIn-Extends (Facts ks) h = tt
  PartIn-Extends (One t) h = below-Extends t.0 h
  PartIn-Extends (Several ts) h = AllBelow-Extends more ts h
  PartIn-Extends (Sums r first second) h = RelationIn-Extends r h
  PartIn-Extends (States s) h = StatedIn-Extends s h
  PartIn-Extends (Field x) h = tt

  pub StepIn-Extends : (s : Step) → StepIn old s → StepIn new s
  StepIn-Extends s h = of_each-map (PartIn old) (PartIn new) PartIn-Extends (filter names_terms (shape s).parts) h

  -- ---- what it does, where what is to be shown is the same

  module _ (c d : Sequent) (same : c ≡ d) (rules : List Rule) where
    abbrev now : Question
    now = record { shapes = new.shapes; decls = new.decls; at = tree new; sequent = c; rules = rules }

    abbrev past : Question
    past = record { shapes = old.shapes; decls = old.decls; at = tree old; sequent = d; rules = rules }

    pub truth-Extends : is_truth now ≡ is_truth past
    truth-Extends = λ i. atoms.is_truth (more.shapes i) (more.decls i)

    pub number-Extends : is_number now ≡ is_number past
    number-Extends = λ i. atoms.is_number (more.shapes i) (more.decls i)

    stated-Extends : (s : Stated) → StatedIn old s → stated now s ≡ stated past s
    stated-Extends (Is t true) h = λ i. if truth-Extends i (tree-Extends more t h i) then Some (tree-Extends more t h i) else None
    stated-Extends (Is t false) h = λ i. if truth-Extends i (tree-Extends more t h i) then Some (negation (tree-Extends more t h i)) else None
    stated-Extends (Same s t) h =
        λ i. if truth-Extends i (tree-Extends more s h.0 i) && truth-Extends i (tree-Extends more t h.1 i) then Some (equation (tree-Extends more s h.0 i) (tree-Extends more t h.1 i)) else None

    pub linear-Extends : (facts : List Term) (r : Relation) (first second : List (Fraction × ℕ)) → RelationIn old r → linear now facts r first second ≡ linear past facts r first second
    linear-Extends facts (AtMost s t) first second h =
        let n = number-Extends in
        let x = tree-Extends more s h.0 in
        let y = tree-Extends more t h.1 in
        λ i. adds_if (n i (x i) && (n i (y i) && (is_empty second && refutes (n i) facts (x i) (y i) first))) (at_most (x i) (y i))
    linear-Extends facts (Equal s t) first second h =
        let n = number-Extends in
        let x = tree-Extends more s h.0 in
        let y = tree-Extends more t h.1 in
        λ i. adds_if (n i (x i) && (n i (y i) && (refutes (n i) facts (x i) (y i) first && refutes (n i) facts (y i) (x i) second))) (equation (x i) (y i))

    pub schema-Extends : (number : ℕ) (ts : List TermId) (field : Option Symbol) → AllBelow (length old.nodes) ts → schema_stated now number ts field ≡ schema_stated past number ts field
    schema-Extends number ts field h = by (kind_of_number number)
      where
        by : (o : Option SchemaKind) → fact_of_kind now o (map (tree new) ts) field ≡ fact_of_kind past o (map (tree old) ts) field
        by None = refl
        by (Some kind) =
            let us = map_tree-Extends more ts h in
            λ i. schema_fact (more.shapes i) (more.decls i) kind (us i) field

    pub rule-Extends : (number : ℕ) (ts : List TermId) → AllBelow (length old.nodes) ts → rule_stated now number ts ≡ rule_stated past number ts
    rule-Extends number ts h =
        let us = map_tree-Extends more ts h in
        λ i. instance_of (more.shapes i) (more.decls i) (numbered_rule rules number) (us i)

    pub effect-Extends : (facts : List Term) (s : Step) → StepIn old s → effect now facts s ≡ effect past facts s
    effect-Extends facts (step.Given k) h = ap (λ q. given_effect q k) same
    effect-Extends facts (step.Refl t) h = ap (λ x. Adds (equation x x)) (tree-Extends more t h)
    effect-Extends facts (step.Symm i) h = refl
    effect-Extends facts (step.Trans i j) h = refl
    effect-Extends facts (step.Cong t u ks) h =
        let x = tree-Extends more t h.0 in
        let y = tree-Extends more u h.1 in
        λ i. adds_if (congruent facts (x i) (y i) ks) (equation (x i) (y i))
    effect-Extends facts (step.Linear r first second) h = linear-Extends facts r first second h
    effect-Extends facts (step.Schema kind ts field) h = ap adds_known (schema-Extends kind ts field h)
    effect-Extends facts (step.Rule number ts) h = ap adds_known (rule-Extends number ts h)
    effect-Extends facts (step.Eval s ks) h = λ i. evaluated (truth-Extends i) (stated-Extends s h i) (cited facts ks)
    effect-Extends facts (step.Contra i j) h = refl
