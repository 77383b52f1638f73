-- A proof whose terms are the same in two readings is accepted in one where it is in the other.
use Rattle.std.proofs.Common.{◌≡◌, ℕ, ◌<◌, Bool, true, false, ◌&&◌, List, [], ◌∷◌, ◌++◌, map, length, Option, Some, None, if◌then◌else◌, refl, ap, ◌∙◌}
use Rattle.std.specs.Prelude.{nat_eq}
use Rattle.spv_whole.specs.Fraction.{Fraction}
use Rattle.spv_logic.specs.declared.conditions.TermId.{TermId}
use Rattle.spv_logic.specs.declared.types.Shape.{Shape}
use Rattle.spv_logic.specs.declared.types.Decl.{Decl}
use Rattle.spv_logic.specs.Terms.{Term}
use Rattle.spv_logic.specs.Formulas.{negation, equation}
use Rattle.spv_logic.specs.Conditions.{Sequent}
use Rattle.spv_schemas.specs.declared.kinds.SchemaKind.{SchemaKind}
use Rattle.spv_schemas.specs.Kinds.{kind_of_number}
use Rattle.spv_term.specs.Arena.{Arena, AllBelow}
use Rattle.spv_atoms.specs.declared.proofs.Relation.{Relation}
use Rattle.spv_atoms.specs.declared.proofs.Relation.TheVariants.{AtMost, Equal}
use Rattle.spv_atoms.specs.declared.proofs.Stated.{Stated}
use Rattle.spv_atoms.specs.declared.proofs.Stated.TheVariants.{Is, Same}
use Rattle.spv_atoms.specs.declared.proofs.Step.{Step}
use Rattle.spv_atoms.specs.declared.proofs.Step.TheVariants as step
use Rattle.spv_atoms.specs.declared.proofs.Split.{Split}
use Rattle.spv_atoms.specs.declared.proofs.ProofNode.{ProofNode}
use Rattle.spv_atoms.specs.Atoms as atoms
use Rattle.spv_proof_rules.specs.Rules.{Rule, numbered_rule, instance_of}
use Rattle.spv_proof_rules.specs.Sums.{refutes}
use Rattle.spv_proof_rules.specs.Effects.{Question, Effect, Adds, Ends, Fails, adds_if, adds_known, congruent, at_most, is_empty, linear, stated, evaluated, fact_of_kind, cited, effect}
use Rattle.spv_proof_rules.specs.Accepted.{Path, Open, Closed, Broken, closed_if_last, on_effect, walk, cases_of, opened_if, after_node, on_opened, closes, accepts}
use Rattle.spv_proof_rules.specs.Stand.{RelationIn, StatedIn, StepIn, StepsIn, SplitIn, NodesIn}

module _ (shapes : List Shape) (decls : List Decl) (c : Sequent) (rules : List Rule) (a : Arena) (at other : TermId → Term) (same : (t : TermId) → t.0 < length a.nodes → at t ≡ other t) where
  abbrev over : (TermId → Term) → Question
  over read = record { shapes = shapes; decls = decls; at = read; sequent = c; rules = rules }

  abbrev truth : Term → Bool
  truth t = atoms.is_truth shapes decls t

  abbrev number : Term → Bool
  number t = atoms.is_number shapes decls t

  all_same : (ts : List TermId) → AllBelow (length a.nodes) ts → map at ts ≡ map other ts
  all_same [] h = refl
  all_same (t ∷ ts) h =
      let first = same t h.0 in
      let others = all_same ts h.1 in
      λ i. first i ∷ others i

  linear_same : (facts : List Term) (r : Relation) (first second : List (Fraction × ℕ)) → RelationIn a r → linear (over at) facts r first second ≡ linear (over other) facts r first second
  linear_same facts (AtMost s t) first second h =
      let p = same s h.0 in
      let q = same t h.1 in
      λ i. adds_if (number (p i) && (number (q i) && (is_empty second && refutes number facts (p i) (q i) first))) (at_most (p i) (q i))
  linear_same facts (Equal s t) first second h =
      let p = same s h.0 in
      let q = same t h.1 in
      λ i. adds_if (number (p i) && (number (q i) && (refutes number facts (p i) (q i) first && refutes number facts (q i) (p i) second))) (equation (p i) (q i))

  stated_same : (s : Stated) → StatedIn a s → stated (over at) s ≡ stated (over other) s
  stated_same (Is t true) h = ap (λ (u : Term). if truth u then Some u else None) (same t h)
  stated_same (Is t false) h = ap (λ (u : Term). if truth u then Some (negation u) else None) (same t h)
  stated_same (Same s t) h =
      let p = same s h.0 in
      let q = same t h.1 in
      λ i. if truth (p i) && truth (q i) then Some (equation (p i) (q i)) else None

  effect_same : (facts : List Term) (s : Step) → StepIn a s → effect (over at) facts s ≡ effect (over other) facts s
  effect_same facts (step.Given k) h = refl
  effect_same facts (step.Refl t) h = ap (λ (u : Term). Adds (equation u u)) (same t h)
  effect_same facts (step.Symm i) h = refl
  effect_same facts (step.Trans i j) h = refl
  effect_same facts (step.Cong t u ks) h =
      let p = same t h.0 in
      let q = same u h.1 in
      λ i. adds_if (congruent facts (p i) (q i) ks) (equation (p i) (q i))
  effect_same facts (step.Linear r first second) h = linear_same facts r first second h
  effect_same facts (step.Schema kind ts field) h = ap (λ (us : List Term). adds_known (fact_of_kind (over at) (kind_of_number kind) us field)) (all_same ts h) ∙ kind_same (kind_of_number kind)
    where
      kind_same : (k : Option SchemaKind) → adds_known (fact_of_kind (over at) k (map other ts) field) ≡ adds_known (fact_of_kind (over other) k (map other ts) field)
      kind_same None = refl
      kind_same (Some k) = refl
  effect_same facts (step.Rule r ts) h = ap (λ (us : List Term). adds_known (instance_of shapes decls (numbered_rule rules r) us)) (all_same ts h)
  effect_same facts (step.Eval s ks) h = ap (λ o. evaluated truth o (cited facts ks)) (stated_same s h)
  effect_same facts (step.Contra i j) h = refl

  onward : (x : Effect) (f g : Term → Path) (p : Path) → ((t : Term) → f t ≡ g t) → on_effect x f p ≡ on_effect x g p
  onward (Adds t) f g p h = h t
  onward Ends f g p h = refl
  onward Fails f g p h = refl

  opened_onward : (o : Option (List (List Term))) (f g : List (List Term) → Bool) → ((paths : List (List Term)) → f paths ≡ g paths) → on_opened o f ≡ on_opened o g
  opened_onward None f g h = refl
  opened_onward (Some paths) f g h = h paths

  walk_same : (facts : List Term) (steps : List Step) → StepsIn a steps → walk (over at) facts steps ≡ walk (over other) facts steps
  walk_same facts [] h = refl
  walk_same facts (s ∷ steps) h =
      ap (λ x. on_effect x (λ t. walk (over at) (facts ++ t ∷ []) steps) (closed_if_last steps)) (effect_same facts s h.0)
      ∙ onward (effect (over other) facts s) (λ t. walk (over at) (facts ++ t ∷ []) steps) (λ t. walk (over other) (facts ++ t ∷ []) steps) (closed_if_last steps) (λ t. walk_same (facts ++ t ∷ []) steps h.1)

  after_same : (p : Path) (split : Option Split) → SplitIn a split → after_node (over at) p split ≡ after_node (over other) p split
  after_same Closed None h = refl
  after_same Closed (Some s) h = refl
  after_same (Open facts) None h = refl
  after_same (Open facts) (Some s) h =
      ap (λ (u : Term). opened_if (atoms.is_atom truth u && nat_eq (length s.parts) (length (cases_of (over at) u))) facts (cases_of (over at) u)) (same s.atom h)
  after_same Broken None h = refl
  after_same Broken (Some s) h = refl

  closes_same : (paths : List (List Term)) (nodes : List ProofNode) → NodesIn a nodes → closes (over at) paths nodes ≡ closes (over other) paths nodes
  closes_same [] [] h = refl
  closes_same [] (n ∷ nodes) h = refl
  closes_same (facts ∷ paths) [] h = refl
  closes_same (facts ∷ paths) (n ∷ nodes) h =
      ap (λ o. on_opened o (λ new. closes (over at) (new ++ paths) nodes))
      (after_same (walk (over at) facts n.steps) n.split h.1 ∙ ap (λ p. after_node (over other) p n.split) (walk_same facts n.steps h.0))
      ∙ opened_onward (after_node (over other) (walk (over other) facts n.steps) n.split) (λ new. closes (over at) (new ++ paths) nodes) (λ new. closes (over other) (new ++ paths) nodes) (λ new. closes_same (new ++ paths) nodes h.2)

  pub accepts_same : (nodes : List ProofNode) → NodesIn a nodes → accepts (over at) nodes ≡ accepts (over other) nodes
  accepts_same nodes h = closes_same ([] ∷ []) nodes h
