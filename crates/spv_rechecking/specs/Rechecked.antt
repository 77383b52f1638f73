-- What the recheck of a condition comes to, of which a listing was handed in.
use Rattle.std.specs.Prelude.{◌≡◌, ℕ, Bool, true, false, ◌&&◌, List, [], ◌∷◌, map, length, Option, Some, None, is_some, nat_eq, nat_lt}
use Rattle.std.specs.List.{list_all, flat_map, filter}
use Rattle.std.specs.Option.{unwrap_or}
use Rattle.std.specs.Str.{bytes_eq}
use Rattle.spv_logic.specs.declared.names.names.Symbol.{Symbol}
use Rattle.spv_logic.specs.declared.conditions.Kind.{Kind}
use Rattle.spv_logic.specs.declared.conditions.Kind.TheVariants as kind
use Rattle.spv_logic.specs.declared.types.Shape.{Shape}
use Rattle.spv_logic.specs.declared.types.Decl.{Decl}
use Rattle.spv_logic.specs.declared.operators.Head.{Head}
use Rattle.spv_logic.specs.declared.operators.Head.TheVariants.{Eq, Le, True}
use Rattle.spv_logic.specs.Terms.{Term, term, no_terms, terms, term_eq}
use Rattle.spv_logic.specs.Conditions.{Sequent}
use Rattle.spv_term.specs.declared.nodes.Condition.{Condition}
use Rattle.spv_term.specs.Arena.{Arena, Extends, sequent, tree, trees_of}
use Rattle.spv_atoms.specs.declared.proofs.ProofNode as own
use Rattle.spv_atoms.specs.Atoms.{with_terms}
use Rattle.spv_proof_rules.specs.Rules.{Rule}
use Rattle.spv_proof_rules.specs.Effects.{Question}
use Rattle.spv_proof_rules.specs.Stand.{NodesIn}
use Rattle.spv_proof_rules.specs.Stops as stop
use Rattle.spv_proof_rules.specs.Stops.{layers}
use Rattle.spv_proof_rules.specs.Outcomes.{Ending, Comes, Stops, outcome}
use Rattle.spv_search_terms.specs.condition_copy.Copies.{all_terms, IsSameClaim}
use Rattle.spv_verdicts.specs.Verdicts.{Verdict, Proved, GaveUp, NotAccepted, WideForm, WideSum, TooManyTerms}
use Rattle.spv_verdicts.specs.declared.answers.verdicts.Decided.{Decided}
use Rattle.spv_verdicts.specs.answers.Views.{VerdictIn, verdict_in}
use Rattle.spv_listing_values.specs.declared.data.Header.{Header}
use Rattle.spv_listing_values.specs.declared.data.Step.{Step}
use Rattle.spv_listing_values.specs.declared.data.Step.TheVariants as says
use Rattle.spv_listing_values.specs.declared.data.ProofNode.{ProofNode}
use Rattle.spv_listing_values.specs.declared.data.Verdict as said
use Rattle.spv_listing_values.specs.declared.data.Verdict.TheVariants as verdict
use Rattle.spv_listing_values.specs.declared.data.Claim.{Claim}
use Rattle.spv_listing_values.specs.Written.{Written}
use Rattle.spv_listing_values.specs.Mapped.{node_at, claim_terms}
use Rattle.spv_rechecking.specs.written_terms.Standing.{Vocabulary, is_leaf, top, symbol_for, term_for, stands}
use Rattle.spv_rechecking.specs.Listed.{listed_nodes}

-- what a recheck is about beside the condition: the names and the first names of types by which terms are read, the rules, and how many
-- terms there may be
pub record Recheck : Type 0 where
  pub names : List (List ℕ)
  pub titles : List (Option Symbol)
  pub rules : List Rule
  pub most : ℕ

-- ---- what words may name

-- the variables, classes and start values of a condition, in the order of first appearance
abbrev pub leaves : Sequent → List Head
leaves c = filter is_leaf (map top (all_terms c))

-- the words of a listing are read with the names of the program and the variables of the condition
abbrev pub vocabulary : Recheck → List Shape → List Decl → Sequent → Vocabulary
vocabulary r shapes decls c = record { words = record { names = r.names; titles = r.titles; leaves = leaves c }; shapes = shapes; decls = decls }

-- the term that a text stands for, which stands for one
abbrev pub term_of : Vocabulary → Written → Term
term_of v w = unwrap_or (term_for v w) (term True no_terms)

-- ---- whether a listing speaks of the condition

abbrev pub kind_eq : Kind → Kind → Bool
kind_eq kind.Exit kind.Exit = true
kind_eq kind.Assert kind.Assert = true
kind_eq kind.Invariant kind.Invariant = true
kind_eq kind.Preserved kind.Preserved = true
kind_eq kind.Entry kind.Entry = true
kind_eq _ _ = false

abbrev pub header_eq : Header → Header → Bool
header_eq h k = bytes_eq h.routine k.routine && (kind_eq h.kind k.kind && nat_eq h.line k.line)

-- the nodes of the proof, of which there are none where there is no proof
abbrev pub proof_of : {T : Type 0} → said.Verdict T → List (ProofNode T)
proof_of (verdict.Proved nodes) = nodes
proof_of _ = []

abbrev pub has_node : {T : Type 0} → List (ProofNode T) → Bool
has_node [] = false
has_node (n ∷ nodes) = true

-- whether it has a proof of what has this header
abbrev pub is_about : {T : Type 0} → Header → Claim T → Bool
is_about header e = header_eq e.header header && has_node (proof_of e.verdict)

-- and each of its texts stands for a term
abbrev pub is_readable : Vocabulary → Header → Claim Written → Bool
is_readable v header e = is_about header e && list_all (stands v) (claim_terms e)

abbrev pub terms_eq : List Term → List Term → Bool
terms_eq [] [] = true
terms_eq (t ∷ ts) (u ∷ us) = term_eq t u && terms_eq ts us
terms_eq _ _ = false

-- whether its hypotheses and its goal are those of the condition
abbrev pub is_same : Vocabulary → Sequent → Claim Written → Bool
is_same v c e = terms_eq (map (term_of v) e.given) c.given && term_eq (term_of v e.goal) c.goal

-- whether a step is one over terms: what LINEAR shows is a relation, and the name of a field is one of the program
abbrev pub is_relation : Term → Bool
is_relation (term Eq (terms s (terms t no_terms))) = true
is_relation (term Le (terms s (terms t no_terms))) = true
is_relation _ = false

abbrev pub is_known : List (List ℕ) → Option (List ℕ) → Bool
is_known names None = true
is_known names (Some name) = is_some (symbol_for names name)

abbrev pub is_step : List (List ℕ) → Step Term → Bool
is_step names (says.Linear r first second) = is_relation r
is_step names (says.Schema k ts name) = is_known names name
is_step names _ = true

abbrev pub is_node : List (List ℕ) → ProofNode Term → Bool
is_node names n = list_all (is_step names) n.steps

-- ---- what is checked

-- the terms that there are when the check begins: 0, 1, TRUE, FALSE, the condition's, and behind them those of the listing, each where it is new
-- and behind its arguments
abbrev pub known : Vocabulary → Sequent → Claim Written → List Term
known v c e = with_terms (all_terms c) (flat_map layers (map (term_of v) (claim_terms e)))

-- what a listing is read as
pub data Reading : Type 0 where
  -- no proof of the condition
  Other : Reading
  -- there would be too many terms
  TooMany : Reading
  -- these nodes, where there are these terms
  Reads : List Term → List (ProofNode Term) → Reading

abbrev pub nodes_of : Vocabulary → Claim Written → List (ProofNode Term)
nodes_of v e = map (node_at (term_of v)) (proof_of e.verdict)

abbrev pub reading_by : Bool → Bool → Bool → List Term → List (ProofNode Term) → Reading
reading_by false many fits there nodes = Other
reading_by true true fits there nodes = TooMany
reading_by true false false there nodes = Other
reading_by true false true there nodes = Reads there nodes

abbrev pub reading : Vocabulary → ℕ → Header → Sequent → Option (Claim Written) → Reading
reading v most header c None = Other
reading v most header c (Some e) = reading_by (is_readable v header e) (nat_lt most (length (known v c e))) (is_same v c e && list_all (is_node v.words.names) (nodes_of v e)) (known v c e) (nodes_of v e)

-- ---- what the check comes to

-- the verdict of a check of these nodes
abbrev pub verdict_by : ℕ → List own.ProofNode → Ending Bool → Verdict
verdict_by most nodes (Comes true) = Proved nodes
verdict_by most nodes (Comes false) = NotAccepted
verdict_by most nodes (Stops (stop.WideSum op x y)) = GaveUp [] (WideSum nodes (record { op = op; left = x; right = y }))
verdict_by most nodes (Stops (stop.WideForm t)) = GaveUp [] (WideForm t)
verdict_by most nodes (Stops stop.TooMany) = GaveUp [] (TooManyTerms most)

-- what is to be shown of a sequent over an arena
abbrev pub question_over : List Rule → Arena → Sequent → Question
question_over rules a c = record { shapes = a.shapes; decls = a.decls; at = tree a; sequent = c; rules = rules }

-- a verdict over an arena is what the check of a proof comes to that a listing says so, where there are these terms when it begins
pub record IsChecked (r : Recheck) (c : Sequent) (there : List Term) (said : List (ProofNode Term)) (last : Arena) (v : Verdict) : Type 0 where
  pub first : Arena
  pub terms_are : trees_of first.nodes ≡ there
  pub grows : Extends first last
  pub nodes : List own.ProofNode
  pub nodes_in : NodesIn first nodes
  pub nodes_are : listed_nodes r.names (tree first) nodes ≡ said
  pub verdict : v ≡ verdict_by r.most nodes (outcome r.most (question_over r.rules first c) there nodes).ending

abbrev pub IsVerdictOf : Recheck → Sequent → Reading → Arena → Verdict → Type 0
IsVerdictOf r c Other last v = v ≡ NotAccepted
IsVerdictOf r c TooMany last v = v ≡ GaveUp [] (TooManyTerms r.most)
IsVerdictOf r c (Reads there said) last v = IsChecked r c there said last v

-- what was found of a condition of an arena, of which a listing says this, where it says something: the condition claims the same in an
-- arena of its own, and the verdict is what the recheck comes to
pub record IsRechecked (r : Recheck) (header : Header) (a : Arena) (c : Condition) (entry : Option (Claim Written)) (d : Decided) : Type 0 where
  pub claim : IsSameClaim a c d.terms d.condition
  pub shapes : d.terms.shapes ≡ a.shapes
  pub decls : d.terms.decls ≡ a.decls
  pub terms_in : VerdictIn d.terms d.verdict
  pub verdict :
      IsVerdictOf r (sequent a c) (reading (vocabulary r a.shapes a.decls (sequent a c)) r.most header (sequent a c) entry) d.terms
      (verdict_in d.terms d.verdict)
