-- What a check of a proof comes to, step by step, where there may be so many terms and no more.
use Rattle.std.specs.Prelude.{◌≡◌, ℕ, Bool, true, false, ◌&&◌, List, [], ◌∷◌, ◌++◌, map, length, Option, Some, None, Result, Ok, Err, nat_eq}
use Rattle.spv_whole.specs.Fraction.{Fraction}
use Rattle.spv_logic.specs.Terms.{Term}
use Rattle.spv_logic.specs.Formulas.{equation}
use Rattle.spv_atoms.specs.declared.proofs.Relation.{Relation}
use Rattle.spv_atoms.specs.declared.proofs.Relation.TheVariants.{AtMost, Equal}
use Rattle.spv_atoms.specs.declared.proofs.Step.{Step}
use Rattle.spv_atoms.specs.declared.proofs.Step.TheVariants as step
use Rattle.spv_atoms.specs.declared.proofs.Split.{Split}
use Rattle.spv_atoms.specs.declared.proofs.ProofNode.{ProofNode}
use Rattle.spv_atoms.specs.Atoms.{is_atom}
use Rattle.spv_proof_rules.specs.Sums.{refutes}
use Rattle.spv_proof_rules.specs.Effects.{Question, Effect, Adds, Ends, Fails, is_truth, is_number, is_empty, at_most, schema_stated, rule_stated, effect}
use Rattle.spv_proof_rules.specs.Accepted.{Path, Open, Closed, Broken, closed_if_last, cases_of}
use Rattle.spv_proof_rules.specs.Stops.{Stop, TooMany, Halt, kept, all_kept, layers_if, halt_in}

-- ---- steps

-- what a step comes to: what it does, or what stops it
pub data Trial : Type 0 where
  Does : Effect → Trial
  Halts : Halt → Trial

abbrev pub does_unless : Option Halt → Effect → Trial
does_unless None e = Does e
does_unless (Some h) e = Halts h

abbrev pub first_halt : Option Halt → Option Halt → Option Halt
first_halt None other = other
first_halt (Some h) other = Some h

abbrev pub only_where : Bool → Option Halt → Option Halt
only_where true h = h
only_where false h = None

-- what stops the sum of a step that adds a at most b
abbrev pub halt_at_most : (Term → Bool) → ℕ → List Term → List Term → Term → Term → List (Fraction × ℕ) → List (Fraction × ℕ) → Option Halt
halt_at_most is_number most known facts a b first second =
    only_where (is_number a && (is_number b && is_empty second)) (halt_in is_number most known facts (at_most a b) a b first)

-- what stops the sums of a step that adds a equal to b: the second one is looked at where the first shows its direction
abbrev pub halt_equal : (Term → Bool) → ℕ → List Term → List Term → Term → Term → List (Fraction × ℕ) → List (Fraction × ℕ) → Option Halt
halt_equal is_number most known facts a b first second =
    only_where (is_number a && is_number b)
    (first_halt (halt_in is_number most known facts (equation a b) a b first)
    (only_where (refutes is_number facts a b first) (halt_in is_number most known facts (equation a b) b a second)))

abbrev pub halt_of_sums : ℕ → Question → List Term → List Term → Relation → List (Fraction × ℕ) → List (Fraction × ℕ) → Option Halt
halt_of_sums most q known facts (AtMost s t) first second = halt_at_most (is_number q) most known facts (q.at s) (q.at t) first second
halt_of_sums most q known facts (Equal s t) first second = halt_equal (is_number q) most known facts (q.at s) (q.at t) first second

-- what stops a step: the sums of a relation alone
abbrev pub halt_by : ℕ → Question → List Term → List Term → Step → Option Halt
halt_by most q known facts (step.Linear r first second) = halt_of_sums most q known facts r first second
halt_by most q known facts _ = None

-- what a step comes to after these facts, where there are these terms
abbrev pub trial : ℕ → Question → List Term → List Term → Step → Trial
trial most q known facts s = does_unless (halt_by most q known facts s) (effect q facts s)

-- ---- outcomes

-- what something comes to, or what stops it
pub data Ending (T : Type 0) : Type 0 where
  Comes : T → Ending T
  Stops : Stop → Ending T

-- the terms that there are in the end, and what it comes to
pub record Outcome (T : Type 0) : Type 0 where
  pub known : List Term
  pub ending : Ending T

abbrev pub comes : {T : Type 0} → List Term → T → Outcome T
comes known x = record { known = known; ending = Comes x }

abbrev pub stops : {T : Type 0} → List Term → Stop → Outcome T
stops known s = record { known = known; ending = Stops s }

abbrev pub by_ending : {S T : Type 0} → List Term → Ending S → (List Term → S → Outcome T) → Outcome T
by_ending known (Comes x) go = go known x
by_ending known (Stops s) go = stops known s

abbrev pub then_outcome : {S T : Type 0} → Outcome S → (List Term → S → Outcome T) → Outcome T
then_outcome o go = by_ending o.known o.ending go

-- a fact is kept among the terms
abbrev pub on_kept : {T : Type 0} → List Term → Option (List Term) → (List Term → Outcome T) → Outcome T
on_kept known None go = stops known TooMany
on_kept known (Some more) go = go more

abbrev pub add_fact : {T : Type 0} → ℕ → List Term → Term → (List Term → Outcome T) → Outcome T
add_fact most known t go = on_kept known (kept most known t) go

-- some terms, and others behind them
pub record IsFirst (known all : List Term) : Type 0 where
  pub others : List Term
  pub all_are : all ≡ known ++ others

-- ---- the steps of a node

abbrev pub on_does : List Term → Effect → (Term → Outcome Path) → Path → Outcome Path
on_does known (Adds t) go last = go t
on_does known Ends go last = comes known last
on_does known Fails go last = comes known Broken

abbrev pub on_trial : List Term → Trial → (Term → Outcome Path) → Path → Outcome Path
on_trial known (Does e) go last = on_does known e go last
on_trial known (Halts h) go last = stops h.known h.stop

-- the terms that a step makes beforehand: those of a fact of a schema or of an instance of a rule, which may be new
abbrev pub made_by : Question → Step → List Term
made_by q (step.Schema kind ts field) = layers_if (schema_stated q kind ts field)
made_by q (step.Rule number ts) = layers_if (rule_stated q number ts)
made_by q _ = []

abbrev pub where_made : {T : Type 0} → Result (List Term) (List Term) → (List Term → Outcome T) → Outcome T
where_made (Ok known) go = go known
where_made (Err known) go = stops known TooMany

-- where steps lead from these facts; each term that a step makes and each fact that it adds is kept among the terms
abbrev pub steps_outcome : ℕ → Question → List Term → List Term → List Step → Outcome Path
steps_outcome most q before facts [] = comes before (Open facts)
steps_outcome most q before facts (s ∷ steps) =
    where_made (all_kept most before (made_by q s)) (λ known.
    on_trial known (trial most q known facts s) (λ t. add_fact most known t (λ more. steps_outcome most q more (facts ++ t ∷ []) steps)) (closed_if_last steps))

-- ---- nodes

-- a path that is still to be closed: facts, and a case that is added when its node begins
pub record Branch : Type 0 where
  pub before : List Term
  pub opens : Option Term

abbrev pub root : Branch
root = record { before = []; opens = None }

abbrev pub begin_with : ℕ → List Term → List Term → Option Term → Outcome (List Term)
begin_with most known facts None = comes known facts
begin_with most known facts (Some t) = add_fact most known t (λ more. comes more (facts ++ t ∷ []))

-- the facts of a path when its node begins
abbrev pub begin : ℕ → List Term → Branch → Outcome (List Term)
begin most known b = begin_with most known b.before b.opens

abbrev pub case_after : List Term → Term → Branch
case_after facts t = record { before = facts; opens = Some t }

abbrev pub branches_if : Bool → List Term → List Term → Option (List Branch)
branches_if true facts cases = Some (map (case_after facts) cases)
branches_if false facts cases = None

abbrev pub branches : Question → List Term → Split → Option (List Branch)
branches q facts s =
    let t = q.at s.atom in
    branches_if (is_atom (is_truth q) t && nat_eq (length s.parts) (length (cases_of q t))) facts (cases_of q t)

-- the paths that a node leaves to be closed, where its steps lead there
abbrev pub branches_after : Question → Path → Option Split → Option (List Branch)
branches_after q Closed None = Some []
branches_after q (Open facts) (Some s) = branches q facts s
branches_after q _ split = None

-- what a node comes to on a path: the paths that it leaves to be closed, or none where it does not close its own
abbrev pub node_outcome : ℕ → Question → List Term → Branch → ProofNode → Outcome (Option (List Branch))
node_outcome most q known b n =
    then_outcome (begin most known b) (λ start facts. then_outcome (steps_outcome most q start facts n.steps) (λ more path. comes more (branches_after q path n.split)))

abbrev pub on_branches : List Term → Option (List Branch) → (List Branch → Outcome Bool) → Outcome Bool
on_branches known None go = comes known false
on_branches known (Some new) go = go new

-- whether nodes, each with its cases behind it, close these paths
abbrev pub nodes_outcome : ℕ → Question → List Term → List Branch → List ProofNode → Outcome Bool
nodes_outcome most q known [] [] = comes known true
nodes_outcome most q known [] (n ∷ nodes) = comes known false
nodes_outcome most q known (b ∷ others) [] = comes known false
nodes_outcome most q known (b ∷ others) (n ∷ nodes) =
    then_outcome (node_outcome most q known b n) (λ more left. on_branches more left (λ new. nodes_outcome most q more (new ++ others) nodes))

-- what the check of a proof comes to: whether it is accepted, or what stops the check first
abbrev pub outcome : ℕ → Question → List Term → List ProofNode → Outcome Bool
outcome most q known nodes = nodes_outcome most q known (root ∷ []) nodes
