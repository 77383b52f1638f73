-- The nodes of a proof, over plain variables.
use Rattle.std.proofs.Common.{◌≡◌, ℕ, zero, suc, ◌<◌, ◌≤◌, ◌+◌, Bool, true, false, ◌&&◌, List, [], ◌∷◌, ◌++◌, map, length, take, drop, get_or, refl, sym, ap, ◌∙◌, subst, Option, Some, None, nat_eq, arith, Result, Ok, Err, IfOk}
use Rattle.std.specs.Option.{option_map}
use Rattle.std.proofs.lemmas.Bool.Decides.{nat_tests}
use Rattle.std.proofs.lemmas.List.{at_drop_more}
use Rattle.spv_logic.specs.declared.conditions.TermId.{TermId}
use Rattle.spv_logic.specs.Terms.{Term}
use Rattle.spv_logic.specs.Formulas as formulas
use Rattle.spv_term.specs.Arena.{Arena, Extends, AllBelow, sequent, tree, trees_of}
use Rattle.spv_term.proofs.ArenaLemmas.{Extends-refl, Extends-trans, tree-Extends, sort_at-Extends, map_tree-Extends}
use Rattle.spv_atoms.specs.declared.proofs.Step.{Step}
use Rattle.spv_atoms.specs.declared.proofs.Split.{Split}
use Rattle.spv_atoms.specs.declared.proofs.ProofNode.{ProofNode}
use Rattle.spv_atoms.specs.Atoms.{is_atom}
use Rattle.spv_proof_rules.specs.Effects.{Question}
use Rattle.spv_proof_rules.specs.Effects as spec
use Rattle.spv_proof_rules.specs.Evaluation.{sides}
use Rattle.spv_proof_rules.specs.Accepted as accepted
use Rattle.spv_proof_rules.specs.Stops.{all_kept, kept}
use Rattle.spv_proof_rules.specs.Outcomes.{IsFirst, Outcome, comes, then_outcome, on_trial, add_fact, made_by, steps_outcome, trial, branches_if, branches_after, node_outcome, on_branches, nodes_outcome}
use Rattle.spv_proof_rules.specs.Outcomes as outcomes
use Rattle.spv_proof_rules.specs.Stand.{StepsIn, SplitIn, NodesIn}
use Rattle.spv_proof_rules.proofs.Outcomes.{outcome-accepts}
use Rattle.spv_proof_rules.proofs.Growing.{first-same, first-then, then-later, rest-first, nodes-first, branches-go}
use Rattle.spv_proof_steps.specs.declared.facts.Fact.{Fact}
use Rattle.spv_proof_steps.specs.declared.facts.Fact.TheVariants.{Known, Negation, Equation, Below, AtMost}
use Rattle.spv_proof_steps.specs.Steps.{fact_of, FactStands}
use Rattle.spv_proof.specs.declared.checker.stops.CheckStop.{CheckStop}
use Rattle.spv_proof.specs.declared.checker.stops.CheckStop.TheVariants.{Wide, Form, Size, Memory}
use Rattle.spv_proof.specs.declared.checker.branches.Branch.{Branch}
use Rattle.spv_proof.specs.declared.checker.tasks.Task.{Task}
use Rattle.spv_proof.specs.declared.checker.walking.Path as walked
use Rattle.spv_proof.specs.checker.Ends.{EndsAs, comes_in}
use Rattle.spv_proof.specs.checker.Tasks.{asks, TaskIn}
use Rattle.spv_proof.specs.checker.Walks.{path_of, steps_in, Leads}
use Rattle.spv_proof.specs.checker.Stacks.{BranchIn, OpensIn, branch_in, Begun, stacked, AllFrom, IsPending, Leaves, Checked}
use Rattle.spv_proof_rules.proofs.Staying.{below-Extends, StepIn-Extends, truth-Extends, number-Extends}
use Rattle.spv_proof.proofs.checker.Staying.{task-Extends, made-Extends, sequent-Extends, trial-Extends}
use Rattle.spv_proof.proofs.checker.Goings.{ends-told, take-take, take-short}
use Rattle.spv_proof.proofs.checker.Stacks.{AllBelow-take, stacked-last}

-- ---- what stays where the arena grows

module _ {old new : Arena} (more : Extends old new) where
  pub StepsIn-Extends : (steps : List Step) → StepsIn old steps → StepsIn new steps
  StepsIn-Extends [] h = tt
  StepsIn-Extends (s ∷ steps) h = (StepIn-Extends more s h.0, StepsIn-Extends steps h.1)

  pub SplitIn-Extends : (o : Option Split) → SplitIn old o → SplitIn new o
  SplitIn-Extends None h = tt
  SplitIn-Extends (Some s) h = below-Extends more s.atom.0 h

  pub stands-Extends : (f : Fact) → FactStands old f → FactStands new f
  stands-Extends (Known t) h = below-Extends more t.0 h
  stands-Extends (Negation t) h = (below-Extends more t.0 h.0, sort_at-Extends more t h.0 ∙ h.1)
  stands-Extends (Equation s t) h = (below-Extends more s.0 h.0, below-Extends more t.0 h.1, sort_at-Extends more s h.0 ∙ (h.2 ∙ sym (sort_at-Extends more t h.1)))
  stands-Extends (Below s t) h = (below-Extends more s.0 h.0, below-Extends more t.0 h.1, sort_at-Extends more s h.0 ∙ h.2, sort_at-Extends more t h.1 ∙ h.3)
  stands-Extends (AtMost s t) h = (below-Extends more s.0 h.0, below-Extends more t.0 h.1, sort_at-Extends more s h.0 ∙ h.2, sort_at-Extends more t h.1 ∙ h.3)

  fact-Extends : (f : Fact) → FactStands old f → fact_of new f ≡ fact_of old f
  fact-Extends (Known t) h = tree-Extends more t h
  fact-Extends (Negation t) h = ap formulas.negation (tree-Extends more t h.0)
  fact-Extends (Equation s t) h = (λ i. formulas.equation (tree-Extends more s h.0 i) (tree-Extends more t h.1 i))
  fact-Extends (Below s t) h = (λ i. formulas.below (tree-Extends more s h.0 i) (tree-Extends more t h.1 i))
  fact-Extends (AtMost s t) h = (λ i. spec.at_most (tree-Extends more s h.0 i) (tree-Extends more t h.1 i))

  opens-Extends : (o : Option Fact) → OpensIn old o → OpensIn new o
  opens-Extends None h = tt
  opens-Extends (Some f) h = stands-Extends f h

  opened-Extends : (o : Option Fact) → OpensIn old o → option_map (fact_of new) o ≡ option_map (fact_of old) o
  opened-Extends None h = refl
  opened-Extends (Some f) h = ap Some (fact-Extends f h)

  pub pending-Extends : (n m : ℕ) (bs : List Branch) → n ≤ m → IsPending old n bs → IsPending new m bs
  pending-Extends n m [] le h = tt
  pending-Extends n m (b ∷ bs) le h = (omega (arith, h.0, le), opens-Extends b.opens h.1, h.2, pending-Extends n m bs le h.3)

  -- paths that wait are the same with other facts, where these agree as far as each of them reaches
  pub stacked-Extends : (n : ℕ) (before after : List TermId) (bs : List Branch) → AllBelow (length old.nodes) before → take n after ≡ take n before → IsPending old n bs → stacked new after bs ≡ stacked old before bs
  stacked-Extends n before after [] b e h = refl
  stacked-Extends n before after (x ∷ bs) b e h =
      let facts : take x.mark after ≡ take x.mark before = sym (take-take x.mark n after h.0) ∙ (ap (take x.mark) e ∙ take-take x.mark n before h.0) in
      let trees : map (tree new) (take x.mark after) ≡ map (tree old) (take x.mark before) = ap (map (tree new)) facts ∙ map_tree-Extends more (take x.mark before) (AllBelow-take (length old.nodes) x.mark before b) in
      let one : branch_in new after x ≡ branch_in old before x = (λ i. record { before = trees i; opens = opened-Extends x.opens h.1 i }) in
      λ i. stacked-Extends n before after bs b e h.3 i ++ one i ∷ []

  module _ (c : Task) (ci : TaskIn old c) where
    on_trial-same : (known : List Term) (t : outcomes.Trial) (f g : Term → Outcome accepted.Path) (last : accepted.Path) → ((x : Term) → f x ≡ g x) → on_trial known t f last ≡ on_trial known t g last
    on_trial-same known (outcomes.Does (spec.Adds x)) f g last e = e x
    on_trial-same known (outcomes.Does spec.Ends) f g last e = refl
    on_trial-same known (outcomes.Does spec.Fails) f g last e = refl
    on_trial-same known (outcomes.Halts h) f g last e = refl

    on_kept-same : (known : List Term) (o : Option (List Term)) (f g : List Term → Outcome accepted.Path) → ((x : List Term) → f x ≡ g x) → outcomes.on_kept known o f ≡ outcomes.on_kept known o g
    on_kept-same known None f g e = refl
    on_kept-same known (Some x) f g e = e x

    where_made-same : (r : Result (List Term) (List Term)) (f g : List Term → Outcome accepted.Path) → ((x : List Term) → f x ≡ g x) → outcomes.where_made r f ≡ outcomes.where_made r g
    where_made-same (Ok x) f g e = e x
    where_made-same (Err x) f g e = refl

    -- what comes once the terms of a step are made
    abbrev going_on : Arena → Step → List Step → List Term → List Term → Outcome accepted.Path
    going_on a s steps facts known = on_trial known (trial a.most (asks a c) known facts s) (λ x. add_fact a.most known x (λ m. steps_outcome a.most (asks a c) m (facts ++ x ∷ []) steps)) (accepted.closed_if_last steps)

    -- steps come to the same
    pub steps-Extends : (steps : List Step) (known facts : List Term) → StepsIn old steps → steps_outcome new.most (asks new c) known facts steps ≡ steps_outcome old.most (asks old c) known facts steps
    steps-Extends [] known facts h = refl
    steps-Extends (s ∷ steps) start facts h =
        ap (λ r. outcomes.where_made r (going_on new s steps facts)) (λ i. all_kept (more.most i) start (made-Extends more c ci s h.0 i))
        ∙ where_made-same (all_kept old.most start (made_by (asks old c) s)) (going_on new s steps facts) (going_on old s steps facts) (λ known.
        ap (λ t. on_trial known t (λ x. add_fact new.most known x (λ m. steps_outcome new.most (asks new c) m (facts ++ x ∷ []) steps)) (accepted.closed_if_last steps)) (trial-Extends more c ci known facts s h.0)
        ∙ on_trial-same known (trial old.most (asks old c) known facts s) (λ x. add_fact new.most known x (λ m. steps_outcome new.most (asks new c) m (facts ++ x ∷ []) steps))
        (λ x. add_fact old.most known x (λ m. steps_outcome old.most (asks old c) m (facts ++ x ∷ []) steps)) (accepted.closed_if_last steps)
        (λ x. ap (λ n. add_fact n known x (λ m. steps_outcome new.most (asks new c) m (facts ++ x ∷ []) steps)) more.most
        ∙ on_kept-same known (kept old.most known x) (λ m. steps_outcome new.most (asks new c) m (facts ++ x ∷ []) steps) (λ m. steps_outcome old.most (asks old c) m (facts ++ x ∷ []) steps)
        (λ m. steps-Extends steps m (facts ++ x ∷ []) h.1)))

    -- the cases of an atom are the same
    pub after-Extends : (p : accepted.Path) (o : Option Split) → SplitIn old o → branches_after (asks new c) p o ≡ branches_after (asks old c) p o
    after-Extends accepted.Closed None h = refl
    after-Extends accepted.Closed (Some s) h = refl
    after-Extends (accepted.Open facts) None h = refl
    after-Extends (accepted.Open facts) (Some s) h =
        let n = number-Extends more (sequent new c.condition.now) (sequent old c.condition.now) (sequent-Extends more c ci) [] in
        let b = truth-Extends more (sequent new c.condition.now) (sequent old c.condition.now) (sequent-Extends more c ci) [] in
        let t = tree-Extends more s.atom h in
        (λ i. branches_if (is_atom (b i) (t i) && nat_eq (length s.parts) (length (accepted.cases_by_sides (n i) (sides (t i)) (t i)))) facts (accepted.cases_by_sides (n i) (sides (t i)) (t i)))
    after-Extends accepted.Broken o h = refl

    then-same : {S T : Type 0} (o : Outcome S) (f g : List Term → S → Outcome T) → ((m : List Term) (s : S) → f m s ≡ g m s) → then_outcome o f ≡ then_outcome o g
    then-same {S} {T} o f g e = by o.ending
      where
        by : (x : outcomes.Ending S) → outcomes.by_ending o.known x f ≡ outcomes.by_ending o.known x g
        by (outcomes.Comes s) = e o.known s
        by (outcomes.Stops h) = refl

    -- what follows the begin of a node
    abbrev rest_of : Arena → ProofNode → List Term → List Term → Outcome (Option (List outcomes.Branch))
    rest_of a n start facts = then_outcome (steps_outcome a.most (asks a c) start facts n.steps) (λ known p. comes known (branches_after (asks a c) p n.split))

    rest-Extends : (n : ProofNode) → StepsIn old n.steps → SplitIn old n.split → (start facts : List Term) → rest_of new n start facts ≡ rest_of old n start facts
    rest-Extends n steps split start facts =
        ap (λ o. then_outcome o (λ known p. comes known (branches_after (asks new c) p n.split))) (steps-Extends n.steps start facts steps)
        ∙ then-same (steps_outcome old.most (asks old c) start facts n.steps) (λ known p. comes known (branches_after (asks new c) p n.split)) (λ known p. comes known (branches_after (asks old c) p n.split))
        (λ known p. ap (comes known) (after-Extends p n.split split))

    -- a node comes to the same
    pub node-Extends : (n : ProofNode) → StepsIn old n.steps → SplitIn old n.split → (known : List Term) (b : outcomes.Branch) → node_outcome new.most (asks new c) known b n ≡ node_outcome old.most (asks old c) known b n
    node-Extends n steps split known b =
        ap (λ m. then_outcome (outcomes.begin m known b) (rest_of new n)) more.most
        ∙ then-same (outcomes.begin old.most known b) (rest_of new n) (rest_of old n) (λ start facts. rest-Extends n steps split start facts)

-- ---- one node

-- an error in a first part ends the whole
ends-then : {S T : Type 0} (a : Arena) (e : CheckStop) (o : Outcome S) (go : List Term → S → Outcome T) → EndsAs a e o → IsFirst o.known (then_outcome o go).known → EndsAs a e (then_outcome o go)
ends-then a e o go h f = by e h
  where
    by : (x : CheckStop) → EndsAs a x o → EndsAs a x (then_outcome o go)
    by (Wide op y z) k = ends-told a (Wide op y z) (then_outcome o go) (ap (λ p. then_outcome p go) k.told) k.form (λ m. first-then (trees_of a.nodes) o.known (then_outcome o go).known k.kept f)
    by (Form t) k = ends-told a (Form t) (then_outcome o go) (ap (λ p. then_outcome p go) k.told) k.form (λ m. first-then (trees_of a.nodes) o.known (then_outcome o go).known k.kept f)
    by Size k = ends-told a Size (then_outcome o go) (ap (λ p. then_outcome p go) k.told) k.form (λ m. first-then (trees_of a.nodes) o.known (then_outcome o go).known k.kept f)
    by Memory k = ends-told a Memory (then_outcome o go) tt tt (λ m. first-then (trees_of a.nodes) o.known (then_outcome o go).known k.kept f)

module _ {old mid new : Arena} (grown : Extends old mid) (more : Extends mid new) (c : Task) (ci : TaskIn old c) (before : List TermId) (waiting : List Branch) (b : Branch) (n : ProofNode)
    (steps : StepsIn old n.steps) (split : SplitIn old n.split) where
  abbrev node_in : Outcome (Option (List outcomes.Branch))
  node_in = node_outcome old.most (asks old c) (trees_of old.nodes) (branch_in old before b) n

  -- it ends where its path begins
  pub begin-ends : (a : Arena) (e : CheckStop) → EndsAs a e (outcomes.begin old.most (trees_of old.nodes) (branch_in old before b)) → EndsAs a e node_in
  begin-ends a e h =
      ends-then a e (outcomes.begin old.most (trees_of old.nodes) (branch_in old before b)) (rest_of grown c ci old n) h
      (then-later old.most (asks old c) (outcomes.begin old.most (trees_of old.nodes) (branch_in old before b)) (rest_of grown c ci old n) (λ start facts. rest-first old.most (asks old c) n start facts))

  module _ (facts : List TermId) (begun : Begun old before b mid facts) where
    -- what the rest comes to
    rest-is : node_in ≡ then_outcome (steps_in mid c facts n.steps) (λ known p. comes known (branches_after (asks mid c) p n.split))
    rest-is = ap (λ o. then_outcome o (rest_of grown c ci old n)) begun.outcome ∙ sym (rest-Extends grown c ci n steps split (trees_of mid.nodes) (map (tree mid) facts))

    -- it ends in a step
    pub walk-ends : (e : CheckStop) → EndsAs new e (steps_in mid c facts n.steps) → EndsAs new e node_in
    walk-ends e h =
        subst (EndsAs new e) (sym rest-is)
        (ends-then new e (steps_in mid c facts n.steps) (λ known p. comes known (branches_after (asks mid c) p n.split)) h
        (then-later mid.most (asks mid c) (steps_in mid c facts n.steps) (λ known p. comes known (branches_after (asks mid c) p n.split)) (λ known p. first-same known)))

    module _ (after : List TermId) (p : walked.Path) (leads : Leads mid c facts n.steps new after p) where
      abbrev left_by : Option (List outcomes.Branch)
      left_by = branches_after (asks new c) (path_of (map (tree new) after) p) n.split

      node-is : node_in ≡ comes_in new left_by
      node-is =
          rest-is
          ∙ (ap (λ o. then_outcome o (λ known r. comes known (branches_after (asks mid c) r n.split))) leads.outcome
          ∙ ap (comes (trees_of new.nodes)) (sym (after-Extends more c (task-Extends grown c ci) (path_of (map (tree new) after) p) n.split (SplitIn-Extends grown n.split split))))

      agrees : take b.mark after ≡ take b.mark before
      agrees = sym (take-take b.mark (length facts) after begun.longer) ∙ (ap (take b.mark) leads.before_is ∙ begun.before_is)

      -- it ends where there is no memory for what it leaves
      pub leave-ends : EndsAs new Memory node_in
      leave-ends = ends-told new Memory node_in tt tt (λ m. subst (λ (o : Outcome (Option (List outcomes.Branch))). IsFirst (trees_of new.nodes) o.known) (sym node-is) (first-same (trees_of new.nodes)))

      pub waits-in : IsPending old b.mark waiting → IsPending new (length after) waiting
      waits-in h =
          pending-Extends (Extends-trans grown more) b.mark (length after) waiting
          (omega (arith, begun.longer, take-short (length facts) after facts leads.before_is refl)) h

      pub node-checked : (waits : IsPending old b.mark waiting) → AllBelow (length old.nodes) before → (left : List Branch) (closes : Bool) → Leaves new after waiting left closes left_by
          → Checked old c before waiting b n new after left closes
      node-checked waits bi left closes leaves = record {
        opened = left_by;
        outcome = node-is;
        leaves = leaves;
        waits = stacked-Extends (Extends-trans grown more) b.mark before after waiting bi agrees waits;
        in_range = leads.in_range;
      }

-- ---- the path that comes next

from-parts : (n : ℕ) (xs : List Branch) (b : Branch) → AllFrom n (xs ++ b ∷ []) → (AllFrom n xs) × (n ≤ b.mark)
from-parts n [] b h = (tt, h.0)
from-parts n (x ∷ xs) b h = let k = from-parts n xs b h.1 in ((h.0, k.0), k.1)

-- the last path keeps the most facts
last-waits : (a : Arena) (n : ℕ) (xs : List Branch) (b : Branch) → IsPending a n (xs ++ b ∷ []) → (b.mark ≤ n) × BranchIn a b × IsPending a b.mark xs
last-waits a n [] b h = (h.0, h.1, tt)
last-waits a n (x ∷ xs) b h =
    let k = last-waits a n xs b h.3 in
    let f = from-parts x.mark xs b h.2 in
    (k.0, k.1, (f.1, h.1, f.0, k.2))

-- ---- how far the check of nodes has come

-- there is no memory for the first path
pub nothing-ends : (old : Arena) (c : Task) (nodes : List ProofNode) → EndsAs old Memory (outcomes.outcome old.most (asks old c) (trees_of old.nodes) nodes)
nothing-ends old c nodes = ends-told old Memory (outcomes.outcome old.most (asks old c) (trees_of old.nodes) nodes) tt tt (λ m. nodes-first old.most (asks old c) nodes (trees_of old.nodes) (outcomes.root ∷ []))

pub next-node : (nodes : List ProofNode) (i : ℕ) (n : ProofNode) → i < length nodes → n ≡ get_or nodes i n → drop i nodes ≡ n ∷ drop (i + 1) nodes
next-node nodes i n h e = at_drop_more (λ (r : List ProofNode). r) nodes i n h ∙ ap (λ t. t ∷ drop (i + 1) nodes) (sym e)

pub drop_past : (nodes : List ProofNode) (i : ℕ) → length nodes ≤ i → drop i nodes ≡ []
drop_past [] zero h = refl
drop_past [] (suc i) h = refl
drop_past (n ∷ nodes) zero h = absurd (omega arith)
drop_past (n ∷ nodes) (suc i) h = drop_past nodes i (omega arith)

pub record Checking (old : Arena) (c : Task) (nodes : List ProofNode) (now : Arena) (facts : List TermId) (pending : List Branch) (rest : List ProofNode) : Type 0 where
  pub grows : Extends old now
  pub facts_in : AllBelow (length now.nodes) facts
  pub pending_in : IsPending now (length facts) pending
  pub rest_in : NodesIn old rest
  pub same : nodes_outcome old.most (asks old c) (trees_of now.nodes) (stacked now facts pending) rest ≡ outcomes.outcome old.most (asks old c) (trees_of old.nodes) nodes

pub checking-start : (old : Arena) (c : Task) (nodes : List ProofNode) (b : Branch) (pending : List Branch) → pending ≡ b ∷ [] → b.mark ≡ 0 → b.opens ≡ None → NodesIn old nodes → Checking old c nodes old [] pending nodes
checking-start old c nodes b pending e m o h = record {
  grows = Extends-refl old;
  facts_in = tt;
  pending_in = subst (IsPending old 0) (sym e) (omega (arith, m), subst (OpensIn old) (sym o) tt, tt, tt);
  rest_in = h;
  same = ap (λ bs. nodes_outcome old.most (asks old c) (trees_of old.nodes) bs nodes) (ap (stacked old []) e ∙ (λ i. record { before = map (tree old) (take (m i) []); opens = option_map (fact_of old) (o i) } ∷ []));
}

module _ {old : Arena} {c : Task} {nodes : List ProofNode} {now : Arena} {facts : List TermId} {pending : List Branch} {rest : List ProofNode} (g : Checking old c nodes now facts pending rest) (ci : TaskIn old c) where
  abbrev expected : Outcome Bool
  expected = outcomes.outcome old.most (asks old c) (trees_of old.nodes) nodes

  -- no node is left
  pub checking-end : rest ≡ [] → (b : Bool) → b ≡ nat_eq (length pending) 0 → expected ≡ comes_in now b
  checking-end e b h = sym g.same ∙ (ap (nodes_outcome old.most (asks old c) (trees_of now.nodes) (stacked now facts pending)) e ∙ (by pending ∙ ap (comes_in now) (sym h)))
    where
      cons-after : (xs : List outcomes.Branch) (x : outcomes.Branch) → nodes_outcome old.most (asks old c) (trees_of now.nodes) (xs ++ x ∷ []) [] ≡ comes_in now false
      cons-after [] x = refl
      cons-after (y ∷ xs) x = refl

      none : (n : ℕ) → nat_eq (suc n) 0 ≡ false
      none n = grind (arith, nat_tests)

      by : (bs : List Branch) → nodes_outcome old.most (asks old c) (trees_of now.nodes) (stacked now facts bs) [] ≡ comes_in now (nat_eq (length bs) 0)
      by [] = refl
      by (x ∷ bs) = cons-after (stacked now facts bs) (branch_in now facts x) ∙ ap (comes_in now) (sym (none (length bs)))

  module _ (n : ProofNode) (others : List ProofNode) (next : rest ≡ n ∷ others) where
    abbrev in_old : NodesIn old (n ∷ others)
    in_old = subst (NodesIn old) next g.rest_in

    -- no path waits
    pub checking-none : pending ≡ [] → expected ≡ comes_in now false
    checking-none e = sym g.same ∙ (λ i. nodes_outcome old.most (asks old c) (trees_of now.nodes) (stacked now facts (e i)) (next i))

    pub checking-steps : StepsIn now n.steps
    checking-steps = StepsIn-Extends g.grows n.steps in_old.0

    pub checking-split : SplitIn now n.split
    checking-split = SplitIn-Extends g.grows n.split in_old.1

    module _ (waiting : List Branch) (b : Branch) (popped : pending ≡ waiting ++ b ∷ []) where
      abbrev node_now : Outcome (Option (List outcomes.Branch))
      node_now = node_outcome now.most (asks now c) (trees_of now.nodes) (branch_in now facts b) n

      abbrev go_on : List Term → Option (List outcomes.Branch) → Outcome Bool
      go_on more left = on_branches more left (λ new. nodes_outcome old.most (asks old c) more (new ++ stacked now facts waiting) others)

      node-decides : then_outcome node_now go_on ≡ expected
      node-decides =
          ap (λ o. then_outcome o go_on) (node-Extends g.grows c ci n in_old.0 in_old.1 (trees_of now.nodes) (branch_in now facts b))
          ∙ (ap (λ bs. nodes_outcome old.most (asks old c) (trees_of now.nodes) bs (n ∷ others)) (sym (ap (stacked now facts) popped ∙ stacked-last now facts waiting b))
          ∙ (ap (nodes_outcome old.most (asks old c) (trees_of now.nodes) (stacked now facts pending)) (sym next) ∙ g.same))

      pub checking-waits : (b.mark ≤ length facts) × BranchIn now b × IsPending now b.mark waiting
      checking-waits = last-waits now (length facts) waiting b (subst (IsPending now (length facts)) popped g.pending_in)

      pub checking-ends : (new : Arena) (e : CheckStop) → EndsAs new e node_now → EndsAs new e expected
      checking-ends new e h =
          subst (EndsAs new e) node-decides
          (ends-then new e node_now go_on h
          (then-later old.most (asks old c) node_now go_on (λ more left. branches-go old.most (asks old c) more left (λ new. nodes_outcome old.most (asks old c) more (new ++ stacked now facts waiting) others) (λ new. nodes-first old.most (asks old c) others more (new ++ stacked now facts waiting)))))

      module _ (new : Arena) (grows : Extends now new) (after : List TermId) (left : List Branch) where
        abbrev Done : Bool → Type 0
        Done closes = Checked now c facts waiting b n new after left closes

        node-leads : (closes : Bool) (k : Done closes) → go_on (trees_of new.nodes) k.opened ≡ expected
        node-leads closes k = ap (λ o. then_outcome o go_on) (sym k.outcome) ∙ node-decides

        -- the node does not close its path
        pub checking-fails : Done false → expected ≡ comes_in new false
        checking-fails k = sym (node-leads false k) ∙ ap (go_on (trees_of new.nodes)) k.leaves.paths

        -- it does, its cases aside
        pub checking-on : Done true → Checking old c nodes new after left others
        checking-on k =
            let paths = k.leaves.paths in
            record {
              grows = Extends-trans g.grows grows;
              facts_in = k.in_range;
              pending_in = k.leaves.pending;
              rest_in = in_old.2;
              same = ap (λ bs. nodes_outcome old.most (asks old c) (trees_of new.nodes) bs others) (paths.2 ∙ ap (λ bs. paths.0 ++ bs) k.waits)
                  ∙ (ap (go_on (trees_of new.nodes)) (sym paths.1) ∙ node-leads true k);
            }

-- an answer is whether the proof is accepted
pub if_accepted : (a new : Arena) (q : Question) (all nodes : List ProofNode) → all ≡ nodes → (r : Result Bool CheckStop)
    → IfOk r (λ b. outcomes.outcome a.most q (trees_of a.nodes) all ≡ comes_in new b) → IfOk r (λ b. b ≡ accepted.accepts q nodes)
if_accepted a new q all nodes e (Ok b) h = sym (outcome-accepts a.most q (trees_of a.nodes) nodes b (ap (λ o. o.ending) (ap (outcomes.outcome a.most q (trees_of a.nodes)) (sym e) ∙ h)))
if_accepted a new q all nodes e (Err x) h = tt
