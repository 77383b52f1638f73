-- A check of a proof only adds terms.
use Rattle.std.proofs.Common.{ℕ, zero, suc, Bool, true, false, ◌&&◌, List, [], ◌∷◌, ◌++◌, length, Option, Some, None, Result, Ok, Err, ℤ, pos, nat_eq, slice_get, if◌then◌else◌, refl, sym, ap, ◌∙◌}
use Rattle.std.specs.List.{list_any}
use Rattle.std.specs.Option.{option_map}
use Rattle.std.proofs.lemmas.List.{append-nil, append_assoc}
use Rattle.spv_whole.specs.Fraction.{Fraction, whole, sum, product}
use Rattle.spv_frac.specs.declared.frac.Op.{Op}
use Rattle.spv_frac.specs.declared.frac.Op.TheVariants.{Add, Mul}
use Rattle.spv_frac.specs.Range.{op_fits}
use Rattle.spv_frac.specs.rational.Rational.{number}
use Rattle.spv_logic.specs.Terms.{Term, term_eq}
use Rattle.spv_logic.specs.Formulas.{equation}
use Rattle.spv_atoms.specs.Forms.{Form}
use Rattle.spv_atoms.specs.declared.proofs.Relation.{Relation}
use Rattle.spv_atoms.specs.declared.proofs.Relation.TheVariants.{AtMost, Equal}
use Rattle.spv_atoms.specs.declared.proofs.Step.{Step}
use Rattle.spv_atoms.specs.declared.proofs.Step.TheVariants as step
use Rattle.spv_atoms.specs.declared.proofs.ProofNode.{ProofNode}
use Rattle.spv_proof_rules.specs.Sums.{Reading, reading, may_multiply, refutes}
use Rattle.spv_proof_rules.specs.Evaluation.{bare}
use Rattle.spv_proof_rules.specs.Effects.{Question, Effect, Adds, Ends, Fails, is_number, is_empty, at_most, effect}
use Rattle.spv_proof_rules.specs.Accepted.{Path, closed_if_last}
use Rattle.spv_proof_rules.specs.Stops.{WideSum, WideForm, Halt, is_narrow_fact, kept, on_room, all_kept, terms_of, Source, fact_source, source, halt_after, denied, Partial, empty, Tally, Stands, Ended, Halted, then_tally, operate, add_number, factor_of, in_order, with_factor, with_constant, add_parts, add_multiple, add_source, add_all, halt_of, halt_in}
use Rattle.spv_proof_rules.specs.Outcomes.{IsFirst, Trial, Does, Halts, does_unless, first_halt, only_where, halt_of_sums, halt_by, trial, Ending, Comes, Stops, Outcome, comes, by_ending, then_outcome, on_kept, add_fact, on_does, on_trial, made_by, where_made, steps_outcome, Branch, root, begin_with, begin, branches_after, node_outcome, on_branches, nodes_outcome, outcome}

pub first-same : (known : List Term) → IsFirst known known
first-same known = record { others = []; all_are = sym (append-nil known) }

pub first-then : (known more all : List Term) → IsFirst known more → IsFirst more all → IsFirst known all
first-then known more all f g = record {
  others = f.others ++ g.others;
  all_are = g.all_are ∙ (ap (λ xs. xs ++ g.others) f.all_are ∙ append_assoc known f.others g.others);
}

-- ---- a term that is kept

abbrev OptionFirst : List Term → Option (List Term) → Type 0
OptionFirst known None = Unit {0}
OptionFirst known (Some more) = IsFirst known more

kept-first : (most : ℕ) (known : List Term) (t : Term) → OptionFirst known (kept most known t)
kept-first most known t = by (list_any (term_eq t) known) (nat_eq (length known) most)
  where
    by : (b c : Bool) → OptionFirst known (if b then Some known else if c then None else Some (known ++ t ∷ []))
    by true c = first-same known
    by false true = tt
    by false false = record { others = t ∷ []; all_are = refl }

pub all-kept-first : (most : ℕ) (ts known : List Term) → IsFirst known (terms_of (all_kept most known ts))
all-kept-first most [] known = first-same known
all-kept-first most (t ∷ ts) known = by (kept most known t) (kept-first most known t) (λ more. all-kept-first most ts more)
  where
    by : (o : Option (List Term)) → OptionFirst known o → ((more : List Term) → IsFirst more (terms_of (all_kept most more ts))) → IsFirst known (terms_of (on_room known o (λ more. all_kept most more ts)))
    by None f later = first-same known
    by (Some more) f later = first-then known more (terms_of (all_kept most more ts)) f (later more)

-- ---- sums

module _ (known : List Term) where
  abbrev HaltFirst : Option Halt → Type 0
  HaltFirst None = Unit {0}
  HaltFirst (Some h) = IsFirst known h.known

  abbrev TallyFirst : {T : Type 0} → Tally T → Type 0
  TallyFirst (Stands x) = Unit {0}
  TallyFirst Ended = Unit {0}
  TallyFirst (Halted h) = IsFirst known h.known

  then-first : {S T : Type 0} (t : Tally S) (go : S → Tally T) → TallyFirst t → ((s : S) → TallyFirst (go s)) → TallyFirst (then_tally t go)
  then-first (Stands s) go f g = g s
  then-first Ended go f g = tt
  then-first (Halted h) go f g = f

  operate-first : (op : Op) (a b value : Fraction) → TallyFirst (operate known op a b value)
  operate-first op a b value = by (op_fits op a b)
    where
      by : (c : Bool) → TallyFirst (if c then Stands value else Halted (record { known = known; stop = WideSum op a b }))
      by true = tt
      by false = first-same known

  number-first : (m stood : Fraction) (n : ℤ) → TallyFirst (add_number known m stood n)
  number-first m stood n =
      then-first (operate known Mul (whole n) m (product (whole n) m)) (λ p. operate known Add stood p (sum stood p)) (operate-first Mul (whole n) m (product (whole n) m))
      (λ p. operate-first Add stood p (sum stood p))

  parts-first : (m : Fraction) (parts : List (Term × ℤ)) (s : Partial) → TallyFirst (add_parts known m parts s)
  parts-first m [] s = tt
  parts-first m (p ∷ parts) s =
      then-first (add_number known m (factor_of (whole (pos 0)) s.parts p.0) p.1) (λ f. add_parts known m parts (with_factor s p.0 f)) (number-first m (factor_of (whole (pos 0)) s.parts p.0) p.1)
      (λ f. parts-first m parts (with_factor s p.0 f))

  multiple-first : (m : Fraction) (f : Form) (s : Partial) → TallyFirst (add_multiple known m f s)
  multiple-first m f s =
      then-first (add_parts known m (in_order f.parts known) s) (λ r. then_tally (add_number known m r.constant f.constant) (λ c. Stands (with_constant r c))) (parts-first m (in_order f.parts known) s)
      (λ r. then-first (add_number known m r.constant f.constant) (λ c. Stands (with_constant r c)) (number-first m r.constant f.constant) (λ c. tt))

  abbrev SourceFirst : Option Source → Type 0
  SourceFirst None = Unit {0}
  SourceFirst (Some r) = IsFirst known r.halt.known

  source-first : (m : Fraction) (o : Option Source) (s : Partial) → SourceFirst o → TallyFirst (add_source known m o s)
  source-first m None s h = tt
  source-first m (Some r) s h = by (may_multiply (number m) r.reading) r.fits
    where
      by : (b c : Bool) → TallyFirst (if b then (if c then add_multiple known m r.reading.form s else Halted r.halt) else Ended)
      by true true = multiple-first m r.reading.form s
      by true false = h
      by false c = tt

  all-first : (cited : ℕ → Option Source) → ((k : ℕ) → SourceFirst (cited k)) → (multiples : List (Fraction × ℕ)) (s : Partial) → TallyFirst (add_all known cited multiples s)
  all-first cited h [] s = tt
  all-first cited h (m ∷ multiples) s =
      then-first (add_source known m.0 (cited m.1) s) (λ r. add_all known cited multiples r) (source-first m.0 (cited m.1) s (h m.1)) (λ r. all-first cited h multiples r)

  fact-first : (is_number : Term → Bool) (o : Option Term) → SourceFirst (fact_source is_number known o)
  fact-first is_number None = tt
  fact-first is_number (Some t) = by (reading is_number t)
    where
      by : (o : Option Reading) → SourceFirst (option_map (λ r. record { reading = r; fits = is_narrow_fact t; halt = record { known = known; stop = WideForm (bare t) } }) o)
      by None = tt
      by (Some r) = first-same known

  after-first : (o : Option (List Term)) (relation : Term) → OptionFirst known o → IsFirst known (halt_after known o relation).known
  after-first None relation h = first-same known
  after-first (Some more) relation h = h

  module _ (is_number : Term → Bool) (most : ℕ) (facts : List Term) (relation : Term) where
    cited-first : (a b : Term) (k : ℕ) → SourceFirst (source is_number known facts (denied most known relation a b) k)
    cited-first a b zero = after-first (kept most known relation) relation (kept-first most known relation)
    cited-first a b (suc k) = fact-first is_number (slice_get facts k)

    halt-first : (a b : Term) (multiples : List (Fraction × ℕ)) → HaltFirst (halt_in is_number most known facts relation a b multiples)
    halt-first a b multiples =
        told (add_all known (source is_number known facts (denied most known relation a b)) multiples empty)
        (all-first (source is_number known facts (denied most known relation a b)) (cited-first a b) multiples empty)
      where
        told : (t : Tally Partial) → TallyFirst t → HaltFirst (halt_of t)
        told (Stands s) h = tt
        told Ended h = tt
        told (Halted x) h = h

  where-first : (b : Bool) (o : Option Halt) → HaltFirst o → HaltFirst (only_where b o)
  where-first true o h = h
  where-first false o h = tt

  either-first : (o p : Option Halt) → HaltFirst o → HaltFirst p → HaltFirst (first_halt o p)
  either-first None p h k = k
  either-first (Some x) p h k = h

  sums-first : (most : ℕ) (q : Question) (facts : List Term) (r : Relation) (first second : List (Fraction × ℕ)) → HaltFirst (halt_of_sums most q known facts r first second)
  sums-first most q facts (AtMost s t) first second =
      let a = q.at s in
      let b = q.at t in
      where-first (is_number q a && (is_number q b && is_empty second)) (halt_in (is_number q) most known facts (at_most a b) a b first) (halt-first (is_number q) most facts (at_most a b) a b first)
  sums-first most q facts (Equal s t) first second =
      let a = q.at s in
      let b = q.at t in
      let one = halt_in (is_number q) most known facts (equation a b) a b first in
      let other = halt_in (is_number q) most known facts (equation a b) b a second in
      where-first (is_number q a && is_number q b) (first_halt one (only_where (refutes (is_number q) facts a b first) other))
      (either-first one (only_where (refutes (is_number q) facts a b first) other) (halt-first (is_number q) most facts (equation a b) a b first)
      (where-first (refutes (is_number q) facts a b first) other (halt-first (is_number q) most facts (equation a b) b a second)))

  -- ---- steps

  abbrev TrialFirst : Trial → Type 0
  TrialFirst (Does e) = Unit {0}
  TrialFirst (Halts h) = IsFirst known h.known

  unless-first : (o : Option Halt) (e : Effect) → HaltFirst o → TrialFirst (does_unless o e)
  unless-first None e h = tt
  unless-first (Some x) e h = h

  by-first : (most : ℕ) (q : Question) (facts : List Term) (s : Step) → HaltFirst (halt_by most q known facts s)
  by-first most q facts (step.Linear r first second) = sums-first most q facts r first second
  by-first most q facts _ = tt

  trial-first : (most : ℕ) (q : Question) (facts : List Term) (s : Step) → TrialFirst (trial most q known facts s)
  trial-first most q facts s = unless-first (halt_by most q known facts s) (effect q facts s) (by-first most q facts s)

kept-go : {T : Type 0} (known : List Term) (o : Option (List Term)) (go : List Term → Outcome T) → OptionFirst known o → ((more : List Term) → IsFirst more (go more).known) → IsFirst known (on_kept known o go).known
kept-go known None go h k = first-same known
kept-go known (Some more) go h k = first-then known more (go more).known h (k more)

add-go : {T : Type 0} (most : ℕ) (known : List Term) (t : Term) (go : List Term → Outcome T) → ((more : List Term) → IsFirst more (go more).known) → IsFirst known (add_fact most known t go).known
add-go most known t go k = kept-go known (kept most known t) go (kept-first most known t) k

does-go : (known : List Term) (e : Effect) (go : Term → Outcome Path) (last : Path) → ((t : Term) → IsFirst known (go t).known) → IsFirst known (on_does known e go last).known
does-go known (Adds t) go last h = h t
does-go known Ends go last h = first-same known
does-go known Fails go last h = first-same known

trial-go : (known : List Term) (t : Trial) (go : Term → Outcome Path) (last : Path) → TrialFirst known t → ((t : Term) → IsFirst known (go t).known) → IsFirst known (on_trial known t go last).known
trial-go known (Does e) go last f h = does-go known e go last h
trial-go known (Halts x) go last f h = f

pub made-go : {T : Type 0} (known : List Term) (r : Result (List Term) (List Term)) (go : List Term → Outcome T) → IsFirst known (terms_of r) → ((more : List Term) → IsFirst more (go more).known) → IsFirst known (where_made r go).known
made-go known (Ok more) go f h = first-then known more (go more).known f (h more)
made-go known (Err more) go f h = f

module _ (most : ℕ) (q : Question) where
  pub steps-first : (steps : List Step) (known facts : List Term) → IsFirst known (steps_outcome most q known facts steps).known
  steps-first [] known facts = first-same known
  steps-first (s ∷ steps) known facts =
      made-go known (all_kept most known (made_by q s))
      (λ now. on_trial now (trial most q now facts s) (λ t. add_fact most now t (λ more. steps_outcome most q more (facts ++ t ∷ []) steps)) (closed_if_last steps))
      (all-kept-first most (made_by q s) known)
      (λ now.
      trial-go now (trial most q now facts s) (λ t. add_fact most now t (λ more. steps_outcome most q more (facts ++ t ∷ []) steps)) (closed_if_last steps) (trial-first now most q facts s)
      (λ t. add-go most now t (λ more. steps_outcome most q more (facts ++ t ∷ []) steps) (λ more. steps-first steps more (facts ++ t ∷ []))))

  pub step-rest-first : (known facts : List Term) (s : Step) (steps : List Step)
      → IsFirst known (on_trial known (trial most q known facts s) (λ t. add_fact most known t (λ more. steps_outcome most q more (facts ++ t ∷ []) steps)) (closed_if_last steps)).known
  step-rest-first known facts s steps =
      trial-go known (trial most q known facts s) (λ t. add_fact most known t (λ more. steps_outcome most q more (facts ++ t ∷ []) steps)) (closed_if_last steps) (trial-first known most q facts s)
      (λ t. add-go most known t (λ more. steps_outcome most q more (facts ++ t ∷ []) steps) (λ more. steps-first steps more (facts ++ t ∷ [])))

  -- ---- nodes

  pub ending-go : {S T : Type 0} (known : List Term) (e : Ending S) (go : List Term → S → Outcome T) → ((s : S) → IsFirst known (go known s).known) → IsFirst known (by_ending known e go).known
  ending-go known (Comes x) go h = h x
  ending-go known (Stops s) go h = first-same known

  pub then-go : {S T : Type 0} (known : List Term) (o : Outcome S) (go : List Term → S → Outcome T) → IsFirst known o.known → ((more : List Term) (s : S) → IsFirst more (go more s).known) → IsFirst known (then_outcome o go).known
  then-go known o go f h = first-then known o.known (then_outcome o go).known f (ending-go o.known o.ending go (h o.known))

  pub begin-first : (known : List Term) (b : Branch) → IsFirst known (begin most known b).known
  begin-first known b = by b.opens
    where
      by : (o : Option Term) → IsFirst known (begin_with most known b.before o).known
      by None = first-same known
      by (Some t) = add-go most known t (λ more. comes more (b.before ++ t ∷ [])) (λ more. first-same more)

  -- what follows the begin of a node
  pub rest-first : (n : ProofNode) (start facts : List Term) → IsFirst start (then_outcome (steps_outcome most q start facts n.steps) (λ more path. comes more (branches_after q path n.split))).known
  rest-first n start facts = then-go start (steps_outcome most q start facts n.steps) (λ more path. comes more (branches_after q path n.split)) (steps-first n.steps start facts) (λ more path. first-same more)

  -- what comes first stays first
  pub then-later : {S T : Type 0} (o : Outcome S) (go : List Term → S → Outcome T) → ((more : List Term) (s : S) → IsFirst more (go more s).known) → IsFirst o.known (then_outcome o go).known
  then-later o go h = ending-go o.known o.ending go (h o.known)

  pub node-first : (known : List Term) (b : Branch) (n : ProofNode) → IsFirst known (node_outcome most q known b n).known
  node-first known b n =
      then-go known (begin most known b) (λ start facts. then_outcome (steps_outcome most q start facts n.steps) (λ more path. comes more (branches_after q path n.split))) (begin-first known b)
      (λ start facts. rest-first n start facts)

  pub branches-go : (more : List Term) (o : Option (List Branch)) (go : List Branch → Outcome Bool) → ((new : List Branch) → IsFirst more (go new).known) → IsFirst more (on_branches more o go).known
  branches-go more None go h = first-same more
  branches-go more (Some new) go h = h new

  pub nodes-first : (nodes : List ProofNode) (known : List Term) (paths : List Branch) → IsFirst known (nodes_outcome most q known paths nodes).known
  nodes-first [] known [] = first-same known
  nodes-first [] known (b ∷ others) = first-same known
  nodes-first (n ∷ nodes) known [] = first-same known
  nodes-first (n ∷ nodes) known (b ∷ others) =
      then-go known (node_outcome most q known b n) (λ more left. on_branches more left (λ new. nodes_outcome most q more (new ++ others) nodes)) (node-first known b n)
      (λ more left. branches-go more left (λ new. nodes_outcome most q more (new ++ others) nodes) (λ new. nodes-first nodes more (new ++ others)))

  pub outcome-first : (known : List Term) (nodes : List ProofNode) → IsFirst known (outcome most q known nodes).known
  outcome-first known nodes = nodes-first nodes known (root ∷ [])
