-- How a check ends over an arena.
use Rattle.std.specs.Prelude.{◌≡◌, ◌<◌, List, length, Option, Some, None, Result, Err, IfSome}
use Rattle.std.specs.Option.{option_map}
use Rattle.spv_logic.specs.declared.conditions.TermId.{TermId}
use Rattle.spv_logic.specs.Terms.{Term}
use Rattle.spv_term.specs.declared.nodes.Condition.{Condition}
use Rattle.spv_term.specs.Arena.{Arena, tree, trees_of}
use Rattle.spv_atoms.specs.declared.proofs.Step.{Step}
use Rattle.spv_atoms.specs.declared.proofs.Step.TheVariants as step
use Rattle.spv_proof_rules.specs.Effects.{Question, schema_stated, rule_stated}
use Rattle.spv_proof_rules.specs.Stops.{WideSum, WideForm, TooMany, Halt, terms_of}
use Rattle.spv_proof_rules.specs.Outcomes.{IsFirst, Trial, Halts, Outcome, comes, stops}
use Rattle.spv_proof_steps.specs.Candidates.{IsBool, AllFormulas}
use Rattle.spv_proof.specs.declared.checker.stops.CheckStop.{CheckStop}
use Rattle.spv_proof.specs.declared.checker.stops.CheckStop.TheVariants.{Wide, Form, Size, Memory}

-- the formulas of a condition are in the arena
pub record ConditionIn (a : Arena) (c : Condition) : Type 0 where
  pub given : AllFormulas a c.given
  pub goal : c.goal.0 < length a.nodes
  pub sort : IsBool a c.goal

-- what an error says of the terms that there are; for want of memory nothing is said
abbrev pub halt_at : Arena → CheckStop → Option Halt
halt_at a (Wide op x y) = Some (record { known = trees_of a.nodes; stop = WideSum op x y })
halt_at a (Form t) = Some (record { known = trees_of a.nodes; stop = WideForm (tree a t) })
halt_at a Size = Some (record { known = trees_of a.nodes; stop = TooMany })
halt_at a Memory = None

-- a relation that is named is in the arena
abbrev pub FormIn : Arena → CheckStop → Type 0
FormIn a (Form t) = t.0 < length a.nodes
FormIn a _ = Unit {0}

-- an error over this arena is how the outcome stops; for want of memory the first of its terms are there
pub record EndsAs {T : Type 0} (a : Arena) (e : CheckStop) (o : Outcome T) : Type 0 where
  pub told : IfSome (halt_at a e) (λ h. o ≡ stops h.known h.stop)
  pub form : FormIn a e
  pub kept : IsFirst (trees_of a.nodes) o.known

-- an error is how a step halts; for want of memory the arena is as it was
pub record IsTrialStop (old new : Arena) (e : CheckStop) (t : Trial) : Type 0 where
  pub told : IfSome (halt_at new e) (λ h. t ≡ Halts h)
  pub form : FormIn new e
  pub unchanged : e ≡ Memory → new ≡ old

-- an error is why terms were not all kept; for want of memory those that were come first
abbrev pub IsMadeStop : Arena → CheckStop → Result (List Term) (List Term) → Type 0
IsMadeStop a (Wide op x y) r = ⊥
IsMadeStop a (Form t) r = ⊥
IsMadeStop a Size r = r ≡ Err (trees_of a.nodes)
IsMadeStop a Memory r = IsFirst (trees_of a.nodes) (terms_of r)

-- what a step adds that need not stand in the arena: the fact of a schema, or an instance of a rule; none where it does not follow, and of
-- another step nothing is said
abbrev pub IsStated : Question → Step → Option Term → Type 0
IsStated q (step.Schema number ts field) o = o ≡ schema_stated q number ts field
IsStated q (step.Rule number ts) o = o ≡ rule_stated q number ts
IsStated q _ o = Unit {0}

-- a term of the arena is what such a step adds
pub record IsMade (a : Arena) (q : Question) (s : Step) (made : Option TermId) : Type 0 where
  pub there : IfSome made (λ t. t.0 < length a.nodes)
  pub stated : IsStated q s (option_map (tree a) made)

-- what comes, over the terms of an arena
abbrev pub comes_in : {T : Type 0} → Arena → T → Outcome T
comes_in a x = comes (trees_of a.nodes) x
