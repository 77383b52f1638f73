-- What a call on the arena makes.
use Rattle.std.specs.Prelude.{◌≡◌, ℕ, ◌<◌, List, length, Result, Err, OnOk}
use Rattle.spv_logic.specs.declared.conditions.TermId.{TermId}
use Rattle.spv_logic.specs.Terms.{Term}
use Rattle.spv_term.specs.declared.nodes.TermFault.{TermFault}
use Rattle.spv_term.specs.declared.nodes.TermFault.TheVariants.{Size, Memory}
use Rattle.spv_term.specs.Arena.{Arena, Extends, tree}
use Rattle.spv_term.specs.substitution.Parts.{AddsParts, LacksPart}
use Rattle.spv_logic.specs.declared.operators.Head.{Head}
use Rattle.spv_term.specs.substitution.Images.{IsPair}
use Rattle.spv_program.specs.Supplies.{Supply, fresh_like}
use Rattle.spv_program.specs.Terms.{alone}
use Rattle.spv_assign.specs.supply.Numbers.{Taken, supply_of}
use Rattle.spv_assign.specs.declared.creation_trace.faults.GenFault.{GenFault}
use Rattle.spv_assign.specs.declared.creation_trace.faults.GenFault.TheVariants as fault
use Rattle.spv_assign.specs.creation_trace.Events.{HasTerms}

-- an id stands for this term
pub record IsTerm (a : Arena) (t : TermId) (x : Term) : Type 0 where
  pub there : t.0 < length a.nodes
  pub is_tree : tree a t ≡ x

-- an arena that is full tells how many terms it may have
abbrev pub fault_of : TermFault → ℕ → GenFault
fault_of Size most = fault.Terms most
fault_of Memory most = fault.Memory

-- these terms were made with their parts and nothing else, or there was no room for a part of them
pub record Makes {X : Type 0} (result : Result X TermFault) (old new : Arena) (ts : List Term) : Type 0 where
  pub grows : Extends old new
  pub there : OnOk result (HasTerms new ts)
  pub only : AddsParts old new ts
  pub size : result ≡ Err Size → LacksPart new ts

-- a variable or class, and a fresh one of the same name that takes its place
pub record IsFreshPair (a : Arena) (taken : Taken) (p : TermId × TermId) (h : Head) (n : Supply) : Type 0 where
  pub pair : IsPair a p
  pub variable : tree a p.0 ≡ alone h
  pub fresh : tree a p.1 ≡ alone (fresh_like h n).head
  pub supply : supply_of taken ≡ (fresh_like h n).supply
