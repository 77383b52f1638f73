-- What forms say of terms, and how steps and their shapes tell each other.
use Rattle.std.specs.Prelude.{◌≡◌, ℕ, Bool, List, [], ◌∷◌, map, Some, IsTrue}
use Rattle.spv_logic.specs.declared.conditions.TermId.{TermId}
use Rattle.spv_logic.specs.declared.types.Shape.{Shape}
use Rattle.spv_logic.specs.declared.types.Decl.{Decl}
use Rattle.spv_logic.specs.Values.{number_of}
use Rattle.spv_logic.specs.Terms.{Term, eval}
use Rattle.spv_logic.specs.Shapes.{shapes_ok}
use Rattle.spv_logic.specs.Conditions.{Meaning, Valuation, IsValuation, answers, holds}
use Rattle.spv_atoms.specs.declared.proofs.Step.{Step}
use Rattle.spv_atoms.specs.Steps as steps
use Rattle.spv_atoms.specs.Steps.{says, shape, step_of, part_renumbered, renumbered, part_renamed, relation_renamed, stated_renamed, renamed}
use Rattle.spv_atoms.specs.Tables.{truth}
use Rattle.spv_atoms.specs.Atoms.{is_truth}
use Rattle.spv_atoms.specs.Forms.{form, form_worth}

-- a term is worth what its form is worth, whatever the symbols mean
abbrev pub TermIsWorthItsForm : Type 0
TermIsWorthItsForm =
    (symbols : Meaning) (v : Valuation) (t : Term) → number_of (eval symbols v t) ≡ form_worth (λ p. number_of (eval symbols v p)) (form t)

-- each of these formulas has the truth value beside it
abbrev pub AllHave : (Term → Bool) → List (Term × Bool) → Type 0
AllHave holds [] = Unit {0}
AllHave holds (k ∷ known) = (holds k.0 ≡ k.1) × AllHave holds known

-- where the known values are right in a world, so is the value that is computed from them
abbrev pub TruthIsRight : Type 0
TruthIsRight =
    (shapes : List Shape) → IsTrue (shapes_ok shapes) → (decls : List Decl) (world : Meaning) (v : Valuation) → IsValuation shapes v
    → (known : List (Term × Bool)) → AllHave (holds (answers shapes decls world) v) known
    → (t : Term) (b : Bool) → truth (is_truth shapes decls) known t ≡ Some b → holds (answers shapes decls world) v t ≡ b

-- ---- steps

-- a shape has the step that it was made of
abbrev pub StepsHaveShapes : Type 0
StepsHaveShapes = (s : Step) → step_of (shape s) ≡ Some s

-- and no other shape has it
abbrev pub ShapesTellSteps : Type 0
ShapesTellSteps = (x : steps.Shape) (s : Step) → step_of x ≡ Some s → shape s ≡ x

-- the parts of a renumbered step are the renumbered parts, and those of a renamed one the renamed parts
abbrev pub PartsAreRenumbered : Type 0
PartsAreRenumbered = (f : ℕ → ℕ) (s : Step) → shape (renumbered f s) ≡ says (shape s).word (map (part_renumbered f) (shape s).parts)

abbrev pub PartsAreRenamed : Type 0
PartsAreRenamed =
    (f : TermId → TermId) (s : Step) → shape (renamed f s) ≡ says (shape s).word (map (part_renamed f (relation_renamed f) (stated_renamed f)) (shape s).parts)
