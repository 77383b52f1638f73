-- When a tree keeps the rules of names, types and frames, and what it is refused for where it does not.
use Rattle.std.specs.Prelude.{◌≡◌, ⊤, ℕ, ◌⊎◌, List, Some, None, Ok, Err}
use Rattle.spv_program.specs.Programs.{Program}
use Rattle.spv_typing.specs.declared.faults.TypeFault.{TypeFault}
use Rattle.spv_typing.specs.Known.{known_in}
use Rattle.spv_effects.specs.declared.frame_walk.faults.FrameFault.{FrameFault}
use Rattle.spv_effects.specs.frame_walk.FrameWalk.{frame_fault}
use Rattle.spv_verify.specs.declared.refused.refusal.Refusal.{Refusal}
use Rattle.spv_verify.specs.declared.refused.fault.TextFault.{TextFault}
use Rattle.spv_verify.specs.declared.refused.fault.TextFault.TheVariants.{Refused, Memory}
use Rattle.spv_verify.specs.declared.texts.TextTree.{TextTree}
use Rattle.spv_verify.specs.texts.Trees.{IsFormed, tree_walk}
use Rattle.spv_verify.specs.refused.Told.{type_refusal, frame_refusal}

-- the tree has no fault of names and types, and this is the program that it is
abbrev pub is_typed_as : List (List ℕ) → TextTree → Program → Type 0
is_typed_as names tree p = tree_walk (known_in names) tree ≡ Ok p

-- and it has no fault of frames
pub record IsSound (names : List (List ℕ)) (tree : TextTree) (p : Program) : Type 0 where
  pub typed : is_typed_as names tree p
  pub framed : frame_fault p ≡ None

-- the program is that of a formed tree, whatever names it was read with
pub record IsOfTree (p : Program) : Type 0 where
  pub names : List (List ℕ)
  pub tree : TextTree
  pub formed : IsFormed tree
  pub typed : is_typed_as names tree p

-- ---- refusals

-- the tree is refused so for its first fault of names and types
pub record IsTypeRefusal (names : List (List ℕ)) (tree : TextTree) (r : Refusal) : Type 0 where
  pub fault : TypeFault
  pub stops : tree_walk (known_in names) tree ≡ Err fault
  pub told : type_refusal names fault ≡ Some r

-- a typed program is refused so for its first fault of frames
pub record IsFrameRefusal (names : List (List ℕ)) (p : Program) (r : Refusal) : Type 0 where
  pub fault : FrameFault
  pub stops : frame_fault p ≡ Some fault
  pub told : frame_refusal names p.titles fault ≡ Some r

-- the tree is refused so by one of the two walks
abbrev pub IsWalkRefusal : List (List ℕ) → TextTree → Refusal → Type 0
IsWalkRefusal names tree r = IsTypeRefusal names tree r ⊎ ((p : Program) × is_typed_as names tree p × IsFrameRefusal names p r)

-- ---- what code answers: the refusal, or want of memory, which has no cause

abbrev pub IsTypeCause : List (List ℕ) → TextTree → TextFault → Type 0
IsTypeCause names tree (Refused r) = IsTypeRefusal names tree r
IsTypeCause names tree Memory = ⊤

abbrev pub IsFrameCause : List (List ℕ) → Program → TextFault → Type 0
IsFrameCause names p (Refused r) = IsFrameRefusal names p r
IsFrameCause names p Memory = ⊤

abbrev pub IsWalkCause : List (List ℕ) → TextTree → TextFault → Type 0
IsWalkCause names tree (Refused r) = IsWalkRefusal names tree r
IsWalkCause names tree Memory = ⊤
