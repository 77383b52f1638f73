-- What is proved of matching.
use Rattle.std.specs.Prelude.{◌≡◌, ◌⊎◌, ℕ, List, Ok, Err, Some, IsSome, slice_get}
use Rattle.spv_whole.specs.Fraction.{Fraction}
use Rattle.spv_logic.specs.declared.types.Shape.{Shape}
use Rattle.spv_logic.specs.declared.types.Decl.{Decl}
use Rattle.spv_logic.specs.Terms.{Term, Terms, no_terms, terms}
use Rattle.spv_table.specs.declared.operations.WideValue.{WideValue}
use Rattle.spv_table.specs.Values.{value}
use Rattle.spv_proof_rules.specs.Rules.{Rule, numbered_rule, instance_of}
use Rattle.spv_rules.specs.matching.Matches.{Instance, arguments, matches}

-- ---- where terms stand

pub record IsAt {T : Type 0} (xs : List T) (x : T) : Type 0 where
  pub place : ℕ
  pub there : slice_get xs place ≡ Some x

abbrev pub StandsIn : Term → Terms → Type 0
StandsIn t no_terms = ⊥
StandsIn t (terms u us) = (u ≡ t) ⊎ StandsIn t us

-- a term is an argument of a used one
pub record IsArgument (used : List Term) (t : Term) : Type 0 where
  pub of : Term
  pub used_one : IsAt used of
  pub argument : StandsIn t (arguments of)

-- ---- claims

-- of what is found, each instance says something: there is its rule, and its terms have the sorts of the rule's variables
abbrev pub FoundInstancesSay : Type 0
FoundInstancesSay =
    (shapes : List Shape) (decls : List Decl) (rules : List Rule) (used : List Term) (listed : Term → Fraction) (found : List Instance) → matches shapes decls rules used listed ≡ Ok found
    → (k : ℕ) (i : Instance) → slice_get found k ≡ Some i → IsSome (instance_of shapes decls (numbered_rule rules i.rule) i.values)

-- its terms are arguments of used ones
abbrev pub FoundTermsAreArguments : Type 0
FoundTermsAreArguments =
    (shapes : List Shape) (decls : List Decl) (rules : List Rule) (used : List Term) (listed : Term → Fraction) (found : List Instance) → matches shapes decls rules used listed ≡ Ok found
    → (k : ℕ) (i : Instance) → slice_get found k ≡ Some i → (j : ℕ) (t : Term) → slice_get i.values j ≡ Some t → IsArgument used t

-- and no instance stands at two places
abbrev pub FoundInstancesAreOnce : Type 0
FoundInstancesAreOnce =
    (shapes : List Shape) (decls : List Decl) (rules : List Rule) (used : List Term) (listed : Term → Fraction) (found : List Instance) → matches shapes decls rules used listed ≡ Ok found
    → (k l : ℕ) (i : Instance) → slice_get found k ≡ Some i → slice_get found l ≡ Some i → k ≡ l

-- the term that stops is a used one or an argument of one, and its value is too wide by this operation
abbrev pub StopsWhereTooWide : Type 0
StopsWhereTooWide =
    (shapes : List Shape) (decls : List Decl) (rules : List Rule) (used : List Term) (listed : Term → Fraction) (t : Term) (w : WideValue) → matches shapes decls rules used listed ≡ Err (t, w)
    → (value listed t ≡ Err w) × (IsAt used t ⊎ IsArgument used t)
