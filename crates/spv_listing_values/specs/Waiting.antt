-- Terms that are printed in part: of each, the arguments whose text is still to come.
use Rattle.std.specs.Prelude.{◌≡◌, ℕ, suc, ◌+◌, ◌<◌, List, [], ◌∷◌, ◌++◌, All, length}
use Rattle.std.specs.Borrow.{Bor}
use Rattle.spv_listing_values.specs.declared.data.ProofNode.{ProofNode}
use Rattle.spv_listing_values.specs.declared.data.Verdict.{Verdict}
use Rattle.spv_listing_values.specs.declared.data.Verdict.TheVariants.{Proved, Unproved, GaveUp}
use Rattle.spv_listing_values.specs.declared.data.Claim.{Claim}
use Rattle.spv_listing_values.specs.declared.texts.Text.{Text}
use Rattle.spv_listing_values.specs.Written.{Written, Writtens, written, no_written, writtens, argument_bytes}
use Rattle.spv_listing_values.specs.Mapped.{step_terms, split_terms, limit_terms}
use Rattle.spv_listing_values.specs.Places.{Flat, AreBefore, trees, args_at}

-- what is still to come of a term: these arguments and the bracket
abbrev pub rest_text : List Flat → List Text → List ℕ
rest_text fs args = argument_bytes (args_at (trees fs) args)

-- what is still to come of terms that stand in one another, the innermost last
abbrev pub rest_texts : List Flat → List (Bor (List Text)) → List ℕ
rest_texts fs [] = []
rest_texts fs (args ∷ waiting) = rest_texts fs waiting ++ rest_text fs args.now

abbrev mutual
  -- how many steps it takes to print a term: one for its head, one for its end, and those for its arguments
  pub term_steps : Written → ℕ
  term_steps (written h ts) = suc (suc (all_steps ts))

  pub all_steps : Writtens → ℕ
  all_steps no_written = 0
  all_steps (writtens t ts) = term_steps t + all_steps ts

-- how many steps are still to come
abbrev pub steps_left : List Flat → List (Bor (List Text)) → ℕ
steps_left fs [] = 0
steps_left fs (args ∷ waiting) = suc (all_steps (args_at (trees fs) args.now)) + steps_left fs waiting

abbrev pub AreIn : List Flat → List Text → Type 0
AreIn fs args = AreBefore (length fs) args

-- the arguments that wait are terms of the list
abbrev pub AreTerms : List Flat → List (Bor (List Text)) → Type 0
AreTerms fs waiting = All (λ args. AreIn fs args.now) waiting

-- a text is printed in part, and the rest of it waits in front of what waited before; that takes fewer than so many steps more
pub record Begins (fs : List Flat) (text : List ℕ) (count : ℕ) (out : List ℕ) (waiting : List (Bor (List Text))) (more : List ℕ) (waits : List (Bor (List Text))) : Type 0 where
  pub text_is : more ++ rest_texts fs waits ≡ out ++ (text ++ rest_texts fs waiting)
  pub fewer : steps_left fs waits < count + steps_left fs waiting
  pub are_terms : AreTerms fs waits

-- the terms that a node names are in the list
abbrev pub NodeIn : List Flat → ProofNode Text → Type 0
NodeIn fs n = All (λ s. AreIn fs (step_terms s)) n.steps × AreIn fs (split_terms n.split)

abbrev pub VerdictIn : List Flat → Verdict Text → Type 0
VerdictIn fs (Proved nodes) = All (λ n. NodeIn fs n) nodes
VerdictIn fs (Unproved branch instances table) = All (λ t. t.0 < length fs) branch × All (λ i. All (λ t. t.0 < length fs) i.values) instances × All (λ row. row.0.0 < length fs) table
VerdictIn fs (GaveUp l) = AreIn fs (limit_terms l)

-- the terms that a condition and its verdict name are in the list
abbrev pub ClaimIn : List Flat → Claim Text → Type 0
ClaimIn fs c = All (λ t. t.0 < length fs) c.given × (c.goal.0 < length fs) × VerdictIn fs c.verdict
