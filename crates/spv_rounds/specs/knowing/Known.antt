-- What is known of a condition after some rounds, and that in an arena where a verdict was found.
use Rattle.std.specs.Prelude.{◌≡◌, ◌<◌, ◌≤◌, List, [], map, length}
use Rattle.spv_logic.specs.declared.operators.Head.TheVariants.{False}
use Rattle.spv_logic.specs.Terms.{Term, term, no_terms}
use Rattle.spv_term.specs.declared.nodes.Condition.{Condition}
use Rattle.spv_term.specs.Arena.{Arena, AllBelow, tree, sequent}
use Rattle.spv_proof_rules.specs.Rules.{Rule}
use Rattle.spv_proof_rules.specs.Effects.{Question}
use Rattle.spv_proof_rules.specs.Stand.{question, question_under}
use Rattle.spv_models.specs.leaf_models.Laws.{AreFormulas}
use Rattle.spv_models.specs.leaf_models.Tables.{formulas_of}
use Rattle.spv_search_terms.specs.condition_copy.Copies.{IsSameClaim, StandsFor}
use Rattle.spv_verdicts.specs.Verdicts.{Limits, Instance}
use Rattle.spv_verdicts.specs.declared.answers.verdicts.Round.{Round}
use Rattle.spv_verdicts.specs.answers.Views.{RoundsIn, rounds_in}
use Rattle.spv_rounds.specs.Claims.{formulas, AllSay, claim}
use Rattle.spv_rounds.specs.Rounds.{AreRounds, members_of}
use Rattle.spv_rounds.specs.declared.knowing.known.Known.{Known}
use Rattle.spv_rounds.specs.declared.knowing.known.Settled.{Settled}

-- a condition of another arena claims that a condition's hypotheses, that its goal is false, and these formulas are never true together
pub record IsClaim (a : Arena) (c : Condition) (fs : List Term) (b : Arena) (d : Condition) : Type 0 where
  pub given_in : AllBelow (length b.nodes) d.given
  pub goal_in : d.goal.0 < length b.nodes
  pub claim : sequent b d ≡ (claim (question a c) fs).sequent
  pub origin : d.origin ≡ c.origin
  pub shapes : b.shapes ≡ a.shapes
  pub decls : b.decls ≡ a.decls

-- the same with some formulas
pub record HasClaim (a : Arena) (c : Condition) (b : Arena) (d : Condition) : Type 0 where
  pub fs : List Term
  pub is : IsClaim a c fs b d

-- the members of rounds over an arena
abbrev pub members_in : Arena → List Round → List Instance
members_in a rounds = members_of (rounds_in a rounds)

-- rounds over an arena are rounds of a question, and each of their members says something
pub record RoundsStand (q : Question) (a : Arena) (rounds : List Round) : Type 0 where
  pub there : RoundsIn a rounds
  pub grown : AreRounds q [] (rounds_in a rounds)
  pub say : AllSay q (members_in a rounds)

-- what is known of a condition under rules after some rounds: the claim that all is refuted with what their members say
pub record IsKnown (rules : List Rule) (a : Arena) (c : Condition) (limits : Limits) (k : Known) : Type 0 where
  pub is_claim : IsClaim a c (formulas (question_under rules a c) (members_in k.terms k.rounds.items)) k.terms k.claim
  pub rounds : RoundsStand (question_under rules a c) k.terms k.rounds.items
  pub few : length (members_in k.terms k.rounds.items) ≤ limits.instances
  pub are_formulas : AreFormulas a.shapes a.decls (formulas_of (claim (question a c) (formulas (question_under rules a c) (members_in k.terms k.rounds.items))).sequent)

-- the same in an arena where a verdict was found
pub record IsSettled (rules : List Rule) (a : Arena) (c : Condition) (s : Settled) : Type 0 where
  pub claim : IsSameClaim a c s.terms s.condition
  pub shapes : s.terms.shapes ≡ a.shapes
  pub decls : s.terms.decls ≡ a.decls
  pub falsity : StandsFor s.terms s.falsity (term False no_terms)
  pub rounds : RoundsStand (question_under rules s.terms s.condition) s.terms s.rounds
  pub formulas_in : AllBelow (length s.terms.nodes) s.formulas
  pub are_formulas : map (tree s.terms) s.formulas ≡ formulas (question_under rules s.terms s.condition) (members_in s.terms s.rounds)
