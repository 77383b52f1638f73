-- Rounds of a question are rounds of the same one over other ids.
use Rattle.std.proofs.Common.{◌≡◌, List, [], ◌∷◌, ◌++◌, sym, ap, ◌∙◌, subst}
use Rattle.spv_logic.specs.declared.conditions.TermId.{TermId}
use Rattle.spv_logic.specs.declared.operators.Head.TheVariants.{False}
use Rattle.spv_logic.specs.Conditions.{Sequent}
use Rattle.spv_logic.specs.Terms.{Term, term, no_terms}
use Rattle.spv_term.specs.declared.nodes.Condition.{Condition}
use Rattle.spv_term.specs.Arena.{Arena, tree}
use Rattle.spv_proof_rules.specs.Rules.{Rule}
use Rattle.spv_proof_rules.specs.Effects.{Question}
use Rattle.spv_proof_rules.specs.Stand.{question_under}
use Rattle.spv_search_terms.specs.condition_copy.Copies.{IsSameClaim, StandsFor}
use Rattle.spv_verdicts.specs.Verdicts as verdicts
use Rattle.spv_verdicts.specs.Verdicts.{Instance}
use Rattle.spv_verdicts.specs.declared.answers.verdicts.Round.{Round}
use Rattle.spv_verdicts.specs.answers.Views.{rounds_in}
use Rattle.spv_rounds.specs.Claims.{formulas, AllSay}
use Rattle.spv_rounds.specs.Rounds.{IsRound, AreRounds, members_of}
use Rattle.spv_rounds.specs.moving.Moves.{RoundsMoved}
use Rattle.spv_rounds.specs.knowing.Known.{IsClaim, RoundsStand, members_in}

-- the same question over other ids
abbrev pub over : (TermId → Term) → Question → Question
over at q = record { shapes = q.shapes; decls = q.decls; at = at; sequent = q.sequent; rules = q.rules }

round-over : (at : TermId → Term) (q : Question) (known : List Instance) (r : verdicts.Round) → IsRound q known r → IsRound (over at q) known r
round-over at q known r is = record { falsifies = is.falsifies; others = is.others; called = is.called; some = is.some }

pub rounds-over : (at : TermId → Term) (q : Question) (known : List Instance) (rounds : List verdicts.Round) → AreRounds q known rounds → AreRounds (over at q) known rounds
rounds-over at q known [] h = tt
rounds-over at q known (r ∷ rounds) h = (round-over at q known r h.0, rounds-over at q (known ++ r.members) rounds h.1)

-- a condition of an arena claims what one of another arena does
module _ (rules : List Rule) (a : Arena) (c : Condition) (b : Arena) (d : Condition) (claim : IsSameClaim a c b d) (shapes : b.shapes ≡ a.shapes) (decls : b.decls ≡ a.decls) where
  pub same-question : over (tree b) (question_under rules a c) ≡ question_under rules b d
  same-question =
      let s = sym shapes in
      let x = sym decls in
      let e = sym claim.claim in
      λ i. record { shapes = s i; decls = x i; at = tree b; sequent = e i; rules = rules }

  pub rounds-stand : (e : Arena) (rounds moved : List Round) → RoundsStand (question_under rules a c) e rounds → RoundsMoved e b rounds moved → RoundsStand (question_under rules b d) b moved
  rounds-stand e rounds moved s m = subst (λ (q : Question). RoundsStand q b moved) same-question (record {
    there = m.there;
    grown = subst (λ (rs : List verdicts.Round). AreRounds (over (tree b) (question_under rules a c)) [] rs) (sym m.same) (rounds-over (tree b) (question_under rules a c) [] (rounds_in e rounds) s.grown);
    say = subst (λ (rs : List verdicts.Round). AllSay (over (tree b) (question_under rules a c)) (members_of rs)) (sym m.same) s.say;
  })

  pub same-formulas : (e : Arena) (rounds moved : List Round) → RoundsMoved e b rounds moved → formulas (question_under rules a c) (members_in e rounds) ≡ formulas (question_under rules b d) (members_in b moved)
  same-formulas e rounds moved m =
      ap (λ (rs : List verdicts.Round). formulas (over (tree b) (question_under rules a c)) (members_of rs)) (sym m.same) ∙ ap (λ (q : Question). formulas q (members_in b moved)) same-question

pub falsity-there : (a : Arena) (c : Condition) (fs : List Term) (b : Arena) (d : Condition) → IsClaim a c fs b d → StandsFor b d.goal (term False no_terms)
falsity-there a c fs b d is = record { there = is.goal_in; is = ap (λ (s : Sequent). s.goal) is.claim }
