use Rattle.std.proofs.Common.{length, map, refl, sym, ◌∙◌}
use Rattle.spv_term.specs.Arena.{sequent}
use Rattle.spv_listing_values.specs.Entries.{written_claim}
use Rattle.spv_listing_values.specs.Mapped.{node_at}
use Rattle.spv_proof_steps.proofs.StepLemmas.{AllBelow-formulas}
use Rattle.spv_rules.specs.RuleSets.{rules_in}
use Rattle.spv_rechecking.specs.Made.{vocabulary_in}
use Rattle.spv_rechecking.specs.Converted.{term_at}
use Rattle.spv_rechecking.proofs.EntryLemmas.{given_placed, goal_placed, nodes_placed, nodes_cases, nodes_trees}
use Rattle.spv_rechecking.proofs.ImageLemmas.{so_many_images, same_lines, same_proof}
use Rattle.spv_rechecking.proofs.Judged.{other_lines, other_steps, inside, judged}
use Rattle.spv_rechecking.proofs.rechecking.check_with.Goals as goal

pub is_same-requires-clause-given : goal.is_same-requires-clause-given
is_same-requires-clause-given c = AllBelow-formulas c.args.terms.now c.args.condition.now.given c.requires.condition.given

pub is_same-requires-clause-placed_given : goal.is_same-requires-clause-placed_given
is_same-requires-clause-placed_given c = given_placed c.args.texts.now c.args.claim.now c.requires.entry (length c.args.images.now) (so_many_images (vocabulary_in c.args.names.now c.args.titles.now c.args.leaves.now c.args.terms.now) c.args.terms.now c.args.texts.now c.args.images.now c.requires.images)

pub is_same-requires-clause-placed_goal : goal.is_same-requires-clause-placed_goal
is_same-requires-clause-placed_goal c = goal_placed c.args.texts.now c.args.claim.now c.requires.entry (length c.args.images.now) (so_many_images (vocabulary_in c.args.names.now c.args.titles.now c.args.leaves.now c.args.terms.now) c.args.terms.now c.args.texts.now c.args.images.now c.requires.images)

pub proof_of-requires-clause-placed : goal.proof_of-requires-clause-placed
proof_of-requires-clause-placed c = nodes_placed c.args.texts.now c.args.claim.now c.requires.entry c.proof_in-said.result.now c.proof_in-said.ensures (length c.args.images.now) (so_many_images (vocabulary_in c.args.names.now c.args.titles.now c.args.leaves.now c.args.terms.now) c.args.terms.now c.args.texts.now c.args.images.now c.requires.images)

pub proof_of-requires-clause-cases : goal.proof_of-requires-clause-cases
proof_of-requires-clause-cases c = nodes_cases c.args.texts.now c.args.claim.now c.requires.entry c.proof_in-said.result.now c.proof_in-said.ensures

pub proof_of-requires-clause-tree : goal.proof_of-requires-clause-tree
proof_of-requires-clause-tree c = nodes_trees c.args.texts.now c.args.claim.now c.requires.entry c.proof_in-said.result.now c.proof_in-said.ensures c.requires.proof

pub returns-then-not-same-clause-judged : goal.returns-then-not-same-clause-judged
returns-then-not-same-clause-judged c = other_lines (record { names = c.args.names.now; titles = c.args.titles.now; rules = rules_in c.args.rules.now; most = c.args.terms.now.most }) (vocabulary_in c.args.names.now c.args.titles.now c.args.leaves.now c.args.terms.now) c.args.terms.now c.args.condition.now (written_claim c.args.texts.now c.args.claim.now) c.args.terms.now (sym (same_lines (vocabulary_in c.args.names.now c.args.titles.now c.args.leaves.now c.args.terms.now) c.args.terms.now c.args.texts.now c.args.images.now c.requires.images c.args.claim.now (sequent c.args.terms.now c.args.condition.now) (given_placed c.args.texts.now c.args.claim.now c.requires.entry (length c.args.images.now) (so_many_images (vocabulary_in c.args.names.now c.args.titles.now c.args.leaves.now c.args.terms.now) c.args.terms.now c.args.texts.now c.args.images.now c.requires.images)) (goal_placed c.args.texts.now c.args.claim.now c.requires.entry (length c.args.images.now) (so_many_images (vocabulary_in c.args.names.now c.args.titles.now c.args.leaves.now c.args.terms.now) c.args.terms.now c.args.texts.now c.args.images.now c.requires.images))) ∙ (sym c.in_ok-same.ensures ∙ c.if-not-same.true))

pub check_proof-requires-clause-proof : goal.check_proof-requires-clause-proof
check_proof-requires-clause-proof c =
    inside (record { names = c.args.names.now; titles = c.args.titles.now; rules = rules_in c.args.rules.now; most = c.args.terms.now.most }) (vocabulary_in c.args.names.now c.args.titles.now c.args.leaves.now c.args.terms.now) c.args.terms.now c.args.condition.now (written_claim c.args.texts.now c.args.claim.now)
    (sym (same_lines (vocabulary_in c.args.names.now c.args.titles.now c.args.leaves.now c.args.terms.now) c.args.terms.now c.args.texts.now c.args.images.now c.requires.images c.args.claim.now (sequent c.args.terms.now c.args.condition.now) (given_placed c.args.texts.now c.args.claim.now c.requires.entry (length c.args.images.now) (so_many_images (vocabulary_in c.args.names.now c.args.titles.now c.args.leaves.now c.args.terms.now) c.args.terms.now c.args.texts.now c.args.images.now c.requires.images)) (goal_placed c.args.texts.now c.args.claim.now c.requires.entry (length c.args.images.now) (so_many_images (vocabulary_in c.args.names.now c.args.titles.now c.args.leaves.now c.args.terms.now) c.args.terms.now c.args.texts.now c.args.images.now c.requires.images))) ∙ (sym c.in_ok-same.ensures ∙ c.if-not-same.false)) (map (node_at (term_at c.args.terms.now c.args.images.now)) c.proof_in-said.result.now) (same_proof (vocabulary_in c.args.names.now c.args.titles.now c.args.leaves.now c.args.terms.now) c.args.terms.now c.args.texts.now c.args.images.now c.requires.images c.args.claim.now c.proof_in-said.result.now c.proof_in-said.ensures (nodes_placed c.args.texts.now c.args.claim.now c.requires.entry c.proof_in-said.result.now c.proof_in-said.ensures (length c.args.images.now) (so_many_images (vocabulary_in c.args.names.now c.args.titles.now c.args.leaves.now c.args.terms.now) c.args.terms.now c.args.texts.now c.args.images.now c.requires.images)))
    c.in_ok-made.made c.in_ok-made.ensures c.in-Some.proof c.in-Some.is

pub returns-in-Some-clause-judged : goal.returns-in-Some-clause-judged
returns-in-Some-clause-judged c =
    judged (record { names = c.args.names.now; titles = c.args.titles.now; rules = rules_in c.args.rules.now; most = c.args.terms.now.most }) (vocabulary_in c.args.names.now c.args.titles.now c.args.leaves.now c.args.terms.now) c.args.terms.now c.args.condition.now (written_claim c.args.texts.now c.args.claim.now)
    (sym (same_lines (vocabulary_in c.args.names.now c.args.titles.now c.args.leaves.now c.args.terms.now) c.args.terms.now c.args.texts.now c.args.images.now c.requires.images c.args.claim.now (sequent c.args.terms.now c.args.condition.now) (given_placed c.args.texts.now c.args.claim.now c.requires.entry (length c.args.images.now) (so_many_images (vocabulary_in c.args.names.now c.args.titles.now c.args.leaves.now c.args.terms.now) c.args.terms.now c.args.texts.now c.args.images.now c.requires.images)) (goal_placed c.args.texts.now c.args.claim.now c.requires.entry (length c.args.images.now) (so_many_images (vocabulary_in c.args.names.now c.args.titles.now c.args.leaves.now c.args.terms.now) c.args.terms.now c.args.texts.now c.args.images.now c.requires.images))) ∙ (sym c.in_ok-same.ensures ∙ c.if-not-same.false)) (map (node_at (term_at c.args.terms.now c.args.images.now)) c.proof_in-said.result.now) (same_proof (vocabulary_in c.args.names.now c.args.titles.now c.args.leaves.now c.args.terms.now) c.args.terms.now c.args.texts.now c.args.images.now c.requires.images c.args.claim.now c.proof_in-said.result.now c.proof_in-said.ensures (nodes_placed c.args.texts.now c.args.claim.now c.requires.entry c.proof_in-said.result.now c.proof_in-said.ensures (length c.args.images.now) (so_many_images (vocabulary_in c.args.names.now c.args.titles.now c.args.leaves.now c.args.terms.now) c.args.terms.now c.args.texts.now c.args.images.now c.requires.images)))
    c.in_ok-made.made c.in_ok-made.ensures c.in-Some.proof c.in-Some.is refl refl c.check_proof.new.terms c.check_proof.result c.check_proof.ensures.terms_in c.check_proof.ensures.verdict c.check_proof.ensures.grows

pub returns-in-None-clause-judged : goal.returns-in-None-clause-judged
returns-in-None-clause-judged c =
    other_steps (record { names = c.args.names.now; titles = c.args.titles.now; rules = rules_in c.args.rules.now; most = c.args.terms.now.most }) (vocabulary_in c.args.names.now c.args.titles.now c.args.leaves.now c.args.terms.now) c.args.terms.now c.args.condition.now (written_claim c.args.texts.now c.args.claim.now)
    (sym (same_lines (vocabulary_in c.args.names.now c.args.titles.now c.args.leaves.now c.args.terms.now) c.args.terms.now c.args.texts.now c.args.images.now c.requires.images c.args.claim.now (sequent c.args.terms.now c.args.condition.now) (given_placed c.args.texts.now c.args.claim.now c.requires.entry (length c.args.images.now) (so_many_images (vocabulary_in c.args.names.now c.args.titles.now c.args.leaves.now c.args.terms.now) c.args.terms.now c.args.texts.now c.args.images.now c.requires.images)) (goal_placed c.args.texts.now c.args.claim.now c.requires.entry (length c.args.images.now) (so_many_images (vocabulary_in c.args.names.now c.args.titles.now c.args.leaves.now c.args.terms.now) c.args.terms.now c.args.texts.now c.args.images.now c.requires.images))) ∙ (sym c.in_ok-same.ensures ∙ c.if-not-same.false)) (map (node_at (term_at c.args.terms.now c.args.images.now)) c.proof_in-said.result.now) (same_proof (vocabulary_in c.args.names.now c.args.titles.now c.args.leaves.now c.args.terms.now) c.args.terms.now c.args.texts.now c.args.images.now c.requires.images c.args.claim.now c.proof_in-said.result.now c.proof_in-said.ensures (nodes_placed c.args.texts.now c.args.claim.now c.requires.entry c.proof_in-said.result.now c.proof_in-said.ensures (length c.args.images.now) (so_many_images (vocabulary_in c.args.names.now c.args.titles.now c.args.leaves.now c.args.terms.now) c.args.terms.now c.args.texts.now c.args.images.now c.requires.images)))
    c.in_ok-made.made c.in_ok-made.ensures c.args.terms.now c.in-None.is
