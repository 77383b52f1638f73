use Rattle.std.proofs.Common.{◌≡◌, OnOk, ℤ, subst, ap, ◌∙◌, w64, rules, to_z, of_z}
use Rattle.std.specs.Int.{w128}
use Rattle.std.proofs.Math.Facts.{sfits_widen}
use Rattle.std.proofs.lemmas.Int.{to_z-of_z}
use mir.Val.{SFits}
use Rattle.spv_program.specs.Terms.{numeral}
use Rattle.spv_expression_terms.specs.term_walk.Written.{Writes}
use Rattle.spv_expression_terms.proofs.term_walk.heads.write_numeral.Goals as goal

-- a number of 64 bits is the same in 128
widened : (z : ℤ) → SFits w64 z → to_z w128 (of_z w128 (to_z w64 (of_z w64 z))) ≡ z
widened z f = ap (λ x. to_z w128 (of_z w128 x)) (to_z-of_z w64 z f) ∙ to_z-of_z w128 z (sfits_widen {w = w64} {w' = w128} tt f)

pub returns-clause-writes : goal.returns-clause-writes
returns-clause-writes c =
    subst (λ (z : ℤ). OnOk c.write.result (Writes (numeral z) c.args.pieces.now.items c.write.new.pieces.items)) (widened c.args.z.now (search rules)) c.write.ensures
