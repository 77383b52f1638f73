-- The end of a path by a contradiction of bounds.
use Rattle.std.proofs.Common.{◌≡◌, refl, ℕ, List, None, Result, IfOk, OnErr}
use Rattle.spv_term.specs.Arena.{Arena, IsArena}
use Rattle.spv_proof_rules.specs.Effects.{at_most}
use Rattle.spv_derivations.specs.declared.derivation.entries.Entry.{Entry}
use Rattle.spv_derivations.specs.derivation.Derivation.{Gains, IsDerivation}
use Rattle.spv_derivations.specs.derivation.Literals.{literals}
use Rattle.spv_derivations.proofs.derivation.Bridges.{if_ok}
use Rattle.spv_tableau_rules.specs.constraints.Laws.{numeral_of}
use Rattle.spv_tableau_rules.specs.constraints.Relations.{AreIn}
use Rattle.spv_arithmetic_side.specs.farkas.Refuted.{AreOneAndZero}
use Rattle.spv_simplex.specs.Checks.{IsInfeasible}
use Rattle.spv_explanations.proofs.congruence_side.LastEntries.{moves_either}
use Rattle.spv_explanations.proofs.congruence_side.Trails.{course_grows, course_holds}
use Rattle.spv_arithmetic_side.specs.constraint_rows.Standing.{readings, Sourced}
use Rattle.spv_atoms.specs.Linear.{IdForm, PartsIn}
use Rattle.spv_arithmetic_side.specs.declared.bounds.sources.RowSources.{RowSources}
use Rattle.spv_derivations.specs.derivation.Steps.{IsEnd}
use Rattle.spv_arithmetic_side.specs.farkas.Laws.{EndsByOne}
use Rattle.spv_arithmetic_side.specs.constraint_rows.Said.{AreOpposed, IsContrary}
use Rattle.spv_arithmetic_side.proofs.constraint_rows.Forms.{form_at}
use Rattle.spv_share.specs.declared.relations.Claim.{Claim}
use Rattle.spv_share.specs.declared.both.Both.{Both}
use Rattle.spv_share.specs.Both.{IsClaimed, IsSound}
use Rattle.spv_share.specs.States.{GoesOn}
use Rattle.spv_share.proofs.Goings.{goes_trail}

end_by : {E : Type 0} (a : Arena) (old : Both) (es : List Entry) (r : Result ℕ E) → IsSound a old → IfOk r (λ n. Gains a old.trail.derivation es n (at_most (numeral_of 1) (numeral_of 0))) → OnErr r (es ≡ old.trail.derivation)
    → literals es ≡ literals old.trail.derivation → GoesOn a old (record old { trail = record old.trail { derivation = es } })
end_by a old es r h now err same =
    let moves = moves_either a old.trail.derivation es (at_most (numeral_of 1) (numeral_of 0)) r h.trail.derivation now err in
    goes_trail a old (record old.trail { derivation = es }) h (course_holds a old.trail es h.trail moves) (course_grows a old.trail es moves) same refl

pub end_goes : {E : Type 0} (a : Arena) → IsArena a → (old : Both) (es : List Entry) (r : Result ℕ E) → IsSound a old → IsInfeasible old.standing.tableau
    → IfOk r (λ n. (a : Arena) → IsArena a → IsDerivation a old.trail.derivation → AreOneAndZero a old.one old.zero → AreIn a old.standing.tableau.forms → Sourced a (readings a old.trail.derivation) old.standing old.standing.tableau.bounds
    → IsInfeasible old.standing.tableau → Gains a old.trail.derivation es n (at_most (numeral_of 1) (numeral_of 0))) → OnErr r (es ≡ old.trail.derivation) → literals es ≡ literals old.trail.derivation
    → GoesOn a old (record old { trail = record old.trail { derivation = es } })
end_goes a ok old es r h infeasible gains err same = end_by a old es r h (if_ok r gains (λ n g. g a ok h.trail.derivation h.numbers h.inside h.sourced infeasible)) err same

-- ---- by what a fact says of a row, and what stands there

module _ (a : Arena) (ok : IsArena a) (old : Both) (es : List Entry) (h : IsSound a old) (c : Claim) (fact : ℕ) (claimed : IsClaimed a old c fact) (from : RowSources) (opposed : AreOpposed old.standing c.row c.saying fact from) where
  pub gains_opposed : (n : ℕ)
      → ((a : Arena) (row : ℕ) (f : IdForm) → IsArena a → IsDerivation a old.trail.derivation → AreOneAndZero a old.one old.zero → PartsIn a f.parts → IsContrary a (readings a old.trail.derivation) row f from
      → Gains a old.trail.derivation es n (at_most (numeral_of 1) (numeral_of 0))) → Gains a old.trail.derivation es n (at_most (numeral_of 1) (numeral_of 0))
  gains_opposed n g =
      let form = form_at old.standing.tableau.forms c.row claimed.row_in in
      g a c.row form.0 ok h.trail.derivation h.numbers (h.inside.each c.row form.0 form.1) (opposed.shown a (readings a old.trail.derivation) form.0 form.1 h.sourced claimed.said)

  pub claim_goes : {E : Type 0} (r : Result ℕ E)
      → IfOk r (λ n. (a : Arena) (row : ℕ) (f : IdForm) → IsArena a → IsDerivation a old.trail.derivation → AreOneAndZero a old.one old.zero → PartsIn a f.parts → IsContrary a (readings a old.trail.derivation) row f from
      → Gains a old.trail.derivation es n (at_most (numeral_of 1) (numeral_of 0))) → OnErr r (es ≡ old.trail.derivation) → literals es ≡ literals old.trail.derivation → GoesOn a old (record old { trail = record old.trail { derivation = es } })
  claim_goes r gains err same = end_by a old es r h (if_ok r gains (λ n g. gains_opposed n g)) err same

  pub claim_ends : EndsByOne → (n : ℕ)
      → ((a : Arena) (row : ℕ) (f : IdForm) → IsArena a → IsDerivation a old.trail.derivation → AreOneAndZero a old.one old.zero → PartsIn a f.parts → IsContrary a (readings a old.trail.derivation) row f from
      → Gains a old.trail.derivation es n (at_most (numeral_of 1) (numeral_of 0))) → IsEnd a es n None
  claim_ends law n g = law a es n (gains_opposed n g).fact
