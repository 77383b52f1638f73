use Rattle.std.proofs.Common.{rules, ◌≡◌, true, length, sym, ◌∙◌}
use Rattle.std.proofs.lemmas.List.{with_items_is}
use mathlib.Core.Path.{ap₂}
use Rattle.spv_frac.specs.rational.Rational.{Rational}
use Rattle.std.specs.Prelude.{List, ℕ}
use Rattle.spv_dictionary.specs.updates.Shifts.{value_in}
use Rattle.spv_dictionary.specs.pivoting.Choosing.{are_met}
use Rattle.spv_simplex.proofs.Checking.{ends_as, rows_in_basis, basis_fits, basis_recorded, ended_keeps, ended_checks, found_keeps, found_checks, checks_as, checks_hold}
use Rattle.spv_simplex.proofs.tableau.Tableau.check.Goals as goal

pub invariant_of-self : goal.invariant_of-self
invariant_of-self c =
    let met : are_met c.slots.result (value_in c.as_slice.result.now) c.self.inside.trail.bounds ≡ true = search rules in
    let all : are_met (length c.self.inside.dictionary.outside) (value_in c.self.inside.values.items) c.self.inside.trail.bounds ≡ true =
    sym (ap₂ (λ (w : ℕ) (v : List Rational). are_met w (value_in v) c.self.inside.trail.bounds) c.slots.ensures c.as_slice.ensures.value) ∙ met in
    found_keeps _ c.self.inside.parts c.self.inside.trail _ _ c.self.invariant c.law_dictionary.ensures c.len-self-inside.result c.len-self-inside.ensures all

pub returns-then-all_met-clause-checked : goal.returns-then-all_met-clause-checked
returns-then-all_met-clause-checked c =
    let met : are_met c.slots.result (value_in c.as_slice.result.now) c.self.inside.trail.bounds ≡ true = search rules in
    let all : are_met (length c.self.inside.dictionary.outside) (value_in c.self.inside.values.items) c.self.inside.trail.bounds ≡ true =
    sym (ap₂ (λ (w : ℕ) (v : List Rational). are_met w (value_in v) c.self.inside.trail.bounds) c.slots.ensures c.as_slice.ensures.value) ∙ met in
    checks_as _ _ _ _ c.self.view_is (found_checks _ c.self.inside.parts c.self.inside.trail _ _ c.self.invariant c.law_dictionary.ensures all)

pub search-answer-requires-clause-rows : goal.search-answer-requires-clause-rows
search-answer-requires-clause-rows c = rows_in_basis _ c.self.inside.parts c.self.inside.trail _ _ c.self.invariant c.law_dictionary.ensures

pub search-answer-requires-clause-room : goal.search-answer-requires-clause-room
search-answer-requires-clause-room c = basis_fits _ c.self.inside.parts c.self.inside.trail _ _ c.self.invariant c.law_dictionary.ensures

pub search-answer-requires-clause-basis : goal.search-answer-requires-clause-basis
search-answer-requires-clause-basis c = basis_recorded _ c.self.inside.parts c.self.inside.trail _ _ c.self.invariant c.law_dictionary.ensures

pub invariant_of-self-2 : goal.invariant_of-self-2
invariant_of-self-2 c =
    let ended = ends_as _ c.self.inside.parts c.self.inside.trail _ _ c.self.invariant c.law_dictionary.ensures c.search-answer.new.dictionary c.as_mut_slice.result.now _ c.search-answer.new.values _
    c.search-answer.new.evidence c.search-answer.result c.as_mut_slice.ensures.value (with_items_is c.self.inside.values c.search-answer.new.values (c.search-answer.auto.values ∙ c.as_mut_slice.ensures.len)) c.search-answer.ensures.ends in
    ended_keeps _ c.self.inside.parts c.self.inside.trail _ _ c.self.invariant c.law_dictionary.ensures c.search-answer.new.dictionary _ _ c.search-answer.new.evidence c.search-answer.result _ ended c.search-answer.ensures.capacity

pub returns-clause-checked : goal.returns-clause-checked
returns-clause-checked c =
    let ended = ends_as _ c.self.inside.parts c.self.inside.trail _ _ c.self.invariant c.law_dictionary.ensures c.search-answer.new.dictionary c.as_mut_slice.result.now _ c.search-answer.new.values _
    c.search-answer.new.evidence c.search-answer.result c.as_mut_slice.ensures.value (with_items_is c.self.inside.values c.search-answer.new.values (c.search-answer.auto.values ∙ c.as_mut_slice.ensures.len)) c.search-answer.ensures.ends in
    checks_as _ _ _ c.search-answer.result c.self.view_is
    (ended_checks _ c.self.inside.parts c.self.inside.trail _ _ c.self.invariant c.law_dictionary.ensures c.search-answer.new.dictionary _ _ c.search-answer.new.evidence c.search-answer.result ended)

pub returns-clause-held : goal.returns-clause-held
returns-clause-held c =
    let ended = ends_as _ c.self.inside.parts c.self.inside.trail _ _ c.self.invariant c.law_dictionary.ensures c.search-answer.new.dictionary c.as_mut_slice.result.now _ c.search-answer.new.values _
    c.search-answer.new.evidence c.search-answer.result c.as_mut_slice.ensures.value (with_items_is c.self.inside.values c.search-answer.new.values (c.search-answer.auto.values ∙ c.as_mut_slice.ensures.len)) c.search-answer.ensures.ends in
    checks_hold _ _ c.search-answer.result
    (checks_as _ _ _ c.search-answer.result c.self.view_is
    (ended_checks _ c.self.inside.parts c.self.inside.trail _ _ c.self.invariant c.law_dictionary.ensures c.search-answer.new.dictionary _ _ c.search-answer.new.evidence c.search-answer.result ended))
    (ended_keeps _ c.self.inside.parts c.self.inside.trail _ _ c.self.invariant c.law_dictionary.ensures c.search-answer.new.dictionary _ _ c.search-answer.new.evidence c.search-answer.result _ ended c.search-answer.ensures.capacity).tableau
