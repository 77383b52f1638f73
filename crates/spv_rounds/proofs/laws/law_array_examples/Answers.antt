use Rattle.std.proofs.Common.{◌≡◌, ℕ, refl, ap, pos, length, arith}
use Rattle.std.proofs.lemmas.Bool.{false≢true}
use Rattle.spv_rounds.proofs.ArrayTables.{facts-kept, without-facts, fact-broken}
use Rattle.spv_rounds.proofs.laws.law_array_examples.Goals as goal

four_are_five : (m n : ℕ) → m ≡ 4 → n ≡ 5 → m ≡ n → ⊥
four_are_five m n four five e = omega (arith, four, five, e)

pub returns-clause-proved_by_a_fact : goal.returns-clause-proved_by_a_fact
returns-clause-proved_by_a_fact c a = refl

pub returns-clause-the_fact_of_its_kind : goal.returns-clause-the_fact_of_its_kind
returns-clause-the_fact_of_its_kind c a v = false≢true v

pub returns-clause-another_number : goal.returns-clause-another_number
returns-clause-another_number c a v = false≢true v

pub returns-clause-unproved_without_facts : goal.returns-clause-unproved_without_facts
returns-clause-unproved_without_facts c a = record { survives = without-facts; no_instances = refl }

pub returns-clause-not_without_their_terms : goal.returns-clause-not_without_their_terms
returns-clause-not_without_their_terms c a v = four_are_five _ _ refl refl (ap length v.survives.falsifies.lists)

pub returns-clause-not_where_one_is_false : goal.returns-clause-not_where_one_is_false
returns-clause-not_where_one_is_false c a v = fact-broken (pos 1) _ v.survives refl

pub returns-clause-unproved_with_facts : goal.returns-clause-unproved_with_facts
returns-clause-unproved_with_facts c a = record { survives = facts-kept; no_instances = refl }

pub returns-clause-they_are_kept : goal.returns-clause-they_are_kept
returns-clause-they_are_kept c a v = fact-broken (pos 2) _ v.survives refl

pub returns-clause-all_are_listed : goal.returns-clause-all_are_listed
returns-clause-all_are_listed c a v = four_are_five _ _ refl refl (ap length v.survives.falsifies.lists)

pub returns-clause-atoms : goal.returns-clause-atoms
returns-clause-atoms c = refl

pub returns-clause-listed : goal.returns-clause-listed
returns-clause-listed c = refl
