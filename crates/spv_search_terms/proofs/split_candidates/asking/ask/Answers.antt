use Rattle.spv_term.proofs.ArenaLemmas.{AllBelow-Extends}
use Rattle.spv_search_terms.proofs.split_candidates.AskLemmas.{are_asked}
use Rattle.spv_search_terms.proofs.split_candidates.asking.ask.Goals as goal

pub with_questions-requires-clause-subterms : goal.with_questions-requires-clause-subterms
with_questions-requires-clause-subterms c = AllBelow-Extends c.in_ok-atoms.ensures.grows c.in_ok-gathered.gathered.subterms c.in_ok-gathered.ensures.in_range

pub returns-clause-asked : goal.returns-clause-asked
returns-clause-asked c =
    are_asked c.args.terms.now c.args.condition.now c.atoms_of.new.terms c.in_ok-gathered.gathered c.in_ok-atoms.atoms c.in_ok-questions.questions c.in_ok-atoms.ensures.grows c.in_ok-gathered.ensures c.in_ok-atoms.ensures.atoms
    c.in_ok-questions.ensures
