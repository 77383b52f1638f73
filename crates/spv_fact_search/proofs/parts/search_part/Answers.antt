use Rattle.std.proofs.Common.{rules, IsTrue}
use Rattle.spv_fact_search.proofs.Asked.{given-there, formulas-asked}
use Rattle.spv_fact_search.proofs.parts.search_part.Goals as goal

pub searched-requires-clause-given : goal.searched-requires-clause-given
searched-requires-clause-given c =
    let taken : IsTrue c.is_asked.result = first_of (search rules, cc) in
    given-there c.args.terms.now c.args.part.now.given (c.is_asked.ensures taken).given

pub searched-requires-clause-formulas : goal.searched-requires-clause-formulas
searched-requires-clause-formulas c =
    let taken : IsTrue c.is_asked.result = first_of (search rules, cc) in
    formulas-asked c.args.terms.now c.args.part.now (c.is_asked.ensures taken)
