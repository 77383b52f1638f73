use Rattle.std.proofs.Common.{length, refl, sym, subst}
use Rattle.spv_term.specs.Arena.{AllBelow}
use Rattle.spv_search_terms.proofs.split_candidates.AskLemmas.{roots_in, gathered}
use Rattle.spv_search_terms.proofs.split_candidates.asking.gather.Goals as goal

pub subterms-requires : goal.subterms-requires
subterms-requires c =
    roots_in c.args.terms.now c.args.condition.now (length c.args.terms.now.nodes) c.in_ok-roots.roots.items c.as_slice.result.now c.in_ok-roots.ensures c.as_slice.ensures.value c.requires.given c.requires.goal

pub chains-requires : goal.chains-requires
chains-requires c = subst (AllBelow (length c.args.terms.now.nodes)) (sym c.as_slice-2.ensures) c.in_ok-found.ensures.in_range

pub returns : goal.returns
returns c =
    gathered c.args.terms.now c.args.condition.now c.in_ok-roots.roots.items c.as_slice.result.now c.in_ok-found.found c.as_slice-2.result.now c.in_ok-flags.flags.items c.in_ok-next.next.items _ c.in_ok-roots.ensures c.as_slice.ensures.value
    c.in_ok-found.ensures.order c.in_ok-found.ensures.in_range c.in_ok-flags.ensures c.as_slice-2.ensures c.in_ok-next.ensures refl refl refl
