use Rattle.std.proofs.Common.{rules, IsTrue, subst}
use Rattle.spv_fact_search.specs.Asking.{HaveSortsOf}
use Rattle.spv_fact_search.proofs.Asked.{remade-args, remade-sorts, remade-types, remade-numeral}
use Rattle.spv_fact_search.proofs.abstracting.remade.Goals as goal

pub make-requires : goal.make-requires
make-requires c =
    let a = c.args.terms.now in
    let n = c.node-node.result.now in
    let taken : IsTrue c.have_sorts_of.result = first_of (search rules, cc) in
    let sorts : HaveSortsOf a c.args.args.now n.args = subst (HaveSortsOf a c.args.args.now) c.as_slice.ensures (c.have_sorts_of.ensures taken) in
    record {
      args = remade-args a c.law_arena.ensures c.args.t n c.node-node.ensures c.args.args.now sorts;
      sorts = remade-sorts a c.law_arena.ensures c.args.t n c.node-node.ensures c.args.args.now sorts;
      types = remade-types a c.law_arena.ensures c.args.t n c.node-node.ensures c.args.args.now sorts;
      numeral = remade-numeral a c.law_arena.ensures c.args.t n c.node-node.ensures c.args.args.now sorts;
    }
