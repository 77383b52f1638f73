-- There are as many sorts as nodes.
use Rattle.std.proofs.Common.{◌<◌, length, ap, ◌∙◌, arith}
use Rattle.std.proofs.lemmas.List.{get_or_read}
use Rattle.spv_logic.specs.declared.types.Sort.TheVariants as sort
use Rattle.spv_term.specs.Arena.{sort_in, sort_at}
use Rattle.spv_term.proofs.TreeLemmas.{length-sorts_of}
use Rattle.spv_term.proofs.terms.Terms.sort.Goals as goal

pub index-requires : goal.index-requires
index-requires c =
    let inside = c.self.inside in
    omega (arith, c.requires, ap (λ a. length a.nodes) c.self.view_is, ap length c.self.invariant.sorts, length-sorts_of inside.shapes inside.decls inside.nodes.items, inside.sorts.ok.0)

pub returns : goal.returns
returns c =
    let inside = c.self.inside in
    let within : c.args.t.0 < length inside.sorts.items =
    omega (arith, c.requires, ap (λ a. length a.nodes) c.self.view_is, ap length c.self.invariant.sorts, length-sorts_of inside.shapes inside.decls inside.nodes.items) in
    get_or_read inside.sorts.items c.args.t.0 _ within c.index.ensures sort.Int ∙ ap (λ ss. sort_in ss c.args.t) c.self.invariant.sorts ∙ ap (λ a. sort_at a c.args.t) c.self.view_is
