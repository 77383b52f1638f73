use Rattle.std.proofs.Common.{◌<◌, length, sym, ap, ◌∙◌, subst, List}
use Rattle.spv_logic.specs.declared.names.names.Symbol.{Symbol}
use Rattle.spv_program.specs.ordered_map.Entries.{with_value}
use Rattle.spv_program.proofs.ordered_map.Lookups.{value_put, length-named}
use Rattle.spv_program.proofs.ordered_map.Named.set.Goals as goal

pub unwrap-old-requires : goal.unwrap-old-requires
unwrap-old-requires g c =
    c.get_index_mut.ensures.found.1
    (subst (λ n. c.args.place < n) (ap length (sym c.self.view_is) ∙ length-named c.self.inside.entries.entries) c.requires)

pub returns : goal.returns
returns g c =
    value_put c.self.inside.entries.entries c.args.place c.args.value
    ∙ ap (λ (l : List (Symbol × g.row.T.Denot)). with_value l c.args.place c.args.value) c.self.view_is
