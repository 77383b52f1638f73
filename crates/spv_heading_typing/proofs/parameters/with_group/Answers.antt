use Rattle.spv_heading_typing.proofs.Params.{group_put, not_among_places}
use Rattle.spv_heading_typing.proofs.parameters.with_group.Goals as goal

pub more_places-requires : goal.more_places-requires
more_places-requires c = not_among_places c.args.parameters c.args.names.now c.requires.places c.requires.new

pub returns-clause-ok : goal.returns-clause-ok
returns-clause-ok c =
    group_put c.args.parameters (record { formals = c.push_formals.new.formals; own = c.put_names.new.self; places = c.in_ok-places.places })
    c.args.names.now c.args.of c.args.by_place c.args.line c.in_ok-push_formals.ensures c.in_ok-put_names.ensures
