use Rattle.std.proofs.Common.{sym, ◌∙◌}
use Rattle.spv_declaration_typing.proofs.type_typing.NewNames.{name_added}
use Rattle.spv_declaration_typing.proofs.type_typing.names.new_name.Goals as goal

pub returns-clause-ok : goal.returns-clause-ok
returns-clause-ok g c =
    name_added (g.F.Free.free c.args.free.now) c.args.names.now c.insert.new.self c.args.x (sym c.if-not-is_free.ensures) (sym c.has.ensures ∙ c.if-has.false)
    c.in_ok-insert.ensures.ok
