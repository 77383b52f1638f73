use Rattle.std.proofs.Common.{List, map, ap, ◌∙◌}
use Rattle.spv_program.specs.declared.typed.programs.Formal.{Formal}
use Rattle.spv_program.specs.typed.ProgramViews.{formal_of}
use Rattle.spv_heading_typing.specs.Clauses.{clauses_of}
use Rattle.spv_heading_typing.specs.Headings.{headed_of, headed_with}
use Rattle.spv_heading_typing.proofs.Bridges.{if_stopped}
use Rattle.spv_heading_typing.proofs.Rests.{rest_stops, rest_done}
use Rattle.spv_heading_typing.proofs.headings.with_clauses.Goals as goal

pub returns-in_err-clauses-clause-err : goal.returns-in_err-clauses-clause-err
returns-in_err-clauses-clause-err c =
    if_stopped c.from_residual-in_err-clauses.result _ _ c.from_residual-in_err-clauses.ensures.1
    (λ e is. rw is
    (rest_stops c.args.known.now c.announce.new.known c.args.title c.args.parameters c.args.of c.args.tree.now c.in_ok-early.early c.in_ok-early.ensures
    c.in_ok-announce.ensures c.in_err-clauses.field-0.0 c.in_err-clauses.ensures.err))

pub returns-clause-ok : goal.returns-clause-ok
returns-clause-ok c =
    rest_done c.args.known.now c.announce.new.known c.args.title c.args.parameters c.args.of c.args.tree.now c.in_ok-early.early c.in_ok-early.ensures
    c.in_ok-announce.ensures (clauses_of c.in_ok-clauses.clauses) (headed_of c.args.title.name c.with_all.result) c.in_ok-clauses.ensures.ok
    (c.with_all.ensures.value ∙ ap (λ (l : List Formal). headed_with c.args.title (map formal_of l) c.args.of (clauses_of c.in_ok-clauses.clauses)) c.in_ok-formals.ensures)
