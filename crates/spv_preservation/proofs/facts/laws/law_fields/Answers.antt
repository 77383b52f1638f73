use Rattle.std.specs.Prelude.{pos}
use Rattle.spv_logic.specs.Values.{Number, row_at, rows_in}
use Rattle.spv_preservation.proofs.facts.Values.{set_same, set_other, field_there, keys_differ}
use Rattle.spv_preservation.proofs.facts.laws.law_fields.Goals as goal

pub returns-clause-same : goal.returns-clause-same
returns-clause-same c shapes t s f told r w fit symbols v =
    set_same (rows_in r) (pos f.0) w (Number (pos 0)) (row_at (rows_in r) (pos f.0) (Number (pos 0))) (field_there shapes r t s f told fit)

pub returns-clause-others : goal.returns-clause-others
returns-clause-others c f g differ r w symbols v = set_other (rows_in r) (pos f.0) (pos g.0) w (Number (pos 0)) (keys_differ f.0 g.0 differ)
