use Rattle.std.proofs.Common.{get_or}
use Rattle.spv_term.specs.Arena.{tree}
use Rattle.spv_assign.proofs.structures.elements.write_path.Given as goal

abbrev pub ghost-put_back : goal.ghost-put_back
ghost-put_back a = tree a.terms.now (get_or a.structures.now 0 a.v)
