use Rattle.std.proofs.Common.{◌≡◌, ◌-◌, suc, length, arith}
use Rattle.spv_assign.proofs.structures.Paths.{steps_taken}
use Rattle.spv_assign.proofs.structures.Putting.{nothing_changed, way_sorts, way_stopped, found_there, found_steps, found_value, found_are, found_sorts, change_done}
use Rattle.spv_assign.proofs.structures.elements.write_path.Goals as goal

pub returns-then-path-eq0 : goal.returns-then-path-eq0
returns-then-path-eq0 c = nothing_changed c.args.terms.now c.law_arena.ensures c.args.root c.args.v c.args.path.now c.requires.v c.if-path-eq0.true

pub structures-requires-clause-path : goal.structures-requires-clause-path
structures-requires-clause-path c = steps_taken c.args.terms.now (length c.args.path.now - 1) c.args.path.now c.requires.path

pub structures-requires-clause-sorts : goal.structures-requires-clause-sorts
structures-requires-clause-sorts c =
    let len : length c.args.path.now ≡ suc (length c.args.path.now - 1) = omega (arith, c.if-path-eq0.false) in
    way_sorts c.args.terms.now c.args.root c.args.v c.args.path.now c.requires.path c.requires.v (length c.args.path.now - 1) len c.requires.sorts

pub returns-in_err-found : goal.returns-in_err-found
returns-in_err-found c =
    let len : length c.args.path.now ≡ suc (length c.args.path.now - 1) = omega (arith, c.if-path-eq0.false) in
    way_stopped c.args.terms.now c.args.root c.args.v c.args.path.now c.requires.path c.requires.v (length c.args.path.now - 1) len
    c.structures.new.terms _ _ c.from_residual.result c.in_err-found.field-0.0 c.from_residual.ensures.1 c.in_err-found.ensures

pub put_back-requires : goal.put_back-requires
put_back-requires c =
    let len : length c.args.path.now ≡ suc (length c.args.path.now - 1) = omega (arith, c.if-path-eq0.false) in (
      found_there c.args.terms.now c.args.root c.args.v c.args.path.now c.requires.path c.requires.v (length c.args.path.now - 1) len
          c.structures.new.terms _ _ c.as_slice.result.now c.as_slice.ensures.value c.in_ok-found.ensures,
      (
        found_steps c.args.terms.now c.args.root c.args.v c.args.path.now c.requires.path c.requires.v (length c.args.path.now - 1) len
            c.structures.new.terms _ _ c.as_slice.result.now c.as_slice.ensures.value c.in_ok-found.ensures,
        (
          found_value c.args.terms.now c.args.root c.args.v c.args.path.now c.requires.path c.requires.v (length c.args.path.now - 1) len
              c.structures.new.terms _ _ c.as_slice.result.now c.as_slice.ensures.value c.in_ok-found.ensures,
          (
            found_are c.args.terms.now c.args.root c.args.v c.args.path.now c.requires.path c.requires.v (length c.args.path.now - 1) len
                c.structures.new.terms _ _ c.as_slice.result.now c.as_slice.ensures.value c.in_ok-found.ensures,
            found_sorts c.args.terms.now c.args.root c.args.v c.args.path.now c.requires.path c.requires.v (length c.args.path.now - 1) len
                c.structures.new.terms _ _ c.as_slice.result.now c.as_slice.ensures.value c.in_ok-found.ensures c.requires.sorts,
          ),
        ),
      ),
    )

pub returns : goal.returns
returns c =
    let len : length c.args.path.now ≡ suc (length c.args.path.now - 1) = omega (arith, c.if-path-eq0.false) in
    change_done c.args.terms.now c.args.root c.args.v c.args.path.now c.requires.path c.requires.v (length c.args.path.now - 1) len
    c.structures.new.terms _ _ c.as_slice.result.now c.as_slice.ensures.value c.in_ok-found.ensures c.put_back.new.terms c.put_back.result c.put_back.ensures
