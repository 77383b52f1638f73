use Rattle.std.proofs.Common.{◌≡◌, ◌+◌, refl, arith}
use Rattle.spv_search.proofs.branches.Taking.{split-seen, takes-split-seen}
use Rattle.spv_search.proofs.branches.Within.{split-in-seen}
use Rattle.spv_search.proofs.branches.branches.Branches.split.Goals as goal

pub returns-clause-takes : goal.returns-clause-takes
returns-clause-takes c =
    let more : c.in-Some.splits ≡ c.self.inside.splits + 1 = omega (arith, c.in-Some.ensures) in
    takes-split-seen c.args.terms.now c.args.atom c.in_ok-count.count c.is_comparison-three.result _ c.args.self.now _ c.self.view_is c.requires.left refl c.in_ok-push-2.ensures.items c.in_ok-count.ensures.count
    c.is_comparison-three.ensures more refl
    (split-seen c.args.terms.now c.args.atom _ _ c.in_ok-own.own c.is_comparison-three.result c.as_slice.result.now c.in_ok-push.ensures.items c.in_ok-count.ensures.pending c.in_ok-own.ensures c.as_slice.ensures.value
    c.is_comparison-three.ensures)

pub returns-clause-within : goal.returns-clause-within
returns-clause-within c =
    λ h.
    split-in-seen c.args.terms.now c.args.atom c.in_ok-count.count _ c.args.self.now _ c.self.view_is c.in_ok-push-2.ensures.items
    (split-seen c.args.terms.now c.args.atom _ _ c.in_ok-own.own c.is_comparison-three.result c.as_slice.result.now c.in_ok-push.ensures.items c.in_ok-count.ensures.pending c.in_ok-own.ensures c.as_slice.ensures.value
    c.is_comparison-three.ensures) c.requires.atom h
