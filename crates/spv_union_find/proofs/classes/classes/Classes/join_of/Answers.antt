use Rattle.std.proofs.Common.{ℕ, ◌<◌, List, ◌≡◌, length, ap, sym, subst, ◌∙◌, arith}
use Rattle.spv_union_find.specs.declared.classes.joins.Join.{Join}
use Rattle.spv_union_find.specs.classes.Classes as spec
use Rattle.spv_union_find.proofs.classes.Steps.{labels_in, first_is_low, second_is_low}
use Rattle.spv_union_find.proofs.classes.classes.Classes.join_of.Goals as goal

left_in : (s : spec.Classes) (n : ℕ) (js : List Join) (x : ℕ) → s ≡ record { count = n; joins = js } → x < s.count → x < n
left_in s n js x e h = subst (λ (r : spec.Classes). x < r.count) e h

pub point-requires : goal.point-requires
point-requires c = labels_in _ _ _ c.self.invariant.points c.self.invariant.joins c.as_slice-points.ensures.value c.args.left (left_in _ _ _ _ (sym c.self.view_is) c.requires.left) c.point-first.result c.point-first.ensures

pub point-requires-2 : goal.point-requires-2
point-requires-2 c = labels_in _ _ _ c.self.invariant.points c.self.invariant.joins c.as_slice-points.ensures.value c.args.right (left_in _ _ _ _ (sym c.self.view_is) c.requires.right) c.point-second.result c.point-second.ensures

pub returns-then-point : goal.returns-then-point
returns-then-point c = first_is_low _ _ _ c.self.invariant.points c.self.invariant.joins c.as_slice-points.ensures.value c.args.left c.args.right (left_in _ _ _ _ (sym c.self.view_is) c.requires.left) (left_in _ _ _ _ (sym c.self.view_is) c.requires.right) c.args.cause c.point-first.result c.point-second.result c.point-2.result c.point.result c.point-first.ensures c.point-second.ensures c.point.ensures c.point-2.ensures c.if-point.true
    ∙ ap (λ (s : spec.Classes). spec.join_of s.joins c.args.left c.args.right c.args.cause) c.self.view_is

pub returns-else-point : goal.returns-else-point
returns-else-point c = second_is_low _ _ _ c.self.invariant.points c.self.invariant.joins c.as_slice-points.ensures.value c.args.left c.args.right (left_in _ _ _ _ (sym c.self.view_is) c.requires.left) (left_in _ _ _ _ (sym c.self.view_is) c.requires.right) c.args.cause c.point-first.result c.point-second.result c.point-2.result c.point.result c.point-first.ensures c.point-second.ensures c.point.ensures c.point-2.ensures c.if-point.false
    ∙ ap (λ (s : spec.Classes). spec.join_of s.joins c.args.left c.args.right c.args.cause) c.self.view_is
