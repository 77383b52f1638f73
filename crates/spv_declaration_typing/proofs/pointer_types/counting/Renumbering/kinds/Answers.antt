use Rattle.std.proofs.Common.{◌<◌, ◌≤◌, ◌-◌, ℕ, List, length, get_or, sym, ap, ◌∙◌, subst, arith}
use Rattle.spv_typing.specs.Merging.{kinds_before}
use Rattle.spv_declaration_typing.specs.pointer_types.Counting.{Numbering, all_firsts}
use Rattle.spv_declaration_typing.proofs.pointer_types.Counts.{kinds_kept, counted_there, counted_past}
use Rattle.spv_declaration_typing.proofs.pointer_types.counting.Renumbering.kinds.Goals as goal

pub returns-then-place-self : goal.returns-then-place-self
returns-then-place-self c =
    let few : c.args.place ≤ c.self.inside.base = omega (arith, c.if-place-self.true) in
    sym (kinds_kept c.args.place c.self.inside.base c.self.inside.firsts.items few) ∙ ap (λ (r : Numbering). kinds_before c.args.place 0 (all_firsts r)) c.self.view_is

pub returns-then-place-self-2 : goal.returns-then-place-self-2
returns-then-place-self-2 c =
    ap (λ (l : List ℕ). get_or l (c.args.place - c.self.inside.base) 0) c.as_slice-before.ensures.value
    ∙ (counted_there c.self.inside.base c.self.inside.firsts.items c.self.inside.before.items c.args.place c.self.invariant c.if-place-self.false
    (subst (λ (l : List ℕ). c.args.place - c.self.inside.base < length l) c.as_slice-firsts.ensures.value c.if-place-self-2.true)
    ∙ ap (λ (r : Numbering). kinds_before c.args.place 0 (all_firsts r)) c.self.view_is)

pub returns : goal.returns
returns c =
    ap (λ (l : List ℕ). get_or l (length c.as_slice-firsts.result.now) 0) c.as_slice-before.ensures.value
    ∙ (counted_past c.self.inside.base c.self.inside.firsts.items c.self.inside.before.items c.args.place (length c.as_slice-firsts.result.now) c.self.invariant
    (ap length c.as_slice-firsts.ensures.value) c.if-place-self.false c.if-place-self-2.false
    ∙ ap (λ (r : Numbering). kinds_before c.args.place 0 (all_firsts r)) c.self.view_is)
