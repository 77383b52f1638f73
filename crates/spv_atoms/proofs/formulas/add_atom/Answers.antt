use Rattle.std.proofs.Common.{◌∙◌, sym}
use Rattle.spv_atoms.proofs.Adding.{known_added, new_added}
use Rattle.spv_atoms.proofs.formulas.add_atom.Goals as goal

pub returns-then-has : goal.returns-then-has
returns-then-has c =
    known_added c.args.terms.now c.law_arena.ensures c.args.t c.args.known.now c.args.out.now.items c.requires.t (sym c.is_atom.ensures ∙ c.if-not-is_atom.false) (sym c.has.ensures ∙ c.if-has.true) c.requires.known c.requires.out

pub returns : goal.returns
returns c =
    new_added c.args.terms.now c.law_arena.ensures c.args.t c.args.known.now c.args.out.now.items c.add.new.self c.push.new.self.items c.requires.t (sym c.is_atom.ensures ∙ c.if-not-is_atom.false)
    (sym c.has.ensures ∙ c.if-has.false) c.requires.known c.requires.out c.in_ok-add.ensures c.in_ok-push.ensures.items
