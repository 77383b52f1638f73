use Rattle.std.proofs.Common.{◌+◌, length, refl}
use Rattle.spv_environments.proofs.Noting.{one_indexed}
use Rattle.spv_environments.proofs.indexed.with_one.Goals as goal

pub returns : goal.returns
returns c =
    one_indexed c.args.forms.now c.args.pointers.items c.requires c.args.form.now c.push.new.self.items c.note.new.pointers.items (length c.args.forms.now + 1) c.in_ok-push.ensures.items refl
    (c.if-not-note.ensures.below refl) (c.if-not-note.ensures.alone refl) (c.if-not-note.ensures.noted refl)
