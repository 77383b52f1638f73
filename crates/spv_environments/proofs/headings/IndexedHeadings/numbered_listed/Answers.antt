use Rattle.std.proofs.Common.{ℕ, ◌≤◌, length, sym, ap, ◌∙◌, subst}
use Rattle.spv_environments.proofs.PlacesOfHeadings.{listed_past}
use Rattle.spv_environments.proofs.headings.IndexedHeadings.numbered_listed.Goals as goal

pub returns-then-place-len-clause-missing : goal.returns-then-place-len-clause-missing
returns-then-place-len-clause-missing c =
    listed_past c.args.number c.args.self.now c.args.places.now c.requires c.args.from c.in-Some.place (sym c.in-Some.ensures)
    (subst (λ (n : ℕ). n ≤ c.in-Some.place) (c.len.ensures ∙ ap length c.self.view_is) c.if-place-len.true)
