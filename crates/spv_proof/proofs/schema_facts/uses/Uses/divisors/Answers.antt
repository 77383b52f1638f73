use Rattle.std.proofs.Common.{sym, subst}
use Rattle.spv_proof.specs.declared.schema_facts.uses.Subject.TheVariants.{Division}
use Rattle.spv_proof.specs.declared.schema_facts.relations.Relation.TheVariants.{Divisors, Quotients, Remainders}
use Rattle.spv_proof.specs.schema_facts.Uses.{ArePartners}
use Rattle.spv_proof.proofs.schema_facts.Partnering.{divisor_partners, quotient_partners, remainder_partners}
use Rattle.spv_proof.proofs.schema_facts.uses.Uses.divisors.Goals as goal

pub returns-in-Divisors : goal.returns-in-Divisors
returns-in-Divisors c a ok uses h =
    subst (λ r. ArePartners a c.args.self.now.ids.items (Division r) c.args.dividend c.get.result.now) (sym c.in-Divisors.is)
    (subst (ArePartners a c.args.self.now.ids.items (Division Divisors) c.args.dividend) (sym c.get.ensures) (divisor_partners a ok c.args.self.now.ids.items uses.ids c.args.dividend h c.args.self.now.divisors uses.divisors))

pub returns-in-Quotients : goal.returns-in-Quotients
returns-in-Quotients c a ok uses h =
    subst (λ r. ArePartners a c.args.self.now.ids.items (Division r) c.args.dividend c.get-in-Quotients.result.now) (sym c.in-Quotients.is)
    (subst (ArePartners a c.args.self.now.ids.items (Division Quotients) c.args.dividend) (sym c.get-in-Quotients.ensures) (quotient_partners a ok c.args.self.now.ids.items uses.ids c.args.dividend h c.args.self.now.quotients uses.quotients))

pub returns-in-Remainders : goal.returns-in-Remainders
returns-in-Remainders c a ok uses h =
    subst (λ r. ArePartners a c.args.self.now.ids.items (Division r) c.args.dividend c.get-in-Remainders.result.now) (sym c.in-Remainders.is)
    (subst (ArePartners a c.args.self.now.ids.items (Division Remainders) c.args.dividend) (sym c.get-in-Remainders.ensures) (remainder_partners a ok c.args.self.now.ids.items uses.ids c.args.dividend h c.args.self.now.remainders uses.remainders))
