use Rattle.spv_tableau_rules.proofs.constraints.Literals.{literal_read, below_read, above_read}
use Rattle.spv_tableau_rules.proofs.constraints.laws.law_literals.Goals as goal

pub returns-clause-literal : goal.returns-clause-literal
returns-clause-literal c = λ is_number h s t b x e hs ht. literal_read is_number s t hs ht h b x e

pub returns-clause-below : goal.returns-clause-below
returns-clause-below c = below_read

pub returns-clause-above : goal.returns-clause-above
returns-clause-above c = above_read
