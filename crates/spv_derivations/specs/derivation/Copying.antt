-- What the code has copied, as the definitions see it.
use Rattle.spv_derivations.specs.declared.derivation.copying.Copied.{Copied}
use Rattle.spv_derivations.specs.derivation.Steps as steps

abbrev pub copying : Copied → steps.Copied
copying c = record { next = c.next; numbers = c.numbers.items; steps = c.steps.items }
