-- What code answers on the way to a report: what was found, or the refusal, or want of memory, which has no cause.
use Rattle.std.specs.Prelude.{⊤, ℕ, List, Option}
use Rattle.spv_verify.specs.declared.texts.TextKind.{TextKind}
use Rattle.spv_verify.specs.declared.refused.fault.TextFault.{TextFault}
use Rattle.spv_verify.specs.declared.refused.fault.TextFault.TheVariants as text
use Rattle.spv_verify.specs.declared.refused.fault.VerifyFault.{VerifyFault}
use Rattle.spv_verify.specs.declared.refused.fault.VerifyFault.TheVariants.{Refused, Memory}
use Rattle.spv_verify.specs.Refusals.{IsReadingRefusal, IsRefused}

abbrev pub IsReadingCause : TextKind → List ℕ → TextFault → Type 0
IsReadingCause kind bytes (text.Refused r) = IsReadingRefusal kind bytes r
IsReadingCause kind bytes text.Memory = ⊤

-- a refusal is one of the texts
abbrev pub IsCause : TextKind → List ℕ → Option (List ℕ) → Option (List ℕ) → VerifyFault → Type 0
IsCause kind bytes rules listing (Refused w r) = IsRefused kind bytes rules listing w r
IsCause kind bytes rules listing Memory = ⊤
