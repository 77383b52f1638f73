-- What a fault is told as. Want of memory is no refusal.
use Rattle.std.specs.Prelude.{◌≡◌, ⊤, ℕ, List, [], Option, Some, None, Result, Ok, Err}
use Rattle.std.specs.Fmt.{signed_decimal}
use Rattle.std.specs.declared.alloc.AllocError.{AllocError}
use Rattle.spv_logic.specs.declared.names.names.Symbol.{Symbol}
use Rattle.spv_lexer.specs.declared.LexFault.{LexFault}
use Rattle.spv_lexer.specs.declared.LexFault.TheVariants as lex
use Rattle.spv_parser.specs.declared.refused.SyntaxFault.{SyntaxFault}
use Rattle.spv_parser.specs.declared.refused.SyntaxFault.TheVariants as syntax
use Rattle.spv_parser.specs.declared.language.fault.LanguageFault.{LanguageFault}
use Rattle.spv_parser.specs.declared.language.fault.LanguageFault.TheVariants.{Tokens, Tree}
use Rattle.spv_typing.specs.declared.faults.TypeFault.{TypeFault}
use Rattle.spv_typing.specs.declared.faults.TypeFault.TheVariants as types
use Rattle.spv_effects.specs.declared.frame_walk.faults.FrameFault.{FrameFault}
use Rattle.spv_effects.specs.declared.frame_walk.faults.FrameFault.TheVariants as frames
use Rattle.spv_assign.specs.declared.creation_trace.faults.GenFault.{GenFault}
use Rattle.spv_assign.specs.declared.creation_trace.faults.GenFault.TheVariants as limits
use Rattle.spv_verify.specs.declared.refused.refusal.Refusal.{Refusal}
use Rattle.spv_verify.specs.declared.refused.refusal.Refusal.TheVariants.{Byte, Comment, Numeral, Length, Syntax, Depth, Profile, Undeclared, Twice, Typing, Count, Alias, Nested, Parameter, Control, Global, Function, Size, Unbound, Listing}
use Rattle.spv_rule_files.specs.declared.faults.RuleFault.{RuleFault}
use Rattle.spv_rule_files.specs.declared.faults.RuleFault.TheVariants as rules
use Rattle.spv_listing_values.specs.declared.fault.ListFault.{ListFault}
use Rattle.spv_listing_values.specs.declared.fault.ListFault.TheVariants as no_listing
use Rattle.spv_verify.specs.declared.refused.fault.Which.{Which}
use Rattle.spv_verify.specs.declared.refused.fault.TextFault.{TextFault}
use Rattle.spv_verify.specs.declared.refused.fault.TextFault.TheVariants.{Refused, Memory}
use Rattle.spv_verify.specs.declared.refused.fault.VerifyFault.{VerifyFault}
use Rattle.spv_verify.specs.declared.refused.fault.VerifyFault.TheVariants as verify
use Rattle.spv_verify.specs.refused.Details.{left_out_text, name_text, item_text, items_text, conditions_text, terms_text}

abbrev pub token_refusal : LexFault → Option Refusal
token_refusal (lex.BadByte line) = Some (Byte line [])
token_refusal (lex.OpenComment line) = Some (Comment line [])
token_refusal (lex.NumeralTooLarge line) = Some (Numeral line [])
token_refusal lex.TextTooLong = Some (Length 1 [])
token_refusal lex.Memory = None

abbrev pub tree_refusal : SyntaxFault → Option Refusal
tree_refusal (syntax.Profile line word) = Some (Profile line (left_out_text word))
tree_refusal (syntax.TooDeep line) = Some (Depth line [])
tree_refusal (syntax.Syntax line) = Some (Syntax line [])
tree_refusal syntax.Memory = None

-- of a text without a tree
abbrev pub text_refusal : LanguageFault → Option Refusal
text_refusal (Tokens fault) = token_refusal fault
text_refusal (Tree fault) = tree_refusal fault

-- of a tree with a fault of names and types
abbrev pub type_refusal : List (List ℕ) → TypeFault → Option Refusal
type_refusal names (types.Undeclared line x) = Some (Undeclared line (name_text names x))
type_refusal names (types.DeclaredTwice line x) = Some (Twice line (name_text names x))
type_refusal names (types.LabelTwice line number) = Some (Twice line (signed_decimal number))
type_refusal names (types.WrongType line) = Some (Typing line [])
type_refusal names (types.Count line) = Some (Count line [])
type_refusal names (types.Nested line x) = Some (Nested line (name_text names x))
type_refusal names (types.ProcParameter line x) = Some (Parameter line (name_text names x))
type_refusal names (types.ControlChanged line x) = Some (Control line (name_text names x))
type_refusal names types.Memory = None

-- of a program with a fault of frames
abbrev pub frame_refusal : List (List ℕ) → List (Option Symbol) → FrameFault → Option Refusal
frame_refusal names titles (frames.Alias line a b) = Some (Alias line (items_text names titles a b))
frame_refusal names titles (frames.GlobalMissing line item) = Some (Global line (item_text names titles item))
frame_refusal names titles (frames.FunctionWrites line x) = Some (Function line (name_text names x))
frame_refusal names titles frames.Memory = None

-- of a rule file with a fault of names, types and variables
abbrev pub rule_refusal : List (List ℕ) → RuleFault → Option Refusal
rule_refusal names (rules.Typing fault) = type_refusal names fault
rule_refusal names (rules.Unbound line x) = Some (Unbound line (name_text names x))
rule_refusal names rules.Memory = None

-- of bytes that are no listing
abbrev pub listing_refusal : ListFault → Option Refusal
listing_refusal no_listing.TooLong = Some (Length 1 [])
listing_refusal (no_listing.Form line) = Some (Listing line [])
listing_refusal no_listing.Memory = None

-- of a program whose conditions meet a limit
abbrev pub limit_refusal : GenFault → Option Refusal
limit_refusal (limits.Conditions most) = Some (Size 1 (conditions_text most))
limit_refusal (limits.Terms most) = Some (Size 1 (terms_text most))
limit_refusal limits.Memory = None

abbrev pub told : Result Refusal AllocError → TextFault
told (Ok r) = Refused r
told (Err e) = Memory

-- the refusal that is told is this one; want of memory says nothing
abbrev pub Tells : Option Refusal → TextFault → Type 0
Tells o (Refused r) = o ≡ Some r
Tells o Memory = ⊤

-- the fault of one of the texts as a reason why there is no report
abbrev pub fault_of : Which → TextFault → VerifyFault
fault_of which (Refused r) = verify.Refused which r
fault_of which Memory = verify.Memory
