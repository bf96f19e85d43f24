-- What each error of an expansion means, other than out of memory.
use Rattle.rbg_macro.specs.declared.error.MacroError.{MacroError}
use Rattle.rbg_macro.specs.declared.error.MacroError.TheVariants.{BadDefinition, Twice, ArgumentCount, Depth}
use Rattle.rbg_macro.specs.declared.error.MacroError.TheVariants.{TooManyTokens, BadJoin, Memory}

-- memory may run out anywhere; any other error meets this condition
abbrev pub UnlessMemory : (MacroError → Type 0) → MacroError → Type 0
UnlessMemory P (BadDefinition at) = P (BadDefinition at)
UnlessMemory P (Twice at) = P (Twice at)
UnlessMemory P (ArgumentCount at) = P (ArgumentCount at)
UnlessMemory P (Depth at) = P (Depth at)
UnlessMemory P TooManyTokens = P TooManyTokens
UnlessMemory P (BadJoin at) = P (BadJoin at)
UnlessMemory P Memory = Unit {0}
