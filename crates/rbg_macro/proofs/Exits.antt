-- Errors that are passed on to the caller.
use Rattle.rbg_macro.proofs.Common.{MacroError, BadDefinition, Twice, ArgumentCount, Depth, TooManyTokens, BadJoin, Memory, UnlessMemory}

pub unless_weaker : (P Q : MacroError → Type 0) → ((f : MacroError) → P f → Q f) → (e : MacroError) → UnlessMemory P e → UnlessMemory Q e
unless_weaker P Q weaker (BadDefinition at) h = weaker (BadDefinition at) h
unless_weaker P Q weaker (Twice at) h = weaker (Twice at) h
unless_weaker P Q weaker (ArgumentCount at) h = weaker (ArgumentCount at) h
unless_weaker P Q weaker (Depth at) h = weaker (Depth at) h
unless_weaker P Q weaker TooManyTokens h = weaker TooManyTokens h
unless_weaker P Q weaker (BadJoin at) h = weaker (BadJoin at) h
unless_weaker P Q weaker Memory h = h
