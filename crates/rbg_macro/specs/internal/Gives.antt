-- What a function returns, compared with what a definition gives.
use Rattle.std.specs.Prelude.{◌≡◌, Result, Ok, Err}
use Rattle.rbg_macro.specs.declared.error.MacroError.{MacroError}
use Rattle.rbg_macro.specs.Errors.{UnlessMemory}

-- what was returned, seen by `view`, is what the definition gives
abbrev pub Gives : {X Y : Type 0} → (X → Y) → Result X MacroError → Result Y MacroError → Type 0
Gives view (Ok x) given = given ≡ Ok (view x)
Gives view (Err e) given = UnlessMemory (λ f. given ≡ Err f) e
