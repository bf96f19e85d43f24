-- The bytes of texts.
use Rattle.std.specs.Prelude.{ℕ, List, map, String, string_bytes}
use Rattle.std.specs.Global.{Global}

-- the bytes of each text
abbrev pub texts : List (String Global) → List (List ℕ)
texts names = map (λ name. string_bytes name) names
