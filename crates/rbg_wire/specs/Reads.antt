-- Texts and what they spell.
use Rattle.std.specs.Prelude.{◌≡◌, ℕ, List, Option, Some, IfSome}

-- the text is the spelling of a thing that has one
pub record IsSpelling {T : Type 0} (Has : T → Type 0) (spelling : T → List ℕ) (text : List ℕ) (x : T) : Type 0 where
  pub has : Has x
  pub is : text ≡ spelling x

-- a text spells at most one thing
abbrev pub SpellsOne : {T : Type 0} → (List ℕ → T → Type 0) → Type 0
SpellsOne {T} Spells = (text : List ℕ) (a b : T) → Spells text a → Spells text b → a ≡ b

-- no text spells things of both kinds
abbrev pub AreApart : {S T : Type 0} → (List ℕ → S → Type 0) → (List ℕ → T → Type 0) → Type 0
AreApart {S} {T} One Other = (text : List ℕ) (a : S) (b : T) → One text a → Other text b → ⊥

-- what a call that reads a whole text returns: the thing that the text spells, and None only if there is none
pub record ReadsOnly {T : Type 0} (Spells : T → Type 0) (answer : Option T) : Type 0 where
  pub found : IfSome answer Spells
  pub only : (x : T) → Spells x → answer ≡ Some x
