-- Texts within a page.
use Rattle.std.specs.Prelude.{ℕ, ◌==◌, if◌then◌else◌, List, [], ◌∷◌, ◌++◌, codes, decimal}
use Rattle.std.specs.List.{flat_map}

-- A byte of a text: an entity for the five bytes that a page's language reads, else the byte itself.
unfoldable pub entity : ℕ → List ℕ
entity byte =
    if byte == 38 then codes "&amp;"
    else (if byte == 60 then codes "&lt;"
    else (if byte == 62 then codes "&gt;"
    else (if byte == 34 then codes "&quot;"
    else (if byte == 39 then codes "&#39;" else byte ∷ []))))

-- a text as it stands in a page
abbrev pub escaped : List ℕ → List ℕ
escaped text = flat_map entity text

-- a name, and a number, as an item of a list
unfoldable pub name_item : List ℕ → List ℕ
name_item name = codes "<li>" ++ escaped name ++ codes "</li>"

unfoldable pub value_item : ℕ → List ℕ
value_item value = codes "<li>" ++ decimal value ++ codes "</li>"

-- the items of names, and those of numbers
abbrev pub names_text : List (List ℕ) → List ℕ
names_text names = flat_map name_item names

abbrev pub values_text : List ℕ → List ℕ
values_text values = flat_map value_item values

-- a number after a text
abbrev pub field_text : List ℕ → ℕ → List ℕ
field_text head number = head ++ decimal number
