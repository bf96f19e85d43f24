-- Texts that are cut at a byte, or after a text.
use Rattle.rbg_base.proofs.Common.{◌≡◌, ◌≢◌, ℕ, true, false, List, [], ◌∷◌, ◌++◌, length, take, drop, ap, sym, ◌∙◌, refl, bytes_eq, All-head, All-tail, bytes_eq-Decides, take-append_seam}
use Rattle.std.proofs.lemmas.List.{take-append-drop}
use Rattle.rbg_wire.specs.Bytes.{LacksByte}

-- a text without the byte is no text with it
pub no_cut : (byte : ℕ) (a b : List ℕ) → LacksByte byte (a ++ byte ∷ b) → ⊥
no_cut byte [] b lacks = All-head (λ other. other ≢ byte) byte b lacks refl
no_cut byte (c ∷ a) b lacks = no_cut byte a b (All-tail (λ other. other ≢ byte) c (a ++ byte ∷ b) lacks)

-- the text before the first such byte, and the text after it
pub same_cut : (byte : ℕ) (a b x y : List ℕ) → LacksByte byte a → LacksByte byte b → a ++ byte ∷ x ≡ b ++ byte ∷ y → (a ≡ b) × (x ≡ y)
same_cut byte [] [] x y h k same = let parts : byte ∷ x ≡ byte ∷ y = same in (refl, cc)
same_cut byte [] (c ∷ b) x y h k same = let parts : byte ∷ x ≡ c ∷ (b ++ byte ∷ y) = same in absurd (All-head (λ other. other ≢ byte) c b k (cc))
same_cut byte (c ∷ a) [] x y h k same = let parts : c ∷ (a ++ byte ∷ x) ≡ byte ∷ y = same in absurd (All-head (λ other. other ≢ byte) c a h (cc))
same_cut byte (c ∷ a) (d ∷ b) x y h k same =
    let parts : c ∷ (a ++ byte ∷ x) ≡ d ∷ (b ++ byte ∷ y) = same in
    let others = same_cut byte a b x y (All-tail (λ other. other ≢ byte) c a h) (All-tail (λ other. other ≢ byte) d b k) cc in
    let first : c ≡ d = cc in
    (λ i. first i ∷ others.0 i, others.1)

-- what follows the same text
pub same_end : (a x y : List ℕ) → a ++ x ≡ a ++ y → x ≡ y
same_end [] x y same = same
same_end (byte ∷ a) x y same = let parts : byte ∷ (a ++ x) ≡ byte ∷ (a ++ y) = same in same_end a x y cc

-- texts that begin with different bytes
pub different : (a b : ℕ) → a ≢ b → (x y : List ℕ) → a ∷ x ≡ b ∷ y → ⊥
different a b apart x y same = apart (cc)

-- bytes after a text
pub prefix_found : (text bytes rest : List ℕ) → bytes_eq (take (length text) bytes) text ≡ true → rest ≡ drop (length text) bytes → bytes ≡ text ++ rest
prefix_found text bytes rest test is =
    let front : take (length text) bytes ≡ text = (bytes_eq-Decides (take (length text) bytes) text).0 test in
    sym (take-append-drop (length text) bytes) ∙ (ap (λ f. f ++ drop (length text) bytes) front ∙ ap (λ r. text ++ r) (sym is))

pub prefix_none : (text bytes : List ℕ) → bytes_eq (take (length text) bytes) text ≡ false → (rest : List ℕ) → bytes ≡ text ++ rest → ⊥
prefix_none text bytes test rest is =
    let front : take (length text) bytes ≡ text = ap (take (length text)) is ∙ take-append_seam text rest in
    let apart : false ≡ true = sym test ∙ (bytes_eq-Decides (take (length text) bytes) text).1 front in
    cc

-- texts that were compared
pub same_bytes : (text other : List ℕ) → true ≡ bytes_eq text other → text ≡ other
same_bytes text other test = (bytes_eq-Decides text other).0 (sym test)

pub other_bytes : (text other : List ℕ) → false ≡ bytes_eq text other → text ≡ other → ⊥
other_bytes text other test same = let apart : false ≡ true = test ∙ (bytes_eq-Decides text other).1 same in cc

-- the part before the first such byte begins with no other byte that it lacks
pub other_first : (byte first : ℕ) (a x rest : List ℕ) → LacksByte first a → byte ≢ first → a ++ byte ∷ x ≡ first ∷ rest → ⊥
other_first byte first [] x rest lacks other same = let parts : byte ∷ x ≡ first ∷ rest = same in other (cc)
other_first byte first (c ∷ a) x rest lacks other same =
    let parts : c ∷ (a ++ byte ∷ x) ≡ first ∷ rest = same in
    All-head (λ b. b ≢ first) c a lacks (cc)
