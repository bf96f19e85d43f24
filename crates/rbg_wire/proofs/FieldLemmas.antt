-- The fields of a line: numbers with a space between them.
use Rattle.rbg_base.proofs.Common.{◌≡◌, ℕ, ◌<◌, ◌^◌, List, ◌∷◌, ◌++◌, decimal, ap, sym, ◌∙◌, subst, arith, decimal_injective}
use Rattle.rbg_wire.proofs.Common.{LacksByte, BeginsWithNumber}
use Rattle.rbg_wire.proofs.ByteLemmas.{no_cut, same_cut}
use Rattle.rbg_wire.proofs.NumberLemmas.{lacks_byte-decimal}

pub space_lacks : (n : ℕ) → n < 2 ^ 64 → LacksByte 32 (decimal n)
space_lacks n small = lacks_byte-decimal 32 n (omega arith) small

-- A text that is cut at its first space, if it is a number, a space and more.
pub cut_fields : (text word rest : List ℕ) → text ≡ word ++ 32 ∷ rest → LacksByte 32 word → (n : ℕ) (more : List ℕ) → n < 2 ^ 64 → text ≡ decimal n ++ 32 ∷ more → (word ≡ decimal n) × (rest ≡ more)
cut_fields text word rest cut lacks n more small is = same_cut 32 word (decimal n) rest more lacks (space_lacks n small) (sym cut ∙ is)

pub no_fields : (text more : List ℕ) (n : ℕ) → LacksByte 32 text → text ≡ decimal n ++ 32 ∷ more → ⊥
no_fields text more n lacks is = no_cut 32 (decimal n) more (subst (LacksByte 32) is lacks)

-- Two texts of a number, a space and more are the same in both parts.
pub same_fields : (text x y : List ℕ) (m n : ℕ) → m < 2 ^ 64 → n < 2 ^ 64 → text ≡ decimal m ++ 32 ∷ x → text ≡ decimal n ++ 32 ∷ y → (m ≡ n) × (x ≡ y)
same_fields text x y m n first second h k =
    let parts = same_cut 32 (decimal m) (decimal n) x y (space_lacks m first) (space_lacks n second) (sym h ∙ k) in
    (decimal_injective m n first second parts.0, parts.1)

-- a number, a space and more
pub with_rest : (text rest more : List ℕ) (n : ℕ) → BeginsWithNumber text n rest → rest ≡ more → text ≡ decimal n ++ 32 ∷ more
with_rest text rest more n begins is = begins.parts ∙ ap (λ r. decimal n ++ 32 ∷ r) is
