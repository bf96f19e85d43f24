-- The bits of a word, as a list: it has as many as are set.
use Rattle.rbg_base.proofs.Common.{◌≡◌, ◌≢◌, ℕ, zero, suc, ◌+◌, ◌*◌, ◌/◌, ◌%◌, ◌^◌, ◌<◌, ◌≤◌, ◌⊎◌, inl, inr, List, [], ◌∷◌, ◌++◌, length, length-append, ℕ_discrete, map, refl, sym, ap, subst, ◌∙◌, arith, add-one, count_ones, bit_at, length-map, ones_le_self, bit_at_lowest, bit_at-suc}
use Rattle.std.specs.Int.Count.{ones_step}
use Rattle.std.proofs.Math.Nat.{pow-suc}
use Rattle.rbg_flat.proofs.Common.{with_first, next, bits, Lists, IsBitOf}
use Rattle.rbg_flat.proofs.Lists.{lists_none, lists_same, lists_push, lists_count, lists_join, lists_map}

abbrev pub IsBit : (k n b : ℕ) → Type 0
IsBit k n b = (b < k) × (bit_at n b ≡ 1)

-- a bit that isn't the first
abbrev IsLater : (k n b : ℕ) → Type 0
IsLater k n b = (0 < b) × (b < k) × (bit_at n b ≡ 1)

later : (k n : ℕ) (xs : List ℕ) → Lists (IsBit k (n / 2)) xs → Lists (IsLater (suc k) n) (map next xs)
later k n xs lists =
    lists_map next (λ a b same. omega (arith, same)) (IsBit k (n / 2)) (IsLater (suc k) n) xs lists of to
  where
    shifted : (b : ℕ) → bit_at n (b + 1) ≡ bit_at (n / 2) b
    shifted b = ap (λ (i : ℕ). bit_at n i) (add-one b) ∙ bit_at-suc n b

    to : (b : ℕ) → IsBit k (n / 2) b → IsLater (suc k) n (b + 1)
    to b (below, set) = (omega arith, omega (arith, below), shifted b ∙ set)

    of : (b : ℕ) → IsLater (suc k) n b → (x : ℕ) × IsBit k (n / 2) x × (next x ≡ b)
    of zero (some, below, set) = absurd (omega (arith, some))
    of (suc b) (some, below, set) = (b, (omega (arith, below), sym (bit_at-suc n b) ∙ set), add-one b)

first_case : (k n r : ℕ) → r ≡ n % 2 → (xs : List ℕ) → Lists (IsLater (suc k) n) xs → Lists (IsBit (suc k) n) (with_first r xs)
first_case k n zero even xs lists = lists_same (IsLater (suc k) n) (IsBit (suc k) n) xs lists (λ b is. (is.1, is.2)) of
  where
    of : (b : ℕ) → IsBit (suc k) n b → IsLater (suc k) n b
    of zero (below, set) = absurd (let low = bit_at_lowest n in omega (arith, low, set, even))
    of (suc b) (below, set) = (omega arith, below, set)
first_case k n (suc r) odd xs lists =
    lists_join (λ (b : ℕ). b ≡ 0) (IsLater (suc k) n) (IsBit (suc k) n) (0 ∷ []) xs alone lists (λ b none is. not_zero b none is.0) cases (λ b none. subst (λ (i : ℕ). IsBit (suc k) n i) (sym none) (omega arith, bit_at_lowest n ∙ one)) (λ b is. (is.1, is.2))
  where
    one : n % 2 ≡ 1
    one = omega (arith, odd)

    not_zero : (b : ℕ) → b ≡ 0 → 0 < b → ⊥
    not_zero b none some = omega (arith, none, some)

    alone : Lists (λ (b : ℕ). b ≡ 0) (0 ∷ [])
    alone = lists_push (λ (b : ℕ). ⊥) (λ (b : ℕ). b ≡ 0) [] 0 (lists_none (λ (b : ℕ). ⊥) (λ b is. is)) (λ is. is) (λ b is. inr is) (λ b is. absurd is) refl

    cases : (b : ℕ) → IsBit (suc k) n b → (b ≡ 0) ⊎ IsLater (suc k) n b
    cases zero is = inl refl
    cases (suc b) (below, set) = inr (omega arith, below, set)

pub bits_list : (k n : ℕ) → Lists (IsBit k n) (bits k n)
unfolding bits
bits_list zero n = lists_none (IsBit zero n) (λ b is. no_less b is.0)
  where
    no_less : (b : ℕ) → b < 0 → ⊥
    no_less b h = omega (arith, h)
bits_list (suc k) n = first_case k n (n % 2) refl (map next (bits k (n / 2))) (later k n (bits k (n / 2)) (bits_list k (n / 2)))

first_length : (r : ℕ) (xs : List ℕ) → r < 2 → length (with_first r xs) ≡ r + length xs
first_length zero xs small = omega arith
first_length (suc zero) xs small = omega arith
first_length (suc (suc r)) xs small = absurd (omega (arith, small))

bits_count : (k n : ℕ) → n < 2 ^ k → length (bits k n) ≡ count_ones n
unfolding bits
bits_count zero n small =
    let none : n ≡ 0 = omega (arith, small) in
    let few = ones_le_self n in
    omega (arith, none, few)
bits_count (suc k) n small =
    let power : 2 ^ suc k ≡ 2 ^ k * 2 = pow-suc 2 k in
    let half : n / 2 < 2 ^ k = omega (arith, small, power) in
    let rest = bits_count k (n / 2) half in
    let long = first_length (n % 2) (map next (bits k (n / 2))) (omega arith) in
    let same = length-map (bits k (n / 2)) next in
    let all = ones_step n in
    omega (arith, rest, long, same, all)

-- A word has as many vertices as bits, at most 64.
pub record Counted (c word many : ℕ) : Type 0 where
  pub vertices : List ℕ
  pub lists : Lists (IsBitOf c word) vertices
  pub count : many ≡ length vertices

abbrev pub place : (c b : ℕ) → ℕ
place c b = c * 64 + b

-- The vertices of a word.
pub word_lists : (c word : ℕ) → Lists (IsBitOf c word) (map (place c) (bits 64 word))
word_lists c word =
    lists_map (place c) (λ a b same. omega (arith, same)) (IsBit 64 word) (IsBitOf c word) (bits 64 word) (bits_list 64 word) of to
  where
    of : (v : ℕ) → IsBitOf c word v → (b : ℕ) × IsBit 64 word b × (place c b ≡ v)
    of v is = (v % 64, (omega arith, is.set), let column = is.column in omega (arith, column))

    to : (b : ℕ) → IsBit 64 word b → IsBitOf c word (place c b)
    to b (below, set) = record {
      column = omega (arith, below);
      set = subst (λ (i : ℕ). bit_at word i ≡ 1) (rest b below) set;
    }
      where
        rest : (i : ℕ) → i < 64 → i ≡ (c * 64 + i) % 64
        rest i small = omega (arith, small)

pub counted : (c word : ℕ) → word < 2 ^ 64 → Counted c word (count_ones word)
counted c word fits = record {
  vertices = map (place c) (bits 64 word);
  lists = word_lists c word;
  count = sym (length-map (bits 64 word) (place c) ∙ bits_count 64 word fits);
}

-- A word has one bit more than what is left of it without one of its bits.
pub one_less : (word rest bit : ℕ) → word < 2 ^ 64 → rest < 2 ^ 64 → bit < 64 → bit_at word bit ≡ 1 → bit_at rest bit ≡ 0 → ((b : ℕ) → b ≢ bit → bit_at rest b ≡ bit_at word b) → count_ones word ≡ count_ones rest + 1
one_less word rest bit fits fits_rest small set gone others =
    let all = bits_count 64 word fits in
    let left = bits_count 64 rest fits_rest in
    let joined = lists_count (IsBit 64 word) (bits 64 word) (bits 64 rest ++ bit ∷ []) (bits_list 64 word) pushed in
    let long = length-append (bits 64 rest) (bit ∷ []) in
    omega (arith, all, left, joined, long)
  where
    not_both : {n : ℕ} → n ≡ 0 → n ≡ 1 → ⊥
    not_both none one = omega (arith, none, one)

    case_of : (b : ℕ) → IsBit 64 word b → IsBit 64 rest b ⊎ (b ≡ bit)
    case_of b is = elim (ℕ_discrete b bit) [
      | yes same ↦ inr same
      | no other ↦ inl (is.0, others b other ∙ is.1)
    ]

    still : (b : ℕ) → IsBit 64 rest b → IsBit 64 word b
    still b is = elim (ℕ_discrete b bit) [
      | yes same ↦ absurd (not_both gone (subst (λ (k : ℕ). bit_at rest k ≡ 1) same is.1))
      | no other ↦ (is.0, sym (others b other) ∙ is.1)
    ]

    pushed : Lists (IsBit 64 word) (bits 64 rest ++ bit ∷ [])
    pushed = lists_push (IsBit 64 rest) (IsBit 64 word) (bits 64 rest) bit (bits_list 64 rest) (λ is. not_both gone is.1) case_of still (small, set)

bits_few : (k n : ℕ) → length (bits k n) ≤ k
unfolding bits
bits_few zero n = omega arith
bits_few (suc k) n =
    let long = first_length (n % 2) (map next (bits k (n / 2))) (omega arith) in
    let same = length-map (bits k (n / 2)) next in
    let rest = bits_few k (n / 2) in
    omega (arith, long, same, rest)

-- A word of 64 bits has no more.
pub few_ones : (word : ℕ) → word < 2 ^ 64 → count_ones word ≤ 64
few_ones word fits =
    let all = bits_count 64 word fits in
    let few = bits_few 64 word in
    omega (arith, all, few)
