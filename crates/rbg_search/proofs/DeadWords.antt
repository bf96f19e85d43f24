-- Patterns that are dead ends, asked at the vertices of a word one after another.
use Rattle.rbg_base.proofs.Common.{◌≡◌, ℕ, ◌+◌, ◌*◌, ◌/◌, ◌%◌, ◌<◌, ◌⊎◌, inl, inr, zero, suc, List, [], ◌∷◌, ◌++◌, Bool, map, refl, sym, ap, subst, ◌∙◌, arith, Contains, IsTrue, ◌↔◌, Ok, bit_at, bit_at-zero, append_assoc, append-nil, Contains-append_left, Contains-append_cases, Contains-push}
use Rattle.std.proofs.lemmas.List.{map-append}
use Rattle.rbg_rules.specs.Meaning.{IsPatternAt, inside, Start, beginning, Applies, pattern}
use Rattle.rbg_state.specs.History.{History}
use Rattle.rbg_flat.specs.internal.Gathering.{Lists, IsBitOf, at_position}
use Rattle.rbg_flat.proofs.Lists.{lists_none, lists_push}
use Rattle.rbg_search.proofs.Along.{at_vertex}
use Rattle.rbg_search.proofs.Common.{CountsForced, Searching, Finds, IsAsked}
use Rattle.rbg_search.proofs.Finding.{finds_more}
use Rattle.rbg_search.proofs.Kept.{rules_before}
use Rattle.rbg_search.specs.internal.DeadWords.{AreFresh, AsksDead, TellsValid}

pub no_bit : (b : ℕ) → bit_at 0 b ≡ 1 → ⊥
no_bit b set = let none = bit_at-zero b in omega (arith, set, none)

-- What a list has of which each item was mapped.
pub in_map : (f : ℕ → ℕ × ℕ) (xs : List ℕ) (q : ℕ × ℕ) → Contains (map f xs) q → (x : ℕ) × Contains xs x × (f x ≡ q)
in_map f [] q (k, under, is) = absurd (omega (arith, under))
in_map f (x ∷ xs) q (zero, under, is) = (x, (0, omega arith, refl), is)
in_map f (x ∷ xs) q (suc k, under, is) =
    let more = in_map f xs q (k, omega (arith, under), is) in
    let there = more.1 in
    (more.0, (suc there.0, omega (arith, there.1), there.2), more.2)

-- Nothing was asked.
pub asks_none : (h : Searching) (l : History) (p c : ℕ) → AsksDead h h l p c 0 0
asks_none h l p c = record {
  vertices = [];
  lists = lists_none (IsBitOf c 0) (λ v is. no_bit (v % 64) is.set);
  told = λ v is. absurd (no_bit (v % 64) is.set);
  finds = λ first s f done is pattern fresh. subst (λ (x : List (ℕ × ℕ)). Finds first h s l f x) (sym (append-nil done)) is;
}

-- The search is the same.
pub same_search : (h k : Searching) → k ≡ record h { opened = k.opened; taken = k.taken } → k.opened ≡ h.opened → k.taken ≡ h.taken → k ≡ h
same_search h k kept opened taken = kept ∙ ap (λ (n : ℕ). record h { opened = n; taken = k.taken }) opened ∙ ap (λ (n : ℕ). record h { opened = h.opened; taken = n }) taken

pub asks_same : (h k k' : Searching) (l : History) (p c asked held : ℕ) → k' ≡ k → AsksDead h k l p c asked held → AsksDead h k' l p c asked held
asks_same h k k' l p c asked held same asks = subst (λ (x : Searching). AsksDead h x l p c asked held) (sym same) asks

module _
    (h k k' : Searching) (l : History) (p c asked held bit asked' held' : ℕ) (valid : Bool)
    (asks : AsksDead h k l p c asked held)
    (kept : k ≡ record h { opened = k.opened; taken = k.taken })
    (small : bit < 64)
    (apart : ¬ (bit_at asked bit ≡ 1))
    (held_in : (b : ℕ) → bit_at held b ≡ 1 → bit_at asked b ≡ 1)
    (set : bit_at asked' bit ≡ 1)
    (still : (b : ℕ) → bit_at asked b ≡ 1 → bit_at asked' b ≡ 1)
    (only : (b : ℕ) → bit_at asked' b ≡ 1 → (bit_at asked b ≡ 1) ⊎ (b ≡ bit))
    (held_set : IsTrue valid → bit_at held' bit ≡ 1)
    (held_still : (b : ℕ) → bit_at held b ≡ 1 → bit_at held' b ≡ 1)
    (held_only : (b : ℕ) → bit_at held' b ≡ 1 → (bit_at held b ≡ 1) ⊎ ((b ≡ bit) × IsTrue valid))
  where
    abbrev pub v : ℕ
    v = c * 64 + bit

    column : v / 64 ≡ c
    column = omega (arith, small)

    rest : v % 64 ≡ bit
    rest = omega (arith, small)

    here : IsBitOf c asked' v
    here = record { column = column; set = subst (λ (b : ℕ). bit_at asked' b ≡ 1) (sym rest) set }

    not_yet : ¬ IsBitOf c asked v
    not_yet is = apart (subst (λ (b : ℕ). bit_at asked b ≡ 1) rest is.set)

    this_one : (x : ℕ) → x / 64 ≡ c → x % 64 ≡ bit → x ≡ v
    this_one x in_column at_bit = omega (arith, in_column, at_bit)

    case_of : (x : ℕ) → IsBitOf c asked' x → IsBitOf c asked x ⊎ (x ≡ v)
    case_of x is = elim (only (x % 64) is.set) [
      | inl was ↦ inl (record { column = is.column; set = was })
      | inr same ↦ inr (this_one x is.column same)
    ]

    listed : Lists (IsBitOf c asked') (asks.vertices ++ v ∷ [])
    listed = lists_push (IsBitOf c asked) (IsBitOf c asked') asks.vertices v asks.lists not_yet case_of (λ x is. record { column = is.column; set = still (x % 64) is.set }) here

    not_listed : ¬ Contains asks.vertices v
    not_listed there = not_yet ((asks.lists.all v).0 there)

    told_then : IsTrue valid ↔ Applies h.game p (at_vertex l.state v) (at_vertex l.state v) → TellsValid h.game l.state p c asked' held'
    told_then decides x is = elim (case_of x is) [
      | inl was ↦ (
        (λ now. elim (held_only (x % 64) now) [
          | inl before ↦ (asks.told x was).0 before
          | inr this ↦ absurd (apart (subst (λ (b : ℕ). bit_at asked b ≡ 1) this.0 was.set))
        ]),
        (λ applies. held_still (x % 64) ((asks.told x was).1 applies)),
      )
      | inr same ↦ (
        (λ now. subst (λ (y : ℕ). Applies h.game p (at_vertex l.state y) (at_vertex l.state y)) (sym same)
            (decides.0 (valid_by (subst (λ (b : ℕ). bit_at held' b ≡ 1) (ap (λ (y : ℕ). y % 64) same ∙ rest) now)))),
        (λ applies. subst (λ (b : ℕ). bit_at held' b ≡ 1) (sym (ap (λ (y : ℕ). y % 64) same ∙ rest))
            (held_set (decides.1 (subst (λ (y : ℕ). Applies h.game p (at_vertex l.state y) (at_vertex l.state y)) same applies)))),
      )
    ]
      where
        valid_by : bit_at held' bit ≡ 1 → IsTrue valid
        valid_by now = elim (held_only bit now) [
          | inl before ↦ absurd (apart (held_in bit before))
          | inr this ↦ this.1
        ]

    -- One vertex more is asked.
    pub asks_more : IsAsked k k' l l pattern (at_vertex l.state v) (beginning (inside p)) k.modifiers (Ok valid) → IsTrue valid ↔ Applies k.game p (at_vertex l.state v) (at_vertex l.state v) → ((cut : Bool) → CountsForced k.game cut pattern (at_vertex l.state v) (beginning (inside p)) k.opened k'.opened k.modifiers k.modifiers) → AsksDead h k' l p c asked' held'
    asks_more question decides forced = record {
      vertices = asks.vertices ++ v ∷ [];
      lists = listed;
      told = told_then (rules_before (λ x. IsTrue valid ↔ Applies x p (at_vertex l.state v) (at_vertex l.state v)) h k kept decides);
      finds = found;
    }
      where
        found :
            (first : Searching) (s : History) (f : Start) (done : List (ℕ × ℕ)) → Finds first h s l f done →
            IsPatternAt first.game.rules p →
            AreFresh first s f done p (asks.vertices ++ v ∷ []) →
            Finds first k' s l f (done ++ at_position p (asks.vertices ++ v ∷ []))
        found first s f done is there fresh =
            let so_far = asks.finds first s f done is there (record {
              reached = λ x in_list. fresh.reached x (Contains-append_left asks.vertices (v ∷ []) x in_list);
              fresh = λ x in_list. fresh.fresh x (Contains-append_left asks.vertices (v ∷ []) x in_list);
            }) in
            subst (λ (pairs : List (ℕ × ℕ)). Finds first k' s l f pairs) (sym joined)
            (finds_more so_far v p (fresh.reached v (Contains-push asks.vertices v)) there none_yet question valid refl forced)
          where
            joined : done ++ at_position p (asks.vertices ++ v ∷ []) ≡ (done ++ at_position p asks.vertices) ++ (v, p) ∷ []
            joined =
                ap (λ (xs : List (ℕ × ℕ)). done ++ xs) (map-append (λ (x : ℕ). (x, p)) asks.vertices (v ∷ []))
                ∙ sym (append_assoc done (at_position p asks.vertices) ((v, p) ∷ []))

            none_yet : ¬ Contains (done ++ at_position p asks.vertices) (v, p)
            none_yet in_list = elim (Contains-append_cases done (at_position p asks.vertices) (v, p) in_list) [
              | inl before ↦ fresh.fresh v (Contains-push asks.vertices v) before
              | inr now ↦
                  let back = in_map (λ (x : ℕ). (x, p)) asks.vertices (v, p) now in
                  not_listed (subst (λ (x : ℕ). Contains asks.vertices x) (ap (λ (q : ℕ × ℕ). q.0) back.2) back.1)
            ]
