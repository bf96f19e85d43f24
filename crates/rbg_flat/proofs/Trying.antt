-- A word of vertices is taken from what is open, and led on from where the action holds.
use Rattle.rbg_base.proofs.Common.{◌≡◌, ℕ, ◌+◌, ◌*◌, ◌/◌, ◌%◌, ◌<◌, ◌⊎◌, inl, inr, List, Bool, true, get_or, refl, sym, ap, subst, ◌∙◌, arith, ◌↔◌, bit_at, bit_at-zero}
use Rattle.rbg_rules.specs.Meaning.{IsGame, AbstractGame, AbstractState, IsStateOf, Start}
use Rattle.rbg_flat.proofs.Common.{Way, IsLead, EndsLead, Holds, IsMet, then, EndsMet, IsBegun, LearnsEnd, LeadsFrom, EndsFrom, AreOn, IsOnBoard, IsToTry, SetsOfVertices, IsMarked, IsOpen, IsInWord, Meets, ClosesWord, HasBitAt}
use Rattle.rbg_flat.proofs.Meetings.{meets_none}
use Rattle.rbg_flat.proofs.Takings.{bit_decided}
use Rattle.rbg_flat.proofs.ToTry.{holds_to_try}

-- What is marked stays so where bits are closed.
pub marked_then : (old new : SetsOfVertices) (q c word v p : ℕ) → ClosesWord old new q c word → IsMarked old v p → IsMarked new v p
marked_then old new q c word v p closing has = subst (λ (marks : List ℕ). HasBitAt new.columns marks v p) (sym closing.marks) (subst (λ (k : ℕ). HasBitAt k old.marks v p) (sym closing.columns) has)

pub marked_before : (old new : SetsOfVertices) (q c word v p : ℕ) → ClosesWord old new q c word → IsMarked new v p → IsMarked old v p
marked_before old new q c word v p closing has = subst (λ (marks : List ℕ). HasBitAt old.columns marks v p) closing.marks (subst (λ (k : ℕ). HasBitAt k new.marks v p) closing.columns has)

-- A vertex of a word is the place of a bit.
pub by_bits : (q c word v p : ℕ) → IsInWord q c word v p → c * 64 + v % 64 ≡ v
by_bits q c word v p there = let column = there.column in omega (arith, column)

pub marked_bits : (sets : SetsOfVertices) (q c word : ℕ) → ((b : ℕ) → bit_at word b ≡ 1 → (b < 64) × IsMarked sets (c * 64 + b) q) → (v : ℕ) → IsInWord q c word v q → IsMarked sets v q
marked_bits sets q c word marked v there = subst (λ (u : ℕ). IsMarked sets u q) (by_bits q c word v q there) (marked (v % 64) there.set).1

pub board_bits : (game : AbstractGame) (sets : SetsOfVertices) (q c word : ℕ) → AreOn game sets → ((b : ℕ) → bit_at word b ≡ 1 → (b < 64) × IsMarked sets (c * 64 + b) q) → IsOnBoard game c word
board_bits game sets q c word on marked = λ b set. on.vertex (c * 64 + b) q (marked b set).1

-- A vertex that is open is in the word of all that is open there.
pub in_open : (sets : SetsOfVertices) (place q c word v : ℕ) → place ≡ q * sets.columns + c → v / 64 ≡ c → word ≡ get_or sets.pending place 0 → IsOpen sets v q → IsInWord q c word v q
in_open sets place q c word v at column is there = record {
  position = refl;
  column = column;
  set = ap (λ (k : ℕ). bit_at k (v % 64)) (is ∙ ap (λ (k : ℕ). get_or sets.pending k 0) (at ∙ ap (λ (k : ℕ). q * sets.columns + k) (sym column))) ∙ there.set;
}

-- An empty word has no vertices, and leads nowhere.
pub no_vertex : (held q c v p : ℕ) → held ≡ 0 → ¬ IsInWord q c held v p
no_vertex held q c v p none there =
    let clear : bit_at held (v % 64) ≡ 0 = ap (λ (k : ℕ). bit_at k (v % 64)) none ∙ bit_at-zero (v % 64) in
    let set = there.set in
    omega (arith, clear, set)

pub leads_nowhere : (way : Way) (game : AbstractGame) (sets : SetsOfVertices) (held q c : ℕ) (Opens : (v p : ℕ) → Type 0) → held ≡ 0 → Meets sets sets (LeadsFrom way game q c held) Opens
leads_nowhere way game sets held q c Opens none = meets_none sets (LeadsFrom way game q c held) Opens (λ u p leads. no_vertex held q c leads.vertex q none leads.there)

pub ends_nowhere : (way : Way) (game : AbstractGame) (ends : Bool) (held q c : ℕ) → held ≡ 0 → LearnsEnd ends ends (EndsFrom way game q c held)
ends_nowhere way game ends held q c none = record {
  kept = λ e. e;
  all = λ end. absurd (no_vertex held q c end.vertex q none end.there);
  only = λ e. inl e;
}

module _
    (way : Way) (game : AbstractGame) (lawful : IsGame game) (s : AbstractState) (fits : IsStateOf game s) (f : Start)
    (old middle new : SetsOfVertices) (ends more : Bool) (q c word held : ℕ)
    (closing : ClosesWord old middle q c word)
    (marked : (b : ℕ) → bit_at word b ≡ 1 → (b < 64) × IsMarked old (c * 64 + b) q)
    (meets : Meets middle new (LeadsFrom way game q c held) (IsToTry game s))
    (learns : LearnsEnd ends more (EndsFrom way game q c held))
    (within : (b : ℕ) → bit_at held b ≡ 1 → bit_at word b ≡ 1)
    (told : (b : ℕ) → b < 64 → bit_at word b ≡ 1 → (bit_at held b ≡ 1) ↔ Holds game s (c * 64 + b) q)
    (is : IsBegun way game s f (IsMarked old) (IsOpen old) ends)
  where
    in_word : (v : ℕ) → IsInWord q c held v q → IsInWord q c word v q
    in_word v there = record { position = there.position; column = there.column; set = within (v % 64) there.set }

    met_there : (v : ℕ) → IsInWord q c held v q → IsMet way game s f v q
    met_there v there = is.sound v q (marked_bits old q c word marked v (in_word v there))

    holds_there : (v : ℕ) → IsInWord q c held v q → Holds game s v q
    holds_there v there = subst (λ (u : ℕ). Holds game s u q) (by_bits q c held v q there) ((told (v % 64) (omega arith) (within (v % 64) there.set)).0 there.set)

    met_leap : (u p : ℕ) → LeadsFrom way game q c held u p → IsMet way game s f u p
    met_leap u p leads = then (met_there leads.vertex leads.there) (holds_there leads.vertex leads.there) leads.lead

    -- What holds in the word is led on from.
    held_there : (v r : ℕ) → IsInWord q c word v r → Holds game s v r → IsInWord q c held v q × (r ≡ q)
    held_there v r there holds =
        let same = there.position in
        let at = by_bits q c word v r there in
        let here : Holds game s (c * 64 + v % 64) q = subst (λ (u : ℕ). Holds game s u q) (sym at) (subst (λ (k : ℕ). Holds game s v k) same holds) in
        (record { position = refl; column = there.column; set = (told (v % 64) (omega arith) there.set).1 here }, same)

    by_old : (v r : ℕ) → ¬ IsOpen new v r → Holds game s v r → IsMarked middle v r → (IsMarked old v r × (¬ IsOpen old v r)) ⊎ (IsInWord q c held v q × (r ≡ q))
    by_old v r closed holds was = elim (bit_decided old.columns old.pending v r) [
      | inr not_open ↦ inl (marked_before old middle q c word v r closing was, not_open)
      | inl open_then ↦ inr (by_case (closing.still v r open_then))
    ]
      where
        by_case : IsOpen middle v r ⊎ IsInWord q c word v r → IsInWord q c held v q × (r ≡ q)
        by_case (inl still) = absurd (closed (meets.still v r still))
        by_case (inr there) = held_there v r there holds

    pub word_done : IsBegun way game s f (IsMarked new) (IsOpen new) more
    word_done = record {
      sound = λ v p has. sound v p (meets.only v p has);
      begun = λ v p leap. meets.kept v p (marked_then old middle q c word v p closing (is.begun v p leap));
      closed = λ v r u p has closed holds leap. leaps v r u p closed holds leap (meets.only v r has);
      to_try = λ v p has. to_try v p (meets.no_other v p has);
      sound_end = λ told_end. sound_end (learns.only told_end);
      begun_end = λ end. learns.kept (is.begun_end end);
      closed_end = λ v r has closed holds end. ends_there v r closed holds end (meets.only v r has);
    }
      where
        sound : (v p : ℕ) → IsMarked middle v p ⊎ (LeadsFrom way game q c held v p × (IsToTry game s v p → IsOpen new v p)) → IsMet way game s f v p
        sound v p (inl was) = is.sound v p (marked_before old middle q c word v p closing was)
        sound v p (inr (leads, _)) = met_leap v p leads

        wanted : (v r : ℕ) → LeadsFrom way game q c held v r → Holds game s v r → IsToTry game s v r
        wanted v r leads holds = holds_to_try way game lawful s fits f v r (met_leap v r leads) holds

        to_try : (v p : ℕ) → IsOpen middle v p ⊎ (LeadsFrom way game q c held v p × IsToTry game s v p × (¬ IsMarked middle v p)) → IsToTry game s v p
        to_try v p (inl was) = is.to_try v p (closing.only v p was)
        to_try v p (inr (_, opens, _)) = opens

        by_leaps : (v r u p : ℕ) → Holds game s v r → IsLead way game r v p u → (IsMarked old v r × (¬ IsOpen old v r)) ⊎ (IsInWord q c held v q × (r ≡ q)) → IsMarked new u p
        by_leaps v r u p holds leap (inl (was, not_open)) = meets.kept u p (marked_then old middle q c word u p closing (is.closed v r u p was not_open holds leap))
        by_leaps v r u p holds leap (inr (there, same)) = meets.met u p (record { vertex = v; there = there; lead = subst (λ (k : ℕ). IsLead way game k v p u) same leap })

        leaps : (v r u p : ℕ) → ¬ IsOpen new v r → Holds game s v r → IsLead way game r v p u → IsMarked middle v r ⊎ (LeadsFrom way game q c held v r × (IsToTry game s v r → IsOpen new v r)) → IsMarked new u p
        leaps v r u p closed holds leap (inl was) = by_leaps v r u p holds leap (by_old v r closed holds was)
        leaps v r u p closed holds leap (inr (leads, opens)) = absurd (closed (opens (wanted v r leads holds)))

        sound_end : (ends ≡ true) ⊎ EndsFrom way game q c held → EndsMet way game s f
        sound_end (inl was) = is.sound_end was
        sound_end (inr end) = inr (record { vertex = end.vertex; position = q; met = met_there end.vertex end.there; holds = holds_there end.vertex end.there; ends = end.ends })

        by_ends : (v r : ℕ) → Holds game s v r → EndsLead way game r v → (IsMarked old v r × (¬ IsOpen old v r)) ⊎ (IsInWord q c held v q × (r ≡ q)) → more ≡ true
        by_ends v r holds end (inl (was, not_open)) = learns.kept (is.closed_end v r was not_open holds end)
        by_ends v r holds end (inr (there, same)) = learns.all (record { vertex = v; there = there; ends = subst (λ (k : ℕ). EndsLead way game k v) same end })

        ends_there : (v r : ℕ) → ¬ IsOpen new v r → Holds game s v r → EndsLead way game r v → IsMarked middle v r ⊎ (LeadsFrom way game q c held v r × (IsToTry game s v r → IsOpen new v r)) → more ≡ true
        ends_there v r closed holds end (inl was) = by_ends v r holds end (by_old v r closed holds was)
        ends_there v r closed holds end (inr (leads, opens)) = absurd (closed (opens (wanted v r leads holds)))
