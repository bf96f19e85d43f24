-- Where one is led on from the same vertex, and step by step.
use Rattle.rbg_base.proofs.Common.{◌≡◌, ℕ, ◌||◌, ◌+◌, ◌/◌, ◌%◌, ◌<◌, ◌⊎◌, inl, inr, List, [], ◌∷◌, ◌++◌, Bool, true, false, length, get_or, take, refl, sym, ap, subst, ◌∙◌, arith, Contains, All, IsTrue, ◌↔◌, slice_get, None, Some, bit_at, cases_lt, slice_get-get_or, slice_get_within, get_or_from_slice_get, take_more, length_push, get_or_push, Contains-push, Contains-push_cases, Contains-append_left, Contains-get_or, All-contains}
use Rattle.rbg_board.specs.Graph.{next}
use Rattle.rbg_rules.specs.Meaning.{shift, HasAction, IsGame, IsNumbered, AbstractGame, Start, after, Follows, Ends}
use Rattle.rbg_rules.proofs.LocalityLemmas.{locality_law}
use Rattle.rbg_rules.proofs.PositionLemmas.{one_action_at}
use Rattle.rbg_auto.specs.Steps.{AreAllThatFollow, AreNext}
use Rattle.rbg_shifts.proofs.Common.{IsShiftAt, Leads, stay, go}
use Rattle.rbg_base.proofs.CallerLemmas.{slice_get-append_left}
use Rattle.rbg_flat.proofs.Common.{Way, leaping, stepping, IsFirstLead, IsLead, EndsLead, Moves, stays, goes, Stays, IsStill, IsAmongBits, IsOnBoard, IsPositionIn, LeadsFrom, EndsFrom, LearnsEnd, AreOn, SetsOfVertices, IsInWord, Meets}
use Rattle.rbg_flat.proofs.Leaping.{within, lead_on_board, lead_within, met_on}
use Rattle.rbg_flat.proofs.Meetings.{meets_both, meets_none, meets_same}

true_not_false : true ≡ false → ⊥
true_not_false e = cc

-- What comes next are positions of the game.
pub next_within : (game : AbstractGame) → IsNumbered game.rules → (p : ℕ) (positions : List ℕ) → AreNext game.rules p positions → All (IsPositionIn game) positions
next_within game numbered p positions next i d below =
    let range = within game numbered (after p) [] (get_or positions i d) ((next.exact (get_or positions i d)).0 (Contains-get_or positions i d below)) in
    record { from_one = range.0; there = range.1 }

-- Where none of them is a shift, no shift comes next.
pub still_by : (game : AbstractGame) (p : ℕ) (positions : List ℕ) → AreNext game.rules p positions → All (λ q. ¬ IsShiftAt game.rules q) positions → IsStill game.rules p
still_by game p positions next none = record { no_shift = λ q follows. All-contains (λ (k : ℕ). ¬ IsShiftAt game.rules k) positions q none ((next.exact q).1 follows) }

module _ (game : AbstractGame) (numbered : IsNumbered game.rules) (q : ℕ) (still : IsStill game.rules q) where
  no_shifts : {v u : ℕ} → Leads game v [] u → u ≡ v
  no_shifts stay = refl

  by_shifts : (v j u : ℕ) (m : List ℕ) → Leads game v m u → Follows game.rules (after q) (m ++ j ∷ []) → (u ≡ v) × Follows game.rules (after q) (j ∷ [])
  by_shifts v j u [] leads follows = (no_shifts leads, follows)
  by_shifts v j u (x ∷ m) (go d stands edge more) follows =
      absurd (still.no_shift x ((locality_law game.rules numbered (after q) [] x (m ++ j ∷ [])).0.0 follows).0 (record { direction = d; stands = stands }))

  by_end : (v to : ℕ) (m : List ℕ) → Leads game v m to → Ends game.rules (after q) m → Ends game.rules (after q) []
  by_end v to [] leads ends = ends
  by_end v to (x ∷ m) (go d stands edge more) ends =
      absurd (still.no_shift x ((locality_law game.rules numbered (after q) [] x m).1.0 ends).0 (record { direction = d; stands = stands }))

-- Where one stays, one is led to what comes next, at the same vertex.
pub stays_lead : (way : Way) (game : AbstractGame) → IsNumbered game.rules → (q : ℕ) → Stays way game.rules q → (v p u : ℕ) → IsLead way game q v p u ↔ ((u ≡ v) × Follows game.rules (after q) (p ∷ []))
stays_lead leaping game numbered q still v p u = (
  (λ leap. by_shifts game numbered q still v p u leap.shifts leap.leads leap.follows),
  (λ is. record { shifts = []; leads = subst (λ (x : ℕ). Leads game v [] x) (sym is.0) stay; follows = is.1; plain = still.no_shift p is.1 }),
)
stays_lead stepping game numbered q plain v p u = (
  (λ step. (by_move v u step.moves, step.follows)),
  (λ is. record { moves = subst (λ (x : ℕ). Moves game q v x) (sym is.0) (stays plain); follows = is.1 }),
)
  where
    by_move : (v u : ℕ) → Moves game q v u → u ≡ v
    by_move v u (stays other) = refl
    by_move v u (goes d stands edge) = absurd (plain (record { direction = d; stands = stands }))

pub stays_end : (way : Way) (game : AbstractGame) → IsNumbered game.rules → (q : ℕ) → Stays way game.rules q → (v : ℕ) → EndsLead way game q v ↔ Ends game.rules (after q) []
stays_end leaping game numbered q still v = (
  (λ end. by_end game numbered q still v end.to end.shifts end.leads end.ends),
  (λ ends. record { shifts = []; to = v; leads = stay; ends = ends }),
)
stays_end stepping game numbered q plain v = ((λ end. end.ends), (λ ends. record { to = v; moves = stays plain; ends = ends }))

module _ (way : Way) (game : AbstractGame) (numbered : IsNumbered game.rules) (q : ℕ) (still : Stays way game.rules q) where
  -- What is met at once is what one is led to from each vertex of the word.
  pub meets_still : (c word : ℕ) (positions : List ℕ) → AreAllThatFollow game.rules (after q) positions → (Opens : (v p : ℕ) → Type 0) (old new : SetsOfVertices) → Meets old new (IsAmongBits positions c word) Opens → Meets old new (LeadsFrom way game q c word) Opens
  meets_still c word positions follow Opens old new meets = meets_same old new (IsAmongBits positions c word) (LeadsFrom way game q c word) Opens Opens meets to_leads of_leads (λ u p _ is. is) (λ u p _ is. is)
    where
      to_leads : (u p : ℕ) → IsAmongBits positions c word u p → LeadsFrom way game q c word u p
      to_leads u p among = record {
        vertex = u;
        there = record { position = refl; column = among.there.column; set = among.there.set };
        lead = (stays_lead way game numbered q still u p u).1 (refl, (follow.exact p).0 among.listed);
      }

      of_leads : (u p : ℕ) → LeadsFrom way game q c word u p → IsAmongBits positions c word u p
      of_leads u p leads =
          let is = (stays_lead way game numbered q still leads.vertex p u).0 leads.lead in
          record {
            listed = (follow.exact p).1 is.1;
            there = record {
              position = refl;
              column = ap (λ (k : ℕ). k / 64) is.0 ∙ leads.there.column;
              set = subst (λ (k : ℕ). bit_at word (k % 64) ≡ 1) (sym is.0) leads.there.set;
            };
          }

  -- What is learned of the rules is so at each vertex of the word.
  pub ends_still : (c word vertex : ℕ) → IsInWord q c word vertex q → (old new : Bool) → LearnsEnd old new (Ends game.rules (after q) []) → LearnsEnd old new (EndsFrom way game q c word)
  ends_still c word vertex there old new learns = record {
    kept = learns.kept;
    all = λ end. learns.all ((stays_end way game numbered q still end.vertex).0 end.ends);
    only = λ is. by_case (learns.only is);
  }
    where
      by_case : (old ≡ true) ⊎ Ends game.rules (after q) [] → (old ≡ true) ⊎ EndsFrom way game q c word
      by_case (inl was) = inl was
      by_case (inr end) = inr (record { vertex = vertex; there = there; ends = (stays_end way game numbered q still vertex).1 end })

-- What is met so is on the board.
pub still_on_board : (way : Way) (game : AbstractGame) → IsGame game → (q c word : ℕ) (Opens : (v p : ℕ) → Type 0) → IsOnBoard game c word → (old new : SetsOfVertices) → Meets old new (LeadsFrom way game q c word) Opens → AreOn game old → AreOn game new
still_on_board way game lawful q c word Opens board old new meets on_old =
    met_on game (LeadsFrom way game q c word) Opens old new
    (λ v p leads. lead_on_board way game lawful q leads.vertex p v (vertex_below leads.vertex leads.there) leads.lead)
    (λ v p leads. lead_within way game lawful q leads.vertex p v leads.lead) meets on_old
  where
    vertex_below : (v : ℕ) → IsInWord q c word v q → v < length game.board.first
    vertex_below v there =
        let below = board (v % 64) there.set in
        let column = there.column in
        omega (arith, below, column)

-- ---- step by step

module _ (game : AbstractGame) (f : Start) (positions : List ℕ) (follow : AreAllThatFollow game.rules f positions) where
  -- What comes next in the rules is met where one stands.
  pub meets_here : (vertex word : ℕ) → ((b : ℕ) → bit_at word b ≡ 1 → b ≡ vertex % 64) → bit_at word (vertex % 64) ≡ 1 → (Opens : (v p : ℕ) → Type 0) (old new : SetsOfVertices) → Meets old new (IsAmongBits positions (vertex / 64) word) Opens → Meets old new (λ v p. IsFirstLead stepping game f vertex p v) Opens
  meets_here vertex word only set Opens old new meets = meets_same old new (IsAmongBits positions (vertex / 64) word) (λ (v p : ℕ). IsFirstLead stepping game f vertex p v) Opens Opens meets to_step of_step (λ u p _ is. is) (λ u p _ is. is)
    where
      to_step : (u p : ℕ) → IsAmongBits positions (vertex / 64) word u p → IsFirstLead stepping game f vertex p u
      to_step u p among =
          let bits = only (u % 64) among.there.set in
          let columns = among.there.column in
          (omega (arith, bits, columns), (follow.exact p).0 among.listed)

      of_step : (u p : ℕ) → IsFirstLead stepping game f vertex p u → IsAmongBits positions (vertex / 64) word u p
      of_step u p step = record {
        listed = (follow.exact p).1 step.1;
        there = record {
          position = refl;
          column = ap (λ (k : ℕ). k / 64) step.0;
          set = subst (λ (k : ℕ). bit_at word (k % 64) ≡ 1) (sym step.0) set;
        };
      }

  pub follow_within : IsNumbered game.rules → All (IsPositionIn game) positions
  follow_within numbered i d below =
      let range = within game numbered f [] (get_or positions i d) ((follow.exact (get_or positions i d)).0 (Contains-get_or positions i d below)) in
      record { from_one = range.0; there = range.1 }

-- A shift leads along its edge, if there is one.
module _ (game : AbstractGame) (numbered : IsNumbered game.rules) (q d : ℕ) (stands : HasAction game.rules q (shift d)) (v : ℕ) where
  same_direction : (e : ℕ) → HasAction game.rules q (shift e) → d ≡ e
  same_direction e other = direction_same (one_action_at game.rules numbered q (shift d) (shift e) stands other)
    where
      direction_same : shift d ≡ shift e → d ≡ e
      direction_same same = cc

  module _ (to : ℕ) (edge : next game.board v d ≡ Some to) where
    moved_to : (v' u : ℕ) → v' ≡ v → Moves game q v' u → u ≡ to
    moved_to v' u same (stays plain) = absurd (plain (record { direction = d; stands = stands }))
    moved_to v' u same (goes e other edge') =
        let both : Some u ≡ Some to = sym edge' ∙ ap (λ (x : ℕ). next game.board x e) same ∙ ap (λ (x : ℕ). next game.board v x) (sym (same_direction e other)) ∙ edge in
        cc

    pub across_meets : (Opens : (v p : ℕ) → Type 0) (old new : SetsOfVertices) → Meets old new (λ w p. IsFirstLead stepping game (after q) to p w) Opens → Meets old new (λ w p. IsLead stepping game q v p w) Opens
    across_meets Opens old new meets =
        meets_same old new (λ (w p : ℕ). IsFirstLead stepping game (after q) to p w) (λ (w p : ℕ). IsLead stepping game q v p w) Opens Opens meets
        (λ w p is. record { moves = subst (λ (x : ℕ). Moves game q v x) (sym is.0) (goes d stands edge); follows = is.1 })
        (λ w p step. (moved_to v w refl step.moves, step.follows))
        (λ w p _ is. is) (λ w p _ is. is)

    pub across_ends : (old new : Bool) → LearnsEnd old new (Ends game.rules (after q) []) → LearnsEnd old new (EndsLead stepping game q v)
    across_ends old new learns = record {
      kept = learns.kept;
      all = λ end. learns.all end.ends;
      only = λ is. by_case (learns.only is);
    }
      where
        by_case : (old ≡ true) ⊎ Ends game.rules (after q) [] → (old ≡ true) ⊎ EndsLead stepping game q v
        by_case (inl was) = inl was
        by_case (inr ends) = inr (record { to = to; moves = goes d stands edge; ends = ends })

  module _ (edge : next game.board v d ≡ None) where
    no_move : (v' u : ℕ) → v' ≡ v → ¬ Moves game q v' u
    no_move v' u same (stays plain) = plain (record { direction = d; stands = stands })
    no_move v' u same (goes e other edge') =
        let both : Some u ≡ None = sym edge' ∙ ap (λ (x : ℕ). next game.board x e) same ∙ ap (λ (x : ℕ). next game.board v x) (sym (same_direction e other)) ∙ edge in
        some_not_none both
      where
        some_not_none : Some u ≡ None → ⊥
        some_not_none is = cc

    pub nowhere_meets : (Opens : (v p : ℕ) → Type 0) (sets : SetsOfVertices) → Meets sets sets (λ w p. IsLead stepping game q v p w) Opens
    nowhere_meets Opens sets = meets_none sets (λ (w p : ℕ). IsLead stepping game q v p w) Opens (λ w p step. no_move v w refl step.moves)

    pub nowhere_ends : (ends : Bool) → LearnsEnd ends ends (EndsLead stepping game q v)
    nowhere_ends ends = record { kept = λ e. e; all = λ end. absurd (no_move v end.to refl end.moves); only = λ e. inl e }

-- One position more.
module _ (positions : List ℕ) (i d : ℕ) (below : i < length positions) (c word : ℕ) where
  abbrev t : ℕ
  t = get_or positions i d

  one_more : take (i + 1) positions ≡ take i positions ++ t ∷ []
  one_more = take_more positions i d below

  bits_apart : (v p : ℕ) → IsAmongBits (take (i + 1) positions) c word v p → IsAmongBits (take i positions) c word v p ⊎ IsInWord t c word v p
  bits_apart v p among = by_case (Contains-push_cases (take i positions) t p (subst (λ (ts : List ℕ). Contains ts p) one_more among.listed))
    where
      by_case : Contains (take i positions) p ⊎ (t ≡ p) → IsAmongBits (take i positions) c word v p ⊎ IsInWord t c word v p
      by_case (inl before) = inl (record { listed = before; there = among.there })
      by_case (inr same) = inr (record { position = sym same; column = among.there.column; set = among.there.set })

  bits_first : (v p : ℕ) → IsAmongBits (take i positions) c word v p → IsAmongBits (take (i + 1) positions) c word v p
  bits_first v p among = record {
    listed = subst (λ (ts : List ℕ). Contains ts p) (sym one_more) (Contains-append_left (take i positions) (t ∷ []) p among.listed);
    there = among.there;
  }

  bits_second : (v p : ℕ) → IsInWord t c word v p → IsAmongBits (take (i + 1) positions) c word v p
  bits_second v p bits = record {
    listed = subst (λ (k : ℕ). Contains (take (i + 1) positions) k) (sym bits.position) (subst (λ (ts : List ℕ). Contains ts t) (sym one_more) (Contains-push (take i positions) t));
    there = record { position = refl; column = bits.column; set = bits.set };
  }

  pub meets_bits_more : (old middle new : SetsOfVertices) (Opens : (v p : ℕ) → Type 0) → Meets old middle (IsAmongBits (take i positions) c word) Opens → Meets middle new (IsInWord t c word) Opens → Meets old new (IsAmongBits (take (i + 1) positions) c word) Opens
  meets_bits_more old middle new Opens so_far bits =
      meets_both old middle new (IsAmongBits (take i positions) c word) (IsInWord t c word) (IsAmongBits (take (i + 1) positions) c word) Opens so_far bits bits_apart bits_first bits_second

pub none_among_bits : (c word v p : ℕ) → ¬ IsAmongBits [] c word v p
none_among_bits c word v p among = no_index among.listed.0 among.listed.1
  where
    no_index : (k : ℕ) → k < 0 → ⊥
    no_index k h = omega (arith, h)

-- It is told of one more item.
pub told_more : {X : Type 0} (P : ℕ → X → Type 0) (xs ys : List X) (told : X) (last : ℕ) → ys ≡ xs ++ told ∷ [] → length xs ≡ last → ((p : ℕ) (f : X) → slice_get xs p ≡ Some f → P p f) → P last told → (p : ℕ) (f : X) → slice_get ys p ≡ Some f → P p f
told_more {X = X} P xs ys told last grown size so_far here p f is = elim (cases_lt p (length xs)) [
  | inl below ↦
      let was : slice_get xs p ≡ Some (get_or xs p f) = slice_get-get_or xs p f below in
      so_far p f (was ∙ sym (slice_get-append_left xs (told ∷ []) p (get_or xs p f) was) ∙ read)
  | inr far ↦
      let within = slice_get_within (xs ++ told ∷ []) p f read in
      let long = length_push xs told in
      let at : length xs ≡ p = omega (arith, far, within, long) in
      let same : told ≡ f = sym (get_or_push xs told f p at) ∙ get_or_from_slice_get (xs ++ told ∷ []) p f f read in
      subst (λ (x : X). P p x) same (subst (λ (k : ℕ). P k told) (sym size ∙ at) here)
]
  where
    read : slice_get (xs ++ told ∷ []) p ≡ Some f
    read = subst (λ (zs : List X). slice_get zs p ≡ Some f) grown is

-- Whether a word may end was told of one thing more.
pub learns_or : (old told : Bool) (Ends : Type 0) → IsTrue told ↔ Ends → LearnsEnd old (old || told) Ends
learns_or true told Ends is = record { kept = λ _. refl; all = λ _. refl; only = λ _. inl refl }
learns_or false told Ends is = record { kept = λ e. absurd (true_not_false (sym e)); all = is.1; only = λ e. inr (is.0 e) }
