-- One step in the rules and on the board, and all steps in a row.
use Rattle.rbg_base.proofs.Common.{◌≡◌, ℕ, ◌<◌, List, [], ◌∷◌, ◌++◌, length, get_or, subst, arith, Contains, IsTrue, Bool, All-contains}
use Rattle.rbg_rules.specs.Meaning.{IsNumbered, AbstractGame, Start, after, Follows, Ends}
use Rattle.rbg_rules.proofs.LocalityLemmas.{locality_law}
use Rattle.rbg_shifts.proofs.Common.{Lists, Table, IsShiftAt, Leads, stay, go, entry_at, HasEndAt, RecordsStepAt, AreAllClosed, list_at, IsNodeOf, AreListsOf, Comes, by_shift, by_other, IsAnswerAt, IsLeapBy, EndsBy}
use Rattle.rbg_shifts.proofs.ShiftLemmas.{follower_within}

-- A position that isn't a shift is a leap to the vertex where it is asked for.
pub leap_here : (game : AbstractGame) (list : List ℕ) (may_end : Bool) (v p : ℕ) → Contains list p → ¬ IsShiftAt game.rules p → IsLeapBy game list may_end v p v
leap_here game list may_end v p there plain = record {
  leap = λ f answer. record { shifts = []; leads = stay; follows = (answer.follow.exact p).0 there; plain = plain };
}

first_go : (game : AbstractGame) (v p w : ℕ) {m : List ℕ} {u : ℕ} → IsShiftAt game.rules p → Comes game v p w → Leads game w m u → Leads game v (p ∷ m) u
first_go game v p w is (by_shift d stands step) leads = go d stands step leads
first_go game v p w is (by_other plain) leads = absurd (plain is)

-- A leap after a shift is a leap before it.
pub leap_on : (game : AbstractGame) → IsNumbered game.rules → (list : List ℕ) (may_end : Bool) (v p w j u : ℕ) → Contains list p → IsShiftAt game.rules p → Comes game v p w → (more : List ℕ) (more_end : Bool) → IsAnswerAt game.rules (after p) more more_end → IsLeapBy game more more_end w j u → IsLeapBy game list may_end v j u
leap_on game numbered list may_end v p w j u there is comes more more_end beyond by = record {
  leap = λ f answer.
      let leap = by.leap (after p) beyond in
      record {
        shifts = p ∷ leap.shifts;
        leads = first_go game v p w is comes leap.leads;
        follows = (locality_law game.rules numbered f [] p (leap.shifts ++ j ∷ [])).0.1 ((answer.follow.exact p).0 there, leap.follows);
        plain = leap.plain;
      };
}

pub ends_on : (game : AbstractGame) → IsNumbered game.rules → (list : List ℕ) (may_end : Bool) (v p w : ℕ) → Contains list p → IsShiftAt game.rules p → Comes game v p w → (more : List ℕ) (more_end : Bool) → IsAnswerAt game.rules (after p) more more_end → EndsBy game more more_end w → EndsBy game list may_end v
ends_on game numbered list may_end v p w there is comes more more_end beyond by = record {
  ends = λ f answer.
      let end = by.ends (after p) beyond in
      record {
        shifts = p ∷ end.shifts;
        to = end.to;
        leads = first_go game v p w is comes end.leads;
        ends = (locality_law game.rules numbered f [] p end.shifts).1.1 ((answer.follow.exact p).0 there, end.ends);
      };
}

pub ends_here : (game : AbstractGame) (list : List ℕ) (may_end : Bool) (v : ℕ) → IsTrue may_end → EndsBy game list may_end v
ends_here game list may_end v is = record {
  ends = λ f answer. record { shifts = []; to = v; leads = stay; ends = answer.ends.0 is };
}

-- If nothing is missing, all leaps are recorded.
module _ (game : AbstractGame) (numbered : IsNumbered game.rules) (lists : Lists) (are : AreListsOf game.rules lists) (table : Table) (same : table.vertices ≡ length game.board.first) (closed : AreAllClosed game lists table) where
  on_board : (w : ℕ) → w < table.vertices → w < length game.board.first
  on_board w below = subst (λ (n : ℕ). w < n) same below

  told : (f : Start) (n v : ℕ) → IsNodeOf game.rules lists.interner f n → v < length game.board.first → (p : ℕ) → Follows game.rules f (p ∷ []) → RecordsStepAt game lists table (entry_at table n v) v p
  told f n v node below p follows = All-contains (RecordsStepAt game lists table (entry_at table n v) v) (list_at lists.interner n) p (closed n v node.there below).told ((node.answer.follow.exact p).1 follows)

  next_node : (f : Start) (p : ℕ) → Follows game.rules f (p ∷ []) → IsNodeOf game.rules lists.interner (after p) (get_or lists.afters.items p 0)
  next_node f p follows = let small = follower_within game.rules numbered f p follows in are.nodes.after_each p (omega (arith, small))

  pub all_told : (f : Start) (n v : ℕ) → IsNodeOf game.rules lists.interner f n → v < length game.board.first → {u j : ℕ} (m : List ℕ) → Leads game v m u → Follows game.rules f (m ++ j ∷ []) → ¬ IsShiftAt game.rules j → HasEndAt table (entry_at table n v) j u
  all_told f n v node below {j = j} [] stay follows plain = (told f n v node below j follows).plain plain
  all_told f n v node below {j = j} (s ∷ m) (go {w = w} d here step rest) follows plain =
      let cut = (locality_law game.rules numbered f [] s (m ++ j ∷ [])).0.0 follows in
      let is : IsShiftAt game.rules s = record { direction = d; stands = here } in
      let at = told f n v node below s cut.0 in
      let comes : Comes game v s w = by_shift d here step in
      (at.shift w is comes).tells j _ (all_told (after s) (get_or lists.afters.items s 0) w (next_node f s cut.0) (on_board w (at.is_vertex w is comes)) m rest cut.1 plain)

  pub all_ends_told : (f : Start) (n v : ℕ) → IsNodeOf game.rules lists.interner f n → v < length game.board.first → {u : ℕ} (m : List ℕ) → Leads game v m u → Ends game.rules f m → IsTrue (entry_at table n v).ends
  all_ends_told f n v node below [] stay ends = (closed n v node.there below).ends (node.answer.ends.1 ends)
  all_ends_told f n v node below (s ∷ m) (go {w = w} d here step rest) ends =
      let cut = (locality_law game.rules numbered f [] s m).1.0 ends in
      let is : IsShiftAt game.rules s = record { direction = d; stands = here } in
      let at = told f n v node below s cut.0 in
      let comes : Comes game v s w = by_shift d here step in
      (at.shift w is comes).ends (all_ends_told (after s) (get_or lists.afters.items s 0) w (next_node f s cut.0) (on_board w (at.is_vertex w is comes)) m rest cut.1)
