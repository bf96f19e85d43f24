-- The states to which a list of changes leads back, when one more change is added.
use Rattle.std.proofs.Common.{◌≡◌, ℕ, suc, ◌-◌, List, [], ◌∷◌, ◌++◌, length, get_or, refl, sym, ap, subst, ◌∙◌, arith, Vec, vec_len, vec_capacity, All, Global}
use Rattle.std.proofs.lemmas.List.{length-set, length_push, get_or_append_left}
use Rattle.rbg_rules.specs.Meaning.{AbstractState}
use Rattle.rbg_state.specs.declared.change.Change.{Change}
use Rattle.rbg_state.specs.declared.change.Change.TheVariants.{Player, Vertex, Piece, Value}
use Rattle.rbg_state.specs.Changes.{IsChangeWithin, set, set_back, past_of, history_of}
use Rattle.rbg_state.specs.History.{states_of, capacity_of, changed_to}

pub length-past_of : (cs : List Change) (s : AbstractState) → length (past_of cs s) ≡ length cs
unfolding past_of
length-past_of [] s = refl
length-past_of (c ∷ cs) s = ap suc (length-past_of cs s)

pub past_of_none : (cs : List Change) (s : AbstractState) → cs ≡ [] → past_of cs s ≡ []
unfolding past_of
past_of_none cs s is = ap (λ (ds : List Change). past_of ds s) is

set_back_push : (cs : List Change) (c : Change) (s : AbstractState) → set_back (cs ++ c ∷ []) s ≡ set_back cs (set c s)
set_back_push [] c s = refl
set_back_push (d ∷ cs) c s = ap (set d) (set_back_push cs c s)

past_of_push : (cs : List Change) (c : Change) (s : AbstractState) → past_of (cs ++ c ∷ []) s ≡ past_of cs (set c s) ++ set c s ∷ []
unfolding past_of
past_of_push [] c s = refl
past_of_push (d ∷ cs) c s = λ i. set d (set_back_push cs c s i) ∷ past_of_push cs c s i

-- no change adds a vertex or a variable
pub vertices_kept : (c : Change) (s : AbstractState) → length (set c s).pieces ≡ length s.pieces
vertices_kept (Player p) s = refl
vertices_kept (Vertex v) s = refl
vertices_kept (Piece v x) s = length-set s.pieces v x
vertices_kept (Value i n) s = refl

pub variables_kept : (c : Change) (s : AbstractState) → length (set c s).values ≡ length s.values
variables_kept (Player p) s = refl
variables_kept (Vertex v) s = refl
variables_kept (Piece v x) s = refl
variables_kept (Value i n) s = length-set s.values i n

-- All changes but the last are of vertices and variables that still exist when the last one is made.
pub rest_within : (s t : AbstractState) (cs ds : List Change) (c : Change) → cs ≡ ds ++ c ∷ [] → t ≡ set c s → All (IsChangeWithin (length s.pieces) (length s.values)) cs → All (IsChangeWithin (length t.pieces) (length t.values)) ds
rest_within s t cs ds c is made within = λ k d below.
    let rest : All (IsChangeWithin (length s.pieces) (length s.values)) (ds ++ c ∷ []) = subst (All (IsChangeWithin (length s.pieces) (length s.values))) is within in
    let one = rest k d (omega (arith, below, length_push ds c)) in
    let change : IsChangeWithin (length s.pieces) (length s.values) (get_or ds k d) = subst (IsChangeWithin (length s.pieces) (length s.values)) (get_or_append_left ds (c ∷ []) d k below) one in
    rw (made, vertices_kept c s, variables_kept c s) change

-- A change is written that leads back from t to s.
pub written : (s t : AbstractState) (cs ds : List Change) (c : Change) (room left : ℕ) → ds ≡ cs ++ c ∷ [] → set c t ≡ s → left ≡ room - 1 → history_of t ds left ≡ changed_to (history_of s cs room) t
written s t cs ds c room left is back one_less =
    let past = ap (λ (es : List Change). past_of es t) is ∙ past_of_push cs c t ∙ ap (λ (u : AbstractState). past_of cs u ++ u ∷ []) back in
    λ i. record { state = t; past = past i; room = one_less i }

-- The last change is taken, and leads back from s to t.
pub taken_back : (s t : AbstractState) (cs ds : List Change) (c : Change) (room left : ℕ) → cs ≡ ds ++ c ∷ [] → t ≡ set c s → states_of (history_of t ds left) ≡ (history_of s cs room).past
taken_back s t cs ds c room left is back =
    ap (λ (u : AbstractState). past_of ds u ++ u ∷ []) back ∙ sym (past_of_push ds c s) ∙ ap (λ (es : List Change). past_of es s) (sym is)

-- the capacity is that of the list of changes
pub capacity_is : (s : AbstractState) (changes : Vec Change Global) → capacity_of (history_of s changes.items (vec_capacity changes - vec_len changes)) ≡ vec_capacity changes
capacity_is s changes = omega (arith, length-past_of changes.items s, changes.ok.0, changes.ok.1)
