-- Nodes stay what they are when lists are kept.
use Rattle.std.proofs.Common.{◌≡◌, ℕ, ◌+◌, ◌<◌, ◌≤◌, List, [], ◌∷◌, ◌++◌, length, get_or, refl, sym, ap, ◌∙◌, subst, inl, inr, arith, Bool, slice_range, All}
use Rattle.std.proofs.lemmas.List.{length-append, get_or_append_left, get_or_push}
use Rattle.rbg_rules.specs.Meaning.{Expression, positive, negative, IsNumbered, IsLevel, outermost, inside, positions_of, IsStart, AbstractGame, Start, beginning, after}
use Rattle.rbg_auto.specs.declared.steps.Expr.TheVariants.{Rules, Inside}
use Rattle.rbg_shifts.proofs.Common.{Branch, Lists, Origin, Begin, After, Node, Interner, start_of, no_branch, IsBranch, AreBranches, IsNodeWithin, no_node, node_in, list_at, may_end_at, IsKept, ExtendsInterner, IsNodeOf, AreListsUpTo, origin_node, AreListsOf, branches_at, IsAnswerAt}
use Rattle.rbg_shifts.proofs.Places.{any_default, part_item, part_long, part_short, extends_none, extends_more, part_extended, item_extended, longer, LastPlace, before, last, last_place}
use Rattle.rbg_shifts.proofs.ShiftLemmas.{action_within}

pub interner_same : (s : Interner) → ExtendsInterner s s
interner_same s = record { positions = extends_none s.positions.items; nodes = extends_none s.nodes.items }

pub interner_more : (a b c : Interner) → ExtendsInterner a b → ExtendsInterner b c → ExtendsInterner a c
interner_more a b c first second = record {
  positions = extends_more a.positions.items b.positions.items c.positions.items first.positions second.positions;
  nodes = extends_more a.nodes.items b.nodes.items c.nodes.items first.nodes second.nodes;
}

-- The nodes of an interner are within its positions.
abbrev pub AreWithin : Interner → Type 0
AreWithin s = All (IsNodeWithin (length s.positions.items)) s.nodes.items

node_extended : (old new : Interner) → ExtendsInterner old new → (n : ℕ) → n < length old.nodes.items → node_in new n ≡ node_in old n
node_extended old new extends n there = item_extended old.nodes.items new.nodes.items extends.nodes n no_node there

list_extended : (old new : Interner) → AreWithin old → ExtendsInterner old new → (n : ℕ) → n < length old.nodes.items → list_at new n ≡ list_at old n
list_extended old new within extends n there =
    ap (λ (node : Node). slice_range new.positions.items node.start node.end) (node_extended old new extends n there)
    ∙ part_extended old.positions.items new.positions.items extends.positions (node_in old n).start (node_in old n).end (within n no_node there).ends

pub node_of_kept : (rules : Expression) (s : Interner) (f : Start) (list : List ℕ) (may_end : Bool) (n : ℕ) → IsKept s list may_end n → IsAnswerAt rules f list may_end → IsNodeOf rules s f n
node_of_kept rules s f list may_end n kept answer = record {
  there = kept.there;
  answer =
      subst (λ (b : Bool). IsAnswerAt rules f (list_at s n) b) (sym kept.may_end_is)
      (subst (λ (xs : List ℕ). IsAnswerAt rules f xs may_end) (sym kept.list_is) answer);
}

pub node_stays : (rules : Expression) (old new : Interner) → AreWithin old → ExtendsInterner old new → (f : Start) (n : ℕ) → IsNodeOf rules old f n → IsNodeOf rules new f n
node_stays rules old new within extends f n is = record {
  there = let long = longer old.nodes.items new.nodes.items extends.nodes in let there = is.there in omega (arith, long, there);
  answer =
      subst (λ (b : Bool). IsAnswerAt rules f (list_at new n) b) (ap (λ (node : Node). node.may_end) (sym (node_extended old new extends n is.there)))
      (subst (λ (xs : List ℕ). IsAnswerAt rules f xs (may_end_at old n)) (sym (list_extended old new within extends n is.there)) is.answer);
}

pub no_lists : (rules : Expression) (s : Interner) (first : ℕ) → IsNodeOf rules s (beginning outermost) first → AreListsUpTo rules 0 s first [] []
no_lists rules s first begins = record {
  begins = begins;
  afters_size = refl;
  insides_size = refl;
  after_each = λ p below. absurd (omega (arith, below));
  inside_each = λ p below. absurd (omega (arith, below));
}

-- One position more.
pub one_more_list : (rules : Expression) (many : ℕ) (old middle new : Interner) (first : ℕ) (afters insides : List ℕ) (a i : ℕ) → AreWithin old → AreWithin middle → AreListsUpTo rules many old first afters insides → ExtendsInterner old middle → IsNodeOf rules middle (after many) a → ExtendsInterner middle new → IsNodeOf rules new (beginning (inside many)) i → AreListsUpTo rules (many + 1) new first (afters ++ a ∷ []) (insides ++ i ∷ [])
one_more_list rules many old middle new first afters insides a i within_old within_middle are one one_after two one_inside = record {
  begins = stays (beginning outermost) first are.begins;
  afters_size = let long = length-append afters (a ∷ []) in let size = are.afters_size in omega (arith, long, size);
  insides_size = let long = length-append insides (i ∷ []) in let size = are.insides_size in omega (arith, long, size);
  after_each = λ p below. after_at p (last_place many p below);
  inside_each = λ p below. inside_at p (last_place many p below);
}
  where
    stays : (f : Start) (n : ℕ) → IsNodeOf rules old f n → IsNodeOf rules new f n
    stays f n is = node_stays rules old new within_old (interner_more old middle new one two) f n is

    after_at : (p : ℕ) → LastPlace many p → IsNodeOf rules new (after p) (get_or (afters ++ a ∷ []) p 0)
    after_at p (before e) =
        let size = are.afters_size in
        subst (IsNodeOf rules new (after p)) (sym (get_or_append_left afters (a ∷ []) 0 p (omega (arith, e, size)))) (stays (after p) (get_or afters p 0) (are.after_each p e))
    after_at p (last e) =
        subst (IsNodeOf rules new (after p)) (sym (get_or_push afters a 0 p (are.afters_size ∙ sym e)))
        (subst (λ (q : ℕ). IsNodeOf rules new (after q) a) (sym e) (node_stays rules middle new within_middle two (after many) a one_after))

    inside_at : (p : ℕ) → LastPlace many p → IsNodeOf rules new (beginning (inside p)) (get_or (insides ++ i ∷ []) p 0)
    inside_at p (before e) =
        let size = are.insides_size in
        subst (IsNodeOf rules new (beginning (inside p))) (sym (get_or_append_left insides (i ∷ []) 0 p (omega (arith, e, size)))) (stays (beginning (inside p)) (get_or insides p 0) (are.inside_each p e))
    inside_at p (last e) =
        subst (IsNodeOf rules new (beginning (inside p))) (sym (get_or_push insides i 0 p (are.insides_size ∙ sym e)))
        (subst (λ (q : ℕ). IsNodeOf rules new (beginning (inside q)) i) (sym e) one_inside)

level_within : (game : AbstractGame) → IsNumbered game.rules → (p : ℕ) (x : Expression) → IsLevel game.rules (inside p) x → p ≤ length (positions_of game.rules)
level_within game numbered p x (inl h) = (action_within game.rules numbered p (positive x) h).1
level_within game numbered p x (inr h) = (action_within game.rules numbered p (negative x) h).1

-- The node of an origin is that of its point in the rules.
pub node_there : (game : AbstractGame) → IsNumbered game.rules → (lists : Lists) → AreListsOf game.rules lists → (origin : Origin) → IsStart game.rules (start_of origin) → IsNodeOf game.rules lists.interner (start_of origin) (origin_node lists origin)
node_there game numbered lists are (Begin Rules) start = are.nodes.begins
node_there game numbered lists are (Begin (Inside p)) (x, level) = let small = level_within game numbered p x level in are.nodes.inside_each p (omega (arith, small))
node_there game numbered lists are (After p) (a, stands) = let small = (action_within game.rules numbered p a stands).1 in are.nodes.after_each p (omega (arith, small))

-- The branch of a position in the list of a node.
module _ (rules : Expression) (lists : Lists) (are : AreBranches rules lists.afters.items lists.interner.positions.items lists.branches.items) (n k : ℕ) (there : n < length lists.interner.nodes.items) (below : k < length (branches_at lists n)) where
  node : IsNodeWithin (length lists.interner.positions.items) (node_in lists.interner n)
  node = lists.interner.within n no_node there

  short : (node_in lists.interner n).start + k < (node_in lists.interner n).end
  short = part_short lists.branches.items (node_in lists.interner n).start (node_in lists.interner n).end k (let size = are.size in let ends = node.ends in omega (arith, size, ends)) below

  pub branch_listed : k < length (list_at lists.interner n)
  branch_listed = part_long lists.interner.positions.items (node_in lists.interner n).start (node_in lists.interner n).end k node.ends short

  pub branch_at : (d : Branch) → IsBranch rules lists.afters.items (get_or (list_at lists.interner n) k 0) (get_or (branches_at lists n) k d)
  branch_at d =
      let i : ℕ = (node_in lists.interner n).start + k in
      let inside : i < length lists.interner.positions.items = let ends = node.ends in let before_end = short in omega (arith, ends, before_end) in
      subst (λ (p : ℕ). IsBranch rules lists.afters.items p (get_or (branches_at lists n) k d)) (sym (part_item lists.interner.positions.items (node_in lists.interner n).start (node_in lists.interner n).end k 0 short))
      (subst (IsBranch rules lists.afters.items (get_or lists.interner.positions.items i 0)) (any_default lists.branches.items i no_branch d (let size = are.size in omega (arith, size, inside)) ∙ sym (part_item lists.branches.items (node_in lists.interner n).start (node_in lists.interner n).end k d short))
      (are.each i inside))

-- .. for each position there is one.
pub branch_there : (rules : Expression) (lists : Lists) → AreBranches rules lists.afters.items lists.interner.positions.items lists.branches.items → (n k : ℕ) → n < length lists.interner.nodes.items → k < length (list_at lists.interner n) → k < length (branches_at lists n)
branch_there rules lists are n k there below =
    let ends = (lists.interner.within n no_node there).ends in
    let size = are.size in
    part_long lists.branches.items (node_in lists.interner n).start (node_in lists.interner n).end k (omega (arith, ends, size)) (part_short lists.interner.positions.items (node_in lists.interner n).start (node_in lists.interner n).end k ends below)
