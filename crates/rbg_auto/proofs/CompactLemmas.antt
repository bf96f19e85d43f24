-- The table of a game's rules has their steps.
use Rattle.rbg_base.proofs.Common.{◌≡◌, ℕ, zero, suc, ◌+◌, ◌<◌, ◌⊎◌, List, [], length, get_or, refl, sym, ap, ◌∙◌, subst, inl, inr, Bool, arith, replicate, range_with_len}
use Rattle.rbg_rules.specs.declared.rule.Action.{Action}
use Rattle.rbg_rules.specs.declared.rule.Rule.{Rule}
use Rattle.rbg_rules.specs.Meaning.{Expression, positions_of, IsNumbered, HasNoEmptySum, expression_of}
use Rattle.rbg_rules.proofs.PositionLemmas.{Among}
use Rattle.rbg_auto.specs.declared.span.Node.{Node}
use Rattle.rbg_auto.specs.declared.span.Opening.{Opening}
use Rattle.rbg_auto.specs.declared.arrays.Compact.{Compact}
use Rattle.rbg_auto.specs.declared.table.Table.{Table}
use Rattle.rbg_auto.specs.declared.steps.Glance.{Glance}
use Rattle.rbg_auto.specs.declared.steps.Glance.TheVariants.{Unknown}
use Rattle.rbg_auto.specs.Steps.{AreStepsOf, IsGlance}
use Rattle.rbg_auto.specs.internal.Laying.{Laid, nothing, IsLawful, first_at, empty_at, IsWhole}
use Rattle.rbg_auto.specs.internal.Tables.{listed, laid_of, glance_at, no_node, no_inside}
use Rattle.rbg_auto.specs.internal.Compacts.{IsCompactOf, MayBeLent}
use Rattle.rbg_auto.specs.internal.Building.{laid_in, glance_in, LaysLevel, SetsGlance}
use Rattle.rbg_auto.proofs.WholeLemmas.{numbered_ascends, whole_steps}

get_or-replicate : {X : Type 0} (x : X) (n q : ℕ) → get_or (replicate n x) q x ≡ x
get_or-replicate x zero q = refl
get_or-replicate x (suc n) zero = refl
get_or-replicate x (suc n) (suc q) = get_or-replicate x n q

length-replicate : (n : ℕ) → length (replicate n no_node) ≡ n
length-replicate zero = refl
length-replicate (suc n) = ap suc (length-replicate n)

-- Nothing is laid in the table, which has that many nodes.
pub record IsBlank (t : Table) (n : ℕ) : Type 0 where
  pub nodes : t.nodes.items ≡ replicate n no_node
  pub insides : t.insides.items ≡ replicate n no_inside
  pub entries : t.entries.items ≡ []

blank_at : (t : Table) (n q : ℕ) → IsBlank t n → laid_in t q ≡ nothing
blank_at t n q blank =
    let node : get_or t.nodes.items q no_node ≡ no_node = ap (λ (ns : List Node). get_or ns q no_node) blank.nodes ∙ get_or-replicate no_node n q in
    let inside : get_or t.insides.items q no_inside ≡ no_inside = ap (λ (os : List Opening). get_or os q no_inside) blank.insides ∙ get_or-replicate no_inside n q in
    ap (λ (m : Node). laid_of t.entries.items m (get_or t.insides.items q no_inside)) node ∙ ap (laid_of t.entries.items no_node) inside ∙ ap (λ (es : List ℕ). laid_of es no_node no_inside) blank.entries

range_below : (first many q : ℕ) → Among q (range_with_len first many) → q < first + many
range_below first zero q h = absurd h
range_below first (suc many) q (inl e) = omega (arith, e)
range_below first (suc many) q (inr h) = let later : q < first + 1 + many = range_below (first + 1) many q h in omega (arith, later)

pub numbered_below : (x : Expression) → IsNumbered x → (q : ℕ) → Among q (positions_of x) → q < length (positions_of x) + 1
numbered_below x numbered q h = let below : q < 1 + length (positions_of x) = range_below 1 (length (positions_of x)) q (subst (Among q) numbered.in_order h) in omega (arith, below)

pub compact_steps : (actions : List Action) (tree : Rule) (positions : ℕ) → IsNumbered (expression_of actions tree) → HasNoEmptySum (expression_of actions tree) → positions ≡ length (positions_of (expression_of actions tree)) → (old new : Table) (opening : Opening) → IsBlank old (positions + 1) → LaysLevel old new tree opening → AreStepsOf (expression_of actions tree) (first_at (listed new.entries.items opening.first) (laid_in new)) (λ i. (laid_in new i).next) (λ i. (laid_in new i).may_end) (empty_at opening.may_be_empty (laid_in new))
compact_steps actions tree positions numbered none count old new opening blank lays =
    let x = expression_of actions tree in
    let size : length old.nodes.items ≡ positions + 1 = ap (λ (ns : List Node). length ns) blank.nodes ∙ length-replicate (positions + 1) in
    let lawful : IsLawful (length old.nodes.items) x = record {
      no_empty_sum = none;
      order = numbered_ascends x numbered;
      below = λ q h. let below : q < length (positions_of x) + 1 = numbered_below x numbered q h in omega (arith, below, size, count);
    } in
    let laid = lays.lays actions lawful in
    let whole : IsWhole x (listed new.entries.items opening.first) opening.may_be_empty (laid_in new) = record {
      begins = (lays.first actions none).list;
      empty = lays.empty actions none;
      laid = laid.laid;
      others = λ q h. laid.others q h ∙ blank_at old (positions + 1) q blank;
    } in
    whole_steps x numbered none (listed new.entries.items opening.first) opening.may_be_empty (laid_in new) whole

-- There is a node for each position.
pub has_each : (tree : Rule) (positions count : ℕ) → positions ≡ count → (old new : Table) (opening : Opening) → IsBlank old (positions + 1) → LaysLevel old new tree opening → count < length new.nodes.items
has_each tree positions count same old new opening blank lays =
    let size : length new.nodes.items ≡ positions + 1 = lays.extends.size ∙ ap (λ (ns : List Node). length ns) blank.nodes ∙ length-replicate (positions + 1) in
    omega (arith, size, same)

-- The walk records no glance of any action.
pub unknown : (rules : Expression) (tree : Rule) (old new : Table) (opening : Opening) (n : ℕ) → IsBlank old n → LaysLevel old new tree opening → (p : ℕ) → IsGlance rules p (glance_in new p)
unknown rules tree old new opening n blank lays p =
    let none : glance_in old p ≡ Unknown = ap (λ (ns : List Node). glance_at ns p) blank.nodes ∙ ap (λ (node : Node). node.glance) (get_or-replicate no_node n p) in
    subst (IsGlance rules p) (sym (lays.extends.unknown p none)) tt

-- The lists and what is laid are the steps of the rules.
abbrev StepsBy : Expression → List ℕ → Bool → (ℕ → Laid) → Type 0
StepsBy rules first may at = AreStepsOf rules (first_at first at) (λ i. (at i).next) (λ i. (at i).may_end) (empty_at may at)

-- Recording a right glance keeps the steps right.
pub tells_right : (old new : Compact) (rules : Expression) (p : ℕ) (glance : Glance) → new.rules ≡ old.rules → new.prepared ≡ old.prepared → SetsGlance old.table new.table p glance → IsGlance rules p glance → IsCompactOf old rules → IsCompactOf new rules
tells_right old new rules p glance opening prepared tells right is = record {
  steps =
      subst (λ (o : Opening). StepsBy rules (listed new.table.entries.items o.first) o.may_be_empty (laid_in new.table)) (sym opening)
      (subst (λ (entries : List ℕ). StepsBy rules (listed entries old.rules.first) old.rules.may_be_empty (laid_in new.table)) (sym tells.entries)
      (subst (StepsBy rules (listed old.table.entries.items old.rules.first) old.rules.may_be_empty) (sym same) is.steps));
  told = λ q. told q (tells.told q);
  has = subst (λ (n : ℕ). length (positions_of rules) < n) (sym tells.size) is.has;
  lends = λ steps some. subst (λ (entries : List ℕ). MayBeLent rules steps.items entries) (sym tells.entries) (is.lends steps (sym prepared ∙ some));
}
  where
    same : laid_in new.table ≡ laid_in old.table
    same = λ i q. tells.laid q i

    told : (q : ℕ) → (glance_in new.table q ≡ glance_in old.table q) ⊎ ((q ≡ p) × (glance_in new.table q ≡ glance)) → IsGlance rules q (glance_in new.table q)
    told q (inl e) = subst (IsGlance rules q) (sym e) (is.told q)
    told q (inr (here, e)) = subst (IsGlance rules q) (sym e) (subst (λ (n : ℕ). IsGlance rules n glance) (sym here) right)
