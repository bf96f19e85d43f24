-- Laying the parts of an expression lays the whole.
use Rattle.std.proofs.Common.{◌≡◌, ℕ, List, [], refl, ap, ◌∙◌, inl, inr, Bool, true}
use Rattle.rbg_rules.specs.Meaning.{AbstractAction, shift, on, off, assignment, comparison, switch, positive, negative, Expression, act, skip, sequence, fail, choice, star, positions_of, positions_inside}
use Rattle.rbg_rules.proofs.PositionLemmas.{Among, Among_left, Among_right}
use Rattle.rbg_auto.specs.internal.Orders.{Ascends, Joins}
use Rattle.rbg_auto.specs.internal.Firsts.{firsts}
use Rattle.rbg_auto.specs.internal.Laying.{Laid, ComesBefore, IsLaid, IsLaidInside, IsLawful, Lays}
use Rattle.rbg_auto.proofs.OrderLemmas.{Ascends_left, Ascends_right, Ascends_apart}

-- What is laid stays laid if its positions keep what they have.
mutual
  pub laid_on : (f g : ℕ → Laid) (x : Expression) (k : List ℕ) (end : Bool) → ((q : ℕ) → Among q (positions_of x) → g q ≡ f q) → IsLaid f x k end → IsLaid g x k end
  laid_on f g (act p a) k end same (is_next, is_end, within) =
      let here = same p (inl refl) in
      (ap (λ (l : Laid). l.next) here ∙ is_next, ap (λ (l : Laid). l.may_end) here ∙ is_end, inside_on f g p a here (λ q h. same q (inr h)) within)
  laid_on f g skip k end same laid = tt
  laid_on f g (sequence x y) k end same (m, may_end, before, in_x, in_y) = (
    m,
    may_end,
    before,
    laid_on f g x m may_end (λ q h. same q (Among_left q (positions_of x) (positions_of y) h)) in_x,
    laid_on f g y k end (λ q h. same q (Among_right q (positions_of x) (positions_of y) h)) in_y,
  )
  laid_on f g fail k end same laid = tt
  laid_on f g (choice x y) k end same (in_x, in_y) = (
    laid_on f g x k end (λ q h. same q (Among_left q (positions_of x) (positions_of y) h)) in_x,
    laid_on f g y k end (λ q h. same q (Among_right q (positions_of x) (positions_of y) h)) in_y,
  )
  laid_on f g (star x) k end same (m, joins, in_x) = (m, joins, laid_on f g x m end same in_x)

  inside_on : (f g : ℕ → Laid) (p : ℕ) (a : AbstractAction) → g p ≡ f p → ((q : ℕ) → Among q (positions_inside a) → g q ≡ f q) → IsLaidInside f p a → IsLaidInside g p a
  inside_on f g p (positive x) here same (is_first, is_empty, laid) = (ap (λ (l : Laid). l.first) here ∙ is_first, ap (λ (l : Laid). l.may_be_empty) here ∙ is_empty, laid_on f g x [] true same laid)
  inside_on f g p (negative x) here same (is_first, is_empty, laid) = (ap (λ (l : Laid). l.first) here ∙ is_first, ap (λ (l : Laid). l.may_be_empty) here ∙ is_empty, laid_on f g x [] true same laid)
  inside_on f g p (shift d) here same (is_first, is_empty) = (ap (λ (l : Laid). l.first) here ∙ is_first, ap (λ (l : Laid). l.may_be_empty) here ∙ is_empty)
  inside_on f g p (on xs) here same (is_first, is_empty) = (ap (λ (l : Laid). l.first) here ∙ is_first, ap (λ (l : Laid). l.may_be_empty) here ∙ is_empty)
  inside_on f g p (off x) here same (is_first, is_empty) = (ap (λ (l : Laid). l.first) here ∙ is_first, ap (λ (l : Laid). l.may_be_empty) here ∙ is_empty)
  inside_on f g p (assignment v e) here same (is_first, is_empty) = (ap (λ (l : Laid). l.first) here ∙ is_first, ap (λ (l : Laid). l.may_be_empty) here ∙ is_empty)
  inside_on f g p (comparison e r h) here same (is_first, is_empty) = (ap (λ (l : Laid). l.first) here ∙ is_first, ap (λ (l : Laid). l.may_be_empty) here ∙ is_empty)
  inside_on f g p (switch n) here same (is_first, is_empty) = (ap (λ (l : Laid). l.first) here ∙ is_first, ap (λ (l : Laid). l.may_be_empty) here ∙ is_empty)

-- Parts of lawful expressions are lawful.
pub lawful_first : (size : ℕ) (x y : Expression) → IsLawful size (sequence x y) → IsLawful size x
lawful_first size x y lawful = record {
  no_empty_sum = lawful.no_empty_sum.0;
  order = Ascends_left (positions_of x) (positions_of y) lawful.order;
  below = λ q h. lawful.below q (Among_left q (positions_of x) (positions_of y) h);
}

pub lawful_second : (size : ℕ) (x y : Expression) → IsLawful size (sequence x y) → IsLawful size y
lawful_second size x y lawful = record {
  no_empty_sum = lawful.no_empty_sum.1;
  order = Ascends_right (positions_of x) (positions_of y) lawful.order;
  below = λ q h. lawful.below q (Among_right q (positions_of x) (positions_of y) h);
}

-- What is still to be laid of a whole: once the part is laid, the whole is.
pub record Owes (old now : ℕ → Laid) (whole part : Expression) (k : List ℕ) (end : Bool) (m : List ℕ) (may_end : Bool) : Type 0 where
  pub others : (q : ℕ) → ¬ Among q (positions_of whole) → now q ≡ old q
  pub within : (q : ℕ) → Among q (positions_of part) → Among q (positions_of whole)
  pub pays : (f : ℕ → Laid) → ((q : ℕ) → ¬ Among q (positions_of part) → f q ≡ now q) → IsLaid f part m may_end → IsLaid f whole k end

pub owes_all : (at : ℕ → Laid) (x : Expression) (k : List ℕ) (end : Bool) → Owes at at x x k end k end
owes_all at x k end = record { others = λ q h. refl; within = λ q h. h; pays = λ f same laid. laid }

-- Laying the last part of a sequence leaves the parts before it.
pub owes_fewer : (old now new : ℕ → Laid) (whole x y : Expression) (k : List ℕ) (end : Bool) (m : List ℕ) (may_end : Bool) (m' : List ℕ) (may_end' : Bool) → Ascends (positions_of (sequence x y)) → Owes old now whole (sequence x y) k end m may_end → Lays now new y m may_end → ComesBefore y m may_end m' may_end' → Owes old new whole x k end m' may_end'
owes_fewer old now new whole x y k end m may_end m' may_end' order owes lays before = record {
  others = λ q h. lays.others q (λ in_y. h (owes.within q (Among_right q (positions_of x) (positions_of y) in_y))) ∙ owes.others q h;
  within = λ q h. owes.within q (Among_left q (positions_of x) (positions_of y) h);
  pays = pays;
}
  where
    apart : (q : ℕ) → Among q (positions_of y) → ¬ Among q (positions_of x)
    apart q in_y in_x = Ascends_apart (positions_of x) (positions_of y) order q in_x in_y

    pays : (f : ℕ → Laid) → ((q : ℕ) → ¬ Among q (positions_of x) → f q ≡ new q) → IsLaid f x m' may_end' → IsLaid f whole k end
    pays f same laid =
        owes.pays f
        (λ q h. same q (λ in_x. h (Among_left q (positions_of x) (positions_of y) in_x)) ∙ lays.others q (λ in_y. h (Among_right q (positions_of x) (positions_of y) in_y)))
        (m', may_end', before, laid, laid_on new f y m may_end (λ q in_y. same q (apart q in_y)) lays.laid)

-- With nothing left the whole is laid.
pub owes_none : (old now : ℕ → Laid) (whole : Expression) (k : List ℕ) (end : Bool) (m : List ℕ) (may_end : Bool) → Owes old now whole skip k end m may_end → Lays old now whole k end
owes_none old now whole k end m may_end owes = record { laid = owes.pays now (λ q h. refl) tt; others = owes.others }

-- Laying one more part of a sum.
pub lays_choice : (old now new : ℕ → Laid) (x y : Expression) (k : List ℕ) (end : Bool) → Ascends (positions_of (choice x y)) → Lays old now x k end → Lays now new y k end → Lays old new (choice x y) k end
lays_choice old now new x y k end order one other = record {
  laid = (laid_on now new x k end (λ q in_x. other.others q (Ascends_apart (positions_of x) (positions_of y) order q in_x)) one.laid, other.laid);
  others = λ q h. other.others q (λ in_y. h (Among_right q (positions_of x) (positions_of y) in_y)) ∙ one.others q (λ in_x. h (Among_left q (positions_of x) (positions_of y) in_x));
}

pub lays_fail : (at : ℕ → Laid) (k : List ℕ) (end : Bool) → Lays at at fail k end
lays_fail at k end = record { laid = tt; others = λ q h. refl }

pub lays_star : (old new : ℕ → Laid) (x : Expression) (k m : List ℕ) (end : Bool) → Joins (firsts x) k m → Lays old new x m end → Lays old new (star x) k end
lays_star old new x k m end joins lays = record { laid = (m, joins, lays.laid); others = lays.others }
