-- The rests are the same if their keys are.
use Rattle.rbg_base.proofs.Common.{rules, ◌≡◌, Decides, sym, ap, subst, ◌∙◌, map, Option, Some, IfSome, Vec, Global, slice_eq-Decides}
use Rattle.rbg_rules.specs.Meaning.{rules_of}
use Rattle.rbg_position.specs.contracts.key_mark.KeyMarkPartialEq.TheImpl as equality
use Rattle.rbg_position.specs.declared.key_mark.KeyMark.{KeyMark}
use Rattle.rbg_position.specs.declared.key_mark.KeyMark.TheVariants.{Number}
use Rattle.rbg_position.specs.Renumbering.{number_in}
use Rattle.rbg_position.specs.internal.Marks.{renumbered_mark}
use Rattle.rbg_position.proofs.RestKeys.{same_rests}
use Rattle.rbg_position.proofs.same_rest.same_rest.Goals as goal

decides : (a b : KeyMark) → Decides (equality.ghosts.eq a b) (a ≡ b)
decides (Number n) b = search rules
decides _ b = search rules

found : (o : Option (Vec KeyMark Global)) (key : Vec KeyMark Global) (P : Vec KeyMark Global → Type 0) → o ≡ Some key → IfSome o P → P key
found o key P some = subst (λ x. IfSome x P) some

pub returns : goal.returns
returns c = λ h.
    same_rests (rules_of c.args.new.rules.now) (rules_of c.args.old.rules.now) c.args.new.position c.args.old.position (number_in c.args.numbers.now) _ _ _
    (found _ c.in-Some.new_key _ c.in-Some.is c.in_ok-new_key.ensures) (found _ c.in-Some-2.old_key _ c.in-Some-2.is c.in_ok-old_key.ensures)
    (c.in_ok-new_key-2.ensures ∙ ap (map (renumbered_mark (number_in c.args.numbers.now))) c.deref.ensures.value)
    (sym c.as_slice.ensures.value ∙ (slice_eq-Decides decides _ _ _ c.eq.ensures).0 h ∙ c.as_slice-2.ensures.value)
