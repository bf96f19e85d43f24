-- The marks after those of the parts.
use Rattle.rbg_base.proofs.Common.{◌≡◌, ℕ, List, [], ◌∷◌, ◌++◌, sym, ap, ◌∙◌, append_assoc, arith, on_ok_weaker, Box, Global}
use Rattle.rbg_rules.specs.Meaning.{Expression, expression_of, pattern_of, action_at}
use Rattle.rbg_rules.specs.declared.rule.Action.{Action}
use Rattle.rbg_rules.specs.declared.rule.Rule.{Rule}
use Rattle.rbg_rules.specs.declared.rule.Rule.TheVariants.{Pattern, Star as StarNode}
use Rattle.rbg_rules.proofs.Bridge.{expression_of-Pattern, expression_of-Star}
use Rattle.rbg_position.specs.declared.key_mark.KeyMark.{KeyMark}
use Rattle.rbg_position.specs.declared.key_mark.KeyMark.TheVariants.{Act, Star}
use Rattle.rbg_position.specs.internal.Marks.{rules_key}
use Rattle.rbg_position.proofs.Items.{fold_map_more}
use Rattle.rbg_position.proofs.Parts.{part_more}
use Rattle.rbg_position.proofs.rule_keys.+rules.Goals as goal

star_key : (actions : List Action) (r : Rule) (part : Box Rule Global) (old middle new : List KeyMark) → r ≡ StarNode part →
    (b : Rule) → b ≡ part.value → middle ≡ old ++ rules_key (expression_of actions b) → new ≡ middle ++ (Star ∷ []) → new ≡ old ++ rules_key (expression_of actions r)
star_key actions r part old middle new is b same first second =
    second
    ∙ (ap (λ xs. xs ++ (Star ∷ [])) first
    ∙ (append_assoc old (rules_key (expression_of actions b)) ((Star ∷ []))
    ∙ (ap (λ (x : Rule). old ++ (rules_key (expression_of actions x) ++ (Star ∷ []))) same
    ∙ (ap (λ e. old ++ rules_key e) (sym (expression_of-Star actions part))
    ∙ ap (λ (x : Rule). old ++ rules_key (expression_of actions x)) (sym is)))))

pattern_key : (actions : List Action) (r : Rule) (p : ℕ) (inside : Box Rule Global) (mark : KeyMark) (old middle new : List KeyMark) → r ≡ Pattern p inside →
    ((x : Expression) → rules_key (pattern_of p (action_at actions p) x) ≡ rules_key x ++ (mark ∷ []) ++ (Act p ∷ [])) →
    (b : Rule) → b ≡ inside.value → middle ≡ old ++ rules_key (expression_of actions b) → new ≡ middle ++ (mark ∷ []) ++ (Act p ∷ []) → new ≡ old ++ rules_key (expression_of actions r)
pattern_key actions r p inside mark old middle new is key b same first second =
    let x = expression_of actions b in
    second
    ∙ (ap (λ xs. xs ++ (mark ∷ []) ++ (Act p ∷ [])) first
    ∙ (append_assoc (old ++ rules_key x) ((mark ∷ [])) ((Act p ∷ []))
    ∙ (append_assoc old (rules_key x) ((mark ∷ []) ++ (Act p ∷ []))
    ∙ (ap (λ xs. old ++ xs) (sym (append_assoc (rules_key x) ((mark ∷ [])) ((Act p ∷ []))))
    ∙ (ap (λ xs. old ++ xs) (sym (key x))
    ∙ (ap (λ (y : Rule). old ++ rules_key (pattern_of p (action_at actions p) (expression_of actions y))) same
    ∙ (ap (λ e. old ++ rules_key e) (sym (expression_of-Pattern actions p inside))
    ∙ ap (λ (y : Rule). old ++ rules_key (expression_of actions y)) (sym is))))))))

pub put_rule-returns-in_ok-put_rule-in-Star : goal.put_rule-returns-in_ok-put_rule-in-Star
put_rule-returns-in_ok-put_rule-in-Star t c =
    on_ok_weaker _ (star_key _ _ c.in-Star.part _ _ _ c.in-Star.is _ c.deref-in-Star.ensures c.in_ok-put_rule-in-Star.ensures) c.put-in-Star.ensures

pub put_rule-returns-in_ok-put_rule-in-Some : goal.put_rule-returns-in_ok-put_rule-in-Some
put_rule-returns-in_ok-put_rule-in-Some t c =
    on_ok_weaker _ (pattern_key _ _ _ c.in-Pattern.inside c.in-Some.mark _ _ _ c.in-Pattern.is c.in-Some.ensures.found _ c.deref.ensures c.in_ok-put_rule-in-Some.ensures) c.put_pattern.ensures

pub put_parts-loop-part-preserved : goal.put_parts-loop-part-preserved
put_parts-loop-part-preserved t c = λ before first join marks is.
    part_more _ join marks before _ _ _ _ _ (c.loop-part.invariant before first join marks is) c.in_ok-put_rule.ensures c.in_ok-put.ensures
    ∙ ap (λ x. before ++ rules_key x) (sym (fold_map_more join (expression_of c.args.actions.now) first c.args.parts.now c.loop-part.part-index _ (omega arith) c.part-item.is))
