use Rattle.rbg_auto.proofs.lent_steps.LentSteps.next.Goals as goal

pub returns : goal.returns
returns c = λ rules is. is.next c.args.position
