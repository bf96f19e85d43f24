use Rattle.rbg_search.proofs.search.Search.take_dead.Goals as goal

pub returns-then-is_power_of_two-clause-finds : goal.returns-then-is_power_of_two-clause-finds
returns-then-is_power_of_two-clause-finds g c = λ first s f is. is

pub returns-then-is_power_of_two-clause-next : goal.returns-then-is_power_of_two-clause-next
returns-then-is_power_of_two-clause-next g c = λ _. c.requires.next
